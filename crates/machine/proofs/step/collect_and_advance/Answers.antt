use Rattle.std.proofs.Common.{◌≡◌, ◌<◌, ℕ, suc, false, ◌++◌, List, length, inr, refl, sym, ap, ◌∙◌, subst, arith}
use Rattle.std.specs.Prelude.{slice_index_or}
use Rattle.std.proofs.lemmas.List.{length-map}
use Rattle.std.proofs.lemmas.Option.{slice_get_within}
use Rattle.semantics.specs.Journal.{Entry}
use Rattle.semantics.specs.Object.{sizes}
use Rattle.semantics.specs.Run.{made}
use Rattle.semantics.specs.ThreadStep.{waits}
use Rattle.semantics.specs.Views.{names_of}
use Rattle.semantics.specs.World.{loaded_objects}
use Rattle.syntax.specs.Views.{unit_tree}
use Rattle.machine_threads.specs.ThreadAgrees.{ThreadAgrees}
use Rattle.machine_collections.specs.Clearing.{clearing_of}
use Rattle.machine_collections.specs.Moving.{moved_thread}
use Rattle.machine_steps.specs.Advances.{AdvancesAlways}
use Rattle.machine.specs.Run.{CanAdvance, LacksRoom}
use Rattle.machine.proofs.Moved.{are_referred}
use Rattle.machine.proofs.Advancing.{can_still, found, is_ready, is_steady, lives_there, makes_still, numbered, own, rest, shared_there, there, unhindered}
use Rattle.machine.proofs.step.collect_and_advance.Goals as goal
use Rattle.machine.proofs.step.collect_and_advance.Goals.{After-push_clearing}

pub collect_blocks-requires : goal.collect_blocks-requires
collect_blocks-requires c = are_referred _ _ _ _ _ _ _ c.requires.stands.stands

pub offset_bounds-threads-index : goal.offset_bounds-threads-index
offset_bounds-threads-index c = omega (arith, slice_get_within c.args.threads.now c.args.index c.requires.stands.thread c.requires.stands.at)

pub bounds-threads-index : goal.bounds-threads-index
bounds-threads-index c =
    let h = c.in_ok-cleared.ensures.ok in
    let long : length c.collect_blocks.new.threads ≡ length c.args.threads.now = ap length h.follow ∙ length-map c.args.threads.now (moved_thread h.to) in
    omega (arith, slice_get_within c.args.threads.now c.args.index c.requires.stands.thread c.requires.stands.at, long)

-- the thread can take its step yet
still : (c : After-push_clearing) → CanAdvance c.args.program.now c.args.world.now c.collect_blocks.new.store c.collect_blocks.new.threads c.args.index
still c =
    can_still c.args.program.now c.args.world.now c.args.store.now c.args.threads.now c.args.index c.requires.stands c.requires.stands.thread
    (λ t at. subst (λ (n : ℕ). LacksRoom c.args.program.now c.args.world.now n c.args.store.now t) (sym (numbered c.args.k c.args.index c.requires.number)) (c.requires.lacks t at))
    c.collect_blocks.new.store c.collect_blocks.new.threads (names_of c.in_ok-cleared.cleared.items) c.in_ok-cleared.ensures.ok c.in_ok-cleared.ensures.cleared c.in_ok-cleared.ensures.none

-- and makes objects by it
makes_after : (c : After-push_clearing) → 0 < sizes (made (unit_tree c.args.program.now.unit) c.args.world.now (still c).stands.state (suc c.args.index))
unfolding still can_still
makes_after c =
    makes_still c.args.program.now c.args.world.now c.args.store.now c.args.threads.now c.args.index c.requires.stands c.requires.stands.thread
    (λ t at. subst (λ (n : ℕ). LacksRoom c.args.program.now c.args.world.now n c.args.store.now t) (sym (numbered c.args.k c.args.index c.requires.number)) (c.requires.lacks t at))
    c.collect_blocks.new.store c.collect_blocks.new.threads (names_of c.in_ok-cleared.cleared.items) c.in_ok-cleared.ensures.ok c.in_ok-cleared.ensures.cleared c.in_ok-cleared.ensures.none

pub advance-requires-clause-agrees : goal.advance-requires-clause-agrees
advance-requires-clause-agrees c =
    let s = still (goal.at.advance-requires-clause-agrees c).After-push_clearing in
    let p = c.args.program.now in
    let w = c.args.world.now in
    let store = c.collect_blocks.new.store in
    let threads = c.collect_blocks.new.threads in
    let d = c.index-threads-index.result in
    let f = found p w store threads c.args.index s d in (
      rest p w store threads c.args.index s d,
      own p w store threads c.args.index s d,
      s.stands.state.shared,
      f.source,
      shared_there p w store threads c.args.index s d,
      subst (λ (n : ℕ). ThreadAgrees p w.classes store.heap store.elements (length (loaded_objects w)) n (own p w store threads c.args.index s d) s.stands.state.shared (slice_index_or threads c.args.index d) f.source)
          (numbered c.args.k c.args.index c.requires.number) f.agrees,
      lives_there p w store threads c.args.index s d,
      is_steady p w store threads c.args.index s d,
      subst (λ (n : ℕ). waits w.classes n s.stands.state.shared f.source ≡ false) (numbered c.args.k c.args.index c.requires.number) (is_ready p w store threads c.args.index s d),
    )

pub unreachable-requires : goal.unreachable-requires
unreachable-requires c =
    let a = (goal.at.unreachable-requires c).After-push_clearing in
    let s = still a in
    let p = c.args.program.now in
    let w = c.args.world.now in
    let store = c.collect_blocks.new.store in
    let threads = c.collect_blocks.new.threads in
    let d = c.index-threads-index.result in
    let f = found p w store threads c.args.index s d in
    let number = numbered c.args.k c.args.index c.requires.number in
    let hindered = c.in-Err.ensures.hindered (rest p w store threads c.args.index s d) (own p w store threads c.args.index s d) s.stands.state.shared f.source
    (shared_there p w store threads c.args.index s d)
    (subst (λ (n : ℕ). ThreadAgrees p w.classes store.heap store.elements (length (loaded_objects w)) n (own p w store threads c.args.index s d) s.stands.state.shared (slice_index_or threads c.args.index d) f.source) number f.agrees)
    (is_steady p w store threads c.args.index s d)
    (subst (λ (n : ℕ). waits w.classes n s.stands.state.shared f.source ≡ false) number (is_ready p w store threads c.args.index s d)) in
    unhindered p w store threads c.args.index s d c.args.k number _ c.in-Err.field-0 (makes_after a) hindered

pub returns-clause-advances : goal.returns-clause-advances
returns-clause-advances c =
    let s = still (goal.at.returns-clause-advances c).After-push_clearing in
    let before : c.reserve_clearing.new.self.entries ≡ c.args.journal.now.entries = c.reserve_clearing.ensures.same in
    record {
      cleared = names_of c.in_ok-cleared.cleared.items;
      advances = record {
        between = c.collect_blocks.new.store;
        among = c.collect_blocks.new.threads;
        is = inr (record {
          lacks = λ t at. subst (λ (n : ℕ). LacksRoom c.args.program.now c.args.world.now n c.args.store.now t) (sym (numbered c.args.k c.args.index c.requires.number)) (c.requires.lacks t at);
          collected = c.in_ok-cleared.ensures.ok;
          unmarked = c.in_ok-cleared.ensures.none;
          clears = c.in_ok-cleared.ensures.cleared;
        });
        old = slice_index_or c.collect_blocks.new.threads c.args.index c.index-threads-index.result;
        new = c.advance.new.thread;
        at = there c.args.program.now c.args.world.now c.collect_blocks.new.store c.collect_blocks.new.threads c.args.index s c.index-threads-index.result;
        advances = subst (λ (n : ℕ). AdvancesAlways c.args.program.now c.args.world.now n c.collect_blocks.new.store c.advance.new.store (slice_index_or c.collect_blocks.new.threads c.args.index c.index-threads-index.result) c.advance.new.thread c.in-Ok.advanced)
            (sym (numbered c.args.k c.args.index c.requires.number)) c.in-Ok.ensures.advances;
        follow = refl;
      };
      entries = c.push_clearing.ensures.entries ∙ ap (λ (j : List Entry). j ++ clearing_of (names_of c.in_ok-cleared.cleared.items)) before;
      room = omega (arith, c.in_ok-reserve_clearing.ensures.room, c.push_clearing.ensures.room);
    }
