use Rattle.std.proofs.Common.{◌≡◌, ℕ, true, false, [], append-nil, Ok, inl, refl, sym, ap, subst}
use Rattle.std.specs.Prelude.{slice_index_or}
use Rattle.semantics.specs.ThreadStep.{waits}
use Rattle.semantics.specs.World.{loaded_objects}
use Rattle.machine_threads.specs.ThreadAgrees.{ThreadAgrees}
use Rattle.machine_steps.specs.Advances.{AdvancesAlways}
use Rattle.machine.proofs.Advancing.{can_there, found, is_ready, is_steady, lives_there, lacks_room, lacks_there, numbered, own, rest, shared_there, there}
use Rattle.std.proofs.Common.{length}
use Rattle.machine.proofs.step.advance_or_collect.Goals as goal

pub advance-requires-clause-agrees : goal.advance-requires-clause-agrees
advance-requires-clause-agrees c =
    let s = c.requires.stands in
    let d = c.index-threads-index.result in
    let f = found c.args.context.program.now c.args.context.world.now c.args.store.now c.args.threads.now c.args.context.index s d in (
      rest c.args.context.program.now c.args.context.world.now c.args.store.now c.args.threads.now c.args.context.index s d,
      own c.args.context.program.now c.args.context.world.now c.args.store.now c.args.threads.now c.args.context.index s d,
      s.stands.state.shared,
      f.source,
      shared_there c.args.context.program.now c.args.context.world.now c.args.store.now c.args.threads.now c.args.context.index s d,
      subst (λ (n : ℕ). ThreadAgrees c.args.context.program.now c.args.context.world.now.classes c.args.store.now.heap c.args.store.now.elements (length (loaded_objects c.args.context.world.now)) n
          (own c.args.context.program.now c.args.context.world.now c.args.store.now c.args.threads.now c.args.context.index s d) s.stands.state.shared (slice_index_or c.args.threads.now c.args.context.index d) f.source)
          (numbered c.args.context.thread c.args.context.index c.requires.number) f.agrees,
      lives_there c.args.context.program.now c.args.context.world.now c.args.store.now c.args.threads.now c.args.context.index s d,
      is_steady c.args.context.program.now c.args.context.world.now c.args.store.now c.args.threads.now c.args.context.index s d,
      subst (λ (n : ℕ). waits c.args.context.world.now.classes n s.stands.state.shared f.source ≡ false) (numbered c.args.context.thread c.args.context.index c.requires.number)
          (is_ready c.args.context.program.now c.args.context.world.now c.args.store.now c.args.threads.now c.args.context.index s d),
    )

pub collect_and_advance-requires-clause-stands : goal.collect_and_advance-requires-clause-stands
collect_and_advance-requires-clause-stands c =
    can_there c.args.context.program.now c.args.context.world.now c.args.store.now c.args.threads.now c.args.context.index c.requires.stands c.index-threads-index.result c.advance.new.store c.advance.new.thread c.in-Err-NoRoom.ensures.store c.in-Err-NoRoom.ensures.thread

pub collect_and_advance-requires-clause-lacks : goal.collect_and_advance-requires-clause-lacks
collect_and_advance-requires-clause-lacks c = λ t at.
    lacks_there c.args.context.program.now c.args.context.world.now c.args.store.now c.args.threads.now c.args.context.index c.requires.stands c.index-threads-index.result c.args.context.thread c.advance.new.store c.advance.new.thread t c.in-Err-NoRoom.ensures.store c.in-Err-NoRoom.ensures.thread at
    (λ others own shared s store agrees steady ready. lacks_room _ _ c.in-Err-NoRoom.field-0 c.in-Err-NoRoom.field-0-is (c.in-Err-NoRoom.ensures.hindered others own shared s store agrees steady ready))

pub returns-in-Ok-clause-advances : goal.returns-in-Ok-clause-advances
returns-in-Ok-clause-advances c = record {
  cleared = [];
  advances = record {
    between = c.args.store.now;
    among = c.args.threads.now;
    is = inl (record { same_store = refl; same_threads = refl; none = refl; did = λ e. let t : false ≡ true = c.in-Ok.ensures.refuses (ap Ok e) in cc });
    old = slice_index_or c.args.threads.now c.args.context.index c.index-threads-index.result;
    new = c.advance.new.thread;
    at = there c.args.context.program.now c.args.context.world.now c.args.store.now c.args.threads.now c.args.context.index c.requires.stands c.index-threads-index.result;
    advances = subst (λ (n : ℕ). AdvancesAlways c.args.context.program.now c.args.context.world.now n c.args.store.now c.advance.new.store (slice_index_or c.args.threads.now c.args.context.index c.index-threads-index.result) c.advance.new.thread c.in-Ok.advanced)
        (sym (numbered c.args.context.thread c.args.context.index c.requires.number)) c.in-Ok.ensures.advances;
    follow = refl;
  };
  entries = sym (append-nil c.args.journal.now.entries);
  room = c.requires.room;
}
