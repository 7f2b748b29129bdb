-- Several words go along with a schedule.
use Rattle.std.proofs.Common.{◌≡◌, ℕ, zero, suc, ◌+◌, ◌-◌, ◌<◌, Bool, true, false, List, [], ◌∷◌, ◌++◌, length, take, drop, get_or, replicate, Option, Some, None, refl, sym, ap, ◌∙◌, ◌⊎◌, subst, arith, IsSome, append_assoc, append-nil, inl, inr}
use Rattle.std.specs.Prelude.{Contains, slice_get, is_none, not, ◌&&◌, flat_map}
use Rattle.std.specs.Option.{option_and_then}
use Rattle.std.proofs.lemmas.Bool.{and_left, and_right}
use Rattle.std.proofs.lemmas.List.{replicate-append-replicate, take-append-drop}
use Rattle.std.proofs.lemmas.Option.{slice_get_past, slice_get-get_or}
use Rattle.std.proofs.lemmas.List.Concat.{flat_map-cons}
use Rattle.std.proofs.lemmas.Grind.{flat_map-append}
use Rattle.base.proofs.Lists.{take_next}
use Rattle.world_schedules.specs.declared.schedule.Repetition.{Repetition}
use Rattle.world_schedules.specs.ReadingSchedules.{repeated_words}
use Rattle.syntax.specs.Tree.{SourceUnit}
use Rattle.syntax.specs.Views.{unit_tree}
use Rattle.syntax.specs.declared.unit.Item.{Item}
use Rattle.class_rules.specs.Class.{Classes}
use Rattle.semantics.specs.Journal.{Entry, Step}
use Rattle.semantics.specs.declared.schedule.ScheduleWord.{ScheduleWord}
use Rattle.semantics.specs.declared.schedule.ScheduleWord.TheVariants.{Turn, Collect, Slice}
use Rattle.semantics.specs.World.{World}
use Rattle.semantics.specs.Schedule.{Schedule}
use Rattle.semantics.specs.Run.{replay, replay_from, Follows, Over, Collects, Clears, Slices, SliceClears, Waits, Steps, ClearsAndSteps, ClearsLost, made}
use Rattle.semantics.specs.WeakReferences.{lost, with_cleared}
use Rattle.semantics.proofs.WeakLaws.{lost_are_cleared}
use Rattle.semantics.specs.Object.{sizes}
use Rattle.semantics.specs.Reachable.{live_size, Reachable}
use Rattle.semantics.specs.Start.{start}
use Rattle.semantics.specs.State.{State, Stop, thread_at, views}
use Rattle.heap.specs.Layout.{Extent, Layout}
use Rattle.machine_collections.specs.Packing.{IsPacked}
use Rattle.machine_collections.proofs.PackedLayouts.{packed_still}
use Rattle.machine_collections.specs.Kept.{AreNotKept, HoldReachable}
use Rattle.machine_collections.proofs.KeptSources.{not_kept_clears}
use Rattle.machine_collections.proofs.ClearedRuns.{clears_to, replays_cleared, same_state}
use Rattle.machine_collections.specs.Clearing.{clearing_of}
use Rattle.semantics.specs.Step.{can_step, clearing_step, is_blocked, is_live, is_waiting, turn_step}
use Rattle.semantics.proofs.RunLaws.{replay_from-append, follows-replay, follows-append}
use Rattle.machine.specs.declared.turn.Turn.{Turn as Answer}
use Rattle.machine.specs.declared.turn.Turn.TheVariants as turn
use Rattle.machine.specs.declared.fault.RunFault.{RunFault}
use Rattle.machine.specs.declared.fault.RunFault.TheVariants as running
use Rattle.machine.specs.Run.AreTaken.{NoWord, Taken}
use Rattle.machine.specs.Run.{Run, replay_of, can_turn, AreTaken, IsTaken, CouldStep, EndsAt, FindsRoom, HasEnded, HasNoRoom, HasBlock, InState, IsCollected, IsOrderly, IsSliced, IsSlicedBy, MarkingEnds, MarkingGoesOn, TurnHolds, GivesNoStep, RunsAlong, RunsInto, refused, stepped}

-- the walk from a state of a run along these words
abbrev pub Walk : Run → State → List Entry → Schedule → State → Type 0
Walk r before steps words after = Follows (unit_tree r.unit) r.world before steps words after

-- ---- states

-- the replay of a run with more entries
replay_with : (r : Run) (steps : List Entry) (s : State) → replay_of r ≡ Some s → replay (unit_tree r.unit) r.world (r.journal ++ steps) ≡ replay_from (unit_tree r.unit) r.world s steps
replay_with r steps s h =
    replay_from-append (unit_tree r.unit) r.world (start (unit_tree r.unit) r.world) r.journal steps
    ∙ ap (option_and_then (λ t. replay_from (unit_tree r.unit) r.world t steps)) h

-- the same program and world
same_replay : (a b : Run) → b.unit ≡ a.unit → b.world ≡ a.world → replay_of b ≡ replay (unit_tree a.unit) a.world b.journal
same_replay a b u w =
    ap (λ (x : List Item). replay (unit_tree x) b.world b.journal) u
    ∙ ap (λ (x : World). replay (unit_tree a.unit) x b.journal) w

-- the state that a walk leads to
pub leads : (old new : Run) (words : Schedule) (r : RunsAlong old new words) → replay_of new ≡ Some r.after
leads old new words r =
    same_replay old new r.same_unit r.same_world
    ∙ ap (λ (j : List Entry). replay (unit_tree old.unit) old.world j) r.journal
    ∙ replay_with old r.steps r.before r.replays
    ∙ follows-replay (unit_tree old.unit) old.world r.follows

-- ---- walks

-- some words and then others
both_taken : {a b c : Run} {words more : Schedule} → AreTaken a words b → AreTaken b more c → AreTaken a (words ++ more) c
both_taken (NoWord r) q = q
both_taken {c = c} {more = more} (Taken a mid b word words h p) q = Taken a mid c word (words ++ more) h (both_taken p q)

-- one word
once : (a b : Run) (word : ScheduleWord) → IsTaken a word b → AreTaken a (word ∷ []) b
once a b word h = Taken a b b word [] h (NoWord b)

-- one walk after another
pub along_both : (a b c : Run) (words more : Schedule) → RunsAlong a b words → RunsAlong b c more → RunsAlong a c (words ++ more)
along_both a b c words more p q =
    let there : q.before ≡ p.after = cc (q.replays, leads a b words p) in
    let on_unit : Follows (unit_tree a.unit) b.world q.before q.steps more q.after = subst (λ (x : List Item). Follows (unit_tree x) b.world q.before q.steps more q.after) p.same_unit q.follows in
    let on_world : Walk a q.before q.steps more q.after = subst (λ (x : World). Follows (unit_tree a.unit) x q.before q.steps more q.after) p.same_world on_unit in
    record {
      taken = both_taken p.taken q.taken;
      same_unit = q.same_unit ∙ p.same_unit;
      same_world = q.same_world ∙ p.same_world;
      steps = p.steps ++ q.steps;
      journal = q.journal ∙ ap (λ (j : List Entry). j ++ q.steps) p.journal ∙ append_assoc a.journal p.steps q.steps;
      before = p.before;
      replays = p.replays;
      after = q.after;
      follows = follows-append (unit_tree a.unit) a.world q.steps more q.after p.follows (subst (λ s. Walk a s q.steps more q.after) there on_world);
    }

-- one walk and a beginning of another
pub along_into : (a b c : Run) (words more : Schedule) (fault : RunFault) → RunsAlong a b words → RunsInto b c more fault → RunsInto a c (words ++ more) fault
along_into a b c words more fault p q = record {
  taken = words ++ q.taken;
  next = q.next;
  left = q.left;
  is = ap (λ (w : Schedule). words ++ w) q.is ∙ sym (append_assoc words q.taken (q.next ∷ q.left));
  along = along_both a b c words q.taken p q.along;
  ends = q.ends;
}

-- a beginning of a schedule's beginning
pub into_more : (a b : Run) (words more : Schedule) (fault : RunFault) → RunsInto a b words fault → RunsInto a b (words ++ more) fault
into_more a b words more fault p = record {
  taken = p.taken;
  next = p.next;
  left = p.left ++ more;
  is = ap (λ (w : Schedule). w ++ more) p.is ∙ append_assoc p.taken (p.next ∷ p.left) more;
  along = p.along;
  ends = p.ends;
}

-- a walk is a beginning where the run ends at the next word
pub begun : (a b : Run) (words : Schedule) (next : ScheduleWord) (left : Schedule) (fault : RunFault) → RunsAlong a b words → EndsAt b fault next → RunsInto a b (words ++ next ∷ left) fault
begun a b words next left fault p h = record { taken = words; next = next; left = left; is = refl; along = p; ends = h }

-- nothing was done yet
pub none_yet : (r : Run) → IsSome (replay_of r) → RunsAlong r r []
none_yet r d = by_state (replay_of r) refl d
  where
    by_state : (o : Option State) → replay_of r ≡ o → IsSome o → RunsAlong r r []
    by_state None e d = absurd (let f : false ≡ true = d in cc)
    by_state (Some s) e d = record { taken = NoWord r; same_unit = refl; same_world = refl; steps = []; journal = sym (append-nil r.journal); before = s; replays = e; after = s; follows = Over s }

-- ---- one word

no_step : (r : Run) (k : ℕ) → GivesNoStep r (Turn k) → RunsAlong r r (Turn k ∷ [])
no_step r k h = record { taken = once r r (Turn k) (inl (refl, h)); same_unit = refl; same_world = refl; steps = []; journal = sym (append-nil r.journal); before = h.0; replays = h.1; after = h.0; follows = Waits h.0 h.0 k [] [] h.2 (Over h.0) }

pub turns_without_step : (r : Run) (k n : ℕ) → GivesNoStep r (Turn k) → IsSome (replay_of r) → RunsAlong r r (replicate n (Turn k))
turns_without_step r k zero h d = none_yet r d
turns_without_step r k (suc n) h d = along_both r r r (Turn k ∷ []) (replicate n (Turn k)) (no_step r k h) (turns_without_step r k n h d)

-- ---- collections

-- what is lost can be cleared
clears_lost : (w : World) (s : State) → (lost w s ≡ [] → ⊥) → clearing_step w s (lost w s) ≡ Some (with_cleared (lost w s) s)
clears_lost w s some = let c = lost_are_cleared w s some in c.1 ∙ ap (λ (t : State). Some t) (clears_to w s (lost w s) c.0 c.1)

-- so that a collection can clear these
clears_these : (w : World) (s : State) (n : ℕ) (names : List ℕ) → lost w s ≡ n ∷ names → ClearsLost w s (n ∷ names) (with_cleared (n ∷ names) s)
clears_these w s n names e = record {
  all = e;
  possible = subst (λ (l : List ℕ). clearing_step w s l ≡ Some (with_cleared l s)) e (clears_lost w s (λ none. (let both : n ∷ names ≡ [] = sym e ∙ none in cc)));
}

-- and nothing is lost then
none_lost : (w : World) (s : State) → lost w (with_cleared (lost w s) s) ≡ []
none_lost w s = by_names (lost w s) refl
  where
    by_names : (names : List ℕ) → lost w s ≡ names → lost w (with_cleared names s) ≡ []
    by_names [] e = ap (lost w) (same_state s) ∙ e
    by_names (n ∷ names) e =
        let c = lost_are_cleared w s (λ none. (let both : n ∷ names ≡ [] = sym e ∙ none in cc)) in
        subst (λ (l : List ℕ). lost w (with_cleared l s) ≡ []) e (subst (λ (t : State). lost w t ≡ []) (clears_to w s (lost w s) c.0 c.1) c.2)

-- a collection gives the clearing of what is lost
collects_lost : (unit : SourceUnit) (w : World) (s : State) → Follows unit w s (clearing_of (lost w s)) (Collect ∷ []) (with_cleared (lost w s) s)
collects_lost unit w s = by_names (lost w s) refl
  where
    by_names : (names : List ℕ) → lost w s ≡ names → Follows unit w s (clearing_of names) (Collect ∷ []) (with_cleared names s)
    by_names [] e = subst (λ (t : State). Follows unit w s [] (Collect ∷ []) t) (sym (same_state s)) (Collects s s [] [] e (Over s))
    by_names (n ∷ names) e = let next = with_cleared (n ∷ names) s in Clears s next next (n ∷ names) [] [] (clears_these w s n names e) (Over next)

collected_once : (r new : Run) → IsCollected r new → RunsAlong r new (Collect ∷ [])
collected_once r new h = record {
  taken = once r new Collect h;
  same_unit = ap (λ (x : Run). x.unit) h.same;
  same_world = ap (λ (x : Run). x.world) h.same;
  steps = clearing_of (lost r.world h.state);
  journal = ap (λ (x : Run). x.journal) h.same;
  before = h.state;
  replays = h.replays;
  after = with_cleared (lost r.world h.state) h.state;
  follows = collects_lost (unit_tree r.unit) r.world h.state;
}

-- it leads there
collected_replays : (r new : Run) (h : IsCollected r new) → replay_of new ≡ Some (with_cleared (lost r.world h.state) h.state)
collected_replays r new h = ap replay_of h.same ∙ replays_cleared (unit_tree r.unit) r.world r.journal h.state h.replays

-- one right after another leaves what it left
collected_still : (r new : Run) → IsOrderly r → IsCollected r new → IsCollected new new
collected_still r new can h =
    let s : State = with_cleared (lost r.world h.state) h.state in
    let world : new.world ≡ r.world = ap (λ (x : Run). x.world) h.same in
    let none : lost new.world s ≡ [] = ap (λ (w : World). lost w s) world ∙ none_lost r.world h.state in
    let state : can.state ≡ h.state = cc (sym can.replays, h.replays) in
    let viewed : (e : Extent) → Contains r.layout e → Contains (views h.state) e.name → Reachable r.world h.state e.name =
    subst (λ (s : State). (e : Extent) → Contains r.layout e → Contains (views s) e.name → Reachable r.world s e.name) state can.viewed in
    record {
      state = s;
      replays = collected_replays r new h;
      same = ap (λ (j : List Entry). let x : Run = record new { journal = j } in x) (sym (append-nil new.journal) ∙ ap (λ (l : List ℕ). new.journal ++ clearing_of l) (sym none))
          ∙ ap (λ (o : Option ℕ). let x : Run = record new { journal = new.journal ++ clearing_of (lost new.world s); slices = o } in x) (ap (λ (x : Run). x.slices) h.same);
      packed = subst (λ (w : World). IsPacked (Reachable w s) (Contains (views s)) new.layout new.layout) (sym world)
          (packed_still (Reachable r.world h.state) (Contains (views h.state)) r.layout new.layout can.rising viewed h.packed);
      more = omega arith;
      live = h.live ∙ ap (λ (w : World). live_size w s) (sym world);
      tight = λ none. h.tight none ∙ ap (λ (w : World). w.cells - live_size w s) (sym world);
      waits = λ k. ap (λ (t : State). is_blocked new.world.classes t k) (ap (λ (l : List ℕ). with_cleared l s) none ∙ same_state s);
    }

-- nor do more of them change anything, if there is one
pub collected_often : (r new : Run) (times : ℕ) → (times ≡ 0 → ⊥) → IsOrderly r → IsCollected r new → IsSome (replay_of new) → RunsAlong r new (replicate times Collect)
collected_often r new zero some can h e = absurd (some refl)
collected_often r new (suc n) some can h e = along_both r new new (Collect ∷ []) (replicate n Collect) (collected_once r new h) (more n)
  where
    more : (n : ℕ) → RunsAlong new new (replicate n Collect)
    more zero = none_yet new e
    more (suc n) = along_both new new new (Collect ∷ []) (replicate n Collect) (collected_once new new (collected_still r new can h)) (more n)

-- a run ends at a collection that memory is refused to
pub collection_refused : (r new : Run) (times : ℕ) → (times ≡ 0 → ⊥) → new ≡ r → IsSome (replay_of r) → RunsInto r new (replicate times Collect) running.Memory
collection_refused r new zero some same d = absurd (some refl)
collection_refused r new (suc n) some same d = subst (λ (x : Run). RunsInto r x (replicate (suc n) Collect) running.Memory) (sym same) (begun r r [] Collect (replicate n Collect) running.Memory (none_yet r d) tt)

-- ---- slices

-- a slice gives the clearing of what isn't kept
slice_clears : (unit : SourceUnit) (w : World) (s : State) (Kept : ℕ → Type 0) (names : List ℕ) → HoldReachable w s Kept → AreNotKept s Kept names → Follows unit w s (clearing_of names) (Slice ∷ []) (with_cleared names s)
slice_clears unit w s Kept [] holds cleared = subst (λ (t : State). Follows unit w s [] (Slice ∷ []) t) (sym (same_state s)) (Slices s s [] [] (Over s))
slice_clears unit w s Kept (n ∷ names) holds cleared =
    let next = with_cleared (n ∷ names) s in
    SliceClears s next next (n ∷ names) [] [] (not_kept_clears w s Kept (n ∷ names) holds cleared (λ none. (let both : n ∷ names ≡ [] = none in cc))) (Over next)

ended_once : (r new : Run) → new.slices ≡ None → MarkingEnds r new → RunsAlong r new (Slice ∷ [])
ended_once r new none h = record {
  taken = once r new Slice (subst (λ (o : Option ℕ). IsSlicedBy o r new) (sym none) h);
  same_unit = ap (λ (x : Run). x.unit) h.same;
  same_world = ap (λ (x : Run). x.world) h.same;
  steps = clearing_of h.names;
  journal = ap (λ (x : Run). x.journal) h.same;
  before = h.state;
  replays = h.replays;
  after = with_cleared h.names h.state;
  follows = slice_clears (unit_tree r.unit) r.world h.state (HasBlock new.layout) h.names h.holds h.cleared;
}

went_on_once : (r new : Run) (n : ℕ) → new.slices ≡ Some n → MarkingGoesOn r new → IsSome (replay_of r) → RunsAlong r new (Slice ∷ [])
went_on_once r new n some h d = by_state (replay_of r) refl d
  where
    by_state : (o : Option State) → replay_of r ≡ o → IsSome o → RunsAlong r new (Slice ∷ [])
    by_state None e d = absurd (let f : false ≡ true = d in cc)
    by_state (Some s) e d = record {
      taken = once r new Slice (subst (λ (o : Option ℕ). IsSlicedBy o r new) (sym some) h);
      same_unit = ap (λ (x : Run). x.unit) h;
      same_world = ap (λ (x : Run). x.world) h;
      steps = [];
      journal = ap (λ (x : Run). x.journal) h ∙ sym (append-nil r.journal);
      before = s;
      replays = e;
      after = s;
      follows = Slices s s [] [] (Over s);
    }

pub sliced_once : (r new : Run) → IsSliced r new → IsSome (replay_of r) → RunsAlong r new (Slice ∷ [])
sliced_once r new h d = by_slices new.slices refl h
  where
    by_slices : (o : Option ℕ) → new.slices ≡ o → IsSlicedBy o r new → RunsAlong r new (Slice ∷ [])
    by_slices None e k = ended_once r new e k
    by_slices (Some n) e k = went_on_once r new n e k d

-- ---- turns that give no step

-- a thread that has ended can't step
ended_waits : (classes : Classes) (s : State) (k : ℕ) → HasEnded s k → can_step classes s k ≡ false
ended_waits classes s k h =
    and_left (is_none s.stop && is_live (thread_at s k)) (not (is_waiting classes k s.shared (thread_at s k)))
    (and_right (is_none s.stop) (is_live (thread_at s k)) (ap is_live h.is ∙ h.ended))

-- no thread can step where the machine has stopped
none_goes : (o : Option Stop) → IsSome o → is_none o ≡ false
none_goes None h = absurd (cc)
none_goes (Some x) h = refl

pub stopped_waits : (classes : Classes) (s : State) (k : ℕ) → IsSome s.stop → can_step classes s k ≡ false
stopped_waits classes s k h =
    and_left (is_none s.stop && is_live (thread_at s k)) (not (is_waiting classes k s.shared (thread_at s k)))
    (and_left (is_none s.stop) (is_live (thread_at s k)) (none_goes s.stop h))

-- a thread that waits for a monitor can't step
blocked_waits : (classes : Classes) (s : State) (k : ℕ) → is_waiting classes k s.shared (thread_at s k) ≡ true → can_step classes s k ≡ false
blocked_waits classes s k h = and_right (is_none s.stop && is_live (thread_at s k)) (not (is_waiting classes k s.shared (thread_at s k))) (ap not h)

-- the run with these entries more, and with its blocks where they lie then
abbrev pub with_entries : (old new : Run) → List Entry → Run
with_entries old new entries = record old { journal = old.journal ++ entries; layout = new.layout; slices = new.slices }

-- the step of a journal with one more entry
step_of : (r new : Run) (k : ℕ) (refused : Bool) (s : State) → new ≡ with_entries r new (Step k refused ∷ []) → replay_of r ≡ Some s → IsSome (replay_of new)
    → (n : State) × (turn_step (unit_tree r.unit) r.world.classes s k refused ≡ Some n)
step_of r new k refused s is h defined = there (turn_step (unit_tree r.unit) r.world.classes s k refused) (subst IsSome (ap replay_of is ∙ replay_with r (Step k refused ∷ []) s h) defined)
  where
    there : (o : Option State) → IsSome (option_and_then (λ t. replay_from (unit_tree r.unit) r.world t []) o) → (n : State) × (o ≡ Some n)
    there None d = absurd (let f : false ≡ true = d in cc)
    there (Some n) d = (n, refl)

-- a step, whose allocation was refused or not
stepped_once : (r new : Run) (k : ℕ) (refused : Bool) (s : State) → new ≡ with_entries r new (Step k refused ∷ []) → replay_of r ≡ Some s → can_turn r s k ≡ true → IsSome (replay_of new) → AreTaken r (Turn k ∷ []) new → RunsAlong r new (Turn k ∷ [])
stepped_once r new k refused s is h can defined each =
    let n = step_of r new k refused s is h defined in
    subst (λ x. RunsAlong r x (Turn k ∷ [])) (sym is) (record {
      taken = subst (λ (x : Run). AreTaken r (Turn k ∷ []) x) is each;
      same_unit = refl;
      same_world = refl;
      steps = Step k refused ∷ [];
      journal = refl;
      before = s;
      replays = h;
      after = n.0;
      follows = Steps s n.0 n.0 k refused [] [] can n.1 (Over n.0);
    })

-- what is lost is cleared, and then the step is taken
clears_and_steps : (unit : SourceUnit) (w : World) (s next : State) (k : ℕ) (refused : Bool) → can_step w.classes s k ≡ true → (made unit w s k ≡ [] → ⊥) → turn_step unit w.classes (with_cleared (lost w s) s) k refused ≡ Some next
    → Follows unit w s (clearing_of (lost w s) ++ Step k refused ∷ []) (Turn k ∷ []) next
clears_and_steps unit w s next k refused can some step = by_names (lost w s) refl step
  where
    by_names : (names : List ℕ) → lost w s ≡ names → turn_step unit w.classes (with_cleared names s) k refused ≡ Some next → Follows unit w s (clearing_of names ++ Step k refused ∷ []) (Turn k ∷ []) next
    by_names [] e step = Steps s next next k refused [] [] can (ap (λ (t : State). turn_step unit w.classes t k refused) (sym (same_state s)) ∙ step) (Over next)
    by_names (n ∷ names) e step = ClearsAndSteps s (with_cleared (n ∷ names) s) next next (n ∷ names) k refused [] [] can some (clears_these w s n names e) step (Over next)

-- a step after a collection, which there was as what it makes had no room
stepped_after : (r mid new : Run) (k : ℕ) (refused : Bool) → IsCollected r mid → HasNoRoom r k → CouldStep r k → new ≡ with_entries mid new (Step k refused ∷ []) → IsSome (replay_of new) → AreTaken r (Turn k ∷ []) new → RunsAlong r new (Turn k ∷ [])
stepped_after r mid new k refused h less could is defined each =
    let names = lost r.world h.state in
    let between = with_cleared names h.state in
    let left : Run = record r { journal = r.journal ++ clearing_of names; layout = mid.layout; slices = None } in
    let now : new ≡ with_entries left new (Step k refused ∷ []) = is ∙ ap (λ (x : Run). with_entries x new (Step k refused ∷ [])) h.same in
    let led : replay_of left ≡ Some between = replays_cleared (unit_tree r.unit) r.world r.journal h.state h.replays in
    let n = step_of left new k refused between now led defined in
    let could_here : could.1.0 ≡ h.state = cc (sym could.1.1, h.replays) in
    let less_here : less.0 ≡ h.state = cc (sym less.1, h.replays) in
    let some : made (unit_tree r.unit) r.world h.state k ≡ [] → ⊥ = λ none. (let size : sizes (made (unit_tree r.unit) r.world less.0 k) ≡ 0 = ap (λ (s : State). sizes (made (unit_tree r.unit) r.world s k)) less_here ∙ ap sizes none in omega (arith, less.2, size)) in
    let can : can_step r.world.classes h.state k ≡ true = ap (λ (s : State). can_step r.world.classes s k) (sym could_here) ∙ could.1.2 in
    subst (λ x. RunsAlong r x (Turn k ∷ [])) (sym now) (record {
      taken = subst (λ (x : Run). AreTaken r (Turn k ∷ []) x) now each;
      same_unit = refl;
      same_world = refl;
      steps = clearing_of names ++ Step k refused ∷ [];
      journal = append_assoc r.journal (clearing_of names) (Step k refused ∷ []);
      before = h.state;
      replays = h.replays;
      after = n.0;
      follows = clears_and_steps (unit_tree r.unit) r.world h.state n.0 k refused can some n.1;
    })

-- ---- what a step adds

-- a run with an entry more, wherever blocks lie then
entry_more : (mid new : Run) (e : Entry) (layout : Layout) → new ≡ record mid { journal = mid.journal ++ e ∷ []; layout = layout } → new ≡ with_entries mid new (e ∷ [])
entry_more mid new e layout is =
    let there : new.layout ≡ layout = ap (λ (r : Run). r.layout) is in
    let same : new.slices ≡ mid.slices = ap (λ (r : Run). r.slices) is in
    is ∙ ap (λ (l : Layout). let r : Run = record mid { journal = mid.journal ++ e ∷ []; layout = l } in r) (sym there)
    ∙ ap (λ (o : Option ℕ). let r : Run = record mid { journal = mid.journal ++ e ∷ []; layout = new.layout; slices = o } in r) (sym same)

did_more : (mid new : Run) (k : ℕ) → InState mid (λ s. new ≡ stepped mid s k) → new ≡ with_entries mid new (Step k false ∷ [])
did_more mid new k h = entry_more mid new (Step k false) _ h.2

refused_more : (mid new : Run) (k : ℕ) → new ≡ refused mid k → new ≡ with_entries mid new (Step k true ∷ [])
refused_more mid new k h = entry_more mid new (Step k true) mid.layout h

-- What a step of thread k adds to a run: its entry, after the clearing of what is lost where there was a collection.
pub record AddsStep (old : Run) (k : ℕ) (refused : Bool) (new : Run) : Type 0 where
  pub state : State
  pub replays : replay_of old ≡ Some state
  pub cleared : List ℕ
  pub which : (cleared ≡ []) ⊎ (cleared ≡ lost old.world state)
  pub is : new ≡ with_entries old new (clearing_of cleared ++ Step k refused ∷ [])

adds_after : (old mid new : Run) (k : ℕ) (refused : Bool) → IsCollected old mid → new ≡ with_entries mid new (Step k refused ∷ []) → AddsStep old k refused new
adds_after old mid new k refused h is =
    let names = lost old.world h.state in
    record {
      state = h.state;
      replays = h.replays;
      cleared = names;
      which = inr refl;
      is =
          is ∙ ap (λ (x : Run). with_entries x new (Step k refused ∷ [])) h.same
          ∙ ap (λ (j : List Entry). let r : Run = record old { journal = j; layout = new.layout; slices = new.slices } in r) (append_assoc old.journal (clearing_of names) (Step k refused ∷ []));
    }

pub did_add : (old new : Run) (k : ℕ) → TurnHolds old k new turn.Stepped → AddsStep old k false new
did_add old new k h = by_room h.1.1
  where
    by_room : FindsRoom old k h.1.0 → AddsStep old k false new
    by_room (inl f) = record {
      state = h.0.1.0;
      replays = h.0.1.1;
      cleared = [];
      which = inl refl;
      is = subst (λ (x : Run). new ≡ with_entries x new (Step k false ∷ [])) f.0 (did_more h.1.0 new k h.1.2);
    }
    by_room (inr f) = adds_after old h.1.0 new k false f.1 (did_more h.1.0 new k h.1.2)

pub refused_add : (old new : Run) (k : ℕ) → TurnHolds old k new turn.Short → AddsStep old k true new
refused_add old new k h = adds_after old h.1.0 new k true h.1.1.collected (refused_more h.1.0 new k h.1.2)

-- a turn, but where the journal is full
pub turned : (r new : Run) (k : ℕ) (t : Answer) → TurnHolds r k new t → IsSome (replay_of new) → (t ≡ turn.Full → ⊥) → RunsAlong r new (Turn k ∷ [])
turned r new k turn.Stopped h defined full =
    subst (λ x. RunsAlong r x (Turn k ∷ [])) (sym h.0) (no_step r k (h.1.0, h.1.1, stopped_waits r.world.classes h.1.0 k h.1.2))
turned r new k turn.Ended h defined full =
    subst (λ x. RunsAlong r x (Turn k ∷ [])) (sym h.0) (no_step r k (h.1.0, h.1.1, ended_waits r.world.classes h.1.0 k h.1.2))
turned r new k (turn.Blocked all) h defined full =
    subst (λ x. RunsAlong r x (Turn k ∷ [])) (sym h.0) (no_step r k (h.1.0, h.1.1, blocked_waits r.world.classes h.1.0 k h.1.2.waits))
turned r new k turn.Full h defined full = absurd (full refl)
turned r new k turn.Short h defined full =
    let found = h.1.1 in
    stepped_after r h.1.0 new k true found.collected found.first h.0 (refused_more h.1.0 new k h.1.2) defined (once r new (Turn k) (inr (inr h)))
turned r new k turn.Stepped h defined full = by_room h.1.1
  where
    by_room : FindsRoom r k h.1.0 → RunsAlong r new (Turn k ∷ [])
    by_room (inl f) =
        let could = h.0.1 in
        stepped_once r new k false could.0 (subst (λ (x : Run). new ≡ with_entries x new (Step k false ∷ [])) f.0 (did_more h.1.0 new k h.1.2)) could.1 could.2 defined (once r new (Turn k) (inr (inl h)))
    by_room (inr f) = stepped_after r h.1.0 new k false f.1 f.0 h.0 (did_more h.1.0 new k h.1.2) defined (once r new (Turn k) (inr (inl h)))

-- ---- threads that are not there

missing : (s : State) (k : ℕ) → length s.threads < k → thread_at s k ≡ None
missing s zero h = refl
missing s (suc i) h = slice_get_past s.threads i (omega (arith, h))

pub missing_waits : (classes : Classes) (s : State) (k : ℕ) → length s.threads < k → can_step classes s k ≡ false
missing_waits classes s k h =
    and_left (is_none s.stop && is_live (thread_at s k)) (not (is_waiting classes k s.shared (thread_at s k)))
    (and_right (is_none s.stop) (is_live (thread_at s k)) (ap is_live (missing s k h)))

-- ---- several words

pub replicate_more : (word : ScheduleWord) (i : ℕ) → replicate (i + 1) word ≡ replicate i word ++ word ∷ []
replicate_more word i = sym (replicate-append-replicate i 1 word)

-- a word that is taken so many times, and then so many times more
pub taken_more : (a b c : Run) (word : ScheduleWord) (i n : ℕ) → RunsAlong a b (replicate i word) → RunsAlong b c (replicate n word) → RunsAlong a c (replicate (i + n) word)
taken_more a b c word i n h more = subst (λ (words : Schedule). RunsAlong a c words) (replicate-append-replicate i n word) (along_both a b c (replicate i word) (replicate n word) h more)

pub replicate_rest : (word : ScheduleWord) (i times : ℕ) → i < times → replicate times word ≡ replicate i word ++ word ∷ replicate (times - i - 1) word
replicate_rest word i times h = let e : i + suc (times - i - 1) ≡ times = omega (arith, h) in sym (replicate-append-replicate i (suc (times - i - 1)) word ∙ ap (λ n. replicate n word) e)

-- the words of the repetitions up to a place
abbrev pub words_to : List Repetition → ℕ → Schedule
words_to reps i = flat_map repeated_words (take i reps)

pub words_more : (reps : List Repetition) (i : ℕ) (x : Repetition) → slice_get reps i ≡ Some x → words_to reps (i + 1) ≡ words_to reps i ++ repeated_words x
words_more reps i x at = ap (flat_map repeated_words) (take_next reps i x at) ∙ flat_map-append repeated_words (take i reps) (x ∷ []) ∙ ap (λ (w : Schedule). words_to reps i ++ w) (flat_map-cons repeated_words x [] ∙ append-nil (repeated_words x))

pub words_all : (reps : List Repetition) (i : ℕ) → flat_map repeated_words reps ≡ words_to reps i ++ flat_map repeated_words (drop i reps)
words_all reps i = ap (flat_map repeated_words) (sym (take-append-drop i reps)) ∙ flat_map-append repeated_words (take i reps) (drop i reps)

-- one repetition more
pub one_repetition : (a b c : Run) (reps : List Repetition) (i : ℕ) (d : Repetition) → i < length reps → RunsAlong a b (words_to reps i) → RunsAlong b c (repeated_words (get_or reps i d)) → RunsAlong a c (words_to reps (i + 1))
one_repetition a b c reps i d h p q =
    subst (λ (w : Schedule). RunsAlong a c w) (sym (words_more reps i (get_or reps i d) (slice_get-get_or reps i d h))) (along_both a b c (words_to reps i) (repeated_words (get_or reps i d)) p q)

-- a beginning of one repetition more
pub part_of_repetition : (a b c : Run) (reps : List Repetition) (i : ℕ) (d : Repetition) (schedule : Schedule) (fault : RunFault) → flat_map repeated_words reps ≡ schedule → i < length reps → RunsAlong a b (words_to reps i) → RunsInto b c (repeated_words (get_or reps i d)) fault → RunsInto a c schedule fault
part_of_repetition a b c reps i d schedule fault whole h p q =
    subst (λ (w : Schedule). RunsInto a c w fault) (sym (words_all reps (i + 1)) ∙ whole)
    (into_more a c (words_to reps (i + 1)) (flat_map repeated_words (drop (i + 1) reps)) fault
    (subst (λ (w : Schedule). RunsInto a c w fault) (sym (words_more reps i (get_or reps i d) (slice_get-get_or reps i d h))) (along_into a b c (words_to reps i) (repeated_words (get_or reps i d)) fault p q)))
