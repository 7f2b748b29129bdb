-- Slices in schedules.
use Rattle.std.proofs.Common.{◌≡◌, ℕ, suc, true, List, [], ◌∷◌, ◌++◌, Option, Some, sym, ◌∙◌, ap, subst}
use Rattle.std.specs.Prelude.{not, ◌&&◌}
use Rattle.std.specs.List.{list_all, list_any}
use Rattle.std.proofs.lemmas.Bool.{and_parts, false≢true, or_left}
use Rattle.syntax.specs.Tree.{SourceUnit}
use Rattle.semantics.specs.declared.schedule.ScheduleWord.TheVariants.{Turn, Collect, Slice}
use Rattle.semantics.specs.Heap.{Heap}
use Rattle.semantics.specs.Journal.{Journal, Entry, Step, Clearing, clearings_in}
use Rattle.semantics.specs.Reachable.{roots, is_in, Reached, FromRoot, FromObject}
use Rattle.semantics.specs.Schedule.{Schedule}
use Rattle.semantics.specs.World.{World}
use Rattle.semantics.specs.Run.{EachFrom, Follows, Over, Collects, Clears, Slices, SliceClears, Waits, Steps, ClearsAndSteps}
use Rattle.semantics.specs.State.{State}
use Rattle.semantics.specs.Step.{world_step}
use Rattle.semantics.specs.WeakReferences.{weakly_held, are_rising, held_beside, reached_with, may_clear}
use Rattle.semantics.proofs.ReachableLemmas.{In, contains_in, to_contains, in_append_left, reached_lists}
use Rattle.semantics.proofs.WeakLaws.{clearing_leaves}
use Rattle.test_equations.specs.Laws.{without_slices, HeldAreReached}

-- ---- a clearing of what can be reached

-- what is reached from some names is reached from them and others
reached_more : (heap : Heap) (from more : List ℕ) (n : ℕ) → Reached heap from n → Reached heap (from ++ more) n
reached_more heap from more n (FromRoot x name c) = FromRoot x name (to_contains (from ++ more) x (in_append_left from more x (contains_in from x c)))
reached_more heap from more n (FromObject m x r name c) = FromObject m x (reached_more heap from more m r) name c

-- it may not be cleared
none_may : (w : World) (s : State) (names : List ℕ) → HeldAreReached w s → may_clear w s names ≡ true → ⊥
none_may w s [] all h = false≢true h
none_may w s (n ∷ names) all h =
    let held = weakly_held s.shared.statics in
    let from = reached_with w s (held_beside s (n ∷ names)) in
    let first = and_parts (are_rising (n ∷ names) && list_all (is_in held) (n ∷ names)) (not (list_any (is_in from) (n ∷ names))) h in
    let second = and_parts (are_rising (n ∷ names)) (list_all (is_in held) (n ∷ names)) first.0 in
    let is_held : In held n = (and_parts (is_in held n) (list_all (is_in held) names) second.1).0 in
    let more = reached_more s.shared.heap (roots w s) (held_beside s (n ∷ names)) n (all n (to_contains held n is_held)) in
    let found : In from n = contains_in from n ((reached_lists s.shared.heap (roots w s ++ held_beside s (n ∷ names))).complete n more) in
    false≢true (sym (ap not (or_left (is_in from n) (list_any (is_in from) names) found)) ∙ first.1)

module _ (unit : SourceUnit) (w : World) where
  pub with_slices : (words : Schedule) {s end : State} {journal : Journal} → Follows unit w s journal (without_slices words) end → Follows unit w s journal words end
  with_slices [] h = h
  with_slices (Slice ∷ words) {s} {end} {journal} h = Slices s end journal words (with_slices words h)
  with_slices (Collect ∷ words) (Collects s end journal rest e h) = Collects s end journal words e (with_slices words h)
  with_slices (Collect ∷ words) (Clears s next end names journal rest c h) = Clears s next end names journal words c (with_slices words h)
  with_slices (Turn k ∷ words) (Waits s end m journal rest e h) = Waits s end m journal words e (with_slices words h)
  with_slices (Turn k ∷ words) (Steps s next end m refused journal rest c e h) = Steps s next end m refused journal words c e (with_slices words h)
  with_slices (Turn k ∷ words) (ClearsAndSteps s between next end names m refused journal rest c some l e h) = ClearsAndSteps s between next end names m refused journal words c some l e (with_slices words h)

  -- a number above none
  more : (n : ℕ) → suc n ≡ 0 → ⊥
  more n h = cc

  pub without : {s end : State} {journal : Journal} {words : Schedule} → Follows unit w s journal words end → clearings_in journal ≡ 0 → Follows unit w s journal (without_slices words) end
  without (Over s) n = Over s
  without (Collects s end journal words e h) n = Collects s end journal (without_slices words) e (without h n)
  without (Clears s next end names journal words c h) n = absurd (more (clearings_in journal) n)
  without (Slices s end journal words h) n = without h n
  without (SliceClears s next end names journal words c h) n = absurd (more (clearings_in journal) n)
  without (Waits s end k journal words e h) n = Waits s end k journal (without_slices words) e (without h n)
  without (Steps s next end k refused journal words c e h) n = Steps s next end k refused journal (without_slices words) c e (without h n)
  without (ClearsAndSteps s between next end names k refused journal words c some l e h) n = absurd (more (clearings_in journal) n)

  abbrev AllReached : Option State → Journal → Type 0
  AllReached o journal = EachFrom unit w (λ t e. HeldAreReached w t) o journal

  from_next : (s next : State) (e : Entry) (rest : Journal) → world_step unit w s e ≡ Some next → AllReached (Some s) (e ∷ rest) → AllReached (Some next) rest
  from_next s next e rest is h = subst (λ (o : Option State). AllReached o rest) is h.1

  pub without_them : {s end : State} {journal : Journal} {words : Schedule} → Follows unit w s journal words end → AllReached (Some s) journal → Follows unit w s journal (without_slices words) end
  without_them (Over s) n = Over s
  without_them (Collects s end journal words e h) n = Collects s end journal (without_slices words) e (without_them h n)
  without_them (Clears s next end names journal words c h) n =
      Clears s next end names journal (without_slices words) c (without_them h (from_next s next (Clearing names) journal c.possible n))
  without_them (Slices s end journal words h) n = without_them h n
  without_them (SliceClears s next end names journal words c h) n = absurd (none_may w s names n.0 (clearing_leaves w s next names c).0)
  without_them (Waits s end k journal words e h) n = Waits s end k journal (without_slices words) e (without_them h n)
  without_them (Steps s next end k refused journal words c e h) n =
      Steps s next end k refused journal (without_slices words) c e (without_them h (from_next s next (Step k refused) journal e n))
  without_them (ClearsAndSteps s between next end names k refused journal words c some l e h) n =
      absurd (none_may w s names n.0 (clearing_leaves w s between names l.possible).0)
