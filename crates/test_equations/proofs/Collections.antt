-- Collections in schedules.
use Rattle.std.proofs.Common.{◌≡◌, ℕ, List, [], ◌∷◌, Option, Some, sym, ◌∙◌, subst}
use Rattle.syntax.specs.Tree.{SourceUnit}
use Rattle.semantics.specs.declared.schedule.ScheduleWord.TheVariants.{Turn, Collect, Slice}
use Rattle.semantics.specs.Journal.{Journal, Entry, Step, Clearing}
use Rattle.semantics.specs.Schedule.{Schedule}
use Rattle.semantics.specs.World.{World}
use Rattle.semantics.specs.WeakReferences.{lost}
use Rattle.semantics.specs.Run.{Follows, Over, Collects, Clears, Slices, SliceClears, Waits, Steps, ClearsAndSteps, ClearsLost}
use Rattle.semantics.specs.State.{State}
use Rattle.semantics.specs.Step.{clearing_step, world_step}
use Rattle.test_equations.specs.Laws.{without_collections, LosesNothing}

module _ (unit : SourceUnit) (w : World) where
  -- a clearing has names, so there is none where nothing is lost
  clears_none : (s next : State) (names : List ℕ) → ClearsLost w s names next → lost w s ≡ [] → ⊥
  unfolding clearing_step
  clears_none s next names h none =
      let at : clearing_step w s [] ≡ Some next = subst (λ (ns : List ℕ). clearing_step w s ns ≡ Some next) (sym h.all ∙ none) h.possible in
      absurd (cc)

  nothing_lost : (s : State) (journal : Journal) → LosesNothing unit w (Some s) journal → lost w s ≡ []
  nothing_lost s [] n = n
  nothing_lost s (e ∷ rest) n = n.0

  nor_later : (s next : State) (e : Entry) (rest : Journal) → world_step unit w s e ≡ Some next → LosesNothing unit w (Some s) (e ∷ rest) → LosesNothing unit w (Some next) rest
  nor_later s next e rest is n = subst (λ (o : Option State). LosesNothing unit w o rest) is n.1

  pub without : {s end : State} {journal : Journal} {words : Schedule} → Follows unit w s journal words end → LosesNothing unit w (Some s) journal → Follows unit w s journal (without_collections words) end
  without (Over s) n = Over s
  without (Collects s end journal words e h) n = without h n
  without (Clears s next end names journal words c h) n = absurd (clears_none s next names c n.0)
  without (Slices s end journal words h) n = Slices s end journal (without_collections words) (without h n)
  without (SliceClears s next end names journal words c h) n = SliceClears s next end names journal (without_collections words) c (without h (nor_later s next (Clearing names) journal c n))
  without (Waits s end k journal words e h) n = Waits s end k journal (without_collections words) e (without h n)
  without (Steps s next end k refused journal words c e h) n = Steps s next end k refused journal (without_collections words) c e (without h (nor_later s next (Step k refused) journal e n))
  without (ClearsAndSteps s between next end names k refused journal words c some l e h) n = absurd (clears_none s between names l n.0)

  pub with_them : (words : Schedule) {s end : State} {journal : Journal} → Follows unit w s journal (without_collections words) end → LosesNothing unit w (Some s) journal → Follows unit w s journal words end
  with_them [] h n = h
  with_them (Collect ∷ words) {s} {end} {journal} h n = Collects s end journal words (nothing_lost s journal n) (with_them words h n)
  with_them (Slice ∷ words) (Slices s end journal rest h) n = Slices s end journal words (with_them words h n)
  with_them (Slice ∷ words) (SliceClears s next end names journal rest c h) n = SliceClears s next end names journal words c (with_them words h (nor_later s next (Clearing names) journal c n))
  with_them (Turn k ∷ words) (Waits s end m journal rest e h) n = Waits s end m journal words e (with_them words h n)
  with_them (Turn k ∷ words) (Steps s next end m refused journal rest c e h) n = Steps s next end m refused journal words c e (with_them words h (nor_later s next (Step m refused) journal e n))
  with_them (Turn k ∷ words) (ClearsAndSteps s between next end names m refused journal rest c some l e h) n = absurd (clears_none s between names l n.0)
