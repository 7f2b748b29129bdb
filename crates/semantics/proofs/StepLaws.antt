-- A step of a run is a step of one thread.
use Rattle.std.specs.Prelude.{◌≡◌, ℕ, Bool, true, false, ◌∷◌, Some, None, refl, is_none, not, ◌&&◌}
use Rattle.std.proofs.Common.{ap, ◌∙◌}
use Rattle.std.proofs.lemmas.Bool.{and_from}
use Rattle.syntax.specs.Tree.{SourceUnit}
use Rattle.class_rules.specs.Class.{Classes}
use Rattle.semantics.specs.Thread.{Thread}
use Rattle.semantics.specs.State.{State, thread_at, in_use, advanced}
use Rattle.semantics.specs.declared.event.Ending.TheVariants.{Unfinished}
use Rattle.semantics.specs.ThreadStep.{thread_step, waits}
use Rattle.semantics.specs.Step.{turn_step, can_step, is_live, is_unfinished, is_waiting}

-- thread k is t, which can step
pub record Steps (classes : Classes) (s : State) (k : ℕ) (t : Thread) : Type 0 where
  pub thread : thread_at s k ≡ Some t
  pub can : can_step classes s k ≡ true

-- a thread that hasn't ended and doesn't wait can step, where the machine hasn't stopped
pub steps : (classes : Classes) (s : State) (k : ℕ) (t : Thread) → s.stop ≡ None → thread_at s k ≡ Some t → t.ending ≡ Unfinished → waits classes k s.shared t ≡ false → Steps classes s k t
steps classes s k t goes here live free = record {
  thread = here;
  can = and_from (is_none s.stop && is_live (thread_at s k)) (not (is_waiting classes k s.shared (thread_at s k)))
      (and_from (is_none s.stop) (is_live (thread_at s k)) (ap is_none goes) (ap is_live here ∙ ap is_unfinished live))
      (ap (λ o. not (is_waiting classes k s.shared o)) here ∙ ap not free);
}

-- the run's step is the thread's
pub step-thread : (unit : SourceUnit) (classes : Classes) (s : State) (k : ℕ) (t : Thread) (refused : Bool) → Steps classes s k t
    → turn_step unit classes s k refused ≡ advanced s k (thread_step unit classes (in_use s) k s.shared t refused)
unfolding turn_step
step-thread unit classes s k t refused h = rw (h.can, h.thread) refl
