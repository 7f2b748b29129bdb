-- What the functions of monitors can do.
use Rattle.std.proofs.Common.{ℕ, ◌+◌, ◌-◌, List, [], Option, Some, None}
use Rattle.std.specs.Prelude.{◌==◌, nat_lt, negsuc}
use Rattle.std.proofs.lemmas.Bool.{cond_both}
use Rattle.class_rules.specs.BuiltIns.{illegal_monitor_state}
use Rattle.class_rules.specs.Class.{Classes}
use Rattle.machine_answers.specs.Answers.{Brought, effect_told}
use Rattle.semantics.specs.Answer.{Answer, Disowns, Gives, Owns, Raises, effect_of}
use Rattle.semantics.specs.AnswerTable.{monitor_entered, monitor_left}
use Rattle.semantics.specs.CallEffects.{CallEffect, Leaves, Throws, ScalarResult, monitors_effect}
use Rattle.semantics.specs.Thread.{Monitor, Shared, Thread}
use Rattle.semantics.specs.declared.value.Value.TheVariants.{Int}

module _ (classes : Classes) (brought : Brought) (shared : Shared) (t : Thread) (n : ℕ) (P : CallEffect → Type 0) where
  -- it holds of the effect of an answer
  abbrev Holds : Answer → Type 0
  Holds a = P (effect_told classes brought shared t a)

  -- other monitors are owned, or -1 is given
  pub enter_cases : ((monitors : List Monitor) → P (monitors_effect shared t monitors)) → P (Leaves [] shared t (ScalarResult (Int (negsuc 0)))) → (o : Option Monitor) → Holds (monitor_entered n o)
  unfolding effect_of
  enter_cases owns fails None = owns _
  enter_cases owns fails (Some m) = cond_both (nat_lt m.count 255) (Owns n (m.count + 1)) (Gives (ScalarResult (Int (negsuc 0)))) Holds (λ e. owns _) (λ e. fails)

  -- other monitors are owned, or an exception is thrown
  pub exit_cases : ((monitors : List Monitor) → P (monitors_effect shared t monitors)) → P (Throws illegal_monitor_state) → (o : Option Monitor) → Holds (monitor_left brought.thread n o)
  unfolding effect_of
  exit_cases owns fails None = fails
  exit_cases owns fails (Some m) =
      cond_both (m.owner == brought.thread) _ (Raises illegal_monitor_state) Holds
      (λ e. cond_both (m.count == 1) (Disowns n) (Owns n (m.count - 1)) Holds (λ last. owns _) (λ more. owns _)) (λ e. fails)
