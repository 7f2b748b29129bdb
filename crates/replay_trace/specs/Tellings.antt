-- Traces under way.
use Rattle.syntax.specs.Limits.{IsTree}
use Rattle.syntax.specs.Views.{unit_tree}
use Rattle.type_rules.specs.TypeRules.{IsWellTyped}
use Rattle.replay_threads.specs.States.{AreInRange}
use Rattle.replay_trace.specs.declared.entries.Telling.{Telling}

-- it is of an accepted program, and its threads stand as those of one do
pub record CanTell (t : Telling) : Type 0 where
  pub tree : IsTree (unit_tree t.functions.now)
  pub well_typed : IsWellTyped (unit_tree t.functions.now)
  pub range : AreInRange t.state.threads.items
