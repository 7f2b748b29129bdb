use Rattle.std.proofs.Common.{◌≡◌, ℕ, ◌+◌, ◌≤◌, drop}
use Rattle.std.specs.Prelude.{slice_get}
use Rattle.syntax.specs.Parts.{functions_of}
use Rattle.syntax.specs.Views.{unit_tree}
use Rattle.machine_answers.proofs.answer.item_of.Given as goal

-- the functions among the items that are left are numbered from here on
abbrev pub invariant-loop-item : goal.invariant-loop-item
invariant-loop-item l = record {
  here : l.place ≡ l.item-index;
  few : l.before ≤ l.item-index;
  past : l.before ≤ l.function;
  numbered : (k : ℕ) → slice_get (functions_of (unit_tree (drop l.item-index l.items))) k ≡ slice_get (functions_of (unit_tree l.items)) (l.before + k);
}
