use Rattle.std.proofs.Common.{◌≡◌, ℕ, ◌+◌, ◌≤◌, drop, filter}
use Rattle.std.specs.Prelude.{slice_get}
use Rattle.syntax.specs.Parts.{functions_of}
use Rattle.syntax.specs.Views.{unit_tree}
use Rattle.semantics.specs.Method.{is_method_of}
use Rattle.class_queries.proofs.methods.find_own.Given as goal

-- what is found among the items that are left is what is found, and they are numbered from here on
abbrev pub invariant-loop-item : goal.invariant-loop-item
invariant-loop-item l = record {
  few : l.number ≤ l.item-index;
  numbered : (k : ℕ) → slice_get (functions_of (unit_tree (drop l.item-index l.items))) k ≡ slice_get (functions_of (unit_tree l.items)) (l.number + k);
  found : slice_get (filter (is_method_of l.classes l.class.number l.name l.text) (functions_of (unit_tree (drop l.item-index l.items)))) 0
      ≡ slice_get (filter (is_method_of l.classes l.class.number l.name l.text) (functions_of (unit_tree l.items))) 0;
}
