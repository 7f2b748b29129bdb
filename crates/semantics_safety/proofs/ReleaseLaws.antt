-- A release names the array or string that its buffer came from.
use Rattle.std.proofs.Common.{◌≡◌, ℕ, Bool, true, false, List, ◌∷◌, map, Option, Some, refl, sym, ap, ◌∙◌}
use Rattle.base.specs.Bytes.{Identifier, lookup}
use Rattle.syntax.specs.Tree as tree
use Rattle.jni.specs.declared.access.Access.{Access}
use Rattle.jni.specs.declared.access.Access.TheVariants.{ElementsCopy, ArrayView, CharsCopy, CharsView}
use Rattle.jni.specs.Access.{is_critical}
use Rattle.jni.specs.declared.function.JniFunction.TheVariants.{ReleaseBuffer}
use Rattle.jni.specs.Prototype.{owner}
use Rattle.semantics.specs.Arguments.{Actual, ReferenceActual, look_up, actuals, object_given, variable_given, reference_in_actual, name_or_zero}
use Rattle.semantics.specs.Heap.{Heap}
use Rattle.semantics.specs.Sight.{Sight, seen, held_reference}
use Rattle.semantics.specs.Task.{Operand, Given}
use Rattle.semantics.specs.Thread.{Frame}
use Rattle.semantics.specs.Variable.{Variable, Elements, Buffer, Variables, Statics}
use Rattle.semantics_safety.specs.Owners.{Owners}
use Rattle.semantics_safety.specs.Points.{Point}
use Rattle.semantics_safety.specs.StepSafe.{came_from}
use Rattle.semantics_safety.specs.Stands.{IsOf, Stands}
use Rattle.semantics_safety.specs.Wanted.{CallKeeps, operand_argument}
use Rattle.semantics_safety.specs.WeakNames.{WeakNames}

first_actual : (sight : Sight) (access : Access) (a : Identifier) → look_up sight (owner access, Given (tree.Value (tree.Variable a))) ≡ ReferenceActual a (sight.reference a)
first_actual sight (ElementsCopy t) a = refl
first_actual sight ArrayView a = refl
first_actual sight CharsCopy a = refl
first_actual sight CharsView a = refl

came : (u : _) (critical : Bool) (n : ℕ) (b : Buffer) → IsOf critical n b → came_from (Some (Elements u b)) ≡ Some n
came u true n b e = ap (λ (c : Buffer). came_from (Some (Elements u c))) e
came u false n b (zs, e) = ap (λ (c : Buffer). came_from (Some (Elements u c))) e

-- the name that an argument gives, and 0 for none
abbrev name_in : Actual → ℕ
name_in a = name_or_zero (reference_in_actual (Some a))

module _ (heap : Heap) (ss : Statics) (vs : Variables) (frames : List Frame) (p : Point) {weak : WeakNames} {own : Owners} (stands : Stands weak own ss vs frames p) (access : Access) where
  abbrev sight : Sight
  sight = seen vs ss heap

  pub release_clause : (operands : List Operand) → CallKeeps p (ReleaseBuffer access) (map operand_argument operands)
      → came_from (lookup (variable_given (actuals sight (ReleaseBuffer access) operands) 1) vs) ≡ Some (object_given (actuals sight (ReleaseBuffer access) operands) 0)
  release_clause (Given (tree.Value (tree.Variable a)) ∷ Given (tree.Value (tree.Variable x)) ∷ modes) (e, commits) =
      let shown = stands.shows x _ e in
      let lends = shown.3 in
      let here : came_from (lookup x vs) ≡ Some lends.0 = ap came_from shown.2 ∙ came shown.0 (is_critical access) lends.0 shown.1 lends.3 in
      let there : name_in (look_up sight (owner access, Given (tree.Value (tree.Variable a)))) ≡ lends.0 =
      ap name_in (first_actual sight access a) ∙ ap (λ (o : Option Variable). name_in (ReferenceActual a (held_reference o (lookup a ss)))) lends.2 in
      here ∙ ap (λ (n : ℕ). Some n) (sym there)
  release_clause operands h = absurd h
