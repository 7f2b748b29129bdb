-- Which fields a call names that has passed its checks: a function of fields no static, and one of statics a static.
use Rattle.std.proofs.Common.{◌≡◌, ℕ, Bool, true, false, List, Option, Some, slice_get, refl, arith}
use Rattle.base.specs.declared.element.ElementType.{ElementType}
use Rattle.syntax.specs.Tree.{SourceUnit}
use Rattle.class_rules.specs.Class.{Classes}
use Rattle.code.specs.declared.instr.Operand.{Operand}
use Rattle.heap.specs.Heap.{Space}
use Rattle.jni.specs.declared.function.JniFunction.{JniFunction}
use Rattle.jni.specs.declared.kinds.ParameterKind.TheVariants.{FieldID}
use Rattle.jni.specs.JniFunction.{parameters_for}
use Rattle.machine_scenes.specs.declared.handle.Handle.{Handle}
use Rattle.machine_scenes.specs.Given.{field_at, field_there, operand_of}
use Rattle.machine_scenes.specs.Statics.{References}
use Rattle.machine_answers.specs.Checked.{fit_together, has_field}
use Rattle.jni.specs.Subjects.{subject_of}
use Rattle.jni.specs.declared.subject.Subject.TheVariants as subject

-- the second argument is a field ID
pub takes_field : (f : JniFunction) (n : ℕ) → subject_of f ≡ subject.Fields → slice_get (parameters_for f n) 1 ≡ Some FieldID
takes_field f n of = grind (arith, of)

pub takes_static : (f : JniFunction) (n : ℕ) → subject_of f ≡ subject.Statics → slice_get (parameters_for f n) 1 ≡ Some FieldID
takes_static f n of = grind (arith, of)

module _ (unit : SourceUnit) (classes : Classes) (space : Space) (references : References) (fields : List (Option Handle)) (operands : List Operand) (wanted : ElementType) where
  abbrev pub names_static : Bool
  names_static = (field_there classes (field_at fields (operand_of operands 1))).is_static

  pub no_static : (f : JniFunction) → subject_of f ≡ subject.Fields → fit_together unit classes space references fields operands wanted f ≡ true → names_static ≡ false
  no_static f of h = grind (arith, of, h)

  -- the object has the field
  pub the_field : (f : JniFunction) → subject_of f ≡ subject.Fields → fit_together unit classes space references fields operands wanted f ≡ true → has_field unit classes space references fields operands ≡ true
  the_field f of h = by_test (has_field unit classes space references fields operands) refl
    where
      by_test : (b : Bool) → has_field unit classes space references fields operands ≡ b → has_field unit classes space references fields operands ≡ true
      by_test true e = e
      by_test false e = absurd (grind (arith, of, h, e))

  pub a_static : (f : JniFunction) → subject_of f ≡ subject.Statics → fit_together unit classes space references fields operands wanted f ≡ true → names_static ≡ true
  a_static f of h = grind (arith, of, h)
