-- Arguments that lie in memory, as those of the language.
use Rattle.std.specs.Prelude.{◌≡◌, ℕ, true, false, List, [], Option, Some, None, slice_get}
use Rattle.std.specs.Option.{option_map}
use Rattle.std.specs.Borrow.{Bor}
use Rattle.base.specs.Bytes.{Identifier}
use Rattle.base.specs.declared.element.ElementType.TheVariants.{Int as JInt}
use Rattle.classes.specs.FieldViews.{field_id_view}
use Rattle.classes.specs.declared.fields.FieldId.{FieldId as IdInMemory}
use Rattle.class_rules.specs.Class.{NumberField}
use Rattle.class_rules.specs.Fields.{FieldId}
use Rattle.jni.specs.declared.kinds.ParameterKind.{ParameterKind}
use Rattle.semantics.specs.Effect.{is_given}
use Rattle.semantics.specs.Sight.{Sight}
use Rattle.semantics.specs.Task.{Operand}
use Rattle.semantics.specs.Arguments.{look_up, Actual, ReferenceActual, FieldActual, MethodActual, NumberActual, TextActual, VariableActual, ModeActual, NothingActual}
use Rattle.replay_arguments.specs.declared.actual.Actual.{Actual as InMemory}
use Rattle.replay_arguments.specs.declared.actual.Actual.TheVariants as actual
use Rattle.replay_terms.specs.Views.{held_view, method_view}

-- a name, which is empty where there is none
abbrev pub name_view : Option (Bor Identifier) → Identifier
name_view None = []
name_view (Some x) = x.now

abbrev pub actual_view : InMemory → Actual
actual_view (actual.Reference x r) = ReferenceActual (name_view x) (held_view r)
actual_view (actual.Field f) = FieldActual (option_map field_id_view f)
actual_view (actual.Method m) = MethodActual (option_map method_view m)
actual_view (actual.Number z) = NumberActual z
actual_view (actual.Text bytes) = TextActual bytes.now
actual_view (actual.Variable x) = VariableActual (name_view x)
actual_view (actual.Mode m) = ModeActual m
actual_view actual.Nothing = NothingActual

-- where this can be seen, the argument for the parameter at a place is looked up, and is no number that is still to be worked out
pub record IsReadyAt (sight : Sight) (ps : List ParameterKind) (os : List Operand) (place : ℕ) (a : Actual) : Type 0 where
  pub parameter : ParameterKind
  pub asks : slice_get ps place ≡ Some parameter
  pub operand : Operand
  pub there : slice_get os place ≡ Some operand
  pub ready : is_given sight.number operand ≡ true
  pub is : a ≡ look_up sight (parameter, operand)

-- the field of a field ID that isn't NULL
abbrev pub given_field : Option IdInMemory → FieldId
given_field None = record { class = 0; is_static = false; field = record { name = []; type = NumberField JInt } }
given_field (Some f) = field_id_view f
