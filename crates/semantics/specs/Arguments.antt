-- The arguments of a call, looked up in its own step, and what each function finds at their places.
use Rattle.std.specs.Prelude.{ℕ, false, ℤ, pos, List, [], length, map, zip, slice_get, Option, Some, None}
use Rattle.syntax.specs.Tree as tree
use Rattle.base.specs.Bytes.{Identifier}
use Rattle.syntax.specs.Tree.{Expr, Argument, AddressOf}
use Rattle.class_rules.specs.Class.{NumberField}
use Rattle.class_rules.specs.Fields.{FieldId}
use Rattle.jni.specs.JniFunction.{parameters_for}
use Rattle.semantics.specs.Method.{MethodId}
use Rattle.semantics.specs.Object.{ObjectValue, Number, Refers, Reference}
use Rattle.semantics.specs.Sight.{Sight}
use Rattle.semantics.specs.Task.{Operand, NumberOperand, PassedName, Given}
use Rattle.semantics.specs.Term.{Done}
use Rattle.semantics.specs.declared.value.Value.TheVariants.{Int}
use Rattle.semantics.specs.Variable.{StaticReference, Empty, Live, as_reference}
use Rattle.base.specs.declared.element.ElementType.TheVariants.{Int as JInt}
use Rattle.jni.specs.declared.function.JniFunction.{JniFunction}
use Rattle.jni.specs.declared.kinds.ParameterKind.{ParameterKind}
use Rattle.jni.specs.declared.kinds.ParameterKind.TheVariants.{FieldID, MethodID, ArrayVariable, BufferVariable, Mode, IsCopy}
use Rattle.syntax.specs.declared.expr.Constant.TheVariants.{Commit, Abort}
use Rattle.jni.specs.declared.mode.ReleaseMode.{ReleaseMode}
use Rattle.jni.specs.declared.mode.ReleaseMode.TheVariants.{CopyBackAndFree, CopyBack, FreeUncopied}

-- an argument, looked up; a reference with the variable that holds it, and a variable itself, not its value
pub data Actual : Type 0 where
  ReferenceActual : Identifier → StaticReference → Actual
  FieldActual : Option FieldId → Actual
  MethodActual : Option MethodId → Actual
  NumberActual : ℤ → Actual
  TextActual : List ℕ → Actual
  VariableActual : Identifier → Actual
  ModeActual : ReleaseMode → Actual
  NothingActual : Actual

-- the mode that stands for `JNI_COMMIT`, `JNI_ABORT` or 0
abbrev pub mode_of : Expr → ReleaseMode
mode_of (tree.Named Commit) = CopyBack
mode_of (tree.Named Abort) = FreeUncopied
mode_of e = CopyBackAndFree

-- the variable that is named
abbrev pub named_variable : Expr → Identifier
named_variable (tree.Variable x) = x
named_variable e = []

-- a name or NULL where a reference is asked for
abbrev pub reference_argument : Sight → Expr → Actual
reference_argument sight (tree.Variable x) = ReferenceActual x (sight.reference x)
reference_argument sight e = ReferenceActual [] Empty

-- a name or NULL where a field ID is asked for
abbrev pub field_argument : Sight → Expr → Actual
field_argument sight (tree.Variable x) = FieldActual (sight.field x)
field_argument sight e = FieldActual None

-- a name or NULL where a method ID is asked for
abbrev pub method_argument : Sight → Expr → Actual
method_argument sight (tree.Variable x) = MethodActual (sight.method x)
method_argument sight e = MethodActual None

-- an argument that is neither number nor text
abbrev pub look_up_expression : Sight → ParameterKind → Expr → Actual
look_up_expression sight FieldID e = field_argument sight e
look_up_expression sight MethodID e = method_argument sight e
look_up_expression sight (ArrayVariable T) e = VariableActual (named_variable e)
look_up_expression sight (BufferVariable access) e = VariableActual (named_variable e)
look_up_expression sight Mode e = ModeActual (mode_of e)
look_up_expression sight IsCopy e = NothingActual
look_up_expression sight p e = reference_argument sight e

-- any argument
abbrev pub look_up : Sight → ParameterKind × Operand → Actual
look_up sight (p, NumberOperand (Done (Int z))) = NumberActual z
look_up sight (p, NumberOperand e) = NothingActual
look_up sight (p, PassedName x) = ReferenceActual x (sight.reference x)
look_up sight (p, Given (tree.Text bytes)) = TextActual bytes
look_up sight (p, Given (AddressOf x)) = VariableActual x
look_up sight (p, Given (Argument.Value e)) = look_up_expression sight p e

-- the arguments of a call, its numbers being worked out
abbrev pub actuals : Sight → JniFunction → List Operand → List Actual
actuals sight f operands = map (look_up sight) (zip (parameters_for f (length operands)) operands)

-- ---- an argument by its place after `env`, from 0

-- In a checked unit each of these is asked of an argument of its kind alone, or of NULL where it says so: what it answers of another never occurs.

-- the reference of an argument
abbrev pub reference_in_actual : Option Actual → Reference
reference_in_actual (Some (ReferenceActual x (Live n))) = Some n
reference_in_actual a = None

-- the reference at this place
abbrev pub reference_given : List Actual → ℕ → Reference
reference_given args i = reference_in_actual (slice_get args i)

-- the name, and 0 for NULL
abbrev pub name_or_zero : Reference → ℕ
name_or_zero None = 0
name_or_zero (Some n) = n

-- the object of a reference that isn't NULL
abbrev pub object_given : List Actual → ℕ → ℕ
object_given args i = name_or_zero (reference_given args i)

-- the number of an argument
abbrev pub number_in_actual : Option Actual → ℤ
number_in_actual (Some (NumberActual z)) = z
number_in_actual a = pos 0

-- the number at this place
abbrev pub number_given : List Actual → ℕ → ℤ
number_given args i = number_in_actual (slice_get args i)

-- the text of an argument
abbrev pub text_in_actual : Option Actual → List ℕ
text_in_actual (Some (TextActual bytes)) = bytes
text_in_actual a = []

-- the text at this place
abbrev pub text_given : List Actual → ℕ → List ℕ
text_given args i = text_in_actual (slice_get args i)

-- the field of a field ID that isn't NULL
abbrev pub field_in_actual : Option Actual → FieldId
field_in_actual (Some (FieldActual (Some f))) = f
field_in_actual a = record { class = 0; is_static = false; field = record { name = []; type = NumberField JInt } }

-- the field at this place
abbrev pub field_given : List Actual → ℕ → FieldId
field_given args i = field_in_actual (slice_get args i)

-- the method of a method ID that isn't NULL
abbrev pub method_in_actual : Option Actual → Option MethodId
method_in_actual (Some (MethodActual m)) = m
method_in_actual a = None

-- the method at this place
abbrev pub method_given : List Actual → ℕ → Option MethodId
method_given args i = method_in_actual (slice_get args i)

-- what a method is given
abbrev pub passed_value : Actual → ObjectValue
passed_value (NumberActual z) = Number z
passed_value (ReferenceActual x r) = Refers (as_reference r)
passed_value a = Refers None

-- the variable of an argument, and none for NULL
abbrev pub variable_in_actual : Option Actual → Identifier
variable_in_actual (Some (ReferenceActual x r)) = x
variable_in_actual (Some (VariableActual x)) = x
variable_in_actual a = []

-- the variable at this place
abbrev pub variable_given : List Actual → ℕ → Identifier
variable_given args i = variable_in_actual (slice_get args i)

-- the variable whose address an argument is, if it is one
abbrev pub address_in_actual : Option Actual → Option Identifier
address_in_actual (Some (VariableActual x)) = Some x
address_in_actual a = None

-- the same of the argument at this place
abbrev pub address_given : List Actual → ℕ → Option Identifier
address_given args i = address_in_actual (slice_get args i)

-- the mode of an argument
abbrev pub mode_in_actual : Option Actual → ReleaseMode
mode_in_actual (Some (ModeActual m)) = m
mode_in_actual a = CopyBackAndFree

-- the mode at this place
abbrev pub mode_given : List Actual → ℕ → ReleaseMode
mode_given args i = mode_in_actual (slice_get args i)
