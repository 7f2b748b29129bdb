-- The types of expressions, and the rules that a unit breaks where its types do not fit.
use Rattle.std.specs.Prelude.{ℕ, Bool, true, false, ◌&&◌, ◌||◌, List, ◌∷◌, length, Option, Some, None, if◌then◌else◌}
use Rattle.std.specs.Option.{option_or, is_none}
use Rattle.base.specs.Bytes.{Identifier, ByName, lookup}
use Rattle.base.specs.Element.{same_element}
use Rattle.syntax.specs.Parts.{null_tested}
use Rattle.syntax.specs.Tree.{Expr, Number, Named, Variable, Element, Prefix, Binary, Paren, Argument, Value, Text, AddressOf, Call}
use Rattle.jni.specs.JniFunction.{parameters_for}
use Rattle.base.specs.declared.element.ElementType.{ElementType}
use Rattle.base.specs.declared.element.ElementType.TheVariants.{Char as JChar}
use Rattle.jni.specs.declared.access.Access.{Access}
use Rattle.jni.specs.declared.access.Access.TheVariants.{ElementsCopy, ArrayView, CharsCopy, CharsView}
use Rattle.jni.specs.declared.function.JniFunction.{JniFunction}
use Rattle.jni.specs.declared.kinds.ParameterKind.{ParameterKind}
use Rattle.jni.specs.declared.kinds.ParameterKind.TheVariants.{AnyReference, LocalVariable, StaticVariable, WeakVariable, FieldID, MethodID, IntNumber, TextBytes, ArrayVariable, BufferVariable, Mode, IsCopy, Passed}
use Rattle.syntax.specs.declared.expr.PrefixOp.{PrefixOp}
use Rattle.syntax.specs.declared.expr.PrefixOp.TheVariants.{LogicalNot, Complement, ToWord, ToInt}
use Rattle.syntax.specs.declared.expr.BinaryOp.{BinaryOp}
use Rattle.syntax.specs.declared.expr.BinaryOp.TheVariants.{LogicalOr, LogicalAnd, Equal, NotEqual, Less, LessEqual, Greater, GreaterEqual}
use Rattle.syntax.specs.declared.expr.Constant.{Constant}
use Rattle.syntax.specs.declared.expr.Constant.TheVariants.{True, False, Null}
use Rattle.type_rules.specs.declared.ty.ExprType.{ExprType}
use Rattle.type_rules.specs.declared.ty.ExprType.TheVariants.{Word, Jint, Flag, Truth, Ref, Global, Weak, FieldId, MethodId, Buffer, Array}

-- the names that are known, and their types
abbrev pub Scope : Type 0
Scope = ByName ExprType

-- the type of a known name
abbrev pub type_in : Scope → Identifier → Option ExprType
type_in scope x = lookup x scope

-- a name that is not known
abbrev pub is_unknown : Scope → Identifier → Bool
is_unknown scope x = is_none (type_in scope x)

-- ---- expressions

-- what an operator works on
pub data OperatorGroup : Type 0 where
  Logic Equality Order OnWords : OperatorGroup

-- the group of an operator
abbrev pub group : BinaryOp → OperatorGroup
group LogicalOr = Logic
group LogicalAnd = Logic
group Equal = Equality
group NotEqual = Equality
group Less = Order
group LessEqual = Order
group Greater = Order
group GreaterEqual = Order
group op = OnWords

-- the type of an operator's result, from those of its operands
abbrev pub binary_type : OperatorGroup → Option ExprType → Option ExprType → Option ExprType
binary_type Logic (Some Truth) (Some Truth) = Some Truth
binary_type Equality (Some Word) (Some Word) = Some Truth
binary_type Equality (Some Jint) (Some Jint) = Some Truth
binary_type Equality (Some Flag) (Some Flag) = Some Truth
binary_type Order (Some Word) (Some Word) = Some Truth
binary_type Order (Some Jint) (Some Jint) = Some Truth
binary_type OnWords (Some Word) (Some Word) = Some Word
binary_type g a b = None

-- whether numbers and flags have this type, which a cast takes
abbrev pub is_castable : Option ExprType → Bool
is_castable (Some Word) = true
is_castable (Some Jint) = true
is_castable (Some Flag) = true
is_castable s = false

-- the type of a prefix's result
abbrev pub prefix_type : PrefixOp → Option ExprType → Option ExprType
prefix_type LogicalNot (Some Truth) = Some Truth
prefix_type Complement (Some Word) = Some Word
prefix_type ToWord s = if is_castable s then Some Word else None
prefix_type ToInt s = if is_castable s then Some Jint else None
prefix_type op s = None

-- what an index may be
abbrev pub is_index : Option ExprType → Bool
is_index (Some Word) = true
is_index (Some Jint) = true
is_index s = false

-- an element of a buffer or an array
abbrev pub has_elements : Option ExprType → Bool
has_elements (Some (Buffer t writable)) = true
has_elements (Some (Array t size)) = true
has_elements s = false

-- what may be compared with NULL
abbrev pub is_nullable : Option ExprType → Bool
is_nullable (Some Ref) = true
is_nullable (Some Global) = true
is_nullable (Some FieldId) = true
is_nullable (Some MethodId) = true
is_nullable (Some (Buffer t writable)) = true
is_nullable s = false

-- the type of a null test
abbrev pub null_test_type : Scope → Option Identifier → Option ExprType
null_test_type scope None = None
null_test_type scope (Some x) = if is_nullable (type_in scope x) then Some Truth else None

-- the flags; NULL and the modes have no type
abbrev pub constant_type : Constant → Option ExprType
constant_type True = Some Flag
constant_type False = Some Flag
constant_type c = None

-- the type of an expression, where the rules give it one
abbrev pub type_of : Scope → Expr → Option ExprType
type_of scope (Number n unsigned) = Some (if unsigned then Word else Jint)
type_of scope (Named c) = constant_type c
type_of scope (Variable x) = type_in scope x
type_of scope (Element x i) = if has_elements (type_in scope x) && is_index (type_of scope i) then Some Jint else None
type_of scope (Prefix op a) = prefix_type op (type_of scope a)
type_of scope (Binary op a b) = option_or (null_test_type scope (null_tested (Binary op a b))) (binary_type (group op) (type_of scope a) (type_of scope b))
type_of scope (Paren a) = type_of scope a

-- ---- whether forms fit

-- a Word
abbrev pub is_word : Option ExprType → Bool
is_word (Some Word) = true
is_word s = false

-- a Jint
abbrev pub is_jint : Option ExprType → Bool
is_jint (Some Jint) = true
is_jint s = false

-- a Flag
abbrev pub is_flag : Option ExprType → Bool
is_flag (Some Flag) = true
is_flag s = false

-- a Truth
abbrev pub is_truth : Option ExprType → Bool
is_truth (Some Truth) = true
is_truth s = false

-- a local reference
abbrev pub is_ref : Option ExprType → Bool
is_ref (Some Ref) = true
is_ref s = false

-- a static reference
abbrev pub is_global : Option ExprType → Bool
is_global (Some Global) = true
is_global s = false

-- a weak global reference
abbrev pub is_weak : Option ExprType → Bool
is_weak (Some Weak) = true
is_weak s = false

-- a field ID
abbrev pub is_field : Option ExprType → Bool
is_field (Some FieldId) = true
is_field s = false

-- a method ID
abbrev pub is_method : Option ExprType → Bool
is_method (Some MethodId) = true
is_method s = false

-- a local array of a type
abbrev pub is_array_of : ElementType → Option ExprType → Bool
is_array_of t (Some (Array u size)) = same_element t u
is_array_of t s = false

-- the buffers that an access may fill: a string's are const jchar *, and read-only
abbrev pub is_buffer_for : Access → Option ExprType → Bool
is_buffer_for (ElementsCopy t) (Some (Buffer u true)) = same_element t u
is_buffer_for ArrayView (Some (Buffer u true)) = true
is_buffer_for CharsCopy (Some (Buffer u false)) = same_element JChar u
is_buffer_for CharsView (Some (Buffer u false)) = same_element JChar u
is_buffer_for a s = false

-- a buffer that may not be written
abbrev pub is_read_only : Option ExprType → Bool
is_read_only (Some (Buffer t false)) = true
is_read_only s = false

-- the constant NULL itself
abbrev pub is_null : Expr → Bool
is_null (Named Null) = true
is_null e = false

-- the type of a bare name
abbrev pub name_type : Scope → Expr → Option ExprType
name_type scope (Variable x) = type_in scope x
name_type scope e = None

-- a local or a static reference
abbrev pub is_reference : Option ExprType → Bool
is_reference s = is_ref s || is_global s

-- the same, or a weak global reference
abbrev pub is_any_reference : Option ExprType → Bool
is_any_reference s = is_reference s || is_weak s

-- an argument of a parameter; a mode is judged by a rule of its own
abbrev pub value_fits : Scope → ParameterKind → Expr → Bool
value_fits scope IntNumber e = is_jint (type_of scope e)
value_fits scope TextBytes e = false
value_fits scope IsCopy e = is_null e
value_fits scope Mode e = true
value_fits scope LocalVariable e = is_ref (name_type scope e)
value_fits scope StaticVariable e = is_global (name_type scope e)
value_fits scope WeakVariable e = is_weak (name_type scope e)
value_fits scope AnyReference e = is_null e || is_any_reference (name_type scope e)
value_fits scope FieldID e = is_null e || is_field (name_type scope e)
value_fits scope MethodID e = is_null e || is_method (name_type scope e)
value_fits scope Passed e = is_jint (type_of scope e) || is_null e || is_reference (name_type scope e)
value_fits scope (ArrayVariable t) e = is_array_of t (name_type scope e)
value_fits scope (BufferVariable a) e = is_buffer_for a (name_type scope e)
value_fits scope reference e = is_null e || is_reference (name_type scope e)

-- a parameter that may be given a string
abbrev pub text_fits : ParameterKind → Bool
text_fits TextBytes = true
text_fits Mode = true
text_fits parameter = false

-- a parameter that may be given the address of this variable
abbrev pub address_fits : Scope → ParameterKind → Identifier → Bool
address_fits scope IsCopy x = is_flag (type_in scope x)
address_fits scope Mode x = true
address_fits scope parameter x = false

-- whether an argument fits its parameter
abbrev pub argument_fits : Scope → ParameterKind → Argument → Bool
argument_fits scope parameter (Value e) = value_fits scope parameter e
argument_fits scope parameter (Text t) = text_fits parameter
argument_fits scope parameter (AddressOf x) = address_fits scope parameter x

-- as far as there are both, the arguments fit their parameters
abbrev pub arguments_fit : Scope → List ParameterKind → List Argument → Bool
arguments_fit scope (parameter ∷ parameters) (a ∷ arguments) = argument_fits scope parameter a && arguments_fit scope parameters arguments
arguments_fit scope parameters arguments = true

-- whether the arguments of a call fit the function's parameters; a wrong number of them is a fault of its own
abbrev pub call_arguments_fit : Scope → Call → Option JniFunction → Bool
call_arguments_fit scope c None = true
call_arguments_fit scope c (Some f) = arguments_fit scope (parameters_for f (length c.arguments)) c.arguments
