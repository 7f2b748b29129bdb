-- What lowering knows of the statements of an accepted function.
use Rattle.std.specs.Prelude.{◌≡◌, ◌≢◌, ℕ, ◌+◌, ◌^◌, ◌<◌, ◌≤◌, ◌⊎◌, max, Bool, true, false, length, Some, None, IsTrue}
use Rattle.std.specs.List.{AllZip}
use Rattle.base.specs.Limits.{most_elements}
use Rattle.base.specs.Bytes.{Identifier, lookup}
use Rattle.base.specs.declared.element.ElementType.{ElementType}
use Rattle.syntax.specs.Tree as tree
use Rattle.syntax.specs.declared.expr.Constant.TheVariants as constants
use Rattle.syntax.specs.declared.expr.PrefixOp.TheVariants.{LogicalNot, Complement, ToWord, ToInt}
use Rattle.syntax.specs.declared.expr.BinaryOp.{BinaryOp}
use Rattle.syntax.specs.Tree.{Expr, Argument, Call, RightSide, FromExpr, FromCall, Test, TestExpr, TestCall, PlainStmt, Stmt, Else, Block, End, Next, Function}
use Rattle.jni.specs.declared.access.Access.{Access}
use Rattle.jni.specs.declared.function.JniFunction.{JniFunction}
use Rattle.jni.specs.JniFunction.{function_named, prototype, parameters_for, takes_count}
use Rattle.jni.specs.declared.kinds.ParameterKind.{ParameterKind}
use Rattle.jni.specs.declared.kinds.ParameterKind.TheVariants.{Nullable, NonNull, AnyReference, ClassObject, AnyArray, ObjectArray, StringObject, NumberArray, LocalVariable, StaticVariable, WeakVariable, FieldID, MethodID, Passed, IntNumber, TextBytes, ArrayVariable, BufferVariable, Mode, IsCopy}
use Rattle.jni.specs.declared.kinds.ResultKind.{ResultKind}
use Rattle.jni.specs.declared.kinds.ResultKind.TheVariants.{NewLocal, NewGlobal, NewWeak, GivesFlag, GivesInt, GivesField, GivesMethod, GivesBuffer, GivesNothing}
use Rattle.type_rules.specs.declared.ty.ExprType.{ExprType}
use Rattle.type_rules.specs.declared.ty.ExprType.TheVariants.{Word, Jint, Flag, Truth, Ref, Global, Weak, FieldId, MethodId, Buffer, Array}
use Rattle.type_rules.specs.ExprTypes.{group, is_buffer_for}
use Rattle.type_rules.specs.TypeRules.{declared_type, is_droppable, is_mode}
use Rattle.type_rules.specs.TypeGroups.{IsIndexType, IsNumberType, OperatorFits}
use Rattle.code.specs.declared.slots.SlotCounts.{SlotCounts}
use Rattle.semantics.specs.declared.value.Value.{Value}
use Rattle.semantics.specs.Term as term
use Rattle.semantics.specs.Term.{Term, Done, Read, And, Or, IsNull, Prefix, Binary, term_of}
use Rattle.code_meaning.specs.Layout.{Slot, Known, Layout, width, closed, layout_after, block_layout, entry_layout}
use Rattle.code_meaning.specs.Slots.{ValueHasType}

-- ---- terms

-- a name that is known as a number variable of this type
abbrev pub IsVariable : Known → Identifier → ExprType → Type 0
IsVariable known x s = (i : ℕ) × (lookup x known ≡ Some (record { ty = s; index = i })) × IsNumberType s

-- a name that is known as an array, from this slot on
abbrev pub IsArray : Known → Identifier → ElementType → (size start : ℕ) → Type 0
IsArray known x t size start = lookup x known ≡ Some (record { ty = Array t size; index = start })

-- what can be compared with NULL
abbrev pub IsNullable : ExprType → Type 0
IsNullable Ref = Unit {0}
IsNullable Global = Unit {0}
IsNullable FieldId = Unit {0}
IsNullable MethodId = Unit {0}
IsNullable (Buffer t writable) = Unit {0}
IsNullable s = ⊥

-- what has elements
abbrev pub HasElements : ExprType → Type 0
HasElements (Buffer t writable) = Unit {0}
HasElements (Array t size) = Unit {0}
HasElements s = ⊥

-- a term whose parts have the types that their operators ask for
pub data TermHasType (known : Known) : Term → ExprType → Type 0 where
  done : {v : Value} {s : ExprType} → ValueHasType v s → TermHasType known (Done v) s
  word : {n : ℕ} → n < 2 ^ 32 → TermHasType known (term.Number n true) Word
  int : {n : ℕ} → n < 2 ^ 31 → TermHasType known (term.Number n false) Jint
  true_flag : TermHasType known (term.Named constants.True) Flag
  false_flag : TermHasType known (term.Named constants.False) Flag
  read : {x : Identifier} {s : ExprType} → IsVariable known x s → TermHasType known (Read x) s
  -- of an array or a buffer
  element : {x : Identifier} {n : Slot} {t : Term} {r : ExprType} → lookup x known ≡ Some n → HasElements n.ty
      → IsIndexType r → TermHasType known t r → TermHasType known (term.Element x t) Jint
  -- a test whether a variable is NULL
  null_test : {equal : Bool} {x : Identifier} {n : Slot} → lookup x known ≡ Some n → IsNullable n.ty → TermHasType known (IsNull equal x) Truth
  logical_not : {t : Term} → TermHasType known t Truth → TermHasType known (Prefix LogicalNot t) Truth
  complement : {t : Term} → TermHasType known t Word → TermHasType known (Prefix Complement t) Word
  to_word : {t : Term} {r : ExprType} → IsNumberType r → TermHasType known t r → TermHasType known (Prefix ToWord t) Word
  to_int : {t : Term} {r : ExprType} → IsNumberType r → TermHasType known t r → TermHasType known (Prefix ToInt t) Jint
  both : {a b : Term} → TermHasType known a Truth → TermHasType known b Truth → TermHasType known (And a b) Truth
  either : {a b : Term} → TermHasType known a Truth → TermHasType known b Truth → TermHasType known (Or a b) Truth
  -- another operator with two operands, which have one type
  operator : {op : BinaryOp} {a b : Term} {r s : ExprType} → OperatorFits (group op) r s → TermHasType known a r → TermHasType known b r
      → TermHasType known (Binary op a b) s

-- no part has its value yet
abbrev pub IsUntouched : Term → Type 0
IsUntouched (Done v) = ⊥
IsUntouched (term.Element x t) = IsUntouched t
IsUntouched (Prefix op t) = IsUntouched t
IsUntouched (And a b) = IsUntouched a × IsUntouched b
IsUntouched (Or a b) = IsUntouched a × IsUntouched b
IsUntouched (Binary op a b) = IsUntouched a × IsUntouched b
IsUntouched t = Unit {0}

-- operators inside one another
abbrev pub term_height : Term → ℕ
term_height (term.Element x t) = 1 + term_height t
term_height (Prefix op t) = 1 + term_height t
term_height (And a b) = 1 + max (term_height a) (term_height b)
term_height (Or a b) = 1 + max (term_height a) (term_height b)
term_height (Binary op a b) = 1 + max (term_height a) (term_height b)
term_height t = 0

-- a number or a truth of this type, before its first step
pub record NumberFits (known : Known) (t : Term) (s : ExprType) : Type 0 where
  pub ty : TermHasType known t s
  pub untouched : IsUntouched t
  pub low : term_height t ≤ 32

-- ---- slots

-- a slot of this type is there; no variable is a truth
abbrev pub IndexWithin : SlotCounts → ExprType → ℕ → Type 0
IndexWithin slots Truth i = ⊥
IndexWithin slots Ref i = i < slots.references
IndexWithin slots Global i = i < slots.statics
IndexWithin slots Weak i = i < slots.statics
IndexWithin slots FieldId i = i < slots.field_ids
IndexWithin slots MethodId i = i < slots.field_ids
IndexWithin slots (Buffer t writable) i = i < slots.buffers
IndexWithin slots (Array t size) i = (0 < size) × (size ≤ most_elements) × (i + size ≤ slots.numbers)
IndexWithin slots s i = i < slots.numbers

-- this number slot is one of the variable's
abbrev pub IsPlaceOf : Slot → ℕ → Type 0
IsPlaceOf s k = (s.index ≤ k) × (k < s.index + width s.ty)

-- the types of buffers
abbrev pub IsBufferType : ExprType → Type 0
IsBufferType (Buffer t writable) = Unit {0}
IsBufferType s = ⊥

-- the types of field IDs and method IDs, which share their slots
abbrev pub IsHandleType : ExprType → Type 0
IsHandleType FieldId = Unit {0}
IsHandleType MethodId = Unit {0}
IsHandleType s = ⊥

-- two variables have no slot in common
pub record AreApart (s t : Slot) : Type 0 where
  pub numbers : (k : ℕ) → IsPlaceOf s k → IsPlaceOf t k → ⊥
  pub references : s.ty ≡ Ref → t.ty ≡ Ref → s.index ≢ t.index
  pub fields : IsHandleType s.ty → IsHandleType t.ty → s.index ≢ t.index
  pub buffers : IsBufferType s.ty → IsBufferType t.ty → s.index ≢ t.index

-- no known name but this has the slot
abbrev pub IsOwn : Known → Identifier → Slot → Type 0
IsOwn known x s = (y : Identifier) (t : Slot) → lookup y known ≡ Some t → y ≢ x → AreApart t s

-- each known name has slots of its own
abbrev pub HaveOwnSlots : Known → Type 0
HaveOwnSlots known = (x : Identifier) (s : Slot) → lookup x known ≡ Some s → IsOwn known x s

-- each known name has slots of its own, which are there
pub record IsLaidOut (known : Known) (slots : SlotCounts) : Type 0 where
  pub within : (x : Identifier) (s : Slot) → lookup x known ≡ Some s → IndexWithin slots s.ty s.index
  pub own : HaveOwnSlots known

-- the types of statics
abbrev pub IsStaticType : ExprType → Type 0
IsStaticType Global = Unit {0}
IsStaticType Weak = Unit {0}
IsStaticType s = ⊥

-- a known name is that of the static of this place
abbrev pub IsStaticIn : Known → Identifier → ℕ → Type 0
IsStaticIn known x i = (s : ExprType) × IsStaticType s × (lookup x known ≡ Some (record { ty = s; index = i }))

-- slots of statics alone, counted from 0
abbrev pub AreStatics : Known → Type 0
AreStatics statics = (x : Identifier) (s : Slot) → lookup x statics ≡ Some s → IsStaticType s.ty × (s.index < length statics)

-- as many of each kind at least
pub record HasRoomFor (slots taken : SlotCounts) : Type 0 where
  pub numbers : taken.numbers ≤ slots.numbers
  pub references : taken.references ≤ slots.references
  pub statics : taken.statics ≤ slots.statics
  pub field_ids : taken.field_ids ≤ slots.field_ids
  pub buffers : taken.buffers ≤ slots.buffers

-- ---- statements

-- the name of a variable of this type
abbrev pub NameFits : Known → ExprType → Expr → Type 0
NameFits known s (tree.Variable x) = (i : ℕ) × (lookup x known ≡ Some (record { ty = s; index = i }))
NameFits known s e = ⊥

-- NULL, the name of a local reference, or that of a static
abbrev pub ReferenceFits : Known → Expr → Type 0
ReferenceFits known (tree.Named constants.Null) = Unit {0}
ReferenceFits known (tree.Variable x) = (s : Slot) × (lookup x known ≡ Some s) × ((s.ty ≡ Ref) ⊎ (s.ty ≡ Global))
ReferenceFits known e = ⊥

-- the same, or the name of a weak static
abbrev pub AnyReferenceFits : Known → Expr → Type 0
AnyReferenceFits known (tree.Named constants.Null) = Unit {0}
AnyReferenceFits known (tree.Variable x) = (s : Slot) × (lookup x known ≡ Some s) × ((s.ty ≡ Ref) ⊎ IsStaticType s.ty)
AnyReferenceFits known e = ⊥

-- a parameter that is a reference
abbrev pub IsReferenceKind : ParameterKind → Type 0
IsReferenceKind Nullable = Unit {0}
IsReferenceKind NonNull = Unit {0}
IsReferenceKind AnyReference = Unit {0}
IsReferenceKind ClassObject = Unit {0}
IsReferenceKind AnyArray = Unit {0}
IsReferenceKind ObjectArray = Unit {0}
IsReferenceKind StringObject = Unit {0}
IsReferenceKind (NumberArray t) = Unit {0}
IsReferenceKind LocalVariable = Unit {0}
IsReferenceKind StaticVariable = Unit {0}
IsReferenceKind WeakVariable = Unit {0}
IsReferenceKind Passed = Unit {0}
IsReferenceKind p = ⊥

-- a parameter that `NULL` may stand for
abbrev pub TakesNull : ParameterKind → Type 0
TakesNull FieldID = Unit {0}
TakesNull MethodID = Unit {0}
TakesNull IsCopy = Unit {0}
TakesNull LocalVariable = ⊥
TakesNull StaticVariable = ⊥
TakesNull WeakVariable = ⊥
TakesNull p = IsReferenceKind p

-- a parameter that a local reference may stand for
abbrev pub TakesLocal : ParameterKind → Type 0
TakesLocal StaticVariable = ⊥
TakesLocal WeakVariable = ⊥
TakesLocal p = IsReferenceKind p

-- a parameter that a static may stand for
abbrev pub TakesGlobal : ParameterKind → Type 0
TakesGlobal LocalVariable = ⊥
TakesGlobal p = IsReferenceKind p

-- a parameter that a `jint` may stand for
abbrev pub TakesInt : ParameterKind → Type 0
TakesInt p = (p ≡ IntNumber) ⊎ (p ≡ Passed)

-- NULL, or the name of a field ID
abbrev pub FieldFits : Known → Expr → Type 0
FieldFits known (tree.Named constants.Null) = Unit {0}
FieldFits known e = NameFits known FieldId e

-- NULL, or the name of a method ID
abbrev pub MethodFits : Known → Expr → Type 0
MethodFits known (tree.Named constants.Null) = Unit {0}
MethodFits known e = NameFits known MethodId e

-- what a method is given: NULL, the name of a `jint` or of a reference, or another number
abbrev pub PassedFits : Known → Expr → Type 0
PassedFits known (tree.Named constants.Null) = Unit {0}
PassedFits known (tree.Variable x) = (s : Slot) × (lookup x known ≡ Some s) × ((s.ty ≡ Jint) ⊎ (s.ty ≡ Ref) ⊎ (s.ty ≡ Global))
PassedFits known e = NumberFits known (term_of e) Jint

-- the name of a local array with elements of this type
abbrev pub ArrayFits : Known → ElementType → Expr → Type 0
ArrayFits known t (tree.Variable x) = (size : ℕ) × (start : ℕ) × IsArray known x t size start
ArrayFits known t e = ⊥

-- the name of a buffer that this access may fill
abbrev pub BufferFits : Known → Access → Expr → Type 0
BufferFits known access (tree.Variable x) = (s : Slot) × (lookup x known ≡ Some s) × IsTrue (is_buffer_for access (Some s.ty))
BufferFits known access e = ⊥

-- an argument for a parameter
abbrev pub ArgumentFits : Known → ParameterKind → Argument → Type 0
ArgumentFits known IntNumber (tree.Value e) = NumberFits known (term_of e) Jint
ArgumentFits known FieldID (tree.Value e) = FieldFits known e
ArgumentFits known MethodID (tree.Value e) = MethodFits known e
ArgumentFits known Passed (tree.Value e) = PassedFits known e
ArgumentFits known TextBytes (tree.Text bytes) = Unit {0}
ArgumentFits known TextBytes (tree.Value e) = ⊥
ArgumentFits known (ArrayVariable t) (tree.Value e) = ArrayFits known t e
ArgumentFits known (BufferVariable access) (tree.Value e) = BufferFits known access e
ArgumentFits known Mode (tree.Value e) = IsTrue (is_mode (tree.Value e))
ArgumentFits known LocalVariable (tree.Value e) = NameFits known Ref e
ArgumentFits known StaticVariable (tree.Value e) = NameFits known Global e
ArgumentFits known WeakVariable (tree.Value e) = NameFits known Weak e
ArgumentFits known AnyReference (tree.Value e) = AnyReferenceFits known e
ArgumentFits known IsCopy (tree.Value e) = e ≡ tree.Named constants.Null
ArgumentFits known IsCopy (tree.AddressOf x) = IsVariable known x Flag
ArgumentFits known p (tree.Value e) = ReferenceFits known e
ArgumentFits known p a = ⊥

-- a call of a function that is known, with an argument for each parameter
pub record CallFits (known : Known) (c : Call) : Type 0 where
  pub function : JniFunction
  pub named : function_named c.function ≡ Some function
  pub count : takes_count function (length c.arguments) ≡ true
  pub arguments : AllZip (ArgumentFits known) (parameters_for function (length c.arguments)) c.arguments

-- a value for a variable of this type
abbrev pub ValueFits : Known → ExprType → Expr → Type 0
ValueFits known Word e = NumberFits known (term_of e) Word
ValueFits known Jint e = NumberFits known (term_of e) Jint
ValueFits known Flag e = NumberFits known (term_of e) Flag
ValueFits known Truth e = ⊥
ValueFits known (Array t size) e = ⊥
ValueFits known s e = e ≡ tree.Named constants.Null

-- what a function gives fits a variable of this type
abbrev pub ResultFits : ExprType → ResultKind → Type 0
ResultFits s GivesInt = s ≡ Jint
ResultFits s GivesFlag = s ≡ Flag
ResultFits s NewLocal = s ≡ Ref
ResultFits s NewGlobal = s ≡ Global
ResultFits s NewWeak = s ≡ Weak
ResultFits s GivesField = s ≡ FieldId
ResultFits s GivesMethod = s ≡ MethodId
ResultFits s (GivesBuffer access) = IsTrue (is_buffer_for access (Some s))
ResultFits s GivesNothing = ⊥

-- a call's result for a variable of this type
pub record CallGives (known : Known) (s : ExprType) (c : Call) : Type 0 where
  pub fits : CallFits known c
  pub result : ResultFits s (prototype fits.function).result

-- a call whose result is dropped
pub record CallDrops (known : Known) (c : Call) : Type 0 where
  pub fits : CallFits known c
  pub result : is_droppable (prototype fits.function).result ≡ true

-- a right side for such a variable
abbrev pub RightFits : Known → ExprType → RightSide → Type 0
RightFits known s (FromExpr e) = ValueFits known s e
RightFits known s (FromCall c) = CallGives known s c

-- what an `if` tests: a truth, or whether a call gives 0
abbrev pub TestFits : Known → Test → Type 0
TestFits known (TestExpr e) = NumberFits known (term_of e) Truth
TestFits known (TestCall c) = CallGives known Jint c

-- what is returned: NULL, a local reference or a number
abbrev pub ReturnFits : Known → Term → Type 0
ReturnFits known (term.Named constants.Null) = Unit {0}
ReturnFits known (Read x) = (s : Slot) × (lookup x known ≡ Some s) × ((s.ty ≡ Ref) ⊎ (s.ty ≡ Jint))
ReturnFits known t = NumberFits known t Jint

-- a name that isn't known yet
abbrev pub IsNew : Known → Identifier → Type 0
IsNew known x = lookup x known ≡ None

-- a plain statement
abbrev pub PlainFits : Known → PlainStmt → Type 0
PlainFits known (tree.Declare t x r) = IsNew known x × RightFits known (declared_type t) r
PlainFits known (tree.DeclareArray t x size) = IsNew known x × (0 < size) × (size ≤ most_elements)
PlainFits known (tree.Assign x r) = (s : Slot) × (lookup x known ≡ Some s) × RightFits known s.ty r
PlainFits known (tree.AssignElement x i e) =
    ((n : Slot) × (lookup x known ≡ Some n) × HasElements n.ty)
    × ((r : ExprType) × IsIndexType r × NumberFits known (term_of i) r) × NumberFits known (term_of e) Jint
PlainFits known (tree.Perform c) = CallDrops known c
PlainFits known (tree.PutJint e) = NumberFits known (term_of e) Jint

abbrev mutual
  -- a statement
  pub StmtFits : Layout → Stmt → Type 0
  StmtFits l (tree.Plain line p) = PlainFits l.known p
  StmtFits l (tree.If line test then' else') = TestFits l.known test × BlockFits l then' × ElseFits (closed l (block_layout l then')) else'
  StmtFits l (tree.While line test body) = NumberFits l.known (term_of test) Truth × BlockFits l body
  StmtFits l (tree.Return line None) = Unit {0}
  StmtFits l (tree.Return line (Some e)) = ReturnFits l.known (term_of e)

  -- the second block of an `if`, where it has one
  pub ElseFits : Layout → Else → Type 0
  ElseFits l tree.NoElse = Unit {0}
  ElseFits l (tree.ElseBlock b) = BlockFits l b

  -- the statements of a block
  pub BlockFits : Layout → Block → Type 0
  BlockFits l (End line) = Unit {0}
  BlockFits l (Next s rest) = StmtFits l s × BlockFits (layout_after l s) rest

-- a function after these statics
abbrev pub FunctionFits : (statics : Known) → Function → Type 0
FunctionFits statics f = BlockFits (entry_layout statics f) f.body
