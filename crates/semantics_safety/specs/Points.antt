-- What is known at a point of a function: the types of names, and the state of references, buffers and frames.
use Rattle.std.specs.Prelude.{◌≡◌, ℕ, Bool, true, false, ◌&&◌, ◌==◌, List, [], ◌∷◌, length, filter, Option, Some, None, if◌then◌else◌}
use Rattle.base.specs.Bytes.{Identifier, ByName, lookup}
use Rattle.base.specs.declared.element.ElementType.{ElementType}
use Rattle.syntax.specs.Tree as tree
use Rattle.syntax.specs.declared.expr.Constant.{Constant}
use Rattle.syntax.specs.declared.expr.Constant.TheVariants as constants
use Rattle.syntax.specs.declared.expr.PrefixOp.{PrefixOp}
use Rattle.syntax.specs.declared.expr.PrefixOp.TheVariants.{LogicalNot, Complement, ToWord, ToInt}
use Rattle.syntax.specs.Tree.{Argument}
use Rattle.jni.specs.declared.access.Access.{Access}
use Rattle.jni.specs.declared.kinds.ParameterKind.{ParameterKind}
use Rattle.jni.specs.declared.kinds.ParameterKind.TheVariants.{Nullable, NonNull, AnyReference, ClassObject, AnyArray, ObjectArray, StringObject, NumberArray, LocalVariable, StaticVariable, WeakVariable, FieldID, MethodID, Passed, IntNumber, TextBytes, ArrayVariable, BufferVariable, Mode, IsCopy}
use Rattle.type_rules.specs.declared.ty.ExprType.{ExprType}
use Rattle.type_rules.specs.declared.ty.ExprType.TheVariants.{Word, Jint, Flag, Truth, Ref, Global, Weak, FieldId, Buffer, Array}
use Rattle.type_rules.specs.ExprTypes.{Scope, group, type_in}
use Rattle.type_rules.specs.declared.ty.ExprType.TheVariants as types
use Rattle.type_rules.specs.TypeGroups.{IsIndexType, IsNumberType, OperatorFits}
use Rattle.region_rules.specs.RegionStates.{RegionState, VariableState, ReferenceAt, BufferIn, Usable, state_of}
use Rattle.semantics.specs.Variable.{Variable, LocalRef, Variables}
use Rattle.semantics.specs.Task.{Operand, NumberOperand, PassedName, Given}
use Rattle.semantics.specs.Term as term
use Rattle.semantics.specs.Term.{Term, Done, Read, IsNull, Prefix, And, Or, Binary}
use Rattle.semantics.specs.declared.value.Value.TheVariants as value
use Rattle.semantics.specs.declared.value.Value.{Value}

-- what is known there
pub record Point : Type 0 where
  pub names : Scope
  pub regions : RegionState

-- ---- names

-- no name occurs twice
abbrev pub AreOnce : {A : Type 0} → ByName A → Type 0
AreOnce [] = Unit {0}
AreOnce ((x, v) ∷ rest) = (lookup x rest ≡ None) × AreOnce rest

-- a live local reference
abbrev pub IsLive : Point → Identifier → Type 0
IsLive p x = (level : ℕ) × (state_of p.regions x ≡ Some (ReferenceAt level true))

-- a buffer that was tested
abbrev pub IsUsable : Point → Identifier → Type 0
IsUsable p x = (access : Access) × (array : Identifier) × (state_of p.regions x ≡ Some (BufferIn (Usable access array)))

-- what is compared with NULL
abbrev pub NullTestFits : Point → Identifier → Option ExprType → Type 0
NullTestFits p x (Some Ref) = IsLive p x
NullTestFits p x (Some Global) = Unit {0}
NullTestFits p x (Some types.FieldId) = Unit {0}
NullTestFits p x (Some types.MethodId) = Unit {0}
NullTestFits p x (Some (Buffer t writable)) = Unit {0}
NullTestFits p x s = ⊥

-- what elements are of
abbrev pub ElementsFit : Point → Identifier → Option ExprType → Type 0
ElementsFit p x (Some (Buffer t writable)) = IsUsable p x
ElementsFit p x (Some (Array t size)) = Unit {0}
ElementsFit p x s = ⊥

-- a live local reference, or a static
abbrev pub ReferenceFits : Point → Identifier → Option ExprType → Type 0
ReferenceFits p x (Some Ref) = IsLive p x
ReferenceFits p x (Some Global) = Unit {0}
ReferenceFits p x s = ⊥

-- the same, or a weak static
abbrev pub AnyReferenceFits : Point → Identifier → Option ExprType → Type 0
AnyReferenceFits p x (Some Weak) = Unit {0}
AnyReferenceFits p x s = ReferenceFits p x s

-- ---- expressions

-- the type of a value
abbrev pub value_type : Value → ExprType
value_type (value.Word n) = Word
value_type (value.Int z) = Jint
value_type (value.Flag b) = Flag
value_type (value.Truth b) = Truth

-- the type of a prefix's operand, and that of its result
abbrev pub PrefixFits : PrefixOp → (operand result : ExprType) → Type 0
PrefixFits LogicalNot r s = (r ≡ Truth) × (s ≡ Truth)
PrefixFits Complement r s = (r ≡ Word) × (s ≡ Word)
PrefixFits ToWord r s = IsNumberType r × (s ≡ Word)
PrefixFits ToInt r s = IsNumberType r × (s ≡ Jint)

-- what is left of an expression has this type, and uses no dead reference and no buffer that is free or untested
abbrev pub HasType : Point → Term → ExprType → Type 0
HasType p (Done v) s = value_type v ≡ s
HasType p (term.Number n unsigned) s = s ≡ (if unsigned then Word else Jint)
HasType p (term.Named constants.True) s = s ≡ Flag
HasType p (term.Named constants.False) s = s ≡ Flag
HasType p (term.Named c) s = ⊥
HasType p (Read x) s = (type_in p.names x ≡ Some s) × IsNumberType s
HasType p (term.Element x t) s = ElementsFit p x (type_in p.names x) × ((r : ExprType) × IsIndexType r × HasType p t r) × (s ≡ Jint)
HasType p (IsNull equal x) s = NullTestFits p x (type_in p.names x) × (s ≡ Truth)
HasType p (Prefix op t) s = (r : ExprType) × PrefixFits op r s × HasType p t r
HasType p (And a b) s = HasType p a Truth × HasType p b Truth × (s ≡ Truth)
HasType p (Or a b) s = HasType p a Truth × HasType p b Truth × (s ≡ Truth)
HasType p (Binary op a b) s = (r : ExprType) × OperatorFits (group op) r s × HasType p a r × HasType p b r

-- ---- arguments

-- a bare name of what a method may be given
abbrev pub PassedFits : Point → Identifier → Option ExprType → Type 0
PassedFits p x (Some Jint) = Unit {0}
PassedFits p x s = ReferenceFits p x s

-- a parameter that takes NULL, and references that aren't weak
pub data TakesReference : ParameterKind → Type 0 where
  nullable : TakesReference Nullable
  non_null : TakesReference NonNull
  class_object : TakesReference ClassObject
  any_array : TakesReference AnyArray
  object_array : TakesReference ObjectArray
  string : TakesReference StringObject
  number_array : {t : ElementType} → TakesReference (NumberArray t)

-- NULL, or a bare name of which this holds
pub data NullOr (holds : Identifier → Type 0) : Argument → Type 0 where
  null : NullOr holds (tree.Value (tree.Named constants.Null))
  named : {x : Identifier} → holds x → NullOr holds (tree.Value (tree.Variable x))

-- a bare name
abbrev pub name : Identifier → Operand
name x = Given (tree.Value (tree.Variable x))

-- an argument; the expression of a number is one of type Jint
pub data OperandFits (p : Point) : ParameterKind → Operand → Type 0 where
  number : {t : Term} → HasType p t Jint → OperandFits p IntNumber (NumberOperand t)
  text : {bytes : List ℕ} → OperandFits p TextBytes (Given (tree.Text bytes))
  reference : {kind : ParameterKind} {a : Argument} → TakesReference kind → NullOr (λ x. ReferenceFits p x (type_in p.names x)) a
      → OperandFits p kind (Given a)
  any_reference : {a : Argument} → NullOr (λ x. AnyReferenceFits p x (type_in p.names x)) a → OperandFits p AnyReference (Given a)
  field : {a : Argument} → NullOr (λ x. type_in p.names x ≡ Some types.FieldId) a → OperandFits p FieldID (Given a)
  method : {a : Argument} → NullOr (λ x. type_in p.names x ≡ Some types.MethodId) a → OperandFits p MethodID (Given a)
  -- a variable itself
  local : {x : Identifier} → IsLive p x → OperandFits p LocalVariable (name x)
  global : {x : Identifier} → type_in p.names x ≡ Some Global → OperandFits p StaticVariable (name x)
  weak : {x : Identifier} → type_in p.names x ≡ Some Weak → OperandFits p WeakVariable (name x)
  array : {t : ElementType} {size : ℕ} {x : Identifier} → type_in p.names x ≡ Some (Array t size) → OperandFits p (ArrayVariable t) (name x)
  buffer : {access : Access} {x : Identifier} → IsUsable p x → OperandFits p (BufferVariable access) (name x)
  -- what a method is given
  passed_number : {t : Term} → HasType p t Jint → OperandFits p Passed (NumberOperand t)
  passed_name : {x : Identifier} → PassedFits p x (type_in p.names x) → OperandFits p Passed (PassedName x)
  passed_null : OperandFits p Passed (Given (tree.Value (tree.Named constants.Null)))
  -- a number or a constant
  mode_number : {n : ℕ} {unsigned : Bool} → OperandFits p Mode (Given (tree.Value (tree.Number n unsigned)))
  mode : {c : Constant} → OperandFits p Mode (Given (tree.Value (tree.Named c)))
  -- NULL, or the address of a flag
  not_told : OperandFits p IsCopy (Given (tree.Value (tree.Named constants.Null)))
  told : {x : Identifier} → type_in p.names x ≡ Some Flag → OperandFits p IsCopy (Given (tree.AddressOf x))

-- as many arguments as parameters, and each fits
pub data OperandsFit (p : Point) : List ParameterKind → List Operand → Type 0 where
  done : OperandsFit p [] []
  next : {kind : ParameterKind} {kinds : List ParameterKind} {o : Operand} {operands : List Operand} → OperandFits p kind o
      → OperandsFit p kinds operands → OperandsFit p (kind ∷ kinds) (o ∷ operands)

-- ---- copies of references

-- a variable holds the object in this level
abbrev pub is_copy : ℕ → ℕ → Option Variable → Bool
is_copy level n (Some (LocalRef l (Some m))) = l == level && m == n
is_copy level n v = false

-- a live reference of this level that holds the object
abbrev pub owns : Variables → ℕ → ℕ → Identifier × VariableState → Bool
owns vs level n (x, ReferenceAt l live) = live && is_copy level n (lookup x vs)
owns vs level n (x, BufferIn b) = false

-- how many live references of a level hold an object
abbrev pub owners : RegionState → Variables → ℕ → ℕ → ℕ
owners regions vs level n = length (filter (owns vs level n) regions.variables)
