-- What has to be known before a task, so that it and what follows break no rule: the point after it has what follows.
use Rattle.std.specs.Prelude.{◌≡◌, ℕ, ◌+◌, ◌<◌, ◌≤◌, Bool, true, false, ◌⊎◌, List, [], ◌∷◌, length, map, Option, Some, None, IsTrue}
use Rattle.base.specs.Bytes.{Identifier}
use Rattle.syntax.specs.Tree as tree
use Rattle.syntax.specs.declared.expr.Constant.TheVariants as constants
use Rattle.syntax.specs.Tree.{Stmt, If, While, Else, NoElse, ElseBlock, Block, End, Next, Argument, Expr, TestExpr, TestCall}
use Rattle.jni.specs.declared.access.Access.{Access}
use Rattle.jni.specs.Access.{is_critical}
use Rattle.jni.specs.declared.function.JniFunction.{JniFunction}
use Rattle.jni.specs.declared.function.JniFunction.TheVariants.{GetBuffer, ReleaseBuffer, DeleteLocalRef, PushLocalFrame, PopLocalFrame}
use Rattle.jni.specs.JniFunction.{parameters_for, takes_count, prototype}
use Rattle.jni.specs.declared.kinds.ResultKind.{ResultKind}
use Rattle.jni.specs.declared.kinds.ResultKind.TheVariants.{NewLocal, NewGlobal, NewWeak, GivesFlag, GivesInt, GivesField, GivesMethod, GivesBuffer}
use Rattle.type_rules.specs.declared.ty.ExprType.{ExprType}
use Rattle.type_rules.specs.declared.ty.ExprType.TheVariants.{Jint, Flag, Truth, Ref, Global, Weak, Buffer, Array}
use Rattle.type_rules.specs.ExprTypes.{type_in, is_buffer_for}
use Rattle.type_rules.specs.declared.ty.ExprType.TheVariants as types
use Rattle.type_rules.specs.TypeGroups.{IsIndexType, IsNumberType}
use Rattle.region_rules.specs.RegionRules.{is_critical_call}
use Rattle.region_rules.specs.RegionStates.{RegionState, VariableState, Free, Untested, Usable, ReferenceAt, BufferIn, state_of, with_new, with_changed, made_free, after_call, get_of, buffer_from, has_commit, FunctionCall}
use Rattle.region_rules.specs.Regions.{made_usable}
use Rattle.semantics.specs.Task as task
use Rattle.semantics.specs.declared.variable_kind.VariableKind.{VariableKind}
use Rattle.semantics.specs.declared.variable_kind.VariableKind.TheVariants as kinds
use Rattle.semantics.specs.Task.{Task, SetScalar, SetElement, SetNull, MakeArray, Invoke, Print, Branch, EndIf, Loop, EndTurn, Target, Declared, Assigned, Tested, Dropped, Operand, NumberOperand, PassedName, Given, task_of}
use Rattle.semantics.specs.Term.{Term, Done, Read, IsNull, term_of}
use Rattle.semantics.specs.Term as term
use Rattle.semantics.specs.declared.value.Value.{Value}
use Rattle.semantics.specs.declared.value.Value.TheVariants as value
use Rattle.semantics.specs.Variable.{Variables}
use Rattle.semantics_safety.specs.Points.{Point, AreOnce, IsLive, ElementsFit, HasType, OperandsFit, owners}

-- ---- points that follow

-- with the regions of another state
abbrev pub at : Point → RegionState → Point
at p regions = record p { regions = regions }

-- with one more name
abbrev pub named : Point → Identifier → ExprType → Point
named p x s = record p { names = (x, s) ∷ p.names }

-- a buffer that is not free, with its access and the variable of its array or string
abbrev pub Holds : Point → Identifier → Access → Identifier → Type 0
Holds p x access a = (state_of p.regions x ≡ Some (BufferIn (Untested access a))) ⊎ (state_of p.regions x ≡ Some (BufferIn (Usable access a)))

-- no buffer is of this variable's array
abbrev pub IsUnused : Point → Identifier → Type 0
IsUnused p a = (x : Identifier) (access : Access) → Holds p x access a → ⊥

-- a name that a declaration may take: nothing is known of it, and no buffer is of it
pub record IsNew (p : Point) (x : Identifier) : Type 0 where
  pub unnamed : type_in p.names x ≡ None
  pub unknown : state_of p.regions x ≡ None
  pub unused : IsUnused p x

-- from the end of a block to the point after it: what is known there was known here, and what is forgotten holds nothing
pub record Closes (inner outer : Point) : Type 0 where
  pub names : (x : Identifier) (s : ExprType) → type_in outer.names x ≡ Some s → type_in inner.names x ≡ Some s
  pub known : (x : Identifier) (v : VariableState) → state_of outer.regions x ≡ Some v → state_of inner.regions x ≡ Some v
  pub held : (x : Identifier) (access : Access) (a : Identifier) → Holds inner x access a → Holds outer x access a
  pub frames : inner.regions.frames ≡ outer.regions.frames
  pub owners : (vs : Variables) (level n : ℕ) → owners outer.regions vs level n ≤ owners inner.regions vs level n
  pub once : AreOnce outer.regions.variables

-- what is wanted after a block is wanted of what is left of its point
abbrev pub Outside : (Point → Type 0) → Point → Type 0
Outside k inner = (outer : Point) × Closes inner outer × k outer

-- ---- tests

-- what a test teaches on its two paths: nothing, or whether a buffer is NULL; a value has chosen its path
pub data Teaches (p : Point) : Term → Point → Point → Type 0 where
  Nothing : (t : Term) → Teaches p t p p
  ForNull : (x : Identifier) → Teaches p (IsNull true x) (at p (with_changed p.regions x made_free)) (at p (with_changed p.regions x made_usable))
  ForOther : (x : Identifier) → Teaches p (IsNull false x) (at p (with_changed p.regions x made_usable)) (at p (with_changed p.regions x made_free))
  IsTrueNow : (other : Point) → Teaches p (Done (value.Truth true)) p other
  IsFalseNow : (other : Point) → Teaches p (Done (value.Truth false)) other p

-- ---- targets

-- the arguments of a call, without its numbers
abbrev pub operand_argument : Operand → Argument
operand_argument (Given a) = a
operand_argument (NumberOperand t) = tree.Text []
operand_argument (PassedName x) = tree.Text []

-- the call, as the rules see it
abbrev pub call_seen : JniFunction → List Operand → Option FunctionCall
call_seen f operands = Some (f, map operand_argument operands)

-- a declared variable of this kind gets NULL
abbrev pub DeclaresNull : Point → VariableKind → Identifier → (Point → Type 0) → Type 0
DeclaresNull p kinds.Number x k = ⊥
DeclaresNull p kinds.Reference x k = IsNew p x × k (at (named p x Ref) (with_new p.regions x (ReferenceAt p.regions.frames true)))
DeclaresNull p kinds.Field x k = IsNew p x × k (named p x types.FieldId)
DeclaresNull p kinds.Method x k = IsNew p x × k (named p x types.MethodId)
DeclaresNull p (kinds.Buffer t) x k = IsNew p x × ((writable : Bool) × k (at (named p x (Buffer t writable)) (with_new p.regions x (BufferIn Free))))

-- a reference is set where the frames are those of its declaration, and no buffer is of it
pub record MaySet (p : Point) (x : Identifier) : Type 0 where
  pub live : Bool
  pub known : state_of p.regions x ≡ Some (ReferenceAt p.regions.frames live)
  pub unused : IsUnused p x

-- a reference is live
abbrev pub revived : VariableState → VariableState
revived (ReferenceAt level live) = ReferenceAt level true
revived (BufferIn b) = BufferIn b

-- a variable of this type gets NULL
abbrev pub AssignsNull : Point → Option ExprType → Identifier → (Point → Type 0) → Type 0
AssignsNull p (Some Ref) x k = MaySet p x × k (at p (with_changed p.regions x revived))
AssignsNull p (Some Global) x k = k p
AssignsNull p (Some Weak) x k = k p
AssignsNull p (Some types.FieldId) x k = k p
AssignsNull p (Some types.MethodId) x k = k p
AssignsNull p s x k = ⊥

-- NULL goes to a target
abbrev pub SetsNullThere : Point → Target → (Point → Type 0) → Type 0
SetsNullThere p (Declared kind x) k = DeclaresNull p kind x k
SetsNullThere p (Assigned x) k = AssignsNull p (type_in p.names x) x k
SetsNullThere p target k = ⊥

-- a declared variable of this kind gets a call's result
abbrev pub DeclaresResult : Point → VariableKind → Identifier → ResultKind → Option (Access × Option Identifier) → (Point → Type 0) → Type 0
DeclaresResult p kinds.Number x GivesInt get k = IsNew p x × k (named p x Jint)
DeclaresResult p kinds.Number x GivesFlag get k = IsNew p x × k (named p x Flag)
DeclaresResult p kinds.Reference x NewLocal get k = IsNew p x × k (at (named p x Ref) (with_new p.regions x (ReferenceAt p.regions.frames true)))
DeclaresResult p kinds.Field x GivesField get k = IsNew p x × k (named p x types.FieldId)
DeclaresResult p kinds.Method x GivesMethod get k = IsNew p x × k (named p x types.MethodId)
DeclaresResult p (kinds.Buffer t) x (GivesBuffer access) get k =
    IsNew p x × ((writable : Bool) × (is_buffer_for access (Some (Buffer t writable)) ≡ true)
    × k (at (named p x (Buffer t writable)) (with_new p.regions x (BufferIn (buffer_from get)))))
DeclaresResult p kind x result get k = ⊥

-- a variable of this type gets a call's result
abbrev pub AssignsResult : Point → Option ExprType → Identifier → ResultKind → Option (Access × Option Identifier) → (Point → Type 0) → Type 0
AssignsResult p (Some Jint) x GivesInt get k = k p
AssignsResult p (Some Flag) x GivesFlag get k = k p
AssignsResult p (Some Ref) x NewLocal get k = MaySet p x × k (at p (with_changed p.regions x revived))
AssignsResult p (Some Global) x NewGlobal get k = k p
AssignsResult p (Some Weak) x NewWeak get k = k p
AssignsResult p (Some types.FieldId) x GivesField get k = k p
AssignsResult p (Some types.MethodId) x GivesMethod get k = k p
AssignsResult p (Some (Buffer t writable)) x (GivesBuffer access) get k =
    (state_of p.regions x ≡ Some (BufferIn Free)) × (is_buffer_for access (Some (Buffer t writable)) ≡ true)
    × k (at p (with_changed p.regions x (λ old. BufferIn (buffer_from get))))
AssignsResult p s x result get k = ⊥

-- a call whose result is dropped gives no buffer and no global reference
abbrev pub MayDrop : ResultKind → Type 0
MayDrop NewGlobal = ⊥
MayDrop NewWeak = ⊥
MayDrop (GivesBuffer access) = ⊥
MayDrop result = Unit {0}

-- ---- calls

-- what a call asks of its point, beside the types of its arguments
abbrev pub CallKeeps : Point → JniFunction → List Argument → Type 0
CallKeeps p (GetBuffer access) (tree.Value (tree.Variable a) ∷ rest) = IsLive p a
CallKeeps p (GetBuffer access) arguments = ⊥
CallKeeps p (ReleaseBuffer access) (tree.Value (tree.Variable a) ∷ tree.Value (tree.Variable x) ∷ modes) =
    (state_of p.regions x ≡ Some (BufferIn (Usable access a))) × (has_commit modes ≡ true → is_critical access ≡ false)
CallKeeps p (ReleaseBuffer access) arguments = ⊥
CallKeeps p DeleteLocalRef (tree.Value (tree.Variable x) ∷ []) = IsUnused p x
CallKeeps p DeleteLocalRef arguments = ⊥
CallKeeps p PopLocalFrame arguments = (1 < p.regions.frames)
    × ((x a : Identifier) (access : Access) (live : Bool) → Holds p x access a
    → state_of p.regions a ≡ Some (ReferenceAt p.regions.frames live) → ⊥)
CallKeeps p f arguments = Unit {0}

-- while a buffer is critical, only critical calls are made
abbrev pub MeetsViews : Point → JniFunction → Type 0
MeetsViews p f = (x a : Identifier) (access : Access) → Holds p x access a → is_critical access ≡ true → IsTrue (is_critical_call f)

-- no buffer is critical
abbrev pub HasNoView : Point → Type 0
HasNoView p = (x a : Identifier) (access : Access) → Holds p x access a → is_critical access ≡ true → ⊥

-- a return finds no buffer held, and one frame
pub record MayReturnFrom (p : Point) : Type 0 where
  pub free : (x a : Identifier) (access : Access) → Holds p x access a → ⊥
  pub frames : p.regions.frames ≡ 1

-- whether a call makes a frame
abbrev pub is_push : JniFunction → Bool
is_push PushLocalFrame = true
is_push f = false

-- a bare name that is returned
abbrev pub ReturnedFits : Point → Identifier → Option ExprType → Type 0
ReturnedFits p x (Some Ref) = IsLive p x
ReturnedFits p x (Some Jint) = Unit {0}
ReturnedFits p x s = ⊥

-- what is returned: NULL, a live reference or a number
abbrev pub ReturnFits : Point → Term → Type 0
ReturnFits p (term.Named constants.Null) = Unit {0}
ReturnFits p (Read x) = ReturnedFits p x (type_in p.names x)
ReturnFits p t = HasType p t Jint

-- a number variable that is there, or a new one
abbrev pub SetsNumber : Identifier → ExprType → (Point → Type 0) → Point → Type 0
SetsNumber x s k p = (type_in p.names x ≡ Some s) × k p ⊎ IsNew p x × k (named p x s)

-- a result goes to a target that isn't a test
abbrev pub ResultGoes : Target → ResultKind → Option (Access × Option Identifier) → (Point → Type 0) → Point → Type 0
ResultGoes (Declared kind x) result get k p = DeclaresResult p kind x result get k
ResultGoes (Assigned x) result get k p = AssignsResult p (type_in p.names x) x result get k
ResultGoes (Tested then' else') result get k p = ⊥
ResultGoes Dropped result get k p = MayDrop result × k p

-- a call, its result aside
pub record CallFits (p : Point) (f : JniFunction) (operands : List Operand) : Type 0 where
  pub types : OperandsFit p (parameters_for f (length operands)) operands
  pub count : IsTrue (takes_count f (length operands))
  pub views : MeetsViews p f
  pub rules : CallKeeps p f (map operand_argument operands)

-- a task without blocks
abbrev pub RunsPlain : Task → (Point → Type 0) → Point → Type 0
RunsPlain (SetScalar line x t) k p = (s : ExprType) × IsNumberType s × HasType p t s × SetsNumber x s k p
RunsPlain (SetElement line x i t) k p = ElementsFit p x (type_in p.names x) × ((r : ExprType) × IsIndexType r × HasType p i r) × HasType p t Jint × k p
RunsPlain (SetNull target) k p = SetsNullThere p target k
RunsPlain (MakeArray t x size) k p = IsNew p x × k (named p x (Array t size))
RunsPlain (Invoke line target f operands) k p =
    CallFits p f operands × (is_push f ≡ false) × ResultGoes target (prototype f).result
    (get_of (call_seen f operands)) k (at p (after_call p.regions (call_seen f operands)))
RunsPlain (Print line t) k p = HasType p t Jint × HasNoView p × k p
RunsPlain task.Return k p = MayReturnFrom p
RunsPlain (task.ReturnValue line t) k p = ReturnFits p t × MayReturnFrom p
RunsPlain task k p = ⊥

-- a call that makes a frame, where it answers 0
abbrev pub RunsPush : Task → (on_true on_false : Point → Type 0) → Point → Type 0
RunsPush (Invoke line target f operands) on_true on_false p =
    CallFits p f operands × (f ≡ PushLocalFrame) × on_true (at p (record p.regions { frames = p.regions.frames + 1 })) × on_false p
RunsPush task on_true on_false p = ⊥

-- ---- statements and blocks

-- a test of an expression, with what is wanted on its two paths
abbrev pub RunsTest : Term → (on_true on_false : Point → Type 0) → Point → Type 0
RunsTest t on_true on_false p = HasType p t Truth × ((a b : Point) × Teaches p t a b × on_true a × on_false b)

abbrev mutual
  -- from this point on the block's statements break no rule, and what is wanted after it holds
  pub RunsBlock : Block → (Point → Type 0) → Point → Type 0
  RunsBlock (End line) k p = k p
  RunsBlock (Next s rest) k p = RunsStmt s (RunsBlock rest k) p

  -- the same of a statement
  pub RunsStmt : Stmt → (Point → Type 0) → Point → Type 0
  RunsStmt (If line (TestExpr e) then' else') k p = RunsTest (term_of e) (RunsBlock then' (Outside k)) (RunsElse else' (Outside k)) p
  RunsStmt (If line (TestCall c) then' else') k p =
      RunsPush (task_of (If line (TestCall c) then' else')) (RunsBlock then' (Outside k)) (RunsElse else' (Outside k)) p
  RunsStmt (While line e body) k p = HasType p (term_of e) Truth × RunsBlock body (λ q. Closes q p) p × k p
  RunsStmt s k p = RunsPlain (task_of s) k p

  -- the same of the second block of an `if`, where it has one
  pub RunsElse : Else → (Point → Type 0) → Point → Type 0
  RunsElse NoElse k p = k p
  RunsElse (ElseBlock b) k p = RunsBlock b k p

-- ---- tasks

-- a turn of a loop leads back to its beginning
abbrev pub Turns : Expr → Block → Point → Type 0
Turns e body p = HasType p (term_of e) Truth × RunsBlock body (λ q. Closes q p) p

-- from this point on the task breaks no rule, and what is wanted after it holds
abbrev pub Runs : Task → (Point → Type 0) → Point → Type 0
Runs (Branch line t then' else') k p = RunsTest t (RunsBlock then' (Outside k)) (RunsBlock else' (Outside k)) p
Runs EndIf k p = Outside k p
Runs (Loop line e t body) k p = HasType p t Truth × Turns e body p × k p
Runs (EndTurn line e body) k p = (q : Point) × Closes p q × Turns e body q × k q
Runs (Invoke line (Tested then' else') f operands) k p = RunsPush (Invoke line (Tested then' else') f operands)
    (RunsBlock then' (Outside k)) (RunsBlock else' (Outside k)) p
Runs task k p = RunsPlain task k p

-- from this point on all tasks break no rule, and a return comes before their end
abbrev pub GoesOn : List Task → Point → Type 0
GoesOn [] p = ⊥
GoesOn (task ∷ rest) p = Runs task (GoesOn rest) p
