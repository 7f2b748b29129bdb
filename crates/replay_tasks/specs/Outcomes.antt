-- What a step of a task does to the variables.
use Rattle.std.specs.Prelude.{◌≡◌, ℕ, true, false, Bool, pos, length, replicate, [], Option, Some, None}
use Rattle.std.specs.Borrow.{Bor}
use Rattle.base.specs.Bytes.{Identifier, lookup}
use Rattle.syntax.specs.declared.stmt.Block.{Block as BlockInMemory}
use Rattle.syntax.specs.Tree.{Block, End}
use Rattle.syntax.specs.Views.{block_tree}
use Rattle.base.specs.declared.element.ElementType.{ElementType}
use Rattle.semantics.specs.CallEffects.{CallResult, NoResult, BufferResult, NullResult, ReferenceResult, ScalarResult}
use Rattle.semantics.specs.CallStep.{put, is_zero}
use Rattle.semantics.specs.Heap.{Heap}
use Rattle.semantics.specs.declared.variable_kind.VariableKind.{VariableKind}
use Rattle.semantics.specs.declared.variable_kind.VariableKind.TheVariants as kinds
use Rattle.semantics.specs.Task.{Target, Declared, Assigned, Tested, Dropped}
use Rattle.semantics.specs.Thread.{Thread, Shared, Advance, Advances, NoAdvance}
use Rattle.semantics.specs.declared.event.Event.TheVariants.{Quiet}
use Rattle.semantics.specs.ThreadStep.{set_variable, set_element}
use Rattle.semantics.specs.Views.{name_of}
use Rattle.semantics.specs.Variable.{Buffer, Variable, Scalar, Elements, LocalArray, Statics}
use Rattle.replay_tasks.specs.declared.outcome.CallResult.{CallResult as ResultInMemory}
use Rattle.replay_tasks.specs.declared.outcome.CallResult.TheVariants as result
use Rattle.replay_tasks.specs.declared.outcome.Outcome.{Outcome}
use Rattle.replay_tasks.specs.declared.outcome.Outcome.TheVariants as outcome
use Rattle.replay_tasks.specs.declared.outcome.Target.{Target as TargetInMemory}
use Rattle.replay_tasks.specs.declared.outcome.Target.TheVariants as target
use Rattle.replay_tasks.specs.declared.put.Loan.{Loan}
use Rattle.replay_terms.specs.declared.given.Given.{Given}
use Rattle.replay_tasks.specs.declared.outcome.Purpose.{Purpose as PurposeInMemory}
use Rattle.replay_tasks.specs.declared.outcome.Purpose.TheVariants as purpose
use Rattle.replay_terms.specs.Views.{given_view, lent_view, Contents, variables_view}

abbrev pub target_view : TargetInMemory → Target
target_view (target.Declared kind x) = Declared kind x.now
target_view (target.Assigned x) = Assigned x.now
target_view target.Dropped = Dropped

-- it has a name
abbrev pub IsNamed : TargetInMemory → Type 0
IsNamed target.Dropped = ⊥
IsNamed to = Unit {0}

abbrev pub target_name : TargetInMemory → Identifier
target_name (target.Declared kind x) = x.now
target_name (target.Assigned x) = x.now
target_name target.Dropped = []

-- what a call gives that returns
abbrev pub result_view : ResultInMemory → CallResult
result_view result.Nothing = NoResult
result_view (result.Number v) = ScalarResult v
result_view (result.Reference r) = ReferenceResult (name_of r)

-- the block of an `else`, which may be missing in an `if` of this line
abbrev pub else_tree : ℕ → Option (Bor BlockInMemory) → Block
else_tree line None = End line
else_tree line (Some b) = block_tree b.now

-- the buffer that is lent
abbrev pub loan_view : Loan → Buffer
loan_view l = lent_view l.store.now l.buffer

-- the purpose of a call's result, in a statement of this line
abbrev pub purpose_view : ℕ → PurposeInMemory → Target
purpose_view line (purpose.Put to) = target_view to
purpose_view line (purpose.Test b other) = Tested (block_tree b.now) (else_tree line other)

-- what a call does with what it gave
abbrev pub outcome_for : ℕ → PurposeInMemory → Given → Outcome
outcome_for line (purpose.Put to) g = outcome.Gives to g
outcome_for line (purpose.Test b other) g = outcome.Tests line (is_zero (given_view g)) b other

-- what a step does that sets a variable, and else nothing
abbrev pub variable_step : Outcome → Shared → Thread → Advance
variable_step (outcome.Sets x v) s t = set_variable s t x.now (Scalar v)
variable_step (outcome.SetsNull to) s t = put (target_view to) NullResult s t
variable_step (outcome.Gives to g) s t = put (target_view to) (given_view g) s t
variable_step (outcome.Lends to b) s t = put (target_view to) (BufferResult (lent_view s.heap b)) s t
variable_step (outcome.SetsElement x i z) s t = set_element s t x.now i z (lookup x.now t.variables)
variable_step (outcome.Makes T x n) s t = set_variable s t x.now (LocalArray T (replicate n (pos 0)))
variable_step took s t = Advances s t Quiet

-- it is a buffer of this element type
abbrev pub IsBuffer : ElementType → Variable → Type 0
IsBuffer T (Elements U b) = U ≡ T
IsBuffer T v = ⊥

-- a thread with this number of frames has these variables, and these are the statics and the objects
pub record Holds (count : ℕ) (ss : Statics) (objects : Heap) (vs : Contents) (s : Shared) (t : Thread) : Type 0 where
  pub variables : t.variables ≡ variables_view vs
  pub frames : length t.frames ≡ count
  pub statics : s.statics ≡ ss
  pub heap : s.heap ≡ objects

-- a step leaves each such thread with the new variables, and these statics and objects
abbrev pub LeavesVariables : ℕ → Statics → Heap → Contents → (Shared → Thread → Advance) → Statics → Heap → Contents → Type 0
LeavesVariables frames ss heap old step ss' heap' new =
    (s : Shared) (t : Thread) → Holds frames ss heap old s t
    → step s t ≡ Advances (record s { statics = ss'; heap = heap' }) (record t { variables = variables_view new }) Quiet

-- the same if it is possible
abbrev pub LeavesIf : ℕ → Statics → Heap → Contents → (Shared → Thread → Advance) → (possible : Bool) → Statics → Heap → Contents → Type 0
LeavesIf frames ss heap old step true ss' heap' new = LeavesVariables frames ss heap old step ss' heap' new
LeavesIf frames ss heap old step false ss' heap' new = (s : Shared) (t : Thread) → Holds frames ss heap old s t → step s t ≡ NoAdvance
