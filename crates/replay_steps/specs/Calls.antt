-- What a call in memory does.
use Rattle.std.specs.Prelude.{◌≡◌, ℕ, Bool, true, false, List, ◌∷◌, map, Option, Some, None}
use Rattle.jni.specs.declared.function.JniFunction.{JniFunction}
use Rattle.semantics.specs.Arguments.{Actual, actuals}
use Rattle.base.specs.declared.element.ElementType.{ElementType}
use Rattle.semantics.specs.CallStep.{call_step, target_element}
use Rattle.semantics.specs.Effect.{is_given, is_ready, reduce_first}
use Rattle.semantics.specs.Sight.{Sight}
use Rattle.semantics.specs.Task.{Task, Invoke, Operand as OperandOfCall}
use Rattle.semantics.specs.Thread.{Thread}
use Rattle.semantics.specs.Value.{Gives, Traps, Stuck}
use Rattle.replay_tasks.specs.declared.outcome.Outcome.{Outcome}
use Rattle.replay_tasks.specs.declared.outcome.Outcome.TheVariants as outcome
use Rattle.replay_tasks.specs.declared.outcome.Purpose.{Purpose as PurposeInMemory}
use Rattle.replay_tasks.specs.declared.outcome.Purpose.TheVariants as purpose
use Rattle.replay_terms.specs.declared.given.Lent.{Lent}
use Rattle.replay_tasks.specs.declared.task.Invocation.{Invocation}
use Rattle.replay_terms.specs.declared.operand.Operand.{Operand}
use Rattle.replay_terms.specs.declared.operand.Operands.{Operands}
use Rattle.replay_tasks.specs.declared.task.Task.{Task as TaskInMemory}
use Rattle.replay_terms.specs.declared.reduction.Reduction.{Reduction as ReductionInMemory}
use Rattle.replay_terms.specs.declared.reduction.Reduction.TheVariants as reduction
use Rattle.replay_tasks.specs.Outcomes.{purpose_view}
use Rattle.replay_calls.specs.Answers.{answered, FitsCall, array_given}
use Rattle.semantics.specs.Answer.{Answer}
use Rattle.semantics.specs.AnswerTable.{call_answer}
use Rattle.semantics.specs.CallSight.{CallSight, call_seen}
use Rattle.semantics.specs.Checks.{trap_of}
use Rattle.replay_steps.specs.Steps.{Scene, Sees, in_scene, left_by}
use Rattle.replay_terms.specs.Views.{Contents, operand_view, operands_view, variables_view}
use Rattle.replay_arguments.specs.Shares.{sight_in}
use Rattle.replay_tasks.specs.Tasks.{task_view}

-- Where this can be seen, each number is worked out already, or what was done is the step of the first that isn't: of operands that lie in memory like this.
abbrev pub ReducesFirstBy : {T : Type 0} → (T → List OperandOfCall) → Sight → T → Option ReductionInMemory → T → Type 0
ReducesFirstBy view sight old None new = (is_ready sight.number (view old) ≡ true) × (new ≡ old)
ReducesFirstBy view sight old (Some reduction.Reduced) new = (is_ready sight.number (view old) ≡ false) × (reduce_first sight (view old) ≡ Gives (view new))
ReducesFirstBy view sight old (Some (reduction.Trapped trap)) new =
    (is_ready sight.number (view old) ≡ false) × (reduce_first sight (view old) ≡ Traps trap) × (new ≡ old)
ReducesFirstBy view sight old (Some reduction.Stuck) new = (is_ready sight.number (view old) ≡ false) × (reduce_first sight (view old) ≡ Stuck)

-- that of all of a call, and that of a list
abbrev pub ReducesFirst : Sight → Operands → Option ReductionInMemory → Operands → Type 0
ReducesFirst sight old took new = ReducesFirstBy operands_view sight old took new

abbrev pub ReducesListed : Sight → List Operand → Option ReductionInMemory → List Operand → Type 0
ReducesListed sight old took new = ReducesFirstBy (map operand_view) sight old took new

-- the same of one of them, with others after it
abbrev pub ReducesOne : Sight → Operand → Option ReductionInMemory → Operand → Type 0
ReducesOne sight old None new = (is_given sight.number (operand_view old) ≡ true) × (new ≡ old)
ReducesOne sight old (Some took) new = (rest : List Operand) → ReducesListed sight (old ∷ rest) (Some took) (new ∷ rest)

-- a task is a call of a function that finds these arguments
pub record FindsArguments (before : Scene) (line : ℕ) (purpose : PurposeInMemory) (f : JniFunction) (args : List Actual) (new : Task) : Type 0 where
  pub operands : List OperandOfCall
  pub is : new ≡ Invoke line (purpose_view line purpose) f operands
  pub found : args ≡ actuals (sight_in before.shared before.variables) f operands

-- What was done is the call's own step, for each thread of the scene before it, or what it does with its object
-- refused. It leaves the scene after it.
abbrev pub MakesCall : (refused : Bool) → Scene → (line : ℕ) → PurposeInMemory → JniFunction → List Actual → Outcome
    → Scene → Type 0
MakesCall refused before line purpose f args took after =
    (t : Thread) (rest : List Task) (new : TaskInMemory) → Sees before t → t.tasks ≡ Some (task_view new ∷ rest)
    → FindsArguments before line purpose f args (task_view new)
    → call_step before.unit before.classes before.in_use before.thread before.shared t line
    (purpose_view line purpose) f args rest refused
    ≡ left_by before.thread after.shared (in_scene t after) rest took new

-- the same for an invocation with these arguments
abbrev pub MakesCallOf : (refused : Bool) → Scene → Invocation → List Actual → Outcome → Scene → Type 0
MakesCallOf refused before i args took after =
    MakesCall refused before i.line i.purpose i.function args took after

-- the same with its own arguments, which are looked up before it
abbrev pub MakesInvocation : (refused : Bool) → Scene → Invocation → Outcome → Scene → Type 0
MakesInvocation refused before i took after =
    MakesCallOf refused before i
    (actuals (sight_in before.shared before.variables) i.function (operands_view i.operands))
    took after

-- what a call does with the buffer that it gives
abbrev pub lent_outcome : ℕ → PurposeInMemory → Lent → Outcome
lent_outcome line (purpose.Put to) b = outcome.Lends to b
lent_outcome line (purpose.Test b other) lent = outcome.Tests line false b other

-- the element type of the buffer that a call is to fill
abbrev pub wanted_element : Contents → PurposeInMemory → ElementType
wanted_element vs p = target_element (variables_view vs) (purpose_view 0 p)

-- what an invocation with these arguments sees in this scene, where no other call waits for it
abbrev pub seen_by : Scene → Invocation → List Actual → CallSight
seen_by scene i args =
    call_seen scene.shared (variables_view scene.variables) scene.frames 0 scene.pending i.function args

-- this is the answer to an invocation with these arguments, in this scene
pub record HasAnswer (scene : Scene) (i : Invocation) (args : List Actual) (a : Answer) : Type 0 where
  pub is : a
      ≡ answered (trap_of scene.classes (seen_by scene i args) (wanted_element scene.variables i.purpose) i.function)
      (call_answer scene.unit scene.classes scene.thread (seen_by scene i args) i.function)
  pub fits : FitsCall scene.shared.heap (array_given (variables_view scene.variables) args) i.function a
