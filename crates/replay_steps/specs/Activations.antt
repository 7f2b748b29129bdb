-- The tasks of a call in progress, and what a step of it does.
use Rattle.std.specs.Prelude.{◌≡◌, ℕ, Bool, true, false, List, [], ◌∷◌, ◌++◌, length, Option, Some, None}
use Rattle.syntax.specs.declared.expr.Expr.{Expr as ExprInMemory}
use Rattle.syntax.specs.declared.stmt.Block.{Block as BlockInMemory}
use Rattle.syntax.specs.declared.stmt.Stmt.{Stmt as StmtInMemory}
use Rattle.syntax.specs.Views.{expr_tree, block_tree, stmt_tree}
use Rattle.semantics.specs.Return.{return_step}
use Rattle.semantics.specs.Heap.{Heap}
use Rattle.semantics.specs.Sight.{Sight}
use Rattle.semantics.specs.Task.{Task, Loop, task_of}
use Rattle.semantics.specs.Term.{term_of}
use Rattle.semantics.specs.Thread.{Thread, Shared, Advance, NoAdvance}
use Rattle.semantics.specs.Thread as thread
use Rattle.semantics.specs.declared.event.Event.TheVariants.{Quiet, PrintedNumber, Trapped}
use Rattle.semantics.specs.ThreadStep.{step_within, with_tasks}
use Rattle.semantics.specs.Variable.{Statics}
use Rattle.replay_arguments.specs.declared.scene.Turn.{Turn}
use Rattle.replay_arguments.specs.declared.shared.Shared.{Shared as SharedInMemory}
use Rattle.replay_steps.specs.declared.activation.Activation.{Activation}
use Rattle.replay_steps.specs.declared.activation.Outer.{Outer}
use Rattle.replay_steps.specs.declared.activation.Work.{Work}
use Rattle.replay_tasks.specs.declared.outcome.Outcome.{Outcome}
use Rattle.replay_tasks.specs.declared.outcome.Outcome.TheVariants as outcome
use Rattle.replay_tasks.specs.declared.task.Task.{Task as TaskInMemory}
use Rattle.replay_steps.specs.Steps.{Scene, calling_by, in_scene, scene_at, Sees, Does}
use Rattle.replay_tasks.specs.Effects.{HasEffect}
use Rattle.replay_tasks.specs.Outcomes.{result_view, variable_step, LeavesVariables, LeavesIf}
use Rattle.replay_tasks.specs.Tasks.{branch_task, BegunInRange, task_view, end_view, statements_in, tasks_of_statements, StatementsInRange, TaskInRange, EndInRange}
use Rattle.replay_terms.specs.declared.term.Term.TheVariants as term
use Rattle.semantics.specs.declared.value.Value.TheVariants as value
use Rattle.semantics.specs.declared.object_id.ObjectId.{ObjectId}

-- the task that is begun, if there is one, and those after it
abbrev pub tasks_from : Option TaskInMemory → List Task → List Task
tasks_from None rest = rest
tasks_from (Some task) rest = task_view task ∷ rest

-- the tasks around a block, of which these are after the outermost that is told
abbrev pub tasks_around : List Task → List Outer → List Task
tasks_around after [] = after
tasks_around after (o ∷ inner) = tasks_around (end_view o.end ∷ tasks_of_statements o.rest ++ after) inner

-- the tasks after the one that is begun
abbrev pub tasks_after : List StmtInMemory → List Outer → List Task
tasks_after rest outer = tasks_of_statements rest ++ tasks_around [] outer

abbrev pub tasks_left : Work → List Task
tasks_left w = tasks_from w.task (tasks_after w.rest w.outer.items)

-- ---- what is known of accepted programs

abbrev pub OuterInRange : List Outer → Type 0
OuterInRange [] = Unit {0}
OuterInRange (o ∷ inner) = EndInRange o.end × StatementsInRange o.rest × OuterInRange inner

pub record IsInRange (w : Work) : Type 0 where
  pub begun : BegunInRange w.task
  pub rest : StatementsInRange w.rest
  pub outer : OuterInRange w.outer.items

-- the same where the block's next statement is begun
pub record IsAtStatement (w : Work) : Type 0 where
  pub range : IsInRange w
  pub next : w.task ≡ None → w.rest ≡ []

-- ---- a step

-- the thread with these tasks of a call in progress
abbrev pub thread_in : Thread → List Task → Scene → Thread
thread_in t tasks scene = with_tasks (in_scene t scene) tasks

-- what a step leaves, where this is what thread k is then
abbrev pub advance_by : (k : ℕ) → Shared → Thread → Outcome → Advance
advance_by k s t (outcome.Printed z) = thread.Advances s t (PrintedNumber z)
advance_by k s t (outcome.Returned given) = return_step k s t (result_view given)
advance_by k s t (outcome.Calls line x) = calling_by s t line x.now t.tasks
advance_by k s t (outcome.Trapped trap line) = thread.Advances s t (Trapped trap line)
advance_by k s t outcome.Impossible = NoAdvance
advance_by k s t took = thread.Advances s t Quiet

-- What a step in memory did is the step of each thread of the scene before it that has these tasks, or the same with
-- its object refused. It leaves the scene after it.
abbrev pub Advances : (refused : Bool) → Scene → Work → Outcome → Scene → Work → Type 0
Advances refused before old took after new =
    (t : Thread) → Sees before t → t.tasks ≡ Some (tasks_left old)
    → step_within before.unit before.classes before.in_use before.thread before.shared t refused (Some (tasks_left old))
    ≡ advance_by before.thread after.shared (thread_in t (tasks_left new) after) took

-- the same at a turn, by what threads share in memory
abbrev pub AdvancesAt : Turn → SharedInMemory → Activation → Option ObjectId → Outcome
    → SharedInMemory → Activation → Option ObjectId → Type 0
AdvancesAt turn shared old pending took shared' new pending' =
    Advances turn.refused (scene_at turn shared old.locals pending) old.work took
    (scene_at turn shared' new.locals pending') new.work

-- a call goes on after a block whose statements are all done, or there is no block around it
abbrev pub Leaves : Scene → Work → (possible : Bool) → Work → Type 0
Leaves scene old true new = Advances false scene old outcome.Stays scene new
Leaves scene old false new = Advances false scene old outcome.Impossible scene new

-- the task that is begun has its value, and so it does this, whatever can be seen
pub record IsSettled (w : Work) (took : Outcome) : Type 0 where
  pub task : TaskInMemory
  pub begun : w.task ≡ Some task
  pub does : (sight : Sight) → HasEffect sight task took task

-- a task that stands for this one is begun
pub record IsBegunAs (t : Task) (o : Option TaskInMemory) : Type 0 where
  pub task : TaskInMemory
  pub is : o ≡ Some task
  pub begins : task_view task ≡ t
  pub range : TaskInRange task

-- the one that a statement begins as
abbrev pub HasBegun : StmtInMemory → Option TaskInMemory → Type 0
HasBegun s o = IsBegunAs (task_of (stmt_tree s)) o

-- a loop, at its test
abbrev pub HasTurned : (line : ℕ) → ExprInMemory → BlockInMemory → Option TaskInMemory → Type 0
HasTurned line test body o = IsBegunAs (Loop line (expr_tree test) (term_of (expr_tree test)) (block_tree body)) o

-- the task that is begun, after a step
abbrev pub task_after : Option TaskInMemory → Outcome → Option TaskInMemory
task_after task outcome.Stays = task
task_after task (outcome.Returned given) = task
task_after task (outcome.Calls line x) = task
task_after task (outcome.Trapped trap line) = task
task_after task outcome.Impossible = task
task_after task (outcome.Tests line zero b other) = Some (branch_task line (term.Done (value.Truth zero)) b other)
task_after task took = None

-- the statements after it
abbrev pub rest_after : List StmtInMemory → Outcome → List StmtInMemory
rest_after rest (outcome.Enters block e) = statements_in block
rest_after rest took = rest

-- what is to do around their block
abbrev pub outer_after : List StmtInMemory → List Outer → Outcome → List Outer
outer_after rest outer (outcome.Enters block e) = outer ++ record { end = e; rest = rest } ∷ []
outer_after rest outer took = outer

-- what a step did to its task was done to the work
pub record AreSet (old : Work) (took : Outcome) (new : Work) : Type 0 where
  pub task : new.task ≡ task_after old.task took
  pub rest : new.rest ≡ rest_after old.rest took
  pub outer : new.outer.items ≡ outer_after old.rest old.outer.items took

-- the task that is begun did this, and became what is begun after it
pub record StepsTask (refused : Bool) (before : Scene) (old : Work) (took : Outcome) (after : Scene) (new : Work)
    : Type 0 where
  pub task : TaskInMemory
  pub begun : old.task ≡ Some task
  pub left : TaskInMemory
  pub is : new ≡ record old { task = Some left }
  pub does : Does refused before task took after left
  pub range : TaskInRange left

-- what a step did was done to the variables, the statics and the objects, and to the work
pub record IsDone (ss : Statics) (heap : Heap) (old : Activation) (took : Outcome) (ss' : Statics) (heap' : Heap)
    (new : Activation) : Type 0 where
  pub leaves : LeavesVariables (length old.locals.frames) ss heap old.locals.variables (variable_step took) ss' heap'
      new.locals.variables
  pub frames : new.locals.frames ≡ old.locals.frames
  pub set : AreSet old.work took new.work

-- the same if it is possible
abbrev pub IsApplied : Statics → Heap → Activation → Outcome → (possible : Bool) → Statics → Heap → Activation → Type 0
IsApplied ss heap old took true ss' heap' new = IsDone ss heap old took ss' heap' new
IsApplied ss heap old took false ss' heap' new =
    LeavesIf (length old.locals.frames) ss heap old.locals.variables (variable_step took) false ss' heap'
    new.locals.variables
    × (new.locals.frames ≡ old.locals.frames)
    × (new.work ≡ old.work)
