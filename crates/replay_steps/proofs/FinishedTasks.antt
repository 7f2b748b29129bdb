-- Tasks that have their values: what they do, and the call that goes on after them.
use Rattle.std.proofs.Common.{◌≡◌, Bool, Bor, false, true, length, Option, Some, ap, subst, ◌∙◌}
use Rattle.syntax.specs.declared.stmt.Block.{Block}
use Rattle.syntax.specs.Views.{block_tree, expr_tree}
use Rattle.semantics.specs.Effect.{effect_of}
use Rattle.semantics.specs.Sight.{Sight}
use Rattle.semantics.specs.Heap.{Heap}
use Rattle.semantics.specs.Task.{EndIf, EndTurn}
use Rattle.semantics.specs.declared.event.Event.TheVariants.{Quiet}
use Rattle.semantics.specs.Thread.{Advance, Advances as Advances', Shared, Thread}
use Rattle.semantics.specs.Variable.{Statics, Variables}
use Rattle.replay_arguments.specs.Shares.{sight_in}
use Rattle.replay_steps.specs.declared.activation.Work.{Work}
use Rattle.replay_steps.specs.Activations.{Advances, AreSet, IsInRange, IsSettled, Leaves, tasks_left}
use Rattle.replay_steps.specs.Steps.{Scene}
use Rattle.replay_steps.proofs.ActivationLemmas.{advances, begun_after, range_after}
use Rattle.replay_steps.proofs.TaskLemmas.{does}
use Rattle.replay_tasks.proofs.EffectLemmas.{block_entered, else_entered}
use Rattle.replay_tasks.specs.declared.outcome.End.{End}
use Rattle.replay_tasks.specs.declared.outcome.End.TheVariants as end
use Rattle.replay_tasks.specs.declared.outcome.Outcome.{Outcome}
use Rattle.replay_tasks.specs.declared.outcome.Outcome.TheVariants as outcome
use Rattle.replay_tasks.specs.declared.task.Assignment.{Assignment}
use Rattle.replay_tasks.specs.declared.task.Choice.{Choice}
use Rattle.replay_tasks.specs.declared.task.Iteration.{Iteration}
use Rattle.replay_tasks.specs.declared.task.Task.{Task}
use Rattle.replay_tasks.specs.declared.task.Task.TheVariants as task
use Rattle.replay_tasks.specs.Effects.{HasEffect}
use Rattle.replay_tasks.specs.Outcomes.{LeavesVariables, variable_step}
use Rattle.replay_tasks.specs.Tasks.{BegunInRange, OutcomeInRange, branch_task, loop_task, task_view, value_task}
use Rattle.replay_terms.specs.declared.term.Term.{Term}
use Rattle.replay_terms.specs.declared.term.Term.TheVariants as term
use Rattle.semantics.specs.declared.value.Value.{Value}
use Rattle.semantics.specs.declared.value.Value.TheVariants as value
use Rattle.replay_terms.specs.Views.{Contents}

module _ (sight : Sight) where
  pub set_settled : (a : Assignment) (v : Value) → a.term ≡ term.Done v → HasEffect sight (task.Set a) (outcome.Sets a.name v) (task.Set a)
  set_settled a v is = ap (λ (t : Term). effect_of sight (task_view (value_task a.line a.name t))) is

  pub turn_settled : (i : Iteration) → i.term ≡ term.Done (value.Truth true) → HasEffect sight (task.Loop i) (outcome.Enters (Some i.body) (end.Turn i.line i.test i.body)) (task.Loop i)
  turn_settled i is =
      ap (λ (t : Term). effect_of sight (task_view (loop_task i.line i.test t i.body))) is
      ∙ block_entered i.body (EndTurn i.line (expr_tree i.test.now) (block_tree i.body.now))

  pub loop_settled : (i : Iteration) → i.term ≡ term.Done (value.Truth false) → HasEffect sight (task.Loop i) outcome.Ends (task.Loop i)
  loop_settled i is = ap (λ (t : Term). effect_of sight (task_view (loop_task i.line i.test t i.body))) is

  pub branch_settled : (c : Choice) → c.test ≡ term.Done (value.Truth true) → HasEffect sight (task.Branch c) (outcome.Enters (Some c.block) end.If) (task.Branch c)
  branch_settled c is = ap (λ (t : Term). effect_of sight (task_view (branch_task c.line t c.block c.otherwise))) is ∙ block_entered c.block EndIf

  pub else_settled : (c : Choice) → c.test ≡ term.Done (value.Truth false) → HasEffect sight (task.Branch c) (outcome.Enters c.otherwise end.If) (task.Branch c)
  else_settled c is = ap (λ (t : Term). effect_of sight (task_view (branch_task c.line t c.block c.otherwise))) is ∙ else_entered c.line c.otherwise EndIf

-- a block that is entered, whatever the task was
pub entered_set : (old new : Work) (task : Task) (block : Option (Bor Block)) (e : End) → AreSet old (outcome.Enters block e) new → AreSet (record old { task = Some task }) (outcome.Enters block e) new
entered_set old new task block e h = record { task = h.task; rest = h.rest; outer = h.outer }

-- ---- the call goes on

abbrev ends : Shared → Thread → Statics → Heap → Variables → Advance
ends s t q h vs = let r : Shared = record s { statics = q; heap = h } in let u : Thread = record t { variables = vs } in Advances' r u Quiet

-- variables, statics and objects are left as they are
pub left_alone : (scene : Scene) → LeavesVariables (length scene.frames) scene.shared.statics scene.shared.heap scene.variables (λ s t. Advances' s t Quiet) scene.shared.statics scene.shared.heap scene.variables
left_alone scene = λ s t h.
    ap (λ (q : Statics). ends s t q s.heap t.variables) h.statics
    ∙ ap (λ (p : Heap). ends s t scene.shared.statics p t.variables) h.heap
    ∙ ap (λ (vs : Variables). ends s t scene.shared.statics scene.shared.heap vs) h.variables

module _ (old new : Work) (took : Outcome) (settled : IsSettled old took) (set : AreSet (record old { task = Some settled.task }) took new) where
  -- what comes next is begun
  pub finished : (scene : Scene) (variables : Contents) (begun : Work)
      → LeavesVariables (length scene.frames) scene.shared.statics scene.shared.heap scene.variables (variable_step took) scene.shared.statics scene.shared.heap variables
      → tasks_left begun ≡ tasks_left new → Advances false scene old took (record scene { variables = variables }) begun
  finished scene variables begun leaves same =
      begun_after false scene old took (record scene { variables = variables }) new begun same
      (advances false scene scene scene.shared.statics scene.shared.heap variables old settled.task settled.task new settled.begun took
      (does scene settled.task settled.task took (settled.does (sight_in scene.shared scene.variables))) leaves set)

  -- and what is known of it stays so
  pub finished_range : IsInRange old → OutcomeInRange took → IsInRange new
  finished_range known entered = range_after old new settled.task known (subst BegunInRange settled.begun known.begun) took entered set

-- what comes next is begun after a block
pub leaves_begun : (scene : Scene) (old left begun : Work) (possible : Bool) → tasks_left begun ≡ tasks_left left → Leaves scene old possible left → Leaves scene old possible begun
leaves_begun scene old left begun true same does = begun_after false scene old outcome.Stays scene left begun same does
leaves_begun scene old left begun false same does = begun_after false scene old outcome.Impossible scene left begun same does
