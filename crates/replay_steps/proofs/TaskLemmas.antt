-- A task that is no call does to a thread what its effect does.
use Rattle.std.proofs.Common.{◌≡◌, ℕ, Bool, true, false, List, ◌∷◌, Option, Some, refl, sym, ap, ◌∙◌}
use Rattle.std.specs.Prelude.{if◌then◌else◌}
use Rattle.semantics.specs.Effect.{effect_of}
use Rattle.semantics.specs.Sight.{Sight}
use Rattle.semantics.specs.Task.{Task}
use Rattle.semantics.specs.Object.{Reference}
use Rattle.semantics.specs.Thread.{Frame, Thread, Shared, BuffersInUse, sight_of, Advances, NoAdvance}
use Rattle.semantics.specs.declared.event.Event.TheVariants.{Trapped}
use Rattle.semantics.specs.ThreadStep.{after_effect, after_refused_effect, with_tasks}
use Rattle.semantics.specs.Variable.{Variables}
use Rattle.replay_tasks.specs.declared.outcome.Outcome.{Outcome}
use Rattle.replay_tasks.specs.declared.outcome.Outcome.TheVariants as outcome
use Rattle.replay_tasks.specs.declared.task.Task.{Task as TaskInMemory}
use Rattle.replay_tasks.specs.Effects.{effect_by, HasEffect}
use Rattle.replay_steps.specs.Steps.{Scene, Sees, in_scene, left_by, Does}
use Rattle.replay_tasks.specs.Tasks.{task_view}
use Rattle.replay_arguments.specs.Shares.{sight_in}
use Rattle.replay_terms.specs.Views.{variables_view}

-- what a thread can see, where it is so
pub sees_so : (scene : Scene) (t : Thread) → Sees scene t → sight_of scene.shared t ≡ sight_in scene.shared scene.variables
sees_so scene t sees = rw sees.variables refl

-- a thread that has these tasks
pub same_thread : (t : Thread) (tasks : List Task) → t.tasks ≡ Some tasks → t ≡ with_tasks t tasks
same_thread t tasks has = ap (λ (o : Option (List Task)). let u : Thread = record t { tasks = o } in u) has

-- a thread that has what the scene has
pub same_scene : (scene : Scene) (t : Thread) → Sees scene t → t ≡ in_scene t scene
same_scene scene t sees =
    ap (λ (vs : Variables). let u : Thread = record t { variables = vs } in u) sees.variables
    ∙ ap (λ (fs : List Frame). let u : Thread = record t { variables = variables_view scene.variables; frames = fs } in u) sees.frames
    ∙ ap (λ (r : Reference). let u : Thread = record t { variables = variables_view scene.variables; frames = scene.frames; pending = r } in u) sees.pending

module _ (scene : Scene) (old new : TaskInMemory) where
  abbrev shared : Shared
  shared = scene.shared

  abbrev in_use : BuffersInUse
  in_use = scene.in_use

  abbrev k : ℕ
  k = scene.thread

  abbrev sight : Sight
  sight = sight_in shared scene.variables

  -- where nothing of the thread changes but its tasks
  pub unchanged : (t : Thread) (rest : List Task) (took : Outcome) → Sees scene t → left_by k shared t rest took new ≡ left_by k shared (in_scene t scene) rest took new
  unchanged t rest took sees = ap (λ (u : Thread). left_by k shared u rest took new) (same_scene scene t sees)

  by_effect : (took : Outcome) → effect_of sight (task_view old) ≡ effect_by took new
      → ((t : Thread) (rest : List Task) → t.tasks ≡ Some (task_view old ∷ rest) → after_effect scene.unit scene.classes in_use k shared t rest (effect_by took new) ≡ left_by k shared t rest took new) → Does false scene old took scene new
  by_effect took h left = λ t rest sees has.
      ap (λ (view : Sight). after_effect scene.unit scene.classes in_use k shared t rest (effect_of view (task_view old))) (sees_so scene t sees)
      ∙ ap (after_effect scene.unit scene.classes in_use k shared t rest) h
      ∙ left t rest has
      ∙ unchanged t rest took sees

  -- a task does what its effect does
  pub does : (took : Outcome) → HasEffect sight old took new → Does false scene old took scene new
  does outcome.Stays h = by_effect outcome.Stays h (λ t rest has. refl)
  does (outcome.Printed z) h = by_effect (outcome.Printed z) h (λ t rest has. refl)
  does (outcome.Sets x v) h = by_effect (outcome.Sets x v) h (λ t rest has. refl)
  does (outcome.SetsNull to) h = by_effect (outcome.SetsNull to) h (λ t rest has. refl)
  does (outcome.Gives to g) h = absurd h
  does (outcome.Lends to b) h = absurd h
  does (outcome.Tests line zero b other) h = absurd h
  does (outcome.SetsElement x i z) h = by_effect (outcome.SetsElement x i z) h (λ t rest has. refl)
  does (outcome.Makes T x n) h = by_effect (outcome.Makes T x n) h (λ t rest has. refl)
  does (outcome.Enters block e) h = by_effect (outcome.Enters block e) h (λ t rest has. refl)
  does outcome.Ends h = by_effect outcome.Ends h (λ t rest has. refl)
  does (outcome.Returned given) h = by_effect (outcome.Returned given) h (λ t rest has. refl)
  does (outcome.Calls line x) h = absurd h
  does (outcome.Trapped trap line) h = by_effect (outcome.Trapped trap line) h.0 (λ t rest has.
      ap (λ (u : Thread). Advances shared u (Trapped trap line)) (same_thread t (task_view old ∷ rest) has)
      ∙ ap (λ (u : Task). Advances shared (with_tasks t (u ∷ rest)) (Trapped trap line)) (sym h.1))
  does outcome.Impossible h = by_effect outcome.Impossible h (λ t rest has. refl)

  by_refusal : (took : Outcome) → effect_of sight (task_view old) ≡ effect_by took new
      → ((t : Thread) (rest : List Task) → after_refused_effect scene.unit scene.classes in_use k shared t rest (effect_by took new) ≡ NoAdvance) → Does true scene old outcome.Impossible scene new
  by_refusal took h none = λ t rest sees has.
      ap (λ (view : Sight). after_refused_effect scene.unit scene.classes in_use k shared t rest (effect_of view (task_view old))) (sees_so scene t sees)
      ∙ ap (after_refused_effect scene.unit scene.classes in_use k shared t rest) h
      ∙ none t rest

  -- a task that is no call has no object that can be refused
  pub does_without : (took : Outcome) → HasEffect sight old took new → Does true scene old outcome.Impossible scene new
  does_without outcome.Stays h = by_refusal outcome.Stays h (λ t rest. refl)
  does_without (outcome.Printed z) h = by_refusal (outcome.Printed z) h (λ t rest. refl)
  does_without (outcome.Sets x v) h = by_refusal (outcome.Sets x v) h (λ t rest. refl)
  does_without (outcome.SetsNull to) h = by_refusal (outcome.SetsNull to) h (λ t rest. refl)
  does_without (outcome.Gives to g) h = absurd h
  does_without (outcome.Lends to b) h = absurd h
  does_without (outcome.Tests line zero b other) h = absurd h
  does_without (outcome.SetsElement x i z) h = by_refusal (outcome.SetsElement x i z) h (λ t rest. refl)
  does_without (outcome.Makes T x n) h = by_refusal (outcome.Makes T x n) h (λ t rest. refl)
  does_without (outcome.Enters block e) h = by_refusal (outcome.Enters block e) h (λ t rest. refl)
  does_without outcome.Ends h = by_refusal outcome.Ends h (λ t rest. refl)
  does_without (outcome.Returned given) h = by_refusal (outcome.Returned given) h (λ t rest. refl)
  does_without (outcome.Calls line x) h = absurd h
  does_without (outcome.Trapped trap line) h = by_refusal (outcome.Trapped trap line) h.0 (λ t rest. refl)
  does_without outcome.Impossible h = by_refusal outcome.Impossible h (λ t rest. refl)

  -- so it is, refused or not
  pub does_unless : (refused : Bool) (took : Outcome) → HasEffect sight old took new → Does refused scene old (if refused then outcome.Impossible else took) scene new
  does_unless true took h = does_without took h
  does_unless false took h = does took h
