-- Threads that lie in memory, as those of the language, and what a step of one does.
use Rattle.std.specs.Prelude.{◌≡◌, ◌≤◌, ◌<◌, ◌+◌, ℕ, Bool, true, false, List, [], ◌∷◌, length, map, filter_map, reverse, zip, Option, Some, None, IsTrue}
use Rattle.std.specs.List.{AllByRecursion, list_all}
use Rattle.base.specs.Bytes.{Identifier}
use Rattle.base.specs.Limits.{most_activations}
use Rattle.syntax.specs.declared.unit.Function.{Function}
use Rattle.syntax.specs.Tree.{SourceUnit, Function as FunctionOfUnit}
use Rattle.syntax.specs.Views.{function_tree}
use Rattle.class_rules.specs.Class.{Classes}
use Rattle.semantics.specs.Object.{ObjectValue, Number, Refers}
use Rattle.semantics.specs.Activation.{parameter_variables, function_at, class_of_function, entered_function, named_object, entry_frame}
use Rattle.semantics.specs.Return.{ending_after, calls_after, monitors_after}
use Rattle.semantics.specs.Load.{call_loads}
use Rattle.semantics.specs.World.{Invocation}
use Rattle.semantics.specs.Task.{Task, tasks_of}
use Rattle.semantics.specs.CallEffects.{CallResult}
use Rattle.semantics.specs.Thread.{Caller, Thread, Shared, BuffersInUse, Advance, Advances, NoAdvance}
use Rattle.semantics.specs.declared.event.Ending.TheVariants.{Unfinished}
use Rattle.semantics.specs.ThreadStep.{thread_step, waits}
use Rattle.semantics.specs.declared.trap.Trap.TheVariants.{CallsTooDeep}
use Rattle.semantics.specs.declared.value.Value.TheVariants.{Int}
use Rattle.semantics.specs.Variable.{Variable, Scalar, LocalRef}
use Rattle.semantics.specs.Views.{name_of}
use Rattle.replay_steps.specs.declared.activation.Activation.{Activation}
use Rattle.replay_tasks.specs.declared.outcome.Outcome.{Outcome}
use Rattle.replay_tasks.specs.declared.outcome.Outcome.TheVariants as outcome
use Rattle.replay_threads.specs.declared.thread.Thread.{Thread as ThreadInMemory}
use Rattle.replay_steps.specs.Activations.{tasks_left, IsAtStatement}
use Rattle.replay_steps.specs.Callers.{CallerStands, CallsFrom, IsCalling, MakesCaller, Resumes, entering_view}
use Rattle.replay_steps.specs.declared.attempt.Attempt.{Attempt}
use Rattle.replay_steps.specs.declared.attempt.Attempt.TheVariants as attempt
use Rattle.replay_steps.specs.declared.callers.Entering.{Entering}
use Rattle.replay_tasks.specs.Outcomes.{result_view}
use Rattle.replay_arguments.specs.declared.scene.Turn.{Turn}
use Rattle.replay_terms.specs.Views.{in_use_view}
use Rattle.semantics.specs.declared.event.Event.{Event}
use Rattle.semantics.specs.declared.event.Event.TheVariants as event
use Rattle.replay_terms.specs.Views.{assign_all, variables_view}
use Rattle.semantics.specs.declared.object_value.ObjectValue.{ObjectValue as ObjectValueInMemory}
use Rattle.world_values.specs.Views.{object_value_view}

-- the tasks of the call in progress, if there is one
abbrev pub tasks_in : Option Activation → Option (List Task)
tasks_in None = None
tasks_in (Some a) = Some (tasks_left a.work)

-- what the call in progress has beside its tasks; where there is none, there is nothing
abbrev pub WorkStands : Option Activation → Thread → Type 0
WorkStands None s = (s.variables ≡ []) × (s.frames ≡ [])
WorkStands (Some a) s = (s.variables ≡ variables_view a.locals.variables) × (s.frames ≡ a.locals.frames)

-- calls that wait for one that they made, the last one first
abbrev pub last_first : List Activation → List Activation
last_first callers = reverse callers

-- the calls to come, of which the first is one that another has made, if there is one
abbrev pub calls_to_come : Option Entering → List Invocation → List Invocation
calls_to_come None calls = calls
calls_to_come (Some e) calls = entering_view e ∷ calls

-- a call that another has made is to be entered exactly where there are callers and no call is in progress
abbrev pub IsDue : Option Entering → Option (List Task) → List Caller → Type 0
IsDue None (Some tasks) callers = Unit {0}
IsDue None None [] = Unit {0}
IsDue (Some e) None (c ∷ callers) = Unit {0}
IsDue e tasks callers = ⊥

-- each stands for the caller at the same place
abbrev pub CallersStand : List Activation → List Caller → Type 0
CallersStand [] [] = Unit {0}
CallersStand (a ∷ xs) (c ∷ cs) = CallerStands a c × CallersStand xs cs
CallersStand xs cs = ⊥

-- ---- what is known of accepted programs

abbrev pub WorkInRange : Option Activation → Type 0
WorkInRange None = Unit {0}
WorkInRange (Some a) = IsAtStatement a.work

-- each of these waits for one that it made
abbrev pub AreCalling : List Activation → Type 0
AreCalling callers = AllByRecursion (λ (a : Activation). IsCalling a.work) callers

-- the same of a thread, and that it has few callers
pub record ThreadInRange (t : ThreadInMemory) : Type 0 where
  pub work : WorkInRange t.activation
  pub callers : AreCalling (last_first t.callers.items)
  pub few : length t.callers.items < most_activations

-- ---- steps

-- what a parameter with this argument holds
abbrev pub argument_content : ObjectValue → Variable
argument_content (Number z) = Scalar (Int z)
argument_content (Refers r) = LocalRef 1 r

-- a call in progress at its beginning, of a function whose native method is of this class
pub record IsBegun (f : Function) (class : ℕ) (arguments : List ObjectValueInMemory) (o : Option Activation) : Type 0 where
  pub activation : Activation
  pub is : o ≡ Some activation
  pub tasks : tasks_left activation.work ≡ tasks_of (function_tree f).body
  pub range : IsAtStatement activation.work
  pub variables : variables_view activation.locals.variables
      ≡ assign_all ((f.class_name, LocalRef 1 (Some class)) ∷ parameter_variables
      (zip (function_tree f).parameters (map object_value_view arguments))) []
  pub frames : activation.locals.frames ≡ entry_frame (class ∷ filter_map named_object (map object_value_view arguments)) ∷ []

-- a call in progress is this one at its beginning
pub record IsEntered (unit : SourceUnit) (classes : Classes) (call : Invocation) (o : Option Activation) : Type 0 where
  pub function : FunctionOfUnit
  pub found : function_at unit call.function ≡ Some function
  pub class : ℕ
  pub its_class : class_of_function classes function ≡ Some class
  pub activation : Activation
  pub is : o ≡ Some activation
  pub tasks : tasks_left activation.work ≡ tasks_of function.body
  pub variables : variables_view activation.locals.variables
      ≡ (function.class_name, LocalRef 1 (Some class)) ∷ parameter_variables (zip function.parameters call.arguments)
  pub frames : activation.locals.frames ≡ entry_frame (class ∷ filter_map named_object call.arguments) ∷ []
  pub range : IsAtStatement activation.work

-- no thread can enter this call
abbrev pub HasNoEntry : SourceUnit → Classes → Invocation → Type 0
HasNoEntry unit classes call = (s : Thread) (rest : List Invocation) → entered_function classes s call rest (function_at unit call.function) ≡ None

-- this call was begun in a place, or cannot begin
abbrev pub BeginsNext : SourceUnit → Classes → Invocation → (begun : Bool) → (old new : Option Activation) → Type 0
BeginsNext unit classes call true old new = IsEntered unit classes call new
BeginsNext unit classes call false old new = (new ≡ old) × HasNoEntry unit classes call

-- what others see of what a call in progress did; none where it did nothing that is possible
abbrev pub event_of : Outcome → Option Event
event_of (outcome.Printed z) = Some (event.PrintedNumber z)
event_of (outcome.Trapped trap line) = Some (event.Trapped trap line)
event_of outcome.Impossible = None
event_of took = Some event.Quiet

-- thread k left its call in progress, and what it owns where it has ended
pub record HasLeft (k : ℕ) (s : Shared) (old : ThreadInMemory) (after : Shared) (new : ThreadInMemory) : Type 0 where
  pub activation : new.activation ≡ None
  pub pending : new.pending ≡ None
  pub ending : new.ending ≡ ending_after s.heap (name_of old.pending) old.calls.now
  pub calls : new.calls.now ≡ calls_after new.ending old.calls.now
  pub callers : new.callers.items ≡ old.callers.items
  pub entering : new.entering ≡ old.entering
  pub shared : after ≡ record s { monitors = monitors_after new.ending k s.monitors }

-- the last of a thread's callers goes on with what the call in progress returned, and these are those that are left
pub record HasResumed (s : Shared) (old : ThreadInMemory) (given : CallResult) (caller : Activation) (left : List Activation)
    (after : Shared) (new : ThreadInMemory) : Type 0 where
  pub activation : Activation
  pub is : new.activation ≡ Some activation
  pub range : IsAtStatement activation.work
  pub resumes : Resumes s (name_of old.pending) given caller after activation
  pub callers : last_first new.callers.items ≡ left
  pub entering : new.entering ≡ old.entering
  pub calls : new.calls ≡ old.calls
  pub pending : new.pending ≡ old.pending
  pub ending : new.ending ≡ old.ending

-- thread k returned, with these callers
abbrev pub ReturnsBy : (k : ℕ) → Shared → ThreadInMemory → CallResult → List Activation → Shared → ThreadInMemory → Type 0
ReturnsBy k s old given [] after new = HasLeft k s old after new
ReturnsBy k s old given (caller ∷ callers) after new = HasResumed s old given caller callers after new

-- the same with its own
abbrev pub HasReturned : (k : ℕ) → Shared → ThreadInMemory → CallResult → Shared → ThreadInMemory → Type 0
HasReturned k s old given after new = ReturnsBy k s old given (last_first old.callers.items) after new

-- the call in progress, which is this one, waits for one that is to be entered
pub record HasPushed (old : ThreadInMemory) (caller : Activation) (call : Entering) (new : ThreadInMemory) : Type 0 where
  pub activation : new.activation ≡ None
  pub entering : new.entering ≡ Some call
  pub callers : last_first new.callers.items ≡ caller ∷ last_first old.callers.items
  pub calls : new.calls ≡ old.calls
  pub pending : new.pending ≡ old.pending
  pub ending : new.ending ≡ old.ending

-- it waits for the call of the function of this name that it makes in this line, with few enough callers
pub record HasWaited (s : Shared) (old : ThreadInMemory) (a : Activation) (line : ℕ) (x : Identifier) (new : ThreadInMemory) : Type 0 where
  pub call : Entering
  pub calls : CallsFrom s a line x (entering_view call)
  pub few : length old.callers.items + 1 < most_activations
  pub pushed : HasPushed old a call new

-- it would make that call, with too many callers, so the run stops
pub record IsStopped (s : Shared) (old : ThreadInMemory) (a : Activation) (line : ℕ) (x : Identifier) (new : ThreadInMemory) : Type 0 where
  pub call : Entering
  pub calls : CallsFrom s a line x (entering_view call)
  pub many : most_activations ≤ length old.callers.items + 1
  pub same : new ≡ old

-- what others see of a call of the function of this name by a call in progress, and what that did to its thread
abbrev pub HasCalled : Shared → ThreadInMemory → Option Activation → (line : ℕ) → Identifier → Option Event → ThreadInMemory → Type 0
HasCalled s old None line x took new = (took ≡ None) × (new ≡ old)
HasCalled s old (Some a) line x None new = MakesCaller s a line x None × (new ≡ old)
HasCalled s old (Some a) line x (Some event.Quiet) new = HasWaited s old a line x new
HasCalled s old (Some a) line x (Some (event.Trapped trap at)) new = IsStopped s old a line x new × (trap ≡ CallsTooDeep) × (at ≡ line)
HasCalled s old (Some a) line x (Some (event.PrintedNumber z)) new = ⊥

-- what others see of what a call in progress did, which was left if it returned, and waits if it called a method
abbrev pub EndsStep : (k : ℕ) → Shared → ThreadInMemory → Outcome → Option Event → Shared → ThreadInMemory → Type 0
EndsStep k shared old (outcome.Returned given) took after new = (took ≡ Some event.Quiet) × HasReturned k shared old (result_view given) after new
EndsStep k shared old (outcome.Calls line x) took after new = HasCalled shared old old.activation line x.now took new × (after ≡ shared)
EndsStep k shared old o took after new = (took ≡ event_of o) × (new ≡ old) × (after ≡ shared)

-- a thread in memory stands for one of the language
pub record ThreadStands (unit : SourceUnit) (classes : Classes) (t : ThreadInMemory) (s : Thread) : Type 0 where
  pub calls : s.calls ≡ calls_to_come t.entering t.calls.now
  pub due : IsDue t.entering s.tasks s.callers
  pub callers : CallersStand (last_first t.callers.items) s.callers
  pub loads : IsTrue (list_all (call_loads unit classes) t.calls.now)
  pub tasks : s.tasks ≡ tasks_in t.activation
  pub work : WorkStands t.activation s
  pub pending : s.pending ≡ name_of t.pending
  pub ending : s.ending ≡ t.ending

-- whether each thread that it stands for waits for a monitor, as thread k
abbrev pub ThreadWaits : Classes → (k : ℕ) → Shared → ThreadInMemory → Bool → Type 0
ThreadWaits classes k shared t answer = (unit : SourceUnit) (s : Thread) → ThreadStands unit classes t s
    → WorkInRange t.activation → answer ≡ waits classes k shared s

-- a step leaves the thread so, and all threads this to share
pub record Leaves (unit : SourceUnit) (classes : Classes) (shared : Shared) (t : ThreadInMemory) (event : Event) (advance : Advance) : Type 0 where
  pub next : Thread
  pub advances : advance ≡ Advances shared next event
  pub stands : ThreadStands unit classes t next

-- what a step in memory did is the thread's step, or neither is possible
abbrev pub StepIs : SourceUnit → Classes → Shared → ThreadInMemory → Option Event → Advance → Type 0
StepIs unit classes shared t (Some e) advance = Leaves unit classes shared t e advance
StepIs unit classes shared t None advance = advance ≡ NoAdvance

-- The same for each thread that it stands for, with this to share before and after it, or what the step does with its object
-- refused. It is thread k, and the buffers of all threads together take what is in use.
abbrev pub TakesStep : SourceUnit → Classes → BuffersInUse → (k : ℕ) → (refused : Bool) → Shared → ThreadInMemory
    → Option Event → Shared → ThreadInMemory → Type 0
TakesStep unit classes in_use k refused shared old took after new =
    (s : Thread) → ThreadStands unit classes old s → s.ending ≡ Unfinished
    → StepIs unit classes after new took (thread_step unit classes in_use k shared s refused)

-- the same at a turn
abbrev pub TakesTurn : SourceUnit → Turn → Shared → ThreadInMemory → Option Event → Shared → ThreadInMemory → Type 0
TakesTurn unit turn shared old took after new = TakesStep unit turn.classes.now (in_use_view turn.in_use) turn.thread turn.refused shared old took after new

-- the same whose turn ever it is, with nothing refused, and nothing done to what threads share
abbrev pub StepsAnywhere : Shared → ThreadInMemory → Option Event → ThreadInMemory → Type 0
StepsAnywhere shared old took new = (unit : SourceUnit) (classes : Classes) (in_use : BuffersInUse) (k : ℕ) → TakesStep unit classes in_use k false shared old took shared new

-- a term took its step, which was the thread's, can't take it, or is as it was
abbrev pub AttemptsStep : Shared → ThreadInMemory → Attempt → ThreadInMemory → Type 0
AttemptsStep shared old attempt.Reduced new = StepsAnywhere shared old (Some event.Quiet) new
AttemptsStep shared old attempt.Stuck new = StepsAnywhere shared old None new
AttemptsStep shared old attempt.Left new = new ≡ old

-- thread k took its step, whatever all buffers take, with nothing refused, or all is as it was
abbrev pub AttemptsCalling : SourceUnit → Classes → (k : ℕ) → Shared → ThreadInMemory → (took : Bool) → Shared → ThreadInMemory → Type 0
AttemptsCalling unit classes k shared old true after new =
    (in_use : BuffersInUse) → TakesStep unit classes in_use k false shared old (Some event.Quiet) after new
AttemptsCalling unit classes k shared old false after new = (after ≡ shared) × (new ≡ old)

-- a thread took its step, whose turn ever it is, with nothing refused, or all is as it was
abbrev pub AttemptsNumber : Classes → Shared → ThreadInMemory → (took : Bool) → Shared → ThreadInMemory → Type 0
AttemptsNumber classes shared old true after new =
    (unit : SourceUnit) (in_use : BuffersInUse) (k : ℕ) → TakesStep unit classes in_use k false shared old (Some event.Quiet) after new
AttemptsNumber classes shared old false after new = (after ≡ shared) × (new ≡ old)
