-- Calls that read or write a number of an object take their step in one go.
use Rattle.std.proofs.Common.{◌≡◌, ℕ, ℤ, Bool, true, false, List, [], ◌∷◌, ◌++◌, Some, None, Option, refl, sym, ap, ◌∙◌, append-nil}
use Rattle.base.specs.Bytes.{Identifier}
use Rattle.base.specs.declared.element.ElementType.{ElementType}
use Rattle.syntax.specs.Tree.{SourceUnit}
use Rattle.class_rules.specs.Class.{Classes}
use Rattle.class_rules.specs.Fields.{FieldId}
use Rattle.jni.specs.declared.function.JniFunction.{JniFunction}
use Rattle.jni.specs.declared.function.JniFunction.TheVariants.{GetField, SetField}
use Rattle.jni.specs.declared.function.JniFunction.TheVariants as function
use Rattle.semantics.specs.Answer.{effect_of}
use Rattle.semantics.specs.AnswerTable.{call_answer, call_effect}
use Rattle.semantics.specs.Arguments.{Actual, FieldActual, NumberActual, ReferenceActual, actuals}
use Rattle.semantics.specs.CallEffects.{CallEffect, CallResult, Leaves, NoResult, ScalarResult}
use Rattle.semantics.specs.CallSight.{CallSight, sight_of_call}
use Rattle.semantics.specs.CallStep.{after_call, call_step, checked, is_zero, put, target_element}
use Rattle.semantics.specs.Checks.{go_together, trap_of}
use Rattle.semantics.specs.Effect.{tasks_after}
use Rattle.semantics.specs.Heap.{Heap, class_of, field_place, number_in, value_at, with_value_at}
use Rattle.semantics.specs.Object.{Number}
use Rattle.semantics.specs.Task.{Invoke, NumberOperand, Operand, Target, Task}
use Rattle.semantics.specs.Term.{Done}
use Rattle.semantics.specs.Thread.{Advance, Advances, BuffersInUse, Frame, Shared, Thread, sight_of}
use Rattle.semantics.specs.declared.event.Event.TheVariants.{Quiet}
use Rattle.semantics.specs.ThreadStep.{step_within}
use Rattle.semantics.specs.declared.trap.Trap.{Trap}
use Rattle.semantics.specs.declared.value.Value.TheVariants.{Int}
use Rattle.semantics.specs.Value.{convert}
use Rattle.semantics.specs.Variable.{Live}
use Rattle.replay_steps.specs.declared.activation.Activation.{Activation}
use Rattle.replay_steps.specs.declared.activation.Work.{Work}
use Rattle.replay_steps.specs.Activations.{tasks_after as tasks_after_begun, tasks_from, tasks_left, thread_in}
use Rattle.replay_steps.specs.FieldCalls.{AttemptsField, HasNumber, NamesNumber, PutsNumber, TriesCall, named}
use Rattle.replay_steps.specs.Steps.{Scene, Sees, in_scene, scene_with}
use Rattle.replay_steps.proofs.TaskLemmas.{same_scene}
use Rattle.replay_tasks.specs.declared.outcome.Purpose.{Purpose}
use Rattle.replay_tasks.specs.declared.outcome.Purpose.TheVariants as purposes
use Rattle.replay_tasks.specs.declared.outcome.Target.{Target as TargetInMemory}
use Rattle.replay_tasks.specs.declared.outcome.Target.TheVariants as targets
use Rattle.replay_tasks.specs.declared.task.Invocation.{Invocation}
use Rattle.replay_tasks.specs.declared.task.Task.{Task as TaskInMemory}
use Rattle.replay_tasks.specs.declared.task.Task.TheVariants as task
use Rattle.replay_tasks.specs.Outcomes.{purpose_view, target_view}
use Rattle.replay_tasks.specs.Tasks.{task_view}
use Rattle.replay_terms.specs.Views.{Contents, operands_view}

-- ---- a call whose arguments are looked up

module _ (unit : SourceUnit) (classes : Classes) (in_use : BuffersInUse) (k : ℕ) (s : Shared) (t : Thread) (none : t.pending ≡ None) (line : ℕ) (to : Target) (rest : List Task)
    (x : Identifier) (n : ℕ) (field : FieldId) (T : ElementType) (has : HasNumber classes (class_of s.heap n) field T) where
  -- where the value of the field lies in the object
  abbrev place : ℕ
  place = field_place classes s.heap n field

  -- the arguments of a call, the first two of which tell the number
  abbrev args : List Actual → List Actual
  args more = ReferenceActual x (Live n) ∷ FieldActual (Some field) ∷ more

  abbrev sight : JniFunction → List Actual → CallSight
  sight f more = sight_of_call s t f (args more)

  read_passes : (element : ElementType) → trap_of classes (sight (GetField T) []) element (GetField T) ≡ None
  unfolding trap_of go_together
  read_passes element = rw (none, has.own, has.has, has.number) refl

  write_passes : (z : ℤ) (element : ElementType) → trap_of classes (sight (SetField T) (NumberActual z ∷ [])) element (SetField T) ≡ None
  unfolding trap_of go_together
  write_passes z element = rw (none, has.own, has.has, has.number) refl

  -- what a call does that passes its checks
  abbrev goes_on : JniFunction → List Actual → CallEffect → Advance
  goes_on f more effect = after_call unit classes in_use k s t line to f (args more) rest effect

  abbrev steps : JniFunction → List Actual → Advance
  steps f more = call_step unit classes in_use k s t line to f (args more) rest false

  unchecked : (f : JniFunction) (more : List Actual) → trap_of classes (sight f more) (target_element t.variables to) f ≡ None → steps f more ≡ goes_on f more (call_effect unit classes in_use k s t (args more) f)
  unchecked f more passes = ap (λ (o : Option Trap). goes_on f more (checked o (call_effect unit classes in_use k s t (args more) f))) passes

  -- a number is given
  abbrev read : CallResult
  read = ScalarResult (Int (number_in (value_at s.heap n place)))

  read_effect : call_effect unit classes in_use k s t (args []) (GetField T) ≡ Leaves [] s t read
  unfolding call_answer effect_of
  read_effect = refl

  -- the thread with what is still to do
  abbrev going_on : CallResult → Thread
  going_on given = record t { tasks = Some (tasks_after line to (is_zero given) ++ rest) }

  abbrev with_heap : CallResult → Shared → Heap → Advance
  with_heap given s' heap = let after : Shared = record s' { heap = heap } in put to given after (going_on given)

  pub read_steps : steps (GetField T) [] ≡ put to read s (going_on read)
  read_steps = unchecked (GetField T) [] (read_passes (target_element t.variables to)) ∙ ap (goes_on (GetField T) []) read_effect ∙ ap (with_heap read s) (append-nil s.heap)

  -- a number is written
  module _ (z : ℤ) where
    abbrev written : Shared
    written = record s { heap = with_value_at s.heap n place (Number (convert T z)) }

    write_effect : call_effect unit classes in_use k s t (args (NumberActual z ∷ [])) (SetField T) ≡ Leaves [] written t NoResult
    unfolding call_answer effect_of
    write_effect = refl

    pub write_steps : steps (SetField T) (NumberActual z ∷ []) ≡ put to NoResult written (going_on NoResult)
    write_steps =
        unchecked (SetField T) (NumberActual z ∷ []) (write_passes z (target_element t.variables to))
        ∙ ap (goes_on (SetField T) (NumberActual z ∷ [])) write_effect
        ∙ ap (with_heap NoResult written) (append-nil written.heap)

-- ---- a call in memory

-- nothing is still to do after it
none_after : (line : ℕ) (to : TargetInMemory) (b : Bool) → tasks_after line (target_view to) b ≡ []
none_after line (targets.Declared kind x) b = refl
none_after line (targets.Assigned x) b = refl
none_after line targets.Dropped b = refl

module _ (classes : Classes) (s : Shared) (vs : Contents) (T : ElementType) (x y : Identifier) (n place : ℕ) (names : NamesNumber classes s vs T x y n place) where
  module _ (unit : SourceUnit) (in_use : BuffersInUse) (k : ℕ) (frames : List Frame) (t : Thread) (rest : List Task) where
    abbrev scene : Scene
    scene = scene_with unit classes in_use k s vs frames None

    -- the thread of the scene
    abbrev it : Thread
    it = in_scene t scene

    -- its arguments
    abbrev found : JniFunction → List Operand → List Actual
    found f more = actuals (sight_of s it) f (named x ∷ named y ∷ more)

    read_args : found (GetField T) [] ≡ ReferenceActual x (Live n) ∷ FieldActual (Some names.field) ∷ []
    read_args = rw (names.refers, names.holds) refl

    write_args : (z : ℤ) → found (SetField T) (NumberOperand (Done (Int z)) ∷ []) ≡ ReferenceActual x (Live n) ∷ FieldActual (Some names.field) ∷ NumberActual z ∷ []
    write_args z = rw (names.refers, names.holds) refl

    abbrev steps_as : Thread → Task → Advance
    steps_as u task = step_within unit classes in_use k s u false (Some (task ∷ rest))

    abbrev makes : ℕ → Target → JniFunction → List Actual → Advance
    makes line to f args = call_step unit classes in_use k s it line to f args rest false

    -- the thread with nothing but the rest to do
    abbrev over : Thread
    over = record it { tasks = Some rest }

    puts : (line : ℕ) (to : TargetInMemory) (given : CallResult) (s' : Shared)
        → put (target_view to) given s' (record it { tasks = Some (tasks_after line (target_view to) (is_zero given) ++ rest) }) ≡ put (target_view to) given s' over
    puts line to given s' = ap (λ (ts : List Task). let u : Thread = record it { tasks = Some (ts ++ rest) } in put (target_view to) given s' u) (none_after line to (is_zero given))

    pub reads : (line : ℕ) (to : TargetInMemory) → steps_as it (Invoke line (target_view to) (GetField T) (named x ∷ named y ∷ [])) ≡ put (target_view to) (ScalarResult (Int (number_in (value_at s.heap n place)))) s over
    reads line to =
        ap (makes line (target_view to) (GetField T)) read_args
        ∙ read_steps unit classes in_use k s it refl line (target_view to) rest x n names.field T names.has
        ∙ puts line to (ScalarResult (Int (number_in (value_at s.heap n (field_place classes s.heap n names.field))))) s
        ∙ ap (λ (p : ℕ). put (target_view to) (ScalarResult (Int (number_in (value_at s.heap n p)))) s over) (sym names.is)

    pub writes : (line : ℕ) (z : ℤ) → steps_as it (Invoke line (target_view targets.Dropped) (SetField T) (named x ∷ named y ∷ NumberOperand (Done (Int z)) ∷ []))
        ≡ Advances (record s { heap = with_value_at s.heap n place (Number (convert T z)) }) over Quiet
    writes line z =
        ap (makes line (target_view targets.Dropped) (SetField T)) (write_args z)
        ∙ write_steps unit classes in_use k s it refl line (target_view targets.Dropped) rest x n names.field T names.has z
        ∙ ap (λ (p : ℕ). let s' : Shared = record s { heap = with_value_at s.heap n p (Number (convert T z)) } in Advances s' over Quiet) (sym names.is)

module _ (classes : Classes) (s : Shared) (vs : Contents) (element : ElementType) (x y : Identifier) (n place : ℕ) (names : NamesNumber classes s vs element x y n place) (i : Invocation) where
  abbrev T : ElementType
  T = element

  -- the call as the language has it
  abbrev call_with : Purpose → JniFunction → List Operand → Task
  call_with p f operands = Invoke i.line (purpose_view i.line p) f operands

  call_is : (p : Purpose) (f : JniFunction) (operands : List Operand) → i.purpose ≡ p → i.function ≡ f → operands_view i.operands ≡ operands → task_view (task.Invoke i) ≡ call_with p f operands
  call_is p f operands of_purpose of_function with = rw (of_purpose, of_function, with) refl

  -- the step of a thread of the scene is that of the thread in it, whose task is told so
  module _ (unit : SourceUnit) (in_use : BuffersInUse) (k : ℕ) (frames : List Frame) (t : Thread) (rest : List Task) (sees : Sees (scene_with unit classes in_use k s vs frames None) t) where
    told : (task' : Task) → task_view (task.Invoke i) ≡ task' → step_within unit classes in_use k s t false (Some (task_view (task.Invoke i) ∷ rest)) ≡ step_within unit classes in_use k s (in_scene t (scene_with unit classes in_use k s vs frames None)) false (Some (task' ∷ rest))
    told task' is =
        ap (λ (u : Thread). step_within unit classes in_use k s u false (Some (task_view (task.Invoke i) ∷ rest))) (same_scene (scene_with unit classes in_use k s vs frames None) t sees)
        ∙ ap (λ (u : Task). step_within unit classes in_use k s (in_scene t (scene_with unit classes in_use k s vs frames None)) false (Some (u ∷ rest))) is

  -- the number is put where it belongs
  pub read_tried : i.function ≡ function.GetField element → operands_view i.operands ≡ named x ∷ named y ∷ []
      → (p : Purpose) → i.purpose ≡ p → (took : Bool) (vs' : Contents) → PutsNumber vs p (number_in (value_at s.heap n place)) took vs' → TriesCall classes s vs i took s vs'
  read_tried is operands (purposes.Put to) of_purpose true vs' puts = λ unit in_use k frames t rest sees.
      told unit in_use k frames t rest sees (call_with (purposes.Put to) (GetField T) (named x ∷ named y ∷ [])) (call_is (purposes.Put to) (function.GetField element) (named x ∷ named y ∷ []) of_purpose is operands)
      ∙ reads classes s vs T x y n place names unit in_use k frames t rest i.line to
      ∙ puts s (over classes s vs T x y n place names unit in_use k frames t rest) refl
  read_tried is operands (purposes.Test b other) of_purpose true vs' puts = absurd puts
  read_tried is operands (purposes.Put to) of_purpose false vs' puts = (refl, puts)
  read_tried is operands (purposes.Test b other) of_purpose false vs' puts = (refl, puts)

  -- the number is written
  pub write_tried : (z : ℤ) (s' : Shared) → i.function ≡ function.SetField element → operands_view i.operands ≡ named x ∷ named y ∷ NumberOperand (Done (Int z)) ∷ []
      → i.purpose ≡ purposes.Put targets.Dropped → s' ≡ record s { heap = with_value_at s.heap n place (Number (convert T z)) } → TriesCall classes s vs i true s' vs
  write_tried z s' is operands of_purpose written = λ unit in_use k frames t rest sees.
      let all : List Operand = named x ∷ named y ∷ NumberOperand (Done (Int z)) ∷ [] in
      told unit in_use k frames t rest sees (call_with (purposes.Put targets.Dropped) (SetField T) all) (call_is (purposes.Put targets.Dropped) (function.SetField element) all of_purpose is operands)
      ∙ writes classes s vs T x y n place names unit in_use k frames t rest i.line z
      ∙ ap (λ (q : Shared). Advances q (over classes s vs T x y n place names unit in_use k frames t rest) Quiet) (sym written)

-- ---- the call goes on

-- it is over, and what comes next is begun
pub call_over : (classes : Classes) (s s' : Shared) (old : Activation) (i : Invocation) (vs' : Contents) (begun : Work) → old.work.task ≡ Some (task.Invoke i) → TriesCall classes s old.locals.variables i true s' vs'
    → tasks_left begun ≡ tasks_after_begun old.work.rest old.work.outer.items → AttemptsField classes s old true s' (record old { work = begun; locals = record old.locals { variables = vs' } })
call_over classes s s' old i vs' begun is took left = λ unit in_use k t sees has.
    let rest : List Task = tasks_after_begun old.work.rest old.work.outer.items in
    let after : Scene = scene_with unit classes in_use k s' vs' old.locals.frames None in
    ap (λ (o : Option TaskInMemory). step_within unit classes in_use k s t false (Some (tasks_from o rest))) is
    ∙ took unit in_use k old.locals.frames t rest sees
    ∙ ap (λ (ts : List Task). Advances s' (thread_in t ts after) Quiet) (sym left)

-- or all is as it was
pub call_left : (classes : Classes) (s s' : Shared) (old : Activation) (i : Invocation) (vs' : Contents) → TriesCall classes s old.locals.variables i false s' vs'
    → AttemptsField classes s old false s' (record old { locals = record old.locals { variables = vs' } })
call_left classes s s' old i vs' same =
    (same.0, ap (λ (vs : Contents). let a : Activation = record old { locals = record old.locals { variables = vs } } in a) same.1)
