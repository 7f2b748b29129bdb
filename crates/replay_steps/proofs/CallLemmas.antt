-- What a call in memory does is the call's step.
use Rattle.std.proofs.Common.{◌≡◌, ℕ, Bool, true, false, not, List, [], ◌∷◌, ◌++◌, ◌+◌, length, Option, Some, None, refl, sym, ap, ◌∙◌, append-nil}
use Rattle.std.specs.Prelude.{◌&&◌, ◌||◌, pos, drop, map, nat_le, if◌then◌else◌, is_some}
use Rattle.std.specs.List.{list_any}
use Rattle.base.specs.Bytes.{Identifier}
use Rattle.base.specs.declared.element.ElementType.{ElementType}
use Rattle.syntax.specs.declared.unit.ResultType.{ResultType}
use Rattle.syntax.specs.Tree.{SourceUnit}
use Rattle.class_rules.specs.Class.{Classes}
use Rattle.jni.specs.declared.access.Access.{Access}
use Rattle.jni.specs.declared.access.Access.TheVariants.{ElementsCopy, ArrayView, CharsCopy, CharsView}
use Rattle.jni.specs.declared.function.JniFunction.{JniFunction}
use Rattle.jni.specs.declared.function.JniFunction.TheVariants.{GetBuffer, ReleaseBuffer, CallStaticVoidMethod, CallStaticIntMethod, CallStaticObjectMethod}
use Rattle.jni.specs.JniFunction.{calls_method, is_allowed_pending, prototype}
use Rattle.jni.specs.declared.kinds.ResultKind.{ResultKind}
use Rattle.jni.specs.declared.kinds.ResultKind.TheVariants.{NewLocal}
use Rattle.semantics.specs.Answer.{Answer, Calls, Ensures, Halts, Pushes, effect_of}
use Rattle.semantics.specs.AnswerTable.{call_answer, method_called}
use Rattle.semantics.specs.CallSight.{ArgumentSight, CallSight, call_seen}
use Rattle.semantics.specs.Checks.{is_int, is_reference_result, is_void, calls_well, go_together, lacks_room, misfits, misses, trap_of, with_kinds, first_trap}
use Rattle.semantics.specs.Arguments.{Actual, address_given, method_given, passed_value}
use Rattle.semantics.specs.CallEffects.{CallResult, BufferResult, CallEffect, ScalarResult, Throws, Enters, Leaves, out_of_memory, refuses_frames, with_capacity}
use Rattle.semantics.specs.CallEffects as effects
use Rattle.semantics.specs.CallStep.{checked, after_call, after_refusal, call_step, effect_of_call, failure, is_zero, makes_objects, put, received, resumed, target_element, tell_copy}
use Rattle.semantics.specs.Effect.{tasks_after}
use Rattle.semantics.specs.Heap.{Heap}
use Rattle.semantics.specs.Method.{MethodId}
use Rattle.semantics.specs.Object.{ObjectValue, Reference}
use Rattle.semantics.specs.Task.{Target, Task}
use Rattle.semantics.specs.Thread.{BuffersInUse, Frame, Thread, Shared, Advance, Advances, capacities}
use Rattle.semantics.specs.declared.event.Event.TheVariants.{Quiet, Trapped}
use Rattle.semantics.specs.ThreadStep.{with_tasks}
use Rattle.semantics.specs.declared.trap.Trap.{Trap}
use Rattle.semantics.specs.declared.trap.Trap.TheVariants.{CallsTooDeep, DeletedReference, ExceptionPending, NoCapacity, NullReference, WrongObject}
use Rattle.semantics.specs.declared.value.Value.TheVariants.{Int}
use Rattle.semantics.specs.Variable.{Buffer, Variables}
use Rattle.semantics.proofs.CheckLaws.{lacks_without, passed, together_without}
use Rattle.replay_calls.specs.Answers.{answered, Coming, Gave, Left, Stops, FitsCall, array_given, frames_with, left_of}
use Rattle.replay_calls.specs.Answers as replay
use Rattle.replay_steps.specs.Calls.{HasAnswer, MakesCall, lent_outcome, seen_by, wanted_element}
use Rattle.replay_steps.specs.Steps.{Scene, Sees, calling_by, left_by, scene_with, waiting}
use Rattle.replay_steps.proofs.TaskLemmas.{same_thread}
use Rattle.replay_steps.proofs.ThreadLocals.{as_it_is, in_locals, in_received}
use Rattle.replay_tasks.specs.Outcomes.{outcome_for, purpose_view}
use Rattle.replay_tasks.specs.Tasks.{task_view}
use Rattle.replay_tasks.specs.declared.outcome.Outcome.{Outcome}
use Rattle.replay_tasks.specs.declared.outcome.Outcome.TheVariants as outcome
use Rattle.replay_tasks.specs.declared.outcome.Purpose.{Purpose as PurposeInMemory}
use Rattle.replay_tasks.specs.declared.outcome.Purpose.TheVariants as purposes
use Rattle.replay_tasks.specs.declared.outcome.Target.TheVariants as targets
use Rattle.replay_tasks.specs.declared.task.Invocation.{Invocation}
use Rattle.replay_tasks.specs.declared.task.Task.{Task as TaskInMemory}
use Rattle.replay_terms.specs.Views.{given_view, lent_view, Contents, variables_view}
use Rattle.replay_terms.specs.declared.given.Given.{Given}
use Rattle.replay_terms.specs.declared.given.Given.TheVariants as given
use Rattle.replay_terms.specs.declared.given.Lent.{Lent}
use Rattle.std.specs.Borrow.{Bor}

-- ---- the depth of calls

-- the trap of the last check, after the others
abbrev with_depth : Option Trap → (deep : Bool) → Option Trap
with_depth (Some trap) deep = Some trap
with_depth None true = Some CallsTooDeep
with_depth None false = None

last_check : (a b c d e calls deep : Bool)
    → first_trap ((a, ExceptionPending) ∷ (b, DeletedReference) ∷ (c, NullReference) ∷ (d, WrongObject) ∷ (e, NoCapacity) ∷ (calls && deep, CallsTooDeep) ∷ [])
    ≡ with_depth (first_trap ((a, ExceptionPending) ∷ (b, DeletedReference) ∷ (c, NullReference) ∷ (d, WrongObject) ∷ (e, NoCapacity) ∷ (calls && false, CallsTooDeep) ∷ [])) (calls && deep)
last_check true b c d e calls deep = refl
last_check false true c d e calls deep = refl
last_check false false true d e calls deep = refl
last_check false false false true e calls deep = refl
last_check false false false false true calls deep = refl
last_check false false false false false true true = refl
last_check false false false false false true false = refl
last_check false false false false false false deep = refl

-- an effect of a call, where its depth is checked
abbrev pub deepened : CallEffect → (deep : Bool) → CallEffect
deepened (Throws c) deep = Throws c
deepened (effects.Halts trap) deep = effects.Halts trap
deepened (Enters x values) true = effects.Halts CallsTooDeep
deepened (Enters x values) false = Enters x values
deepened (Leaves made s t given) deep = Leaves made s t given

makes_as_many : (e : CallEffect) (deep : Bool) → makes_objects (deepened e deep) ≡ makes_objects e
makes_as_many (Throws c) deep = refl
makes_as_many (effects.Halts trap) deep = refl
makes_as_many (Enters x values) true = refl
makes_as_many (Enters x values) false = refl
makes_as_many (Leaves made s t given) deep = refl

-- ---- what a call sees, by how many others wait for it

module _ (unit : SourceUnit) (classes : Classes) (k : ℕ) (s : Shared) (vs : Variables) (frames : List Frame) (pending : Reference) (element : ElementType) (args : List Actual) where
  abbrev seen : ℕ → JniFunction → CallSight
  seen callers f = call_seen s vs frames callers pending f args

  answer_alike : (n : ℕ) (f : JniFunction) → call_answer unit classes k (seen n f) f ≡ call_answer unit classes k (seen 0 f) f
  unfolding call_answer
  answer_alike n (GetBuffer (ElementsCopy T)) = refl
  answer_alike n (GetBuffer ArrayView) = refl
  answer_alike n (GetBuffer CharsCopy) = refl
  answer_alike n (GetBuffer CharsView) = refl
  answer_alike n (ReleaseBuffer (ElementsCopy T)) = refl
  answer_alike n (ReleaseBuffer ArrayView) = refl
  answer_alike n (ReleaseBuffer CharsCopy) = refl
  answer_alike n (ReleaseBuffer CharsView) = refl
  answer_alike n f = refl

  trap_deep : (n : ℕ) (f : JniFunction) → trap_of classes (seen n f) element f ≡ with_depth (trap_of classes (seen 0 f) element f) (calls_method f && nat_le 64 (n + 1))
  unfolding trap_of
  trap_deep n f =
      let tests : Bool → Bool → Option Trap = λ fit full. first_trap (
      (is_some pending && not (is_allowed_pending f), ExceptionPending)
      ∷ (list_any (λ (a : ArgumentSight). a.is_deleted) (seen 0 f).arguments, DeletedReference)
      ∷ (list_any misses (with_kinds classes (seen 0 f) f), NullReference)
      ∷ (list_any (misfits classes) (with_kinds classes (seen 0 f) f) || not fit, WrongObject)
      ∷ (full, NoCapacity)
      ∷ (calls_method f && nat_le 64 (n + 1), CallsTooDeep)
      ∷ []) in
      ap (λ (b : Bool). tests b (lacks_room classes (seen n f) f (prototype f).result)) (together_without classes (seen 0 f) (seen 0 f).monitor (seen 0 f).held n element f)
      ∙ ap (tests (go_together classes (seen 0 f) element f)) (lacks_without classes (seen 0 f) (seen 0 f).monitor (seen 0 f).held n f (prototype f).result)
      ∙ last_check _ _ _ _ _ (calls_method f) (nat_le 64 (n + 1))

-- ---- the effect of an answer

module _ (unit : SourceUnit) (classes : Classes) (in_use : BuffersInUse) (k : ℕ) (s : Shared) (t : Thread) (element : ElementType) (args : List Actual) where
  abbrev effect : Answer → CallEffect
  effect a = effect_of classes in_use k s t args a

  abbrev sight : JniFunction → CallSight
  sight f = call_seen s t.variables t.frames 0 t.pending f args

  -- only a call of a method can be too deep
  abbrev either : List Frame → Bool → CallEffect
  either fs b = if b then Leaves [] s (record t { frames = fs }) (ScalarResult (Int (pos 0))) else refuses_frames classes s t

  either_alone : (fs : List Frame) (b deep : Bool) → either fs b ≡ deepened (either fs b) deep
  either_alone fs true deep = refl
  either_alone fs false deep = refl

  never_deep : (a : Answer) (f : JniFunction) (deep : Bool) → FitsCall s.heap (array_given t.variables args) f a → calls_method f ≡ false → effect a ≡ deepened (effect a) deep
  unfolding effect_of
  never_deep (Ensures n) f deep fits none = either_alone (with_capacity n t.frames) (nat_le (capacities (with_capacity n t.frames)) 1024) deep
  never_deep (Pushes n) f deep fits none = either_alone (record { capacity = n; references = [] } ∷ t.frames) (nat_le (capacities (record { capacity = n; references = [] } ∷ t.frames)) 1024) deep
  never_deep (Calls m) f deep fits none = absurd (cc)
  never_deep a f deep fits none = refl

  -- a method that is called, where it is given
  by_method : (m : Option MethodId) (deep : Bool) → is_some m ≡ true → effect (answered (with_depth None deep) (method_called m)) ≡ deepened (effect (method_called m)) deep
  unfolding effect_of
  by_method None deep some = absurd (cc)
  by_method (Some m) true some = refl
  by_method (Some m) false some = refl

  method_there : (f : JniFunction) (returns : ResultType → Bool) (m : Option MethodId) → calls_well classes (sight f) returns m ≡ true → is_some m ≡ true
  method_there f returns None h = absurd (cc)
  method_there f returns (Some m) h = refl

  by_calling : (f : JniFunction) (deep : Bool) → calls_method f ≡ true → go_together classes (sight f) element f ≡ true
      → effect (answered (with_depth None deep) (call_answer unit classes k (sight f) f)) ≡ deepened (effect (call_answer unit classes k (sight f) f)) deep
  unfolding call_answer go_together
  by_calling CallStaticVoidMethod deep calls fit = by_method (method_given args 1) deep (method_there CallStaticVoidMethod is_void (method_given args 1) fit)
  by_calling CallStaticIntMethod deep calls fit = by_method (method_given args 1) deep (method_there CallStaticIntMethod is_int (method_given args 1) fit)
  by_calling CallStaticObjectMethod deep calls fit = by_method (method_given args 1) deep (method_there CallStaticObjectMethod is_reference_result (method_given args 1) fit)
  by_calling f deep calls fit = absurd (cc)

  halted : (trap : Trap) (deep : Bool) → effect (Halts trap) ≡ deepened (effect (Halts trap)) deep
  unfolding effect_of
  halted trap deep = refl

  by_checks : (f : JniFunction) (a : Answer) (deep : Bool) (o : Option Trap) → trap_of classes (sight f) element f ≡ o → FitsCall s.heap (array_given t.variables args) f a
      → a ≡ answered o (call_answer unit classes k (sight f) f) → (b : Bool) → calls_method f ≡ b
      → effect (answered (with_depth o (b && deep)) (call_answer unit classes k (sight f) f)) ≡ deepened (effect a) deep
  by_checks f a deep (Some trap) trapped fits is b calls = halted trap deep ∙ ap (λ (x : Answer). deepened (effect x) deep) (sym is)
  by_checks f a deep None trapped fits is true calls =
      by_calling f deep calls (passed classes (sight f) element f trapped).together
      ∙ ap (λ (x : Answer). deepened (effect x) deep) (sym is)
  by_checks f a deep None trapped fits is false calls = ap effect (sym is) ∙ never_deep a f deep fits calls

-- in whatever line the call is
any_line : (vs : Contents) (line : ℕ) (p : PurposeInMemory) → target_element (variables_view vs) (purpose_view line p) ≡ wanted_element vs p
any_line vs line (purposes.Put to) = refl
any_line vs line (purposes.Test b other) = refl

-- ---- how a call goes on

-- none of these gives a buffer
not_told : (x : Option Identifier) (g : Given) (vs : Variables) → tell_copy x (given_view g) vs ≡ vs
not_told None g vs = refl
not_told (Some x) given.Nothing vs = refl
not_told (Some x) given.Null vs = refl
not_told (Some x) (given.Number z) vs = refl
not_told (Some x) (given.Flag c) vs = refl
not_told (Some x) (given.Reference r) vs = refl
not_told (Some x) (given.Weak r) vs = refl
not_told (Some x) (given.Field f) vs = refl
not_told (Some x) (given.Method m) vs = refl

-- a buffer goes into no frame
received_buffer : (kind : ResultKind) (b : Buffer) (t : Thread) → received kind (BufferResult b) t ≡ t
received_buffer NewLocal b t = refl
received_buffer kind b t = refl

-- a failure leaves the frames alone
failed_frames : (kind : ResultKind) (frames : List Frame) → frames_with kind (failure kind) frames ≡ frames
failed_frames NewLocal frames = refl
failed_frames kind frames = refl

module _ (unit : SourceUnit) (classes : Classes) (in_use : BuffersInUse) (k : ℕ) (s : Shared) (t : Thread) (line : ℕ) (purpose : PurposeInMemory) (f : JniFunction) (args : List Actual) (rest : List Task) where
  abbrev kind : ResultKind
  kind = (prototype f).result

  -- the thread waits for the function of this name, if that is not too deep
  abbrev waits_by : (deep : Bool) → Shared → Thread → Identifier → List ObjectValue → Advance
  waits_by deep s' u x values =
      if deep then Advances s' u (Trapped CallsTooDeep line)
      else Advances s' (waiting u
      (record { target = purpose_view line purpose; result = kind; tasks = rest; variables = u.variables; frames = u.frames })
      (record { line = line; function = x; arguments = values })) Quiet

  -- by what a call left
  abbrev goes_by : (deep : Bool) → Shared → Thread → Coming → Advance
  goes_by deep s' u (Gave g) = put (purpose_view line purpose) g s' (resumed unit classes in_use k s t line (purpose_view line purpose) f args rest u g)
  goes_by deep s' u (replay.Enters x values) = waits_by deep s' u x values
  goes_by deep s' u (Stops trap) = Advances s' u (Trapped trap line)

  abbrev goes : (deep : Bool) → Left → Advance
  goes deep l = goes_by deep l.shared l.thread l.coming

  after_left : (e : CallEffect) (deep : Bool)
      → after_call unit classes in_use k s t line (purpose_view line purpose) f args rest (deepened e deep) ≡ goes deep (left_of classes kind s t e)
  after_left (Throws c) deep = refl
  after_left (effects.Halts trap) deep = refl
  after_left (Enters x values) true = refl
  after_left (Enters x values) false = refl
  after_left (Leaves [] s' u g) deep =
      ap (λ (heap : Heap). let after : Shared = record s' { heap = heap } in put (purpose_view line purpose) g after (resumed unit classes in_use k s t line (purpose_view line purpose) f args rest u g)) (append-nil s'.heap)
  after_left (Leaves (o ∷ made) s' u g) deep = refl

  -- in memory
  module _ (s' : Shared) (vs : Variables) (frames : List Frame) (pending : Reference) (new : TaskInMemory) where
    by_purpose : (p : PurposeInMemory) (fs : List Frame) (g : Given)
        → put (purpose_view line p) (given_view g) s' (with_tasks (in_locals t vs fs pending) (tasks_after line (purpose_view line p) (is_zero (given_view g)) ++ rest)) ≡ left_by k s' (in_locals t vs fs pending) rest (outcome_for line p g) new
    by_purpose (purposes.Put (targets.Declared u x)) fs g = refl
    by_purpose (purposes.Put (targets.Assigned x)) fs g = refl
    by_purpose (purposes.Put targets.Dropped) fs g = refl
    by_purpose (purposes.Test b other) fs g = refl

    gave : (g : Given) (deep : Bool) → goes_by deep s' (in_locals t vs frames pending) (Gave (given_view g)) ≡ left_by k s' (in_locals t vs (frames_with kind (given_view g) frames) pending) rest (outcome_for line purpose g) new
    gave g deep =
        let todo : List Task = tasks_after line (purpose_view line purpose) (is_zero (given_view g)) ++ rest in
        ap (λ (w : Thread). let u : Thread = record w { tasks = Some todo; variables = tell_copy (address_given args 1) (given_view g) vs } in put (purpose_view line purpose) (given_view g) s' u) (in_received kind g t vs frames pending)
        ∙ ap (λ (ws : Variables). let u : Thread = record (in_locals t vs (frames_with kind (given_view g) frames) pending) { tasks = Some todo; variables = ws } in put (purpose_view line purpose) (given_view g) s' u) (not_told (address_given args 1) g vs)
        ∙ by_purpose purpose (frames_with kind (given_view g) frames) g

    lent_by_purpose : (p : PurposeInMemory) (us : Variables) (b : Lent)
        → put (purpose_view line p) (BufferResult (lent_view s'.heap b)) s' (with_tasks (in_locals t us frames pending) (tasks_after line (purpose_view line p) false ++ rest)) ≡ left_by k s' (in_locals t us frames pending) rest (lent_outcome line p b) new
    lent_by_purpose (purposes.Put (targets.Declared u x)) us b = refl
    lent_by_purpose (purposes.Put (targets.Assigned x)) us b = refl
    lent_by_purpose (purposes.Put targets.Dropped) us b = refl
    lent_by_purpose (purposes.Test d other) us b = refl

    lent : (b : Lent) (deep : Bool)
        → goes_by deep s' (in_locals t vs frames pending) (Gave (BufferResult (lent_view s'.heap b))) ≡ left_by k s' (in_locals t (tell_copy (address_given args 1) (BufferResult (lent_view s'.heap b)) vs) frames pending) rest (lent_outcome line purpose b) new
    lent b deep =
        let given = BufferResult (lent_view s'.heap b) in
        let us : Variables = tell_copy (address_given args 1) given vs in
        let todo : List Task = tasks_after line (purpose_view line purpose) false ++ rest in
        ap (λ (w : Thread). let u : Thread = record w { tasks = Some todo; variables = us } in put (purpose_view line purpose) given s' u) (received_buffer kind (lent_view s'.heap b) (in_locals t vs frames pending))
        ∙ lent_by_purpose purpose us b

-- ---- the call of a function

module _ (unit : SourceUnit) (classes : Classes) (in_use : BuffersInUse) (k : ℕ) (s : Shared) (vs : Contents) (frames : List Frame) (pending : Reference) (line : ℕ) (i : Invocation) (args : List Actual) (a : Answer) where
  abbrev before : Scene
  before = scene_with unit classes in_use k s vs frames pending

  abbrev f : JniFunction
  f = i.function

  abbrev target : Target
  target = purpose_view line i.purpose

  module _ (has : HasAnswer before i args a) (t : Thread) (rest : List Task) (sees : Sees before t) where
    abbrev calls : Thread
    calls = in_locals t (variables_view vs) frames pending

    abbrev deep : Bool
    deep = nat_le 64 (length t.callers + 1)

    abbrev by_effect : Bool → CallEffect → Advance
    by_effect false effect = after_call unit classes in_use k s calls line target f args rest effect
    by_effect true effect = after_refusal unit classes in_use k s calls line target f args rest (makes_objects effect)

    abbrev answer_effect : CallEffect
    answer_effect = effect_of classes in_use k s calls args a

    steps : (refused : Bool) → call_step unit classes in_use k s calls line target f args rest refused ≡ by_effect refused (effect_of_call unit classes in_use k s calls line target f args rest)
    steps false = refl
    steps true = refl

    -- what the call sees
    abbrev sees_here : CallSight
    sees_here = call_seen s (variables_view vs) frames (length t.callers) pending f args

    -- what it does, by what its checks find
    abbrev by_found : Option Trap → Answer → CallEffect
    by_found o b = effect_of classes in_use k s calls args (answered o b)

    as_answered : (o : Option Trap) (b : Answer) → checked o (effect_of classes in_use k s calls args b) ≡ by_found o b
    unfolding effect_of
    as_answered (Some trap) b = refl
    as_answered None b = refl

    -- the effect is that of the answer
    answers : effect_of_call unit classes in_use k s calls line target f args rest ≡ deepened answer_effect deep
    answers =
        as_answered (trap_of classes sees_here (target_element (variables_view vs) target) f) (call_answer unit classes k sees_here f)
        ∙ ap (λ (T : ElementType). by_found (trap_of classes sees_here T f) (call_answer unit classes k sees_here f)) (any_line vs line i.purpose)
        ∙ ap (λ (o : Option Trap). by_found o (call_answer unit classes k sees_here f)) (trap_deep unit classes k s (variables_view vs) frames pending (wanted_element vs i.purpose) args (length t.callers) f)
        ∙ ap (by_found (with_depth (trap_of classes (seen_by before i args) (wanted_element vs i.purpose) f) (calls_method f && deep))) (answer_alike unit classes k s (variables_view vs) frames pending (wanted_element vs i.purpose) args (length t.callers) f)
        ∙ by_checks unit classes in_use k s calls (wanted_element vs i.purpose) args f a deep (trap_of classes (seen_by before i args) (wanted_element vs i.purpose) f) refl has.fits has.is (calls_method f) refl

    step_is : (refused : Bool) → call_step unit classes in_use k s t line target f args rest refused ≡ by_effect refused (deepened answer_effect deep)
    step_is refused =
        ap (λ (u : Thread). call_step unit classes in_use k s u line target f args rest refused) (as_it_is t (variables_view vs) frames pending sees.variables sees.frames sees.pending)
        ∙ steps refused
        ∙ ap (by_effect refused) answers

    -- it goes on by what it left
    goes_on : (l : Left) → left_of classes (prototype f).result s calls answer_effect ≡ l → call_step unit classes in_use k s t line target f args rest false ≡ goes unit classes in_use k s calls line i.purpose f args rest deep l
    goes_on l left = step_is false ∙ after_left unit classes in_use k s calls line i.purpose f args rest answer_effect deep ∙ ap (goes unit classes in_use k s calls line i.purpose f args rest deep) left

    -- with an object refused it goes by whether it makes one
    by_makes : (b : Bool) → b ≡ makes_objects answer_effect → call_step unit classes in_use k s t line target f args rest true ≡ after_refusal unit classes in_use k s calls line target f args rest b
    by_makes b makes = step_is true ∙ ap (after_refusal unit classes in_use k s calls line target f args rest) (makes_as_many answer_effect deep ∙ sym makes)

  -- what is left of each thread
  abbrev IsLeft : Shared → Contents → List Frame → Reference → Coming → Type 0
  IsLeft s' vs' frames' pending' c =
      (t : Thread) → left_of classes (prototype f).result s (in_locals t (variables_view vs) frames pending)
      (effect_of classes in_use k s (in_locals t (variables_view vs) frames pending) args a)
      ≡ record { shared = s'; thread = in_locals t (variables_view vs') frames' pending'; coming = c }

  -- it gives what goes into a frame
  pub call_gives : (refused : Bool) (g : Given) (kind : ResultKind) (s' : Shared) (vs' : Contents) (between frames' : List Frame) (pending' : Reference) (took : Outcome) → HasAnswer before i args a → refused ≡ false
      → IsLeft s' vs' between pending' (Gave (given_view g)) → kind ≡ (prototype f).result → frames' ≡ frames_with kind (given_view g) between → took ≡ outcome_for line i.purpose g
      → MakesCall refused before line i.purpose f args took (scene_with unit classes in_use k s' vs' frames' pending')
  call_gives refused g kind s' vs' between frames' pending' took has possible left is framed is_for =
      rw (possible, framed, is_for, is) (λ t rest new sees todo finds.
      goes_on has t rest sees (record { shared = s'; thread = in_locals t (variables_view vs') between pending'; coming = Gave (given_view g) }) (left t)
      ∙ gave unit classes in_use k s (calls has t rest sees) line i.purpose f args rest s' (variables_view vs') between pending' new g (deep has t rest sees))

  -- it gives a buffer
  pub call_lends : (refused : Bool) (b : Lent) (s' : Shared) (between vs' : Contents) (under frames' : List Frame) (pending' : Reference) (took : Outcome) → HasAnswer before i args a → refused ≡ false
      → IsLeft s' between under pending' (Gave (BufferResult (lent_view s'.heap b))) → variables_view vs' ≡ tell_copy (address_given args 1) (BufferResult (lent_view s'.heap b)) (variables_view between)
      → frames' ≡ under → took ≡ lent_outcome line i.purpose b
      → MakesCall refused before line i.purpose f args took (scene_with unit classes in_use k s' vs' frames' pending')
  call_lends refused b s' between vs' under frames' pending' took has possible left varied framed is_for =
      rw (possible, framed, is_for) (λ t rest new sees todo finds.
      goes_on has t rest sees (record { shared = s'; thread = in_locals t (variables_view between) under pending'; coming = Gave (BufferResult (lent_view s'.heap b)) }) (left t)
      ∙ lent unit classes in_use k s (calls has t rest sees) line i.purpose f args rest s' (variables_view between) under pending' new b (deep has t rest sees)
      ∙ ap (λ (us : Variables). left_by k s' (in_locals t us under pending') rest (lent_outcome line i.purpose b) new) (sym varied))

  -- the run stops
  pub call_halts : (refused : Bool) (trap : Trap) (s' : Shared) (vs' : Contents) (frames' : List Frame) (pending' : Reference) → HasAnswer before i args a → refused ≡ false
      → IsLeft s' vs' frames' pending' (Stops trap)
      → MakesCall refused before line i.purpose f args (outcome.Trapped trap line) (scene_with unit classes in_use k s' vs' frames' pending')
  call_halts refused trap s' vs' frames' pending' has possible left =
      rw possible (λ t rest new sees todo finds.
      goes_on has t rest sees (record { shared = s'; thread = in_locals t (variables_view vs') frames' pending'; coming = Stops trap }) (left t)
      ∙ ap (λ (u : Thread). Advances s' u (Trapped trap line)) (same_thread (in_locals t (variables_view vs') frames' pending') (task_view new ∷ rest) todo))

  -- where a method is called, nothing else is done
  same_before : (u : Thread) (e : CallEffect) (l : Left) (x : Identifier) (values : List ObjectValue) → left_of classes (prototype f).result s u e ≡ l → l.coming ≡ replay.Enters x values → (l.shared ≡ s) × (l.thread ≡ u)
  same_before u (Throws c) l x values left is = let other : Gave (failure (prototype f).result) ≡ replay.Enters x values = ap (λ (m : Left). m.coming) left ∙ is in absurd (cc)
  same_before u (effects.Halts trap) l x values left is = let other : Stops trap ≡ replay.Enters x values = ap (λ (m : Left). m.coming) left ∙ is in absurd (cc)
  same_before u (Enters y others) l x values left is = (sym (ap (λ (m : Left). m.shared) left), sym (ap (λ (m : Left). m.thread) left))
  same_before u (Leaves made s' u' g) l x values left is = let other : Gave g ≡ replay.Enters x values = ap (λ (m : Left). m.coming) left ∙ is in absurd (cc)

  pub call_waits : (refused : Bool) (x : Bor Identifier) (s' : Shared) (vs' : Contents) (frames' : List Frame) (pending' : Reference) → HasAnswer before i args a → refused ≡ false
      → IsLeft s' vs' frames' pending' (replay.Enters x.now (map passed_value (drop 2 args)))
      → MakesCall refused before line i.purpose f args (outcome.Calls line x) (scene_with unit classes in_use k s' vs' frames' pending')
  call_waits refused x s' vs' frames' pending' has possible left =
      rw possible (λ t rest new sees todo finds.
      let u : Thread = in_locals t (variables_view vs) frames pending in
      let u' : Thread = in_locals t (variables_view vs') frames' pending' in
      let tasks : List Task = task_view new ∷ rest in
      let values : List ObjectValue = map passed_value (drop 2 args) in
      let same = same_before u (answer_effect has t rest sees) (record { shared = s'; thread = u'; coming = replay.Enters x.now values }) x.now values (left t) refl in
      let waits : Shared → Thread → List Actual → Advance = λ s'' w passed. waits_by unit classes in_use k s u line i.purpose f args rest (deep has t rest sees) s'' w x.now (map passed_value (drop 2 passed)) in
      goes_on has t rest sees (record { shared = s'; thread = u'; coming = replay.Enters x.now values }) (left t)
      ∙ ap (λ (s'' : Shared). waits s'' u' args) same.0
      ∙ ap (λ (w : Thread). waits s w args) same.1
      ∙ ap (λ (w : Thread). waits s w args) (same_thread u tasks todo)
      ∙ ap (waits s (with_tasks u tasks)) finds.found
      ∙ ap (λ (w : Task). calling_by s (with_tasks u tasks) line x.now (Some (w ∷ rest))) (sym finds.is)
      ∙ ap (λ (s'' : Shared). calling_by s'' (with_tasks u tasks) line x.now (Some tasks)) (sym same.0)
      ∙ ap (λ (w : Thread). calling_by s' (with_tasks w tasks) line x.now (Some tasks)) (sym same.1))

  -- it makes no object that can be refused
  pub none_refused : (b : Bool) → HasAnswer before i args a → ((t : Thread) → b ≡ makes_objects (effect_of classes in_use k s t args a)) → b ≡ false → MakesCall true before line i.purpose f args outcome.Impossible before
  none_refused b has makes is = λ t rest new sees todo finds. by_makes has t rest sees false (sym is ∙ makes (calls has t rest sees))

  -- its object is refused
  pub object_refused : (b : Bool) (g : Given) (kind : ResultKind) (pending' : Reference) (took : Outcome) → HasAnswer before i args a → ((t : Thread) → b ≡ makes_objects (effect_of classes in_use k s t args a)) → b ≡ true
      → kind ≡ (prototype f).result → given_view g ≡ failure kind → pending' ≡ Some (out_of_memory classes) → took ≡ outcome_for line i.purpose g
      → MakesCall true before line i.purpose f args took (scene_with unit classes in_use k s vs frames pending')
  object_refused b g kind pending' took has makes is is_kind failed pended is_for =
      rw (pended, is_for) (λ t rest new sees todo finds.
      let u : Thread = in_locals t (variables_view vs) frames (Some (out_of_memory classes)) in
      let failing : given_view g ≡ failure (prototype f).result = failed ∙ ap failure is_kind in
      by_makes has t rest sees true (sym is ∙ makes (calls has t rest sees))
      ∙ after_left unit classes in_use k s (calls has t rest sees) line i.purpose f args rest (Leaves [] s u (failure (prototype f).result)) (deep has t rest sees)
      ∙ ap (λ (c : CallResult). goes_by unit classes in_use k s (calls has t rest sees) line i.purpose f args rest (deep has t rest sees) s u (Gave c)) (sym failing)
      ∙ gave unit classes in_use k s (calls has t rest sees) line i.purpose f args rest s (variables_view vs) frames (Some (out_of_memory classes)) new g (deep has t rest sees)
      ∙ ap (λ (fs : List Frame). left_by k s (in_locals t (variables_view vs) fs (Some (out_of_memory classes))) rest (outcome_for line i.purpose g) new) (ap (λ (c : CallResult). frames_with (prototype f).result c frames) failing ∙ failed_frames (prototype f).result frames))

-- which element type a buffer is to have matters only to a function that gives one
together_of_any : (classes : Classes) (sight : CallSight) (T T' : ElementType) (f : JniFunction) → ((a : Access) → f ≡ GetBuffer a → ⊥) → go_together classes sight T f ≡ go_together classes sight T' f
unfolding go_together
together_of_any classes sight T T' (GetBuffer (ElementsCopy U)) none = refl
together_of_any classes sight T T' (GetBuffer ArrayView) none = absurd (none ArrayView refl)
together_of_any classes sight T T' (GetBuffer CharsCopy) none = refl
together_of_any classes sight T T' (GetBuffer CharsView) none = refl
together_of_any classes sight T T' f none = refl

trap_of_any : (classes : Classes) (sight : CallSight) (T T' : ElementType) (f : JniFunction) → ((a : Access) → f ≡ GetBuffer a → ⊥) → trap_of classes sight T f ≡ trap_of classes sight T' f
unfolding trap_of
trap_of_any classes sight T T' f none =
    let together = together_of_any classes sight T T' f none in
    λ i. first_trap (
    (is_some sight.pending && not (is_allowed_pending f), ExceptionPending)
    ∷ (list_any (λ (a : ArgumentSight). a.is_deleted) sight.arguments, DeletedReference)
    ∷ (list_any misses (with_kinds classes sight f), NullReference)
    ∷ (list_any (misfits classes) (with_kinds classes sight f) || not (together i), WrongObject)
    ∷ (lacks_room classes sight f (prototype f).result, NoCapacity)
    ∷ (calls_method f && nat_le 64 (sight.callers + 1), CallsTooDeep)
    ∷ [])

-- the answer, by the element type that is wanted
pub has_answer : (scene : Scene) (i : Invocation) (args : List Actual) (a : Answer) (T : ElementType) → T ≡ wanted_element scene.variables i.purpose
    → a ≡ answered (trap_of scene.classes (seen_by scene i args) T i.function)
    (call_answer scene.unit scene.classes scene.thread (seen_by scene i args) i.function)
    → FitsCall scene.shared.heap (array_given (variables_view scene.variables) args) i.function a → HasAnswer scene i args a
has_answer scene i args a T same is fits = record {
  is = is ∙ ap (λ (V : ElementType). answered (trap_of scene.classes (seen_by scene i args) V i.function) (call_answer scene.unit scene.classes scene.thread (seen_by scene i args) i.function)) same;
  fits = fits;
}

-- the same of a function that gives no buffer, whatever the element type
pub has_answer_of_any : (scene : Scene) (i : Invocation) (args : List Actual) (a : Answer) (T : ElementType) → ((access : Access) → i.function ≡ GetBuffer access → ⊥)
    → a ≡ answered (trap_of scene.classes (seen_by scene i args) T i.function)
    (call_answer scene.unit scene.classes scene.thread (seen_by scene i args) i.function)
    → FitsCall scene.shared.heap (array_given (variables_view scene.variables) args) i.function a → HasAnswer scene i args a
has_answer_of_any scene i args a T none is fits =
    let wanted = wanted_element scene.variables i.purpose in
    has_answer scene i args a wanted refl
    (is ∙ ap (λ (trap : Option Trap). answered trap (call_answer scene.unit scene.classes scene.thread (seen_by scene i args) i.function)) (trap_of_any scene.classes (seen_by scene i args) T wanted i.function none))
    fits
