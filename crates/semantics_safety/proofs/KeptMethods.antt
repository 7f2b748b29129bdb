-- Each step leaves the method IDs of a call's variables such that they can be called.
use Rattle.std.proofs.Common.{◌≡◌, ℕ, Bool, true, false, List, [], ◌∷◌, ◌++◌, length, take, drop, zip, Option, Some, None, refl, sym, subst, if◌then◌else◌}
use Rattle.std.specs.Prelude.{ℤ, nat_le}
use Rattle.std.specs.List.{AllByRecursion}
use Rattle.std.specs.Option.{option_map}
use Rattle.std.specs.Str.{bytes_eq}
use Rattle.std.proofs.lemmas.Bool.{cond_both}
use Rattle.base.specs.Bytes.{Identifier, lookup}
use Rattle.base.specs.Limits.{most_references}
use Rattle.class_rules.specs.Class.{Classes}
use Rattle.syntax.specs.Tree.{Function, Parameter, SourceUnit}
use Rattle.jni.specs.declared.function.JniFunction.{JniFunction}
use Rattle.jni.specs.JniFunction.{prototype}
use Rattle.jni.specs.declared.kinds.ResultKind.{ResultKind}
use Rattle.jni.specs.declared.kinds.ResultKind.TheVariants.{NewLocal, NewGlobal, NewWeak, GivesFlag, GivesInt, GivesField, GivesMethod, GivesNothing, GivesBuffer}
use Rattle.semantics.specs.Activation.{class_of_function, enter, entered, entered_function, entry_advance, function_at, parameter_variables}
use Rattle.semantics.specs.Answer.{Answer}
use Rattle.semantics.specs.Answer as answer
use Rattle.semantics.specs.Arguments.{Actual, variable_given, address_given}
use Rattle.semantics.specs.CallEffects.{CallResult, NullResult, ScalarResult, ReferenceResult, FieldResult, MethodResult, BufferResult, CallEffect, Throws, Halts, Leaves, Enters, out_of_memory, with_capacity, frames_effect, begun_with, freed}
use Rattle.semantics.specs.AnswerTable.{call_effect}
use Rattle.semantics.specs.CallSight.{CallSight, sight_of_call}
use Rattle.semantics.specs.CallStep.{blank, filled, put, put_assigned, received, tell_copy, failure, resumed, trap_of_call, checked, completed, after_call, after_refusal, call_step}
use Rattle.semantics.specs.Effect.{Effect, Becomes, Sets, SetsNull, SetsElement, MakesArray, Prints, Calls, Returns, TrapsAt, NoEffect, effect_of}
use Rattle.semantics.specs.Heap.{next_name, numbers_of}
use Rattle.semantics.specs.Method.{MethodId, find_method}
use Rattle.semantics.specs.Object.{Object, ObjectValue, Number, Refers, Reference}
use Rattle.semantics.specs.Return.{fitted, given_back, nothing_of, resumed_in, return_by}
use Rattle.semantics.specs.declared.variable_kind.VariableKind.{VariableKind}
use Rattle.semantics.specs.declared.variable_kind.VariableKind.TheVariants as kinds
use Rattle.semantics.specs.Task.{Task, Target, Declared, Assigned, Tested, Dropped}
use Rattle.semantics.specs.Thread.{Thread, Caller, Shared, BuffersInUse, Frame, Advance, Advances, NoAdvance, capacities, sight_of}
use Rattle.semantics.specs.ThreadStep.{set_element, with_tasks, after_effect, after_refused_effect, step_within}
use Rattle.semantics.specs.declared.trap.Trap.{Trap}
use Rattle.semantics.specs.declared.value.Value.TheVariants.{Int, Flag}
use Rattle.semantics.specs.Variable.{Variable, Scalar, LocalRef, FieldHandle, MethodHandle, Elements, LocalArray, NoBuffer, Copy, View, Variables, assign, change}
use Rattle.semantics.specs.World.{Invocation, fresh_object}
use Rattle.semantics.proofs.AnswerFacts.{IsOfKind, OfMethod}
use Rattle.semantics.proofs.AnswerKinds.{AnswersAs, CallKind, Calling, CopyingBack, Ensuring, Filling, FillingNone, Freeing, Giving, Halting, Pending, Pushing, Raising, answers_as}
use Rattle.semantics_safety.specs.Stands.{AreCallable, HoldsCallable}
use Rattle.semantics_safety.specs.StepSafe.{IsCallable}

module _ (unit : SourceUnit) (classes : Classes) where
  abbrev Holds : Variable → Type 0
  Holds v = HoldsCallable unit classes v

  abbrev Ok : Variables → Type 0
  Ok vs = AreCallable unit classes vs

  -- ---- variables

  assigned_ok : (x : Identifier) (v : Variable) (vs : Variables) → Holds v → Ok vs → Ok (assign x v vs)
  assigned_ok x v [] h all = (h, tt)
  assigned_ok x v ((y, w) ∷ rest) h all = by_test (bytes_eq x y) (assigned_ok x v rest h all.1)
    where
      by_test : (b : Bool) → Ok (assign x v rest) → Ok (if b then (x, v) ∷ rest else (y, w) ∷ assign x v rest)
      by_test true later = (h, all.1)
      by_test false later = (all.0, later)

  changed_ok : (x : Identifier) (f : Variable → Variable) → ((v : Variable) → Holds v → Holds (f v)) → (vs : Variables) → Ok vs → Ok (change x f vs)
  changed_ok x f keeps [] all = tt
  changed_ok x f keeps ((y, w) ∷ rest) all = by_test (bytes_eq x y) (changed_ok x f keeps rest all.1)
    where
      by_test : (b : Bool) → Ok (change x f rest) → Ok (if b then (y, f w) ∷ rest else (y, w) ∷ change x f rest)
      by_test true later = (keeps w all.0, all.1)
      by_test false later = (all.0, later)

  -- one that is there
  pub held_callable : (x : Identifier) (v : Variable) (vs : Variables) → Ok vs → lookup x vs ≡ Some v → Holds v
  held_callable x v [] all e = absurd (cc)
  held_callable x v ((y, w) ∷ rest) all e = by_test (bytes_eq x y) e (held_callable x v rest all.1)
    where
      by_test : (b : Bool) → (if b then Some w else lookup x rest) ≡ Some v → (lookup x rest ≡ Some v → Holds v) → Holds v
      by_test true g later = let same : w ≡ v = cc in subst Holds same all.0
      by_test false g later = later g

  begun_ok : (new : List ℤ) (v : Variable) → Holds v → Holds (begun_with new v)
  begun_ok new (LocalArray u zs) h = tt
  begun_ok new (Scalar v) h = tt
  begun_ok new (LocalRef level r) h = tt
  begun_ok new (FieldHandle f) h = tt
  begun_ok new (MethodHandle m) h = h
  begun_ok new (Elements u b) h = tt

  freed_ok : (v : Variable) → Holds v → Holds (freed v)
  freed_ok (LocalArray u zs) h = tt
  freed_ok (Scalar v) h = tt
  freed_ok (LocalRef level r) h = tt
  freed_ok (FieldHandle f) h = tt
  freed_ok (MethodHandle m) h = h
  freed_ok (Elements u b) h = tt

  -- ---- results

  -- a method ID that a call gives can be called
  abbrev GivesCallable : CallResult → Type 0
  GivesCallable (MethodResult (Some m)) = IsCallable unit classes m
  GivesCallable given = Unit {0}

  filled_ok : (v : Variable) (given : CallResult) → Holds v → GivesCallable given → Holds (filled v given)
  filled_ok (MethodHandle m) (MethodResult (Some n)) h g = g
  filled_ok (MethodHandle m) (MethodResult None) h g = tt
  filled_ok (MethodHandle m) NullResult h g = tt
  filled_ok (MethodHandle m) given h g = h
  filled_ok (Scalar w) (ScalarResult v) h g = tt
  filled_ok (Scalar w) given h g = tt
  filled_ok (LocalRef level r) (ReferenceResult q) h g = tt
  filled_ok (LocalRef level r) NullResult h g = tt
  filled_ok (LocalRef level r) given h g = tt
  filled_ok (FieldHandle f) (FieldResult q) h g = tt
  filled_ok (FieldHandle f) NullResult h g = tt
  filled_ok (FieldHandle f) given h g = tt
  filled_ok (Elements u b) (BufferResult c) h g = tt
  filled_ok (Elements u b) NullResult h g = tt
  filled_ok (Elements u b) given h g = tt
  filled_ok (LocalArray u zs) given h g = tt

  blank_ok : (kind : VariableKind) (frames : ℕ) → Holds (blank kind frames)
  blank_ok kinds.Number frames = tt
  blank_ok kinds.Reference frames = tt
  blank_ok kinds.Field frames = tt
  blank_ok kinds.Method frames = tt
  blank_ok (kinds.Buffer u) frames = tt

  -- what a step leaves holds only such
  abbrev pub LeavesCallable : Advance → Type 0
  LeavesCallable (Advances s t event) = Ok t.variables
  LeavesCallable NoAdvance = Unit {0}

  put_assigned_ok : (x : Identifier) (given : CallResult) (s : Shared) (t : Thread) (o : Option Variable) → lookup x t.variables ≡ o → GivesCallable given → Ok t.variables → LeavesCallable (put_assigned x given s t o)
  put_assigned_ok x given s t None e g all = all
  put_assigned_ok x given s t (Some v) e g all = assigned_ok x (filled v given) t.variables (filled_ok v given (held_callable x v t.variables all e) g) all

  put_ok : (target : Target) (given : CallResult) (s : Shared) (t : Thread) → GivesCallable given → Ok t.variables → LeavesCallable (put target given s t)
  put_ok (Declared kind x) given s t g all =
      assigned_ok x (filled (blank kind (length t.frames)) given) t.variables (filled_ok (blank kind (length t.frames)) given (blank_ok kind (length t.frames)) g) all
  put_ok (Assigned x) given s t g all = put_assigned_ok x given s t (lookup x t.variables) refl g all
  put_ok (Tested a b) given s t g all = all
  put_ok Dropped given s t g all = all

  received_same : (kind : ResultKind) (given : CallResult) (t : Thread) → (received kind given t).variables ≡ t.variables
  received_same NewLocal (ReferenceResult (Some n)) t = refl
  received_same NewLocal (ReferenceResult None) t = refl
  received_same NewLocal given t = refl
  received_same kind given t = refl

  told_ok : (o : Option Identifier) (given : CallResult) (vs : Variables) → Ok vs → Ok (tell_copy o given vs)
  told_ok (Some x) (BufferResult (Copy n zs)) vs all = assigned_ok x (Scalar (Flag true)) vs tt all
  told_ok (Some x) (BufferResult (View n)) vs all = assigned_ok x (Scalar (Flag false)) vs tt all
  told_ok (Some x) (BufferResult NoBuffer) vs all = all
  told_ok (Some x) given vs all = all
  told_ok None given vs all = all

  failure_ok : (kind : ResultKind) → GivesCallable (failure kind)
  failure_ok NewLocal = tt
  failure_ok NewGlobal = tt
  failure_ok NewWeak = tt
  failure_ok GivesFlag = tt
  failure_ok GivesInt = tt
  failure_ok GivesField = tt
  failure_ok GivesMethod = tt
  failure_ok GivesNothing = tt
  failure_ok (GivesBuffer access) = tt

  nothing_ok : (kind : ResultKind) → GivesCallable (nothing_of kind)
  nothing_ok NewLocal = tt
  nothing_ok GivesInt = tt
  nothing_ok kind = tt

  fitted_ok : (kind : ResultKind) (given : CallResult) → GivesCallable (fitted kind given)
  fitted_ok NewLocal (ReferenceResult r) = tt
  fitted_ok NewLocal given = tt
  fitted_ok GivesInt (ScalarResult (Int z)) = tt
  fitted_ok GivesInt (ScalarResult v) = tt
  fitted_ok GivesInt given = tt
  fitted_ok kind given = nothing_ok kind

  back_ok : (pending : Reference) (kind : ResultKind) (given : CallResult) → GivesCallable (given_back pending kind given)
  back_ok None kind given = fitted_ok kind given
  back_ok (Some n) kind given = nothing_ok kind

  -- ---- what calls do

  abbrev EffectOk : CallEffect → Type 0
  EffectOk (Leaves made s t given) = Ok t.variables × GivesCallable given
  EffectOk e = Unit {0}

  checked_ok : (o : Option Trap) (e : CallEffect) → EffectOk e → EffectOk (checked o e)
  checked_ok None e h = h
  checked_ok (Some trap) e h = tt

  module _ (in_use : BuffersInUse) (k : ℕ) (s : Shared) (t : Thread) (finds : (c : ℕ) (name text : List ℕ) (m : MethodId) → find_method unit classes c name text ≡ Some m → IsCallable unit classes m) (all : Ok t.variables) where
    frames_ok : (frames : List Frame) → EffectOk (frames_effect classes s t frames)
    frames_ok frames = cond_both (nat_le (capacities frames) most_references) _ _ EffectOk (λ e. (all, tt)) (λ e. (all, tt))

    -- a method that is given was found
    given_ok : {kind : ResultKind} {given : CallResult} → IsOfKind unit classes kind given → GivesCallable given
    given_ok (OfMethod m class name text found) = finds class name text m found
    given_ok g = tt

    answer_ok : {sight : CallSight} {f : JniFunction} {kind : CallKind} {result : ResultKind} {a : Answer} (args : List Actual) → AnswersAs unit classes sight f kind result a → EffectOk (answer.effect_of classes in_use k s t args a)
    unfolding answer.effect_of
    answer_ok args (Giving g) = (all, given_ok g)
    answer_ok args (Pending r g) = (all, given_ok g)
    answer_ok args (Ensuring n) = frames_ok (with_capacity n t.frames)
    answer_ok args (Pushing n) = frames_ok (record { capacity = n; references = [] } ∷ t.frames)
    answer_ok args (Filling r is) =
        let new : List ℤ = take r.count (drop r.start (numbers_of s.heap r.object)) in
        (changed_ok (variable_given args 3) (begun_with new) (begun_ok new) t.variables all, tt)
    answer_ok args (CopyingBack T true of mode) = (changed_ok (variable_given args 1) freed freed_ok t.variables all, tt)
    answer_ok args (CopyingBack T false of mode) = (all, tt)
    answer_ok args (Freeing mode) = (changed_ok (variable_given args 1) freed freed_ok t.variables all, tt)
    answer_ok args (Raising class is) = tt
    answer_ok args (FillingNone class is) = tt
    answer_ok args (Calling m is) = tt
    answer_ok args (Halting trap) = tt
    answer_ok args h = (all, tt)

    effect_ok : (args : List Actual) (f : JniFunction) → EffectOk (call_effect unit classes in_use k s t args f)
    effect_ok args f = (answer_ok args (answers_as unit classes k (sight_of_call s t f args) f))

    module _ (line : ℕ) (target : Target) (f : JniFunction) (args : List Actual) (rest : List Task) where
      completed_ok : (made : List Object) (s' : Shared) (t' : Thread) (given : CallResult) → Ok t'.variables → GivesCallable given → LeavesCallable (completed unit classes in_use k s t line target f args rest made s' t' given)
      completed_ok made s' t' given now g =
          put_ok target given (record s' { heap = s'.heap ++ made }) (resumed unit classes in_use k s t line target f args rest t' given) g
          (told_ok (address_given args 1) given t'.variables now)

      after_ok : (e : CallEffect) → EffectOk e → LeavesCallable (after_call unit classes in_use k s t line target f args rest e)
      after_ok (Throws c) h = completed_ok (fresh_object classes c ∷ []) s (record t { pending = Some (next_name s.heap) }) (failure (prototype f).result) all (failure_ok (prototype f).result)
      after_ok (Halts trap) h = all
      after_ok (Enters function arguments) h = tt
      after_ok (Leaves made s' t' given) h = completed_ok made s' t' given h.0 h.1

      refusal_ok : (makes : Bool) → LeavesCallable (after_refusal unit classes in_use k s t line target f args rest makes)
      refusal_ok true = completed_ok [] s (record t { pending = Some (out_of_memory classes) }) (failure (prototype f).result) all (failure_ok (prototype f).result)
      refusal_ok false = tt

      call_ok : (refused : Bool) → LeavesCallable (call_step unit classes in_use k s t line target f args rest refused)
      call_ok false = after_ok _ (checked_ok (trap_of_call classes s t target f args) _ (effect_ok args f))
      call_ok true = refusal_ok _

    -- ---- steps

    element_ok : (x : Identifier) (i : ℕ) (z : ℤ) (rest : List Task) (o : Option Variable) → LeavesCallable (set_element s (with_tasks t rest) x i z o)
    element_ok x i z rest (Some (LocalArray u zs)) = assigned_ok x _ t.variables tt all
    element_ok x i z rest (Some (Elements u (Copy n zs))) = assigned_ok x _ t.variables tt all
    element_ok x i z rest (Some (Elements u (View n))) = all
    element_ok x i z rest (Some (Elements u NoBuffer)) = tt
    element_ok x i z rest (Some (Scalar v)) = tt
    element_ok x i z rest (Some (LocalRef level r)) = tt
    element_ok x i z rest (Some (FieldHandle f)) = tt
    element_ok x i z rest (Some (MethodHandle f)) = tt
    element_ok x i z rest None = tt

    module _ (below : AllByRecursion (λ (c : Caller). Ok c.variables) t.callers) where
      return_ok : (given : CallResult) (callers : List Caller) → AllByRecursion (λ (c : Caller). Ok c.variables) callers → LeavesCallable (return_by k s t given callers)
      return_ok given [] h = tt
      return_ok given (c ∷ callers) h =
          let back = given_back t.pending c.result given in
          put_ok c.target back s (received c.result back (resumed_in t c callers)) (back_ok t.pending c.result given)
          (subst Ok (sym (received_same c.result back (resumed_in t c callers))) h.0)

      effects_ok : (rest : List Task) (e : Effect) → LeavesCallable (after_effect unit classes in_use k s t rest e)
      effects_ok rest (Becomes tasks) = all
      effects_ok rest (Sets x v) = assigned_ok x (Scalar v) t.variables tt all
      effects_ok rest (SetsNull target) = put_ok target NullResult s (with_tasks t rest) tt all
      effects_ok rest (SetsElement x i z) = element_ok x i z rest (lookup x t.variables)
      effects_ok rest (MakesArray u x n) = assigned_ok x _ t.variables tt all
      effects_ok rest (Prints z) = all
      effects_ok rest (Calls line target f args) = call_ok line target f args rest false
      effects_ok rest (Returns given) = return_ok given t.callers below
      effects_ok rest (TrapsAt trap line) = all
      effects_ok rest NoEffect = tt

      refused_ok : (rest : List Task) (e : Effect) → LeavesCallable (after_refused_effect unit classes in_use k s t rest e)
      refused_ok rest (Calls line target f args) = call_ok line target f args rest true
      refused_ok rest e = tt

      -- parameters are none
      parameters_ok : (ps : List (Parameter × ObjectValue)) → Ok (parameter_variables ps)
      parameters_ok [] = tt
      parameters_ok ((p, Number z) ∷ ps) = (tt, parameters_ok ps)
      parameters_ok ((p, Refers r) ∷ ps) = (tt, parameters_ok ps)

      class_entry_ok : (f : Function) (call : Invocation) (calls : List Invocation) (o : Option ℕ) → LeavesCallable (entry_advance s (option_map (λ c. entered t calls f c call.arguments) o))
      class_entry_ok f call calls None = tt
      class_entry_ok f call calls (Some c) = (tt, parameters_ok (zip f.parameters call.arguments))

      function_entry_ok : (call : Invocation) (calls : List Invocation) (o : Option Function) → LeavesCallable (entry_advance s (entered_function classes t call calls o))
      function_entry_ok call calls None = tt
      function_entry_ok call calls (Some f) = class_entry_ok f call calls (class_of_function classes f)

      entry_ok : (calls : List Invocation) → LeavesCallable (entry_advance s (enter unit classes t calls))
      entry_ok [] = tt
      entry_ok (call ∷ calls) = function_entry_ok call calls (function_at unit call.function)

      -- each step
      pub methods_kept : (refused : Bool) (o : Option (List Task)) → LeavesCallable (step_within unit classes in_use k s t refused o)
      methods_kept true None = tt
      methods_kept false None = entry_ok t.calls
      methods_kept true (Some []) = tt
      methods_kept false (Some []) = tt
      methods_kept true (Some (task ∷ rest)) = refused_ok rest (effect_of (sight_of s t) task)
      methods_kept false (Some (task ∷ rest)) = effects_ok rest (effect_of (sight_of s t) task)
