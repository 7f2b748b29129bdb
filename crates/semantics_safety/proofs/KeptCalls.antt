-- A step within a call but a return leaves the calls to come as they were, and the callers.
use Rattle.std.proofs.Common.{◌≡◌, ℕ, Bool, true, false, List, [], ◌∷◌, ◌++◌, Option, Some, None, refl, ◌∙◌}
use Rattle.std.specs.Prelude.{ℤ, nat_le}
use Rattle.std.proofs.lemmas.Bool.{cond_both}
use Rattle.base.specs.Bytes.{Identifier, lookup}
use Rattle.base.specs.Limits.{most_references}
use Rattle.class_rules.specs.Class.{Classes}
use Rattle.syntax.specs.Tree.{SourceUnit}
use Rattle.jni.specs.declared.function.JniFunction.{JniFunction}
use Rattle.jni.specs.JniFunction.{calls_method, prototype}
use Rattle.jni.specs.declared.kinds.ResultKind.{ResultKind}
use Rattle.jni.specs.declared.kinds.ResultKind.TheVariants.{NewLocal}
use Rattle.semantics.specs.Answer.{Answer, Ensures, Pushes, Raises}
use Rattle.semantics.specs.Answer as answer
use Rattle.semantics.specs.AnswerTable.{call_answer, call_effect}
use Rattle.semantics.specs.CallSight.{sight_of_call}
use Rattle.semantics.specs.Arguments.{Actual}
use Rattle.semantics.specs.CallEffects.{CallResult, NoResult, NullResult, ScalarResult, ReferenceResult, FieldResult, MethodResult, BufferResult, CallEffect, Throws, Halts, Leaves, Enters, out_of_memory, with_capacity, frames_effect}
use Rattle.semantics.specs.CallStep.{put, put_assigned, received, failure, resumed, trap_of_call, checked, completed, after_call, after_refusal, call_step}
use Rattle.semantics.specs.Effect.{Effect, Becomes, Sets, SetsNull, SetsElement, MakesArray, Prints, Calls, Returns, TrapsAt, NoEffect, effect_of}
use Rattle.semantics.specs.Heap.{next_name}
use Rattle.semantics.specs.Object.{Object}
use Rattle.semantics.specs.Task.{Task, Target, Declared, Assigned, Tested, Dropped}
use Rattle.semantics.specs.Thread.{Thread, Caller, Shared, BuffersInUse, Frame, Advance, Advances, NoAdvance, capacities, sight_of}
use Rattle.semantics.specs.ThreadStep.{set_element, with_tasks, after_effect, after_refused_effect, step_within}
use Rattle.semantics.specs.declared.trap.Trap.{Trap}
use Rattle.semantics.specs.Variable.{Variable, Scalar, LocalRef, FieldHandle, MethodHandle, Elements, LocalArray, NoBuffer, Copy, View}
use Rattle.semantics.specs.World.{Invocation, fresh_object}
use Rattle.semantics.proofs.AnswerKinds.{CallsNone, calls_none}
use Rattle.semantics_safety.proofs.CallLaws.{IsWithin}

-- calls to come, and callers
abbrev pub Held : Type 0
Held = List Invocation × List Caller

-- those of a thread
abbrev pub held : Thread → Held
held t = (t.calls, t.callers)

-- what a step leaves has these
abbrev pub KeepsCalls : Held → Advance → Type 0
KeepsCalls calls (Advances s t event) = held t ≡ calls
KeepsCalls calls NoAdvance = Unit {0}

-- the same of a call's effect
abbrev EffectKeeps : Held → CallEffect → Type 0
EffectKeeps calls (Leaves made s t given) = held t ≡ calls
EffectKeeps calls (Throws c) = Unit {0}
EffectKeeps calls (Halts trap) = Unit {0}
EffectKeeps calls (Enters function arguments) = ⊥

-- ---- results

assigned_keeps : (x : Identifier) (given : CallResult) (s : Shared) (t : Thread) (calls : Held) (o : Option Variable) → held t ≡ calls → KeepsCalls calls (put_assigned x given s t o)
assigned_keeps x given s t calls None e = e
assigned_keeps x given s t calls (Some v) e = e

pub put_keeps : (target : Target) (given : CallResult) (s : Shared) (t : Thread) (calls : Held) → held t ≡ calls → KeepsCalls calls (put target given s t)
put_keeps (Declared kind x) given s t calls e = e
put_keeps (Assigned x) given s t calls e = assigned_keeps x given s t calls (lookup x t.variables) e
put_keeps (Tested a b) given s t calls e = e
put_keeps Dropped given s t calls e = e

pub received_calls : (kind : ResultKind) (given : CallResult) (t : Thread) → held (received kind given t) ≡ held t
received_calls NewLocal NoResult t = refl
received_calls NewLocal NullResult t = refl
received_calls NewLocal (ScalarResult v) t = refl
received_calls NewLocal (ReferenceResult None) t = refl
received_calls NewLocal (ReferenceResult (Some n)) t = refl
received_calls NewLocal (FieldResult f) t = refl
received_calls NewLocal (MethodResult f) t = refl
received_calls NewLocal (BufferResult b) t = refl
received_calls kind given t = refl

checked_keeps : (calls : Held) (o : Option Trap) (e : CallEffect) → EffectKeeps calls e → EffectKeeps calls (checked o e)
checked_keeps calls None e h = h
checked_keeps calls (Some trap) e h = tt

-- ---- what calls do

module _ (unit : SourceUnit) (classes : Classes) (in_use : BuffersInUse) (k : ℕ) (s : Shared) (t : Thread) where
  frames_keep : (frames : List Frame) → EffectKeeps (held t) (frames_effect classes s t frames)
  frames_keep frames = cond_both (nat_le (capacities frames) most_references) _ _ (EffectKeeps (held t)) (λ e. refl) (λ e. refl)

  -- whatever is answered but a call of a method
  answer_keeps : (args : List Actual) (a : Answer) → CallsNone a → EffectKeeps (held t) (answer.effect_of classes in_use k s t args a)
  unfolding answer.effect_of
  answer_keeps args (Ensures n) none = frames_keep (with_capacity n t.frames)
  answer_keeps args (Pushes n) none = frames_keep (record { capacity = n; references = [] } ∷ t.frames)
  answer_keeps args (Raises class) none = tt
  answer_keeps args (answer.Halts trap) none = tt
  answer_keeps args (answer.Calls m) none = absurd none
  answer_keeps args a none = refl

  effect_keeps : (args : List Actual) (f : JniFunction) → calls_method f ≡ false → EffectKeeps (held t) (call_effect unit classes in_use k s t args f)
  effect_keeps args f own =
      (answer_keeps args (call_answer unit classes k (sight_of_call s t f args) f) (calls_none unit classes k (sight_of_call s t f args) f own))

  module _ (line : ℕ) (target : Target) (f : JniFunction) (args : List Actual) (rest : List Task) where
    completed_keeps : (made : List Object) (s' : Shared) (t' : Thread) (given : CallResult) → held t' ≡ held t → KeepsCalls (held t) (completed unit classes in_use k s t line target f args rest made s' t' given)
    completed_keeps made s' t' given e = put_keeps target given (record s' { heap = s'.heap ++ made }) (resumed unit classes in_use k s t line target f args rest t' given) (held t) (received_calls (prototype f).result given t' ∙ e)

    after_keeps : (e : CallEffect) → EffectKeeps (held t) e → KeepsCalls (held t) (after_call unit classes in_use k s t line target f args rest e)
    after_keeps (Throws c) h = completed_keeps (fresh_object classes c ∷ []) s (record t { pending = Some (next_name s.heap) }) (failure (prototype f).result) refl
    after_keeps (Halts trap) h = refl
    after_keeps (Enters function arguments) h = absurd h
    after_keeps (Leaves made s' t' given) h = completed_keeps made s' t' given h

    refusal_keeps : (makes : Bool) → KeepsCalls (held t) (after_refusal unit classes in_use k s t line target f args rest makes)
    refusal_keeps true = completed_keeps [] s (record t { pending = Some (out_of_memory classes) }) (failure (prototype f).result) refl
    refusal_keeps false = tt

    call_keeps : calls_method f ≡ false → (refused : Bool) → KeepsCalls (held t) (call_step unit classes in_use k s t line target f args rest refused)
    call_keeps own false = after_keeps _ (checked_keeps (held t) (trap_of_call classes s t target f args) _ (effect_keeps args f own))
    call_keeps own true = refusal_keeps _

  -- ---- steps

  element_keeps : (x : Identifier) (i : ℕ) (z : ℤ) (rest : List Task) (o : Option Variable) → KeepsCalls (held t) (set_element s (with_tasks t rest) x i z o)
  element_keeps x i z rest (Some (LocalArray u zs)) = refl
  element_keeps x i z rest (Some (Elements u (Copy n zs))) = refl
  element_keeps x i z rest (Some (Elements u (View n))) = refl
  element_keeps x i z rest (Some (Elements u NoBuffer)) = tt
  element_keeps x i z rest (Some (Scalar v)) = tt
  element_keeps x i z rest (Some (LocalRef level r)) = tt
  element_keeps x i z rest (Some (FieldHandle f)) = tt
  element_keeps x i z rest (Some (MethodHandle f)) = tt
  element_keeps x i z rest None = tt

  effects_keep : (rest : List Task) (e : Effect) → IsWithin e → KeepsCalls (held t) (after_effect unit classes in_use k s t rest e)
  effects_keep rest (Becomes tasks) away = refl
  effects_keep rest (Sets x v) away = refl
  effects_keep rest (SetsNull target) away = put_keeps target NullResult s (with_tasks t rest) (held t) refl
  effects_keep rest (SetsElement x i z) away = element_keeps x i z rest (lookup x t.variables)
  effects_keep rest (MakesArray u x n) away = refl
  effects_keep rest (Prints z) away = refl
  effects_keep rest (Calls line target f args) away = call_keeps line target f args rest away false
  effects_keep rest (Returns given) away = absurd away
  effects_keep rest (TrapsAt trap line) away = refl
  effects_keep rest NoEffect away = tt

  refused_keep : (rest : List Task) (e : Effect) → KeepsCalls (held t) (after_refused_effect unit classes in_use k s t rest e)
  refused_keep rest (Calls line target f args) = refusal_keeps line target f args rest _
  refused_keep rest e = tt

  -- each step within a call
  pub calls_kept : (refused : Bool) (task : Task) (rest : List Task) → IsWithin (effect_of (sight_of s t) task) → KeepsCalls (held t) (step_within unit classes in_use k s t refused (Some (task ∷ rest)))
  calls_kept false task rest away = effects_keep rest (effect_of (sight_of s t) task) away
  calls_kept true task rest away = refused_keep rest (effect_of (sight_of s t) task)
