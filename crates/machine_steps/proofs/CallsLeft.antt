-- What an effect of a call leaves of its thread.
use Rattle.std.proofs.Common.{◌≡◌, ℕ, Bool, true, false, List, [], ◌∷◌, refl, ap, ◌∙◌, append-nil}
use Rattle.std.specs.Prelude.{nat_le}
use Rattle.std.proofs.lemmas.Bool.{cond_both}
use Rattle.class_rules.specs.Class.{Classes}
use Rattle.heap.specs.Heap.{Space}
use Rattle.jni.specs.declared.function.JniFunction.{JniFunction}
use Rattle.jni.specs.JniFunction.{prototype}
use Rattle.jni.specs.declared.kinds.ResultKind.{ResultKind}
use Rattle.syntax.specs.Tree.{SourceUnit}
use Rattle.semantics.specs.Answer.{Answer as SourceAnswer, effect_of}
use Rattle.semantics.specs.AnswerTable.{released}
use Rattle.jni.specs.declared.mode.ReleaseMode.{ReleaseMode}
use Rattle.jni.specs.declared.mode.ReleaseMode.TheVariants.{CopyBackAndFree, CopyBack, FreeUncopied}
use Rattle.semantics.specs.Arguments.{Actual}
use Rattle.semantics.specs.CallEffects.{CallEffect, Enters, Halts, Leaves, Throws, frames_effect, refuses_frames, with_capacity}
use Rattle.semantics.specs.CallStep.{after_call, after_refusal, call_step, effect_of_call, makes_objects, put}
use Rattle.semantics.specs.Heap.{Heap}
use Rattle.semantics.specs.Task.{Target, Task}
use Rattle.semantics.specs.Thread as source
use Rattle.semantics.specs.Thread.{BuffersInUse, Shared}
use Rattle.machine_answers.specs.declared.answer.Answer.{Answer}
use Rattle.machine_answers.specs.Answers.{Brought, IsAnswer, effect_told, is_carried}
use Rattle.machine_answers.specs.Answers as row
use Rattle.machine_calls.specs.CarriedOut.{frames_left, pending_after, result_after, shared_after, variables_left}
use Rattle.tables.specs.Locals.{LocalTable}
use Rattle.machine_steps.proofs.Invocations.{resumption}
use Rattle.machine_steps.proofs.MonitorEffects.{enter_cases, exit_cases}

-- ---- the source's step

-- an effect that leaves the thread as it was, but for its frames, an exception and its variables
abbrev pub StaysBut : source.Thread → CallEffect → Type 0
StaysBut s (Throws c) = Unit {0}
StaysBut s (Halts trap) = ⊥
StaysBut s (Enters function arguments) = ⊥
StaysBut s (Leaves made s' t' c) = t' ≡ record s { frames = t'.frames; pending = t'.pending; variables = t'.variables }

module _ (unit : SourceUnit) (classes : Classes) (in_use : BuffersInUse) (k : ℕ) (shared : Shared) (s : source.Thread) (line : ℕ) (target : Target) (f : JniFunction) (args : List Actual) (rest : List Task) where
  -- what an effect leaves, or the same with its allocation refused
  abbrev pub left_by : (refused : Bool) → CallEffect → source.Advance
  left_by refused effect =
      put target (result_after (prototype f).result refused effect) (shared_after classes refused shared effect)
      (resumption line f args rest s (frames_left refused s effect) (pending_after classes refused shared s effect) (result_after (prototype f).result refused effect) (variables_left refused s effect) target)

  pub step_leaves : (refused : Bool) (effect : CallEffect) → effect_of_call unit classes in_use k shared s line target f args rest ≡ effect → StaysBut s effect → (refused ≡ true → makes_objects effect ≡ true)
      → call_step unit classes in_use k shared s line target f args rest refused ≡ left_by refused effect
  step_leaves true effect is stays could =
      ap (λ (e : CallEffect). after_refusal unit classes in_use k shared s line target f args rest (makes_objects e)) is
      ∙ ap (after_refusal unit classes in_use k shared s line target f args rest) (could refl)
      ∙ ap (λ (h : Heap). let r : Shared = record shared { heap = h } in put target (result_after (prototype f).result true effect) r (resumption line f args rest s (frames_left true s effect) (pending_after classes true shared s effect) (result_after (prototype f).result true effect) (variables_left true s effect) target)) (append-nil shared.heap)
  step_leaves false (Throws c) is stays could = ap (after_call unit classes in_use k shared s line target f args rest) is
  step_leaves false (Halts trap) is stays could = absurd stays
  step_leaves false (Enters function arguments) is stays could = absurd stays
  step_leaves false (Leaves made s' t' c) is stays could =
      ap (after_call unit classes in_use k shared s line target f args rest) is
      ∙ ap (λ (t : source.Thread). after_call unit classes in_use k shared s line target f args rest (Leaves made s' t c)) stays

stays_framed : (classes : Classes) (shared : Shared) (s : source.Thread) (frames : List source.Frame) → StaysBut s (frames_effect classes shared s frames)
stays_framed classes shared s frames = cond_both (nat_le (source.capacities frames) 1024) _ (refuses_frames classes shared s) (StaysBut s) (λ e. refl) (λ e. refl)

module _ (classes : Classes) (brought : Brought) (shared : Shared) (s : source.Thread) where
  -- so does the effect of an answer
  abbrev Stays : SourceAnswer → Type 0
  Stays a = StaysBut s (effect_told classes brought shared s a)

  stays_released : (n : ℕ) (mode : ReleaseMode) → Stays (released n mode)
  unfolding effect_of
  stays_released n CopyBackAndFree = refl
  stays_released n CopyBack = refl
  stays_released n FreeUncopied = refl

  pub stays_with : {space : Space} {locals : LocalTable} {answer : Answer} {kind : ResultKind} {of_source : SourceAnswer} → is_carried answer ≡ true
      → IsAnswer classes brought space locals shared s answer kind of_source → Stays of_source
  unfolding effect_of
  stays_with runs (row.ensures {more = more}) = stays_framed classes shared s (with_capacity more s.frames)
  stays_with runs (row.pushes {capacity = capacity}) = stays_framed classes shared s (record { capacity = capacity; references = [] } ∷ s.frames)
  stays_with runs (row.enters {o = o} it) = enter_cases classes brought shared s o.name (StaysBut s) (λ monitors. refl) refl (source.monitor_of shared.monitors o.name)
  stays_with runs (row.exits {n = n} it) = exit_cases classes brought shared s n (StaysBut s) (λ monitors. refl) tt (source.monitor_of shared.monitors n)
  stays_with runs (row.releases it) = stays_released it.name it.mode
  stays_with runs (row.throws makeable) = tt
  stays_with runs (row.calls method) = absurd (let clash : false ≡ true = runs in cc)
  stays_with runs row.halts = absurd (let clash : false ≡ true = runs in cc)
  stays_with runs does = refl
