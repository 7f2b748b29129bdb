-- No call takes an object out of the heap: each leaves as many as there were, beside those that it makes.
use Rattle.std.specs.Prelude.{◌≡◌, ℕ, nat_le, List, [], ◌∷◌, length, refl, zero, suc}
use Rattle.std.proofs.lemmas.Bool.{cond_both}
use lib.ListN.{length-set}
use Rattle.base.specs.Limits.{most_references}
use Rattle.syntax.specs.Tree.{SourceUnit}
use Rattle.class_rules.specs.Class.{Classes}
use Rattle.jni.specs.declared.function.JniFunction.{JniFunction}
use Rattle.semantics.specs.Answer.{Answer, Calls, Copies, CopiesBack, DeletesGlobal, DeletesLocal, DeletesWeak, Disowns, Ensures, Frees, GetsRegion, Gives, Makes, MakesGlobal, Owns, Pends, Pops, Pushes, Raises, RaisesWith, RefusesFrames, SetsRegion, Views, Writes, effect_of}
use Rattle.semantics.specs.Answer as answer
use Rattle.semantics.specs.AnswerTable.{call_answer, call_effect}
use Rattle.semantics.specs.CallSight.{sight_of_call}
use Rattle.semantics.specs.Arguments.{Actual}
use Rattle.semantics.specs.CallEffects.{CallEffect, Throws, Halts, Leaves, Enters, frames_effect, refuses_frames, with_capacity}
use Rattle.semantics.specs.Heap.{Heap, class_of, with_values}
use Rattle.semantics.specs.Object.{ObjectValue}
use Rattle.semantics.specs.Thread.{Shared, Thread, BuffersInUse, Frame, capacities}

-- the effect leaves as many objects as the state has
abbrev Keeps : Shared → CallEffect → Type 0
Keeps s (Throws c) = Unit {0}
Keeps s (Halts trap) = Unit {0}
Keeps s (Enters function arguments) = Unit {0}
Keeps s (Leaves made s' t' r) = length s'.heap ≡ length s.heap

pub with_values_keeps : (heap : Heap) (n : ℕ) (vs : List ObjectValue) → length (with_values heap n vs) ≡ length heap
with_values_keeps heap zero vs = refl
with_values_keeps heap (suc i) vs = length-set heap i (record { class = class_of heap (suc i); values = vs })

module _ (unit : SourceUnit) (classes : Classes) (in_use : BuffersInUse) (k : ℕ) (s : Shared) (t : Thread) (args : List Actual) where
  frames_keep : (frames : List Frame) → Keeps s (frames_effect classes s t frames)
  frames_keep frames = cond_both (nat_le (capacities frames) most_references) _ (refuses_frames classes s t) (Keeps s) (λ e. refl) (λ e. refl)

  -- whatever is answered
  answer_keeps : (a : Answer) → Keeps s (effect_of classes in_use k s t args a)
  unfolding effect_of
  answer_keeps (Writes n i v) = with_values_keeps s.heap _ _
  answer_keeps (Ensures n) = frames_keep (with_capacity n t.frames)
  answer_keeps (Pushes n) = frames_keep (record { capacity = n; references = [] } ∷ t.frames)
  answer_keeps (SetsRegion r) = with_values_keeps s.heap _ _
  answer_keeps (CopiesBack n i frees) = with_values_keeps s.heap _ _
  answer_keeps (Raises c) = tt
  answer_keeps (Calls m) = tt
  answer_keeps (answer.Halts trap) = tt
  answer_keeps a = refl

  pub effect_keeps : (f : JniFunction) → Keeps s (call_effect unit classes in_use k s t args f)
  effect_keeps f = answer_keeps (call_answer unit classes k (sight_of_call s t f args) f)
