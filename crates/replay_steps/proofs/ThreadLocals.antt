-- A thread with other variables, frames and another pending exception.
use Rattle.std.proofs.Common.{◌≡◌, List, Some, None, refl, ap, ◌∙◌}
use Rattle.jni.specs.declared.kinds.ResultKind.{ResultKind}
use Rattle.jni.specs.declared.kinds.ResultKind.TheVariants.{NewLocal}
use Rattle.semantics.specs.CallStep.{received}
use Rattle.semantics.specs.Object.{Reference}
use Rattle.semantics.specs.Thread.{Frame, Thread}
use Rattle.semantics.specs.Variable.{Variables}
use Rattle.replay_calls.specs.Answers.{frames_with}
use Rattle.replay_terms.specs.Views.{given_view}
use Rattle.replay_terms.specs.declared.given.Given.{Given}
use Rattle.replay_terms.specs.declared.given.Given.TheVariants as given

-- a thread with these variables, these frames and this pending exception
abbrev pub in_locals : Thread → Variables → List Frame → Reference → Thread
in_locals t vs frames pending = record t { variables = vs; frames = frames; pending = pending }

-- the thread before a call
pub as_it_is : (t : Thread) (vs : Variables) (frames : List Frame) (pending : Reference) → t.variables ≡ vs → t.frames ≡ frames → t.pending ≡ pending → t ≡ in_locals t vs frames pending
as_it_is t vs frames pending held framed is =
    ap (λ (us : Variables). let u : Thread = record t { variables = us } in u) held
    ∙ ap (λ (fs : List Frame). let u : Thread = record t { variables = vs; frames = fs } in u) framed
    ∙ ap (λ (r : Reference). let u : Thread = record t { variables = vs; frames = frames; pending = r } in u) is

-- the result goes into the current frame
pub in_received : (kind : ResultKind) (g : Given) (t : Thread) (vs : Variables) (frames : List Frame) (pending : Reference) → received kind (given_view g) (in_locals t vs frames pending) ≡ in_locals t vs (frames_with kind (given_view g) frames) pending
in_received NewLocal given.Nothing t vs frames pending = refl
in_received NewLocal given.Null t vs frames pending = refl
in_received NewLocal (given.Number z) t vs frames pending = refl
in_received NewLocal (given.Flag b) t vs frames pending = refl
in_received NewLocal (given.Weak r) t vs frames pending = refl
in_received NewLocal (given.Reference None) t vs frames pending = refl
in_received NewLocal (given.Reference (Some n)) t vs frames pending = refl
in_received NewLocal (given.Field f) t vs frames pending = refl
in_received NewLocal (given.Method m) t vs frames pending = refl
in_received kind g t vs frames pending = refl
