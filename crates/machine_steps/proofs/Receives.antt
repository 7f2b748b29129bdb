-- What a call in progress has received is what the source's thread has.
use Rattle.std.specs.Option.{option_map}
use Rattle.code_meaning.specs.Slots.{OfField, OfMethod}
use Rattle.semantics.specs.Method.{MethodId}
use Rattle.syntax.specs.Tree.{SourceUnit}
use Rattle.std.proofs.Common.{◌≡◌, ℕ, zero, suc, length, List, [], ◌∷◌, Option, Some, None, refl, sym, subst}
use Rattle.std.specs.Prelude.{slice_set}
use Rattle.base.specs.Bytes.{Identifier}
use Rattle.class_rules.specs.Class.{Classes}
use Rattle.class_rules.specs.Fields.{FieldId}
use Rattle.classes.specs.declared.class.FieldHandle.{FieldHandle}
use Rattle.heap.specs.Heap.{Space}
use Rattle.jni.specs.declared.kinds.ResultKind.{ResultKind}
use Rattle.jni.specs.declared.kinds.ResultKind.TheVariants.{NewLocal, NewGlobal, NewWeak, GivesFlag, GivesInt, GivesField, GivesMethod, GivesNothing, GivesBuffer}
use Rattle.machine_calls.specs.CarriedOut.{IsForStatic}
use Rattle.semantics.specs.CallEffects.{CallResult, NoResult, NullResult, ScalarResult, ReferenceResult, WeakResult, FieldResult, MethodResult, BufferResult, with_local}
use Rattle.semantics.specs.CallStep.{received, tell_copy}
use Rattle.semantics.specs.Thread as source
use Rattle.semantics.specs.Variable.{Variables}
use Rattle.machine_answers.specs.declared.answer.Given.{Given}
use Rattle.machine_scenes.specs.FieldIds.{FieldAgrees, HandleAgrees, HandlesAgree, MethodAgrees}
use Rattle.machine_scenes.specs.declared.handle.Handle.{Handle}
use Rattle.machine_scenes.specs.declared.handle.Handle.TheVariants as handle
use Rattle.machine_scenes.specs.declared.handle.MethodHandle.{MethodHandle}
use Rattle.code_meaning.specs.Slots as meant
use Rattle.machine_scenes.specs.Locals.{FramesAgree}
use Rattle.machine_answers.specs.Answers.{GivenAgrees}
use Rattle.machine_answers.specs.Answers as row
use Rattle.machine_steps.specs.Received.{MakesLocal}
use Rattle.machine_scenes.proofs.LocalFrames.{reference_made}
use Rattle.tables.specs.Locals.{AreStacked, LocalTable}

-- ---- no buffers

-- a result that is no buffer
abbrev pub IsNoBuffer : CallResult → Type 0
IsNoBuffer (BufferResult b) = ⊥
IsNoBuffer c = Unit {0}

-- what goes into a static is none
pub plain_static : (kind : ResultKind) (c : CallResult) → IsForStatic kind c → IsNoBuffer c
plain_static kind NoResult h = tt
plain_static kind NullResult h = tt
plain_static kind (ScalarResult v) h = tt
plain_static kind (ReferenceResult r) h = tt
plain_static kind (WeakResult r) h = tt
plain_static kind (FieldResult f) h = tt
plain_static kind (MethodResult f) h = tt
plain_static NewLocal (BufferResult b) h = h
plain_static NewGlobal (BufferResult b) h = h
plain_static NewWeak (BufferResult b) h = h
plain_static GivesFlag (BufferResult b) h = h
plain_static GivesInt (BufferResult b) h = h
plain_static GivesField (BufferResult b) h = h
plain_static GivesMethod (BufferResult b) h = h
plain_static GivesNothing (BufferResult b) h = h
plain_static (GivesBuffer a) (BufferResult b) h = h

-- nothing that is given is a buffer
pub no_buffer : (unit : SourceUnit) (classes : Classes) (space : Space) (kind : ResultKind) (g : Given) (c : CallResult) → GivenAgrees unit classes space kind g c → IsNoBuffer c
no_buffer unit classes space kind g c row.nothing = tt
no_buffer unit classes space kind g c h = tt

-- so nothing is told of a copy
pub nothing_told : (x : Option Identifier) (c : CallResult) (variables : Variables) → IsNoBuffer c → tell_copy x c variables ≡ variables
nothing_told None c variables h = refl
nothing_told (Some x) NoResult variables h = refl
nothing_told (Some x) NullResult variables h = refl
nothing_told (Some x) (ScalarResult v) variables h = refl
nothing_told (Some x) (ReferenceResult r) variables h = refl
nothing_told (Some x) (FieldResult f) variables h = refl
nothing_told (Some x) (MethodResult f) variables h = refl
nothing_told (Some x) (WeakResult r) variables h = refl
nothing_told (Some x) (BufferResult c) variables h = absurd h

-- ---- frames

-- the source's frames with the local reference that a call gave
abbrev pub frames_received : ResultKind → CallResult → List source.Frame → List source.Frame
frames_received NewLocal (ReferenceResult (Some n)) frames = with_local n frames
frames_received kind c frames = frames

pub received_count : (kind : ResultKind) (c : CallResult) (frames : List source.Frame) → length (frames_received kind c frames) ≡ length frames
received_count NewLocal (ReferenceResult (Some n)) [] = refl
received_count NewLocal (ReferenceResult (Some n)) (f ∷ frames) = refl
received_count NewLocal (ReferenceResult None) frames = refl
received_count NewLocal NoResult frames = refl
received_count NewLocal NullResult frames = refl
received_count NewLocal (ScalarResult v) frames = refl
received_count NewLocal (FieldResult f) frames = refl
received_count NewLocal (MethodResult f) frames = refl
received_count NewLocal (WeakResult r) frames = refl
received_count NewLocal (BufferResult b) frames = refl
received_count NewGlobal c frames = refl
received_count NewWeak c frames = refl
received_count GivesFlag c frames = refl
received_count GivesInt c frames = refl
received_count GivesField c frames = refl
received_count GivesMethod c frames = refl
received_count GivesNothing c frames = refl
received_count (GivesBuffer a) c frames = refl

pub received_is : (kind : ResultKind) (c : CallResult) (t : source.Thread) → received kind c t ≡ record t { frames = frames_received kind c t.frames }
received_is NewLocal (ReferenceResult (Some n)) t = refl
received_is NewLocal (ReferenceResult None) t = refl
received_is NewLocal NoResult t = refl
received_is NewLocal NullResult t = refl
received_is NewLocal (ScalarResult v) t = refl
received_is NewLocal (FieldResult f) t = refl
received_is NewLocal (MethodResult f) t = refl
received_is NewLocal (WeakResult r) t = refl
received_is NewLocal (BufferResult b) t = refl
received_is NewGlobal c t = refl
received_is NewWeak c t = refl
received_is GivesFlag c t = refl
received_is GivesInt c t = refl
received_is GivesField c t = refl
received_is GivesMethod c t = refl
received_is GivesNothing c t = refl
received_is (GivesBuffer a) c t = refl

-- ---- what was given

module _ (space : Space) where
  same_table : (locals after : LocalTable) (gs : List source.Frame) → after ≡ locals → FramesAgree space locals gs → FramesAgree space after gs
  same_table locals after gs same agree = subst (λ (t : LocalTable). FramesAgree space t gs) (sym same) agree

  -- the frames with what was given
  pub frames_agree : (unit : SourceUnit) (classes : Classes) (kind : ResultKind) (g : Given) (c : CallResult) (locals : LocalTable) (key : Option ℕ) (after : LocalTable) (gs : List source.Frame) → AreStacked locals → GivenAgrees unit classes space kind g c → MakesLocal kind g locals key after
      → FramesAgree space locals gs → FramesAgree space after (frames_received kind c gs)
  frames_agree unit classes kind g c locals key after gs stacked (row.reference {a = Some a} {r = Some n} h) makes agree = reference_made space locals after gs makes.0 a n stacked makes.2 h agree
  frames_agree unit classes kind g c locals key after gs stacked (row.reference {a = Some a} {r = None} h) makes agree = absurd h
  frames_agree unit classes kind g c locals key after gs stacked (row.reference {a = None} {r = Some n} h) makes agree = absurd h
  frames_agree unit classes kind g c locals key after gs stacked h makes agree = same_table locals after gs makes.1 agree

-- a handle of a field, and one of a method, as slots hold them
pub field_handle : (unit : SourceUnit) (classes : Classes) (h : Option FieldHandle) (f : Option FieldId) → FieldAgrees classes h f → HandleAgrees unit classes (option_map handle.Field h) (option_map OfField f)
field_handle unit classes None None a = a
field_handle unit classes None (Some f) a = absurd a
field_handle unit classes (Some h) None a = absurd a
field_handle unit classes (Some h) (Some f) a = a

pub method_handle : (unit : SourceUnit) (classes : Classes) (h : Option MethodHandle) (m : Option MethodId) → MethodAgrees unit classes h m → HandleAgrees unit classes (option_map handle.Method h) (option_map OfMethod m)
method_handle unit classes None None a = a
method_handle unit classes None (Some m) a = absurd a
method_handle unit classes (Some h) None a = absurd a
method_handle unit classes (Some h) (Some m) a = a

pub handle_put : (unit : SourceUnit) (classes : Classes) (handles : List (Option Handle)) (fields : List (Option meant.Handle)) (i : ℕ) (h : Option Handle) (f : Option meant.Handle) → HandlesAgree unit classes handles fields → HandleAgrees unit classes h f → HandlesAgree unit classes (slice_set handles i h) (slice_set fields i f)
handle_put unit classes [] [] i h f all agrees = all
handle_put unit classes [] (g ∷ fields) i h f all agrees = absurd all
handle_put unit classes (x ∷ handles) [] i h f all agrees = absurd all
handle_put unit classes (x ∷ handles) (g ∷ fields) zero h f all agrees = (agrees, all.1)
handle_put unit classes (x ∷ handles) (g ∷ fields) (suc i) h f all agrees = (all.0, handle_put unit classes handles fields i h f all.1 agrees)
