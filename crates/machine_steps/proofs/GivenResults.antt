-- What a call gives, in memory and in the source.
use Rattle.semantics.specs.Method.{MethodId}
use Rattle.syntax.specs.Tree.{SourceUnit}
use Rattle.std.proofs.Common.{◌≡◌, ℕ, List, Option, Some, None, refl, sym, ap, subst}
use Rattle.class_rules.specs.Class.{Classes}
use Rattle.class_rules.specs.Fields.{FieldId}
use Rattle.classes.specs.declared.class.FieldHandle.{FieldHandle as FieldIn}
use Rattle.machine_scenes.specs.declared.handle.MethodHandle.{MethodHandle as MethodIn}
use Rattle.heap.specs.Heap.{Space}
use Rattle.jni.specs.declared.kinds.ResultKind.{ResultKind}
use Rattle.jni.specs.declared.kinds.ResultKind.TheVariants.{NewLocal, NewGlobal, NewWeak, GivesFlag, GivesInt, GivesField, GivesMethod, GivesNothing, GivesBuffer}
use Rattle.type_rules.specs.declared.ty.ExprType.{ExprType}
use Rattle.type_rules.specs.declared.ty.ExprType.TheVariants.{Jint}
use Rattle.type_rules.specs.declared.ty.ExprType.TheVariants as types
use Rattle.semantics.specs.CallEffects.{CallResult, NoResult, NullResult, ScalarResult, ReferenceResult, WeakResult, FieldResult, MethodResult, BufferResult}
use Rattle.semantics.specs.CallStep.{filled, static_result}
use Rattle.semantics.specs.Object.{Reference}
use Rattle.semantics.specs.Thread as source
use Rattle.semantics.specs.declared.value.Value.{Value}
use Rattle.semantics.specs.declared.value.Value.TheVariants.{Int, Flag}
use Rattle.semantics.specs.Variable.{Buffer, NoBuffer, LocalRef, FieldHandle, MethodHandle, Elements}
use Rattle.code_meaning.specs.Slots as value
use Rattle.code_meaning.specs.Slots.{ValueHasType, word_of}
use Rattle.code_meaning.specs.Stands.{IsBufferResult, IsStaticResult, number_type}
use Rattle.base.specs.declared.element.ElementType.{ElementType}
use Rattle.jni.specs.declared.access.Access.{Access}
use Rattle.machine_answers.specs.declared.answer.Given.{Given}
use Rattle.machine_answers.specs.declared.answer.Given.TheVariants as given
use Rattle.machine_scenes.specs.FieldIds.{FieldAgrees, MethodAgrees}
use Rattle.machine_scenes.specs.StoreAgrees.{HeldAgrees}
use Rattle.machine_scenes.specs.Locals.{FramesAgree}
use Rattle.tables.specs.Locals.{LocalTable, AreStacked}
use Rattle.machine_answers.specs.Answers.{GivenAgrees}
use Rattle.machine_answers.specs.Answers as row
use Rattle.machine_calls.specs.CarriedOut.{IsForStatic, IsFresh, ResultAgrees, acquired_with}
use Rattle.machine_scenes.specs.Buffers as in_slot
use Rattle.machine_scenes.specs.Buffers.{BufferAgrees, acquired_of, nothing_acquired}
use Rattle.machine_scenes.specs.declared.buffer.Buffer.{Buffer as HeldBuffer}
use Rattle.machine_scenes.specs.Statics.{held as held_of}
use Rattle.machine_scenes.specs.Statics.{StaticReference as InMemory}
use Rattle.machine_scenes.specs.declared.store.Store.{Store}
use Rattle.machine_scenes.specs.HeapAgrees.{ReferenceAgrees}
use Rattle.machine_steps.specs.Received.{MakesLocal}
use Rattle.machine_threads.specs.SlotsHold.{IsSmallCopy}
use Rattle.machine_steps.proofs.Receives.{IsNoBuffer, frames_agree, frames_received, no_buffer, plain_static}

-- a number
pub record IsNumber (g : Given) (c : CallResult) (of : ExprType) : Type 0 where
  pub value : Value
  pub gave : c ≡ ScalarResult value
  pub same : g ≡ given.Number (word_of value)
  pub well_typed : ValueHasType value of

-- a reference
pub record IsReference (space : Space) (g : Given) (c : CallResult) : Type 0 where
  pub address : Option ℕ
  pub reference : Reference
  pub same : g ≡ given.Reference address
  pub agrees : ReferenceAgrees space address reference
  pub fills : (level : ℕ) (old : Reference) → filled (LocalRef level old) c ≡ LocalRef level reference

-- a field ID
pub record IsField (classes : Classes) (g : Given) (c : CallResult) : Type 0 where
  pub handle : Option FieldIn
  pub field : Option FieldId
  pub same : g ≡ given.FieldId handle
  pub agrees : FieldAgrees classes handle field
  pub fills : (old : Option FieldId) → filled (FieldHandle old) c ≡ FieldHandle field

-- a method ID
pub record IsMethodId (unit : SourceUnit) (classes : Classes) (g : Given) (c : CallResult) : Type 0 where
  pub handle : Option MethodIn
  pub method : Option MethodId
  pub same : g ≡ given.MethodId handle
  pub agrees : MethodAgrees unit classes handle method
  pub fills : (old : Option MethodId) → filled (MethodHandle old) c ≡ MethodHandle method

pub number_given : (unit : SourceUnit) (classes : Classes) (space : Space) (kind : ResultKind) (g : Given) (c : CallResult) (of : ExprType) → GivenAgrees unit classes space kind g c → number_type kind ≡ Some of → IsNumber g c of
number_given unit classes space kind g c of (row.int {z = z} is fits) e = record { value = Int z; gave = refl; same = ap given.Number is; well_typed = let same : Jint ≡ of = cc in subst (ValueHasType (Int z)) same (value.int fits) }
number_given unit classes space kind g c of (row.flag {b = b} is) e = record { value = Flag b; gave = refl; same = ap given.Number is; well_typed = let same : types.Flag ≡ of = cc in subst (ValueHasType (Flag b)) same value.flag }
number_given unit classes space kind g c of h e = absurd (cc)

pub reference_given : (unit : SourceUnit) (classes : Classes) (space : Space) (g : Given) (c : CallResult) → GivenAgrees unit classes space NewLocal g c → IsReference space g c
reference_given unit classes space g c (row.reference {a = a} {r = r} h) = record { address = a; reference = r; same = refl; agrees = h; fills = λ level old. refl }
reference_given unit classes space g c row.null_reference = record { address = None; reference = None; same = refl; agrees = tt; fills = λ level old. refl }

pub field_given : (unit : SourceUnit) (classes : Classes) (space : Space) (g : Given) (c : CallResult) → GivenAgrees unit classes space GivesField g c → IsField classes g c
field_given unit classes space g c (row.field {h = h} {f = f} agrees) = record { handle = h; field = f; same = refl; agrees = agrees; fills = λ old. refl }
field_given unit classes space g c row.null_field = record { handle = None; field = None; same = refl; agrees = tt; fills = λ old. refl }

pub method_given : (unit : SourceUnit) (classes : Classes) (space : Space) (g : Given) (c : CallResult) → GivenAgrees unit classes space GivesMethod g c → IsMethodId unit classes g c
method_given unit classes space g c (row.method {h = h} {m = m} agrees) = record { handle = h; method = m; same = refl; agrees = agrees; fills = λ old. refl }
method_given unit classes space g c row.null_method = record { handle = None; method = None; same = refl; agrees = tt; fills = λ old. refl }

-- what a static takes
pub record IsGlobal (store : Store) (g : Given) (c : CallResult) : Type 0 where
  pub held : InMemory
  pub same : g ≡ given.Global held
  pub agrees : HeldAgrees store.heap (held_of store.globals store.weaks held) (static_result c)
  pub fresh : IsFresh store held

-- nothing else goes into one
no_static : {unit : SourceUnit} {classes : Classes} {space : Space} {kind : ResultKind} {g : Given} {c : CallResult} → GivenAgrees unit classes space kind g c → IsStaticResult kind → ⊥
no_static row.nothing goes = goes
no_static h goes = goes

pub static_given : (unit : SourceUnit) (classes : Classes) (store : Store) (k : ℕ) (kind : ResultKind) (g : Given) (c : CallResult) → IsStaticResult kind → ResultAgrees unit classes store k g kind c → IsGlobal store g c
static_given unit classes store k kind (given.Global s) c goes h = record { held = s; same = refl; agrees = h.1; fresh = h.2 }
static_given unit classes store k kind (given.Buffer b) c goes h = absurd (subst IsStaticResult h.0.1 goes)
static_given unit classes store k kind g c goes h = absurd (no_static h goes)

-- what is given for a static is of a function whose result goes into one
for_static : (kind : ResultKind) (c : CallResult) → IsForStatic kind c → IsStaticResult kind
for_static NewGlobal c h = tt
for_static NewWeak c h = tt
for_static NewLocal c h = h
for_static GivesFlag c h = h
for_static GivesInt c h = h
for_static GivesField c h = h
for_static GivesMethod c h = h
for_static GivesNothing c h = h
for_static (GivesBuffer a) c h = h

-- which is no number
pub no_number : (kind : ResultKind) (s : ExprType) → number_type kind ≡ Some s → IsStaticResult kind → ⊥
no_number NewGlobal s is goes = cc
no_number NewWeak s is goes = cc
no_number kind s is goes = goes

-- what any other target takes
pub other_given : (unit : SourceUnit) (classes : Classes) (store : Store) (k : ℕ) (kind : ResultKind) (g : Given) (c : CallResult) → (IsStaticResult kind → ⊥) → (IsBufferResult kind → ⊥) → ResultAgrees unit classes store k g kind c → GivenAgrees unit classes store.heap kind g c
other_given unit classes store k kind (given.Global s) c other no_buffer h = absurd (other (for_static kind c h.0))
other_given unit classes store k kind (given.Buffer b) c other no_buffer h = absurd (no_buffer h.0)
other_given unit classes store k kind g c other no_buffer h = h

-- what is no buffer
pub plain_result : (unit : SourceUnit) (classes : Classes) (store : Store) (k : ℕ) (kind : ResultKind) (g : Given) (c : CallResult) → (IsBufferResult kind → ⊥) → ResultAgrees unit classes store k g kind c → IsNoBuffer c
plain_result unit classes store k kind (given.Global s) c other h = plain_static kind c h.0
plain_result unit classes store k kind (given.Buffer b) c other h = absurd (other h.0)
plain_result unit classes store k kind g c other h = no_buffer unit classes store.heap kind g c h

-- it takes nothing
pub nothing_with : (c : CallResult) → IsNoBuffer c → acquired_with c ≡ nothing_acquired
nothing_with NoResult h = refl
nothing_with NullResult h = refl
nothing_with (ScalarResult v) h = refl
nothing_with (ReferenceResult r) h = refl
nothing_with (FieldResult f) h = refl
nothing_with (MethodResult f) h = refl
nothing_with (WeakResult r) h = refl
nothing_with (BufferResult b) h = absurd h

-- a buffer
pub record IsBuffer (store : Store) (k : ℕ) (g : Given) (c : CallResult) : Type 0 where
  pub held : HeldBuffer
  pub buffer : Buffer
  pub same : g ≡ given.Buffer held
  pub agrees : BufferAgrees store.heap store.elements k held buffer
  pub fills : (t : ElementType) (old : Buffer) → filled (Elements t old) c ≡ Elements t buffer
  pub takes : acquired_with c ≡ acquired_of buffer
  pub small : IsSmallCopy buffer

pub buffer_given : (unit : SourceUnit) (classes : Classes) (store : Store) (k : ℕ) (access : Access) (g : Given) (c : CallResult) → ((b : Buffer) → c ≡ BufferResult b → IsSmallCopy b) → ResultAgrees unit classes store k g (GivesBuffer access) c → IsBuffer store k g c
buffer_given unit classes store k access (given.Buffer h) (BufferResult b) small agrees = record { held = h; buffer = b; same = refl; agrees = agrees.1; fills = λ t old. refl; takes = refl; small = small b refl }
buffer_given unit classes store k access (given.Buffer h) NullResult small agrees =
    record { held = h; buffer = NoBuffer; same = refl; agrees = subst (λ (y : HeldBuffer). BufferAgrees store.heap store.elements k y NoBuffer) (sym agrees.1) in_slot.null; fills = λ t old. refl; takes = refl; small = tt }
buffer_given unit classes store k access (given.Buffer h) NoResult small agrees = absurd agrees.1
buffer_given unit classes store k access (given.Buffer h) (ScalarResult v) small agrees = absurd agrees.1
buffer_given unit classes store k access (given.Buffer h) (ReferenceResult r) small agrees = absurd agrees.1
buffer_given unit classes store k access (given.Buffer h) (FieldResult f) small agrees = absurd agrees.1
buffer_given unit classes store k access (given.Buffer h) (MethodResult f) small agrees = absurd agrees.1
buffer_given unit classes store k access (given.Buffer h) (WeakResult r) small agrees = absurd agrees.1
buffer_given unit classes store k access (given.Global s) c small agrees = absurd agrees.0
buffer_given unit classes store k access g c small agrees = elim agrees [ ]

pub frames_result : (unit : SourceUnit) (classes : Classes) (store : Store) (k : ℕ) (kind : ResultKind) (g : Given) (c : CallResult) (locals after : LocalTable) (key : Option ℕ) (gs : List source.Frame) → AreStacked locals → ResultAgrees unit classes store k g kind c → MakesLocal kind g locals key after → FramesAgree store.heap locals gs → FramesAgree store.heap after (frames_received kind c gs)
frames_result unit classes store k kind (given.Global s) c locals after key gs stacked h makes agree =
    static_frames kind (for_static kind c h.0) makes
  where
    static_frames : (kind : ResultKind) → IsStaticResult kind → MakesLocal kind (given.Global s) locals key after → FramesAgree store.heap after (frames_received kind c gs)
    static_frames NewGlobal goes makes = subst (λ (t : LocalTable). FramesAgree store.heap t gs) (sym makes.1) agree
    static_frames NewWeak goes makes = subst (λ (t : LocalTable). FramesAgree store.heap t gs) (sym makes.1) agree
    static_frames kind goes makes = absurd goes
frames_result unit classes store k kind (given.Buffer b) c locals after key gs stacked h makes agree =
    subst (λ (k : ResultKind). FramesAgree store.heap after (frames_received k c gs)) (sym h.0.1)
    (subst (λ (t : LocalTable). FramesAgree store.heap t gs) (sym (subst (λ (k : ResultKind). MakesLocal k (given.Buffer b) locals key after) h.0.1 makes).1) agree)
frames_result unit classes store k kind g c locals after key gs stacked h makes agree = frames_agree store.heap unit classes kind g c locals key after gs stacked h makes agree
