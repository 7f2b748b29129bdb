-- What it is for a thread to be at a point: its variables are of their types, and hold what is known of them.
use Rattle.std.specs.Prelude.{◌≡◌, ℕ, ◌≤◌, ◌==◌, Bool, true, false, ◌⊎◌, ℤ, List, [], length, Option, Some, None, IsTrue, filter, slice_get}
use Rattle.std.specs.List.{list_all, AllByRecursion, AllZip}
use Rattle.base.specs.Bytes.{Identifier, lookup}
use Rattle.base.specs.declared.element.ElementType.{ElementType}
use Rattle.syntax.specs.Tree.{SourceUnit}
use Rattle.class_rules.specs.Class.{Classes}
use Rattle.class_rules.specs.Fields.{FieldId}
use Rattle.jni.specs.declared.access.Access.{Access}
use Rattle.jni.specs.Access.{is_critical}
use Rattle.type_rules.specs.declared.ty.ExprType.{ExprType}
use Rattle.type_rules.specs.declared.ty.ExprType.TheVariants.{Truth, Ref, Global, Weak, Buffer, Array}
use Rattle.type_rules.specs.ExprTypes.{type_in}
use Rattle.type_rules.specs.declared.ty.ExprType.TheVariants as types
use Rattle.jni.specs.declared.kinds.ResultKind.TheVariants.{NewLocal}
use Rattle.semantics.specs.CallSight.{is_full}
use Rattle.semantics.specs.Method.{MethodId}
use Rattle.semantics.specs.Object.{Reference}
use Rattle.semantics.specs.Load.{call_loads}
use Rattle.region_rules.specs.RegionStates.{VariableState, BufferState, Free, Untested, Usable, ReferenceAt, BufferIn, state_of}
use Rattle.semantics.specs.Step.{is_unfinished}
use Rattle.semantics.specs.Task.{Task}
use Rattle.semantics.specs.Thread.{Thread, Caller, Frame}
use Rattle.semantics.specs.declared.value.Value.{Value}
use Rattle.semantics.specs.Variable.{Variable, Scalar, LocalRef, FieldHandle, MethodHandle, Elements, LocalArray, Buffer as Buffer_, NoBuffer, Copy, View, StaticReference, Variables, Statics}
use Rattle.semantics_safety.specs.Owners.{Owners, ThreadOwners}
use Rattle.semantics_safety.specs.Points.{Point, AreOnce, value_type, owners}
use Rattle.semantics_safety.specs.StepSafe.{IsCallable, IsMethodResult, references_at, has_calls}
use Rattle.semantics_safety.specs.Wanted.{Holds, HasNoView, ResultGoes, GoesOn}
use Rattle.semantics_safety.specs.WeakNames.{WeakNames, AreOfKind, HoldWeakly, weak_names}

-- ---- types

-- a variable of a type; a static is no variable
abbrev pub VariableFits : ExprType → Option Variable → Option StaticReference → Type 0
VariableFits Ref v g = (level : ℕ) × (r : Reference) × (v ≡ Some (LocalRef level r))
VariableFits Global v g = (v ≡ None) × ((r : StaticReference) × (g ≡ Some r))
VariableFits Weak v g = (v ≡ None) × ((r : StaticReference) × (g ≡ Some r))
VariableFits types.FieldId v g = (f : Option FieldId) × (v ≡ Some (FieldHandle f))
VariableFits types.MethodId v g = (m : Option MethodId) × (v ≡ Some (MethodHandle m))
VariableFits (Buffer t writable) v g = (b : Buffer_) × (v ≡ Some (Elements t b))
VariableFits (Array t size) v g = (zs : List ℤ) × (v ≡ Some (LocalArray t zs))
VariableFits Truth v g = ⊥
VariableFits s v g = (n : Value) × (v ≡ Some (Scalar n)) × (value_type n ≡ s)

-- ---- references and buffers

-- a copy or a view of an object, as the access says
abbrev pub IsOf : Bool → ℕ → Buffer_ → Type 0
IsOf true n b = b ≡ View n
IsOf false n b = (zs : List ℤ) × (b ≡ Copy n zs)

-- a buffer of the object that this variable holds
abbrev pub Lends : Variables → Access → Identifier → Buffer_ → Type 0
Lends vs access a b = (n level : ℕ) × (lookup a vs ≡ Some (LocalRef level (Some n))) × IsOf (is_critical access) n b

-- what is known of a buffer
abbrev pub BufferShows : Variables → BufferState → Buffer_ → Type 0
BufferShows vs Free b = b ≡ NoBuffer
BufferShows vs (Untested access a) b = (b ≡ NoBuffer) ⊎ Lends vs access a b
BufferShows vs (Usable access a) b = Lends vs access a b

-- what is known of a variable
abbrev pub Shows : Variables → VariableState → Option Variable → Type 0
Shows vs (ReferenceAt level live) v = (r : Reference) × (v ≡ Some (LocalRef level r))
Shows vs (BufferIn known) v = (u : ElementType) × (b : Buffer_) × (v ≡ Some (Elements u b)) × BufferShows vs known b

-- ---- a frame

-- how many copies of a reference a frame has
abbrev pub copies : List ℕ → ℕ → ℕ
copies names n = length (filter (λ m. n == m) names)

-- ---- a thread

-- the level of each live reference is that of its variable's own
abbrev pub IsOwned : Owners → Variables → Point → Type 0
IsOwned own vs p = (x : Identifier) (level l n : ℕ) → state_of p.regions x ≡ Some (ReferenceAt level true)
    → lookup x vs ≡ Some (LocalRef l (Some n)) → own x ≡ Some l

-- the thread is at this point, where these names are those of weak statics
pub record Stands (weak : WeakNames) (own : Owners) (statics : Statics) (vs : Variables) (frames : List Frame) (p : Point) : Type 0 where
  pub types : (x : Identifier) (s : ExprType) → type_in p.names x ≡ Some s → VariableFits s (lookup x vs) (lookup x statics)
  pub shows : (x : Identifier) (v : VariableState) → state_of p.regions x ≡ Some v → Shows vs v (lookup x vs)
  -- no other buffer is held
  pub held : (x : Identifier) (u : ElementType) (b : Buffer_) → lookup x vs ≡ Some (Elements u b) → (b ≡ NoBuffer)
      ⊎ ((access : Access) × (a : Identifier) × Holds p x access a)
  pub once : AreOnce vs
  pub known_once : AreOnce p.regions.variables
  pub depth : length frames ≡ p.regions.frames
  -- each live reference has a copy of its own in the frame of its level
  pub backed : (level n : ℕ) → owners p.regions vs level n ≤ copies (references_at level frames) n
  -- and is its variable's own
  pub owned : IsOwned own vs p
  -- statics are weak as their types say, and only weak ones hold weak references
  pub kinds : AreOfKind weak p.names
  pub only : HoldWeakly weak statics

-- how the thread goes on: from its entry, or from a point that it is at
abbrev pub Goes : WeakNames → Owners → Statics → Thread → Option (List Task) → Type 0
Goes weak own statics t None = (t.variables ≡ []) × (is_unfinished t.ending ≡ true → IsTrue (has_calls t.calls)) × HoldWeakly weak statics
Goes weak own statics t (Some tasks) = (p : Point) × Stands weak own statics t.variables t.frames p × GoesOn tasks p

-- a caller goes on from a point once the result is where it goes; a reference has room in its current frame
pub record CallerStands (weak : WeakNames) (statics : Statics) (own : Owners) (c : Caller) : Type 0 where
  pub point : Point
  pub stands : Stands weak own statics c.variables c.frames point
  pub method : IsMethodResult c.result
  pub goes : ResultGoes c.target c.result None (GoesOn c.tasks) point
  pub room : c.result ≡ NewLocal → is_full (slice_get c.frames 0) ≡ false
  pub viewless : HasNoView point

-- a method ID that a variable holds can be called
abbrev pub HoldsCallable : SourceUnit → Classes → Variable → Type 0
HoldsCallable unit classes (MethodHandle (Some m)) = IsCallable unit classes m
HoldsCallable unit classes v = Unit {0}

-- each that one of these variables holds
abbrev pub AreCallable : SourceUnit → Classes → Variables → Type 0
AreCallable unit classes vs = AllByRecursion (λ (v : Identifier × Variable). HoldsCallable unit classes v.1) vs

-- what holds of a thread before each step
pub record IsSound (unit : SourceUnit) (classes : Classes) (own : ThreadOwners) (statics : Statics) (t : Thread) : Type 0 where
  pub goes : Goes (weak_names unit) own.current statics t t.tasks
  pub callers : AllZip (CallerStands (weak_names unit) statics) own.callers t.callers
  pub loads : IsTrue (list_all (call_loads unit classes) t.calls)
  pub methods : AreCallable unit classes t.variables
  pub below : AllByRecursion (λ (c : Caller). AreCallable unit classes c.variables) t.callers
