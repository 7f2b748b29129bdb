-- What no thread of an accepted unit ever does, in any replay.
use Rattle.std.specs.Prelude.{◌≡◌, ◌≢◌, ◌⊎◌, ℕ, ◌-◌, ◌==◌, nat_le, if◌then◌else◌, Bool, true, false, List, [], ◌∷◌, length, slice_get, Option, Some, None, IsTrue, ◌+◌, ◌≤◌}
use Rattle.std.specs.List.{list_any, list_all, AllByRecursion}
use Rattle.base.specs.Bytes.{Identifier, lookup}
use Rattle.base.specs.declared.element.ElementType.{ElementType}
use Rattle.base.specs.Limits.{most_further}
use Rattle.class_rules.specs.Class.{Classes}
use Rattle.syntax.specs.Tree.{SourceUnit, Block}
use Rattle.jni.specs.declared.function.JniFunction.{JniFunction}
use Rattle.jni.specs.declared.function.JniFunction.TheVariants.{GetBuffer, ReleaseBuffer}
use Rattle.jni.specs.JniFunction.{prototype, calls_method}
use Rattle.jni.specs.declared.kinds.ResultKind.{ResultKind}
use Rattle.jni.specs.declared.kinds.ResultKind.TheVariants.{NewLocal, GivesInt, GivesNothing}
use Rattle.type_rules.specs.TypeRules.{IsWellTyped}
use Rattle.semantics.specs.Journal.{Journal}
use Rattle.semantics.specs.World.{Invocation, World}
use Rattle.semantics.specs.Activation.{function_at, class_of_function}
use Rattle.semantics.specs.Arguments.{Actual, object_given, variable_given, address_given, method_given}
use Rattle.semantics.specs.CallEffects.{CallResult}
use Rattle.semantics.specs.CallSight.{is_full}
use Rattle.semantics.specs.Checks.{frames_after}
use Rattle.semantics.specs.Effect.{Effect, Sets, SetsNull, MakesArray, Calls, Returns, NoEffect}
use Rattle.semantics.specs.Load.{Loads}
use Rattle.semantics.specs.Method.{MethodId}
use Rattle.semantics.specs.Object.{Reference}
use Rattle.region_rules.specs.RegionRules.{is_critical_call}
use Rattle.region_rules.specs.Regions.{HasRegions}
use Rattle.semantics.specs.Run.{replay}
use Rattle.semantics.specs.State.{State, thread_at}
use Rattle.semantics.specs.Step.{can_step, turn_step}
use Rattle.semantics.specs.Task.{Task, Assigned, Invoke, Print, Target, Tested}
use Rattle.semantics.specs.Thread.{Thread, Frame, viewed_by, Caller}
use Rattle.semantics.specs.ThreadStep.{next_effect}
use Rattle.semantics.specs.Variable.{Variable, LocalRef, Elements, Buffer, NoBuffer, Copy, View}
use Rattle.semantics.specs.WeakArguments.{WeakAreTaken}
use Rattle.semantics_safety.specs.Owners.{Owners, IsOwn, is_target, owners_after}
use Rattle.semantics_safety.specs.Used.{task_names}

-- ---- a view

-- what a thread may do while it has a view: no call of the JNI but the critical ones, and no number printed
abbrev pub MayMeetView : Task → Type 0
MayMeetView (Invoke line target f operands) = IsTrue (is_critical_call f)
MayMeetView (Print line t) = ⊥
MayMeetView task = Unit {0}

-- ---- a return

-- a copied list or a view
abbrev pub is_lent : Variable → Bool
is_lent (Elements kind NoBuffer) = false
is_lent (Elements kind b) = true
is_lent v = false

-- no copied list, no view, and one frame
abbrev pub MayReturn : Thread → Type 0
MayReturn t = (list_any (λ v. is_lent v.1) t.variables ≡ false) × (length t.frames ≡ 1)

-- ---- a reference

-- the references of a frame, if it is there
abbrev pub references_in : Option Frame → List ℕ
references_in None = []
references_in (Some frame) = frame.references

-- of a level, counted from the lowest; none where there is no frame of that level
abbrev pub references_at : ℕ → List Frame → List ℕ
references_at level frames = if nat_le level (length frames) then references_in (slice_get frames (length frames - level)) else []

-- a variable that is NULL, no local reference, or one whose frame has its name yet
abbrev pub IsAlive : List Frame → Option Variable → Type 0
IsAlive frames (Some (LocalRef level (Some n))) = IsTrue (list_any (λ m. n == m) (references_at level frames))
IsAlive frames v = Unit {0}

-- ---- a release

-- the array or string that a buffer came from
abbrev pub came_from : Option Variable → Option ℕ
came_from (Some (Elements kind (Copy n zs))) = Some n
came_from (Some (Elements kind (View n))) = Some n
came_from v = None

-- ---- a variable that is set as a whole

-- a variable that is there and a buffer is NULL
abbrev pub HoldsNoBuffer : Option Variable → Type 0
HoldsNoBuffer v = (kind : ElementType) (b : Buffer) → v ≡ Some (Elements kind b) → b ≡ NoBuffer

-- a call tells this variable whether its buffer is a copy
abbrev pub IsTold : JniFunction → List Actual → Identifier → Type 0
IsTold (GetBuffer access) args x = address_given args 1 ≡ Some x
IsTold f args x = ⊥

-- an effect sets this variable, not only an element of it, and not to give a buffer up
abbrev pub SetsWhole : Identifier → Effect → Type 0
SetsWhole x (Sets y v) = y ≡ x
SetsWhole x (SetsNull target) = is_target target x ≡ true
SetsWhole x (MakesArray kind y size) = y ≡ x
SetsWhole x (Calls line target f args) = (is_target target x ≡ true) ⊎ IsTold f args x
SetsWhole x e = ⊥

-- ---- calls of methods

-- what a function of a unit gives
abbrev pub IsMethodResult : ResultKind → Type 0
IsMethodResult NewLocal = Unit {0}
IsMethodResult GivesInt = Unit {0}
IsMethodResult GivesNothing = Unit {0}
IsMethodResult kind = ⊥

-- A caller of an accepted unit can go on once the call that it made returns: it tests no result, wants one that a function of the unit can
-- give, and has room for a local reference. The variable that takes the result is no buffer that holds something, and one that takes a local
-- reference was declared at the frame that is current.
pub record IsResumable (c : Caller) : Type 0 where
  pub method : IsMethodResult c.result
  pub untested : (then' else' : Block) → c.target ≡ Tested then' else' → ⊥
  pub room : c.result ≡ NewLocal → is_full (slice_get c.frames 0) ≡ false
  pub free : (x : Identifier) → is_target c.target x ≡ true → HoldsNoBuffer (lookup x c.variables)
  pub declared : (x : Identifier) (level : ℕ) (r : Reference) → c.target ≡ Assigned x → c.result ≡ NewLocal
      → lookup x c.variables ≡ Some (LocalRef level r) → level ≡ length c.frames

-- a method ID is one of the unit's functions, which is found by its name, as its class is
pub record IsCallable (unit : SourceUnit) (classes : Classes) (m : MethodId) : Type 0 where
  pub named : function_at unit m.function.name ≡ Some m.function
  pub class : ℕ
  pub of_class : class_of_function classes m.function ≡ Some class

-- ---- each step

-- thread k, which is t, and of which these variables have references of their own, does none of what JNI leaves undefined, and
-- can go on
pub record StepSafe (unit : SourceUnit) (w : World) (s : State) (own : Owners) (k : ℕ) (t : Thread) : Type 0 where
  -- the caller that goes on next can
  pub callers : (c : Caller) (below : List Caller) → t.callers ≡ c ∷ below → IsResumable c
  -- a call of a method is one of the unit's functions, and gives it few arguments
  pub methods : (line : ℕ) (target : Target) (f : JniFunction) (args : List Actual) → next_effect s.shared t t.tasks ≡ Calls line target f args
      → calls_method f ≡ true → (length args ≤ 2 + most_further) × ((m : MethodId) → method_given args 1 ≡ Some m → IsCallable unit w.classes m)
  -- with a view it begins no call but the critical ones, and prints nothing
  pub view : (task : Task) (rest : List Task) → t.tasks ≡ Some (task ∷ rest) → viewed_by t ≢ [] → MayMeetView task
  -- a return finds no copied list, no view and one frame
  pub return : (given : CallResult) → next_effect s.shared t t.tasks ≡ Returns given → MayReturn t
  -- a step uses no dead reference
  pub references : (task : Task) (rest : List Task) → t.tasks ≡ Some (task ∷ rest)
      → AllByRecursion (λ x. IsAlive t.frames (lookup x t.variables)) (task_names task)
  -- nor one that isn't the variable's own
  pub owned : (task : Task) (rest : List Task) → t.tasks ≡ Some (task ∷ rest) → AllByRecursion (λ x. IsOwn own x (lookup x t.variables)) (task_names task)
  -- a release names the array that its buffer came from
  pub release : (line : ℕ) (target : _) (access : _) (args : List Actual)
      → next_effect s.shared t t.tasks ≡ Calls line target (ReleaseBuffer access) args
      → came_from (lookup (variable_given args 1) t.variables) ≡ Some (object_given args 0)
  -- a call that gives a new local reference to a variable that is there already finds it declared at the frame that is then current
  pub declared : (line : ℕ) (x : Identifier) (f : JniFunction) (args : List Actual) (level : ℕ) (r : Reference)
      → next_effect s.shared t t.tasks ≡ Calls line (Assigned x) f args → (prototype f).result ≡ NewLocal
      → lookup x t.variables ≡ Some (LocalRef level r) → level ≡ length (frames_after f t.frames)
  -- a variable that it sets as a whole is no buffer that holds something, so that no copy is lost and no view
  pub free : (x : Identifier) → SetsWhole x (next_effect s.shared t t.tasks) → HoldsNoBuffer (lookup x t.variables)
  -- a weak reference is an argument of the four functions alone that take any reference or a weak one, and make no object
  pub weak : (task : Task) (rest : List Task) → t.tasks ≡ Some (task ∷ rest) → WeakAreTaken t.variables s.shared.statics task
  -- in a call, the next step has an effect
  pub possible : (tasks : List Task) → t.tasks ≡ Some tasks → next_effect s.shared t t.tasks ≢ NoEffect
  -- if it isn't ended, blocked or stopped, it can step
  pub progress : can_step w.classes s k ≡ true → (next : State) × (turn_step unit w.classes s k false ≡ Some next)

-- each thread has a call to make
abbrev pub has_calls : List Invocation → Bool
has_calls [] = false
has_calls (call ∷ calls) = true

-- each thread of the world has a call to make, as each thread of a world's text has
abbrev pub HasCalls : World → Type 0
HasCalls w = IsTrue (list_all has_calls w.threads)

-- after each journal that can be replayed, each thread's next step is safe
abbrev pub IsSafe : SourceUnit → World → Type 0
IsSafe unit w = (journal : Journal) (s : State) (k : ℕ) (t : Thread) → replay unit w journal ≡ Some s
    → thread_at s k ≡ Some t → StepSafe unit w s (owners_after unit w journal k).current k t

-- an accepted unit is safe in each world that goes with it
abbrev pub AcceptedIsSafe : Type 0
AcceptedIsSafe = (unit : SourceUnit) (w : World) → IsWellTyped unit → HasRegions unit → Loads unit w → HasCalls w → IsSafe unit w
