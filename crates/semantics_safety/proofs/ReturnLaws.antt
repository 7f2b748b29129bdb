-- A return into a caller leads to the point from which the caller goes on, and other returns to the end of the thread's call.
use Rattle.std.proofs.Common.{◌≡◌, ℕ, pos, Bool, true, List, [], ◌∷◌, ◌++◌, flat_map, Some, None, refl, sym, ap, ◌∙◌, subst, if◌then◌else◌}
use Rattle.std.specs.Prelude.{IsTrue}
use Rattle.std.specs.List.{AllZip}
use Rattle.std.proofs.lemmas.List.Concat.{flat_map-cons}
use Rattle.syntax.specs.Tree.{SourceUnit}
use Rattle.class_rules.specs.Class.{Classes}
use Rattle.jni.specs.declared.kinds.ResultKind.{ResultKind}
use Rattle.jni.specs.declared.kinds.ResultKind.TheVariants.{NewLocal, NewGlobal, NewWeak, GivesFlag, GivesInt, GivesField, GivesMethod, GivesNothing, GivesBuffer}
use Rattle.semantics.specs.Object.{Reference}
use Rattle.semantics.specs.World.{Invocation}
use Rattle.semantics.specs.CallEffects.{CallResult, NoResult, NullResult, ScalarResult, ReferenceResult, WeakResult, FieldResult, MethodResult, BufferResult, with_local}
use Rattle.semantics.specs.CallStep.{put, received}
use Rattle.semantics.specs.Heap.{Heap}
use Rattle.semantics.specs.Return.{ending_after, calls_after, fitted, given_back, resumed_in, return_into}
use Rattle.semantics.specs.Step.{is_unfinished}
use Rattle.semantics.specs.Task.{Target}
use Rattle.semantics.specs.Thread.{Frame, Caller, Thread, Shared, BuffersInUse, Advance, objects_viewed}
use Rattle.semantics.specs.declared.value.Value.TheVariants.{Word, Int, Flag, Truth}
use Rattle.semantics.specs.Variable.{Statics}
use Rattle.semantics_safety.specs.Owners.{Owners, with_result}
use Rattle.semantics_safety.specs.Stands.{CallerStands, Stands}
use Rattle.semantics_safety.specs.StepSafe.{IsMethodResult, has_calls}
use Rattle.semantics_safety.specs.Wanted.{GoesOn, ResultGoes}
use Rattle.semantics_safety.specs.WeakNames.{WeakNames}
use Rattle.semantics_safety.proofs.ClauseLaws.{no_views}
use Rattle.semantics_safety.proofs.FrameLaws.{HasFrame}
use Rattle.semantics_safety.proofs.OwnerLaws.{put_by}
use Rattle.semantics_safety.proofs.QuietLaws.{ALocal, Gives, Plainly, received_is}
use Rattle.semantics_safety.proofs.QuietSteps.{has_frame}
use Rattle.semantics_safety.proofs.ReferenceLaws.{local_lands, with_target}
use Rattle.semantics_safety.proofs.ResultLaws.{AnInt, NoLocal, NoResultThere, NullLocal, result_lands}
use Rattle.semantics_safety.proofs.StepLaws.{Lands, LandsBy}

-- ---- without a caller

-- a thread that hasn't ended has a call to make
pub calls_there : (heap : Heap) (pending : Reference) (calls : List Invocation) → is_unfinished (ending_after heap pending calls) ≡ true → IsTrue (has_calls (calls_after (ending_after heap pending calls) calls))
calls_there heap (Some n) calls e = absurd (cc)
calls_there heap None [] e = absurd (cc)
calls_there heap None (call ∷ calls) e = refl

-- ---- what a caller is given

-- it is of the kind that it wants
fitted_gives : (kind : ResultKind) → IsMethodResult kind → (given : CallResult) → Gives kind (fitted kind given)
fitted_gives NewLocal m (ReferenceResult None) = Plainly NullLocal
fitted_gives NewLocal m (ReferenceResult (Some n)) = ALocal n
fitted_gives NewLocal m NoResult = Plainly NoLocal
fitted_gives NewLocal m NullResult = Plainly NoLocal
fitted_gives NewLocal m (ScalarResult v) = Plainly NoLocal
fitted_gives NewLocal m (WeakResult r) = Plainly NoLocal
fitted_gives NewLocal m (FieldResult f) = Plainly NoLocal
fitted_gives NewLocal m (MethodResult f) = Plainly NoLocal
fitted_gives NewLocal m (BufferResult b) = Plainly NoLocal
fitted_gives GivesInt m (ScalarResult (Int z)) = Plainly (AnInt z)
fitted_gives GivesInt m (ScalarResult (Word n)) = Plainly (AnInt (pos 0))
fitted_gives GivesInt m (ScalarResult (Flag b)) = Plainly (AnInt (pos 0))
fitted_gives GivesInt m (ScalarResult (Truth b)) = Plainly (AnInt (pos 0))
fitted_gives GivesInt m (ReferenceResult r) = Plainly (AnInt (pos 0))
fitted_gives GivesInt m (WeakResult r) = Plainly (AnInt (pos 0))
fitted_gives GivesInt m NoResult = Plainly (AnInt (pos 0))
fitted_gives GivesInt m NullResult = Plainly (AnInt (pos 0))
fitted_gives GivesInt m (FieldResult f) = Plainly (AnInt (pos 0))
fitted_gives GivesInt m (MethodResult f) = Plainly (AnInt (pos 0))
fitted_gives GivesInt m (BufferResult b) = Plainly (AnInt (pos 0))
fitted_gives GivesNothing m given = Plainly NoResultThere
fitted_gives NewGlobal m given = absurd m
fitted_gives NewWeak m given = absurd m
fitted_gives GivesFlag m given = absurd m
fitted_gives GivesField m given = absurd m
fitted_gives GivesMethod m given = absurd m
fitted_gives (GivesBuffer access) m given = absurd m

pub back_gives : (pending : Reference) (kind : ResultKind) → IsMethodResult kind → (given : CallResult) → Gives kind (given_back pending kind given)
back_gives None kind m given = fitted_gives kind m given
back_gives (Some n) NewLocal m given = Plainly NoLocal
back_gives (Some n) GivesInt m given = Plainly (AnInt (pos 0))
back_gives (Some n) GivesNothing m given = Plainly NoResultThere
back_gives (Some n) NewGlobal m given = absurd m
back_gives (Some n) NewWeak m given = absurd m
back_gives (Some n) GivesFlag m given = absurd m
back_gives (Some n) GivesField m given = absurd m
back_gives (Some n) GivesMethod m given = absurd m
back_gives (Some n) (GivesBuffer access) m given = absurd m

-- ---- into a caller

-- a step that leaves the thread at a point, with a caller's owners once its result is where it goes
abbrev pub LandsBack : WeakNames → Target → Owners → Statics → Advance → Type 0
LandsBack weak target own ss e = LandsBy weak (λ event. with_result target own) ss e

module _ (unit : SourceUnit) (classes : Classes) (in_use : BuffersInUse) (k : ℕ) (s : Shared) (t : Thread) (c : Caller) (callers : List Caller) {weak : WeakNames} {own : Owners} (stands : CallerStands weak s.statics own c) where
  -- the thread within its caller, its tasks aside
  abbrev within : Thread
  within = record t { callers = callers; variables = c.variables; frames = c.frames }

  local_back : (n : ℕ) (frames : List Frame) → c.frames ≡ frames → HasFrame frames → (kind : ResultKind) → kind ≡ NewLocal → ResultGoes c.target kind None (GoesOn c.tasks) stands.point
      → Lands weak (with_target c.target stands.point.regions.frames own) s.statics (put c.target (ReferenceResult (Some n)) s (record within { frames = with_local n frames; tasks = Some c.tasks }))
  local_back n [] e room kind is h = absurd room
  local_back n (frame ∷ below) e room kind is h =
      local_lands s within c.tasks frame below stands.point (subst (λ (frames : List Frame). Stands weak own s.statics c.variables frames stands.point) e stands.stands) n c.target None
      (subst (λ (kind : ResultKind). ResultGoes c.target kind None (GoesOn c.tasks) stands.point) is h)

  by_kind : (kind : ResultKind) (given : CallResult) → c.result ≡ kind → Gives kind given → LandsBack weak c.target own s.statics (put c.target given s (received kind given (resumed_in t c callers)))
  by_kind kind given is (Plainly simple) =
      let goes = subst (λ (r : ResultKind). ResultGoes c.target r None (GoesOn c.tasks) stands.point) is stands.goes in
      subst (λ (u : Thread). LandsBack weak c.target own s.statics (put c.target given s u)) (sym (received_is (resumed_in t c callers) 0 [] kind given simple))
      (put_by weak c.target (λ event. with_result c.target own) own own (λ vs. refl) (λ y e. refl) s.statics c.target given s (resumed_in t c callers)
      (result_lands unit classes in_use k s within c.tasks stands.point stands.stands c.target kind given None simple goes))
  by_kind kind given is (ALocal n) =
      put_by weak c.target (λ event. with_result c.target own) own (with_target c.target stands.point.regions.frames own) (λ vs. refl)
      (λ y e. ap (λ (b : Bool). if b then Some stands.point.regions.frames else own y) e) s.statics c.target (ReferenceResult (Some n)) s _
      (local_back n c.frames refl (has_frame c.frames (stands.room is)) c.result is stands.goes)

  -- a caller goes on from its point
  pub return_lands : (given : CallResult) → Gives c.result given → LandsBack weak c.target own s.statics (return_into s t given c callers)
  return_lands given g = by_kind c.result given refl g

-- callers have no view
pub callers_viewless : (weak : WeakNames) (ss : Statics) (owners : List Owners) (callers : List Caller) → AllZip (CallerStands weak ss) owners callers → flat_map (λ (c : Caller). objects_viewed c.variables) callers ≡ []
callers_viewless weak ss [] [] h = refl
callers_viewless weak ss [] (c ∷ callers) h = absurd h
callers_viewless weak ss (own ∷ owners) [] h = refl
callers_viewless weak ss (own ∷ owners) (c ∷ callers) h =
    flat_map-cons (λ (c : Caller). objects_viewed c.variables) c callers
    ∙ ap (λ (l : List ℕ). l ++ flat_map (λ (c : Caller). objects_viewed c.variables) callers) (no_views ss c.variables c.frames (h.0).point (h.0).stands (h.0).viewless)
    ∙ callers_viewless weak ss owners callers h.1
