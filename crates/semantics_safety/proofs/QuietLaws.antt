-- Calls that change no variable, no static and no reference of a frame, and give no buffer.
use Rattle.std.proofs.Common.{◌≡◌, ℕ, ◌≤◌, Bool, true, false, List, [], ◌∷◌, ◌++◌, Some, refl, sym, ap, ◌∙◌, subst, length, if◌then◌else◌, Option, None, arith}
use Rattle.base.specs.Bytes.{Identifier}
use Rattle.class_rules.specs.Class.{Classes}
use Rattle.syntax.specs.Tree.{Argument, SourceUnit}
use Rattle.jni.specs.declared.function.JniFunction.{JniFunction}
use Rattle.jni.specs.JniFunction.{prototype}
use Rattle.jni.specs.declared.kinds.ResultKind.{ResultKind}
use Rattle.jni.specs.declared.kinds.ResultKind.TheVariants.{NewLocal}
use Rattle.semantics.specs.Object.{Object}
use Rattle.semantics.specs.World.{fresh_object}
use Rattle.semantics.specs.Arguments.{Actual, address_given}
use Rattle.semantics.specs.CallEffects.{CallResult, ReferenceResult, CallEffect, Throws, Halts, Leaves, Enters, with_local, out_of_memory}
use Rattle.semantics.specs.CallStep.{put, received, tell_copy, failure, is_zero, completed, after_call, after_refusal}
use Rattle.region_rules.specs.RegionStates as states
use Rattle.region_rules.specs.RegionStates.{RegionState}
use Rattle.semantics.specs.Answer.{Answer}
use Rattle.semantics.specs.Effect.{tasks_after}
use Rattle.semantics.specs.Heap.{next_name}
use Rattle.semantics.specs.Task.{Task, Target, Declared, Assigned, Tested, Dropped}
use Rattle.semantics.specs.Thread.{Thread, Shared, BuffersInUse, Frame, Advance}
use Rattle.semantics.specs.ThreadStep.{with_tasks}
use Rattle.semantics.specs.Variable.{Variables, Statics}
use Rattle.semantics.proofs.AnswerKinds.{CallKind, EndsLocal, EndsStatic, FillsArray, PopsFrame, Quiet, ReleasesBuffer, call_kind}
use Rattle.semantics_safety.specs.Owners.{Owners, after_answer, left_by}
use Rattle.semantics_safety.specs.Points.{Point, owners}
use Rattle.semantics_safety.specs.Stands.{copies, Goes, Stands}
use Rattle.semantics_safety.specs.Wanted.{ResultGoes, GoesOn}
use Rattle.semantics_safety.specs.WeakNames.{WeakNames}
use Rattle.semantics_safety.proofs.ResultLaws.{Simple, AnInt, AFlag, AField, NoField, AMethod, NoMethod, AGlobal, NoGlobal, AWeak, NoWeak, NoLocal, NullLocal, NoResultThere, result_lands}
use Rattle.semantics_safety.proofs.FrameLaws.{references_of, same_references, same_length, HasFrame, frame_again}
use Rattle.semantics_safety.proofs.ReferenceLaws.{with_target, local_lands}
use Rattle.semantics_safety.proofs.OwnerLaws.{LandsByIfPossible, by_if_possible, ends_local, put_by}
use Rattle.semantics_safety.proofs.StepLaws.{Lands, LandsBy}

-- the region rules don't know functions of such a kind apart, but for what they fill
abbrev pub IsFreeKind : CallKind → Type 0
IsFreeKind (ReleasesBuffer access) = ⊥
IsFreeKind EndsLocal = ⊥
IsFreeKind PopsFrame = ⊥
IsFreeKind kind = Unit {0}

-- nor a function of one
abbrev pub IsFree : JniFunction → Type 0
IsFree f = IsFreeKind (call_kind f)

-- kinds of functions that give no buffer, call no method, and of which the region rules know none apart
abbrev pub IsPlain : CallKind → Type 0
IsPlain Quiet = Unit {0}
IsPlain EndsStatic = Unit {0}
IsPlain FillsArray = Unit {0}
IsPlain kind = ⊥

pub plain_free : (kind : CallKind) → IsPlain kind → IsFreeKind kind
plain_free (ReleasesBuffer access) h = h
plain_free EndsLocal h = h
plain_free PopsFrame h = h
plain_free kind h = tt

pub plain_ended : (kind : CallKind) → IsPlain kind → ends_local kind ≡ false
plain_ended EndsLocal h = absurd h
plain_ended PopsFrame h = absurd h
plain_ended kind h = refl

pub free_call : (f : JniFunction) (regions : RegionState) (args : List Argument) → IsFree f → states.after_call regions (Some (f, args)) ≡ regions
free_call f regions args h = grind (arith, h)

-- a target that isn't a test
abbrev pub IsNoTest : Target → Type 0
IsNoTest (Tested a b) = ⊥
IsNoTest target = Unit {0}

-- what a call gives of a kind: such a result, or a new local reference
pub data Gives : ResultKind → CallResult → Type 0 where
  Plainly : {kind : ResultKind} {given : CallResult} → Simple kind given → Gives kind given
  ALocal : (n : ℕ) → Gives NewLocal (ReferenceResult (Some n))

-- an effect that leaves variables, statics and the references in frames as they were
abbrev pub IsQuiet : Shared → Thread → ResultKind → CallEffect → Type 0
IsQuiet s t kind (Throws c) = Simple kind (failure kind)
IsQuiet s t kind (Halts trap) = Unit {0}
IsQuiet s t kind (Enters function arguments) = ⊥
IsQuiet s t kind (Leaves made s' t' given) = (t'.variables ≡ t.variables) × (references_of t'.frames ≡ references_of t.frames) × (s'.statics ≡ s.statics) × Gives kind given

module _ (t : Thread) (line : ℕ) (rest : List Task) where
  pub received_is : (kind : ResultKind) (given : CallResult) → Simple kind given → received kind given t ≡ t
  received_is kind given (AnInt z) = refl
  received_is kind given (AFlag b) = refl
  received_is kind given (AField f) = refl
  received_is kind given (AMethod f) = refl
  received_is kind given NoField = refl
  received_is kind given NoMethod = refl
  received_is kind given (AGlobal r) = refl
  received_is kind given NoGlobal = refl
  received_is kind given (AWeak r) = refl
  received_is kind given NoWeak = refl
  received_is kind given NoLocal = refl
  received_is kind given NullLocal = refl
  received_is kind given NoResultThere = refl

  pub told : (x : Option Identifier) (vs : Variables) (kind : ResultKind) (given : CallResult) → Simple kind given → tell_copy x given vs ≡ vs
  told None vs kind given simple = refl
  told (Some x) vs kind given (AnInt z) = refl
  told (Some x) vs kind given (AFlag b) = refl
  told (Some x) vs kind given (AField f) = refl
  told (Some x) vs kind given (AMethod f) = refl
  told (Some x) vs kind given NoField = refl
  told (Some x) vs kind given NoMethod = refl
  told (Some x) vs kind given (AGlobal r) = refl
  told (Some x) vs kind given NoGlobal = refl
  told (Some x) vs kind given (AWeak r) = refl
  told (Some x) vs kind given NoWeak = refl
  told (Some x) vs kind given NoLocal = refl
  told (Some x) vs kind given NullLocal = refl
  told (Some x) vs kind given NoResultThere = refl

  pub nothing_after : (target : Target) (zero : Bool) → IsNoTest target → tasks_after line target zero ++ rest ≡ rest
  nothing_after (Declared kind x) zero h = refl
  nothing_after (Assigned x) zero h = refl
  nothing_after (Tested a b) zero h = absurd h
  nothing_after Dropped zero h = refl

  pub resumed_is : (target : Target) (x : Option Identifier) (kind : ResultKind) (given : CallResult) → IsNoTest target → Simple kind given
      → record (received kind given t) { tasks = Some (tasks_after line target (is_zero given) ++ rest); variables = tell_copy x given t.variables } ≡ with_tasks t rest
  resumed_is target x kind given h simple =
      ap (λ (r : Thread). record r { tasks = Some (tasks_after line target (is_zero given) ++ rest); variables = tell_copy x given t.variables }) (received_is kind given simple)
      ∙ ap (λ (tasks : List Task). record t { tasks = Some tasks; variables = tell_copy x given t.variables }) (nothing_after target (is_zero given) h)
      ∙ ap (λ (vs : Variables). record t { tasks = Some rest; variables = vs }) (told x t.variables kind given simple)

  local_told : (x : Option Identifier) (n : ℕ) (vs : Variables) → tell_copy x (ReferenceResult (Some n)) vs ≡ vs
  local_told None n vs = refl
  local_told (Some x) n vs = refl

  -- the same with a local reference in the current frame
  pub resumed_local : (target : Target) (x : Option Identifier) (n : ℕ) → IsNoTest target
      → record (received NewLocal (ReferenceResult (Some n)) t) { tasks = Some (tasks_after line target (is_zero (ReferenceResult (Some n))) ++ rest); variables = tell_copy x (ReferenceResult (Some n)) t.variables }
      ≡ record t { frames = with_local n t.frames; tasks = Some rest }
  resumed_local target x n h =
      ap (λ (tasks : List Task). record t { frames = with_local n t.frames; tasks = Some tasks; variables = tell_copy x (ReferenceResult (Some n)) t.variables }) (nothing_after target false h)
      ∙ ap (λ (vs : Variables). record t { frames = with_local n t.frames; tasks = Some rest; variables = vs }) (local_told x n t.variables)

module _ (unit : SourceUnit) (classes : Classes) (in_use : BuffersInUse) (k : ℕ) (s : Shared) (t : Thread) (line : ℕ) (target : Target) (f : JniFunction) (args : List Actual) (rest : List Task) (p : Point) (own : Owners) (a : Answer) where
  -- a local reference goes into a frame that is there
  local_completed : {weak : WeakNames} {now : Owners} (shared : Shared) (t' : Thread) (n : ℕ) (get : _) (frames : List Frame) → t'.frames ≡ frames → HasFrame frames → Stands weak now shared.statics t'.variables t'.frames p → ResultGoes target NewLocal get (GoesOn rest) p
      → Lands weak (with_target target p.regions.frames now) shared.statics (put target (ReferenceResult (Some n)) shared (record t' { frames = with_local n t'.frames; tasks = Some rest }))
  local_completed {weak} {now} shared t' n get [] e room there h = absurd room
  local_completed {weak} {now} shared t' n get (frame ∷ below) e room there h =
      subst (λ (frames : List Frame). Lands weak (with_target target p.regions.frames now) shared.statics (put target (ReferenceResult (Some n)) shared (record t' { frames = with_local n frames; tasks = Some rest }))) (sym e)
      (local_lands shared t' rest frame below p (subst (λ (frames : List Frame). Stands weak now shared.statics t'.variables frames p) e there) n target get h)

  -- the same for any result
  pub given_lands : {weak : WeakNames} {now : Owners} → ((y : Identifier) → now y ≡ left_by a args (length t.frames) own y) → (kind : ResultKind) (made : List Object) (s' : Shared) (t' : Thread) (given : CallResult) (get : _) → (prototype f).result ≡ kind → IsNoTest target → (kind ≡ NewLocal → HasFrame t'.frames) → Stands weak now s'.statics t'.variables t'.frames p → Gives kind given
      → ResultGoes target kind get (GoesOn rest) p → LandsBy weak (after_answer target a args (length t.frames) own) s'.statics (completed unit classes in_use k s t line target f args rest made s' t' given)
  given_lands {weak} {now} left kind made s' t' given get is away room there (Plainly simple) h =
      let shared : Shared = record s' { heap = s'.heap ++ made } in
      put_by weak target (after_answer target a args (length t.frames) own) (left_by a args (length t.frames) own) now (λ vs. refl) (λ y other. left y) s'.statics target given shared _ (
      subst (λ (result : ResultKind). Lands weak now s'.statics (put target given shared (record (received result given t') { tasks = Some (tasks_after line target (is_zero given) ++ rest); variables = tell_copy (address_given args 1) given t'.variables }))) (sym is)
      (subst (λ (r : Thread). Lands weak now s'.statics (put target given shared r)) (sym (resumed_is t' line rest target (address_given args 1) kind given away simple))
      (result_lands unit classes in_use k shared t' rest p there target kind given get simple h)))
  given_lands {weak} {now} left kind made s' t' given get is away room there (ALocal n) h =
      let shared : Shared = record s' { heap = s'.heap ++ made } in
      put_by weak target (after_answer target a args (length t.frames) own) (left_by a args (length t.frames) own) (with_target target p.regions.frames now) (λ vs. refl)
      (λ y other. ap (λ (b : Bool). if b then Some p.regions.frames else now y) other ∙ left y) s'.statics target given shared _ (
      subst (λ (result : ResultKind). Lands weak (with_target target p.regions.frames now) s'.statics (put target (ReferenceResult (Some n)) shared (record (received result (ReferenceResult (Some n)) t') { tasks = Some (tasks_after line target false ++ rest); variables = tell_copy (address_given args 1) (ReferenceResult (Some n)) t'.variables }))) (sym is)
      (subst (λ (r : Thread). Lands weak (with_target target p.regions.frames now) s'.statics (put target (ReferenceResult (Some n)) shared r)) (sym (resumed_local t' line rest target (address_given args 1) n away))
      (local_completed shared t' n get t'.frames refl (room refl) there h)))

module _ (unit : SourceUnit) (classes : Classes) (in_use : BuffersInUse) (k : ℕ) (s : Shared) (t : Thread) (line : ℕ) (target : Target) (f : JniFunction) (args : List Actual) (rest : List Task) (p : Point) {weak : WeakNames} {own : Owners} (stands : Stands weak own s.statics t.variables t.frames p) (a : Answer) (left : (y : Identifier) → own y ≡ left_by a args (length t.frames) own y) where
  -- an effect leads to a point again
  abbrev EffectLands : Advance → Type 0
  EffectLands e = LandsBy weak (after_answer target a args (length t.frames) own) s.statics e

  -- the thread at its point, where a call has left its variables, its references and the statics as they were
  stands_again : (s' : Shared) (t' : Thread) → t'.variables ≡ t.variables → references_of t'.frames ≡ references_of t.frames → s'.statics ≡ s.statics → Stands weak own s'.statics t'.variables t'.frames p
  stands_again s' t' vs fs ss =
      subst (λ (statics : Statics). Stands weak own statics t'.variables t'.frames p) (sym ss) (subst (λ (variables : Variables). Stands weak own s.statics variables t'.frames p) (sym vs) (record {
        types = stands.types;
        kinds = stands.kinds;
        only = stands.only;
        shows = stands.shows;
        held = stands.held;
        once = stands.once;
        known_once = stands.known_once;
        depth = same_length t'.frames t.frames fs ∙ stands.depth;
        backed = λ level n. subst (λ (l : List ℕ). owners p.regions t.variables level n ≤ copies l n) (sym (same_references level t'.frames t.frames fs)) (stands.backed level n);
        owned = stands.owned;
      }))

  pub completed_lands : (made : List Object) (s' : Shared) (t' : Thread) (given : CallResult) (get : _) → IsNoTest target → t'.variables ≡ t.variables → references_of t'.frames ≡ references_of t.frames → s'.statics ≡ s.statics → Simple (prototype f).result given → ResultGoes target (prototype f).result get (GoesOn rest) p
      → LandsBy weak (after_answer target a args (length t.frames) own) s'.statics (completed unit classes in_use k s t line target f args rest made s' t' given)
  completed_lands made s' t' given get away vs fs ss simple h =
      let shared : Shared = record s' { heap = s'.heap ++ made } in
      put_by weak target (after_answer target a args (length t.frames) own) (left_by a args (length t.frames) own) own (λ vs. refl) (λ y other. left y) s'.statics target given shared _
      (subst (λ (r : Thread). Lands weak own s'.statics (put target given shared r)) (sym (resumed_is t' line rest target (address_given args 1) (prototype f).result given away simple))
      (result_lands unit classes in_use k shared t' rest p (stands_again s' t' vs fs ss) target (prototype f).result given get simple h))

  -- such a call leads to a point again
  pub quiet_lands : (get : _) (e : CallEffect) → IsNoTest target → Goes weak own s.statics t t.tasks → ((prototype f).result ≡ NewLocal → HasFrame t.frames) → IsQuiet s t (prototype f).result e → ResultGoes target (prototype f).result get (GoesOn rest) p
      → EffectLands (after_call unit classes in_use k s t line target f args rest e)
  quiet_lands get (Throws c) away whole room quiet h = completed_lands (fresh_object classes c ∷ []) s (record t { pending = Some (next_name s.heap) }) (failure (prototype f).result) get away refl refl refl quiet h
  quiet_lands get (Halts trap) away whole room quiet h = (whole, λ x r e. (r, e))
  quiet_lands get (Enters function arguments) away whole room quiet h = absurd quiet
  quiet_lands get (Leaves made s' t' given) away whole room quiet h =
      subst (λ (ss : Statics). LandsBy weak (after_answer target a args (length t.frames) own) ss (completed unit classes in_use k s t line target f args rest made s' t' given)) quiet.2
      (given_lands unit classes in_use k s t line target f args rest p own a left (prototype f).result made s' t' given get refl away (λ e. frame_again t'.frames t.frames quiet.1 (room e)) (stands_again s' t' quiet.0 quiet.1 quiet.2) quiet.3 h)

  -- and so does one whose allocation is refused, if it has one
  pub refused_lands : (get : _) (makes : Bool) → IsNoTest target → Simple (prototype f).result (failure (prototype f).result) → ResultGoes target (prototype f).result get (GoesOn rest) p
      → LandsByIfPossible weak (after_answer target a args (length t.frames) own) s.statics (after_refusal unit classes in_use k s t line target f args rest makes)
  refused_lands get true away simple h =
      by_if_possible weak _ s.statics (completed unit classes in_use k s t line target f args rest [] s (record t { pending = Some (out_of_memory classes) }) (failure (prototype f).result))
      (completed_lands [] s (record t { pending = Some (out_of_memory classes) }) (failure (prototype f).result) get away refl refl refl simple h)
  refused_lands get false away simple h = tt
