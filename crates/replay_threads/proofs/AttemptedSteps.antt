-- Steps of terms are steps of their threads, and entries of the journal.
use Rattle.std.proofs.Common.{◌≡◌, ◌≤◌, ℕ, zero, suc, Bool, true, false, List, [], ◌∷◌, length, Option, Some, None, refl, sym, ap, ◌∙◌, subst, arith}
use Rattle.std.specs.Global.{Vec}
use Rattle.std.specs.Prelude.{slice_get, slice_set}
use Rattle.class_rules.specs.Class.{Classes}
use Rattle.syntax.specs.Tree.{SourceUnit}
use Rattle.syntax.specs.Views.{unit_tree}
use Rattle.semantics.specs.State.{in_use}
use Rattle.semantics.specs.Thread.{Shared}
use Rattle.semantics.specs.Views.{name_of}
use Rattle.semantics.specs.World.{World}
use Rattle.semantics.specs.declared.event.Event.TheVariants as event
use Rattle.semantics.specs.declared.object_id.ObjectId.{ObjectId}
use Rattle.replay_arguments.specs.Shares.{shared_view}
use Rattle.replay_arguments.specs.declared.shared.Shared.{Shared as SharedInMemory}
use Rattle.replay_steps.specs.Activations.{Advances}
use Rattle.replay_arguments.specs.declared.scene.Turn.{Turn}
use Rattle.replay_steps.specs.AtOnce.{AttemptsInvocation}
use Rattle.replay_steps.specs.Attempts.{AttemptsCall}
use Rattle.replay_steps.specs.FieldCalls.{AttemptsField}
use Rattle.replay_steps.specs.Steps.{Scene, scene_with}
use Rattle.replay_steps.specs.declared.activation.Activation.{Activation}
use Rattle.replay_steps.specs.declared.attempt.Attempt.{Attempt}
use Rattle.replay_steps.specs.declared.attempt.Attempt.TheVariants as attempt
use Rattle.replay_steps.proofs.SameLists.{holding, same_list}
use Rattle.replay_tasks.specs.declared.outcome.Outcome.TheVariants as outcome
use Rattle.replay_threads.specs.declared.state.State.{State}
use Rattle.replay_threads.specs.declared.thread.Thread.{Thread}
use Rattle.replay_threads.specs.States.{AreInRange, AttemptsCallTurn, AttemptsFieldTurn, AttemptsTurn, IsLiveAt}
use Rattle.replay_threads.specs.Threads.{AttemptsCalling, AttemptsNumber, AttemptsStep, TakesStep}
use Rattle.replay_threads.proofs.StateLemmas.{takes}
use Rattle.replay_threads.proofs.ThreadLemmas.{ended_step}

module _ (s : Shared) (t : Thread) (a new : Activation) (is : t.activation ≡ Some a) where
  abbrev stepped : Thread
  stepped = record t { activation = Some new }

  -- a thread takes the step of its call in progress
  pub attempted : (r : Attempt) → AttemptsCall s a r new → AttemptsStep s t r stepped
  attempted attempt.Reduced does = λ unit classes in_use k x h live.
      ended_step unit classes in_use k false s s t a new t.pending x is h outcome.Stays (Some event.Quiet) s stepped (refl, refl, refl) (does unit classes in_use k (name_of t.pending))
  attempted attempt.Stuck does = λ unit classes in_use k x h live.
      ended_step unit classes in_use k false s s t a new t.pending x is h outcome.Impossible None s stepped (refl, refl, refl) (does unit classes in_use k (name_of t.pending))
  attempted attempt.Left same =
      ap (λ (b : Activation). let u : Thread = record t { activation = Some b } in u) same
      ∙ ap (λ (o : Option Activation). let u : Thread = record t { activation = o } in u) (sym is)

module _ (classes : Classes) (s s' : Shared) (t : Thread) (a new : Activation) (is : t.activation ≡ Some a) (none : t.pending ≡ None) where
  -- a thread reads or writes a number of an object
  pub field_attempted : (took : Bool) → AttemptsField classes s a took s' new → AttemptsNumber classes s t took s' (record t { activation = Some new })
  field_attempted true does = λ unit in_use k x h live.
      let left : Thread = record t { activation = Some new } in
      let scene : Shared → Activation → Option ObjectId → Scene = λ shared b pending. scene_with unit classes in_use k shared b.locals.variables b.locals.frames (name_of pending) in
      let step = subst (λ (pending : Option ObjectId). Advances false (scene s a pending) a.work outcome.Stays (scene s' new pending) new.work) (sym none) (does unit in_use k) in
      ended_step unit classes in_use k false s s' t a new t.pending x is h outcome.Stays (Some event.Quiet) s' left (refl, refl, refl) step
  field_attempted false same = (
    same.0,
    ap (λ (b : Activation). let u : Thread = record t { activation = Some b } in u) same.1
        ∙ ap (λ (o : Option Activation). let u : Thread = record t { activation = o } in u) (sym is),
  )

module _ (turn : Turn) (s s' : Shared) (t : Thread) (a new : Activation) (is : t.activation ≡ Some a) (pending : Option ObjectId) where
  -- a thread makes a call at once
  pub call_attempted : (took : Bool) → AttemptsInvocation turn s a t.pending took s' new pending
      → AttemptsCalling (unit_tree turn.unit.now) turn.classes.now turn.thread s t took s' (record t { activation = Some new; pending = pending })
  call_attempted true does = λ in_use x h live.
      let left : Thread = record t { activation = Some new; pending = pending } in
      ended_step (unit_tree turn.unit.now) turn.classes.now in_use turn.thread false s s' t a new pending x is h outcome.Stays (Some event.Quiet) s' left (refl, refl, refl) (does in_use)
  call_attempted false same = (
    same.0,
    ap (λ (b : Activation). let u : Thread = record t { activation = Some b; pending = pending } in u) same.1
        ∙ ap (λ (o : Option Activation). let u : Thread = record t { activation = o; pending = pending } in u) (sym is)
        ∙ ap (λ (r : Option ObjectId). let u : Thread = record t { pending = r } in u) same.2,
  )

-- a thread that is put where it was
put_back : (ts : List Thread) (i : ℕ) (t : Thread) → slice_get ts i ≡ Some t → slice_set ts i t ≡ ts
put_back [] i t at = refl
put_back (x ∷ ts) zero t at = let same : t ≡ x = cc in ap (λ (y : Thread). y ∷ ts) same
put_back (x ∷ ts) (suc i) t at = ap (λ (us : List Thread). x ∷ us) (put_back ts i t at)

module _ (m : State) (k place : ℕ) (t after : Thread) (range : AreInRange m.threads.items) (at : slice_get m.threads.items place ≡ Some t) (here : IsLiveAt m k place)
    (ok : (m.threads.len ≡ length (slice_set m.threads.items place after)) × (m.threads.len ≤ m.threads.cap)) where
  abbrev new_state : State
  new_state = record m { threads = holding m.threads (slice_set m.threads.items place after) ok }

  -- an entry is the step of its thread
  pub turn_attempted : (r : Attempt) → AttemptsStep (shared_view m.shared) t r after → AttemptsTurn m k r new_state
  turn_attempted attempt.Reduced does = λ unit w s h.
      takes unit w m s h range k false place t after (Some event.Quiet) new_state (omega (arith, here.counted)) at (here.live t at) here.runs (sym (here.free unit w s h range)) (does unit w.classes (in_use s) k) refl refl refl refl
  turn_attempted attempt.Stuck does = λ unit w s h.
      takes unit w m s h range k false place t after None new_state (omega (arith, here.counted)) at (here.live t at) here.runs (sym (here.free unit w s h range)) (does unit w.classes (in_use s) k) refl refl refl refl
  turn_attempted attempt.Left same =
      ap (λ (v : Vec Thread). let n : State = record m { threads = v } in n)
      (same_list m.threads (slice_set m.threads.items place after) ok (ap (slice_set m.threads.items place) same ∙ put_back m.threads.items place t at))

-- what threads share in memory is what they see of it
same_shared : (x y : SharedInMemory) → shared_view x ≡ shared_view y → x ≡ y
same_shared x y same = ap (λ (s : Shared). let z : SharedInMemory = record { store = s.heap; statics = s.statics; globals = s.globals; monitors = s.monitors } in z) same

module _ (m : State) (k place : ℕ) (t after : Thread) (shared : SharedInMemory) (range : AreInRange m.threads.items) (at : slice_get m.threads.items place ≡ Some t) (here : IsLiveAt m k place)
    (ok : (m.threads.len ≡ length (slice_set m.threads.items place after)) × (m.threads.len ≤ m.threads.cap)) (classes : Classes) (known : classes ≡ m.world.now.classes) where
  abbrev left_state : State
  left_state = record m { shared = shared; threads = holding m.threads (slice_set m.threads.items place after) ok }

  -- an entry is the step of its thread
  pub field_turn_attempted : (took : Bool) → AttemptsNumber classes (shared_view m.shared) t took (shared_view shared) after → AttemptsFieldTurn m k took left_state
  field_turn_attempted true does = λ unit w s h.
      let step = subst (λ (T : Classes). TakesStep unit T (in_use s) k false (shared_view m.shared) t (Some event.Quiet) (shared_view shared) after) (known ∙ ap (λ (v : World). v.classes) (sym h.world)) (does unit (in_use s) k) in
      takes unit w m s h range k false place t after (Some event.Quiet) left_state (omega (arith, here.counted)) at (here.live t at) here.runs (sym (here.free unit w s h range)) step refl refl refl refl
  field_turn_attempted false same =
      ap (λ (x : SharedInMemory). let n : State = record m { shared = x; threads = holding m.threads (slice_set m.threads.items place after) ok } in n) (same_shared shared m.shared same.0)
      ∙ ap (λ (v : Vec Thread). let n : State = record m { threads = v } in n)
      (same_list m.threads (slice_set m.threads.items place after) ok (ap (slice_set m.threads.items place) same.1 ∙ put_back m.threads.items place t at))

  -- the same of a call that is made at once
  pub call_turn_attempted : (unit : SourceUnit) (took : Bool) → AttemptsCalling unit classes k (shared_view m.shared) t took (shared_view shared) after → AttemptsCallTurn unit m k took left_state
  call_turn_attempted unit true does = λ w s h.
      let step = subst (λ (T : Classes). TakesStep unit T (in_use s) k false (shared_view m.shared) t (Some event.Quiet) (shared_view shared) after) (known ∙ ap (λ (v : World). v.classes) (sym h.world)) (does (in_use s)) in
      takes unit w m s h range k false place t after (Some event.Quiet) left_state (omega (arith, here.counted)) at (here.live t at) here.runs (sym (here.free unit w s h range)) step refl refl refl refl
  call_turn_attempted unit false same =
      ap (λ (x : SharedInMemory). let n : State = record m { shared = x; threads = holding m.threads (slice_set m.threads.items place after) ok } in n) (same_shared shared m.shared same.0)
      ∙ ap (λ (v : Vec Thread). let n : State = record m { threads = v } in n)
      (same_list m.threads (slice_set m.threads.items place after) ok (ap (slice_set m.threads.items place) same.1 ∙ put_back m.threads.items place t at))

-- what reads or writes a number of an object gives something at once
pub number_is_call : (unit : SourceUnit) (m : State) (k : ℕ) (took : Bool) (new : State) → AttemptsFieldTurn m k took new → AttemptsCallTurn unit m k took new
number_is_call unit m k true new does = does unit
number_is_call unit m k false new same = same
