-- A step that is asked for again after a collection takes no host memory either: a clearing changes none that makes objects.
use Rattle.std.proofs.Common.{◌≡◌, ◌≢◌, ◌++◌, ℕ, zero, suc, ◌+◌, ◌<◌, false, true, List, [], ◌∷◌, set, Some, refl, sym, ap, ◌∙◌, subst, arith, None}
use Rattle.std.specs.Prelude.{slice_get, slice_index_or}
use Rattle.std.proofs.lemmas.Option.{get_or_from_slice_get}
use Rattle.syntax.specs.Views.{unit_tree}
use Rattle.code_meaning.specs.Lowered.{Lowered}
use Rattle.semantics.specs.Object.{sizes}
use Rattle.semantics.specs.Run.{made}
use Rattle.semantics.specs.State.{State, thread_at}
use Rattle.semantics.specs.Step.{is_blocked}
use Rattle.semantics.specs.Task.{Task}
use Rattle.semantics.specs.ThreadStep.{thread_step, waits}
use Rattle.semantics.specs.WeakArguments.{WeakAreTaken}
use Rattle.semantics.specs.WeakReferences.{with_cleared}
use Rattle.semantics.proofs.ClearedMade.{made_stays, waits_stays}
use Rattle.semantics.specs.Thread.{Shared}
use Rattle.semantics.specs.World.{World, loaded_objects}
use Rattle.semantics_safety.specs.Owners.{ThreadOwners, owners_after}
use Rattle.machine_scenes.specs.declared.store.Store.{Store}
use Rattle.machine_scenes.specs.Buffers.{Acquired, acquired_by, beside}
use Rattle.machine_scenes.specs.StoreAgrees.{StoreAgrees}
use Rattle.machine_steps.specs.declared.fault.StepFault.{StepFault}
use Rattle.machine_steps.specs.declared.fault.StepFault.TheVariants.{Memory, NoRoom}
use Rattle.semantics.specs.declared.event.Ending.TheVariants.{Unfinished}
use Rattle.machine_threads.specs.Callers.{beside_callers}
use Rattle.machine_threads.specs.declared.thread.Thread.{Thread}
use Rattle.machine_steps.specs.Executes.{IsHindered, IsSteady, cells_made, in_use_with}
use Rattle.heap.specs.Heap.{left_of}
use Rattle.machine_collections.specs.Clearing.{AreCleared, clearing_of}
use Rattle.machine_collections.specs.Moving.{AreCollected, moved_thread}
use Rattle.machine.specs.Run.{CanAdvance, Corresponds, LacksRoom}
use Rattle.machine.proofs.Collected.{stands_after, state_after}
use Rattle.machine.proofs.OwnerSteps.{Found}
use Rattle.machine.proofs.Steps.{made_is, no_room_yet, shared_agrees, steady, the_thread, waits_here}
use Rattle.machine.proofs.TakenBuffers.{others}
use Rattle.std.proofs.Common.{length}
use Rattle.base.proofs.Lists.{get_map}

-- nothing changes where what is there is put
set_there : (ts : List Thread) (i : ℕ) (t : Thread) → slice_get ts i ≡ Some t → set ts i t ≡ ts
set_there [] i t at = absurd (cc)
set_there (x ∷ ts) zero t at = let same : x ≡ t = cc in ap (λ (y : Thread). y ∷ ts) (sym same)
set_there (x ∷ ts) (suc i) t at = ap (λ (l : List Thread). x ∷ l) (set_there ts i t at)

-- thread k is at its place
pub numbered : (k index : ℕ) → k ≡ index + 1 → suc index ≡ k
numbered k index h = omega (arith, h)

-- what has no room takes more cells than are left
pub lacks_room : (left cells : ℕ) (fault : StepFault) → fault ≡ NoRoom → IsHindered left cells false fault → left < cells
lacks_room left cells Memory is h = absurd (cc (is))
lacks_room left cells NoRoom is h = h.1

-- and may be refused
pub no_fault : (left cells : ℕ) (fault : StepFault) → 0 < cells → IsHindered left cells true fault → ⊥
no_fault left cells NoRoom some h = absurd (cc (h.0))
no_fault left cells Memory some h = omega (arith, some, h)

module _ (p : Lowered) (w : World) (store : Store) (ts : List Thread) (index : ℕ) (s : CanAdvance p w store ts index) (d : Thread) where
  -- the thread that is read at its place
  pub there : slice_get ts index ≡ Some (slice_index_or ts index d)
  there = s.at ∙ ap (λ (t : Thread). Some t) (sym (get_or_from_slice_get ts index s.thread d s.at))

  pub lives_there : (slice_index_or ts index d).ending ≡ Unfinished
  lives_there = ap (λ (t : Thread). t.ending) (get_or_from_slice_get ts index s.thread d s.at) ∙ s.lives

  pub put_there : (new : Thread) → new ≡ slice_index_or ts index d → set ts index new ≡ ts
  put_there new same = ap (λ (t : Thread). set ts index t) same ∙ set_there ts index (slice_index_or ts index d) there

  -- where an advance changed nothing, it can advance yet
  pub can_there : (mid : Store) (new : Thread) → mid ≡ store → new ≡ slice_index_or ts index d → CanAdvance p w mid (set ts index new) index
  can_there mid new same thread =
      subst (λ (y : Store). CanAdvance p w y (set ts index new) index) (sym same) (subst (λ (l : List Thread). CanAdvance p w store l index) (sym (put_there new thread)) s)

  -- and has no more room
  pub lacks_there : (k : ℕ) (mid : Store) (new t : Thread) → mid ≡ store → new ≡ slice_index_or ts index d → slice_get (set ts index new) index ≡ Some t → LacksRoom p w k store (slice_index_or ts index d) → LacksRoom p w k mid t
  lacks_there k mid new t same thread at h =
      let is : slice_index_or ts index d ≡ t = let both : Some (slice_index_or ts index d) ≡ Some t = sym there ∙ ap (λ (l : List Thread). slice_get l index) (sym (put_there new thread)) ∙ at in cc in
      subst (λ (y : Store). LacksRoom p w k y t) (sym same) (subst (λ (y : Thread). LacksRoom p w k store y) is h)

  abbrev pub own : ThreadOwners
  own = owners_after (unit_tree p.unit) w s.journal (suc index)

  abbrev pub shared : Shared
  shared = s.stands.state.shared

  pub found : Found p w.classes store.heap store.elements (length (loaded_objects w)) shared (suc index) own (slice_index_or ts index d) s.stands.state.threads index
  found = the_thread p w store ts s.printed s.stop s.journal s.stands (suc index) index (slice_index_or ts index d) refl there

  pub is_steady : IsSteady (unit_tree p.unit) w.classes own.current shared found.source
  unfolding found
  is_steady = steady p w store ts s.printed s.stop s.journal s.stands (suc index) index (slice_index_or ts index d) refl there

  -- and it doesn't wait
  pub is_ready : waits w.classes (suc index) shared found.source ≡ false
  unfolding found
  is_ready = sym (waits_here p w store ts s.printed s.stop s.journal s.stands (suc index) index (slice_index_or ts index d) refl there) ∙ s.ready

  -- what the buffers of the other threads take
  abbrev pub rest : Acquired
  rest = others s.stands.state.threads index

  pub shared_there : StoreAgrees p w store shared (beside (beside_callers rest found.source) (acquired_by found.source))
  unfolding found
  shared_there = shared_agrees p w store ts s.printed s.stop s.journal s.stands (suc index) index (slice_index_or ts index d) refl there

  -- a collection, which clears the weak references to these objects, where what the step makes had no room
  module _ (lacks : (t : Thread) → slice_get ts index ≡ Some t → LacksRoom p w (suc index) store t) (after : Store) (later : List Thread) (names : List ℕ) (h : AreCollected store ts after later) (cl : AreCleared store.heap store.statics.items store.weaks after.weaks names) (unmarked : after.heap.marking ≡ None) where
    abbrev pub before : State
    before = s.stands.state

    -- the machine after it
    abbrev pub now : Corresponds p w after later s.printed s.stop (s.journal ++ clearing_of names)
    now = stands_after p w store ts s.printed s.stop s.journal s.stands after later names h cl unmarked

    pub state_now : now.state ≡ with_cleared names before
    state_now = state_after p w store ts s.printed s.stop s.journal s.stands after later names h cl unmarked

    -- the source's thread, which names no weak reference but where it makes no object
    pub there_before : thread_at before (suc index) ≡ Some found.source
    unfolding found
    there_before = found.is

    pub weak_before : (task : Task) (rest : List Task) → (found.source).tasks ≡ Some (task ∷ rest) → WeakAreTaken (found.source).variables before.shared.statics task
    weak_before = (s.stands.safe s.journal before (suc index) found.source s.stands.replays there_before).weak

    -- its step makes objects
    no_room : left_of store.heap < sizes (made (unit_tree p.unit) w before (suc index))
    no_room = no_room_yet p w store ts s.printed s.stop s.journal s.stands (suc index) index s.thread refl s.at s.goes s.lives s.ready (lacks s.thread s.at)

    pub makes_some : made (unit_tree p.unit) w before (suc index) ≢ []
    makes_some none = let size : sizes (made (unit_tree p.unit) w before (suc index)) ≡ 0 = ap sizes none in omega (arith, no_room, size)

    -- so it can be taken yet, and makes the same
    pub moved_at : slice_get later index ≡ Some (moved_thread h.to s.thread)
    moved_at = ap (λ (l : List Thread). slice_get l index) h.follow ∙ get_map (moved_thread h.to) ts index s.thread s.at

    unfoldable pub can_still : CanAdvance p w after later index
    can_still = record {
      printed = s.printed;
      stop = s.stop;
      journal = s.journal ++ clearing_of names;
      stands = now;
      goes = s.goes;
      thread = moved_thread h.to s.thread;
      at = moved_at;
      lives = s.lives;
      ready =
          ap (λ (x : State). is_blocked w.classes x (suc index)) state_now
          ∙ waits_stays (unit_tree p.unit) w before (suc index) found.source names there_before weak_before makes_some
          ∙ s.ready;
    }

    pub makes_still : 0 < sizes (made (unit_tree p.unit) w now.state (suc index))
    makes_still =
        let same : sizes (made (unit_tree p.unit) w now.state (suc index)) ≡ sizes (made (unit_tree p.unit) w before (suc index)) =
        ap (λ (x : State). sizes (made (unit_tree p.unit) w x (suc index))) state_now ∙ ap sizes (made_stays (unit_tree p.unit) w before (suc index) found.source names there_before weak_before makes_some) in
        omega (arith, no_room, same)

-- a step that makes objects and may be refused isn't hindered by want of host memory
pub unhindered : (p : Lowered) (w : World) (store : Store) (ts : List Thread) (index : ℕ) (s : CanAdvance p w store ts index) (d : Thread) (k : ℕ) → suc index ≡ k → (left : ℕ) (fault : StepFault) → 0 < sizes (made (unit_tree p.unit) w s.stands.state (suc index))
    → IsHindered left (cells_made (shared p w store ts index s d) (thread_step (unit_tree p.unit) w.classes (in_use_with (beside_callers (rest p w store ts index s d) (found p w store ts index s d).source) (found p w store ts index s d).source) k (shared p w store ts index s d) (found p w store ts index s d).source false)) true fault → ⊥
unfolding found
unhindered p w store ts index s d k number left fault some h =
    let cells = made_is p w store ts s.printed s.stop s.journal s.stands (suc index) index (slice_index_or ts index d) refl (there p w store ts index s d) s.goes (lives_there p w store ts index s d) s.ready in
    let here = ap (λ (n : ℕ). cells_made (shared p w store ts index s d) (thread_step (unit_tree p.unit) w.classes (in_use_with (beside_callers (rest p w store ts index s d) (found p w store ts index s d).source) (found p w store ts index s d).source) n (shared p w store ts index s d) (found p w store ts index s d).source false)) number in
    no_fault _ _ fault (omega (arith, some, cells, here)) h
