-- What a step leaves as it was for other calls: those of other threads, and the callers of its own.
use Rattle.std.proofs.Common.{◌≢◌, ℕ, ◌<◌, ◌≤◌, List, [], ◌∷◌, length, Option, Some, None, sym, subst, arith}
use Rattle.std.specs.List.{AllZip}
use Rattle.class_rules.specs.Class.{Classes}
use Rattle.heap.specs.Heap.{Space}
use Rattle.semantics.specs.Task.{Task, Invoke}
use Rattle.semantics.specs.Thread as source
use Rattle.semantics.specs.Thread.{Shared, objects_viewed}
use Rattle.semantics.specs.Variable as variable
use Rattle.code_meaning.specs.Lowered.{Lowered}
use Rattle.code_meaning.specs.Slots.{visible_to}
use Rattle.tables.specs.Elements.{OwnedNumbers, owned}
use Rattle.machine_scenes.specs.declared.activation.Activation.{Activation}
use Rattle.machine_scenes.specs.declared.buffer.Buffer.{Buffer}
use Rattle.semantics_safety.specs.Owners.{Owners}
use Rattle.machine_scenes.specs.Buffers as in_slot
use Rattle.machine_scenes.specs.Buffers.{AreViewed, BufferAgrees, KeepsCopies}
use Rattle.machine_scenes.specs.HeapAgrees.{times}
use Rattle.machine_scenes.specs.StoreAgrees.{Keeps}
use Rattle.machine_threads.specs.Callers.{CallerAgrees, CallersAgree, owner_at, thread_of}
use Rattle.machine_threads.specs.InProgress.{CallStands, WorkAgrees}
use Rattle.machine_threads.specs.SlotsHold.{slots_of}
use Rattle.machine_threads.proofs.SameViews.{viewed_same}
use Rattle.machine_scenes.proofs.Keeping.{keys_stay, frames_stay}
use Rattle.machine_steps.proofs.StillShown.{shows_stay}

module _ (p : Lowered) (classes : Classes) (owner : ℕ) (space space' : Space) (copies copies' : List (Option OwnedNumbers)) (shared shared' : Shared) (keeps : Keeps space shared space' shared') (keeps_copies : KeepsCopies owner copies copies') where
  -- ---- buffers of another call

  buffer_stays : {j : ℕ} {h : Buffer} {b : variable.Buffer} → j ≢ owner → BufferAgrees space copies j h b → BufferAgrees space' copies' j h b
  buffer_stays other in_slot.null = in_slot.null
  buffer_stays {j = j} other (in_slot.copy {key = key} {zs = zs} found) = in_slot.copy (keeps_copies key (owned j zs) found other)
  buffer_stays other (in_slot.view {a = a} {n = n} named) = in_slot.view (keeps.names a n named)

  pub slots_stay : (j : ℕ) (slots : List Buffer) (buffers : List variable.Buffer) → j ≢ owner → AllZip (BufferAgrees space copies j) slots buffers → AllZip (BufferAgrees space' copies' j) slots buffers
  slots_stay j [] [] other e = e
  slots_stay j [] (b ∷ buffers) other e = absurd e
  slots_stay j (h ∷ slots) [] other e = absurd e
  slots_stay j (h ∷ slots) (b ∷ buffers) other e = (buffer_stays other e.0, slots_stay j slots buffers other e.1)

  -- those that slots view are the same
  pub views_stay : (j : ℕ) (slots : List Buffer) (buffers : List variable.Buffer) (s : source.Thread) → j ≢ owner → AllZip (BufferAgrees space copies j) slots buffers → AreViewed space slots s → AreViewed space' slots s
  views_stay j slots buffers s other agree views =
      subst (λ (l : List ℕ). (n : ℕ) → times n l ≤ times n (objects_viewed s.variables)) (sym (viewed_same space space' copies copies' j slots buffers agree (slots_stay j slots buffers other agree))) views

  -- ---- another call

  call_stays : (j : ℕ) (own : Owners) (call : Activation) (s : source.Thread) (frames : List source.Frame) (tasks : List Task) → j ≢ owner → CallStands p classes space copies j call (visible_to own shared s) frames tasks → CallStands p classes space' copies' j call (visible_to own shared' s) frames tasks
  call_stays j own call s frames tasks other h = record {
    code = h.code;
    of_function = h.of_function;
    known = h.known;
    stands = h.stands;
    meant = h.meant;
    holds = record {
      keys = keys_stay space space' keeps.names call.locals call.slots.references.items h.meant.references h.meant.owners h.holds.keys;
      fields = h.holds.fields;
      buffers = record { agree = slots_stay j call.slots.buffers.items h.meant.buffers other h.holds.buffers.agree; apart = h.holds.buffers.apart };
      small = h.holds.small;
    };
    shows = shows_stay own shared shared' keeps.statics s h.code h.known (slots_of call h.meant) h.shows;
    depth = h.depth;
    frames_agree = frames_stay space space' keeps.names call.locals frames h.frames_agree;
  }

  -- a call from which another was made
  pub caller_stays : (j : ℕ) (own : Owners) (call : Activation) (c : source.Caller) → j ≢ owner → CallerAgrees p classes space copies j call own shared c → CallerAgrees p classes space' copies' j call own shared' c
  caller_stays j own call c other h = record {
    line = h.line;
    function = h.function;
    operands = h.operands;
    ready = h.ready;
    result = h.result;
    stands = call_stays j own call (thread_of c) c.frames (Invoke h.line c.target h.function h.operands ∷ c.tasks) other h.stands;
    views = views_stay j call.slots.buffers.items h.stands.meant.buffers (thread_of c) other h.stands.holds.buffers.agree h.views;
  }

  pub work_stays : (j : ℕ) (own : Owners) (s : source.Thread) (o : Option Activation) (frames : List source.Frame) (tasks : Option (List Task)) → j ≢ owner → WorkAgrees p classes space copies j (visible_to own shared s) o frames tasks → WorkAgrees p classes space' copies' j (visible_to own shared' s) o frames tasks
  work_stays j own s None frames None other h = h
  work_stays j own s None frames (Some tasks) other h = absurd h
  work_stays j own s (Some call) frames None other h = absurd h
  work_stays j own s (Some call) frames (Some tasks) other h = call_stays j own call s frames tasks other h

  -- the callers of a thread none of which has this owner
  pub callers_stay : (k : ℕ) (calls : List Activation) (owners : List Owners) (callers : List source.Caller) → ((below : ℕ) → below < length callers → owner_at k below ≢ owner)
      → CallersAgree p classes space copies k shared calls owners callers → CallersAgree p classes space' copies' k shared' calls owners callers
  callers_stay k [] [] [] others h = h
  callers_stay k (call ∷ calls) (own ∷ owners) (c ∷ callers) others h = (
    caller_stays (owner_at k (length callers)) own call c (others (length callers) (omega arith)) h.0,
    callers_stay k calls owners callers (λ below less. others below (omega (arith, less))) h.1,
  )
  callers_stay k calls owners callers others h = absurd h

-- those below a call of the same thread
pub others_below : (k below depth : ℕ) → below < depth → owner_at k below ≢ owner_at k depth
others_below k below depth less e = omega (arith, less, e)

-- those of another thread, as there are 8 at most
pub others_elsewhere : (j k below depth : ℕ) → 0 < j → j ≤ 8 → 0 < k → k ≤ 8 → j ≢ k → owner_at j below ≢ owner_at k depth
others_elsewhere j k below depth low few low' few' other e = other (omega (arith, low, few, low', few', e))
