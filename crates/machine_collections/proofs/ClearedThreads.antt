-- Threads stand for those of the source still, once weak references are cleared there.
use Rattle.std.proofs.Common.{ℕ, suc, List, [], ◌∷◌, length, reverse, Option, Some, None}
use Rattle.class_rules.specs.Class.{Classes}
use Rattle.heap.specs.Heap.{Space}
use Rattle.semantics.specs.Task.{Task, Invoke}
use Rattle.semantics.specs.Thread as source
use Rattle.semantics.specs.Thread.{Shared}
use Rattle.semantics.specs.WeakReferences.{cleared_statics}
use Rattle.semantics_safety.specs.Owners.{Owners, ThreadOwners, AllOwners}
use Rattle.code_meaning.specs.Lowered.{Lowered}
use Rattle.code_meaning.specs.Slots.{visible_to}
use Rattle.tables.specs.Elements.{OwnedNumbers}
use Rattle.machine_scenes.specs.declared.activation.Activation.{Activation}
use Rattle.machine_threads.specs.declared.thread.Thread.{Thread}
use Rattle.machine_threads.specs.Callers.{CallerAgrees, CallersAgree, owner_at, thread_of}
use Rattle.machine_threads.specs.InProgress.{CallStands, WorkAgrees}
use Rattle.machine_threads.specs.SlotsHold.{slots_of}
use Rattle.machine_threads.specs.ThreadAgrees.{ThreadAgrees, ThreadsAgree}
use Rattle.machine_collections.proofs.ClearedStatics.{after, shows_cleared}

module _ (p : Lowered) (classes : Classes) (space : Space) (copies : List (Option OwnedNumbers)) (names : List ℕ) (shared : Shared) where
  call_cleared : (j : ℕ) (own : Owners) (call : Activation) (s : source.Thread) (frames : List source.Frame) (tasks : List Task) → CallStands p classes space copies j call (visible_to own shared s) frames tasks → CallStands p classes space copies j call (visible_to own (after own names shared s) s) frames tasks
  call_cleared j own call s frames tasks h = record {
    code = h.code;
    of_function = h.of_function;
    known = h.known;
    stands = h.stands;
    meant = h.meant;
    holds = h.holds;
    shows = shows_cleared own names shared s h.code h.known (slots_of call h.meant) h.shows;
    depth = h.depth;
    frames_agree = h.frames_agree;
  }

  -- the same of a call from which another was made
  pub caller_cleared : (j : ℕ) (own : Owners) (call : Activation) (c : source.Caller) → CallerAgrees p classes space copies j call own shared c → CallerAgrees p classes space copies j call own (after own names shared (thread_of c)) c
  caller_cleared j own call c h = record {
    line = h.line;
    function = h.function;
    operands = h.operands;
    ready = h.ready;
    result = h.result;
    stands = call_cleared j own call (thread_of c) c.frames (Invoke h.line c.target h.function h.operands ∷ c.tasks) h.stands;
    views = h.views;
  }

  callers_cleared : (k : ℕ) (calls : List Activation) (owners : List Owners) (callers : List source.Caller) → CallersAgree p classes space copies k shared calls owners callers
      → CallersAgree p classes space copies k (record shared { statics = cleared_statics names shared.statics }) calls owners callers
  callers_cleared k [] [] [] h = h
  callers_cleared k (call ∷ calls) (own ∷ owners) (c ∷ callers) h = (caller_cleared (owner_at k (length callers)) own call c h.0, callers_cleared k calls owners callers h.1)
  callers_cleared k calls owners callers h = absurd h

  work_cleared : (j : ℕ) (own : Owners) (s : source.Thread) (o : Option Activation) (frames : List source.Frame) (tasks : Option (List Task)) → WorkAgrees p classes space copies j (visible_to own shared s) o frames tasks → WorkAgrees p classes space copies j (visible_to own (after own names shared s) s) o frames tasks
  work_cleared j own s None frames None h = h
  work_cleared j own s None frames (Some tasks) h = absurd h
  work_cleared j own s (Some call) frames None h = absurd h
  work_cleared j own s (Some call) frames (Some tasks) h = call_cleared j own call s frames tasks h

  thread_cleared : (made j : ℕ) (own : ThreadOwners) (t : Thread) (s : source.Thread) → ThreadAgrees p classes space copies made j own shared t s → ThreadAgrees p classes space copies made j own (record shared { statics = cleared_statics names shared.statics }) t s
  thread_cleared made j own t s h = record {
    calls = h.calls;
    due = h.due;
    work = work_cleared (owner_at j (length s.callers)) own.current s t.call s.frames s.tasks h.work;
    callers = callers_cleared j (reverse t.callers.items) own.callers s.callers h.callers;
    few = h.few;
    pending = h.pending;
    ending = h.ending;
    busy = h.busy;
    caught = h.caught;
    idle = h.idle;
    views = h.views;
  }

  pub threads_cleared : (made : ℕ) (owners : AllOwners) (n : ℕ) (ts : List Thread) (ss : List source.Thread) → ThreadsAgree p classes space copies made owners n shared ts ss
      → ThreadsAgree p classes space copies made owners n (record shared { statics = cleared_statics names shared.statics }) ts ss
  threads_cleared made owners n [] [] h = h
  threads_cleared made owners n [] (s ∷ ss) h = absurd h
  threads_cleared made owners n (t ∷ ts) [] h = absurd h
  threads_cleared made owners n (t ∷ ts) (s ∷ ss) h = (thread_cleared made n (owners n) t s h.0, threads_cleared made owners (suc n) ts ss h.1)
