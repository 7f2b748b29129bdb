-- Threads stand for those of the source whatever the heap's marking is.
use Rattle.std.specs.Prelude.{ℕ, suc, List, [], ◌∷◌, reverse, Option, Some, None}
use Rattle.class_rules.specs.Class.{Classes}
use Rattle.heap.specs.Heap.{Space}
use Rattle.heap.specs.Marks.{Marks}
use Rattle.semantics.specs.Task.{Task}
use Rattle.semantics.specs.Thread as source
use Rattle.semantics.specs.Thread.{Shared}
use Rattle.semantics.specs.World.{Invocation}
use Rattle.semantics_safety.specs.Owners.{AllOwners, Owners, ThreadOwners}
use Rattle.code_meaning.specs.Lowered.{Lowered}
use Rattle.code_meaning.specs.Slots.{Visible}
use Rattle.tables.specs.Elements.{OwnedNumbers}
use Rattle.machine_scenes.specs.declared.activation.Activation.{Activation}
use Rattle.machine_scenes.proofs.Noted.{are_viewed_noted, buffers_noted, frames_noted, keys_noted, reference_noted, values_noted}
use Rattle.machine_threads.specs.declared.thread.Entering.{Entering}
use Rattle.machine_threads.specs.declared.thread.PendingCall.{PendingCall}
use Rattle.machine_threads.specs.declared.thread.Thread.{Thread}
use Rattle.machine_threads.specs.Callers.{CallerAgrees, CallersAgree, thread_of}
use Rattle.machine_threads.specs.InProgress.{CallStands, WorkAgrees}
use Rattle.machine_threads.specs.ThreadAgrees.{CallsToComeAgree, ThreadAgrees, ThreadsAgree, buffers_of}

module _ (p : Lowered) (classes : Classes) (space : Space) (o : Option Marks) (copies : List (Option OwnedNumbers)) (made : ℕ) where
  abbrev noted : Space
  noted = record space { marking = o }

  call_noted : (owner : ℕ) (call : Activation) (visible : Visible) (frames : List source.Frame) (tasks : List Task) → CallStands p classes space copies owner call visible frames tasks → CallStands p classes noted copies owner call visible frames tasks
  call_noted owner call visible frames tasks h = record {
    code = h.code;
    of_function = h.of_function;
    known = h.known;
    stands = h.stands;
    meant = h.meant;
    holds = record {
      keys = keys_noted space o call.locals call.slots.references.items h.meant.references h.meant.owners h.holds.keys;
      fields = h.holds.fields;
      buffers = buffers_noted space o copies owner call.slots.buffers.items h.meant.buffers h.holds.buffers;
      small = h.holds.small;
    };
    shows = h.shows;
    depth = h.depth;
    frames_agree = frames_noted space o call.locals frames h.frames_agree;
  }

  work_noted : (owner : ℕ) (visible : Visible) (w : Option Activation) (frames : List source.Frame) (tasks : Option (List Task)) → WorkAgrees p classes space copies owner visible w frames tasks → WorkAgrees p classes noted copies owner visible w frames tasks
  work_noted owner visible None frames None h = h
  work_noted owner visible None frames (Some tasks) h = absurd h
  work_noted owner visible (Some call) frames None h = absurd h
  work_noted owner visible (Some call) frames (Some tasks) h = call_noted owner call visible frames tasks h

  caller_noted : (owner : ℕ) (call : Activation) (own : Owners) (shared : Shared) (c : source.Caller) → CallerAgrees p classes space copies owner call own shared c → CallerAgrees p classes noted copies owner call own shared c
  caller_noted owner call own shared c h = record {
    line = h.line;
    function = h.function;
    operands = h.operands;
    ready = h.ready;
    result = h.result;
    stands = call_noted owner call _ c.frames _ h.stands;
    views = are_viewed_noted space o call.slots.buffers.items (thread_of c) h.views;
  }

  callers_noted : (k : ℕ) (shared : Shared) (calls : List Activation) (owners : List Owners) (callers : List source.Caller) → CallersAgree p classes space copies k shared calls owners callers → CallersAgree p classes noted copies k shared calls owners callers
  callers_noted k shared [] [] [] h = h
  callers_noted k shared (call ∷ calls) (own ∷ owners) (c ∷ callers) h = (caller_noted _ call own shared c h.0, callers_noted k shared calls owners callers h.1)
  callers_noted k shared calls owners callers h = absurd h

  to_come_noted : (e : Option Entering) (nexts : List PendingCall) (calls : List Invocation) → CallsToComeAgree p classes space made e nexts calls → CallsToComeAgree p classes noted made e nexts calls
  to_come_noted None nexts calls h = h
  to_come_noted (Some e) nexts [] h = absurd h
  to_come_noted (Some e) nexts (c ∷ calls) h = (
    record {
      function = (h.0).function;
      named = (h.0).named;
      numbered = (h.0).numbered;
      of_class = (h.0).of_class;
      class_made = (h.0).class_made;
      arguments = values_noted space o e.arguments.items c.arguments (h.0).arguments;
      fit = (h.0).fit;
      few = (h.0).few;
    },
    h.1,
  )

  thread_noted : (k : ℕ) (own : ThreadOwners) (shared : Shared) (t : Thread) (s : source.Thread) → ThreadAgrees p classes space copies made k own shared t s → ThreadAgrees p classes noted copies made k own shared t s
  thread_noted k own shared t s h = record {
    calls = to_come_noted t.entering t.calls.items s.calls h.calls;
    due = h.due;
    work = work_noted _ _ t.call s.frames s.tasks h.work;
    callers = callers_noted k shared (reverse t.callers.items) own.callers s.callers h.callers;
    few = h.few;
    pending = reference_noted space o t.pending s.pending h.pending;
    ending = h.ending;
    busy = h.busy;
    caught = h.caught;
    idle = h.idle;
    views = are_viewed_noted space o (buffers_of t.call) s h.views;
  }

  pub threads_noted : (owners : AllOwners) (k : ℕ) (shared : Shared) (ts : List Thread) (ss : List source.Thread) → ThreadsAgree p classes space copies made owners k shared ts ss → ThreadsAgree p classes noted copies made owners k shared ts ss
  threads_noted owners k shared [] [] h = h
  threads_noted owners k shared [] (s ∷ ss) h = absurd h
  threads_noted owners k shared (t ∷ ts) [] h = absurd h
  threads_noted owners k shared (t ∷ ts) (s ∷ ss) h = (thread_noted k (owners k) shared t s h.0, threads_noted owners (suc k) shared ts ss h.1)
