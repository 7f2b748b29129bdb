-- Threads stand for those of the source still, once a collection has moved what they refer to and has cleared what is lost there.
use Rattle.std.proofs.Common.{◌≡◌, ℕ, zero, suc, ◌+◌, ◌<◌, ◌≤◌, List, [], ◌∷◌, length, map, take, drop, Option, Some, None, sym, ap, ◌∙◌, subst, arith, refl}
use Rattle.std.specs.Prelude.{flat_map, slice_get, reverse}
use Rattle.std.specs.Option.{option_map}
use Rattle.std.specs.List.{AllZip}
use Rattle.std.proofs.lemmas.List.{length-map, with_items_is}
use Rattle.class_rules.specs.Class.{Classes}
use Rattle.std.proofs.lemmas.List.Concat.{flat_map-cons}
use Rattle.heap.specs.declared.value.Value.{Value}
use Rattle.heap.specs.Heap.{Space, name_at, pins_at}
use Rattle.semantics.specs.Task.{Task, Invoke}
use Rattle.semantics.specs.Thread as source
use Rattle.semantics.specs.Thread.{Shared, objects_viewed, viewed_by}
use Rattle.semantics.specs.Variable as variable
use Rattle.semantics.specs.World.{Invocation}
use Rattle.code_meaning.specs.Lowered.{Lowered}
use Rattle.code_meaning.specs.Slots.{Visible, visible_to}
use Rattle.semantics_safety.specs.Owners.{Owners, AllOwners}
use Rattle.tables.specs.Locals.{Frame, slots_by_frame}
use Rattle.tables.specs.References.{references_in}
use Rattle.machine_scenes.specs.declared.activation.Activation.{Activation}
use Rattle.machine_scenes.specs.declared.buffer.Buffer.{Buffer}
use Rattle.machine_scenes.specs.declared.buffer.Buffer.TheVariants as buffer
use Rattle.machine_scenes.specs.declared.store.Store.{Store}
use Rattle.machine_scenes.specs.Buffers.{AreViewed, BufferAgrees, viewed_in}
use Rattle.machine_scenes.specs.HeapAgrees.{ValuesAgree, times}
use Rattle.machine_scenes.proofs.HeldSums.{times_append}
use Rattle.machine_threads.specs.declared.thread.Entering.{Entering}
use Rattle.machine_threads.specs.declared.thread.PendingCall.{PendingCall}
use Rattle.machine_threads.specs.declared.thread.Thread.{Thread}
use Rattle.machine_threads.specs.Callers.{CallerAgrees, CallersAgree, owner_at, seen_by, thread_of}
use Rattle.machine_threads.specs.InProgress.{CallStands, WorkAgrees}
use Rattle.machine_threads.specs.ThreadAgrees.{CallsToComeAgree, ThreadsAgree, buffers_of}
use Rattle.machine_threads.proofs.Reversed.{all_reversed, map_reversed}
use Rattle.machine_threads.proofs.SameViews.{viewed_same}
use Rattle.compact.specs.Same.{MovesBy, moved_value}
use Rattle.machine_collections.specs.Roots.{argument_places}
use Rattle.machine_collections.specs.Moving.{moved_call, moved_entering, moved_thread}
use Rattle.machine_collections.proofs.Collections.{FramesKept, buffers_moved, keys_moved, locals_moved, reference_moved, values_moved}
use Rattle.machine_collections.proofs.GivenArguments.{due_moved, values_kept}
use Rattle.machine_collections.proofs.HeldViews.{AgreeInSlots, slots_agree, view_at}
use Rattle.machine_collections.proofs.KeptReferences.{AreKept, CallIsKept, CallersAreKept, ThreadsAreKept}
use Rattle.machine_collections.proofs.ReachableNames.{in_times}

-- ---- what is kept, frame by frame

module _ (Kept : ℕ → Type 0) where
  kept_drop : (n : ℕ) (slots : List (Option ℕ)) → AreKept Kept (references_in slots) → AreKept Kept (references_in (drop n slots))
  kept_drop zero slots h = h
  kept_drop (suc n) [] h = h
  kept_drop (suc n) (None ∷ slots) h = kept_drop n slots h
  kept_drop (suc n) (Some a ∷ slots) h = kept_drop n slots h.1

  kept_take : (n : ℕ) (slots : List (Option ℕ)) → AreKept Kept (references_in slots) → AreKept Kept (references_in (take n slots))
  kept_take zero slots h = tt
  kept_take (suc n) [] h = h
  kept_take (suc n) (None ∷ slots) h = kept_take n slots h
  kept_take (suc n) (Some a ∷ slots) h = (h.0, kept_take n slots h.1)

-- ---- the threads

module _ (Kept : ℕ → Type 0) (to : ℕ → ℕ) (p : Lowered) (store : Store) (t : Space) (m : MovesBy Kept to store.heap t) where
  frames_kept : (fs : List Frame) (slots : List (Option ℕ)) → AreKept Kept (references_in slots) → FramesKept Kept to store.heap t m (slots_by_frame fs slots)
  frames_kept [] slots h = tt
  frames_kept (f ∷ below) slots h = (kept_drop Kept f.first slots h, frames_kept below (take f.first slots) (kept_take Kept f.first slots h))

  -- what views in slots are of is kept, and pinned
  abbrev ArePinned : List Buffer → Type 0
  ArePinned slots = (i a : ℕ) → slice_get slots i ≡ Some (buffer.View a) → Kept a × (0 < pins_at store.heap a)

  call_moved : (classes : Classes) (k : ℕ) (call : Activation) (visible : Visible) (frames : List source.Frame) (tasks : List Task) → AreKept Kept (references_in call.locals.slots) → ArePinned call.slots.buffers.items → CallStands p classes store.heap store.elements k call visible frames tasks
      → CallStands p classes t store.elements k (moved_call to call) visible frames tasks
  call_moved classes k call visible frames tasks kept pinned h = record {
    code = h.code;
    of_function = h.of_function;
    known = h.known;
    stands = h.stands;
    meant = h.meant;
    holds = record {
      keys = keys_moved Kept to store.heap t m call.locals call.slots.references.items h.meant.references h.meant.owners kept h.holds.keys;
      fields = h.holds.fields;
      buffers = record { agree = buffers_moved Kept to store.heap t m store.elements k call.slots.buffers.items h.meant.buffers pinned h.holds.buffers.agree; apart = h.holds.buffers.apart };
      small = h.holds.small;
    };
    shows = h.shows;
    depth = h.depth;
    frames_agree = locals_moved Kept to store.heap t m call.locals frames (frames_kept (reverse call.locals.frames) call.locals.slots kept) h.frames_agree;
  }

  -- what buffers in slots view is what they viewed
  views_moved : (k : ℕ) (slots : List Buffer) (buffers : List variable.Buffer) (s : source.Thread) → ArePinned slots → AllZip (BufferAgrees store.heap store.elements k) slots buffers → AreViewed store.heap slots s → AreViewed t slots s
  views_moved k slots buffers s pinned agree views =
      subst (λ (l : List ℕ). (n : ℕ) → times n l ≤ times n (objects_viewed s.variables))
      (sym (viewed_same store.heap t store.elements store.elements k slots buffers agree (buffers_moved Kept to store.heap t m store.elements k slots buffers pinned agree))) views

  -- the same of a call from which another was made
  pub caller_moved : (classes : Classes) (k : ℕ) (own : Owners) (shared : Shared) (call : Activation) (c : source.Caller) → AreKept Kept (references_in call.locals.slots) → ArePinned call.slots.buffers.items → CallerAgrees p classes store.heap store.elements k call own shared c
      → CallerAgrees p classes t store.elements k (moved_call to call) own shared c
  caller_moved classes k own shared call c kept pinned h = record {
    line = h.line;
    function = h.function;
    operands = h.operands;
    ready = h.ready;
    result = h.result;
    stands = call_moved classes k call (seen_by own shared c) c.frames (Invoke h.line c.target h.function h.operands ∷ c.tasks) kept pinned h.stands;
    views = views_moved k call.slots.buffers.items h.stands.meant.buffers (thread_of c) pinned h.stands.holds.buffers.agree h.views;
  }

  work_moved : (classes : Classes) (k : ℕ) (visible : Visible) (o : Option Activation) (frames : List source.Frame) (tasks : Option (List Task)) → CallIsKept Kept o → ArePinned (buffers_of o) → WorkAgrees p classes store.heap store.elements k visible o frames tasks
      → WorkAgrees p classes t store.elements k visible (option_map (moved_call to) o) frames tasks
  work_moved classes k visible None frames None kept pinned h = h
  work_moved classes k visible None frames (Some tasks) kept pinned h = h
  work_moved classes k visible (Some call) frames None kept pinned h = h
  work_moved classes k visible (Some call) frames (Some tasks) kept pinned h = call_moved classes k call visible frames tasks kept pinned h

  -- a call that isn't entered yet is given what it was
  given_moved : (classes : Classes) (made : ℕ) (e : Option Entering) (nexts : List PendingCall) (calls : List Invocation) → AreKept Kept (references_in (argument_places e)) → CallsToComeAgree p classes store.heap made e nexts calls
      → CallsToComeAgree p classes t made (option_map (moved_entering to) e) nexts calls
  given_moved classes made None nexts calls kept h = h
  given_moved classes made (Some e) nexts [] kept h = absurd h
  given_moved classes made (Some e) nexts (c ∷ calls) kept h =
      let items : (moved_entering to e).arguments.items ≡ map (moved_value to) e.arguments.items =
      with_items_is e.arguments (map (moved_value to) e.arguments.items) (length-map e.arguments.items (moved_value to) ∙ sym e.arguments.ok.0) in (
        record {
          function = (h.0).function;
          named = (h.0).named;
          numbered = (h.0).numbered;
          of_class = (h.0).of_class;
          class_made = (h.0).class_made;
          arguments = subst (λ (ws : List Value). ValuesAgree t ws c.arguments) (sym items) (values_moved Kept to store.heap t m e.arguments.items c.arguments (values_kept Kept e.arguments.items kept) (h.0).arguments);
          fit = (h.0).fit;
          few = (h.0).few;
        },
        h.1,
      )

  -- as many callers, each moved
  items_moved : (x : Thread) → (moved_thread to x).callers.items ≡ map (moved_call to) x.callers.items
  items_moved x = with_items_is x.callers (map (moved_call to) x.callers.items) (length-map x.callers.items (moved_call to) ∙ sym x.callers.ok.0)

  -- the slots are those that they were
  still_slots : (o : Option Activation) → buffers_of (option_map (moved_call to) o) ≡ buffers_of o
  still_slots None = refl
  still_slots (Some call) = refl

  -- what a thread views is pinned, where all of these names are
  thread_pinned : (k : ℕ) (o : Option Activation) (s : source.Thread) → AgreeInSlots store.heap store.elements k o → AreViewed store.heap (buffers_of o) s
      → ((a n : ℕ) → name_at store.heap a ≡ Some n → 0 < times n (objects_viewed s.variables) → Kept a × (0 < pins_at store.heap a)) → ArePinned (buffers_of o)
  thread_pinned k o s slots views pinned i a at =
      let r = view_at store.heap store.elements k (buffers_of o) slots.buffers i a slots.agree at in
      let often = in_times (viewed_in store.heap (buffers_of o)) r.0 r.2 in
      pinned a r.0 r.1 (omega (arith, often, views r.0))

  callers_moved : (classes : Classes) (k : ℕ) (shared : Shared) (calls : List Activation) (owners : List Owners) (callers : List source.Caller) → CallersAreKept Kept calls
      → ((a n : ℕ) → name_at store.heap a ≡ Some n → 0 < times n (flat_map (λ (c : source.Caller). objects_viewed c.variables) callers) → Kept a × (0 < pins_at store.heap a))
      → CallersAgree p classes store.heap store.elements k shared calls owners callers → CallersAgree p classes t store.elements k shared (map (moved_call to) calls) owners callers
  callers_moved classes k shared [] [] [] kept pinned h = h
  callers_moved classes k shared (call ∷ calls) (own ∷ owners) (c ∷ callers) kept pinned h =
      let owner = owner_at k (length callers) in
      let slots : AgreeInSlots store.heap store.elements owner (Some call) = record { buffers = (h.0).stands.meant.buffers; agree = (h.0).stands.holds.buffers.agree } in
      let later = flat_map (λ (c : source.Caller). objects_viewed c.variables) callers in
      let parts : (n : ℕ) → times n (flat_map (λ (c : source.Caller). objects_viewed c.variables) (c ∷ callers)) ≡ times n (objects_viewed c.variables) + times n later =
      λ n. ap (times n) (flat_map-cons (λ (c : source.Caller). objects_viewed c.variables) c callers) ∙ times_append n (objects_viewed c.variables) later in
      let own_pinned = thread_pinned owner (Some call) (thread_of c) slots (h.0).views (λ a n named some. pinned a n named (omega (arith, some, parts n))) in (
        caller_moved classes owner own shared call c kept.0 own_pinned h.0,
        callers_moved classes k shared calls owners callers kept.1 (λ a n named some. pinned a n named (omega (arith, some, parts n))) h.1,
      )
  callers_moved classes k shared calls owners callers kept pinned h = absurd h

  -- memory has them the other way round
  callers_in : (x : Thread) → reverse (moved_thread to x).callers.items ≡ map (moved_call to) (reverse x.callers.items)
  callers_in x = ap reverse (items_moved x) ∙ map_reversed (moved_call to) x.callers.items

  pub threads_moved : (classes : Classes) (made : ℕ) (owners : AllOwners) (k : ℕ) (shared : Shared) (ts : List Thread) (ss : List source.Thread) → ThreadsAreKept Kept ts
      → ((a n : ℕ) → name_at store.heap a ≡ Some n → 0 < times n (flat_map viewed_by ss) → Kept a × (0 < pins_at store.heap a))
      → ThreadsAgree p classes store.heap store.elements made owners k shared ts ss → ThreadsAgree p classes t store.elements made owners k shared (map (moved_thread to) ts) ss
  threads_moved classes made owners k shared [] [] kept pinned h = h
  threads_moved classes made owners k shared [] (s ∷ ss) kept pinned h = h
  threads_moved classes made owners k shared (x ∷ ts) [] kept pinned h = h
  threads_moved classes made owners k shared (x ∷ ts) (s ∷ ss) kept pinned h =
      let owner = owner_at k (length s.callers) in
      let slots = slots_agree p classes store.heap store.elements owner (visible_to (owners k).current shared s) x.call s.frames s.tasks (h.0).work in
      let below = flat_map (λ (c : source.Caller). objects_viewed c.variables) s.callers in
      let parts : (n : ℕ) → times n (flat_map viewed_by (s ∷ ss)) ≡ times n (viewed_by s) + times n (flat_map viewed_by ss) = λ n. ap (times n) (flat_map-cons viewed_by s ss) ∙ times_append n (viewed_by s) (flat_map viewed_by ss) in
      let own = thread_pinned owner x.call s slots (h.0).views (λ a n named some. pinned a n named (omega (arith, some, parts n, times_append n below (objects_viewed s.variables)))) in (
        record {
          calls = given_moved classes made x.entering x.calls.items s.calls kept.1 (h.0).calls;
          due = due_moved (moved_entering to) x.entering s.tasks s.callers (h.0).due;
          work = work_moved classes owner (visible_to (owners k).current shared s) x.call s.frames s.tasks kept.2 own (h.0).work;
          callers = subst (λ (calls : List Activation). CallersAgree p classes t store.elements k shared calls (owners k).callers s.callers) (sym (callers_in x))
              (callers_moved classes k shared (reverse x.callers.items) (owners k).callers s.callers (all_reversed (λ (call : Activation). AreKept Kept (references_in call.locals.slots)) x.callers.items kept.0)
              (λ a n named some. pinned a n named (omega (arith, some, parts n, times_append n below (objects_viewed s.variables)))) (h.0).callers);
          few = let count = ap length (items_moved x) ∙ length-map x.callers.items (moved_call to) in let before = (h.0).few in omega (arith, count, before);
          pending = reference_moved Kept to store.heap t m x.pending s.pending kept.3 (h.0).pending;
          ending = (h.0).ending;
          busy = (h.0).busy;
          caught = (h.0).caught;
          idle = (h.0).idle;
          views = subst (λ (slots : List Buffer). AreViewed t slots s) (sym (still_slots x.call)) (views_moved owner (buffers_of x.call) slots.buffers s own slots.agree (h.0).views);
        },
        threads_moved classes made owners (suc k) shared ts ss kept.4 (λ a n named some. pinned a n named (omega (arith, some, parts n))) h.1,
      )
