-- What an instruction on an element of a buffer did is the effect of the first of the tasks.
use Rattle.std.proofs.Common.{◌≡◌, ◌≢◌, ℕ, zero, suc, ℤ, ◌+◌, ◌<◌, Bool, true, false, List, [], ◌∷◌, ◌++◌, length, map, Option, Some, None, refl, sym, ap, ◌∙◌, subst, arith}
use Rattle.std.specs.Prelude.{slice_get, slice_set, nat_lt, FitsSigned}
use Rattle.std.specs.Int.{w32, cast_signed, cast_unsigned}
use Rattle.std.specs.Option.{option_map}
use Rattle.std.proofs.Math.Facts.{to_z-of_z}
use Rattle.std.proofs.lemmas.Bool.{lt-ltb, ltb-true}
use Rattle.std.proofs.lemmas.List.{length-map, length-set}
use Rattle.std.proofs.lemmas.List.Sums.{sum_by-cons}
use Rattle.std.proofs.lemmas.Option.{slice_get-get_or, slice_get-map}
use Rattle.base.specs.Bytes.{Identifier, lookup}
use Rattle.class_rules.specs.Class.{Classes}
use Rattle.heap.specs.Heap.{Space, name_at, values_at, with_value}
use Rattle.syntax.specs.Views.{unit_tree}
use Rattle.heap.specs.declared.value.Value.TheVariants.{Number as Word}
use Rattle.base.specs.declared.element.ElementType.{ElementType as ElementOfCode}
use Rattle.base.proofs.Lists.{set_same}
use Rattle.code.specs.declared.instr.Instr.{Instr}
use Rattle.code.specs.declared.instr.Instr.TheVariants as instr
use Rattle.code.specs.declared.instr.Plain.{Plain}
use Rattle.code.specs.declared.instr.Plain.TheVariants as plain
use Rattle.code.specs.declared.instr.PlainTrap.TheVariants as plain_trap
use Rattle.code.specs.Effect.{element_word, IsPlain}
use Rattle.code.specs.Depth.{Listing, depth_after, depth_at, Leaves}
use Rattle.semantics.specs.Effect.{Effect, Becomes, SetsElement, TrapsAt, effect_of}
use Rattle.semantics.specs.Heap.{with_value_at}
use Rattle.semantics.specs.Object.{Number}
use Rattle.semantics.specs.Task.{Task}
use Rattle.semantics.specs.Thread as source
use Rattle.semantics.specs.Thread.{Shared, sight_of}
use Rattle.semantics.specs.ThreadStep.{with_tasks, set_element}
use Rattle.semantics.specs.declared.trap.Trap.{Trap}
use Rattle.semantics.specs.declared.trap.Trap.TheVariants.{OutOfRange}
use Rattle.semantics.specs.Value.{convert}
use Rattle.semantics.specs.declared.trap.Trap.TheVariants as traps
use Rattle.semantics.specs.Variable as variable
use Rattle.semantics.specs.Variable.{Elements, NoBuffer, Copy, View, assign}
use Rattle.semantics.specs.World.{World}
use Rattle.semantics_safety.specs.Owners.{Owners}
use Rattle.tables.specs.Elements.{OwnedNumbers, lengths, owned, with_number, written}
use Rattle.tables.specs.Keys.{value_at, values_in as all_values}
use Rattle.code_meaning.specs.Coding.{element_of}
use Rattle.code_meaning.specs.Slots.{Visible, Slots, visible_to, Shows, elements_in, slot_elements, with_element, IsBufferSet}
use Rattle.code_meaning.specs.Stands.{StandsFor}
use Rattle.code_meaning.specs.Does.{AtEnd, GoesOn, Loads, Stops, Works, WritesBuffer, IsReturn, trap_of}
use Rattle.code_meaning.specs.Lowered.{Lowered}
use Rattle.code_meaning.proofs.BufferLaws.{buffer_by_kind, buffer_stays as buffer_seen_still}
use Rattle.code_meaning.proofs.ElementWords.{convert_fits, element_words}
use Rattle.machine_answers.specs.Answers.{WritesAt}
use Rattle.machine_answers.specs.Copies.{word_of}
use Rattle.machine_scenes.specs.Buffers as in_slot
use Rattle.machine_scenes.specs.Buffers.{Acquired, AreViewed, BufferAgrees, BuffersAgree, KeepsCopies, acquired_by, beside, viewed_in}
use Rattle.machine_scenes.specs.HeapAgrees.{ReferenceAgrees, times}
use Rattle.machine_steps.proofs.ViewCounts.{views_stay}
use Rattle.machine_scenes.specs.StoreAgrees.{StoreAgrees}
use Rattle.machine_answers.specs.WorkedOut.{buffer_there}
use Rattle.machine_scenes.specs.declared.activation.Activation.{Activation}
use Rattle.machine_scenes.specs.declared.buffer.Buffer.{Buffer as HeldBuffer}
use Rattle.machine_scenes.specs.declared.buffer.Buffer.TheVariants as held_as
use Rattle.machine_scenes.specs.declared.store.Store.{Store}
use Rattle.machine_scenes.proofs.Keeping.{frames_stay, keeps_same, keys_stay, reference_stays}
use Rattle.machine_answers.proofs.Writes.{written_agrees, written_keeps}
use Rattle.machine_steps.specs.BufferElements.{LoadsElement, StoresElement, with_word, words_held}
use Rattle.machine_steps.specs.Executes as agrees
use Rattle.machine_threads.specs.InProgress.{WorkAgrees}
use Rattle.machine_steps.specs.Executes.{Executes, IsSteady}
use Rattle.machine_threads.specs.SlotsHold.{IsSmallCopy, slots_of, values_in}
use Rattle.machine_steps.specs.Moved.{HasMoved}
use Rattle.semantics.specs.declared.event.Event.{Event}
use Rattle.semantics.specs.declared.event.Event.TheVariants as event
use Rattle.semantics_typing.proofs.Lists.{all_get}
use Rattle.machine_steps.specs.declared.execute.Executed.TheVariants.{Did}
use Rattle.machine_steps.proofs.Acquisitions.{assigned_same, copied_there, store_same, viewed_there}
use Rattle.machine_steps.proofs.Calls.{Ready, depth_behind, stands_at, stands_in}
use Rattle.machine_steps.proofs.Changes.{is_buffer_set}
use Rattle.machine_steps.proofs.Effects.{other_cases, possible_here}
use Rattle.machine_steps.proofs.SlotBuffers.{all_put, buffer_held, buffer_stays, buffers_put, buffers_stay, there_is, words_are}

-- ---- a written list

module _ {X : Type 0} where
  value_put : (slots : List (Option X)) (key : ℕ) (c : X) (v : Option X) → value_at slots key ≡ Some c → value_at (slice_set slots key v) key ≡ v
  value_put [] key c v at = absurd (cc (at))
  value_put (o ∷ slots) zero c v at = refl
  value_put (o ∷ slots) (suc key) c v at = value_put slots key c v at

  value_elsewhere : (slots : List (Option X)) (key other : ℕ) (v : Option X) → other ≢ key → value_at (slice_set slots key v) other ≡ value_at slots other
  value_elsewhere [] key other v differs = refl
  value_elsewhere (o ∷ slots) zero zero v differs = absurd (differs refl)
  value_elsewhere (o ∷ slots) zero (suc other) v differs = refl
  value_elsewhere (o ∷ slots) (suc key) zero v differs = refl
  value_elsewhere (o ∷ slots) (suc key) (suc other) v differs = value_elsewhere slots key other v (λ e. differs (ap suc e))

-- as long as before
abbrev long : OwnedNumbers → ℕ
long c = length c.numbers

lengths_put : (slots : List (Option OwnedNumbers)) (key : ℕ) (c d : OwnedNumbers) → value_at slots key ≡ Some c → long d ≡ long c → lengths (slice_set slots key (Some d)) ≡ lengths slots
lengths_put [] key c d at same = absurd (cc (at))
lengths_put (None ∷ slots) zero c d at same = absurd (cc (at))
lengths_put (Some x ∷ slots) zero c d at same =
    let is : x ≡ c = cc (at) in
    omega (arith, sum_by-cons long d (all_values slots), sum_by-cons long x (all_values slots), same, ap long is)
lengths_put (None ∷ slots) (suc key) c d at same = lengths_put slots key c d at same
lengths_put (Some x ∷ slots) (suc key) c d at same =
    omega (arith, lengths_put slots key c d at same, sum_by-cons long x (all_values (slice_set slots key (Some d))), sum_by-cons long x (all_values slots))

-- the list of a thread is written
module _ (copies : List (Option OwnedNumbers)) (k key : ℕ) (zs : List ℤ) (there : value_at copies key ≡ Some (owned k zs)) (place : ℕ) (z : ℤ) where
  changed : option_map (with_number place z) (value_at copies key) ≡ Some (owned k (slice_set zs place z))
  changed = ap (option_map (with_number place z)) there

  pub written_here : value_at (written copies key place z) key ≡ Some (owned k (slice_set zs place z))
  written_here = value_put copies key (owned k zs) (option_map (with_number place z) (value_at copies key)) there ∙ changed

  pub written_elsewhere : (other : ℕ) (c : OwnedNumbers) → other ≢ key → value_at copies other ≡ Some c → value_at (written copies key place z) other ≡ Some c
  written_elsewhere other c differs at = value_elsewhere copies key other (option_map (with_number place z) (value_at copies key)) differs ∙ at

  pub written_lengths : lengths (written copies key place z) ≡ lengths copies
  written_lengths =
      ap (λ (o : Option OwnedNumbers). lengths (slice_set copies key o)) changed
      ∙ lengths_put copies key (owned k zs) (owned k (slice_set zs place z)) there (length-set zs place z)

  pub written_keeps_copies : KeepsCopies k copies (written copies key place z)
  written_keeps_copies other c at differs = written_elsewhere other c (λ e. differs (let same : Some (owned k zs) ≡ Some c = sym there ∙ ap (value_at copies) (sym e) ∙ at in ap owner_of (sym same))) at
    where
      owner_of : Option OwnedNumbers → ℕ
      owner_of None = k
      owner_of (Some c) = c.owner

-- the store with it
written_store : (p : Lowered) (w : World) (store : Store) (shared : Shared) (all : Acquired) (k key : ℕ) (zs : List ℤ) (place : ℕ) (z : ℤ) → value_at store.elements key ≡ Some (owned k zs) → StoreAgrees p w store shared all → StoreAgrees p w (record store { elements = written store.elements key place z }) shared all
written_store p w store shared all k key zs place z there h = record {
  heap = h.heap;
  laid_out = h.laid_out;
  cells = h.cells;
  table = h.table;
  begun = h.begun;
  births = h.births;
  statics = h.statics;
  named = h.named;
  keys = h.keys;
  weak_keys = h.weak_keys;
  weaks = h.weaks;
  globals = h.globals;
  buffers = record { copied = written_lengths store.elements k key zs there place z ∙ h.buffers.copied; many = h.buffers.many; pins = h.buffers.pins; made = h.buffers.made; there = h.buffers.there };
  monitors = h.monitors;
  monitored = h.monitored;
}

-- ---- steps

module _ (p : Lowered) (w : World) (store : Store) (others : Acquired) (k owner : ℕ) (own : Owners) (shared : Shared) (s : source.Thread) (shares : StoreAgrees p w store shared (beside others (acquired_by s))) (pending : Option ℕ) (pends : ReferenceAgrees store.heap pending s.pending) (call : Activation) (code : Listing) (task : Task) (rest : List Task)
    (r : Ready p w.classes store.heap store.elements owner call code (visible_to own shared s) s.frames task rest) (tasks_are : s.tasks ≡ Some (task ∷ rest)) (views : AreViewed store.heap call.slots.buffers.items s) (steady : IsSteady (unit_tree p.unit) w.classes own shared s) (i : Instr) (at : slice_get code.instrs call.place ≡ Some i) where
  abbrev classes : Classes
  classes = w.classes

  abbrev space : Space
  space = store.heap

  abbrev seen : Visible
  seen = visible_to own shared s

  abbrev held : Slots
  held = slots_of call r.meant

  abbrev all : Acquired
  all = beside others (acquired_by s)

  -- the words of what is in a slot are its elements
  slot_words : (slot : ℕ) (zs : List ℤ) → slot_elements seen held slot ≡ Some zs → words_held store (buffer_there call.slots.buffers.items slot) ≡ map (λ z. cast_unsigned w32 z) zs
  slot_words slot zs is = by_slot (slice_get r.meant.buffers slot) refl is
    where
      by_slot : (o : Option variable.Buffer) → slice_get r.meant.buffers slot ≡ o → option_map (λ (b : variable.Buffer). elements_in b seen.numbers) o ≡ Some zs → words_held store (buffer_there call.slots.buffers.items slot) ≡ map (λ z. cast_unsigned w32 z) zs
      by_slot None there e = absurd (cc (e))
      by_slot (Some b) there e =
          let it = buffer_held space store.elements owner call.slots.buffers.items r.meant.buffers slot b r.holds.buffers there in
          let same : elements_in b seen.numbers ≡ zs = cc (e) in
          ap (words_held store) (there_is call.slots.buffers.items slot it.0 it.1)
          ∙ words_are p w store shared all shares it.2
          ∙ ap (λ (l : List ℤ). map (λ z. cast_unsigned w32 z) l) same

  -- a trap leaves all as it was
  past : (reason : Trap) (line : ℕ) (after : Activation) (e : Event) → after ≡ call → e ≡ event.Trapped OutOfRange line → reason ≡ traps.OutOfRange → agrees.GoesOn p w store store others k owner own shared s rest after pending (TrapsAt reason line) false e
  past reason line after e same trapped is = record {
    next_shared = shared;
    next = s;
    steps = ap (λ (t : Trap). source.Advances shared s (event.Trapped t line)) is ∙ ap (λ (v : Event). source.Advances shared s v) (sym trapped);
    store_agrees = shares;
    keeps = keeps_same space shared;
    keeps_copies = λ key c there other. there;
    work = subst (λ (o : Option (List Task)). WorkAgrees p classes space store.elements owner seen (Some after) s.frames o) (sym tasks_are)
        (stands_at p classes space store.elements owner call code seen s.frames task rest r after call.place call.stack (values_in call) r.meant r.known seen (task ∷ rest) r.depth
        (subst (λ (a : Activation). HasMoved call a call.place call.stack (values_in call)) (sym same) (record { function = refl; place = refl; stack = refl; numbers = refl; references = refl; fields = refl; buffers = refl; locals = refl }))
        r.holds r.stands r.shows);
    views = subst (λ (a : Activation). AreViewed space a.slots.buffers.items s) (sym same) views;
    pending_agrees = pends;
    calls = refl;
    callers = refl;
    ending = refl;
    short = λ e. absurd (cc);
  }

  -- ---- an element is read

  module _ (slot line : ℕ) (after : Activation) (e : Event) (is : i ≡ instr.LoadBuffer slot line)
      (did : (index : ℕ) (stack : List ℕ) → call.stack ≡ index ∷ stack → LoadsElement line stack (slice_get (words_held store (buffer_there call.slots.buffers.items slot)) index) call after e) where
    -- what was read of these elements
    loaded : (index : ℕ) (stack : List ℕ) (zs : List ℤ) → call.stack ≡ index ∷ stack → slot_elements seen held slot ≡ Some zs → (o : Option ℤ) → slice_get zs index ≡ o → LoadsElement line stack (option_map (λ z. cast_unsigned w32 z) o) call after e
    loaded index stack zs top elements o found =
        subst (λ (x : Option ℕ). LoadsElement line stack x call after e)
        (ap (λ (l : List ℕ). slice_get l index) (slot_words slot zs elements) ∙ slice_get-map (λ z. cast_unsigned w32 z) zs index ∙ ap (option_map (λ z. cast_unsigned w32 z)) found)
        (did index stack top)

    reads : (tasks : List Task) (h : GoesOn code r.known call.place call.stack held seen (tasks ++ rest)) (stack : List ℕ) → call.stack ≡ stack → Works seen held (instr.LoadBuffer slot line) stack h.path h.after → agrees.GoesOn p w store store others k owner own shared s rest after pending (Becomes tasks) false e
    reads tasks h [] top works = absurd (cc (works))
    reads tasks h (index ∷ stack) top works = by_element (slice_get works.0 index) refl works.2
      where
        by_element : (o : Option ℤ) → slice_get works.0 index ≡ o → Loads line index stack o h.path h.after → agrees.GoesOn p w store store others k owner own shared s rest after pending (Becomes tasks) false e
        by_element None found loads = absurd (subst (λ (u : Plain). AtEnd (λ q. StandsFor code h.names q h.after (tasks ++ rest)) call.place u) loads.0 h.stands)
        by_element (Some z) found loads =
            let m = loaded index stack works.0 top works.1 (Some z) found in
            let next : source.Thread = with_tasks s (tasks ++ rest) in
            let words : List ℕ = cast_unsigned w32 z ∷ stack in
            let end : StandsFor code h.names (call.place + 1) words (tasks ++ rest) =
            subst (λ (u : Plain). AtEnd (λ q. StandsFor code h.names q words (tasks ++ rest)) call.place u) loads.0 (subst (λ (st : List ℕ). AtEnd (λ q. StandsFor code h.names q st (tasks ++ rest)) call.place h.path) loads.1 h.stands) in
            record {
              next_shared = shared;
              next = next;
              steps = ap (λ (v : Event). source.Advances shared next v) (sym m.1);
              store_agrees = shares;
              keeps = keeps_same space shared;
              keeps_copies = λ key c there other. there;
              work = stands_at p classes space store.elements owner call code seen s.frames task rest r after (call.place + 1) words (values_in call) r.meant h.names (visible_to own shared next) (tasks ++ rest)
                  (depth_behind p classes space store.elements owner call code seen s.frames task rest r i at (length words) (λ leaves. subst Leaves is leaves) (ap (λ (j : Instr). depth_after j (length call.stack)) is ∙ ap (λ (st : List ℕ). depth_after (instr.LoadBuffer slot line) (length st)) top))
                  m.0 r.holds end h.shows;
              views = subst (λ (l : List HeldBuffer). AreViewed space l s) (sym m.0.buffers) views;
              pending_agrees = pends;
              calls = refl;
              callers = refl;
              ending = refl;
              short = λ e. absurd (cc);
            }

    load_past : (reason : Trap) (at_line : ℕ) (h : Stops code r.known call.place call.stack held seen reason at_line) (stack : List ℕ) → call.stack ≡ stack → Works seen held (instr.LoadBuffer slot line) stack (plain.Trap h.trap at_line) stack
        → agrees.GoesOn p w store store others k owner own shared s rest after pending (TrapsAt reason at_line) false e
    load_past reason at_line h [] top works = absurd (cc (works))
    load_past reason at_line h (index ∷ stack) top works = by_element (slice_get works.0 index) refl works.2
      where
        by_element : (o : Option ℤ) → slice_get works.0 index ≡ o → Loads line index stack o (plain.Trap h.trap at_line) (index ∷ stack) → agrees.GoesOn p w store store others k owner own shared s rest after pending (TrapsAt reason at_line) false e
        by_element (Some z) found loads = absurd (let clash : plain.Trap h.trap at_line ≡ plain.Next = loads.0 in cc)
        by_element None found loads =
            let m = loaded index stack works.0 top works.1 None found in
            let lines : line ≡ at_line = let both : plain.Trap h.trap at_line ≡ plain.Trap plain_trap.OutOfRange line = loads.0 in cc in
            let traps : h.trap ≡ plain_trap.OutOfRange = let both : plain.Trap h.trap at_line ≡ plain.Trap plain_trap.OutOfRange line = loads.0 in cc in
            past reason at_line after e m.0 (m.1 ∙ ap (λ (n : ℕ). event.Trapped OutOfRange n) lines) (sym h.is ∙ ap trap_of traps)

    pub load_executes : Executes p w store store others k owner own shared s rest after pending (effect_of (sight_of shared s) task) (Did e)
    load_executes =
        other_cases p classes space store.elements owner call code seen s.frames task rest r (possible_here p w store others k owner own shared s shares pending pends call code task rest r tasks_are views steady i at) i at (λ effect. Executes p w store store others k owner own shared s rest after pending effect (Did e)) (λ plain. subst IsPlain is plain)
        (λ test tasks h. reads tasks h call.stack refl (let same : h.here ≡ instr.LoadBuffer slot line = cc (h.at, at, is) in subst (λ (j : Instr). Works seen held j call.stack h.path h.after) same h.works))
        (λ target h same. absurd (let both : instr.StoreNull h.variable ≡ instr.LoadBuffer slot line = sym same ∙ is in cc))
        (λ x n z h same. absurd (let both : instr.StoreBuffer (element_of h.type) h.slot h.line ≡ instr.LoadBuffer slot line = sym same ∙ is in cc))
        (λ z h same. absurd (let both : instr.PutJint ≡ instr.LoadBuffer slot line = sym same ∙ is in cc))
        (λ at_line target f args h same. absurd (let both : instr.Call h.call ≡ instr.LoadBuffer slot line = sym same ∙ is in cc))
        (λ returns. absurd (subst IsReturn is returns))
        (λ test reason at_line h works. load_past reason at_line h call.stack refl (subst (λ (j : Instr). Works seen held j call.stack (plain.Trap h.trap at_line) call.stack) is works))

  -- ---- an element is written

  module _ (element : ElementOfCode) (slot line : ℕ) (after : Activation) (store' : Store) (e : Event) (is : i ≡ instr.StoreBuffer element slot line)
      (did : (word index : ℕ) (stack : List ℕ) → call.stack ≡ word ∷ index ∷ stack
      → StoresElement line stack (nat_lt index (length (words_held store (buffer_there call.slots.buffers.items slot)))) store (buffer_there call.slots.buffers.items slot) index (element_word element word) store' call after e) where
    abbrev Wrote : Effect → Type 0
    Wrote effect = agrees.GoesOn p w store store' others k owner own shared s rest after pending effect false e

    -- past the end nothing is written
    store_past : (reason : Trap) (at_line : ℕ) (h : Stops code r.known call.place call.stack held seen reason at_line) (stack : List ℕ) → call.stack ≡ stack → Works seen held (instr.StoreBuffer element slot line) stack (plain.Trap h.trap at_line) stack → Wrote (TrapsAt reason at_line)
    store_past reason at_line h [] top works = absurd (cc (works))
    store_past reason at_line h (word ∷ []) top works = absurd (cc (works))
    store_past reason at_line h (word ∷ index ∷ stack) top works =
        let zs = works.0.0 in
        let words = slot_words slot zs works.0.1 in
        let none : nat_lt index (length (words_held store (buffer_there call.slots.buffers.items slot))) ≡ false =
        ap (λ (l : List ℕ). nat_lt index (length l)) words ∙ ap (nat_lt index) (length-map zs (λ z. cast_unsigned w32 z)) ∙ outside zs index works.0.2 in
        let m = subst (λ (b : Bool). StoresElement line stack b store (buffer_there call.slots.buffers.items slot) index (element_word element word) store' call after e) none (did word index stack top) in
        let lines : line ≡ at_line = let both : plain.Trap h.trap at_line ≡ plain.Trap plain_trap.OutOfRange line = works.1 in cc in
        let traps : h.trap ≡ plain_trap.OutOfRange = let both : plain.Trap h.trap at_line ≡ plain.Trap plain_trap.OutOfRange line = works.1 in cc in
        subst (λ (st : Store). agrees.GoesOn p w store st others k owner own shared s rest after pending (TrapsAt reason at_line) false e) (sym m.0)
        (past reason at_line after e m.1.0 (m.1.1 ∙ ap (λ (n : ℕ). event.Trapped OutOfRange n) lines) (sym h.is ∙ ap trap_of traps))
      where
        outside : (zs : List ℤ) (index : ℕ) → slice_get zs index ≡ None → nat_lt index (length zs) ≡ false
        outside zs index none = by_test (nat_lt index (length zs)) refl
          where
            by_test : (b : Bool) → nat_lt index (length zs) ≡ b → nat_lt index (length zs) ≡ false
            by_test false e = e
            by_test true e = absurd (let there = slice_get-get_or zs index (ℤ.pos 0) (ltb-true index (length zs) e) in let clash : None ≡ Some _ = sym none ∙ there in cc)

    module _ (x : Identifier) (j : ℕ) (z : ℤ) (h : WritesBuffer code r.known call.place call.stack held seen x j z rest) (same : i ≡ instr.StoreBuffer (element_of h.type) h.slot h.line) where
      slots_are : slot ≡ h.slot
      slots_are = let both : instr.StoreBuffer element slot line ≡ instr.StoreBuffer (element_of h.type) h.slot h.line = sym is ∙ same in cc

      elements_are : element ≡ element_of h.type
      elements_are = let both : instr.StoreBuffer element slot line ≡ instr.StoreBuffer (element_of h.type) h.slot h.line = sym is ∙ same in cc

      -- the number as it is written
      abbrev number : ℤ
      number = convert h.type z

      word_is : element_word element (cast_unsigned w32 z) ≡ cast_unsigned w32 number
      word_is = ap (λ (t : ElementOfCode). element_word t (cast_unsigned w32 z)) elements_are ∙ element_words h.type z h.fits

      -- the slot of the buffer
      it : (g : HeldBuffer) × (slice_get call.slots.buffers.items h.slot ≡ Some g) × BufferAgrees space store.elements owner g (seen.buffer x)
      it = buffer_held space store.elements owner call.slots.buffers.items r.meant.buffers h.slot (seen.buffer x) r.holds.buffers h.there

      buffer_is : buffer_there call.slots.buffers.items slot ≡ it.0
      buffer_is = ap (buffer_there call.slots.buffers.items) slots_are ∙ there_is call.slots.buffers.items h.slot it.0 it.1

      inside : nat_lt j (length (words_held store it.0)) ≡ true
      inside =
          ap (λ (l : List ℕ). nat_lt j (length l)) (words_are p w store shared all shares it.2)
          ∙ ap (nat_lt j) (length-map (elements_in (seen.buffer x) seen.numbers) (λ z. cast_unsigned w32 z))
          ∙ lt-ltb j (length (elements_in (seen.buffer x) seen.numbers)) h.inside

      -- what was done
      wrote : StoresElement line [] true store it.0 j (cast_unsigned w32 number) store' call after e
      wrote =
          subst (λ (b : Bool). StoresElement line [] b store it.0 j (cast_unsigned w32 number) store' call after e) inside
          (subst (λ (n : ℕ). StoresElement line [] (nat_lt j (length (words_held store it.0))) store it.0 j n store' call after e) word_is
          (subst (λ (b : HeldBuffer). StoresElement line [] (nat_lt j (length (words_held store b))) store b j (element_word element (cast_unsigned w32 z)) store' call after e) buffer_is
          (did (cast_unsigned w32 z) j [] h.operands)))

      variable_is : lookup x s.variables ≡ Some (Elements h.type (seen.buffer x))
      variable_is = buffer_by_kind (lookup x s.variables) h.type h.kind

      depth : depth_at code.instrs (call.place + 1) ≡ Some 0
      depth = depth_behind p classes space store.elements owner call code seen s.frames task rest r i at 0 (λ leaves. subst Leaves is leaves) (ap (λ (g : Instr). depth_after g (length call.stack)) is ∙ ap (λ (st : List ℕ). depth_after (instr.StoreBuffer element slot line) (length st)) h.operands)

      -- of a copy
      copy_written : (key n : ℕ) (zs : List ℤ) → value_at store.elements key ≡ Some (owned owner zs) → it.0 ≡ held_as.Copy key → seen.buffer x ≡ Copy n zs → Wrote (SetsElement x j z)
      copy_written key n zs list of is_copy =
          let new : variable.Buffer = Copy n (slice_set zs j number) in
          let vs = assign x (Elements h.type new) s.variables in
          let next : source.Thread = record s { tasks = Some rest; variables = vs } in
          let back : cast_signed w32 (cast_unsigned w32 number) ≡ number = to_z-of_z {w = w32} (convert_fits h.type z) in
          let store_is : store' ≡ record store { elements = written store.elements key j number } =
          wrote.0 ∙ ap (λ (b : HeldBuffer). with_word store b j (cast_unsigned w32 number)) of ∙ ap (λ (y : ℤ). let st : Store = record store { elements = written store.elements key j y } in st) back in
          let was : lookup x s.variables ≡ Some (Elements h.type (Copy n zs)) = variable_is ∙ ap (λ (b : variable.Buffer). Some (Elements h.type b)) is_copy in
          let copies = written store.elements key j number in
          let slot_there : slice_get call.slots.buffers.items h.slot ≡ Some (held_as.Copy key) = it.1 ∙ ap (λ (g : HeldBuffer). Some g) of in
          let small : IsSmallCopy (Copy n zs) = all_get IsSmallCopy r.meant.buffers h.slot (Copy n zs) r.holds.small (h.there ∙ ap (λ (b : variable.Buffer). Some b) is_copy) in
          let buffers = slice_set r.meant.buffers h.slot new in
          let agree : BuffersAgree space copies owner call.slots.buffers.items buffers =
          subst (λ (l : List HeldBuffer). BuffersAgree space copies owner l buffers) (set_same call.slots.buffers.items h.slot (held_as.Copy key) slot_there)
          (buffers_put space space store.elements copies owner call.slots.buffers.items r.meant.buffers h.slot (held_as.Copy key) new r.holds.buffers (in_slot.copy (written_here store.elements owner key zs list j number))
          (λ m g c other there agrees. buffer_stays (λ a name named. named) (λ key' numbers named found. written_elsewhere store.elements owner key zs list j number key' numbers (λ same_key. other (r.holds.buffers.apart m h.slot key (there ∙ ap (λ (y : HeldBuffer). Some y) named ∙ ap (λ (y : ℕ). Some (held_as.Copy y)) same_key) slot_there)) found) agrees)
          (λ m key' other there same_key. other (r.holds.buffers.apart m h.slot key (there ∙ ap (λ (y : HeldBuffer). Some y) (sym same_key)) slot_there))) in
          let shown : Shows code h.names (visible_to own shared next) (record held { buffers = buffers }) =
          subst (λ (b : variable.Buffer). Shows code h.names (visible_to own shared next) (record held { buffers = slice_set r.meant.buffers h.slot b })) (ap (with_element h.type j z) is_copy)
          (h.shows (visible_to own shared next) (subst (λ (b : variable.Buffer). IsBufferSet seen h.type x b (visible_to own shared next)) (sym (ap (with_element h.type j z) is_copy)) (is_buffer_set own own shared s next x (λ y other. refl) h.type new refl))) in
          subst (λ (st : Store). agrees.GoesOn p w store st others k owner own shared s rest after pending (SetsElement x j z) false e) (sym store_is) (record {
            next_shared = shared;
            next = next;
            steps = ap (set_element shared (with_tasks s rest) x j z) was ∙ ap (λ (v : Event). source.Advances shared next v) (sym wrote.1.1);
            store_agrees = store_same p w (record store { elements = copies }) shared others s.variables vs
                (assigned_same x (Elements h.type new) s.variables (length-set zs j number ∙ sym (ap copied_there was)) (sym (ap viewed_there was)))
                (written_store p w store shared all owner key zs j number list shares);
            keeps = keeps_same space shared;
            keeps_copies = written_keeps_copies store.elements owner key zs list j number;
            work = stands_in p classes space store.elements owner call code seen s.frames task rest r space copies after (call.place + 1) [] (values_in call) (record r.meant { buffers = buffers }) h.names (visible_to own shared next) rest
                depth wrote.1.0 r.frames_agree
                (record {
                  keys = r.holds.keys;
                  fields = r.holds.fields;
                  buffers = agree;
                  small = all_put IsSmallCopy r.meant.buffers h.slot new r.holds.small (omega (arith, length-set zs j number, small.0), all_put (FitsSigned w32) zs j number small.1 (convert_fits h.type z));
                })
                h.stands shown;
            views = λ m. let still : times m (viewed_in space after.slots.buffers.items) ≡ times m (viewed_in space call.slots.buffers.items) = ap (λ (l : List HeldBuffer). times m (viewed_in space l)) wrote.1.0.buffers in
                omega (arith, still, views m, ap (λ (a : Acquired). times m a.viewed) (assigned_same x (Elements h.type new) s.variables (length-set zs j number ∙ sym (ap copied_there was)) (sym (ap viewed_there was))));
            pending_agrees = pends;
            calls = refl;
            callers = refl;
            ending = refl;
            short = λ e. absurd (cc);
          })

      -- of a view
      view_written : (a n : ℕ) → name_at space a ≡ Some n → it.0 ≡ held_as.View a → seen.buffer x ≡ View n → Wrote (SetsElement x j z)
      view_written a n named of is_view =
          let now : Shared = record shared { heap = with_value_at shared.heap n j (Number number) } in
          let next : source.Thread = with_tasks s rest in
          let there : nat_lt j (length (words_held store (held_as.View a))) ≡ true = ap (λ (b : HeldBuffer). nat_lt j (length (words_held store b))) (sym of) ∙ inside in
          let writes : WritesAt space a j (Word (cast_unsigned w32 number)) n (Number number) =
          record { there = named; agrees = (convert_fits h.type z, refl); within = omega (arith, ltb-true j (length (words_held store (held_as.View a))) there, length-map (values_at space a) word_of) } in
          let store_is : store' ≡ record store { heap = with_value space a j (Word (cast_unsigned w32 number)) } = wrote.0 ∙ ap (λ (b : HeldBuffer). with_word store b j (cast_unsigned w32 number)) of in
          let was : lookup x s.variables ≡ Some (Elements h.type (View n)) = variable_is ∙ ap (λ (b : variable.Buffer). Some (Elements h.type b)) is_view in
          let space' : Space = with_value space a j (Word (cast_unsigned w32 number)) in
          let keeps = written_keeps p w store shared a j n (Word (cast_unsigned w32 number)) (Number number) all shares writes in
          let shown : Shows code h.names (visible_to own now next) held =
          subst (λ (l : List variable.Buffer). Shows code h.names (visible_to own now next) (record held { buffers = l })) (set_same r.meant.buffers h.slot (View n) (h.there ∙ ap (λ (b : variable.Buffer). Some b) is_view))
          (subst (λ (b : variable.Buffer). Shows code h.names (visible_to own now next) (record held { buffers = slice_set r.meant.buffers h.slot b })) (ap (with_element h.type j z) is_view)
          (h.shows (visible_to own now next) (subst (λ (b : variable.Buffer). IsBufferSet seen h.type x b (visible_to own now next)) (sym (ap (with_element h.type j z) is_view)) (buffer_seen_still own shared s now.heap x h.type (View n) was)))) in
          subst (λ (st : Store). agrees.GoesOn p w store st others k owner own shared s rest after pending (SetsElement x j z) false e) (sym store_is) (record {
            next_shared = now;
            next = next;
            steps = ap (set_element shared (with_tasks s rest) x j z) was ∙ ap (λ (v : Event). source.Advances now next v) (sym wrote.1.1);
            store_agrees = written_agrees p w store shared a j n (Word (cast_unsigned w32 number)) (Number number) all shares writes;
            keeps = keeps;
            keeps_copies = λ key c found other. found;
            work = stands_in p classes space store.elements owner call code seen s.frames task rest r space' store.elements after (call.place + 1) [] (values_in call) r.meant h.names (visible_to own now next) rest
                depth wrote.1.0 (frames_stay space space' keeps.names call.locals s.frames r.frames_agree)
                (record {
                  keys = keys_stay space space' keeps.names call.locals call.slots.references.items r.meant.references r.meant.owners r.holds.keys;
                  fields = r.holds.fields;
                  buffers = buffers_stay space space' store.elements store.elements owner call.slots.buffers.items r.meant.buffers r.holds.buffers (λ m g c found agrees. buffer_stays keeps.names (λ key numbers g_is at_key. at_key) agrees);
                  small = r.holds.small;
                })
                h.stands shown;
            views = subst (λ (l : List HeldBuffer). AreViewed space' l s) (sym wrote.1.0.buffers) (views_stay space space' store.elements owner call.slots.buffers.items r.meant.buffers s s keeps.names r.holds.buffers.agree refl views);
            pending_agrees = reference_stays space space' keeps.names pending s.pending pends;
            calls = refl;
            callers = refl;
            ending = refl;
            short = λ e. absurd (cc);
          })

      -- of either
      buffer_written : {g : HeldBuffer} {b : variable.Buffer} → BufferAgrees space store.elements owner g b → it.0 ≡ g → seen.buffer x ≡ b → Wrote (SetsElement x j z)
      buffer_written in_slot.null of of_source = absurd (let none : j < length (elements_in NoBuffer seen.numbers) = subst (λ (c : variable.Buffer). j < length (elements_in c seen.numbers)) of_source h.inside in omega (arith, none))
      buffer_written (in_slot.copy {key = key} {n = n} {zs = zs} found) of of_source = copy_written key n zs found of of_source
      buffer_written (in_slot.view {a = a} {n = n} named) of of_source = view_written a n named of of_source

      element_written : Wrote (SetsElement x j z)
      element_written = buffer_written it.2 refl refl

    -- nothing goes on
    no_work : (tasks : List Task) (h : GoesOn code r.known call.place call.stack held seen (tasks ++ rest)) (stack : List ℕ) → Works seen held (instr.StoreBuffer element slot line) stack h.path h.after → ⊥
    no_work tasks h [] works = cc (works)
    no_work tasks h (word ∷ []) works = cc (works)
    no_work tasks h (word ∷ index ∷ stack) works = subst (λ (u : Plain). AtEnd (λ q. StandsFor code h.names q h.after (tasks ++ rest)) call.place u) works.1 h.stands

    pub store_executes : Executes p w store store' others k owner own shared s rest after pending (effect_of (sight_of shared s) task) (Did e)
    store_executes =
        other_cases p classes space store.elements owner call code seen s.frames task rest r (possible_here p w store others k owner own shared s shares pending pends call code task rest r tasks_are views steady i at) i at (λ effect. Executes p w store store' others k owner own shared s rest after pending effect (Did e)) (λ plain. subst IsPlain is plain)
        (λ test tasks h. absurd (no_work tasks h call.stack (let same : h.here ≡ instr.StoreBuffer element slot line = cc (h.at, at, is) in subst (λ (j : Instr). Works seen held j call.stack h.path h.after) same h.works)))
        (λ target h same. absurd (let both : instr.StoreNull h.variable ≡ instr.StoreBuffer element slot line = sym same ∙ is in cc))
        (λ x j z h same. element_written x j z h same)
        (λ z h same. absurd (let both : instr.PutJint ≡ instr.StoreBuffer element slot line = sym same ∙ is in cc))
        (λ at_line target f args h same. absurd (let both : instr.Call h.call ≡ instr.StoreBuffer element slot line = sym same ∙ is in cc))
        (λ returns. absurd (subst IsReturn is returns))
        (λ test reason at_line h works. store_past reason at_line h call.stack refl (subst (λ (j : Instr). Works seen held j call.stack (plain.Trap h.trap at_line) call.stack) is works))
