-- The entry into a call is that of the source's thread.
use Rattle.std.specs.Global.{Vec}
use Rattle.std.proofs.Common.{zip, ◌≡◌, ℕ, zero, suc, ◌+◌, ◌-◌, ◌<◌, ◌≤◌, Bool, true, false, List, [], ◌∷◌, ◌++◌, length, filter_map, map, replicate, reverse, Option, Some, None, refl, sym, ap, ◌∙◌, subst, arith, append_assoc, length-append, if◌then◌else◌}
use Rattle.std.specs.Prelude.{slice_get, slice_index_or, nat_lt, nat_le, ◌&&◌}
use Rattle.std.specs.List.{list_all}
use Rattle.std.specs.Str.{bytes_eq}
use Rattle.std.specs.Option.{option_map}
use Rattle.std.proofs.lemmas.List.{length-map, length-replicate, map-append}
use Rattle.std.proofs.lemmas.Slice.Eq.{bytes_eq-Decides}
use Rattle.std.proofs.lemmas.Bool.Decides.{nat_tests}
use Rattle.std.proofs.lemmas.Option.{slice_get-get_or}
use Rattle.syntax.specs.Parts.{functions_of, statics_of}
use Rattle.syntax.specs.Tree.{Static, Function, Parameter, Item, StaticItem, FunctionItem, SourceUnit}
use Rattle.syntax.specs.Views.{unit_tree}
use Rattle.base.specs.Bytes.{Identifier, lookup}
use Rattle.class_rules.specs.Class.{Classes}
use Rattle.heap.specs.Heap.{Space}
use Rattle.type_rules.specs.TypeRules.{static_type}
use Rattle.world_values.specs.CallArguments.{is_argument}
use Rattle.world_values.specs.Views.{object_value_view}
use Rattle.semantics.specs.Object.{ObjectValue, Number, Refers, Reference}
use Rattle.semantics.specs.World.{Invocation, World, loaded_objects}
use Rattle.code.specs.Depth.{Listing, depth_at}
use Rattle.semantics.specs.Activation.{enter, entered, entered_function, entry_advance, entry_frame, named_object, parameter_variables}
use Rattle.semantics.specs.Task.{Task, tasks_of}
use Rattle.semantics.specs.Thread as source
use Rattle.semantics.specs.Thread.{Shared}
use Rattle.semantics.specs.declared.value.Value.TheVariants.{Int}
use Rattle.semantics.specs.Variable.{Buffer, NoBuffer, StaticReference, Variable, Scalar, LocalRef, Variables}
use Rattle.semantics.specs.ThreadStep.{step_within}
use Rattle.semantics_safety.specs.Owners.{Owners, ThreadOwners, after_tasks, holders, level_held}
use Rattle.code_meaning.specs.Layout.{Slot, Known, with_static, entry_layout}
use Rattle.code_meaning.specs.Slots.{visible_to, AreOfLowest, EntrySlots, AreShared, argument_word, argument_reference, static_index}
use Rattle.code_meaning.specs.Stands.{StandsFor}
use Rattle.code_meaning.specs.Lowered.{Lowered, IsLowered, IsCodeOf, AreCodesOf}
use Rattle.semantics.specs.declared.event.Event.TheVariants as event
use Rattle.machine_threads.specs.declared.thread.Thread.{Thread}
use Rattle.machine_threads.specs.declared.thread.Entering.{Entering}
use Rattle.machine_threads.specs.declared.thread.PendingCall.{PendingCall}
use Rattle.machine_scenes.specs.declared.activation.Activation.{Activation}
use Rattle.machine_scenes.specs.declared.store.Store.{Store}
use Rattle.machine_scenes.specs.StoreAgrees.{AreNamed, StoreAgrees}
use Rattle.machine_scenes.specs.FieldIds.{HandlesAgree}
use Rattle.code_meaning.specs.Slots as meant
use Rattle.machine_scenes.specs.declared.handle.Handle.{Handle}
use Rattle.machine_threads.specs.Callers.{CallersAgree, beside_callers, owner_at}
use Rattle.machine_threads.specs.ThreadAgrees.{CallAgrees, CallsAgree, CallsToComeAgree, EnteringAgrees, ThreadAgrees, buffers_of}
use Rattle.machine_steps.specs.Advances.{Advances}
use Rattle.machine_scenes.specs.Buffers.{Acquired, AreViewed, BuffersAgree, acquired_by, beside}
use Rattle.machine_scenes.specs.HeapAgrees.{times}
use Rattle.machine_steps.proofs.ViewCounts.{none_viewed}
use Rattle.machine_scenes.specs.declared.buffer.Buffer.{Buffer as HeldBuffer}
use Rattle.tables.specs.Elements.{OwnedNumbers}
use Rattle.machine_threads.specs.SlotsHold.{slots_of}
use Rattle.machine_steps.specs.Executes.{in_use_with}
use Rattle.machine_threads.specs.InProgress.{CallStands, WorkAgrees}
use Rattle.machine_scenes.specs.Locals.{FramesAgree, KeysAgree}
use Rattle.machine_steps.proofs.Acquisitions.{entered_nothing, store_same, taken_by}
use Rattle.machine_steps.proofs.SlotBuffers.{no_buffers, none_small}
use Rattle.machine_scenes.proofs.Keeping.{keeps_same}
use Rattle.machine_scenes.proofs.Loaded.{agree_length}
use Rattle.machine_calls.proofs.HeldStatics.{held_there, index_is, name_place, other_after, place_after, place_in_front}
use Rattle.machine_threads.specs.Entry.{given_address, given_word, keys_from, Begins, IsEnteringOf, IsReady}
use Rattle.machine_threads.specs.Held.{held_value}
use Rattle.machine_threads.proofs.LoadLemmas.{in_range}
use Rattle.machine_scenes.specs.HeapAgrees.{ReferenceAgrees, IsTable, ValueAgrees, ValuesAgree}
use Rattle.heap.specs.declared.value.Value.{Value}
use Rattle.heap.specs.declared.value.Value.TheVariants.{Number as Word, Null, Block as Address}
use Rattle.class_rules.specs.declared.class_id.ClassId.{ClassId}
use Rattle.base.specs.Limits.{most_activations}
use Rattle.tables.specs.Locals.{LocalTable}
use Rattle.machine_steps.proofs.EntryKeys.{AddressesAgree, entry_frames, entry_keys}
use Rattle.machine_steps.proofs.Threads.{calls_to_come, resting, still_due}
use Rattle.machine_steps.specs.Pushed.{Enters, IsNext}

-- ---- an entry

-- the names of statics
abbrev names_of : List Static → List Identifier
names_of statics = map (λ (g : Static). g.name) statics

-- the statics that are known before a function are the first of the file, each by its place
record AreFirst (statics : Known) (first : List Static) : Type 0 where
  counted : length statics ≡ length first
  placed : (x : Identifier) → option_map (λ (s : Slot). s.index) (lookup x statics) ≡ name_place x (names_of first)

-- a function's code, after statics of the file
record HasCode (all : List Static) (codes : List Listing) (n : ℕ) (f : Function) : Type 0 where
  code : Listing
  at : slice_get codes n ≡ Some code
  statics : Known
  first : List Static
  more : List Static
  among : all ≡ first ++ more
  placed : AreFirst statics first
  is : IsCodeOf statics f code

-- so it is one after a code more
later : (all : List Static) (c : Listing) (codes : List Listing) (n : ℕ) (f : Function) → HasCode all codes n f → HasCode all (c ∷ codes) (suc n) f
later all c codes n f h = record { code = h.code; at = h.at; statics = h.statics; first = h.first; more = h.more; among = h.among; placed = h.placed; is = h.is }

one_more_static : (statics : Known) (front : List Static) (s : Static) → lookup s.name statics ≡ None → AreFirst statics front → AreFirst (with_static s statics) (front ++ s ∷ [])
one_more_static statics front s new h = record {
  counted = let count : length statics ≡ length front = h.counted in let more = length-append front (s ∷ []) in omega (arith, count, more);
  placed = λ x. by_test x (bytes_eq x s.name) refl ∙ ap (name_place x) (sym (map-append (λ (g : Static). g.name) front (s ∷ [])));
}
  where
    by_test : (x : Identifier) (b : Bool) → bytes_eq x s.name ≡ b → option_map (λ (t : Slot). t.index) (if b then Some (record { ty = static_type s.type; index = length statics }) else lookup x statics) ≡ name_place x (names_of front ++ s.name ∷ [])
    by_test x true e =
        let same : x ≡ s.name = (bytes_eq-Decides x s.name).0 e in
        let none : name_place x (names_of front) ≡ None = sym (h.placed x) ∙ ap (λ (y : Identifier). option_map (λ (t : Slot). t.index) (lookup y statics)) same ∙ ap (option_map (λ (t : Slot). t.index)) new in
        ap (λ (n : ℕ). Some n) (h.counted ∙ sym (length-map front (λ (g : Static). g.name))) ∙ sym (place_after x (names_of front) s.name e none)
    by_test x false e = h.placed x ∙ sym (other_after x (names_of front) s.name e)

-- the statics of items
abbrev statics_in : List Item → List Static
statics_in items = filter_map (elim [ StaticItem s ↦ Some s | FunctionItem f ↦ None ]) items

abbrev functions_in : List Item → List Function
functions_in items = filter_map (elim [ StaticItem s ↦ None | FunctionItem f ↦ Some f ]) items

-- the code of a function, where these statics come before the items
code_among : (front : List Static) (statics : Known) (items : List Item) (codes : List Listing) (n : ℕ) (f : Function) → AreFirst statics front → AreCodesOf statics items codes → slice_get (functions_in items) n ≡ Some f
    → HasCode (front ++ statics_in items) codes n f
code_among front statics [] [] n f placed h e = absurd (cc)
code_among front statics [] (c ∷ codes) n f placed h e = absurd h
code_among front statics (StaticItem s ∷ items) codes n f placed h e =
    let same : (front ++ s ∷ []) ++ statics_in items ≡ front ++ s ∷ statics_in items = append_assoc front (s ∷ []) (statics_in items) in
    subst (λ (all : List Static). HasCode all codes n f) same
    (code_among (front ++ s ∷ []) (with_static s statics) items codes n f (one_more_static statics front s h.0 placed) h.1 e)
code_among front statics (FunctionItem g ∷ items) [] n f placed h e = absurd h
code_among front statics (FunctionItem g ∷ items) (c ∷ codes) zero f placed h e =
    record { code = c; at = refl; statics = statics; first = front; more = statics_in items; among = refl; placed = placed; is = let s : g ≡ f = cc in subst (λ (x : Function). IsCodeOf statics x c) s h.0 }
code_among front statics (FunctionItem g ∷ items) (c ∷ codes) (suc n) f placed h e = later (front ++ statics_in items) c codes n f (code_among front statics items codes n f placed h.1 e)

code_of : (p : Lowered) (n : ℕ) (f : Function) → IsLowered p → slice_get (functions_of (unit_tree p.unit)) n ≡ Some f → HasCode (statics_of (unit_tree p.unit)) p.codes n f
code_of p n f lowered e = code_among [] [] (unit_tree p.unit).items p.codes n f (record { counted = refl; placed = λ x. refl }) lowered e

-- ---- statics

-- the statics that are known are among those shared, each at its place
statics_shared : (shared : Shared) (all : List Static) (codes : List Listing) (n : ℕ) (f : Function) (h : HasCode all codes n f) → map (λ (s : Identifier × StaticReference). s.0) shared.statics ≡ names_of all → AreShared h.statics shared
statics_shared shared all codes n f h named x slot at =
    let first : name_place x (names_of h.first) ≡ Some slot.index = sym (h.placed.placed x) ∙ ap (option_map (λ (t : Slot). t.index)) at in
    let place : static_index x shared.statics ≡ Some slot.index =
    index_is x shared.statics
    ∙ ap (name_place x) (named ∙ ap names_of h.among ∙ map-append (λ (g : Static). g.name) h.first h.more)
    ∙ place_in_front x (names_of h.first) (names_of h.more) slot.index first in
    let held = held_there x shared.statics slot.index place in
    record { place = place; held = held.0; there = held.1 }

-- ---- what the slots of references hold at the entry

module _ (space : Space) (loaded : List ℕ) (made : ℕ) (table : IsTable space loaded made) where
  -- an object made at load
  made_agrees : (n : ℕ) → 0 < n → n ≤ made → ReferenceAgrees space (slice_get loaded (n - 1)) (Some n)
  made_agrees n low high =
      let count : length loaded ≡ made = table.counted in
      let found = slice_get-get_or loaded (n - 1) 0 (omega arith) in
      let name : (n - 1) + 1 ≡ n = omega arith in
      subst (λ (o : Option ℕ). ReferenceAgrees space o (Some n)) (sym found) (table.named (n - 1) _ found ∙ ap (λ (m : ℕ). Some m) name)

  within : (n : ℕ) → (nat_lt 0 n && nat_le n made) ≡ true → (0 < n) × (n ≤ made)
  within n h = grind (arith, nat_tests, h)

  both : (a b : Bool) → (a && b) ≡ true → (a ≡ true) × (b ≡ true)
  both true true h = (refl, refl)
  both true false h = absurd (cc)
  both false b h = absurd (cc)

  -- a value of a call of the world agrees as a cell holds it
  held_agrees : (v : ObjectValue) → is_argument made v ≡ true → ValueAgrees space (held_value loaded v) v
  held_agrees (Number z) given = (in_range z given, refl)
  held_agrees (Refers None) given = tt
  held_agrees (Refers (Some n)) given =
      let count : length loaded ≡ made = table.counted in
      let w = within n given in
      let low : 0 < n = w.0 in
      let high : n ≤ made = w.1 in
      let name : n - 1 + 1 ≡ n = omega arith in
      table.named (n - 1) (slice_index_or loaded (n - 1) 0) (slice_get-get_or loaded (n - 1) 0 (omega (arith, low, high, count))) ∙ ap (λ (m : ℕ). Some m) name

  held_agree : (vs : List ObjectValue) → list_all (is_argument made) vs ≡ true → ValuesAgree space (map (held_value loaded) vs) vs
  held_agree [] h = tt
  held_agree (v ∷ vs) h = let b = both (is_argument made v) (list_all (is_argument made) vs) h in (held_agrees v b.0, held_agree vs b.1)

-- what a call is given, by what it is in the source
words_agree : (space : Space) (values : List Value) (vs : List ObjectValue) → ValuesAgree space values vs → filter_map given_word values ≡ filter_map argument_word vs
words_agree space [] [] h = refl
words_agree space [] (v ∷ vs) h = absurd h
words_agree space (x ∷ values) [] h = absurd h
words_agree space (Word n ∷ values) (Number z ∷ vs) h = λ i. h.0.1 i ∷ words_agree space values vs h.1 i
words_agree space (Word n ∷ values) (Refers r ∷ vs) h = absurd h.0
words_agree space (Null ∷ values) (Number z ∷ vs) h = absurd h.0
words_agree space (Null ∷ values) (Refers r ∷ vs) h = words_agree space values vs h.1
words_agree space (Address a ∷ values) (Number z ∷ vs) h = absurd h.0
words_agree space (Address a ∷ values) (Refers r ∷ vs) h = words_agree space values vs h.1

references_counted : (space : Space) (values : List Value) (vs : List ObjectValue) → ValuesAgree space values vs → length (filter_map given_address values) ≡ length (filter_map argument_reference vs)
references_counted space [] [] h = refl
references_counted space [] (v ∷ vs) h = absurd h
references_counted space (x ∷ values) [] h = absurd h
references_counted space (Word n ∷ values) (Number z ∷ vs) h = references_counted space values vs h.1
references_counted space (Word n ∷ values) (Refers r ∷ vs) h = absurd h.0
references_counted space (Null ∷ values) (Number z ∷ vs) h = absurd h.0
references_counted space (Null ∷ values) (Refers r ∷ vs) h = ap suc (references_counted space values vs h.1)
references_counted space (Address a ∷ values) (Number z ∷ vs) h = absurd h.0
references_counted space (Address a ∷ values) (Refers r ∷ vs) h = ap suc (references_counted space values vs h.1)

nulls_agree : (space : Space) (k : ℕ) → AddressesAgree space (replicate k None) (replicate k None)
nulls_agree space zero = tt
nulls_agree space (suc k) = (tt, nulls_agree space k)

given_agree : (space : Space) (values : List Value) (vs : List ObjectValue) (k : ℕ) → ValuesAgree space values vs → AddressesAgree space (filter_map given_address values ++ replicate k None) (filter_map argument_reference vs ++ replicate k None)
given_agree space [] [] k h = nulls_agree space k
given_agree space [] (v ∷ vs) k h = absurd h
given_agree space (x ∷ values) [] k h = absurd h
given_agree space (Word n ∷ values) (Number z ∷ vs) k h = given_agree space values vs k h.1
given_agree space (Word n ∷ values) (Refers r ∷ vs) k h = absurd h.0
given_agree space (Null ∷ values) (Number z ∷ vs) k h = absurd h.0
given_agree space (Null ∷ values) (Refers r ∷ vs) k h = (h.0, given_agree space values vs k h.1)
given_agree space (Address a ∷ values) (Number z ∷ vs) k h = absurd h.0
given_agree space (Address a ∷ values) (Refers r ∷ vs) k h = (h.0, given_agree space values vs k h.1)

-- ---- a call to be entered

-- one of the world
pub of_world : (p : Lowered) (classes : Classes) (space : Space) (loaded : List ℕ) (made : ℕ) (n : PendingCall) (e : Entering) (call : Invocation) → IsTable space loaded made → CallAgrees p classes made n call → IsEnteringOf loaded n e → EnteringAgrees p classes space made e call
of_world p classes space loaded made n e call table f i = record {
  function = f.function;
  named = f.named;
  numbered = ap (slice_get (functions_of (unit_tree p.unit))) i.function ∙ f.numbered;
  of_class = f.of_class ∙ ap (λ (c : ClassId). Some c.number) (sym i.class);
  class_made = subst (λ (c : ClassId). (0 < c.number) × (c.number ≤ made)) (sym i.class) f.class_made;
  arguments = subst (λ (l : List Value). ValuesAgree space l call.arguments) (sym (i.arguments ∙ ap (map (held_value loaded)) f.arguments)) (held_agree space loaded made table call.arguments f.given);
  fit = f.fit;
  few = f.few;
}

-- the next call, and those after it
pub record Coming (p : Lowered) (classes : Classes) (space : Space) (made : ℕ) (e : Entering) (nexts : List PendingCall) (calls : List Invocation) : Type 0 where
  pub call : Invocation
  pub rest : List Invocation
  pub is : calls ≡ call ∷ rest
  pub function : EnteringAgrees p classes space made e call
  pub agrees : CallsAgree p classes made nexts rest

first_of_world : (p : Lowered) (classes : Classes) (space : Space) (loaded : List ℕ) (made : ℕ) (n : PendingCall) (e : Entering) (all nexts : List PendingCall) (calls : List Invocation) → IsTable space loaded made → CallsAgree p classes made all calls → all ≡ n ∷ nexts → IsEnteringOf loaded n e → Coming p classes space made e nexts calls
first_of_world p classes space loaded made n e [] nexts calls table h is of = absurd (cc)
first_of_world p classes space loaded made n e (x ∷ xs) nexts [] table h is of = absurd h
first_of_world p classes space loaded made n e (x ∷ xs) nexts (c ∷ calls) table h is of =
    let head : x ≡ n = cc in
    let tail : xs ≡ nexts = cc in
    record {
      call = c;
      rest = calls;
      is = refl;
      function = of_world p classes space loaded made n e c table (subst (λ m. CallAgrees p classes made m c) head h.0) of;
      agrees = subst (λ l. CallsAgree p classes made l calls) tail h.1;
    }

pub coming : (p : Lowered) (classes : Classes) (space : Space) (loaded : List ℕ) (made : ℕ) (o : Option Entering) (e : Entering) (all nexts : List PendingCall) (calls : List Invocation) → IsTable space loaded made → CallsToComeAgree p classes space made o all calls → IsNext loaded o all nexts e → Coming p classes space made e nexts calls
coming p classes space loaded made None e all nexts calls table h next = first_of_world p classes space loaded made next.0 e all nexts calls table h next.1 next.2
coming p classes space loaded made (Some x) e all nexts [] table h next = absurd h
coming p classes space loaded made (Some x) e all nexts (c ∷ calls) table h next = record {
  call = c;
  rest = calls;
  is = refl;
  function = subst (λ m. EnteringAgrees p classes space made m c) (sym next.0) h.0;
  agrees = subst (λ l. CallsAgree p classes made l calls) (sym next.1) h.1;
}

-- where there are calls to come, the world has some
pub some_to_come : (p : Lowered) (classes : Classes) (made : ℕ) (nexts : List PendingCall) (calls : List Invocation) → CallsAgree p classes made nexts calls → (calls ≡ [] → ⊥) → 0 < length nexts
some_to_come p classes made [] [] h some = absurd (some refl)
some_to_come p classes made [] (c ∷ calls) h some = absurd h
some_to_come p classes made (n ∷ nexts) calls h some = omega arith

first_given : (p : Lowered) (classes : Classes) (made : ℕ) (n : PendingCall) (all nexts : List PendingCall) (calls : List Invocation) → CallsAgree p classes made all calls → all ≡ n ∷ nexts → list_all (is_argument made) (map object_value_view n.arguments.items) ≡ true
first_given p classes made n [] nexts calls h is = absurd (cc)
first_given p classes made n (x ∷ xs) nexts [] h is = absurd h
first_given p classes made n (x ∷ xs) nexts (c ∷ calls) h is =
    let head : x ≡ n = cc in
    let f = subst (λ m. CallAgrees p classes made m c) head h.0 in
    ap (λ (vs : List ObjectValue). list_all (is_argument made) vs) f.arguments ∙ f.given

-- what the world gives them is among the objects made at load
pub given_to_come : (p : Lowered) (classes : Classes) (space : Space) (made : ℕ) (o : Option Entering) (n : PendingCall) (all nexts : List PendingCall) (calls : List Invocation) → CallsToComeAgree p classes space made o all calls → all ≡ n ∷ nexts → list_all (is_argument made) (map object_value_view n.arguments.items) ≡ true
given_to_come p classes space made None n all nexts calls h is = first_given p classes made n all nexts calls h is
given_to_come p classes space made (Some e) n all nexts [] h is = absurd h
given_to_come p classes space made (Some e) n all nexts (c ∷ calls) h is = first_given p classes made n all nexts calls h.1 is

-- it is ready
pub ready_to_begin : (p : Lowered) (classes : Classes) (space : Space) (made : ℕ) (e : Entering) (call : Invocation) → IsLowered p → EnteringAgrees p classes space made e call → IsReady p made e
ready_to_begin p classes space made e call lowered f =
    let code = code_of p e.function f.function lowered f.numbered in
    let room = code.is.room call.arguments f.fit in
    record {
      class = f.class_made;
      few =
          let count = agree_length space e.arguments.items call.arguments f.arguments in
          let most : length call.arguments ≤ 256 = f.few in
          let less : length e.arguments.items ≤ 256 = omega (arith, count, most) in
          less;
      code = code.code;
      of_function = code.at;
      room = record {
        numbers = let before = room.numbers in let same = ap length (words_agree space e.arguments.items call.arguments f.arguments) in omega (arith, before, same);
        references = let before = room.references in let same = references_counted space e.arguments.items call.arguments f.arguments in omega (arith, before, same);
      };
    }

addresses_length : (space : Space) (xs : List (Option ℕ)) (rs : List Reference) → AddressesAgree space xs rs → length rs ≡ length xs
addresses_length space [] [] h = refl
addresses_length space [] (r ∷ rs) h = absurd h
addresses_length space (x ∷ xs) [] h = absurd h
addresses_length space (x ∷ xs) (r ∷ rs) h = ap suc (addresses_length space xs rs h.1)

-- ---- whose they are

-- each local reference is of level 1
abbrev AreLowest : Variables → Type 0
AreLowest vs = AreOfLowest (holders vs)

one_lowest : (y : Identifier) (v : Variable) (vs : Variables) → ((level : ℕ) → level_held (Some v) ≡ Some level → level ≡ 1) → AreLowest vs → AreLowest ((y, v) ∷ vs)
one_lowest y v vs first rest x level = by_test (bytes_eq x y)
  where
    by_test : (b : Bool) → level_held (if b then Some v else lookup x vs) ≡ Some level → level ≡ 1
    by_test true e = first level e
    by_test false e = rest x level e

level_first : (r : Reference) (level : ℕ) → level_held (Some (LocalRef 1 r)) ≡ Some level → level ≡ 1
level_first None level e = absurd (cc)
level_first (Some n) level e = cc

parameters_lowest : (ps : List (Parameter × ObjectValue)) → AreLowest (parameter_variables ps)
parameters_lowest [] = λ x level e. absurd (cc)
parameters_lowest ((p, Number z) ∷ ps) = one_lowest p.name (Scalar (Int z)) (parameter_variables ps) (λ level e. absurd (cc)) (parameters_lowest ps)
parameters_lowest ((p, Refers r) ∷ ps) = one_lowest p.name (LocalRef 1 r) (parameter_variables ps) (level_first r) (parameters_lowest ps)

-- so it is at the entry
entered_lowest : (s : source.Thread) (rest : List Invocation) (f : Function) (class : ℕ) (arguments : List ObjectValue) → AreLowest (entered s rest f class arguments).variables
entered_lowest s rest f class arguments =
    one_lowest f.class_name (LocalRef 1 (Some class)) (parameter_variables (zip f.parameters arguments)) (level_first (Some class)) (parameters_lowest (zip f.parameters arguments))

-- ---- the call

-- NULL field IDs and method IDs
no_fields : (unit : SourceUnit) (classes : Classes) (n : ℕ) → HandlesAgree unit classes (replicate n None) (replicate n None)
no_fields unit classes zero = tt
no_fields unit classes (suc n) = (tt, no_fields unit classes n)

-- what a function with these variables has of its own
abbrev owned_at : source.Thread → List Invocation → Function → (class : ℕ) → List ObjectValue → Owners
owned_at s rest f class arguments = holders (entered s rest f class arguments).variables

-- the call stands for the function's statements
begun : (p : Lowered) (classes : Classes) (space : Space) (copies : List (Option OwnedNumbers)) (k : ℕ) (loaded : List ℕ) (made : ℕ) (shared : Shared) (s : source.Thread) (rest : List Invocation) (n : Entering) (c : Invocation) (call : Activation) → IsLowered p → IsTable space loaded made → AreNamed p shared → (f : EnteringAgrees p classes space made n c) → Begins p loaded n call
    → CallStands p classes space copies k call (visible_to (owned_at s rest f.function n.class.number c.arguments) shared (entered s rest f.function n.class.number c.arguments)) (entry_frame (n.class.number ∷ filter_map named_object c.arguments) ∷ []) (tasks_of f.function.body)
begun p classes space copies k loaded made shared s rest n c call lowered table statics f b =
    let found = code_of p n.function f.function lowered f.numbered in
    let same : found.code ≡ b.code = cc (found.at, b.of_function) in
    let is_code = subst (λ (k : Listing). IsCodeOf found.statics f.function k) same found.is in
    let begins = b.begins in
    let words = begins.numbers in
    let slots = begins.given in
    let fields : List (Option meant.Handle) = replicate b.code.slots.field_ids None in
    let references : List Reference = Some n.class.number ∷ filter_map argument_reference c.arguments ++ replicate slots.more None in
    let owners : List (Option ℕ) = replicate b.code.slots.references (Some 1) in
    let buffers : List Buffer = replicate b.code.slots.buffers NoBuffer in
    let agree : AddressesAgree space begins.addresses references =
    subst (λ (l : List (Option ℕ)). AddressesAgree space l references) (sym slots.given) (made_agrees space loaded made table n.class.number f.class_made.0 f.class_made.1, given_agree space n.arguments.items c.arguments slots.more f.arguments) in
    let keys : KeysAgree space call.locals call.slots.references.items references owners =
    subst (λ (l : List (Option ℕ)). KeysAgree space call.locals l references owners) (sym begins.references)
    (subst (λ (t : LocalTable). KeysAgree space t (keys_from 0 begins.addresses) references owners) (sym begins.locals) (entry_keys space begins.addresses references b.code.slots.references agree)) in
    let entry : EntrySlots b.code n.class.number c.arguments (slots_of call (record { references = references; owners = owners; fields = fields; buffers = buffers })) =
    record {
      fields = length-replicate {A = Option meant.Handle} b.code.slots.field_ids None;
      buffers = length-replicate {A = Buffer} b.code.slots.buffers NoBuffer;
      numbers = words.counted;
      more_numbers = words.more;
      words = words.given ∙ ap (λ (ws : List ℕ). ws ++ words.more) (words_agree space n.arguments.items c.arguments f.arguments);
      references = addresses_length space begins.addresses references agree ∙ slots.counted;
      more_references = replicate slots.more None;
      given = refl;
      owners = refl;
    } in
    record {
      code = b.code;
      of_function = ap (slice_get p.codes) begins.function ∙ b.of_function;
      known = (entry_layout found.statics f.function).known;
      stands = subst (λ (m : ℕ). StandsFor b.code (entry_layout found.statics f.function).known m call.stack (tasks_of f.function.body)) (sym begins.place)
          (subst (λ (st : List ℕ). StandsFor b.code (entry_layout found.statics f.function).known 0 st (tasks_of f.function.body)) (sym begins.stack) is_code.begins);
      meant = record { references = references; owners = owners; fields = fields; buffers = buffers };
      holds = record {
        keys = keys;
        fields = subst (λ (l : List (Option Handle)). HandlesAgree (unit_tree p.unit) classes l fields) (sym begins.fields) (no_fields (unit_tree p.unit) classes b.code.slots.field_ids);
        buffers = subst (λ (l : List HeldBuffer). BuffersAgree space copies k l buffers) (sym begins.buffers) (no_buffers space copies k b.code.slots.buffers);
        small = none_small b.code.slots.buffers;
      };
      frames_agree = subst (λ (t : LocalTable). FramesAgree space t (entry_frame (n.class.number ∷ filter_map named_object c.arguments) ∷ [])) (sym begins.locals)
          (entry_frames space n.class.number c.arguments slots.more begins.addresses agree);
      shows = is_code.shows (owned_at s rest f.function n.class.number c.arguments) shared s rest n.class.number c.arguments (slots_of call (record { references = references; owners = owners; fields = fields; buffers = buffers }))
          f.fit entry (statics_shared shared (statics_of (unit_tree p.unit)) p.codes n.function f.function found statics) (entered_lowest s rest f.function n.class.number c.arguments);
      depth = ap (depth_at b.code.instrs) begins.place ∙ ap (λ (st : List ℕ). Some (length st)) (sym begins.stack);
    }

pub enters : (p : Lowered) (w : World) (store : Store) (others : Acquired) (k : ℕ) (own : ThreadOwners) (shared : Shared) (t after : Thread) (s : source.Thread) → IsLowered p → StoreAgrees p w store shared (beside (beside_callers others s) (acquired_by s)) → ThreadAgrees p w.classes store.heap store.elements (length (loaded_objects w)) k own shared t s
    → t.call ≡ None → Enters p store.loaded.items t after → after.entering ≡ None → after.callers ≡ t.callers → after.pending ≡ t.pending → after.ending ≡ t.ending → Advances p w store store others k own shared s after false event.Quiet
enters p w store others k own shared t after s lowered shares h none next no_entry callers pending ending =
    let classes : Classes = w.classes in
    let space : Space = store.heap in
    let made : ℕ = length (loaded_objects w) in
    let owner = owner_at k (length s.callers) in
    let n = next.entering in
    let c = coming p classes space store.loaded.items made t.entering n t.calls.items after.calls.items s.calls shares.table h.calls next.next in
    let f = c.function in
    let next_thread : source.Thread = entered s c.rest f.function n.class.number c.call.arguments in
    let now : Owners = holders next_thread.variables in
    let found : enter (unit_tree p.unit) classes s s.calls ≡ Some next_thread =
    ap (enter (unit_tree p.unit) classes s) c.is
    ∙ ap (entered_function classes s c.call c.rest) f.named
    ∙ ap (option_map (λ d. entered s c.rest f.function d c.call.arguments)) f.of_class in
    let rests : s.tasks ≡ None = resting p classes space store.elements owner (visible_to own.current shared s) s.frames t.call s.tasks h.work none in
    record {
      next_shared = shared;
      next = next_thread;
      steps = ap (step_within (unit_tree p.unit) classes (in_use_with (beside_callers others s) s) k shared s false) rests ∙ ap (entry_advance shared) found;
      store_agrees = store_same p w store shared (beside_callers others s) s.variables next_thread.variables (entered_nothing f.function.class_name 1 n.class.number (zip f.function.parameters c.call.arguments) ∙ sym (ap taken_by (h.idle rests))) shares;
      keeps = keeps_same space shared;
      keeps_copies = λ key c there other. there;
      agrees = subst (λ (o : ThreadOwners). ThreadAgrees p classes space store.elements made k o shared after next_thread) (sym (ap (λ (o : Option (List Task)). after_tasks (unit_tree p.unit) classes k shared s o own event.Quiet next_thread.variables) rests)) (record {
        calls = calls_to_come p classes space made after.entering after.calls.items c.rest no_entry c.agrees;
        due = still_due after.entering next_thread.tasks next_thread.callers no_entry (λ b. cc);
        work = subst (λ a. WorkAgrees p classes space store.elements owner (visible_to now shared next_thread) a next_thread.frames (Some (tasks_of f.function.body))) (sym next.active) (begun p classes space store.elements owner store.loaded.items made shared s c.rest n c.call next.activation lowered shares.table shares.named f next.begins);
        callers = subst (λ (v : Vec Activation). CallersAgree p classes space store.elements k shared (reverse v.items) own.callers s.callers) (sym callers) h.callers;
        few = subst (λ (v : Vec Activation). length v.items < most_activations) (sym callers) h.few;
        pending = subst (λ (a : Option ℕ). ReferenceAgrees space a s.pending) (sym pending) h.pending;
        ending = h.ending ∙ sym ending;
        busy = λ a b d. cc;
        caught = λ b. absurd (cc);
        idle = λ b. absurd (cc);
        views = subst (λ (a : Option Activation). AreViewed space (buffers_of a) next_thread) (sym next.active)
            (subst (λ (l : List HeldBuffer). AreViewed space l next_thread) (sym next.begins.begins.buffers)
            (λ m. omega (arith, ap (times m) (none_viewed space next.begins.code.slots.buffers))));
      });
      short = λ e. absurd (cc);
    }
