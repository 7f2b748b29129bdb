-- Buffers in slots, once one of them or what they show has changed.
use Rattle.std.proofs.Common.{◌≡◌, ◌≢◌, ◌⊎◌, inl, inr, ℕ, zero, suc, ℤ, ◌<◌, ◌≤◌, ◌^◌, List, [], ◌∷◌, length, map, replicate, Option, Some, refl, sym, ap, ◌∙◌, arith}
use Rattle.std.specs.Prelude.{slice_get, slice_set, unwrap_or, FitsSigned}
use Rattle.std.specs.Int.{w32, cast_unsigned}
use Rattle.std.specs.List.{AllByRecursion, AllZip}
use Rattle.std.specs.Option.{option_map_or}
use Rattle.std.proofs.lemmas.List.{length-map}
use Rattle.std.proofs.lemmas.Option.{slice_get_within}
use Rattle.std.proofs.lemmas.Slice.Zip.{AllZip-long}
use Rattle.heap.specs.Heap.{Space, name_at, values_at}
use Rattle.heap.specs.declared.value.Value.{Value}
use Rattle.heap.specs.declared.value.Value.TheVariants.{Number as Word, Null, Block as Address}
use Rattle.semantics.specs.Heap.{number_in, numbers_of, values_of}
use Rattle.semantics.specs.Object.{ObjectValue, Number, Refers}
use Rattle.semantics.specs.Thread.{Shared}
use Rattle.semantics.specs.Variable.{Buffer, NoBuffer}
use Rattle.semantics.specs.World.{World}
use Rattle.semantics_typing.proofs.Lists.{all_get, zip_at}
use Rattle.tables.specs.Elements.{OwnedNumbers, owned}
use Rattle.tables.specs.Keys.{value_at}
use Rattle.code_meaning.specs.Lowered.{Lowered}
use Rattle.code_meaning.specs.Slots.{elements_in, is_no_buffer}
use Rattle.machine_answers.specs.Answers.{AreWordsOf}
use Rattle.machine_scenes.specs.Buffers as in_slot
use Rattle.machine_scenes.specs.Buffers.{Acquired, BufferAgrees, BuffersAgree}
use Rattle.machine_answers.specs.Copies.{word_of, words_at}
use Rattle.machine_scenes.specs.HeapAgrees.{ValueAgrees, ValuesAgree}
use Rattle.machine_scenes.specs.StoreAgrees.{StoreAgrees}
use Rattle.machine_answers.specs.WorkedOut.{buffer_there}
use Rattle.machine_scenes.specs.declared.buffer.Buffer.{Buffer as HeldBuffer}
use Rattle.machine_scenes.specs.declared.buffer.Buffer.TheVariants as held
use Rattle.machine_scenes.specs.declared.store.Store.{Store}
use Rattle.machine_scenes.proofs.BlocksOfNames.{is_address}
use Rattle.machine_answers.proofs.FewValues.{few_values}
use Rattle.machine_answers.proofs.FieldValues.{values_there}
use Rattle.machine_scenes.proofs.KeyLaws.{set_cases}
use Rattle.machine_scenes.proofs.Loaded.{agree_length}
use Rattle.machine_steps.specs.BufferElements.{IsOfBlock, words_held}
use Rattle.machine_threads.specs.SlotsHold.{IsSmallCopy}
use Rattle.machine_steps.specs.Variables.{is_null_buffer}

-- ---- lists

module _ {A B : Type 0} (P Q : A → B → Type 0) where
  zip_all : (xs : List A) (ys : List B) → AllZip P xs ys → ((j : ℕ) (x : A) (y : B) → slice_get xs j ≡ Some x → P x y → Q x y) → AllZip Q xs ys
  zip_all [] [] h stay = tt
  zip_all [] (y ∷ ys) h stay = absurd h
  zip_all (x ∷ xs) [] h stay = absurd h
  zip_all (x ∷ xs) (y ∷ ys) h stay = (stay 0 x y refl h.0, zip_all xs ys h.1 (λ j u v at. stay (suc j) u v at))

  zip_put : (xs : List A) (ys : List B) (i : ℕ) (a : A) (b : B) → AllZip P xs ys → Q a b → ((j : ℕ) (x : A) (y : B) → j ≢ i → slice_get xs j ≡ Some x → P x y → Q x y) → AllZip Q (slice_set xs i a) (slice_set ys i b)
  zip_put [] [] i a b h q stay = tt
  zip_put [] (y ∷ ys) i a b h q stay = absurd h
  zip_put (x ∷ xs) [] i a b h q stay = absurd h
  zip_put (x ∷ xs) (y ∷ ys) zero a b h q stay = (q, zip_all xs ys h.1 (λ j u v at. stay (suc j) u v (λ e. cc) at))
  zip_put (x ∷ xs) (y ∷ ys) (suc i) a b h q stay = (stay 0 x y (λ e. cc) refl h.0, zip_put xs ys i a b h.1 q (λ j u v other at. stay (suc j) u v (λ e. other (omega (arith, e))) at))

pub all_put : {A : Type 0} (P : A → Type 0) (xs : List A) (i : ℕ) (x : A) → AllByRecursion P xs → P x → AllByRecursion P (slice_set xs i x)
all_put P [] i x h p = tt
all_put P (y ∷ xs) zero x h p = (p, h.1)
all_put P (y ∷ xs) (suc i) x h p = (h.0, all_put P xs i x h.1 p)

-- ---- slots

pub buffers_count : (space : Space) (copies : List (Option OwnedNumbers)) (k : ℕ) (slots : List HeldBuffer) (buffers : List Buffer) → BuffersAgree space copies k slots buffers → length buffers ≡ length slots
buffers_count space copies k slots buffers h = AllZip-long (BufferAgrees space copies k) slots buffers h.agree

-- the slot of a buffer
pub buffer_held : (space : Space) (copies : List (Option OwnedNumbers)) (k : ℕ) (slots : List HeldBuffer) (buffers : List Buffer) (i : ℕ) (b : Buffer) → BuffersAgree space copies k slots buffers → slice_get buffers i ≡ Some b
    → (h : HeldBuffer) × (slice_get slots i ≡ Some h) × BufferAgrees space copies k h b
buffer_held space copies k slots buffers i b h at = zip_at (BufferAgrees space copies k) slots buffers i b h.agree at

-- what is in it
pub there_is : (slots : List HeldBuffer) (i : ℕ) (h : HeldBuffer) → slice_get slots i ≡ Some h → buffer_there slots i ≡ h
there_is slots i h at = ap (λ (o : Option HeldBuffer). unwrap_or o held.Null) at

-- another buffer in a slot, and the others as they were
pub buffers_put : (space space' : Space) (copies copies' : List (Option OwnedNumbers)) (k : ℕ) (slots : List HeldBuffer) (buffers : List Buffer) (i : ℕ) (h : HeldBuffer) (b : Buffer) → BuffersAgree space copies k slots buffers → BufferAgrees space' copies' k h b
    → ((j : ℕ) (g : HeldBuffer) (c : Buffer) → j ≢ i → slice_get slots j ≡ Some g → BufferAgrees space copies k g c → BufferAgrees space' copies' k g c) → ((j key : ℕ) → j ≢ i → slice_get slots j ≡ Some (held.Copy key) → h ≢ held.Copy key)
    → BuffersAgree space' copies' k (slice_set slots i h) (slice_set buffers i b)
buffers_put space space' copies copies' k slots buffers i h b old new stay fresh = record {
  agree = zip_put (BufferAgrees space copies k) (BufferAgrees space' copies' k) slots buffers i h b old.agree new stay;
  apart = λ m j key at there. by_place m j key (set_cases slots i m h (held.Copy key) at) (set_cases slots i j h (held.Copy key) there);
}
  where
    by_place : (m j key : ℕ) → ((m ≡ i) × (h ≡ held.Copy key)) ⊎ ((m ≢ i) × (slice_get slots m ≡ Some (held.Copy key))) → ((j ≡ i) × (h ≡ held.Copy key)) ⊎ ((j ≢ i) × (slice_get slots j ≡ Some (held.Copy key))) → m ≡ j
    by_place m j key (inl (here, e)) (inl (there, f)) = here ∙ sym there
    by_place m j key (inl (here, e)) (inr (other, at)) = absurd (fresh j key other at e)
    by_place m j key (inr (other, at)) (inl (there, e)) = absurd (fresh m key other at e)
    by_place m j key (inr (other, at)) (inr (further, there)) = old.apart m j key at there

-- all as they were
pub buffers_stay : (space space' : Space) (copies copies' : List (Option OwnedNumbers)) (k : ℕ) (slots : List HeldBuffer) (buffers : List Buffer) → BuffersAgree space copies k slots buffers
    → ((j : ℕ) (g : HeldBuffer) (c : Buffer) → slice_get slots j ≡ Some g → BufferAgrees space copies k g c → BufferAgrees space' copies' k g c) → BuffersAgree space' copies' k slots buffers
buffers_stay space space' copies copies' k slots buffers old stay = record { agree = zip_all (BufferAgrees space copies k) (BufferAgrees space' copies' k) slots buffers old.agree stay; apart = old.apart }

-- a buffer stands for what it did where its object stays where it is, and its list as it was
pub buffer_stays : {space space' : Space} {copies copies' : List (Option OwnedNumbers)} {k : ℕ} {g : HeldBuffer} {c : Buffer} → ((a n : ℕ) → name_at space a ≡ Some n → name_at space' a ≡ Some n) → ((key : ℕ) (numbers : OwnedNumbers) → g ≡ held.Copy key → value_at copies key ≡ Some numbers → value_at copies' key ≡ Some numbers)
    → BufferAgrees space copies k g c → BufferAgrees space' copies' k g c
buffer_stays names lists in_slot.null = in_slot.null
buffer_stays {k = k} names lists (in_slot.copy {key = key} {zs = zs} found) = in_slot.copy (lists key (owned k zs) refl found)
buffer_stays names lists (in_slot.view {a = a} {n = n} named) = in_slot.view (names a n named)

-- NULL in a slot
pub buffers_nulled : (space : Space) (copies : List (Option OwnedNumbers)) (k : ℕ) (slots : List HeldBuffer) (buffers : List Buffer) (i : ℕ) → BuffersAgree space copies k slots buffers → BuffersAgree space copies k (slice_set slots i held.Null) (slice_set buffers i NoBuffer)
buffers_nulled space copies k slots buffers i h = buffers_put space space copies copies k slots buffers i held.Null NoBuffer h in_slot.null (λ j g c other at agrees. agrees) (λ j key other at e. cc)

-- no buffer at all
no_zips : (space : Space) (copies : List (Option OwnedNumbers)) (k n : ℕ) → AllZip (BufferAgrees space copies k) (replicate n held.Null) (replicate n NoBuffer)
no_zips space copies k zero = tt
no_zips space copies k (suc n) = (in_slot.null, no_zips space copies k n)

none_copied : (n i key : ℕ) → slice_get (replicate n held.Null) i ≡ Some (held.Copy key) → ⊥
none_copied zero i key at = cc
none_copied (suc n) zero key at = let clash : held.Null ≡ held.Copy key = cc in cc
none_copied (suc n) (suc i) key at = none_copied n i key at

pub no_buffers : (space : Space) (copies : List (Option OwnedNumbers)) (k n : ℕ) → BuffersAgree space copies k (replicate n held.Null) (replicate n NoBuffer)
no_buffers space copies k n = record { agree = no_zips space copies k n; apart = λ i j key at there. absurd (none_copied n i key at) }

pub none_small : (n : ℕ) → AllByRecursion IsSmallCopy (replicate n NoBuffer)
none_small zero = tt
none_small (suc n) = (tt, none_small n)

-- a buffer is NULL where the source's is
null_same : {space : Space} {copies : List (Option OwnedNumbers)} {k : ℕ} {h : HeldBuffer} {b : Buffer} → BufferAgrees space copies k h b → is_null_buffer h ≡ is_no_buffer b
null_same in_slot.null = refl
null_same h = refl

pub null_buffer : (space : Space) (copies : List (Option OwnedNumbers)) (k : ℕ) (slots : List HeldBuffer) (buffers : List Buffer) (i : ℕ) (b : Buffer) → BuffersAgree space copies k slots buffers → slice_get buffers i ≡ Some b → is_null_buffer (buffer_there slots i) ≡ is_no_buffer b
null_buffer space copies k slots buffers i b h at =
    let it = buffer_held space copies k slots buffers i b h at in
    ap is_null_buffer (there_is slots i it.0 it.1) ∙ null_same it.2

-- a view is of a block
of_block : (space : Space) {copies : List (Option OwnedNumbers)} {k : ℕ} {h : HeldBuffer} {b : Buffer} → BufferAgrees space copies k h b → IsOfBlock space h
of_block space (in_slot.view {a = a} {n = n} named) = is_address space a n named
of_block space h = tt

all_of_blocks : (space : Space) (copies : List (Option OwnedNumbers)) (k : ℕ) (slots : List HeldBuffer) (buffers : List Buffer) (i : ℕ) → AllZip (BufferAgrees space copies k) slots buffers → IsOfBlock space (buffer_there slots i)
all_of_blocks space copies k [] buffers i h = tt
all_of_blocks space copies k (g ∷ slots) [] i h = absurd h
all_of_blocks space copies k (g ∷ slots) (b ∷ buffers) zero h = of_block space h.0
all_of_blocks space copies k (g ∷ slots) (b ∷ buffers) (suc i) h = all_of_blocks space copies k slots buffers i h.1

pub slot_of_block : (space : Space) (copies : List (Option OwnedNumbers)) (k : ℕ) (slots : List HeldBuffer) (buffers : List Buffer) (i : ℕ) → BuffersAgree space copies k slots buffers → IsOfBlock space (buffer_there slots i)
slot_of_block space copies k slots buffers i h = all_of_blocks space copies k slots buffers i h.agree

-- ---- elements

one_word : (space : Space) (v : Value) (u : ObjectValue) → ValueAgrees space v u → FitsSigned w32 (number_in u) × (word_of v ≡ cast_unsigned w32 (number_in u))
one_word space (Word n) (Number z) h = h
one_word space (Word n) (Refers r) h = absurd h
one_word space Null (Number z) h = absurd h
one_word space Null (Refers r) h = (record { sfits = omega arith }, refl)
one_word space (Address a) (Number z) h = absurd h
one_word space (Address a) (Refers r) h = (record { sfits = omega arith }, refl)

words_agree : (space : Space) (vs : List Value) (us : List ObjectValue) → ValuesAgree space vs us → AreWordsOf (map word_of vs) (map number_in us)
words_agree space [] [] h = record { fit = tt; same = refl }
words_agree space [] (u ∷ us) h = absurd h
words_agree space (v ∷ vs) [] h = absurd h
words_agree space (v ∷ vs) (u ∷ us) h =
    let one = one_word space v u h.0 in
    let rest = words_agree space vs us h.1 in
    record { fit = (one.0, rest.fit); same = ap (λ (n : ℕ). n ∷ map word_of vs) one.1 ∙ ap (λ (l : List ℕ). cast_unsigned w32 (number_in u) ∷ l) rest.same }

module _ (p : Lowered) (w : World) (store : Store) (shared : Shared) (all : Acquired) (h : StoreAgrees p w store shared all) where
  -- the words of an object are its numbers
  pub words_there : (a n : ℕ) → name_at store.heap a ≡ Some n → AreWordsOf (words_at store.heap a) (numbers_of shared.heap n)
  words_there a n named = words_agree store.heap (values_at store.heap a) (values_of shared.heap n) (values_there p w store shared all h a n named)

  few_numbers : (a n : ℕ) → store.heap.cells ≤ 1048576 → name_at store.heap a ≡ Some n → length (numbers_of shared.heap n) < 2 ^ 31
  few_numbers a n few named =
      let count = agree_length store.heap (values_at store.heap a) (values_of shared.heap n) (values_there p w store shared all h a n named) in
      omega (arith, few_values store.heap a h.laid_out few, count, length-map (values_of shared.heap n) number_in)

  -- what a buffer in a slot holds are its elements
  pub words_are : {k : ℕ} {g : HeldBuffer} {b : Buffer} → BufferAgrees store.heap store.elements k g b → words_held store g ≡ map (λ z. cast_unsigned w32 z) (elements_in b (numbers_of shared.heap))
  words_are in_slot.null = refl
  words_are (in_slot.copy found) = ap (λ (o : Option OwnedNumbers). map (λ z. cast_unsigned w32 z) (option_map_or (λ (c : OwnedNumbers). c.numbers) o [])) found
  words_are (in_slot.view {a = a} {n = n} named) = (words_there a n named).same

  fit_one : {k : ℕ} {g : HeldBuffer} {b : Buffer} (i : ℕ) (z : ℤ) → store.heap.cells ≤ 1048576 → BufferAgrees store.heap store.elements k g b → IsSmallCopy b → slice_get (elements_in b (numbers_of shared.heap)) i ≡ Some z → (i < 2 ^ 31) × FitsSigned w32 z
  fit_one i z few in_slot.null small at = absurd (cc (at))
  fit_one i z few (in_slot.copy {zs = zs} found) small at = (omega (arith, slice_get_within zs i z at, small.0), all_get (FitsSigned w32) zs i z small.1 at)
  fit_one i z few (in_slot.view {a = a} {n = n} named) small at =
      (omega (arith, slice_get_within (numbers_of shared.heap n) i z at, few_numbers a n few named), all_get (FitsSigned w32) (numbers_of shared.heap n) i z (words_there a n named).fit at)

  -- the elements of buffers in slots fit
  pub elements_fit : (k : ℕ) (slots : List HeldBuffer) (buffers : List Buffer) → store.heap.cells ≤ 1048576 → BuffersAgree store.heap store.elements k slots buffers → AllByRecursion IsSmallCopy buffers
      → (slot i : ℕ) (b : Buffer) (z : ℤ) → slice_get buffers slot ≡ Some b → slice_get (elements_in b (numbers_of shared.heap)) i ≡ Some z → (i < 2 ^ 31) × FitsSigned w32 z
  elements_fit k slots buffers few agrees small slot i b z at found =
      let it = buffer_held store.heap store.elements k slots buffers slot b agrees at in
      fit_one i z few it.2 (all_get IsSmallCopy buffers slot b small at) found
