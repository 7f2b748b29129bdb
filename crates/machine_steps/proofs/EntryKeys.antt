-- The keys of a call at its entry stand for the references that it is given, each of which is its variable's own.
use Rattle.std.proofs.Common.{◌≡◌, ℕ, zero, suc, ◌+◌, Bool, true, false, List, [], ◌∷◌, ◌++◌, length, map, filter_map, replicate, Option, Some, None, refl, sym, ap, ◌∙◌, subst, arith, if◌then◌else◌}
use Rattle.std.specs.Prelude.{is_none, slice_get}
use Rattle.std.specs.List.{AllZip}
use Rattle.std.proofs.lemmas.Bool.{le-leb}
use Rattle.heap.specs.Heap.{Space}
use Rattle.semantics.specs.Activation.{entry_frame, named_object}
use Rattle.semantics.specs.Object.{ObjectValue, Number, Refers, Reference}
use Rattle.code_meaning.specs.Slots.{argument_reference}
use Rattle.tables.specs.Locals.{level_of}
use Rattle.tables.specs.References.{address_at, references_in}
use Rattle.machine_threads.specs.Entry.{entry_locals, keys_from}
use Rattle.machine_scenes.specs.HeapAgrees.{NamesAgree, ReferenceAgrees}
use Rattle.machine_scenes.specs.Locals.{FramesAgree, KeysAgree}
use Rattle.machine_threads.proofs.EntryTables.{all_taken, taken_references}
use Rattle.machine_threads.proofs.FirstReferences.{no_references}

-- ---- keys

-- a key among those from a place on: the address that it is for, and the place among the references
record IsKeyFrom (place : ℕ) (xs : List (Option ℕ)) (i key : ℕ) : Type 0 where
  offset : ℕ
  key_is : key ≡ place + offset
  address : ℕ
  there : slice_get xs i ≡ Some (Some address)
  at : slice_get (references_in xs) offset ≡ Some address

key_from : (place : ℕ) (xs : List (Option ℕ)) (i key : ℕ) → slice_get (keys_from place xs) i ≡ Some (Some key) → IsKeyFrom place xs i key
key_from place [] i key e = absurd (cc)
key_from place (None ∷ xs) zero key e = absurd (cc)
key_from place (None ∷ xs) (suc i) key e = let k = key_from place xs i key e in record { offset = k.offset; key_is = k.key_is; address = k.address; there = k.there; at = k.at }
key_from place (Some a ∷ xs) zero key e = let same : place ≡ key = cc in record { offset = 0; key_is = omega (arith, same); address = a; there = refl; at = refl }
key_from place (Some a ∷ xs) (suc i) key e =
    let k = key_from (suc place) xs i key e in
    let is : key ≡ suc place + k.offset = k.key_is in
    record { offset = suc k.offset; key_is = omega (arith, is); address = k.address; there = k.there; at = k.at }

-- those after a place are none that lies before
no_key : (place : ℕ) (xs : List (Option ℕ)) (i key : ℕ) → place ≡ key → slice_get (keys_from (suc place) xs) i ≡ Some (Some key) → ⊥
no_key place xs i key same e =
    let k = key_from (suc place) xs i key e in
    let is : key ≡ suc place + k.offset = k.key_is in
    omega (arith, same, is)

-- so no two are the same
keys_apart : (place : ℕ) (xs : List (Option ℕ)) (i j key : ℕ) → slice_get (keys_from place xs) i ≡ Some (Some key) → slice_get (keys_from place xs) j ≡ Some (Some key) → i ≡ j
keys_apart place [] i j key e f = absurd (cc)
keys_apart place (None ∷ xs) zero j key e f = absurd (cc)
keys_apart place (None ∷ xs) (suc i) zero key e f = absurd (cc)
keys_apart place (None ∷ xs) (suc i) (suc j) key e f = ap suc (keys_apart place xs i j key e f)
keys_apart place (Some a ∷ xs) zero zero key e f = refl
keys_apart place (Some a ∷ xs) zero (suc j) key e f = absurd (let same : place ≡ key = cc in no_key place xs j key same f)
keys_apart place (Some a ∷ xs) (suc i) zero key e f = absurd (let same : place ≡ key = cc in no_key place xs i key same e)
keys_apart place (Some a ∷ xs) (suc i) (suc j) key e f = ap suc (keys_apart (suc place) xs i j key e f)

-- ---- what they stand for

-- the slot of a reference has its address
taken_at : (given : List ℕ) (i a : ℕ) → slice_get given i ≡ Some a → address_at (all_taken given) i ≡ Some a
taken_at [] i a e = absurd (cc)
taken_at (b ∷ given) zero a e = e
taken_at (b ∷ given) (suc i) a e = taken_at given i a e

level_given : (count i level : ℕ) → slice_get (replicate count (Some 1)) i ≡ Some (Some level) → 1 ≡ level
level_given zero i level e = absurd (cc)
level_given (suc count) zero level e = cc
level_given (suc count) (suc i) level e = level_given count i level e

-- address by address, what references hold
abbrev pub AddressesAgree : Space → List (Option ℕ) → List Reference → Type 0
AddressesAgree space = AllZip (ReferenceAgrees space)

null_keys : (space : Space) (place : ℕ) (xs : List (Option ℕ)) (rs : List Reference) → AddressesAgree space xs rs → map is_none (keys_from place xs) ≡ map is_none rs
null_keys space place [] [] h = refl
null_keys space place [] (r ∷ rs) h = absurd h
null_keys space place (x ∷ xs) [] h = absurd h
null_keys space place (None ∷ xs) (None ∷ rs) h = ap (λ (l : List Bool). true ∷ l) (null_keys space place xs rs h.1)
null_keys space place (None ∷ xs) (Some n ∷ rs) h = absurd h.0
null_keys space place (Some a ∷ xs) (None ∷ rs) h = absurd h.0
null_keys space place (Some a ∷ xs) (Some n ∷ rs) h = ap (λ (l : List Bool). false ∷ l) (null_keys space (suc place) xs rs h.1)

agree_at : (space : Space) (xs : List (Option ℕ)) (rs : List Reference) (i : ℕ) (x : Option ℕ) (r : Reference) → AddressesAgree space xs rs → slice_get xs i ≡ Some x → slice_get rs i ≡ Some r → ReferenceAgrees space x r
agree_at space [] rs i x r h e f = absurd (cc)
agree_at space (y ∷ xs) [] i x r h e f = absurd h
agree_at space (y ∷ xs) (q ∷ rs) zero x r h e f =
    let address : y ≡ x = cc in
    let reference : q ≡ r = cc in
    subst (λ (z : Reference). ReferenceAgrees space x z) reference (subst (λ (z : Option ℕ). ReferenceAgrees space z q) address h.0)
agree_at space (y ∷ xs) (q ∷ rs) (suc i) x r h e f = agree_at space xs rs i x r h.1 e f

-- the only frame is the lowest
lowest_level : (xs : List (Option ℕ)) (key : ℕ) → level_of (entry_locals xs) key ≡ 1
lowest_level xs key = ap (λ (b : Bool). if b then 1 else 0) (le-leb 0 key (omega arith))

pub entry_keys : (space : Space) (xs : List (Option ℕ)) (rs : List Reference) (count : ℕ) → AddressesAgree space xs rs → KeysAgree space (entry_locals xs) (keys_from 0 xs) rs (replicate count (Some 1))
entry_keys space xs rs count h = record {
  nulls = null_keys space 0 xs rs h;
  own = λ i key n level at_key at_name at_level.
      let k = key_from 0 xs i key at_key in
      let place : k.offset ≡ key = let is : key ≡ 0 + k.offset = k.key_is in omega (arith, is) in
      record {
        address = k.address;
        there = subst (λ (j : ℕ). address_at (all_taken (references_in xs)) j ≡ Some k.address) place (taken_at (references_in xs) k.offset k.address k.at);
        name = agree_at space xs rs i (Some k.address) (Some n) h k.there at_name;
        of_level = lowest_level xs key ∙ level_given count i level at_level;
      };
  apart = λ i j key level other at_i at_j own_i own_j. keys_apart 0 xs i j key at_i at_j;
}

-- ---- the frame

names_given : (space : Space) (xs : List (Option ℕ)) (rs : List Reference) → AddressesAgree space xs rs → NamesAgree space (references_in xs) (references_in rs)
names_given space [] [] h = tt
names_given space [] (r ∷ rs) h = absurd h
names_given space (x ∷ xs) [] h = absurd h
names_given space (None ∷ xs) (None ∷ rs) h = names_given space xs rs h.1
names_given space (None ∷ xs) (Some n ∷ rs) h = absurd h.0
names_given space (Some a ∷ xs) (None ∷ rs) h = absurd h.0
names_given space (Some a ∷ xs) (Some n ∷ rs) h = (h.0, names_given space xs rs h.1)

names_count : (space : Space) (xs ns : List ℕ) → NamesAgree space xs ns → length xs ≡ length ns
names_count space [] [] h = refl
names_count space [] (n ∷ ns) h = absurd h
names_count space (x ∷ xs) [] h = absurd h
names_count space (x ∷ xs) (n ∷ ns) h = ap suc (names_count space xs ns h.1)

-- the objects of arguments, and NULL after them
objects_given : (vs : List ObjectValue) (k : ℕ) → references_in (filter_map argument_reference vs ++ replicate k None) ≡ filter_map named_object vs
objects_given [] k = no_references k
objects_given (Number z ∷ vs) k = objects_given vs k
objects_given (Refers None ∷ vs) k = objects_given vs k
objects_given (Refers (Some n) ∷ vs) k = ap (λ (l : List ℕ). n ∷ l) (objects_given vs k)

pub entry_frames : (space : Space) (class : ℕ) (vs : List ObjectValue) (k : ℕ) (xs : List (Option ℕ)) → AddressesAgree space xs (Some class ∷ filter_map argument_reference vs ++ replicate k None)
    → FramesAgree space (entry_locals xs) (entry_frame (class ∷ filter_map named_object vs) ∷ [])
entry_frames space class vs k xs h =
    let names = class ∷ filter_map named_object vs in
    let agree : NamesAgree space (references_in xs) names =
    subst (λ (l : List ℕ). NamesAgree space (references_in xs) (class ∷ l)) (objects_given vs k) (names_given space xs (Some class ∷ filter_map argument_reference vs ++ replicate k None) h) in
    let count = names_count space (references_in xs) names agree in (
      record {
        capacity = ap (λ (n : ℕ). n + 16) count;
        references = record { names = names; agree = subst (λ (l : List ℕ). NamesAgree space l names) (sym (taken_references (references_in xs))) agree; same = λ n. refl };
      },
      tt,
    )
