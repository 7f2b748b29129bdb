-- The table of a call's local references as it is made, and the keys in it.
use Rattle.std.proofs.Common.{◌≡◌, ℕ, zero, suc, ◌+◌, ◌-◌, ◌<◌, ◌≤◌, true, List, [], ◌∷◌, ◌++◌, length, map, filter_map, replicate, take, Option, Some, None, inl, inr, refl, sym, ap, ◌∙◌, arith}
use Rattle.std.specs.Prelude.{slice_get}
use Rattle.std.proofs.lemmas.Bool.Decides.{nat_tests}
use Rattle.std.proofs.lemmas.List.{length-map, take_all}
use Rattle.heap.specs.declared.value.Value.{Value}
use Rattle.heap.specs.declared.value.Value.TheVariants.{Number as Word, Null, Block as Address}
use Rattle.tables.specs.Locals.{LocalTable, has_room, IsMade}
use Rattle.tables.specs.References.{references_in, IsPut}
use Rattle.machine_threads.specs.Entry.{given_address, keys_from}

-- ---- one address more

-- what comes after the first ones
pub take_one : (xs : List (Option ℕ)) (i : ℕ) (x : Option ℕ) → slice_get xs i ≡ Some x → take (i + 1) xs ≡ take i xs ++ x ∷ []
take_one xs i x at = let next : i + 1 ≡ suc i = omega arith in ap (λ (n : ℕ). take n xs) next ∙ one xs i at
  where
    one : (ys : List (Option ℕ)) (j : ℕ) → slice_get ys j ≡ Some x → take (suc j) ys ≡ take j ys ++ x ∷ []
    one [] j e = absurd (cc)
    one (y ∷ ys) zero e = let same : y ≡ x = cc in ap (λ (z : Option ℕ). z ∷ []) same
    one (y ∷ ys) (suc j) e = ap (λ (l : List (Option ℕ)). y ∷ l) (one ys j e)

pub references_after : (xs ys : List (Option ℕ)) → references_in (xs ++ ys) ≡ references_in xs ++ references_in ys
references_after [] ys = refl
references_after (None ∷ xs) ys = references_after xs ys
references_after (Some a ∷ xs) ys = ap (λ (l : List ℕ). a ∷ l) (references_after xs ys)

-- the key of a further address
pub keys_after : (place : ℕ) (xs : List (Option ℕ)) (o : Option ℕ) → keys_from place (xs ++ o ∷ []) ≡ keys_from place xs ++ keys_from (place + length (references_in xs)) (o ∷ [])
keys_after place [] o = let same : place + 0 ≡ place = omega arith in ap (λ (n : ℕ). keys_from n (o ∷ [])) (sym same)
keys_after place (None ∷ xs) o = ap (λ (l : List (Option ℕ)). None ∷ l) (keys_after place xs o)
keys_after place (Some a ∷ xs) o =
    let same : suc place + length (references_in xs) ≡ place + suc (length (references_in xs)) = omega arith in
    ap (λ (l : List (Option ℕ)). Some place ∷ l) (keys_after (suc place) xs o ∙ ap (λ (n : ℕ). keys_from (suc place) xs ++ keys_from n (o ∷ [])) same)

-- none more where it is NULL
pub null_key : (xs : List (Option ℕ)) (i : ℕ) → slice_get xs i ≡ Some None → keys_from 0 (take (i + 1) xs) ≡ keys_from 0 (take i xs) ++ None ∷ []
null_key xs i at = ap (keys_from 0) (take_one xs i None at) ∙ keys_after 0 (take i xs) None

pub next_key : (xs : List (Option ℕ)) (i a : ℕ) → slice_get xs i ≡ Some (Some a) → keys_from 0 (take (i + 1) xs) ≡ keys_from 0 (take i xs) ++ Some (length (references_in (take i xs))) ∷ []
next_key xs i a at =
    let same : 0 + length (references_in (take i xs)) ≡ length (references_in (take i xs)) = omega arith in
    ap (keys_from 0) (take_one xs i (Some a) at) ∙ keys_after 0 (take i xs) (Some a) ∙ ap (λ (n : ℕ). keys_from 0 (take i xs) ++ keys_from n (Some a ∷ [])) same

pub null_reference : (xs : List (Option ℕ)) (i : ℕ) → slice_get xs i ≡ Some None → references_in (take (i + 1) xs) ≡ references_in (take i xs)
null_reference xs i at = ap references_in (take_one xs i None at) ∙ references_after (take i xs) (None ∷ []) ∙ append_none (references_in (take i xs))
  where
    append_none : (l : List ℕ) → l ++ [] ≡ l
    append_none [] = refl
    append_none (x ∷ l) = ap (λ (k : List ℕ). x ∷ k) (append_none l)

pub next_reference : (xs : List (Option ℕ)) (i a : ℕ) → slice_get xs i ≡ Some (Some a) → references_in (take (i + 1) xs) ≡ references_in (take i xs) ++ a ∷ []
next_reference xs i a at = ap references_in (take_one xs i (Some a) at) ∙ references_after (take i xs) (Some a ∷ [])

-- ---- the table

-- slots that all have an address
abbrev pub all_taken : List ℕ → List (Option ℕ)
all_taken given = map (λ a. Some a) given

-- one frame of this capacity, with these references
abbrev pub one_frame : ℕ → List ℕ → LocalTable
one_frame capacity given = record { frames = record { capacity = capacity; first = 0 } ∷ []; slots = all_taken given }

pub taken_references : (given : List ℕ) → references_in (all_taken given) ≡ given
taken_references [] = refl
taken_references (a ∷ given) = ap (λ (l : List ℕ). a ∷ l) (taken_references given)

-- none of them is free
none_free : (given : List ℕ) (place : ℕ) → slice_get (all_taken given) place ≡ Some None → ⊥
none_free [] place e = cc
none_free (a ∷ given) zero e = cc
none_free (a ∷ given) (suc place) e = none_free given place e

-- so there is room for a further reference
pub room_in_one : (capacity : ℕ) (given : List ℕ) → length given < capacity → has_room (one_frame capacity given) ≡ true
room_in_one capacity given few =
    let live : length (references_in (all_taken given)) ≡ length given = ap length (taken_references given) in
    let less : length (references_in (all_taken given)) < capacity = omega (arith, live, few) in
    grind (arith, nat_tests, less)

-- and it comes to the end
pub record AddsOne (capacity : ℕ) (given : List ℕ) (place a : ℕ) (after : LocalTable) : Type 0 where
  pub place_is : place ≡ length given
  pub after_is : after ≡ one_frame capacity (given ++ a ∷ [])

taken_after : (given : List ℕ) (a : ℕ) → all_taken given ++ Some a ∷ [] ≡ all_taken (given ++ a ∷ [])
taken_after [] a = refl
taken_after (b ∷ given) a = ap (λ (l : List (Option ℕ)). Some b ∷ l) (taken_after given a)

pub adds_one : (capacity : ℕ) (given : List ℕ) (place a : ℕ) (after : LocalTable) → IsMade (one_frame capacity given) place a after → AddsOne capacity given place a after
adds_one capacity given place a after made = by_put made.slots
  where
    by_put : IsPut 0 (all_taken given) place a after.slots → AddsOne capacity given place a after
    by_put (inl uses) = absurd (none_free given place uses.was_free)
    by_put (inr adds) =
        let slots : after.slots ≡ all_taken (given ++ a ∷ []) = adds.adds ∙ taken_after given a in
        record {
          place_is = adds.is_end ∙ length-map given (λ (b : ℕ). Some b);
          after_is = ap (λ (s : List (Option ℕ)). let t : LocalTable = record after { slots = s } in t) slots
              ∙ ap (λ fs. let t : LocalTable = record { frames = fs; slots = all_taken (given ++ a ∷ []) } in t) made.frames;
        }

-- ---- what a call is given

pub arguments_few : (ws : List Value) → length (references_in (filter_map given_address ws)) ≤ length ws
arguments_few [] = omega arith
arguments_few (Word n ∷ ws) = let less = arguments_few ws in omega (arith, less)
arguments_few (Null ∷ ws) = let less = arguments_few ws in omega (arith, less)
arguments_few (Address a ∷ ws) = let less = arguments_few ws in omega (arith, less)

-- this number of equal slots
pub resized : {A : Type 0} (x : A) (items : List A) (n m len : ℕ) → items ≡ [] → len ≡ 0 → m ≡ n → take m items ++ replicate (m - len) x ≡ replicate n x
resized {A = A} x items n m len none short same =
    let few : length items ≤ m = omega (arith, ap length none) in
    let count : m - len ≡ n = omega (arith, short, same) in
    ap (λ (l : List A). l ++ replicate (m - len) x) (take_all m items few ∙ none) ∙ ap (λ (k : ℕ). replicate k x) count
