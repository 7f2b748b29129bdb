-- The references of a call before its first instruction, argument by argument.
use Rattle.std.proofs.Common.{◌≡◌, ℕ, zero, suc, ◌+◌, ◌<◌, ◌≤◌, List, [], ◌∷◌, ◌++◌, length, filter_map, replicate, take, Option, Some, None, refl, sym, ap, ◌∙◌, subst, arith, append-nil, length-append}
use Rattle.std.specs.Prelude.{slice_get}
use Rattle.std.specs.List.{cons_option}
use Rattle.heap.specs.declared.value.Value.{Value}
use Rattle.tables.specs.References.{references_in}
use Rattle.machine_threads.specs.Entry.{given_address, keys_from}
use Rattle.machine_threads.proofs.ArgumentSlots.{given_more}
use Rattle.machine_threads.proofs.EntryTables.{references_after}

-- ---- one argument more

consed_less : {Y : Type 0} (o : Option Y) (xs ys : List Y) → length xs < length ys → length (cons_option o xs) < length (cons_option o ys)
consed_less None xs ys less = less
consed_less (Some y) xs ys less = omega (arith, less)

-- before what an argument gives there is less than all
pub less_before : {Y : Type 0} (h : Value → Option Y) (xs : List Value) (i : ℕ) (x : Value) (y : Y) → slice_get xs i ≡ Some x → h x ≡ Some y → length (filter_map h (take i xs)) < length (filter_map h xs)
less_before h [] i x y at is = absurd (cc)
less_before {Y} h (a ∷ xs) zero x y at is =
    let same : a ≡ x = cc in
    subst (λ (o : Option Y). 0 < length (cons_option o (filter_map h xs))) (sym (ap h same ∙ is)) (omega arith)
less_before h (a ∷ xs) (suc i) x y at is = consed_less (h a) (filter_map h (take i xs)) (filter_map h xs) (less_before h xs i x y at is)

-- ---- slots that are NULL

pub no_references : (n : ℕ) → references_in (replicate n None) ≡ []
no_references zero = refl
no_references (suc n) = no_references n

pub references_of_nulls : (xs : List (Option ℕ)) (n : ℕ) → references_in (xs ++ replicate n None) ≡ references_in xs
references_of_nulls xs n = references_after xs (replicate n None) ∙ ap (λ (l : List ℕ). references_in xs ++ l) (no_references n) ∙ append-nil (references_in xs)

pub keys_of_nulls : (place : ℕ) (xs : List (Option ℕ)) (n : ℕ) → keys_from place (xs ++ replicate n None) ≡ keys_from place xs ++ replicate n None
keys_of_nulls place [] zero = refl
keys_of_nulls place [] (suc n) = ap (λ (l : List (Option ℕ)). None ∷ l) (keys_of_nulls place [] n)
keys_of_nulls place (None ∷ xs) n = ap (λ (l : List (Option ℕ)). None ∷ l) (keys_of_nulls place xs n)
keys_of_nulls place (Some a ∷ xs) n = ap (λ (l : List (Option ℕ)). Some place ∷ l) (keys_of_nulls (suc place) xs n)

-- how many references but NULL there are after an argument
pub counted_more : (xs : List Value) (i : ℕ) (x : Value) → slice_get xs i ≡ Some x → length (references_in (filter_map given_address (take (i + 1) xs))) ≡ length (references_in (filter_map given_address (take i xs))) + length (references_in (filter_map given_address (x ∷ [])))
counted_more xs i x at =
    ap (λ (l : List (Option ℕ)). length (references_in l)) (given_more given_address xs i x at)
    ∙ ap length (references_after (filter_map given_address (take i xs)) (filter_map given_address (x ∷ [])))
    ∙ length-append (references_in (filter_map given_address (take i xs))) (references_in (filter_map given_address (x ∷ [])))

-- the keys of a further argument, with the class's before them
pub key_more : (o : Option ℕ) (xs : List Value) (i : ℕ) (x : Value) → slice_get xs i ≡ Some x → keys_from 0 (o ∷ filter_map given_address (take (i + 1) xs)) ≡ keys_from 0 (o ∷ filter_map given_address (take i xs) ++ filter_map given_address (x ∷ []))
key_more o xs i x at = ap (λ (l : List (Option ℕ)). keys_from 0 (o ∷ l)) (given_more given_address xs i x at)

pub reference_more : (o : Option ℕ) (xs : List Value) (i : ℕ) (x : Value) → slice_get xs i ≡ Some x → references_in (o ∷ filter_map given_address (take (i + 1) xs)) ≡ references_in (o ∷ filter_map given_address (take i xs)) ++ references_in (filter_map given_address (x ∷ []))
reference_more o xs i x at =
    ap (λ (l : List (Option ℕ)). references_in (o ∷ l)) (given_more given_address xs i x at)
    ∙ references_after (o ∷ filter_map given_address (take i xs)) (filter_map given_address (x ∷ []))

-- there are as many keys as addresses
pub keys_counted : (place : ℕ) (xs : List (Option ℕ)) → length (keys_from place xs) ≡ length xs
keys_counted place [] = refl
keys_counted place (None ∷ xs) = ap suc (keys_counted place xs)
keys_counted place (Some a ∷ xs) = ap suc (keys_counted (suc place) xs)

-- no more references before an argument than in all
pub references_before : (xs : List Value) (i : ℕ) → length (references_in (filter_map given_address (take i xs))) ≤ length (references_in (filter_map given_address xs))
references_before xs zero = omega arith
references_before [] (suc i) = omega arith
references_before (a ∷ xs) (suc i) = consed (given_address a) (filter_map given_address (take i xs)) (filter_map given_address xs) (references_before xs i)
  where
    consed : (o : Option (Option ℕ)) (ys zs : List (Option ℕ)) → length (references_in ys) ≤ length (references_in zs) → length (references_in (cons_option o ys)) ≤ length (references_in (cons_option o zs))
    consed None ys zs less = less
    consed (Some None) ys zs less = less
    consed (Some (Some b)) ys zs less = omega (arith, less)
