-- Lists the other way round, as memory has callers, and how many callers there are.
use Rattle.std.proofs.Common.{◌≡◌, ℕ, suc, List, [], ◌∷◌, ◌++◌, length, map, reverse, Option, refl, sym, ap, ◌∙◌, subst}
use Rattle.std.specs.List.{AllByRecursion}
use Rattle.std.proofs.lemmas.List.{map-append, reverse-append}
use Rattle.class_rules.specs.Class.{Classes}
use Rattle.heap.specs.Heap.{Space}
use Rattle.semantics.specs.Thread.{Caller, Shared}
use Rattle.semantics_safety.specs.Owners.{Owners}
use Rattle.code_meaning.specs.Lowered.{Lowered}
use Rattle.machine_scenes.specs.declared.activation.Activation.{Activation}
use Rattle.tables.specs.Elements.{OwnedNumbers}
use Rattle.machine_threads.specs.Callers.{CallersAgree}

pub map_reversed : {A B : Type 0} (f : A → B) (xs : List A) → reverse (map f xs) ≡ map f (reverse xs)
map_reversed f [] = refl
map_reversed {A} {B} f (x ∷ xs) =
    reverse-append (f x ∷ []) (map f xs)
    ∙ ap (λ (l : List B). l ++ f x ∷ []) (map_reversed f xs)
    ∙ sym (map-append f (reverse xs) (x ∷ []))
    ∙ ap (map f) (sym (reverse-append (x ∷ []) xs))

-- what holds of each holds of each then
all_both : {A : Type 0} (P : A → Type 0) (xs ys : List A) → AllByRecursion P xs → AllByRecursion P ys → AllByRecursion P (xs ++ ys)
all_both P [] ys h k = k
all_both P (x ∷ xs) ys h k = (h.0, all_both P xs ys h.1 k)

pub all_reversed : {A : Type 0} (P : A → Type 0) (xs : List A) → AllByRecursion P xs → AllByRecursion P (reverse xs)
all_reversed P [] h = tt
all_reversed P (x ∷ xs) h = subst (AllByRecursion P) (sym (reverse-append (x ∷ []) xs)) (all_both P (reverse xs) (x ∷ []) (all_reversed P xs h.1) (h.0, tt))

-- ---- callers

-- there are as many of them
pub callers_counted : (p : Lowered) (classes : Classes) (space : Space) (copies : List (Option OwnedNumbers)) (k : ℕ) (shared : Shared) (calls : List Activation) (owners : List Owners) (callers : List Caller) → CallersAgree p classes space copies k shared calls owners callers → length calls ≡ length callers
callers_counted p classes space copies k shared [] [] [] h = refl
callers_counted p classes space copies k shared (call ∷ calls) (own ∷ owners) (c ∷ callers) h = ap suc (callers_counted p classes space copies k shared calls owners callers h.1)
callers_counted p classes space copies k shared calls owners callers h = absurd h

-- where the source has none, memory has none
pub none_there : (p : Lowered) (classes : Classes) (space : Space) (copies : List (Option OwnedNumbers)) (k : ℕ) (shared : Shared) (calls : List Activation) (owners : List Owners) (callers : List Caller) → CallersAgree p classes space copies k shared calls owners callers → callers ≡ []
    → (calls ≡ []) × (owners ≡ [])
none_there p classes space copies k shared [] [] [] h none = (refl, refl)
none_there p classes space copies k shared (call ∷ calls) (own ∷ owners) (c ∷ callers) h none = absurd (cc)
none_there p classes space copies k shared calls owners callers h none = absurd h
