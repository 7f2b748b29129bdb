-- The places of statics, which stay once one of them holds something else.
use Rattle.std.proofs.Common.{◌≡◌, ◌≢◌, ℕ, zero, suc, true, false, [], ◌∷◌, Option, Some, None, refl, sym, ap, ◌∙◌, subst, if◌then◌else◌}
use Rattle.std.specs.Prelude.{slice_get}
use Rattle.std.specs.Option.{option_map}
use Rattle.std.specs.Str.{bytes_eq}
use Rattle.std.proofs.lemmas.Slice.Eq.{bytes_eq-Decides}
use Rattle.std.proofs.lemmas.Cmp.{nat_list_eq_equiv}
use Rattle.base.specs.Bytes.{Identifier, lookup}
use Rattle.semantics.specs.Variable.{StaticReference, Statics, assign}
use Rattle.code_meaning.specs.Slots.{static_index}
use Rattle.type_rules.proofs.NameLists.{other_name}

-- ---- another name

-- a name shows the same static in both
pub record StaticStays (old new : Statics) (x : Identifier) : Type 0 where
  pub place : static_index x new ≡ static_index x old
  pub there : lookup x new ≡ lookup x old

pub statics_stay : (old new : Statics) → new ≡ old → (x : Identifier) → StaticStays old new x
statics_stay old new same x = record { place = ap (static_index x) same; there = ap (λ (ss : Statics). lookup x ss) same }

pub assigned_stays : (x y : Identifier) (h : StaticReference) (ss : Statics) → y ≢ x → StaticStays ss (assign x h ss) y
assigned_stays x y h [] other = record { place = rw (other_name y x other) refl; there = rw (other_name y x other) refl }
assigned_stays x y h ((z, w) ∷ rest) other =
    let further = assigned_stays x y h rest other in
    elim (bytes_eq x z) as (λ b. bytes_eq x z ≡ b → StaticStays ((z, w) ∷ rest) (if b then (x, h) ∷ rest else (z, w) ∷ assign x h rest) y) [
      | true ↦ λ e.
          let none : bytes_eq y x ≡ false = other_name y x other in
          let none' : bytes_eq y z ≡ false = subst (λ (n : Identifier). bytes_eq y n ≡ false) ((bytes_eq-Decides x z).0 e) none in
          record { place = rw (none, none') refl; there = rw (none, none') refl }
      | false ↦ λ e. record {
        place = ap (λ (o : Option ℕ). if bytes_eq y z then Some 0 else option_map suc o) further.place;
        there = ap (λ (o : Option StaticReference). if bytes_eq y z then Some w else o) further.there;
      }
    ] refl

-- ---- the name itself

-- it holds what is assigned
pub assigned_held : (x : Identifier) (h : StaticReference) (ss : Statics) → lookup x (assign x h ss) ≡ Some h
assigned_held x h [] = rw (nat_list_eq_equiv.refl x) refl
assigned_held x h ((z, w) ∷ rest) =
    elim (bytes_eq x z) as (λ b. bytes_eq x z ≡ b → lookup x (if b then (x, h) ∷ rest else (z, w) ∷ assign x h rest) ≡ Some h) [
      | true ↦ λ e. rw (nat_list_eq_equiv.refl x) refl
      | false ↦ λ e. rw e (assigned_held x h rest)
    ] refl

-- and keeps its place, if it is there
pub assigned_place : (x : Identifier) (h : StaticReference) (i : ℕ) (ss : Statics) → static_index x ss ≡ Some i → static_index x (assign x h ss) ≡ Some i
assigned_place x h i [] at = absurd (cc)
assigned_place x h i ((z, w) ∷ rest) at =
    elim (bytes_eq x z) as (λ b. bytes_eq x z ≡ b → (if b then Some 0 else option_map suc (static_index x rest)) ≡ Some i → static_index x (if b then (x, h) ∷ rest else (z, w) ∷ assign x h rest) ≡ Some i) [
      | true ↦ λ e k. rw (nat_list_eq_equiv.refl x) k
      | false ↦ λ e k. rw e (later (static_index x rest) refl k (λ j is. assigned_place x h j rest is))
    ] refl at
  where
    later : (o : Option ℕ) → static_index x rest ≡ o → option_map suc o ≡ Some i → ((j : ℕ) → static_index x rest ≡ Some j → static_index x (assign x h rest) ≡ Some j) → option_map suc (static_index x (assign x h rest)) ≡ Some i
    later None is k further = absurd (cc)
    later (Some j) is k further = ap (option_map suc) (further j is) ∙ k

-- what is there is a static of that name
pub there_at : (x : Identifier) (i : ℕ) (v : StaticReference) (ss : Statics) → static_index x ss ≡ Some i → lookup x ss ≡ Some v → slice_get ss i ≡ Some (x, v)
there_at x i v [] at there = absurd (cc)
there_at x i v ((z, w) ∷ rest) at there =
    elim (bytes_eq x z) as (λ b. bytes_eq x z ≡ b → (if b then Some 0 else option_map suc (static_index x rest)) ≡ Some i → (if b then Some w else lookup x rest) ≡ Some v → slice_get ((z, w) ∷ rest) i ≡ Some (x, v)) [
      | true ↦ λ e k l. first i ((bytes_eq-Decides x z).0 e) k l
      | false ↦ λ e k l. later i (static_index x rest) refl k (λ j is. there_at x j v rest is l)
    ] refl at there
  where
    first : (i : ℕ) → x ≡ z → Some 0 ≡ Some i → Some w ≡ Some v → slice_get ((z, w) ∷ rest) i ≡ Some (x, v)
    first zero same k l =
        let held : w ≡ v = cc in
        ap (λ (n : Identifier). Some (n, w)) (sym same) ∙ ap (λ (q : StaticReference). Some (x, q)) held
    first (suc i) same k l = absurd (cc)

    later : (i : ℕ) (o : Option ℕ) → static_index x rest ≡ o → option_map suc o ≡ Some i → ((j : ℕ) → static_index x rest ≡ Some j → slice_get rest j ≡ Some (x, v)) → slice_get ((z, w) ∷ rest) i ≡ Some (x, v)
    later i None is k further = absurd (cc)
    later zero (Some j) is k further = absurd (cc)
    later (suc i) (Some j) is k further = let same : j ≡ i = cc in further i (is ∙ ap (λ (n : ℕ). Some n) same)
