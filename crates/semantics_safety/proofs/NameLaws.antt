-- Values by name: one name set, changed or added, and the others as they were.
use Rattle.std.proofs.Common.{◌≡◌, ◌≢◌, Bool, true, false, ◌⊎◌, inl, inr, [], ◌∷◌, map, Option, Some, refl, sym, ap, ◌∙◌, subst, if◌then◌else◌}
use Rattle.std.specs.Option.{option_map}
use Rattle.std.specs.Str.{bytes_eq}
use Rattle.std.proofs.lemmas.Slice.Eq.{bytes_eq-Decides}
use Rattle.base.specs.Bytes.{Identifier, ByName, lookup}
use Rattle.region_rules.specs.RegionStates.{VariableState, RegionState, state_of, with_changed}
use Rattle.semantics.specs.Variable.{assign}
use Rattle.type_rules.proofs.NameLists.{other_name}

-- two names are one or not
pub one_or_other : (x y : Identifier) → (x ≡ y) ⊎ (x ≢ y)
one_or_other x y = by_test (bytes_eq x y) refl
  where
    by_test : (b : Bool) → bytes_eq x y ≡ b → (x ≡ y) ⊎ (x ≢ y)
    by_test true e = inl ((bytes_eq-Decides x y).0 e)
    by_test false e = inr (λ h. let there : bytes_eq x y ≡ true = (bytes_eq-Decides x y).1 h in let c : true ≡ false = sym there ∙ e in cc)

pub is_same : (x : Identifier) → bytes_eq x x ≡ true
is_same x = (bytes_eq-Decides x x).1 refl

-- ---- one more at the front

pub front_same : {A : Type 0} (x : Identifier) (v : A) (vs : ByName A) → lookup x ((x, v) ∷ vs) ≡ Some v
front_same x v vs = ap (λ (b : Bool). if b then Some v else lookup x vs) (is_same x)

pub front_other : {A : Type 0} (x y : Identifier) (v : A) (vs : ByName A) → y ≢ x → lookup y ((x, v) ∷ vs) ≡ lookup y vs
front_other x y v vs h = ap (λ (b : Bool). if b then Some v else lookup y vs) (other_name y x h)

-- ---- one set

pub lookup_same : {A : Type 0} (x : Identifier) (v : A) (vs : ByName A) → lookup x (assign x v vs) ≡ Some v
lookup_same x v [] = front_same x v []
lookup_same x v ((y, w) ∷ rest) = by_test (bytes_eq x y) refl (lookup_same x v rest)
  where
    by_test : (b : Bool) → bytes_eq x y ≡ b → lookup x (assign x v rest) ≡ Some v → lookup x (if b then (x, v) ∷ rest else (y, w) ∷ assign x v rest) ≡ Some v
    by_test true e later = front_same x v rest
    by_test false e later = ap (λ (b : Bool). if b then Some w else lookup x (assign x v rest)) e ∙ later

pub lookup_other : {A : Type 0} (x y : Identifier) (v : A) (vs : ByName A) → y ≢ x → lookup y (assign x v vs) ≡ lookup y vs
lookup_other x y v [] h = front_other x y v [] h
lookup_other {A = A} x y v ((z, w) ∷ rest) h = by_test (bytes_eq x z) refl (lookup_other x y v rest h)
  where
    not_first : bytes_eq x z ≡ true → bytes_eq y z ≡ false
    not_first e = subst (λ (n : Identifier). bytes_eq y n ≡ false) ((bytes_eq-Decides x z).0 e) (other_name y x h)

    by_test : (b : Bool) → bytes_eq x z ≡ b → lookup y (assign x v rest) ≡ lookup y rest → lookup y (if b then (x, v) ∷ rest else (z, w) ∷ assign x v rest) ≡ lookup y ((z, w) ∷ rest)
    by_test true e later = front_other x y v rest h ∙ sym (ap (λ (b : Bool). if b then Some w else lookup y rest) (not_first e))
    by_test false e later = ap (λ (o : Option A). if bytes_eq y z then Some w else o) later

-- ---- what is known

pub changed_same : (x : Identifier) (f : VariableState → VariableState) (vs : ByName VariableState) → lookup x (map (λ (v : Identifier × VariableState). (v.0, if bytes_eq x v.0 then f v.1 else v.1)) vs) ≡ option_map f (lookup x vs)
changed_same x f [] = refl
changed_same x f ((y, v) ∷ vs) = by_test (bytes_eq x y) (changed_same x f vs)
  where
    by_test : (b : Bool) → lookup x (map (λ (v : Identifier × VariableState). (v.0, if bytes_eq x v.0 then f v.1 else v.1)) vs) ≡ option_map f (lookup x vs)
        → (if b then Some (if b then f v else v) else lookup x (map (λ (v : Identifier × VariableState). (v.0, if bytes_eq x v.0 then f v.1 else v.1)) vs)) ≡ option_map f (if b then Some v else lookup x vs)
    by_test true h = refl
    by_test false h = h

pub changed_other : (x y : Identifier) (f : VariableState → VariableState) (vs : ByName VariableState) → y ≢ x → lookup y (map (λ (v : Identifier × VariableState). (v.0, if bytes_eq x v.0 then f v.1 else v.1)) vs) ≡ lookup y vs
changed_other x y f [] h = refl
changed_other x y f ((z, v) ∷ vs) h = by_test (bytes_eq y z) refl (changed_other x y f vs h)
  where
    by_test : (b : Bool) → bytes_eq y z ≡ b → lookup y (map (λ (v : Identifier × VariableState). (v.0, if bytes_eq x v.0 then f v.1 else v.1)) vs) ≡ lookup y vs
        → (if b then Some (if bytes_eq x z then f v else v) else lookup y (map (λ (v : Identifier × VariableState). (v.0, if bytes_eq x v.0 then f v.1 else v.1)) vs)) ≡ (if b then Some v else lookup y vs)
    by_test true e later =
        let other : bytes_eq x z ≡ false = other_name x z (λ same. h ((bytes_eq-Decides y z).0 e ∙ sym same)) in
        ap (λ (b : Bool). Some (if b then f v else v)) other
    by_test false e later = later

pub known_same : (state : RegionState) (x : Identifier) (f : VariableState → VariableState) → state_of (with_changed state x f) x ≡ option_map f (state_of state x)
known_same state x f = changed_same x f state.variables

pub known_other : (state : RegionState) (x y : Identifier) (f : VariableState → VariableState) → y ≢ x → state_of (with_changed state x f) y ≡ state_of state y
known_other state x y f h = changed_other x y f state.variables h
