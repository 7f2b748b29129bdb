-- Places at which no rule of types is broken.
use Rattle.std.proofs.Common.{◌≡◌, ℕ, Bool, true, false, ◌||◌, List, [], ◌∷◌, ◌++◌, map, filter, refl, sym, ◌∙◌, if◌then◌else◌}
use Rattle.std.specs.Prelude.{flat_map}
use Rattle.std.specs.List.{list_any}
use Rattle.std.proofs.lemmas.Bool.{or_parts}
use Rattle.std.proofs.lemmas.Grind.{flat_map-append}
use Rattle.type_rules.specs.declared.rule.TypeRule.{TypeRule}
use Rattle.type_rules.specs.declared.rule.TypeRule.TheVariants.{UnknownName, DeclaredTwice, TypeMisfit, UnknownFunction, ArgumentCount, ReferenceCopied, BadMode, ReadOnlyWrite}
use Rattle.type_rules.specs.TypeRules.{typing_rules, Place, breaks, broken_at}

-- no rule is broken at any of the places
abbrev pub AreUnbroken : List Place → Type 0
AreUnbroken places = flat_map broken_at places ≡ []

pub first_empty : {A : Type 0} (xs ys : List A) → xs ++ ys ≡ [] → xs ≡ []
first_empty [] ys e = refl
first_empty (x ∷ xs) ys e = absurd (cc)

pub second_empty : {A : Type 0} (xs ys : List A) → xs ++ ys ≡ [] → ys ≡ []
second_empty [] ys e = e
second_empty (x ∷ xs) ys e = absurd (cc)

pub front_unbroken : (xs ys : List Place) → AreUnbroken (xs ++ ys) → AreUnbroken xs
front_unbroken xs ys h = first_empty (flat_map broken_at xs) (flat_map broken_at ys) (sym (flat_map-append broken_at xs ys) ∙ h)

pub back_unbroken : (xs ys : List Place) → AreUnbroken (xs ++ ys) → AreUnbroken ys
back_unbroken xs ys h = second_empty (flat_map broken_at xs) (flat_map broken_at ys) (sym (flat_map-append broken_at xs ys) ∙ h)

pub first_unbroken : (p : Place) (ps : List Place) → AreUnbroken (p ∷ ps) → broken_at p ≡ []
first_unbroken p ps h = first_empty (broken_at p) (flat_map broken_at ps) h

pub rest_unbroken : (p : Place) (ps : List Place) → AreUnbroken (p ∷ ps) → AreUnbroken ps
rest_unbroken p ps h = second_empty (broken_at p) (flat_map broken_at ps) h

pub none_broken : (p : TypeRule → Bool) (line : ℕ) (rules : List TypeRule) → map {B = ℕ × TypeRule} (λ rule. (line, rule)) (filter p rules) ≡ [] → list_any p rules ≡ false
none_broken p line [] none = refl
none_broken p line (rule ∷ rules) none = by_test (p rule) none (none_broken p line rules)
  where
    by_test : (b : Bool) → map {B = ℕ × TypeRule} (λ r. (line, r)) (if b then rule ∷ filter p rules else filter p rules) ≡ [] → (map {B = ℕ × TypeRule} (λ r. (line, r)) (filter p rules) ≡ [] → list_any p rules ≡ false) → (b || list_any p rules) ≡ false
    by_test true e later = absurd (cc)
    by_test false e later = later e

pub first_false : (a b : Bool) → (a || b) ≡ false → a ≡ false
first_false true b h = absurd (cc)
first_false false b h = refl

pub second_false : (a b : Bool) → (a || b) ≡ false → b ≡ false
second_false true b h = absurd (cc)
second_false false b h = h

-- the rules after that on names that are declared twice
abbrev after_twice : List TypeRule
after_twice = TypeMisfit ∷ UnknownFunction ∷ ArgumentCount ∷ ReferenceCopied ∷ BadMode ∷ ReadOnlyWrite ∷ []

-- a place that breaks no rule declares nothing twice
pub not_twice : (place : Place) → broken_at place ≡ [] → breaks DeclaredTwice place place.form ≡ false
not_twice place none =
    let p : TypeRule → Bool = λ rule. breaks rule place place.form in
    (or_parts (p DeclaredTwice) (list_any p after_twice) ((or_parts (p UnknownName) (list_any p (DeclaredTwice ∷ after_twice)) (none_broken p place.line typing_rules none)).1)).0
