-- Values that are looked at one after the other, each with the type of its place.
use Rattle.std.proofs.Common.{◌≡◌, ℕ, ◌+◌, ◌<◌, ◌≤◌, Bool, true, List, [], ◌∷◌, length, map, drop, get_or, refl, sym, ap, ◌∙◌}
use Rattle.std.specs.Prelude.{◌&&◌}
use Rattle.std.specs.List.{list_all}
use Rattle.std.proofs.Math.ListN.{drop_of_length-le}
use Rattle.std.proofs.lemmas.List.{drop_more, at_drop_more}
use Rattle.base.specs.Bytes.{ByName}
use Rattle.class_rules.specs.Class.{FieldType, Classes}
use Rattle.class_rules.specs.Fields.{FieldId}
use Rattle.world.specs.Gathered.{can_hold, each_can_hold}
use Rattle.world_values.specs.WorldLines.{WorldValue}

-- what all from here on pass, the first and all after it pass
pub next_passes : {X Y : Type 0} (p : Y → Bool) (f : X → Y) (xs : List X) (i : ℕ) (d : X) (b : Bool) → i < length xs → b ≡ p (f (get_or xs i d)) → (b && list_all p (map f (drop (i + 1) xs))) ≡ list_all p (map f (drop i xs))
next_passes p f xs i d b h e = ap (λ t. t && list_all p (map f (drop (i + 1) xs))) e ∙ sym (at_drop_more (λ ys. list_all p (map f ys)) xs i d h)

-- and at the end all have passed
pub all_passed : {X Y : Type 0} (p : Y → Bool) (f : X → Y) (xs : List X) (i : ℕ) → length xs ≤ i → true ≡ list_all p (map f (drop i xs))
all_passed p f xs i h = ap (λ ys. list_all p (map f ys)) (sym (drop_of_length-le xs h))

-- ---- places that can hold values

module _ (classes : Classes) (names : ByName ℕ) where
  no_values : (types : List FieldType) → each_can_hold classes names types [] ≡ true
  no_values [] = refl
  no_values (t ∷ types) = refl

  no_types : (values : List WorldValue) → each_can_hold classes names [] values ≡ true
  no_types [] = refl
  no_types (v ∷ values) = refl

  -- where each place has one type
  all_alike : (t : FieldType) (values : List WorldValue) → each_can_hold classes names (map (λ v. t) values) values ≡ list_all (can_hold classes names t) values
  all_alike t [] = refl
  all_alike t (v ∷ values) = ap (λ b. can_hold classes names t v && b) (all_alike t values)

  -- the same of values in memory
  pub held_alike : {X : Type 0} (view : X → WorldValue) (t : FieldType) (values held : List X) → held ≡ values → list_all (can_hold classes names t) (map view held) ≡ each_can_hold classes names (map (λ v. t) (map view values)) (map view values)
  held_alike view t values held e = ap (λ vs. list_all (can_hold classes names t) (map view vs)) e ∙ sym (all_alike t (map view values))

  module _ {X : Type 0} (view : X → WorldValue) (values : List X) (i : ℕ) where
    -- whether fields of these types can hold the values from here on
    abbrev pub from_here : List FieldId → Bool
    from_here fields = each_can_hold classes names (map (λ (f : FieldId). f.field.type) fields) (map view (drop i values))

    pub held_more : (f : FieldId) (fields : List FieldId) (d : X) → i < length values
        → from_here (f ∷ fields) ≡ (can_hold classes names f.field.type (view (get_or values i d)) && each_can_hold classes names (map (λ (g : FieldId). g.field.type) fields) (map view (drop (i + 1) values)))
    held_more f fields d h = ap (λ vs. each_can_hold classes names (f.field.type ∷ map (λ (g : FieldId). g.field.type) fields) (map view vs)) (drop_more values i d h)

    pub no_place : from_here [] ≡ true
    no_place = no_types (map view (drop i values))

    pub all_held : (fields : List FieldId) → length values ≤ i → from_here fields ≡ true
    all_held fields h = ap (λ vs. each_can_hold classes names (map (λ (f : FieldId). f.field.type) fields) (map view vs)) (drop_of_length-le values h) ∙ no_values (map (λ (f : FieldId). f.field.type) fields)
