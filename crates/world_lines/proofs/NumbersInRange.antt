-- Numbers that are looked at one after the other, each with the type of its place.
use Rattle.std.proofs.Common.{◌≡◌, ℕ, zero, suc, ◌+◌, ◌<◌, ◌≤◌, true, List, [], ◌∷◌, length, map, drop, get_or, Option, refl, sym, ap, ◌∙◌}
use Rattle.std.specs.Prelude.{◌&&◌, slice_get}
use Rattle.std.specs.List.{list_all}
use Rattle.std.proofs.Math.ListN.{drop_of_length-le}
use Rattle.std.proofs.lemmas.List.{drop_more}
use Rattle.std.proofs.lemmas.List.Folds.{list_all-map}
use Rattle.base.specs.declared.element.ElementType.TheVariants.{Int as JInt}
use Rattle.class_rules.specs.Class.{FieldType, NumberField, ReferenceField}
use Rattle.class_rules.specs.Fields.{FieldId}
use Rattle.world_lines.specs.ClassRules.{is_place_in_range}
use Rattle.world_values.specs.WorldLines.{WorldValue}
use Rattle.world_values.specs.WorldRules.{value_in_range, each_in_range}

no_numbers : (types : List FieldType) → each_in_range types [] ≡ true
no_numbers [] = refl
no_numbers (NumberField t ∷ types) = refl
no_numbers (ReferenceField c ∷ types) = refl

first_in_range : (types : List FieldType) (i : ℕ) (v : WorldValue) (values : List WorldValue) → each_in_range (drop i types) (v ∷ values) ≡ (is_place_in_range (slice_get types i) v && each_in_range (drop (suc i) types) values)
first_in_range [] zero v values = refl
first_in_range [] (suc i) v values = refl
first_in_range (NumberField t ∷ types) zero v values = refl
first_in_range (ReferenceField c ∷ types) zero v values = refl
first_in_range (t ∷ types) (suc i) v values = first_in_range types i v values

all_numbers : (t : _) (values : List WorldValue) → each_in_range (map (λ v. NumberField t) values) values ≡ list_all (value_in_range t) values
all_numbers t [] = refl
all_numbers t (v ∷ values) = ap (λ b. value_in_range t v && b) (all_numbers t values)

-- the numbers of an array, as they are held in memory
pub numbers_in_range : {X : Type 0} (view : X → WorldValue) (t : _) (values held : List X) → held ≡ values → list_all (λ x. value_in_range t (view x)) held ≡ each_in_range (map (λ v. NumberField t) (map view values)) (map view values)
numbers_in_range view t values held e =
    ap (list_all (λ x. value_in_range t (view x))) e ∙ sym (list_all-map (value_in_range t) view values) ∙ sym (all_numbers t (map view values))

-- what a call is given, as it is held in memory
pub arguments_in_range : {X : Type 0} (view : X → WorldValue) (values held : List X) → held ≡ values → list_all (λ x. value_in_range JInt (view x)) held ≡ each_in_range [] (map view values)
arguments_in_range view values held e = ap (list_all (λ x. value_in_range JInt (view x))) e ∙ sym (list_all-map (value_in_range JInt) view values)

-- references are no numbers
pub all_references : (c : ℕ) (values : List WorldValue) → each_in_range (map (λ v. ReferenceField c) values) values ≡ true
all_references c [] = refl
all_references c (v ∷ values) = all_references c values

-- the types of these fields
abbrev pub types_of : List FieldId → List FieldType
types_of fields = map (λ (f : FieldId). f.field.type) fields

next_in_range : (fields : List FieldId) (v : WorldValue) (values : List WorldValue) → each_in_range (types_of fields) (v ∷ values) ≡ (is_place_in_range (slice_get (types_of fields) 0) v && each_in_range (types_of (drop 1 fields)) values)
next_in_range [] v values = first_in_range [] zero v values
next_in_range (f ∷ fields) v values = first_in_range (f.field.type ∷ types_of fields) zero v values

module _ {X : Type 0} (view : X → WorldValue) (fields : List FieldId) (values : List X) (i : ℕ) where
  pub in_range_more : (t : Option FieldType) (d : X) → t ≡ slice_get (types_of fields) 0 → i < length values
      → each_in_range (types_of fields) (map view (drop i values)) ≡ (is_place_in_range t (view (get_or values i d)) && each_in_range (types_of (drop 1 fields)) (map view (drop (i + 1) values)))
  in_range_more t d e h =
      ap (λ vs. each_in_range (types_of fields) (map view vs)) (drop_more values i d h)
      ∙ next_in_range fields (view (get_or values i d)) (map view (drop (i + 1) values))
      ∙ ap (λ o. is_place_in_range o (view (get_or values i d)) && each_in_range (types_of (drop 1 fields)) (map view (drop (i + 1) values))) (sym e)

  pub all_in_range : length values ≤ i → each_in_range (types_of fields) (map view (drop i values)) ≡ true
  all_in_range h = ap (λ vs. each_in_range (types_of fields) (map view vs)) (drop_of_length-le values h) ∙ no_numbers (types_of fields)
