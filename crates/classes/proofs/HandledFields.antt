-- Fields by handles.
use Rattle.std.proofs.Common.{subst, ◌≡◌, ℕ, ◌<◌, Bool, true, false, List, find, position, Option, Some, None, slice_get, refl, sym, ap, ◌∙◌}
use Rattle.std.specs.Option.{option_map, option_map_or}
use Rattle.std.specs.Prelude.{◌==◌, ◌&&◌}
use Rattle.std.specs.Str.{bytes_eq}
use Rattle.std.proofs.lemmas.Option.{slice_get-map}
use Rattle.base.specs.Bytes.{Identifier}
use Rattle.class_rules.specs.Class.{Field, Classes}
use Rattle.class_rules.specs.Fields.{FieldId, own_statics}
use Rattle.classes.specs.declared.class.FieldHandle.{FieldHandle}
use Rattle.classes.specs.FieldViews.{declared_as, field_of, place_among}
use Rattle.classes.proofs.FoundFields.{fits, identified, found_within, found-here}

-- the field of a handle is one of those that its class declares
pub of_declared : (T : Classes) (h : FieldHandle) → field_of T h ≡ option_map (identified h.is_static h.class.number) (slice_get (declared_as T h.class.number h.is_static) h.place)
of_declared T h = by_kind h.is_static
  where
    by_kind : (s : Bool) → field_of T (record h { is_static = s }) ≡ option_map (identified s h.class.number) (slice_get (declared_as T h.class.number s) h.place)
    by_kind true = slice_get-map (identified true h.class.number) (declared_as T h.class.number true) h.place
    by_kind false = slice_get-map (identified false h.class.number) (declared_as T h.class.number false) h.place

module _ (T : Classes) (c : ℕ) (name : Identifier) (text : List ℕ) (s : Bool) where
  -- the handle of what a class declares itself
  pub found_own : (n place : ℕ) (o : Option FieldId) (fields : List Field) → 0 < n → fields ≡ declared_as T c s → Some (slice_get fields place) ≡ option_map (λ f. Some f) (find (fits T name text) fields) → found_within n T c name text s ≡ o
      → Some (field_of T (record { class = record { number = c }; place = place; is_static = s })) ≡ option_map (λ f. Some f) o
  found_own n place o fields low is h found = by_field (find (fits T name text) (declared_as T c s)) refl (subst (λ fs. Some (slice_get fs place) ≡ option_map (λ f. Some f) (find (fits T name text) fs)) is h)
    where
      by_field : (g : Option Field) → find (fits T name text) (declared_as T c s) ≡ g → Some (slice_get (declared_as T c s) place) ≡ option_map (λ f. Some f) g → Some (field_of T (record { class = record { number = c }; place = place; is_static = s })) ≡ option_map (λ f. Some f) o
      by_field None e q = absurd (cc)
      by_field (Some f) e q =
          let there : slice_get (declared_as T c s) place ≡ Some f = cc in
          let whole : o ≡ Some (identified s c f) = sym found ∙ found-here T c name text s n f low e in
          ap (λ (g : Option FieldId). Some g) (of_declared T (record { class = record { number = c }; place = place; is_static = s }) ∙ ap (option_map (identified s c)) there)
          ∙ sym (ap (option_map (λ g. Some g)) whole)

-- nothing was found
pub none_found : {A : Type 0} (o : Option A) → None ≡ option_map {T = A} {U = Option A} (λ f. Some f) o → o ≡ None
none_found None h = refl
none_found (Some x) h = absurd (cc)

-- fields of one class and one name have one place
pub same_place : (f g : FieldId) (fields : List FieldId) → g.class ≡ f.class → g.field.name ≡ f.field.name → place_among g fields ≡ place_among f fields
same_place f g fields class name =
    ap (λ (c : ℕ). option_map_or (λ (i : ℕ). i) (position (λ (x : FieldId). (c == x.class) && bytes_eq g.field.name x.field.name) fields) 0) class
    ∙ ap (λ (n : Identifier). option_map_or (λ (i : ℕ). i) (position (λ (x : FieldId). (f.class == x.class) && bytes_eq n x.field.name) fields) 0) name

-- a field's place is that of the one that is there
pub place_there : (T : Classes) (h : FieldHandle) (f : FieldId) (fields : List FieldId) (place : ℕ) → f.class ≡ h.class.number → (g : FieldId) × (field_of T h ≡ Some g) × (g.class ≡ h.class.number) × (g.field.name ≡ f.field.name)
    → ((g : FieldId) → field_of T h ≡ Some g → place ≡ place_among g fields) → place ≡ place_among f fields
place_there T h f fields place class there is = is there.0 there.1 ∙ same_place f there.0 fields (there.2 ∙ sym class) there.3

-- the same of a static, among those of its class
pub static_there : (T : Classes) (h : FieldHandle) (f : FieldId) (place : ℕ) → f.class ≡ h.class.number → (g : FieldId) × (field_of T h ≡ Some g) × (g.class ≡ h.class.number) × (g.field.name ≡ f.field.name)
    → ((g : FieldId) → field_of T h ≡ Some g → place ≡ place_among g (own_statics T g.class)) → place ≡ place_among f (own_statics T f.class)
static_there T h f place class there is =
    is there.0 there.1
    ∙ ap (λ (c : ℕ). place_among there.0 (own_statics T c)) (there.2 ∙ sym class)
    ∙ same_place f there.0 (own_statics T f.class) (there.2 ∙ sym class) there.3
