-- The place of a field has the field's type.
use Rattle.std.proofs.Common.{◌≡◌, ◌⊎◌, inl, inr, ℕ, zero, suc, ◌+◌, Bool, true, false, List, [], ◌∷◌, ◌++◌, length, map, flat_map, reverse, get_or, Option, Some, None, refl, sym, ap, ◌∙◌, arith, cond, if◌then◌else◌}
use Rattle.std.specs.Prelude.{slice_get, position, ◌||◌, ◌&&◌, ◌==◌}
use Rattle.std.specs.List.{list_any, position_from}
use Rattle.std.specs.Option.{option_map_or}
use Rattle.std.specs.Str.{bytes_eq}
use Rattle.std.proofs.lemmas.Bool.{eq-eqb}
use Rattle.std.proofs.lemmas.Bool.Decides.{nat_tests}
use Rattle.std.proofs.lemmas.Cmp.{nat_list_eq_equiv}
use Rattle.std.proofs.lemmas.Iterator.Adapters.{position_from-zero}
use Rattle.std.proofs.lemmas.List.Folds.{list_any-append}
use Rattle.std.proofs.lemmas.List.Quantifiers.{position-Some}
use Rattle.std.proofs.lemmas.Map.Keys.{any_passes_from_place}
use Rattle.std.proofs.lemmas.Option.{slice_get-get_or}
use Rattle.base.specs.Bytes.{Identifier}
use Rattle.class_rules.specs.Class.{Field, Class, Classes, class_at, superclass, above, ancestry_within, ancestry, is_subclass}
use Rattle.class_rules.specs.Fields.{FieldId, own_fields, own_statics, layout, same_field, find_field, find_static}
use Rattle.classes.proofs.Ancestry.{is_among}
use Rattle.classes.proofs.Layouts.{layout_within, layout-above, layout-top}
use Rattle.semantics.specs.Heap.{place_in}
use Rattle.world_values.specs.DeclaredFields.{DeclaresWell, IsDeclared}
use Rattle.world_values.proofs.LoadedWorlds.{map_get}
use Rattle.semantics_typing.proofs.Lists.{found_at}

-- ---- lists

pub get_either : {A : Type 0} (xs ys : List A) (i : ℕ) (x : A) → slice_get (xs ++ ys) i ≡ Some x → ((j : ℕ) × (slice_get xs j ≡ Some x)) ⊎ ((j : ℕ) × (slice_get ys j ≡ Some x))
get_either [] ys i x h = inr (i, h)
get_either (z ∷ xs) ys zero x h = inl (0, h)
get_either (z ∷ xs) ys (suc i) x h = elim (get_either xs ys i x h) [ inl (j, e) ↦ inl (suc j, e) | inr r ↦ inr r ]

flat_get : {A B : Type 0} (g : A → List B) (xs : List A) (i : ℕ) (y : B) → slice_get (flat_map g xs) i ≡ Some y → (x : A) × (j : ℕ) × (slice_get (g x) j ≡ Some y)
flat_get g [] i y h = absurd (cc)
flat_get g (x ∷ xs) i y h = elim (get_either (g x) (flat_map g xs) i y h) [ inl (j, e) ↦ (x, j, e) | inr (j, e) ↦ flat_get g xs j y e ]

from_some : {A : Type 0} (p : A → Bool) (n : ℕ) (xs : List A) → list_any p xs ≡ true → position_from p n xs ≡ None → ⊥
from_some p n [] h e = cc
from_some p n (x ∷ xs) h e = by_test (p x) h e (from_some p (n + 1) xs)
  where
    by_test : (b : Bool) → (b || list_any p xs) ≡ true → cond b (Some n) (position_from p (n + 1) xs) ≡ None → (list_any p xs ≡ true → position_from p (n + 1) xs ≡ None → ⊥) → ⊥
    by_test true h e later = cc
    by_test false h e later = later h e

-- the first that passes
pub first_passing : {A : Type 0} (p : A → Bool) (xs : List A) (d : A) → list_any p xs ≡ true → (i : ℕ) × (x : A) × (position p xs ≡ Some i) × (slice_get xs i ≡ Some x) × (p x ≡ true)
first_passing p xs d h = by_place (position p xs) refl
  where
    by_place : (o : Option ℕ) → position p xs ≡ o → (i : ℕ) × (x : _) × (position p xs ≡ Some i) × (slice_get xs i ≡ Some x) × (p x ≡ true)
    by_place None e = absurd (from_some p 0 xs h (sym (position_from-zero p xs) ∙ e))
    by_place (Some i) e = let at = position-Some p xs i d e in (i, get_or xs i d, e, slice_get-get_or xs i d at.0, at.1)

-- ---- fields that are declared

own_is : (classes : Classes) (c i : ℕ) (f : FieldId) → slice_get (own_fields classes c) i ≡ Some f → (f.class ≡ c) × (f.is_static ≡ false)
own_is classes c i f h =
    let it = map_get (λ (d : Field). let g : FieldId = record { class = c; is_static = false; field = d } in g) (option_map_or (λ (d : Class). d.fields) (class_at classes c) []) i f h in
    (ap (λ (g : FieldId). g.class) (sym it.2), ap (λ (g : FieldId). g.is_static) (sym it.2))

static_is : (classes : Classes) (c i : ℕ) (f : FieldId) → slice_get (own_statics classes c) i ≡ Some f → (f.class ≡ c) × (f.is_static ≡ true)
static_is classes c i f h =
    let it = map_get (λ (d : Field). let g : FieldId = record { class = c; is_static = true; field = d } in g) (option_map_or (λ (d : Class). d.statics) (class_at classes c) []) i f h in
    (ap (λ (g : FieldId). g.class) (sym it.2), ap (λ (g : FieldId). g.is_static) (sym it.2))

pub own_declared : (classes : Classes) (c i : ℕ) (f : FieldId) → slice_get (own_fields classes c) i ≡ Some f → IsDeclared classes f
own_declared classes c i f h =
    let is = own_is classes c i f h in
    (i, (λ k. slice_get (if is.1 k then own_statics classes (is.0 k) else own_fields classes (is.0 k)) i) ∙ h)

pub static_declared : (classes : Classes) (c i : ℕ) (f : FieldId) → slice_get (own_statics classes c) i ≡ Some f → IsDeclared classes f
static_declared classes c i f h =
    let is = static_is classes c i f h in
    (i, (λ k. slice_get (if is.1 k then own_statics classes (is.0 k) else own_fields classes (is.0 k)) i) ∙ h)

-- a field that is declared is its class's own
pub field_own : (classes : Classes) (f : FieldId) → IsDeclared classes f → f.is_static ≡ false → (i : ℕ) × (slice_get (own_fields classes f.class) i ≡ Some f)
field_own classes f (i, h) kind = (i, ap (λ (b : Bool). slice_get (if b then own_statics classes f.class else own_fields classes f.class) i) (sym kind) ∙ h)

pub static_own : (classes : Classes) (f : FieldId) → IsDeclared classes f → f.is_static ≡ true → (i : ℕ) × (slice_get (own_statics classes f.class) i ≡ Some f)
static_own classes f (i, h) kind = (i, ap (λ (b : Bool). slice_get (if b then own_statics classes f.class else own_fields classes f.class) i) (sym kind) ∙ h)

-- of a class of the table
pub declared_class : (classes : Classes) (f : FieldId) → IsDeclared classes f → (d : Class) × (class_at classes f.class ≡ Some d)
declared_class classes f (i, h) = by_kind f.is_static h
  where
    by_class : (o : Option Class) → class_at classes f.class ≡ o → (b : Bool) (fields : Class → List Field) → slice_get (map (λ (d : Field). let g : FieldId = record { class = f.class; is_static = b; field = d } in g) (option_map_or fields o [])) i ≡ Some f → (d : Class) × (class_at classes f.class ≡ Some d)
    by_class None e b fields h = absurd (cc)
    by_class (Some d) e b fields h = (d, e)

    by_kind : (b : Bool) → slice_get (if b then own_statics classes f.class else own_fields classes f.class) i ≡ Some f → (d : Class) × (class_at classes f.class ≡ Some d)
    by_kind true h = by_class (class_at classes f.class) refl true (λ d. d.statics) h
    by_kind false h = by_class (class_at classes f.class) refl false (λ d. d.fields) h

layout_declared : (classes : Classes) (c i : ℕ) (f : FieldId) → slice_get (layout classes c) i ≡ Some f → IsDeclared classes f × (f.is_static ≡ false)
layout_declared classes c i f h =
    let at = flat_get (own_fields classes) (reverse (ancestry classes c)) i f h in
    (own_declared classes at.0 at.1 f at.2, (own_is classes at.0 at.1 f at.2).1)

pub found_field : (classes : Classes) (c : ℕ) (name : Identifier) (text : List ℕ) (f : FieldId) → find_field classes c name text ≡ Some f → IsDeclared classes f
found_field classes c name text f h =
    let at = found_at _ (flat_map (own_fields classes) (ancestry classes c)) f h in
    let own = flat_get (own_fields classes) (ancestry classes c) at.0 f at.1 in
    own_declared classes own.0 own.1 f own.2

pub found_static : (classes : Classes) (c : ℕ) (name : Identifier) (text : List ℕ) (f : FieldId) → find_static classes c name text ≡ Some f → IsDeclared classes f
found_static classes c name text f h =
    let at = found_at _ (flat_map (own_statics classes) (ancestry classes c)) f h in
    let own = flat_get (own_statics classes) (ancestry classes c) at.0 f at.1 in
    static_declared classes own.0 own.1 f own.2

-- ---- places

same_itself : (f : FieldId) → same_field f f ≡ true
same_itself f = ap (λ (b : Bool). b && bytes_eq f.field.name f.field.name) (eq-eqb f.class f.class refl) ∙ nat_list_eq_equiv.refl f.field.name

same_parts : (f g : FieldId) → same_field f g ≡ true → (f.class ≡ g.class) × (bytes_eq f.field.name g.field.name ≡ true)
same_parts f g h = by_test (f.class == g.class) refl h
  where
    by_test : (b : Bool) → (f.class == g.class) ≡ b → (b && bytes_eq f.field.name g.field.name) ≡ true → (f.class ≡ g.class) × (bytes_eq f.field.name g.field.name ≡ true)
    by_test true e q = (grind (arith, nat_tests, e), q)
    by_test false e q = absurd (cc)

module _ (classes : Classes) (well : DeclaresWell classes) (f : FieldId) (declared : IsDeclared classes f) where
  -- the place of a field among these is where it is
  placed : (fields : List FieldId) → list_any (same_field f) fields ≡ true → ((i : ℕ) (g : FieldId) → slice_get fields i ≡ Some g → IsDeclared classes g × (g.is_static ≡ f.is_static)) → slice_get fields (place_in f fields) ≡ Some f
  placed fields there all =
      let first = first_passing (same_field f) fields f there in
      let g = first.1 in
      let known = all first.0 g first.3 in
      let parts = same_parts f g first.4 in
      let same : f ≡ g = well.once f g declared known.0 parts.0 (sym known.1) parts.1 in
      ap (λ (o : Option ℕ). slice_get fields (option_map_or (λ i. i) o 0)) first.2 ∙ first.3 ∙ ap (λ (x : FieldId). Some x) (sym same)

  module _ (kind : f.is_static ≡ false) where
    in_own : list_any (same_field f) (own_fields classes f.class) ≡ true
    in_own = let at = field_own classes f declared kind in any_passes_from_place (same_field f) (own_fields classes f.class) at.0 f at.1 (same_itself f)

    in_layout : (n c : ℕ) → is_among n classes c f.class ≡ true → list_any (same_field f) (layout_within n classes c) ≡ true
    in_layout zero c h = absurd (cc)
    in_layout (suc n) c h = by_class (c == f.class) refl (superclass classes c) refl h (in_layout n)
      where
        back : (a b : Bool) → b ≡ true → (a || b) ≡ true
        back true b e = refl
        back false b e = e

        own_there : c ≡ f.class → list_any (same_field f) (own_fields classes c) ≡ true
        own_there same = ap (λ (d : ℕ). list_any (same_field f) (own_fields classes d)) same ∙ in_own

        by_class : (b : Bool) → (c == f.class) ≡ b → (o : Option ℕ) → superclass classes c ≡ o → (b || list_any (λ x. x == f.class) (above (ancestry_within n classes) (superclass classes c))) ≡ true → ((s : ℕ) → is_among n classes s f.class ≡ true → list_any (same_field f) (layout_within n classes s) ≡ true) → list_any (same_field f) (layout_within (suc n) classes c) ≡ true
        by_class true e None top q up = ap (list_any (same_field f)) (layout-top classes c (suc n) n (omega arith) top) ∙ own_there (grind (arith, nat_tests, e))
        by_class true e (Some s) over q up =
            ap (list_any (same_field f)) (layout-above classes c (suc n) n s (omega arith) over)
            ∙ list_any-append (same_field f) (layout_within n classes s) (own_fields classes c)
            ∙ back (list_any (same_field f) (layout_within n classes s)) (list_any (same_field f) (own_fields classes c)) (own_there (grind (arith, nat_tests, e)))
        by_class false e None top q up = absurd (let none : list_any (λ x. x == f.class) (above (ancestry_within n classes) None) ≡ true = ap (λ (o : Option ℕ). list_any (λ x. x == f.class) (above (ancestry_within n classes) o)) (sym top) ∙ q in cc)
        by_class false e (Some s) over q up =
            ap (list_any (same_field f)) (layout-above classes c (suc n) n s (omega arith) over)
            ∙ list_any-append (same_field f) (layout_within n classes s) (own_fields classes c)
            ∙ ap (λ (b : Bool). b || list_any (same_field f) (own_fields classes c)) (up s (ap (λ (o : Option ℕ). list_any (λ x. x == f.class) (above (ancestry_within n classes) o)) (sym over) ∙ q))

    -- in an object of a class that has the field
    pub field_placed : (c : ℕ) → is_subclass classes c f.class ≡ true → slice_get (layout classes c) (place_in f (layout classes c)) ≡ Some f
    field_placed c below =
        placed (layout classes c) (in_layout (length classes) c below) (λ i g e. let d = layout_declared classes c i g e in (d.0, d.1 ∙ sym kind))

  -- in the object of the class that declares the static
  pub static_placed : f.is_static ≡ true → slice_get (own_statics classes f.class) (place_in f (own_statics classes f.class)) ≡ Some f
  static_placed kind =
      let at = static_own classes f declared kind in
      placed (own_statics classes f.class) (any_passes_from_place (same_field f) (own_statics classes f.class) at.0 f at.1 (same_itself f))
      (λ i g e. (static_declared classes f.class i g e, (static_is classes f.class i g e).1 ∙ sym kind))
