-- The classes that each table has: their kinds, and what is above them.
use Rattle.std.proofs.Common.{◌≡◌, ℕ, zero, suc, ◌+◌, ◌<◌, ◌≤◌, Bool, true, false, [], ◌∷◌, ◌++◌, length, map, Option, Some, None, refl, ap, ◌∙◌, arith, cond, length-append}
use Rattle.std.specs.Prelude.{slice_get, ◌||◌, ◌==◌, not}
use Rattle.std.specs.List.{enumerate_from}
use Rattle.std.specs.Option.{option_map, option_map_or}
use Rattle.std.proofs.lemmas.Bool.Decides.{nat_tests}
use Rattle.std.proofs.lemmas.List.{length-map}
use Rattle.std.proofs.lemmas.List.FromFn.{length-enumerate_from}
use Rattle.base.specs.declared.element.ElementType.{ElementType}
use Rattle.base.specs.declared.element.ElementType.TheVariants.{Int as JInt, Short as JShort, Byte as JByte, Char as JChar}
use Rattle.class_rules.specs.Additions.{new_class, with_changed_class}
use Rattle.class_rules.specs.BuiltIns.{built_ins, class_class, string_class, throwable_class, number_array, object_array_class, has_own_making}
use Rattle.class_rules.specs.Class.{ClassKind, Plain, ArrayOfNumbers, ArrayOfObjects, Class, Classes, class_at, class_kind, is_plain, superclass, is_subclass, elements_fit, assignable}
use Rattle.class_rules.specs.Fields.{FieldId, layout}
use Rattle.class_rules.specs.Grown.{IsGrown, BuiltIns, WithClass, WithField, WithStatic}
use Rattle.class_rules.proofs.GrownTables.{grown_is_ordered, at_kept}
use Rattle.class_rules.proofs.FoundClasses.{built_ins_long}
use Rattle.classes.proofs.Ancestry.{is_among, among-here}
use Rattle.semantics_typing.specs.Objects.{element_type_of, fields_of, type_at}

-- ---- what growth keeps

-- a class of this kind below this one
record IsLike (o : Option Class) (d : Class) : Type 0 where
  class : Class
  is : o ≡ Some class
  super : class.superclass ≡ d.superclass
  kind : class.kind ≡ d.kind

like_later : (o : Option Class) (d e : Class) → d.superclass ≡ e.superclass → d.kind ≡ e.kind → IsLike o d → IsLike o e
like_later o d e s k h = record { class = h.class; is = h.is; super = h.super ∙ s; kind = h.kind ∙ k }

module _ (number : ℕ) (change : Class → Class) (same_super : (d : Class) → (change d).superclass ≡ d.superclass) (same_kind : (d : Class) → (change d).kind ≡ d.kind) where
  changed_get : (n : ℕ) (ds : Classes) (i : ℕ) (d : Class) → slice_get ds i ≡ Some d → IsLike (slice_get (map (λ (d : ℕ × Class). cond (d.0 == number) (change d.1) d.1) (enumerate_from n ds)) i) d
  changed_get n [] i d h = absurd (cc)
  changed_get n (x ∷ ds) zero d h = by_test (n == number)
    where
      is : x ≡ d
      is = cc

      by_test : (b : Bool) → IsLike (Some (cond b (change x) x)) d
      by_test true = record { class = change x; is = refl; super = same_super x ∙ ap (λ (y : Class). y.superclass) is; kind = same_kind x ∙ ap (λ (y : Class). y.kind) is }
      by_test false = record { class = x; is = refl; super = ap (λ (y : Class). y.superclass) is; kind = ap (λ (y : Class). y.kind) is }
  changed_get n (x ∷ ds) (suc i) d h = changed_get (n + 1) ds i d h

  changed_at : (T : Classes) (c : ℕ) (d : Class) → class_at T c ≡ Some d → IsLike (class_at (with_changed_class T number change) c) d
  changed_at T zero d h = absurd (cc)
  changed_at T (suc i) d h = changed_get 1 T i d h

grown_has : (T : Classes) → IsGrown T → (c : ℕ) (d : Class) → class_at built_ins c ≡ Some d → IsLike (class_at T c) d
grown_has T BuiltIns c d h = record { class = d; is = h; super = refl; kind = refl }
grown_has T (WithClass classes name s g low high own) c d h =
    let was = grown_has classes g c d h in
    record { class = was.class; is = at_kept classes (new_class name (Some s) ∷ object_array_class (length classes + 1, new_class name (Some s)) ∷ []) c was.class was.is; super = was.super; kind = was.kind }
grown_has T (WithField classes n field g) c d h =
    let was = grown_has classes g c d h in
    like_later _ was.class d was.super was.kind (changed_at n (λ d. record d { fields = d.fields ++ field ∷ [] }) (λ d. refl) (λ d. refl) classes c was.class was.is)
grown_has T (WithStatic classes n field g) c d h =
    let was = grown_has classes g c d h in
    like_later _ was.class d was.super was.kind (changed_at n (λ d. record d { statics = d.statics ++ field ∷ [] }) (λ d. refl) (λ d. refl) classes c was.class was.is)

pub changed_count : (classes : Classes) (c : ℕ) (change : Class → Class) → length (with_changed_class classes c change) ≡ length classes
changed_count classes c change = length-map (enumerate_from 1 classes) (λ (d : ℕ × Class). cond (d.0 == c) (change d.1) d.1) ∙ length-enumerate_from 1 classes

pub grown_long : (classes : Classes) → IsGrown classes → 42 ≤ length classes
grown_long classes BuiltIns = omega (arith, built_ins_long)
grown_long classes (WithClass before name s g low high own) =
    omega (arith, grown_long before g, length-append before (new_class name (Some s) ∷ object_array_class (length before + 1, new_class name (Some s)) ∷ []))
grown_long classes (WithField before c field g) = omega (arith, grown_long before g, changed_count before c (λ d. record d { fields = d.fields ++ field ∷ [] }))
grown_long classes (WithStatic before c field g) = omega (arith, grown_long before g, changed_count before c (λ d. record d { statics = d.statics ++ field ∷ [] }))

-- ---- the built-in classes

kind_in : Option Class → ClassKind
kind_in o = option_map_or (λ (d : Class). d.kind) o Plain

abbrev super_in : Option Class → Option ℕ
super_in o = option_map_or (λ (d : Class). d.superclass) o None

like_kind : (T : Classes) (c : ℕ) (d : Class) → IsLike (class_at T c) d → class_kind T c ≡ d.kind
like_kind T c d h = ap (λ (o : Option Class). option_map_or (λ (d : Class). d.kind) o Plain) h.is ∙ h.kind

like_super : (T : Classes) (c : ℕ) (d : Class) → IsLike (class_at T c) d → superclass T c ≡ d.superclass
like_super T c d h = ap super_in h.is ∙ h.super

module _ (T : Classes) (g : IsGrown T) where
  pub plain_class : (c : ℕ) (d : Class) → class_at built_ins c ≡ Some d → d.kind ≡ Plain → class_kind T c ≡ Plain
  plain_class c d at e = like_kind T c d (grown_has T g c d at) ∙ e

  pub kind_class : class_kind T class_class ≡ Plain
  unfolding built_ins
  kind_class = plain_class class_class _ refl refl

  pub kind_string : class_kind T string_class ≡ Plain
  unfolding built_ins
  kind_string = plain_class string_class _ refl refl

  pub kind_throwable : class_kind T throwable_class ≡ Plain
  unfolding built_ins
  kind_throwable = plain_class throwable_class _ refl refl

  pub super_throwable : superclass T throwable_class ≡ Some 1
  unfolding built_ins
  super_throwable = like_super T throwable_class _ (grown_has T g throwable_class _ refl)

  pub super_string : superclass T string_class ≡ Some 1
  unfolding built_ins
  super_string = like_super T string_class _ (grown_has T g string_class _ refl)

  pub super_root : superclass T 1 ≡ None
  unfolding built_ins
  super_root = like_super T 1 _ (grown_has T g 1 _ refl)

  pub kind_numbers : (t : ElementType) → class_kind T (number_array t) ≡ ArrayOfNumbers t
  unfolding built_ins
  kind_numbers JByte = like_kind T 20 _ (grown_has T g 20 _ refl)
  kind_numbers JChar = like_kind T 21 _ (grown_has T g 21 _ refl)
  kind_numbers JShort = like_kind T 22 _ (grown_has T g 22 _ refl)
  kind_numbers JInt = like_kind T 23 _ (grown_has T g 23 _ refl)

  -- an array of objects has elements of a class
  pub element_low : (c a : ℕ) → class_kind T c ≡ ArrayOfObjects a → 0 < a
  element_low c a h = by_class (class_at T c) refl h
    where
      low : (n : ℕ) (d : Class) → class_at T n ≡ Some d → 0 < n
      low zero d e = absurd (cc)
      low (suc i) d e = omega arith

      by_class : (o : Option Class) → class_at T c ≡ o → option_map_or (λ (d : Class). d.kind) o Plain ≡ ArrayOfObjects a → 0 < a
      by_class None e h = absurd (cc)
      by_class (Some d) e h = let below = (grown_is_ordered T g).elements c a d e h in low a below.class below.is

-- ---- classes that may be made

-- a class of the table whose objects have no making of their own
pub record IsMakeable (classes : Classes) (c : ℕ) : Type 0 where
  pub low : 0 < c
  pub high : c ≤ length classes
  pub making : has_own_making classes c ≡ false

-- the three parts
parts : (a b c : Bool) → (not a || b || c) ≡ false → (a ≡ true) × (b ≡ false) × (c ≡ false)
parts true false false h = (refl, refl, refl)
parts true false true h = absurd (cc)
parts true true c h = absurd (cc)
parts false b c h = absurd (cc)

pub makes : (classes : Classes) (c : ℕ) → has_own_making classes c ≡ false → (class_kind classes c ≡ Plain) × ((c == string_class) ≡ false) × ((c == class_class) ≡ false)
makes classes c h =
    let p = parts (is_plain (class_kind classes c)) (c == string_class) (c == class_class) h in
    (is_kind (class_kind classes c) p.0, p.1, p.2)
  where
    is_kind : (k : ClassKind) → is_plain k ≡ true → k ≡ Plain
    is_kind Plain e = refl
    is_kind (ArrayOfNumbers t) e = absurd (cc)
    is_kind (ArrayOfObjects a) e = absurd (cc)

-- objects of such a class have fields
pub field_type : (classes : Classes) (n c i : ℕ) → has_own_making classes c ≡ false → type_at classes n c i ≡ option_map (λ (f : FieldId). f.field.type) (slice_get (layout classes c) i)
field_type classes n c i h = let m = makes classes c h in rw (m.0, m.1, m.2) refl

pub no_elements : (classes : Classes) (c : ℕ) → has_own_making classes c ≡ false → element_type_of classes c ≡ None
no_elements classes c h = let m = makes classes c h in rw (m.0, m.1) refl

pub has_fields : (classes : Classes) (n c : ℕ) → has_own_making classes c ≡ false → fields_of classes n c ≡ layout classes c
has_fields classes n c h = let m = makes classes c h in rw m.2 refl

-- ---- what is assignable

pub itself : (classes : Classes) (c : ℕ) → 0 < length classes → is_subclass classes c c ≡ true
itself classes c h = among-here classes c c (length classes) h refl

pub assignable_itself : (classes : Classes) (c : ℕ) → 0 < length classes → assignable classes c c ≡ true
assignable_itself classes c h = ap (λ (b : Bool). b || elements_fit classes (class_kind classes c) (class_kind classes c)) (itself classes c h)

-- no class has the number 0, so nothing else is above it
zero_below : (classes : Classes) (n d : ℕ) → is_among n classes 0 d ≡ true → d ≡ 0
zero_below classes zero d h = absurd (cc)
zero_below classes (suc n) d h = by_test (0 == d) refl h
  where
    by_test : (b : Bool) → (0 == d) ≡ b → (b || false) ≡ true → d ≡ 0
    by_test true e h = grind (arith, nat_tests, e)
    by_test false e h = absurd (cc)

pub zero_assignable : (classes : Classes) (d : ℕ) → assignable classes 0 d ≡ true → d ≡ 0
zero_assignable classes d h = zero_below classes (length classes) d (no_elements_fit (is_subclass classes 0 d) h)
  where
    no_elements_fit : (b : Bool) → (b || false) ≡ true → b ≡ true
    no_elements_fit true e = refl
    no_elements_fit false e = absurd (cc)
