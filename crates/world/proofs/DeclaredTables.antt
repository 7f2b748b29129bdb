-- The class table of each world declares what it should: names once, fields of known types, and none for arrays, strings and class objects.
use Rattle.std.proofs.Common.{◌≡◌, ◌⊎◌, inl, inr, ℕ, zero, suc, ◌+◌, ◌<◌, ◌≤◌, Bool, true, false, cond, List, [], ◌∷◌, ◌++◌, length, map, find, Option, Some, None, refl, sym, ap, ◌∙◌, subst, arith, if◌then◌else◌}
use Rattle.std.specs.Prelude.{not, ◌&&◌, ◌||◌, ◌==◌, is_some, nat_lt, slice_get, unwrap_or}
use Rattle.std.specs.List.{list_any, list_all, enumerate_from}
use Rattle.std.specs.Option.{option_map_or}
use Rattle.std.specs.Str.{bytes_eq}
use Rattle.std.proofs.lemmas.Bool.{and_parts, both_ways, ltb-true, or_parts}
use Rattle.std.proofs.lemmas.Bool.Decides.{nat_tests}
use Rattle.std.proofs.lemmas.List.Folds.{list_any-append}
use Rattle.std.proofs.lemmas.Slice.Eq.{bytes_eq-Decides}
use Rattle.base.specs.Bytes.{Identifier}
use Rattle.base.specs.declared.element.ElementType.TheVariants.{Int as JInt}
use Rattle.base.specs.Options.{some_passes}
use Rattle.base.proofs.Lists.{all_at}
use Rattle.base.proofs.Options.{none_there}
use Rattle.class_rules.specs.declared.rule.ClassRule.{ClassRule}
use Rattle.class_rules.specs.declared.rule.ClassRule.TheVariants.{NameTaken}
use Rattle.class_rules.specs.Additions.{new_class, with_class, with_changed_class, declared_fields, built_in_count}
use Rattle.class_rules.specs.BuiltIns.{built_ins, class_class, string_class, throwable_class, object_array_class, has_own_making}
use Rattle.class_rules.specs.Class.{Field, FieldType, NumberField, ReferenceField, Plain, ArrayOfObjects, Class, Classes, class_at, class_named, class_kind, is_plain, superclass, above, ancestry_within, array_name, array_class_of}
use Rattle.class_rules.specs.Fields.{FieldId, own_fields, own_statics, signature, field_types, type_of_signature}
use Rattle.class_rules.specs.Mangling.{is_class_name}
use Rattle.class_rules.proofs.GrownTables.{get_cases}
use Rattle.world_values.specs.DeclaredFields.{IsDeclared, DeclaresWell}
use Rattle.world_values.specs.WorldLines.{WorldLine, MethodsLine, ClassLine, FieldLine, StaticLine, ObjectLine, ObjectsLine, ArrayLine, StringLine, ThreadLine, CallLine}
use Rattle.world_values.specs.WorldMeaning.{class_number, superclass_number, field_of, table_with}
use Rattle.world_values.specs.WorldRules.{is_well_formed, is_world_class, is_class_allowed, breaks_class_rule}
use Rattle.world_values.proofs.LoadedWorlds.{map_get}
use Rattle.world.proofs.ChangedClasses.{changed}
use Rattle.world.proofs.KeptBuiltIns.{KeepsBuiltIns}
use Rattle.world.proofs.WorldTables.{IsWorldTable, named_kept, named_after, not_named, changed_named}
use Rattle.classes.proofs.Places.{same_bytes}

-- ---- one class

-- no two fields of one name
abbrev pub NamedOnce : List Field → Type 0
NamedOnce fields = (i j : ℕ) (f g : Field) → slice_get fields i ≡ Some f → slice_get fields j ≡ Some g → bytes_eq f.name g.name ≡ true → f ≡ g

-- a reference field is of a class
abbrev pub IsOfClass : Field → Type 0
IsOfClass f = (c : ℕ) → f.type ≡ ReferenceField c → 0 < c

abbrev pub AreOfClasses : List Field → Type 0
AreOfClasses fields = (i : ℕ) (f : Field) → slice_get fields i ≡ Some f → IsOfClass f

-- what a class declares
pub record DeclaresRight (d : Class) : Type 0 where
  fields_once : NamedOnce d.fields
  statics_once : NamedOnce d.statics
  fields_of_classes : AreOfClasses d.fields
  statics_of_classes : AreOfClasses d.statics
  arrays_bare : is_plain d.kind ≡ false → (d.fields ≡ []) × (d.superclass ≡ Some 1)

pub record Declares (T : Classes) : Type 0 where
  pub each : (c : ℕ) (d : Class) → class_at T c ≡ Some d → DeclaresRight d
  pub names : (c : ℕ) (d : Class) → class_at T c ≡ Some d → class_named T d.name ≡ Some c

-- ---- classes with at most one field

abbrev is_low : FieldType → Bool
is_low (NumberField t) = true
is_low (ReferenceField c) = nat_lt 0 c

abbrev has_one : List Field → Bool
has_one [] = true
has_one (f ∷ []) = is_low f.type
has_one (f ∷ g ∷ fields) = false

abbrev has_none : List Field → Bool
has_none [] = true
has_none (f ∷ fields) = false

abbrev is_below_root : Option ℕ → Bool
is_below_root None = false
is_below_root (Some s) = s == 1

abbrev is_simple : Class → Bool
is_simple d = has_one d.fields && has_none d.statics && (is_plain d.kind || (has_none d.fields && is_below_root d.superclass))

low_type : (t : FieldType) → is_low t ≡ true → (c : ℕ) → t ≡ ReferenceField c → 0 < c
low_type (NumberField t) h c e = absurd (cc)
low_type (ReferenceField k) h c e = let same : k ≡ c = cc in subst (λ (n : ℕ). 0 < n) same (ltb-true 0 k h)

one_once : (fields : List Field) → has_one fields ≡ true → NamedOnce fields
one_once [] h i j f g e k q = absurd (cc)
one_once (x ∷ []) h zero zero f g e k q = cc
one_once (x ∷ []) h (suc i) j f g e k q = absurd (cc)
one_once (x ∷ []) h i (suc j) f g e k q = absurd (cc)
one_once (x ∷ y ∷ fields) h i j f g e k q = absurd (cc)

one_of_classes : (fields : List Field) → has_one fields ≡ true → AreOfClasses fields
one_of_classes [] h i f e c q = absurd (cc)
one_of_classes (x ∷ []) h zero f e c q = let same : x ≡ f = cc in low_type x.type h c (ap (λ (y : Field). y.type) same ∙ q)
one_of_classes (x ∷ []) h (suc i) f e c q = absurd (cc)
one_of_classes (x ∷ y ∷ fields) h i f e c q = absurd (cc)

none_one : (fields : List Field) → has_none fields ≡ true → has_one fields ≡ true
none_one [] h = refl
none_one (f ∷ fields) h = absurd (cc)

none_empty : (fields : List Field) → has_none fields ≡ true → fields ≡ []
none_empty [] h = refl
none_empty (f ∷ fields) h = absurd (cc)

below_root : (o : Option ℕ) → is_below_root o ≡ true → o ≡ Some 1
below_root None h = absurd (cc)
below_root (Some s) h = ap Some (grind (arith, nat_tests, h))

simple_right : (d : Class) → is_simple d ≡ true → DeclaresRight d
simple_right d h =
    let a = and_parts (has_one d.fields && has_none d.statics) (is_plain d.kind || (has_none d.fields && is_below_root d.superclass)) h in
    let b = and_parts (has_one d.fields) (has_none d.statics) a.0 in
    record {
      fields_once = one_once d.fields b.0;
      statics_once = one_once d.statics (none_one d.statics b.1);
      fields_of_classes = one_of_classes d.fields b.0;
      statics_of_classes = one_of_classes d.statics (none_one d.statics b.1);
      arrays_bare = λ e.
          let c : (has_none d.fields && is_below_root d.superclass) ≡ true = ap (λ (p : Bool). p || (has_none d.fields && is_below_root d.superclass)) (sym e) ∙ a.1 in
          let k = and_parts (has_none d.fields) (is_below_root d.superclass) c in
          (none_empty d.fields k.0, below_root d.superclass k.1);
    }

-- ---- the built-in classes

built_ins_simple : list_all is_simple built_ins ≡ true
unfolding built_ins
built_ins_simple = refl

-- each is found by its name
abbrev is_number : ℕ → Option ℕ → Bool
is_number n None = false
is_number n (Some k) = k == n

abbrev are_found : Classes → ℕ → Classes → Bool
are_found T n [] = true
are_found T n (d ∷ ds) = is_number n (class_named T d.name) && are_found T (n + 1) ds

built_ins_found : are_found built_ins 1 built_ins ≡ true
unfolding built_ins
built_ins_found = refl

number_is : (n : ℕ) (o : Option ℕ) → is_number n o ≡ true → o ≡ Some n
number_is n None h = absurd (let no : false ≡ true = h in cc)
number_is n (Some k) h = ap Some (grind (arith, nat_tests, h))

found_at : (T : Classes) (n : ℕ) (ds : Classes) (i : ℕ) (d : Class) → are_found T n ds ≡ true → slice_get ds i ≡ Some d → class_named T d.name ≡ Some (n + i)
found_at T n [] i d h e = absurd (cc)
found_at T n (x ∷ ds) zero d h e =
    let is : x ≡ d = cc in
    let number : n ≡ n + 0 = omega arith in
    ap (λ (y : Class). class_named T y.name) (sym is) ∙ number_is n (class_named T x.name) (and_parts (is_number n (class_named T x.name)) (are_found T (n + 1) ds) h).0 ∙ ap Some number
found_at T n (x ∷ ds) (suc i) d h e =
    let number : (n + 1) + i ≡ n + suc i = omega arith in
    found_at T (n + 1) ds i d (and_parts (is_number n (class_named T x.name)) (are_found T (n + 1) ds) h).1 e ∙ ap Some number

built_ins_each : (c : ℕ) (d : Class) → class_at built_ins c ≡ Some d → DeclaresRight d
built_ins_each zero d e = absurd (cc)
built_ins_each (suc i) d e = simple_right d (all_at is_simple built_ins i d built_ins_simple e)

built_ins_names : (c : ℕ) (d : Class) → class_at built_ins c ≡ Some d → class_named built_ins d.name ≡ Some c
built_ins_names zero d e = absurd (cc)
built_ins_names (suc i) d e = let number : 1 + i ≡ suc i = omega arith in found_at built_ins 1 built_ins i d built_ins_found e ∙ ap Some number

pub built_ins_declare : Declares built_ins
built_ins_declare = record { each = built_ins_each; names = built_ins_names }

-- ---- one more class

module _ (T : Classes) (name : Identifier) (s : ℕ) (t : IsWorldTable T) (h : Declares T) (fresh : class_named T name ≡ None) (formed : is_class_name name ≡ true) where
  abbrev new : Class
  new = new_class name (Some s)

  abbrev added : Classes
  added = new ∷ object_array_class (length T + 1, new) ∷ []

  added_each : (j : ℕ) (d : Class) → slice_get added j ≡ Some d → DeclaresRight d
  added_each zero d e = let is : new ≡ d = cc in subst DeclaresRight is (simple_right new refl)
  added_each (suc zero) d e = let is : object_array_class (length T + 1, new) ≡ d = cc in subst DeclaresRight is (simple_right (object_array_class (length T + 1, new)) refl)
  added_each (suc (suc j)) d e = absurd (cc)

  added_names : (j : ℕ) (d : Class) → slice_get added j ≡ Some d → class_named (T ++ added) d.name ≡ Some (suc (length T + j))
  added_names zero d e =
      let is : new ≡ d = cc in
      let number : length T + 1 ≡ suc (length T + 0) = omega arith in
      ap (λ (y : Class). class_named (T ++ added) y.name) (sym is)
      ∙ named_after T name (Some s) t fresh formed name fresh
      ∙ ap (λ (b : Bool). cond b (Some (length T + 1)) (cond (bytes_eq (array_name name) name) (Some (length T + 2)) None)) ((bytes_eq-Decides name name).1 refl)
      ∙ ap Some number
  added_names (suc zero) d e =
      let is : object_array_class (length T + 1, new) ≡ d = cc in
      let number : length T + 2 ≡ suc (length T + 1) = omega arith in
      ap (λ (y : Class). class_named (T ++ added) y.name) (sym is)
      ∙ named_after T name (Some s) t fresh formed (array_name name) (t.elements name fresh)
      ∙ (λ i. cond (not_named T name (Some s) t fresh formed name i) (Some (length T + 1)) (cond ((bytes_eq-Decides (array_name name) (array_name name)).1 refl i) (Some (length T + 2)) None))
      ∙ ap Some number
  added_names (suc (suc j)) d e = absurd (cc)

  each_class : (c : ℕ) (d : Class) → class_at (T ++ added) c ≡ Some d → DeclaresRight d
  each_class zero d e = absurd (cc)
  each_class (suc i) d e = elim (get_cases T added i d e) [ inl old ↦ h.each (suc i) d old | inr q ↦ added_each q.0 d q.1 ]

  names_class : (c : ℕ) (d : Class) → class_at (T ++ added) c ≡ Some d → class_named (T ++ added) d.name ≡ Some c
  names_class zero d e = absurd (cc)
  names_class (suc i) d e = elim (get_cases T added i d e) [
    | inl old ↦ named_kept T added d.name (suc i) (h.names (suc i) d old)
    | inr q ↦ added_names q.0 d q.1 ∙ ap (λ (n : ℕ). Some (suc n)) (sym q.2)
  ]

  class_declares : Declares (with_class T new)
  class_declares = record { each = each_class; names = names_class }

-- ---- one more field or static

get_last : {A : Type 0} (xs : List A) (y x : A) (i : ℕ) → slice_get (xs ++ y ∷ []) i ≡ Some x → (slice_get xs i ≡ Some x) ⊎ (y ≡ x)
get_last [] y x zero h = inr (cc)
get_last [] y x (suc i) h = absurd (cc)
get_last (z ∷ xs) y x zero h = inl h
get_last (z ∷ xs) y x (suc i) h = get_last xs y x i h

none_named : (fields : List Field) (name : Identifier) (i : ℕ) (f : Field) → list_any (λ (f : Field). bytes_eq f.name name) fields ≡ false → slice_get fields i ≡ Some f → bytes_eq f.name name ≡ false
none_named [] name i f h e = absurd (cc)
none_named (x ∷ fields) name zero f h e = let is : x ≡ f = cc in ap (λ (y : Field). bytes_eq y.name name) (sym is) ∙ (or_parts (bytes_eq x.name name) (list_any (λ (f : Field). bytes_eq f.name name) fields) h).0
none_named (x ∷ fields) name (suc i) f h e = none_named fields name i f (or_parts (bytes_eq x.name name) (list_any (λ (f : Field). bytes_eq f.name name) fields) h).1 e

once_more : (fields : List Field) (new : Field) → NamedOnce fields → list_any (λ (f : Field). bytes_eq f.name new.name) fields ≡ false → NamedOnce (fields ++ new ∷ [])
once_more fields new h none i j f g e k q = elim (get_last fields new f i e) [
  | inl a ↦ elim (get_last fields new g j k) [
    | inl b ↦ h i j f g a b q
    | inr b ↦ absurd (let no = none_named fields new.name i f none a in let yes : bytes_eq f.name new.name ≡ true = ap (λ (y : Field). bytes_eq f.name y.name) b ∙ q in let clash : true ≡ false = sym yes ∙ no in cc)
  ]
  | inr a ↦ elim (get_last fields new g j k) [
    | inl b ↦ absurd (let no = none_named fields new.name j g none b in let yes : bytes_eq g.name new.name ≡ true = same_bytes g.name new.name ∙ ap (λ (y : Field). bytes_eq y.name g.name) a ∙ q in let clash : true ≡ false = sym yes ∙ no in cc)
    | inr b ↦ sym a ∙ b
  ]
]

of_classes_more : (fields : List Field) (new : Field) → AreOfClasses fields → IsOfClass new → AreOfClasses (fields ++ new ∷ [])
of_classes_more fields new h n i f e = elim (get_last fields new f i e) [ inl a ↦ h i f a | inr a ↦ subst IsOfClass a n ]

-- the type of a signature is of a class
found_low : (p : FieldType → Bool) (types : List FieldType) (t : FieldType) → list_all is_low types ≡ true → find p types ≡ Some t → is_low t ≡ true
found_low p [] t h e = absurd (cc)
found_low p (x ∷ types) t h e = by_test (p x) e (found_low p types t (and_parts (is_low x) (list_all is_low types) h).1)
  where
    by_test : (b : Bool) → cond b (Some x) (find p types) ≡ Some t → (find p types ≡ Some t → is_low t ≡ true) → is_low t ≡ true
    by_test true e later = let is : x ≡ t = cc in ap is_low (sym is) ∙ (and_parts (is_low x) (list_all is_low types) h).0
    by_test false e later = later e

references_low : (n : ℕ) (T : Classes) → 0 < n → list_all is_low (map (λ (c : ℕ × Class). ReferenceField c.0) (enumerate_from n T)) ≡ true
references_low n [] h = refl
references_low n (d ∷ T) h = let low : nat_lt 0 n ≡ true = grind (arith, nat_tests, h) in (λ i. low i && list_all is_low (map (λ (c : ℕ × Class). ReferenceField c.0) (enumerate_from (n + 1) T))) ∙ references_low (n + 1) T (omega arith)

signature_low : (T : Classes) (text : List ℕ) (o : Option FieldType) → type_of_signature T text ≡ o → is_low (unwrap_or o (NumberField JInt)) ≡ true
signature_low T text None e = refl
signature_low T text (Some t) e = found_low (λ type. bytes_eq (signature T type) text) (field_types T) t (references_low 1 T (omega arith)) e

field_of_class : (T : Classes) (name : Identifier) (text : List ℕ) → IsOfClass (field_of T name text)
field_of_class T name text = low_type (unwrap_or (type_of_signature T text) (NumberField JInt)) (signature_low T text (type_of_signature T text) refl)

module _ (change : Class → Class) (same_name : (d : Class) → (change d).name ≡ d.name) (same_kind : (d : Class) → (change d).kind ≡ d.kind) (number : ℕ) where
  -- a class of the changed table is as it was, or the one that has changed
  changed_from : (n : ℕ) (ds : Classes) (i : ℕ) (e : Class) → slice_get (changed change number n ds) i ≡ Some e → (d : Class) × (slice_get ds i ≡ Some d) × ((d ≡ e) ⊎ ((n + i ≡ number) × (change d ≡ e)))
  changed_from n [] i e h = absurd (cc)
  changed_from n (x ∷ ds) zero e h = by_test (n == number) refl h
    where
      by_test : (b : Bool) → (n == number) ≡ b → Some (cond b (change x) x) ≡ Some e → (d : Class) × (Some x ≡ Some d) × ((d ≡ e) ⊎ ((n + 0 ≡ number) × (change d ≡ e)))
      by_test true q k = (x, refl, inr (let same : n ≡ number = grind (arith, nat_tests, q) in omega (arith, same), cc))
      by_test false q k = (x, refl, inl (cc))
  changed_from n (x ∷ ds) (suc i) e h =
      let later = changed_from (n + 1) ds i e h in
      (later.0, later.1, elim later.2 [ inl a ↦ inl a | inr a ↦ inr (let p = a.0 in omega (arith, p), a.1) ])

  module _ (T : Classes) (h : Declares T) (right : (d : Class) → class_at T number ≡ Some d → DeclaresRight d → DeclaresRight (change d)) where
    changed_each : (c : ℕ) (e : Class) → class_at (with_changed_class T number change) c ≡ Some e → DeclaresRight e
    changed_each zero e k = absurd (cc)
    changed_each (suc i) e k =
        let was = changed_from 1 T i e k in
        elim was.2 [
          | inl same ↦ subst DeclaresRight same (h.each (suc i) was.0 was.1)
          | inr (at, same) ↦
              let here : suc i ≡ number = omega (arith, at) in
              subst DeclaresRight same (right was.0 (ap (class_at T) (sym here) ∙ was.1) (h.each (suc i) was.0 was.1))
        ]

    changed_names : (c : ℕ) (e : Class) → class_at (with_changed_class T number change) c ≡ Some e → class_named (with_changed_class T number change) e.name ≡ Some c
    changed_names zero e k = absurd (cc)
    changed_names (suc i) e k =
        let was = changed_from 1 T i e k in
        let name : e.name ≡ was.0.name = elim was.2 [ inl same ↦ ap (λ (y : Class). y.name) (sym same) | inr (at, same) ↦ ap (λ (y : Class). y.name) (sym same) ∙ same_name was.0 ] in
        changed_named change same_name same_kind number T e.name ∙ ap (class_named T) name ∙ h.names (suc i) was.0 was.1

    change_declares : Declares (with_changed_class T number change)
    change_declares = record { each = changed_each; names = changed_names }

-- ---- one more line

plain_there : (methods : Bool) (T : Classes) (name : Identifier) (d : Class) → is_world_class methods T name ≡ true → class_at T (class_number T name) ≡ Some d → is_plain d.kind ≡ true
plain_there methods T name d h e = by_value (class_named T name) h e
  where
    by_value : (o : Option ℕ) → some_passes (λ c. nat_lt (built_in_count methods) c && is_plain (class_kind T c)) o ≡ true → class_at T (unwrap_or o 0) ≡ Some d → is_plain d.kind ≡ true
    by_value None h e = absurd (cc)
    by_value (Some c) h e = ap (λ (o : Option Class). is_plain (option_map_or (λ (d : Class). d.kind) o Plain)) (sym e) ∙ (and_parts (nat_lt (built_in_count methods) c) (is_plain (class_kind T c)) h).1

-- no field of a class has the name of a new one
not_declared : (T : Classes) (class name : Identifier) (d : Class) → list_any (λ (f : Field). bytes_eq f.name name) (declared_fields T (class_named T class)) ≡ false → is_some (class_named T class) ≡ true → class_at T (class_number T class) ≡ Some d
    → (list_any (λ (f : Field). bytes_eq f.name name) d.fields ≡ false) × (list_any (λ (f : Field). bytes_eq f.name name) d.statics ≡ false)
not_declared T class name d h there e = by_value (class_named T class) h there e
  where
    by_value : (o : Option ℕ) → list_any (λ (f : Field). bytes_eq f.name name) (declared_fields T o) ≡ false → is_some o ≡ true → class_at T (unwrap_or o 0) ≡ Some d
        → (list_any (λ (f : Field). bytes_eq f.name name) d.fields ≡ false) × (list_any (λ (f : Field). bytes_eq f.name name) d.statics ≡ false)
    by_value None h there e = absurd (cc)
    by_value (Some c) h there e =
        or_parts (list_any (λ (f : Field). bytes_eq f.name name) d.fields) (list_any (λ (f : Field). bytes_eq f.name name) d.statics)
        (sym (list_any-append (λ (f : Field). bytes_eq f.name name) d.fields d.statics)
        ∙ ap (λ (o : Option Class). list_any (λ (f : Field). bytes_eq f.name name) (option_map_or (λ (d : Class). d.fields ++ d.statics) o [])) (sym e) ∙ h)

passes_some : {A : Type 0} (p : A → Bool) (o : Option A) → some_passes p o ≡ true → is_some o ≡ true
passes_some p None h = absurd (cc)
passes_some p (Some x) h = refl

module _ (T : Classes) (t : IsWorldTable T) (h : Declares T) where
  pub line_declares : (methods : Bool) (line : WorldLine) → ((rule : ClassRule) → breaks_class_rule rule T line ≡ false) → is_well_formed T line ≡ true → is_class_allowed methods T line ≡ true → Declares (table_with T line)
  line_declares methods MethodsLine rules well allowed = absurd (let no : false ≡ true = well in cc)
  line_declares methods (ClassLine name over) rules well allowed = class_declares T name (superclass_number T over) t h (none_there (class_named T name) (rules NameTaken)) well
  line_declares methods (FieldLine class name signature) rules well allowed =
      change_declares (λ d. record d { fields = d.fields ++ field_of T name signature ∷ [] }) (λ d. refl) (λ d. refl) (class_number T class) T h
      (λ d at was.
      let new = not_declared T class name d (rules NameTaken) (passes_some _ (class_named T class) allowed) at in
      record {
        fields_once = once_more d.fields (field_of T name signature) was.fields_once new.0;
        statics_once = was.statics_once;
        fields_of_classes = of_classes_more d.fields (field_of T name signature) was.fields_of_classes (field_of_class T name signature);
        statics_of_classes = was.statics_of_classes;
        arrays_bare = λ e. absurd (both_ways (is_plain d.kind) e (plain_there methods T class d allowed at));
      })
  line_declares methods (StaticLine class name signature) rules well allowed =
      change_declares (λ d. record d { statics = d.statics ++ field_of T name signature ∷ [] }) (λ d. refl) (λ d. refl) (class_number T class) T h
      (λ d at was.
      let new = not_declared T class name d (rules NameTaken) (passes_some _ (class_named T class) allowed) at in
      record {
        fields_once = was.fields_once;
        statics_once = once_more d.statics (field_of T name signature) was.statics_once new.1;
        fields_of_classes = was.fields_of_classes;
        statics_of_classes = of_classes_more d.statics (field_of T name signature) was.statics_of_classes (field_of_class T name signature);
        arrays_bare = was.arrays_bare;
      })
  line_declares methods (ObjectLine x class values) rules well allowed = h
  line_declares methods (ObjectsLine x class values) rules well allowed = h
  line_declares methods (ArrayLine x e values) rules well allowed = h
  line_declares methods (StringLine x text) rules well allowed = h
  line_declares methods (ThreadLine function arguments) rules well allowed = h
  line_declares methods (CallLine function arguments) rules well allowed = h

-- ---- what it comes to

-- the class that declares a field
record IsIn (T : Classes) (f : FieldId) (fields : Class → List Field) : Type 0 where
  class : Class
  is : class_at T f.class ≡ Some class
  place : ℕ
  at : slice_get (fields class) place ≡ Some f.field

declared_in : (T : Classes) (f : FieldId) (b : Bool) (fields : Class → List Field) (i : ℕ)
    → slice_get (map (λ (d : Field). let g : FieldId = record { class = f.class; is_static = b; field = d } in g) (option_map_or fields (class_at T f.class) [])) i ≡ Some f → IsIn T f fields
declared_in T f b fields i h = by_class (class_at T f.class) refl h
  where
    by_class : (o : Option Class) → class_at T f.class ≡ o → slice_get (map (λ (d : Field). let g : FieldId = record { class = f.class; is_static = b; field = d } in g) (option_map_or fields o [])) i ≡ Some f → IsIn T f fields
    by_class None e h = absurd (cc)
    by_class (Some d) e h =
        let x = map_get (λ (d : Field). let g : FieldId = record { class = f.class; is_static = b; field = d } in g) (fields d) i f h in
        record { class = d; is = e; place = i; at = x.1 ∙ ap (λ (g : FieldId). Some g.field) x.2 }

field_in : (T : Classes) (f : FieldId) → IsDeclared T f → f.is_static ≡ false → IsIn T f (λ d. d.fields)
field_in T f (i, h) kind = declared_in T f false (λ d. d.fields) i (ap (λ (b : Bool). slice_get (if b then own_statics T f.class else own_fields T f.class) i) (sym kind) ∙ h)

static_in : (T : Classes) (f : FieldId) → IsDeclared T f → f.is_static ≡ true → IsIn T f (λ d. d.statics)
static_in T f (i, h) kind = declared_in T f true (λ d. d.statics) i (ap (λ (b : Bool). slice_get (if b then own_statics T f.class else own_fields T f.class) i) (sym kind) ∙ h)

module _ (T : Classes) (t : IsWorldTable T) (k : KeepsBuiltIns T) (h : Declares T) where
  one_field : (f g : FieldId) → f.class ≡ g.class → f.is_static ≡ g.is_static → f.field ≡ g.field → f ≡ g
  one_field f g c s d i = record { class = c i; is_static = s i; field = d i }

  once : (f g : FieldId) → IsDeclared T f → IsDeclared T g → f.class ≡ g.class → f.is_static ≡ g.is_static → bytes_eq f.field.name g.field.name ≡ true → f ≡ g
  once f g a b class static name = by_kind f.is_static refl
    where
      same_class : (x y : Class) → class_at T f.class ≡ Some x → class_at T g.class ≡ Some y → y ≡ x
      same_class x y e q = let clash : Some y ≡ Some x = sym q ∙ ap (class_at T) (sym class) ∙ e in cc

      by_kind : (s : Bool) → f.is_static ≡ s → f ≡ g
      by_kind true e =
          let x = static_in T f a e in
          let y = static_in T g b (sym static ∙ e) in
          let same = same_class x.class y.class x.is y.is in
          one_field f g class static ((h.each f.class x.class x.is).statics_once x.place y.place f.field g.field x.at (ap (λ (d : Class). slice_get d.statics y.place) (sym same) ∙ y.at) name)
      by_kind false e =
          let x = field_in T f a e in
          let y = field_in T g b (sym static ∙ e) in
          let same = same_class x.class y.class x.is y.is in
          one_field f g class static ((h.each f.class x.class x.is).fields_once x.place y.place f.field g.field x.at (ap (λ (d : Class). slice_get d.fields y.place) (sym same) ∙ y.at) name)

  referred : (f : FieldId) (c : ℕ) → IsDeclared T f → f.field.type ≡ ReferenceField c → 0 < c
  referred f c a e = by_kind f.is_static refl
    where
      by_kind : (s : Bool) → f.is_static ≡ s → 0 < c
      by_kind true q = let x = static_in T f a q in (h.each f.class x.class x.is).statics_of_classes x.place f.field x.at c e
      by_kind false q = let x = field_in T f a q in (h.each f.class x.class x.is).fields_of_classes x.place f.field x.at c e

  arrays : (c : ℕ) → 0 < c → c ≤ length T → is_plain (class_kind T c) ≡ true → (a : ℕ) × (array_class_of T c ≡ Some a) × (class_kind T a ≡ ArrayOfObjects c)
  arrays c low high plain =
      let d = class_there c low high in
      let a = t.arrays d.0.name c (h.names c d.0 d.1) plain in
      (a.number, ap (λ (o : Option Class). class_named T (array_name (option_map_or (λ (d : Class). d.name) o []))) d.1 ∙ a.is, a.kind)
    where
      class_get : (U : Classes) (i : ℕ) → i < length U → (d : Class) × (slice_get U i ≡ Some d)
      class_get [] i h = absurd (omega (arith, h))
      class_get (x ∷ U) zero h = (x, refl)
      class_get (x ∷ U) (suc i) h = class_get U i (omega (arith, h))

      class_there : (c : ℕ) → 0 < c → c ≤ length T → (d : Class) × (class_at T c ≡ Some d)
      class_there zero low high = absurd (omega (arith, low))
      class_there (suc i) low high = class_get T i (omega (arith, high))

  -- a class whose objects are made by functions of their own declares no field, and is right below the root, which declares none
  record IsBare (c : ℕ) : Type 0 where
    own : own_fields T c ≡ []
    super : superclass T c ≡ Some 1

  root_own : own_fields T 1 ≡ []
  unfolding built_ins
  root_own = ap (λ (o : Option Class). map (λ f. let g : FieldId = record { class = 1; is_static = false; field = f } in g) (option_map_or (λ (d : Class). d.fields) o [])) (k.each 1 (omega arith))

  root_super : superclass T 1 ≡ None
  unfolding built_ins
  root_super = ap (λ (o : Option Class). option_map_or (λ (d : Class). d.superclass) o None) (k.each 1 (omega arith))

  class_bare : IsBare class_class
  unfolding built_ins
  class_bare = record {
    own = ap (λ (o : Option Class). map (λ f. let g : FieldId = record { class = 2; is_static = false; field = f } in g) (option_map_or (λ (d : Class). d.fields) o [])) (k.each 2 (omega arith));
    super = ap (λ (o : Option Class). option_map_or (λ (d : Class). d.superclass) o None) (k.each 2 (omega arith));
  }

  string_bare : IsBare string_class
  unfolding built_ins
  string_bare = record {
    own = ap (λ (o : Option Class). map (λ f. let g : FieldId = record { class = 3; is_static = false; field = f } in g) (option_map_or (λ (d : Class). d.fields) o [])) (k.each 3 (omega arith));
    super = ap (λ (o : Option Class). option_map_or (λ (d : Class). d.superclass) o None) (k.each 3 (omega arith));
  }

  array_bare : (c : ℕ) → is_plain (class_kind T c) ≡ false → IsBare c
  array_bare c e = by_class (class_at T c) refl e
    where
      by_class : (o : Option Class) → class_at T c ≡ o → is_plain (option_map_or (λ (d : Class). d.kind) o Plain) ≡ false → IsBare c
      by_class None q e = absurd (cc)
      by_class (Some d) q e =
          let r = (h.each c d q).arrays_bare e in
          record {
            own = ap (λ (o : Option Class). map (λ f. let g : FieldId = record { class = c; is_static = false; field = f } in g) (option_map_or (λ (d : Class). d.fields) o [])) q
                ∙ ap (λ (l : List Field). map (λ f. let g : FieldId = record { class = c; is_static = false; field = f } in g) l) r.0;
            super = ap (λ (o : Option Class). option_map_or (λ (d : Class). d.superclass) o None) q ∙ r.1;
          }

  making_bare : (c : ℕ) → has_own_making T c ≡ true → IsBare c
  making_bare c h = by_tests (is_plain (class_kind T c)) refl (c == string_class) refl (c == class_class) refl h
    where
      by_tests : (a : Bool) → is_plain (class_kind T c) ≡ a → (b : Bool) → (c == string_class) ≡ b → (d : Bool) → (c == class_class) ≡ d → (not a || b || d) ≡ true → IsBare c
      by_tests false p b q d r e = array_bare c p
      by_tests true p true q d r e = let same : string_class ≡ c = grind (arith, nat_tests, q) in subst IsBare same string_bare
      by_tests true p false q true r e = let same : class_class ≡ c = grind (arith, nat_tests, r) in subst IsBare same class_bare
      by_tests true p false q false r e = absurd (cc)

  above_root : (n d : ℕ) → list_any (λ a. a == d) (ancestry_within n T 1) ≡ true → own_fields T d ≡ []
  above_root zero d h = absurd (cc)
  above_root (suc n) d h = by_test (1 == d) refl (sym (ap (λ (o : Option ℕ). (1 == d) || list_any (λ a. a == d) (above (ancestry_within n T) o)) root_super) ∙ h)
    where
      by_test : (b : Bool) → (1 == d) ≡ b → (b || false) ≡ true → own_fields T d ≡ []
      by_test true e h = let same : 1 ≡ d = grind (arith, nat_tests, e) in subst (λ (x : ℕ). own_fields T x ≡ []) same root_own
      by_test false e h = absurd (cc)

  bare_within : (n c d : ℕ) → IsBare c → list_any (λ a. a == d) (ancestry_within n T c) ≡ true → own_fields T d ≡ []
  bare_within zero c d b h = absurd (cc)
  bare_within (suc n) c d b h = by_test (c == d) refl (sym (ap (λ (o : Option ℕ). (c == d) || list_any (λ a. a == d) (above (ancestry_within n T) o)) b.super) ∙ h)
    where
      by_test : (e : Bool) → (c == d) ≡ e → (e || list_any (λ a. a == d) (ancestry_within n T 1)) ≡ true → own_fields T d ≡ []
      by_test true e h = let same : c ≡ d = grind (arith, nat_tests, e) in subst (λ (x : ℕ). own_fields T x ≡ []) same b.own
      by_test false e h = above_root n d h

  pub declares_well : DeclaresWell T
  declares_well = record {
    once = once;
    bare = λ c d making below. bare_within (length T) c d (making_bare c making) below;
    message = ap (λ (o : Option Class). map (λ f. let g : FieldId = record { class = throwable_class; is_static = false; field = f } in g) (option_map_or (λ (d : Class). d.fields) o [])) (k.each throwable_class (omega arith));
    referred = referred;
    arrays = arrays;
  }
