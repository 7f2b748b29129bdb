-- Tables stay tables when a class or a field is added.
use Rattle.std.proofs.Common.{not, map, append_assoc, unwrap_or, ◌≡◌, ℕ, zero, suc, ◌+◌, ◌<◌, ◌≤◌, Bool, true, false, cond, List, [], ◌∷◌, ◌++◌, length, Option, Some, None, slice_get, nat_lt, refl, sym, ap, ◌∙◌, arith, length-append}
use Rattle.std.specs.Prelude.{◌==◌, ◌&&◌, ◌||◌}
use Rattle.std.specs.Option.{option_map, option_map_or}
use Rattle.std.specs.List.{list_all, enumerate_from, prefix_len}
use Rattle.std.proofs.lemmas.Bool.{ltb-true, ltb-false, lt-ltb, eqb-true, and_parts, or_parts, not-true, false_from_ne_true}
use Rattle.std.proofs.lemmas.List.Folds.{list_all-append}
use Rattle.base.specs.Bytes.{Identifier, first_passes}
use Rattle.classes.specs.declared.built_ins.BuiltIn.{BuiltIn}
use Rattle.class_rules.specs.Class.{Field, Class, Classes, class_at, class_named, is_plain, array_name}
use Rattle.class_rules.specs.BuiltIns.{number_array_classes, object_array_class, has_own_making}
use Rattle.classes.specs.BuiltInList.{listed_class, array_classes, listed_classes, is_class_list}
use Rattle.class_rules.specs.declared.rule.ClassRule.TheVariants.{NameTaken, BadSuperclass, BadSignature, TooMany}
use Rattle.class_rules.specs.Additions.{class_breaks, field_breaks, declared_fields, new_class, with_class}
use Rattle.classes.specs.FieldViews.{declared_as, with_declared}
use Rattle.class_rules.specs.Grown.{IsGrown, WithClass, WithField, WithStatic}
use Rattle.base.specs.Options.{some_passes}
use Rattle.std.specs.Str.{bytes_eq}
use Rattle.class_rules.specs.Mangling.{is_class_name}
use Rattle.classes.specs.Refusals.{first_broken}
use Rattle.classes.specs.Tables.{names_differ, is_named_by_kind, has_few_fields, field_names_differ, declares_once, IsTable}
use Rattle.classes.proofs.AddedClasses.{named, no-array, added-elements}
use Rattle.classes.proofs.ArrayNames.{no_array, either-append, listed-elements}
use Rattle.classes.proofs.ChangedClasses.{from, names-kept, declared-elements}
use Rattle.classes.proofs.DistinctNames.{has_name, unnamed, differ-more}
use Rattle.classes.proofs.NamedFields.{has_field}
use Rattle.classes.proofs.Places.{same_bytes}

-- ---- no rule is broken

record AreFalse (a b c d : Bool) : Type 0 where
  first : a ≡ false
  second : b ≡ false
  third : c ≡ false
  fourth : d ≡ false

chain : (a b c d : Bool) → cond a (Some NameTaken) (cond b (Some BadSuperclass) (cond c (Some BadSignature) (cond d (Some TooMany) None))) ≡ None → AreFalse a b c d
chain true b c d h = absurd (cc)
chain false true c d h = absurd (cc)
chain false false true d h = absurd (cc)
chain false false false true h = absurd (cc)
chain false false false false h = record { first = refl; second = refl; third = refl; fourth = refl }

few_classes : (T : Classes) (name superclass : Identifier) → first_broken (λ rule. class_breaks rule T name superclass) ≡ None → length T + 2 ≤ 256
few_classes T name superclass h =
    ltb-false 256 (length T + 2) (chain (class_breaks NameTaken T name superclass) (class_breaks BadSuperclass T name superclass) false (class_breaks TooMany T name superclass) h).fourth

few_declared : (T : Classes) (c : Option ℕ) (name : Identifier) (text : List ℕ) → first_broken (λ rule. field_breaks rule T c name text) ≡ None → length (declared_fields T c) + 1 ≤ 64
few_declared T c name text h =
    ltb-false 64 (length (declared_fields T c) + 1) (chain (field_breaks NameTaken T c name text) false (field_breaks BadSignature T c name text) (field_breaks TooMany T c name text) h).fourth

-- ---- the tables of lists

pub all-differ : (list : List BuiltIn) → is_class_list list ≡ true → names_differ (listed_classes list) ≡ true
all-differ list h =
    let o = and_parts _ (list_all declares_once (listed_classes list)) h in
    let p = and_parts _ (list_all has_few_fields (listed_classes list)) o.0 in
    let q = and_parts _ (nat_lt (length (listed_classes list)) 257) p.0 in
    (and_parts (list_all (λ b. is_class_name b.name.now) list) (names_differ (listed_classes list)) q.0).1

pub all-once : (list : List BuiltIn) → is_class_list list ≡ true → list_all declares_once (map listed_class list) ≡ true
all-once list h =
    let P = map listed_class list in
    let once = (and_parts _ (list_all declares_once (listed_classes list)) h).1 in
    let front = and_parts (list_all declares_once (P ++ number_array_classes)) (list_all declares_once (array_classes P)) (sym (list_all-append declares_once (P ++ number_array_classes) (array_classes P)) ∙ once) in
    (and_parts (list_all declares_once P) (list_all declares_once number_array_classes) (sym (list_all-append declares_once P number_array_classes) ∙ front.0)).0

plain-named : (list : List BuiltIn) → list_all is_named_by_kind (map listed_class list) ≡ true
plain-named [] = refl
plain-named (b ∷ list) = plain-named list

arrays-named : (n : ℕ) (P : Classes) → list_all is_named_by_kind (map object_array_class (enumerate_from n P)) ≡ true
arrays-named n [] = refl
arrays-named n (c ∷ P) = arrays-named (n + 1) P

listed-named : (list : List BuiltIn) → list_all is_named_by_kind (listed_classes list) ≡ true
listed-named list =
    let P = map listed_class list in
    list_all-append is_named_by_kind (P ++ number_array_classes) (array_classes P)
    ∙ ap (λ b. b && list_all is_named_by_kind (array_classes P)) (list_all-append is_named_by_kind P number_array_classes ∙ ap (λ b. b && true) (plain-named list))
    ∙ arrays-named 1 P

pub listed-table : (list : List BuiltIn) → is_class_list list ≡ true → IsTable (listed_classes list)
listed-table list h =
    let o = and_parts _ (list_all declares_once (listed_classes list)) h in
    let p = and_parts _ (list_all has_few_fields (listed_classes list)) o.0 in
    let q = and_parts _ (nat_lt (length (listed_classes list)) 257) p.0 in
    let r = and_parts (list_all (λ b. is_class_name b.name.now) list) _ q.0 in
    record { elements = listed-elements list r.0; differ = all-differ list h; named = listed-named list; few = omega (arith, ltb-true (length (listed_classes list)) 257 q.1); few_fields = p.1; declared_once = o.1 }

-- ---- a class more

pub added-table : (T : Classes) (name superclass : Identifier) (s : ℕ) → is_class_name name ≡ true → first_broken (λ rule. class_breaks rule T name superclass) ≡ None → IsTable T → IsTable (with_class T (new_class name (Some s)))
added-table T name superclass s is h t =
    let new = new_class name (Some s) in
    let two = new ∷ object_array_class (length T + 1, new) ∷ [] in
    let q = (chain (class_breaks NameTaken T name superclass) (class_breaks BadSuperclass T name superclass) false (class_breaks TooMany T name superclass) h).first in
    let free : has_name T name ≡ false = sym (named name T) ∙ q in
    let free_array : has_name (T ++ new ∷ []) (array_name name) ≡ false =
    either-append T (new ∷ []) (array_name name)
    ∙ (λ i. no-array T name (unnamed T name free) t.elements i || (false_from_ne_true (bytes_eq name (array_name name)) (λ e. no_array name name is e) i || false)) in
    record {
      elements = added-elements T name s is t.elements;
      differ = ap names_differ (sym (append_assoc T (new ∷ []) (object_array_class (length T + 1, new) ∷ []))) ∙ differ-more (T ++ new ∷ []) (object_array_class (length T + 1, new)) (differ-more T new t.differ free) free_array;
      named = list_all-append is_named_by_kind T two ∙ ap (λ b. b && true) t.named;
      few = omega (arith, few_classes T name superclass h, length-append T two);
      few_fields = list_all-append has_few_fields T two ∙ ap (λ b. b && list_all has_few_fields two) t.few_fields;
      declared_once = list_all-append declares_once T two ∙ ap (λ b. b && list_all declares_once two) t.declared_once;
    }

-- ---- a field more

module _ (change : Class → Class) (same_name : (d : Class) → (change d).name ≡ d.name) (same_kind : (d : Class) → (change d).kind ≡ d.kind) where
  differ_kept : (c n : ℕ) (T : Classes) → names_differ (from change c n T) ≡ names_differ T
  differ_kept c n [] = refl
  differ_kept c n (d ∷ T) = step (n == c) (differ_kept c (n + 1) T)
    where
      step : (b : Bool) → names_differ (from change c (n + 1) T) ≡ names_differ T → names_differ (cond b (change d) d ∷ from change c (n + 1) T) ≡ names_differ (d ∷ T)
      step true e = ap (λ name. not (has_name (from change c (n + 1) T) name) && names_differ (from change c (n + 1) T)) (same_name d) ∙ (λ i. not (names-kept change same_name c (n + 1) T d.name i) && e i)
      step false e = λ i. not (names-kept change same_name c (n + 1) T d.name i) && e i

  named_kept : (c n : ℕ) (T : Classes) → list_all is_named_by_kind (from change c n T) ≡ list_all is_named_by_kind T
  named_kept c n [] = refl
  named_kept c n (d ∷ T) = step (n == c) (named_kept c (n + 1) T)
    where
      step : (b : Bool) → list_all is_named_by_kind (from change c (n + 1) T) ≡ list_all is_named_by_kind T → list_all is_named_by_kind (cond b (change d) d ∷ from change c (n + 1) T) ≡ list_all is_named_by_kind (d ∷ T)
      step true e = λ i. (is_plain (same_kind d i) || first_passes (λ b. b == 91) (same_name d i)) && e i
      step false e = λ i. is_named_by_kind d && e i

module _ (change : Class → Class) where
  same_count : (c n : ℕ) (T : Classes) → length (from change c n T) ≡ length T
  same_count c n [] = refl
  same_count c n (d ∷ T) = ap suc (same_count c (n + 1) T)

  -- what holds of each class holds still
  all_kept : (holds : Class → Bool) (c n : ℕ) (T : Classes) → ((i : ℕ) (d : Class) → slice_get T i ≡ Some d → n + i ≡ c → holds d ≡ true → holds (change d) ≡ true) → list_all holds T ≡ true → list_all holds (from change c n T) ≡ true
  all_kept holds c n [] own h = refl
  all_kept holds c n (d ∷ T) own h =
      let p = and_parts (holds d) (list_all holds T) h in
      step (n == c) refl p.0 (all_kept holds c (n + 1) T (λ i e at place. own (suc i) e at (omega (arith, place))) p.1) (own zero d refl)
    where
      step : (b : Bool) → (n == c) ≡ b → holds d ≡ true → list_all holds (from change c (n + 1) T) ≡ true → (n + 0 ≡ c → holds d ≡ true → holds (change d) ≡ true)
          → (holds (cond b (change d) d) && list_all holds (from change c (n + 1) T)) ≡ true
      step true e here rest mine = let is : n + 0 ≡ c = omega (arith, eqb-true n c e) in ap (λ b. b && list_all holds (from change c (n + 1) T)) (mine is here) ∙ rest
      step false e here rest mine = ap (λ b. b && list_all holds (from change c (n + 1) T)) here ∙ rest

-- with a field of false_from_ne_true name more
fields_differ_more : (fields : List Field) (f : Field) → field_names_differ fields ≡ true → has_field fields f.name ≡ false → field_names_differ (fields ++ f ∷ []) ≡ true
fields_differ_more [] f h new = refl
fields_differ_more (g ∷ fields) f h new =
    let p = and_parts (not (has_field fields g.name)) (field_names_differ fields) h in
    let q = or_parts (bytes_eq g.name f.name) (has_field fields f.name) new in
    (λ i. not (absent fields (not-true (has_field fields g.name) p.0) i) && field_names_differ (fields ++ f ∷ [])) ∙ fields_differ_more fields f p.1 q.1
  where
    absent : (others : List Field) → has_field others g.name ≡ false → has_field (others ++ f ∷ []) g.name ≡ false
    absent [] e = ap (λ b. b || false) (same_bytes f.name g.name ∙ (or_parts (bytes_eq g.name f.name) (has_field fields f.name) new).0)
    absent (x ∷ others) e = let r = or_parts (bytes_eq x.name g.name) (has_field others g.name) e in (λ i. r.0 i || has_field (others ++ f ∷ []) g.name) ∙ absent others r.1

in_neither : (fields statics : List Field) (name : Identifier) → has_field (fields ++ statics) name ≡ false → (has_field fields name ≡ false) × (has_field statics name ≡ false)
in_neither [] statics name h = (refl, h)
in_neither (f ∷ fields) statics name h =
    let p = or_parts (bytes_eq f.name name) (has_field (fields ++ statics) name) h in
    let q = in_neither fields statics name p.1 in
    ((λ i. p.0 i || has_field fields name) ∙ q.0, q.1)

class_here : (T : Classes) (c i : ℕ) (d : Class) → slice_get T i ≡ Some d → 1 + i ≡ c → class_at T c ≡ Some d
class_here T c i d at place = let e : c ≡ suc i = omega (arith, place) in ap (class_at T) e ∙ at

-- the name is new among the fields of the class, and among its statics
is_new : (T : Classes) (c : ℕ) (name : Identifier) (text : List ℕ) → first_broken (λ rule. field_breaks rule T (Some c) name text) ≡ None → (i : ℕ) (d : Class) → slice_get T i ≡ Some d → 1 + i ≡ c
    → (has_field d.fields name ≡ false) × (has_field d.statics name ≡ false)
is_new T c name text h i d at place =
    let q = (chain (field_breaks NameTaken T (Some c) name text) false (field_breaks BadSignature T (Some c) name text) (field_breaks TooMany T (Some c) name text) h).first in
    in_neither d.fields d.statics name (sym (ap (λ (o : Option Class). has_field (option_map_or (λ (x : Class). x.fields ++ x.statics) o []) name) (class_here T c i d at place)) ∙ q)

-- and so among what it declares of either kind
pub is_absent : (T : Classes) (c : ℕ) (name : Identifier) (text : List ℕ) (s : Bool) → first_broken (λ rule. field_breaks rule T (Some c) name text) ≡ None → has_field (declared_as T c s) name ≡ false
is_absent T c name text s h = by_class (class_at T c) s (chain (field_breaks NameTaken T (Some c) name text) false (field_breaks BadSignature T (Some c) name text) (field_breaks TooMany T (Some c) name text) h).first
  where
    by_class : (o : Option Class) (k : Bool) → has_field (option_map_or (λ (x : Class). x.fields ++ x.statics) o []) name ≡ false → has_field (option_map_or (λ (d : Class). cond k d.statics d.fields) o []) name ≡ false
    by_class None k q = refl
    by_class (Some d) true q = (in_neither d.fields d.statics name q).1
    by_class (Some d) false q = (in_neither d.fields d.statics name q).0

pub declared-table : (T : Classes) (c : ℕ) (field : Field) (name : Identifier) (text : List ℕ) (is_static : Bool) → 0 < c → field.name ≡ name → first_broken (λ rule. field_breaks rule T (Some c) name text) ≡ None → IsTable T → IsTable (with_declared T (Some c) field is_static)
declared-table T c field name text true low named h t =
    let change : Class → Class = λ d. record d { statics = d.statics ++ field ∷ [] } in
    record {
      elements = declared-elements T (Some c) field true t.elements;
      differ = differ_kept change (λ d. refl) (λ d. refl) c 1 T ∙ t.differ;
      named = named_kept change (λ d. refl) (λ d. refl) c 1 T ∙ t.named;
      few = omega (arith, t.few, same_count change c 1 T);
      few_fields = all_kept change has_few_fields c 1 T (λ i d at place few. few) t.few_fields;
      declared_once = all_kept change declares_once c 1 T (λ i d at place once. once_more i d at place once) t.declared_once;
    }
  where
    once_more : (i : ℕ) (d : Class) → slice_get T i ≡ Some d → 1 + i ≡ c → declares_once d ≡ true → (field_names_differ d.fields && field_names_differ (d.statics ++ field ∷ [])) ≡ true
    once_more i d at place once =
        let p = and_parts (field_names_differ d.fields) (field_names_differ d.statics) once in
        let new = ap (has_field d.statics) named ∙ (is_new T c name text h i d at place).1 in
        ap (λ b. b && field_names_differ (d.statics ++ field ∷ [])) p.0 ∙ fields_differ_more d.statics field p.1 new
declared-table T c field name text false low named h t =
    let change : Class → Class = λ d. record d { fields = d.fields ++ field ∷ [] } in
    record {
      elements = declared-elements T (Some c) field false t.elements;
      differ = differ_kept change (λ d. refl) (λ d. refl) c 1 T ∙ t.differ;
      named = named_kept change (λ d. refl) (λ d. refl) c 1 T ∙ t.named;
      few = omega (arith, t.few, same_count change c 1 T);
      few_fields = all_kept change has_few_fields c 1 T (λ i d at place few. one_more i d at place) t.few_fields;
      declared_once = all_kept change declares_once c 1 T (λ i d at place once. once_more i d at place once) t.declared_once;
    }
  where
    once_more : (i : ℕ) (d : Class) → slice_get T i ≡ Some d → 1 + i ≡ c → declares_once d ≡ true → (field_names_differ (d.fields ++ field ∷ []) && field_names_differ d.statics) ≡ true
    once_more i d at place once =
        let p = and_parts (field_names_differ d.fields) (field_names_differ d.statics) once in
        let new = ap (has_field d.fields) named ∙ (is_new T c name text h i d at place).0 in
        ap (λ b. b && field_names_differ d.statics) (fields_differ_more d.fields field p.0 new) ∙ p.1

    one_more : (i : ℕ) (d : Class) → slice_get T i ≡ Some d → 1 + i ≡ c → nat_lt (length (d.fields ++ field ∷ [])) 65 ≡ true
    one_more i d at place =
        let own = ap (λ (o : Option Class). length (option_map_or (λ (x : Class). x.fields ++ x.statics) o [])) (class_here T c i d at place) in
        let few = few_declared T (Some c) name text h in
        let some = length-append d.fields d.statics in
        let more = length-append d.fields (field ∷ []) in
        lt-ltb (length (d.fields ++ field ∷ [])) 65 (omega arith)

-- numbers count from 1
pub named-low : (o : Option ℕ) (c : ℕ) → option_map (λ i. i + 1) o ≡ Some c → 0 < c
named-low None c h = absurd (cc)
named-low (Some i) c h = let e : i + 1 ≡ c = cc in omega arith

-- ---- tables that grew from the built-in classes

named-high : (T : Classes) (name : Identifier) (c : ℕ) → class_named T name ≡ Some c → c ≤ length T
named-high T name c h = by_test (nat_lt n (length T)) refl h
  where
    n : ℕ
    n = prefix_len (λ (d : Class). not (bytes_eq d.name name)) T

    by_test : (b : Bool) → nat_lt n (length T) ≡ b → option_map (λ i. i + 1) (cond b (Some n) None) ≡ Some c → c ≤ length T
    by_test true e q = let is : n + 1 ≡ c = cc in omega (arith, ltb-true n (length T) e)
    by_test false e q = absurd (cc)

pub grown-added : (T : Classes) (name superclass : Identifier) (s : ℕ) → first_broken (λ rule. class_breaks rule T name superclass) ≡ None → class_named T superclass ≡ Some s → IsGrown T → IsGrown (with_class T (new_class name (Some s)))
grown-added T name superclass s h is g =
    let q = (chain (class_breaks NameTaken T name superclass) (class_breaks BadSuperclass T name superclass) false (class_breaks TooMany T name superclass) h).second in
    let open_class : not (not (has_own_making T s)) ≡ false = sym (ap (λ o. not (some_passes (λ c. not (has_own_making T c)) o)) is) ∙ q in
    WithClass T name s g (named-low _ s is) (named-high T superclass s is) (twice (has_own_making T s) open_class)
  where
    twice : (b : Bool) → not (not b) ≡ false → b ≡ false
    twice true e = absurd (cc)
    twice false e = refl

pub grown-declared : (T : Classes) (c : Option ℕ) (field : Field) (is_static : Bool) → IsGrown T → IsGrown (with_declared T c field is_static)
grown-declared T c field true g = WithStatic T (unwrap_or c 0) field g
grown-declared T c field false g = WithField T (unwrap_or c 0) field g
