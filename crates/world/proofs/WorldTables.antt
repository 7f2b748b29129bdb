-- What holds of the class table of each world: each plain class has its class of arrays, and the built-in classes stay.
use Rattle.std.proofs.Common.{◌≡◌, ℕ, zero, suc, ◌+◌, ◌<◌, ◌≤◌, Bool, true, false, cond, List, [], ◌∷◌, ◌++◌, length, drop, Option, Some, None, refl, sym, ap, ◌∙◌, arith, length-append}
use Rattle.std.specs.Prelude.{not, ◌&&◌, ◌||◌, ◌==◌, is_some, bytes_eq, slice_get}
use Rattle.std.specs.Option.{option_map, option_map_or}
use Rattle.std.specs.List.{list_all}
use Rattle.std.proofs.lemmas.Bool.{and_parts, eqb-true}
use Rattle.std.proofs.lemmas.Slice.Eq.{bytes_eq-Decides}
use Rattle.base.specs.Bytes.{Identifier}
use Rattle.base.proofs.Lists.{all_at, get_left}
use Rattle.class_rules.specs.Additions.{new_class, with_class, with_changed_class}
use Rattle.class_rules.specs.BuiltIns.{built_ins, object_array_class}
use Rattle.class_rules.specs.Class.{ClassKind, Plain, ArrayOfNumbers, ArrayOfObjects, Class, Classes, class_at, class_named, class_kind, is_plain, array_name}
use Rattle.class_rules.specs.Mangling.{is_class_name}
use Rattle.class_rules.proofs.MangledNames.{array_name-no_class}
use Rattle.class_rules.proofs.FoundClasses.{built_ins_long}
use Rattle.world.proofs.ChangedClasses.{changed, changed-length}
use Rattle.world.proofs.Places.{found, position-found, found_below, kept_place, later_place}
use Rattle.world_lines.proofs.Tests.{mapped}

-- ---- classes by name and number

-- whether a class has this name
abbrev pub is_named : Identifier → Class → Bool
is_named name c = bytes_eq c.name name

named-found : (T : Classes) (name : Identifier) → class_named T name ≡ option_map (λ i. i + 1) (found (is_named name) T)
named-found T name = ap (option_map (λ i. i + 1)) (position-found (is_named name) T)

found_at : {X : Type 0} (p : X → Bool) (xs : List X) (i : ℕ) → found p xs ≡ Some i → (x : X) × (slice_get xs i ≡ Some x) × (p x ≡ true)
found_at p [] i h = absurd (cc)
found_at p (x ∷ xs) i h = by_test (p x) (found p xs) refl (found_at p xs) h
  where
    by_test : (b : Bool) (o : Option ℕ) → p x ≡ b → ((j : ℕ) → o ≡ Some j → (y : _) × (slice_get xs j ≡ Some y) × (p y ≡ true)) → cond b (Some 0) (option_map (λ (j : ℕ). suc j) o) ≡ Some i
        → (y : _) × (slice_get (x ∷ xs) i ≡ Some y) × (p y ≡ true)
    by_test true o t later h = let z : 0 ≡ i = cc in (x, ap (slice_get (x ∷ xs)) (sym z), t)
    by_test false None t later h = absurd (cc)
    by_test false (Some j) t later h =
        let z : suc j ≡ i = cc in
        let l = later j refl in
        (l.0, ap (slice_get (x ∷ xs)) (sym z) ∙ l.1, l.2)

-- a class that is named, with its number
pub record IsNamed (T : Classes) (name : Identifier) (c : ℕ) : Type 0 where
  pub class : Class
  pub is : class_at T c ≡ Some class
  pub same : class.name ≡ name
  pub low : 0 < c
  pub high : c ≤ length T

pub named : (T : Classes) (name : Identifier) (c : ℕ) → class_named T name ≡ Some c → IsNamed T name c
named T name c h =
    let i = mapped (λ i. i + 1) (found (is_named name) T) c (sym (named-found T name) ∙ h) in
    let at = found_at (is_named name) T i.0 i.1 in
    let below = found_below (is_named name) T i.0 i.1 in
    let number : suc i.0 ≡ c = omega (arith, i.2) in
    record { class = at.0; is = ap (class_at T) (sym number) ∙ at.1; same = (bytes_eq-Decides at.0.name name).0 at.2; low = omega (arith, number); high = omega (arith, number, below) }

pub named_kept : (T X : Classes) (name : Identifier) (c : ℕ) → class_named T name ≡ Some c → class_named (T ++ X) name ≡ Some c
named_kept T X name c h =
    let i = mapped (λ i. i + 1) (found (is_named name) T) c (sym (named-found T name) ∙ h) in
    named-found (T ++ X) name ∙ ap (option_map (λ i. i + 1)) (kept_place (is_named name) T X i.0 i.1) ∙ ap Some i.2

not_mapped : {A B : Type 0} (f : A → B) (o : Option A) → option_map f o ≡ None → o ≡ None
not_mapped f None h = refl
not_mapped f (Some x) h = absurd (cc)

named_later : (T X : Classes) (name : Identifier) → class_named T name ≡ None → class_named (T ++ X) name ≡ option_map (λ i. i + 1) (option_map (λ (i : ℕ). length T + i) (found (is_named name) X))
named_later T X name h =
    named-found (T ++ X) name ∙ ap (option_map (λ i. i + 1)) (later_place (is_named name) T X (not_mapped (λ i. i + 1) (found (is_named name) T) (sym (named-found T name) ∙ h)))

-- what is after a list
pub get_seam : {A : Type 0} (xs ys : List A) (j : ℕ) → slice_get (xs ++ ys) (length xs + j) ≡ slice_get ys j
get_seam [] ys j = ap (slice_get ys) (omega arith)
get_seam (x ∷ xs) ys j = let e : length (x ∷ xs) + j ≡ suc (length xs + j) = omega arith in ap (slice_get (x ∷ (xs ++ ys))) e ∙ get_seam xs ys j

pub at_front : (T X : Classes) (c : ℕ) → c ≤ length T → class_at (T ++ X) c ≡ class_at T c
at_front T X zero h = refl
at_front T X (suc i) h = get_left T X i (omega (arith, h))

abbrev kind_of : Option Class → ClassKind
kind_of o = option_map_or (λ (d : Class). d.kind) o Plain

-- ---- what holds

-- the class of arrays of objects of a named class
pub record HasArray (T : Classes) (name : Identifier) (c : ℕ) : Type 0 where
  pub number : ℕ
  pub is : class_named T (array_name name) ≡ Some number
  pub kind : class_kind T number ≡ ArrayOfObjects c

pub record IsWorldTable (T : Classes) : Type 0 where
  pub long : 42 ≤ length T
  -- built-in classes keep their kinds
  pub kinds : (c : ℕ) → c ≤ 42 → class_kind T c ≡ class_kind built_ins c
  pub arrays : (name : Identifier) (c : ℕ) → class_named T name ≡ Some c → is_plain (class_kind T c) ≡ true → HasArray T name c
  -- where a class isn't there, that of its arrays isn't either
  pub elements : (name : Identifier) → class_named T name ≡ None → class_named T (array_name name) ≡ None

-- ---- the built-in classes

abbrev is_array_of : Classes → ℕ → ClassKind → Bool
is_array_of T n (ArrayOfObjects m) = m == n
is_array_of T n kind = false

abbrev array_there : Classes → ℕ → Option ℕ → Bool
array_there T n None = false
array_there T n (Some k) = is_array_of T n (class_kind T k)

abbrev arrays_there : Classes → ℕ → Classes → Bool
arrays_there T n [] = true
arrays_there T n (d ∷ ds) = (not (is_plain d.kind) || array_there T n (class_named T (array_name d.name))) && arrays_there T (n + 1) ds

built_ins_arrays : arrays_there built_ins 1 built_ins ≡ true
unfolding built_ins
built_ins_arrays = refl

-- without the last byte
abbrev front : List ℕ → List ℕ
front [] = []
front (b ∷ []) = []
front (b ∷ c ∷ bytes) = b ∷ front (c ∷ bytes)

-- the name between the marks of an array's name
abbrev element_of : Identifier → Identifier
element_of name = front (drop 2 name)

abbrev element_there : Classes → Class → Bool
element_there T d = not (bytes_eq (array_name (element_of d.name)) d.name) || is_some (class_named T (element_of d.name))

built_ins_elements : list_all (element_there built_ins) built_ins ≡ true
unfolding built_ins
built_ins_elements = refl

front-last : (bytes : List ℕ) (b : ℕ) → front (bytes ++ b ∷ []) ≡ bytes
front-last [] b = refl
front-last (c ∷ []) b = refl
front-last (c ∷ d ∷ bytes) b = ap (λ (bs : List ℕ). c ∷ bs) (front-last (d ∷ bytes) b)

element-array : (name : Identifier) → element_of (array_name name) ≡ name
element-array name = front-last name 59

arrays_at : (T : Classes) (n : ℕ) (ds : Classes) (i : ℕ) (d : Class) → arrays_there T n ds ≡ true → slice_get ds i ≡ Some d → (not (is_plain d.kind) || array_there T (n + i) (class_named T (array_name d.name))) ≡ true
arrays_at T n [] i d h e = absurd (cc)
arrays_at T n (x ∷ ds) zero d h e =
    let is : x ≡ d = cc in
    let number : n + 0 ≡ n = omega arith in
    ap (λ m. not (is_plain d.kind) || array_there T m (class_named T (array_name d.name))) number
    ∙ ap (λ (y : Class). not (is_plain y.kind) || array_there T n (class_named T (array_name y.name))) (sym is)
    ∙ (and_parts (not (is_plain x.kind) || array_there T n (class_named T (array_name x.name))) (arrays_there T (n + 1) ds) h).0
arrays_at T n (x ∷ ds) (suc i) d h e =
    let number : n + suc i ≡ n + 1 + i = omega arith in
    ap (λ m. not (is_plain d.kind) || array_there T m (class_named T (array_name d.name))) number
    ∙ arrays_at T (n + 1) ds i d (and_parts (not (is_plain x.kind) || array_there T n (class_named T (array_name x.name))) (arrays_there T (n + 1) ds) h).1 e

right_one : (a b : Bool) → (not a || b) ≡ true → a ≡ true → b ≡ true
right_one true b h k = h
right_one false b h k = absurd (cc)

array_kind : (n : ℕ) (T : Classes) (k : ClassKind) → is_array_of T n k ≡ true → k ≡ ArrayOfObjects n
array_kind n T Plain h = absurd (let no : false ≡ true = h in cc)
array_kind n T (ArrayOfNumbers t) h = absurd (let no : false ≡ true = h in cc)
array_kind n T (ArrayOfObjects m) h = ap ArrayOfObjects (eqb-true m n h)

has_array : (T : Classes) (name : Identifier) (n : ℕ) (o : Option ℕ) → class_named T (array_name name) ≡ o → array_there T n o ≡ true → HasArray T name n
has_array T name n None e h = absurd (let no : false ≡ true = h in cc)
has_array T name n (Some k) e h = record { number = k; is = e; kind = array_kind n T (class_kind T k) h }

at_place : (T : Classes) (c : ℕ) (d : Class) → class_at T c ≡ Some d → (i : ℕ) × (suc i ≡ c) × (slice_get T i ≡ Some d)
at_place T zero d h = absurd (cc)
at_place T (suc i) d h = (i, refl, h)

pub built_ins_table : IsWorldTable built_ins
built_ins_table = record { long = omega (arith, built_ins_long); kinds = λ c h. refl; arrays = arrays; elements = elements }
  where
    arrays : (name : Identifier) (c : ℕ) → class_named built_ins name ≡ Some c → is_plain (class_kind built_ins c) ≡ true → HasArray built_ins name c
    arrays name c h plain =
        let d = named built_ins name c h in
        let i = at_place built_ins c d.class d.is in
        let number : 1 + i.0 ≡ c = omega (arith, i.1) in
        let one : is_plain d.class.kind ≡ true = sym (ap (λ o. is_plain (kind_of o)) d.is) ∙ plain in
        let test = right_one (is_plain d.class.kind) (array_there built_ins (1 + i.0) (class_named built_ins (array_name d.class.name))) (arrays_at built_ins 1 built_ins i.0 d.class built_ins_arrays i.2) one in
        has_array built_ins name c (class_named built_ins (array_name name)) refl
        ((λ j. array_there built_ins (sym number j) (class_named built_ins (array_name (sym d.same j)))) ∙ test)

    elements : (name : Identifier) → class_named built_ins name ≡ None → class_named built_ins (array_name name) ≡ None
    elements name h = by_value (class_named built_ins (array_name name)) refl
      where
        by_value : (o : Option ℕ) → class_named built_ins (array_name name) ≡ o → class_named built_ins (array_name name) ≡ None
        by_value None e = e
        by_value (Some k) e =
            let d = named built_ins (array_name name) k e in
            let i = at_place built_ins k d.class d.is in
            let element : element_of d.class.name ≡ name = ap element_of d.same ∙ element-array name in
            let same : bytes_eq (array_name (element_of d.class.name)) d.class.name ≡ true = (bytes_eq-Decides _ _).1 (ap array_name element ∙ sym d.same) in
            let test = right_one (bytes_eq (array_name (element_of d.class.name)) d.class.name) (is_some (class_named built_ins (element_of d.class.name))) (all_at (element_there built_ins) built_ins i.0 d.class built_ins_elements i.2) same in
            absurd (let no : false ≡ true = sym (ap is_some h) ∙ ap (λ x. is_some (class_named built_ins x)) (sym element) ∙ test in cc)

-- ---- one more class, and its class of arrays

module _ (T : Classes) (name : Identifier) (s : Option ℕ) (t : IsWorldTable T) (fresh : class_named T name ≡ None) (formed : is_class_name name ≡ true) where
  abbrev new : Class
  new = new_class name s

  abbrev added : Classes
  added = new ∷ object_array_class (length T + 1, new) ∷ []

  -- the number of a name that no class had
  abbrev by_names : Bool → Bool → Option ℕ
  by_names a b = cond a (Some (length T + 1)) (cond b (Some (length T + 2)) None)

  pub named_after : (m : Identifier) → class_named T m ≡ None → class_named (T ++ added) m ≡ by_names (bytes_eq name m) (bytes_eq (array_name name) m)
  named_after m h = named_later T added m h ∙ by_tests (bytes_eq name m) (bytes_eq (array_name name) m)
    where
      by_tests : (a b : Bool) → option_map (λ i. i + 1) (option_map (λ (i : ℕ). length T + i) (cond a (Some 0) (option_map (λ (i : ℕ). suc i) (cond b (Some 0) None)))) ≡ cond a (Some (length T + 1)) (cond b (Some (length T + 2)) None)
      by_tests true b = ap Some (omega arith)
      by_tests false true = ap Some (omega arith)
      by_tests false false = refl

  array_at : class_kind (T ++ added) (length T + 2) ≡ ArrayOfObjects (length T + 1)
  array_at = let e : length T + 2 ≡ suc (length T + 1) = omega arith in ap (class_kind (T ++ added)) e ∙ ap kind_of (get_seam T added 1)

  kind_stays : (c : ℕ) → c ≤ length T → class_kind (T ++ added) c ≡ class_kind T c
  kind_stays c h = ap kind_of (at_front T added c h)

  pub not_named : (m : Identifier) → bytes_eq name (array_name m) ≡ false
  not_named m = by_test (bytes_eq name (array_name m)) refl
    where
      by_test : (b : Bool) → bytes_eq name (array_name m) ≡ b → b ≡ false
      by_test false e = refl
      by_test true e = absurd (let no : true ≡ false = sym formed ∙ ap is_class_name ((bytes_eq-Decides name (array_name m)).0 e) ∙ array_name-no_class m in cc)

  element_name : (a b : Identifier) → array_name a ≡ array_name b → a ≡ b
  element_name a b e = sym (element-array a) ∙ ap element_of e ∙ element-array b

  class_arrays : (m : Identifier) (c : ℕ) → class_named (T ++ added) m ≡ Some c → is_plain (class_kind (T ++ added) c) ≡ true → HasArray (T ++ added) m c
  class_arrays m c h plain = by_value (class_named T m) refl
    where
      by_value : (o : Option ℕ) → class_named T m ≡ o → HasArray (T ++ added) m c
      by_value (Some k) e =
          let same : k ≡ c = cc (sym (named_kept T added m k e) ∙ h) in
          let is = named T m k e in
          let a = t.arrays m k e (sym (ap is_plain (kind_stays k is.high)) ∙ ap (λ j. is_plain (class_kind (T ++ added) j)) same ∙ plain) in
          let n = named T (array_name m) a.number a.is in
          record { number = a.number; is = named_kept T added (array_name m) a.number a.is; kind = kind_stays a.number n.high ∙ a.kind ∙ ap ArrayOfObjects same }
      by_value None e = by_tests (bytes_eq name m) (bytes_eq (array_name name) m) refl refl (sym (named_after m e) ∙ h)
        where
          by_tests : (a b : Bool) → bytes_eq name m ≡ a → bytes_eq (array_name name) m ≡ b → by_names a b ≡ Some c → HasArray (T ++ added) m c
          by_tests true b p q k =
              let number : length T + 1 ≡ c = cc in
              let is : name ≡ m = (bytes_eq-Decides name m).0 p in
              record {
                number = length T + 2;
                is = named_after (array_name m) (t.elements m e) ∙ (λ i. by_names (not_named m i) ((bytes_eq-Decides (array_name name) (array_name m)).1 (ap array_name is) i));
                kind = array_at ∙ ap ArrayOfObjects number;
              }
          by_tests false true p q k =
              let number : length T + 2 ≡ c = cc in
              absurd (let no : false ≡ true = sym (ap is_plain array_at) ∙ ap (λ j. is_plain (class_kind (T ++ added) j)) number ∙ plain in cc)
          by_tests false false p q k = absurd (cc)

  class_elements : (m : Identifier) → class_named (T ++ added) m ≡ None → class_named (T ++ added) (array_name m) ≡ None
  class_elements m h = by_value (class_named T m) refl
    where
      by_value : (o : Option ℕ) → class_named T m ≡ o → class_named (T ++ added) (array_name m) ≡ None
      by_value (Some k) e = absurd (cc (sym (named_kept T added m k e) ∙ h))
      by_value None e = by_tests (bytes_eq name m) (bytes_eq (array_name name) (array_name m)) refl refl (sym (named_after m e) ∙ h)
        where
          by_tests : (a b : Bool) → bytes_eq name m ≡ a → bytes_eq (array_name name) (array_name m) ≡ b → by_names a (bytes_eq (array_name name) m) ≡ None → class_named (T ++ added) (array_name m) ≡ None
          by_tests true b p q k = absurd (cc)
          by_tests false true p q k =
              absurd (let no : false ≡ true = sym p ∙ (bytes_eq-Decides name m).1 (element_name name m ((bytes_eq-Decides (array_name name) (array_name m)).0 q)) in cc)
          by_tests false false p q k = named_after (array_name m) (t.elements m e) ∙ (λ i. by_names (not_named m i) (q i))

  pub class_table : IsWorldTable (with_class T new)
  class_table = record {
    long = omega (arith, t.long, length-append T added);
    kinds = λ c h. kind_stays c (omega (arith, h, t.long)) ∙ t.kinds c h;
    arrays = class_arrays;
    elements = class_elements;
  }

-- ---- one more field or static

module _ (change : Class → Class) (same_name : (d : Class) → (change d).name ≡ d.name) (same_kind : (d : Class) → (change d).kind ≡ d.kind) (number : ℕ) where
  changed-found : (name : Identifier) (n : ℕ) (ds : Classes) → found (is_named name) (changed change number n ds) ≡ found (is_named name) ds
  changed-found name n [] = refl
  changed-found name n (d ∷ ds) = by_test (n == number) (changed-found name (n + 1) ds)
    where
      by_test : (b : Bool) → found (is_named name) (changed change number (n + 1) ds) ≡ found (is_named name) ds → found (is_named name) (cond b (change d) d ∷ changed change number (n + 1) ds) ≡ found (is_named name) (d ∷ ds)
      by_test true e = λ i. cond (bytes_eq (same_name d i) name) (Some 0) (option_map (λ (j : ℕ). suc j) (e i))
      by_test false e = λ i. cond (bytes_eq d.name name) (Some 0) (option_map (λ (j : ℕ). suc j) (e i))

  changed-kind : (n : ℕ) (ds : Classes) (i : ℕ) → kind_of (slice_get (changed change number n ds) i) ≡ kind_of (slice_get ds i)
  changed-kind n [] i = refl
  changed-kind n (d ∷ ds) zero = by_test (n == number)
    where
      by_test : (b : Bool) → (cond b (change d) d).kind ≡ d.kind
      by_test true = same_kind d
      by_test false = refl
  changed-kind n (d ∷ ds) (suc i) = changed-kind (n + 1) ds i

  pub changed_named : (T : Classes) (name : Identifier) → class_named (with_changed_class T number change) name ≡ class_named T name
  changed_named T name = named-found (with_changed_class T number change) name ∙ ap (option_map (λ i. i + 1)) (changed-found name 1 T) ∙ sym (named-found T name)

  changed_kind : (T : Classes) (c : ℕ) → class_kind (with_changed_class T number change) c ≡ class_kind T c
  changed_kind T zero = refl
  changed_kind T (suc i) = changed-kind 1 T i

  pub changed_table : (T : Classes) → IsWorldTable T → IsWorldTable (with_changed_class T number change)
  changed_table T t = record {
    long = omega (arith, t.long, changed-length change number 1 T);
    kinds = λ c h. changed_kind T c ∙ t.kinds c h;
    arrays = λ name c h plain.
        let a = t.arrays name c (sym (changed_named T name) ∙ h) (sym (ap is_plain (changed_kind T c)) ∙ plain) in
        record { number = a.number; is = changed_named T (array_name name) ∙ a.is; kind = changed_kind T a.number ∙ a.kind };
    elements = λ name h. changed_named T (array_name name) ∙ t.elements name (sym (changed_named T name) ∙ h);
  }
