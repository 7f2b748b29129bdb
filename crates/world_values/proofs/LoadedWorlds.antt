-- What is known of a world that is loaded: which objects are made in which order, and what their values and the calls refer to.
use Rattle.std.proofs.Common.{◌≡◌, ℕ, ℤ, zero, suc, pos, negsuc, ◌+◌, ◌*◌, ◌<◌, ◌≤◌, true, false, List, [], ◌∷◌, ◌++◌, length, map, Option, Some, None, refl, sym, ap, ◌∙◌, subst, arith, length-append}
use Rattle.std.specs.Prelude.{◌&&◌, ◌==◌, nat_lt, nat_le, slice_get, position, IsTrue}
use Rattle.std.specs.List.{list_all, enumerate_from, AllZip}
use Rattle.std.specs.Option.{option_map}
use Rattle.std.specs.Str.{bytes_eq}
use Rattle.std.proofs.lemmas.Bool.{and_from, and_parts}
use Rattle.std.proofs.lemmas.Bool.Decides.{nat_tests}
use Rattle.std.proofs.lemmas.List.Quantifiers.{position-Some}
use Rattle.std.proofs.lemmas.List.Sums.{sum_by-cons}
use Rattle.std.proofs.lemmas.Option.{slice_get-map}
use Rattle.base.specs.Bytes.{Identifier}
use Rattle.base.specs.declared.element.ElementType.{ElementType}
use Rattle.base.specs.declared.element.ElementType.TheVariants.{Int as JInt, Short as JShort, Byte as JByte, Char as JChar}
use Rattle.base.proofs.Lists.{all_at, get_front}
use Rattle.class_rules.specs.BuiltIns.{class_class, out_of_memory_error}
use Rattle.class_rules.specs.Class.{FieldType, NumberField, ReferenceField, Field, Class, Classes, class_named, class_kind}
use Rattle.class_rules.specs.Fields.{FieldId, own_statics}
use Rattle.classes.proofs.FoundFields.{map-both}
use Rattle.semantics.specs.Heap.{Heap, is_instance}
use Rattle.semantics.specs.Object.{ObjectValue, Number, Refers, Object, size, sizes}
use Rattle.semantics.specs.Reachable.{loaded_count}
use Rattle.semantics.specs.World.{Invocation, World, initial, class_object, class_objects, fresh_object, made_before, loaded_objects, fits_cells}
use Rattle.semantics.proofs.ShownRows.{loaded_is, length-before, length-loaded}
use Rattle.semantics.proofs.NoObjects.{length-class_objects}
use Rattle.world_values.specs.CallArguments.{is_argument, are_arguments}
use Rattle.world_values.specs.SoundWorlds.{types_by_kind, value_fits, IsObjectAfter, AreObjectsAfter, has_call, IsSound}
use Rattle.world_values.specs.WorldRules.{is_in_range, is_between}

-- ---- classes

-- the class of a name is one of the table's
pub class_within : (T : Classes) (name : Identifier) (c : ℕ) → class_named T name ≡ Some c → (0 < c) × (c ≤ length T)
class_within [] name c h = absurd (cc)
class_within (d ∷ T) name c h = by_place (position (λ (x : Class). bytes_eq x.name name) (d ∷ T)) refl h
  where
    by_place : (o : Option ℕ) → position (λ (x : Class). bytes_eq x.name name) (d ∷ T) ≡ o → option_map (λ i. i + 1) o ≡ Some c → (0 < c) × (c ≤ length (d ∷ T))
    by_place None e k = absurd (cc)
    by_place (Some i) e k =
        let below : i < length (d ∷ T) = (position-Some (λ (x : Class). bytes_eq x.name name) (d ∷ T) i d e).0 in
        let same : i + 1 ≡ c = cc in
        (omega arith, omega arith)

-- ---- the objects that are made at load, in their order

pub map_get : {A B : Type 0} (g : A → B) (xs : List A) (i : ℕ) (y : B) → slice_get (map g xs) i ≡ Some y → (x : A) × (slice_get xs i ≡ Some x) × (g x ≡ y)
map_get g [] i y h = absurd (cc)
map_get g (x ∷ xs) zero y h = (x, refl, cc)
map_get g (x ∷ xs) (suc i) y h = map_get g xs i y h

get_after : {A : Type 0} (first rest : List A) (i j : ℕ) → i ≡ length first + j → slice_get (first ++ rest) i ≡ slice_get rest j
get_after [] rest i j e = let same : i ≡ j = omega arith in ap (slice_get rest) same
get_after (x ∷ first) rest zero j e = absurd (omega arith)
get_after (x ∷ first) rest (suc i) j e = get_after first rest i j (omega arith)

numbered : {A : Type 0} (n : ℕ) (xs : List A) (i : ℕ) → i < length xs → (x : A) × (slice_get (enumerate_from n xs) i ≡ Some (n + i, x))
numbered n [] i h = absurd (omega arith)
numbered n (x ∷ xs) zero h = let e : n ≡ n + 0 = omega arith in (x, ap (λ k. Some (k, x)) e)
numbered n (x ∷ xs) (suc i) h =
    let later = numbered (n + 1) xs i (omega arith) in
    let e : n + 1 + i ≡ n + suc i = omega arith in
    (later.0, later.1 ∙ ap (λ k. Some (k, later.0)) e)

-- the class objects are the first
pub loaded_class : (w : World) (i : ℕ) → i < length w.classes → slice_get (loaded_objects w) i ≡ Some (class_object w.classes (i + 1))
loaded_class w i h =
    let class = numbered 1 w.classes i h in
    let e : 1 + i ≡ i + 1 = omega arith in
    get_front (class_objects w.classes) _ i (class_object w.classes (i + 1))
    (slice_get-map (λ (c : ℕ × Class). class_object w.classes c.0) (enumerate_from 1 w.classes) i
    ∙ ap (option_map (λ (c : ℕ × Class). class_object w.classes c.0)) class.1
    ∙ ap (λ n. Some (class_object w.classes n)) e)

-- then the OutOfMemoryError object
pub loaded_error : (w : World) → slice_get (loaded_objects w) (length w.classes) ≡ Some (fresh_object w.classes out_of_memory_error)
loaded_error w = get_after (class_objects w.classes) (fresh_object w.classes out_of_memory_error ∷ w.objects) (length w.classes) 0 (omega (arith, length-class_objects w.classes))

-- and then the world's
pub loaded_object : (w : World) (place j : ℕ) → place ≡ length w.classes + 1 + j → slice_get (loaded_objects w) place ≡ slice_get w.objects j
loaded_object w place j e =
    ap (λ (h : Heap). slice_get h place) (loaded_is w)
    ∙ get_after (made_before w.classes) w.objects place j (omega (arith, length-before w.classes))

-- ---- sizes

-- an object has at least three cells
pub few_objects : (objects : Heap) → 3 * length objects ≤ sizes objects
few_objects [] = omega arith
few_objects (o ∷ objects) = omega (arith, few_objects objects, sum_by-cons size o objects)

-- the objects made at load have their cells
pub loaded_fit : (w : World) → IsTrue (fits_cells w) → sizes (loaded_objects w) ≤ w.cells
loaded_fit w fits = grind (arith, nat_tests, fits)

-- there are few of them
pub few_loaded : (w : World) → IsSound w → 3 * length (loaded_objects w) ≤ 1048576
few_loaded w sound =
    let within = loaded_fit w sound.fits in
    let limit : w.cells ≤ 1048576 = sound.cells in
    omega (arith, few_objects (loaded_objects w))

-- ---- values

-- the values of a class object
pub statics_new : (T : Classes) (c : ℕ) (fields : List Field) → map (λ f. let g : FieldId = record { class = c; is_static = true; field = f } in g) fields ≡ own_statics T c → map (λ (f : Field). initial f.type) fields ≡ (class_object T c).values
statics_new T c fields e =
    map-both (λ f. let g : FieldId = record { class = c; is_static = true; field = f } in g) (λ (g : FieldId). initial g.field.type) fields
    ∙ ap (map (λ (g : FieldId). initial g.field.type)) e

-- a new field holds a number or NULL
pub initial_given : (made : ℕ) (fields : List FieldId) → list_all (is_argument made) (map (λ (f : FieldId). initial f.field.type) fields) ≡ true
initial_given made [] = refl
initial_given made (f ∷ fields) = and_from (is_argument made (initial f.field.type)) (list_all (is_argument made) (map (λ (f : FieldId). initial f.field.type) fields)) (one f.field.type) (initial_given made fields)
  where
    zero_in : is_in_range JInt (pos 0) ≡ true
    zero_in = grind (arith, nat_tests)

    one : (t : FieldType) → is_argument made (initial t) ≡ true
    one (NumberField t) = zero_in
    one (ReferenceField c) = refl

pub wider : (low high l h : ℕ) (z : ℤ) → low ≤ l → high ≤ h → is_between low high z ≡ true → is_between l h z ≡ true
wider low high l h (pos n) a b k = let k : n ≤ high = grind (arith, nat_tests, k) in grind (arith, nat_tests)
wider low high l h (negsuc n) a b k = let k : n < low = grind (arith, nat_tests, k) in grind (arith, nat_tests)

-- each number is one of jint
pub number_in_range : (t : ElementType) (z : ℤ) → is_in_range t z ≡ true → is_in_range JInt z ≡ true
number_in_range JInt z h = h
number_in_range JShort z h = wider 32768 32767 2147483648 2147483647 z (omega arith) (omega arith) h
number_in_range JByte z h = wider 128 127 2147483648 2147483647 z (omega arith) (omega arith) h
number_in_range JChar z h = wider 0 65535 2147483648 2147483647 z (omega arith) (omega arith) h

-- a value that fits its type is a number of jint, NULL, or an object that was made before
pub value_given : (classes : Classes) (made : Heap) (t : FieldType) (v : ObjectValue) → value_fits classes made t v ≡ true → is_argument (length made) v ≡ true
value_given classes made (NumberField t) (Number z) h = number_in_range t z h
value_given classes made (NumberField t) (Refers r) h = absurd (cc)
value_given classes made (ReferenceField c) (Number z) h = absurd (cc)
value_given classes made (ReferenceField c) (Refers None) h = refl
value_given classes made (ReferenceField c) (Refers (Some n)) h = (and_parts (nat_lt 0 n && nat_le n (length made)) (is_instance classes made n c) h).0

values_given : (classes : Classes) (made : Heap) (ts : List FieldType) (vs : List ObjectValue) → AllZip (λ t v. IsTrue (value_fits classes made t v)) ts vs → list_all (is_argument (length made)) vs ≡ true
values_given classes made [] [] h = refl
values_given classes made [] (v ∷ vs) h = absurd h
values_given classes made (t ∷ ts) [] h = refl
values_given classes made (t ∷ ts) (v ∷ vs) h =
    and_from (is_argument (length made) v) (list_all (is_argument (length made)) vs) (value_given classes made t v h.0) (values_given classes made ts vs h.1)

-- an object among several that are made one after another
object_after : (classes : Classes) (made objects : Heap) (j : ℕ) (o : Object) → AreObjectsAfter classes made objects → slice_get objects j ≡ Some o → (before : Heap) × (length before ≡ length made + j) × IsObjectAfter classes before o
object_after classes made [] j o h e = absurd (cc)
object_after classes made (x ∷ objects) zero o h e = let same : x ≡ o = cc in (made, omega arith, subst (IsObjectAfter classes made) same h.0)
object_after classes made (x ∷ objects) (suc j) o h e =
    let later = object_after classes (made ++ x ∷ []) objects j o h.1 e in
    (later.0, omega (arith, later.1, length-append made (x ∷ [])), later.2)

-- what is known of one of the world's objects: its class is in the table and not that of class objects
pub object_class : (w : World) (j : ℕ) (o : Object) → IsSound w → slice_get w.objects j ≡ Some o → (0 < o.class) × (o.class ≤ length w.classes) × ((o.class == class_class) ≡ false)
object_class w j o sound e =
    let after = (object_after w.classes (made_before w.classes) w.objects j o sound.objects e).2 in
    (after.class.0, after.class.1, after.no_class)

-- and each of its values is a number of jint, NULL, or an object that was made before
pub object_given : (w : World) (j : ℕ) (o : Object) → IsSound w → slice_get w.objects j ≡ Some o → list_all (is_argument (length w.classes + 1 + j)) o.values ≡ true
object_given w j o sound e =
    let after = object_after w.classes (made_before w.classes) w.objects j o sound.objects e in
    let count : length after.0 ≡ length w.classes + 1 + j = omega (arith, after.1, length-before w.classes) in
    subst (λ n. list_all (is_argument n) o.values ≡ true) count
    (values_given w.classes after.0 (types_by_kind w.classes o.class (class_kind w.classes o.class) o.values) o.values after.2.values)

-- ---- calls

-- a thread has a call
pub thread_calls : (w : World) (k : ℕ) (calls : List Invocation) → IsSound w → slice_get w.threads k ≡ Some calls → has_call calls ≡ true
thread_calls w k calls sound e = all_at has_call w.threads k calls sound.calls e

-- and each of them is given what is there
pub calls_given : (w : World) (k : ℕ) (calls : List Invocation) → IsSound w → slice_get w.threads k ≡ Some calls → list_all (are_arguments (length (loaded_objects w))) calls ≡ true
calls_given w k calls sound e =
    subst (λ n. list_all (are_arguments n) calls ≡ true) (sym (length-loaded w))
    (all_at (list_all (are_arguments (loaded_count w))) w.threads k calls sound.arguments e)
