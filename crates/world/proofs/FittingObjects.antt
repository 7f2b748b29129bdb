-- The objects that lines make fit their classes, and values refer to objects that are made.
use Rattle.std.proofs.Common.{◌≡◌, ℕ, zero, suc, ◌+◌, ◌<◌, ◌≤◌, Bool, true, false, cond, List, [], ◌∷◌, ◌++◌, length, map, Option, Some, None, refl, sym, ap, ◌∙◌, subst, arith, length-append}
use Rattle.std.specs.Prelude.{not, ◌&&◌, ◌||◌, ◌==◌, nat_lt, nat_le, filter_map, bytes_eq, slice_get, pos, unwrap_or, IsTrue}
use Rattle.std.specs.Option.{option_map, option_map_or}
use Rattle.std.specs.List.{cons_option, list_all, enumerate_from, AllZip}
use Rattle.std.proofs.lemmas.Bool.{and_from, and_parts, or_parts, not-false, lt-ltb, eqb-true, le-leb, leb-true}
use Rattle.std.proofs.lemmas.Option.{slice_get_within}
use Rattle.base.specs.Bytes.{Identifier, ByName, lookup, is_from_to}
use Rattle.base.specs.Options.{some_passes}
use Rattle.base.specs.declared.element.ElementType.{ElementType}
use Rattle.base.specs.declared.element.ElementType.TheVariants.{Int as JInt, Short as JShort, Byte as JByte, Char as JChar}
use Rattle.base.proofs.Lists.{get_front}
use Rattle.class_rules.specs.BuiltIns.{built_ins, class_class, string_class, out_of_memory_error, number_array}
use Rattle.class_rules.specs.Class.{FieldType, NumberField, ReferenceField, ClassKind, Plain, ArrayOfNumbers, ArrayOfObjects, Class, Classes, class_kind, class_named, is_plain, array_name, assignable}
use Rattle.class_rules.specs.Mangling.{is_simple_name}
use Rattle.class_rules.proofs.Unescaping.{some_of}
use Rattle.semantics.proofs.ShownRows.{length-before}
use Rattle.semantics.specs.Heap.{class_of, is_instance}
use Rattle.semantics.specs.Object.{ObjectValue, Refers, Object}
use Rattle.semantics.specs.World.{class_object, class_objects, fresh_object, made_before}
use Rattle.world_values.specs.CallArguments.{is_argument}
use Rattle.world_values.specs.SoundWorlds.{types_by_kind, value_fits, IsObjectAfter}
use Rattle.world_values.specs.WorldLines.{WorldValue, NumberValue, NullValue, NamedObject, NamedClass, WorldLine, MethodsLine, ClassLine, FieldLine, StaticLine, ObjectLine, ObjectsLine, ArrayLine, StringLine, ThreadLine, CallLine, Lines}
use Rattle.world_values.specs.WorldMeaning.{class_number, table_of, object_defined, objects_defined, class_of_object, value_of, values_of_line, object_of}
use Rattle.world_values.specs.WorldRules.{is_object_class, layout_types, is_known_value, holds_value, each_holds, value_in_range, each_in_range}
use Rattle.world_values.proofs.LoadedWorlds.{map_get}
use Rattle.world.proofs.GrownClasses.{named_open}
use Rattle.world.proofs.GrownLines.{objects_of, is_called}
use Rattle.world.proofs.KeptLines.{IsKept}
use Rattle.world.proofs.Places.{found, position-found}
use Rattle.world.proofs.WorldTables.{IsWorldTable, named, get_seam}
use Rattle.classes.proofs.Places.{same_bytes}

-- ---- places

-- the objects made before the next line, at its load
abbrev pub made_so_far : Lines → List Object
made_so_far lines = made_before (table_of lines) ++ objects_of lines

-- a name has a place, and its class is there
pub record IsPlaced (x : Identifier) (os : ByName ℕ) (c : ℕ) : Type 0 where
  pub place : ℕ
  pub is : found (is_called x) os ≡ Some place
  pub class : slice_get (map (λ (o : Identifier × ℕ). o.1) os) place ≡ Some c

pub looked_up : (x : Identifier) (os : ByName ℕ) (c : ℕ) → lookup x os ≡ Some c → IsPlaced x os c
looked_up x [] c h = absurd (cc)
looked_up x ((y, v) ∷ os) c h = by_test (bytes_eq x y) (sym (same_bytes x y)) h (looked_up x os c)
  where
    by_test : (b : Bool) → bytes_eq y x ≡ b → cond b (Some v) (lookup x os) ≡ Some c → (lookup x os ≡ Some c → IsPlaced x os c) → IsPlaced x ((y, v) ∷ os) c
    by_test true e k further = record { place = 0; is = ap (λ b. cond b (Some 0) (option_map (λ (i : ℕ). suc i) (found (is_called x) os))) e; class = k }
    by_test false e k further =
        let p = further k in
        record {
          place = suc p.place;
          is = ap (λ b. cond b (Some 0) (option_map (λ (i : ℕ). suc i) (found (is_called x) os))) e ∙ ap (option_map (λ (i : ℕ). suc i)) p.is;
          class = p.class;
        }

-- the classes of the objects are those that were said
pub same_classes : (L lines : Lines) → map (λ (o : Object). o.class) (filter_map (λ (l : ℕ × WorldLine). object_of L l.1) lines) ≡ map (λ (o : Identifier × ℕ). o.1) (filter_map (λ (l : ℕ × WorldLine). object_defined (table_of L) l.1) lines)
same_classes L [] = refl
same_classes L (l ∷ lines) = by_value (object_defined (table_of L) l.1) (same_classes L lines)
  where
    made : Identifier × ℕ → Object
    made o = record { class = o.1; values = map (value_of L) (values_of_line l.1) }

    rest : List Object
    rest = filter_map (λ (k : ℕ × WorldLine). object_of L k.1) lines

    others : ByName ℕ
    others = filter_map (λ (k : ℕ × WorldLine). object_defined (table_of L) k.1) lines

    by_value : (o : Option (Identifier × ℕ)) → map (λ (o : Object). o.class) rest ≡ map (λ (o : Identifier × ℕ). o.1) others
        → map (λ (o : Object). o.class) (cons_option (option_map made o) rest) ≡ map (λ (o : Identifier × ℕ). o.1) (cons_option o others)
    by_value None e = e
    by_value (Some o) e = ap (λ (cs : List ℕ). o.1 ∷ cs) e

class_objects_at : (T : Classes) (n : ℕ) (ds : Classes) (i : ℕ) → i < length ds → (o : Object) × (slice_get (map (λ (c : ℕ × Class). class_object T c.0) (enumerate_from n ds)) i ≡ Some o) × (o.class ≡ class_class)
class_objects_at T n [] i h = absurd (omega (arith, h))
class_objects_at T n (d ∷ ds) zero h = (class_object T n, refl, refl)
class_objects_at T n (d ∷ ds) (suc i) h = class_objects_at T (n + 1) ds i (omega (arith, h))

abbrev class_in : Option Object → ℕ
class_in o = option_map_or (λ (d : Object). d.class) o 0

-- the class of a class object
class_of_class : (T : Classes) (more : List Object) (k : ℕ) → 0 < k → k ≤ length T → class_of ((class_objects T ++ fresh_object T out_of_memory_error ∷ []) ++ more) k ≡ class_class
class_of_class T more zero low high = absurd (omega (arith, low))
class_of_class T more (suc i) low high =
    let o = class_objects_at T 1 T i (omega (arith, high)) in
    ap class_in (get_front (made_before T) more i o.0 (get_front (class_objects T) (fresh_object T out_of_memory_error ∷ []) i o.0 o.1)) ∙ o.2

-- ---- built-in classes

is_plain_so : (k : ClassKind) → is_plain k ≡ true → k ≡ Plain
is_plain_so Plain h = refl
is_plain_so (ArrayOfNumbers t) h = absurd (let no : false ≡ true = h in cc)
is_plain_so (ArrayOfObjects c) h = absurd (let no : false ≡ true = h in cc)

class_plain : is_plain (class_kind built_ins class_class) ≡ true
unfolding built_ins
class_plain = refl

string_plain : class_kind built_ins string_class ≡ Plain
unfolding built_ins
string_plain = refl

number_array_kind : (t : ElementType) → (0 < number_array t) × (number_array t ≤ 42) × (class_kind built_ins (number_array t) ≡ ArrayOfNumbers t)
unfolding built_ins
number_array_kind JInt = (omega arith, omega arith, refl)
number_array_kind JShort = (omega arith, omega arith, refl)
number_array_kind JByte = (omega arith, omega arith, refl)
number_array_kind JChar = (omega arith, omega arith, refl)

-- ---- the objects that are made

module _ (L : Lines) where
  abbrev T : Classes
  T = table_of L

  abbrev made : List Object
  made = made_so_far L

  pub made-length : length made ≡ length T + 1 + length (objects_of L)
  made-length = length-append (made_before T) (objects_of L) ∙ ap (λ n. n + length (objects_of L)) (length-before T)

  class_of_made : (i c : ℕ) → slice_get (map (λ (o : Identifier × ℕ). o.1) (objects_defined L)) i ≡ Some c → (i < length (objects_of L)) × (class_of made (length T + 2 + i) ≡ c)
  class_of_made i c h =
      let o = map_get (λ (o : Object). o.class) (objects_of L) i c (ap (λ cs. slice_get cs i) (same_classes L L) ∙ h) in
      let number : length T + 2 + i ≡ suc (length (made_before T) + i) = omega (arith, length-before T) in
      (slice_get_within (objects_of L) i o.0 o.1, ap (class_of made) number ∙ ap class_in (get_seam (made_before T) (objects_of L) i ∙ o.1) ∙ o.2)

  -- what a known value refers to is made, and of the class that was said
  pub record Refers_to (v : WorldValue) (class : ℕ) : Type 0 where
    pub number : ℕ
    pub is : value_of L v ≡ Refers (Some number)
    pub low : 0 < number
    pub high : number ≤ length made
    pub of_class : class_of made number ≡ class

  pub object_refers : (x : Identifier) → is_known_value L (NamedObject x) ≡ true → Refers_to (NamedObject x) (unwrap_or (class_of_object L x) 0)
  object_refers x h =
      let c = some_of (class_of_object L x) h in
      let p = looked_up x (objects_defined L) c.0 c.1 in
      let of = class_of_made p.place c.0 p.class in
      record {
        number = length T + 2 + p.place;
        is = ap (λ o. Refers (option_map (λ i. length T + 2 + i) o)) (position-found (is_called x) (objects_defined L) ∙ p.is);
        low = omega arith;
        high = omega (arith, of.0, made-length);
        of_class = of.1 ∙ ap (λ o. unwrap_or o 0) (sym c.1);
      }

  pub class_refers : (name : Identifier) → is_known_value L (NamedClass name) ≡ true → Refers_to (NamedClass name) class_class
  class_refers name h =
      let c = some_of (class_named T name) h in
      let is = named T name c.0 c.1 in
      record {
        number = c.0;
        is = ap Refers c.1;
        low = is.low;
        high = omega (arith, is.high, made-length);
        of_class = class_of_class T (objects_of L) c.0 is.low is.high;
      }

  -- ---- arguments

  refers_argument : (v : WorldValue) (class : ℕ) → Refers_to v class → is_argument (length made) (value_of L v) ≡ true
  refers_argument v class r = ap (is_argument (length made)) r.is ∙ and_from (nat_lt 0 r.number) (nat_le r.number (length made)) (lt-ltb 0 r.number r.low) (le-leb r.number (length made) r.high)

  pub is_given : (v : WorldValue) → is_known_value L v ≡ true → value_in_range JInt v ≡ true → is_argument (length made) (value_of L v) ≡ true
  is_given (NumberValue z) h range = range
  is_given NullValue h range = refl
  is_given (NamedObject x) h range = refers_argument (NamedObject x) _ (object_refers x h)
  is_given (NamedClass name) h range = refers_argument (NamedClass name) _ (class_refers name h)

  pub are_given : (vs : List WorldValue) → list_all (is_known_value L) vs ≡ true → list_all (value_in_range JInt) vs ≡ true → list_all (is_argument (length made)) (map (value_of L) vs) ≡ true
  are_given [] h range = refl
  are_given (v ∷ vs) h range =
      let k = and_parts (is_known_value L v) (list_all (is_known_value L) vs) h in
      let r = and_parts (value_in_range JInt v) (list_all (value_in_range JInt) vs) range in
      and_from (is_argument (length made) (value_of L v)) (list_all (is_argument (length made)) (map (value_of L) vs)) (is_given v k.0 r.0) (are_given vs k.1 r.1)

  -- ---- values

  refers_fits : (v : WorldValue) (class c : ℕ) → Refers_to v class → assignable T class c ≡ true → value_fits T made (ReferenceField c) (value_of L v) ≡ true
  refers_fits v class c r h =
      ap (value_fits T made (ReferenceField c)) r.is
      ∙ and_from (nat_lt 0 r.number && nat_le r.number (length made)) (is_instance T made r.number c)
      (and_from (nat_lt 0 r.number) (nat_le r.number (length made)) (lt-ltb 0 r.number r.low) (le-leb r.number (length made) r.high))
      (ap (λ k. assignable T k c) r.of_class ∙ h)

  -- the range that a type asks of a value
  abbrev in_range : FieldType → WorldValue → Bool
  in_range (NumberField t) v = value_in_range t v
  in_range (ReferenceField c) v = true

  value_fitting : (t : FieldType) (v : WorldValue) → is_known_value L v ≡ true → holds_value L t v ≡ true → in_range t v ≡ true → value_fits T made t (value_of L v) ≡ true
  value_fitting (NumberField t) (NumberValue z) known holds range = range
  value_fitting (NumberField t) NullValue known holds range = absurd (let no : false ≡ true = holds in cc)
  value_fitting (NumberField t) (NamedObject x) known holds range = absurd (let no : false ≡ true = holds in cc)
  value_fitting (NumberField t) (NamedClass x) known holds range = absurd (let no : false ≡ true = holds in cc)
  value_fitting (ReferenceField c) (NumberValue z) known holds range = absurd (let no : false ≡ true = holds in cc)
  value_fitting (ReferenceField c) NullValue known holds range = refl
  value_fitting (ReferenceField c) (NamedObject x) known holds range = refers_fits (NamedObject x) _ c (object_refers x known) holds
  value_fitting (ReferenceField c) (NamedClass name) known holds range = refers_fits (NamedClass name) _ c (class_refers name known) holds

  first_range : (t : FieldType) (types : List FieldType) (v : WorldValue) (vs : List WorldValue) → each_in_range (t ∷ types) (v ∷ vs) ≡ true → (in_range t v ≡ true) × (each_in_range types vs ≡ true)
  first_range (NumberField t) types v vs h = and_parts (value_in_range t v) (each_in_range types vs) h
  first_range (ReferenceField c) types v vs h = (refl, h)

  values_fit : (types : List FieldType) (vs : List WorldValue) → length vs ≡ length types → list_all (is_known_value L) vs ≡ true → each_holds L types vs ≡ true → each_in_range types vs ≡ true
      → AllZip (λ t v. IsTrue (value_fits T made t v)) types (map (value_of L) vs)
  values_fit [] [] long known holds range = tt
  values_fit [] (v ∷ vs) long known holds range = absurd (omega (arith, long))
  values_fit (t ∷ types) [] long known holds range = absurd (omega (arith, long))
  values_fit (t ∷ types) (v ∷ vs) long known holds range =
      let k = and_parts (is_known_value L v) (list_all (is_known_value L) vs) known in
      let h = and_parts (holds_value L t v) (each_holds L types vs) holds in
      let r = first_range t types v vs range in
      (value_fitting t v k.0 h.0 r.0, values_fit types vs (omega (arith, long)) k.1 h.1 r.1)

  -- one type for all values
  same_types : (t : FieldType) (vs : List WorldValue) → map (λ (v : ObjectValue). t) (map (value_of L) vs) ≡ map (λ (v : WorldValue). t) vs
  same_types t [] = refl
  same_types t (v ∷ vs) = ap (λ (ts : List FieldType). t ∷ ts) (same_types t vs)

  as_many : (t : FieldType) (vs : List WorldValue) → length vs ≡ length (map (λ (v : WorldValue). t) vs)
  as_many t [] = refl
  as_many t (v ∷ vs) = ap suc (as_many t vs)

  all_fit : (t : FieldType) (vs : List WorldValue) → list_all (is_known_value L) vs ≡ true → each_holds L (map (λ v. t) vs) vs ≡ true → each_in_range (map (λ v. t) vs) vs ≡ true
      → AllZip (λ t v. IsTrue (value_fits T made t v)) (map (λ v. t) (map (value_of L) vs)) (map (value_of L) vs)
  all_fit t vs known holds range =
      subst (λ types. AllZip (λ t v. IsTrue (value_fits T made t v)) types (map (value_of L) vs)) (sym (same_types t vs)) (values_fit (map (λ v. t) vs) vs (as_many t vs) known holds range)

  -- ---- the object of a line

  fits_so : (c : ℕ) (k : ClassKind) (types : List FieldType) (values : List ObjectValue) → 0 < c → c ≤ length T → (c == class_class) ≡ false → class_kind T c ≡ k → types_by_kind T c k values ≡ types
      → AllZip (λ t v. IsTrue (value_fits T made t v)) types values → IsObjectAfter T made (record { class = c; values = values })
  fits_so c k types values low high other kind is fit = record {
    class = (low, high);
    no_class = other;
    values = subst (λ ts. AllZip (λ t v. IsTrue (value_fits T made t v)) ts values) (sym (ap (λ j. types_by_kind T c j values) kind ∙ is)) fit;
  }

  module _ (table : IsWorldTable T) where
    -- a class of arrays is not that of classes
    no_class_class : (c : ℕ) → is_plain (class_kind T c) ≡ false → (c == class_class) ≡ false
    no_class_class c h = by_test (c == class_class) refl
      where
        by_test : (b : Bool) → (c == class_class) ≡ b → b ≡ false
        by_test false e = refl
        by_test true e = absurd (let no : true ≡ false = sym class_plain ∙ sym (ap is_plain (table.kinds class_class (omega arith))) ∙ ap (λ k. is_plain (class_kind T k)) (sym (eqb-true c class_class e)) ∙ h in cc)

    plain_fits : (x class : Identifier) (vs : List WorldValue) → is_object_class T class ≡ true → (not (is_object_class T class) || length vs == length (layout_types T (class_number T class))) ≡ true → list_all (is_known_value L) vs ≡ true
        → each_holds L (layout_types T (class_number T class)) vs ≡ true → each_in_range (layout_types T (class_number T class)) vs ≡ true → IsObjectAfter T made (record { class = class_number T class; values = map (value_of L) vs })
    plain_fits x class vs allowed long known holds range =
        let c = class_number T class in
        let o = named_open T class allowed in
        let own = or_parts (not (is_plain (class_kind T c)) || c == string_class) (c == class_class) o.open_class in
        let string = or_parts (not (is_plain (class_kind T c))) (c == string_class) own.0 in
        let many : (length vs == length (layout_types T c)) ≡ true = sym (ap (λ b. not b || length vs == length (layout_types T c)) allowed) ∙ long in
        fits_so c Plain (layout_types T c) (map (value_of L) vs) o.low o.high own.1 (is_plain_so (class_kind T c) (not-false _ string.0))
        (ap (λ b. cond b (map (λ v. NumberField JChar) (map (value_of L) vs)) (layout_types T c)) string.1)
        (values_fit (layout_types T c) vs (eqb-true (length vs) (length (layout_types T c)) many) known holds range)

    array_fits : (class : Identifier) (vs : List WorldValue) → some_passes (λ c. is_plain (class_kind T c)) (class_named T class) ≡ true → list_all (is_known_value L) vs ≡ true
        → each_holds L (map (λ v. ReferenceField (class_number T class)) vs) vs ≡ true → each_in_range (map (λ v. ReferenceField (class_number T class)) vs) vs ≡ true
        → IsObjectAfter T made (record { class = class_number T (array_name class); values = map (value_of L) vs })
    array_fits class vs allowed known holds range = by_value (class_named T class) refl allowed
      where
        by_value : (o : Option ℕ) → class_named T class ≡ o → some_passes (λ c. is_plain (class_kind T c)) o ≡ true → IsObjectAfter T made (record { class = class_number T (array_name class); values = map (value_of L) vs })
        by_value None e k = absurd (cc)
        by_value (Some c) e k =
            let a = table.arrays class c e k in
            let n = named T (array_name class) a.number a.is in
            let number : a.number ≡ class_number T (array_name class) = ap (λ o. unwrap_or o 0) (sym a.is) in
            let own : class_number T class ≡ c = ap (λ o. unwrap_or o 0) e in
            subst (λ m. IsObjectAfter T made (record { class = m; values = map (value_of L) vs })) number
            (fits_so a.number (ArrayOfObjects c) (map (λ v. ReferenceField c) (map (value_of L) vs)) (map (value_of L) vs) n.low n.high (no_class_class a.number (ap is_plain a.kind)) a.kind refl
            (all_fit (ReferenceField c) vs known (ap (λ m. each_holds L (map (λ v. ReferenceField m) vs) vs) (sym own) ∙ holds) (ap (λ m. each_in_range (map (λ v. ReferenceField m) vs) vs) (sym own) ∙ range)))

    numbers_fit : (t : ElementType) (vs : List WorldValue) → list_all (is_known_value L) vs ≡ true → each_holds L (map (λ v. NumberField t) vs) vs ≡ true → each_in_range (map (λ v. NumberField t) vs) vs ≡ true
        → IsObjectAfter T made (record { class = number_array t; values = map (value_of L) vs })
    numbers_fit t vs known holds range =
        let n = number_array_kind t in
        let kind = table.kinds (number_array t) n.1 ∙ n.2 in
        fits_so (number_array t) (ArrayOfNumbers t) (map (λ v. NumberField t) (map (value_of L) vs)) (map (value_of L) vs) (n.0) (omega (arith, n.1, table.long)) (no_class_class (number_array t) (ap is_plain kind)) kind refl
        (all_fit (NumberField t) vs known holds range)

    text_fits : (text : List ℕ) → list_all (is_from_to 32 126) text ≡ true → AllZip (λ t v. IsTrue (value_fits T made t v)) (map (λ v. NumberField JChar) (map (value_of L) (map (λ b. NumberValue (pos b)) text))) (map (value_of L) (map (λ b. NumberValue (pos b)) text))
    text_fits [] h = tt
    text_fits (b ∷ text) h =
        let k = and_parts (is_from_to 32 126 b) (list_all (is_from_to 32 126) text) h in
        let high = leb-true b 126 (and_parts (nat_le 32 b) (nat_le b 126) k.0).1 in
        (le-leb b 65535 (omega (arith, high)), text_fits text k.1)

    string_fits : (text : List ℕ) → list_all (is_from_to 32 126) text ≡ true → IsObjectAfter T made (record { class = string_class; values = map (value_of L) (map (λ b. NumberValue (pos b)) text) })
    string_fits text h =
        fits_so string_class Plain (map (λ v. NumberField JChar) (map (value_of L) (map (λ b. NumberValue (pos b)) text))) (map (value_of L) (map (λ b. NumberValue (pos b)) text)) (omega arith) (omega (arith, table.long)) refl
        (table.kinds string_class (omega arith) ∙ string_plain) refl (text_fits text h)

    -- the object of a line that keeps the rules fits
    pub object_fits : (cells n : ℕ) (line : WorldLine) → IsKept cells L (n, line) → (o : Object) → object_of L line ≡ Some o → IsObjectAfter T made o
    object_fits cells n (ObjectLine x class values) k o h =
        subst (IsObjectAfter T made) (cc) (plain_fits x class values k.allowed (and_parts (is_simple_name x) _ k.well).1 k.known k.held k.ranged)
    object_fits cells n (ObjectsLine x class values) k o h = subst (IsObjectAfter T made) (cc) (array_fits class values k.allowed k.known k.held k.ranged)
    object_fits cells n (ArrayLine x t values) k o h = subst (IsObjectAfter T made) (cc) (numbers_fit t values k.known k.held k.ranged)
    object_fits cells n (StringLine x text) k o h = subst (IsObjectAfter T made) (cc) (string_fits text (and_parts (is_simple_name x) (list_all (is_from_to 32 126) text) k.well).1)
    object_fits cells n MethodsLine k o h = absurd (cc)
    object_fits cells n (ClassLine name superclass) k o h = absurd (cc)
    object_fits cells n (FieldLine class name signature) k o h = absurd (cc)
    object_fits cells n (StaticLine class name signature) k o h = absurd (cc)
    object_fits cells n (ThreadLine function arguments) k o h = absurd (cc)
    object_fits cells n (CallLine function arguments) k o h = absurd (cc)
