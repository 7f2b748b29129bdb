-- How many cells are used at load, and what one more line adds.
use Rattle.std.proofs.Common.{◌≡◌, ℕ, suc, ◌+◌, ◌-◌, ◌<◌, ◌≤◌, Bool, take, get_or, Option, true, List, [], ◌∷◌, ◌++◌, length, map, Some, None, refl, sym, ap, ◌∙◌, subst, arith, sum_by, length-append}
use Rattle.std.specs.Prelude.{codes, pos, flat_map, reverse, slice_get}
use Rattle.std.specs.Option.{option_map_or, option_to_list}
use Rattle.std.specs.List.{list_all, enumerate_from}
use Rattle.std.proofs.lemmas.List.{length-map}
use Rattle.std.proofs.lemmas.List.Sums.{sum_by-append, sum_by-cons, sum_by_more, sum_by-take-le}
use Rattle.std.proofs.lemmas.Option.{slice_get-get_or}
use Rattle.class_rules.specs.Additions.{new_class}
use Rattle.class_rules.specs.BuiltIns.{built_ins, incompatible_class_change_error, string_class, number_array, object_array_class, out_of_memory_error}
use Rattle.class_rules.specs.Class.{Field, Class, Classes, class_at, superclass, above, ancestry_within, ancestry, array_name}
use Rattle.class_rules.specs.Fields.{FieldId, own_fields, own_statics, layout}
use Rattle.semantics.specs.Object.{Object, size, sizes}
use Rattle.semantics.specs.World.{initial, fresh_object, class_object, class_objects}
use Rattle.world_lines.specs.LineContents.{cells_added}
use Rattle.world_values.specs.WorldLines.{WorldValue, NumberValue, WorldLine, MethodsLine, ClassLine, FieldLine, StaticLine, ObjectLine, ObjectsLine, ArrayLine, StringLine, ThreadLine, CallLine, Lines}
use Rattle.world_values.specs.WorldMeaning.{class_number, superclass_number, field_of, table_with, table_of, value_of, values_of_line, object_of, has_methods, cells_of}
use Rattle.world_values.specs.WorldRules.{is_in_order, is_known_value, is_class_allowed}
use Rattle.world.proofs.ChangedClasses.{changed-sum}
use Rattle.world.proofs.GrownLines.{objects_of, are_known, table_grows, objects_grow}
use Rattle.world.proofs.KeptBuiltIns.{KeepsBuiltIns, line_kept, superclass_kept, own_kept, world_class}

-- ---- the class objects

-- a class object has a cell for each static
abbrev pub class_cells : Class → ℕ
class_cells d = 3 + length d.statics

class_size : (T : Classes) (c : ℕ) (d : Class) → class_at T c ≡ Some d → size (class_object T c) ≡ class_cells d
class_size T c d h =
    let statics = option_map_or (λ (x : Class). x.statics) (class_at T c) [] in
    ap (λ n. 3 + n) (length-map (own_statics T c) (λ (f : FieldId). initial f.field.type) ∙ length-map statics (λ (f : Field). record { class = c; is_static = true; field = f }))
    ∙ ap (λ o. 3 + length (option_map_or (λ (x : Class). x.statics) o [])) h

class_sizes : (T : Classes) (n : ℕ) (ds : Classes) → ((i : ℕ) (d : Class) → slice_get ds i ≡ Some d → class_at T (n + i) ≡ Some d) → sizes (map (λ (c : ℕ × Class). class_object T c.0) (enumerate_from n ds)) ≡ sum_by class_cells ds
class_sizes T n [] at = refl
class_sizes T n (d ∷ ds) at =
    let here : n + 0 ≡ n = omega arith in
    let one = class_size T n d (ap (class_at T) (sym here) ∙ at 0 d refl) in
    let others = class_sizes T (n + 1) ds (λ i x h. let e : n + 1 + i ≡ n + suc i = omega arith in ap (class_at T) e ∙ at (suc i) x h) in
    sum_by-cons size (class_object T n) (map (λ (c : ℕ × Class). class_object T c.0) (enumerate_from (n + 1) ds)) ∙ (λ i. one i + others i) ∙ sym (sum_by-cons class_cells d ds)

class_objects-size : (T : Classes) → sizes (class_objects T) ≡ sum_by class_cells T
class_objects-size T = class_sizes T 1 T (λ i d h. let e : 1 + i ≡ suc i = omega arith in ap (class_at T) e ∙ h)

-- ---- the OutOfMemoryError object

one_above : (n : ℕ) (T : Classes) (c d : ℕ) → superclass T c ≡ Some d → ancestry_within (suc n) T c ≡ c ∷ ancestry_within n T d
one_above n T c d h = ap (λ o. c ∷ above (ancestry_within n T) o) h

none_above : (n : ℕ) (T : Classes) (c : ℕ) → superclass T c ≡ None → ancestry_within (suc n) T c ≡ c ∷ []
none_above n T c h = ap (λ o. c ∷ above (ancestry_within n T) o) h

superclasses : (superclass built_ins 11 ≡ Some 10) × (superclass built_ins 10 ≡ Some 5) × (superclass built_ins 5 ≡ Some 4) × (superclass built_ins 4 ≡ Some 1) × (superclass built_ins 1 ≡ None)
unfolding built_ins
superclasses = (refl, refl, refl, refl, refl)

one_field : length (flat_map (own_fields built_ins) (1 ∷ 4 ∷ 5 ∷ 10 ∷ 11 ∷ [])) ≡ 1
unfolding built_ins
one_field = refl

module _ (T : Classes) (k : KeepsBuiltIns T) where
  error_ancestry : ancestry T 11 ≡ 11 ∷ 10 ∷ 5 ∷ 4 ∷ 1 ∷ []
  error_ancestry =
      let m = length T - 5 in
      let long : length T ≡ suc (suc (suc (suc (suc m)))) = omega (arith, k.long) in
      let s = superclasses in
      ap (λ n. ancestry_within n T 11) long
      ∙ one_above (suc (suc (suc (suc m)))) T 11 10 (superclass_kept T k 11 (omega arith) ∙ s.0)
      ∙ ap (λ (cs : List ℕ). 11 ∷ cs) (one_above (suc (suc (suc m))) T 10 5 (superclass_kept T k 10 (omega arith) ∙ s.1))
      ∙ ap (λ (cs : List ℕ). 11 ∷ 10 ∷ cs) (one_above (suc (suc m)) T 5 4 (superclass_kept T k 5 (omega arith) ∙ s.2))
      ∙ ap (λ (cs : List ℕ). 11 ∷ 10 ∷ 5 ∷ cs) (one_above (suc m) T 4 1 (superclass_kept T k 4 (omega arith) ∙ s.3))
      ∙ ap (λ (cs : List ℕ). 11 ∷ 10 ∷ 5 ∷ 4 ∷ cs) (none_above m T 1 (superclass_kept T k 1 (omega arith) ∙ s.4))

  -- its one field is the message
  error_layout : length (layout T 11) ≡ 1
  error_layout =
      ap (λ cs. length (flat_map (own_fields T) (reverse cs))) error_ancestry
      ∙ (λ i. length (own_kept T k 1 (omega arith) i ++ (own_kept T k 4 (omega arith) i ++ (own_kept T k 5 (omega arith) i ++ (own_kept T k 10 (omega arith) i ++ (own_kept T k 11 (omega arith) i ++ []))))))
      ∙ one_field

  error_size : size (fresh_object T out_of_memory_error) ≡ 4
  error_size = ap (λ n. 3 + n) (length-map (layout T out_of_memory_error) (λ (f : FieldId). initial f.field.type) ∙ error_layout)

-- ---- all that is made at load

pub cells_told : (L : Lines) → KeepsBuiltIns (table_of L) → cells_of L ≡ sum_by class_cells (table_of L) + (4 + sizes (objects_of L))
cells_told L k =
    let T = table_of L in
    sum_by-append size (class_objects T) (fresh_object T out_of_memory_error ∷ objects_of L)
    ∙ ap (λ n. sizes (class_objects T) + n) (sum_by-cons size (fresh_object T out_of_memory_error) (objects_of L))
    ∙ (λ i. class_objects-size T i + (error_size T k i + sizes (objects_of L)))

module _ (L : Lines) where
  abbrev T : Classes
  T = table_of L

  -- an object's cells
  made_size : (c : ℕ) (values : List WorldValue) → sizes ((record { class = c; values = map (value_of L) values }) ∷ []) ≡ 3 + length values
  made_size c values =
      let o : Object = record { class = c; values = map (value_of L) values } in
      sum_by-cons size o [] ∙ omega (arith, length-map values (value_of L))

  static_more : (field : Field) (d : Class) → class_cells (record d { statics = d.statics ++ field ∷ [] }) ≡ class_cells d + 1
  static_more field d = omega (arith, length-append d.statics (field ∷ []))

  adds : (methods : Bool) (line : WorldLine) → is_class_allowed methods T line ≡ true → sum_by class_cells (table_with T line) + sizes (option_to_list (object_of L line)) ≡ sum_by class_cells T + cells_added line
  adds methods MethodsLine h =
      let new = new_class (codes "java/lang/NoSuchMethodError") (Some incompatible_class_change_error) in
      omega (arith, sum_by-append class_cells T (new ∷ object_array_class (length T + 1, new) ∷ []))
  adds methods (ClassLine name superclass) h =
      let new = new_class name (Some (superclass_number T superclass)) in
      omega (arith, sum_by-append class_cells T (new ∷ object_array_class (length T + 1, new) ∷ []))
  adds methods (FieldLine class name signature) h =
      let w = world_class methods T class h in
      let same : (d : Class) → class_cells (record d { fields = d.fields ++ field_of T name signature ∷ [] }) ≡ class_cells d + 0 = λ d. omega arith in
      omega (arith, changed-sum (λ d. record d { fields = d.fields ++ field_of T name signature ∷ [] }) (class_number T class) class_cells 0 same T (omega (arith, w.after_built_ins)) w.within)
  adds methods (StaticLine class name signature) h =
      let w = world_class methods T class h in
      omega (arith, changed-sum (λ d. record d { statics = d.statics ++ field_of T name signature ∷ [] }) (class_number T class) class_cells 1 (static_more (field_of T name signature)) T (omega (arith, w.after_built_ins)) w.within)
  adds methods (ObjectLine x class values) h = ap (λ n. sum_by class_cells T + n) (made_size (class_number T class) values)
  adds methods (ObjectsLine x class values) h = ap (λ n. sum_by class_cells T + n) (made_size (class_number T (array_name class)) values)
  adds methods (ArrayLine x t values) h = ap (λ n. sum_by class_cells T + n) (made_size (number_array t) values)
  adds methods (StringLine x text) h = ap (λ n. sum_by class_cells T + n) (made_size string_class (map (λ b. NumberValue (pos b)) text) ∙ ap (λ n. 3 + n) (length-map text (λ b. NumberValue (pos b))))
  adds methods (ThreadLine function arguments) h = omega arith
  adds methods (CallLine function arguments) h = omega arith

  -- one more line of known values, in its order, whose class is allowed
  pub cells_grow : (n : ℕ) (line : WorldLine) → KeepsBuiltIns T → is_in_order L line ≡ true → are_known L ≡ true → list_all (is_known_value L) (values_of_line line) ≡ true → is_class_allowed (has_methods L) T line ≡ true
      → cells_of (L ++ (n, line) ∷ []) ≡ cells_of L + cells_added line
  cells_grow n line k ordered known own allowed =
      let next = L ++ (n, line) ∷ [] in
      let table = table_grows L n line in
      let told = cells_told next (subst KeepsBuiltIns (sym table) (line_kept T k (has_methods L) line allowed)) in
      let objects : sizes (objects_of next) ≡ sizes (objects_of L) + sizes (option_to_list (object_of L line)) = ap sizes (objects_grow L n line ordered known own) ∙ sum_by-append size (objects_of L) (option_to_list (object_of L line)) in
      let classes : sum_by class_cells (table_of next) ≡ sum_by class_cells (table_with T line) = ap (sum_by class_cells) table in
      omega (arith, told, objects, classes, cells_told L k, adds (has_methods L) line allowed)

-- ---- where a world defines nothing

-- the class objects of the built-in classes
built_in_cells : sum_by class_cells built_ins ≡ 126
unfolding built_ins
built_in_cells = refl

-- the message of the OutOfMemoryError object
pub error_fields : length (layout built_ins out_of_memory_error) ≡ 1
unfolding built_ins
error_fields = refl

pub all_built_ins : 4 + sum_by class_cells (take (length built_ins) built_ins) ≡ cells_of []
unfolding built_ins
all_built_ins = refl

pub few_cells : (i : ℕ) → 4 + sum_by class_cells (take i built_ins) ≤ 130
few_cells i = omega (arith, sum_by-take-le class_cells built_ins i, built_in_cells)

-- one class more, which has these statics
pub one_class_more : (i : ℕ) (fields : List FieldId) → i < length built_ins → fields ≡ own_statics built_ins (i + 1) → sum_by class_cells (take (i + 1) built_ins) ≡ sum_by class_cells (take i built_ins) + (3 + length fields)
one_class_more i fields within is =
    let d : Class = get_or built_ins i (new_class [] None) in
    let at : class_at built_ins (i + 1) ≡ Some d = let e : i + 1 ≡ suc i = omega arith in ap (class_at built_ins) e ∙ slice_get-get_or built_ins i (new_class [] None) within in
    let count : length fields ≡ length d.statics =
    ap (λ (fs : List FieldId). length fs) is
    ∙ length-map (option_map_or (λ (x : Class). x.statics) (class_at built_ins (i + 1)) []) (λ (f : Field). record { class = i + 1; is_static = true; field = f })
    ∙ ap (λ (o : Option Class). length (option_map_or (λ (x : Class). x.statics) o [])) at in
    omega (arith, sum_by_more class_cells built_ins i (new_class [] None) within, count)
