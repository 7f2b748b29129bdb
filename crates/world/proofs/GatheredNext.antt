-- What the lines say with one more that breaks no rule is what was gathered, with that line.
use Rattle.std.proofs.Common.{◌≡◌, ℕ, ◌+◌, true, false, List, [], ◌∷◌, ◌++◌, length, map, Option, Some, None, refl, sym, ap, ◌∙◌, arith, append-nil, length-append}
use Rattle.std.specs.Prelude.{not, ◌==◌, codes, pos, unwrap_or, bytes_eq}
use Rattle.std.specs.Option.{option_map, option_to_list}
use Rattle.std.proofs.lemmas.Bool.{and_parts, not-false}
use Rattle.std.proofs.lemmas.List.{length-map}
use Rattle.base.specs.Bytes.{Identifier, ByName}
use Rattle.base.specs.Options.{some_passes}
use Rattle.class_rules.specs.declared.rule.ClassRule.TheVariants.{BadSuperclass}
use Rattle.class_rules.specs.Additions.{class_breaks, new_class, with_class}
use Rattle.class_rules.specs.BuiltIns.{built_ins, has_own_making, string_class, number_array, root_class}
use Rattle.class_rules.specs.Class.{Class, Classes, class_at, class_named, array_name}
use Rattle.semantics.specs.Object.{ObjectValue, Number}
use Rattle.world.specs.Gathered.{Gathered, gather, value_at, with_object, with_line}
use Rattle.world_lines.specs.LineContents.{cells_added}
use Rattle.world.specs.ReadingWorlds.{rule_broken}
use Rattle.world_values.specs.declared.part.Part.{Part}
use Rattle.world_values.specs.declared.part.Part.TheVariants as parts
use Rattle.world_values.specs.WorldLines.{WorldValue, NumberValue, NullValue, NamedObject, NamedClass, WorldLine, MethodsLine, ClassLine, FieldLine, StaticLine, ObjectLine, ObjectsLine, ArrayLine, StringLine, ThreadLine, CallLine, Lines}
use Rattle.world_values.specs.WorldMeaning.{class_number, superclass_number, table_with, table_of, object_defined, objects_defined, value_of, object_of, invocation_of_line, with_last, threads_with, threads_of, has_methods, cells_of}
use Rattle.world_values.specs.WorldRules.{part_of, is_no_later, is_in_order, broken_by_line}
use Rattle.world.proofs.GatheredLines.{AreGathered, length-with_last}
use Rattle.world.proofs.GrownLines.{objects_of, IsBeforeThreads, table_grows, defined_grow, objects_grow, threads_grow, no_threads}
use Rattle.world.proofs.KeptBuiltIns.{KeepsBuiltIns}
use Rattle.world.proofs.KeptLines.{IsKept, kept_line}
use Rattle.world.proofs.Places.{position-found}
use Rattle.world.proofs.OrderedLines.{order_told, more_ordered}
use Rattle.world.proofs.ReadWorlds.{least_none}
use Rattle.world.proofs.Soundness.{line_sound, methods_stay}
use Rattle.world_lines.proofs.Tests.{later_number}
use Rattle.world.proofs.WorldCells.{cells_grow}

-- ---- the superclass of a new class

root_first : class_at built_ins 1 ≡ Some root_class
unfolding built_ins
root_first = refl

root_named : (T : Classes) → class_at T 1 ≡ Some root_class → class_named T (codes "java/lang/Object") ≡ Some 1
root_named [] h = absurd (cc)
root_named (d ∷ T) h = let same : d ≡ root_class = some d root_class h in ap (λ (x : Class). class_named (x ∷ T) (codes "java/lang/Object")) same ∙ ap (option_map (λ i. i + 1)) (position-found (λ (c : Class). bytes_eq c.name (codes "java/lang/Object")) (root_class ∷ T))
  where
    some : (a b : Class) → Some a ≡ Some b → a ≡ b
    some a b e = cc

named_number : (T : Classes) (name : Identifier) → some_passes (λ c. not (has_own_making T c)) (class_named T name) ≡ true → class_named T name ≡ Some (class_number T name)
named_number T name h = by_value (class_named T name) h
  where
    by_value : (o : Option ℕ) → some_passes (λ c. not (has_own_making T c)) o ≡ true → o ≡ Some (unwrap_or o 0)
    by_value None e = absurd (let no : false ≡ true = e in cc)
    by_value (Some c) e = refl

superclass_told : (T : Classes) (name : Identifier) (superclass : Option Identifier) → KeepsBuiltIns T → class_breaks BadSuperclass T name (unwrap_or superclass (codes "java/lang/Object")) ≡ false
    → class_named T (unwrap_or superclass (codes "java/lang/Object")) ≡ Some (superclass_number T superclass)
superclass_told T name None k h = root_named T (k.each 1 (omega arith) ∙ root_first)
superclass_told T name (Some above) k h = named_number T above (not-false (some_passes (λ c. not (has_own_making T c)) (class_named T above)) h)

-- ---- one more line

module _ (heap_line cells : ℕ) (part : Part) (L : Lines) (s : AreGathered cells part L) (n : ℕ) where
  abbrev T : Classes
  T = table_of L

  abbrev N : ByName ℕ
  N = objects_defined L

  abbrev g : Gathered
  g = gather heap_line cells part L

  value_same : (v : WorldValue) → value_of L v ≡ value_at T N v
  value_same (NumberValue z) = refl
  value_same NullValue = refl
  value_same (NamedObject x) = refl
  value_same (NamedClass name) = refl

  values_same : (values : List WorldValue) → map (value_of L) values ≡ map (value_at T N) values
  values_same values = λ i. map (λ v. value_same v i) values

  units_same : (text : List ℕ) → map (value_of L) (map (λ b. NumberValue (pos b)) text) ≡ map (λ b. Number (pos b)) text
  units_same [] = refl
  units_same (b ∷ text) = ap (λ (vs : List ObjectValue). Number (pos b) ∷ vs) (units_same text)

  -- what there is of each kind after a line, by the lines before it
  abbrev grown : WorldLine → Gathered
  grown line = record {
    heap_line = heap_line;
    methods = has_methods L;
    cells = cells;
    classes = table_with T line;
    names = N ++ option_to_list (object_defined T line);
    objects = objects_of L ++ option_to_list (object_of L line);
    threads = threads_with L (threads_of L) (n, line);
    used = cells_of L + cells_added line;
    part = part_of line;
  }

  more_object : (x : Identifier) (class : ℕ) (values : List ObjectValue) (held : List ObjectValue) (size : ℕ) → values ≡ held → length held ≡ size
      → record g { names = N ++ (x, class) ∷ []; objects = objects_of L ++ record { class = class; values = values } ∷ []; used = cells_of L + (3 + size); part = parts.Objects } ≡ with_object g x class held
  more_object x class values held size e k = λ i. record g { names = N ++ (x, class) ∷ []; objects = objects_of L ++ (record { class = class; values = e i }) ∷ []; used = cells_of L + (3 + sym k i); part = parts.Objects }

  line_added : (line : WorldLine) → IsKept cells L (n, line) → grown line ≡ with_line g n line
  line_added MethodsLine k = absurd (let no : false ≡ true = k.well in cc)
  line_added (ClassLine name superclass) k =
      let above = superclass_told T name superclass s.sound.built_ins (k.class_rules BadSuperclass) in
      λ i. record g { classes = with_class T (new_class name (sym above i)); names = append-nil N i; objects = append-nil (objects_of L) i; used = cells_of L + 6; part = parts.Classes }
  line_added (FieldLine class name signature) k =
      let none : cells_of L + 0 ≡ cells_of L = omega arith in
      λ i. record g { classes = table_with T (FieldLine class name signature); names = append-nil N i; objects = append-nil (objects_of L) i; used = none i; part = parts.Classes }
  line_added (StaticLine class name signature) k =
      λ i. record g { classes = table_with T (StaticLine class name signature); names = append-nil N i; objects = append-nil (objects_of L) i; used = cells_of L + 1; part = parts.Classes }
  line_added (ObjectLine x class values) k = more_object x (class_number T class) (map (value_of L) values) (map (value_at T N) values) (length values) (values_same values) (length-map values (value_at T N))
  line_added (ObjectsLine x class values) k = more_object x (class_number T (array_name class)) (map (value_of L) values) (map (value_at T N) values) (length values) (values_same values) (length-map values (value_at T N))
  line_added (ArrayLine x t values) k = more_object x (number_array t) (map (value_of L) values) (map (value_at T N) values) (length values) (values_same values) (length-map values (value_at T N))
  line_added (StringLine x text) k =
      more_object x string_class (map (value_of L) (map (λ b. NumberValue (pos b)) text)) (map (λ b. Number (pos b)) text) (length text) (units_same text) (length-map text (λ b. Number (pos b)))
  line_added (ThreadLine f vs) k =
      let none : cells_of L + 0 ≡ cells_of L = omega arith in
      λ i. record g { names = append-nil N i; objects = append-nil (objects_of L) i; threads = threads_of L ++ ((record { line = n; function = f; arguments = values_same vs i }) ∷ []) ∷ []; used = none i; part = parts.Threads }
  line_added (CallLine f vs) k =
      let none : cells_of L + 0 ≡ cells_of L = omega arith in
      λ i. record g { names = append-nil N i; objects = append-nil (objects_of L) i; threads = with_last (record { line = n; function = f; arguments = values_same vs i }) (threads_of L); used = none i; part = parts.Threads }

  module _ (line : WorldLine) (kept : rule_broken cells L (n, line) ≡ None) where
    abbrev next : Lines
    next = L ++ (n, line) ∷ []

    k : IsKept cells L (n, line)
    k = kept_line cells L n line (least_none (broken_by_line cells L (n, line)) kept)

    threads_next : threads_of next ≡ threads_with L (threads_of L) (n, line)
    threads_next = threads_grow L n line k.ordered s.sound.known k.known

    pub gathered_next : gather heap_line cells (part_of line) next ≡ with_line g n line
    gathered_next =
        (λ i. record {
          heap_line = heap_line;
          methods = methods_stay cells L n line s.sound k i;
          cells = cells;
          classes = table_grows L n line i;
          names = defined_grow L n line k.ordered i;
          objects = objects_grow L n line k.ordered s.sound.known k.known i;
          threads = threads_next i;
          used = cells_grow L n line s.sound.built_ins k.ordered s.sound.known k.known k.allowed i;
          part = part_of line;
        })
        ∙ line_added line k

    -- a line of no thread leaves none
    before_threads : IsBeforeThreads line → threads_with L (threads_of L) (n, line) ≡ threads_of L → (length (threads_of next) == 0) ≡ true
    before_threads low same = ap (λ threads. length threads == 0) (threads_next ∙ same ∙ no_threads L n line k.ordered s.sound.known k.known low)

    -- whether there is one
    started_next : (l : WorldLine) → l ≡ line → (length (threads_of next) == 0) ≡ not (is_no_later parts.Threads (part_of l))
    started_next MethodsLine e = before_threads (ap (λ l. is_no_later (part_of l) parts.Objects) (sym e)) (ap (λ l. threads_with L (threads_of L) (n, l)) (sym e))
    started_next (ClassLine name superclass) e = before_threads (ap (λ l. is_no_later (part_of l) parts.Objects) (sym e)) (ap (λ l. threads_with L (threads_of L) (n, l)) (sym e))
    started_next (FieldLine class name signature) e = before_threads (ap (λ l. is_no_later (part_of l) parts.Objects) (sym e)) (ap (λ l. threads_with L (threads_of L) (n, l)) (sym e))
    started_next (StaticLine class name signature) e = before_threads (ap (λ l. is_no_later (part_of l) parts.Objects) (sym e)) (ap (λ l. threads_with L (threads_of L) (n, l)) (sym e))
    started_next (ObjectLine x class values) e = before_threads (ap (λ l. is_no_later (part_of l) parts.Objects) (sym e)) (ap (λ l. threads_with L (threads_of L) (n, l)) (sym e))
    started_next (ObjectsLine x class values) e = before_threads (ap (λ l. is_no_later (part_of l) parts.Objects) (sym e)) (ap (λ l. threads_with L (threads_of L) (n, l)) (sym e))
    started_next (ArrayLine x t values) e = before_threads (ap (λ l. is_no_later (part_of l) parts.Objects) (sym e)) (ap (λ l. threads_with L (threads_of L) (n, l)) (sym e))
    started_next (StringLine x text) e = before_threads (ap (λ l. is_no_later (part_of l) parts.Objects) (sym e)) (ap (λ l. threads_with L (threads_of L) (n, l)) (sym e))
    started_next (ThreadLine f vs) e =
        let c = invocation_of_line L n f vs in
        let many = ap length (threads_next ∙ ap (λ l. threads_with L (threads_of L) (n, l)) (sym e)) ∙ length-append (threads_of L) ((c ∷ []) ∷ []) in
        later_number (length (threads_of next)) 0 (omega (arith, many))
    started_next (CallLine f vs) e =
        let told = sym (order_told L part (CallLine f vs) s.ordered) ∙ ap (is_in_order L) e ∙ k.ordered in
        let begun = (and_parts (is_no_later part parts.Threads) (is_no_later parts.Threads part) told).1 in
        let c = invocation_of_line L n f vs in
        let many = ap length (threads_next ∙ ap (λ l. threads_with L (threads_of L) (n, l)) (sym e)) ∙ length-with_last c (threads_of L) in
        ap (λ (m : ℕ). m == 0) many ∙ s.started ∙ ap not begun

    pub are_gathered : AreGathered cells (part_of line) next
    are_gathered = record {
      sound = line_sound cells L n line s.sound k;
      ordered = more_ordered L part n line s.ordered k.ordered;
      few_calls = k.few_calls;
      started = started_next line refl;
    }
