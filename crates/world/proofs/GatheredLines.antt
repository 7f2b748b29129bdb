-- What the lines so far say, gathered, is all that the rules on the next line ask for.
use Rattle.std.proofs.Common.{◌≡◌, ℕ, suc, ◌+◌, ◌≤◌, Bool, true, false, cond, List, [], ◌∷◌, ◌++◌, length, map, Option, Some, None, refl, sym, ap, ◌∙◌, arith, append-nil, length-append}
use Rattle.std.specs.Prelude.{not, ◌&&◌, ◌||◌, ◌==◌, nat_le, nat_lt, filter, is_some, pos}
use Rattle.std.specs.Option.{option_to_list}
use Rattle.std.specs.List.{list_all}
use Rattle.std.proofs.Math.Bool.{and-true}
use Rattle.std.proofs.lemmas.Bool.{and_from, and_parts, lt-ltb, le-leb, leb-true}
use Rattle.std.proofs.lemmas.Bool.Decides.{nat_tests}
use Rattle.std.proofs.lemmas.List.Folds.{list_all-append}
use Rattle.base.specs.Bytes.{Identifier, ByName, lookup, is_from_to}
use Rattle.base.specs.declared.element.ElementType.TheVariants.{Int as JInt}
use Rattle.base.specs.Options.{some_passes}
use Rattle.class_rules.specs.declared.rule.ClassRule.TheVariants.{NameTaken, BadSuperclass, BadSignature, TooMany}
use Rattle.class_rules.specs.Mangling.{is_simple_name}
use Rattle.class_rules.specs.Class.{FieldType, NumberField, ReferenceField, Classes}
use Rattle.semantics.specs.World.{Invocation}
use Rattle.world_schedules.specs.LineRules.{LineRule, OfClass, LineForm, WrongName, OutOfLimit, HeapFull, line_rules}
use Rattle.world.specs.Gathered.{Gathered, gather, is_known, can_hold, each_can_hold, is_named, has_place, last_calls, least_broken, least_rule}
use Rattle.world_lines.specs.ClassRules.{broken_class_rule, is_formed}
use Rattle.world_lines.specs.LineContents.{written_values, name_given, cells_added}
use Rattle.world.specs.ReadingWorlds.{rule_broken, least_rule as least_of}
use Rattle.world_values.specs.declared.part.Part.{Part}
use Rattle.world_values.specs.declared.part.Part.TheVariants as parts
use Rattle.world_values.specs.WorldLines.{WorldValue, NumberValue, NullValue, NamedObject, NamedClass, WorldLine, MethodsLine, ClassLine, FieldLine, StaticLine, ObjectLine, ObjectsLine, ArrayLine, StringLine, ThreadLine, CallLine, Lines}
use Rattle.world_values.specs.WorldMeaning.{table_of, object_defined, objects_defined, values_of_line, invocation_of_line, with_last, threads_with, threads_of, has_methods, cells_of}
use Rattle.world_values.specs.WorldRules.{part_of, is_no_later, is_in_order, is_formed_value, is_well_formed, is_class_allowed, is_name_taken, is_known_value, holds_value, types_of_line, each_holds, value_in_range, each_in_range, is_within_limits, line_breaks}
use Rattle.world.proofs.GrownLines.{defined_grow, threads_grow}
use Rattle.world.proofs.OrderedLines.{AreOrdered, order_told}
use Rattle.world.proofs.Soundness.{AreSound}
use Rattle.world.proofs.WorldCells.{cells_grow}

-- what is known of lines that keep the rules
pub record AreGathered (cells : ℕ) (part : Part) (lines : Lines) : Type 0 where
  pub sound : AreSound cells lines
  pub ordered : AreOrdered lines part
  pub few_calls : list_all (λ calls. nat_le (length calls) 256) (threads_of lines) ≡ true
  pub started : (length (threads_of lines) == 0) ≡ not (is_no_later parts.Threads part)

-- ---- tests

de_morgan : (a b : Bool) → (not a || not b) ≡ not (a && b)
de_morgan true b = refl
de_morgan false b = refl

up_to : (a b : ℕ) → nat_le a b ≡ nat_lt a (b + 1)
up_to a b = grind (arith, nat_tests)

pub length-with_last : (c : Invocation) (threads : List (List Invocation)) → length (with_last c threads) ≡ length threads
length-with_last c [] = refl
length-with_last c (calls ∷ []) = refl
length-with_last c (calls ∷ next ∷ threads) = ap suc (length-with_last c (next ∷ threads))

-- ---- the least of several

least_more : (p : LineRule → Bool) (rule : LineRule) (rules : List LineRule) → least_of (filter p (rule ∷ rules)) ≡ cond (p rule) (Some rule) (least_of (filter p rules))
least_more p rule rules = by_test (p rule)
  where
    by_test : (b : Bool) → least_of (cond b (rule ∷ filter p rules) (filter p rules)) ≡ cond b (Some rule) (least_of (filter p rules))
    by_test true = refl
    by_test false = refl

-- after the rules on classes
abbrev later_rules : (p : LineRule → Bool) → Option LineRule
later_rules p = cond (p LineForm) (Some LineForm) (cond (p WrongName) (Some WrongName) (cond (p OutOfLimit) (Some OutOfLimit) (cond (p HeapFull) (Some HeapFull) None)))

abbrev after_class_rules : (a b c d : Bool) → Option LineRule → Option LineRule
after_class_rules a b c d later =
    cond a (Some (OfClass NameTaken)) (cond b (Some (OfClass BadSuperclass)) (cond c (Some (OfClass BadSignature)) (cond d (Some (OfClass TooMany)) later)))

least_filtered : (p : LineRule → Bool) → least_of (filter p line_rules) ≡ after_class_rules (p (OfClass NameTaken)) (p (OfClass BadSuperclass)) (p (OfClass BadSignature)) (p (OfClass TooMany)) (later_rules p)
least_filtered p =
    let h : List LineRule = HeapFull ∷ [] in
    let g : List LineRule = OutOfLimit ∷ h in
    let f : List LineRule = WrongName ∷ g in
    let e : List LineRule = LineForm ∷ f in
    let d : List LineRule = OfClass TooMany ∷ e in
    let c : List LineRule = OfClass BadSignature ∷ d in
    let b : List LineRule = OfClass BadSuperclass ∷ c in
    let in_class : Option LineRule → Option LineRule = after_class_rules (p (OfClass NameTaken)) (p (OfClass BadSuperclass)) (p (OfClass BadSignature)) (p (OfClass TooMany)) in
    least_more p (OfClass NameTaken) b
    ∙ ap (λ o. cond (p (OfClass NameTaken)) (Some (OfClass NameTaken)) o) (least_more p (OfClass BadSuperclass) c)
    ∙ ap (λ o. cond (p (OfClass NameTaken)) (Some (OfClass NameTaken)) (cond (p (OfClass BadSuperclass)) (Some (OfClass BadSuperclass)) o)) (least_more p (OfClass BadSignature) d)
    ∙ ap (λ o. cond (p (OfClass NameTaken)) (Some (OfClass NameTaken)) (cond (p (OfClass BadSuperclass)) (Some (OfClass BadSuperclass)) (cond (p (OfClass BadSignature)) (Some (OfClass BadSignature)) o))) (least_more p (OfClass TooMany) e)
    ∙ ap in_class (least_more p LineForm f)
    ∙ ap (λ o. in_class (cond (p LineForm) (Some LineForm) o)) (least_more p WrongName g)
    ∙ ap (λ o. in_class (cond (p LineForm) (Some LineForm) (cond (p WrongName) (Some WrongName) o))) (least_more p OutOfLimit h)
    ∙ ap (λ o. in_class (cond (p LineForm) (Some LineForm) (cond (p WrongName) (Some WrongName) (cond (p OutOfLimit) (Some OutOfLimit) o)))) (least_more p HeapFull [])

class_rules_first : (a b c d form names limits room : Bool) → least_broken (cond a (Some NameTaken) (cond b (Some BadSuperclass) (cond c (Some BadSignature) (cond d (Some TooMany) None)))) form names limits room
    ≡ after_class_rules a b c d (least_broken None form names limits room)
class_rules_first true b c d form names limits room = refl
class_rules_first false true c d form names limits room = refl
class_rules_first false false true d form names limits room = refl
class_rules_first false false false true form names limits room = refl
class_rules_first false false false false form names limits room = refl

-- ---- what the rules say of values

numbers_all : (p : WorldValue → Bool) → ((b : ℕ) → p (NumberValue (pos b)) ≡ true) → (text : List ℕ) → list_all p (map (λ b. NumberValue (pos b)) text) ≡ true
numbers_all p h [] = refl
numbers_all p h (b ∷ text) = and_from (p (NumberValue (pos b))) (list_all p (map (λ b. NumberValue (pos b)) text)) (h b) (numbers_all p h text)

written_all : (p : WorldValue → Bool) → ((b : ℕ) → p (NumberValue (pos b)) ≡ true) → (line : WorldLine) → list_all p (written_values line) ≡ list_all p (values_of_line line)
written_all p h MethodsLine = refl
written_all p h (ClassLine name superclass) = refl
written_all p h (FieldLine class name signature) = refl
written_all p h (StaticLine class name signature) = refl
written_all p h (ObjectLine x class values) = refl
written_all p h (ObjectsLine x class values) = refl
written_all p h (ArrayLine x t values) = refl
written_all p h (StringLine x text) = sym (numbers_all p h text)
written_all p h (ThreadLine function arguments) = refl
written_all p h (CallLine function arguments) = refl

text_in_range : (text : List ℕ) → list_all (is_from_to 32 126) text ≡ true → list_all (value_in_range JInt) (map (λ b. NumberValue (pos b)) text) ≡ true
text_in_range [] h = refl
text_in_range (b ∷ text) h =
    let first = and_parts (is_from_to 32 126 b) (list_all (is_from_to 32 126) text) h in
    let low = leb-true b 126 (and_parts (nat_le 32 b) (nat_le b 126) first.0).1 in
    and_from (nat_le b 2147483647) (list_all (value_in_range JInt) (map (λ b. NumberValue (pos b)) text)) (le-leb b 2147483647 (omega (arith, low))) (text_in_range text first.1)

module _ (heap_line cells : ℕ) (part : Part) (L : Lines) where
  abbrev T : Classes
  T = table_of L

  abbrev N : ByName ℕ
  N = objects_defined L

  abbrev g : Gathered
  g = gather heap_line cells part L

  known_same : (v : WorldValue) → is_known T N v ≡ is_known_value L v
  known_same (NumberValue z) = refl
  known_same NullValue = refl
  known_same (NamedObject x) = refl
  known_same (NamedClass name) = refl

  holds_same : (t : FieldType) (v : WorldValue) → can_hold T N t v ≡ holds_value L t v
  holds_same (NumberField t) (NumberValue z) = refl
  holds_same (NumberField t) NullValue = refl
  holds_same (NumberField t) (NamedObject x) = refl
  holds_same (NumberField t) (NamedClass name) = refl
  holds_same (ReferenceField c) (NumberValue z) = refl
  holds_same (ReferenceField c) NullValue = refl
  holds_same (ReferenceField c) (NamedObject x) = refl
  holds_same (ReferenceField c) (NamedClass name) = refl

  each_same : (types : List FieldType) (values : List WorldValue) → each_can_hold T N types values ≡ each_holds L types values
  each_same [] values = refl
  each_same (t ∷ types) [] = refl
  each_same (t ∷ types) (v ∷ values) = λ i. holds_same t v i && each_same types values i

  module _ (line : WorldLine) where
    form_same : is_formed T line ≡ (is_well_formed T line && list_all is_formed_value (values_of_line line))
    form_same = ap (λ b. is_well_formed T line && b) (written_all is_formed_value (λ b. refl) line)

    known_told : list_all (is_known T N) (written_values line) ≡ list_all (is_known_value L) (values_of_line line)
    known_told = (λ i. list_all (λ v. known_same v i) (written_values line)) ∙ written_all (is_known_value L) (λ b. refl) line

  taken_same : (line : WorldLine) → some_passes (λ x. is_some (lookup x N)) (name_given line) ≡ is_name_taken L line
  taken_same MethodsLine = refl
  taken_same (ClassLine name superclass) = refl
  taken_same (FieldLine class name signature) = refl
  taken_same (StaticLine class name signature) = refl
  taken_same (ObjectLine x class values) = refl
  taken_same (ObjectsLine x class values) = refl
  taken_same (ArrayLine x t values) = refl
  taken_same (StringLine x text) = refl
  taken_same (ThreadLine function arguments) = refl
  taken_same (CallLine function arguments) = refl

  held_same : (line : WorldLine) → each_can_hold T N (types_of_line T line) (written_values line) ≡ each_holds L (types_of_line T line) (values_of_line line)
  held_same MethodsLine = refl
  held_same (ClassLine name superclass) = refl
  held_same (FieldLine class name signature) = refl
  held_same (StaticLine class name signature) = refl
  held_same (ObjectLine x class values) = each_same (types_of_line T (ObjectLine x class values)) values
  held_same (ObjectsLine x class values) = each_same (types_of_line T (ObjectsLine x class values)) values
  held_same (ArrayLine x t values) = each_same (types_of_line T (ArrayLine x t values)) values
  held_same (StringLine x text) = refl
  held_same (ThreadLine function arguments) = refl
  held_same (CallLine function arguments) = refl

  ranged_same : (line : WorldLine) → is_formed T line ≡ true → each_in_range (types_of_line T line) (written_values line) ≡ each_in_range (types_of_line T line) (values_of_line line)
  ranged_same MethodsLine h = refl
  ranged_same (ClassLine name superclass) h = refl
  ranged_same (FieldLine class name signature) h = refl
  ranged_same (StaticLine class name signature) h = refl
  ranged_same (ObjectLine x class values) h = refl
  ranged_same (ObjectsLine x class values) h = refl
  ranged_same (ArrayLine x t values) h = refl
  ranged_same (StringLine x text) h =
      let well = and_parts (is_well_formed T (StringLine x text)) true h in
      sym (text_in_range text (and_parts (is_simple_name x) (list_all (is_from_to 32 126) text) well.0).1)
  ranged_same (ThreadLine function arguments) h = refl
  ranged_same (CallLine function arguments) h = refl

  named_told : (line : WorldLine) → not (is_named (has_methods L) T N line)
      ≡ (is_name_taken L line || not (is_class_allowed (has_methods L) T line) || not (list_all (is_known_value L) (values_of_line line)) || not (each_holds L (types_of_line T line) (values_of_line line)))
  named_told line =
      (λ i. not (not (taken_same line i) && is_class_allowed (has_methods L) T line && known_told line i && held_same line i)) ∙ by_tests (is_name_taken L line) (is_class_allowed (has_methods L) T line) _ _
    where
      by_tests : (a b c d : Bool) → not (not a && b && c && d) ≡ (a || not b || not c || not d)
      by_tests true b c d = refl
      by_tests false false c d = refl
      by_tests false true false d = refl
      by_tests false true true d = refl

  -- ---- the limits

  abbrev few : List Invocation → Bool
  few calls = nat_le (length calls) 256

  -- the limits with these objects and threads
  abbrev limits_of : ByName ℕ → List (List Invocation) → Bool
  limits_of names threads = nat_le (length names) 65536 && nat_le (length threads) 8 && list_all few threads

  and_assoc : (a b c : Bool) → (a && b && c) ≡ (a && (b && c))
  and_assoc true b c = refl
  and_assoc false b c = refl

  one_more : (m limit : ℕ) → nat_le (m + 1) limit ≡ nat_lt m limit
  one_more m limit = grind (arith, nat_tests)

  few_with_last : (threads : List (List Invocation)) (c : Invocation) → list_all few threads ≡ true → list_all few (with_last c threads) ≡ nat_lt (length (last_calls threads)) 256
  few_with_last [] c h = refl
  few_with_last (calls ∷ []) c h = ap (λ m. nat_le m 256 && true) (length-append calls (c ∷ [])) ∙ and-true (nat_le (length calls + 1) 256) ∙ one_more (length calls) 256
  few_with_last (calls ∷ next ∷ threads) c h =
      let b = and_parts (few calls) (list_all few (next ∷ threads)) h in ap (λ t. t && list_all few (with_last c (next ∷ threads))) b.0 ∙ few_with_last (next ∷ threads) c b.1

  call_limits : (threads : List (List Invocation)) (c : Invocation) → length threads ≤ 8 → list_all few threads ≡ true → (nat_le (length (with_last c threads)) 8 && list_all few (with_last c threads)) ≡ nat_lt (length (last_calls threads)) 256
  call_limits threads c h k =
      ap (λ m. nat_le m 8 && list_all few (with_last c threads)) (length-with_last c threads)
      ∙ ap (λ b. b && list_all few (with_last c threads)) (le-leb (length threads) 8 h)
      ∙ few_with_last threads c k

  thread_limits : (threads : List (List Invocation)) (c : Invocation) → list_all few threads ≡ true → (nat_le (length (threads ++ (c ∷ []) ∷ [])) 8 && list_all few (threads ++ (c ∷ []) ∷ [])) ≡ nat_lt (length threads) 8
  thread_limits threads c k =
      ap (λ b. nat_le (length (threads ++ (c ∷ []) ∷ [])) 8 && b) (list_all-append few threads ((c ∷ []) ∷ []) ∙ and_from (list_all few threads) true k refl)
      ∙ and-true (nat_le (length (threads ++ (c ∷ []) ∷ [])) 8)
      ∙ ap (λ m. nat_le m 8) (length-append threads ((c ∷ []) ∷ []))
      ∙ one_more (length threads) 8

  module _ (s : AreGathered cells part L) where
    few_threads : (nat_le (length (threads_of L)) 8 && list_all few (threads_of L)) ≡ true
    few_threads = let low = s.sound.few_threads in and_from (nat_le (length (threads_of L)) 8) (list_all few (threads_of L)) (le-leb (length (threads_of L)) 8 low) s.few_calls

    few_names : nat_le (length (N ++ [])) 65536 ≡ true
    few_names = let low = s.sound.few_objects in ap (λ (ns : ByName ℕ). nat_le (length ns) 65536) (append-nil N) ∙ le-leb (length N) 65536 low

    limits_objects : (names : ByName ℕ) (place : Bool) → nat_le (length names) 65536 ≡ place → limits_of names (threads_of L) ≡ place
    limits_objects names place h =
        and_assoc (nat_le (length names) 65536) (nat_le (length (threads_of L)) 8) (list_all few (threads_of L))
        ∙ ap (λ b. nat_le (length names) 65536 && b) few_threads
        ∙ and-true (nat_le (length names) 65536)
        ∙ h

    limits_threads : (threads : List (List Invocation)) (place : Bool) → (nat_le (length threads) 8 && list_all few threads) ≡ place → limits_of (N ++ []) threads ≡ place
    limits_threads threads place h =
        and_assoc (nat_le (length (N ++ [])) 65536) (nat_le (length threads) 8) (list_all few threads)
        ∙ ap (λ b. b && (nat_le (length threads) 8 && list_all few threads)) few_names
        ∙ h

    one_name : (x : Identifier) (c : ℕ) → limits_of (N ++ (x, c) ∷ []) (threads_of L) ≡ nat_lt (length N + 1) 65537
    one_name x c = limits_objects (N ++ (x, c) ∷ []) (nat_lt (length N + 1) 65537) (ap (λ m. nat_le m 65536) (length-append N ((x, c) ∷ [])) ∙ up_to (length N + 1) 65536)

    no_name : limits_of (N ++ []) (threads_of L) ≡ nat_lt (length N + 0) 65537
    no_name = let low = s.sound.few_objects in limits_objects (N ++ []) (nat_lt (length N + 0) 65537) (few_names ∙ sym (lt-ltb (length N + 0) 65537 (omega (arith, low))))

    module _ (n : ℕ) (line : WorldLine) (ordered : is_in_order L line ≡ true) (own : list_all (is_known_value L) (values_of_line line) ≡ true) where
      abbrev next : Lines
      next = L ++ (n, line) ∷ []

      limits_told : is_within_limits next ≡ limits_of (N ++ option_to_list (object_defined T line)) (threads_with L (threads_of L) (n, line))
      limits_told = λ i. limits_of (defined_grow L n line ordered i) (threads_grow L n line ordered s.sound.known own i)

      cells_told : is_class_allowed (has_methods L) T line ≡ true → cells_of next ≡ cells_of L + cells_added line
      cells_told allowed = cells_grow L n line s.sound.built_ins ordered s.sound.known own allowed

    -- ---- the last two rules

    abbrev limit_broken : Bool → Bool → Bool → Option LineRule
    limit_broken ranged within full = cond (not ranged || not within) (Some OutOfLimit) (cond full (Some HeapFull) None)

    -- what is asked of what is gathered
    abbrev asked_last : ℕ → WorldLine → Bool → Option LineRule
    asked_last n line ranged = cond (not (ranged && has_place g line)) (Some OutOfLimit) (cond (not (nat_le (cells_of L + cells_added line) cells)) (Some HeapFull) None)

    -- what the rules say
    abbrev said_last : ℕ → WorldLine → Bool → Option LineRule
    said_last n line ranged =
        cond (not ranged || not (is_within_limits (L ++ (n, line) ∷ []))) (Some OutOfLimit)
        (cond (is_no_later (part_of line) parts.Objects && nat_lt cells (cells_of (L ++ (n, line) ∷ []))) (Some HeapFull) None)

    above_is_full : (added : ℕ) (all : ℕ) → all ≡ cells_of L + added → nat_lt cells all ≡ not (nat_le (cells_of L + added) cells)
    above_is_full added all e = grind (arith, nat_tests, e)

    last_told : (n : ℕ) (line : WorldLine) (ranged : Bool) → is_within_limits (L ++ (n, line) ∷ []) ≡ has_place g line
        → (is_no_later (part_of line) parts.Objects && nat_lt cells (cells_of (L ++ (n, line) ∷ []))) ≡ not (nat_le (cells_of L + cells_added line) cells) → asked_last n line ranged ≡ said_last n line ranged
    last_told n line ranged within full =
        ap (λ b. cond b (Some OutOfLimit) (cond (not (nat_le (cells_of L + cells_added line) cells)) (Some HeapFull) None)) (sym (de_morgan ranged (has_place g line)) ∙ ap (λ b. not ranged || not b) (sym within))
        ∙ ap (λ b. cond (not ranged || not (is_within_limits (L ++ (n, line) ∷ []))) (Some OutOfLimit) (cond b (Some HeapFull) None)) (sym full)

    -- a line of a thread adds no cells
    room_left : not (nat_le (cells_of L + 0) cells) ≡ false
    room_left = let low = s.sound.fits in ap not (le-leb (cells_of L + 0) cells (omega (arith, low)))

    last_same : (n : ℕ) (line : WorldLine) (ranged : Bool) → is_in_order L line ≡ true → list_all (is_known_value L) (values_of_line line) ≡ true → is_class_allowed (has_methods L) T line ≡ true → asked_last n line ranged ≡ said_last n line ranged
    last_same n MethodsLine ranged ordered own allowed =
        last_told n MethodsLine ranged (limits_told n MethodsLine ordered own ∙ no_name) (above_is_full 6 (cells_of (L ++ (n, MethodsLine) ∷ [])) (cells_told n MethodsLine ordered own allowed))
    last_same n (ClassLine name superclass) ranged ordered own allowed =
        let line = ClassLine name superclass in last_told n line ranged (limits_told n line ordered own ∙ no_name) (above_is_full (cells_added line) (cells_of (L ++ (n, line) ∷ [])) (cells_told n line ordered own allowed))
    last_same n (FieldLine class name signature) ranged ordered own allowed =
        let line = FieldLine class name signature in last_told n line ranged (limits_told n line ordered own ∙ no_name) (above_is_full (cells_added line) (cells_of (L ++ (n, line) ∷ [])) (cells_told n line ordered own allowed))
    last_same n (StaticLine class name signature) ranged ordered own allowed =
        let line = StaticLine class name signature in last_told n line ranged (limits_told n line ordered own ∙ no_name) (above_is_full (cells_added line) (cells_of (L ++ (n, line) ∷ [])) (cells_told n line ordered own allowed))
    last_same n (ObjectLine x class values) ranged ordered own allowed =
        let line = ObjectLine x class values in last_told n line ranged (limits_told n line ordered own ∙ one_name x _) (above_is_full (cells_added line) (cells_of (L ++ (n, line) ∷ [])) (cells_told n line ordered own allowed))
    last_same n (ObjectsLine x class values) ranged ordered own allowed =
        let line = ObjectsLine x class values in last_told n line ranged (limits_told n line ordered own ∙ one_name x _) (above_is_full (cells_added line) (cells_of (L ++ (n, line) ∷ [])) (cells_told n line ordered own allowed))
    last_same n (ArrayLine x t values) ranged ordered own allowed =
        let line = ArrayLine x t values in last_told n line ranged (limits_told n line ordered own ∙ one_name x _) (above_is_full (cells_added line) (cells_of (L ++ (n, line) ∷ [])) (cells_told n line ordered own allowed))
    last_same n (StringLine x text) ranged ordered own allowed =
        let line = StringLine x text in last_told n line ranged (limits_told n line ordered own ∙ one_name x _) (above_is_full (cells_added line) (cells_of (L ++ (n, line) ∷ [])) (cells_told n line ordered own allowed))
    last_same n (ThreadLine f vs) ranged ordered own allowed =
        last_told n (ThreadLine f vs) ranged (limits_told n (ThreadLine f vs) ordered own ∙ limits_threads _ _ (thread_limits (threads_of L) (invocation_of_line L n f vs) s.few_calls)) (sym room_left)
    last_same n (CallLine f vs) ranged ordered own allowed =
        last_told n (CallLine f vs) ranged (limits_told n (CallLine f vs) ordered own ∙ limits_threads _ _ (call_limits (threads_of L) (invocation_of_line L n f vs) s.sound.few_threads s.few_calls)) (sym room_left)

    -- ---- all rules

    module _ (n : ℕ) (line : WorldLine) where
      abbrev breaks : LineRule → Bool
      breaks rule = line_breaks rule cells L (n, line)

      abbrev ranged : Bool
      ranged = each_in_range (types_of_line T line) (written_values line)

      later_same : is_in_order L line ≡ true → least_broken None (is_formed T line) (is_named (has_methods L) T N line) (ranged && has_place g line) (nat_le (cells_of L + cells_added line) cells) ≡ later_rules breaks
      later_same ordered = by_form (is_formed T line) refl
        where
          form_broken : breaks LineForm ≡ not (is_formed T line)
          form_broken = de_morgan (is_well_formed T line) (list_all is_formed_value (values_of_line line)) ∙ ap not (sym (form_same line))

          names_broken : breaks WrongName ≡ not (is_named (has_methods L) T N line)
          names_broken = sym (named_told line)

          by_names : is_formed T line ≡ true → (b : Bool) → is_named (has_methods L) T N line ≡ b
              → cond (not b) (Some WrongName) (cond (not (ranged && has_place g line)) (Some OutOfLimit) (cond (not (nat_le (cells_of L + cells_added line) cells)) (Some HeapFull) None))
              ≡ cond (not b) (Some WrongName) (said_last n line (each_in_range (types_of_line T line) (values_of_line line)))
          by_names formed false e = refl
          by_names formed true e =
              let a = and_parts (not (some_passes (λ x. is_some (lookup x N)) (name_given line)) && is_class_allowed (has_methods L) T line && list_all (is_known T N) (written_values line)) (each_can_hold T N (types_of_line T line) (written_values line)) e in
              let b = and_parts (not (some_passes (λ x. is_some (lookup x N)) (name_given line)) && is_class_allowed (has_methods L) T line) (list_all (is_known T N) (written_values line)) a.0 in
              let c = and_parts (not (some_passes (λ x. is_some (lookup x N)) (name_given line))) (is_class_allowed (has_methods L) T line) b.0 in
              last_same n line ranged ordered (sym (known_told line) ∙ b.1) c.1 ∙ ap (said_last n line) (ranged_same line formed)

          by_form : (b : Bool) → is_formed T line ≡ b → least_broken None (is_formed T line) (is_named (has_methods L) T N line) (ranged && has_place g line) (nat_le (cells_of L + cells_added line) cells) ≡ later_rules breaks
          by_form false e = ap (λ f. least_broken None f (is_named (has_methods L) T N line) (ranged && has_place g line) (nat_le (cells_of L + cells_added line) cells)) e ∙ sym (ap (λ b. cond b (Some LineForm) (cond (breaks WrongName) (Some WrongName) (said_last n line (each_in_range (types_of_line T line) (values_of_line line))))) (form_broken ∙ ap not e))
          by_form true e =
              ap (λ f. least_broken None f (is_named (has_methods L) T N line) (ranged && has_place g line) (nat_le (cells_of L + cells_added line) cells)) e
              ∙ by_names e (is_named (has_methods L) T N line) refl
              ∙ ap (λ b. cond b (Some WrongName) (said_last n line (each_in_range (types_of_line T line) (values_of_line line)))) (sym names_broken)
              ∙ sym (ap (λ b. cond b (Some LineForm) (cond (breaks WrongName) (Some WrongName) (said_last n line (each_in_range (types_of_line T line) (values_of_line line))))) (form_broken ∙ ap not e))

      -- the least rule that the line breaks
      pub rule_same : least_rule g line ≡ rule_broken cells L (n, line)
      rule_same = ap by_order (sym (order_told L part line s.ordered)) ∙ in_order (is_in_order L line) refl
        where
          by_order : Bool → Option LineRule
          by_order b = cond b (least_broken (broken_class_rule T line) (is_formed T line) (is_named (has_methods L) T N line) (ranged && has_place g line) (nat_le (cells_of L + cells_added line) cells)) (Some LineForm)

          in_order : (b : Bool) → is_in_order L line ≡ b → by_order (is_in_order L line) ≡ rule_broken cells L (n, line)
          in_order false e = ap by_order e ∙ sym (ap (λ b. least_of (cond b (filter breaks line_rules) (LineForm ∷ []))) e)
          in_order true e =
              ap by_order e
              ∙ class_rules_first (breaks (OfClass NameTaken)) (breaks (OfClass BadSuperclass)) (breaks (OfClass BadSignature)) (breaks (OfClass TooMany)) _ _ _ _
              ∙ ap (after_class_rules (breaks (OfClass NameTaken)) (breaks (OfClass BadSuperclass)) (breaks (OfClass BadSignature)) (breaks (OfClass TooMany))) (later_same e)
              ∙ sym (least_filtered breaks)
              ∙ sym (ap (λ b. least_of (cond b (filter breaks line_rules) (LineForm ∷ []))) e)
