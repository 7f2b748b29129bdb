-- The worlds that are read are those that texts mean.
use Rattle.std.proofs.Common.{◌≡◌, ℕ, ◌≤◌, Bool, true, false, cond, List, [], ◌∷◌, ◌++◌, Option, Some, None, Ok, refl, sym, ap, ◌∙◌, subst, append_assoc, append-nil}
use Rattle.std.specs.Prelude.{◌&&◌, ◌||◌, nat_le, Result}
use Rattle.std.specs.List.{list_all, list_any, AllZip}
use Rattle.std.proofs.lemmas.Bool.{and_from, and_parts, le-leb, leb-true}
use Rattle.base.specs.declared.element.ElementType.TheVariants.{Int as JInt}
use Rattle.class_rules.specs.Class.{FieldType, NumberField, ReferenceField}
use Rattle.semantics.specs.World.{World}
use Rattle.world_schedules.specs.LineRules.{LineRule}
use Rattle.world_schedules.specs.Reading.{◌>>=◌, refused}
use Rattle.world_schedules.specs.declared.fault.Rule.TheVariants as held
use Rattle.world_schedules.specs.declared.fault.TextFault.{TextFault}
use Rattle.world_schedules.proofs.WordLaws.{and_then_ok}
use Rattle.world_lines.specs.ReadingLines.{HeapLine, heap_of_line, line_of}
use Rattle.world.specs.ReadingWorlds.{least_rule, rule_broken, ruled, line_read, lines_read, heap_read, last_number, world_read, numbered_read, world_of_text}
use Rattle.world.specs.TextLaws.{WorldsAreRead}
use Rattle.world_values.specs.WorldLines.{WorldValue, NumberValue, NullValue, NamedObject, NamedClass, WorldLine, MethodsLine, ClassLine, FieldLine, StaticLine, ObjectLine, ObjectsLine, ArrayLine, StringLine, ThreadLine, CallLine, Lines, spaced, IsLineText, text_lines}
use Rattle.world_values.specs.WorldMeaning.{is_methods_line, has_methods, world_of}
use Rattle.world_values.specs.WorldRules.{is_thread_line, holds_value, each_holds, value_in_range, each_in_range, broken_by_line, broken_after, IsNumberedLine, heap_words, first_lines, IsWorldText, MeansOneWorld}
use Rattle.world_lines.proofs.HeapLines.{heap_is_read, heap_is_written}
use Rattle.world.proofs.KeptLines.{IsKept, kept_line, each_keeps, none_breaks}
use Rattle.world_lines.specs.LineContents.{written_values}
use Rattle.world_lines.proofs.ReadLines.{line_is_read}
use Rattle.world_lines.proofs.WrittenLines.{line_is_written}
use Rattle.world_lines.proofs.WrittenValues.{value_in_jint}

-- ---- numbers of lines that keep the rules

-- they are in the range of jint: a place of a number has a range within it, and a reference is none
ranged : (L : Lines) (types : List FieldType) (vs : List WorldValue) → each_holds L types vs ≡ true → each_in_range types vs ≡ true → list_all (value_in_range JInt) vs ≡ true
ranged L [] vs h r = r
ranged L (t ∷ types) [] h r = refl
ranged L (NumberField t ∷ types) (v ∷ vs) h r =
    let a = and_parts (holds_value L (NumberField t) v) (each_holds L types vs) h in
    let b = and_parts (value_in_range t v) (each_in_range types vs) r in
    and_from (value_in_range JInt v) (list_all (value_in_range JInt) vs) (value_in_jint t v b.0) (ranged L types vs a.1 b.1)
ranged L (ReferenceField c ∷ types) (NumberValue z ∷ vs) h r = absurd (cc)
ranged L (ReferenceField c ∷ types) (NullValue ∷ vs) h r = ranged L types vs (and_parts (holds_value L (ReferenceField c) NullValue) (each_holds L types vs) h).1 r
ranged L (ReferenceField c ∷ types) (NamedObject x ∷ vs) h r = ranged L types vs (and_parts (holds_value L (ReferenceField c) (NamedObject x)) (each_holds L types vs) h).1 r
ranged L (ReferenceField c ∷ types) (NamedClass x ∷ vs) h r = ranged L types vs (and_parts (holds_value L (ReferenceField c) (NamedClass x)) (each_holds L types vs) h).1 r

pub kept_range : (cells : ℕ) (earlier : Lines) (n : ℕ) (line : WorldLine) → IsKept cells earlier (n, line) → list_all (value_in_range JInt) (written_values line) ≡ true
kept_range cells earlier n MethodsLine k = refl
kept_range cells earlier n (ClassLine name superclass) k = refl
kept_range cells earlier n (FieldLine class name signature) k = refl
kept_range cells earlier n (StaticLine class name signature) k = refl
kept_range cells earlier n (ObjectLine x class vs) k = ranged earlier _ vs k.held k.ranged
kept_range cells earlier n (ObjectsLine x class vs) k = ranged earlier _ vs k.held k.ranged
kept_range cells earlier n (ArrayLine x t vs) k = ranged earlier _ vs k.held k.ranged
kept_range cells earlier n (StringLine x text) k = refl
kept_range cells earlier n (ThreadLine function vs) k = k.ranged
kept_range cells earlier n (CallLine function vs) k = k.ranged

-- ---- one line

pub least_none : (rules : List LineRule) → least_rule rules ≡ None → rules ≡ []
least_none [] h = refl
least_none (rule ∷ rules) h = absurd (cc)

unbroken : {A : Type 0} (number : ℕ) (rule : Option LineRule) (x y : A) → ruled number rule x ≡ Ok y → (rule ≡ None) × (x ≡ y)
unbroken number None x y h = (refl, cc)
unbroken number (Some rule) x y h = absurd (cc)

-- a line that is read: it keeps the rules
pub record IsReadLine (cells : ℕ) (earlier : Lines) (number : ℕ) (line : Option WorldLine) (next : Lines) : Type 0 where
  pub said : WorldLine
  pub is : line ≡ Some said
  pub rules : broken_by_line cells earlier (number, said) ≡ []
  pub more : earlier ++ (number, said) ∷ [] ≡ next

pub line_was_read : (cells : ℕ) (earlier : Lines) (number : ℕ) (line : Option WorldLine) (next : Lines) → line_read cells earlier number line ≡ Ok next → IsReadLine cells earlier number line next
unfolding line_read
line_was_read cells earlier number None next h = absurd (cc)
line_was_read cells earlier number (Some line) next h =
    let u = unbroken number (rule_broken cells earlier (number, line)) (earlier ++ (number, line) ∷ []) next h in
    record { said = line; is = refl; rules = least_none (broken_by_line cells earlier (number, line)) u.0; more = u.1 }

-- the same of bytes
pub numbered_line : (cells : ℕ) (earlier : Lines) (number : ℕ) (bytes : List ℕ) (next : Lines) (r : IsReadLine cells earlier number (line_of bytes) next) → IsNumberedLine (number, bytes) (number, r.said)
numbered_line cells earlier number bytes next r = (refl, line_is_written bytes r.said r.is (kept_range cells earlier number r.said (kept_line cells earlier number r.said r.rules)))

pub line_is_taken : (cells : ℕ) (earlier : Lines) (number : ℕ) (bytes : List ℕ) (n : ℕ) (line : WorldLine) → IsNumberedLine (number, bytes) (n, line) → broken_by_line cells earlier (n, line) ≡ []
    → line_read cells earlier number (line_of bytes) ≡ Ok (earlier ++ (n, line) ∷ [])
unfolding line_read
line_is_taken cells earlier number bytes n line spelled rules =
    ap (line_read cells earlier number) (line_is_read bytes line spelled.1 (kept_range cells earlier n line (kept_line cells earlier n line rules)))
    ∙ ap (λ m. line_read cells earlier m (Some line)) spelled.0
    ∙ ap (λ broken. ruled n (least_rule broken) (earlier ++ (n, line) ∷ [])) rules

-- ---- several lines

-- lines that are read, after those before them
pub record AreReadLines (cells : ℕ) (earlier : Lines) (numbered : List (ℕ × List ℕ)) (lines : Lines) : Type 0 where
  pub rest : Lines
  pub are : lines ≡ earlier ++ rest
  pub spelled : AllZip IsNumberedLine numbered rest
  pub rules : broken_after cells earlier rest ≡ []

pub lines_were_read : (cells : ℕ) (earlier : Lines) (numbered : List (ℕ × List ℕ)) (lines : Lines) → lines_read cells earlier numbered ≡ Ok lines → AreReadLines cells earlier numbered lines
unfolding lines_read
lines_were_read cells earlier [] lines h =
    let is : earlier ≡ lines = cc in
    record { rest = []; are = sym is ∙ sym (append-nil earlier); spelled = tt; rules = refl }
lines_were_read cells earlier ((number, bytes) ∷ numbered) lines h =
    let a = and_then_ok (line_read cells earlier number (line_of bytes)) (λ next. lines_read cells next numbered) lines h in
    let r = line_was_read cells earlier number (line_of bytes) a.0 a.1 in
    let others = lines_were_read cells (earlier ++ (number, r.said) ∷ []) numbered lines (ap (λ next. lines_read cells next numbered) r.more ∙ a.2) in
    record {
      rest = (number, r.said) ∷ others.rest;
      are = others.are ∙ append_assoc earlier ((number, r.said) ∷ []) others.rest;
      spelled = (numbered_line cells earlier number bytes a.0 r, others.spelled);
      rules = none_breaks cells earlier others.rest (number, r.said) r.rules others.rules;
    }

pub lines_are_taken : (cells : ℕ) (earlier : Lines) (numbered : List (ℕ × List ℕ)) (rest : Lines) → AllZip IsNumberedLine numbered rest → broken_after cells earlier rest ≡ []
    → lines_read cells earlier numbered ≡ Ok (earlier ++ rest)
unfolding lines_read
lines_are_taken cells earlier [] [] zip rules = ap Ok (sym (append-nil earlier))
lines_are_taken cells earlier [] (l ∷ rest) zip rules = absurd zip
lines_are_taken cells earlier (w ∷ numbered) [] zip rules = absurd zip
lines_are_taken cells earlier ((number, bytes) ∷ numbered) ((n, line) ∷ rest) zip rules =
    let k = each_keeps cells earlier rest (n, line) rules in
    ap (λ r. r >>= λ next. lines_read cells next numbered) (line_is_taken cells earlier number bytes n line zip.0 k.0)
    ∙ lines_are_taken cells (earlier ++ (n, line) ∷ []) numbered rest zip.1 k.1
    ∙ ap Ok (append_assoc earlier ((n, line) ∷ []) rest)

-- ---- the whole

heap_was_read : (number : ℕ) (o : Option HeapLine) (cells : ℕ) (methods : Bool) → heap_read number o ≡ Ok (cells, methods) → (o ≡ Some (cells, methods)) × (512 ≤ cells) × (cells ≤ 1048576)
unfolding heap_read
heap_was_read number None cells methods h = absurd (cc)
heap_was_read number (Some (c, m)) cells methods h = by_test (nat_le 512 c && nat_le c 1048576) refl h
  where
    by_test : (b : Bool) → (nat_le 512 c && nat_le c 1048576) ≡ b → cond {A = Result HeapLine TextFault} b (Ok (c, m)) (refused held.Limit number) ≡ Ok (cells, methods) → (◌≡◌ {A = Option HeapLine} (Some (c, m)) (Some (cells, methods))) × (512 ≤ cells) × (cells ≤ 1048576)
    by_test false e k = absurd (cc)
    by_test true e k =
        let both_are : ◌≡◌ {A = HeapLine} (c, m) (cells, methods) = cc in
        let is : c ≡ cells = ap (λ (x : HeapLine). x.0) both_are in
        let b = and_parts (nat_le 512 c) (nat_le c 1048576) e in
        (ap (λ (x : HeapLine). Some x) both_are, subst (λ n. 512 ≤ n) is (leb-true 512 c b.0), subst (λ n. n ≤ 1048576) is (leb-true c 1048576 b.1))

heap_is_taken : (number cells : ℕ) (methods : Bool) → 512 ≤ cells → cells ≤ 1048576 → heap_read number (Some (cells, methods)) ≡ Ok (cells, methods)
unfolding heap_read
heap_is_taken number cells methods low high =
    let read : Result HeapLine TextFault = Ok (cells, methods) in
    (λ i. cond (le-leb 512 cells low i && le-leb cells 1048576 high i) read (refused held.Limit number))

world_was_read : (heap_line cells last : ℕ) (lines : Lines) (world : World) → world_read heap_line cells last lines ≡ Ok world → (list_any (λ (l : ℕ × WorldLine). is_thread_line l.1) lines ≡ true) × (world_of heap_line cells lines ≡ world)
unfolding world_read
world_was_read heap_line cells last lines world h = by_test (list_any (λ (l : ℕ × WorldLine). is_thread_line l.1) lines) h
  where
    by_test : (b : Bool) → cond b (Ok (world_of heap_line cells lines)) (refused held.Limit last) ≡ Ok world → (b ≡ true) × (world_of heap_line cells lines ≡ world)
    by_test false k = absurd (cc)
    by_test true k = (refl, cc)

world_is_taken : (heap_line cells last : ℕ) (lines : Lines) → list_any (λ (l : ℕ × WorldLine). is_thread_line l.1) lines ≡ true → world_read heap_line cells last lines ≡ Ok (world_of heap_line cells lines)
unfolding world_read
world_is_taken heap_line cells last lines h = ap (λ b. cond b (Ok (world_of heap_line cells lines)) (refused held.Limit last)) h

-- the line of the heap is no thread's
same_threads : (n : ℕ) (methods : Bool) (lines : Lines) → list_any (λ (l : ℕ × WorldLine). is_thread_line l.1) (first_lines n methods ++ lines) ≡ list_any (λ (l : ℕ × WorldLine). is_thread_line l.1) lines
same_threads n true lines = refl
same_threads n false lines = refl

-- nor has it another say on methods than these
allows : (n : ℕ) (methods : Bool) (lines : Lines) → has_methods lines ≡ false → has_methods (first_lines n methods ++ lines) ≡ methods
allows n true lines h = refl
allows n false lines h = h

no_methods_text : (bytes : List ℕ) (line : WorldLine) → IsLineText bytes line → is_methods_line line ≡ false
no_methods_text bytes MethodsLine h = absurd (let no : false ≡ true = h.0 in cc)
no_methods_text bytes (ClassLine name superclass) h = refl
no_methods_text bytes (FieldLine class name signature) h = refl
no_methods_text bytes (StaticLine class name signature) h = refl
no_methods_text bytes (ObjectLine x class values) h = refl
no_methods_text bytes (ObjectsLine x class values) h = refl
no_methods_text bytes (ArrayLine x t values) h = refl
no_methods_text bytes (StringLine x text) h = refl
no_methods_text bytes (ThreadLine function arguments) h = refl
no_methods_text bytes (CallLine function arguments) h = refl

none_allow : (numbered : List (ℕ × List ℕ)) (lines : Lines) → AllZip IsNumberedLine numbered lines → has_methods lines ≡ false
none_allow [] [] h = refl
none_allow [] (l ∷ lines) h = absurd h
none_allow (w ∷ numbered) [] h = refl
none_allow (w ∷ numbered) (l ∷ lines) h = (λ i. no_methods_text w.1 l.1 h.0.1 i || none_allow numbered lines h.1 i)

-- what was read of a text's lines
module _ (text : List ℕ) (number : ℕ) (bytes : List ℕ) (more : List (ℕ × List ℕ)) (text_is : text_lines text ≡ (number, bytes) ∷ more) where
  lines_meant : (cells : ℕ) (methods : Bool) (lines : Lines) → heap_of_line bytes ≡ Some (cells, methods) → 512 ≤ cells → cells ≤ 1048576 → AreReadLines cells (first_lines number methods) more lines
      → list_any (λ (l : ℕ × WorldLine). is_thread_line l.1) lines ≡ true → IsWorldText text (world_of number cells lines)
  lines_meant cells methods lines heap low high r some =
      let told : has_methods lines ≡ methods = ap has_methods r.are ∙ allows number methods r.rest (none_allow more r.rest r.spelled) in
      record {
        written = more;
        lines = r.rest;
        spelled = text_is ∙ ap (λ (bs : List ℕ). (number, bs) ∷ more) (heap_is_written bytes cells methods heap low high) ∙ ap (λ m. (number, spaced (heap_words cells m)) ∷ more) (sym told);
        lines_spelled = r.spelled;
        size = (low, high);
        rules = ap (λ m. broken_after cells (first_lines number m) r.rest) told ∙ r.rules;
        threads = sym (same_threads number methods r.rest) ∙ ap (list_any (λ (l : ℕ × WorldLine). is_thread_line l.1)) (sym r.are) ∙ some;
        meant = ap (world_of number cells) (r.are ∙ ap (λ m. first_lines number m ++ r.rest) (sym told));
      }

read_is_meant : (text : List ℕ) (world : World) → world_of_text text ≡ Ok world → IsWorldText text world
unfolding numbered_read
read_is_meant text world h = by_lines (text_lines text) refl h
  where
    by_lines : (numbered : List (ℕ × List ℕ)) → text_lines text ≡ numbered → numbered_read numbered ≡ Ok world → IsWorldText text world
    by_lines [] e k = absurd (cc)
    by_lines ((number, bytes) ∷ more) e k =
        let a = and_then_ok (heap_read number (heap_of_line bytes)) (λ heap. lines_read heap.0 (first_lines number heap.1) more >>= λ lines. world_read number heap.0 (last_number number more) lines) world k in
        let heap = heap_was_read number (heap_of_line bytes) a.0.0 a.0.1 a.1 in
        let b = and_then_ok (lines_read a.0.0 (first_lines number a.0.1) more) (λ lines. world_read number a.0.0 (last_number number more) lines) world a.2 in
        let c = world_was_read number a.0.0 (last_number number more) b.0 world b.2 in
        subst (IsWorldText text) c.1 (lines_meant text number bytes more e a.0.0 a.0.1 b.0 heap.0 heap.1 heap.2 (lines_were_read a.0.0 (first_lines number a.0.1) more b.0 b.1) c.0)

meant_is_read : (text : List ℕ) (world : World) → IsWorldText text world → world_of_text text ≡ Ok world
unfolding numbered_read
meant_is_read text world m =
    let n = world.heap_line in
    let first = first_lines n world.methods in
    let last = last_number n m.written in
    ap numbered_read m.spelled
    ∙ ap (λ o. heap_read n o >>= λ heap. lines_read heap.0 (first_lines n heap.1) m.written >>= λ lines. world_read n heap.0 last lines) (heap_is_read world.cells world.methods m.size.0 m.size.1)
    ∙ ap (λ (r : Result HeapLine TextFault). r >>= λ heap. lines_read heap.0 (first_lines n heap.1) m.written >>= λ lines. world_read n heap.0 last lines) (heap_is_taken n world.cells world.methods m.size.0 m.size.1)
    ∙ ap (λ r. r >>= λ lines. world_read n world.cells last lines) (lines_are_taken world.cells first m.written m.lines m.lines_spelled m.rules)
    ∙ world_is_taken n world.cells last (first ++ m.lines) (same_threads n world.methods m.lines ∙ m.threads)
    ∙ ap (λ (w : World). Ok w) (sym m.meant)

-- a world is read of exactly the texts that mean it
pub worlds_read : WorldsAreRead
worlds_read text world = (read_is_meant text world, meant_is_read text world)

-- ---- one world

-- a text means one world at most
pub one_world : MeansOneWorld
one_world text a b x y =
    let same : ◌≡◌ {A = Result World TextFault} (Ok a) (Ok b) = sym (meant_is_read text a x) ∙ meant_is_read text b y in
    cc
