-- Reading line by line, with what is gathered in the place of the lines before.
use Rattle.std.proofs.Common.{◌≡◌, ℕ, ◌≤◌, Bool, true, false, cond, List, [], ◌∷◌, ◌++◌, length, Option, Some, None, Result, Ok, Err, refl, sym, ap, ◌∙◌, subst}
use Rattle.std.specs.Prelude.{not, ◌==◌, filter, IfOk}
use Rattle.std.specs.List.{enumerate_from}
use Rattle.base.specs.Bytes.{is_some_byte}
use Rattle.semantics.specs.World.{World}
use Rattle.world_schedules.specs.LineRules.{LineRule}
use Rattle.world_schedules.specs.Reading.{◌>>=◌, refused, Gives, Fails}
use Rattle.world_schedules.specs.Split.{parts_of, parts_left}
use Rattle.world_schedules.specs.declared.split.Split.{Split}
use Rattle.world_schedules.specs.declared.fault.ReadError.{ReadError}
use Rattle.world_schedules.specs.declared.fault.ReadError.TheVariants as errors
use Rattle.world_schedules.proofs.PartLemmas.{slice_split-split_at}
use Rattle.world_schedules.specs.declared.fault.Rule.{Rule}
use Rattle.world_schedules.specs.declared.fault.Rule.TheVariants as held
use Rattle.world_schedules.specs.declared.fault.TextFault.{TextFault}
use Rattle.world_schedules.specs.Rule.{rule_of}
use Rattle.world.specs.Gathered.{Gathered, gather, gathered_read, gathered_world, whole_read, all_read, world_left, least_rule, with_line}
use Rattle.world.specs.LinesLeft.{lines_left}
use Rattle.world_values.specs.declared.part.Part.{Part}
use Rattle.world_values.specs.declared.part.Part.TheVariants as parts
use Rattle.world_values.specs.declared.world.World.{World as InMemory}
use Rattle.world_lines.specs.ReadingLines.{HeapLine, heap_of_line, line_of}
use Rattle.world.specs.ReadingWorlds.{held_rule, rule_broken, ruled, line_read, lines_read, heap_read, last_number, world_read, numbered_read, world_of_text}
use Rattle.world_values.specs.SoundWorlds.{IsSound}
use Rattle.world_values.specs.WorldLines.{WorldLine, MethodsLine, Lines, text_lines}
use Rattle.world_values.specs.WorldRules.{first_lines, part_of, is_no_later, IsWorldText}
use Rattle.world.proofs.GatheredLines.{AreGathered, rule_same}
use Rattle.world.proofs.GatheredNext.{gathered_next, are_gathered}
use Rattle.world.proofs.OrderedLines.{AreOrdered, none_ordered, more_ordered}
use Rattle.world.proofs.ReadWorlds.{worlds_read}
use Rattle.world.proofs.Soundness.{first_sound, sound_world}

-- ---- rules in memory

-- a rule that is held in memory stands for itself
pub held_same : (rule : Rule) → held_rule (rule_of rule) ≡ rule
held_same held.NameTaken = refl
held_same held.Superclass = refl
held_same held.Signature = refl
held_same held.Classes = refl
held_same held.Form = refl
held_same held.Name = refl
held_same held.Limit = refl
held_same held.Heap = refl

-- ---- one line

module _ (heap_line cells : ℕ) (part : Part) (L : Lines) (s : AreGathered cells part L) (n : ℕ) where
  abbrev g : Gathered
  g = gather heap_line cells part L

  -- what was taken
  record IsTaken (line : Option WorldLine) (next : Gathered) : Type 0 where
    pub said : WorldLine
    pub is : line ≡ Some said
    pub kept : rule_broken cells L (n, said) ≡ None
    pub added : with_line g n said ≡ next

  taken : (line : Option WorldLine) (next : Gathered) → gathered_read g n line ≡ Ok next → IsTaken line next
  unfolding gathered_read
  taken None next h = absurd (cc)
  taken (Some line) next h = by_rule (least_rule g line) refl h
    where
      by_rule : (rule : Option LineRule) → least_rule g line ≡ rule → ruled n rule (with_line g n line) ≡ Ok next → IsTaken (Some line) next
      by_rule None e k = record { said = line; is = refl; kept = sym (rule_same heap_line cells part L s n line) ∙ e; added = cc }
      by_rule (Some rule) e k = absurd (cc)

  -- the fault is that of the lines
  fault_told : (line : Option WorldLine) (f : TextFault) → gathered_read g n line ≡ Err f → line_read cells L n line ≡ Err f
  unfolding gathered_read line_read
  fault_told None f h = cc
  fault_told (Some line) f h = ap (λ rule. ruled n rule (L ++ (n, line) ∷ [])) (sym (rule_same heap_line cells part L s n line)) ∙ by_rule (least_rule g line) h
    where
      by_rule : (rule : Option LineRule) → ruled n rule (with_line g n line) ≡ Err f → ruled n rule (L ++ (n, line) ∷ []) ≡ Err f
      by_rule None k = absurd (cc)
      by_rule (Some rule) k = cc

-- ---- several lines

-- what is gathered so far, and the lines that are left
record IsReading (g : Gathered) (last : ℕ) (rest : List (ℕ × List ℕ)) (read : Result World TextFault) : Type 0 where
  pub heap_line : ℕ
  pub cells : ℕ
  pub part : Part
  pub lines : Lines
  pub high : cells ≤ 1048576
  pub is : g ≡ gather heap_line cells part lines
  pub state : AreGathered cells part lines
  pub further : (lines_read cells lines rest >>= λ all. world_read heap_line cells (last_number last rest) all) ≡ read

first_ordered : (n : ℕ) (methods : Bool) → AreOrdered (first_lines n methods) parts.Classes
first_ordered n true = more_ordered [] parts.Classes n MethodsLine none_ordered refl
first_ordered n false = none_ordered

first_gathered : (cells n : ℕ) (methods : Bool) → 512 ≤ cells → AreGathered cells parts.Classes (first_lines n methods)
first_gathered cells n true low = record { sound = first_sound cells n true low; ordered = first_ordered n true; few_calls = refl; started = refl }
first_gathered cells n false low = record { sound = first_sound cells n false low; ordered = first_ordered n false; few_calls = refl; started = refl }

-- after the line of the heap
starts : (g : Gathered) (number cells : ℕ) (methods : Bool) (rest : List (ℕ × List ℕ)) → (512 ≤ cells) × (cells ≤ 1048576) → g ≡ gather number cells parts.Classes (first_lines number methods) → IsReading g number rest (world_left (cells, methods) number rest)
starts g number cells methods rest size is = record { heap_line = number; cells = cells; part = parts.Classes; lines = first_lines number methods; high = size.1; is = is; state = first_gathered cells number methods size.0; further = refl }

-- the line of the heap is read
by_heap : (number : ℕ) (bytes : List ℕ) (rest : List (ℕ × List ℕ)) (text : List ℕ) (heap : Result HeapLine TextFault) → text_lines text ≡ (number, bytes) ∷ rest → heap_read number (heap_of_line bytes) ≡ heap
    → world_of_text text ≡ (heap >>= λ h. world_left h number rest)
unfolding numbered_read
by_heap number bytes rest text heap first e = ap numbered_read first ∙ ap (λ (r : Result HeapLine TextFault). r >>= λ h. world_left h number rest) e

-- no line is there
pub no_heap : (text : List ℕ) → text_lines text ≡ [] → world_of_text text ≡ refused held.Form 1
unfolding numbered_read
no_heap text none = ap numbered_read none

module _ (g : Gathered) (last number : ℕ) (bytes : List ℕ) (rest : List (ℕ × List ℕ)) (read : Result World TextFault) (r : IsReading g last ((number, bytes) ∷ rest) read) where
  by_line : (line_read r.cells r.lines number (line_of bytes) >>= (λ lines. lines_read r.cells lines rest) >>= λ all. world_read r.heap_line r.cells (last_number number rest) all) ≡ read
  unfolding lines_read
  by_line = r.further

  told : gathered_read g number (line_of bytes) ≡ gathered_read (gather r.heap_line r.cells r.part r.lines) number (line_of bytes)
  told = ap (λ x. gathered_read x number (line_of bytes)) r.is

  line_kept : (line : WorldLine) → rule_broken r.cells r.lines (number, line) ≡ None → line_read r.cells r.lines number (Some line) ≡ Ok (r.lines ++ (number, line) ∷ [])
  unfolding line_read
  line_kept line e = ap (λ rule. ruled number rule (r.lines ++ (number, line) ∷ [])) e

  -- the next line is refused
  refuses : (f : TextFault) → gathered_read g number (line_of bytes) ≡ Err f → read ≡ Err f
  refuses f h =
      let fault = fault_told r.heap_line r.cells r.part r.lines r.state number (line_of bytes) f (sym told ∙ h) in
      sym by_line ∙ ap (λ (o : Result Lines TextFault). o >>= (λ lines. lines_read r.cells lines rest) >>= λ all. world_read r.heap_line r.cells (last_number number rest) all) fault

  -- the next line is taken
  takes : (next : Gathered) → gathered_read g number (line_of bytes) ≡ Ok next → IsReading next number rest read
  takes next h =
      let t = taken r.heap_line r.cells r.part r.lines r.state number (line_of bytes) next (sym told ∙ h) in
      record {
        heap_line = r.heap_line;
        cells = r.cells;
        part = part_of t.said;
        lines = r.lines ++ (number, t.said) ∷ [];
        high = r.high;
        is = sym t.added ∙ sym (gathered_next r.heap_line r.cells r.part r.lines r.state number t.said t.kept);
        state = are_gathered r.heap_line r.cells r.part r.lines r.state number t.said t.kept;
        further =
            sym (ap (λ (o : Result Lines TextFault). o >>= (λ lines. lines_read r.cells lines rest) >>= λ all. world_read r.heap_line r.cells (last_number number rest) all) (ap (line_read r.cells r.lines number) t.is ∙ line_kept t.said t.kept))
            ∙ by_line;
      }

-- the world that is gathered, where a thread is among it; else the last line is told
abbrev finished_read : Gathered → (last : ℕ) → Result World TextFault
finished_read g last = cond (length g.threads == 0) (refused held.Limit last) (Ok (gathered_world g))

-- no line is left
ends : (g : Gathered) (last : ℕ) (read : Result World TextFault) → IsReading g last [] read → finished_read g last ≡ read
unfolding lines_read world_read
ends g last read r =
    ap (λ x. finished_read x last) r.is
    ∙ ap (λ b. cond b (refused held.Limit last) (Ok (gathered_world (gather r.heap_line r.cells r.part r.lines)))) r.state.started
    ∙ by_test (is_no_later parts.Threads r.part)
    ∙ sym (ap (λ b. cond b (Ok (gathered_world (gather r.heap_line r.cells r.part r.lines))) (refused held.Limit last)) r.state.ordered.threads)
    ∙ r.further
  where
    by_test : (b : Bool) → cond (not b) (refused held.Limit last) (Ok (gathered_world (gather r.heap_line r.cells r.part r.lines))) ≡ cond b (Ok (gathered_world (gather r.heap_line r.cells r.part r.lines))) (refused held.Limit last)
    by_test true = refl
    by_test false = refl

sound_end : (g : Gathered) (last : ℕ) (rest : List (ℕ × List ℕ)) (read : Result World TextFault) → IsReading g last rest read → IsSound (gathered_world g)
sound_end g last rest read r = subst (λ x. IsSound (gathered_world x)) (sym r.is) (sound_world r.heap_line r.cells r.lines r.high r.state.sound)

-- ---- all lines that are left

-- what all of them make, and the world that they mean
abbrev Same : Result Gathered TextFault → Result World TextFault → Type 0
Same (Ok g) read = (read ≡ Ok (gathered_world g)) × IsSound (gathered_world g)
Same (Err f) read = read ≡ Err f

same_all : (rest : List (ℕ × List ℕ)) (g : Gathered) (last : ℕ) (read : Result World TextFault) → IsReading g last rest read → Same (all_read g last rest) read
unfolding all_read
same_all [] g last read r = by_test (length g.threads == 0) (ends g last read r)
  where
    by_test : (b : Bool) → cond b (refused held.Limit last) (Ok (gathered_world g)) ≡ read → Same (cond b (refused held.Limit last) (Ok g)) read
    by_test true e = sym e
    by_test false e = (sym e, sound_end g last [] read r)
same_all ((number, bytes) ∷ rest) g last read r = by_line (gathered_read g number (line_of bytes)) refl (λ next. same_all rest next number read)
  where
    by_line : (o : Result Gathered TextFault) → gathered_read g number (line_of bytes) ≡ o → ((next : Gathered) → IsReading next number rest read → Same (all_read next number rest) read) → Same (o >>= λ next. all_read next number rest) read
    by_line (Ok next) e further = further next (takes g last number bytes rest read r next e)
    by_line (Err f) e further = refuses g last number bytes rest read r f e

-- what is gathered before them, after the line of the heap
same_left : (g : Gathered) (number cells : ℕ) (methods : Bool) (rest : List (ℕ × List ℕ)) → (512 ≤ cells) × (cells ≤ 1048576) → g ≡ gather number cells parts.Classes (first_lines number methods) → Same (all_read g number rest) (world_left (cells, methods) number rest)
same_left g number cells methods rest size is = same_all rest g number (world_left (cells, methods) number rest) (starts g number cells methods rest size is)

module _ (g : Gathered) (number cells : ℕ) (methods : Bool) (rest : List (ℕ × List ℕ)) (size : (512 ≤ cells) × (cells ≤ 1048576)) (is : g ≡ gather number cells parts.Classes (first_lines number methods)) where
  -- they make a world
  pub make_world : (whole : Gathered) → all_read g number rest ≡ Ok whole → (world_left (cells, methods) number rest ≡ Ok (gathered_world whole)) × IsSound (gathered_world whole)
  make_world whole e = subst (λ (o : Result Gathered TextFault). Same o (world_left (cells, methods) number rest)) e (same_left g number cells methods rest size is)

  -- one of them stops the reading
  pub stop_reading : (e : ReadError) → Fails e (all_read g number rest) → Fails e (world_left (cells, methods) number rest)
  stop_reading errors.Memory h = tt
  stop_reading (errors.Fault f) h = subst (λ (o : Result Gathered TextFault). Same o (world_left (cells, methods) number rest)) h (same_left g number cells methods rest size is)

-- ---- one line after the other

module _ (g : Gathered) (last : ℕ) (left : List (ℕ × List ℕ)) (all : Result Gathered TextFault) (so_far : all_read g last left ≡ all) where
  -- no line is left
  pub none_left : left ≡ [] → whole_read g last ≡ all
  unfolding all_read
  none_left none = sym (ap (all_read g last) none) ∙ so_far

  module _ (number : ℕ) (bytes : List ℕ) (rest : List (ℕ × List ℕ)) (first : left ≡ (number, bytes) ∷ rest) where
    -- the next line is taken
    pub line_taken : (next : Gathered) → gathered_read g number (line_of bytes) ≡ Ok next → all_read next number rest ≡ all
    unfolding all_read
    line_taken next e = sym (ap (all_read g last) first ∙ ap (λ (o : Result Gathered TextFault). o >>= λ next. all_read next number rest) e) ∙ so_far

    -- the next line is not read
    pub line_stops : (e : ReadError) → Fails e (gathered_read g number (line_of bytes)) → Fails e all
    unfolding all_read
    line_stops errors.Memory h = tt
    line_stops (errors.Fault f) h = sym (sym (ap (all_read g last) first ∙ ap (λ (o : Result Gathered TextFault). o >>= λ next. all_read next number rest) h) ∙ so_far)

-- ---- the whole text

-- no line of it was read yet
pub text_left : (lines : Split) (text : List ℕ) → parts_left lines ≡ parts_of 10 text → lines_left 0 lines ≡ text_lines text
text_left lines text e = ap (λ parts. filter (λ (l : ℕ × List ℕ). is_some_byte l.1) (enumerate_from 1 parts)) (e ∙ slice_split-split_at (λ c. c == 10) text)

-- what is read is what the text means
pub world_means : (text : List ℕ) (read : Result InMemory ReadError) → Gives (λ w. w) read (world_of_text text) → IfOk read (λ w. IsWorldText text w)
world_means text (Ok w) h = (worlds_read text w).0 h
world_means text (Err e) h = tt

-- the line of the heap is not read
pub heap_stops : (number : ℕ) (bytes : List ℕ) (rest : List (ℕ × List ℕ)) (text : List ℕ) (e : ReadError) → text_lines text ≡ (number, bytes) ∷ rest → Fails e (heap_read number (heap_of_line bytes)) → Fails e (world_of_text text)
heap_stops number bytes rest text errors.Memory first h = tt
heap_stops number bytes rest text (errors.Fault f) first h = by_heap number bytes rest text (Err f) first h

-- the line of the heap is read
pub heap_taken : (number : ℕ) (bytes : List ℕ) (rest : List (ℕ × List ℕ)) (text : List ℕ) (heap : HeapLine) → text_lines text ≡ (number, bytes) ∷ rest → heap_read number (heap_of_line bytes) ≡ Ok heap → world_of_text text ≡ world_left heap number rest
heap_taken number bytes rest text heap first h = by_heap number bytes rest text (Ok heap) first h
