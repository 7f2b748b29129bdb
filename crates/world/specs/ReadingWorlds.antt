-- How the text of a world is read: line by line, each by the rules on it after those before it.
use Rattle.std.specs.Prelude.{ℕ, ◌&&◌, List, [], ◌∷◌, ◌++◌, Option, Some, None, Result, Ok, nat_le, if◌then◌else◌}
use Rattle.std.specs.List.{list_any}
use Rattle.base.specs.Limits.{least_cells, most_cells}
use Rattle.class_rules.specs.declared.rule.ClassRule.TheVariants.{NameTaken, BadSuperclass, BadSignature, TooMany}
use Rattle.world_schedules.specs.LineRules.{LineRule, OfClass, LineForm, WrongName, OutOfLimit, HeapFull}
use Rattle.world_schedules.specs.Reading.{◌>>=◌, refused}
use Rattle.world_schedules.specs.declared.fault.Rule.{Rule}
use Rattle.world_schedules.specs.declared.fault.Rule.TheVariants as held
use Rattle.world_schedules.specs.declared.fault.TextFault.{TextFault}
use Rattle.semantics.specs.World.{World}
use Rattle.world_lines.specs.ReadingLines.{HeapLine, heap_of_line, line_of}
use Rattle.world_values.specs.WorldLines.{WorldLine, Lines, text_lines}
use Rattle.world_values.specs.WorldMeaning.{world_of}
use Rattle.world_values.specs.WorldRules.{first_lines, is_thread_line, broken_by_line}

-- a rule as it is held in memory
abbrev pub held_rule : LineRule → Rule
held_rule (OfClass NameTaken) = held.NameTaken
held_rule (OfClass BadSuperclass) = held.Superclass
held_rule (OfClass BadSignature) = held.Signature
held_rule (OfClass TooMany) = held.Classes
held_rule LineForm = held.Form
held_rule WrongName = held.Name
held_rule OutOfLimit = held.Limit
held_rule HeapFull = held.Heap

-- ---- a line

-- the least rule of several that are broken
abbrev pub least_rule : List LineRule → Option LineRule
least_rule [] = None
least_rule (rule ∷ rules) = Some rule

-- the least rule that a line breaks, its number with it, after earlier lines
abbrev pub rule_broken : (cells : ℕ) (earlier : Lines) → ℕ × WorldLine → Option LineRule
rule_broken cells earlier line = least_rule (broken_by_line cells earlier line)

-- something that breaks no rule, or the rule at this line
abbrev pub ruled : {A : Type 0} → (number : ℕ) → Option LineRule → A → Result A TextFault
ruled number None x = Ok x
ruled number (Some rule) x = refused (held_rule rule) number

-- the lines with one more
unfoldable pub line_read : (cells : ℕ) (earlier : Lines) (number : ℕ) → Option WorldLine → Result Lines TextFault
line_read cells earlier number None = refused held.Form number
line_read cells earlier number (Some line) = ruled number (rule_broken cells earlier (number, line)) (earlier ++ (number, line) ∷ [])

-- the lines with more
unfoldable pub lines_read : (cells : ℕ) (earlier : Lines) → List (ℕ × List ℕ) → Result Lines TextFault
lines_read cells earlier [] = Ok earlier
lines_read cells earlier ((number, bytes) ∷ more) = line_read cells earlier number (line_of bytes) >>= λ lines. lines_read cells lines more

-- ---- a text

-- the heap, by the first line
unfoldable pub heap_read : (number : ℕ) → Option HeapLine → Result HeapLine TextFault
heap_read number None = refused held.Form number
heap_read number (Some (cells, methods)) =
    if nat_le least_cells cells && nat_le cells most_cells then Ok (cells, methods) else refused held.Limit number

-- the number of the last line
abbrev pub last_number : (number : ℕ) → List (ℕ × List ℕ) → ℕ
last_number number [] = number
last_number number ((n, bytes) ∷ more) = last_number n more

-- the world of these lines, where a thread is among them; else the last line is told
unfoldable pub world_read : (heap_line cells last : ℕ) → Lines → Result World TextFault
world_read heap_line cells last lines =
    if list_any (λ (l : ℕ × WorldLine). is_thread_line l.1) lines then Ok (world_of heap_line cells lines) else refused held.Limit last

-- the world of lines with their numbers
unfoldable pub numbered_read : List (ℕ × List ℕ) → Result World TextFault
numbered_read [] = refused held.Form 1
numbered_read ((number, bytes) ∷ more) =
    heap_read number (heap_of_line bytes) >>= λ heap. lines_read heap.0 (first_lines number heap.1) more >>= λ lines. world_read number heap.0 (last_number number more) lines

-- the world that is read of a text
abbrev pub world_of_text : List ℕ → Result World TextFault
world_of_text text = numbered_read (text_lines text)
