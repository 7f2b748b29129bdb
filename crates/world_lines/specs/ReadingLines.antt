-- How a line of a world is read, by its words.
use Rattle.std.specs.Prelude.{ℕ, Bool, true, false, ◌-◌, ◌^◌, List, [], ◌∷◌, codes, min, ◌==◌, Option, Some, None, bytes_eq, if◌then◌else◌}
use Rattle.std.specs.Option.{option_map}
use Rattle.std.specs.List.{list_all}
use Rattle.base.specs.Bytes.{Identifier, is_some_byte}
use Rattle.base.specs.declared.element.ElementType.{ElementType}
use Rattle.world_schedules.specs.Numbers.{natural_of}
use Rattle.world_schedules.specs.Split.{parts_of}
use Rattle.world_lines.specs.ReadingValues.{object_named, values_named, element_named}
use Rattle.world_values.specs.WorldLines.{WorldValue, WorldLine, ClassLine, FieldLine, StaticLine, ObjectLine, ObjectsLine, ArrayLine, StringLine, ThreadLine, CallLine, spaced}

-- ---- the heap

-- a negative number is as far below each limit as 0 is
abbrev pub below_zero : Option ℕ → Option ℕ
below_zero None = None
below_zero (Some n) = if n == 0 then None else Some 0

-- the number of cells that a word spells; one that passes 64 bits is as far above each limit as the last
abbrev pub cells_named : List ℕ → Option ℕ
cells_named [] = None
cells_named (sign ∷ digits) =
    if sign == 45 then below_zero (natural_of digits) else option_map (λ n. min n (2 ^ 64 - 1)) (natural_of (sign ∷ digits))

-- the heap's number of cells, and whether it allows methods
abbrev pub HeapLine : Type 0
HeapLine = ℕ × Bool

-- a number of cells, where the word before it is `heap`
abbrev pub heap_named : (methods : Bool) → (word number : List ℕ) → Option HeapLine
heap_named methods word number = if bytes_eq word (codes "heap") then option_map (λ n. (n, methods)) (cells_named number) else None

-- `heap N` or `heap N methods`, by its words
abbrev pub heap_by_words : List (List ℕ) → Option HeapLine
heap_by_words (word ∷ number ∷ []) = heap_named false word number
heap_by_words (word ∷ number ∷ more ∷ []) = if bytes_eq more (codes "methods") then heap_named true word number else None
heap_by_words words = None

-- what a line of the heap says
unfoldable pub heap_of_line : List ℕ → Option HeapLine
heap_of_line bytes = heap_by_words (parts_of 32 bytes)

-- ---- other lines, by the words after the first

-- `NAME` or `NAME extends SUPERCLASS`
abbrev pub class_by_words : List (List ℕ) → Option WorldLine
class_by_words (name ∷ []) = Some (ClassLine name None)
class_by_words (name ∷ extends ∷ superclass ∷ []) = if bytes_eq extends (codes "extends") then Some (ClassLine name (Some superclass)) else None
class_by_words words = None

-- `CLASS NAME SIGNATURE`
abbrev pub field_by_words : ((class name : Identifier) (signature : List ℕ) → WorldLine) → List (List ℕ) → Option WorldLine
field_by_words line (class ∷ name ∷ signature ∷ []) = Some (line class name signature)
field_by_words line words = None

-- the line of an object, where its name and its values are there
abbrev pub object_line : (Identifier → List WorldValue → WorldLine) → Option Identifier → Option (List WorldValue) → Option WorldLine
object_line line (Some x) (Some values) = Some (line x values)
object_line line x values = None

-- `@x CLASS VALUE ..`
abbrev pub object_by_words : ((x class : Identifier) (values : List WorldValue) → WorldLine) → List (List ℕ) → Option WorldLine
object_by_words line (x ∷ class ∷ values) = object_line (λ name. line name class) (object_named x) (values_named values)
object_by_words line words = None

-- the line of an array, where its element type is there too
abbrev pub array_line : Option Identifier → Option ElementType → Option (List WorldValue) → Option WorldLine
array_line x (Some t) values = object_line (λ name. ArrayLine name t) x values
array_line x None values = None

-- `@x K VALUE ..`
abbrev pub array_by_words : List (List ℕ) → Option WorldLine
array_by_words (x ∷ letter ∷ values) = array_line (object_named x) (element_named letter) (values_named values)
array_by_words words = None

-- `@x TEXT`, where the text may be several words
abbrev pub string_by_words : List (List ℕ) → Option WorldLine
string_by_words (x ∷ words) = option_map (λ name. StringLine name (spaced words)) (object_named x)
string_by_words [] = None

-- `FUNCTION ARGUMENT ..`
abbrev pub call_by_words : ((function : Identifier) (arguments : List WorldValue) → WorldLine) → List (List ℕ) → Option WorldLine
call_by_words line (function ∷ arguments) = option_map (line function) (values_named arguments)
call_by_words line [] = None

-- a line of this first word
abbrev pub words_by_kind : (word : List ℕ) → List (List ℕ) → Option WorldLine
words_by_kind word words =
    if bytes_eq word (codes "class") then class_by_words words
    else (if bytes_eq word (codes "field") then field_by_words FieldLine words
    else (if bytes_eq word (codes "static") then field_by_words StaticLine words
    else (if bytes_eq word (codes "object") then object_by_words ObjectLine words
    else (if bytes_eq word (codes "objects") then object_by_words ObjectsLine words
    else (if bytes_eq word (codes "array") then array_by_words words
    else (if bytes_eq word (codes "thread") then call_by_words ThreadLine words
    else (if bytes_eq word (codes "call") then call_by_words CallLine words else None)))))))

-- the line that words are; only a string's may be empty
abbrev pub line_by_words : List (List ℕ) → Option WorldLine
line_by_words [] = None
line_by_words (word ∷ words) =
    if bytes_eq word (codes "string") then string_by_words words
    else (if list_all is_some_byte words then words_by_kind word words else None)

-- the line that bytes are
unfoldable pub line_of : List ℕ → Option WorldLine
line_of bytes = line_by_words (parts_of 32 bytes)
