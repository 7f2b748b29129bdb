-- The lines of objects and of calls by their first word, as the reader asks for one kind after another.
use Rattle.std.specs.Prelude.{ℕ, List, Option, None, codes, bytes_eq, if◌then◌else◌}
use Rattle.world_values.specs.WorldLines.{WorldLine, ObjectLine, ObjectsLine, ThreadLine, CallLine}
use Rattle.world_lines.specs.ReadingLines.{object_by_words, array_by_words, call_by_words}

-- a call's line of this first word
abbrev pub calls_by_kind : (word : List ℕ) → List (List ℕ) → Option WorldLine
calls_by_kind word words = if bytes_eq word (codes "thread") then call_by_words ThreadLine words else
    (if bytes_eq word (codes "call") then call_by_words CallLine words else None)

-- an object's, or a call's
abbrev pub objects_by_kind : (word : List ℕ) → List (List ℕ) → Option WorldLine
objects_by_kind word words =
    if bytes_eq word (codes "object") then object_by_words ObjectLine words
    else (if bytes_eq word (codes "objects") then object_by_words ObjectsLine words
    else (if bytes_eq word (codes "array") then array_by_words words else calls_by_kind word words))
