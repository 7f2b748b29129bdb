-- How the values of a world's lines are read.
use Rattle.std.specs.Prelude.{ℕ, List, [], ◌∷◌, take, drop, codes, ◌==◌, Option, Some, None, bytes_eq, if◌then◌else◌}
use Rattle.std.specs.Option.{option_map}
use Rattle.base.specs.Bytes.{Identifier}
use Rattle.base.specs.declared.element.ElementType.{ElementType}
use Rattle.base.specs.declared.element.ElementType.TheVariants.{Int as JInt, Short as JShort, Byte as JByte, Char as JChar}
use Rattle.world_schedules.specs.Numbers.{number_named}
use Rattle.world_schedules.specs.ReadingWords.{with_word}
use Rattle.world_values.specs.WorldLines.{WorldValue, NumberValue, NullValue, NamedObject, NamedClass}

-- what is after the `@` of the name of an object
abbrev pub object_named : List ℕ → Option Identifier
object_named [] = None
object_named (c ∷ x) = if c == 64 then Some x else None

-- the number that a word is, or null
abbrev pub plain_value : List ℕ → Option WorldValue
plain_value word = if bytes_eq word (codes "null") then Some NullValue else option_map NumberValue (number_named word)

-- the value that a word is
unfoldable pub value_named : List ℕ → Option WorldValue
value_named [] = None
value_named (c ∷ rest) =
    if c == 64
    then option_map NamedObject (object_named (c ∷ rest))
    else (if bytes_eq (take 6 (c ∷ rest)) (codes "class:") then Some (NamedClass (drop 6 (c ∷ rest))) else plain_value (c ∷ rest))

-- the values that words are
abbrev pub values_named : List (List ℕ) → Option (List WorldValue)
values_named [] = Some []
values_named (word ∷ words) = with_word (value_named word) (values_named words)

-- the type of the elements of an array, by its letter
abbrev pub element_named : List ℕ → Option ElementType
element_named word =
    if bytes_eq word (codes "I") then Some JInt
    else (if bytes_eq word (codes "S") then Some JShort
    else (if bytes_eq word (codes "B") then Some JByte
    else (if bytes_eq word (codes "C") then Some JChar else None)))
