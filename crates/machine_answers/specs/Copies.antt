-- Numbers that are copied between an array or a string and number slots.
use Rattle.std.specs.Prelude.{ℕ, zero, suc, List, [], ◌∷◌, map, take, drop}
use Rattle.heap.specs.Heap.{Block, Space, values_at, with_changed}
use Rattle.heap.specs.declared.value.Value.{Value}
use Rattle.heap.specs.declared.value.Value.TheVariants as value
use Rattle.machine_scenes.specs.declared.array_region.ArrayRegion.{ArrayRegion}

-- a list with another laid over it from a place on, as far as it goes
abbrev pub overlaid : {A : Type 0} → List A → ℕ → List A → List A
overlaid xs zero [] = xs
overlaid [] zero (n ∷ new) = []
overlaid (x ∷ xs) zero (n ∷ new) = n ∷ overlaid xs zero new
overlaid [] (suc i) new = []
overlaid (x ∷ xs) (suc i) new = x ∷ overlaid xs i new

-- the word in a cell, and 0 where it holds no number
abbrev pub word_of : Value → ℕ
word_of (value.Number word) = word
word_of v = 0

-- the words of an object
abbrev pub words_at : Space → ℕ → List ℕ
words_at space a = map word_of (values_at space a)

-- the words of a region of an object
abbrev pub words_of : Space → ArrayRegion → List ℕ
words_of space r = map word_of (take r.count (drop r.start (values_at space r.object)))

-- the words in the region's number slots
abbrev pub words_from : List ℕ → ArrayRegion → List ℕ
words_from numbers r = take r.count (drop r.slot numbers)

-- the number slots with the object's words
abbrev pub numbers_with : Space → ArrayRegion → List ℕ → List ℕ
numbers_with space r numbers = overlaid numbers r.slot (words_of space r)

-- a block with numbers from a place on
abbrev pub overlay : ℕ → List ℕ → Block → Block
overlay start words b = record b { values = overlaid b.values start (map value.Number words) }

-- the heap with the words of the slots in the object
abbrev pub space_with : Space → ArrayRegion → List ℕ → Space
space_with space r numbers = with_changed space r.object (overlay r.start (words_from numbers r))
