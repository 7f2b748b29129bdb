-- The text of a journal.
use Rattle.std.specs.Prelude.{ℕ, List, [], ◌∷◌, ◌++◌, codes, decimal, if◌then◌else◌, flat_map}
use Rattle.semantics.specs.Journal.{Entry, Step, Clearing, Journal}

-- numbers, with commas between them
abbrev pub numbers_text : List ℕ → List ℕ
numbers_text [] = []
numbers_text (n ∷ []) = decimal n
numbers_text (n ∷ m ∷ numbers) = decimal n ++ 44 ∷ numbers_text (m ∷ numbers)

-- `1`, or `1!` where the allocation was refused; `~46,47` where weak references to these objects were cleared
abbrev pub entry_text : Entry → List ℕ
entry_text (Step k refused) = decimal k ++ (if refused then codes "!" else [])
entry_text (Clearing names) = codes "~" ++ numbers_text names

-- the words of the line of a journal, after the first
abbrev pub spelled_entries : List Entry → List ℕ
spelled_entries entries = flat_map (λ e. codes " " ++ entry_text e) entries

-- `journal` and the entries
unfoldable pub journal_line : Journal → List ℕ
journal_line journal = codes "journal" ++ spelled_entries journal ++ 10 ∷ []
