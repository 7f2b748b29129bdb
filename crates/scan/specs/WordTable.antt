-- The table of the reserved words in memory.
use Rattle.std.specs.Prelude.{ℕ, List, map}
use Rattle.std.specs.Borrow.{Bor}
use Rattle.base.specs.Bytes.{ByName}
use Rattle.scan.specs.declared.reserved.Word.{Word}

-- a row of the table in memory
abbrev pub row_value : Bor (List ℕ) × Word → List ℕ × Word
row_value row = (row.0.now, row.1)

-- rows of the table in memory
abbrev pub rows_value : Bor (List (Bor (List ℕ) × Word)) → ByName Word
rows_value rows = map row_value rows.now
