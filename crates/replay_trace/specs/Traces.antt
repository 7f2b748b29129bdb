-- What a trace writes.
use Rattle.std.specs.Prelude.{List, ℕ, Result}
use Rattle.std.specs.Io.KnownBytes.{Appends}
use Rattle.sinks.specs.Sink.{Written, Writes}

-- some text was written, and what was written before stays
abbrev pub WritesSome : {T E : Type 0} → Written → Written → Result T E → Type 0
WritesSome old new result = (text : List ℕ) × Writes old new result text

-- some text was appended, and what was there before stays
abbrev pub GoesOn : (old new : Written) → Type 0
GoesOn old new = (text : List ℕ) × Appends old.bytes new.bytes text
