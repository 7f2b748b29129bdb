-- What is said, as what is told.
use Rattle.std.proofs.Common.{◌≡◌, ℕ, List, Result, Ok, Err, inl, inr}
use Rattle.std.specs.Prelude.{OnOk}
use Rattle.sinks.specs.Sink.{Written, Writes}
use Rattle.cli_commands.specs.Saying.{Tells}

-- a text that is written, of which nothing waits, is told, or the sink failed within it
pub tells : {T E : Type 0} (old new : Written) (r : Result T E) (text : List ℕ) → Writes old new r text → OnOk r (new.waiting ≡ 0) → Tells old new text
tells old new (Ok v) text h none = inl (record { appended = h; none_waits = none })
tells old new (Err e) text h none = inr h
