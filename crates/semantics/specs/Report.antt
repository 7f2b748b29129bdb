-- What a report tells.
use Rattle.std.specs.Prelude.{ℕ, ℤ, List}
use Rattle.base.specs.Bytes.{Identifier}
use Rattle.semantics.specs.declared.printed.Printed.{Printed}

-- the status of a thread: it trapped, it ended, it ended with an exception of this class, it waits for a monitor, or none of these
pub data ThreadStanding : Type 0 where
  HasTrapped : (number line : ℕ) → ThreadStanding
  HasEnded : ThreadStanding
  IsUncaught : (class : Identifier) → ThreadStanding
  IsBlocked IsRunning : ThreadStanding

-- a value of a shown object
pub data ShownValue : Type 0 where
  ShownNumber : ℤ → ShownValue
  ShownNull : ShownValue
  ShownClass : Identifier → ShownValue
  ShownObject : ℕ → ShownValue

-- an object: its name, its class's name and its values
pub record ShownRow : Type 0 where
  pub name : ℕ
  pub class : Identifier
  pub values : List ShownValue

-- what a run printed, the status of each thread, and the objects that can still be reached
pub record Report : Type 0 where
  pub printed : List Printed
  pub standings : List ThreadStanding
  pub objects : List ShownRow
