-- What a sink took, and what a call that writes a text did.
use Rattle.std.specs.Prelude.{◌≡◌, ℕ, ◌+◌, ◌-◌, ◌^◌, ◌<◌, List, ◌++◌, Option, Result, Ok, Err}
use Rattle.std.specs.Io.KnownBytes.{Appends}

-- the bytes taken, where they are known; how many of them, at the end, wait in the sink; and the number of failures
pub record Written : Type 0 where
  pub bytes : Option (List ℕ)
  pub waiting : ℕ
  pub failures : ℕ

-- one more failure can be counted
abbrev pub CanFail : Written → Type 0
CanFail w = w.failures < 2 ^ 64 - 1

-- the whole text was appended
pub record AppendsText (old new : Written) (text : List ℕ) : Type 0 where
  pub bytes : Appends old.bytes new.bytes text
  pub failures : new.failures ≡ old.failures

-- the sink failed, and a beginning of the text was appended before
pub record StopsWithin (old new : Written) (text : List ℕ) : Type 0 where
  pub part : List ℕ
  pub rest : List ℕ
  pub whole : text ≡ part ++ rest
  pub bytes : Appends old.bytes new.bytes part
  pub failures : new.failures ≡ old.failures + 1

-- what a call that writes the text did, by its answer
abbrev pub Writes : {T E : Type 0} → Written → Written → Result T E → List ℕ → Type 0
Writes old new (Ok _) text = AppendsText old new text
Writes old new (Err _) text = StopsWithin old new text
