-- What is left after two walks, of which the second goes on where the first ended.
use Rattle.std.proofs.Common.{ℕ, Option, Some, None}
use Rattle.std.specs.Prelude.{IfSome, IfNone}

pub some_by : (r : Option ℕ) (P Q : ℕ → Type 0) → ((x : ℕ) → P x → Q x) → IfSome r P → IfSome r Q
some_by (Some x) P Q f h = f x h
some_by None P Q f h = tt

pub none_by : (r : Option ℕ) (P Q : Type 0) → (P → Q) → IfNone r P → IfNone r Q
none_by (Some x) P Q f h = tt
none_by None P Q f h = f h
