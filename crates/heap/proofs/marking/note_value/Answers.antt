use Rattle.std.proofs.Common.{◌≡◌, ◌<◌, ℕ, length, Option, Some, subst}
use Rattle.std.specs.Prelude.{IfSome}
use Rattle.heap.specs.Marks.{Marks}
use Rattle.heap.proofs.marking.note_value.Goals as goal

within : (o : Option Marks) (b : ℕ) (m : Marks) → o ≡ Some m → IfSome o (λ m. b < length m.kept) → b < length m.kept
within o b m e h = subst (λ (x : Option Marks). IfSome x (λ m. b < length m.kept)) e h

pub note-requires : goal.note-requires
note-requires c = within _ _ _ c.in-Some.is (c.requires _ c.in-Block.is)
