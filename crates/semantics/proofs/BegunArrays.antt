-- A local array that begins with other numbers takes no more of buffers.
use Rattle.std.proofs.Common.{◌≡◌, ℤ, List, refl}
use Rattle.semantics.specs.CallEffects.{begun_with}
use Rattle.semantics.specs.Variable.{Variable, LocalArray, copied_length}

pub begun_length : (zs : List ℤ) (v : Variable) → copied_length (begun_with zs v) ≡ copied_length v
begun_length zs (LocalArray t ys) = refl
begun_length zs v = refl
