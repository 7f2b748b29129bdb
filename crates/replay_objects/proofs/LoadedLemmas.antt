-- The objects that are made at load have no more values than the heap has cells.
use Rattle.std.proofs.Common.{◌≡◌, ℕ, zero, suc, ◌<◌, ◌≤◌, ◌^◌, [], ◌∷◌, length, Some, ap, arith}
use Rattle.std.specs.Prelude.{slice_get}
use Rattle.std.proofs.lemmas.List.Sums.{sum_by-cons}
use Rattle.semantics.specs.Heap.{Heap}
use Rattle.semantics.specs.Object.{Object, size, sizes}
use Rattle.semantics.specs.World.{World, loaded_objects}
use Rattle.world_values.proofs.LoadedWorlds.{loaded_fit}
use Rattle.world_values.specs.SoundWorlds.{IsSound}

size_within : (objects : Heap) (i : ℕ) (o : Object) → slice_get objects i ≡ Some o → size o ≤ sizes objects
size_within [] i o at = absurd (cc)
size_within (p ∷ objects) zero o at = let same : p ≡ o = cc in omega (arith, sum_by-cons size p objects, ap size same)
size_within (p ∷ objects) (suc i) o at = omega (arith, sum_by-cons size p objects, size_within objects i o at)

pub loaded_short : (w : World) (i : ℕ) (o : Object) → IsSound w → slice_get (loaded_objects w) i ≡ Some o → length o.values < 2 ^ 31
loaded_short w i o sound at =
    let limit : w.cells ≤ 1048576 = sound.cells in
    omega (arith, size_within (loaded_objects w) i o at, loaded_fit w sound.fits, limit)
