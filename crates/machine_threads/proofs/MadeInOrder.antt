-- The objects of a world, of which the first, a number of them, have been made.
use Rattle.std.proofs.Common.{◌≡◌, ℕ, zero, suc, ◌+◌, ◌<◌, ◌≤◌, List, [], ◌∷◌, ◌++◌, length, take, Some, ap, ◌∙◌, arith}
use Rattle.std.specs.Prelude.{slice_get}
use Rattle.std.proofs.lemmas.List.{length-take-le}
use Rattle.std.proofs.lemmas.List.Sums.{sum_by-cons}
use Rattle.std.proofs.lemmas.Option.{slice_get_within}
use Rattle.base.proofs.Lists.{take_next}
use Rattle.heap.specs.Heap.{Space, end_of, left_of}
use Rattle.semantics.specs.Heap.{Heap}
use Rattle.semantics.specs.Object.{Object, size, sizes}
use Rattle.semantics.specs.World.{World, loaded_objects}
use Rattle.machine_scenes.proofs.Loaded.{made_end}
use Rattle.world_values.proofs.LoadedWorlds.{few_objects, loaded_fit}
use Rattle.world_values.specs.SoundWorlds.{IsSound}
use Rattle.machine_scenes.specs.HeapAgrees.{AreMade}

size_within : (objects : Heap) (i : ℕ) (o : Object) → slice_get objects i ≡ Some o → sizes (take i objects) + size o ≤ sizes objects
size_within [] i o h = absurd (cc)
size_within (x ∷ objects) zero o h =
    let same : size x ≡ size o = ap size (let e : x ≡ o = cc in e) in
    omega (arith, sum_by-cons size x objects)
size_within (x ∷ objects) (suc i) o h =
    omega (arith, size_within objects i o h, sum_by-cons size x objects, sum_by-cons size x (take i objects))

-- the next object of a world, where these have been made
module _ (w : World) (sound : IsSound w) (s : Space) (addresses : List ℕ) (i : ℕ) (o : Object) (made : AreMade s addresses (take i (loaded_objects w))) (at : slice_get (loaded_objects w) i ≡ Some o) (cells : s.cells ≡ w.cells) where
  -- there is room for it
  pub room : size o ≤ left_of s
  room =
      let filled : end_of s ≡ sizes (take i (loaded_objects w)) = made_end s addresses (take i (loaded_objects w)) made in
      let within = loaded_fit w sound.fits in
      omega (arith, size_within (loaded_objects w) i o at)

  -- there are few objects before it
  pub few : length addresses < 1048576
  few =
      let counted : length addresses ≡ length (take i (loaded_objects w)) = made.table.counted in
      let filled : end_of s ≡ sizes (take i (loaded_objects w)) = made_end s addresses (take i (loaded_objects w)) made in
      let limit : w.cells ≤ 1048576 = sound.cells in
      omega (arith, few_objects (take i (loaded_objects w)), room)

  -- namely these
  pub counted : length addresses ≡ i
  counted = made.table.counted ∙ length-take-le i (loaded_objects w) (let l = slice_get_within (loaded_objects w) i o at in omega arith)

  pub next : take (i + 1) (loaded_objects w) ≡ take i (loaded_objects w) ++ o ∷ []
  next = take_next (loaded_objects w) i o at
