-- How many slices a marking has had, while it goes on.
use Rattle.std.proofs.Common.{◌≡◌, ℕ, ◌*◌, ◌+◌, ◌/◌, suc, Option, Some, None, refl, sym, ap, subst, arith}
use Rattle.std.specs.Prelude.{IfSome}
use Rattle.std.specs.Option.{option_map_or}
use Rattle.heap.specs.Marks.{Marks}
use Rattle.heap.specs.Marking.{MarkingStays}
use Rattle.compact.specs.Slices.{count_of, slice_size}
use Rattle.machine.specs.Run.{slices_of}

-- as many objects are marked as its slices mark
abbrev pub IsSlicedEvenly : Option Marks → Type 0
IsSlicedEvenly marking = IfSome marking (λ m. m.marked ≡ slice_size * (m.marked / slice_size))

-- a marking that goes on has had as many
pub slices_stay : (o p : Option Marks) → MarkingStays o p → slices_of p ≡ slices_of o
slices_stay None None h = refl
slices_stay None (Some n) h = absurd h
slices_stay (Some m) None h = absurd h
slices_stay (Some m) (Some n) h = ap (λ (k : ℕ). Some (k / slice_size)) h.0

pub evenly_stays : (o p : Option Marks) → MarkingStays o p → IsSlicedEvenly o → IsSlicedEvenly p
evenly_stays None None h e = tt
evenly_stays None (Some n) h e = absurd h
evenly_stays (Some m) None h e = absurd h
evenly_stays (Some m) (Some n) h e = subst (λ (k : ℕ). k ≡ slice_size * (k / slice_size)) (sym h.0) e

-- a slice more
pub evenly_more : (o : Option Marks) (m : Marks) → m.marked ≡ count_of o + slice_size → IsSlicedEvenly o → IsSlicedEvenly (Some m)
evenly_more None m more e = subst (λ (k : ℕ). k ≡ slice_size * (k / slice_size)) (sym more) refl
evenly_more (Some n) m more e =
    let all : m.marked ≡ 64 * (n.marked / 64) + 64 = omega (arith, more, e) in
    omega (arith, all)

pub one_more_slice : (o : Option Marks) (m : Marks) → m.marked ≡ count_of o + slice_size → IsSlicedEvenly o → slices_of (Some m) ≡ Some (suc (option_map_or (λ n. n) (slices_of o) 0))
one_more_slice None m more e = ap (λ (k : ℕ). Some (k / slice_size)) more
one_more_slice (Some n) m more e =
    let one : m.marked / 64 ≡ suc (n.marked / 64) = omega (arith, more, e) in
    ap (λ (k : ℕ). Some k) one

-- what its slices have marked
pub count_is : (o : Option Marks) → IsSlicedEvenly o → slice_size * option_map_or (λ n. n) (slices_of o) 0 ≡ count_of o
count_is None e = refl
count_is (Some m) e = sym e
