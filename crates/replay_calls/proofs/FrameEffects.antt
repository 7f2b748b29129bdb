-- Frames that are made, or refused, make no object.
use Rattle.std.proofs.Common.{◌≡◌, Bool, true, false, List, [], refl}
use Rattle.std.specs.Prelude.{pos, nat_le, if◌then◌else◌}
use Rattle.class_rules.specs.Class.{Classes}
use Rattle.semantics.specs.CallEffects.{ScalarResult, Leaves, frames_effect, refuses_frames}
use Rattle.semantics.specs.CallStep.{makes_objects}
use Rattle.semantics.specs.Thread.{Frame, Shared, Thread, capacities}
use Rattle.semantics.specs.declared.value.Value.TheVariants.{Int}

pub make_none : (classes : Classes) (s : Shared) (t : Thread) (fs : List Frame) → makes_objects (frames_effect classes s t fs) ≡ false
make_none classes s t fs = by_test (nat_le (capacities fs) 1024)
  where
    by_test : (b : Bool) → makes_objects (if b then Leaves [] s (record t { frames = fs }) (ScalarResult (Int (pos 0))) else refuses_frames classes s t) ≡ false
    by_test true = refl
    by_test false = refl
