-- How threads have ended.
use Rattle.std.proofs.Common.{◌≡◌, true, refl}
use Rattle.semantics.specs.Step.{is_unfinished}
use Rattle.semantics.specs.declared.event.Ending.{Ending}
use Rattle.semantics.specs.declared.event.Ending.TheVariants.{Unfinished, Ended, Uncaught}

-- a thread that has not ended
pub unfinished : (e : Ending) → is_unfinished e ≡ true → e ≡ Unfinished
unfinished Unfinished h = refl
unfinished Ended h = absurd (cc)
unfinished (Uncaught class) h = absurd (cc)
