use Rattle.std.proofs.Common.{refl}
use Rattle.jnirun.specs.ServeEach.{is_passed}
use Rattle.jnirun.proofs.checks.pass_one.Goals as goal

pub returns-in-Ok : goal.returns-in-Ok
returns-in-Ok g c = λ program passes.
    is_passed passes (record { appended = rw c.as_bytes.ensures.value at c.in-Ok.ensures.text; none_waits = c.in-Ok.ensures.none_waits }) refl
