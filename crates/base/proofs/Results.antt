-- What may have failed.
use Rattle.std.proofs.Common.{◌≡◌, false, Result, Ok, Err}
use Rattle.std.specs.Prelude.{OnOk, is_err}

-- what holds on success, where there was no failure
pub on_ok : {A E : Type 0} (r : Result A E) (P : Type 0) → OnOk r P → is_err r ≡ false → P
on_ok (Ok x) P p h = p
on_ok (Err e) P p h = absurd (cc)
