-- Tests.
use Rattle.std.proofs.Common.{◌≡◌, Bool, true, false, refl, sym}

-- two tests that pass together are the same
pub same_truth : (s t : Bool) → (s ≡ true → t ≡ true) → (t ≡ true → s ≡ true) → s ≡ t
same_truth true t there back = sym (there refl)
same_truth false true there back = back refl
same_truth false false there back = refl
