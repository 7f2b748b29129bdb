-- How many arguments an accepted call has.
use Rattle.std.proofs.Common.{◌≡◌, ℕ, ◌≤◌, true, length, arith}
use Rattle.jni.specs.declared.access.Access.TheVariants.{ArrayView, CharsCopy, CharsView, ElementsCopy}
use Rattle.jni.specs.declared.function.JniFunction.{JniFunction}
use Rattle.jni.specs.declared.function.JniFunction.TheVariants.{FindClass, ReleaseBuffer}
use Rattle.jni.specs.JniFunction.{prototype, parameters_for, takes_count}
use Rattle.type_rules.proofs.CallParameters.{parameters_count, count_is_few}

few_parameters : (f : JniFunction) → length (prototype f).parameters ≤ 4
few_parameters FindClass = omega arith
few_parameters (ReleaseBuffer ArrayView) = omega arith
few_parameters (ReleaseBuffer CharsCopy) = omega arith
few_parameters (ReleaseBuffer CharsView) = omega arith
few_parameters (ReleaseBuffer (ElementsCopy t)) = omega arith
few_parameters f = omega arith

-- and no call has many of them
pub few_arguments : (f : JniFunction) (n : ℕ) → takes_count f n ≡ true → length (parameters_for f n) ≤ 20
few_arguments f n h = omega (arith, count_is_few f n h, parameters_count f n h, few_parameters f)
