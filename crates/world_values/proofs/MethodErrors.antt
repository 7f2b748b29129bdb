-- What is known of java/lang/NoSuchMethodError where it is there.
use Rattle.std.proofs.Common.{◌≤◌, length, arith}
use Rattle.std.proofs.lemmas.Option.{slice_get_within}
use Rattle.class_rules.specs.BuiltIns.{no_such_method_error}
use Rattle.class_rules.specs.Class.{Classes}
use Rattle.class_rules.specs.Grown.{HasMethodError}

-- its number is one of the table's
pub method_error_within : (classes : Classes) → HasMethodError classes → no_such_method_error ≤ length classes
method_error_within classes h = omega (arith, slice_get_within classes 42 h.class h.there)
