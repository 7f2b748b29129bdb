-- Which objects are of the kind of a parameter, by their classes.
use Rattle.std.specs.Prelude.{ℕ, Bool, false, not, ◌==◌}
use Rattle.class_rules.specs.BuiltIns.{class_class, string_class, number_array}
use Rattle.class_rules.specs.Class.{Classes, class_kind, is_plain, is_object_array}
use Rattle.jni.specs.declared.kinds.ParameterKind.{ParameterKind}
use Rattle.jni.specs.declared.kinds.ParameterKind.TheVariants.{ClassObject, AnyArray, ObjectArray, StringObject, NumberArray}

-- an object of this class is of another kind than the parameter
abbrev pub class_misfits : Classes → ParameterKind → (class : ℕ) → Bool
class_misfits classes ClassObject class = not (class == class_class)
class_misfits classes (NumberArray T) class = not (class == number_array T)
class_misfits classes AnyArray class = is_plain (class_kind classes class)
class_misfits classes ObjectArray class = not (is_object_array (class_kind classes class))
class_misfits classes StringObject class = not (class == string_class)
class_misfits classes p class = false
