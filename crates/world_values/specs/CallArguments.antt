-- What calls are given.
use Rattle.std.specs.Prelude.{ℕ, Bool, true, ◌&&◌, nat_lt, nat_le, Some, None}
use Rattle.std.specs.List.{list_all}
use Rattle.base.specs.declared.element.ElementType.TheVariants.{Int as JInt}
use Rattle.semantics.specs.Object.{ObjectValue, Number, Refers}
use Rattle.semantics.specs.World.{Invocation}
use Rattle.world_values.specs.WorldRules.{is_in_range}

-- a number in the range of jint, NULL, or one of this number of objects, counted from 1
abbrev pub is_argument : (made : ℕ) → ObjectValue → Bool
is_argument made (Number z) = is_in_range JInt z
is_argument made (Refers None) = true
is_argument made (Refers (Some n)) = nat_lt 0 n && nat_le n made

-- each that a call is given
abbrev pub are_arguments : (made : ℕ) → Invocation → Bool
are_arguments made call = list_all (is_argument made) call.arguments
