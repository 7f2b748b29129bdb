-- The values of objects and release modes as they are held in memory, and the names of objects there.
use Rattle.std.specs.Prelude.{ℕ, ◌<◌, ◌≤◌, List, map, Option}
use Rattle.std.specs.Option.{option_map}
use Rattle.semantics.specs.declared.object_id.ObjectId.{ObjectId}
use Rattle.semantics.specs.declared.object_value.ObjectValue.{ObjectValue as InMemory}
use Rattle.semantics.specs.declared.object_value.ObjectValue.TheVariants as held
use Rattle.semantics.specs.Object.{ObjectValue, Number, Refers}

-- the name of an object, where there is one
abbrev pub name_of : Option ObjectId → Option ℕ
name_of object = option_map (λ o. o.number) object

-- the names of objects
abbrev pub names_of : List ObjectId → List ℕ
names_of objects = map (λ o. o.number) objects

abbrev pub object_value_view : InMemory → ObjectValue
object_value_view (held.Number z) = Number z
object_value_view (held.Reference r) = Refers (name_of r)

-- the name of one of this number of objects
abbrev pub IsWithin : (count : ℕ) → ℕ → Type 0
IsWithin count n = (0 < n) × (n ≤ count)
