-- What all threads share, in memory.
use Rattle.std.specs.Prelude.{◌≡◌, ◌<◌, ◌^◌, ℕ, true, List, map, length, slice_get, Some}
use Rattle.semantics.specs.Heap.{number_in}
use Rattle.semantics.specs.Object.{Object, ObjectValue, Number}
use Rattle.replay_objects.specs.declared.store.Object.{Object as ObjectInMemory}
use Rattle.semantics.specs.Views.{object_value_view}

abbrev pub object_view : ObjectInMemory → Object
object_view o = record { class = o.class.number; values = map object_value_view o.values.items }

-- no object has more values than a `jint` can count
abbrev pub AreShort : List ObjectInMemory → Type 0
AreShort objects = (i : ℕ) (o : ObjectInMemory) → slice_get objects i ≡ Some o → length o.values.items < 2 ^ 31

-- a number, and 0 of a reference
abbrev pub as_number : ObjectValue → ObjectValue
as_number v = Number (number_in v)

-- an object is marked only where its values are numbers
abbrev pub IsMarked : ObjectInMemory → Type 0
IsMarked o = o.has_numbers ≡ true → map as_number (object_view o).values ≡ (object_view o).values

abbrev pub AreMarked : List ObjectInMemory → Type 0
AreMarked objects = (i : ℕ) (o : ObjectInMemory) → slice_get objects i ≡ Some o → IsMarked o
