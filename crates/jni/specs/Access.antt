-- How a buffer comes to an array's elements or a string's units.
use Rattle.std.specs.Prelude.{Bool, true, false}
use Rattle.base.specs.Element.{same_element}
use Rattle.jni.specs.declared.access.Access.{Access}
use Rattle.jni.specs.declared.access.Access.TheVariants.{ElementsCopy, ArrayView, CharsCopy, CharsView}

-- whether a buffer is a view of the object itself
abbrev pub is_critical : Access → Bool
is_critical (ElementsCopy t) = false
is_critical ArrayView = true
is_critical CharsCopy = false
is_critical CharsView = true

-- whether an access is the other
abbrev pub same_access : Access → Access → Bool
same_access (ElementsCopy a) (ElementsCopy b) = same_element a b
same_access ArrayView ArrayView = true
same_access CharsCopy CharsCopy = true
same_access CharsView CharsView = true
same_access a b = false
