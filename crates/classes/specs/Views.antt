-- The classes that lie in memory, as classes of the definitions.
pub use Rattle.classes.specs.HeldFields.{field_type_view, field_view}
use Rattle.std.specs.Prelude.{ℕ, List, map}
use Rattle.std.specs.Global.{Vec}
use Rattle.classes.specs.declared.class.ClassKind.{ClassKind as KindInMemory}
use Rattle.classes.specs.declared.class.ClassKind.TheVariants as kind
use Rattle.classes.specs.declared.class.Entry.{Entry}
use Rattle.class_rules.specs.ClassIds.{number_of}
use Rattle.class_rules.specs.Class.{ClassKind, Plain, ArrayOfNumbers, ArrayOfObjects, Class, Classes}

abbrev pub kind_view : KindInMemory → ClassKind
kind_view kind.Plain = Plain
kind_view (kind.ArrayOfNumbers t) = ArrayOfNumbers t
kind_view (kind.ArrayOfObjects c) = ArrayOfObjects c.number

-- a class, by its name and what is kept of it
abbrev pub class_view : Vec ℕ × Entry → Class
class_view (name, e) = record { name = name.items; superclass = number_of e.superclass; kind = kind_view e.kind; fields = e.fields; statics = e.statics }

abbrev pub classes_view : List (Vec ℕ × Entry) → Classes
classes_view entries = map class_view entries
