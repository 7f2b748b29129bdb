-- The classes of a table that begins with a list of plain classes.
use Rattle.std.specs.Prelude.{ℕ, Bool, ◌&&◌, List, [], ◌++◌, map, length, nat_lt, ◌+◌}
use Rattle.std.specs.List.{list_all, enumerate_from}
use Rattle.std.specs.Borrow.{Bor}
use Rattle.base.specs.Limits.{most_classes}
use Rattle.base.specs.declared.element.ElementType.{ElementType}
use Rattle.classes.specs.declared.built_ins.BuiltIn.{BuiltIn}
use Rattle.classes.specs.declared.built_ins.BuiltInField.{BuiltInField}
use Rattle.class_rules.specs.ClassIds.{number_of}
use Rattle.class_rules.specs.Class.{Field, Plain, ArrayOfNumbers, Class, Classes}
use Rattle.class_rules.specs.BuiltIns.{array_class, number_array_classes, object_array_class}
use Rattle.class_rules.specs.Mangling.{is_class_name}
use Rattle.classes.specs.Tables.{names_differ, has_few_fields, declares_once}
use Rattle.classes.specs.Views.{field_type_view}

abbrev pub listed_field : BuiltInField → Field
listed_field f = record { name = f.name.now; type = field_type_view f.field_type }

abbrev pub listed_class : BuiltIn → Class
listed_class b = record { name = b.name.now; superclass = number_of b.superclass; kind = Plain; fields = map listed_field b.fields.now; statics = [] }

-- a class of arrays of numbers, by its name and the type of the numbers
abbrev pub listed_number_array : Bor (List ℕ) × ElementType → Class
listed_number_array (name, element) = array_class name.now (ArrayOfNumbers element)

-- the array classes of these, of which the first has this number
abbrev pub array_classes : Classes → Classes
array_classes plain = map object_array_class (enumerate_from 1 plain)

-- the classes of the list, the classes of arrays of numbers, and then those of arrays of each of the list
abbrev pub listed_classes : List BuiltIn → Classes
listed_classes list = map listed_class list ++ number_array_classes ++ array_classes (map listed_class list)

-- a list of which a table can be made: it has names of classes, each name once, of classes and of the fields of each, and no more
-- classes and fields than there may be
abbrev pub is_class_list : List BuiltIn → Bool
is_class_list list =
    list_all (λ b. is_class_name b.name.now) list
    && names_differ (listed_classes list)
    && nat_lt (length (listed_classes list)) (most_classes + 1)
    && list_all has_few_fields (listed_classes list)
    && list_all declares_once (listed_classes list)
