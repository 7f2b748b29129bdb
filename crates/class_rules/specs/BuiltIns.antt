-- The built-in classes.
use Rattle.std.specs.Prelude.{ℕ, Bool, not, ◌||◌, ◌==◌, [], ◌∷◌, ◌++◌, map, Some, None, codes}
use Rattle.std.specs.List.{enumerate_from}
use Rattle.base.specs.Bytes.{Identifier}
use Rattle.base.specs.declared.element.ElementType.{ElementType}
use Rattle.base.specs.declared.element.ElementType.TheVariants.{Int as JInt, Short as JShort, Byte as JByte, Char as JChar}
use Rattle.class_rules.specs.Class.{ReferenceField, ClassKind, Plain, ArrayOfNumbers, ArrayOfObjects, Class, Classes, class_kind, is_plain, array_name}

-- java/lang/Object
abbrev pub object_class : ℕ
object_class = 1

-- java/lang/Class
abbrev pub class_class : ℕ
class_class = 2

-- java/lang/String
abbrev pub string_class : ℕ
string_class = 3

-- java/lang/Throwable
abbrev pub throwable_class : ℕ
throwable_class = 4

-- java/lang/IncompatibleClassChangeError
abbrev pub incompatible_class_change_error : ℕ
incompatible_class_change_error = 7

-- java/lang/NoSuchFieldError
abbrev pub no_such_field_error : ℕ
no_such_field_error = 8

-- java/lang/NoClassDefFoundError
abbrev pub no_class_def_found_error : ℕ
no_class_def_found_error = 9

-- java/lang/OutOfMemoryError
abbrev pub out_of_memory_error : ℕ
out_of_memory_error = 11

-- java/lang/ArrayIndexOutOfBoundsException
abbrev pub array_index_out_of_bounds : ℕ
array_index_out_of_bounds = 15

-- java/lang/StringIndexOutOfBoundsException
abbrev pub string_index_out_of_bounds : ℕ
string_index_out_of_bounds = 16

-- java/lang/ArrayStoreException
abbrev pub array_store_exception : ℕ
array_store_exception = 17

-- java/lang/NegativeArraySizeException
abbrev pub negative_array_size : ℕ
negative_array_size = 18

-- java/lang/IllegalMonitorStateException
abbrev pub illegal_monitor_state : ℕ
illegal_monitor_state = 19

-- java/lang/NoSuchMethodError, in a world of methods alone
abbrev pub no_such_method_error : ℕ
no_such_method_error = 43

-- a class of java/lang without fields
abbrev pub lang_class : Identifier → ℕ → Class
lang_class name superclass = record { name = codes "java/lang/" ++ name; superclass = Some superclass; kind = Plain; fields = []; statics = [] }

-- java/lang/Object, which has no superclass
abbrev pub root_class : Class
root_class = record { name = codes "java/lang/Object"; superclass = None; kind = Plain; fields = []; statics = [] }

-- java/lang/Throwable, whose one field is its message
abbrev pub throwable : Class
throwable = record (lang_class (codes "Throwable") object_class) { fields = (record { name = codes "message"; type = ReferenceField string_class }) ∷ [] }

-- the classes 1 to 19
abbrev pub lang_classes : Classes
lang_classes =
    root_class
    ∷ lang_class (codes "Class") 1
    ∷ lang_class (codes "String") 1
    ∷ throwable
    ∷ lang_class (codes "Error") 4
    ∷ lang_class (codes "LinkageError") 5
    ∷ lang_class (codes "IncompatibleClassChangeError") 6
    ∷ lang_class (codes "NoSuchFieldError") 7
    ∷ lang_class (codes "NoClassDefFoundError") 6
    ∷ lang_class (codes "VirtualMachineError") 5
    ∷ lang_class (codes "OutOfMemoryError") 10
    ∷ lang_class (codes "Exception") 4
    ∷ lang_class (codes "RuntimeException") 12
    ∷ lang_class (codes "IndexOutOfBoundsException") 13
    ∷ lang_class (codes "ArrayIndexOutOfBoundsException") 14
    ∷ lang_class (codes "StringIndexOutOfBoundsException") 14
    ∷ lang_class (codes "ArrayStoreException") 13
    ∷ lang_class (codes "NegativeArraySizeException") 13
    ∷ lang_class (codes "IllegalMonitorStateException") 13
    ∷ []

-- an array class
abbrev pub array_class : Identifier → ClassKind → Class
array_class name kind = record { name = name; superclass = Some object_class; kind = kind; fields = []; statics = [] }

-- the class of arrays whose elements are of this class
abbrev pub object_array_class : ℕ × Class → Class
object_array_class (element, class) = array_class (array_name class.name) (ArrayOfObjects element)

-- the classes 20 to 23
abbrev pub number_array_classes : Classes
number_array_classes =
    array_class (codes "[B") (ArrayOfNumbers JByte)
    ∷ array_class (codes "[C") (ArrayOfNumbers JChar)
    ∷ array_class (codes "[S") (ArrayOfNumbers JShort)
    ∷ array_class (codes "[I") (ArrayOfNumbers JInt)
    ∷ []

-- the class of arrays of such numbers
abbrev pub number_array : ElementType → ℕ
number_array JByte = 20
number_array JChar = 21
number_array JShort = 22
number_array JInt = 23

-- the classes 1 to 42
unfoldable pub built_ins : Classes
built_ins = lang_classes ++ number_array_classes ++ map object_array_class (enumerate_from 1 lang_classes)

-- arrays, strings and class objects are made by functions of their own, and their classes have no subclasses
abbrev pub has_own_making : Classes → ℕ → Bool
has_own_making classes c = not (is_plain (class_kind classes c)) || c == string_class || c == class_class
