-- How a class table grows by a class or a field, and which additions are refused.
use Rattle.std.specs.Prelude.{ℕ, ◌+◌, Bool, true, false, not, ◌==◌, List, [], ◌∷◌, ◌++◌, length, map, Option, Some, None, nat_lt, if◌then◌else◌, is_none, is_some, codes}
use Rattle.std.specs.Option.{option_map_or}
use Rattle.std.specs.List.{list_any, enumerate_from}
use Rattle.std.specs.Str.{bytes_eq}
use Rattle.base.specs.Limits.{most_classes, most_fields}
use Rattle.base.specs.Bytes.{Identifier}
use Rattle.base.specs.Options.{some_passes}
use Rattle.class_rules.specs.declared.rule.ClassRule.{ClassRule}
use Rattle.class_rules.specs.declared.rule.ClassRule.TheVariants.{NameTaken, BadSuperclass, BadSignature, TooMany}
use Rattle.class_rules.specs.Class.{Field, Plain, Class, Classes, class_at, class_named}
use Rattle.class_rules.specs.BuiltIns.{incompatible_class_change_error, object_array_class, has_own_making}
use Rattle.class_rules.specs.Fields.{type_of_signature}

-- the number of the fault
abbrev pub class_rule_number : ClassRule → ℕ
class_rule_number NameTaken = 61
class_rule_number BadSuperclass = 62
class_rule_number BadSignature = 63
class_rule_number TooMany = 64

-- ---- classes

-- whether a new class breaks a rule
abbrev pub class_breaks : ClassRule → Classes → (name superclass : Identifier) → Bool
class_breaks NameTaken classes name superclass = is_some (class_named classes name)
class_breaks BadSuperclass classes name superclass = not (some_passes (λ c. not (has_own_making classes c)) (class_named classes superclass))
class_breaks TooMany classes name superclass = nat_lt most_classes (length classes + 2)
class_breaks rule classes name superclass = false

-- a class without fields
abbrev pub new_class : Identifier → Option ℕ → Class
new_class name superclass = record { name = name; superclass = superclass; kind = Plain; fields = []; statics = [] }

-- the table with one more class, and its array class after it
abbrev pub with_class : Classes → Class → Classes
with_class classes class = classes ++ class ∷ object_array_class (length classes + 1, class) ∷ []

-- ---- fields

-- the fields and statics that a class declares
abbrev pub declared_fields : Classes → Option ℕ → List Field
declared_fields classes None = []
declared_fields classes (Some c) = option_map_or (λ (d : Class). d.fields ++ d.statics) (class_at classes c) []

-- whether a new field or static of a class breaks a rule
abbrev pub field_breaks : ClassRule → Classes → Option ℕ → (name : Identifier) → (signature : List ℕ) → Bool
field_breaks NameTaken classes class name signature = list_any (λ (f : Field). bytes_eq f.name name) (declared_fields classes class)
field_breaks BadSignature classes class name signature = is_none (type_of_signature classes signature)
field_breaks TooMany classes class name signature = nat_lt most_fields (length (declared_fields classes class) + 1)
field_breaks rule classes class name signature = false

-- the table with the class of a number changed
abbrev pub with_changed_class : Classes → ℕ → (Class → Class) → Classes
with_changed_class classes c change = map (λ (d : ℕ × Class). if d.0 == c then change d.1 else d.1) (enumerate_from 1 classes)

-- the table with one more field in a class
abbrev pub with_field : Classes → ℕ → Field → Classes
with_field classes c field = with_changed_class classes c (λ d. record d { fields = d.fields ++ field ∷ [] })

-- the table with one more static in a class
abbrev pub with_static : Classes → ℕ → Field → Classes
with_static classes c field = with_changed_class classes c (λ d. record d { statics = d.statics ++ field ∷ [] })

-- ---- methods

-- the table with the classes 43 and 44 after the other built-in ones: java/lang/NoSuchMethodError and its array class
abbrev pub with_methods : Classes → Classes
with_methods classes = with_class classes (new_class (codes "java/lang/NoSuchMethodError") (Some incompatible_class_change_error))

-- how many built-in classes there are
abbrev pub built_in_count : (methods : Bool) → ℕ
built_in_count false = 42
built_in_count true = 44
