-- What holds of each table of classes in memory.
use Rattle.std.specs.Prelude.{◌≡◌, ◌≤◌, Bool, true, not, ◌&&◌, ◌||◌, ◌==◌, List, [], ◌∷◌, length, nat_lt, ◌+◌}
use Rattle.std.specs.List.{list_any, list_all}
use Rattle.std.specs.Str.{bytes_eq}
use Rattle.base.specs.Limits.{most_classes, most_fields}
use Rattle.base.specs.Bytes.{Identifier, first_passes}
use Rattle.class_rules.specs.Class.{Field, Class, Classes, is_plain, array_name}

-- a class has the name
abbrev pub HasName : Classes → Identifier → Type 0
HasName classes name = list_any (λ (c : Class). bytes_eq c.name name) classes ≡ true

-- where there is the class of arrays of objects of a class, there is that class
abbrev pub ArraysHaveElements : Classes → Type 0
ArraysHaveElements classes = (name : Identifier) → HasName classes (array_name name) → HasName classes name

-- no two have one name
abbrev pub names_differ : Classes → Bool
names_differ [] = true
names_differ (c ∷ classes) = not (list_any (λ (d : Class). bytes_eq d.name c.name) classes) && names_differ classes

-- a class of arrays has a name that begins with a bracket
abbrev pub is_named_by_kind : Class → Bool
is_named_by_kind c = is_plain c.kind || first_passes (λ b. b == 91) c.name

-- a class declares at most 64 fields
abbrev pub has_few_fields : Class → Bool
has_few_fields c = nat_lt (length c.fields) (most_fields + 1)

-- no two of the fields have one name
abbrev pub field_names_differ : List Field → Bool
field_names_differ [] = true
field_names_differ (f ∷ fields) = not (list_any (λ (g : Field). bytes_eq g.name f.name) fields) && field_names_differ fields

-- a class declares no two fields of one name, and no two statics
abbrev pub declares_once : Class → Bool
declares_once c = field_names_differ c.fields && field_names_differ c.statics

pub record IsTable (classes : Classes) : Type 0 where
  pub elements : ArraysHaveElements classes
  pub differ : names_differ classes ≡ true
  pub named : list_all is_named_by_kind classes ≡ true
  pub few : length classes ≤ most_classes
  pub few_fields : list_all has_few_fields classes ≡ true
  pub declared_once : list_all declares_once classes ≡ true
