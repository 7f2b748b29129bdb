-- Tables that grew from the built-in classes, as those of all worlds did.
use Rattle.std.specs.Prelude.{◌≡◌, ℕ, ◌<◌, ◌≤◌, false, length, Some, codes}
use Rattle.base.specs.Bytes.{Identifier}
use Rattle.class_rules.specs.Class.{Field, Plain, Class, Classes, class_at, AssignableMeets}
use Rattle.class_rules.specs.BuiltIns.{built_ins, incompatible_class_change_error, no_such_method_error, has_own_making}
use Rattle.class_rules.specs.Additions.{new_class, with_class, with_field, with_static}

-- the built-in classes, and then at a time a class below one that may have subclasses, a field or a static
pub data IsGrown : Classes → Type 0 where
  BuiltIns : IsGrown built_ins
  WithClass : (classes : Classes) (name : Identifier) (superclass : ℕ) → IsGrown classes → 0 < superclass
      → superclass ≤ length classes → has_own_making classes superclass ≡ false
      → IsGrown (with_class classes (new_class name (Some superclass)))
  WithField : (classes : Classes) (c : ℕ) (field : Field) → IsGrown classes → IsGrown (with_field classes c field)
  WithStatic : (classes : Classes) (c : ℕ) (field : Field) → IsGrown classes → IsGrown (with_static classes c field)

-- on such a table `assignable` says what the relation says
abbrev pub AssignableIsTheRelation : Type 0
AssignableIsTheRelation = (classes : Classes) → IsGrown classes → AssignableMeets classes

-- java/lang/NoSuchMethodError is there, as it is in the worlds that allow methods
pub record HasMethodError (classes : Classes) : Type 0 where
  pub class : Class
  pub there : class_at classes no_such_method_error ≡ Some class
  pub name : class.name ≡ codes "java/lang/NoSuchMethodError"
  pub superclass : class.superclass ≡ Some incompatible_class_change_error
  pub kind : class.kind ≡ Plain
