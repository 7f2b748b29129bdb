-- How handles stand for field IDs and method IDs.
use Rattle.std.specs.Prelude.{◌≡◌, List, slice_get, Option, Some, None}
use Rattle.std.specs.List.{AllZip}
use Rattle.syntax.specs.Parts.{functions_of}
use Rattle.syntax.specs.Tree.{FunctionItem, SourceUnit}
use Rattle.class_rules.specs.Class.{Classes}
use Rattle.class_rules.specs.Fields.{FieldId}
use Rattle.classes.specs.declared.class.FieldHandle.{FieldHandle}
use Rattle.classes.specs.FieldViews.{field_of}
use Rattle.semantics.specs.Activation.{class_of_function}
use Rattle.semantics.specs.Method.{MethodId}
use Rattle.code_meaning.specs.Slots as source
use Rattle.code_meaning.specs.Slots.{OfField, OfMethod}
use Rattle.machine_scenes.specs.declared.handle.Handle.{Handle}
use Rattle.machine_scenes.specs.declared.handle.Handle.TheVariants as handle
use Rattle.machine_scenes.specs.declared.handle.MethodHandle.{MethodHandle}

-- the field ID that a slot holds; none for NULL, and for a method ID
abbrev pub field_held : Option Handle → Option FieldHandle
field_held (Some (handle.Field h)) = Some h
field_held h = None

-- the method ID that a slot holds; none for NULL, and for a field ID
abbrev pub method_held : Option Handle → Option MethodHandle
method_held (Some (handle.Method h)) = Some h
method_held h = None

-- a field ID is NULL or a handle of the field
abbrev pub FieldAgrees : Classes → Option FieldHandle → Option FieldId → Type 0
FieldAgrees classes None None = Unit {0}
FieldAgrees classes None (Some f) = ⊥
FieldAgrees classes (Some h) None = ⊥
FieldAgrees classes (Some h) (Some f) = field_of classes h ≡ Some f

-- a handle is of a method: of its class and its declarer, and its function has the handle's number among the unit's, and its item the
-- handle's place
pub record IsMethod (unit : SourceUnit) (classes : Classes) (h : MethodHandle) (m : MethodId) : Type 0 where
  pub class : h.class.number ≡ m.class
  pub declarer : class_of_function classes m.function ≡ Some h.declarer.number
  pub function : slice_get (functions_of unit) h.function ≡ Some m.function
  pub item : slice_get unit.items h.item ≡ Some (FunctionItem m.function)

-- a method ID is NULL or a handle of the method
abbrev pub MethodAgrees : SourceUnit → Classes → Option MethodHandle → Option MethodId → Type 0
MethodAgrees unit classes None None = Unit {0}
MethodAgrees unit classes None (Some m) = ⊥
MethodAgrees unit classes (Some h) None = ⊥
MethodAgrees unit classes (Some h) (Some m) = IsMethod unit classes h m

-- what a slot of both holds is NULL, or a handle of the field or the method
abbrev pub HandleAgrees : SourceUnit → Classes → Option Handle → Option source.Handle → Type 0
HandleAgrees unit classes None None = Unit {0}
HandleAgrees unit classes (Some (handle.Field h)) (Some (OfField f)) = field_of classes h ≡ Some f
HandleAgrees unit classes (Some (handle.Method h)) (Some (OfMethod m)) = IsMethod unit classes h m
HandleAgrees unit classes h f = ⊥

-- slot by slot, what field IDs and method IDs hold
abbrev pub HandlesAgree : SourceUnit → Classes → List (Option Handle) → List (Option source.Handle) → Type 0
HandlesAgree unit classes handles fields = AllZip (HandleAgrees unit classes) handles fields
