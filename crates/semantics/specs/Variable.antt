-- What the variables of a call and the statics of a unit hold.
use Rattle.std.specs.Prelude.{ℕ, if◌then◌else◌, ℤ, List, [], ◌∷◌, length, Option, Some, None}
use Rattle.std.specs.Str.{bytes_eq}
use Rattle.base.specs.Bytes.{Identifier, ByName}
use Rattle.base.specs.declared.element.ElementType.{ElementType}
use Rattle.class_rules.specs.Fields.{FieldId}
use Rattle.semantics.specs.Method.{MethodId}
use Rattle.semantics.specs.Object.{Reference}
use Rattle.semantics.specs.declared.value.Value.{Value}

-- an element buffer: NULL, a copy of the elements of the array or string of this name, or a view of it
pub data Buffer : Type 0 where
  NoBuffer : Buffer
  Copy : (object : ℕ) → List ℤ → Buffer
  View : (object : ℕ) → Buffer

-- A local reference has its level, the number of frames at its declaration.
pub data Variable : Type 0 where
  Scalar : Value → Variable
  LocalRef : (level : ℕ) → Reference → Variable
  FieldHandle : Option FieldId → Variable
  MethodHandle : Option MethodId → Variable
  Elements : ElementType → Buffer → Variable
  LocalArray : ElementType → List ℤ → Variable

-- a file-scope reference: NULL, the name of an object, or deleted, which isn't NULL; a weak one has the name weakly, or was cleared
pub data StaticReference : Type 0 where
  Empty : StaticReference
  Live : (object : ℕ) → StaticReference
  Weakly : (object : ℕ) → StaticReference
  Cleared : StaticReference
  Deleted : StaticReference

-- the variables of a call
abbrev pub Variables : Type 0
Variables = ByName Variable

-- the statics of a unit
abbrev pub Statics : Type 0
Statics = ByName StaticReference

-- the values with another one at a name
abbrev pub assign : {A : Type 0} → Identifier → A → ByName A → ByName A
assign x v [] = (x, v) ∷ []
assign x v ((y, w) ∷ rest) = let further = assign x v rest in if bytes_eq x y then (x, v) ∷ rest else (y, w) ∷ further

-- the values with the one at a name changed, if it is there
abbrev pub change : {A : Type 0} → Identifier → (A → A) → ByName A → ByName A
change x f [] = []
change x f ((y, v) ∷ rest) = let further = change x f rest in if bytes_eq x y then (y, f v) ∷ rest else (y, v) ∷ further

-- what a reference argument is, where a local variable holds it
abbrev pub as_static : Reference → StaticReference
as_static None = Empty
as_static (Some n) = Live n

-- what a static holds that a weak global reference is put into
abbrev pub as_weak : Reference → StaticReference
as_weak None = Empty
as_weak (Some n) = Weakly n

-- what a reference argument is, where a static holds it: of a weak reference its object, and NULL where it was cleared
abbrev pub as_argument : StaticReference → StaticReference
as_argument Empty = Empty
as_argument (Live n) = Live n
as_argument (Weakly n) = Live n
as_argument Cleared = Empty
as_argument Deleted = Deleted

-- the object that it is, if it is one
abbrev pub as_reference : StaticReference → Reference
as_reference (Live n) = Some n
as_reference s = None

-- how many copied elements a variable holds
abbrev pub copied_length : Variable → ℕ
copied_length (Elements kind (Copy n zs)) = length zs
copied_length v = 0

-- the object that a variable shows
abbrev pub viewed : Variable → List ℕ
viewed (Elements kind (View n)) = n ∷ []
viewed v = []
