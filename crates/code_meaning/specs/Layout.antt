-- Which slots the names of a function have.
use Rattle.std.specs.Prelude.{ℕ, ◌+◌, List, [], ◌∷◌, ◌++◌, length}
use Rattle.base.specs.Bytes.{Identifier, ByName}
use Rattle.syntax.specs.Tree as tree
use Rattle.syntax.specs.declared.declared_type.ParameterType.{ParameterType}
use Rattle.syntax.specs.declared.declared_type.ParameterType.TheVariants.{Jint as IntParameter, Reference as ReferenceParameter}
use Rattle.syntax.specs.Tree.{PlainStmt, Stmt, Else, Block, End, Next, Parameter, Function, Static}
use Rattle.type_rules.specs.declared.ty.ExprType.{ExprType}
use Rattle.type_rules.specs.declared.ty.ExprType.TheVariants.{Word, Jint, Flag, Ref, Global, Weak, FieldId, MethodId, Buffer, Array}
use Rattle.type_rules.specs.TypeRules.{declared_type, static_type}
use Rattle.code.specs.declared.slots.SlotCounts.{SlotCounts}

-- ---- slots

-- a name's type, and the place of its slot among those of its kind, where field IDs and method IDs are one; of an array that of the
-- first element
pub record Slot : Type 0 where
  pub ty : ExprType
  pub index : ℕ

-- the names that are known, the latest first
abbrev pub Known : Type 0
Known = ByName Slot

-- the names that are known, and how many slots of each kind are taken so far
pub record Layout : Type 0 where
  pub known : Known
  pub slots : SlotCounts

-- how many number slots a variable of a type takes
abbrev pub width : ExprType → ℕ
width Word = 1
width Jint = 1
width Flag = 1
width (Array t size) = size
width s = 0

-- the first slot of its kind that isn't taken
abbrev pub next_index : ExprType → SlotCounts → ℕ
next_index Ref slots = slots.references
next_index Global slots = slots.statics
next_index Weak slots = slots.statics
next_index FieldId slots = slots.field_ids
next_index MethodId slots = slots.field_ids
next_index (Buffer t writable) slots = slots.buffers
next_index s slots = slots.numbers

-- the slots with those of one variable more
abbrev pub slots_after : ExprType → SlotCounts → SlotCounts
slots_after Ref slots = record slots { references = slots.references + 1 }
slots_after Global slots = record slots { statics = slots.statics + 1 }
slots_after Weak slots = record slots { statics = slots.statics + 1 }
slots_after FieldId slots = record slots { field_ids = slots.field_ids + 1 }
slots_after MethodId slots = record slots { field_ids = slots.field_ids + 1 }
slots_after (Buffer t writable) slots = record slots { buffers = slots.buffers + 1 }
slots_after s slots = record slots { numbers = slots.numbers + width s }

-- the slot of a name that is declared next
abbrev pub new_slot : ExprType → Layout → Slot
new_slot s l = record { ty = s; index = next_index s l.slots }

-- one name more
abbrev pub with_name : Identifier → ExprType → Layout → Layout
with_name x s l = record { known = (x, new_slot s l) ∷ l.known; slots = slots_after s l.slots }

-- ---- the entry

-- the statics so far, with one more
abbrev pub with_static : Static → Known → Known
with_static s statics = (s.name, record { ty = static_type s.type; index = length statics }) ∷ statics

-- the slot of a parameter, where this number of slots is taken
abbrev pub parameter_slot : ParameterType → (numbers references : ℕ) → Slot
parameter_slot IntParameter n r = record { ty = Jint; index = n }
parameter_slot (ReferenceParameter type) n r = record { ty = Ref; index = r }

-- how many number slots are taken after a parameter
abbrev pub numbers_after : ParameterType → ℕ → ℕ
numbers_after IntParameter n = n + 1
numbers_after (ReferenceParameter type) n = n

-- how many slots of references are taken after a parameter
abbrev pub references_after : ParameterType → ℕ → ℕ
references_after IntParameter r = r
references_after (ReferenceParameter type) r = r + 1

-- the slots of parameters, each kind in their order
abbrev pub parameter_slots : List Parameter → (numbers references : ℕ) → Known
parameter_slots [] n r = []
parameter_slots (p ∷ rest) n r = (p.name, parameter_slot p.type n r) ∷ parameter_slots rest (numbers_after p.type n) (references_after p.type r)

-- how many number slots are taken after parameters
abbrev pub numbers_of : List Parameter → ℕ → ℕ
numbers_of [] n = n
numbers_of (p ∷ rest) n = numbers_of rest (numbers_after p.type n)

-- how many slots of references are taken after parameters
abbrev pub references_of : List Parameter → ℕ → ℕ
references_of [] r = r
references_of (p ∷ rest) r = references_of rest (references_after p.type r)

-- the class, which is the first reference, and the parameters
abbrev pub entry_names : Function → Known
entry_names f = (f.class_name, record { ty = Ref; index = 0 }) ∷ parameter_slots f.parameters 0 1

-- the slots at a function's first statement, after these statics
abbrev pub entry_layout : (statics : Known) → Function → Layout
entry_layout statics f = record {
  known = entry_names f ++ statics;
  slots = record { numbers = numbers_of f.parameters 0; references = references_of f.parameters 1; statics = length statics; field_ids = 0; buffers = 0 };
}

-- ---- after statements

-- after a block its names are forgotten; its slots stay taken
abbrev pub closed : (outer inner : Layout) → Layout
closed outer inner = record { known = outer.known; slots = inner.slots }

-- the slots after a plain statement
abbrev pub plain_layout : Layout → PlainStmt → Layout
plain_layout l (tree.Declare t x r) = with_name x (declared_type t) l
plain_layout l (tree.DeclareArray t x size) = with_name x (Array t size) l
plain_layout l p = l

abbrev mutual
  -- the slots after a statement
  pub layout_after : Layout → Stmt → Layout
  layout_after l (tree.Plain line p) = plain_layout l p
  layout_after l (tree.If line test then' else') = closed l (else_layout (closed l (block_layout l then')) else')
  layout_after l (tree.While line test body) = closed l (block_layout l body)
  layout_after l (tree.Return line e) = l

  -- the slots at the end of the second block of an `if`, where it has one
  pub else_layout : Layout → Else → Layout
  else_layout l tree.NoElse = l
  else_layout l (tree.ElseBlock b) = block_layout l b

  -- the slots at the end of a block
  pub block_layout : Layout → Block → Layout
  block_layout l (End line) = l
  block_layout l (Next s rest) = block_layout (layout_after l s) rest

-- the slots of a function
abbrev pub function_slots : (statics : Known) → Function → SlotCounts
function_slots statics f = (block_layout (entry_layout statics f) f.body).slots
