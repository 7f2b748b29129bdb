-- Names that are declared once, as the numbers of names want it: no reference or buffer has the name of one that is in scope.
use Rattle.std.specs.Prelude.{◌≡◌, false, List, [], ◌∷◌, ◌++◌, map, bytes_eq}
use Rattle.std.specs.List.{AllByRecursion, IsDistinct, list_any}
use Rattle.base.specs.Bytes.{Identifier}
use Rattle.syntax.specs.declared.declared_type.VariableType.TheVariants.{Reference as ReferenceVariable}
use Rattle.syntax.specs.declared.declared_type.DeclaredType.{DeclaredType}
use Rattle.syntax.specs.declared.declared_type.DeclaredType.TheVariants.{Simple}
use Rattle.syntax.specs.Tree.{PlainStmt, Declare, Stmt, Plain, If, While, Else, NoElse, ElseBlock, Block, End, Next, Function, Item, StaticItem, FunctionItem}
use Rattle.region_rules.specs.RegionStates.{state_at_entry}
use Rattle.region_states.specs.StatesInMemory.{names_of}

-- the name of a variable of this type, where it is a reference or a buffer
abbrev pub tracked_name : DeclaredType → Identifier → List Identifier
tracked_name (Simple (ReferenceVariable t)) x = x ∷ []
tracked_name (Simple t) x = []
tracked_name t x = x ∷ []

-- the name of the reference or buffer that a plain statement declares
abbrev pub plain_names : PlainStmt → List Identifier
plain_names (Declare t x r) = tracked_name t x
plain_names p = []

-- the same of a statement itself
abbrev pub own_names : Stmt → List Identifier
own_names (Plain line p) = plain_names p
own_names s = []

-- none of these names is one of those
abbrev pub AreNew : List Identifier → List Identifier → Type 0
AreNew names own = AllByRecursion (λ x. list_any (bytes_eq x) names ≡ false) own

abbrev mutual
  -- a statement declares none of these names, nor one of its own twice
  pub DeclaresNew : List Identifier → Stmt → Type 0
  DeclaresNew names (If line test then' else') = DeclareNew names then' × ElseDeclaresNew names else'
  DeclaresNew names (While line test body) = DeclareNew names body
  DeclaresNew names s = AreNew names (own_names s)

  -- the same of the second block of an `if`
  pub ElseDeclaresNew : List Identifier → Else → Type 0
  ElseDeclaresNew names NoElse = Unit {0}
  ElseDeclaresNew names (ElseBlock b) = DeclareNew names b

  -- the same of the rest of a block
  pub DeclareNew : List Identifier → Block → Type 0
  DeclareNew names (End line) = Unit {0}
  DeclareNew names (Next s rest) = DeclaresNew names s × DeclareNew (names ++ own_names s) rest

-- a function's names differ
abbrev pub DeclaresOnce : Function → Type 0
DeclaresOnce f = IsDistinct bytes_eq (map (λ v. v.0) (state_at_entry f).variables) × DeclareNew (names_of (state_at_entry f)) f.body

-- the same of an item
abbrev pub ItemOnce : Item → Type 0
ItemOnce (StaticItem s) = Unit {0}
ItemOnce (FunctionItem f) = DeclaresOnce f
