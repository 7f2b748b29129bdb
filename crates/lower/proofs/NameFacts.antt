-- A name that is known is taken, so none is declared twice.
use Rattle.std.proofs.Common.{◌≡◌, false, List, [], ◌∷◌, ◌++◌, Some, None, ap, ◌∙◌, if◌then◌else◌}
use Rattle.std.specs.Str.{bytes_eq}
use Rattle.std.proofs.lemmas.Bool.{or_parts}
use Rattle.base.specs.Bytes.{Identifier, lookup}
use Rattle.syntax.specs.Parts.{statements_within, names_declared}
use Rattle.syntax.specs.Tree as tree
use Rattle.syntax.specs.Tree.{Stmt}
use Rattle.type_rules.specs.declared.ty.ExprType.TheVariants.{Array}
use Rattle.type_rules.specs.TypeRules.{declared_type, has_name}
use Rattle.type_rules.proofs.NameLists.{both_none}
use Rattle.code_meaning.specs.Layout.{Slot, Known, Layout, new_slot, layout_after}

-- a name that isn't taken isn't known
abbrev pub AreTaken : List Identifier → Known → Type 0
AreTaken taken known = (x : Identifier) → has_name taken x ≡ false → lookup x known ≡ None

pub taken_first : (names : List Identifier) (known : Known) (x : Identifier) (s : Slot) → AreTaken names known → AreTaken (x ∷ names) ((x, s) ∷ known)
taken_first names known x s h y none =
    ap (λ b. if b then Some s else lookup y known) (or_parts (bytes_eq y x) (has_name names y) none).0 ∙ h y (or_parts (bytes_eq y x) (has_name names y) none).1

pub taken_more : (names more : List Identifier) (known : Known) → AreTaken names known → AreTaken (names ++ more) known
taken_more names more known h x none = h x (both_none names more x none).0

taken_declared : (names : List Identifier) (known : Known) (x : Identifier) (s : Slot) → AreTaken names known → AreTaken (names ++ x ∷ []) ((x, s) ∷ known)
taken_declared names known x s h y none =
    let both = both_none names (x ∷ []) y none in
    ap (λ b. if b then Some s else lookup y known) (or_parts (bytes_eq y x) false both.1).0 ∙ h y both.0

pub taken_after : (s : Stmt) (l : Layout) (taken : List Identifier) → AreTaken taken l.known → AreTaken (taken ++ names_declared (statements_within s)) (layout_after l s).known
taken_after (tree.Plain line (tree.Declare t x r)) l taken h = taken_declared taken l.known x (new_slot (declared_type t) l) h
taken_after (tree.Plain line (tree.DeclareArray t x size)) l taken h = taken_declared taken l.known x (new_slot (Array t size) l) h
taken_after s l taken h = taken_more taken (names_declared (statements_within s)) l.known h
