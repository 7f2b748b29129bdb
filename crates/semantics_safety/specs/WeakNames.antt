-- Which statics of a unit are weak global references, and what that says of names and of what statics hold.
use Rattle.std.specs.Prelude.{◌≡◌, ℕ, Bool, true, false, List, map, Some}
use Rattle.base.specs.Bytes.{Identifier, lookup}
use Rattle.syntax.specs.Parts.{statics_of}
use Rattle.syntax.specs.Tree.{Static, SourceUnit}
use Rattle.type_rules.specs.declared.ty.ExprType.{ExprType}
use Rattle.type_rules.specs.declared.ty.ExprType.TheVariants.{Global, Weak}
use Rattle.type_rules.specs.ExprTypes.{Scope, is_weak, type_in}
use Rattle.type_rules.specs.TypeRules.{static_type}
use Rattle.semantics.specs.Variable.{Weakly, Statics}

-- of each name whether it is a weak static's
abbrev pub WeakNames : Type 0
WeakNames = Identifier → Bool

-- statics with their types
abbrev pub static_types : List Static → Scope
static_types statics = map {B = Identifier × ExprType} (λ g. (g.name, static_type g.type)) statics

-- those of a unit
abbrev pub weak_names : SourceUnit → WeakNames
weak_names unit x = is_weak (type_in (static_types (statics_of unit)) x)

-- a static of this type is weak, or it isn't
abbrev pub IsOfKind : (weak : Bool) → ExprType → Type 0
IsOfKind weak Global = weak ≡ false
IsOfKind weak Weak = weak ≡ true
IsOfKind weak s = Unit {0}

-- each known name that is a static's is one of such a static
abbrev pub AreOfKind : WeakNames → Scope → Type 0
AreOfKind weak scope = (x : Identifier) (s : ExprType) → type_in scope x ≡ Some s → IsOfKind (weak x) s

-- only weak statics hold weak references
abbrev pub HoldWeakly : WeakNames → Statics → Type 0
HoldWeakly weak ss = (x : Identifier) (n : ℕ) → lookup x ss ≡ Some (Weakly n) → weak x ≡ true
