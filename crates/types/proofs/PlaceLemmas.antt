-- What is refused at places, one after the other.
use Rattle.std.proofs.Common.{◌≡◌, List, [], ◌∷◌, ◌++◌, refl, ap, ◌∙◌, flat_map}
use Rattle.std.proofs.lemmas.Grind.{flat_map-append}
use Rattle.base.specs.Bytes.{Identifier}
use Rattle.syntax.specs.Parts.{statements_within, names_declared}
use Rattle.syntax.specs.declared.unit.ResultType.{ResultType}
use Rattle.syntax.specs.Tree.{Stmt, Block, Next}
use Rattle.type_rules.specs.ExprTypes.{Scope}
use Rattle.type_rules.specs.TypeRules.{Place, places_inside, places_of, places_within, statement_place, with_declared}
use Rattle.types.specs.AllFaults.{told_at}
use Rattle.types.specs.Faults.{found}

pub found-none : found [] ≡ []
unfolding found
found-none = refl

pub found-append : (xs ys : List Place) → found (xs ++ ys) ≡ found xs ++ found ys
unfolding found
found-append xs ys = flat_map-append told_at xs ys

pub found-next : (p : Place) (ps : List Place) → found (p ∷ ps) ≡ told_at p ++ found ps
unfolding found
found-next p ps = refl

-- a statement before others
pub found-statement : (returns : ResultType) (known : Scope) (taken : List Identifier) (s : Stmt) (rest : Block)
    → found (places_of returns known taken (Next s rest)) ≡ (told_at (statement_place returns known taken s) ++ found (places_inside returns known taken s)) ++ found (places_of returns (with_declared known s) (taken ++ names_declared (statements_within s)) rest)
found-statement returns known taken s rest =
    found-append (places_within returns known taken s) _ ∙ ap (λ xs. xs ++ found (places_of returns (with_declared known s) (taken ++ names_declared (statements_within s)) rest)) (found-next _ _)

pub ruleset place_rules = (found-none, found-append)

pub found-is : (ps : List Place) → found ps ≡ flat_map told_at ps
unfolding found
found-is ps = refl
