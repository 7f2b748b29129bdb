-- Which functions are read: those whose blocks have room, and whose names are few enough.
use Rattle.std.proofs.Common.{◌+◌, ◌≤◌, List, [], ◌∷◌, length}
use Rattle.syntax.specs.Tree.{Function, Item, StaticItem, FunctionItem}
use Rattle.parse_statements.proofs.Forms.{IsBlock, names_in}

pub record IsFunction (f : Function) : Type 0 where
  pub body : IsBlock 31 f.body
  pub names : length f.parameters + names_in f.body ≤ 255

abbrev pub AreItems : List Item → Type 0
AreItems [] = Unit {0}
AreItems (StaticItem s ∷ items) = AreItems items
AreItems (FunctionItem f ∷ items) = IsFunction f × AreItems items
