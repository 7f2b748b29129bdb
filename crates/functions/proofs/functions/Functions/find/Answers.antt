use Rattle.std.proofs.Common.{List, subst, ◌≡◌, ◌∙◌, ap}
use Rattle.std.specs.Option.{option_map}
use Rattle.syntax.specs.declared.unit.Item.{Item}
use Rattle.syntax.specs.Parts.{functions_of}
use Rattle.syntax.specs.Views.{unit_tree}
use Rattle.functions.specs.Numbers.{first_named, numbered_view}
use Rattle.functions.proofs.NumberLemmas.{found_function, found_number, found_name}
use Rattle.functions.proofs.functions.Functions.find.Goals as goal

pub returns-clause-function : goal.returns-clause-function
returns-clause-function c =
    let is = ap (option_map numbered_view) (c.copied.ensures ∙ c.get.ensures.value) ∙ c.self.invariant c.args.name.now in
    let here = subst (λ (items : List Item). option_map numbered_view c.copied.result ≡ first_named 0 (functions_of (unit_tree items)) c.args.name.now) c.self.view_is is in
    found_function c.copied.result (functions_of (unit_tree c.args.self.now)) c.args.name.now here

pub returns-clause-number : goal.returns-clause-number
returns-clause-number c =
    let is = ap (option_map numbered_view) (c.copied.ensures ∙ c.get.ensures.value) ∙ c.self.invariant c.args.name.now in
    let here = subst (λ (items : List Item). option_map numbered_view c.copied.result ≡ first_named 0 (functions_of (unit_tree items)) c.args.name.now) c.self.view_is is in
    found_number c.copied.result (functions_of (unit_tree c.args.self.now)) c.args.name.now here

pub returns-clause-name : goal.returns-clause-name
returns-clause-name c =
    let is = ap (option_map numbered_view) (c.copied.ensures ∙ c.get.ensures.value) ∙ c.self.invariant c.args.name.now in
    let here = subst (λ (items : List Item). option_map numbered_view c.copied.result ≡ first_named 0 (functions_of (unit_tree items)) c.args.name.now) c.self.view_is is in
    found_name c.copied.result (functions_of (unit_tree c.args.self.now)) c.args.name.now here
