use Rattle.std.proofs.Common.{map}
use Rattle.std.proofs.lemmas.Result.{err_from_is_err_and}
use Rattle.syntax.specs.Views.{item_tree}
use Rattle.parse_lexemes.specs.Lexemes.{views}
use Rattle.parse.proofs.Whole.{inside_of, found_by, unit_by, fault_by, only_by, no_fault_by}
use Rattle.parse.proofs.functions.parse.Goals as goal

pub invariant_of-source : goal.invariant_of-source
invariant_of-source c = record { inside = inside_of c.args.text.now c.requires }

pub new-requires : goal.new-requires
new-requires c = (found_by c.args.text.now c.args.tokens.now c.requires (views c.start.result) c.start.ensures (map item_tree c.in_ok-items.items.items) c.in_ok-items.ensures).tree

pub returns-clause-found : goal.returns-clause-found
returns-clause-found c =
    rw c.new.ensures (found_by c.args.text.now c.args.tokens.now c.requires (views c.start.result) c.start.ensures (map item_tree c.in_ok-items.items.items) c.in_ok-items.ensures).spelled

pub returns-clause-only : goal.returns-clause-only
returns-clause-only c = λ unit spelled.
    rw c.new.ensures (only_by c.args.text.now c.args.tokens.now c.requires (views c.start.result) c.start.ensures (λ others s. c.one_spelling.ensures c.args.text.now others c.args.tokens.now s c.requires) (map item_tree c.in_ok-items.items.items) unit c.in_ok-items.ensures spelled)

pub returns-clause-exact : goal.returns-clause-exact
returns-clause-exact c =
    rw c.new.ensures (unit_by c.args.text.now c.args.tokens.now c.requires (views c.start.result) c.start.ensures (map item_tree c.in_ok-items.items.items) c.in_ok-items.ensures)

pub returns-in_err-items-clause-only : goal.returns-in_err-items-clause-only
returns-in_err-items-clause-only c = λ unit spelled.
    let p = err_from_is_err_and c.from_residual.result c.from_residual.ensures.1 in
    rw (p.1, p.2) (no_fault_by c.args.text.now c.args.tokens.now c.requires (views c.start.result) c.start.ensures (λ others s. c.one_spelling.ensures c.args.text.now others c.args.tokens.now s c.requires) c.in_err-items.field-0.0 unit c.in_err-items.ensures spelled)

pub returns-in_err-items-clause-exact : goal.returns-in_err-items-clause-exact
returns-in_err-items-clause-exact c =
    let p = err_from_is_err_and c.from_residual.result c.from_residual.ensures.1 in
    rw (p.1, p.2) (fault_by c.args.text.now c.args.tokens.now c.requires (views c.start.result) c.start.ensures c.in_err-items.field-0.0 c.in_err-items.ensures)
