use Rattle.std.proofs.Common.{◌+◌, length, map, sym, ◌∙◌}
use Rattle.std.proofs.lemmas.Result.{err_from_is_err_and}
use Rattle.std.proofs.lemmas.List.{map_push}
use Rattle.parse_lexemes.specs.Lexemes.{views}
use Rattle.syntax.specs.Views.{item_tree}
use Rattle.parse.specs.Reading.{items_at}
use Rattle.parse.proofs.Items.{unit_start, unit_done, unit_fails, unit_on}
use Rattle.parse.proofs.Programs.{item_takes}
use Rattle.parse.proofs.functions.items.Goals as goal

pub items-init : goal.items-init
items-init c = rw c.new-items.ensures.items (unit_start (views c.args.lexemes))

pub returns-in_err-item : goal.returns-in_err-item
returns-in_err-item c =
    let p = err_from_is_err_and c.from_residual.result c.from_residual.ensures.1 in
    rw (p.1, p.2) (unit_fails (map item_tree c.items.items.items) c.items.functions c.items.statics (views c.items.rest) (items_at (length (views c.args.lexemes) + 1) 256 256 (views c.args.lexemes)) c.items.invariant c.in_err-item.field-0.0 (sym c.starts_with.ensures ∙ c.items-test.true) c.in_err-item.ensures)

pub items-smaller : goal.items-smaller
items-smaller c = (item_takes c.items.functions c.items.statics (views c.items.rest) (item_tree c.in_ok-item.item, c.in_ok-item.functions_left, c.in_ok-item.statics_left, views c.in_ok-item.after) c.in_ok-item.ensures).shorter

pub items-preserved : goal.items-preserved
items-preserved c =
    rw (c.in_ok-push.ensures.items, map_push item_tree c.items.items.items c.in_ok-item.item) (unit_on (map item_tree c.items.items.items) c.items.functions c.items.statics (views c.items.rest) (items_at (length (views c.args.lexemes) + 1) 256 256 (views c.args.lexemes)) c.items.invariant (item_tree c.in_ok-item.item) c.in_ok-item.functions_left c.in_ok-item.statics_left (views c.in_ok-item.after) (sym c.starts_with.ensures ∙ c.items-test.true) c.in_ok-item.ensures)

pub returns : goal.returns
returns c = unit_done (map item_tree c.items.items.items) c.items.functions c.items.statics (views c.items.rest) (items_at (length (views c.args.lexemes) + 1) 256 256 (views c.args.lexemes)) c.items.invariant (sym c.starts_with.ensures ∙ c.items-test.false)
