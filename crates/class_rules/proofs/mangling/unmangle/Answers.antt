use Rattle.std.proofs.Common.{◌≡◌, sym, ◌∙◌, ap, arith, IfOk, subst}
use Rattle.std.specs.Option.{option_map}
use Rattle.class_rules.specs.Mangling.{unescaped, split_last}
use Rattle.class_rules.proofs.Unescaping.{unmangle-parts, whole-rest, unmangle-long}
use Rattle.class_rules.proofs.mangling.unmangle.Goals as goal

pub slice_bounds-unescape-count : goal.slice_bounds-unescape-count
slice_bounds-unescape-count c = unmangle-long c.args.name.now (sym c.if-not-is_mangled.ensures)

pub slice_bounds-unescape-start : goal.slice_bounds-unescape-start
slice_bounds-unescape-start c = let long = unmangle-long c.args.name.now (sym c.if-not-is_mangled.ensures) in omega arith

pub returns : goal.returns
returns c =
    let path = c.deref.ensures.value ∙ c.in_ok-path.ensures ∙ ap unescaped (whole-rest c.args.name.now) in
    subst (λ o. IfOk c.split.result (λ n. option_map (λ m. (m.class.items, m.method.items)) n ≡ o)) (ap split_last path ∙ sym (unmangle-parts c.args.name.now (sym c.if-not-is_mangled.ensures))) c.split.ensures
