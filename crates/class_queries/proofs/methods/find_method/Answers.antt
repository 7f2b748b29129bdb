use Rattle.std.proofs.Common.{◌≡◌, ◌+◌, ◌-◌, ◌<◌, sym, ap, ◌∙◌, arith}
use Rattle.std.specs.Option.{option_map}
use Rattle.syntax.specs.Tree.{Function}
use Rattle.syntax.specs.Views.{function_tree, unit_tree}
use Rattle.semantics.specs.Method.{MethodId}
use Rattle.class_queries.proofs.FoundMethods.{is_named, named-above, named-here, named-top, of_namesake}
use Rattle.class_queries.proofs.methods.find_method.Goals as goal

pub returns-in-None-clause-method : goal.returns-in-None-clause-method
returns-in-None-clause-method c =
    let unit = unit_tree c.args.items.now in
    let of : Function → MethodId = λ f. record { class = c.args.class.number; function = f } in
    ap (option_map of) (sym (named-top unit c.args.classes.now c.loop.declarer.number c.args.name.now c.args.text.now (c.len-end.result - c.loop.counter) (sym c.in_default.ensures.function) (sym c.in-None.ensures)) ∙ c.loop.invariant)

pub loop-preserved : goal.loop-preserved
loop-preserved c =
    let unit = unit_tree c.args.items.now in
    let left : c.len-end.result - c.loop.counter ≡ (c.len-end.result - (c.loop.counter + 1)) + 1 = omega arith in
    sym (named-above unit c.args.classes.now c.loop.declarer.number c.args.name.now c.args.text.now (c.len-end.result - c.loop.counter) (c.len-end.result - (c.loop.counter + 1)) c.in-Some-superclass.above.number left (sym c.in_default.ensures.function) (sym c.in-Some-superclass.ensures))
    ∙ c.loop.invariant

pub namesake-requires : goal.namesake-requires
namesake-requires c = is_named c.unmangling_inverts_mangling.ensures c.args.classes.now (function_tree c.in-Some.found.function.now) c.loop.declarer.number c.args.name.now c.args.text.now c.in-Some.ensures.method

pub returns-in-Some-clause-declarer : goal.returns-in-Some-clause-declarer
returns-in-Some-clause-declarer c = of_namesake c.unmangling_inverts_mangling.ensures c.args.classes.now (function_tree c.in-Some.found.function.now) c.loop.declarer.number c.args.name.now c.args.text.now c.in-Some.ensures.method c.namesake.result.number c.namesake.ensures

pub returns-in-Some-clause-method : goal.returns-in-Some-clause-method
returns-in-Some-clause-method c =
    let unit = unit_tree c.args.items.now in
    let of : Function → MethodId = λ f. record { class = c.args.class.number; function = f } in
    let left : 0 < c.len-end.result - c.loop.counter = omega arith in
    ap (option_map of) (sym (named-here unit c.args.classes.now c.loop.declarer.number c.args.name.now c.args.text.now (c.len-end.result - c.loop.counter) (function_tree c.in-Some.found.function.now) left (sym c.in-Some.ensures.function)) ∙ c.loop.invariant)
