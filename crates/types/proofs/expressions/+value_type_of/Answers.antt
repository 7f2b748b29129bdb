use Rattle.std.proofs.Common.{sym, ap, ap₂, ◌∙◌}
use Rattle.std.specs.Option.{is_some}
use Rattle.syntax.specs.Parts.{null_tested}
use Rattle.syntax.specs.Shapes.{ref_tree}
use Rattle.type_rules.specs.ExprTypes.{type_of, binary_type, group, null_test_type}
use Rattle.types.specs.ValueTypes.{of_value}
use Rattle.types.proofs.TypeLemmas.{not-null, binary-of_value}
use Rattle.types.proofs.expressions.+value_type_of.Goals as goal

pub returns-else-is_null_test : goal.returns-else-is_null_test
returns-else-is_null_test t c =
    let scope = c.args.known.now in
    let op = c.in-Binary.op in
    let left = ref_tree c.in-Binary.left in
    let right = ref_tree c.in-Binary.right in
    c.binary_type.ensures
    ∙ ap₂ (binary_type (group op)) c.value_type_of-in-Binary.ensures c.value_type_of-in-Binary-2.ensures
    ∙ binary-of_value (group op) (type_of scope left) (type_of scope right)
    ∙ ap of_value (sym (not-null scope op left right (sym (c.if-is_null_test.ensures ∙ ap (λ e. is_some (null_test_type scope (null_tested e))) (sym c.in-Binary.ensures.tree)))))
    ∙ ap (λ e. of_value (type_of scope e)) c.in-Binary.ensures.tree
