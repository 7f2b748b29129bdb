use Rattle.std.proofs.Common.{arith}
use Rattle.syntax.specs.Shapes.{ref_tree}
use Rattle.syntax.proofs.NodeLemmas.{parts, cut_last, alone_number, alone_named, alone_variable, element_whole, element_tree, element_below, prefix_whole, prefix_tree_is, prefix_below, paren_whole, paren_tree, paren_below, two_within, left_whole, right_whole, two_tree, two_below}
use Rattle.syntax.proofs.expr_ref.ExprRef.shape.Goals as goal

pub invariant_of-result : goal.invariant_of-result
invariant_of-result c =
    record { whole = element_whole c.args.self.nodes.now c.split_at.result.0.now c.index-top-0.result (cut_last _ _ _ _ c.args.self.whole c.split_at.ensures.front c.split_at.ensures.back c.index-top-0.is) c.args.self.whole c.in-Element.name c.in-Element.is }

pub invariant_of-result-in-Prefix : goal.invariant_of-result-in-Prefix
invariant_of-result-in-Prefix c =
    record { whole = prefix_whole c.args.self.nodes.now c.split_at.result.0.now c.index-top-0.result (cut_last _ _ _ _ c.args.self.whole c.split_at.ensures.front c.split_at.ensures.back c.index-top-0.is) c.args.self.whole c.in-Prefix.op c.in-Prefix.is }

pub invariant_of-result-in-Paren : goal.invariant_of-result-in-Paren
invariant_of-result-in-Paren c =
    record { whole = paren_whole c.args.self.nodes.now c.split_at.result.0.now c.index-top-0.result (cut_last _ _ _ _ c.args.self.whole c.split_at.ensures.front c.split_at.ensures.back c.index-top-0.is) c.args.self.whole c.in-Paren.is }

pub overflow_sub-before : goal.overflow_sub-before
overflow_sub-before c =
    two_within c.args.self.nodes.now c.split_at.result.0.now c.index-top-0.result (cut_last _ _ _ _ c.args.self.whole c.split_at.ensures.front c.split_at.ensures.back c.index-top-0.is) c.args.self.whole c.in-Binary.op c.in-Binary.right c.in-Binary.is

pub invariant_of-result-in-Binary : goal.invariant_of-result-in-Binary
invariant_of-result-in-Binary c =
    record { whole = left_whole c.args.self.nodes.now c.split_at.result.0.now c.index-top-0.result (cut_last _ _ _ _ c.args.self.whole c.split_at.ensures.front c.split_at.ensures.back c.index-top-0.is) c.args.self.whole c.in-Binary.op c.in-Binary.right c.in-Binary.is c.split_at-in-Binary.result.0.now c.split_at-in-Binary.result.1.now (parts _ c.split_at-in-Binary.ensures.front c.split_at-in-Binary.ensures.back) (omega (arith, c.split_at-in-Binary.ensures.back_len, c.split_at-in-Binary.ensures.front_len, two_within c.args.self.nodes.now c.split_at.result.0.now c.index-top-0.result (cut_last _ _ _ _ c.args.self.whole c.split_at.ensures.front c.split_at.ensures.back c.index-top-0.is) c.args.self.whole c.in-Binary.op c.in-Binary.right c.in-Binary.is)) }

pub invariant_of-result-in-Binary-2 : goal.invariant_of-result-in-Binary-2
invariant_of-result-in-Binary-2 c =
    record { whole = right_whole c.args.self.nodes.now c.split_at.result.0.now c.index-top-0.result (cut_last _ _ _ _ c.args.self.whole c.split_at.ensures.front c.split_at.ensures.back c.index-top-0.is) c.args.self.whole c.in-Binary.op c.in-Binary.right c.in-Binary.is c.split_at-in-Binary.result.0.now c.split_at-in-Binary.result.1.now (parts _ c.split_at-in-Binary.ensures.front c.split_at-in-Binary.ensures.back) (omega (arith, c.split_at-in-Binary.ensures.back_len, c.split_at-in-Binary.ensures.front_len, two_within c.args.self.nodes.now c.split_at.result.0.now c.index-top-0.result (cut_last _ _ _ _ c.args.self.whole c.split_at.ensures.front c.split_at.ensures.back c.index-top-0.is) c.args.self.whole c.in-Binary.op c.in-Binary.right c.in-Binary.is)) }

pub returns-in-Number-clause-tree : goal.returns-in-Number-clause-tree
unfolding ref_tree
returns-in-Number-clause-tree c =
    alone_number c.args.self.nodes.now c.split_at.result.0.now c.index-top-0.result (cut_last _ _ _ _ c.args.self.whole c.split_at.ensures.front c.split_at.ensures.back c.index-top-0.is) c.args.self.whole c.in-Number.value c.in-Number.unsigned c.in-Number.is

pub returns-in-Named-clause-tree : goal.returns-in-Named-clause-tree
unfolding ref_tree
returns-in-Named-clause-tree c =
    alone_named c.args.self.nodes.now c.split_at.result.0.now c.index-top-0.result (cut_last _ _ _ _ c.args.self.whole c.split_at.ensures.front c.split_at.ensures.back c.index-top-0.is) c.args.self.whole c.in-Named.constant c.in-Named.is

pub returns-in-Variable-clause-tree : goal.returns-in-Variable-clause-tree
unfolding ref_tree
returns-in-Variable-clause-tree c =
    alone_variable c.args.self.nodes.now c.split_at.result.0.now c.index-top-0.result (cut_last _ _ _ _ c.args.self.whole c.split_at.ensures.front c.split_at.ensures.back c.index-top-0.is) c.args.self.whole c.in-Variable.name c.in-Variable.is

pub returns-in-Element-clause-tree : goal.returns-in-Element-clause-tree
unfolding ref_tree
returns-in-Element-clause-tree c =
    element_tree c.args.self.nodes.now c.split_at.result.0.now c.index-top-0.result (cut_last _ _ _ _ c.args.self.whole c.split_at.ensures.front c.split_at.ensures.back c.index-top-0.is) c.args.self.whole c.in-Element.name c.in-Element.is

pub returns-in-Prefix-clause-tree : goal.returns-in-Prefix-clause-tree
unfolding ref_tree
returns-in-Prefix-clause-tree c =
    prefix_tree_is c.args.self.nodes.now c.split_at.result.0.now c.index-top-0.result (cut_last _ _ _ _ c.args.self.whole c.split_at.ensures.front c.split_at.ensures.back c.index-top-0.is) c.args.self.whole c.in-Prefix.op c.in-Prefix.is

pub returns-in-Paren-clause-tree : goal.returns-in-Paren-clause-tree
unfolding ref_tree
returns-in-Paren-clause-tree c =
    paren_tree c.args.self.nodes.now c.split_at.result.0.now c.index-top-0.result (cut_last _ _ _ _ c.args.self.whole c.split_at.ensures.front c.split_at.ensures.back c.index-top-0.is) c.args.self.whole c.in-Paren.is

pub returns-in-Binary-clause-tree : goal.returns-in-Binary-clause-tree
unfolding ref_tree
returns-in-Binary-clause-tree c =
    two_tree c.args.self.nodes.now c.split_at.result.0.now c.index-top-0.result (cut_last _ _ _ _ c.args.self.whole c.split_at.ensures.front c.split_at.ensures.back c.index-top-0.is) c.args.self.whole c.in-Binary.op c.in-Binary.right c.in-Binary.is c.split_at-in-Binary.result.0.now c.split_at-in-Binary.result.1.now (parts _ c.split_at-in-Binary.ensures.front c.split_at-in-Binary.ensures.back) (omega (arith, c.split_at-in-Binary.ensures.back_len, c.split_at-in-Binary.ensures.front_len, two_within c.args.self.nodes.now c.split_at.result.0.now c.index-top-0.result (cut_last _ _ _ _ c.args.self.whole c.split_at.ensures.front c.split_at.ensures.back c.index-top-0.is) c.args.self.whole c.in-Binary.op c.in-Binary.right c.in-Binary.is))

pub returns-in-Element-clause-below : goal.returns-in-Element-clause-below
unfolding ref_tree
returns-in-Element-clause-below c =
    element_below _ _ _ (element_tree c.args.self.nodes.now c.split_at.result.0.now c.index-top-0.result (cut_last _ _ _ _ c.args.self.whole c.split_at.ensures.front c.split_at.ensures.back c.index-top-0.is) c.args.self.whole c.in-Element.name c.in-Element.is)

pub returns-in-Prefix-clause-below : goal.returns-in-Prefix-clause-below
unfolding ref_tree
returns-in-Prefix-clause-below c =
    prefix_below _ _ _ (prefix_tree_is c.args.self.nodes.now c.split_at.result.0.now c.index-top-0.result (cut_last _ _ _ _ c.args.self.whole c.split_at.ensures.front c.split_at.ensures.back c.index-top-0.is) c.args.self.whole c.in-Prefix.op c.in-Prefix.is)

pub returns-in-Paren-clause-below : goal.returns-in-Paren-clause-below
unfolding ref_tree
returns-in-Paren-clause-below c =
    paren_below _ _ (paren_tree c.args.self.nodes.now c.split_at.result.0.now c.index-top-0.result (cut_last _ _ _ _ c.args.self.whole c.split_at.ensures.front c.split_at.ensures.back c.index-top-0.is) c.args.self.whole c.in-Paren.is)

pub returns-in-Binary-clause-below : goal.returns-in-Binary-clause-below
unfolding ref_tree
returns-in-Binary-clause-below c =
    two_below _ _ _ _ (two_tree c.args.self.nodes.now c.split_at.result.0.now c.index-top-0.result (cut_last _ _ _ _ c.args.self.whole c.split_at.ensures.front c.split_at.ensures.back c.index-top-0.is) c.args.self.whole c.in-Binary.op c.in-Binary.right c.in-Binary.is c.split_at-in-Binary.result.0.now c.split_at-in-Binary.result.1.now (parts _ c.split_at-in-Binary.ensures.front c.split_at-in-Binary.ensures.back) (omega (arith, c.split_at-in-Binary.ensures.back_len, c.split_at-in-Binary.ensures.front_len, two_within c.args.self.nodes.now c.split_at.result.0.now c.index-top-0.result (cut_last _ _ _ _ c.args.self.whole c.split_at.ensures.front c.split_at.ensures.back c.index-top-0.is) c.args.self.whole c.in-Binary.op c.in-Binary.right c.in-Binary.is)))
