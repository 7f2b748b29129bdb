use Rattle.std.proofs.Common.{◌≡◌, ℕ, ◌∷◌, [], length, take, Vec, Global, refl, ap, ◌∙◌, arith, length-append}
use Rattle.syntax.specs.declared.node.Node.{Node}
use Rattle.syntax.specs.Nodes.{trees_after, tree_of}
use Rattle.syntax.specs.Stacks.{stacked}
use Rattle.syntax.specs.Views.{expr_tree}
use Rattle.syntax.proofs.NodeLemmas.{start_within, cut_trees, rest_whole, rest_tree, split_whole, one_left, cut_whole, front_trees, back_whole, back_tree}
use Rattle.syntax.proofs.expr_stack.ExprStack.take.Goals as goal

pub overflow_sub-len : goal.overflow_sub-len
unfolding stacked
overflow_sub-len c = omega (arith, c.len.ensures, c.args.self.now.nodes.ok.0, start_within c.args.self.now.nodes.items c.args.start c.requires.some c.requires.start c.args.self.now.whole)

pub invariant_of-self : goal.invariant_of-self
unfolding stacked
invariant_of-self c = record { whole = split_whole c.args.self.now.nodes.items c.args.start c.requires.some c.requires.start c.args.self.now.whole (λ (v : Vec Node Global). v.items) c.split_off.result c.args.self.now.nodes c.split_off.new.self refl c.split_off.ensures.items c.split_off.ensures.err }

pub invariant_of-result : goal.invariant_of-result
unfolding stacked
invariant_of-result c = record { whole = rw c.in_ok-nodes.ensures.tail (rest_whole c.args.self.now.nodes.items c.args.start c.requires.some c.requires.start c.args.self.now.whole) }

pub returns-then-len-start-gt1-clause-expr : goal.returns-then-len-start-gt1-clause-expr
unfolding stacked expr_tree
returns-then-len-start-gt1-clause-expr c = ap tree_of c.in_ok-nodes.ensures.tail ∙ rest_tree c.args.self.now.nodes.items c.args.start c.requires.some c.requires.start c.args.self.now.whole

pub returns-then-len-start-gt1-clause-rest : goal.returns-then-len-start-gt1-clause-rest
unfolding stacked
returns-then-len-start-gt1-clause-rest c = ap (trees_after []) c.in_ok-nodes.ensures.items ∙ cut_trees c.args.self.now.nodes.items c.args.start c.requires.some c.requires.start c.args.self.now.whole

pub unreachable-requires : goal.unreachable-requires
unfolding stacked
unreachable-requires c = omega (arith, c.in-None.ensures.cases.0, c.args.self.now.nodes.ok.0, one_left c.args.self.now.nodes.items c.args.start c.requires.some c.requires.start c.args.self.now.whole (omega (arith, c.if-len-start-gt1.false, c.len.ensures, c.args.self.now.nodes.ok.0)))

pub invariant_of-self-2 : goal.invariant_of-self-2
unfolding stacked
invariant_of-self-2 c =
    let cut : c.pop.new.self.items ≡ take c.args.start c.args.self.now.nodes.items = c.pop.ensures.rest ∙ ap (λ (n : ℕ). take n c.args.self.now.nodes.items) (omega (arith, c.args.self.now.nodes.ok.0, one_left c.args.self.now.nodes.items c.args.start c.requires.some c.requires.start c.args.self.now.whole (omega (arith, c.if-len-start-gt1.false, c.len.ensures, c.args.self.now.nodes.ok.0)))) in
    record { whole = rw cut (cut_whole c.args.self.now.nodes.items c.args.start c.requires.some c.requires.start c.args.self.now.whole) }

pub invariant_of-result-in-Some : goal.invariant_of-result-in-Some
unfolding stacked
invariant_of-result-in-Some c = record { whole = back_whole c.args.self.now.nodes.items c.pop.new.self.items (c.in-Some.node ∷ []) c.in-Some.ensures.items c.requires.some (omega (arith, c.requires.start, ap length c.in-Some.ensures.items, length-append c.pop.new.self.items (c.in-Some.node ∷ []), one_left c.args.self.now.nodes.items c.args.start c.requires.some c.requires.start c.args.self.now.whole (omega (arith, c.if-len-start-gt1.false, c.len.ensures, c.args.self.now.nodes.ok.0)))) c.args.self.now.whole }

pub returns-clause-expr : goal.returns-clause-expr
unfolding stacked expr_tree
returns-clause-expr c = back_tree c.args.self.now.nodes.items c.pop.new.self.items (c.in-Some.node ∷ []) c.in-Some.ensures.items c.requires.some (omega (arith, c.requires.start, ap length c.in-Some.ensures.items, length-append c.pop.new.self.items (c.in-Some.node ∷ []), one_left c.args.self.now.nodes.items c.args.start c.requires.some c.requires.start c.args.self.now.whole (omega (arith, c.if-len-start-gt1.false, c.len.ensures, c.args.self.now.nodes.ok.0)))) c.args.self.now.whole

pub returns-clause-rest : goal.returns-clause-rest
unfolding stacked
returns-clause-rest c = front_trees c.args.self.now.nodes.items c.pop.new.self.items (c.in-Some.node ∷ []) c.in-Some.ensures.items c.requires.some (omega (arith, c.requires.start, ap length c.in-Some.ensures.items, length-append c.pop.new.self.items (c.in-Some.node ∷ []), one_left c.args.self.now.nodes.items c.args.start c.requires.some c.requires.start c.args.self.now.whole (omega (arith, c.if-len-start-gt1.false, c.len.ensures, c.args.self.now.nodes.ok.0)))) c.args.self.now.whole
