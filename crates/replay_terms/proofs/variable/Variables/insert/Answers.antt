use Rattle.std.proofs.Common.{ap, sym, ◌∙◌, subst, arith}
use Rattle.base.proofs.Results.{on_ok}
use Rattle.semantics.specs.Variable.{assign, copied_length}
use Rattle.replay_terms.specs.Views.{Contents, Takes, by_name, content_view, count_viewed, variables_view}
use Rattle.replay_terms.proofs.BufferLemmas.{had_within, takes_set}
use Rattle.replay_terms.proofs.ByNameLemmas.{inserted, values}
use Rattle.replay_terms.proofs.variable.Variables.insert.Goals as goal

pub exchanged-requires-clause-copied : goal.exchanged-requires-clause-copied
exchanged-requires-clause-copied c =
    let takes = subst (λ (vs : Contents). Takes vs c.self.inside.in_use) c.self.view_is c.self.invariant in
    omega (arith, had_within copied_length c.args.name.now (variables_view c.args.self.now), c.taken_by-old.ensures.copied, takes.copied)

pub exchanged-requires-clause-views : goal.exchanged-requires-clause-views
exchanged-requires-clause-views c =
    let takes = subst (λ (vs : Contents). Takes vs c.self.inside.in_use) c.self.view_is c.self.invariant in
    omega (arith, had_within count_viewed c.args.name.now (variables_view c.args.self.now), c.taken_by-old.ensures.views, takes.views)

pub invariant_of-self-2 : goal.invariant_of-self-2
invariant_of-self-2 c =
    let es = c.self.inside.contents.entries in
    let v = content_view c.args.content in
    let set = ap (values content_view) (on_ok c.insert.result _ c.insert.ensures.entries (sym c.is_err.ensures.value ∙ c.if-is_err.false))
    ∙ inserted content_view c.args.name c.args.content es
    ∙ ap (λ (vs : Contents). assign c.args.name.now v (variables_view vs)) c.self.view_is in
    takes_set c.args.self.now (by_name c.insert.new.self.entries) c.self.inside.in_use (subst (λ (vs : Contents). Takes vs c.self.inside.in_use) c.self.view_is c.self.invariant)
    c.args.name.now v c.taken_by-old.result c.taken.result c.in-Some.in_use set c.taken_by-old.ensures.copied c.taken_by-old.ensures.views c.taken.ensures.copied c.taken.ensures.views
    c.in-Some.ensures.copied c.in-Some.ensures.views c.in-Some.ensures.within c.in-Some.ensures.few

pub returns : goal.returns
returns c =
    let es = c.self.inside.contents.entries in
    ap (values content_view) (on_ok c.insert.result _ c.insert.ensures.entries (sym c.is_err.ensures.value ∙ c.if-is_err.false))
    ∙ inserted content_view c.args.name c.args.content es
    ∙ ap (λ (vs : Contents). assign c.args.name.now (content_view c.args.content) (variables_view vs)) c.self.view_is
