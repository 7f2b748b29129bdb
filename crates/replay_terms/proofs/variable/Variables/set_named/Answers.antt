use Rattle.std.proofs.Common.{ap, sym, ◌∙◌, subst}
use Rattle.semantics.specs.Variable.{assign, copied_length}
use Rattle.replay_terms.specs.declared.variable.Content.{Content}
use Rattle.replay_terms.specs.Views.{Contents, Takes, by_name, content_view, count_viewed, had, variables_view}
use Rattle.indexmap.specs.IndexMap.{set_value_at}
use Rattle.replay_terms.proofs.BufferLemmas.{given_within, takes_set}
use Rattle.replay_terms.proofs.ByNameLemmas.{written_there}
use Rattle.replay_terms.proofs.VariableLemmas.{content_there}
use Rattle.replay_terms.proofs.variable.Variables.set_named.Goals as goal

pub exchanged-requires-clause-copied : goal.exchanged-requires-clause-copied
exchanged-requires-clause-copied c =
    let there = content_there c.args.name c.self.inside.contents.entries c.args.self.now _ c.index.result.now c.self.view_is c.in-Some.ensures.value c.index.ensures in
    let takes = subst (λ (vs : Contents). Takes vs c.self.inside.in_use) c.self.view_is c.self.invariant in
    given_within copied_length c.args.name.now c.args.self.now (content_view c.index.result.now) c.taken-old.result.copied c.self.inside.in_use.copied there c.taken-old.ensures.copied takes.copied

pub exchanged-requires-clause-views : goal.exchanged-requires-clause-views
exchanged-requires-clause-views c =
    let there = content_there c.args.name c.self.inside.contents.entries c.args.self.now _ c.index.result.now c.self.view_is c.in-Some.ensures.value c.index.ensures in
    let takes = subst (λ (vs : Contents). Takes vs c.self.inside.in_use) c.self.view_is c.self.invariant in
    given_within count_viewed c.args.name.now c.args.self.now (content_view c.index.result.now) c.taken-old.result.views c.self.inside.in_use.views there c.taken-old.ensures.views takes.views

pub invariant_of-self : goal.invariant_of-self
invariant_of-self c =
    let es = c.self.inside.contents.entries in
    let x = c.args.name.now in
    let there = content_there c.args.name es c.args.self.now _ c.index.result.now c.self.view_is c.in-Some.ensures.value c.index.ensures in
    let set = written_there content_view c.args.name c.put_content.new.place es c.in-Some.place (sym c.in-Some.ensures.index)
    ∙ ap (λ (d : Content). assign x (content_view d) (variables_view (by_name es))) c.put_content.ensures
    ∙ ap (λ (vs : Contents). assign x (content_view c.args.content) (variables_view vs)) c.self.view_is in
    takes_set c.args.self.now (by_name (set_value_at es c.in-Some.place c.put_content.new.place)) c.self.inside.in_use (subst (λ (vs : Contents). Takes vs c.self.inside.in_use) c.self.view_is c.self.invariant)
    x (content_view c.args.content) c.taken-old.result c.taken.result c.in-Some-exchanged.in_use set
    (c.taken-old.ensures.copied ∙ sym (ap (had copied_length) there)) (c.taken-old.ensures.views ∙ sym (ap (had count_viewed) there)) c.taken.ensures.copied c.taken.ensures.views
    c.in-Some-exchanged.ensures.copied c.in-Some-exchanged.ensures.views c.in-Some-exchanged.ensures.within c.in-Some-exchanged.ensures.few

pub returns : goal.returns
returns c =
    let es = c.self.inside.contents.entries in
    written_there content_view c.args.name c.put_content.new.place es c.in-Some.place (sym c.in-Some.ensures.index)
    ∙ ap (λ (d : Content). assign c.args.name.now (content_view d) (variables_view (by_name es))) c.put_content.ensures
    ∙ ap (λ (vs : Contents). assign c.args.name.now (content_view c.args.content) (variables_view vs)) c.self.view_is
