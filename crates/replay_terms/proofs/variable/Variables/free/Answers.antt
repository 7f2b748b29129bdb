use Rattle.std.proofs.Common.{ap, sym, ◌∙◌, subst}
use Rattle.indexmap.specs.IndexMap.{set_value_at}
use Rattle.semantics.specs.CallEffects.{freed}
use Rattle.semantics.specs.Variable.{copied_length}
use Rattle.replay_terms.specs.Views.{Contents, Takes, by_name, content_view, count_viewed, had}
use Rattle.replay_terms.proofs.BufferLemmas.{given_within, takes_freed}
use Rattle.replay_terms.proofs.VariableLemmas.{changed_at, content_there, unchanged_at}
use Rattle.replay_terms.proofs.variable.Variables.free.Goals as goal

pub overflow_sub-self : goal.overflow_sub-self
overflow_sub-self c =
    let es = c.self.inside.contents.entries in
    let there = content_there c.args.name es c.args.self.now _ c.index_mut.result.now c.self.view_is c.in-Some.ensures.value c.index_mut.ensures.value in
    let takes = subst (λ (vs : Contents). Takes vs c.self.inside.in_use) c.self.view_is c.self.invariant in
    given_within copied_length c.args.name.now c.args.self.now (content_view c.index_mut.result.now) c.free_content-old.result.copied c.self.inside.in_use.copied there c.free_content-old.ensures.copied takes.copied

pub overflow_sub-self-in-Some : goal.overflow_sub-self-in-Some
overflow_sub-self-in-Some c =
    let es = c.self.inside.contents.entries in
    let there = content_there c.args.name es c.args.self.now _ c.index_mut.result.now c.self.view_is c.in-Some.ensures.value c.index_mut.ensures.value in
    let takes = subst (λ (vs : Contents). Takes vs c.self.inside.in_use) c.self.view_is c.self.invariant in
    given_within count_viewed c.args.name.now c.args.self.now (content_view c.index_mut.result.now) c.free_content-old.result.views c.self.inside.in_use.views there c.free_content-old.ensures.views takes.views

pub invariant_of-self : goal.invariant_of-self
invariant_of-self c =
    let es = c.self.inside.contents.entries in
    let now = c.args.self.now in
    let there = content_there c.args.name es now _ c.index_mut.result.now c.self.view_is c.in-Some.ensures.value c.index_mut.ensures.value in
    takes_freed now (by_name (set_value_at es c.in-Some.place c.free_content-old.new.content)) c.self.inside.in_use (subst (λ (vs : Contents). Takes vs c.self.inside.in_use) c.self.view_is c.self.invariant) c.args.name.now c.free_content-old.result
    (changed_at c.args.name es now _ c.in-Some.place c.index_mut.result.now c.free_content-old.new.content freed c.self.view_is c.in-Some.ensures.value c.index_mut.ensures.value (sym c.in-Some.ensures.index) c.free_content-old.ensures.view)
    (c.free_content-old.ensures.copied ∙ sym (ap (had copied_length) there)) (c.free_content-old.ensures.views ∙ sym (ap (had count_viewed) there))

pub returns-in-Some : goal.returns-in-Some
returns-in-Some c =
    changed_at c.args.name c.self.inside.contents.entries c.args.self.now _ c.in-Some.place c.index_mut.result.now c.free_content-old.new.content freed
    c.self.view_is c.in-Some.ensures.value c.index_mut.ensures.value (sym c.in-Some.ensures.index) c.free_content-old.ensures.view

pub returns-in_default : goal.returns-in_default
returns-in_default c = unchanged_at c.args.name c.self.inside.contents.entries c.args.self.now freed c.self.view_is (sym c.in_default.ensures.found)
