use Rattle.std.proofs.Common.{◌≤◌, Option, length, map, sym, subst}
use Rattle.indexmap.specs.IndexMap.{set_value_at}
use Rattle.semantics.specs.CallEffects.{begun_with, local_array}
use Rattle.semantics.specs.Variable.{Variable}
use Rattle.replay_terms.specs.Views.{Contents, Takes, by_name, held_number}
use Rattle.replay_terms.proofs.BufferLemmas.{takes_begun}
use Rattle.replay_terms.proofs.VariableLemmas.{changed_at, content_there, unchanged_at}
use Rattle.replay_terms.proofs.variable.Variables.begin_array.Goals as goal

pub begin_content-requires : goal.begin_content-requires
begin_content-requires c =
    subst (λ (o : Option Variable). length c.args.values.now ≤ length (local_array o))
    (content_there c.args.name c.self.inside.contents.entries c.args.self.now _ c.index_mut.result.now c.self.view_is c.in-Some.ensures.value c.index_mut.ensures.value) c.requires

pub invariant_of-self : goal.invariant_of-self
invariant_of-self c =
    let es = c.self.inside.contents.entries in
    let now = c.args.self.now in
    let numbers = map held_number c.args.values.now in
    takes_begun now (by_name (set_value_at es c.in-Some.place c.begin_content.new.content)) c.self.inside.in_use (subst (λ (vs : Contents). Takes vs c.self.inside.in_use) c.self.view_is c.self.invariant) c.args.name.now numbers
    (changed_at c.args.name es now _ c.in-Some.place c.index_mut.result.now c.begin_content.new.content (begun_with numbers) c.self.view_is c.in-Some.ensures.value c.index_mut.ensures.value (sym c.in-Some.ensures.index) c.begin_content.ensures)

pub returns-in-Some : goal.returns-in-Some
returns-in-Some c =
    changed_at c.args.name c.self.inside.contents.entries c.args.self.now _ c.in-Some.place c.index_mut.result.now c.begin_content.new.content (begun_with (map held_number c.args.values.now))
    c.self.view_is c.in-Some.ensures.value c.index_mut.ensures.value (sym c.in-Some.ensures.index) c.begin_content.ensures

pub returns-in_default : goal.returns-in_default
returns-in_default c = unchanged_at c.args.name c.self.inside.contents.entries c.args.self.now (begun_with (map held_number c.args.values.now)) c.self.view_is (sym c.in_default.ensures.found)
