use Rattle.std.proofs.Common.{◌≡◌, ℤ, Option, Some, w32, ap, refl, sym, ◌∙◌, subst}
use Rattle.std.specs.Option.{option_map}
use Rattle.std.proofs.Math.Facts.{to_z-of_z}
use Rattle.base.specs.Bytes.{Identifier, lookup}
use Rattle.indexmap.specs.IndexMap.{set_value_at}
use Rattle.semantics.specs.Variable.{Variable}
use Rattle.replay_terms.specs.Views.{Contents, WritesContent, by_name, content_view, variables_view, HasNoElements, WritesElement}
use Rattle.replay_terms.proofs.BufferLemmas.{takes_written}
use Rattle.replay_terms.proofs.ByNameLemmas.{looked_up, missing, values, written_there}
use Rattle.replay_terms.proofs.VariableLemmas.{content_written}
use Rattle.replay_terms.proofs.variable.Variables.write.Goals as goal

pub returns-in-Some : goal.returns-in-Some
returns-in-Some c =
    let es = c.self.inside.contents.entries in
    let x = c.as_bytes.result in
    let content = c.index_mut.result.now in
    let after = c.write_content.new.content in
    let old = values content_view es in
    let changed = values content_view (set_value_at es c.in-Some.place after) in
    let there : lookup x.now old ≡ Some (content_view content) = sym (looked_up content_view x.now es) ∙ ap (option_map content_view) (sym c.in-Some.ensures.value ∙ c.index_mut.ensures.value) in
    let writes = subst (λ (z : ℤ). WritesContent (content_view content) c.args.index z c.write_content.result (content_view after)) (to_z-of_z {w = w32} c.ranges.number) c.write_content.ensures in
    let done : WritesElement old x.now c.args.index c.args.number c.write_content.result changed =
    content_written old changed x.now c.args.index c.args.number (content_view content) (content_view after) c.write_content.result there writes (written_there content_view x after es c.in-Some.place (sym c.in-Some.ensures.index)) in
    subst (λ (y : Identifier). WritesElement (variables_view c.args.self.now) y c.args.index c.args.number c.write_content.result changed) c.as_bytes.ensures
    (subst (λ (vs : Contents). WritesElement (variables_view vs) x.now c.args.index c.args.number c.write_content.result changed) c.self.view_is done)

pub invariant_of-self : goal.invariant_of-self
invariant_of-self c =
    let es = c.self.inside.contents.entries in
    let x = c.as_bytes.result in
    let content = c.index_mut.result.now in
    let after = c.write_content.new.content in
    let old = values content_view es in
    let changed = values content_view (set_value_at es c.in-Some.place after) in
    let there : lookup x.now old ≡ Some (content_view content) = sym (looked_up content_view x.now es) ∙ ap (option_map content_view) (sym c.in-Some.ensures.value ∙ c.index_mut.ensures.value) in
    let writes = subst (λ (z : ℤ). WritesContent (content_view content) c.args.index z c.write_content.result (content_view after)) (to_z-of_z {w = w32} c.ranges.number) c.write_content.ensures in
    let done : WritesElement old x.now c.args.index c.args.number c.write_content.result changed =
    content_written old changed x.now c.args.index c.args.number (content_view content) (content_view after) c.write_content.result there writes (written_there content_view x after es c.in-Some.place (sym c.in-Some.ensures.index)) in
    takes_written (by_name es) (by_name (set_value_at es c.in-Some.place after)) c.self.inside.in_use c.self.invariant x.now c.args.index c.args.number c.write_content.result done

pub returns-in-None : goal.returns-in-None
returns-in-None c =
    let es = c.self.inside.contents.entries in (
      subst (λ (o : Option Variable). HasNoElements o)
          (sym (ap (λ (x : Identifier). lookup x (values content_view es)) (sym c.as_bytes.ensures) ∙ missing content_view c.as_bytes.result.now es (sym c.in-None.ensures.found))
          ∙ ap (λ (vs : Contents). lookup c.args.name.now (variables_view vs)) c.self.view_is)
          tt,
      refl,
    )
