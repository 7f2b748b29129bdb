use Rattle.std.proofs.Common.{refl, ap, sym, ◌∙◌}
use Rattle.std.proofs.lemmas.Result.{IfOk-weaker}
use Rattle.std.specs.Option.{option_map}
use Rattle.base.specs.Bytes.{Identifier}
use Rattle.indexmap.specs.IndexMap.{set_value_at}
use Rattle.semantics.specs.Variable.{Scalar, assign, copied_length}
use Rattle.replay_terms.specs.declared.variable.Content.{Content}
use Rattle.replay_terms.specs.Views.{Contents, by_name, content_view, count_viewed, variables_view}
use Rattle.replay_terms.proofs.BufferLemmas.{takes_assigned}
use Rattle.replay_terms.proofs.ByNameLemmas.{looked_up, values, written_there}
use Rattle.replay_terms.proofs.VariableLemmas.{assigned_again}
use Rattle.replay_terms.proofs.variable.Variables.set_number.Goals as goal

pub invariant_of-self : goal.invariant_of-self
invariant_of-self c =
    let es = c.self.inside.contents.entries in
    let x = c.as_bytes-name.result in
    let after = c.put_number.new.place in
    let was = (c.if-put_number.ensures.taken refl).1 in
    let is = c.if-put_number.ensures.done refl in
    takes_assigned (by_name es) (by_name (set_value_at es c.in-Some.place after)) c.self.inside.in_use c.self.invariant x.now (content_view after) (content_view c.index_mut.result.now)
    (sym (looked_up content_view x.now es) ∙ ap (option_map content_view) (sym c.in-Some.ensures.value ∙ c.index_mut.ensures.value))
    (record {
      copied = ap (λ (d : Content). copied_length (content_view d)) is ∙ sym (ap (λ (d : Content). copied_length (content_view d)) was);
      viewed = ap (λ (d : Content). count_viewed (content_view d)) is ∙ sym (ap (λ (d : Content). count_viewed (content_view d)) was);
    })
    (written_there content_view x after es c.in-Some.place (sym c.in-Some.ensures.index))

pub returns-then-put_number : goal.returns-then-put_number
returns-then-put_number c =
    let es = c.self.inside.contents.entries in
    let x = c.as_bytes-name.result in
    let number = Scalar c.args.value in
    written_there content_view x c.put_number.new.place es c.in-Some.place (sym c.in-Some.ensures.index)
    ∙ ap (λ (d : Content). assign x.now (content_view d) (values content_view es)) (c.if-put_number.ensures.done refl)
    ∙ ap (λ (y : Identifier). assign y number (values content_view es)) c.as_bytes-name.ensures
    ∙ ap (λ (vs : Contents). assign c.args.name.now number (variables_view vs)) c.self.view_is

pub invariant_of-self-2 : goal.invariant_of-self-2
invariant_of-self-2 c =
    let es = c.self.inside.contents.entries in
    let x = c.as_bytes-name.result in
    let after = c.put_number.new.place in
    let is = c.if-put_number.ensures.other refl in
    takes_assigned (by_name es) (by_name (set_value_at es c.in-Some.place after)) c.self.inside.in_use c.self.invariant x.now (content_view after) (content_view c.index_mut.result.now)
    (sym (looked_up content_view x.now es) ∙ ap (option_map content_view) (sym c.in-Some.ensures.value ∙ c.index_mut.ensures.value))
    (record { copied = ap (λ (d : Content). copied_length (content_view d)) is; viewed = ap (λ (d : Content). count_viewed (content_view d)) is })
    (written_there content_view x after es c.in-Some.place (sym c.in-Some.ensures.index))

pub returns : goal.returns
returns c =
    let es = c.self.inside.contents.entries in
    let x = c.as_bytes-name.result in
    let content = c.index_mut.result.now in
    let number = Scalar c.args.value in
    let kept = written_there content_view x c.put_number.new.place es c.in-Some.place (sym c.in-Some.ensures.index)
    ∙ ap (λ (d : Content). assign x.now (content_view d) (values content_view es)) (c.if-put_number.ensures.other refl)
    ∙ assigned_again x.now (content_view content) (values content_view es) (sym (looked_up content_view x.now es) ∙ ap (option_map content_view) (sym c.in-Some.ensures.value ∙ c.index_mut.ensures.value))
    ∙ ap variables_view c.self.view_is in
    IfOk-weaker c.set_named.result _ _ (λ u set. set
    ∙ ap (assign x.now number) kept
    ∙ ap (λ (y : Identifier). assign y number (variables_view c.args.self.now)) c.as_bytes-name.ensures) c.set_named.ensures
