use Rattle.std.proofs.Common.{◌≡◌, ℤ, w32, refl, ap, ◌∙◌, subst}
use Rattle.std.proofs.Math.Facts.{to_z-of_z}
use Rattle.std.proofs.lemmas.Result.{IfOk-weaker}
use Rattle.semantics.specs.Heap.{number_in, value_at}
use Rattle.replay_arguments.specs.Shares.{shared_view}
use Rattle.replay_steps.specs.FieldCalls.{PutsNumber}
use Rattle.replay_steps.proofs.FieldLemmas.{read_tried}
use Rattle.replay_steps.proofs.field_calls.read.Goals as goal

pub returns : goal.returns
returns c =
    let i = c.args.i.now in
    let s = shared_view c.args.shared.now in
    let vs = c.args.variables.now in
    let names = c.in-Some.names in
    let at = c.in-Some-named_place.at in
    let new = c.put_number.new.variables in
    let number : c.held_number-number.result ≡ number_in (value_at s.heap at.object.number at.place) = c.held_number-number.ensures ∙ ap number_in c.value_at.ensures in
    let passed = to_z-of_z {w = w32} (record { sfits = c.held_number-number.type_inv }) ∙ number in
    IfOk-weaker c.put_number.result _ _ (λ took puts.
    read_tried c.args.classes.now s vs c.args.element names.object.now names.field.now at.object.number at.place c.in-Some-named_place.ensures i c.requires.reads c.in-Some.ensures i.purpose refl took new
    (subst (λ (z : ℤ). PutsNumber vs i.purpose z took new) passed puts)) c.put_number.ensures
