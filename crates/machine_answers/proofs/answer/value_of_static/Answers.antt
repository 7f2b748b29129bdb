use Rattle.std.proofs.Common.{Option, ap, ◌∙◌}
use Rattle.std.specs.Int.{w32, cast_signed}
use Rattle.heap.specs.declared.value.Value.{Value}
use Rattle.machine_answers.specs.AnswersSeen.{reference_there}
use Rattle.machine_answers.specs.Sights.{name_seen}
use Rattle.machine_answers.specs.WorkedOut.{address_in, value_there, word_in}
use Rattle.machine_answers.proofs.SightValues.{address_held, number_held, reference_held}
use Rattle.machine_answers.proofs.answer.value_of_static.Goals as goal

pub returns-clause-number : goal.returns-clause-number
returns-clause-number c given own =
    let space = c.args.scene.now.heap.now in
    let value = c.value_there.ensures ∙ (λ i. value_there space (c.holder_of_static-holder.ensures.is given i) (c.place_of_static.ensures given own i)) in
    ap (λ (v : Option Value). cast_signed w32 (word_in v)) value ∙ number_held space _ _

pub returns-clause-reference : goal.returns-clause-reference
returns-clause-reference c given own =
    let space = c.args.scene.now.heap.now in
    let value = c.value_there.ensures ∙ (λ i. value_there space (c.holder_of_static-holder.ensures.is given i) (c.place_of_static.ensures given own i)) in
    ap (λ (v : Option Value). name_seen space (address_in v)) value ∙ reference_held space _ _

pub returns-clause-there : goal.returns-clause-there
returns-clause-there c cells =
    let space = c.args.scene.now.heap.now in
    ap (λ (v : Option Value). reference_there space (address_in v)) c.value_there.ensures ∙ address_held space cells c.holder_of_static-holder.result c.place_of_static.result
