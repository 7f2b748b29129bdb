use Rattle.std.proofs.Common.{◌≡◌, ℕ, Option, Some, ap, ◌∙◌}
use Rattle.std.specs.Prelude.{is_some}
use Rattle.std.specs.Int.{w32, cast_signed}
use Rattle.class_rules.specs.Fields.{layout}
use Rattle.classes.specs.declared.class.FieldHandle.{FieldHandle}
use Rattle.heap.specs.declared.value.Value.{Value}
use Rattle.semantics.specs.Heap.{place_in}
use Rattle.machine_scenes.specs.Given.{field_there}
use Rattle.machine_answers.specs.AnswersSeen.{reference_there}
use Rattle.machine_answers.specs.Sights.{name_seen}
use Rattle.machine_answers.specs.WorkedOut.{address_in, value_there, word_in}
use Rattle.machine_answers.proofs.SightValues.{address_held, number_held, reference_held}
use Rattle.machine_answers.proofs.at_once.value_at.Goals as goal

pub returns-clause-number : goal.returns-clause-number
returns-clause-number c =
    let space = c.args.scene.now.heap.now in
    let classes = c.args.scene.now.classes.now in
    let own = ap (λ (o : Option FieldHandle). (field_there classes o).is_static) c.field.ensures ∙ c.requires.own in
    let place = c.field_place-place.ensures (ap is_some c.field.ensures) own ∙ (λ i. place_in (field_there classes (c.field.ensures i)) (layout classes (c.requires.class i))) in
    ap (λ (v : Option Value). cast_signed w32 (word_in v)) (c.value_there.ensures ∙ ap (value_there space (Some c.args.spot.now.object)) place)
    ∙ number_held space (Some c.args.spot.now.object) _

pub returns-clause-reference : goal.returns-clause-reference
returns-clause-reference c =
    let space = c.args.scene.now.heap.now in
    let classes = c.args.scene.now.classes.now in
    let own = ap (λ (o : Option FieldHandle). (field_there classes o).is_static) c.field.ensures ∙ c.requires.own in
    let place = c.field_place-place.ensures (ap is_some c.field.ensures) own ∙ (λ i. place_in (field_there classes (c.field.ensures i)) (layout classes (c.requires.class i))) in
    ap (λ (v : Option Value). name_seen space (address_in v)) (c.value_there.ensures ∙ ap (value_there space (Some c.args.spot.now.object)) place)
    ∙ reference_held space (Some c.args.spot.now.object) _

pub returns-clause-there : goal.returns-clause-there
returns-clause-there c cells =
    let space = c.args.scene.now.heap.now in
    ap (λ (v : Option Value). reference_there space (address_in v)) c.value_there.ensures
    ∙ address_held space cells (Some c.args.spot.now.object) c.field_place-place.result
