use Rattle.std.proofs.Common.{◌≡◌, ℤ, w32, ap, ◌∙◌, rules}
use Rattle.std.proofs.Math.Facts.{to_z-of_z}
use mir.Val.{SFits}
use Rattle.semantics.specs.Heap.{Heap, with_value_at}
use Rattle.semantics.specs.Object.{Number}
use Rattle.semantics.specs.Thread.{Shared}
use Rattle.semantics.specs.Value.{convert}
use Rattle.replay_arguments.specs.Shares.{shared_view}
use Rattle.replay_tasks.specs.declared.outcome.Purpose.TheVariants as purposes
use Rattle.replay_tasks.specs.declared.outcome.Target.TheVariants as targets
use Rattle.replay_steps.proofs.FieldLemmas.{write_tried}
use Rattle.replay_steps.proofs.field_calls.write.Goals as goal

pub returns : goal.returns
returns c =
    let element = c.args.element in
    let s = shared_view c.args.shared.now in
    let names = c.in-Some.names in
    let at = c.in-Some-named_place.at in
    let z = c.in-Some.number in
    let given : SFits w32 z = search rules in
    let passed = to_z-of_z {w = w32} (record { sfits = c.convert-number.type_inv }) ∙ c.convert-number.ensures ∙ ap (convert element) (to_z-of_z {w = w32} given) in
    let written = c.set.ensures ∙ ap (λ (y : ℤ). with_value_at s.heap at.object.number at.place (Number y)) passed in
    let dropped : c.args.i.now.purpose ≡ purposes.Put targets.Dropped = search rules in
    write_tried c.args.classes.now s c.args.variables.now element names.object.now names.field.now at.object.number at.place c.in-Some-named_place.ensures c.args.i.now z
    (record s { heap = c.set.new.self }) c.requires.writes c.in-Some.ensures dropped (ap (λ (heap : Heap). let s' : Shared = record s { heap = heap } in s') written)
