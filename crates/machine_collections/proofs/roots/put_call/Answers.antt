use Rattle.std.proofs.Common.{◌≡◌, Option, Some, sym, ap, ◌∙◌, subst}
use Rattle.std.specs.Option.{option_map}
use Rattle.tables.specs.Locals.{LocalTable}
use Rattle.machine_scenes.specs.declared.activation.Activation.{Activation}
use Rattle.machine_collections.specs.Moving.{AreMovedAt, moved_call}
use Rattle.machine_collections.specs.Roots.{slots_of}
use Rattle.machine_collections.proofs.roots.put_call.Goals as goal

pub returns-in-Some-clause-moved : goal.returns-in-Some-clause-moved
returns-in-Some-clause-moved c = λ to h.
    let lent = c.get_mut-activation.result.now in
    let is : c.args.call.now ≡ Some lent = c.in-Some.is ∙ ap (λ (call : Activation). Some call) (sym c.get_mut-activation.ensures.value) in
    let locals = c.put_locals.ensures.moved to (subst (λ (o : Option Activation). AreMovedAt to (slots_of o) c.args.roots.now.places.items c.args.from) is h) in
    ap (λ (l : LocalTable). let activation : Activation = record lent { locals = l } in Some activation) locals ∙ sym (ap (option_map (moved_call to)) is)
