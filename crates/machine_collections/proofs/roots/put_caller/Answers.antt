use Rattle.std.proofs.Common.{◌≡◌, ap, sym, subst}
use Rattle.tables.specs.Locals.{LocalTable}
use Rattle.machine_scenes.specs.declared.activation.Activation.{Activation}
use Rattle.machine_collections.specs.Moving.{AreMovedAt, moved_call}
use Rattle.machine_collections.specs.Roots.{call_places}
use Rattle.machine_collections.proofs.roots.put_caller.Goals as goal

pub returns-clause-moved : goal.returns-clause-moved
returns-clause-moved c = λ to h.
    let lent = c.get_mut-activation.result.now in
    let same = c.get_mut-activation.ensures.value in
    let put = c.put_locals.ensures.moved to (subst (λ (call : Activation). AreMovedAt to (call_places call) c.args.roots.now.places.items c.args.from) (sym same) h) in
    subst (λ (call : Activation). (let after : Activation = record lent { locals = c.put_locals.new.locals } in after) ≡ moved_call to call) same
    (ap (λ (l : LocalTable). let call : Activation = record lent { locals = l } in call) put)
