use Rattle.std.proofs.Common.{[], ◌∷◌, ◌∙◌, ap}
use Rattle.type_rules.specs.declared.known.Declared.{Declared}
use Rattle.type_rules.specs.Declarations.{IsIndexed}
use Rattle.type_rules.proofs.KnownDeclarations.{known_after-append, indexed_after}
use Rattle.type_rules.proofs.known.Known.declare.Goals as goal

pub invariant_of-self-in-Ok : goal.invariant_of-self-in-Ok
invariant_of-self-in-Ok g c =
    let d : Declared g.row.T.Denot = record { name = c.args.name; value = c.args.value; hidden = c.in-Ok.hidden } in
    let indexed : IsIndexed c.reserve.new.self.items c.self.inside.latest = rw c.in_ok-reserve.ensures.items c.self.invariant in
    rw c.push_reserved.ensures.items (indexed_after c.reserve.new.self.items d c.self.inside.latest c.as_bytes.result.now c.as_bytes.ensures c.insert.new.self indexed c.in-Ok.ensures.old c.in-Ok.ensures.updates)

pub returns-in-Ok : goal.returns-in-Ok
returns-in-Ok g c =
    rw (c.push_reserved.ensures.items, c.in_ok-reserve.ensures.items) (known_after-append c.self.inside.declared.items _ [] ∙ ap (λ known. (c.args.name.now, c.args.value) ∷ known) c.self.view_is)
