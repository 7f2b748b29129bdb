use Rattle.std.proofs.Common.{sym}
use Rattle.classes.proofs.NamedFields.{has_it}
use Rattle.classes.proofs.own_fields.OwnFields.has.Goals as goal

pub returns-in-Some : goal.returns-in-Some
returns-in-Some c =
    let at = c.in-Some.ensures in
    sym (has_it c.args.name.now c.args.self.now c.in-Some.field-0 at.0 at.1 at.2)

pub returns-in-None : goal.returns-in-None
returns-in-None c = sym c.in-None.ensures
