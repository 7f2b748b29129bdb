use Rattle.std.proofs.Common.{subst}
use Rattle.classes.specs.Tables.{IsTable}
use Rattle.classes.proofs.FieldPlaces.{static_placed}
use Rattle.classes.proofs.table.ClassTable.static_place.Goals as goal

pub returns : goal.returns
returns c = λ f there kind. static_placed c.args.self.now c.args.handle f (subst IsTable c.self.view_is c.self.invariant).declared_once there kind
