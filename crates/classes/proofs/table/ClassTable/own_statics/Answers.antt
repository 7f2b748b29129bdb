use Rattle.std.proofs.Common.{true, ap, map}
use Rattle.classes.proofs.FoundFields.{identified}
use Rattle.classes.proofs.table.ClassTable.own_statics.Goals as goal

pub returns : goal.returns
returns c = ap (map (identified true c.args.class.number)) c.declared.ensures
