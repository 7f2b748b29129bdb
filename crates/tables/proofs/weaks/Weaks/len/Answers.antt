use Rattle.std.proofs.Common.{sym}
use Rattle.slab.specs.Slab.{get}
use Rattle.tables.proofs.Keys.{length-listed}
use Rattle.tables.proofs.weaks.Weaks.len.Goals as goal

pub returns : goal.returns
returns c = rw (← c.self.view_is) (sym (length-listed (get c.self.inside.slots) c.self.inside.end))
