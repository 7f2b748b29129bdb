use Rattle.std.proofs.Common.{subst, sym}
use Rattle.classes.specs.Tables.{IsTable}
use Rattle.classes.proofs.KeptTables.{listed-table}
use Rattle.classes.proofs.table.ClassTable.new.Goals as goal

pub invariant_of-result : goal.invariant_of-result
invariant_of-result c = subst IsTable (sym c.in_ok-classes.ensures) (listed-table c.args.built_ins.now c.requires)
