use Rattle.std.proofs.Common.{◌≡◌, length, map}
use Rattle.base.specs.Bytes.{lookup}
use Rattle.scan.specs.WordTable.{row_value}
use Rattle.scan.proofs.reserved.listed_in.Given as goal

abbrev pub invariant-loop-rows : goal.invariant-loop-rows
invariant-loop-rows l = lookup l.bytes (map row_value l.rows) ≡ lookup l.bytes (map row_value l.initial.rows)

abbrev pub decreases-loop-rows : goal.decreases-loop-rows
decreases-loop-rows l = length l.rows
