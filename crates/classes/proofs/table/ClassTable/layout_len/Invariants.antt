use Rattle.std.proofs.Common.{◌≡◌, ◌+◌, ◌-◌, length}
use Rattle.class_rules.specs.Fields.{layout}
use Rattle.classes.proofs.Layouts.{layout_within}
use Rattle.classes.proofs.table.ClassTable.layout_len.Given as goal

abbrev pub invariant-loop : goal.invariant-loop
invariant-loop l = l.count + length (layout_within (l.end - l.counter) l.self l.ancestor.number) ≡ length (layout l.self l.fn.class.number)
