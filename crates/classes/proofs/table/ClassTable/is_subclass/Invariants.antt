use Rattle.std.proofs.Common.{◌≡◌, ◌-◌}
use Rattle.class_rules.specs.Class.{is_subclass}
use Rattle.classes.proofs.Ancestry.{is_among}
use Rattle.classes.proofs.table.ClassTable.is_subclass.Given as goal

abbrev pub invariant-loop : goal.invariant-loop
invariant-loop l = is_among (l.end - l.counter) l.self l.ancestor.number l.other.number ≡ is_subclass l.self l.fn.class.number l.other.number
