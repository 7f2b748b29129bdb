use Rattle.std.proofs.Common.{◌≡◌, ◌-◌}
use Rattle.classes.specs.FieldViews.{find_as}
use Rattle.classes.proofs.FoundFields.{found_within}
use Rattle.classes.proofs.table.ClassTable.find_handle.Given as goal

abbrev pub invariant-loop : goal.invariant-loop
invariant-loop l = found_within (l.end - l.counter) l.self l.declarer.number l.name l.text l.is_static ≡ find_as l.self l.fn.class.number l.name l.text l.is_static
