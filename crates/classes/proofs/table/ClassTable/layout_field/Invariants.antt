use Rattle.std.proofs.Common.{◌≡◌, ◌-◌, ◌<◌, length, slice_get}
use Rattle.class_rules.specs.Fields.{layout}
use Rattle.classes.proofs.Layouts.{layout_within}
use Rattle.classes.proofs.table.ClassTable.layout_field.Given as goal

abbrev pub invariant-loop : goal.invariant-loop
invariant-loop l = record {
  within : l.place < l.count;
  counted : l.count ≡ length (layout_within (l.end - l.counter) l.self l.declarer.number);
  same : slice_get (layout_within (l.end - l.counter) l.self l.declarer.number) l.place ≡ slice_get (layout l.self l.fn.class.number) l.place;
}
