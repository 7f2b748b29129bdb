use Rattle.std.proofs.Common.{◌≡◌}
use Rattle.std.specs.List.{list_all}
use Rattle.class_rules.specs.Mangling.{is_simple_name}
use Rattle.world_schedules.specs.Split.{parts_left}
use Rattle.world_lines.proofs.words.are_simple_names.Given as goal

abbrev pub invariant-loop-part : goal.invariant-loop-part
invariant-loop-part l = list_all is_simple_name (parts_left l.parts) ≡ list_all is_simple_name (parts_left l.initial.parts)
