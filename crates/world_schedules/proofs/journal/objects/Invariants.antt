use Rattle.std.proofs.Common.{◌≡◌}
use Rattle.semantics.specs.Views.{names_of}
use Rattle.world_schedules.specs.Split.{parts_of, parts_left}
use Rattle.world_schedules.specs.ReadingJournals.{names_spelled}
use Rattle.world_schedules.proofs.WordLemmas.{after}
use Rattle.world_schedules.proofs.journal.objects.Given as goal

-- the names so far and those of what is left are those of the parts
abbrev pub invariant-loop-part : goal.invariant-loop-part
invariant-loop-part l = after (names_of l.objects.items) (names_spelled (parts_left l.part-iterator)) ≡ names_spelled (parts_of 44 l.names)
