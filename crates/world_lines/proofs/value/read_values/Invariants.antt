use Rattle.std.proofs.Common.{◌≡◌, map, drop}
use Rattle.world_schedules.proofs.WordLemmas.{after}
use Rattle.world_lines.specs.LineViews.{value_view}
use Rattle.world_lines.specs.ReadingValues.{values_named}
use Rattle.world_lines.proofs.value.read_values.Given as goal

-- the values so far and those of the words that are left are all of them
abbrev pub invariant-loop-word : goal.invariant-loop-word
invariant-loop-word l = after (map value_view l.values.items) (values_named (map (λ w. w.now) (drop l.word-index l.words))) ≡ values_named (map (λ w. w.now) l.words)
