use Rattle.std.proofs.Common.{◌≡◌, length}
use Rattle.world_schedules.specs.SingleTurns.{single_turns, with_turns}
use Rattle.world_schedules.proofs.schedule.single_turns.Given as goal

-- the turns so far and those of what is left are those of the text
abbrev pub invariant-loop-turn : goal.invariant-loop-turn
invariant-loop-turn l = with_turns l.threads l.turns.items l.rest ≡ single_turns l.threads l.text

abbrev pub decreases-loop-turn : goal.decreases-loop-turn
decreases-loop-turn l = length l.rest
