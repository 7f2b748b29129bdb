use Rattle.std.proofs.Common.{sym, ◌∙◌}
use Rattle.world_schedules.proofs.SingleTurns.{goes_on, begins_with}
use Rattle.world_schedules.proofs.schedule.single_turns.Goals as goal

pub loop-turn-preserved : goal.loop-turn-preserved
loop-turn-preserved c =
    rw c.in_ok-push.ensures.items
    (sym (goes_on c.args.threads c.loop-turn.rest.now c.loop-turn.turns.items c.in-Some.turn c.in-Some.after.now (sym c.in-Some.ensures)) ∙ c.loop-turn.invariant)

pub loop-turn-smaller : goal.loop-turn-smaller
loop-turn-smaller c = (begins_with c.args.threads c.loop-turn.rest.now c.in-Some.turn c.in-Some.after.now (sym c.in-Some.ensures)).shorter
