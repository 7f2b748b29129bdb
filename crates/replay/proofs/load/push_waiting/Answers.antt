use Rattle.replay.proofs.load.push_waiting.Goals as goal

pub returns : goal.returns
returns c = record { thread = c.waiting.result; waiting = c.waiting.ensures; added = c.in_ok-push.ensures.items }
