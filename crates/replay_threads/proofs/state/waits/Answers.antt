use Rattle.std.proofs.Common.{sym, ◌∙◌}
use Rattle.replay_threads.proofs.StateLemmas.{free_unowned}
use Rattle.replay_threads.proofs.state.waits.Goals as goal

pub returns-then-is_empty : goal.returns-then-is_empty
returns-then-is_empty c = λ unit w s h range. free_unowned unit w c.args.state.now s h range c.args.k (sym c.is_empty.ensures ∙ c.if-is_empty.true)
