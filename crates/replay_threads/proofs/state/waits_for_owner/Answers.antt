use Rattle.std.proofs.Common.{◌-◌, arith}
use Rattle.replay_threads.proofs.StateLemmas.{blocked_as, element_at, free_nobody, free_past}
use Rattle.replay_threads.proofs.state.waits_for_owner.Goals as goal

pub returns-then-k-eq0 : goal.returns-then-k-eq0
returns-then-k-eq0 c = λ unit w s h range. free_nobody unit w c.args.state.now s h range c.args.k (omega arith)

pub returns-then-len-k : goal.returns-then-len-k
returns-then-len-k c = λ unit w s h range. free_past unit w c.args.state.now s h range c.args.k (omega arith)

pub returns : goal.returns
returns c = λ unit w s h range.
    let at = element_at c.args.state.now.threads c.args.k c.len.result c.index.result.now c.if-k-eq0.false c.if-len-k.false c.len.ensures c.index.ensures in
    blocked_as unit w c.args.state.now s h range c.args.k (c.args.k - 1) c.index.result.now c.classes-classes.result.now c.is_waiting.result (omega arith) at c.classes-classes.ensures.classes c.is_waiting.ensures
