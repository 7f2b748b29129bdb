use Rattle.std.proofs.Common.{arith}
use Rattle.std.proofs.lemmas.Grind.{common_steps}
use Rattle.machine_answers.proofs.at_once.+takes_at_once.Goals as goal

pub returns-then-takes_one-clause-none : goal.returns-then-takes_one-clause-none
returns-then-takes_one-clause-none t c is references =
    let here = c.takes_one.ensures.none c.if-takes_one.true references in
    let rest = c.takes_at_once.ensures.none is references in
    grind (arith, common_steps, here, rest)
