use Rattle.std.proofs.Common.{refl}
use Rattle.cli.specs.Answers.{is_none}
use Rattle.cli.proofs.answering.explain.Goals as goal

pub returns-in-Some : goal.returns-in-Some
returns-in-Some g c = rw c.in-Some.is c.show.ensures

pub returns-in-None : goal.returns-in-None
returns-in-None g c = rw c.in-None.is (rw c.decline.ensures.0 (is_none _ (λ t h. h) refl c.decline.ensures.1))
