use Rattle.code_meaning.proofs.Given.{none_given}
use Rattle.code_meaning.proofs.parameters.Parameters.first.Goals as goal

pub returns-in-empty-2-clause-none : goal.returns-in-empty-2-clause-none
returns-in-empty-2-clause-none c = λ arguments. none_given c.args.self.calls c.args.self.own.now arguments c.in-empty.len_below c.if-self.false
