use Rattle.std.proofs.Common.{rules}
use Rattle.cli_words.proofs.ExplanationLemmas.{no_fault_said, no_trap_said}
use Rattle.cli_words.proofs.parsing.explanation_of.Goals as goal

pub returns-in_err-ok-in-None : goal.returns-in_err-ok-in-None
returns-in_err-ok-in-None c rows first second =
    no_fault_said rows c.args.first.now c.parse.result c.from_residual.result c.parse.ensures.value.0 (λ m e. search (rules, e)) first (search (rules, second)) (search rules)

pub returns-in_err-ok-in-Some : goal.returns-in_err-ok-in-Some
returns-in_err-ok-in-Some c rows first second =
    no_trap_said rows c.in-Some.number.now c.parse-in-Some.result c.from_residual-in_err-ok-in-Some.result c.parse-in-Some.ensures.value.0 (λ m e. search (rules, e)) (search (rules, second)) (search rules)
