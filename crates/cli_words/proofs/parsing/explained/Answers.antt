use Rattle.std.proofs.Common.{rules, codes, sym, ◌∙◌}
use Rattle.clap.specs.Matches.{found_of}
use Rattle.clap.specs.Walk.{rows_of}
use Rattle.cli_words.proofs.ExplanationLemmas.{none_said}
use Rattle.cli_words.proofs.RequestLemmas.{value_is}
use Rattle.cli_words.proofs.parsing.explained.Goals as goal

pub returns : goal.returns
returns c =
    c.explanation_of.ensures (rows_of (found_of c.args.given.now))
    (sym (value_is (found_of c.args.given.now) _ (codes "N") c.get_str.result c.get_str.ensures (search rules)) ∙ (search rules))
    (value_is (found_of c.args.given.now) _ (codes "NUMBER") c.get_str-2.result c.get_str-2.ensures (search rules))

pub returns-in_err-get_str : goal.returns-in_err-get_str
returns-in_err-get_str c =
    none_said (rows_of (found_of c.args.given.now)) c.from_residual.result
    (sym (value_is (found_of c.args.given.now) _ (codes "N") c.get_str.result c.get_str.ensures (search rules)) ∙ (search rules)) (search rules)
