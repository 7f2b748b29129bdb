use Rattle.std.proofs.Common.{rules, codes, sym, ◌∙◌}
use Rattle.clap.specs.Matches.{found_of}
use Rattle.clap.specs.Walk.{rows_of}
use Rattle.cli_words.proofs.RequestLemmas.{value_is, values_are, none_checked}
use Rattle.cli_words.proofs.parsing.checked.Goals as goal

pub returns-in-Some : goal.returns-in-Some
returns-in-Some c =
    c.check_of.ensures (rows_of (found_of c.args.given.now))
    (sym (values_are (found_of c.args.given.now) _ (codes "PROG") c.get_raw.result c.get_raw.ensures (search rules)) ∙ (search rules))
    (value_is (found_of c.args.given.now) _ (codes "ALL") c.get_str.result c.get_str.ensures (search rules))
    (value_is (found_of c.args.given.now) _ (codes "SARIF") c.get_str-in-Some.result c.get_str-in-Some.ensures (search rules))

pub returns-in-None : goal.returns-in-None
returns-in-None c =
    none_checked (rows_of (found_of c.args.given.now))
    (sym (values_are (found_of c.args.given.now) _ (codes "PROG") c.get_raw.result c.get_raw.ensures (search rules)) ∙ (search rules))
