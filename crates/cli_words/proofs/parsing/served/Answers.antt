use Rattle.std.proofs.Common.{rules, codes, sym, ◌∙◌}
use Rattle.clap.specs.Matches.{found_of}
use Rattle.clap.specs.Walk.{rows_of}
use Rattle.cli_words.proofs.RequestLemmas.{value_is, none_named}
use Rattle.cli_words.proofs.parsing.served.Goals as goal

pub returns-in_err-get_str : goal.returns-in_err-get_str
returns-in_err-get_str c =
    none_named c.args.name.now (rows_of (found_of c.args.given.now)) c.from_residual.result c.requires
    (sym (value_is (found_of c.args.given.now) _ (codes "PROG") c.get_str.result c.get_str.ensures (search rules)) ∙ (search rules)) (search rules)

pub returns : goal.returns
returns c =
    c.command_of.ensures (rows_of (found_of c.args.given.now))
    (sym (value_is (found_of c.args.given.now) _ (codes "PROG") c.get_str.result c.get_str.ensures (search rules)) ∙ (search rules))
    (value_is (found_of c.args.given.now) _ (codes "WORLD") c.get_str-2.result c.get_str-2.ensures (search rules))
    (value_is (found_of c.args.given.now) _ (codes "FILE") c.get_str-3.result c.get_str-3.ensures (search rules))
    (value_is (found_of c.args.given.now) _ (codes "WORKERS") c.get_str-4.result c.get_str-4.ensures (search rules))
    (value_is (found_of c.args.given.now) _ (codes "JOURNAL") c.get_str-5.result c.get_str-5.ensures (search rules))
