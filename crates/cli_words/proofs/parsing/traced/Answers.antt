use Rattle.std.proofs.Common.{rules, codes}
use Rattle.clap.specs.Matches.{found_of}
use Rattle.clap.specs.Walk.{rows_of}
use Rattle.cli_words.proofs.RequestLemmas.{value_is}
use Rattle.cli_words.proofs.parsing.traced.Goals as goal

pub returns : goal.returns
returns c =
    c.traced_of.ensures (rows_of (found_of c.args.given.now))
    (value_is (found_of c.args.given.now) _ (codes "TRACE") c.get_str.result c.get_str.ensures (search rules))
    (value_is (found_of c.args.given.now) _ (codes "TRACE_CALLS") c.get_str-2.result c.get_str-2.ensures (search rules))
