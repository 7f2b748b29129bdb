use Rattle.std.proofs.Common.{map}
use Rattle.clap.specs.Simple.{app_of}
use Rattle.cli_words.proofs.CommandLineLemmas.{faults_of, found_of_line}
use Rattle.cli_words.proofs.parsing.matches_of.Goals as goal

pub returns-in-Ok-clause-kinds : goal.returns-in-Ok-clause-kinds
returns-in-Ok-clause-kinds g c =
    faults_of (app_of c.in-Ok.command) (map g.S.AsStr.text c.args.words.now) c.try_get_matches_from.result c.in-Ok.ensures c.try_get_matches_from.ensures.kinds

pub returns-in-Ok-clause-found : goal.returns-in-Ok-clause-found
returns-in-Ok-clause-found g c =
    found_of_line (app_of c.in-Ok.command) (map g.S.AsStr.text c.args.words.now) c.try_get_matches_from.result c.in-Ok.ensures c.try_get_matches_from.ensures.matches
