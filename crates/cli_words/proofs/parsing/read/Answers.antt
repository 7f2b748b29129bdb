use Rattle.std.proofs.Common.{map}
use Rattle.cli_words.proofs.RequestLemmas.{read_told, read_taken}
use Rattle.cli_words.proofs.parsing.read.Goals as goal

pub returns-in-Ok : goal.returns-in-Ok
returns-in-Ok g c = read_taken (map g.S.AsStr.text c.args.words.now) c.in-Ok.request c.in-Ok.ensures.0 c.in-Ok.ensures.1

pub returns-in-Err : goal.returns-in-Err
returns-in-Err g c = read_told (map g.S.AsStr.text c.args.words.now) c.in-Err.error c.told.result c.told.ensures c.in-Err.ensures
