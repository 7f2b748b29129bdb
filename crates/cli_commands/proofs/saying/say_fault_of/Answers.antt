use Rattle.std.proofs.Common.{◌++◌, codes}
use Rattle.std.proofs.lemmas.Result.{err_from_is_err_and}
use Rattle.sinks.proofs.Puts.{StopsWithin-more, Writes-then}
use Rattle.cli_commands.specs.Saying.{fault_line}
use Rattle.cli_commands.proofs.saying.say_fault_of.Goals as goal

pub returns-in_err-put_pieces-clause-text : goal.returns-in_err-put_pieces-clause-text
returns-in_err-put_pieces-clause-text g c =
    let p = err_from_is_err_and c.from_residual.result c.from_residual.ensures.1 in
    rw p.1 (StopsWithin-more _ _ (c.args.name.now ++ codes ": ") (fault_line c.args.number c.args.place) c.in_err-put_pieces.ensures)

pub returns-clause-text : goal.returns-clause-text
returns-clause-text g c =
    Writes-then _ _ _ c.say_fault.result (c.args.name.now ++ codes ": ") (fault_line c.args.number c.args.place) c.in_ok-put_pieces.ensures c.say_fault.ensures.text
