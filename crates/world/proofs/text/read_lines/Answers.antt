use Rattle.std.proofs.Common.{Ok, sym, ap, ◌∙◌}
use Rattle.std.proofs.lemmas.Result.{err_from_is_err_and}
use Rattle.world.specs.GatheredViews.{gathered_of}
use Rattle.world.specs.LinesLeft.{lines_left}
use Rattle.world.proofs.ReadingGathered.{make_world, stop_reading}
use Rattle.world.proofs.text.read_lines.Goals as goal

pub taken_apart-requires : goal.taken_apart-requires
taken_apart-requires c =
    (make_world (gathered_of c.in_ok-builder.builder) c.args.number c.args.cells c.args.methods (lines_left c.args.number c.args.lines.now) c.requires.size c.in_ok-builder.ensures (gathered_of c.take_lines.new.builder) c.in_ok-take_lines.ensures).1

pub returns-in_err-take_lines : goal.returns-in_err-take_lines
returns-in_err-take_lines c =
    let p = err_from_is_err_and c.from_residual-in_err-take_lines.result c.from_residual-in_err-take_lines.ensures.1 in
    rw (p.1, p.2)
    (stop_reading (gathered_of c.in_ok-builder.builder) c.args.number c.args.cells c.args.methods (lines_left c.args.number c.args.lines.now) c.requires.size c.in_ok-builder.ensures c.in_err-take_lines.field-0.0 c.in_err-take_lines.ensures)

pub returns : goal.returns
returns c =
    (make_world (gathered_of c.in_ok-builder.builder) c.args.number c.args.cells c.args.methods (lines_left c.args.number c.args.lines.now) c.requires.size c.in_ok-builder.ensures (gathered_of c.take_lines.new.builder) c.in_ok-take_lines.ensures).0
    ∙ ap Ok (sym c.taken_apart.ensures)
