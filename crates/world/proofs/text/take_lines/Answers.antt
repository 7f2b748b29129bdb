use Rattle.std.proofs.Common.{subst}
use Rattle.std.proofs.lemmas.Result.{err_from_is_err_and}
use Rattle.world.specs.Gathered.{all_read, OnGathered}
use Rattle.world.specs.GatheredViews.{gathered_of}
use Rattle.world.specs.LinesLeft.{lines_left}
use Rattle.world.proofs.ReadingGathered.{none_left, line_taken, line_stops}
use Rattle.world.proofs.text.take_lines.Goals as goal

pub loop-line-preserved : goal.loop-line-preserved
loop-line-preserved c =
    let all = all_read (gathered_of c.args.builder.now) c.args.first (lines_left c.args.first c.args.lines.now) in
    let left = lines_left c.loop-line.number c.loop-line.lines in
    let rest = lines_left c.next_line.new.number c.next_line.new.lines in
    record {
      reading = line_taken (gathered_of c.loop-line.builder) c.loop-line.last left all c.loop-line.invariant.reading c.next_line.new.number c.in-Some.line.now rest c.in-Some.ensures.line (gathered_of c.take_line.new.builder) c.in_ok-take_line.ensures;
      few = c.next_line.ensures.few;
    }

pub returns-in_err-take_line : goal.returns-in_err-take_line
returns-in_err-take_line c =
    let p = err_from_is_err_and c.from_residual.result c.from_residual.ensures.1 in
    let all = all_read (gathered_of c.args.builder.now) c.args.first (lines_left c.args.first c.args.lines.now) in
    let left = lines_left c.loop-line.number c.loop-line.lines in
    let rest = lines_left c.next_line.new.number c.next_line.new.lines in
    rw (p.1, p.2)
    (line_stops (gathered_of c.loop-line.builder) c.loop-line.last left all c.loop-line.invariant.reading c.next_line.new.number c.in-Some.line.now rest c.in-Some.ensures.line c.in_err-take_line.field-0.0 c.in_err-take_line.ensures)

pub returns : goal.returns
returns c =
    let g = gathered_of c.loop-line.builder in
    let all = all_read (gathered_of c.args.builder.now) c.args.first (lines_left c.args.first c.args.lines.now) in
    subst (OnGathered c.check_threads.result g)
    (none_left g c.loop-line.last (lines_left c.loop-line.number c.loop-line.lines) all c.loop-line.invariant.reading c.in_default.ensures.line) c.check_threads.ensures
