use Rattle.std.proofs.Common.{sym, ◌∙◌, subst}
use Rattle.std.proofs.lemmas.Result.{err_from_is_err_and}
use Rattle.world_schedules.specs.Reading.{Gives}
use Rattle.world.specs.LinesLeft.{lines_left}
use Rattle.world.proofs.ReadingGathered.{text_left, no_heap, heap_stops, heap_taken, world_means}
use Rattle.world.proofs.text.read_world.Goals as goal

pub returns-in_default-clause-read : goal.returns-in_default-clause-read
returns-in_default-clause-read c =
    rw c.told.ensures (no_heap c.args.text.now (sym (text_left c.new-lines.result c.args.text.now c.new-lines.ensures.parts) ∙ c.in_default.ensures.line))

pub returns-in_err-cells-clause-read : goal.returns-in_err-cells-clause-read
returns-in_err-cells-clause-read c =
    let p = err_from_is_err_and c.from_residual.result c.from_residual.ensures.1 in
    let first = sym (text_left c.new-lines.result c.args.text.now c.new-lines.ensures.parts) ∙ c.in-Some.ensures.line in
    rw (p.1, p.2) (heap_stops c.next_line.new.number c.in-Some.heap.now (lines_left c.next_line.new.number c.next_line.new.lines) c.args.text.now c.in_err-cells.field-0.0 first c.in_err-cells.ensures.read)

pub returns-clause-read : goal.returns-clause-read
returns-clause-read c =
    let first = sym (text_left c.new-lines.result c.args.text.now c.new-lines.ensures.parts) ∙ c.in-Some.ensures.line in
    subst (Gives (λ w. w) c.read_lines.result)
    (sym (heap_taken c.next_line.new.number c.in-Some.heap.now (lines_left c.next_line.new.number c.next_line.new.lines) c.args.text.now (c.in_ok-cells.cells, c.in_ok-cells.methods) first c.in_ok-cells.ensures.read)) c.read_lines.ensures

pub returns-clause-means : goal.returns-clause-means
returns-clause-means c = world_means c.args.text.now c.read_lines.result (returns-clause-read c)
