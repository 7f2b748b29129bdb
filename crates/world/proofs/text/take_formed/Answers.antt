use Rattle.std.proofs.Common.{ap, sym, ◌∙◌, Ok, Err}
use Rattle.world.specs.Gathered.{gathered_read, with_line}
use Rattle.world.specs.GatheredViews.{gathered_of}
use Rattle.world_lines.specs.LineViews.{line_view}
use Rattle.world.specs.ReadingWorlds.{ruled}
use Rattle.world.proofs.ReadingGathered.{held_same}
use Rattle.world.proofs.text.take_formed.Goals as goal

pub returns-in-Some : goal.returns-in-Some
unfolding gathered_read
returns-in-Some c =
    rw c.told.ensures
    (ap (λ rule. ruled c.args.number rule (with_line (gathered_of c.args.builder.now) c.args.number (line_view c.args.line.now))) (sym c.in-Some.ensures)
    ∙ ap (λ rule. Err (record { rule = rule; line = c.args.number })) (held_same c.in-Some.rule))

pub returns : goal.returns
unfolding gathered_read
returns c =
    ap (λ rule. ruled c.args.number rule (with_line (gathered_of c.args.builder.now) c.args.number (line_view c.args.line.now))) (sym c.in_default.ensures)
    ∙ ap Ok (sym c.in_ok-take.ensures)
