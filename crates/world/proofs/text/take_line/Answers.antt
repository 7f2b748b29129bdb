use Rattle.std.proofs.Common.{ap, sym, ◌∙◌}
use Rattle.std.specs.Option.{option_map}
use Rattle.world.specs.Gathered.{gathered_read}
use Rattle.world.specs.GatheredViews.{gathered_of}
use Rattle.world_lines.specs.LineViews.{line_view}
use Rattle.world.proofs.text.take_line.Goals as goal

pub returns-in-None : goal.returns-in-None
unfolding gathered_read
returns-in-None c =
    rw c.told.ensures (sym (ap (gathered_read (gathered_of c.args.builder.now) c.args.number) (ap (option_map line_view) (sym c.in-None.is) ∙ c.in_ok-line.ensures)))
