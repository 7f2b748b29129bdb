use Rattle.std.proofs.Common.{false, map}
use Rattle.world_values.specs.declared.part.Part.TheVariants as parts
use Rattle.world.proofs.text.begun_plainly.Goals as goal

pub returns : goal.returns
returns c = λ i. record {
  heap_line = c.args.heap_line;
  methods = false;
  cells = c.args.cells;
  classes = c.in_ok-classes.ensures i;
  names = c.new.ensures i;
  objects = c.new-2.ensures.items i;
  threads = map (λ t. t.items) (c.new-3.ensures.items i);
  used = c.least_used-used.ensures.used i;
  part = parts.Classes;
}
