-- What the lines so far say, as it is held in memory.
use Rattle.std.specs.Prelude.{map}
use Rattle.world.specs.declared.builder.WorldBuilder.{WorldBuilder}
use Rattle.world.specs.Gathered.{Gathered}

abbrev pub gathered_of : WorldBuilder → Gathered
gathered_of b = record {
  heap_line = b.heap_line;
  methods = b.methods;
  cells = b.cells;
  classes = b.classes;
  names = b.names;
  objects = b.objects.items;
  threads = map (λ t. t.items) b.threads.items;
  used = b.used;
  part = b.part;
}
