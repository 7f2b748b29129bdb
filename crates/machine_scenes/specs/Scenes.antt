-- What a call sees.
use Rattle.std.specs.Prelude.{ℕ, List, Option}
use Rattle.class_rules.specs.Class.{Classes}
use Rattle.heap.specs.Heap.{Space}
use Rattle.syntax.specs.Tree.{SourceUnit}
use Rattle.syntax.specs.Views.{unit_tree}
use Rattle.monitors.specs.declared.monitors.Monitor.{Monitor}
use Rattle.machine_scenes.specs.declared.buffer.Buffer.{Buffer}
use Rattle.machine_scenes.specs.declared.handle.Handle.{Handle}
use Rattle.machine_scenes.specs.declared.scene.Scene.{Scene as InMemory}
use Rattle.machine_scenes.specs.Statics.{References}

-- the unit, the classes, the heap, the addresses of the objects made at load, what operands name, the field IDs, the method IDs and the
-- buffers in slots, the words on the stack, the exception that is pending, the monitors that threads own, and the number of its thread
pub record Scene : Type 0 where
  pub unit : SourceUnit
  pub classes : Classes
  pub space : Space
  pub loaded : List ℕ
  pub references : References
  pub fields : List (Option Handle)
  pub buffers : List Buffer
  pub stack : List ℕ
  pub pending : Option ℕ
  pub monitors : List Monitor
  pub thread : ℕ

-- what a call sees in memory
abbrev pub scene_view : InMemory → Scene
scene_view s = record {
  unit = unit_tree s.items.now;
  classes = s.classes.now;
  space = s.heap.now;
  loaded = s.loaded.now;
  references = s.references;
  fields = s.fields.now;
  buffers = s.buffers.now;
  stack = s.stack.now;
  pending = s.pending;
  monitors = s.monitors.now;
  thread = s.thread;
}
