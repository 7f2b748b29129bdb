-- The state in which a run begins.
use Rattle.std.specs.Prelude.{List, [], map, None}
use Rattle.base.specs.Bytes.{Identifier}
use Rattle.syntax.specs.Parts.{statics_of}
use Rattle.syntax.specs.Tree.{Static, SourceUnit}
use Rattle.semantics.specs.World.{Invocation, World, loaded_objects}
use Rattle.semantics.specs.State.{State}
use Rattle.semantics.specs.declared.event.Ending.TheVariants.{Unfinished}
use Rattle.semantics.specs.Thread.{Thread}
use Rattle.semantics.specs.Variable.{StaticReference, Empty, Statics}

-- a thread before the entry of its first call
abbrev pub waiting_thread : List Invocation → Thread
waiting_thread calls = record { calls = calls; callers = []; tasks = None; variables = []; frames = []; pending = None; ending = Unfinished }

-- a static that is NULL
abbrev pub null_static : Static → Identifier × StaticReference
null_static g = (g.name, Empty)

-- the statics of a unit, all NULL
abbrev pub null_statics : SourceUnit → Statics
null_statics unit = map null_static (statics_of unit)

-- the state in which a run begins
abbrev pub start : SourceUnit → World → State
start unit w = record {
  shared = record { heap = loaded_objects w; statics = null_statics unit; globals = []; monitors = [] };
  threads = map waiting_thread w.threads;
  printed = [];
  stop = None;
}
