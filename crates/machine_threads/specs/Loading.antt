-- What loading answers.
use Rattle.std.specs.Prelude.{◌≡◌, ℕ, true, false, List, flat_map, length, map, Option, Some, None, slice_get}
use Rattle.syntax.specs.Parts.{functions_of}
use Rattle.syntax.specs.declared.unit.Function.{Function as FunctionInMemory}
use Rattle.syntax.specs.Tree.{SourceUnit}
use Rattle.syntax.specs.Views.{unit_tree, function_tree}
use Rattle.class_rules.specs.Class.{Classes}
use Rattle.heap.specs.Heap.{Space}
use Rattle.semantics.specs.World.{Invocation, World, loaded_objects}
use Rattle.semantics.specs.Activation.{function_at}
use Rattle.semantics.specs.Load.{call_loads, first_load_fault, refused_calls}
use Rattle.semantics.specs.Start.{waiting_thread}
use Rattle.semantics.specs.Thread.{Shared}
use Rattle.semantics_safety.specs.Owners.{no_owners}
use Rattle.code_meaning.specs.Lowered.{Lowered}
use Rattle.machine_threads.specs.declared.fault.LoadFault.{LoadFault}
use Rattle.machine_threads.specs.declared.fault.LoadFault.TheVariants.{DoesNotFit, Memory}
use Rattle.tables.specs.Elements.{OwnedNumbers}
use Rattle.machine_threads.specs.declared.thread.PendingCall.{PendingCall}
use Rattle.machine_threads.specs.declared.thread.Thread.{Thread}
use Rattle.machine_threads.specs.ThreadAgrees.{CallAgrees, ThreadsAgree}

-- the function of a name, and its place among the functions
pub record IsNumberOf (p : Lowered) (name : List ℕ) (number : ℕ) (f : FunctionInMemory) : Type 0 where
  pub named : function_at (unit_tree p.unit) name ≡ Some (function_tree f)
  pub numbered : slice_get (functions_of (unit_tree p.unit)) number ≡ Some (function_tree f)
  pub has_name : f.name ≡ name

-- a call to come, where this number of objects are made at load; none where the call doesn't load
abbrev pub IsCallOf : Lowered → Classes → (made : ℕ) → Invocation → Option PendingCall → Type 0
IsCallOf p classes made call None = call_loads (unit_tree p.unit) classes call ≡ false
IsCallOf p classes made call (Some next) = CallAgrees p classes made next call × (call_loads (unit_tree p.unit) classes call ≡ true)

-- the calls of a world that don't load, in text order
abbrev pub all_refused : SourceUnit → World → List Invocation
all_refused unit w = flat_map (refused_calls unit w.classes) w.threads

-- Threads stand for those of a world before their first calls. They refer to no object and own nothing yet, so all else that threads
-- stand by may be anything.
abbrev pub AreWaiting : Lowered → World → List Thread → Type 0
AreWaiting p w threads =
    (space : Space) (copies : List (Option OwnedNumbers)) (k : ℕ) (shared : Shared)
    → ThreadsAgree p w.classes space copies (length (loaded_objects w)) (λ j. no_owners) k shared threads (map waiting_thread w.threads)

-- the fault's line is that of the first of these
abbrev pub IsFirstOf : List Invocation → LoadFault → Type 0
IsFirstOf calls (DoesNotFit line) = slice_get (map (λ (c : Invocation). c.line) calls) 0 ≡ Some line
IsFirstOf calls Memory = Unit {0}

-- why a world was not loaded
abbrev pub IsLoadFault : SourceUnit → World → LoadFault → Type 0
IsLoadFault unit w (DoesNotFit line) = first_load_fault unit w ≡ Some line
IsLoadFault unit w Memory = Unit {0}
