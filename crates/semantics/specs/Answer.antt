-- What a call of a JNI function does, as data, and the effect of that.
use Rattle.std.specs.Prelude.{ℕ, Bool, true, false, List, [], ◌∷◌, ◌++◌, drop, map, take}
use Rattle.std.specs.Option.{option_to_list}
use Rattle.base.specs.Bytes.{Identifier, lookup}
use Rattle.class_rules.specs.Class.{Classes}
use Rattle.semantics.specs.Arguments.{Actual, passed_value, variable_given}
use Rattle.semantics.specs.CallEffects.{CallResult, NoResult, ReferenceResult, CallEffect, Throws, Enters, Leaves, begun_with, copied_elements, copy_effect, frames_effect, freed, heap_effect, level_of, local_array, monitor, monitors_effect, new_effect, overwritten, refuses_frames, throw_new_effect, view_effect, with_capacity, with_freed, without_local, without_one}
use Rattle.semantics.specs.CallEffects as effects
use Rattle.semantics.specs.Heap.{Heap, numbers_of, with_numbers, with_value_at}
use Rattle.semantics.specs.Method.{MethodId}
use Rattle.semantics.specs.Object.{Object, ObjectValue, Reference}
use Rattle.semantics.specs.Thread.{BuffersInUse, Shared, Thread, without_monitor}
use Rattle.semantics.specs.declared.trap.Trap.{Trap}
use Rattle.semantics.specs.Variable.{Deleted, Variables, assign, change}

-- values of an array or a string from a start on, and the local array of the fourth argument, whose first elements are as many
pub record Region : Type 0 where
  pub object : ℕ
  pub start : ℕ
  pub count : ℕ

-- what a call does, all checks being passed; a variable is that of an argument, counted from 0
pub data Answer : Type 0 where
  -- nothing changes, and this is given
  Gives : CallResult → Answer
  -- a value of an object is another one
  Writes : (object place : ℕ) → ObjectValue → Answer
  -- an object is made and given
  Makes : Object → Answer
  -- an exception of this class is made and pending
  Raises : (class : ℕ) → Answer
  -- a string and an exception of this class with it as message are made; the exception is pending, and 0 is given
  RaisesWith : (class : ℕ) → (text : List ℕ) → Answer
  -- this exception is pending, or none, whatever was before, and this is given
  Pends : Reference → CallResult → Answer
  -- the current frame gets room for this many references more and 0 is given, or -4 where the frames can't have it
  Ensures : (more : ℕ) → Answer
  -- a frame with room for this many is made and 0 is given, or -4 where the frames can't have it
  Pushes : (capacity : ℕ) → Answer
  -- -4 is given, and the OutOfMemoryError object is pending
  RefusesFrames : Answer
  -- the current frame ends, and this is given
  Pops : Reference → Answer
  -- a local reference to an object ends, in the frame of the variable
  DeletesLocal : (variable object : ℕ) → Answer
  -- a global reference is made and given, and none for NULL
  MakesGlobal : Reference → Answer
  -- a global reference to an object ends, and the static that held it is marked
  DeletesGlobal : (variable object : ℕ) → Answer
  -- the static that held a weak global reference is marked
  DeletesWeak : (variable : ℕ) → Answer
  -- the numbers of a region become the first of its local array
  GetsRegion : Region → Answer
  -- the other way round
  SetsRegion : Region → Answer
  -- a copy of an object's numbers is given, or NULL where all copies would be too long
  Copies : (object : ℕ) → Answer
  -- a view of an object is given, or NULL where there are as many as may be
  Views : (object : ℕ) → Answer
  -- an object gets the numbers of the copy that a variable holds, which is given up or not
  CopiesBack : (object variable : ℕ) → (frees : Bool) → Answer
  -- the buffer that a variable holds is given up
  Frees : (variable : ℕ) → Answer
  -- the thread owns an object so many times, and 0 is given
  Owns : (object count : ℕ) → Answer
  -- nobody owns an object, and 0 is given
  Disowns : (object : ℕ) → Answer
  -- the method is called with what is given beside the class and itself
  Calls : MethodId → Answer
  -- the run stops
  Halts : Trap → Answer

-- ---- the effect of an answer

-- variables of which a local array begins with the numbers of a region
abbrev pub with_region_got : Heap → (array : Identifier) → Region → Variables → Variables
with_region_got heap x r vs = change x (begun_with (take r.count (drop r.start (numbers_of heap r.object)))) vs

-- a heap in which the numbers of a region are the first of a local array
abbrev pub with_region_set : Variables → (array : Identifier) → Region → Heap → Heap
with_region_set vs x r heap =
    with_numbers heap r.object (overwritten (numbers_of heap r.object) r.start (take r.count (local_array (lookup x vs))))

-- a heap in which an object has the numbers of a copy
abbrev pub with_copied_back : Variables → (buffer : Identifier) → (object : ℕ) → Heap → Heap
with_copied_back vs x n heap = with_numbers heap n (copied_elements (lookup x vs))

-- variables of which a buffer is given up or not
abbrev pub freed_if : Bool → (buffer : Identifier) → Variables → Variables
freed_if true x vs = change x freed vs
freed_if false x vs = vs

-- thread k calls a function with these arguments
module _ (classes : Classes) (in_use : BuffersInUse) (k : ℕ) (s : Shared) (t : Thread) (args : List Actual) where
  -- the variable of an argument
  abbrev pub variable : ℕ → Identifier
  variable i = variable_given args i

  -- the thread with other frames
  abbrev pub with_frames_of : ℕ → ℕ → Thread
  with_frames_of i n = record t { frames = without_local (level_of (lookup (variable i) t.variables)) n t.frames }

  -- what it answers has this effect
  unfoldable pub effect_of : Answer → CallEffect
  effect_of (Gives g) = Leaves [] s t g
  effect_of (Writes n i v) = heap_effect s t (with_value_at s.heap n i v)
  effect_of (Makes o) = new_effect s t o
  effect_of (Raises c) = Throws c
  effect_of (RaisesWith c text) = throw_new_effect classes s t c text
  effect_of (Pends r g) = Leaves [] s (record t { pending = r }) g
  effect_of (Ensures n) = frames_effect classes s t (with_capacity n t.frames)
  effect_of (Pushes n) = frames_effect classes s t (record { capacity = n; references = [] } ∷ t.frames)
  effect_of RefusesFrames = refuses_frames classes s t
  effect_of (Pops r) = Leaves [] s (record t { frames = drop 1 t.frames }) (ReferenceResult r)
  effect_of (DeletesLocal i n) = Leaves [] s (with_frames_of i n) NoResult
  effect_of (MakesGlobal r) = Leaves [] (record s { globals = option_to_list r ++ s.globals }) t (ReferenceResult r)
  effect_of (DeletesGlobal i n) =
      Leaves [] (record s { globals = without_one n s.globals; statics = assign (variable i) Deleted s.statics }) t NoResult
  effect_of (DeletesWeak i) = Leaves [] (record s { statics = assign (variable i) Deleted s.statics }) t NoResult
  effect_of (GetsRegion r) = Leaves [] s (record t { variables = with_region_got s.heap (variable 3) r t.variables }) NoResult
  effect_of (SetsRegion r) = heap_effect s t (with_region_set t.variables (variable 3) r s.heap)
  effect_of (Copies n) = copy_effect in_use s t n (numbers_of s.heap n)
  effect_of (Views n) = view_effect in_use s t n
  effect_of (CopiesBack n i frees) =
      heap_effect s (record t { variables = freed_if frees (variable i) t.variables }) (with_copied_back t.variables (variable i) n s.heap)
  effect_of (Frees i) = Leaves [] s (with_freed t (variable i)) NoResult
  effect_of (Owns n count) = monitors_effect s t (monitor n k count ∷ without_monitor s.monitors n)
  effect_of (Disowns n) = monitors_effect s t (without_monitor s.monitors n)
  effect_of (Calls m) = Enters m.function.name (map passed_value (drop 2 args))
  effect_of (Halts trap) = effects.Halts trap
