-- Which objects can still be reached, and how many cells they take.
use Rattle.std.specs.Prelude.{◌≡◌, ℕ, zero, suc, ◌+◌, Bool, cond, ◌==◌, List, [], ◌∷◌, ◌++◌, map, length, filter, filter_map, flat_map, sum_by, Contains, Option, None}
use Rattle.std.specs.Option.{option_to_list}
use Rattle.std.specs.List.{list_any}
use Rattle.semantics.specs.World.{Invocation, World}
use Rattle.semantics.specs.Task.{Task}
use Rattle.semantics.specs.Heap.{Heap, reference_in, values_of}
use Rattle.semantics.specs.State.{State, views}
use Rattle.semantics.specs.Thread.{Frame, Caller, Thread, Monitor}
use Rattle.semantics.specs.Object.{object_size}

-- the numbers from one on, n of them
abbrev pub from_one : ℕ → List ℕ
from_one zero = []
from_one (suc n) = from_one n ++ suc n ∷ []

-- the names in frames
abbrev pub frame_roots : List Frame → List ℕ
frame_roots frames = flat_map (λ (f : Frame). f.references) frames

-- the names among what a call is given that another has made and that isn't entered yet
abbrev pub argument_roots : List Caller → Option (List Task) → List Invocation → List ℕ
argument_roots (c ∷ callers) None (call ∷ calls) = filter_map reference_in call.arguments
argument_roots callers tasks calls = []

-- the names in the frames of a thread's calls, among the arguments of one that isn't entered yet, and its pending exception
abbrev pub thread_roots : Thread → List ℕ
thread_roots t =
    flat_map (λ (c : Caller). frame_roots c.frames) t.callers ++ argument_roots t.callers t.tasks t.calls
    ++ frame_roots t.frames ++ option_to_list t.pending

-- how many objects are made at load: they stay
abbrev pub loaded_count : World → ℕ
loaded_count w = length w.classes + 1 + length w.objects

-- the objects made at load, global references, references in frames, pending exceptions, owned monitors and views
abbrev pub roots : World → State → List ℕ
roots w s =
    from_one (loaded_count w)
    ++ s.shared.globals
    ++ flat_map thread_roots s.threads
    ++ map (λ (m : Monitor). m.object) s.shared.monitors
    ++ views s

-- the names among an object's values
abbrev pub references_of : Heap → ℕ → List ℕ
references_of heap n = filter_map reference_in (values_of heap n)

-- the name of an object that has been made
abbrev pub IsName : Heap → ℕ → Type 0
IsName heap n = Contains (from_one (length heap)) n

-- an object is reached from some names that is one of them, or that a reached object refers to
pub data Reached (heap : Heap) (from : List ℕ) : ℕ → Type 0 where
  FromRoot : (n : ℕ) → IsName heap n → Contains from n → Reached heap from n
  FromObject : (m n : ℕ) → Reached heap from m → IsName heap n → Contains (references_of heap m) n → Reached heap from n

-- an object is reachable that is reached from the roots
abbrev pub Reachable : World → State → ℕ → Type 0
Reachable w s = Reached s.shared.heap (roots w s)

-- ---- the same, computed

-- whether a name is among these
abbrev pub is_in : List ℕ → ℕ → Bool
is_in names n = list_any (λ m. m == n) names

-- the names of the heap that are among these, in rising order
abbrev pub rising : Heap → List ℕ → List ℕ
rising heap names = filter (is_in names) (from_one (length heap))

-- these and the objects that they refer to
abbrev pub grown : Heap → List ℕ → List ℕ
grown heap names = rising heap (names ++ flat_map (references_of heap) names)

-- grown so often, or until nothing is added
abbrev pub closed : ℕ → Heap → List ℕ → List ℕ
closed zero heap names = names
closed (suc n) heap names =
    let more = grown heap names in
    let further = closed n heap more in
    cond (length more == length names) names further

-- the names of the objects that are reached from some names, in rising order
abbrev pub reached : Heap → List ℕ → List ℕ
reached heap from = closed (length heap) heap (rising heap from)

-- the names of the reachable objects, in rising order
abbrev pub reachable : World → State → List ℕ
reachable w s = reached s.shared.heap (roots w s)

-- the list has exactly the objects that are reached, once each and in rising order
pub record ListsReached (heap : Heap) (from names : List ℕ) : Type 0 where
  pub sound : (n : ℕ) → Contains names n → Reached heap from n
  pub complete : (n : ℕ) → Reached heap from n → Contains names n
  pub in_order : names ≡ rising heap names

-- the computed list is the set of the objects that are reached
abbrev pub ReachedIsComputed : Type 0
ReachedIsComputed = (heap : Heap) (from : List ℕ) → ListsReached heap from (reached heap from)

-- ---- cells

-- the size of an object in cells
abbrev pub size_at : Heap → ℕ → ℕ
size_at heap n = object_size (length (values_of heap n))

-- the cells of the reachable objects together
abbrev pub live_size : World → State → ℕ
live_size w s = sum_by (size_at s.shared.heap) (reachable w s)
