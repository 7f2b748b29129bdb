-- Monitors' objects lie where the table says, after a change.
use Rattle.std.proofs.Common.{◌≡◌, ℕ, Bool, true, false, cond, not, eqb, List, [], ◌∷◌, Some}
use Rattle.std.specs.Prelude.{map}
use Rattle.std.specs.List.{All}
use Rattle.std.proofs.lemmas.List.Elements.{All-cons, All-contains, All-head, All-nil, All-tail}
use Rattle.heap.specs.Heap.{Space, name_at}
use Rattle.monitors.specs.declared.monitors.Monitor.{Monitor}
use Rattle.monitors.specs.declared.monitors.Object.{Object}
use Rattle.monitors.specs.Monitors.{AreOf, object_of, without_owner}
use Rattle.monitors.proofs.MonitorLaws.{IsOf}
use Rattle.machine_scenes.specs.MonitorsAgree.{AreThere}

-- where each address keeps its name
pub there_stays : (space space' : Space) → ((a n : ℕ) → name_at space a ≡ Some n → name_at space' a ≡ Some n) → (ms : List Monitor) → AreThere space ms → AreThere space' ms
there_stays space space' names [] h = tt
there_stays space space' names (m ∷ ms) h = (names m.address m.object h.0, there_stays space space' names ms h.1)

module _ (space : Space) where
  abbrev IsThere : Object → Type 0
  IsThere o = name_at space o.address ≡ Some o.name

  objects_there : (ms : List Monitor) → AreThere space ms → All IsThere (map object_of ms)
  objects_there [] h = All-nil IsThere
  objects_there (m ∷ ms) h = All-cons IsThere (object_of m) (map object_of ms) h.0 (objects_there ms h.1)

  there_of : (objects : List Object) (ms : List Monitor) → All IsThere objects → AreOf objects ms → AreThere space ms
  there_of objects [] h are = tt
  there_of objects (m ∷ ms) h are = (All-contains IsThere objects (object_of m) h (All-head (IsOf objects) m ms are), there_of objects ms h (All-tail (IsOf objects) m ms are))

  -- after `enter`
  pub there_entered : (ms ms' : List Monitor) (object : Object) → name_at space object.address ≡ Some object.name → AreThere space ms → AreOf (object ∷ map object_of ms) ms' → AreThere space ms'
  there_entered ms ms' object named h are = there_of (object ∷ map object_of ms) ms' (All-cons IsThere object (map object_of ms) named (objects_there ms h)) are

  -- after `exit`
  pub there_left : (ms ms' : List Monitor) → AreThere space ms → AreOf (map object_of ms) ms' → AreThere space ms'
  there_left ms ms' h are = there_of (map object_of ms) ms' (objects_there ms h) are

  -- after `drop_thread`
  pub there_dropped : (ms : List Monitor) (k : ℕ) → AreThere space ms → AreThere space (without_owner ms k)
  there_dropped [] k h = tt
  there_dropped (m ∷ ms) k h = by_owner (not (eqb m.owner k)) (there_dropped ms k h.1)
    where
      by_owner : (b : Bool) → AreThere space (without_owner ms k) → AreThere space (cond b (m ∷ without_owner ms k) (without_owner ms k))
      by_owner true rest = (h.0, rest)
      by_owner false rest = rest
