-- Weak global references (JNI Specification, chapter 2, "Weak Global References"): which may be cleared, and what that leaves. They are no
-- roots.
use Rattle.std.specs.Prelude.{ℕ, Bool, true, false, not, ◌&&◌, nat_lt, if◌then◌else◌, List, [], ◌∷◌, ◌++◌, map, filter, filter_map, Option, Some, None}
use Rattle.std.specs.List.{list_all, list_any}
use Rattle.base.specs.Bytes.{Identifier}
use Rattle.semantics.specs.Reachable.{roots, is_in, rising, reached, reachable}
use Rattle.semantics.specs.State.{State}
use Rattle.semantics.specs.Variable.{StaticReference, Weakly, Cleared, Statics}
use Rattle.semantics.specs.World.{World}

-- the object of a weak reference that isn't cleared
abbrev pub weak_object : StaticReference → Option ℕ
weak_object (Weakly n) = Some n
weak_object r = None

-- the objects of all of them
abbrev pub weakly_held : Statics → List ℕ
weakly_held statics = filter_map (λ (s : Identifier × StaticReference). weak_object s.1) statics

-- ---- a clearing

-- there are some, and each is greater than the one before it
abbrev pub are_rising : List ℕ → Bool
are_rising [] = false
are_rising (n ∷ []) = true
are_rising (n ∷ m ∷ names) = nat_lt n m && are_rising (m ∷ names)

-- of the objects held weakly those that are none of these
abbrev pub held_beside : State → List ℕ → List ℕ
held_beside s names = filter (λ n. not (is_in names n)) (weakly_held s.shared.statics)

-- what is reached from the roots together with these
abbrev pub reached_with : World → State → List ℕ → List ℕ
reached_with w s names = reached s.shared.heap (roots w s ++ names)

-- The weak references to these objects may be cleared: there are some, they rise, each is held weakly, and none is reached from the
-- roots together with the objects of the other weak references.
abbrev pub may_clear : World → State → List ℕ → Bool
may_clear w s names =
    are_rising names && list_all (is_in (weakly_held s.shared.statics)) names
    && not (list_any (is_in (reached_with w s (held_beside s names))) names)

-- a static, once those to these objects are cleared
abbrev pub cleared : List ℕ → StaticReference → StaticReference
cleared names (Weakly n) = if is_in names n then Cleared else Weakly n
cleared names r = r

-- all statics
abbrev pub cleared_statics : List ℕ → Statics → Statics
cleared_statics names statics = map (λ (s : Identifier × StaticReference). (s.0, cleared names s.1)) statics

-- nothing else changes
abbrev pub with_cleared : List ℕ → State → State
with_cleared names s = record s { shared = record s.shared { statics = cleared_statics names s.shared.statics } }

-- ---- a whole collection

-- the objects that are held weakly and can't be reached, in rising order: a whole collection clears the weak references to them
abbrev pub lost : World → State → List ℕ
lost w s = filter (λ n. not (is_in (reachable w s) n)) (rising s.shared.heap (weakly_held s.shared.statics))
