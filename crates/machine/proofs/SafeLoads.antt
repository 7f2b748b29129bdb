-- A world that was loaded goes with its unit, and each of its threads has a call.
use Rattle.std.proofs.Common.{◌≡◌, Bool, true, false, not, List, [], ◌∷◌, flat_map, refl, ◌&&◌, if◌then◌else◌}
use Rattle.std.specs.List.{list_all}
use Rattle.syntax.specs.Tree.{SourceUnit}
use Rattle.class_rules.specs.Class.{Classes}
use Rattle.type_rules.proofs.PlaceLists.{first_empty, second_empty}
use Rattle.semantics.specs.Load.{call_loads, refused_calls}
use Rattle.semantics.specs.World.{Invocation}

-- where none is refused, each loads
calls_load : (unit : SourceUnit) (classes : Classes) (calls : List Invocation) → refused_calls unit classes calls ≡ [] → list_all (call_loads unit classes) calls ≡ true
calls_load unit classes [] h = refl
calls_load unit classes (c ∷ calls) h = by_test (call_loads unit classes c) h (calls_load unit classes calls)
  where
    by_test : (b : Bool) → (if not b then c ∷ refused_calls unit classes calls else refused_calls unit classes calls) ≡ [] → (refused_calls unit classes calls ≡ [] → list_all (call_loads unit classes) calls ≡ true) → (b && list_all (call_loads unit classes) calls) ≡ true
    by_test true h later = later h
    by_test false h later = absurd (cc)

pub all_load : (unit : SourceUnit) (classes : Classes) (threads : List (List Invocation)) → flat_map (refused_calls unit classes) threads ≡ [] → list_all (list_all (call_loads unit classes)) threads ≡ true
all_load unit classes [] h = refl
all_load unit classes (calls ∷ threads) h =
    both (list_all (call_loads unit classes) calls) (list_all (list_all (call_loads unit classes)) threads)
    (calls_load unit classes calls (first_empty (refused_calls unit classes calls) (flat_map (refused_calls unit classes) threads) h))
    (all_load unit classes threads (second_empty (refused_calls unit classes calls) (flat_map (refused_calls unit classes) threads) h))
  where
    both : (a b : Bool) → a ≡ true → b ≡ true → (a && b) ≡ true
    both true b e f = f
    both false b e f = absurd (cc)
