-- Runs that meet a limit, by what they print.
use Rattle.std.specs.Option.{option_map}
use Rattle.std.specs.Prelude.{Option, ◌≡◌, ◌∷◌, pos, negsuc, false, [], Some, codes, refl, fold, map, List, ℕ, ℤ}
use Rattle.syntax.specs.Tree.{SourceUnit}
use Rattle.class_rules.specs.Additions.{with_class}
use Rattle.class_rules.specs.BuiltIns.{built_ins}
use Rattle.class_rules.specs.Class.{Plain}
use Rattle.semantics.specs.Object.{ObjectValue, Refers}
use Rattle.semantics.specs.World.{World}
use Rattle.semantics.specs.declared.printed.Printed.{Printed}
use Rattle.semantics.specs.Run.{replay}
use Rattle.semantics.specs.State.{State}
use Rattle.test_equations.proofs.Computed.{opened}
use Rattle.test_equations.proofs.Programs.{entries}
use Rattle.test_equations.proofs.Trees.{enters, copies, copies_too_many, views_64, capacities_1024}

-- the numbers that a run of one thread prints in this many steps
abbrev prints : SourceUnit → World → ℕ → Option (List ℤ)
prints unit w n = option_map (λ (s : State). map (λ (p : Printed). p.number) s.printed) (replay unit w (entries 1 n))

abbrev object_world : World
object_world =
    record {
      heap_line = 1;
      methods = false;
      cells = 1048576;
      classes = fold with_class built_ins
          (record { name = codes "A"; superclass = Some 1; kind = Plain; fields = []; statics = [] } ∷ []);
      objects = record { class = 43; values = [] } ∷ [];
      threads = (record { line = 4; function = codes "Java_A_f"; arguments = Refers (Some 46) ∷ [] } ∷ []) ∷ [];
    }

abbrev array_world : World
array_world =
    record {
      heap_line = 1;
      methods = false;
      cells = 1048576;
      classes = fold with_class built_ins
          (record { name = codes "A"; superclass = Some 1; kind = Plain; fields = []; statics = [] } ∷ []);
      objects = record { class = 23; values = ObjectValue.Number (pos 1) ∷ [] } ∷ [];
      threads = (record { line = 4; function = codes "Java_A_f"; arguments = Refers (Some 46) ∷ [] } ∷ []) ∷ [];
    }

abbrev plain_world : World
plain_world =
    record {
      heap_line = 1;
      methods = false;
      cells = 1048576;
      classes = fold with_class built_ins
          (record { name = codes "A"; superclass = Some 1; kind = Plain; fields = []; statics = [] } ∷ []);
      objects = [];
      threads = (record { line = 3; function = codes "Java_A_f"; arguments = [] } ∷ []) ∷ [];
    }

-- the 256th entry into a monitor is refused
enters_255 : prints enters object_world 3845 ≡ Some (negsuc 0 ∷ [])
unfolding opened
enters_255 = refl

-- 65,536 copied elements in all
copies-few : prints copies plain_world 9 ≡ Some (pos 2 ∷ [])
unfolding opened
copies-few = refl

copies-many : prints copies_too_many plain_world 9 ≡ Some (pos 1 ∷ [])
unfolding opened
copies-many = refl

-- 64 views in all
views-64 : prints views_64 array_world 75 ≡ Some (pos 2 ∷ [])
unfolding opened
views-64 = refl

-- capacities of 1,024 in all: 17 of the entry frame and 1,007, and none beside them
capacities-1024 : prints capacities_1024 plain_world 16 ≡ Some (pos 0 ∷ negsuc 3 ∷ pos 0 ∷ [])
unfolding opened
capacities-1024 = refl
