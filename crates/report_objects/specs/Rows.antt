-- The rows of the objects that can still be reached.
use Rattle.std.specs.Prelude.{◌≡◌, ℕ, zero, suc, ◌-◌, Bool, List, [], ◌∷◌, map, filter}
use Rattle.class_rules.specs.Class.{Classes}
use Rattle.semantics.specs.Heap.{Heap}
use Rattle.semantics.specs.Report.{ShownRow}
use Rattle.semantics.specs.ReportOf.{shown_row, report}
use Rattle.semantics.specs.State.{State}
use Rattle.semantics.specs.World.{World}
use Rattle.reachability.specs.Marks.{is_marked}
use Rattle.report_objects.specs.Names.{HasRoots}

-- this number of numbers, from one on
abbrev pub count_from : ℕ → ℕ → List ℕ
count_from k zero = []
count_from k (suc c) = k ∷ count_from (suc k) c

-- the numbers from one to before another that pass a test
unfoldable pub passing : (ℕ → Bool) → ℕ → ℕ → List ℕ
passing test k end = filter test (count_from k (end - k))

-- the rows of the marked objects, by rising names from the first to before the end
abbrev pub marked_rows : Classes → Heap → List Bool → (first end : ℕ) → List ShownRow
marked_rows classes heap marks first end = map (shown_row classes heap) (passing (is_marked marks) first end)

-- the rows are those of the report of each state with these roots, in which what can be reached is as in this heap
abbrev pub AreReported : Classes → Heap → (loaded : ℕ) → (names : List ℕ) → List ShownRow → Type 0
AreReported classes heap loaded names rows = (w : World) (s : State) → HasRoots classes heap loaded names w s → rows ≡ (report w s).objects
