-- The texts of rows, piece by piece.
use Rattle.std.proofs.Common.{◌≡◌, ℕ, zero, suc, ◌+◌, ◌<◌, ◌≤◌, Bool, true, false, List, [], ◌∷◌, ◌++◌, map, drop, Some, Result, ap, ◌∙◌, subst, arith}
use Rattle.std.specs.Prelude.{slice_get, codes, flat_map}
use Rattle.std.proofs.lemmas.List.Concat.{flat_map-cons}
use Rattle.class_rules.specs.Class.{Classes}
use Rattle.semantics.specs.Heap.{Heap}
use Rattle.semantics.specs.Object.{ObjectValue}
use Rattle.semantics.specs.Report.{ShownValue}
use Rattle.semantics.specs.ReportOf.{shown_value, shown_row}
use Rattle.report.specs.ReportText.{shown_text, text_line, object_line}
use Rattle.report.specs.Shown.{row_head, row_lines}
use Rattle.sinks.specs.Sink.{Written, AppendsText, StopsWithin, Writes}
use Rattle.sinks.proofs.Puts.{AppendsText-then, StopsWithin-more, StopsWithin-then, Writes-then}
use Rattle.reachability.specs.Marks.{is_marked}
use Rattle.report_objects.specs.Rows.{marked_rows}
use Rattle.report_objects.proofs.PassingNames.{passing-kept, passing-left, passing-end}

-- ---- values

-- the text of values
abbrev pub values_text : List ShownValue → List ℕ
values_text values = flat_map (λ (v : ShownValue). codes " " ++ shown_text v) values

drop_more : (ws : List ObjectValue) (i : ℕ) (w : ObjectValue) → slice_get ws i ≡ Some w → drop i ws ≡ w ∷ drop (i + 1) ws
drop_more [] i w h = absurd (cc)
drop_more (x ∷ ws) zero w h = let same : x ≡ w = cc in ap (λ (y : ObjectValue). y ∷ ws) same
drop_more (x ∷ ws) (suc i) w h = let e : suc i + 1 ≡ suc (i + 1) = omega arith in rw e (drop_more ws i w h)

pub value_at : (classes : Classes) (ws : List ObjectValue) (i : ℕ) (w : ObjectValue) → slice_get ws i ≡ Some w
    → values_text (map (shown_value classes) (drop i ws)) ≡ (codes " " ++ shown_text (shown_value classes w)) ++ values_text (map (shown_value classes) (drop (i + 1) ws))
value_at classes ws i w h =
    ap (λ (l : List ObjectValue). values_text (map (shown_value classes) l)) (drop_more ws i w h)
    ∙ flat_map-cons (λ (v : ShownValue). codes " " ++ shown_text v) (shown_value classes w) (map (shown_value classes) (drop (i + 1) ws))

-- ---- a row

pub row_written : {T E : Type 0} (a b c d : Written) (r : Result T E) (name : ℕ) (class shown : List ℕ) (values : List ShownValue) → class ≡ shown → AppendsText a b (row_head name class) → AppendsText b c (values_text values) → Writes c d r (text_line []) → Writes a d r (object_line (record { name = name; class = shown; values = values }))
row_written a b c d r name class shown values same head text end =
    Writes-then a c d r (row_head name shown ++ values_text values) (text_line [])
    (AppendsText-then a b c (row_head name shown) (values_text values) (subst (λ (n : List ℕ). AppendsText a b (row_head name n)) same head) text) end

pub head_stops : (a b : Written) (name : ℕ) (class shown : List ℕ) (values : List ShownValue) → class ≡ shown → StopsWithin a b (row_head name class) → StopsWithin a b (object_line (record { name = name; class = shown; values = values }))
head_stops a b name class shown values same head =
    StopsWithin-more a b (row_head name shown ++ values_text values) (text_line [])
    (StopsWithin-more a b (row_head name shown) (values_text values) (subst (λ (n : List ℕ). StopsWithin a b (row_head name n)) same head))

pub values_stop : (a b c : Written) (name : ℕ) (class shown : List ℕ) (values : List ShownValue) → class ≡ shown → AppendsText a b (row_head name class) → StopsWithin b c (values_text values) → StopsWithin a c (object_line (record { name = name; class = shown; values = values }))
values_stop a b c name class shown values same head text =
    StopsWithin-more a c (row_head name shown ++ values_text values) (text_line [])
    (StopsWithin-then a b c (row_head name shown) (values_text values) (subst (λ (n : List ℕ). AppendsText a b (row_head name n)) same head) text)

-- ---- rows

module _ (classes : Classes) (heap : Heap) (marks : List Bool) (name end : ℕ) where
  -- a marked object's row, and those after it
  pub marked_next : name < end → is_marked marks name ≡ true → row_lines (marked_rows classes heap marks name end) ≡ object_line (shown_row classes heap name) ++ row_lines (marked_rows classes heap marks (name + 1) end)
  marked_next low marked =
      ap (λ (l : List ℕ). row_lines (map (shown_row classes heap) l)) (passing-kept (is_marked marks) name end low marked)
      ∙ flat_map-cons object_line (shown_row classes heap name) (marked_rows classes heap marks (name + 1) end)

  -- an object that isn't marked has none
  pub unmarked_next : name < end → is_marked marks name ≡ false → row_lines (marked_rows classes heap marks name end) ≡ row_lines (marked_rows classes heap marks (name + 1) end)
  unmarked_next low clear = ap (λ (l : List ℕ). row_lines (map (shown_row classes heap) l)) (passing-left (is_marked marks) name end low clear)

  pub rows_end : end ≤ name → row_lines (marked_rows classes heap marks name end) ≡ []
  rows_end high = ap (λ (l : List ℕ). row_lines (map (shown_row classes heap) l)) (passing-end (is_marked marks) name end high)
