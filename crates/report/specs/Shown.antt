-- The rows of a report, as they are held in memory.
use Rattle.std.specs.Prelude.{ℕ, List, ◌++◌, map, codes, decimal, flat_map}
use Rattle.base.specs.Bytes.{Identifier}
use Rattle.report.specs.declared.rows.Shown.{Shown}
use Rattle.report.specs.declared.rows.Shown.TheVariants as held
use Rattle.semantics.specs.declared.printed.Printed.{Printed}
use Rattle.report.specs.declared.thread_status.ThreadStatus.{ThreadStatus}
use Rattle.semantics.specs.Report.{ShownValue, ShownNumber, ShownNull, ShownClass, ShownObject, ShownRow, Report}
use Rattle.report.specs.ReportText.{object_line}
use Rattle.report.specs.ThreadStatus.{standing_view}

-- a value of a row
abbrev pub shown_view : Shown → ShownValue
shown_view (held.Number z) = ShownNumber z
shown_view held.Null = ShownNull
shown_view (held.Class class) = ShownClass class.now
shown_view (held.Object n) = ShownObject n

-- `#46 Node`
abbrev pub row_head : ℕ → Identifier → List ℕ
row_head number class = codes "#" ++ decimal number ++ codes " " ++ class

-- the lines of rows
abbrev pub row_lines : List ShownRow → List ℕ
row_lines rows = flat_map object_line rows

-- the report of these numbers, threads and objects
abbrev pub report_with : List Printed → List ThreadStatus → List ShownRow → Report
report_with printed standings rows = record { printed = printed; standings = map standing_view standings; objects = rows }
