-- The text of a report.
use Rattle.std.specs.Prelude.{ℕ, List, ◌∷◌, ◌++◌, [], flat_map, decimal, codes}
use Rattle.std.specs.Fmt.{signed_decimal}
use Rattle.std.specs.List.{enumerate_from}
use Rattle.semantics.specs.declared.printed.Printed.{Printed}
use Rattle.semantics.specs.Report.{ThreadStanding, HasTrapped, HasEnded, IsUncaught, IsBlocked, IsRunning, ShownValue, ShownNumber, ShownNull, ShownClass, ShownObject, ShownRow, Report}

-- a line of text, with its line feed
abbrev pub text_line : List ℕ → List ℕ
text_line bytes = bytes ++ 10 ∷ []

-- `T1`
abbrev pub thread_text : ℕ → List ℕ
thread_text k = codes "T" ++ decimal k

-- `T1 42`
abbrev pub printed_line : Printed → List ℕ
printed_line p = text_line (thread_text p.thread ++ codes " " ++ signed_decimal p.number)

-- `trap 3 line 7`, `ended`, `uncaught java/lang/X`, `blocked` or `running`
abbrev pub standing_text : ThreadStanding → List ℕ
standing_text (HasTrapped number line) = codes "trap " ++ decimal number ++ codes " line " ++ decimal line
standing_text HasEnded = codes "ended"
standing_text (IsUncaught class) = codes "uncaught " ++ class
standing_text IsBlocked = codes "blocked"
standing_text IsRunning = codes "running"

-- `T1 ended`
abbrev pub thread_line : ℕ × ThreadStanding → List ℕ
thread_line (k, standing) = text_line (thread_text k ++ codes " " ++ standing_text standing)

-- a number, `null`, `class:NAME` or `#n`
abbrev pub shown_text : ShownValue → List ℕ
shown_text (ShownNumber z) = signed_decimal z
shown_text ShownNull = codes "null"
shown_text (ShownClass name) = codes "class:" ++ name
shown_text (ShownObject n) = codes "#" ++ decimal n

-- `#46 Node 5 #47 null`
abbrev pub object_line : ShownRow → List ℕ
object_line o = text_line (codes "#" ++ decimal o.name ++ codes " " ++ o.class ++ flat_map (λ v. codes " " ++ shown_text v) o.values)

-- printed lines, threads and objects
unfoldable pub report_text : Report → List ℕ
report_text r = flat_map printed_line r.printed ++ flat_map thread_line (enumerate_from 1 r.standings) ++ flat_map object_line r.objects
