-- The parts of a report's text.
use Rattle.std.proofs.Common.{◌≡◌, ℕ, ◌+◌, ◌<◌, ◌≤◌, List, [], ◌∷◌, ◌++◌, length, get_or, drop, map, Result, refl, sym, ap, subst, ◌∙◌, append_assoc, append-nil, arith}
use Rattle.std.specs.Prelude.{codes, decimal}
use Rattle.std.specs.List.{flat_map, enumerate_from}
use Rattle.std.proofs.lemmas.List.Concat.{flat_map-cons}
use Rattle.std.proofs.lemmas.List.{get_or-map, length-map}
use Rattle.std.proofs.lemmas.List.FromFn.{length-enumerate_from, get_or-enumerate_from}
use Rattle.semantics.specs.declared.printed.Printed.{Printed}
use Rattle.report.specs.declared.thread_status.ThreadStatus.{ThreadStatus}
use Rattle.semantics.specs.declared.object_id.ObjectId.{ObjectId}
use Rattle.semantics.specs.Journal.{Clearing}
use Rattle.semantics.specs.JournalText.{entry_text, numbers_text}
use Rattle.semantics.specs.Views.{names_of}
use Rattle.report.specs.RunText.{further_text}
use Rattle.semantics.specs.Report.{ShownRow}
use Rattle.report.specs.ReportText.{thread_line, printed_line, report_text}
use Rattle.report.specs.Shown.{row_lines, report_with}
use Rattle.report.specs.ThreadStatus.{standing_view}
use Rattle.sinks.specs.Sink.{Written, AppendsText, Writes}
use Rattle.sinks.proofs.Puts.{flat_map-at, flat_map-past, Writes-then}

-- threads with their numbers
abbrev pub numbered : List ThreadStatus → List (ℕ × Rattle.semantics.specs.Report.ThreadStanding)
numbered xs = enumerate_from 1 (map standing_view xs)

pub length-numbered : (xs : List ThreadStatus) → length (numbered xs) ≡ length xs
length-numbered xs = length-enumerate_from 1 (map standing_view xs) ∙ length-map xs standing_view

-- the line of a thread, and those after it
pub standings_at : (xs : List ThreadStatus) (i n : ℕ) (d : ThreadStatus) → i < length xs → n ≡ i
    → flat_map thread_line (drop i (numbered xs)) ≡ thread_line (n + 1, standing_view (get_or xs i d)) ++ flat_map thread_line (drop (i + 1) (numbered xs))
standings_at xs i n d h e =
    let long : i < length (map standing_view xs) = omega (arith, h, length-map xs standing_view) in
    let long_too : i < length (numbered xs) = omega (arith, h, length-numbered xs) in
    let item : get_or (numbered xs) i (1, standing_view d) ≡ (n + 1, standing_view (get_or xs i d)) =
    get_or-enumerate_from 1 (map standing_view xs) i (1, standing_view d) long
    ∙ ap (λ v. (1 + i, v)) (get_or-map standing_view xs i d (standing_view d) h)
    ∙ ap (λ k. (k, standing_view (get_or xs i d))) (omega (arith, e)) in
    flat_map-at thread_line (numbered xs) i (1, standing_view d) long_too
    ∙ ap (λ v. thread_line v ++ flat_map thread_line (drop (i + 1) (numbered xs))) item

-- no thread is left
pub standings_past : (xs : List ThreadStatus) (i : ℕ) → length xs ≤ i → flat_map thread_line (drop i (numbered xs)) ≡ []
standings_past xs i h = flat_map-past thread_line (numbered xs) i (omega (arith, h, length-numbered xs))

-- a report is what was printed, the threads and the rows
pub report_text-with : (printed : List Printed) (standings : List ThreadStatus) (rows : List ShownRow)
    → report_text (report_with printed standings rows) ≡ (flat_map printed_line printed ++ flat_map thread_line (numbered standings)) ++ row_lines rows
unfolding report_text
report_text-with printed standings rows = refl

-- ---- clearings

comma : (l : List ℕ) → codes "," ++ l ≡ 44 ∷ l
comma [] = refl
comma (b ∷ l) = refl

tilde : (l : List ℕ) → codes " " ++ codes "~" ++ l ≡ codes " ~" ++ l
tilde [] = refl
tilde (b ∷ l) = refl

numbers_are : (n : ObjectId) (more : List ObjectId) → numbers_text (names_of (n ∷ more)) ≡ decimal n.number ++ further_text more
numbers_are n [] = sym (append-nil (decimal n.number))
numbers_are n (m ∷ more) =
    ap (λ (l : List ℕ). decimal n.number ++ 44 ∷ l) (numbers_are m more)
    ∙ ap (λ (l : List ℕ). decimal n.number ++ l) (sym (comma (decimal m.number ++ further_text more)))
    ∙ ap (λ (l : List ℕ). decimal n.number ++ l) (sym (append_assoc (codes ",") (decimal m.number) (further_text more)))
    ∙ ap (λ (l : List ℕ). decimal n.number ++ l) (sym (flat_map-cons (λ (k : ObjectId). codes "," ++ decimal k.number) m more))

-- the word of a clearing is its first number and those further
pub clearing_is : (names : List ObjectId) (n : ObjectId) (more : List ObjectId) → names ≡ n ∷ more
    → (codes " ~" ++ decimal n.number) ++ further_text more ≡ codes " " ++ entry_text (Clearing (names_of names))
clearing_is names n more is =
    append_assoc (codes " ~") (decimal n.number) (further_text more)
    ∙ ap (λ (l : List ℕ). codes " ~" ++ l) (sym (numbers_are n more))
    ∙ sym (tilde (numbers_text (names_of (n ∷ more))))
    ∙ ap (λ (l : List ObjectId). codes " " ++ entry_text (Clearing (names_of l))) (sym is)

-- one that clears nothing has no number
pub no_clearing_is : (names : List ObjectId) → length names ≡ 0 → codes " ~" ≡ codes " " ++ entry_text (Clearing (names_of names))
no_clearing_is [] h = refl
no_clearing_is (n ∷ names) h = absurd (omega (arith, h))

-- one text after the other, where the second call failed or not
pub Writes-both : {T E : Type 0} (a b c : Written) (r : Result T E) (x y text : List ℕ) → AppendsText a b x → Writes b c r y → x ++ y ≡ text → Writes a c r text
Writes-both a b c r x y text p q is = subst (Writes a c r) is (Writes-then a b c r x y p q)
