use Rattle.std.proofs.Common.{◌++◌, List, ℕ}
use Rattle.std.specs.Prelude.{codes}
use Rattle.std.specs.List.{flat_map}
use Rattle.std.proofs.lemmas.Result.{err_from_is_err_and}
use Rattle.semantics.specs.Journal.{Entry}
use Rattle.semantics.specs.JournalText.{entry_text, journal_line}
use Rattle.sinks.proofs.Puts.{Writes-then, StopsWithin-more, StopsWithin-then}
use Rattle.report.proofs.writing.write_journal.Goals as goal

abbrev words : List Entry → List ℕ
words entries = flat_map (λ e. codes " " ++ entry_text e) entries

pub returns-in_err-put_all : goal.returns-in_err-put_all
unfolding journal_line
returns-in_err-put_all g c =
    let p = err_from_is_err_and c.from_residual.result c.from_residual.ensures.1 in
    rw p.1 (StopsWithin-more _ _ (codes "journal") (words (g.E.Entries.entries c.args.entries.now) ++ codes "\n") c.in_err-put_all.ensures)

pub returns-in_err-put_entries : goal.returns-in_err-put_entries
unfolding journal_line
returns-in_err-put_entries g c =
    let p = err_from_is_err_and c.from_residual-in_err-put_entries.result c.from_residual-in_err-put_entries.ensures.1 in
    rw p.1 (StopsWithin-then _ _ _ (codes "journal") (words (g.E.Entries.entries c.args.entries.now) ++ codes "\n") c.in_ok-put_all.ensures (StopsWithin-more _ _ (words (g.E.Entries.entries c.args.entries.now)) (codes "\n") c.in_err-put_entries.ensures))

pub returns : goal.returns
unfolding journal_line
returns g c =
    Writes-then _ _ _ _ (codes "journal") (words (g.E.Entries.entries c.args.entries.now) ++ codes "\n") c.in_ok-put_all.ensures
    (Writes-then _ _ _ _ (words (g.E.Entries.entries c.args.entries.now)) (codes "\n") c.in_ok-put_entries.ensures c.put_all-2.ensures)
