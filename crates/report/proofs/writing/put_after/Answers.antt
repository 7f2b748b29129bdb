use Rattle.std.proofs.Common.{◌≡◌, ◌++◌, List, ℕ, [], ap, ◌∙◌, append-nil}
use Rattle.std.specs.Prelude.{codes, Result, Ok, Err}
use Rattle.std.proofs.lemmas.Result.{err_from_is_err_and}
use Rattle.semantics.specs.Journal.{Clearing}
use Rattle.semantics.specs.JournalText.{entry_text}
use Rattle.semantics.specs.Views.{names_of}
use Rattle.report.specs.RunText.{Gathers}
use Rattle.sinks.specs.Sink.{Written, AppendsText, Writes}
use Rattle.sinks.proofs.Puts.{Writes-then, StopsWithin-more}
use Rattle.report.proofs.writing.put_after.Goals as goal

-- what was gathered was put, and then the word
put_both : {T E : Type 0} (old now new : Written) (r : Result T E) (before after word : List ℕ) → AppendsText old now before → Writes now new r word → after ≡ [] → Gathers old new r before after word
put_both {T} {E} old now new (Ok v) before after word p q none =
    record { part = before ++ word; put = Writes-then {T = T} {E = E} old now new (Ok v) before word p q; rest = ap (λ (l : List ℕ). (before ++ word) ++ l) none ∙ append-nil (before ++ word) }
put_both {T} {E} old now new (Err e) before after word p q none = Writes-then {T = T} {E = E} old now new (Err e) before word p q

pub returns-in_err-put_all : goal.returns-in_err-put_all
returns-in_err-put_all g c =
    let p = err_from_is_err_and c.from_residual.result c.from_residual.ensures.1 in
    rw p.1 (StopsWithin-more _ _ c.args.text.now.items (codes " " ++ entry_text (Clearing (names_of c.args.objects.now))) (rw c.as_slice.ensures.value at c.in_err-put_all.ensures))

pub returns : goal.returns
returns g c =
    put_both _ _ _ c.put_clearing.result c.args.text.now.items c.clear.new.self.items (codes " " ++ entry_text (Clearing (names_of c.args.objects.now)))
    (rw c.as_slice.ensures.value at c.in_ok-put_all.ensures) c.put_clearing.ensures c.clear.ensures
