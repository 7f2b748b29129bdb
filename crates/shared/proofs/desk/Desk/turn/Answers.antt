use Rattle.std.proofs.Common.{length, ◌≡◌, ◌≤◌, ◌+◌, IfOk, slice_get, sym, ap, ◌∙◌, subst}
use Rattle.crossbeam_utils.specs.Seq.{cell_view}
use Rattle.semantics.specs.World.{World}
use Rattle.shared_passes.specs.declared.view.View.{View}
use Rattle.shared_passes.specs.declared.view.Fate.{Fate}
use Rattle.shared_passes.specs.declared.view.Known.{Known}
use Rattle.shared_passes.specs.declared.view.Account.{Account}
use Rattle.shared_passes.specs.Tokens.{IsWithin, sitting}
use Rattle.shared_accounts.specs.Accounts.{Sat, account_of, accounts_of, fate_of, taken, EndsSo}
use Rattle.shared_accounts.proofs.Machines.{change, same_world, others, kept_on, kept_now, entries_turn, ended_turn}
use Rattle.shared_accounts.proofs.Tables.{accounts_same, accounts_get, some_same}
use Rattle.shared.proofs.desk.Desk.turn.Goals as goal

pub step_with_lines-answer-requires-clause-is_thread : goal.step_with_lines-answer-requires-clause-is_thread
step_with_lines-answer-requires-clause-is_thread g c = subst (λ (w : World). c.seat.inside.thread ≤ length w.threads) (sym c.self.invariant.0) c.seat.invariant.1

pub settle-requires-clause-here : goal.settle-requires-clause-here
settle-requires-clause-here g c r =
    let s = c.seat.invariant in
    let e = c.step_with_lines-answer.ensures in
    let a = change c.self.inside.machine c.step_with_lines-answer.new.machine c.seat.inside.thread c.step_with_lines-answer.result e.turn e.err in
    let k : (cell_view c.seat.inside.pass).thread ≡ c.seat.inside.thread = ap (λ (v : View). v.thread) s.3 in
    let was = subst (λ (f : Fate). IsWithin f (fate_of c.self.inside.machine)) (ap (λ (v : View). v.account.kept) s.3) (subst (λ (n : Known). IsWithin (cell_view c.seat.inside.pass).account.kept n.fate) (ap (λ (v : View). v.table) c.self.invariant.2) r.1) in (
      ap (slice_get (accounts_of c.step_with_lines-answer.new.machine)) k ∙ accounts_get c.step_with_lines-answer.new.machine c.seat.inside.thread (subst (λ (w : World). c.seat.inside.thread ≤ length w.threads) (sym (same_world c.self.inside.machine c.step_with_lines-answer.new.machine c.seat.inside.thread a ∙ c.self.invariant.0)) s.1),
      subst (λ (f : Fate). IsWithin f (fate_of c.step_with_lines-answer.new.machine)) (sym c.kept_after-kept.ensures) (kept_now c.self.inside.machine c.step_with_lines-answer.new.machine c.seat.inside.thread c.step_with_lines-answer.result e.turn e.err _ was),
    )

pub settle-requires-clause-others : goal.settle-requires-clause-others
settle-requires-clause-others g c j q apart r =
    let s = c.seat.invariant in
    let e = c.step_with_lines-answer.ensures in
    let a = change c.self.inside.machine c.step_with_lines-answer.new.machine c.seat.inside.thread c.step_with_lines-answer.result e.turn e.err in
    let k : (cell_view c.seat.inside.pass).thread ≡ c.seat.inside.thread = ap (λ (v : View). v.thread) s.3 in (
      accounts_same c.self.inside.machine c.step_with_lines-answer.new.machine j (same_world c.self.inside.machine c.step_with_lines-answer.new.machine c.seat.inside.thread a) (others c.self.inside.machine c.step_with_lines-answer.new.machine c.seat.inside.thread a e.runs j (λ same. apart (same ∙ sym k))) ∙ ap (λ (v : View). slice_get v.table.table j) (sym c.self.invariant.2) ∙ r.0,
      kept_on c.self.inside.machine c.step_with_lines-answer.new.machine c.seat.inside.thread a _ (subst (λ (n : Known). IsWithin q.kept n.fate) (ap (λ (v : View). v.table) c.self.invariant.2) r.1),
    )

pub returns-clause-was : goal.returns-clause-was
returns-clause-was g c =
    let s = c.seat.invariant in
    let k : (cell_view c.seat.inside.pass).thread ≡ c.seat.inside.thread = ap (λ (v : View). v.thread) s.3 in
    let here = accounts_get c.self.inside.machine c.seat.inside.thread (subst (λ (w : World). c.seat.inside.thread ≤ length w.threads) (sym c.self.invariant.0) s.1) in
    let same = some_same _ _ (sym c.settle.ensures.was.0 ∙ ap (λ (v : View). slice_get v.table.table (cell_view c.seat.inside.pass).thread) c.self.invariant.2 ∙ ap (slice_get (accounts_of c.self.inside.machine)) k ∙ here) in
    ap (λ (t : Sat). t.account) (sym c.seat.view_is) ∙ same ∙ (λ i. account_of (c.self.view_is i) ((c.seat.view_is i).thread))

pub invariant_of-seat : goal.invariant_of-seat
invariant_of-seat g c =
    let s = c.seat.invariant in
    let k : (cell_view c.seat.inside.pass).thread ≡ c.seat.inside.thread = ap (λ (v : View). v.thread) s.3 in
    let here = accounts_get c.self.inside.machine c.seat.inside.thread (subst (λ (w : World). c.seat.inside.thread ≤ length w.threads) (sym c.self.invariant.0) s.1) in
    let same = some_same _ _ (sym c.settle.ensures.was.0 ∙ ap (λ (v : View). slice_get v.table.table (cell_view c.seat.inside.pass).thread) c.self.invariant.2 ∙ ap (slice_get (accounts_of c.self.inside.machine)) k ∙ here) in
    let e = c.settle.ensures.seat.1 in
    let printed = c.step_with_lines-answer.ensures.lines (ap (λ (a : Account). a.printed) (sym same) ∙ s.4) in (
      s.0,
      s.1,
      c.settle.ensures.seat.0 ∙ c.requires,
      e ∙ (λ i. sitting (k i) (record { account = (ap (λ (v : View). v.account.account) (sym e)) i; kept = c.kept_after-kept.result })),
      ap (λ (v : View). v.account.account.printed) e ∙ printed,
    )

pub returns-clause-counted : goal.returns-clause-counted
returns-clause-counted g c =
    let s = c.seat.invariant in
    let k : (cell_view c.seat.inside.pass).thread ≡ c.seat.inside.thread = ap (λ (v : View). v.thread) s.3 in
    let here = accounts_get c.self.inside.machine c.seat.inside.thread (subst (λ (w : World). c.seat.inside.thread ≤ length w.threads) (sym c.self.invariant.0) s.1) in
    let same = some_same _ _ (sym c.settle.ensures.was.0 ∙ ap (λ (v : View). slice_get v.table.table (cell_view c.seat.inside.pass).thread) c.self.invariant.2 ∙ ap (slice_get (accounts_of c.self.inside.machine)) k ∙ here) in
    let e = c.step_with_lines-answer.ensures in
    ap (λ (v : View). v.account.account.entries) c.settle.ensures.seat.1
    ∙ entries_turn c.self.inside.machine c.step_with_lines-answer.new.machine c.seat.inside.thread c.step_with_lines-answer.result e.turn e.err e.runs
    ∙ ap (λ (a : Account). a.entries + taken c.step_with_lines-answer.result) (sym same) ∙ ap (λ (t : Sat). t.account.entries + taken c.step_with_lines-answer.result) c.seat.view_is

pub returns-clause-ended : goal.returns-clause-ended
returns-clause-ended g c =
    let e = c.step_with_lines-answer.ensures in
    subst (λ (a : Account). IfOk c.step_with_lines-answer.result (EndsSo a)) (ap (λ (v : View). v.account.account) (sym c.settle.ensures.seat.1)) (ended_turn c.self.inside.machine c.step_with_lines-answer.new.machine c.seat.inside.thread c.step_with_lines-answer.result e.turn)
