use Rattle.std.proofs.Common.{◌≡◌, ℕ, ◌-◌, List, Some, true, sym, ap, ◌∙◌, subst, arith}
use Rattle.std.specs.Prelude.{slice_get}
use Rattle.semantics.specs.State.{thread_at}
use Rattle.semantics.specs.Step.{is_blocked, is_unfinished}
use Rattle.replay_threads.specs.declared.thread.Thread.{Thread}
use Rattle.replay_threads.proofs.StateLemmas.{stopped, not_there, past_the_end, ended, element_at, waiting}
use Rattle.replay_threads.proofs.state.place_of.Goals as goal

pub returns-then-is_some-clause-none : goal.returns-then-is_some-clause-none
returns-then-is_some-clause-none c = λ unit refused w s h. stopped unit w c.args.state.now s h c.requires c.args.k refused (sym c.is_some.ensures ∙ c.if-is_some.true)

pub returns-then-number-eq0-clause-none : goal.returns-then-number-eq0-clause-none
returns-then-number-eq0-clause-none c = λ unit refused w s h.
    let none : c.args.k ≡ 0 = omega arith in
    not_there unit w c.args.state.now s h c.requires c.args.k refused (ap (thread_at s) none)

pub returns-then-len-number-clause-none : goal.returns-then-len-number-clause-none
returns-then-len-number-clause-none c = λ unit refused w s h. past_the_end unit w c.args.state.now s h c.requires c.args.k refused (omega arith)

pub returns-then-waits-clause-none : goal.returns-then-waits-clause-none
returns-then-waits-clause-none c = λ unit refused w s h.
    let blocked : is_blocked w.classes s c.args.k ≡ true =
    ap (is_blocked w.classes s) (sym c.from-number.ensures) ∙ sym (c.waits.ensures unit w s h c.requires) ∙ c.if-waits.true in
    waiting unit w c.args.state.now s h c.requires c.args.k refused blocked

live_there : (ts : List Thread) (i : ℕ) (t u : Thread) → slice_get ts i ≡ Some t → is_unfinished t.ending ≡ true → slice_get ts i ≡ Some u → is_unfinished u.ending ≡ true
live_there ts i t u at live same = let one : t ≡ u = cc in subst (λ (x : Thread). is_unfinished x.ending ≡ true) one live

pub returns-else-is_unfinished-clause-none : goal.returns-else-is_unfinished-clause-none
returns-else-is_unfinished-clause-none c = λ unit refused w s h.
    let at = element_at c.args.state.now.threads c.from-number.result c.len.result c.index.result.now c.if-number-eq0.false c.if-len-number.false c.len.ensures c.index.ensures in
    ended unit w c.args.state.now s h c.requires c.args.k refused (c.from-number.result - 1) c.index.result.now (omega arith) at (sym c.is_unfinished.ensures ∙ c.if-is_unfinished.false)

pub returns-then-is_unfinished-clause-some : goal.returns-then-is_unfinished-clause-some
returns-then-is_unfinished-clause-some c =
    let at = element_at c.args.state.now.threads c.from-number.result c.len.result c.index.result.now c.if-number-eq0.false c.if-len-number.false c.len.ensures c.index.ensures in
    record {
      counted = omega arith;
      there = omega arith;
      live = λ t same. live_there c.args.state.now.threads.items (c.from-number.result - 1) c.index.result.now t at (sym c.is_unfinished.ensures ∙ c.if-is_unfinished.true) same;
      runs = sym c.is_some.ensures ∙ c.if-is_some.false;
      free = λ unit w s h range. sym c.if-waits.false ∙ c.waits.ensures unit w s h range ∙ ap (is_blocked w.classes s) c.from-number.ensures;
    }
