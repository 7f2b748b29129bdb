use Rattle.std.proofs.Common.{◌∙◌, true, false, refl, ap, sym, subst, map}
use Rattle.syntax.specs.Views.{unit_tree}
use Rattle.semantics.specs.Views.{object_value_view}
use Rattle.replay_steps.specs.Callers.{entering_view}
use Rattle.replay_terms.specs.Views.{in_use_view}
use Rattle.replay_threads.specs.Threads.{BeginsNext, WorkInRange}
use Rattle.replay_threads.proofs.ThreadLemmas.{called_first, enters, no_next, range_begun}
use Rattle.replay_threads.proofs.thread.enter_called.Goals as goal

pub returns-then-not-branch-clause-step : goal.returns-then-not-branch-clause-step
returns-then-not-branch-clause-step c = rw c.requires.goes (λ shared s h live.
    let turn = c.args.turn in
    let t = c.args.thread.now in
    let e = c.in-Some.call in
    let call = entering_view e in
    let never = subst (λ b. BeginsNext (unit_tree c.args.functions.now) c.args.turn.classes.now call b t.activation c.begin_next.new.place) c.if-not-branch.true (c.in_ok-begin_next.ensures call refl (ap (map object_value_view) (sym c.deref.ensures.value))) in
    no_next (unit_tree c.args.functions.now) turn.classes.now (in_use_view turn.in_use) turn.thread shared t call t.calls.now s never.1 c.requires.idle (called_first t.entering e t.calls.now c.in-Some.is) h)

pub returns-then-not-branch-clause-range : goal.returns-then-not-branch-clause-range
returns-then-not-branch-clause-range c =
    let call = entering_view c.in-Some.call in
    let never = subst (λ b. BeginsNext (unit_tree c.args.functions.now) c.args.turn.classes.now call b c.args.thread.now.activation c.begin_next.new.place) c.if-not-branch.true (c.in_ok-begin_next.ensures call refl (ap (map object_value_view) (sym c.deref.ensures.value))) in
    range_begun c.args.thread.now _ refl (subst WorkInRange (sym (never.0 ∙ c.requires.idle)) tt) c.requires.range

pub returns-clause-step : goal.returns-clause-step
returns-clause-step c = rw c.requires.goes (λ shared s h live.
    let turn = c.args.turn in
    let t = c.args.thread.now in
    let e = c.in-Some.call in
    let call = entering_view e in
    let unit = unit_tree c.args.functions.now in
    let begun = subst (λ b. BeginsNext unit c.args.turn.classes.now call b t.activation c.begin_next.new.place) c.if-not-branch.false (c.in_ok-begin_next.ensures call refl (ap (map object_value_view) (sym c.deref.ensures.value))) in
    enters unit turn.classes.now (in_use_view turn.in_use) turn.thread shared t call t.calls.now c.begin_next.new.place s begun c.requires.idle (called_first t.entering e t.calls.now c.in-Some.is) h _ t.calls refl refl h.loads)

pub returns-clause-range : goal.returns-clause-range
returns-clause-range c =
    let call = entering_view c.in-Some.call in
    let begun = subst (λ b. BeginsNext (unit_tree c.args.functions.now) c.args.turn.classes.now call b c.args.thread.now.activation c.begin_next.new.place) c.if-not-branch.false (c.in_ok-begin_next.ensures call refl (ap (map object_value_view) (sym c.deref.ensures.value))) in
    range_begun c.args.thread.now _ refl (subst WorkInRange (sym begun.is) begun.range) c.requires.range
