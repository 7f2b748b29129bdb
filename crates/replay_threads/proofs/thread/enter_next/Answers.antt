use Rattle.std.proofs.Common.{◌≡◌, ◌∷◌, true, false, refl, sym, subst, ◌∙◌, rules}
use Rattle.syntax.specs.Views.{unit_tree}
use Rattle.replay_terms.specs.Views.{in_use_view}
use Rattle.replay_threads.specs.Threads.{BeginsNext, WorkInRange}
use Rattle.replay_threads.proofs.ThreadLemmas.{enters, no_next, range_begun, rest_loads, world_first}
use Rattle.replay_threads.proofs.thread.enter_next.Goals as goal

pub returns-then-not-branch-clause-step : goal.returns-then-not-branch-clause-step
returns-then-not-branch-clause-step c = rw c.requires.goes (λ shared s h live.
    let turn = c.args.turn in
    let call = c.in-Some.call.now in
    let never = subst (λ b. BeginsNext (unit_tree c.args.functions.now) c.args.turn.classes.now call b c.args.thread.now.activation c.begin_next.new.place) c.if-not-branch.true (c.in_ok-begin_next.ensures call (sym c.function-name.ensures) (sym c.arguments-arguments.ensures)) in
    no_next (unit_tree c.args.functions.now) turn.classes.now (in_use_view turn.in_use) turn.thread shared c.args.thread.now call c.in-Some.rest.now s never.1 c.requires.idle (world_first c.args.thread.now.entering c.args.thread.now.calls.now c.requires.uncalled ∙ search rules) h)

pub returns-then-not-branch-clause-range : goal.returns-then-not-branch-clause-range
returns-then-not-branch-clause-range c =
    let call = c.in-Some.call.now in
    let never = subst (λ b. BeginsNext (unit_tree c.args.functions.now) c.args.turn.classes.now call b c.args.thread.now.activation c.begin_next.new.place) c.if-not-branch.true (c.in_ok-begin_next.ensures call (sym c.function-name.ensures) (sym c.arguments-arguments.ensures)) in
    range_begun c.args.thread.now _ refl (subst WorkInRange (sym (never.0 ∙ c.requires.idle)) tt) c.requires.range

pub returns-clause-step : goal.returns-clause-step
returns-clause-step c = rw c.requires.goes (λ shared s h live.
    let turn = c.args.turn in
    let t = c.args.thread.now in
    let call = c.in-Some.call.now in
    let unit = unit_tree c.args.functions.now in
    let begun = subst (λ b. BeginsNext unit c.args.turn.classes.now call b t.activation c.begin_next.new.place) c.if-not-branch.false (c.in_ok-begin_next.ensures call (sym c.function-name.ensures) (sym c.arguments-arguments.ensures)) in
    let are : t.calls.now ≡ call ∷ c.in-Some.rest.now = search rules in
    enters unit turn.classes.now (in_use_view turn.in_use) turn.thread shared t call c.in-Some.rest.now c.begin_next.new.place s begun c.requires.idle (world_first t.entering t.calls.now c.requires.uncalled ∙ are) h t.entering c.in-Some.rest c.requires.uncalled (search rules)
    (rest_loads unit turn.classes.now (in_use_view turn.in_use) turn.thread t.calls.now call c.in-Some.rest.now are h.loads))

pub returns-clause-range : goal.returns-clause-range
returns-clause-range c =
    let call = c.in-Some.call.now in
    let begun = subst (λ b. BeginsNext (unit_tree c.args.functions.now) c.args.turn.classes.now call b c.args.thread.now.activation c.begin_next.new.place) c.if-not-branch.false (c.in_ok-begin_next.ensures call (sym c.function-name.ensures) (sym c.arguments-arguments.ensures)) in
    range_begun c.args.thread.now _ refl (subst WorkInRange (sym begun.is) begun.range) c.requires.range
