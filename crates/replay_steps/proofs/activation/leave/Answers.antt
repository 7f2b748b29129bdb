use Rattle.std.proofs.Common.{refl, sym, subst}
use Rattle.replay_steps.specs.declared.activation.Work.{Work}
use Rattle.replay_steps.specs.Activations.{OuterInRange}
use Rattle.replay_tasks.specs.Tasks.{BegunInRange, EndInRange}
use Rattle.replay_steps.proofs.ActivationLemmas.{if_over, outer_parts, turn_over}
use Rattle.replay_steps.proofs.activation.leave.Goals as goal

pub begin_turn-requires : goal.begin_turn-requires
begin_turn-requires c =
    let parts = outer_parts c.pop.new.self.items c.in-Some.outer (subst OuterInRange c.in-Some.ensures.items c.requires.range.outer) in
    let turn = subst EndInRange c.in-Turn.is parts.1 in
    record { test = turn.0; body = turn.1 }

pub returns-in-If-clause-step : goal.returns-in-If-clause-step
returns-in-If-clause-step c = λ scene.
    let old = c.args.work.now in
    let new : Work = record old { rest = c.in-Some.outer.rest; outer = c.pop.new.self } in
    if_over scene old new c.requires.task c.requires.rest c.pop.new.self.items c.in-Some.outer c.in-Some.ensures.items refl refl c.in-If.is c.requires.task

pub returns-in-If-clause-range : goal.returns-in-If-clause-range
returns-in-If-clause-range c =
    let parts = outer_parts c.pop.new.self.items c.in-Some.outer (subst OuterInRange c.in-Some.ensures.items c.requires.range.outer) in
    record { begun = c.requires.range.begun; rest = parts.2; outer = parts.0 }

pub returns-in_ok-begin_turn-in-Turn-clause-step : goal.returns-in_ok-begin_turn-in-Turn-clause-step
returns-in_ok-begin_turn-in-Turn-clause-step c = λ scene.
    let old = c.args.work.now in
    let turned = c.in_ok-begin_turn-in-Turn.ensures in
    let new : Work = record old { task = c.begin_turn.new.place; rest = c.in-Some.outer.rest; outer = c.pop.new.self } in
    turn_over scene old new c.requires.task c.requires.rest c.pop.new.self.items c.in-Some.outer c.in-Some.ensures.items refl refl
    c.in-Turn.line c.in-Turn.test c.in-Turn.body turned.task c.in-Turn.is turned.is turned.begins

pub returns-in_ok-begin_turn-in-Turn-clause-range : goal.returns-in_ok-begin_turn-in-Turn-clause-range
returns-in_ok-begin_turn-in-Turn-clause-range c =
    let parts = outer_parts c.pop.new.self.items c.in-Some.outer (subst OuterInRange c.in-Some.ensures.items c.requires.range.outer) in
    let turned = c.in_ok-begin_turn-in-Turn.ensures in
    record { begun = subst BegunInRange (sym turned.is) turned.range; rest = parts.2; outer = parts.0 }
