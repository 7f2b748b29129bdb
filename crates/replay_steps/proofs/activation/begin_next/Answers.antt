use Rattle.std.proofs.Common.{drop, refl, sym, ◌∙◌}
use Rattle.replay_steps.specs.declared.activation.Work.{Work}
use Rattle.replay_steps.proofs.ActivationLemmas.{begun_next, begun_range, none_begun, none_range}
use Rattle.replay_steps.proofs.activation.begin_next.Goals as goal

pub returns-in_default-clause-tasks : goal.returns-in_default-clause-tasks
returns-in_default-clause-tasks c =
    let old = c.args.work.now in
    let new : Work = record old { task = c.end_task.new.place } in
    none_begun old new c.end_task.ensures refl refl

pub returns-in_default-clause-range : goal.returns-in_default-clause-range
returns-in_default-clause-range c =
    let old = c.args.work.now in
    let new : Work = record old { task = c.end_task.new.place } in
    record { range = none_range old new c.requires c.end_task.ensures refl refl; next = λ none. c.in_default.ensures.none }

pub returns-clause-tasks : goal.returns-clause-tasks
returns-clause-tasks c =
    let old = c.args.work.now in
    let new : Work = record old { task = c.begin_statement.new.place; rest = c.skip_first.new.self } in
    begun_next old new c.in-Some.first.now (drop 1 old.rest) c.in-Some.ensures.some c.in_ok-begin_statement.ensures c.skip_first.ensures refl

pub returns-clause-range : goal.returns-clause-range
returns-clause-range c =
    let old = c.args.work.now in
    let new : Work = record old { task = c.begin_statement.new.place; rest = c.skip_first.new.self } in
    record {
      range = begun_range old new c.in-Some.first.now (drop 1 old.rest) c.in-Some.ensures.some c.requires c.in_ok-begin_statement.ensures c.skip_first.ensures refl;
      next = λ none. absurd (let bad = sym c.in_ok-begin_statement.ensures.is ∙ none in cc);
    }
