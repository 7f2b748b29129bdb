use Rattle.std.proofs.Common.{List, ◌∙◌, subst}
use Rattle.syntax.specs.declared.unit.Item.{Item}
use Rattle.syntax.specs.Views.{unit_tree}
use Rattle.replay.specs.Replays.{Answers}
use Rattle.replay.proofs.RunLemmas.{ok_of, trap_of, none_waits_of, err_of, only_of}
use Rattle.replay.proofs.journal.replay.Goals as goal

pub returns-clause-ok : goal.returns-clause-ok
returns-clause-ok g c = ok_of _ _ _ _ _ c.replay_with.result
    (subst (λ (items : List Item). Answers (unit_tree items) c.args.world.now c.args.journal.now (g.W.Sink.written c.args.out.now) (g.W.Sink.written c.replay_with.new.out) c.replay_with.result) (c.in_ok-functions.ensures ∙ c.items.ensures.same) c.replay_with.ensures)

pub returns-clause-trap : goal.returns-clause-trap
returns-clause-trap g c = trap_of _ _ _ _ _ c.replay_with.result
    (subst (λ (items : List Item). Answers (unit_tree items) c.args.world.now c.args.journal.now (g.W.Sink.written c.args.out.now) (g.W.Sink.written c.replay_with.new.out) c.replay_with.result) (c.in_ok-functions.ensures ∙ c.items.ensures.same) c.replay_with.ensures)

pub returns-clause-none_waits : goal.returns-clause-none_waits
returns-clause-none_waits g c = none_waits_of _ _ _ _ _ c.replay_with.result
    (subst (λ (items : List Item). Answers (unit_tree items) c.args.world.now c.args.journal.now (g.W.Sink.written c.args.out.now) (g.W.Sink.written c.replay_with.new.out) c.replay_with.result) (c.in_ok-functions.ensures ∙ c.items.ensures.same) c.replay_with.ensures)

pub returns-clause-err : goal.returns-clause-err
returns-clause-err g c = err_of _ _ _ _ _ c.replay_with.result
    (subst (λ (items : List Item). Answers (unit_tree items) c.args.world.now c.args.journal.now (g.W.Sink.written c.args.out.now) (g.W.Sink.written c.replay_with.new.out) c.replay_with.result) (c.in_ok-functions.ensures ∙ c.items.ensures.same) c.replay_with.ensures)

pub returns-clause-only : goal.returns-clause-only
returns-clause-only g c = only_of _ _ _ _ _ c.replay_with.result
    (subst (λ (items : List Item). Answers (unit_tree items) c.args.world.now c.args.journal.now (g.W.Sink.written c.args.out.now) (g.W.Sink.written c.replay_with.new.out) c.replay_with.result) (c.in_ok-functions.ensures ∙ c.items.ensures.same) c.replay_with.ensures)
