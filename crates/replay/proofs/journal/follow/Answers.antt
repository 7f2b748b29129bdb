use Rattle.std.proofs.Common.{get_or, false, subst}
use Rattle.std.proofs.lemmas.Option.{slice_get-get_or}
use Rattle.syntax.specs.Views.{unit_tree}
use Rattle.semantics.specs.Journal.{Entry}
use Rattle.replay_threads.specs.States.{TakesEntry}
use Rattle.replay.proofs.RunLemmas.{stops, goes_on, at_end}
use Rattle.replay.proofs.journal.follow.Goals as goal

pub returns-then-not-branch-clause-refused : goal.returns-then-not-branch-clause-refused
returns-then-not-branch-clause-refused c = λ w first.
    let journal = c.args.journal.now in
    let entry : Entry = get_or journal c.loop-done.done c.index-journal-done.result in
    let at = slice_get-get_or journal c.loop-done.done c.index-journal-done.result c.loop-done-test.true in
    stops (unit_tree c.args.functions.now) w journal c.loop-done.done entry c.loop-done.state c.take_entry.new.state at (c.loop-done.invariant.replayed w first) c.loop-done-test.true
    (subst (λ b. TakesEntry (unit_tree c.args.functions.now) c.loop-done.state entry b c.take_entry.new.state) c.if-not-branch.true (rw c.index-journal-done.is at c.in_ok-take_entry.ensures.step))

pub loop-done-preserved : goal.loop-done-preserved
loop-done-preserved c =
    let journal = c.args.journal.now in
    let entry : Entry = get_or journal c.loop-done.done c.index-journal-done.result in
    let at = slice_get-get_or journal c.loop-done.done c.index-journal-done.result c.loop-done-test.true in
    record {
      replayed = λ w first. goes_on (unit_tree c.args.functions.now) w journal c.loop-done.done entry c.loop-done.state c.take_entry.new.state at (c.loop-done.invariant.replayed w first)
          (subst (λ b. TakesEntry (unit_tree c.args.functions.now) c.loop-done.state entry b c.take_entry.new.state) c.if-not-branch.false (rw c.index-journal-done.is at c.in_ok-take_entry.ensures.step))
          c.in_ok-take_entry.ensures.range;
      range = c.in_ok-take_entry.ensures.range;
    }

pub returns-clause-end : goal.returns-clause-end
returns-clause-end c = λ w first. at_end (unit_tree c.args.functions.now) w c.args.journal.now c.loop-done.done c.loop-done.state c.loop-done-test.false (c.loop-done.invariant.replayed w first)
