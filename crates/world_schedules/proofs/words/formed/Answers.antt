use Rattle.std.proofs.Common.{length, sym, ◌∙◌}
use Rattle.base.proofs.Numbers.{positive}
use Rattle.world_schedules.specs.Split.{parts_left, parts_of}
use Rattle.world_schedules.specs.ReadingWords.{formed_words}
use Rattle.world_schedules.proofs.WordLemmas.{skips, takes, no_form, ends, empty}
use Rattle.world_schedules.proofs.words.formed.Goals as goal

pub loop-part-preserved-in-Continue-branch-3 : goal.loop-part-preserved-in-Continue-branch-3
loop-part-preserved-in-Continue-branch-3 g c =
    rw c.in_ok-push-in-Some-2.ensures.items
    (takes g.W.Word.spelled c.in-Some.part.now (parts_left c.loop-part.part-iterator) (parts_left c.next.new.self) c.loop-part.words.items
    (formed_words g.W.Word.spelled (parts_of 32 c.args.line.now)) c.in-Some-2.word c.in-Some.ensures.steps
    (positive (length c.in-Some.part.now) (sym c.if-not-is_empty.ensures)) (sym c.in-Some-2.is ∙ c.in_ok-word.ensures) c.loop-part.invariant)

pub returns-in-None-2 : goal.returns-in-None-2
returns-in-None-2 g c =
    no_form g.W.Word.spelled c.in-Some.part.now (parts_left c.loop-part.part-iterator) (parts_left c.next.new.self) c.loop-part.words.items
    (formed_words g.W.Word.spelled (parts_of 32 c.args.line.now)) c.in-Some.ensures.steps
    (positive (length c.in-Some.part.now) (sym c.if-not-is_empty.ensures)) (sym c.in-None-2.is ∙ c.in_ok-word.ensures) c.loop-part.invariant

pub loop-part-preserved : goal.loop-part-preserved
loop-part-preserved g c =
    skips g.W.Word.spelled c.in-Some.part.now (parts_left c.loop-part.part-iterator) (parts_left c.next.new.self) c.loop-part.words.items
    (formed_words g.W.Word.spelled (parts_of 32 c.args.line.now)) c.in-Some.ensures.steps
    (empty (length c.in-Some.part.now) c.if-not-is_empty.ensures) c.loop-part.invariant

pub returns : goal.returns
returns g c =
    ends g.W.Word.spelled (parts_left c.loop-part.part-iterator) c.loop-part.words.items
    (formed_words g.W.Word.spelled (parts_of 32 c.args.line.now)) c.in-None.ensures.steps.0 c.loop-part.invariant
