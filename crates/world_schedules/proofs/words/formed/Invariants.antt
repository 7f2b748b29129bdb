use Rattle.std.proofs.Common.{◌≡◌}
use Rattle.world_schedules.specs.Split.{parts_of, parts_left}
use Rattle.world_schedules.specs.ReadingWords.{formed_words}
use Rattle.world_schedules.proofs.WordLemmas.{after}
use Rattle.world_schedules.proofs.words.formed.Given as goal

-- the words so far and those of what is left are those of the line
abbrev pub invariant-loop-part : goal.invariant-loop-part
invariant-loop-part g l =
    after l.words.items (formed_words g.W.Word.spelled (parts_left l.part-iterator))
    ≡ formed_words g.W.Word.spelled (parts_of 32 l.line)
