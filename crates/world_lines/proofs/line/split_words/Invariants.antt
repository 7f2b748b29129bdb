use Rattle.std.proofs.Common.{◌≡◌, ◌++◌, map}
use Rattle.world_schedules.specs.Split.{parts_of, parts_left}
use Rattle.world_lines.proofs.line.split_words.Given as goal

-- the words so far and those that are left are all of them
abbrev pub invariant-loop-word : goal.invariant-loop-word
invariant-loop-word l = map (λ w. w.now) l.words.items ++ parts_left l.parts ≡ parts_of 32 l.line
