use Rattle.std.proofs.Common.{◌≡◌, ◌++◌, map, Ok}
use Rattle.std.specs.Vec.Iter.{into_iter_items}
use Rattle.lower_parallel.proofs.workers.all_made.Given as goal

-- the answers are what was made so far, and those that are left
abbrev pub invariant-loop-answer : goal.invariant-loop-answer
invariant-loop-answer l = l.fn.answers.items ≡ map (λ s. Ok s) l.shares.items ++ into_iter_items l.answer-iterator
