use Rattle.std.proofs.Common.{◌≡◌, ◌-◌, ◌^◌, true, min, take, sum_by}
use Rattle.std.specs.List.{list_all}
use Rattle.world_schedules.proofs.words.counts_of.Given as goal

-- the words so far are known, and are counted
abbrev pub invariant-loop-word : goal.invariant-loop-word
invariant-loop-word g l = record {
  known : list_all (g.W.Word.known l.threads) (take l.word-index l.words) ≡ true;
  words : l.counts.words ≡ min (sum_by g.W.Word.times (take l.word-index l.words)) (2 ^ 64 - 1);
  apart : l.counts.apart ≡ min (sum_by g.W.Word.apart (take l.word-index l.words)) (2 ^ 64 - 1);
}
