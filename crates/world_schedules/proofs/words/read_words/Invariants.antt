use Rattle.std.proofs.Common.{◌≡◌, ◌+◌, ◌≤◌, [], length}
use Rattle.world_schedules.specs.Split.{parts_of, parts_left}
use Rattle.world_schedules.specs.ReadingWords.{lines_words, text_words}
use Rattle.world_schedules.proofs.LineLemmas.{after_lines}
use Rattle.world_schedules.proofs.words.read_words.Given as goal

abbrev pub invariant-loop-line : goal.invariant-loop-line
invariant-loop-line g l = record {
  words : after_lines l.words.items (lines_words g.W.Word.spelled (g.W.Word.known l.threads) g.W.Word.times g.W.Word.apart (l.number + 1) l.so_far.words l.so_far.apart (parts_left l.line-iterator)) ≡ text_words g.W.Word.spelled (g.W.Word.known l.threads) g.W.Word.times g.W.Word.apart l.text;
  empty : l.empty.items ≡ [];
  few : l.so_far.words ≤ 1000000;
  few_apart : l.so_far.apart ≤ 1000000;
  number : l.number + length (parts_left l.line-iterator) ≡ length (parts_of 10 l.text);
}
