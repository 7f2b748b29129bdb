use Rattle.std.proofs.Common.{◌+◌, length, arith, ap}
use Rattle.world_schedules.specs.Split.{parts_left}
use Rattle.world_schedules.specs.ReadingWords.{text_words}
use Rattle.world_schedules.proofs.LineLemmas.{goes_on, stops, is_all}
use Rattle.world_schedules.proofs.words.read_words.Goals as goal

pub overflow_add-number : goal.overflow_add-number
overflow_add-number g c =
    omega (arith, c.loop-line.invariant.number, ap length c.in-Some.ensures.steps, c.new-line-items.ensures.few)

pub returns-in-Err : goal.returns-in-Err
returns-in-Err g c =
    let w = g.W.Word in
    rw c.told.ensures (stops w.spelled (w.known c.args.threads) w.times w.apart (c.loop-line.number + 1) c.loop-line.so_far.words c.loop-line.so_far.apart c.in-Some.line.now (parts_left c.loop-line.line-iterator) (parts_left c.next.new.self) c.loop-line.words.items
    (text_words w.spelled (w.known c.args.threads) w.times w.apart c.args.text.now) c.in-Some.ensures.steps c.loop-line.invariant.words c.in-Err.broken c.in-Err.ensures.words)

pub loop-line-preserved : goal.loop-line-preserved
loop-line-preserved g c =
    let w = g.W.Word in
    let first = c.in-Ok.more.items in
    record {
      words = rw (c.in_ok-gather.ensures.items, c.in-Ok.ensures.counted, c.in-Ok.ensures.counted_apart) (goes_on w.spelled (w.known c.args.threads) w.times w.apart (c.loop-line.number + 1) c.loop-line.so_far.words c.loop-line.so_far.apart c.in-Some.line.now (parts_left c.loop-line.line-iterator) (parts_left c.next.new.self) c.loop-line.words.items
          (text_words w.spelled (w.known c.args.threads) w.times w.apart c.args.text.now) c.in-Some.ensures.steps c.loop-line.invariant.words first c.in-Ok.ensures.words);
      empty = c.in_ok-gather.ensures.none;
      few = c.in-Ok.ensures.within;
      few_apart = c.in-Ok.ensures.within_apart;
      number = omega (arith, c.loop-line.invariant.number, ap length c.in-Some.ensures.steps);
    }

pub returns : goal.returns
returns g c =
    let w = g.W.Word in
    is_all w.spelled (w.known c.args.threads) w.times w.apart (c.loop-line.number + 1) c.loop-line.so_far.words c.loop-line.so_far.apart (parts_left c.loop-line.line-iterator) c.loop-line.words.items
    (text_words w.spelled (w.known c.args.threads) w.times w.apart c.args.text.now) c.in-None.ensures.steps.0 c.loop-line.invariant.words
