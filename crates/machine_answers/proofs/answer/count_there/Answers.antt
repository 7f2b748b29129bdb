use Rattle.std.proofs.Common.{arith, w32}
use Rattle.std.proofs.Math.Facts.{Fits-of_lt}
use Rattle.machine_answers.proofs.FewValues.{few_values}
use Rattle.machine_answers.proofs.answer.count_there.Goals as goal

pub overflow_cast-result : goal.overflow_cast-result
overflow_cast-result c =
    let few = few_values c.args.heap.now c.in-Some.addr c.count.ensures.laid_out (omega arith) in
    Fits-of_lt {w = w32} (omega arith)
