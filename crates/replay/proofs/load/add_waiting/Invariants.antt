use Rattle.std.proofs.Common.{◌++◌, drop, List}
use Rattle.replay_threads.specs.declared.thread.Thread.{Thread}
use Rattle.replay.specs.Loading.{AreWaiting}
use Rattle.replay.proofs.LoadLemmas.{calls_of}
use Rattle.replay.proofs.load.add_waiting.Given as goal

abbrev pub invariant-loop-calls : goal.invariant-loop-calls
invariant-loop-calls l = (rest : List Thread) → AreWaiting rest (calls_of (drop l.calls-index l.calls-items)) → AreWaiting (l.threads.items ++ rest) (calls_of l.calls-items)
