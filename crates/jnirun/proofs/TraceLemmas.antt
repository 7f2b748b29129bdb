-- Commands whose entries are told.
use Rattle.std.proofs.Common.{◌≡◌, ◌≤◌, ◌+◌, ℕ, List, Option, Some, None, inl, inr, arith, ap}
use Rattle.sinks.specs.Sink.{Written}
use Rattle.cli_commands.specs.declared.command.Command.{Command}
use Rattle.cli_commands.specs.Saying.{Tells}
use Rattle.replay_trace.proofs.TraceLemmas.{stays}
use Rattle.jnirun.proofs.EachLemmas.{told_failures}
use Rattle.jnirun.specs.Serve.{ServesTexts, is_done, is_refused, lacks_memory, loses_text, loses_fault, Serves}
use Rattle.jnirun.specs.Traces.{ServesTraced}

-- what is said of a command on standard error fails once at most
pub served_failures : {command : Command} {program world order : List ℕ} {out out_after err err_after : Written} {status : ℕ}
    → ServesTexts command program world order out out_after err err_after status → err_after.failures ≤ err.failures + 1
served_failures (is_done None written same) = let f = ap (λ (w : Written). w.failures) same in omega (arith, f)
served_failures (is_done (Some trap) written told) = told_failures told
served_failures (is_refused number place detail earned sent told) = told_failures told
served_failures (lacks_memory same told) = told_failures told
served_failures (loses_text stopped told) = told_failures told
served_failures (loses_fault number place earned stopped told) = told_failures told

-- a command that ended before its entries could be told
pub untold : {gives : List ℕ → List ℕ → Type 0} {lacks : List ℕ → Type 0} {command : Command} {out out_after err err_after : Written} {status : ℕ}
    → Serves gives lacks command out out_after err err_after status → ServesTraced gives lacks command out out_after err err_after status
untold {gives} {lacks} {command} {out} {out_after} {err} {err_after} serves = record { told = err_after; serves = serves; further = stays err_after }
