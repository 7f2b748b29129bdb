-- What is done by a command whose entries are told.
use Rattle.std.specs.Prelude.{ℕ, List}
use Rattle.sinks.specs.Sink.{Written}
use Rattle.replay_trace.specs.Traces.{GoesOn}
use Rattle.cli_commands.specs.declared.command.Command.{Command}
use Rattle.jnirun.specs.Serve.{Serves}

-- What is done by a command whose entries are told: what it does without that, and then more is said on standard error.
pub record ServesTraced (gives : List ℕ → List ℕ → Type 0) (lacks : List ℕ → Type 0) (command : Command)
    (out out_after err err_after : Written) (status : ℕ) : Type 0 where
  pub told : Written
  pub serves : Serves gives lacks command out out_after err told status
  pub further : GoesOn told err_after
