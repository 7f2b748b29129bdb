use Rattle.std.proofs.Common.{refl}
use Rattle.cli_commands.proofs.SayingLemmas.{tells}
use Rattle.cli.proofs.answering.decline.Goals as goal

pub returns : goal.returns
returns g c = (refl, tells (g.E.Sink.written c.args.err.now) (g.E.Sink.written c.say.new.sink) c.say.result _ c.say.ensures.text c.say.ensures.none_waits)
