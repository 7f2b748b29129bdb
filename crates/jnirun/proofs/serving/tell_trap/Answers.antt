use Rattle.std.proofs.Common.{rules}
use Rattle.jnirun.proofs.ServeLemmas.{trap_told}
use Rattle.jnirun.proofs.serving.tell_trap.Goals as goal

pub returns : goal.returns
returns g c = rw c.in-Some.is (trap_told c.args.command c.args.program.now (g.E.Sink.written c.args.err.now) (g.E.Sink.written c.tell.new.err) c.in-Some.trap _ _ c.tell.result (search rules) (search rules) (rw c.from.ensures at c.tell.ensures.text) c.tell.ensures.none_waits)
