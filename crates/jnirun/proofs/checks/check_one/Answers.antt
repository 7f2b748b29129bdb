use Rattle.std.proofs.Common.{Err, refl, ap}
use Rattle.jnirun.specs.ServeEach.{has_no_file}
use Rattle.jnirun.proofs.EachLemmas.{text_checked}
use Rattle.jnirun.proofs.checks.check_one.Goals as goal

pub returns-in-Ok-clause-checks : goal.returns-in-Ok-clause-checks
returns-in-Ok-clause-checks g c =
    text_checked (g.F.Files.gives c.args.files.now) (g.F.Files.lacks c.args.files.now) c.args.name.now c.in-Ok.program.items
    (g.O.Sink.written c.args.out.now) (g.O.Sink.written c.say_outcome.new.out) (g.E.Sink.written c.args.err.now) (g.E.Sink.written c.say_outcome.new.err) c.say_outcome.result
    c.in-Ok.ensures.content ((rw c.deref-in-Ok.ensures.value at c.say_outcome.ensures) (rw c.deref.ensures.value at c.check_text-outcome.ensures.check))

pub returns-in-Err-File-clause-checks : goal.returns-in-Err-File-clause-checks
returns-in-Err-File-clause-checks g c =
    rw c.fail_of.ensures.status
    (has_no_file (c.in-Err-File.ensures.lacking (ap Err c.in-Err-File.field-0-is)) refl (rw c.as_bytes.ensures.value at c.fail_of.ensures.tells))
