use Rattle.std.proofs.Common.{refl}
use Rattle.cli.specs.Answers.{is_said, loses_text}
use Rattle.cli.proofs.answering.show.Goals as goal

pub returns-in-Ok : goal.returns-in-Ok
returns-in-Ok g c = is_said (record { text = c.args.text.now; runs = refl; appended = c.in-Ok.ensures.text; none_waits = c.in-Ok.ensures.none_waits }) refl

pub returns-in-Err : goal.returns-in-Err
returns-in-Err g c = rw c.fail.ensures.status (loses_text (record { text = c.args.text.now; runs = refl; stopped = c.in-Err.ensures.text }) c.fail.ensures.tells)
