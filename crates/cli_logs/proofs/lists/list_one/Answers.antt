use Rattle.std.proofs.Common.{Err, refl, ap, map}
use Rattle.program_check.specs.AllFaults.{entry_of}
use Rattle.cli_logs.specs.Lists.{has_no_file}
use Rattle.cli_logs.proofs.ListLemmas.{text_listed}
use Rattle.cli_logs.proofs.lists.list_one.Goals as goal

pub returns-in-Err-File-clause-lists : goal.returns-in-Err-File-clause-lists
returns-in-Err-File-clause-lists g c = rw c.tell_unread.ensures.status (has_no_file (c.in-Err-File.ensures.lacking (ap Err c.in-Err-File.field-0-is)) refl)

pub returns-in-Ok-all_faults-clause-lists : goal.returns-in-Ok-all_faults-clause-lists
returns-in-Ok-all_faults-clause-lists g c =
    text_listed (g.F.Files.gives c.args.files.now) (g.F.Files.lacks c.args.files.now) c.args.several c.args.name.now c.in-Ok.program.items (map entry_of c.in-Ok-all_faults.faults.items)
    (g.O.Sink.written c.args.out.now) (g.O.Sink.written c.say_outcome.new.out) c.say_outcome.result c.in-Ok.ensures.content
    (rw c.deref.ensures.value at c.in-Ok-all_faults.ensures.all)
    (rw c.deref-in-Ok-all_faults-2.ensures.value at c.say_outcome.ensures.says)
