use Rattle.std.proofs.Common.{◌≡◌, Err, rules}
use Rattle.program_check.specs.declared.fault.RunError.TheVariants.{Memory, Fault, Writer}
use Rattle.jnirun.specs.Serve.{is_done, lacks_memory, loses_text}
use Rattle.jnirun.proofs.serving.tell_outcome.Goals as goal

pub returns-in-Ok : goal.returns-in-Ok
returns-in-Ok g c = λ before ran. is_done c.in-Ok.trap (rw c.in-Ok.is at ran) (rw c.deref.ensures.value at c.tell_trap.ensures)

pub returns-in-Err-Fault : goal.returns-in-Err-Fault
returns-in-Err-Fault g c = λ before ran.
    let is : c.args.outcome ≡ Err (Fault c.in-Err-Fault.number c.in-Err-Fault.place) = search rules in
    let h = rw is at ran in rw h.0 at (c.refuse.ensures h.1)

pub returns-in-Err-Memory : goal.returns-in-Err-Memory
returns-in-Err-Memory g c = λ before ran.
    let is : c.args.outcome ≡ Err Memory = search rules in
    let h = rw is at ran in rw c.fail.ensures.status (lacks_memory h c.fail.ensures.tells)

pub returns-in-Err-Writer : goal.returns-in-Err-Writer
returns-in-Err-Writer g c = λ before ran.
    let is : c.args.outcome ≡ Err Writer = search rules in
    let h = rw is at ran in rw c.fail-in-Err-Writer.ensures.status (loses_text h c.fail-in-Err-Writer.ensures.tells)
