use Rattle.std.proofs.Common.{◌∙◌, ap, Err}
use Rattle.syntax.specs.Views.{unit_tree}
use Rattle.jnirun.proofs.WorkLemmas.{refused_length, refused_world, lower_fails}
use Rattle.jnirun.proofs.working.work_checked.Goals as goal

pub returns-in-Ok-read_world-clause-run : goal.returns-in-Ok-read_world-clause-run
returns-in-Ok-read_world-clause-run g c = λ program is.
    c.work_in.ensures.run program c.args.world_text.now (record {
      of_program = rw c.in-Ok.ensures.ok is;
      short = rw c.in-Ok.ensures.ok c.in-Ok.ensures.short;
      of_world = c.in-Ok-read_world.ensures.read;
      means = c.in-Ok-read_world.ensures.means;
    })

pub returns-in-Ok-read_world-clause-accepted : goal.returns-in-Ok-read_world-clause-accepted
returns-in-Ok-read_world-clause-accepted g c = λ program m same.
    c.work_in.ensures.accepted program c.args.world_text.now c.in-Ok-read_world.ensures.read m (ap unit_tree c.in-Ok.ensures.ok ∙ same)

pub returns-in-Err-read_world-clause-run : goal.returns-in-Err-read_world-clause-run
returns-in-Err-read_world-clause-run g c = λ program is.
    rw c.of_reading.ensures (refused_world program c.args.world_text.now (g.W.Sink.written c.args.out.now) (unit_tree c.args.checked.now) c.in-Err-read_world.error is c.in-Ok.ensures.short c.in-Err-read_world.ensures.read)

pub returns-in-Err-clause-run : goal.returns-in-Err-clause-run
returns-in-Err-clause-run g c = λ program is.
    rw c.of_lower.ensures (refused_length program c.args.world_text.now (g.W.Sink.written c.args.out.now) (unit_tree c.args.checked.now) c.in-Err.error is (λ e. c.in-Err.ensures.too_long (ap Err e)))

pub returns-in-Err-clause-accepted : goal.returns-in-Err-clause-accepted
returns-in-Err-clause-accepted g c = λ program m same. rw c.of_lower.ensures (lower_fails c.in-Err.error)
