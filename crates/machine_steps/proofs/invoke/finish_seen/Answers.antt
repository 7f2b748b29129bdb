use Rattle.std.proofs.Common.{◌≡◌, Ok, ap, arith, ◌∙◌}
use Rattle.std.proofs.lemmas.Result.{err_from_is_err_and}
use Rattle.machine_calls.proofs.CellsMade.{memory_free}
use Rattle.machine_scenes.specs.NewObjects.{texts_in}
use Rattle.machine_steps.proofs.AnsweredCalls.{cells_asked, no_call}
use Rattle.machine_steps.specs.declared.invoke.Invoked.{Invoked}
use Rattle.machine_steps.specs.declared.invoke.Invoked.TheVariants as invoked
use Rattle.machine_steps.proofs.SeenAnswers.{never_calls}
use Rattle.machine_steps.proofs.invoke.finish_seen.Goals as goal

pub returns : goal.returns
returns c =
    let told = c.in_ok-finish.ensures in
    record {
      done = told.done;
      hindered = tt;
      refuses = λ is.
          let same : c.in_ok-finish.field-0 ≡ invoked.Refused = let both : Ok c.in_ok-finish.field-0 ≡ Ok invoked.Refused = is in cc in
          let short = told.refused (ap (λ (x : Invoked). Ok x) same) in
          absurd (omega (arith, short, c.requires.makes));
      calls = λ is. absurd (never_calls told.ended.0 _ told.ended.1 is);
      kept = tt;
    }

pub returns-in_err-finish : goal.returns-in_err-finish
returns-in_err-finish c =
    let given = err_from_is_err_and c.from_residual.result c.from_residual.ensures.1 in
    rw (given.1, given.2)
    (record {
      done = tt;
      hindered = λ others own shared s task rest h.
          cells_asked c.args.context.step.program.now c.args.context.step.world.now c.args.store.now c.args.pending.now c.args.activation.now c.args.context.call.now others c.args.context.step.thread c.args.context.owner own shared s task rest h c.args.answer c.requires.answered (no_call c.args.answer c.requires.runs) c.args.context.call.now.result c.requires.may.prepared.result
          ∙ memory_free c.args.context.step.world.now.classes (texts_in c.args.context.call.now.texts.items) c.args.answer c.in_err-finish.ensures.memory;
      refuses = λ is. absurd (cc);
      calls = tt;
      kept = c.in_err-finish.ensures.kept;
    })
