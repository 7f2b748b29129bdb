use Rattle.std.proofs.lemmas.Result.{IfOk-weaker}
use Rattle.machine_answers.specs.declared.answer.Answer.TheVariants as answer
use Rattle.machine_calls.proofs.CarryOuts as carries
use Rattle.machine_calls.proofs.MonitorCarries as monitors
use Rattle.machine_calls.proofs.carry_out.carry_out_monitors.Goals as goal

pub returns-in_ok-enter-in-Enters-clause-carried : goal.returns-in_ok-enter-in-Enters-clause-carried
returns-in_ok-enter-in-Enters-clause-carried c p kind brought others owner shared s of_source h does thread =
    let w = c.args.calling.world.now in
    let old = c.args.store.now in
    let o = c.in-Enters.object in
    let told = c.in_ok-enter-in-Enters.ensures in
    carries.by_answer p w old.heap c.args.locals.now kind others owner shared s of_source brought c.args.answer (answer.Enters o) c.in-Enters.is _ _ _ _ _ (λ enters.
    monitors.enters p w old c.args.pending.now c.args.locals.now others c.args.calling.thread owner shared s h brought thread o enters c.in_ok-enter-in-Enters.field-0 c.enter.new.self told.answer told.entered told.objects) does

pub returns-in-Exits-clause-carried : goal.returns-in-Exits-clause-carried
returns-in-Exits-clause-carried c p kind brought others owner shared s of_source h does thread =
    let w = c.args.calling.world.now in
    let old = c.args.store.now in
    let n = c.in-Exits.name in
    let told = c.exit.ensures in
    carries.by_answer p w old.heap c.args.locals.now kind others owner shared s of_source brought c.args.answer (answer.Exits n) c.in-Exits.is _ _ _ _ _ (λ exits.
    monitors.exits p w old c.args.pending.now c.args.locals.now others c.args.calling.thread owner shared s h brought thread n exits c.exit.result c.exit.new.self told.answer told.left told.objects) does

pub returns-in_default-clause-carried : goal.returns-in_default-clause-carried
returns-in_default-clause-carried c =
    IfOk-weaker c.carry_out_references.result _ _ (λ given told p kind brought others owner shared s of_source h does thread. told p kind brought others owner shared s of_source h does) c.carry_out_references.ensures.carried
