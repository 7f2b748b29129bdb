use Rattle.std.proofs.Common.{◌≡◌, Bool, true, false, Ok, ap, arith, subst}
use Rattle.machine_calls.specs.CallState.{state_of}
use Rattle.machine_steps.specs.Invoked.{DoesCall, done_or_refused}
use Rattle.machine_steps.specs.declared.invoke.Invoked.{Invoked}
use Rattle.machine_steps.specs.declared.invoke.Invoked.TheVariants as invoked
use Rattle.machine_steps.proofs.invoke.finish_at_once.Goals as goal

-- it is one of the two
either : (refused : Bool) (x : Invoked) → x ≡ done_or_refused refused → (x ≡ invoked.Done → ⊥) → (x ≡ invoked.Refused → ⊥) → ⊥
either true x is done was = was is
either false x is done was = done is

pub unreachable-requires : goal.unreachable-requires
unreachable-requires c =
    let e = c.in-Ok.ensures.ended in
    either e.0 c.in-Ok.invoked e.1 c.in_default.not-Done
    (λ is. let short = c.in-Ok.ensures.refused (ap (λ (x : Invoked). Ok x) is) in omega (arith, short, c.requires.makes))

pub returns-in-Done-clause-done : goal.returns-in-Done-clause-done
returns-in-Done-clause-done c = λ is.
    subst (λ (x : Invoked). DoesCall c.args.context.step.program.now c.args.context.step.world.now c.args.context.step.thread c.args.context.owner (state_of c.args.store.now c.args.pending.now c.args.activation.now) (state_of c.finish.new.store c.finish.new.pending c.finish.new.activation) c.args.context.call.now x) c.in-Done.is c.in-Ok.ensures.done
