use Rattle.std.proofs.Common.{◌≡◌, ℕ, ◌+◌, ◌<◌, ◌^◌, List, Some, ap, sym, ◌∙◌, arith}
use Rattle.code.specs.Effect.{plain_of}
use Rattle.code.specs.declared.instr.Plain.{Plain}
use Rattle.code.specs.declared.instr.Plain.TheVariants as plain
use Rattle.code.specs.declared.instr.Instr.{Instr}
use Rattle.machine_steps.proofs.Effects.{Answer}
use Rattle.machine_steps.proofs.execute.run_plain.Goals as goal

-- what a plain instruction answered, by the path that was taken
taken : (i : Instr) (stack numbers held left slots : List ℕ) (path taken : Plain) → held ≡ numbers → plain_of i stack held ≡ Some (path, left, slots) → path ≡ taken → plain_of i stack numbers ≡ Some (taken, left, slots)
taken i stack numbers held left slots path ahead same is which = ap (plain_of i stack) (sym same) ∙ is ∙ ap (λ (w : Plain). let x : Answer = Some (w, left, slots) in x) which

pub overflow_add-activation : goal.overflow_add-activation
overflow_add-activation c =
    let place : c.args.activation.now.place + 1 < 2 ^ 64 = c.requires.leads plain.Next c.plain.new.stack c.plain.new.numbers (taken c.args.instr.now c.args.activation.now.stack c.args.activation.now.slots.numbers.items c.deref_mut.result.now c.plain.new.stack c.plain.new.numbers c.plain.result plain.Next c.deref_mut.ensures.value c.plain.ensures c.in-Next.is) in
    omega (arith, place)

pub overflow_add-activation-in-Skip-2 : goal.overflow_add-activation-in-Skip-2
overflow_add-activation-in-Skip-2 c =
    let place : c.args.activation.now.place + 1 + c.in-Skip.skipped < 2 ^ 64 = c.requires.leads (plain.Skip c.in-Skip.skipped) c.plain.new.stack c.plain.new.numbers (taken c.args.instr.now c.args.activation.now.stack c.args.activation.now.slots.numbers.items c.deref_mut.result.now c.plain.new.stack c.plain.new.numbers c.plain.result (plain.Skip c.in-Skip.skipped) c.deref_mut.ensures.value c.plain.ensures c.in-Skip.is) in
    omega (arith, place)

pub overflow_sub-activation : goal.overflow_sub-activation
overflow_sub-activation c =
    c.requires.leads (plain.Back c.in-Back.back) c.plain.new.stack c.plain.new.numbers (taken c.args.instr.now c.args.activation.now.stack c.args.activation.now.slots.numbers.items c.deref_mut.result.now c.plain.new.stack c.plain.new.numbers c.plain.result (plain.Back c.in-Back.back) c.deref_mut.ensures.value c.plain.ensures c.in-Back.is)
