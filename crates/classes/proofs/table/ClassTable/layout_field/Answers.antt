use Rattle.std.proofs.Common.{◌≡◌, ℕ, ◌+◌, ◌-◌, ◌<◌, ◌≤◌, length, subst, slice_get, ◌∙◌, ap, sym, false, arith, length-append}
use Rattle.std.specs.Option.{option_map}
use Rattle.base.proofs.Lists.{get_left}
use Rattle.class_rules.specs.Fields.{own_fields}
use Rattle.classes.proofs.FoundFields.{identified}
use Rattle.classes.proofs.Layouts.{layout_within, layout-above, layout-top, own-within, own-length, at-own}
use Rattle.classes.proofs.table.ClassTable.layout_field.Goals as goal

pub overflow_sub-start : goal.overflow_sub-start
overflow_sub-start c =
    let T = c.args.self.now in
    let left : c.len-end.result - c.loop.counter ≡ (c.len-end.result - (c.loop.counter + 1)) + 1 = omega arith in
    omega (arith, c.loop.invariant.counted, own-length T c.loop.declarer.number c.declared-own.result.now c.declared-own.ensures, own-within T (c.len-end.result - c.loop.counter) (c.len-end.result - (c.loop.counter + 1)) c.loop.declarer.number left)

-- the field at the place is the class's own
pub returns-in-Some : goal.returns-in-Some
returns-in-Some c =
    let T = c.args.self.now in
    let left : c.len-end.result - c.loop.counter ≡ (c.len-end.result - (c.loop.counter + 1)) + 1 = omega arith in
    ap (option_map (identified false c.loop.declarer.number)) (c.in-Some.ensures ∙ ap (λ n. slice_get c.declared-own.result.now (c.args.place - (c.loop.count - n))) c.len.ensures)
    ∙ sym (at-own T (c.len-end.result - c.loop.counter) (c.len-end.result - (c.loop.counter + 1)) c.loop.declarer.number c.args.place c.loop.count c.declared-own.result.now left c.declared-own.ensures c.loop.invariant.counted c.loop.invariant.within (subst (λ (n : ℕ). c.loop.count - n ≤ c.args.place) c.len.ensures c.if-place-start.true))
    ∙ c.loop.invariant.same

pub returns-in-None : goal.returns-in-None
returns-in-None c =
    let T = c.args.self.now in
    let left : c.len-end.result - c.loop.counter ≡ (c.len-end.result - (c.loop.counter + 1)) + 1 = omega arith in
    ap (option_map (identified false c.loop.declarer.number)) (c.in-None.ensures ∙ ap (λ n. slice_get c.declared-own.result.now (c.args.place - (c.loop.count - n))) c.len.ensures)
    ∙ sym (at-own T (c.len-end.result - c.loop.counter) (c.len-end.result - (c.loop.counter + 1)) c.loop.declarer.number c.args.place c.loop.count c.declared-own.result.now left c.declared-own.ensures c.loop.invariant.counted c.loop.invariant.within (subst (λ (n : ℕ). c.loop.count - n ≤ c.args.place) c.len.ensures c.if-place-start.true))
    ∙ c.loop.invariant.same

pub returns-in-None-superclass : goal.returns-in-None-superclass
returns-in-None-superclass c =
    let T = c.args.self.now in
    let left : c.len-end.result - c.loop.counter ≡ (c.len-end.result - (c.loop.counter + 1)) + 1 = omega arith in
    absurd (omega (arith, c.loop.invariant.counted, own-length T c.loop.declarer.number c.declared-own.result.now c.declared-own.ensures, ap length (layout-top T c.loop.declarer.number (c.len-end.result - c.loop.counter) (c.len-end.result - (c.loop.counter + 1)) left (sym c.in-None-superclass.ensures))))

pub loop-preserved : goal.loop-preserved
loop-preserved c =
    let T = c.args.self.now in
    let left : c.len-end.result - c.loop.counter ≡ (c.len-end.result - (c.loop.counter + 1)) + 1 = omega arith in
    let front = layout_within (c.len-end.result - (c.loop.counter + 1)) T c.in-Some-superclass.above.number in
    let whole = layout-above T c.loop.declarer.number (c.len-end.result - c.loop.counter) (c.len-end.result - (c.loop.counter + 1)) c.in-Some-superclass.above.number left (sym c.in-Some-superclass.ensures) in
    let own = own-length T c.loop.declarer.number c.declared-own.result.now c.declared-own.ensures in
    let count : c.loop.count - c.len.result ≡ length front = omega (arith, c.len.ensures, c.loop.invariant.counted, own, ap length whole, length-append front (own_fields T c.loop.declarer.number)) in
    let within : c.args.place < length front = omega arith in
    record {
      within = omega arith;
      counted = count;
      same = sym (get_left front (own_fields T c.loop.declarer.number) c.args.place within) ∙ ap (λ w. slice_get w c.args.place) (sym whole) ∙ c.loop.invariant.same;
    }

pub returns : goal.returns
returns c =
    let none : 0 ≡ c.len-end.result - c.loop.counter = omega arith in
    absurd (omega (arith, c.loop.invariant.counted, c.loop.invariant.within, ap (λ n. length (layout_within n c.args.self.now c.loop.declarer.number)) none))
