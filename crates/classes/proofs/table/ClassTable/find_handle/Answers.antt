use Rattle.std.proofs.Common.{◌≡◌, ◌+◌, ◌-◌, ◌<◌, ◌∙◌, sym, ap, refl, Some, arith}
use Rattle.std.specs.Option.{option_map}
use Rattle.classes.specs.FieldViews.{declared_as}
use Rattle.classes.proofs.FoundFields.{found-above, found-top}
use Rattle.classes.proofs.HandledFields.{found_own, none_found}
use Rattle.classes.proofs.table.ClassTable.find_handle.Goals as goal

pub returns-in-Some : goal.returns-in-Some
returns-in-Some c =
    let left : 0 < c.len-end.result - c.loop.counter = omega arith in
    found_own c.args.self.now c.loop.declarer.number c.args.name.now c.args.text.now c.args.is_static (c.len-end.result - c.loop.counter) c.in-Some.place _ (declared_as c.args.self.now c.loop.declarer.number c.args.is_static) left refl c.in-Some.ensures c.loop.invariant

pub returns-in-None : goal.returns-in-None
returns-in-None c =
    let T = c.args.self.now in
    let none = none_found _ c.in_default.ensures in
    ap (option_map (λ f. Some f)) (sym (found-top T c.loop.declarer.number c.args.name.now c.args.text.now c.args.is_static (c.len-end.result - c.loop.counter) none (sym c.in-None.ensures)) ∙ c.loop.invariant)

pub loop-preserved : goal.loop-preserved
loop-preserved c =
    let T = c.args.self.now in
    let left : c.len-end.result - c.loop.counter ≡ (c.len-end.result - (c.loop.counter + 1)) + 1 = omega arith in
    sym (found-above T c.loop.declarer.number c.args.name.now c.args.text.now c.args.is_static (c.len-end.result - c.loop.counter) (c.len-end.result - (c.loop.counter + 1)) c.in-Some-superclass.above.number left (none_found _ c.in_default.ensures) (sym c.in-Some-superclass.ensures))
    ∙ c.loop.invariant
