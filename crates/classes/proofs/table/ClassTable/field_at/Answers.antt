use Rattle.std.proofs.Common.{◌∙◌, ap, sym, slice_get}
use Rattle.std.specs.Option.{option_map}
use Rattle.classes.proofs.FoundFields.{identified}
use Rattle.classes.proofs.HandledFields.{of_declared}
use Rattle.classes.proofs.table.ClassTable.field_at.Goals as goal

pub returns-in-Some-clause-view : goal.returns-in-Some-clause-view
returns-in-Some-clause-view c =
    let h = c.args.handle in
    ap (option_map (identified h.is_static h.class.number)) (c.in-Some.ensures ∙ ap (λ fs. slice_get fs h.place) c.declared-own.ensures) ∙ sym (of_declared c.args.self.now h)

pub returns-in-None-clause-view : goal.returns-in-None-clause-view
returns-in-None-clause-view c =
    let h = c.args.handle in
    ap (option_map (identified h.is_static h.class.number)) (c.in-None.ensures ∙ ap (λ fs. slice_get fs h.place) c.declared-own.ensures) ∙ sym (of_declared c.args.self.now h)
