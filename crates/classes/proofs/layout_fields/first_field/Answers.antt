use Rattle.std.proofs.Common.{[], ◌∷◌, ◌++◌, sym, ap, ◌∙◌, arith}
use Rattle.class_rules.specs.Fields.{own_fields}
use Rattle.classes.proofs.Walks.{not_there, next_class}
use Rattle.classes.proofs.layout_fields.first_field.Goals as goal

pub loop-field-preserved : goal.loop-field-preserved
loop-field-preserved c =
    let T = c.args.classes.now in
    let at = c.loop-field.position in
    let none = not_there c.own_field.result (own_fields T at.class.number) at.place c.own_field.ensures c.in_default.is in
    record {
      rest = sym (next_class T at.class.number at.place c.from.result at.below c.pop.new.self none (c.in_ok-pop.ensures ∙ ap (λ n. c.pop.new.self ++ n ∷ []) (sym c.from.ensures))) ∙ c.loop-field.invariant.rest;
      place = omega arith;
    }
