use Rattle.std.proofs.Common.{◌-◌, ◌++◌, drop, take, length, sym, ap, subst, ◌∙◌}
use Rattle.syntax.specs.Views.{block_tree}
use Rattle.type_rules.specs.declared.ty.ExprType.{ExprType}
use Rattle.std.proofs.lemmas.Result.{on_ok_weaker}
use Rattle.base.specs.Bytes.{ByName}
use Rattle.type_rules.specs.TypeRules.{places_of}
use Rattle.types.specs.Faults.{Tells, found, head_faults}
use Rattle.types.proofs.BlockLemmas.{forgotten}
use Rattle.types.proofs.ItemLemmas.{found-function}
use Rattle.types.proofs.items.UnitCheck.check_function.Goals as goal

pub returns-clause-tells : goal.returns-clause-tells
returns-clause-tells c =
    let f = c.args.f.now in
    let before = c.args.self.now in
    let known = c.enter.new.known in
    on_ok_weaker c.check_body-checked.result
    (λ e.
    subst (Tells before.faults c.check_body-checked.new.self.faults)
    (ap (λ names. take 1 (head_faults before.names.items names f) ++ found (places_of f.result known names (block_tree f.body))) (c.deref.ensures.value ∙ c.in_ok-entry.ensures)
    ∙ sym (found-function before.names.items before.known f known c.in_ok-enter.ensures.scope))
    e)
    c.check_body-checked.ensures.tells

pub returns-clause-restored : goal.returns-clause-restored
returns-clause-restored c =
    on_ok_weaker c.check_body-checked.result
    (λ e. c.leave.ensures ∙ ap (λ (k : ByName ExprType). drop (length k - c.len-outside.result) k) e ∙ ap (λ n. drop (length c.enter.new.known - n) c.enter.new.known) c.len-outside.ensures ∙ forgotten _ _ c.in_ok-enter.ensures.above)
    c.check_body-checked.ensures.restored
