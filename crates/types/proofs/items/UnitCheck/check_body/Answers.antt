use Rattle.std.proofs.Common.{List, ap, subst, take}
use Rattle.std.proofs.lemmas.Result.{on_ok_weaker}
use Rattle.base.specs.Bytes.{Identifier}
use Rattle.syntax.specs.Views.{block_tree}
use Rattle.type_rules.specs.TypeRules.{places_of}
use Rattle.types.specs.Faults.{Tells, found, head_faults}
use Rattle.types.proofs.KeptLemmas.{tells-next}
use Rattle.types.proofs.items.UnitCheck.check_body.Goals as goal

pub returns-clause-tells : goal.returns-clause-tells
returns-clause-tells c =
    let f = c.args.f.now in
    let before = c.args.self.now in
    let rest = λ (names : List Identifier). found (places_of f.result before.known names (block_tree f.body)) in
    on_ok_weaker c.check_block.result
    (λ (e : Tells c.keep.new.self c.check_block.new.faults (rest c.enter.new.self)).
    tells-next before.faults c.keep.new.self c.check_block.new.faults _ _
    (subst (λ (names : List Identifier). Tells before.faults c.keep.new.self (take 1 (head_faults names c.args.entry.now f))) c.deref.ensures.value (c.in_ok-keep.ensures _ c.check_head-head.ensures))
    (subst (Tells c.keep.new.self c.check_block.new.faults) (ap rest c.in_ok-repeated.ensures.taken) e))
    c.check_block.ensures.tells
