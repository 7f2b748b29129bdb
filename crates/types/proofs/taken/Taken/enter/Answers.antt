use Rattle.std.proofs.Common.{◌+◌, ◌||◌, List, [], ◌∷◌, ◌++◌, drop, sym, ap, ap₂, ◌∙◌, append_assoc}
use Rattle.base.specs.Bytes.{Identifier}
use Rattle.type_rules.specs.TypeRules.{has_repeated}
use Rattle.types.proofs.ItemLemmas.{item_next}
use Rattle.types.proofs.TakenLemmas.{repeated_more}
use Rattle.types.proofs.taken.Taken.enter.Goals as goal

pub loop-name-preserved : goal.loop-name-preserved
loop-name-preserved c =
    let before : List Identifier = c.loop-name.self in
    let names : List Identifier = c.args.names.now in
    let i = c.loop-name.name-index in
    let name : Identifier = c.name-item.result in
    record {
      taken =
          ap (λ (all : List Identifier). all ++ drop (i + 1) names) c.in_ok-add.ensures ∙ append_assoc before (name ∷ []) (drop (i + 1) names)
          ∙ ap (λ (rest : List Identifier). before ++ rest) (sym (item_next names i name c.loop-name-test.true c.name-item.is))
          ∙ c.loop-name.invariant.taken;
      repeated =
          ap₂ (λ a b. a || b) c.loop-name.invariant.repeated c.has-repeated.ensures ∙ sym (repeated_more before name)
          ∙ ap (λ (all : List Identifier). has_repeated all) (sym c.in_ok-add.ensures);
    }
