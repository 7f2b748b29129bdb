use Rattle.std.proofs.Common.{◌∙◌, length, take, sym, ap, arith}
use Rattle.std.specs.HashMap.{get_by}
use Rattle.std.specs.Option.{option_map}
use Rattle.std.specs.Str.{bytes_eq}
use Rattle.syntax.specs.Parts.{functions_of}
use Rattle.syntax.specs.Views.{unit_tree}
use Rattle.functions.specs.Numbers.{first_named, numbered_view}
use Rattle.functions.proofs.TableLemmas.{static_next, function_next, function_counted}
use Rattle.functions.proofs.functions.add_all.Goals.{in-Static, in-Function+in_ok-add-in-Function}
use Rattle.functions.proofs.functions.add_all.Goals as goal

pub loop-item-preserved : goal.loop-item-preserved
loop-item-preserved c =
    let items = c.args.items.now in
    let i = c.loop-item.item-index in
    elim c.match-item.branch [
      | in-Static w ↦
          let same = static_next items i _ _ c.loop-item-test.true c.item-item.is w.in-Static.is in
          record {
            few = omega (arith, w.number-is, c.loop-item.invariant.few);
            counted = w.number-is ∙ c.loop-item.invariant.counted ∙ ap (λ fs. length fs) (sym same);
            finds = λ x. ap (λ t. option_map numbered_view (get_by (λ key. bytes_eq x key.now) t)) w.by_name-is ∙ c.loop-item.invariant.finds x ∙ ap (λ fs. first_named 0 fs x) (sym same);
          }
      | in-Function+in_ok-add-in-Function w ↦
          let before = functions_of (unit_tree (take i items)) in
          let more = function_next items i _ _ c.loop-item-test.true c.item-item.is w.in-Function.is in
          record {
            few = omega (arith, w.number-is, c.loop-item.invariant.few);
            counted = omega (arith, w.number-is, c.loop-item.invariant.counted, function_counted items i _ _ c.loop-item-test.true c.item-item.is w.in-Function.is);
            finds = λ x. ap (λ t. option_map numbered_view (get_by (λ key. bytes_eq x key.now) t)) w.by_name-is ∙ w.in_ok-add-in-Function.ensures before c.loop-item.invariant.counted c.loop-item.invariant.finds x ∙ ap (λ fs. first_named 0 fs x) (sym more);
          }
    ]
