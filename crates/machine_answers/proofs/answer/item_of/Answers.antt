use Rattle.std.proofs.Common.{◌≡◌, ℕ, suc, ◌+◌, ◌-◌, List, Some, None, sym, ap, ◌∙◌, arith}
use Rattle.std.specs.Prelude.{slice_get}
use Rattle.base.proofs.Lists.{item_here}
use Rattle.syntax.specs.declared.unit.Item.{Item}
use Rattle.syntax.specs.Parts.{functions_of}
use Rattle.syntax.specs.Tree.{Function, FunctionItem}
use Rattle.syntax.specs.Views.{function_tree, unit_tree}
use Rattle.machine_answers.proofs.ItemPlaces.{item_found, none_left}
use Rattle.machine_answers.proofs.answer.item_of.Goals.{in-Static, in-Function+else-before-function}
use Rattle.machine_answers.proofs.answer.item_of.Goals as goal

pub returns-then-before-function : goal.returns-then-before-function
returns-then-before-function c f found =
    let items = c.args.items.now in
    let i = c.loop-item.item-index in
    let here = item_here items i _ _ c.loop-item-test.true c.item-item.is c.in-Function.is in
    let same : c.loop-item.before + 0 ≡ c.args.function = omega (arith, c.if-before-function.true) in
    let first : Some (function_tree c.in-Function.field-0) ≡ Some f =
    ap (λ (l : List Item). slice_get (functions_of (unit_tree l)) 0) (sym here)
    ∙ c.loop-item.invariant.numbered 0
    ∙ ap (slice_get (functions_of (unit_tree items))) same
    ∙ found in
    let is : function_tree c.in-Function.field-0 ≡ f = cc in
    ap (slice_get (unit_tree items).items) c.loop-item.invariant.here
    ∙ item_found items i _ _ here
    ∙ ap (λ (g : Function). Some (FunctionItem g)) is

pub loop-item-preserved : goal.loop-item-preserved
loop-item-preserved c =
    let items = c.args.items.now in
    let i = c.loop-item.item-index in
    elim c.match-item.branch [
      | in-Static w ↦
          let here = item_here items i _ _ c.loop-item-test.true c.item-item.is w.in-Static.is in
          record {
            here = ap (λ n. n + 1) c.loop-item.invariant.here;
            few = omega (arith, w.before-is, c.loop-item.invariant.few);
            past = omega (arith, w.before-is, c.loop-item.invariant.past);
            numbered = λ k.
                ap (λ (l : List Item). slice_get (functions_of (unit_tree l)) k) (sym here)
                ∙ c.loop-item.invariant.numbered k
                ∙ ap (λ (n : ℕ). slice_get (functions_of (unit_tree items)) (n + k)) (sym w.before-is);
          }
      | in-Function+else-before-function w ↦
          let here = item_here items i _ _ c.loop-item-test.true c.item-item.is w.in-Function.is in
          record {
            here = ap (λ n. n + 1) c.loop-item.invariant.here;
            few = omega (arith, w.before-is, c.loop-item.invariant.few);
            past = omega (arith, w.before-is, w.if-before-function.false, c.loop-item.invariant.past);
            numbered = λ k.
                let next : c.loop-item.before + suc k ≡ c.match-item.before + k = omega (arith, w.before-is) in
                ap (λ (l : List Item). slice_get (functions_of (unit_tree l)) (suc k)) (sym here)
                ∙ c.loop-item.invariant.numbered (suc k)
                ∙ ap (slice_get (functions_of (unit_tree items))) next;
          }
    ]

pub returns : goal.returns
returns c f found =
    let items = c.args.items.now in
    let left = c.args.function - c.loop-item.before in
    let same : c.loop-item.before + left ≡ c.args.function = omega (arith, c.loop-item.invariant.past) in
    let none : Some f ≡ None =
    sym found
    ∙ ap (slice_get (functions_of (unit_tree items))) (sym same)
    ∙ sym (c.loop-item.invariant.numbered left)
    ∙ none_left items c.loop-item.item-index left (omega (arith, c.loop-item-test.false)) in
    absurd (cc)
