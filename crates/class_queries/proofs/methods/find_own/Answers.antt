use Rattle.std.proofs.Common.{◌≡◌, ℕ, suc, ◌+◌, Bool, false, cond, List, ◌∷◌, drop, filter, sym, ap, ◌∙◌, arith}
use Rattle.std.specs.Prelude.{slice_get}
use Rattle.base.proofs.Lists.{item_here}
use Rattle.syntax.specs.declared.unit.Item.{Item}
use Rattle.syntax.specs.Parts.{functions_of}
use Rattle.syntax.specs.Views.{unit_tree, function_tree}
use Rattle.semantics.specs.Method.{is_method_of}
use Rattle.class_queries.proofs.methods.find_own.Goals.{in-Static, in-Function+else-is_method_of}
use Rattle.class_queries.proofs.methods.find_own.Goals as goal

pub returns-then-is_method_of-clause-number : goal.returns-then-is_method_of-clause-number
returns-then-is_method_of-clause-number c =
    let items = c.args.items.now in
    let i = c.loop-item.item-index in
    let here = item_here items i _ _ c.loop-item-test.true c.item-item.is c.in-Function.is in
    let e : c.loop-item.number + 0 ≡ c.loop-item.number = omega arith in
    ap (slice_get (functions_of (unit_tree items))) (sym e)
    ∙ sym (c.loop-item.invariant.numbered 0)
    ∙ ap (λ (l : List Item). slice_get (functions_of (unit_tree l)) 0) here

pub loop-item-preserved : goal.loop-item-preserved
loop-item-preserved c =
    let items = c.args.items.now in
    let i = c.loop-item.item-index in
    let test = is_method_of c.args.classes.now c.args.class.number c.args.name.now c.args.text.now in
    elim c.match-item.branch [
      | in-Static w ↦
          let here = item_here items i _ _ c.loop-item-test.true c.item-item.is w.in-Static.is in
          record {
            few = omega (arith, w.number-is, c.loop-item.invariant.few);
            numbered = λ k.
                ap (λ (l : List Item). slice_get (functions_of (unit_tree l)) k) (sym here)
                ∙ c.loop-item.invariant.numbered k
                ∙ ap (λ (n : ℕ). slice_get (functions_of (unit_tree items)) (n + k)) (sym w.number-is);
            found = ap (λ (l : List Item). slice_get (filter test (functions_of (unit_tree l))) 0) (sym here) ∙ c.loop-item.invariant.found;
          }
      | in-Function+else-is_method_of w ↦
          let f = w.in-Function.function in
          let here = item_here items i _ _ c.loop-item-test.true c.item-item.is w.in-Function.is in
          let rest = functions_of (unit_tree (drop (i + 1) items)) in
          let other : test (function_tree f) ≡ false = sym w.is_method_of.ensures ∙ w.if-is_method_of.false in
          record {
            few = omega (arith, w.number-is, c.loop-item.invariant.few);
            numbered = λ k.
                let next : c.loop-item.number + suc k ≡ c.match-item.number + k = omega (arith, w.number-is) in
                ap (λ (l : List Item). slice_get (functions_of (unit_tree l)) (suc k)) (sym here)
                ∙ c.loop-item.invariant.numbered (suc k)
                ∙ ap (slice_get (functions_of (unit_tree items))) next;
            found =
                sym (ap (λ (b : Bool). slice_get (cond b (function_tree f ∷ filter test rest) (filter test rest)) 0) other)
                ∙ ap (λ (l : List Item). slice_get (filter test (functions_of (unit_tree l))) 0) (sym here)
                ∙ c.loop-item.invariant.found;
          }
    ]
