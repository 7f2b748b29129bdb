use Rattle.std.proofs.Common.{◌≡◌, ℕ, ◌+◌, ◌<◌, true, false, sym, subst, ◌∙◌, arith}
use Rattle.std.proofs.lemmas.Bool.{cases_lt}
use Rattle.std.proofs.Common.{⊎_elim, ◌≤◌}
use Rattle.std.specs.Str.{bytes_eq}
use Rattle.class_rules.specs.Class.{array_name, class_name}
use Rattle.class_queries.proofs.ArrayClasses.{IsNamed, first_named, none_named}
use Rattle.class_queries.proofs.arrays.array_class_of.Goals as goal

pub returns-then-is_array_name : goal.returns-then-is_array_name
returns-then-is_array_name c =
    let classes = c.args.classes.now in
    let wanted = array_name (class_name classes c.args.class.number) in
    let here : bytes_eq wanted (class_name classes (c.loop-place.place + 1)) ≡ true = (λ i. bytes_eq (array_name (sym c.name-element.ensures i)) (sym c.name.ensures i)) ∙ sym c.is_array_name.ensures ∙ c.if-is_array_name.true in
    sym (first_named classes wanted c.loop-place.place (omega (arith, c.loop-place-test.true, c.len-place-end.ensures.len)) c.loop-place.invariant here)

pub returns : goal.returns
returns c =
    let classes = c.args.classes.now in
    sym (none_named classes (array_name (class_name classes c.args.class.number)) (λ k below. c.loop-place.invariant k (omega (arith, below, c.loop-place-test.false, c.len-place-end.ensures.len))))

pub loop-place-preserved : goal.loop-place-preserved
loop-place-preserved c k below =
    let classes = c.args.classes.now in
    let wanted = array_name (class_name classes c.args.class.number) in
    let i = c.loop-place.place in
    let here : bytes_eq wanted (class_name classes (i + 1)) ≡ false = (λ j. bytes_eq (array_name (sym c.name-element.ensures j)) (sym c.name.ensures j)) ∙ sym c.is_array_name.ensures ∙ c.if-is_array_name.false in
    ⊎_elim
    (λ (old : k < i). c.loop-place.invariant k old)
    (λ (new : i ≤ k). let same : i ≡ k = omega (arith, below, new) in subst (λ (n : ℕ). IsNamed classes wanted (n + 1) false) same here)
    (cases_lt k i)
