use Rattle.std.proofs.Common.{◌≡◌, ℕ, Bor, List, Option, IfSome, slice_get, sym, ap, ◌∙◌, subst, below_more, arith}
use Rattle.std.specs.Str.{bytes_eq}
use Rattle.indexmap.specs.IndexMap.{get_by, values}
use Rattle.indexmap.proofs.MapLemmas.{value_index}
use Rattle.replay_terms.proofs.ByNameLemmas.{IsOther, first_there}
use Rattle.replay_terms.proofs.variable.place_of.Goals.{in-Some+else-is_same, in_default}
use Rattle.replay_terms.proofs.variable.place_of.Goals as goal

pub loop-place-init : goal.loop-place-init
loop-place-init c = λ k low. absurd (omega (arith, low))

pub returns-then-is_same-clause-index : goal.returns-then-is_same-clause-index
returns-then-is_same-clause-index c =
    sym (first_there c.args.name.now c.args.contents.now.entries c.loop-place.place (c.in-Some.other.now, c.in-Some.field-0-1.now) (sym c.in-Some.ensures.entry) (sym c.is_same.ensures ∙ c.if-is_same.true) c.loop-place.invariant)

pub returns-then-is_same-clause-value : goal.returns-then-is_same-clause-value
returns-then-is_same-clause-value c =
    let es = c.args.contents.now.entries in
    let test : Bor (List ℕ) → _ = λ k. bytes_eq c.args.name.now k.now in
    subst (λ (o : Option ℕ). IfSome o (λ i. slice_get (values c.args.contents.now) i ≡ get_by test c.args.contents.now))
    (first_there c.args.name.now es c.loop-place.place (c.in-Some.other.now, c.in-Some.field-0-1.now) (sym c.in-Some.ensures.entry) (sym c.is_same.ensures ∙ c.if-is_same.true) c.loop-place.invariant)
    (value_index test es)

pub loop-place-preserved : goal.loop-place-preserved
loop-place-preserved c =
    let es = c.args.contents.now.entries in
    let other : IsOther c.args.name.now es c.loop-place.place =
    elim c.match-get_index.branch [
      | in-Some+else-is_same w ↦ λ e there. let is : (w.in-Some.other.now, w.in-Some.field-0-1.now) ≡ e = cc (w.in-Some.ensures.entry) in ap (λ p. bytes_eq c.args.name.now p.0.now) (sym is) ∙ sym w.is_same.ensures ∙ w.if-is_same.false
      | in_default w ↦ λ e there. absurd (cc (w.in_default.ensures.entry))
    ] in
    below_more (IsOther c.args.name.now es) c.loop-place.place c.loop-place.invariant other
