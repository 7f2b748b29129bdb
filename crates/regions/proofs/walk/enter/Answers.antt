use Rattle.std.proofs.Common.{◌≡◌, true, ◌-◌, ℕ, List, bytes_eq, map, drop, ap, ◌∙◌, arith}
use Rattle.std.specs.Prelude.{reverse}
use Rattle.std.specs.List.{list_any}
use Rattle.base.specs.Bytes.{Identifier}
use Rattle.region_rules.specs.RegionStates.{ReferenceAt, parameter_state}
use Rattle.region_states.specs.SameStates.{NamedState}
use Rattle.regions.proofs.EntryLemmas.{variables_of, first_new, parameter_new, others_distinct}
use Rattle.regions.proofs.walk.enter.Goals as goal

pub add-requires : goal.add-requires
add-requires c =
    let items = c.args.f.now.parameters.items in
    let p = c.index-p.result.now in
    let v : NamedState = (p.name, ReferenceAt 1 true) in
    ap (λ (vs : List NamedState). list_any (bytes_eq c.as_bytes.result.now) (reverse (map (λ v. v.0) vs))) c.loop-left.invariant.variables
    ∙ ap (λ (x : Identifier). list_any (bytes_eq x) (reverse (map (λ v. v.0) (variables_of (drop c.loop-left.left items))))) c.as_bytes.ensures
    ∙ parameter_new items (c.loop-left.left - 1) c.loop-left.left p v (omega (arith, c.loop-left-test.true, c.loop-left.invariant.within)) (omega (arith, c.loop-left-test.true)) c.index-p.ensures
    (ap (λ kind. parameter_state (record { type = kind; name = p.name })) c.in-Reference.is)
    (others_distinct (c.args.f.now.class_name, ReferenceAt 1 true) (variables_of items) c.requires.0)

pub add-requires-2 : goal.add-requires-2
add-requires-2 c =
    let items = c.args.f.now.parameters.items in
    let zero : c.loop-left.left ≡ 0 = omega (arith, c.loop-left-test.false) in
    ap (λ (vs : List NamedState). list_any (bytes_eq c.as_bytes-2.result.now) (reverse (map (λ v. v.0) vs))) (c.loop-left.invariant.variables ∙ ap (λ (n : ℕ). variables_of (drop n items)) zero)
    ∙ ap (λ (x : Identifier). list_any (bytes_eq x) (reverse (map (λ v. v.0) (variables_of items)))) c.as_bytes-2.ensures
    ∙ first_new (c.args.f.now.class_name, ReferenceAt 1 true) (variables_of items) c.requires.0
