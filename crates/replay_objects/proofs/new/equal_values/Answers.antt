use Rattle.std.proofs.Common.{◌≡◌, ℕ, zero, suc, ◌∷◌, map, refl, ap, ◌∙◌, rules}
use Rattle.std.specs.Prelude.{replicate}
use Rattle.semantics.specs.declared.object_value.ObjectValue.{ObjectValue as InMemory}
use Rattle.world_values.specs.Views.{object_value_view}
use Rattle.replay_objects.proofs.new.equal_values.Goals as goal

-- equal values are seen as equal values
equal : (n : ℕ) (v : InMemory) → map object_value_view (replicate n v) ≡ replicate n (object_value_view v)
equal zero v = refl
equal (suc n) v = ap (λ vs. object_value_view v ∷ vs) (equal n v)

pub returns-clause-values : goal.returns-clause-values
returns-clause-values c =
    let are : c.resize.new.self.items ≡ replicate c.args.count c.args.value = search rules in
    ap (map object_value_view) are ∙ equal c.args.count c.args.value
