use Rattle.std.proofs.Common.{Bor, List, ℕ, [], ◌∷◌, ◌++◌, bytes_eq, map, ap, ◌∙◌}
use Rattle.std.specs.List.{list_any}
use Rattle.base.specs.Bytes.{Identifier}
use Rattle.region_states.proofs.StateLemmas.{distinct_names, inserted}
use Rattle.region_states.proofs.scope.Names.add.Goals as goal

pub invariant_of-self : goal.invariant_of-self
invariant_of-self c = distinct_names c.insert.new.self.keys c.insert.ensures.unique

pub returns-clause-distinct : goal.returns-clause-distinct
returns-clause-distinct c = distinct_names c.insert.new.self.keys c.insert.ensures.unique

pub returns-clause-ok : goal.returns-clause-ok
returns-clause-ok c =
    let keys = c.self.inside.places.keys in
    ap (map (λ (x : Bor (List ℕ)). x.now)) c.in_ok-insert.ensures.keys
    ∙ inserted keys c.args.name (ap (λ (names : List Identifier). list_any (bytes_eq c.args.name.now) names) c.self.view_is ∙ c.requires)
    ∙ ap (λ (names : List Identifier). names ++ c.args.name.now ∷ []) c.self.view_is

pub invariant_of-self-2 : goal.invariant_of-self-2
invariant_of-self-2 c = distinct_names c.insert.new.self.keys c.insert.ensures.unique
