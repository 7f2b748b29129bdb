use Rattle.std.proofs.Common.{Bor, List, ℕ, map, take, sym, ap, ◌∙◌}
use Rattle.std.proofs.lemmas.List.{take-map}
use Rattle.base.specs.Bytes.{Identifier}
use Rattle.region_states.proofs.StateLemmas.{distinct_names}
use Rattle.region_states.proofs.scope.Names.truncate.Goals as goal

pub invariant_of-self : goal.invariant_of-self
invariant_of-self c = distinct_names c.truncate.new.self.keys c.truncate.ensures.unique

pub returns-clause-first : goal.returns-clause-first
returns-clause-first c =
    ap (map (λ (x : Bor (List ℕ)). x.now)) c.truncate.ensures.keys ∙ sym (take-map (λ (x : Bor (List ℕ)). x.now) c.args.count c.self.inside.places.keys) ∙ ap (λ (names : List Identifier). take c.args.count names) c.self.view_is

pub returns-clause-distinct : goal.returns-clause-distinct
returns-clause-distinct c = distinct_names c.truncate.new.self.keys c.truncate.ensures.unique
