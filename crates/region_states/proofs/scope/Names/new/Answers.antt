use Rattle.region_states.proofs.StateLemmas.{distinct_names}
use Rattle.region_states.proofs.scope.Names.new.Goals as goal

pub invariant_of-result : goal.invariant_of-result
invariant_of-result c = distinct_names c.new.result.keys c.new.ensures.unique

pub returns-clause-distinct : goal.returns-clause-distinct
returns-clause-distinct c = distinct_names c.new.result.keys c.new.ensures.unique
