use Rattle.std.proofs.Common.{ℕ, ◌+◌, ap, ap₂, ◌∙◌}
use Rattle.base.specs.Bytes.{ByName}
use Rattle.semantics.specs.Variable.{assign}
use Rattle.region_states.specs.StatesInMemory.{count_of}
use Rattle.region_states.proofs.HolderLemmas.{by_name, inserted, one_more}
use Rattle.region_states.proofs.holders.Holders.add.Goals as goal

pub returns-clause-ok : goal.returns-clause-ok
returns-clause-ok c = λ x.
    let name = c.args.name.now in
    ap (λ (counts : ByName ℕ). count_of counts x)
    (ap by_name c.in_ok-insert.ensures.entries
    ∙ inserted c.args.name (c.count-count.result + 1) c.self.inside.counts.entries
    ∙ ap₂ (λ (n : ℕ) (counts : ByName ℕ). assign name (n + 1) counts) c.count-count.ensures c.self.view_is)
    ∙ one_more name x c.args.self.now
