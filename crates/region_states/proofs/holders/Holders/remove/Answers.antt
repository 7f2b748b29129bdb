use Rattle.std.proofs.Common.{ℕ, ◌+◌, ◌-◌, ◌<◌, if◌then◌else◌, bytes_eq, arith, sym, ap, subst, ◌∙◌}
use Rattle.base.specs.Bytes.{ByName}
use Rattle.semantics.specs.Variable.{assign}
use Rattle.region_states.specs.StatesInMemory.{count_of}
use Rattle.region_states.proofs.HolderLemmas.{by_name, inserted, one_less, is_key}
use Rattle.region_states.proofs.holders.Holders.remove.Goals as goal

pub returns : goal.returns
returns c = λ x.
    let name = c.args.name.now in
    let left : ℕ = c.count-count.result - 1 in
    one_less name x left c.args.self.now (omega (arith, c.count-count.ensures, c.requires))
    ∙ ap (λ (counts : ByName ℕ). (if bytes_eq name x then 1 else 0) + count_of counts x)
    (sym (ap by_name c.in-Ok.ensures.entries ∙ inserted c.args.name left c.self.inside.counts.entries ∙ ap (λ (counts : ByName ℕ). assign name left counts) c.self.view_is))

pub unreachable-requires : goal.unreachable-requires
unreachable-requires c =
    is_key c.args.name.now c.self.inside.counts.entries (subst (λ (counts : ByName ℕ). 0 < count_of counts c.args.name.now) (sym c.self.view_is) c.requires) c.in-Err.ensures.absent
