use Rattle.std.proofs.Common.{ℕ, Option, ap, ◌∙◌}
use Rattle.std.specs.Option.{unwrap_or}
use Rattle.base.specs.Bytes.{ByName}
use Rattle.region_states.specs.StatesInMemory.{count_of}
use Rattle.region_states.proofs.HolderLemmas.{looked_up}
use Rattle.region_states.proofs.holders.Holders.count.Goals as goal

pub returns-in-Some : goal.returns-in-Some
returns-in-Some c =
    ap (λ (o : Option ℕ). unwrap_or o 0) (c.in-Some.ensures.value ∙ looked_up c.args.name.now c.self.inside.counts.entries)
    ∙ ap (λ (counts : ByName ℕ). count_of counts c.args.name.now) c.self.view_is

pub returns-in-None : goal.returns-in-None
returns-in-None c =
    ap (λ (o : Option ℕ). unwrap_or o 0) (c.in-None.ensures.value ∙ looked_up c.args.name.now c.self.inside.counts.entries)
    ∙ ap (λ (counts : ByName ℕ). count_of counts c.args.name.now) c.self.view_is
