use Rattle.std.proofs.Common.{◌≡◌, ◌-◌, ◌++◌, None, take, length, replicate, refl, ap, ◌∙◌, arith}
use Rattle.std.specs.Prelude.{vec_len}
use Rattle.std.proofs.lemmas.Grind.{common_steps}
use Rattle.machine_threads.proofs.EntryTables.{resized}
use Rattle.machine_threads.proofs.entry.fill_fields.Goals as goal

pub returns : goal.returns
returns c =
    let count = c.args.count in
    let old = c.args.slots.now in
    let slots : c.resize.new.self.items ≡ take count old.items ++ replicate (count - vec_len old) None = grind (arith, common_steps) in
    slots ∙ resized None old.items count count (vec_len old) c.requires.none (old.ok.0 ∙ ap length c.requires.none) refl
