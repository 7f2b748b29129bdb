use Rattle.std.proofs.Common.{◌≡◌, ◌∙◌}
use Rattle.syntax.specs.Views.{unit_tree}
use Rattle.semantics.specs.Start.{null_statics}
use Rattle.replay_threads.proofs.NamesOnce.{statics_once}
use Rattle.replay.proofs.load.loaded.Goals as goal

pub returns : goal.returns
returns c =
    let unit = unit_tree c.args.items.now in
    let statics : c.in_ok-null_statics.field-0 ≡ null_statics unit = c.in_ok-null_statics.ensures ∙ statics_once unit c.requires in
    λ i. record { heap = c.in_ok-loaded_store.ensures i; statics = statics i; globals = c.new.ensures i; monitors = c.new-2.ensures i }
