use Rattle.std.proofs.Common.{List, refl, sym, ap, ◌∙◌}
use Rattle.syntax.specs.declared.unit.Item.{Item}
use Rattle.syntax.specs.Views.{unit_tree}
use Rattle.semantics.specs.Start.{start}
use Rattle.replay.proofs.LoadLemmas.{none_refused, stand_waiting, waiting_range}
use Rattle.replay.proofs.load.begun.Goals as goal

pub returns-clause-stands : goal.returns-clause-stands
returns-clause-stands c =
    let unit = unit_tree c.args.functions.now in
    let w = c.args.world.now in
    let none = none_refused unit w c.requires.fits in
    record {
      world = refl;
      shared = sym (c.in_ok-shared.ensures ∙ ap (λ (items : List Item). (start (unit_tree items) w).shared) c.items.ensures);
      threads = stand_waiting unit w.classes c.in_ok-threads.threads.items c.args.world.now.threads c.in_ok-threads.ensures.waiting none;
      printed = sym c.new.ensures.items;
      stop = refl;
    }

pub returns-clause-range : goal.returns-clause-range
returns-clause-range c = waiting_range c.in_ok-threads.threads.items c.args.world.now.threads c.in_ok-threads.ensures.waiting c.in_ok-threads.ensures.few
