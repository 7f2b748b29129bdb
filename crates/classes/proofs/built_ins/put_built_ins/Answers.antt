use Rattle.std.proofs.Common.{map, true}
use Rattle.std.proofs.lemmas.Bool.{and_parts}
use Rattle.base.proofs.Lists.{all_at}
use Rattle.classes.specs.BuiltInList.{listed_class}
use Rattle.classes.specs.Tables.{declares_once}
use Rattle.classes.proofs.DistinctNames.{next_is_new, next_is_put, at-map}
use Rattle.classes.proofs.built_ins.put_built_ins.Goals as goal

pub put_built_in-requires-clause-new : goal.put_built_in-requires-clause-new
put_built_in-requires-clause-new c =
    let T = c.args.classes.now in
    let L = map listed_class c.args.built_ins.now in
    let at = at-map listed_class c.args.built_ins.now c.loop-built_in.built_in-index _ c.loop-built_in-test.true in
    next_is_new T L c.loop-built_in.built_in-index _ at c.requires.differ c.loop-built_in.classes c.loop-built_in.invariant

pub put_built_in-requires-clause-differ : goal.put_built_in-requires-clause-differ
put_built_in-requires-clause-differ c =
    let L = map listed_class c.args.built_ins.now in
    let at = at-map listed_class c.args.built_ins.now c.loop-built_in.built_in-index _ c.loop-built_in-test.true in
    (and_parts _ true (all_at declares_once L c.loop-built_in.built_in-index _ c.requires.once at)).0

pub loop-built_in-preserved : goal.loop-built_in-preserved
loop-built_in-preserved c =
    let T = c.args.classes.now in
    let L = map listed_class c.args.built_ins.now in
    let U = c.loop-built_in.classes in
    let V = c.put_built_in.new.classes in
    next_is_put T L c.loop-built_in.built_in-index _ (at-map listed_class c.args.built_ins.now c.loop-built_in.built_in-index _ c.loop-built_in-test.true) U V c.loop-built_in.invariant c.in_ok-put_built_in.ensures
