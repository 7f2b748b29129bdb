use Rattle.std.proofs.Common.{◌∙◌, ap, map}
use Rattle.class_rules.specs.Class.{class_named}
use Rattle.classes.specs.BuiltInList.{listed_number_array}
use Rattle.classes.proofs.DistinctNames.{next_is_new, next_array, at-map}
use Rattle.classes.proofs.built_ins.put_number_arrays.Goals as goal

pub put_array-requires : goal.put_array-requires
put_array-requires c =
    let T = c.args.classes.now in
    let L = map listed_number_array c.args.arrays.now in
    let U = c.loop-array.classes in
    let at = at-map listed_number_array c.args.arrays.now c.loop-array.array-index _ c.loop-array-test.true in
    ap (class_named U) c.in_ok-name.ensures.items ∙ next_is_new T L c.loop-array.array-index _ at c.requires U c.loop-array.invariant

pub loop-array-preserved : goal.loop-array-preserved
loop-array-preserved c =
    let T = c.args.classes.now in
    let L = map listed_number_array c.args.arrays.now in
    let U = c.loop-array.classes in
    let V = c.put_array.new.classes in
    next_array T L c.loop-array.array-index U V _ _ _ (at-map listed_number_array c.args.arrays.now c.loop-array.array-index _ c.loop-array-test.true) c.loop-array.invariant c.in_ok-name.ensures.items c.in_ok-put_array.ensures
