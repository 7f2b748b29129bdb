use Rattle.std.proofs.Common.{◌++◌, ◌∙◌, ap, map}
use Rattle.class_rules.specs.BuiltIns.{number_array_classes}
use Rattle.classes.specs.BuiltInList.{listed_class, array_classes}
use Rattle.classes.specs.Tables.{names_differ}
use Rattle.classes.proofs.DistinctNames.{differ-front}
use Rattle.classes.proofs.KeptTables.{all-differ, all-once}
use Rattle.classes.proofs.built_ins.put_listed.Goals as goal

pub put_built_ins-requires-clause-once : goal.put_built_ins-requires-clause-once
put_built_ins-requires-clause-once c = all-once c.args.built_ins.now c.requires.list

pub put_built_ins-requires-clause-differ : goal.put_built_ins-requires-clause-differ
put_built_ins-requires-clause-differ c =
    let P = map listed_class c.args.built_ins.now in
    ap (λ T. names_differ (T ++ P)) c.requires.empty
    ∙ differ-front P number_array_classes (differ-front (P ++ number_array_classes) (array_classes P) (all-differ c.args.built_ins.now c.requires.list))

pub put_number_arrays-requires : goal.put_number_arrays-requires
put_number_arrays-requires c =
    let P = map listed_class c.args.built_ins.now in
    ap (λ T. names_differ (T ++ number_array_classes)) (c.in_ok-put_built_ins.ensures ∙ ap (λ T. T ++ P) c.requires.empty)
    ∙ differ-front (P ++ number_array_classes) (array_classes P) (all-differ c.args.built_ins.now c.requires.list)
