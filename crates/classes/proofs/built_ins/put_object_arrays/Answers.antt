use Rattle.std.proofs.Common.{◌≤◌, length, ◌++◌, ◌∙◌, ap, map, arith}
use Rattle.std.proofs.lemmas.List.{length-map}
use Rattle.class_rules.specs.Class.{class_named}
use Rattle.classes.specs.BuiltInList.{listed_class, array_classes}
use Rattle.classes.proofs.DistinctNames.{next_is_new, next_array, at-map, at-array, all-arrays}
use Rattle.classes.proofs.built_ins.put_object_arrays.Goals as goal

pub put_array-requires : goal.put_array-requires
put_array-requires c =
    let T = c.args.classes.now in
    let P = map listed_class c.args.built_ins.now in
    let U = c.loop-place.classes in
    let at = at-array P c.loop-place.place _ (at-map listed_class c.args.built_ins.now c.loop-place.place _ c.loop-place-test.true) in
    ap (class_named U) c.in_ok-name.ensures ∙ next_is_new T (array_classes P) c.loop-place.place _ at c.requires U c.loop-place.invariant

pub loop-place-preserved : goal.loop-place-preserved
loop-place-preserved c =
    let T = c.args.classes.now in
    let P = map listed_class c.args.built_ins.now in
    let U = c.loop-place.classes in
    let V = c.put_array.new.classes in
    next_array T (array_classes P) c.loop-place.place U V _ _ _ (at-array P c.loop-place.place _ (at-map listed_class c.args.built_ins.now c.loop-place.place _ c.loop-place-test.true)) c.loop-place.invariant c.in_ok-name.ensures c.in_ok-put_array.ensures

pub returns : goal.returns
returns c =
    let P = map listed_class c.args.built_ins.now in
    let all : length P ≤ c.loop-place.place = omega (arith, length-map c.args.built_ins.now listed_class) in
    c.loop-place.invariant ∙ ap (λ l. c.args.classes.now ++ l) (all-arrays 1 c.loop-place.place P all)
