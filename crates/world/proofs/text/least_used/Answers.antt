use Rattle.std.proofs.Common.{◌≡◌, ◌+◌, ◌<◌, true, map, length, ap, ◌∙◌, arith, sum_by, take}
use Rattle.std.proofs.lemmas.List.{length-map}
use Rattle.class_rules.specs.BuiltIns.{built_ins, out_of_memory_error}
use Rattle.class_rules.specs.Class.{Field, Classes}
use Rattle.class_rules.specs.Fields.{FieldId, own_statics, layout}
use Rattle.world.proofs.WorldCells.{class_cells, error_fields, all_built_ins, few_cells, one_class_more}
use Rattle.world.proofs.text.least_used.Goals as goal

pub loop-place-init : goal.loop-place-init
loop-place-init c = omega (arith, c.layout_len-used.ensures.len, ap (λ (T : Classes). length (layout T out_of_memory_error)) c.requires, error_fields)

-- the statics of the class of this place
statics : (c : goal.After-len) → sum_by class_cells (take (c.loop-place.place + 1) built_ins) ≡ sum_by class_cells (take c.loop-place.place built_ins) + (3 + length c.own_statics.result.now)
statics c =
    let place = c.loop-place.place in
    let view = λ (f : Field). let g : FieldId = record { class = place + 1; is_static = true; field = f } in g in
    let fields = c.own_statics.ensures ∙ ap (λ (T : Classes). own_statics T (place + 1)) c.requires in
    let within : place < length built_ins = omega (arith, c.loop-place-test.true, c.len-place-end.ensures.len, ap (λ (T : Classes). length T) c.requires) in
    one_class_more place (map view c.own_statics.result.now) within fields ∙ ap (λ n. sum_by class_cells (take place built_ins) + (3 + n)) (length-map c.own_statics.result.now view)

pub overflow_add-used-in-loop-place : goal.overflow_add-used-in-loop-place
overflow_add-used-in-loop-place c = omega (arith, c.len.ensures, statics c, few_cells (c.loop-place.place + 1))

pub overflow_add-used-in-loop-place-2 : goal.overflow_add-used-in-loop-place-2
overflow_add-used-in-loop-place-2 c = omega (arith, c.len.ensures, c.loop-place.invariant, statics c, few_cells (c.loop-place.place + 1))

pub loop-place-preserved : goal.loop-place-preserved
loop-place-preserved c = omega (arith, c.len.ensures, c.loop-place.invariant, statics c)

pub returns : goal.returns
returns c =
    let end : c.loop-place.place ≡ length built_ins = omega (arith, c.loop-place-test.false, c.loop-place.auto.place-end, c.len-place-end.ensures.len, ap (λ (T : Classes). length T) c.requires) in
    let is = c.loop-place.invariant ∙ ap (λ n. 4 + sum_by class_cells (take n built_ins)) end ∙ all_built_ins in
    record { used = is; few = omega (arith, c.loop-place.invariant, few_cells c.loop-place.place) }
