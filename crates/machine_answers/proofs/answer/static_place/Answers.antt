use Rattle.std.proofs.Common.{◌≡◌, Option, true, Some, sym, ap, ◌∙◌, subst}
use Rattle.classes.specs.declared.class.FieldHandle.{FieldHandle}
use Rattle.semantics.specs.Heap.{static_place}
use Rattle.machine_scenes.specs.Given.{field_there}
use Rattle.machine_scenes.proofs.Handles.{field_of_handle, kind_of_field}
use Rattle.machine_answers.proofs.answer.static_place.Goals as goal

pub returns-in-Some : goal.returns-in-Some
returns-in-Some c given is =
    let classes = c.args.classes.now in
    let h = c.in-Some.handle in
    let there = c.requires h c.in-Some.is in
    let same : (field_there classes (Some h)).is_static ≡ true = ap (λ (o : Option FieldHandle). (field_there classes o).is_static) (sym c.in-Some.is) ∙ is in
    let place : c.static_place.result ≡ static_place classes (field_there classes (Some h)) =
    c.static_place.ensures (field_there classes (Some h)) (field_of_handle classes h there) (kind_of_field classes h there ∙ same) in
    subst (λ (o : Option FieldHandle). c.static_place.result ≡ static_place classes (field_there classes o)) (sym c.in-Some.is) place
