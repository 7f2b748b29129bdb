use Rattle.std.proofs.Common.{Option, sym, ap, ◌∙◌}
use Rattle.std.proofs.lemmas.Bool.{both_ways}
use Rattle.classes.specs.declared.class.FieldHandle.{FieldHandle}
use Rattle.machine_scenes.specs.Given.{field_there}
use Rattle.machine_scenes.proofs.Handles.{kind_of_field}
use Rattle.machine_answers.proofs.answer.field_place.Goals as goal

pub returns-then-handle : goal.returns-then-handle
returns-then-handle c given is =
    let classes = c.args.classes.now in
    let h = c.in-Some.handle in
    absurd (both_ways (field_there classes c.args.field).is_static is
    (ap (λ (o : Option FieldHandle). (field_there classes o).is_static) c.in-Some.is ∙ sym (kind_of_field classes h (c.requires.there h c.in-Some.is)) ∙ c.if-handle.true))
