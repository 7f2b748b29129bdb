use Rattle.std.proofs.Common.{Option, ap, sym, ◌∙◌}
use Rattle.classes.specs.declared.class.FieldHandle.{FieldHandle}
use Rattle.machine_scenes.specs.Given.{field_there}
use Rattle.machine_scenes.proofs.Handles.{class_of_field}
use Rattle.machine_scenes.proofs.operands.declaring.Goals as goal

pub returns-in-Some : goal.returns-in-Some
returns-in-Some c classes there =
    class_of_field classes c.in-Some.handle (there c.in-Some.handle c.in-Some.is)
    ∙ ap (λ (o : Option FieldHandle). (field_there classes o).class) (sym c.in-Some.is)
