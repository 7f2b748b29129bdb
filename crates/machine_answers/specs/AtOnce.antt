-- What is seen at once of the field that a call works on.
use Rattle.std.specs.Prelude.{false, Option, Some}
use Rattle.classes.specs.declared.class.FieldHandle.{FieldHandle}
use Rattle.machine_answers.specs.declared.at_once.Spot.{Spot}

-- the field ID of the field
abbrev pub field_in_spot : Spot → Option FieldHandle
field_in_spot spot = Some (record { class = spot.declarer; place = spot.place; is_static = false })
