-- What the passes over a program text answer together.
use Rattle.std.specs.Prelude.{◌≡◌, ℕ, List, Result, Ok, Err}
use Rattle.syntax.specs.declared.unit.Item.{Item}
use Rattle.syntax.specs.Tree.{SourceUnit}
use Rattle.syntax.specs.Views.{unit_tree}
use Rattle.places.specs.declared.place.Place.TheVariants.{Line, Entry}
use Rattle.program_check.specs.declared.fault.RunError.{RunError}
use Rattle.program_check.specs.declared.fault.RunError.TheVariants.{Memory, Fault, Writer}
use Rattle.places.specs.declared.place.Text.TheVariants as which
use Rattle.program_check.specs.Programs.{IsRefusedProgram}

-- the passes refuse the text so
abbrev pub IsRefusal : List ℕ → RunError → Type 0
IsRefusal text Memory = Unit {0}
IsRefusal text (Fault number (Line which.Program line)) = IsRefusedProgram text number line
IsRefusal text (Fault number (Line other line)) = ⊥
IsRefusal text (Fault number (Entry entry)) = ⊥
IsRefusal text Writer = ⊥

-- the unit in memory has this tree, or memory ran out
abbrev pub IsUnitOr : Result (List Item) RunError → SourceUnit → Type 0
IsUnitOr (Ok items) unit = unit_tree items ≡ unit
IsUnitOr (Err e) unit = e ≡ Memory
