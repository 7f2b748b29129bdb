-- What a text begins with, as the code has it.
use Rattle.std.specs.Prelude.{Some, None, Result, Ok, Err}
use Rattle.scan.specs.declared.pieces.Front.{Front}
use Rattle.scan.specs.declared.pieces.Front.TheVariants.{Token, Gap, Wrong}
use Rattle.scan.specs.declared.fault.ScanRule.{ScanRule}
use Rattle.scan.specs.Reading.{Piece}

abbrev pub front_piece : Front → Result Piece ScanRule
front_piece (Token kind len) = Ok (Some kind, len)
front_piece (Gap len) = Ok (None, len)
front_piece (Wrong fault) = Err fault
