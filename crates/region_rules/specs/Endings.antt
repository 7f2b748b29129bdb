-- What compiling knows of the ends of an accepted function.
use Rattle.std.specs.Prelude.{◌⊎◌}
use Rattle.std.specs.List.{AllByRecursion}
use Rattle.syntax.specs.Parts.{functions_of}
use Rattle.syntax.specs.Tree.{If, ElseBlock, Return, Block, End, Next, SourceUnit}
use Rattle.region_rules.specs.Regions.{IsEnd}

-- the block ends with a return, or with an if of which both branches do, and nothing comes after that
abbrev pub EndsByReturn : Block → Type 0
EndsByReturn (End line) = ⊥
EndsByReturn (Next (Return line e) rest) = IsEnd rest
EndsByReturn (Next (If line test then' (ElseBlock else')) rest) = (EndsByReturn then' × EndsByReturn else' × IsEnd rest) ⊎ EndsByReturn rest
EndsByReturn (Next s rest) = EndsByReturn rest

-- the same of all functions of a unit
abbrev pub AreEnded : SourceUnit → Type 0
AreEnded unit = AllByRecursion (λ f. EndsByReturn f.body) (functions_of unit)
