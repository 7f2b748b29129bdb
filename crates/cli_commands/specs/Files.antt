-- What files may be read as.
use Rattle.std.specs.Prelude.{◌⊎◌, ℕ, List}
use Rattle.cli_commands.specs.declared.command.Command.{Command}
use Rattle.cli_commands.specs.declared.command.Command.TheVariants.{Check, Run, Work, Replay}

-- The files of these names may be read as these texts. The third is the order of the steps: a schedule or a journal.
pub record AreGiven (gives : List ℕ → List ℕ → Type 0) (program_name world_name order_name program world order : List ℕ) : Type 0 where
  pub program_given : gives program_name program
  pub world_given : gives world_name world
  pub order_given : gives order_name order

-- the command's files may be read as these texts; a check reads the program alone, and workers have no order of the steps
abbrev pub AreTexts : (gives : List ℕ → List ℕ → Type 0) → Command → (program world order : List ℕ) → Type 0
AreTexts gives (Check p) program world order = gives p.now program
AreTexts gives (Run p w s) program world order = AreGiven gives p.now w.now s.now program world order
AreTexts gives (Work p w) program world order = gives p.now program × gives w.now world
AreTexts gives (Replay p w j) program world order = AreGiven gives p.now w.now j.now program world order

-- what is said of the texts of a command's files
pub record OfFiles (gives : List ℕ → List ℕ → Type 0) (command : Command) (Holds : (program world order : List ℕ) → Type 0) : Type 0 where
  pub program : List ℕ
  pub world : List ℕ
  pub order : List ℕ
  pub given : AreTexts gives command program world order
  pub holds : Holds program world order

-- the file of one of these names is lacking
abbrev pub LacksAny : (lacks : List ℕ → Type 0) → (program_name world_name order_name : List ℕ) → Type 0
LacksAny lacks program_name world_name order_name = lacks program_name ⊎ (lacks world_name ⊎ lacks order_name)

-- one of the command's files is lacking
abbrev pub LacksOne : (lacks : List ℕ → Type 0) → Command → Type 0
LacksOne lacks (Check p) = lacks p.now
LacksOne lacks (Run p w s) = LacksAny lacks p.now w.now s.now
LacksOne lacks (Work p w) = lacks p.now ⊎ lacks w.now
LacksOne lacks (Replay p w j) = LacksAny lacks p.now w.now j.now
