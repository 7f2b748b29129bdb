-- Classes as they are held in memory.
use Rattle.std.specs.Prelude.{ℕ, Option}
use Rattle.std.specs.Option.{option_map}
use Rattle.class_rules.specs.declared.class_id.ClassId.{ClassId}

-- the class of a number
abbrev pub class_id : ℕ → ClassId
class_id number = record { number = number }

-- the number of a class, where there is one
abbrev pub number_of : Option ClassId → Option ℕ
number_of class = option_map (λ c. c.number) class
