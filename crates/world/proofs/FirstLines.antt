-- What the line of the heap says where it allows methods.
use Rattle.std.proofs.Common.{◌≡◌, ℕ, ◌+◌, true, [], refl}
use Rattle.std.specs.Prelude.{codes, Some}
use Rattle.class_rules.specs.Additions.{with_methods}
use Rattle.class_rules.specs.BuiltIns.{built_ins, incompatible_class_change_error}
use Rattle.class_rules.specs.Class.{class_named}
use Rattle.world_values.specs.declared.part.Part.TheVariants as parts
use Rattle.world_values.specs.WorldMeaning.{cells_of}
use Rattle.world_values.specs.WorldRules.{first_lines}
use Rattle.world.specs.Gathered.{gather}

-- the class that is above
pub class_above : class_named built_ins (codes "java/lang/IncompatibleClassChangeError") ≡ Some incompatible_class_change_error
unfolding built_ins
class_above = refl

-- what is gathered
pub first_methods : (n cells : ℕ) → record (gather n cells parts.Classes []) { methods = true; classes = with_methods built_ins; used = cells_of [] + 6 } ≡ gather n cells parts.Classes (first_lines n true)
unfolding built_ins
first_methods n cells = refl
