-- Laws: what a text means is what is read of it.
use Rattle.std.specs.Prelude.{◌≡◌, ◌↔◌, ℕ, List, Ok}
use Rattle.semantics.specs.World.{World}
use Rattle.world.specs.ReadingWorlds.{world_of_text}
use Rattle.world_values.specs.WorldRules.{IsWorldText}

-- a world is read of exactly the texts that mean it
abbrev pub WorldsAreRead : Type 0
WorldsAreRead = (text : List ℕ) (world : World) → (world_of_text text ≡ Ok world) ↔ IsWorldText text world
