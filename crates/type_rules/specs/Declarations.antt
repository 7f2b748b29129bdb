-- Declarations in memory, the latest last, and the table of what each name is.
use Rattle.std.specs.Prelude.{◌≡◌, List, [], ◌∷◌}
use Rattle.std.specs.Borrow.{Bor}
use Rattle.std.specs.HashMap.{HashMap, get_by}
use Rattle.std.specs.Str.{bytes_eq}
use Rattle.base.specs.Bytes.{Identifier, ByName, lookup}
use Rattle.type_rules.specs.declared.known.Declared.{Declared}

module _ {T : Type 0} where
  -- the names that are known after these declarations
  abbrev pub known_after : List (Declared T) → ByName T → ByName T
  known_after [] known = known
  known_after (d ∷ rest) known = known_after rest ((d.name.now, d.value) ∷ known)

  -- each of these declarations has what its name was before
  abbrev pub HaveHidden : List (Declared T) → ByName T → Type 0
  HaveHidden [] known = Unit {0}
  HaveHidden (d ∷ rest) known = (d.hidden ≡ lookup d.name.now known) × HaveHidden rest ((d.name.now, d.value) ∷ known)

-- the table finds what each name is that these declarations make known
pub record IsIndexed {T S : Type 0} (declared : List (Declared T)) (latest : HashMap (Bor Identifier) T S) : Type 0 where
  pub finds : (x : Identifier) → get_by (λ key. bytes_eq x key.now) latest ≡ lookup x (known_after declared [])
  pub hidden : HaveHidden declared []
