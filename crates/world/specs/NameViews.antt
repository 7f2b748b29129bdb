-- The names of objects, as they are held in memory.
use Rattle.std.specs.Prelude.{ℕ, List, map}
use Rattle.std.specs.Global.{Vec}
use Rattle.base.specs.Bytes.{ByName}
use Rattle.class_rules.specs.declared.class_id.ClassId.{ClassId}

abbrev pub names_view : List (Vec ℕ × ClassId) → ByName ℕ
names_view entries = map (λ e. (e.0.items, e.1.number)) entries
