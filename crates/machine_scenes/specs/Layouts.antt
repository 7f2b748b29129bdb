-- Where the blocks of new objects lie.
use Rattle.std.specs.Prelude.{ℕ, suc, ◌+◌, List, [], ◌∷◌, ◌++◌}
use Rattle.heap.specs.Layout.{Layout, top_of}
use Rattle.semantics.specs.Object.{Object, size}

-- the extents of objects that lie one after another: the first has this name, and lies at this cell
abbrev pub laid_from : (name address : ℕ) → List Object → Layout
laid_from name address [] = []
laid_from name address (o ∷ objects) = record { name = name; address = address; size = size o } ∷ laid_from (suc name) (address + size o) objects

-- the layout with these objects after the highest block, the first with this name
abbrev pub with_objects : Layout → (name : ℕ) → List Object → Layout
with_objects layout name objects = layout ++ laid_from name (top_of layout) objects
