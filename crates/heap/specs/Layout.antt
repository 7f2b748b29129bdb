-- Where blocks lie, whatever they hold.
use Rattle.std.specs.Prelude.{ℕ, ◌+◌, List, [], ◌∷◌, map}
use Rattle.heap.specs.Heap.{Block, Space, block_size}

-- the cells of a block: the name of its object, the first of them, and how many they are
pub record Extent : Type 0 where
  pub name : ℕ
  pub address : ℕ
  pub size : ℕ

-- the extents of blocks, in the order of their addresses
abbrev pub Layout : Type 0
Layout = List Extent

-- the first cell after an extent
abbrev pub extent_end : Extent → ℕ
extent_end e = e.address + e.size

-- the first cell after the last of these extents, and `from` where there is none
abbrev pub top_from : ℕ → Layout → ℕ
top_from from [] = from
top_from from (e ∷ rest) = top_from (extent_end e) rest

-- the first cell after the highest extent
abbrev pub top_of : Layout → ℕ
top_of layout = top_from 0 layout

-- the extent of a block
abbrev pub extent_of : Block → Extent
extent_of b = record { name = b.birth; address = b.address; size = block_size b }

-- the extents of a heap's blocks
abbrev pub layout_of : Space → Layout
layout_of s = map extent_of s.blocks
