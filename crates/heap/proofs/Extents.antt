-- Extents of blocks, and what changes them.
use Rattle.std.proofs.Common.{◌≡◌, ℕ, Bool, true, false, cond, eqb, List, [], ◌∷◌, ◌++◌, length, map, refl, ap, ◌∙◌}
use Rattle.std.specs.Prelude.{◌+◌}
use Rattle.std.proofs.lemmas.List.{map-append}
use Rattle.heap.specs.declared.value.Value.{Value}
use Rattle.heap.specs.Heap.{Block, Space, block_end, end_from, with_block, with_changed, with_pins}
use Rattle.heap.specs.Layout.{Extent, extent_of, layout_of, top_from}

-- they end where the blocks end
pub top_is : (from : ℕ) (bs : List Block) → top_from from (map extent_of bs) ≡ end_from from bs
top_is from [] = refl
top_is from (b ∷ bs) = top_is (block_end b) bs

-- one block more is one extent more
pub layout_push : (s : Space) (b : Block) → layout_of (with_block s b) ≡ layout_of s ++ extent_of b ∷ []
layout_push s b = map-append extent_of s.blocks (b ∷ [])

-- a block that is changed, if it is the one
changed_extent : (t : Bool) (change : Block → Block) (b : Block) → extent_of (change b) ≡ extent_of b → extent_of (cond t (change b) b) ≡ extent_of b
changed_extent true change b same = same
changed_extent false change b same = refl

-- a change that leaves name, address and count leaves all
pub extents_stay : (a : ℕ) (change : Block → Block) (bs : List Block) → ((b : Block) → extent_of (change b) ≡ extent_of b) → map extent_of (map (λ (b : Block). cond (eqb b.address a) (change b) b) bs) ≡ map extent_of bs
extents_stay a change [] same = refl
extents_stay a change (b ∷ bs) same =
    ap (λ (e : Extent). e ∷ map extent_of (map (λ (c : Block). cond (eqb c.address a) (change c) c) bs)) (changed_extent (eqb b.address a) change b (same b))
    ∙ ap (λ (l : List Extent). extent_of b ∷ l) (extents_stay a change bs same)

pub layout_changed : (s : Space) (a : ℕ) (change : Block → Block) → ((b : Block) → extent_of (change b) ≡ extent_of b) → layout_of (with_changed s a change) ≡ layout_of s
layout_changed s a change same = extents_stay a change s.blocks same

-- so as many other values do, and another count of pins
pub layout_values : (s : Space) (a : ℕ) (vs : List Value → List Value) → ((ws : List Value) → length (vs ws) ≡ length ws) → layout_of (with_changed s a (λ (b : Block). record b { values = vs b.values })) ≡ layout_of s
layout_values s a vs many =
    layout_changed s a (λ (b : Block). record b { values = vs b.values })
    (λ b. ap (λ (n : ℕ). let e : Extent = record { name = b.birth; address = b.address; size = 3 + n } in e) (many b.values))

pub layout_pins : (s : Space) (a count : ℕ) → layout_of (with_pins s a count) ≡ layout_of s
layout_pins s a count = layout_changed s a (λ b. record b { pins = count }) (λ b. refl)
