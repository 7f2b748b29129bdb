-- Extents of objects that are made one after another.
use Rattle.std.proofs.Common.{◌≡◌, ℕ, suc, ◌+◌, ◌≤◌, List, [], ◌∷◌, ◌++◌, length, drop, refl, sym, ap, ◌∙◌, arith, append-nil, append_assoc}
use Rattle.std.proofs.Math.ListN.{drop_of_length-le}
use Rattle.std.proofs.Math.Seq.{drop-append_seam}
use Rattle.std.proofs.lemmas.List.Sums.{sum_by-cons}
use Rattle.heap.specs.Heap.{Block, Space, block_size, end_of, with_block}
use Rattle.heap.specs.Layout.{Extent, Layout, extent_end, extent_of, layout_of, top_from, top_of}
use Rattle.heap.proofs.Extents.{layout_push, top_is}
use Rattle.semantics.specs.Heap.{Heap}
use Rattle.semantics.specs.Object.{Object, size, sizes}
use Rattle.machine_scenes.specs.Layouts.{laid_from, with_objects}

-- extents behind others
top_append : (from : ℕ) (layout more : Layout) → top_from from (layout ++ more) ≡ top_from (top_from from layout) more
top_append from [] more = refl
top_append from (e ∷ layout) more = top_append (extent_end e) layout more

-- objects end as much higher as they take cells
pub top_laid : (name address : ℕ) (objects : List Object) → top_from address (laid_from name address objects) ≡ address + sizes objects
top_laid name address [] = omega arith
top_laid name address (o ∷ objects) = let rest = top_laid (suc name) (address + size o) objects in omega (arith, rest, sum_by-cons size o objects)

pub top_with : (layout : Layout) (name : ℕ) (objects : List Object) → top_of (with_objects layout name objects) ≡ top_of layout + sizes objects
top_with layout name objects = top_append 0 layout (laid_from name (top_of layout) objects) ∙ top_laid name (top_of layout) objects

-- some objects and then others
laid_both : (name address : ℕ) (objects more : List Object) → laid_from name address (objects ++ more) ≡ laid_from name address objects ++ laid_from (name + length objects) (address + sizes objects) more
laid_both name address [] more =
    let n : name + 0 ≡ name = omega arith in
    let a : address + 0 ≡ address = omega arith in
    ap (λ (m : ℕ). laid_from m address more) (sym n) ∙ ap (λ (b : ℕ). laid_from (name + 0) b more) (sym a)
laid_both name address (o ∷ objects) more =
    let n : suc name + length objects ≡ name + suc (length objects) = omega arith in
    let a : address + size o + sizes objects ≡ address + sizes (o ∷ objects) = omega (arith, sum_by-cons size o objects) in
    ap (λ (l : Layout). record { name = name; address = address; size = size o } ∷ l)
    (laid_both (suc name) (address + size o) objects more
    ∙ ap (λ (m : ℕ). laid_from (suc name) (address + size o) objects ++ laid_from m (address + size o + sizes objects) more) n
    ∙ ap (λ (b : ℕ). laid_from (suc name) (address + size o) objects ++ laid_from (name + suc (length objects)) b more) a)

pub with_both : (layout : Layout) (name : ℕ) (objects more : List Object) → with_objects (with_objects layout name objects) (name + length objects) more ≡ with_objects layout name (objects ++ more)
with_both layout name objects more =
    ap (λ (n : ℕ). with_objects layout name objects ++ laid_from (name + length objects) n more) (top_with layout name objects)
    ∙ append_assoc layout (laid_from name (top_of layout) objects) (laid_from (name + length objects) (top_of layout + sizes objects) more)
    ∙ ap (λ (l : Layout). layout ++ l) (sym (laid_both name (top_of layout) objects more))

-- the extent of a block, by its parts
pub extent_is : (b : Block) (name address size : ℕ) → b.birth ≡ name → b.address ≡ address → block_size b ≡ size → ◌≡◌ {A = Extent} (extent_of b) (record { name = name; address = address; size = size })
extent_is b name address size n a z =
    ap (λ (m : ℕ). let e : Extent = record { name = m; address = b.address; size = block_size b } in e) n
    ∙ ap (λ (m : ℕ). let e : Extent = record { name = name; address = m; size = block_size b } in e) a
    ∙ ap (λ (m : ℕ). let e : Extent = record { name = name; address = address; size = m } in e) z

-- a block of an object after the highest one
pub laid_push : (s : Space) (b : Block) (name : ℕ) (o : Object) → b.birth ≡ name → b.address ≡ end_of s → block_size b ≡ size o → layout_of (with_block s b) ≡ with_objects (layout_of s) name (o ∷ [])
laid_push s b name o n a z = layout_push s b ∙ ap (λ (e : Extent). layout_of s ++ e ∷ []) (extent_is b name (top_of (layout_of s)) (size o) n (a ∙ sym (top_is 0 s.blocks)) z)

-- the same where nothing but objects made one after another is there
pub laid_more : (s : Space) (b : Block) (objects : Heap) (o : Object) → layout_of s ≡ laid_from 1 0 objects → b.birth ≡ length objects + 1 → b.address ≡ end_of s → block_size b ≡ size o → layout_of (with_block s b) ≡ laid_from 1 0 (objects ++ o ∷ [])
laid_more s b objects o laid n a z =
    let top : end_of s ≡ 0 + sizes objects = sym (top_is 0 s.blocks) ∙ ap (top_from 0) laid ∙ top_laid 1 0 objects in
    layout_push s b
    ∙ ap (λ (l : Layout). l ++ extent_of b ∷ []) laid
    ∙ ap (λ (e : Extent). laid_from 1 0 objects ++ e ∷ []) (extent_is b (1 + length objects) (0 + sizes objects) (size o) (omega (arith, n)) (a ∙ top) z)
    ∙ sym (laid_both 1 0 objects (o ∷ []))

-- ---- what a step lays

-- where no objects are made, blocks lie where they lay
pub none_laid : (layout after : Layout) (name : ℕ) (before later : Heap) → length later ≤ length before → after ≡ layout → after ≡ with_objects layout name (drop (length before) later)
none_laid layout after name before later short same = same ∙ sym (ap (with_objects layout name) (drop_of_length-le later short) ∙ append-nil layout)

-- where objects are made, those are behind the others
pub more_laid : (layout after : Layout) (name : ℕ) (heap more : Heap) → after ≡ with_objects layout name more → after ≡ with_objects layout name (drop (length heap) (heap ++ more))
more_laid layout after name heap more is = is ∙ ap (with_objects layout name) (sym (drop-append_seam heap more))
