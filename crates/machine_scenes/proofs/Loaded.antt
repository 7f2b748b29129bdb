-- Objects that are made one after another.
use Rattle.std.proofs.Common.{◌≡◌, ℕ, suc, ◌+◌, ◌≤◌, Bool, true, false, cond, eqb, List, [], ◌∷◌, ◌++◌, length, map, Option, None, refl, sym, ap, ◌∙◌, subst, arith, ⊎_elim, length-append}
use Rattle.std.specs.Option.{option_map, option_map_or}
use Rattle.std.proofs.lemmas.Bool.Decides.{eqb_tells}
use Rattle.std.proofs.lemmas.List.{map-append}
use Rattle.heap.specs.declared.value.Value.{Value}
use Rattle.heap.specs.Heap.{Block, Space, block_end, end_from, end_of, left_of, LieFrom, IsLaidOut, values_at, with_block, with_changed}
use Rattle.heap.specs.Layout.{top_from}
use Rattle.heap.specs.Marks.{with_new}
use Rattle.heap.proofs.Extents.{top_is}
use Rattle.heap.proofs.Layouts.{from_below_end, LieFrom-push}
use Rattle.heap.proofs.Spaces.{block_at-fresh}
use Rattle.semantics.specs.Object.{Object, ObjectValue, size, sizes}
use Rattle.semantics.specs.Heap.{Heap}
use Rattle.machine_scenes.specs.HeapAgrees.{ValuesAgree, IsTable, AreMade}
use Rattle.machine_scenes.proofs.ObjectExtents.{laid_more, top_laid}
use Rattle.machine_scenes.proofs.HeapLaws.{IsNext, agrees_with_block, table_push}
use Rattle.machine_scenes.proofs.Taken.{unpinned_push}

-- nothing has been made
pub none_made : (cells : ℕ) → AreMade (record { cells = cells; blocks = []; marking = None }) [] []
none_made cells = record {
  agree = record { blocks = tt; unique = λ i j d below within. absurd (omega arith) };
  table = record { counted = refl; named = λ i a at. absurd (cc) };
  laid_out = let low : 0 ≤ cells = omega arith in low;
  laid = refl;
  unpinned = λ a. refl;
  unmarked = refl;
}

-- as many cells as values
pub agree_length : (s : Space) (ws : List Value) (vs : List ObjectValue) → ValuesAgree s ws vs → length ws ≡ length vs
agree_length s [] [] h = refl
agree_length s [] (v ∷ vs) h = absurd h
agree_length s (w ∷ ws) [] h = absurd h
agree_length s (w ∷ ws) (v ∷ vs) h = ap suc (agree_length s ws vs h.1)

-- they end where the cells of all of them do
pub made_end : (s : Space) (addresses : List ℕ) (objects : Heap) → AreMade s addresses objects → end_of s ≡ sizes objects
made_end s addresses objects h = let top = top_laid 1 0 objects in sym (top_is 0 s.blocks) ∙ ap (top_from 0) h.laid ∙ omega (arith, top)

-- one object more
pub made_more : (s : Space) (addresses : List ℕ) (objects : Heap) (b : Block) (o : Object) → AreMade s addresses objects → IsNext s objects b o → size o ≤ left_of s → AreMade (with_block s b) (addresses ++ b.address ∷ []) (objects ++ o ∷ [])
made_more s addresses objects b o h next room =
    let count = length-append objects (o ∷ []) in
    let long = agree_length s b.values o.values next.values in
    let after : b.address ≡ end_of s = next.after in
    let filled : end_of s ≡ sizes objects = made_end s addresses objects h in
    let birth : b.birth ≡ length objects + 1 = next.birth in
    record {
      agree = agrees_with_block s objects b o h.agree next;
      table = subst (IsTable (with_block s b) (addresses ++ b.address ∷ [])) (sym count) (table_push s b addresses (length objects) h.table h.laid_out after birth);
      laid_out = LieFrom-push 0 s.blocks b s.cells h.laid_out (omega arith) (omega arith);
      laid = laid_more s b objects o h.laid birth after (omega (arith, long));
      unpinned = unpinned_push s b next.unpinned h.unpinned;
      unmarked = ap (option_map (with_new b.address)) h.unmarked;
    }

-- ---- a change of the highest block

blocks_below : (change : Block → Block) (from a : ℕ) (bs : List Block) (cells : ℕ) → LieFrom from bs cells → end_from from bs ≤ a → map (λ (b : Block). cond (eqb b.address a) (change b) b) bs ≡ bs
blocks_below change from a [] cells h e = refl
blocks_below change from a (b ∷ bs) cells h e =
    let later = from_below_end (block_end b) bs cells h.1 in
    ⊎_elim
    (λ (t : (eqb b.address a ≡ true) × (b.address ≡ a)). absurd (let same : b.address ≡ a = t.1 in omega arith))
    (λ (t : (eqb b.address a ≡ false) × (b.address ≡ a → ⊥)).
    ap (λ (c : Bool). cond c (change b) b ∷ map (λ (b : Block). cond (eqb b.address a) (change b) b) bs) t.0
    ∙ ap (λ (l : List Block). b ∷ l) (blocks_below change (block_end b) a bs cells h.1 e))
    (eqb_tells b.address a)

pub changed_new : (s : Space) (b : Block) (change : Block → Block) → IsLaidOut s → b.address ≡ end_of s → (change b).address ≡ b.address → with_changed (with_block s b) b.address change ≡ with_block s (change b)
changed_new s b change laid after same =
    let here : map (λ (c : Block). cond (eqb c.address b.address) (change c) c) (b ∷ []) ≡ change b ∷ [] =
    ⊎_elim
    (λ (t : (eqb b.address b.address ≡ true) × (b.address ≡ b.address)). ap (λ (c : Bool). cond c (change b) b ∷ []) t.0)
    (λ (t : (eqb b.address b.address ≡ false) × (b.address ≡ b.address → ⊥)). absurd (t.1 refl))
    (eqb_tells b.address b.address) in
    let all : map (λ (c : Block). cond (eqb c.address b.address) (change c) c) (s.blocks ++ b ∷ []) ≡ s.blocks ++ change b ∷ [] =
    map-append (λ (c : Block). cond (eqb c.address b.address) (change c) c) s.blocks (b ∷ [])
    ∙ ap (λ (l : List Block). l ++ map (λ (c : Block). cond (eqb c.address b.address) (change c) c) (b ∷ [])) (blocks_below change 0 b.address s.blocks s.cells laid (omega arith))
    ∙ ap (λ (l : List Block). s.blocks ++ l) here in
    ap (λ (l : List Block). let t : Space = record s { blocks = l; marking = option_map (with_new b.address) s.marking } in t) all
    ∙ ap (λ (a : ℕ). let t : Space = record s { blocks = s.blocks ++ change b ∷ []; marking = option_map (with_new a) s.marking } in t) (sym same)

pub values_new : (s : Space) (b : Block) → IsLaidOut s → b.address ≡ end_of s → values_at (with_block s b) b.address ≡ b.values
values_new s b laid after = ap (λ (o : Option Block). option_map_or (λ (b : Block). b.values) o []) (block_at-fresh s b laid after)
