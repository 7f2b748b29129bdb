-- A heap that gets a further block still stands for the source's heap, which gets a further object.
use Rattle.std.proofs.Common.{◌≡◌, ℕ, zero, suc, ◌+◌, ◌<◌, ◌≤◌, Bool, true, false, cond, eqb, List, [], ◌∷◌, ◌++◌, length, get_or, Option, Some, None, refl, sym, ap, ◌∙◌, arith, ⊎_elim, ◌⊎◌, inl, inr, length-append, Contains}
use Rattle.std.specs.Prelude.{find, slice_get, AllPairs, ◌≢◌}
use Rattle.std.specs.Option.{option_map, option_or}
use Rattle.std.proofs.lemmas.Bool.{cases_lt}
use Rattle.std.proofs.lemmas.Bool.Decides.{eqb_tells}
use Rattle.std.proofs.lemmas.List.{get_or_push, get_or_append_left}
use Rattle.std.proofs.lemmas.List.Elements.{Contains-append_cases}
use Rattle.std.proofs.lemmas.List.Folds.{find-append}
use Rattle.std.proofs.lemmas.Option.{slice_get_within}
use Rattle.heap.specs.declared.value.Value.{Value}
use Rattle.heap.specs.declared.value.Value.TheVariants.{Number as Word, Null, Block as Address}
use Rattle.heap.specs.Heap.{Block, Space, block_end, end_from, end_of, LieFrom, IsLaidOut, name_at, with_block}
use Rattle.heap.proofs.Layouts.{from_below_end}
use Rattle.heap.proofs.Spaces.{block_at-fresh}
use Rattle.semantics.specs.Object.{Object, ObjectValue, Number, Refers}
use Rattle.semantics.specs.Heap.{Heap, object_at}
use Rattle.semantics.specs.Reachable.{from_one}
use Rattle.machine_scenes.specs.HeapAgrees.{ReferenceAgrees, ValueAgrees, ValuesAgree, BlockAgrees, BlocksAgree, HeapAgrees, IsTable}

-- ---- the block at an address

-- no block begins after the end
none_after : (from a : ℕ) (bs : List Block) (cells : ℕ) → LieFrom from bs cells → end_from from bs ≤ a → find (λ (b : Block). eqb b.address a) bs ≡ None
none_after from a [] cells h e = refl
none_after from a (b ∷ bs) cells h e =
    let later = from_below_end (block_end b) bs cells h.1 in
    ⊎_elim
    (λ (t : (eqb b.address a ≡ true) × (b.address ≡ a)). absurd (let same : b.address ≡ a = t.1 in omega arith))
    (λ (t : (eqb b.address a ≡ false) × (b.address ≡ a → ⊥)). ap (λ (c : Bool). cond c (Some b) (find (λ (b : Block). eqb b.address a) bs)) t.0 ∙ none_after (block_end b) a bs cells h.1 e)
    (eqb_tells b.address a)

-- what was at an address stays there
keeps : (a n : ℕ) (o p : Option Block) → option_map (λ (b : Block). b.birth) o ≡ Some n → option_map (λ (b : Block). b.birth) (option_or o p) ≡ Some n
keeps a n None p h = absurd (cc)
keeps a n (Some b) p h = h

pub name_kept : (s : Space) (b : Block) (a n : ℕ) → name_at s a ≡ Some n → name_at (with_block s b) a ≡ Some n
name_kept s b a n h =
    ap (option_map (λ (b : Block). b.birth)) (find-append (λ (b : Block). eqb b.address a) s.blocks (b ∷ []))
    ∙ keeps a n (find (λ (b : Block). eqb b.address a) s.blocks) (find (λ (b : Block). eqb b.address a) (b ∷ [])) h

pub name_new : (s : Space) (b : Block) → IsLaidOut s → b.address ≡ end_of s → name_at (with_block s b) b.address ≡ Some b.birth
name_new s b laid at = ap (option_map (λ (b : Block). b.birth)) (block_at-fresh s b laid at)

-- ---- what agreed agrees

pub reference_kept : (s : Space) (b : Block) (a : Option ℕ) (r : Option ℕ) → ReferenceAgrees s a r → ReferenceAgrees (with_block s b) a r
reference_kept s b None None h = h
reference_kept s b None (Some n) h = h
reference_kept s b (Some a) None h = h
reference_kept s b (Some a) (Some n) h = name_kept s b a n h

value_kept : (s : Space) (b : Block) (w : Value) (v : ObjectValue) → ValueAgrees s w v → ValueAgrees (with_block s b) w v
value_kept s b (Word n) (Number z) h = h
value_kept s b (Word n) (Refers r) h = h
value_kept s b Null (Number z) h = h
value_kept s b Null (Refers r) h = reference_kept s b None r h
value_kept s b (Address a) (Number z) h = h
value_kept s b (Address a) (Refers r) h = reference_kept s b (Some a) r h

values_kept : (s : Space) (b : Block) (ws : List Value) (vs : List ObjectValue) → ValuesAgree s ws vs → ValuesAgree (with_block s b) ws vs
values_kept s b [] [] h = h
values_kept s b [] (v ∷ vs) h = h
values_kept s b (w ∷ ws) [] h = h
values_kept s b (w ∷ ws) (v ∷ vs) h = (value_kept s b w v h.0, values_kept s b ws vs h.1)

-- an object that is there stays
get_kept : (xs ys : Heap) (i : ℕ) (o : Object) → slice_get xs i ≡ Some o → slice_get (xs ++ ys) i ≡ Some o
get_kept [] ys i o h = absurd (cc)
get_kept (x ∷ xs) ys zero o h = h
get_kept (x ∷ xs) ys (suc i) o h = get_kept xs ys i o h

pub object_kept : (heap more : Heap) (n : ℕ) (o : Object) → object_at heap n ≡ Some o → object_at (heap ++ more) n ≡ Some o
object_kept heap more zero o h = h
object_kept heap more (suc i) o h = get_kept heap more i o h

get_new : (xs : Heap) (o : Object) → slice_get (xs ++ o ∷ []) (length xs) ≡ Some o
get_new [] o = refl
get_new (x ∷ xs) o = get_new xs o

object_new : (heap : Heap) (o : Object) (n : ℕ) → n ≡ length heap + 1 → object_at (heap ++ o ∷ []) n ≡ Some o
object_new heap o n e = let next : n ≡ suc (length heap) = omega arith in ap (object_at (heap ++ o ∷ [])) next ∙ get_new heap o

block_kept : (s : Space) (heap more : Heap) (b c : Block) → BlockAgrees s heap c → BlockAgrees (with_block s b) (heap ++ more) c
block_kept s heap more b c h = record {
  object = h.object;
  is = object_kept heap more c.birth h.object h.is;
  class = h.class;
  values = values_kept s b c.values h.object.values h.values;
}

blocks_kept : (s : Space) (heap more : Heap) (b : Block) (bs : List Block) → BlocksAgree s heap bs → BlocksAgree (with_block s b) (heap ++ more) bs
blocks_kept s heap more b [] h = h
blocks_kept s heap more b (c ∷ bs) h = (block_kept s heap more b c h.0, blocks_kept s heap more b bs h.1)

blocks_push : (s : Space) (heap : Heap) (bs : List Block) (b : Block) → BlocksAgree s heap bs → BlockAgrees s heap b → BlocksAgree s heap (bs ++ b ∷ [])
blocks_push s heap [] b h k = (k, tt)
blocks_push s heap (c ∷ bs) b h k = (h.0, blocks_push s heap bs b h.1 k)

-- ---- names

name_within : (heap : Heap) (n : ℕ) (o : Object) → object_at heap n ≡ Some o → n ≤ length heap
name_within heap zero o h = absurd (cc)
name_within heap (suc i) o h = let l = slice_get_within heap i o h in omega arith

births_within : (s : Space) (heap : Heap) (bs : List Block) (i : ℕ) (d : Block) → BlocksAgree s heap bs → i < length bs → (get_or bs i d).birth ≤ length heap
births_within s heap [] i d h l = absurd (omega arith)
births_within s heap (b ∷ bs) zero d h l = name_within heap b.birth h.0.object h.0.is
births_within s heap (b ∷ bs) (suc i) d h l = births_within s heap bs i d h.1 (omega arith)

unique_push : (s : Space) (heap : Heap) (bs : List Block) (b : Block) → BlocksAgree s heap bs → b.birth ≡ length heap + 1 → AllPairs (λ (b c : Block). b.birth ≢ c.birth) bs → AllPairs (λ (b c : Block). b.birth ≢ c.birth) (bs ++ b ∷ [])
unique_push s heap bs b h birth unique i j d below within =
    let count = length-append bs (b ∷ []) in
    let first : get_or (bs ++ b ∷ []) i d ≡ get_or bs i d = get_or_append_left bs (b ∷ []) d i (omega arith) in
    let old : (get_or bs i d).birth ≤ length heap = births_within s heap bs i d h (omega arith) in
    ⊎_elim
    (λ (l : j < length bs). λ e. unique i j d below l (sym (ap (λ (c : Block). c.birth) first) ∙ e ∙ ap (λ (c : Block). c.birth) (get_or_append_left bs (b ∷ []) d j l)))
    (λ (l : length bs ≤ j). λ e.
    let last : get_or (bs ++ b ∷ []) j d ≡ b = get_or_push bs b d j (omega arith) in
    let same : (get_or bs i d).birth ≡ b.birth = sym (ap (λ (c : Block). c.birth) first) ∙ e ∙ ap (λ (c : Block). c.birth) last in
    absurd (omega arith))
    (cases_lt j (length bs))

-- ---- the heap with a further block

-- a block as that of the next object
pub record IsNext (s : Space) (heap : Heap) (b : Block) (o : Object) : Type 0 where
  pub after : b.address ≡ end_of s
  pub birth : b.birth ≡ length heap + 1
  pub class : b.class ≡ o.class
  pub values : ValuesAgree s b.values o.values
  pub unpinned : b.pins ≡ 0

pub agrees_with_block : (s : Space) (heap : Heap) (b : Block) (o : Object) → HeapAgrees s heap → IsNext s heap b o → HeapAgrees (with_block s b) (heap ++ o ∷ [])
agrees_with_block s heap b o h next = record {
  blocks = blocks_push (with_block s b) (heap ++ o ∷ []) s.blocks b (blocks_kept s heap (o ∷ []) b s.blocks h.blocks)
      (record { object = o; is = object_new heap o b.birth next.birth; class = next.class; values = values_kept s b b.values o.values next.values });
  unique = unique_push s heap s.blocks b h.blocks next.birth h.unique;
}

-- ---- the table of the objects made at load

pub table_kept : (s : Space) (b : Block) (addresses : List ℕ) (count : ℕ) → IsTable s addresses count → IsTable (with_block s b) addresses count
table_kept s b addresses count h = record { counted = h.counted; named = λ i a at. name_kept s b a (i + 1) (h.named i a at) }

get_push : (xs : List ℕ) (x i a : ℕ) → slice_get (xs ++ x ∷ []) i ≡ Some a → (slice_get xs i ≡ Some a) ⊎ ((i ≡ length xs) × (a ≡ x))
get_push [] x zero a h = inr (refl, cc)
get_push [] x (suc i) a h = absurd (cc)
get_push (y ∷ xs) x zero a h = inl h
get_push (y ∷ xs) x (suc i) a h =
    ⊎_elim (λ (t : slice_get xs i ≡ Some a). inl t) (λ (t : (i ≡ length xs) × (a ≡ x)). inr (ap suc t.0, t.1)) (get_push xs x i a h)

-- the table with the next object
pub table_push : (s : Space) (b : Block) (addresses : List ℕ) (count : ℕ) → IsTable s addresses count → IsLaidOut s → b.address ≡ end_of s → b.birth ≡ count + 1 → IsTable (with_block s b) (addresses ++ b.address ∷ []) (count + 1)
table_push s b addresses count h laid after birth = record {
  counted = let counted : length addresses ≡ count = h.counted in omega (arith, length-append addresses (b.address ∷ []));
  named = λ i a at. ⊎_elim
      (λ (old : slice_get addresses i ≡ Some a). name_kept s b a (i + 1) (h.named i a old))
      (λ (new : (i ≡ length addresses) × (a ≡ b.address)).
      let here : i ≡ length addresses = new.0 in
      let counted : length addresses ≡ count = h.counted in
      let same : b.birth ≡ i + 1 = omega arith in
      ap (name_at (with_block s b)) new.1 ∙ name_new s b laid after ∙ ap (λ (m : ℕ). Some m) same)
      (get_push addresses b.address i a at);
}

-- ---- names from one on

-- the only element of a list of one
only : (x n : ℕ) → Contains (x ∷ []) n → n ≡ x
only x n c = by_place c.0 c.1 c.2
  where
    by_place : (k : ℕ) → k < length (x ∷ []) → get_or (x ∷ []) k n ≡ n → n ≡ x
    by_place zero l e = sym e
    by_place (suc k) l e = absurd (omega arith)

pub from_one-bounds : (k n : ℕ) → Contains (from_one k) n → (0 < n) × (n ≤ k)
from_one-bounds zero n c = let l : c.0 < 0 = c.1 in absurd (omega arith)
from_one-bounds (suc k) n c =
    ⊎_elim
    (λ (old : Contains (from_one k) n). let b = from_one-bounds k n old in (b.0, omega arith))
    (λ (new : Contains (suc k ∷ []) n). let e : n ≡ suc k = only (suc k) n new in (omega arith, omega arith))
    (Contains-append_cases (from_one k) (suc k ∷ []) n c)
