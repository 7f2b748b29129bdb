-- The block that stands for an object of a name.
use Rattle.std.proofs.Common.{◌≡◌, ℕ, zero, suc, ◌<◌, ◌≤◌, Bool, true, false, cond, eqb, List, [], ◌∷◌, length, Option, Some, None, refl, subst, arith, IsSome}
use Rattle.std.specs.Prelude.{slice_get, find}
use Rattle.std.specs.Option.{option_map}
use Rattle.heap.specs.Heap.{Block, Space, IsAddress, block_at, name_at}
use Rattle.semantics.specs.Object.{Object, Reference}
use Rattle.semantics.specs.Heap.{Heap, object_at}
use Rattle.machine_scenes.specs.HeapAgrees.{BlockAgrees, BlocksAgree, HeapAgrees, ReferenceAgrees}

pub record Named (s : Space) (heap : Heap) (a n : ℕ) : Type 0 where
  pub block : Block
  pub at : block_at s a ≡ Some block
  pub birth : block.birth ≡ n
  pub agrees : BlockAgrees s heap block

found_agrees : (s : Space) (heap : Heap) (a : ℕ) (bs : List Block) (b : Block) → BlocksAgree s heap bs → find (λ (b : Block). eqb b.address a) bs ≡ Some b → BlockAgrees s heap b
found_agrees s heap a [] b h e = absurd (cc)
found_agrees s heap a (c ∷ bs) b h e = either (eqb c.address a) h.0 (λ f. found_agrees s heap a bs b h.1 f) e
  where
    either : (t : Bool) → BlockAgrees s heap c → (find (λ (b : Block). eqb b.address a) bs ≡ Some b → BlockAgrees s heap b) → cond t (Some c) (find (λ (b : Block). eqb b.address a) bs) ≡ Some b → BlockAgrees s heap b
    either true k further e = let same : c ≡ b = cc in subst (BlockAgrees s heap) same k
    either false k further e = further e

pub named : (s : Space) (heap : Heap) (a n : ℕ) → HeapAgrees s heap → name_at s a ≡ Some n → Named s heap a n
named s heap a n h e = by_block (block_at s a) refl e
  where
    by_block : (o : Option Block) → block_at s a ≡ o → option_map (λ (b : Block). b.birth) o ≡ Some n → Named s heap a n
    by_block None at e = absurd (cc)
    by_block (Some b) at e = record { block = b; at = at; birth = cc; agrees = found_agrees s heap a s.blocks b h.blocks at }

pub is_address : (s : Space) (a n : ℕ) → name_at s a ≡ Some n → IsAddress s a
is_address s a n e = some (block_at s a) e
  where
    some : (o : Option Block) → option_map (λ (b : Block). b.birth) o ≡ Some n → IsSome o
    some None e = absurd (cc)
    some (Some b) e = refl

-- where a reference stands for an object, a block is there
pub block_there : (space : Space) (o : Option ℕ) (q : Reference) (a : ℕ) → ReferenceAgrees space o q → o ≡ Some a → IsAddress space a
block_there space None q a h e = absurd (cc)
block_there space (Some b) None a h e = absurd h
block_there space (Some b) (Some n) a h e = let same : b ≡ a = cc in subst (IsAddress space) same (is_address space b n h)

pub get_below : (heap : Heap) (i : ℕ) (o : Object) → slice_get heap i ≡ Some o → i < length heap
get_below [] i o e = absurd (cc)
get_below (x ∷ heap) zero o e = omega arith
get_below (x ∷ heap) (suc i) o e = let rest : i < length heap = get_below heap i o e in omega arith

object_below : (heap : Heap) (n : ℕ) (o : Object) → object_at heap n ≡ Some o → (0 < n) × (n ≤ length heap)
object_below heap zero o e = absurd (cc)
object_below heap (suc i) o e = let low = get_below heap i o e in (omega arith, omega (arith, low))

-- a name of a block is that of an object
pub name_within : (s : Space) (heap : Heap) (a n : ℕ) → HeapAgrees s heap → name_at s a ≡ Some n → (0 < n) × (n ≤ length heap)
name_within s heap a n h e =
    let b = named s heap a n h e in
    object_below heap n b.agrees.object (subst (λ m. object_at heap m ≡ Some b.agrees.object) b.birth b.agrees.is)
