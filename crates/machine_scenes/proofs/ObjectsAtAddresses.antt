-- What is known of the object whose block is at an address.
use Rattle.std.proofs.Common.{◌≡◌, ℕ, Bool, true, false, cond, eqb, List, [], ◌∷◌, length, Option, Some, None, refl, sym, ap, ◌∙◌, subst}
use Rattle.std.specs.Prelude.{find}
use Rattle.std.specs.Option.{option_map, option_map_or}
use Rattle.heap.specs.Heap.{Block, Space, block_at, class_at, name_at, values_at}
use Rattle.semantics.specs.Object.{Object}
use Rattle.semantics.specs.Heap.{Heap, object_at, class_of, values_of}
use Rattle.machine_scenes.specs.HeapAgrees.{BlockAgrees, BlocksAgree}
use Rattle.machine_scenes.proofs.Loaded.{agree_length}

-- a block that is found stands for its object
block_found : (space : Space) (heap : Heap) (bs : List Block) (a : ℕ) (b : Block) → BlocksAgree space heap bs → find (λ (c : Block). eqb c.address a) bs ≡ Some b → BlockAgrees space heap b
block_found space heap [] a b h e = absurd (cc)
block_found space heap (c ∷ bs) a b h e = by_test (eqb c.address a) e (λ found. block_found space heap bs a b h.1 found)
  where
    by_test : (t : Bool) → cond t (Some c) (find (λ (d : Block). eqb d.address a) bs) ≡ Some b → (find (λ (d : Block). eqb d.address a) bs ≡ Some b → BlockAgrees space heap b) → BlockAgrees space heap b
    by_test true e later = let same : c ≡ b = cc in subst (λ (d : Block). BlockAgrees space heap d) same h.0
    by_test false e later = later e

-- what is known of the object whose block is at an address
pub record IsObject (space : Space) (heap : Heap) (a n : ℕ) : Type 0 where
  pub class : class_at space a ≡ Some (class_of heap n)
  pub count : length (values_at space a) ≡ length (values_of heap n)

is_object_by : (space : Space) (heap : Heap) (a n : ℕ) (o : Option Block) → block_at space a ≡ o → BlocksAgree space heap space.blocks → name_at space a ≡ Some n → IsObject space heap a n
is_object_by space heap a n None e h named = absurd (let none : None ≡ Some n = sym (ap (option_map (λ (b : Block). b.birth)) e) ∙ named in cc)
is_object_by space heap a n (Some b) e h named =
    let f = block_found space heap space.blocks a b h e in
    let birth : b.birth ≡ n = let same : Some b.birth ≡ Some n = sym (ap (option_map (λ (c : Block). c.birth)) e) ∙ named in cc in
    let object : object_at heap n ≡ Some f.object = ap (object_at heap) (sym birth) ∙ f.is in
    record {
      class = ap (option_map (λ (c : Block). c.class)) e ∙ ap (λ (m : ℕ). Some m) (f.class ∙ sym (ap (λ (o : Option Object). option_map_or (λ (x : Object). x.class) o 0) object));
      count = ap length (ap (λ (o : Option Block). option_map_or (λ (c : Block). c.values) o []) e) ∙ agree_length space b.values f.object.values f.values ∙ sym (ap length (ap (λ (o : Option Object). option_map_or (λ (x : Object). x.values) o []) object));
    }

pub is_object : (space : Space) (heap : Heap) (a n : ℕ) → BlocksAgree space heap space.blocks → name_at space a ≡ Some n → IsObject space heap a n
is_object space heap a n h named = is_object_by space heap a n (block_at space a) refl h named
