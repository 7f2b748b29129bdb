-- What cells hold is what the source's objects hold.
use Rattle.std.proofs.Common.{◌≡◌, ℕ, List, [], Option, Some, sym, ap, ◌∙◌, subst}
use Rattle.std.specs.Option.{option_map_or}
use Rattle.heap.specs.Heap.{Block, name_at, values_at}
use Rattle.heap.specs.declared.value.Value.{Value}
use Rattle.semantics.specs.Answer as source
use Rattle.semantics.specs.Heap.{object_at, values_of}
use Rattle.semantics.specs.Object.{Object, ObjectValue}
use Rattle.semantics.specs.Thread.{Shared}
use Rattle.semantics.specs.World.{World}
use Rattle.code_meaning.specs.Lowered.{Lowered}
use Rattle.machine_scenes.specs.declared.store.Store.{Store}
use Rattle.machine_scenes.specs.Buffers.{Acquired}
use Rattle.machine_scenes.specs.StoreAgrees.{StoreAgrees}
use Rattle.machine_scenes.specs.HeapAgrees.{ValuesAgree}
use Rattle.machine_scenes.proofs.BlocksOfNames.{Named, named}

module _ (p : Lowered) (w : World) (store : Store) (shared : Shared) (all : Acquired) (h : StoreAgrees p w store shared all) where
  -- an object and its block
  record Stored (a n : ℕ) : Type 0 where
    pub object : Object
    pub is : object_at shared.heap n ≡ Some object
    pub agree : ValuesAgree store.heap (values_at store.heap a) object.values
    pub values : values_of shared.heap n ≡ object.values

  stored : (a n : ℕ) → name_at store.heap a ≡ Some n → Stored a n
  stored a n there =
      let block : Named store.heap shared.heap a n = named store.heap shared.heap a n h.heap there in
      let is : object_at shared.heap n ≡ Some block.agrees.object = ap (object_at shared.heap) (sym block.birth) ∙ block.agrees.is in
      record {
        object = block.agrees.object;
        is = is;
        agree = subst (λ (ws : List Value). ValuesAgree store.heap ws block.agrees.object.values) (sym (ap (λ (o : Option Block). option_map_or (λ (b : Block). b.values) o []) block.at)) block.agrees.values;
        values = ap (λ (o : Option Object). option_map_or (λ (x : Object). x.values) o []) is;
      }

  -- its values in memory are those that it has
  pub values_there : (a n : ℕ) → name_at store.heap a ≡ Some n → ValuesAgree store.heap (values_at store.heap a) (values_of shared.heap n)
  values_there a n there = let it = stored a n there in subst (λ (us : List ObjectValue). ValuesAgree store.heap (values_at store.heap a) us) (sym it.values) it.agree
