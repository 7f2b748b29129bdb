-- Each object that can be reached has a block.
use Rattle.std.proofs.Common.{◌≡◌, ℕ, suc, ◌<◌, Bool, true, false, eqb, List, [], ◌∷◌, Option, Some, None, sym, ap, ◌∙◌, subst, arith, if◌then◌else◌, Contains, ⊎_elim}
use Rattle.std.specs.Prelude.{filter_map}
use Rattle.std.specs.Option.{option_map_or}
use Rattle.std.proofs.lemmas.Bool.{false≢true}
use Rattle.std.proofs.lemmas.Bool.Decides.{eqb_tells}
use Rattle.heap.specs.declared.value.Value.{Value}
use Rattle.heap.specs.declared.value.Value.TheVariants.{Number as Word, Null, Block as Address}
use Rattle.heap.specs.Heap.{Space}
use Rattle.semantics.specs.Heap.{Heap, object_at, reference_in, values_of}
use Rattle.semantics.specs.Object.{Object, ObjectValue, Number, Refers}
use Rattle.semantics.specs.Reachable.{references_of, roots, Reachable, FromRoot, FromObject}
use Rattle.semantics.specs.State.{State}
use Rattle.semantics.specs.World.{World}
use Rattle.semantics.proofs.ReachableLemmas.{In, contains_in, in_cases, in_head, in_tail}
use Rattle.machine_scenes.specs.HeapAgrees.{HeapAgrees, IsNamed, ValuesAgree, times}
use Rattle.machine_scenes.proofs.BlocksOfNames.{named}

-- ---- among as often

pub in_times : (xs : List ℕ) (n : ℕ) → In xs n → 0 < times n xs
in_times [] n h = absurd (false≢true h)
in_times (m ∷ xs) n h =
    ⊎_elim
    (λ (t : (eqb n m ≡ true) × (n ≡ m)). let e : times n (m ∷ xs) ≡ suc (times n xs) = ap (λ (b : Bool). if b then suc (times n xs) else times n xs) t.0 in omega (arith, e))
    (λ (t : (eqb n m ≡ false) × (n ≡ m → ⊥)).
    let e : times n (m ∷ xs) ≡ times n xs = ap (λ (b : Bool). if b then suc (times n xs) else times n xs) t.0 in
    ⊎_elim (λ (same : m ≡ n). absurd (t.1 (sym same))) (λ (l : In xs n). omega (arith, e, in_times xs n l)) (in_cases m xs n h))
    (eqb_tells n m)

pub times_in : (xs : List ℕ) (n : ℕ) → 0 < times n xs → In xs n
times_in [] n h = absurd (omega (arith, h))
times_in (m ∷ xs) n h =
    ⊎_elim
    (λ (t : (eqb n m ≡ true) × (n ≡ m)). subst (λ z. In (m ∷ xs) z) (sym t.1) (in_head m xs))
    (λ (t : (eqb n m ≡ false) × (n ≡ m → ⊥)).
    let e : times n (m ∷ xs) ≡ times n xs = ap (λ (b : Bool). if b then suc (times n xs) else times n xs) t.0 in
    in_tail m xs n (times_in xs n (omega (arith, h, e))))
    (eqb_tells n m)

module _ (space : Space) where
  -- ---- what blocks refer to

  values_named : (ws : List Value) (vs : List ObjectValue) (n : ℕ) → ValuesAgree space ws vs → In (filter_map reference_in vs) n → IsNamed space n
  values_named [] [] n h k = absurd (false≢true k)
  values_named [] (v ∷ vs) n h k = absurd h
  values_named (w ∷ ws) [] n h k = absurd h
  values_named (w ∷ ws) (Number z ∷ vs) n h k = values_named ws vs n h.1 k
  values_named (w ∷ ws) (Refers None ∷ vs) n h k = values_named ws vs n h.1 k
  values_named (Word x ∷ ws) (Refers (Some m) ∷ vs) n h k = absurd h.0
  values_named (Null ∷ ws) (Refers (Some m) ∷ vs) n h k = absurd h.0
  values_named (Address a ∷ ws) (Refers (Some m) ∷ vs) n h k =
      ⊎_elim (λ (same : m ≡ n). (a, h.0 ∙ ap (λ (x : ℕ). Some x) same)) (λ (l : In (filter_map reference_in vs) n). values_named ws vs n h.1 l) (in_cases m (filter_map reference_in vs) n k)

  referred_named : (heap : Heap) (m n : ℕ) → HeapAgrees space heap → IsNamed space m → In (references_of heap m) n → IsNamed space n
  referred_named heap m n h there k =
      let b = named space heap there.0 m h there.1 in
      let is : object_at heap m ≡ Some b.agrees.object = ap (object_at heap) (sym b.birth) ∙ b.agrees.is in
      let values : values_of heap m ≡ b.agrees.object.values = ap (λ (o : Option Object). option_map_or (λ (x : Object). x.values) o []) is in
      values_named b.block.values b.agrees.object.values n b.agrees.values (subst (λ (vs : List ObjectValue). In (filter_map reference_in vs) n) values k)

  -- where each root has a block
  pub reachable_named : (w : World) (s : State) → HeapAgrees space s.shared.heap → ((n : ℕ) → Contains (roots w s) n → IsNamed space n) → (n : ℕ) → Reachable w s n → IsNamed space n
  reachable_named w s h root n (FromRoot m a c) = root m c
  reachable_named w s h root n (FromObject m q r a c) = referred_named s.shared.heap m q h (reachable_named w s h root m r) (contains_in (references_of s.shared.heap m) n c)
