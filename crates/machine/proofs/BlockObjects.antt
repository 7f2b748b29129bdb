-- The objects that are read off the blocks are those of the heap that the blocks stand for.
use Rattle.std.proofs.Common.{◌≡◌, ℕ, ℤ, zero, suc, ◌+◌, ◌-◌, ◌<◌, ◌≤◌, List, [], ◌∷◌, length, map, set, get_or, Option, Some, None, refl, sym, ap, ◌∙◌, subst, arith, IsSome, ⊎_elim}
use Rattle.std.specs.Prelude.{slice_get, unwrap_or}
use Rattle.std.specs.Option.{option_map, option_map_or}
use Rattle.std.specs.Int.{w32, cast_signed}
use Rattle.std.proofs.Math.Facts.{to_z-of_z}
use Rattle.std.proofs.lemmas.Bool.{cases_eq}
use Rattle.std.proofs.lemmas.List.{length-map}
use Rattle.std.proofs.lemmas.Option.{slice_get-get_or}
use Rattle.heap.specs.declared.value.Value.{Value}
use Rattle.heap.specs.declared.value.Value.TheVariants.{Number as Word, Null, Block as Address}
use Rattle.heap.specs.Heap.{Block, Space, IsAddress, block_at, class_at, name_at, values_at, addresses}
use Rattle.heap.proofs.Names.{one_address}
use Rattle.heap.proofs.Places.{place_in}
use Rattle.semantics.specs.Object.{Object, ObjectValue, Number, Refers, Reference}
use Rattle.semantics.specs.Heap.{Heap, object_at, class_of, values_of}
use Rattle.machine_scenes.specs.HeapAgrees.{ValueAgrees, ValuesAgree, HeapAgrees}
use Rattle.machine_scenes.specs.Given.{class_there}
use Rattle.machine.specs.Rows.{value_in, object_in, object_of, heap_of, IsThere, AreSeen, AreThere, AreBlocks}
use Rattle.machine_scenes.proofs.BlocksOfNames.{Named, named, is_address, name_within}

-- ---- what cells hold

value_is : (s : Space) (w : Value) (v : ObjectValue) → ValueAgrees s w v → value_in s w ≡ v
value_is s (Word w) (Number z) h = ap (λ (y : ℤ). Number y) (ap (cast_signed w32) h.1 ∙ to_z-of_z {w = w32} h.0)
value_is s (Word w) (Refers r) h = absurd h
value_is s Null (Number z) h = absurd h
value_is s Null (Refers None) h = refl
value_is s Null (Refers (Some n)) h = absurd h
value_is s (Address a) (Number z) h = absurd h
value_is s (Address a) (Refers None) h = absurd h
value_is s (Address a) (Refers (Some n)) h = ap (λ (r : Reference). Refers r) h

values_are : (s : Space) (ws : List Value) (vs : List ObjectValue) → ValuesAgree s ws vs → map (value_in s) ws ≡ vs
values_are s [] [] h = refl
values_are s [] (v ∷ vs) h = absurd h
values_are s (w ∷ ws) [] h = absurd h
values_are s (w ∷ ws) (v ∷ vs) h =
    ap (λ (x : ObjectValue). x ∷ map (value_in s) ws) (value_is s w v h.0)
    ∙ ap (λ (l : List ObjectValue). v ∷ l) (values_are s ws vs h.1)

value_there : (s : Space) (w : Value) (v : ObjectValue) → ValueAgrees s w v → IsThere s w
value_there s (Word w) v h = tt
value_there s Null v h = tt
value_there s (Address a) (Number z) h = absurd h
value_there s (Address a) (Refers None) h = absurd h
value_there s (Address a) (Refers (Some n)) h = is_address s a n h

values_there : (s : Space) (ws : List Value) (vs : List ObjectValue) → ValuesAgree s ws vs → AreThere s ws
values_there s [] vs h = tt
values_there s (w ∷ ws) [] h = absurd h
values_there s (w ∷ ws) (v ∷ vs) h = (value_there s w v h.0, values_there s ws vs h.1)

pub there_at : (s : Space) (ws : List Value) (i : ℕ) (w : Value) → AreThere s ws → slice_get ws i ≡ Some w → IsThere s w
there_at s [] i w h at = absurd (cc)
there_at s (x ∷ ws) zero w h at = let same : x ≡ w = cc in subst (IsThere s) same h.0
there_at s (x ∷ ws) (suc i) w h at = there_at s ws i w h.1 at

-- ---- an object

object_is : (s : Space) (heap : Heap) (a n : ℕ) (o : Object) → Named s heap a n → object_at heap n ≡ Some o → object_of s a ≡ o
object_is s heap a n o h there =
    let b = h.block in
    let same : h.agrees.object ≡ o = cc (sym h.agrees.is ∙ ap (object_at heap) h.birth ∙ there) in
    let class : b.class ≡ o.class = h.agrees.class ∙ ap (λ (x : Object). x.class) same in
    let agree : ValuesAgree s b.values o.values = subst (λ (x : Object). ValuesAgree s b.values x.values) same h.agrees.values in
    let values : map (value_in s) b.values ≡ o.values = values_are s b.values o.values agree in
    ap (λ (x : Option Block). let r : Object = record { class = option_map_or (λ (c : ℕ). c) (option_map (λ (b : Block). b.class) x) 0; values = map (value_in s) (option_map_or (λ (b : Block). b.values) x []) } in r) h.at
    ∙ ap (λ (c : ℕ). let r : Object = record { class = c; values = map (value_in s) b.values } in r) class
    ∙ ap (λ (l : List ObjectValue). let r : Object = record { class = o.class; values = l } in r) values

blocks_there : (s : Space) (heap : Heap) (a n : ℕ) → Named s heap a n → AreThere s (values_at s a)
blocks_there s heap a n h =
    subst (AreThere s) (sym (ap (λ (x : Option Block). option_map_or (λ (b : Block). b.values) x []) h.at)) (values_there s h.block.values h.agrees.object.values h.agrees.values)

-- ---- the table

length_all : (s : Space) (xs : List (Option ℕ)) → length (heap_of s xs) ≡ length xs
length_all s [] = refl
length_all s (x ∷ xs) = ap suc (length_all s xs)

pub get_all : (s : Space) (xs : List (Option ℕ)) (i : ℕ) (o : Option ℕ) → slice_get xs i ≡ Some o → slice_get (heap_of s xs) i ≡ Some (object_in s o)
get_all s [] i o e = absurd (cc)
get_all s (x ∷ xs) zero o e = let same : x ≡ o = cc in ap (λ y. Some (object_in s y)) same
get_all s (x ∷ xs) (suc i) o e = get_all s xs i o e

-- a table has the addresses of all blocks, at the places of their names, and no others
pub record HasBlocks (s : Space) (table : List (Option ℕ)) : Type 0 where
  pub placed : (a n : ℕ) → name_at s a ≡ Some n → slice_get table (n - 1) ≡ Some (Some a)
  pub only : (i a : ℕ) → slice_get table i ≡ Some (Some a) → name_at s a ≡ Some (i + 1)

-- the objects that have blocks are those of the heap
pub table_seen : (s : Space) (heap : Heap) (table : List (Option ℕ)) → HeapAgrees s heap → length table ≡ length heap → HasBlocks s table → AreSeen s heap (heap_of s table)
table_seen s heap table h count has = record {
  count = length_all s table ∙ count;
  same = λ n there. by_name n there.0 there.1 (named s heap there.0 n h there.1);
}
  where
    by_name : (n a : ℕ) → name_at s a ≡ Some n → Named s heap a n → object_at (heap_of s table) n ≡ object_at heap n
    by_name zero a name b = absurd (let low = (name_within s heap a zero h name).0 in omega (arith, low))
    by_name (suc i) a name b =
        let before : suc i - 1 ≡ i = omega arith in
        let is : object_at heap (suc i) ≡ Some b.agrees.object = ap (object_at heap) (sym b.birth) ∙ b.agrees.is in
        get_all s table i (Some a) (ap (slice_get table) (sym before) ∙ has.placed a (suc i) name)
        ∙ ap (λ (x : Object). Some x) (object_is s heap a (suc i) b.agrees.object b is)
        ∙ sym is

pub table_there : (s : Space) (heap : Heap) (table : List (Option ℕ)) → HeapAgrees s heap → HasBlocks s table → AreBlocks s table
table_there s heap table h has i a at =
    let name = has.only i a at in
    (is_address s a (i + 1) name, blocks_there s heap a (i + 1) (named s heap a (i + 1) h name))

-- ---- filling the table

get_set_same : (xs : List (Option ℕ)) (i : ℕ) (x : Option ℕ) → i < length xs → slice_get (set xs i x) i ≡ Some x
get_set_same [] i x h = absurd (omega arith)
get_set_same (y ∷ xs) zero x h = refl
get_set_same (y ∷ xs) (suc i) x h = get_set_same xs i x (omega arith)

get_set_other : (xs : List (Option ℕ)) (i j : ℕ) (x : Option ℕ) → (j ≡ i → ⊥) → slice_get (set xs i x) j ≡ slice_get xs j
get_set_other [] i j x h = refl
get_set_other (y ∷ xs) zero zero x h = absurd (h refl)
get_set_other (y ∷ xs) zero (suc j) x h = refl
get_set_other (y ∷ xs) (suc i) zero x h = refl
get_set_other (y ∷ xs) (suc i) (suc j) x h = get_set_other xs i j x (λ e. h (ap suc e))

-- the blocks at the first places are in the table, and nothing else is
pub record ArePlaced (s : Space) (table : List (Option ℕ)) (place : ℕ) : Type 0 where
  pub placed : (j a n : ℕ) → j < place → slice_get (addresses s) j ≡ Some a → name_at s a ≡ Some n → slice_get table (n - 1) ≡ Some (Some a)
  pub only : (i a : ℕ) → slice_get table i ≡ Some (Some a) → name_at s a ≡ Some (i + 1)

pub placed_next : (s : Space) (heap : Heap) (table : List (Option ℕ)) (place a n : ℕ) → HeapAgrees s heap → length table ≡ length heap → slice_get (addresses s) place ≡ Some a → name_at s a ≡ Some n → ArePlaced s table place → ArePlaced s (set table (n - 1) (Some a)) (place + 1)
placed_next s heap table place a n h count here name before = record { placed = placed; only = only }
  where
    low : n - 1 < length table
    low = let w = name_within s heap a n h name in omega (arith, w.0, w.1, count)

    placed : (j b m : ℕ) → j < place + 1 → slice_get (addresses s) j ≡ Some b → name_at s b ≡ Some m → slice_get (set table (n - 1) (Some a)) (m - 1) ≡ Some (Some b)
    placed j b m less at named_so =
        let w = name_within s heap a n h name in
        let v = name_within s heap b m h named_so in
        ⊎_elim
        (λ (e : m ≡ n).
        let same : b ≡ a = one_address s b a n h.unique (subst (λ k. name_at s b ≡ Some k) e named_so) name in
        ap (λ k. slice_get (set table (n - 1) (Some a)) (k - 1)) e ∙ get_set_same table (n - 1) (Some a) low ∙ ap (λ (k : ℕ). Some (Some k)) (sym same))
        (λ (ne : m ≡ n → ⊥). ⊎_elim
        (λ (e : j ≡ place).
        let same : a ≡ b = cc (sym here ∙ ap (slice_get (addresses s)) (sym e) ∙ at) in
        let one : n ≡ m = cc (sym name ∙ ap (name_at s) same ∙ named_so) in
        absurd (ne (sym one)))
        (λ (other : j ≡ place → ⊥).
        get_set_other table (n - 1) (m - 1) (Some a) (λ (f : m - 1 ≡ n - 1). ne (omega (arith, f, w.0, v.0)))
        ∙ before.placed j b m (omega arith) at named_so)
        (cases_eq j place))
        (cases_eq m n)

    only : (i b : ℕ) → slice_get (set table (n - 1) (Some a)) i ≡ Some (Some b) → name_at s b ≡ Some (i + 1)
    only i b at =
        ⊎_elim
        (λ (e : i ≡ n - 1).
        let there : slice_get (set table (n - 1) (Some a)) i ≡ Some (Some a) = ap (slice_get (set table (n - 1) (Some a))) e ∙ get_set_same table (n - 1) (Some a) low in
        let same : a ≡ b = let both : Some (Some a) ≡ Some (Some b) = sym there ∙ at in cc in
        let next : n ≡ i + 1 = let w = name_within s heap a n h name in omega (arith, e, w.0) in
        ap (name_at s) (sym same) ∙ name ∙ ap (λ (k : ℕ). Some k) next)
        (λ (ne : i ≡ n - 1 → ⊥). before.only i b (sym (get_set_other table (n - 1) i (Some a) ne) ∙ at))
        (cases_eq i (n - 1))

pub placed_none : (s : Space) (table : List (Option ℕ)) → ((i : ℕ) (o : Option ℕ) → slice_get table i ≡ Some o → o ≡ None) → ArePlaced s table 0
placed_none s table empty = record {
  placed = λ j a n less at name. absurd (omega (arith, less));
  only = λ i a at. absurd (let none : Some a ≡ None = empty i (Some a) at in cc);
}

-- when all blocks are in the table, it has them all
pub table_filled : (s : Space) (table : List (Option ℕ)) (place : ℕ) → ArePlaced s table place → length s.blocks ≤ place → HasBlocks s table
table_filled s table place h past = record {
  placed = λ a n name.
      let there = place_in s.blocks a (is_address s a n name) in
      let within : there.0 < length s.blocks = there.1 in
      h.placed there.0 a n (omega (arith, within, past)) there.2 name;
  only = h.only;
}

-- ---- what is read of an object

-- the address of a name, or none, where the objects are seen as a heap
pub record IsAt (s : Space) (table : List (Option ℕ)) (heap : Heap) (name : ℕ) (o : Option ℕ) : Type 0 where
  pub place : slice_get table (name - 1) ≡ Some o
  pub object : object_at heap name ≡ Some (object_in s o)

pub is_at : (s : Space) (table : List (Option ℕ)) (heap : Heap) (name : ℕ) (o p : Option ℕ) → heap_of s table ≡ heap → (0 < name) × (name ≤ length heap) → o ≡ get_or table (name - 1) o → o ≡ p → IsAt s table heap name p
is_at s table heap zero o p e w read is = absurd (omega (arith, w.0))
is_at s table heap (suc i) o p e w read is =
    let count : length table ≡ length heap = sym (length_all s table) ∙ ap (λ (h : Heap). length h) e in
    let first : suc i - 1 ≡ i = omega arith in
    let low : suc i - 1 < length table = omega (arith, w.1, count) in
    let place : slice_get table (suc i - 1) ≡ Some o = slice_get-get_or table (suc i - 1) o low ∙ ap (λ (x : Option ℕ). Some x) (sym read) in
    subst (IsAt s table heap (suc i)) is (record {
      place = place;
      object = ap (λ (h : Heap). slice_get h i) (sym e) ∙ get_all s table i o (ap (slice_get table) (sym first) ∙ place);
    })

-- nothing is seen of an object whose block is gone
module _ (s : Space) (table : List (Option ℕ)) (heap : Heap) (name : ℕ) (h : IsAt s table heap name None) where
  pub no_class : class_of heap name ≡ 0
  no_class = ap (λ (o : Option Object). option_map_or (λ (x : Object). x.class) o 0) h.object

  pub no_values : length (values_of heap name) ≡ 0
  no_values = ap (λ (o : Option Object). length (option_map_or (λ (x : Object). x.values) o [])) h.object

module _ (s : Space) (table : List (Option ℕ)) (heap : Heap) (name a : ℕ) (h : IsAt s table heap name (Some a)) where
  pub class_is : class_there s a ≡ class_of heap name
  class_is = or_none (class_at s a) ∙ sym (ap (λ (o : Option Object). option_map_or (λ (x : Object). x.class) o 0) h.object)
    where
      or_none : (o : Option ℕ) → unwrap_or o 0 ≡ option_map_or (λ (c : ℕ). c) o 0
      or_none None = refl
      or_none (Some c) = refl

  pub values_here : values_of heap name ≡ map (value_in s) (values_at s a)
  values_here = ap (λ (o : Option Object). option_map_or (λ (x : Object). x.values) o []) h.object

  pub count_here : length (values_of heap name) ≡ length (values_at s a)
  count_here = ap (λ (l : List ObjectValue). length l) values_here ∙ length-map (values_at s a) (value_in s)

  pub value_here : (index : ℕ) (w : Value) → slice_get (values_at s a) index ≡ Some w → slice_get (values_of heap name) index ≡ Some (value_in s w)
  value_here index w at = ap (λ (l : List ObjectValue). slice_get l index) values_here ∙ get_map (values_at s a) index w at
    where
      get_map : (ws : List Value) (i : ℕ) (x : Value) → slice_get ws i ≡ Some x → slice_get (map (value_in s) ws) i ≡ Some (value_in s x)
      get_map [] i x e = absurd (cc)
      get_map (y ∷ ws) zero x e = let same : y ≡ x = cc in ap (λ (v : Value). Some (value_in s v)) same
      get_map (y ∷ ws) (suc i) x e = get_map ws i x e

-- a block of the order of addresses is there
pub address_there : (s : Space) (heap : Heap) (place a : ℕ) → HeapAgrees s heap → slice_get (addresses s) place ≡ Some a → block_at s a ≡ slice_get s.blocks place → IsAddress s a
address_there s heap place a h at block = found s.blocks place at (block_at s a) block
  where
    found : (bs : List Block) (i : ℕ) → slice_get (map (λ (b : Block). b.address) bs) i ≡ Some a → (o : Option Block) → o ≡ slice_get bs i → IsSome o
    found [] i e o f = absurd (cc)
    found (b ∷ bs) zero e o f = rw f refl
    found (b ∷ bs) (suc i) e o f = found bs i e o f
