-- What buffers take, in a store that changes.
use Rattle.std.proofs.Common.{◌≡◌, ◌≢◌, ℕ, ◌+◌, ◌-◌, ◌<◌, ◌≤◌, Bool, true, false, cond, eqb, ℤ, List, [], ◌∷◌, length, Option, Some, None, refl, sym, ap, ◌∙◌, arith, ⊎_elim}
use Rattle.std.specs.Option.{option_map, option_map_or, option_or}
use Rattle.std.proofs.lemmas.Bool.{cases_eq}
use Rattle.std.proofs.lemmas.List.Folds.{find-append}
use Rattle.heap.specs.Heap.{Block, Space, AreNamesUnique, block_at, name_at, pins_at, with_block, with_changed, with_pins}
use Rattle.heap.proofs.Changes.{LeavesPlace}
use Rattle.heap.proofs.Names.{one_address}
use Rattle.heap.proofs.Spaces.{block_at-changed_elsewhere, block_at-changed_here, part-changed}
use Rattle.heap.proofs.Writes.{pins_leave}
use Rattle.semantics.specs.Variable.{NoBuffer, Copy, View}
use Rattle.tables.specs.Elements.{OwnedNumbers, lengths, owned}
use Rattle.tables.specs.Keys.{IsOneMore, values_in}
use Rattle.tables.proofs.ElementLaws.{sum_more}
use Rattle.machine_scenes.specs.Buffers.{Acquired, IsTaken, SameAcquired}
use Rattle.machine_scenes.specs.HeapAgrees.{times}
use Rattle.machine_scenes.proofs.HeldSums.{IsMoreBy, never, once, times_few}

-- the same is taken, in whichever order
pub taken_same : (space : Space) (copies : List (Option OwnedNumbers)) (views objects : ℕ) (a b : Acquired) → SameAcquired a b → IsTaken space copies views objects a → IsTaken space copies views objects b
taken_same space copies views objects a b same h = record {
  copied = h.copied ∙ same.copied;
  many = h.many ∙ same.many;
  pins = λ x n at. h.pins x n at ∙ same.viewed n;
  made = λ n past. sym (same.viewed n) ∙ h.made n past;
  there = λ n some. h.there n (omega (arith, some, same.viewed n));
}

-- the same of what is the same
pub taken_as : (space after : Space) (copies copies_after : List (Option OwnedNumbers)) (views views_after objects : ℕ) (all : Acquired) → after ≡ space → copies_after ≡ copies → views_after ≡ views → IsTaken space copies views objects all → IsTaken after copies_after views_after objects all
taken_as space after copies copies_after views views_after objects all heap lists views_are h = record {
  copied = ap lengths lists ∙ h.copied;
  many = views_are ∙ h.many;
  pins = λ a n at. ap (λ (s : Space). pins_at s a) heap ∙ h.pins a n (sym (ap (λ (s : Space). name_at s a) heap) ∙ at);
  made = h.made;
  there = λ n some. let r = h.there n some in (r.0, ap (λ (s : Space). name_at s r.0) heap ∙ r.1);
}

-- ---- a further block

abbrev name_of : Option Block → Option ℕ
name_of o = option_map (λ (b : Block). b.birth) o

abbrev pins_of : Option Block → ℕ
pins_of o = option_map_or (λ (b : Block). b.pins) o 0

-- the block at an address is one of before, or the further one
found_in : (s : Space) (b : Block) (a : ℕ) → block_at (with_block s b) a ≡ option_or (block_at s a) (cond (eqb b.address a) (Some b) None)
found_in s b a = find-append (λ (c : Block). eqb c.address a) s.blocks (b ∷ [])

pub unpinned_push : (s : Space) (b : Block) → b.pins ≡ 0 → ((a : ℕ) → pins_at s a ≡ 0) → (a : ℕ) → pins_at (with_block s b) a ≡ 0
unpinned_push s b none h a = ap pins_of (found_in s b a) ∙ by_case (block_at s a) (eqb b.address a) (h a)
  where
    by_case : (o : Option Block) (t : Bool) → pins_of o ≡ 0 → pins_of (option_or o (cond t (Some b) None)) ≡ 0
    by_case (Some c) t e = e
    by_case None true e = none
    by_case None false e = refl

pub taken_push : (s : Space) (b : Block) (copies : List (Option OwnedNumbers)) (views objects after : ℕ) (all : Acquired) → IsTaken s copies views objects all → after ≡ objects + 1 → b.birth ≡ objects + 1 → b.pins ≡ 0 → IsTaken (with_block s b) copies views after all
taken_push s b copies views objects after all h next birth none = record {
  copied = h.copied;
  many = h.many;
  pins = λ a n at. ap pins_of (found_in s b a) ∙ by_case (block_at s a) (eqb b.address a) n (λ m e. h.pins a m e) (sym (ap name_of (found_in s b a)) ∙ at);
  made = λ n past. h.made n (omega arith);
  there = λ n some. let r = h.there n some in (r.0, ap name_of (found_in s b r.0) ∙ still (block_at s r.0) (eqb b.address r.0) n r.1);
}
  where
    still : (o : Option Block) (t : Bool) (n : ℕ) → name_of o ≡ Some n → name_of (option_or o (cond t (Some b) None)) ≡ Some n
    still (Some c) t n e = e
    still None t n e = absurd (cc)

    by_case : (o : Option Block) (t : Bool) (n : ℕ) → ((m : ℕ) → name_of o ≡ Some m → pins_of o ≡ times m all.viewed) → name_of (option_or o (cond t (Some b) None)) ≡ Some n → pins_of (option_or o (cond t (Some b) None)) ≡ times n all.viewed
    by_case (Some c) t n old e = old n e
    by_case None true n old e = let same : b.birth ≡ n = cc in none ∙ sym (h.made n (omega arith))
    by_case None false n old e = absurd (cc)

-- ---- a changed block

-- a change of values alone
pub taken_changed : (s : Space) (a : ℕ) (change : Block → Block) (copies : List (Option OwnedNumbers)) (views objects after : ℕ) (all : Acquired) → LeavesPlace change → ((b : Block) → (change b).birth ≡ b.birth) → ((b : Block) → (change b).pins ≡ b.pins) → after ≡ objects
    → IsTaken s copies views objects all → IsTaken (with_changed s a change) copies views after all
taken_changed s a change copies views objects after all leaves births pins same h = record {
  copied = h.copied;
  many = h.many;
  pins = λ x n at.
      counted (block_at (with_changed s a change) x) (block_at s x) (part-changed (λ (b : Block). b.pins) s a change x leaves pins)
      ∙ h.pins x n (sym (part-changed (λ (b : Block). b.birth) s a change x leaves births) ∙ at);
  made = λ n past. h.made n (omega arith);
  there = λ n some. let r = h.there n some in (r.0, part-changed (λ (b : Block). b.birth) s a change r.0 leaves births ∙ r.1);
}
  where
    counted : (o p : Option Block) → option_map (λ (b : Block). b.pins) o ≡ option_map (λ (b : Block). b.pins) p → pins_of o ≡ pins_of p
    counted None None e = refl
    counted None (Some b) e = absurd (cc)
    counted (Some b) None e = absurd (cc)
    counted (Some b) (Some c) e = cc

-- the block of an object is pinned so often
module _ (s : Space) (a n count : ℕ) (all next : Acquired) (unique : AreNamesUnique s) (named : name_at s a ≡ Some n) (here : count ≡ times n next.viewed) (others : (m : ℕ) → m ≢ n → times m next.viewed ≡ times m all.viewed) where
  pub pinned_names : (x : ℕ) → name_at (with_pins s a count) x ≡ name_at s x
  pinned_names x = part-changed (λ (b : Block). b.birth) s a (λ b. record b { pins = count }) x (pins_leave count) (λ b. refl)

  pinned_here : (o : Option Block) → block_at s a ≡ o → name_of o ≡ Some n → pins_at (with_pins s a count) a ≡ count
  pinned_here None at e = absurd (cc)
  pinned_here (Some b) at e = ap pins_of (block_at-changed_here s a (λ b. record b { pins = count }) b (pins_leave count) at)

  pinned_elsewhere : (x m : ℕ) (o : Option Block) → block_at s x ≡ o → name_of o ≡ Some m → x ≢ a → pins_at (with_pins s a count) x ≡ pins_at s x
  pinned_elsewhere x m None at e other = absurd (cc)
  pinned_elsewhere x m (Some b) at e other = ap pins_of (block_at-changed_elsewhere s a (λ b. record b { pins = count }) x b (pins_leave count) other at) ∙ sym (ap pins_of at)

  pub pinned : ((x m : ℕ) → name_at s x ≡ Some m → pins_at s x ≡ times m all.viewed) → (x m : ℕ) → name_at (with_pins s a count) x ≡ Some m → pins_at (with_pins s a count) x ≡ times m next.viewed
  pinned h x m at =
      let before : name_at s x ≡ Some m = sym (pinned_names x) ∙ at in
      ⊎_elim
      (λ (e : x ≡ a).
      let same : n ≡ m = let both : Some n ≡ Some m = sym named ∙ ap (name_at s) (sym e) ∙ before in cc in
      ap (pins_at (with_pins s a count)) e ∙ pinned_here (block_at s a) refl named ∙ here ∙ ap (λ (k : ℕ). times k next.viewed) same)
      (λ (e : x ≢ a).
      let other : m ≢ n = λ same. e (one_address s x a n unique (before ∙ ap (λ (k : ℕ). Some k) same) named) in
      pinned_elsewhere x m (block_at s x) refl before e ∙ h x m before ∙ sym (others m other))
      (cases_eq x a)

-- ---- a buffer more or less

module _ (s : Space) (copies after : List (Option OwnedNumbers)) (views objects k n : ℕ) (zs : List ℤ) (less more : Acquired) (by : IsMoreBy (Copy n zs) less more) (one : IsOneMore (owned k zs) (values_in copies) (values_in after)) where
  longer : lengths after ≡ lengths copies + length zs
  longer = sum_more (λ (c : OwnedNumbers). length c.numbers) (owned k zs) (values_in copies) (values_in after) one

  -- a list more
  pub taken_copy : IsTaken s copies views objects less → IsTaken s after views objects more
  taken_copy h = record {
    copied = omega (arith, longer, h.copied, by.copied);
    many = omega (arith, h.many, by.many);
    pins = λ a m at. h.pins a m at ∙ omega (arith, by.viewed m);
    made = λ m past. omega (arith, h.made m past, by.viewed m);
    there = λ m some. h.there m (omega (arith, some, by.viewed m));
  }

  -- one less
  pub left_copy : IsTaken s after views objects more → IsTaken s copies views objects less
  left_copy h = record {
    copied = omega (arith, longer, h.copied, by.copied);
    many = omega (arith, h.many, by.many);
    pins = λ a m at. h.pins a m at ∙ omega (arith, by.viewed m);
    made = λ m past. omega (arith, h.made m past, by.viewed m);
    there = λ m some. h.there m (omega (arith, some, by.viewed m));
  }

-- no buffer takes anything
pub taken_none : (s : Space) (copies : List (Option OwnedNumbers)) (views objects : ℕ) (less more : Acquired) → IsMoreBy NoBuffer less more → SameAcquired less more
taken_none s copies views objects less more by = record { copied = omega (arith, by.copied); many = omega (arith, by.many); viewed = λ n. omega (arith, by.viewed n) }

module _ (s : Space) (copies : List (Option OwnedNumbers)) (views objects a n : ℕ) (less more : Acquired) (by : IsMoreBy (View n) less more) (unique : AreNamesUnique s) (named : name_at s a ≡ Some n) (within : n ≤ objects) where
  elsewhere : (m : ℕ) → m ≢ n → times m more.viewed ≡ times m less.viewed
  elsewhere m other = omega (arith, by.viewed m, never m n other)

  names_same : (count x : ℕ) → name_at (with_pins s a count) x ≡ name_at s x
  names_same count x = part-changed (λ (b : Block). b.birth) s a (λ b. record b { pins = count }) x (pins_leave count) (λ b. refl)

  -- a view more
  pub taken_view : IsTaken s copies views objects less → IsTaken (with_pins s a (pins_at s a + 1)) copies (views + 1) objects more
  taken_view h = record {
    copied = omega (arith, h.copied, by.copied);
    many = omega (arith, h.many, by.many);
    pins = pinned s a n (pins_at s a + 1) less more unique named (omega (arith, h.pins a n named, by.viewed n, once n)) elsewhere h.pins;
    made = λ m past. omega (arith, h.made m past, by.viewed m, never m n (λ e. let same : m ≡ n = e in omega (arith, past, same, within)));
    there = λ m some. ⊎_elim
        (λ (e : m ≡ n). (a, names_same (pins_at s a + 1) a ∙ named ∙ ap (λ (k : ℕ). Some k) (sym e)))
        (λ (e : m ≢ n). let r = h.there m (omega (arith, some, elsewhere m e)) in (r.0, names_same (pins_at s a + 1) r.0 ∙ r.1))
        (cases_eq m n);
  }

  -- of which there is one then
  pub counted_view : IsTaken s copies views objects more → (0 < pins_at s a) × (0 < views)
  counted_view h = (omega (arith, h.pins a n named, by.viewed n, once n), omega (arith, h.many, by.many))

  -- a view less
  pub left_view : IsTaken s copies views objects more → IsTaken (with_pins s a (pins_at s a - 1)) copies (views - 1) objects less
  left_view h = record {
    copied = omega (arith, h.copied, by.copied);
    many = omega (arith, h.many, by.many);
    pins = pinned s a n (pins_at s a - 1) more less unique named (omega (arith, h.pins a n named, by.viewed n, once n)) (λ m other. sym (elsewhere m other)) h.pins;
    made = λ m past. omega (arith, h.made m past, by.viewed m);
    there = λ m some. let r = h.there m (omega (arith, some, by.viewed m)) in (r.0, names_same (pins_at s a - 1) r.0 ∙ r.1);
  }

-- no object has more pins than there are views
pub few_pins : (s : Space) (copies : List (Option OwnedNumbers)) (views objects a n : ℕ) (all : Acquired) → IsTaken s copies views objects all → name_at s a ≡ Some n → pins_at s a ≤ views
few_pins s copies views objects a n all h named = omega (arith, h.pins a n named, h.many, times_few n all.viewed)
