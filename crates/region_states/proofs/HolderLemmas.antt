-- How many held buffers of an array variable there are.
use Rattle.std.proofs.Common.{◌≡◌, ℕ, zero, suc, ◌+◌, ◌-◌, ◌<◌, ◌≤◌, Bool, true, false, ◌||◌, if◌then◌else◌, cond, List, [], ◌∷◌, ◌++◌, length, map, get_or, drop, take, Option, Some, None, refl, sym, ap, ap₂, ◌∙◌, subst, arith, nat_lt, bytes_eq, Bor, true≢false}
use Rattle.std.specs.List.{list_any}
use Rattle.std.specs.Map as maps
use Rattle.std.specs.Option.{unwrap_or}
use Rattle.std.proofs.Math.ListN.{set}
use Rattle.std.proofs.lemmas.List.{length-map}
use Rattle.std.proofs.lemmas.Bool.{lt-ltb}
use lib.Pointwise.{bytes_decides}
use Rattle.base.specs.Bytes.{Identifier, ByName, lookup}
use Rattle.base.specs.Options.{some_passes}
use Rattle.jni.specs.declared.access.Access.{Access}
use Rattle.semantics.specs.Variable.{assign}
use Rattle.indexmap.specs.IndexMap.{insert_entry}
use Rattle.region_states.specs.declared.states.VariableState.{VariableState as VariableStateInMemory}
use Rattle.region_states.specs.declared.variables.Change.{Change}
use Rattle.region_states.specs.declared.variables.Change.TheVariants as change
use Rattle.region_states.specs.VariableChanges.{change_value}
use Rattle.region_rules.specs.Regions.{made_usable}
use Rattle.region_rules.specs.RegionStates.{VariableState, ReferenceAt, BufferIn, Free, Untested, Usable, made_free, killed, killed_from}
use Rattle.region_states.specs.StatesInMemory.{variable_state, held_in, one_if, how_many, one_of, holders, count_of}

-- ---- numbers by name

flipped : (a y : Identifier) → bytes_eq a y ≡ false → bytes_eq y a ≡ false
flipped a y e = by (bytes_eq y a) refl
  where
    by : (b : Bool) → bytes_eq y a ≡ b → b ≡ false
    by true h = absurd (true≢false (sym ((bytes_decides a y).1 (sym ((bytes_decides y a).0 h))) ∙ e))
    by false h = refl

module _ (a : Identifier) (n : ℕ) where
  own_number : (counts : ByName ℕ) → count_of (assign a n counts) a ≡ n
  own_number [] = ap (λ b. unwrap_or (if b then Some n else None) 0) ((bytes_decides a a).1 refl)
  own_number ((y, m) ∷ counts) = by (bytes_eq a y) refl (own_number counts)
    where
      by : (b : Bool) → bytes_eq a y ≡ b → count_of (assign a n counts) a ≡ n → count_of (if b then (a, n) ∷ counts else (y, m) ∷ assign a n counts) a ≡ n
      by true e more = ap (λ b. unwrap_or (if b then Some n else lookup a counts) 0) ((bytes_decides a a).1 refl)
      by false e more = ap (λ b. unwrap_or (if b then Some m else lookup a (assign a n counts)) 0) e ∙ more

  other_number : (x : Identifier) → bytes_eq x a ≡ false → (counts : ByName ℕ) → lookup x (assign a n counts) ≡ lookup x counts
  other_number x other [] = ap (λ b. if b then Some n else None) other
  other_number x other ((y, m) ∷ counts) = by (bytes_eq a y) refl (other_number x other counts)
    where
      by : (b : Bool) → bytes_eq a y ≡ b → lookup x (assign a n counts) ≡ lookup x counts → lookup x (if b then (a, n) ∷ counts else (y, m) ∷ assign a n counts) ≡ (if bytes_eq x y then Some m else lookup x counts)
      by true e more =
          ap (λ b. if b then Some n else lookup x counts) other
          ∙ sym (ap (λ b. if b then Some m else lookup x counts) (ap (bytes_eq x) (sym ((bytes_decides a y).0 e)) ∙ other))
      by false e more = ap (λ (o : Option ℕ). if bytes_eq x y then Some m else o) more

-- a name that is given a number has it, and each other name what it had
pub number_given : (a x : Identifier) (n : ℕ) (counts : ByName ℕ) → count_of (assign a n counts) x ≡ (if bytes_eq a x then n else count_of counts x)
number_given a x n counts = by (bytes_eq a x) refl
  where
    by : (b : Bool) → bytes_eq a x ≡ b → count_of (assign a n counts) x ≡ (if b then n else count_of counts x)
    by true e = subst (λ (y : Identifier). count_of (assign a n counts) y ≡ n) ((bytes_decides a x).0 e) (own_number a n counts)
    by false e = ap (λ (o : Option ℕ). unwrap_or o 0) (other_number a n x (flipped a x e) counts)

-- a number more, and a number less, of a name
pub one_more : (a x : Identifier) (counts : ByName ℕ) → count_of (assign a (count_of counts a + 1) counts) x ≡ (if bytes_eq a x then 1 else 0) + count_of counts x
one_more a x counts = number_given a x (count_of counts a + 1) counts ∙ by (bytes_eq a x) refl
  where
    by : (b : Bool) → bytes_eq a x ≡ b → (if b then count_of counts a + 1 else count_of counts x) ≡ (if b then 1 else 0) + count_of counts x
    by true e = let same : count_of counts a ≡ count_of counts x = ap (count_of counts) ((bytes_decides a x).0 e) in omega (arith, same)
    by false e = omega arith

pub one_less : (a x : Identifier) (m : ℕ) (counts : ByName ℕ) → count_of counts a ≡ 1 + m → count_of counts x ≡ (if bytes_eq a x then 1 else 0) + count_of (assign a m counts) x
one_less a x m counts h = by (bytes_eq a x) refl ∙ ap (λ n. (if bytes_eq a x then 1 else 0) + n) (sym (number_given a x m counts))
  where
    by : (b : Bool) → bytes_eq a x ≡ b → count_of counts x ≡ (if b then 1 else 0) + (if b then m else count_of counts x)
    by true e = sym (ap (count_of counts) ((bytes_decides a x).0 e)) ∙ h
    by false e = omega arith

-- ---- numbers in memory

abbrev pub Entries : Type 0
Entries = List (Bor Identifier × ℕ)

abbrev pub by_name : Entries → ByName ℕ
by_name es = map (λ (e : Bor Identifier × ℕ). (e.0.now, e.1)) es

abbrev pub same_key : Bor Identifier → Bor Identifier → Bool
same_key k l = bytes_eq k.now l.now

pub looked_up : (x : Identifier) (es : Entries) → maps.lookup (λ (k : Bor Identifier). bytes_eq x k.now) es ≡ lookup x (by_name es)
looked_up x [] = refl
looked_up x (e ∷ es) = ap (λ (o : Option ℕ). if bytes_eq x e.0.now then Some e.1 else o) (looked_up x es)

pub inserted : (k : Bor Identifier) (n : ℕ) (es : Entries) → by_name (insert_entry same_key es k n) ≡ assign k.now n (by_name es)
inserted k n [] = refl
inserted k n (e ∷ es) = by (same_key k e.0) refl (inserted k n es)
  where
    by : (b : Bool) → same_key k e.0 ≡ b → by_name (insert_entry same_key es k n) ≡ assign k.now n (by_name es)
        → by_name (cond b ((e.0, n) ∷ es) (e ∷ insert_entry same_key es k n)) ≡ cond b ((k.now, n) ∷ by_name es) ((e.0.now, e.1) ∷ assign k.now n (by_name es))
    by true same more = ap (λ (x : Identifier). (x, n) ∷ by_name es) (sym ((bytes_decides k.now e.0.now).0 same))
    by false same more = ap (λ (l : ByName ℕ). (e.0.now, e.1) ∷ l) more

-- ---- how many variables there are of which something holds

module _ (q : VariableState → Bool) where
  pub some_are : (vs : List VariableState) → nat_lt 0 (how_many q vs) ≡ list_any q vs
  some_are [] = refl
  some_are (v ∷ vs) = by (q v) (some_are vs)
    where
      by : (b : Bool) → nat_lt 0 (how_many q vs) ≡ list_any q vs → nat_lt 0 ((if b then 1 else 0) + how_many q vs) ≡ (b || list_any q vs)
      by true more = lt-ltb 0 (1 + how_many q vs) (omega arith)
      by false more = ap (nat_lt 0) (omega arith) ∙ more

  -- a change of one
  pub many_set : (items : List VariableStateInMemory) (n : ℕ) (old new : VariableStateInMemory) → n < length items → old ≡ get_or items n old
      → one_if q (variable_state old) + how_many q (map variable_state (set items n new)) ≡ one_if q (variable_state new) + how_many q (map variable_state items)
  many_set [] n old new h e = absurd (omega (arith, h))
  many_set (v ∷ items) zero old new h e = let same = ap (λ (w : VariableStateInMemory). one_if q (variable_state w)) e in omega (arith, same)
  many_set (v ∷ items) (suc n) old new h e = let more = many_set items n old new (omega (arith, h)) e in omega (arith, more)

  -- one of some is among them
  pub one_at : (items : List VariableStateInMemory) (n : ℕ) (v : VariableStateInMemory) → n < length items → v ≡ get_or items n v → one_if q (variable_state v) ≤ how_many q (map variable_state items)
  one_at [] n v h e = absurd (omega (arith, h))
  one_at (w ∷ items) zero v h e = let same = ap (λ (u : VariableStateInMemory). one_if q (variable_state u)) e in omega (arith, same)
  one_at (w ∷ items) (suc n) v h e = let more = one_at items n v (omega (arith, h)) e in omega (arith, more)

  pub many_split : (n : ℕ) (items : List VariableStateInMemory) → how_many q (map variable_state items) ≡ how_many q (map variable_state (take n items)) + how_many q (map variable_state (drop n items))
  many_split zero items = omega arith
  many_split (suc n) [] = refl
  many_split (suc n) (v ∷ items) = let more = many_split n items in omega (arith, more)

  -- one more
  pub many_push : (items : List VariableStateInMemory) (v : VariableStateInMemory) → how_many q (map variable_state (items ++ v ∷ [])) ≡ how_many q (map variable_state items) + one_if q (variable_state v)
  many_push [] v = omega arith
  many_push (w ∷ items) v = let more = many_push items v in omega (arith, more)

-- ---- what a change leaves held

module _ (x : Identifier) where
  pub none_freed : (v : VariableState) → one_of x (made_free v) ≡ 0
  none_freed (ReferenceAt level live) = refl
  none_freed (BufferIn b) = refl

  pub usable_held : (v : VariableState) → one_of x (made_usable v) ≡ one_of x v
  usable_held (ReferenceAt level live) = refl
  usable_held (BufferIn Free) = refl
  usable_held (BufferIn (Untested access array)) = refl
  usable_held (BufferIn (Usable access array)) = refl

  pub killed_held : (v : VariableState) → one_of x (killed v) ≡ one_of x v
  killed_held (ReferenceAt level live) = refl
  killed_held (BufferIn b) = refl

  pub changed_held : (change : Change) (v : VariableState) → one_of x (change_value change v) ≡ one_of x v
  changed_held change.Usable v = usable_held v
  changed_held change.Kill v = killed_held v

  pub all_killed_held : (level : ℕ) (vs : List VariableState) → holders x (map (killed_from level) vs) ≡ holders x vs
  all_killed_held level [] = refl
  all_killed_held level (v ∷ vs) = ap₂ (λ n m. n + m) (one v) (all_killed_held level vs)
    where
      one : (v : VariableState) → one_of x (killed_from level v) ≡ one_of x v
      one (ReferenceAt own live) = refl
      one (BufferIn b) = refl

  -- ---- what a held buffer adds

  pub one_held : (v : VariableState) (held : Access × Identifier) → Some held ≡ held_in v → one_of x v ≡ (if bytes_eq held.1 x then 1 else 0)
  one_held v held e = ap (λ (o : Option (Access × Identifier)). if some_passes (λ (h : Access × Identifier). bytes_eq h.1 x) o then 1 else 0) (sym e)

  pub none_held : (v : VariableState) → None ≡ held_in v → one_of x v ≡ 0
  none_held v e = ap (λ (o : Option (Access × Identifier)). if some_passes (λ (h : Access × Identifier). bytes_eq h.1 x) o then 1 else 0) (sym e)

-- ---- the last of some variables

pub all_taken : (items : List VariableStateInMemory) (i : ℕ) → length items ≤ i → items ≡ take i items
all_taken [] zero h = refl
all_taken [] (suc i) h = refl
all_taken (v ∷ items) zero h = absurd (omega (arith, h))
all_taken (v ∷ items) (suc i) h = ap (λ (vs : List VariableStateInMemory). v ∷ vs) (all_taken items i (omega (arith, h)))

left_long : (items : List VariableStateInMemory) (n : ℕ) → length (drop n items) ≤ length items - n
left_long items zero = omega arith
left_long [] (suc n) = omega arith
left_long (v ∷ items) (suc n) = let more = left_long items n in omega (arith, more)

pub last_are : (items : List VariableStateInMemory) (n : ℕ) → take (length items - n) (drop n items) ≡ drop n items
last_are items n = sym (all_taken (drop n items) (length items - n) (left_long items n))

-- a name that has a number is a key
pub is_key : (x : Identifier) (es : Entries) → 0 < count_of (by_name es) x → maps.lookup (λ (k : Bor Identifier). bytes_eq x k.now) es ≡ None → ⊥
is_key x es h e = let none : count_of (by_name es) x ≡ 0 = ap (λ (o : Option ℕ). unwrap_or o 0) (sym (looked_up x es) ∙ e) in absurd (omega (arith, none, h))

-- ---- no more than there are variables

module _ (q : VariableState → Bool) where
  one_few : (v : VariableState) → one_if q v ≤ 1
  one_few v = by (q v)
    where
      by : (b : Bool) → (if b then 1 else 0) ≤ 1
      by true = omega arith
      by false = omega arith

  many_few : (vs : List VariableState) → how_many q vs ≤ length vs
  many_few [] = omega arith
  many_few (v ∷ vs) = omega (arith, one_few v, many_few vs)

  pub few : (items : List VariableStateInMemory) → how_many q (map variable_state items) ≤ length items
  few items = omega (arith, many_few (map variable_state items), length-map items variable_state)
