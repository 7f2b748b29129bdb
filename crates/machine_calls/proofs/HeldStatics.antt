-- What statics hold stands for what they hold in the source.
use Rattle.std.proofs.Common.{◌≡◌, ℕ, zero, suc, ◌<◌, Bool, true, false, List, [], ◌∷◌, ◌++◌, length, map, replicate, Option, Some, None, refl, sym, ap, ◌∙◌, subst, arith, if◌then◌else◌}
use Rattle.std.specs.Prelude.{slice_get, slice_set, IsSome}
use Rattle.std.specs.Option.{option_map}
use Rattle.std.specs.Str.{bytes_eq}
use Rattle.std.proofs.lemmas.Slice.Eq.{bytes_eq-Decides}
use Rattle.base.specs.Bytes.{Identifier, lookup}
use Rattle.heap.specs.Heap.{Space}
use Rattle.syntax.specs.Tree.{Static}
use Rattle.semantics.specs.Start.{null_static}
use Rattle.semantics.specs.Variable.{StaticReference, Statics, assign}
use Rattle.code_meaning.specs.Slots.{static_index}
use Rattle.tables.specs.Keys.{value_at}
use Rattle.tables.specs.References.{address_at}
use Rattle.machine_scenes.specs.declared.references.Held.{Held}
use Rattle.machine_scenes.specs.Statics.{StaticReference as InMemory}
use Rattle.semantics.specs.declared.static_reference.StaticReference.TheVariants as static
use Rattle.machine_scenes.specs.StoreAgrees.{HeldAgrees, StaticsAgree}
use Rattle.machine_scenes.specs.Statics.{HaveKeys, HaveWeakKeys, all_held, held as held_of, held_or_null}

-- ---- places

-- a name's place, by whether it is the first
module _ {P : Type 0} (x y : Identifier) (o : Option ℕ) (i : ℕ) where
  pub place_cases : (b : Bool) → bytes_eq x y ≡ b → (if b then Some 0 else option_map suc o) ≡ Some i → (bytes_eq x y ≡ true → i ≡ 0 → P) → (bytes_eq x y ≡ false → (j : ℕ) → o ≡ Some j → i ≡ suc j → P) → P
  place_cases true e h first later = first e (let same : 0 ≡ i = cc in sym same)
  place_cases false e h first later = by_place o h (later e)
    where
      by_place : (q : Option ℕ) → option_map suc q ≡ Some i → ((j : ℕ) → q ≡ Some j → i ≡ suc j → P) → P
      by_place None k go = absurd (cc)
      by_place (Some j) k go = go j refl (let same : suc j ≡ i = cc in sym same)

-- a name with a place is among the statics
pub place_below : (x : Identifier) (statics : Statics) (i : ℕ) → static_index x statics ≡ Some i → i < length statics
place_below x [] i h = absurd (cc)
place_below x ((y, r) ∷ statics) i h =
    place_cases x y (static_index x statics) i (bytes_eq x y) refl h
    (λ e zero_is. omega (arith, zero_is))
    (λ e j at is. let below = place_below x statics j at in omega (arith, is, below))

-- ---- what is held

module _ (space : Space) where
  pub statics_count : (helds : List Held) (statics : Statics) → StaticsAgree space helds statics → length helds ≡ length statics
  statics_count [] [] h = refl
  statics_count [] (s ∷ statics) h = absurd h
  statics_count (x ∷ helds) [] h = absurd h
  statics_count (x ∷ helds) (s ∷ statics) h = ap suc (statics_count helds statics h.1)

  -- what is held at the place of a static
  pub static_there : (x : Identifier) (helds : List Held) (statics : Statics) (i : ℕ) (r : StaticReference) → StaticsAgree space helds statics → static_index x statics ≡ Some i → lookup x statics ≡ Some r → HeldAgrees space (held_or_null (slice_get helds i)) r
  static_there x [] [] i r h place at = absurd (cc)
  static_there x [] (s ∷ statics) i r h place at = absurd h
  static_there x (k ∷ helds) [] i r h place at = absurd h
  static_there x (k ∷ helds) ((y, q) ∷ statics) i r h place at =
      place_cases x y (static_index x statics) i (bytes_eq x y) refl place
      (λ e zero_is.
      let same : q ≡ r = let one : Some q ≡ Some r = sym (ap (λ (b : Bool). if b then Some q else lookup x statics) e) ∙ at in cc in
      subst (λ (j : ℕ). HeldAgrees space (held_or_null (slice_get (k ∷ helds) j)) r) (sym zero_is) (subst (λ (u : StaticReference). HeldAgrees space k u) same h.0))
      (λ e j further is.
      subst (λ (n : ℕ). HeldAgrees space (held_or_null (slice_get (k ∷ helds) n)) r) (sym is)
      (static_there x helds statics j r h.1 further (sym (ap (λ (b : Bool). if b then Some q else lookup x statics) e) ∙ at)))

  -- the statics with another one
  pub static_put : (x : Identifier) (helds : List Held) (statics : Statics) (i : ℕ) (h : Held) (r : StaticReference) → StaticsAgree space helds statics → static_index x statics ≡ Some i → HeldAgrees space h r → StaticsAgree space (slice_set helds i h) (assign x r statics)
  static_put x [] [] i h r agree place new = absurd (cc)
  static_put x [] (s ∷ statics) i h r agree place new = absurd agree
  static_put x (k ∷ helds) [] i h r agree place new = absurd agree
  static_put x (k ∷ helds) ((y, q) ∷ statics) i h r agree place new =
      place_cases x y (static_index x statics) i (bytes_eq x y) refl place
      (λ e zero_is.
      subst (λ (n : ℕ). StaticsAgree space (slice_set (k ∷ helds) n h) (assign x r ((y, q) ∷ statics))) (sym zero_is)
      (subst (λ (b : Bool). StaticsAgree space (h ∷ helds) (if b then (x, r) ∷ statics else (y, q) ∷ assign x r statics)) (sym e) (new, agree.1)))
      (λ e j further is.
      subst (λ (n : ℕ). StaticsAgree space (slice_set (k ∷ helds) n h) (assign x r ((y, q) ∷ statics))) (sym is)
      (subst (λ (b : Bool). StaticsAgree space (k ∷ slice_set helds j h) (if b then (x, r) ∷ statics else (y, q) ∷ assign x r statics)) (sym e) (agree.0, static_put x helds statics j h r agree.1 further new)))

-- they have the names that they had
pub same_names : (x : Identifier) (r : StaticReference) (statics : Statics) (i : ℕ) → static_index x statics ≡ Some i → map (λ (s : Identifier × StaticReference). s.0) (assign x r statics) ≡ map (λ (s : Identifier × StaticReference). s.0) statics
same_names x r [] i place = absurd (cc)
same_names x r ((y, q) ∷ statics) i place =
    place_cases x y (static_index x statics) i (bytes_eq x y) refl place
    (λ e zero_is.
    ap (λ (b : Bool). map (λ (s : Identifier × StaticReference). s.0) (if b then (x, r) ∷ statics else (y, q) ∷ assign x r statics)) e
    ∙ ap (λ (z : Identifier). z ∷ map (λ (s : Identifier × StaticReference). s.0) statics) ((bytes_eq-Decides x y).0 e))
    (λ e j further is.
    ap (λ (b : Bool). map (λ (s : Identifier × StaticReference). s.0) (if b then (x, r) ∷ statics else (y, q) ∷ assign x r statics)) e
    ∙ ap (λ (names : List Identifier). y ∷ names) (same_names x r statics j further))

-- ---- the table

-- what is held once a static holds another reference
pub held_set : (globals : List (Option ℕ)) (weaks : List (Option (Option ℕ))) (statics : List InMemory) (i : ℕ) (s : InMemory) → all_held globals weaks (slice_set statics i s) ≡ slice_set (all_held globals weaks statics) i (held_of globals weaks s)
held_set globals weaks [] i s = refl
held_set globals weaks (x ∷ statics) zero s = refl
held_set globals weaks (x ∷ statics) (suc i) s = ap (λ (l : List Held). held_of globals weaks x ∷ l) (held_set globals weaks statics i s)

-- one that isn't live has no key
abbrev pub IsDead : InMemory → Type 0
IsDead s = (key : ℕ) → s ≡ static.Live key → ⊥

-- the others keep their keys
pub keys_left : (globals : List (Option ℕ)) (statics : List InMemory) (i : ℕ) (s : InMemory) → IsDead s → HaveKeys globals statics → HaveKeys globals (slice_set statics i s)
keys_left globals statics i s dead h = record {
  live = λ j key at. h.live j key (was j key at);
  own = λ j k key at also. h.own j k key (was j key at) (was k key also);
}
  where
    was : (j key : ℕ) → slice_get (slice_set statics i s) j ≡ Some (static.Live key) → slice_get statics j ≡ Some (static.Live key)
    was j key at = was_in statics i j at
      where
        was_in : (l : List InMemory) (i j : ℕ) → slice_get (slice_set l i s) j ≡ Some (static.Live key) → slice_get l j ≡ Some (static.Live key)
        was_in [] i j at = at
        was_in (x ∷ l) zero zero at = absurd (dead key (let same : s ≡ static.Live key = cc in same))
        was_in (x ∷ l) zero (suc j) at = at
        was_in (x ∷ l) (suc i) zero at = at
        was_in (x ∷ l) (suc i) (suc j) at = was_in l i j at

-- a key that no static has
pub keys_put : (globals : List (Option ℕ)) (statics : List InMemory) (i : ℕ) (s : InMemory) → ((key : ℕ) → s ≡ static.Live key → IsSome (address_at globals key) × ((j : ℕ) → slice_get statics j ≡ Some (static.Live key) → ⊥)) → HaveKeys globals statics → HaveKeys globals (slice_set statics i s)
keys_put globals statics i s fresh h = record {
  live = λ j key at. by_place statics i j key at (λ here e. (fresh key e).0) (λ elsewhere. h.live j key elsewhere);
  own = λ j k key at also.
      by_place statics i j key at
      (λ here e. by_place statics i k key also (λ there d. here ∙ sym there) (λ elsewhere. absurd ((fresh key e).1 k elsewhere)))
      (λ elsewhere. by_place statics i k key also (λ there d. absurd ((fresh key d).1 j elsewhere)) (λ also_elsewhere. h.own j k key elsewhere also_elsewhere));
}
  where
    by_place : {P : Type 0} (l : List InMemory) (i j key : ℕ) → slice_get (slice_set l i s) j ≡ Some (static.Live key) → (j ≡ i → s ≡ static.Live key → P) → (slice_get l j ≡ Some (static.Live key) → P) → P
    by_place [] i j key at here elsewhere = elsewhere at
    by_place (x ∷ l) zero zero key at here elsewhere = here refl (let same : s ≡ static.Live key = cc in same)
    by_place (x ∷ l) zero (suc j) key at here elsewhere = elsewhere at
    by_place (x ∷ l) (suc i) zero key at here elsewhere = elsewhere at
    by_place (x ∷ l) (suc i) (suc j) key at here elsewhere = by_place l i j key at (λ e d. here (ap suc e) d) elsewhere

-- the same of the keys of weak references
pub weak_keys_put : (weaks : List (Option (Option ℕ))) (statics : List InMemory) (i : ℕ) (s : InMemory) → ((key : ℕ) → s ≡ static.Weakly key → IsSome (value_at weaks key) × ((j : ℕ) → slice_get statics j ≡ Some (static.Weakly key) → ⊥)) → HaveWeakKeys weaks statics → HaveWeakKeys weaks (slice_set statics i s)
weak_keys_put weaks statics i s fresh h = record {
  live = λ j key at. by_place statics i j key at (λ here e. (fresh key e).0) (λ elsewhere. h.live j key elsewhere);
  own = λ j k key at also.
      by_place statics i j key at
      (λ here e. by_place statics i k key also (λ there d. here ∙ sym there) (λ elsewhere. absurd ((fresh key e).1 k elsewhere)))
      (λ elsewhere. by_place statics i k key also (λ there d. absurd ((fresh key d).1 j elsewhere)) (λ also_elsewhere. h.own j k key elsewhere also_elsewhere));
}
  where
    by_place : {P : Type 0} (l : List InMemory) (i j key : ℕ) → slice_get (slice_set l i s) j ≡ Some (static.Weakly key) → (j ≡ i → s ≡ static.Weakly key → P) → (slice_get l j ≡ Some (static.Weakly key) → P) → P
    by_place [] i j key at here elsewhere = elsewhere at
    by_place (x ∷ l) zero zero key at here elsewhere = here refl (let same : s ≡ static.Weakly key = cc in same)
    by_place (x ∷ l) zero (suc j) key at here elsewhere = elsewhere at
    by_place (x ∷ l) (suc i) zero key at here elsewhere = elsewhere at
    by_place (x ∷ l) (suc i) (suc j) key at here elsewhere = by_place l i j key at (λ e d. here (ap suc e) d) elsewhere

-- ---- a unit's statics

-- the place of a name among names
abbrev pub name_place : Identifier → List Identifier → Option ℕ
name_place x [] = None
name_place x (y ∷ names) = let further = name_place x names in if bytes_eq x y then Some 0 else option_map suc further

pub index_is : (x : Identifier) (statics : Statics) → static_index x statics ≡ name_place x (map (λ (s : Identifier × StaticReference). s.0) statics)
index_is x [] = refl
index_is x ((y, r) ∷ statics) = ap (λ (o : Option ℕ). if bytes_eq x y then Some 0 else option_map suc o) (index_is x statics)

-- names after it leave a place
pub place_in_front : (x : Identifier) (front back : List Identifier) (i : ℕ) → name_place x front ≡ Some i → name_place x (front ++ back) ≡ Some i
place_in_front x [] back i h = absurd (cc)
place_in_front x (y ∷ front) back i h =
    place_cases x y (name_place x front) i (bytes_eq x y) refl h
    (λ e zero_is. ap (λ (b : Bool). if b then Some 0 else option_map suc (name_place x (front ++ back))) e ∙ ap (λ (n : ℕ). Some n) (sym zero_is))
    (λ e j at is.
    ap (λ (b : Bool). if b then Some 0 else option_map suc (name_place x (front ++ back))) e
    ∙ ap (option_map suc) (place_in_front x front back j at)
    ∙ ap (λ (n : ℕ). Some n) (sym is))

-- another name after them
pub other_after : (x : Identifier) (front : List Identifier) (y : Identifier) → bytes_eq x y ≡ false → name_place x (front ++ y ∷ []) ≡ name_place x front
other_after x [] y e = ap (λ (b : Bool). if b then Some 0 else None) e
other_after x (z ∷ front) y e = ap (λ (o : Option ℕ). if bytes_eq x z then Some 0 else option_map suc o) (other_after x front y e)

-- the name after them, which is none of them
pub place_after : (x : Identifier) (front : List Identifier) (y : Identifier) → bytes_eq x y ≡ true → name_place x front ≡ None → name_place x (front ++ y ∷ []) ≡ Some (length front)
place_after x [] y e none = ap (λ (b : Bool). if b then Some 0 else None) e
place_after x (z ∷ front) y e none = by_test (bytes_eq x z) none (place_after x front y e)
  where
    by_test : (b : Bool) → (if b then Some 0 else option_map suc (name_place x front)) ≡ None → (name_place x front ≡ None → name_place x (front ++ y ∷ []) ≡ Some (length front)) → (if b then Some 0 else option_map suc (name_place x (front ++ y ∷ []))) ≡ Some (suc (length front))
    by_test true none further = absurd (cc)
    by_test false none further = ap (option_map suc) (further (no_place (name_place x front) none))
      where
        no_place : (o : Option ℕ) → option_map suc o ≡ None → o ≡ None
        no_place None h = refl
        no_place (Some j) h = absurd (cc)

-- a static with a place holds something
pub held_there : (x : Identifier) (statics : Statics) (i : ℕ) → static_index x statics ≡ Some i → (r : StaticReference) × (lookup x statics ≡ Some r)
held_there x [] i h = absurd (cc)
held_there x ((y, q) ∷ statics) i h =
    place_cases x y (static_index x statics) i (bytes_eq x y) refl h
    (λ e zero_is. (q, ap (λ (b : Bool). if b then Some q else lookup x statics) e))
    (λ e j at is. let further = held_there x statics j at in (further.0, ap (λ (b : Bool). if b then Some q else lookup x statics) e ∙ further.1))

-- ---- at the beginning

-- the statics of a unit are NULL
pub statics_begin : (space : Space) (statics : List Static) → StaticsAgree space (all_held [] [] (replicate (length statics) static.Empty)) (map null_static statics)
statics_begin space [] = tt
statics_begin space (g ∷ statics) = (tt, statics_begin space statics)

pub names_begin : (statics : List Static) → map (λ (s : Identifier × StaticReference). s.0) (map null_static statics) ≡ map (λ (g : Static). g.name) statics
names_begin [] = refl
names_begin (g ∷ statics) = ap (λ (names : List Identifier). g.name ∷ names) (names_begin statics)

-- and have no keys
pub no_keys : (globals : List (Option ℕ)) (n : ℕ) → HaveKeys globals (replicate n static.Empty)
no_keys globals n = record { live = λ i key at. absurd (none n i key at); own = λ i j key at also. absurd (none n i key at) }
  where
    none : (n i key : ℕ) → ◌≡◌ {A = Option InMemory} (slice_get (replicate n static.Empty) i) (Some (static.Live key)) → ⊥
    none zero i key at = cc
    none (suc n) zero key at = cc
    none (suc n) (suc i) key at = none n i key at

pub no_weak_keys : (weaks : List (Option (Option ℕ))) (n : ℕ) → HaveWeakKeys weaks (replicate n static.Empty)
no_weak_keys weaks n = record { live = λ i key at. absurd (none n i key at); own = λ i j key at also. absurd (none n i key at) }
  where
    none : (n i key : ℕ) → ◌≡◌ {A = Option InMemory} (slice_get (replicate n static.Empty) i) (Some (static.Weakly key)) → ⊥
    none zero i key at = cc
    none (suc n) zero key at = cc
    none (suc n) (suc i) key at = none n i key at
