-- Keys in the slots of a call, and the references that they stand for.
use Rattle.std.proofs.Common.{◌≡◌, ◌≢◌, ◌⊎◌, inl, inr, ℕ, zero, suc, Bool, true, false, List, [], ◌∷◌, length, map, Option, Some, None, refl, sym, ap, ◌∙◌, subst}
use Rattle.std.specs.Prelude.{is_none, slice_get, slice_set}
use Rattle.std.specs.Option.{option_map}
use Rattle.std.proofs.lemmas.List.{length-map}
use Rattle.std.proofs.lemmas.Option.{slice_get-map}
use Rattle.heap.specs.Heap.{Space}
use Rattle.semantics.specs.Object.{Reference}
use Rattle.tables.specs.Locals.{LocalTable}
use Rattle.tables.specs.References.{address_at}
use Rattle.machine_scenes.specs.Given.{held_in}
use Rattle.machine_scenes.specs.HeapAgrees.{ReferenceAgrees}
use Rattle.machine_scenes.specs.Locals.{IsKeyGiven, IsKeyOf, KeysAgree, address_of}

-- ---- what a slot has

-- as many references as keys
pub keys_count : (space : Space) (locals : LocalTable) (keys : List (Option ℕ)) (references : List Reference) (owners : List (Option ℕ)) → KeysAgree space locals keys references owners → length references ≡ length keys
keys_count space locals keys references owners h =
    let left : length (map is_none keys) ≡ length keys = length-map keys is_none in
    let right : length (map is_none references) ≡ length references = length-map references is_none in
    sym right ∙ sym (ap length h.nulls) ∙ left

same_null : (o : Option (Option ℕ)) (q : Reference) → option_map is_none o ≡ Some (is_none q) → is_none (held_in o) ≡ is_none q
same_null None q e = absurd (cc)
same_null (Some a) q e = cc

-- a slot has a key where its reference isn't NULL
pub null_there : (space : Space) (locals : LocalTable) (keys : List (Option ℕ)) (references : List Reference) (owners : List (Option ℕ)) (i : ℕ) (q : Reference) → KeysAgree space locals keys references owners → slice_get references i ≡ Some q → is_none (held_in (slice_get keys i)) ≡ is_none q
null_there space locals keys references owners i q h at =
    same_null (slice_get keys i) q (sym (slice_get-map is_none keys i) ∙ ap (λ (l : List Bool). slice_get l i) h.nulls ∙ slice_get-map is_none references i ∙ ap (option_map is_none) at)

-- the address that it gives is that of the object, where the reference is the variable's own
pub address_there : (space : Space) (locals : LocalTable) (keys : List (Option ℕ)) (references : List Reference) (owners : List (Option ℕ)) (i : ℕ) (q : Reference) → KeysAgree space locals keys references owners → slice_get references i ≡ Some q
    → ((n : ℕ) → q ≡ Some n → (level : ℕ) × (slice_get owners i ≡ Some (Some level))) → ReferenceAgrees space (address_of locals (held_in (slice_get keys i))) q
address_there space locals keys references owners i q h at owned = by_key (slice_get keys i) refl (null_there space locals keys references owners i q h at) q refl
  where
    by_key : (o : Option (Option ℕ)) → slice_get keys i ≡ o → is_none (held_in o) ≡ is_none q → (r : Reference) → q ≡ r → ReferenceAgrees space (address_of locals (held_in o)) r
    by_key None is null None same = tt
    by_key None is null (Some n) same = absurd (let clash : true ≡ is_none (Some n) = null ∙ ap is_none same in cc)
    by_key (Some None) is null None same = tt
    by_key (Some None) is null (Some n) same = absurd (let clash : true ≡ is_none (Some n) = null ∙ ap is_none same in cc)
    by_key (Some (Some key)) is null None same = absurd (let nothing : Reference = None in let clash : false ≡ is_none nothing = null ∙ ap is_none same in cc)
    by_key (Some (Some key)) is null (Some n) same =
        let level = owned n same in
        let key_of = h.own i key n level.0 is (at ∙ ap (λ (r : Reference). Some r) same) level.1 in
        subst (λ (o : Option ℕ). ReferenceAgrees space o (Some n)) (sym key_of.there) key_of.name

some_null : (o : Option Reference) → Some false ≡ option_map is_none o → (n : ℕ) × (o ≡ Some (Some n))
some_null None e = absurd (cc)
some_null (Some None) e = absurd (cc)
some_null (Some (Some n)) e = (n, refl)

-- a key's reference isn't NULL
pub name_there : (space : Space) (locals : LocalTable) (keys : List (Option ℕ)) (references : List Reference) (owners : List (Option ℕ)) (i key : ℕ) → KeysAgree space locals keys references owners → slice_get keys i ≡ Some (Some key) → (n : ℕ) × (slice_get references i ≡ Some (Some n))
name_there space locals keys references owners i key h at =
    some_null (slice_get references i) (sym (ap (option_map is_none) at) ∙ sym (slice_get-map is_none keys i) ∙ ap (λ (l : List Bool). slice_get l i) h.nulls ∙ slice_get-map is_none references i)

-- a key of a variable's own is live
pub live_there : (space : Space) (locals : LocalTable) (keys : List (Option ℕ)) (references : List Reference) (owners : List (Option ℕ)) (i key level : ℕ) → KeysAgree space locals keys references owners → slice_get keys i ≡ Some (Some key) → slice_get owners i ≡ Some (Some level)
    → (a : ℕ) × (address_at locals.slots key ≡ Some a)
live_there space locals keys references owners i key level h at owned =
    let named = name_there space locals keys references owners i key h at in
    let key_of = h.own i key named.0 level at named.1 owned in
    (key_of.address, key_of.there)

-- ---- slots that change

-- what is at a place once another place, or this one, was set
pub set_cases : {A : Type 0} (xs : List A) (i j : ℕ) (a b : A) → slice_get (slice_set xs i a) j ≡ Some b → ((j ≡ i) × (a ≡ b)) ⊎ ((j ≢ i) × (slice_get xs j ≡ Some b))
set_cases [] i j a b e = absurd (cc)
set_cases (x ∷ xs) zero zero a b e = inl (refl, cc)
set_cases (x ∷ xs) zero (suc j) a b e = inr (λ s. cc, e)
set_cases (x ∷ xs) (suc i) zero a b e = inr (λ s. cc, e)
set_cases (x ∷ xs) (suc i) (suc j) a b e = by_rest (set_cases xs i j a b e)
  where
    by_rest : ((j ≡ i) × (a ≡ b)) ⊎ ((j ≢ i) × (slice_get xs j ≡ Some b)) → ((suc j ≡ suc i) × (a ≡ b)) ⊎ ((suc j ≢ suc i) × (slice_get xs j ≡ Some b))
    by_rest (inl (same, is)) = inl (ap suc same, is)
    by_rest (inr (other, is)) = inr (λ s. other cc, is)

set_nulls : {A B : Type 0} (xs : List (Option A)) (ys : List (Option B)) (i : ℕ) (a : Option A) (b : Option B) → map is_none xs ≡ map is_none ys → is_none a ≡ is_none b → map is_none (slice_set xs i a) ≡ map is_none (slice_set ys i b)
set_nulls [] [] i a b h e = refl
set_nulls [] (y ∷ ys) i a b h e = absurd (cc)
set_nulls (x ∷ xs) [] i a b h e = absurd (cc)
set_nulls (x ∷ xs) (y ∷ ys) zero a b h e =
    let rest : map is_none xs ≡ map is_none ys = cc in
    ap (λ (t : Bool). t ∷ map is_none xs) e ∙ ap (λ (l : List Bool). is_none b ∷ l) rest
set_nulls (x ∷ xs) (y ∷ ys) (suc i) a b h e =
    let first : is_none x ≡ is_none y = cc in
    let rest : map is_none xs ≡ map is_none ys = cc in
    ap (λ (l : List Bool). is_none x ∷ l) (set_nulls xs ys i a b rest e) ∙ ap (λ (t : Bool). t ∷ map is_none (slice_set ys i b)) first

-- fewer references are variables' own
pub fewer_owned : (space : Space) (locals : LocalTable) (keys : List (Option ℕ)) (references : List Reference) (owners owners' : List (Option ℕ)) → KeysAgree space locals keys references owners
    → ((i level : ℕ) → slice_get owners' i ≡ Some (Some level) → slice_get owners i ≡ Some (Some level)) → KeysAgree space locals keys references owners'
fewer_owned space locals keys references owners owners' h among = record {
  nulls = h.nulls;
  own = λ i key n level at_key at_name at_level. h.own i key n level at_key at_name (among i level at_level);
  apart = λ i j key level other at_i at_j own_i own_j. h.apart i j key level other at_i at_j (among i level own_i) (among j other own_j);
}

-- another table, and another heap, where own keys are what they were
pub keys_left : (space space' : Space) (locals locals' : LocalTable) (keys : List (Option ℕ)) (references : List Reference) (owners : List (Option ℕ)) → KeysAgree space locals keys references owners
    → ((i key n level : ℕ) → slice_get keys i ≡ Some (Some key) → slice_get owners i ≡ Some (Some level) → IsKeyOf space locals key n level → IsKeyOf space' locals' key n level) → KeysAgree space' locals' keys references owners
keys_left space space' locals locals' keys references owners h left = record {
  nulls = h.nulls;
  own = λ i key n level at_key at_name at_level. left i key n level at_key at_level (h.own i key n level at_key at_name at_level);
  apart = h.apart;
}

-- a slot gets a key, or NULL
pub key_put : (space : Space) (locals : LocalTable) (keys : List (Option ℕ)) (references : List Reference) (owners : List (Option ℕ)) (i : ℕ) (key : Option ℕ) (q : Reference) (owner : Option ℕ) → KeysAgree space locals keys references owners → is_none key ≡ is_none q
    → ((place n level : ℕ) → key ≡ Some place → q ≡ Some n → owner ≡ Some level → IsKeyOf space locals place n level)
    → ((j place level : ℕ) → key ≡ Some place → slice_get keys j ≡ Some (Some place) → slice_get owners j ≡ Some (Some level) → ⊥)
    → KeysAgree space locals (slice_set keys i key) (slice_set references i q) (slice_set owners i owner)
key_put space locals keys references owners i key q owner h null new fresh = record {
  nulls = set_nulls keys references i key q h.nulls null;
  own = λ j k n level at_key at_name at_level. own_of j k n level (set_cases keys i j key (Some k) at_key) (set_cases references i j q (Some n) at_name) (set_cases owners i j owner (Some level) at_level);
  apart = λ j l k level other at_j at_l own_j own_l.
      apart_of j l k level other (set_cases keys i j key (Some k) at_j) (set_cases keys i l key (Some k) at_l) (set_cases owners i j owner (Some level) own_j) (set_cases owners i l owner (Some other) own_l);
}
  where
    own_of : (j k n level : ℕ) → ((j ≡ i) × (key ≡ Some k)) ⊎ ((j ≢ i) × (slice_get keys j ≡ Some (Some k))) → ((j ≡ i) × (q ≡ Some n)) ⊎ ((j ≢ i) × (slice_get references j ≡ Some (Some n)))
        → ((j ≡ i) × (owner ≡ Some level)) ⊎ ((j ≢ i) × (slice_get owners j ≡ Some (Some level))) → IsKeyOf space locals k n level
    own_of j k n level (inl (same, at)) (inl (s, named)) (inl (t, owned)) = new k n level at named owned
    own_of j k n level (inl (same, at)) (inl (s, named)) (inr (other, owned)) = absurd (other same)
    own_of j k n level (inl (same, at)) (inr (other, named)) o = absurd (other same)
    own_of j k n level (inr (other, at)) (inl (same, named)) o = absurd (other same)
    own_of j k n level (inr (other, at)) (inr (s, named)) (inl (same, owned)) = absurd (other same)
    own_of j k n level (inr (other, at)) (inr (s, named)) (inr (t, owned)) = h.own j k n level at named owned

    apart_of : (j l k level other : ℕ) → ((j ≡ i) × (key ≡ Some k)) ⊎ ((j ≢ i) × (slice_get keys j ≡ Some (Some k))) → ((l ≡ i) × (key ≡ Some k)) ⊎ ((l ≢ i) × (slice_get keys l ≡ Some (Some k)))
        → ((j ≡ i) × (owner ≡ Some level)) ⊎ ((j ≢ i) × (slice_get owners j ≡ Some (Some level))) → ((l ≡ i) × (owner ≡ Some other)) ⊎ ((l ≢ i) × (slice_get owners l ≡ Some (Some other))) → j ≡ l
    apart_of j l k level other (inl (same, at)) (inl (too, is)) own_j own_l = same ∙ sym too
    apart_of j l k level other (inl (same, at)) (inr (away, is)) own_j (inl (too, owned)) = absurd (away too)
    apart_of j l k level other (inl (same, at)) (inr (away, is)) own_j (inr (far, owned)) = absurd (fresh l k other at is owned)
    apart_of j l k level other (inr (away, is)) (inl (same, at)) (inl (too, owned)) own_l = absurd (away too)
    apart_of j l k level other (inr (away, is)) (inl (same, at)) (inr (far, owned)) own_l = absurd (fresh j k level at is owned)
    apart_of j l k level other (inr (away, is)) (inr (far, at)) (inl (same, owned)) own_l = absurd (away same)
    apart_of j l k level other (inr (away, is)) (inr (far, at)) (inr (s, owned)) (inl (same, owned')) = absurd (far same)
    apart_of j l k level other (inr (away, is)) (inr (far, at)) (inr (s, owned)) (inr (t, owned')) = h.apart j l k level other is at owned owned'

-- a slot becomes NULL
pub key_nulled : (space : Space) (locals : LocalTable) (keys : List (Option ℕ)) (references : List Reference) (owners : List (Option ℕ)) (i : ℕ) → KeysAgree space locals keys references owners → KeysAgree space locals (slice_set keys i None) (slice_set references i None) owners
key_nulled space locals keys references owners i h = record {
  nulls = set_nulls keys references i None None h.nulls refl;
  own = λ j k n level at_key at_name at_level. own_of j k n level (set_cases keys i j None (Some k) at_key) (set_cases references i j None (Some n) at_name) at_level;
  apart = λ j l k level other at_j at_l own_j own_l. apart_of j l k level other (set_cases keys i j None (Some k) at_j) (set_cases keys i l None (Some k) at_l) own_j own_l;
}
  where
    no_key : (k : ℕ) → ◌≡◌ {A = Option ℕ} None (Some k) → ⊥
    no_key k e = cc

    own_of : (j k n level : ℕ) → ((j ≡ i) × (◌≡◌ {A = Option ℕ} None (Some k))) ⊎ ((j ≢ i) × (slice_get keys j ≡ Some (Some k))) → ((j ≡ i) × (◌≡◌ {A = Reference} None (Some n))) ⊎ ((j ≢ i) × (slice_get references j ≡ Some (Some n)))
        → slice_get owners j ≡ Some (Some level) → IsKeyOf space locals k n level
    own_of j k n level (inl (same, none)) s owned = absurd (no_key k none)
    own_of j k n level (inr (other, at)) (inl (same, none)) owned = absurd (other same)
    own_of j k n level (inr (other, at)) (inr (s, named)) owned = h.own j k n level at named owned

    apart_of : (j l k level other : ℕ) → ((j ≡ i) × (◌≡◌ {A = Option ℕ} None (Some k))) ⊎ ((j ≢ i) × (slice_get keys j ≡ Some (Some k))) → ((l ≡ i) × (◌≡◌ {A = Option ℕ} None (Some k))) ⊎ ((l ≢ i) × (slice_get keys l ≡ Some (Some k)))
        → slice_get owners j ≡ Some (Some level) → slice_get owners l ≡ Some (Some other) → j ≡ l
    apart_of j l k level other (inl (same, none)) s own_j own_l = absurd (no_key k none)
    apart_of j l k level other (inr (away, is)) (inl (same, none)) own_j own_l = absurd (no_key k none)
    apart_of j l k level other (inr (away, is)) (inr (far, at)) own_j own_l = h.apart j l k level other is at own_j own_l

-- ---- a key and a reference

pub own_key_there : (space : Space) (locals : LocalTable) (keys : List (Option ℕ)) (references : List Reference) (owners : List (Option ℕ)) (i : ℕ) (q : Reference) (level : ℕ) → KeysAgree space locals keys references owners → slice_get references i ≡ Some q
    → ((n : ℕ) → q ≡ Some n → slice_get owners i ≡ Some (Some level)) → IsKeyGiven space locals (held_in (slice_get keys i)) q level
own_key_there space locals keys references owners i q level h at owned = by_key (slice_get keys i) refl (null_there space locals keys references owners i q h at) q refl
  where
    by_key : (o : Option (Option ℕ)) → slice_get keys i ≡ o → is_none (held_in o) ≡ is_none q → (r : Reference) → q ≡ r → IsKeyGiven space locals (held_in o) r level
    by_key None is null None same = tt
    by_key None is null (Some n) same = absurd (let clash : true ≡ is_none (Some n) = null ∙ ap is_none same in cc)
    by_key (Some None) is null None same = tt
    by_key (Some None) is null (Some n) same = absurd (let clash : true ≡ is_none (Some n) = null ∙ ap is_none same in cc)
    by_key (Some (Some key)) is null None same = absurd (let nothing : Reference = None in let clash : false ≡ is_none nothing = null ∙ ap is_none same in cc)
    by_key (Some (Some key)) is null (Some n) same = h.own i key n level is (at ∙ ap (λ (r : Reference). Some r) same) (owned n same)
