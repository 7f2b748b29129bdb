-- The table of global references, once one more is made or one ends.
use Rattle.std.proofs.Common.{inl, inr, ◌≡◌, ℕ, zero, suc, ◌<◌, Bool, true, false, List, [], ◌∷◌, ◌++◌, Option, Some, None, refl, sym, ap, ◌∙◌, subst, arith, if◌then◌else◌, ⊎_elim, Contains}
use Rattle.std.specs.Prelude.{slice_get, slice_set, IsSome, ◌==◌}
use Rattle.std.proofs.lemmas.Bool.Decides.{eqb_tells}
use Rattle.heap.specs.Heap.{Space, name_at}
use Rattle.semantics.specs.CallEffects.{without_one}
use Rattle.tables.specs.Globals.{without}
use Rattle.tables.proofs.Keys.{one_more}
use Rattle.tables.specs.Keys.{Gains}
use Rattle.tables.specs.References.{IsPut, address_at, references_in}
use Rattle.machine_scenes.specs.Statics.{StaticReference}
use Rattle.semantics.specs.declared.static_reference.StaticReference.TheVariants as static
use Rattle.machine_scenes.specs.Statics.{HaveKeys, all_held, held, held_at}
use Rattle.machine_scenes.specs.declared.references.Held.{Held}
use Rattle.machine_scenes.specs.declared.references.Held.TheVariants as memory
use Rattle.machine_scenes.specs.HeapAgrees.{SlotsAgree, times}
use Rattle.machine_scenes.specs.HeapAgrees.{NamesAgree}

-- ---- how often

-- whether two numbers are equal
module _ {P : Type 0} (n m : ℕ) where
  by_equal : ((n == m) ≡ true → n ≡ m → P) → ((n == m) ≡ false → (n ≡ m → ⊥) → P) → P
  by_equal same other = ⊎_elim (λ (t : ((n == m) ≡ true) × (n ≡ m)). same t.0 t.1) (λ (t : ((n == m) ≡ false) × (n ≡ m → ⊥)). other t.0 t.1) (eqb_tells n m)

-- a name that is there is there some times
contains_often : (names : List ℕ) (n : ℕ) → Contains names n → 0 < times n names
contains_often [] n c = absurd (omega (arith, c.1))
contains_often (m ∷ names) n (zero, below, is) =
    by_equal n m
    (λ same e. subst (λ (b : Bool). 0 < (if b then suc (times n names) else times n names)) (sym same) (omega arith))
    (λ other apart. absurd (apart (sym is)))
contains_often (m ∷ names) n (suc k, below, is) = by_test (n == m) (contains_often names n (k, omega (arith, below), is))
  where
    by_test : (b : Bool) → 0 < times n names → 0 < (if b then suc (times n names) else times n names)
    by_test true h = omega arith
    by_test false h = h

-- ---- one more

-- the names with another one at the place of a slot that was free
record Put (space : Space) (slots : List (Option ℕ)) (names : List ℕ) (place a m : ℕ) : Type 0 where
  with : List ℕ
  agree : NamesAgree space (references_in (slice_set slots place (Some a))) with
  same : (n : ℕ) → times n with ≡ times n (m ∷ names)

exchanged : (n a b : ℕ) (names : List ℕ) → times n (a ∷ b ∷ names) ≡ times n (b ∷ a ∷ names)
exchanged n a b names = by_tests (n == a) (n == b)
  where
    by_tests : (s t : Bool) → (if s then suc (if t then suc (times n names) else times n names) else (if t then suc (times n names) else times n names)) ≡ (if t then suc (if s then suc (times n names) else times n names) else (if s then suc (times n names) else times n names))
    by_tests true true = refl
    by_tests true false = refl
    by_tests false true = refl
    by_tests false false = refl

behind : (n m : ℕ) (xs ys : List ℕ) → times n xs ≡ times n ys → times n (m ∷ xs) ≡ times n (m ∷ ys)
behind n m xs ys h = ap (λ (k : ℕ). if n == m then suc k else k) h

module _ (space : Space) where
  put_names : (slots : List (Option ℕ)) (names : List ℕ) (place a m : ℕ) → NamesAgree space (references_in slots) names → slice_get slots place ≡ Some None → name_at space a ≡ Some m → Put space slots names place a m
  put_names [] names place a m h free named = absurd (cc)
  put_names (None ∷ slots) names zero a m h free named = record { with = m ∷ names; agree = (named, h); same = λ n. refl }
  put_names (Some b ∷ slots) names zero a m h free named = absurd (cc)
  put_names (None ∷ slots) names (suc place) a m h free named = let further = put_names slots names place a m h free named in record { with = further.with; agree = further.agree; same = further.same }
  put_names (Some b ∷ slots) [] (suc place) a m h free named = absurd h
  put_names (Some b ∷ slots) (k ∷ names) (suc place) a m h free named =
      let further = put_names slots names place a m h.1 free named in
      record { with = k ∷ further.with; agree = (h.0, further.agree); same = λ n. behind n k further.with (m ∷ names) (further.same n) ∙ exchanged n k m names }

  add_names : (slots : List (Option ℕ)) (names : List ℕ) (a m : ℕ) → NamesAgree space (references_in slots) names → name_at space a ≡ Some m → (with : List ℕ) × NamesAgree space (references_in (slots ++ Some a ∷ [])) with × ((n : ℕ) → times n with ≡ times n (m ∷ names))
  add_names [] [] a m h named = (m ∷ [], (named, tt), λ n. refl)
  add_names [] (k ∷ names) a m h named = absurd h
  add_names (None ∷ slots) names a m h named = add_names slots names a m h named
  add_names (Some b ∷ slots) [] a m h named = absurd h
  add_names (Some b ∷ slots) (k ∷ names) a m h named =
      let further = add_names slots names a m h.1 named in
      (k ∷ further.0, (h.0, further.1), λ n. behind n k further.0 (m ∷ names) (further.2 n) ∙ exchanged n k m names)

  -- a global reference more
  pub slots_made : (globals globals' : List (Option ℕ)) (source_globals : List ℕ) (key a m : ℕ) → SlotsAgree space globals source_globals → IsPut 0 globals key a globals' → name_at space a ≡ Some m → SlotsAgree space globals' (m ∷ source_globals)
  slots_made globals globals' source_globals key a m h (inl uses) named =
      let put = put_names globals h.names key a m h.agree uses.was_free named in
      record {
        names = put.with;
        agree = subst (λ (l : List (Option ℕ)). NamesAgree space (references_in l) put.with) (sym uses.changes) put.agree;
        same = λ n. put.same n ∙ behind n m h.names source_globals (h.same n);
      }
  slots_made globals globals' source_globals key a m h (inr adds) named =
      let more = add_names globals h.names a m h.agree named in
      record {
        names = more.0;
        agree = subst (λ (l : List (Option ℕ)). NamesAgree space (references_in l) more.0) (sym adds.adds) more.1;
        same = λ n. more.2 n ∙ behind n m h.names source_globals (h.same n);
      }

  -- names with another one among them
  among_names : (front back names : List ℕ) (a m : ℕ) → NamesAgree space (front ++ back) names → name_at space a ≡ Some m → (with : List ℕ) × NamesAgree space (front ++ a ∷ back) with × ((n : ℕ) → times n with ≡ times n (m ∷ names))
  among_names [] back names a m h named = (m ∷ names, (named, h), λ n. refl)
  among_names (b ∷ front) back [] a m h named = absurd h
  among_names (b ∷ front) back (k ∷ names) a m h named =
      let further = among_names front back names a m h.1 named in
      (k ∷ further.0, (h.0, further.1), λ n. behind n k further.0 (m ∷ names) (further.2 n) ∙ exchanged n k m names)

  -- one reference more, under a key
  pub slots_gained : (globals globals' : List (Option ℕ)) (source_globals : List ℕ) (key a m : ℕ) → SlotsAgree space globals source_globals → Gains globals key a globals' → name_at space a ≡ Some m → SlotsAgree space globals' (m ∷ source_globals)
  slots_gained globals globals' source_globals key a m h gains named =
      let more = one_more globals globals' key a gains in
      let among = among_names more.front more.back h.names a m (subst (λ (l : List ℕ). NamesAgree space l h.names) more.before_is h.agree) named in
      record {
        names = among.0;
        agree = subst (λ (l : List ℕ). NamesAgree space l among.0) (sym more.after_is) among.1;
        same = λ n. among.2 n ∙ behind n m h.names source_globals (h.same n);
      }

  -- ---- one less

  taken_names : (slots : List (Option ℕ)) (names : List ℕ) (place a m : ℕ) → NamesAgree space (references_in slots) names → slice_get slots place ≡ Some (Some a) → name_at space a ≡ Some m
      → (left : List ℕ) × NamesAgree space (references_in (slice_set slots place None)) left × ((n : ℕ) → times n names ≡ times n (m ∷ left))
  taken_names [] names place a m h at named = absurd (cc)
  taken_names (None ∷ slots) names zero a m h at named = absurd (cc)
  taken_names (Some b ∷ slots) [] zero a m h at named = absurd h
  taken_names (Some b ∷ slots) (k ∷ names) zero a m h at named =
      let address : b ≡ a = cc in
      let both : Some k ≡ Some m = sym h.0 ∙ ap (name_at space) address ∙ named in
      let same : k ≡ m = cc in
      (names, h.1, λ n. ap (λ (j : ℕ). times n (j ∷ names)) same)
  taken_names (None ∷ slots) names (suc place) a m h at named = taken_names slots names place a m h at named
  taken_names (Some b ∷ slots) [] (suc place) a m h at named = absurd h
  taken_names (Some b ∷ slots) (k ∷ names) (suc place) a m h at named =
      let further = taken_names slots names place a m h.1 at named in
      (k ∷ further.0, (h.0, further.1), λ n. behind n k names (m ∷ further.0) (further.2 n) ∙ exchanged n k m further.0)

-- a name that is there, taken away and put back
put_back : (m : ℕ) (names : List ℕ) (n : ℕ) → 0 < times m names → times n (m ∷ without_one m names) ≡ times n names
put_back m [] n h = absurd (omega (arith, h))
put_back m (k ∷ names) n h =
    by_equal m k
    (λ same e. ap (λ (b : Bool). times n (m ∷ (if b then names else k ∷ without_one m names))) same ∙ ap (λ (j : ℕ). times n (j ∷ names)) e)
    (λ other apart.
    let there : 0 < times m names = subst (λ (b : Bool). 0 < (if b then suc (times m names) else times m names)) other h in
    ap (λ (b : Bool). times n (m ∷ (if b then names else k ∷ without_one m names))) other
    ∙ exchanged n m k (without_one m names)
    ∙ behind n k (m ∷ without_one m names) names (put_back m names n there))

-- what occurs equally often with a name in front does so without it
in_front : (n m : ℕ) (xs ys : List ℕ) → times n (m ∷ xs) ≡ times n (m ∷ ys) → times n xs ≡ times n ys
in_front n m xs ys h = by_test (n == m) h
  where
    by_test : (b : Bool) → (if b then suc (times n xs) else times n xs) ≡ (if b then suc (times n ys) else times n ys) → times n xs ≡ times n ys
    by_test true k = omega (arith, k)
    by_test false k = k

-- a global reference less
pub slots_deleted : (space : Space) (globals : List (Option ℕ)) (source_globals : List ℕ) (key a m : ℕ) → SlotsAgree space globals source_globals → slice_get globals key ≡ Some (Some a) → name_at space a ≡ Some m → SlotsAgree space (without globals key) (without_one m source_globals)
slots_deleted space globals source_globals key a m h at named =
    let left = taken_names space globals h.names key a m h.agree at named in
    let some : 0 < times m source_globals = subst (λ (k : ℕ). 0 < k) (sym (left.2 m) ∙ h.same m) (contains_often (m ∷ left.0) m (0, omega arith, refl)) in
    record {
      names = left.0;
      agree = left.1;
      same = λ n. in_front n m left.0 (without_one m source_globals) (sym (left.2 n) ∙ h.same n ∙ sym (put_back m source_globals n some));
    }

-- ---- keys

no_some : (o : Option ℕ) → o ≡ None → IsSome o → ⊥
no_some None e h = cc
no_some (Some b) e h = cc

-- A global reference was made.
module _ (globals globals' : List (Option ℕ)) (weaks : List (Option (Option ℕ))) (key a : ℕ) where
  address_kept : (k : ℕ) → Gains globals key a globals' → IsSome (address_at globals k) → address_at globals' k ≡ address_at globals k
  address_kept k put some = put.others k (λ e. no_some (address_at globals k) (ap (address_at globals) e ∙ put.was_free) some)

  module _ (statics : List StaticReference) (put : Gains globals key a globals') (keys : HaveKeys globals statics) where
    -- no static holds it
    pub key_fresh : (i : ℕ) → slice_get statics i ≡ Some (static.Live key) → ⊥
    key_fresh i at = no_some (address_at globals key) put.was_free (keys.live i key at)

    -- the statics keep their keys
    pub keys_kept : HaveKeys globals' statics
    keys_kept = record { live = λ i k at. subst (λ (o : Option ℕ). IsSome o) (sym (address_kept k put (keys.live i k at))) (keys.live i k at); own = keys.own }

    -- and hold what they did
    pub helds_kept : all_held globals' weaks statics ≡ all_held globals weaks statics
    helds_kept = all_kept statics (λ i k at. address_kept k put (keys.live i k at))
      where
        one_kept : (s : StaticReference) → ((k : ℕ) → s ≡ static.Live k → address_at globals' k ≡ address_at globals k) → held globals' weaks s ≡ held globals weaks s
        one_kept static.Empty h = refl
        one_kept (static.Live k) h = ap held_at (h k refl)
        one_kept (static.Weakly k) h = refl
        one_kept static.Cleared h = refl
        one_kept static.Deleted h = refl

        all_kept : (l : List StaticReference) → ((i k : ℕ) → slice_get l i ≡ Some (static.Live k) → address_at globals' k ≡ address_at globals k) → all_held globals' weaks l ≡ all_held globals weaks l
        all_kept [] h = refl
        all_kept (s ∷ l) h =
            let one = one_kept s (λ k e. h 0 k (ap (λ (t : StaticReference). Some t) e)) in
            let further = all_kept l (λ i k at. h (suc i) k at) in
            λ i. one i ∷ further i

-- A global reference ended.
module _ (globals : List (Option ℕ)) (weaks : List (Option (Option ℕ))) (key : ℕ) where
  address_elsewhere : (slots : List (Option ℕ)) (place k : ℕ) → (k ≡ place → ⊥) → address_at (slice_set slots place None) k ≡ address_at slots k
  address_elsewhere [] place k other = refl
  address_elsewhere (x ∷ slots) zero zero other = absurd (other refl)
  address_elsewhere (x ∷ slots) zero (suc k) other = refl
  address_elsewhere (x ∷ slots) (suc place) zero other = refl
  address_elsewhere (x ∷ slots) (suc place) (suc k) other = address_elsewhere slots place k (λ e. other (ap suc e))

  held_elsewhere : (s : StaticReference) → ((k : ℕ) → s ≡ static.Live k → k ≡ key → ⊥) → held (without globals key) weaks s ≡ held globals weaks s
  held_elsewhere static.Empty h = refl
  held_elsewhere (static.Live k) h = ap held_at (address_elsewhere globals key k (h k refl))
  held_elsewhere (static.Weakly k) h = refl
  held_elsewhere static.Cleared h = refl
  held_elsewhere static.Deleted h = refl

  all_elsewhere : (l : List StaticReference) → ((i k : ℕ) → slice_get l i ≡ Some (static.Live k) → k ≡ key → ⊥) → all_held (without globals key) weaks l ≡ all_held globals weaks l
  all_elsewhere [] h = refl
  all_elsewhere (s ∷ l) h =
      let one = held_elsewhere s (λ k e. h 0 k (ap (λ (t : StaticReference). Some t) e)) in
      let further = all_elsewhere l (λ i k at. h (suc i) k at) in
      λ i. one i ∷ further i

  marked : (l : List StaticReference) (i : ℕ) → ((j k : ℕ) → slice_get l j ≡ Some (static.Live k) → k ≡ key → j ≡ i) → all_held (without globals key) weaks (slice_set l i static.Deleted) ≡ slice_set (all_held globals weaks l) i memory.Deleted
  marked [] i h = refl
  marked (s ∷ l) zero h = ap (λ (helds : List Held). memory.Deleted ∷ helds) (all_elsewhere l (λ j k at e. let clash : suc j ≡ 0 = h (suc j) k at e in cc))
  marked (s ∷ l) (suc i) h =
      let one = held_elsewhere s (λ k e same. let clash : 0 ≡ suc i = h 0 k (ap (λ (t : StaticReference). Some t) e) same in cc) in
      let further = marked l i (λ j k at e. let same : suc j ≡ suc i = h (suc j) k at e in cc) in
      λ n. one n ∷ further n

  module _ (statics : List StaticReference) (i : ℕ) (at : slice_get statics i ≡ Some (static.Live key)) (keys : HaveKeys globals statics) where
    -- what the statics hold then, of which this one is marked
    pub helds_marked : all_held (without globals key) weaks (slice_set statics i static.Deleted) ≡ slice_set (all_held globals weaks statics) i memory.Deleted
    helds_marked = marked statics i (λ j k there same. keys.own j i key (there ∙ ap (λ (n : ℕ). Some (static.Live n)) same) at)

    deleted_place : (l : List StaticReference) (n j k : ℕ) → slice_get (slice_set l n static.Deleted) j ≡ Some (static.Live k) → (slice_get l j ≡ Some (static.Live k)) × (j ≡ n → ⊥)
    deleted_place [] n j k there = absurd (cc)
    deleted_place (s ∷ l) zero zero k there = absurd (cc)
    deleted_place (s ∷ l) zero (suc j) k there = (there, λ e. cc)
    deleted_place (s ∷ l) (suc n) zero k there = (there, λ e. cc)
    deleted_place (s ∷ l) (suc n) (suc j) k there = let further = deleted_place l n j k there in (further.0, λ e. further.1 (let same : j ≡ n = cc in same))

    -- the others keep their keys
    pub keys_marked : HaveKeys (without globals key) (slice_set statics i static.Deleted)
    keys_marked = record {
      live = λ j k there.
          let was = deleted_place statics i j k there in
          subst (λ (o : Option ℕ). IsSome o) (sym (address_elsewhere globals key k (λ e. was.1 (keys.own j i key (was.0 ∙ ap (λ (n : ℕ). Some (static.Live n)) e) at)))) (keys.live j k was.0);
      own = λ j m k there also. keys.own j m k (deleted_place statics i j k there).0 (deleted_place statics i m k also).0;
    }

-- the slot of an address
pub slot_there : (slots : List (Option ℕ)) (place a : ℕ) → address_at slots place ≡ Some a → slice_get slots place ≡ Some (Some a)
slot_there [] place a h = absurd (cc)
slot_there (x ∷ slots) zero a h = ap (λ (o : Option ℕ). Some o) h
slot_there (x ∷ slots) (suc place) a h = slot_there slots place a h
