-- The place of a field among the values of an object.
use Rattle.std.proofs.Common.{◌≡◌, ◌≢◌, ℕ, zero, suc, ◌+◌, ◌<◌, ◌≤◌, Bool, true, false, cond, eqb, List, [], ◌∷◌, ◌++◌, length, map, Option, Some, None, slice_get, nat_lt, refl, sym, ap, ◌∙◌, subst, arith, length-append}
use Rattle.std.specs.Prelude.{not, ◌&&◌, ◌||◌, ◌==◌, IsSome}
use Rattle.std.specs.Option.{option_map, option_map_or}
use Rattle.std.specs.List.{list_any, list_all, prefix_len}
use Rattle.std.specs.Str.{bytes_eq}
use Rattle.std.proofs.lemmas.Bool.Decides.{nat_tests}
use Rattle.std.proofs.lemmas.Cmp.{nat_list_eq_equiv}
use Rattle.std.proofs.lemmas.List.{length-map}
use Rattle.std.proofs.lemmas.List.Folds.{prefix_len-append}
use Rattle.std.proofs.lemmas.Option.{slice_get_within}
use Rattle.std.proofs.lemmas.Bool.{and_parts, or_parts, not-true, ne_eqb, eq-eqb}
use Rattle.base.specs.Bytes.{Identifier}
use Rattle.class_rules.specs.Class.{Field, Class, Classes, class_at, superclass, above, ancestry_within, is_subclass}
use Rattle.class_rules.specs.Fields.{FieldId, own_fields, own_statics, layout, same_field}
use Rattle.class_rules.proofs.GrownTables.{IsOrdered}
use Rattle.classes.specs.declared.class.FieldHandle.{FieldHandle}
use Rattle.classes.specs.FieldViews.{declared_as, field_of, place_among}
use Rattle.classes.specs.Tables.{field_names_differ, declares_once, has_few_fields}
use Rattle.classes.proofs.Ancestry.{is_among}
use Rattle.classes.proofs.FoundFields.{identified}
use Rattle.classes.proofs.HandledFields.{of_declared}
use Rattle.classes.proofs.NamedFields.{has_field}
use Rattle.classes.proofs.Layouts.{layout_within, layout-above, layout-top, own-few}

-- how many of these come before the field
abbrev pub before : FieldId → List FieldId → ℕ
before f fields = prefix_len (λ (g : FieldId). not (same_field f g)) fields

-- ---- one class

-- a field of another name
other_name : (fields : List Field) (i : ℕ) (d : Field) (name : Identifier) → has_field fields name ≡ false → slice_get fields i ≡ Some d → bytes_eq d.name name ≡ false
other_name [] i d name h at = absurd (cc)
other_name (x ∷ fields) zero d name h at = let is : x ≡ d = cc in ap (λ (y : Field). bytes_eq y.name name) (sym is) ∙ (or_parts (bytes_eq x.name name) (has_field fields name) h).0
other_name (x ∷ fields) (suc i) d name h at = other_name fields i d name (or_parts (bytes_eq x.name name) (has_field fields name) h).1 at

module _ (s : Bool) (c : ℕ) (d : Field) where
  -- as many come before a field as its place says
  pub own_place : (fields : List Field) (i : ℕ) → field_names_differ fields ≡ true → slice_get fields i ≡ Some d → before (identified s c d) (map (identified s c) fields) ≡ i
  own_place [] i h at = absurd (cc)
  own_place (x ∷ fields) zero h at =
      let is : x ≡ d = cc in
      let same : same_field (identified s c d) (identified s c x) ≡ true = (λ k. eq-eqb c c refl k && bytes_eq d.name (is k).name) ∙ nat_list_eq_equiv.refl d.name in
      ap (λ b. cond (not b) (1 + before (identified s c d) (map (identified s c) fields)) 0) same
  own_place (x ∷ fields) (suc i) h at =
      let p = and_parts (not (has_field fields x.name)) (field_names_differ fields) h in
      let other : same_field (identified s c d) (identified s c x) ≡ false = (λ k. eq-eqb c c refl k && bytes_eq d.name x.name) ∙ other_name fields i d x.name (not-true (has_field fields x.name) p.0) at in
      let rest = own_place fields i p.1 at in
      let more : 1 + before (identified s c d) (map (identified s c) fields) ≡ suc i = omega (arith, rest) in
      ap (λ b. cond (not b) (1 + before (identified s c d) (map (identified s c) fields)) 0) other ∙ more

  -- all of another class's come before it
  pub misses_own : (e : ℕ) (fields : List Field) → c ≢ e → before (identified s c d) (map (identified s e) fields) ≡ length (map (identified s e) fields)
  misses_own e [] h = refl
  misses_own e (x ∷ fields) h =
      let other : same_field (identified s c d) (identified s e x) ≡ false = ap (λ b. b && bytes_eq d.name x.name) (ne_eqb c e h) in
      let rest = misses_own e fields h in
      let more : 1 + before (identified s c d) (map (identified s e) fields) ≡ length (map (identified s e) (x ∷ fields)) = omega (arith, rest) in
      ap (λ b. cond (not b) (1 + before (identified s c d) (map (identified s e) fields)) 0) other ∙ more

-- ---- two lists

pub after_front : (f : FieldId) (xs ys : List FieldId) → before f xs ≡ length xs → before f (xs ++ ys) ≡ length xs + before f ys
after_front f xs ys h = prefix_len-append (λ (g : FieldId). not (same_field f g)) xs ys ∙ ap (λ b. cond b (length xs + before f ys) (before f xs)) (let e : eqb (before f xs) (length xs) ≡ true = grind (arith, nat_tests) in e)

pub in_front : (f : FieldId) (xs ys : List FieldId) → before f xs < length xs → before f (xs ++ ys) ≡ before f xs
in_front f xs ys h = prefix_len-append (λ (g : FieldId). not (same_field f g)) xs ys ∙ ap (λ b. cond b (length xs + before f ys) (before f xs)) (let e : eqb (before f xs) (length xs) ≡ false = grind (arith, nat_tests) in e)

-- ---- the classes above

module _ (T : Classes) (o : IsOrdered T) where
  class_within : (c : ℕ) (d : Class) → class_at T c ≡ Some d → c ≤ length T
  class_within zero d h = omega arith
  class_within (suc i) d h = omega (arith, slice_get_within T i d h)

  pub super_lower : (c s : ℕ) → superclass T c ≡ Some s → (s < c) × (c ≤ length T)
  super_lower c s h = by_class (class_at T c) refl h
    where
      by_class : (k : Option Class) → class_at T c ≡ k → option_map_or (λ (d : Class). d.superclass) k None ≡ Some s → (s < c) × (c ≤ length T)
      by_class None e q = absurd (cc)
      by_class (Some d) e q = ((o.superclasses c s d e q).before, class_within c d e)

  -- a class isn't above one before it
  pub none_above : (n d c : ℕ) → d < c → is_among n T d c ≡ false
  none_above zero d c h = refl
  none_above (suc n) d c h = ap (λ b. b || list_any (λ x. x == c) (above (ancestry_within n T) (superclass T d))) (ne_eqb d c (λ e. absurd (omega (arith, e, h)))) ∙ by_super (superclass T d) refl (λ s. none_above n s c)
    where
      by_super : (k : Option ℕ) → superclass T d ≡ k → ((s : ℕ) → s < c → is_among n T s c ≡ false) → list_any (λ x. x == c) (above (ancestry_within n T) k) ≡ false
      by_super None e up = refl
      by_super (Some s) e up = up s (omega (arith, (super_lower d s e).0, h))

  -- as many ancestors as the class has, and no more, make the layout
  pub same_layout : (n m d : ℕ) → d ≤ n → d ≤ m → layout_within n T d ≡ layout_within m T d
  same_layout zero zero d h q = refl
  same_layout zero (suc m) zero h q = refl
  same_layout zero (suc m) (suc d) h q = absurd (omega (arith, h))
  same_layout (suc n) zero zero h q = refl
  same_layout (suc n) zero (suc d) h q = absurd (omega (arith, q))
  same_layout (suc n) (suc m) d h q = by_super (superclass T d) refl (same_layout n m)
    where
      by_super : (k : Option ℕ) → superclass T d ≡ k → ((s : ℕ) → s ≤ n → s ≤ m → layout_within n T s ≡ layout_within m T s) → layout_within (suc n) T d ≡ layout_within (suc m) T d
      by_super None e up = layout-top T d (suc n) n (omega arith) e ∙ sym (layout-top T d (suc m) m (omega arith) e)
      by_super (Some s) e up =
          let low = (super_lower d s e).0 in
          layout-above T d (suc n) n s (omega arith) e ∙ ap (λ l. l ++ own_fields T d) (up s (omega (arith, low, h)) (omega (arith, low, q))) ∙ sym (layout-above T d (suc m) m s (omega arith) e)

  module _ (c : ℕ) (x : Field) where
    abbrev f : FieldId
    f = identified false c x

    -- all fields come before it, where the class isn't above
    pub misses : (n d : ℕ) → is_among n T d c ≡ false → before f (layout_within n T d) ≡ length (layout_within n T d)
    misses zero d h = refl
    misses (suc n) d h = by_super (superclass T d) refl (misses n)
      where
        first : (d == c) ≡ false
        first = (or_parts (d == c) (list_any (λ y. y == c) (above (ancestry_within n T) (superclass T d))) h).0

        own : before f (own_fields T d) ≡ length (own_fields T d)
        own = misses_own false c x d (declared_as T d false) (λ e. absurd (let t : (d == c) ≡ true = grind (arith, nat_tests) in cc))

        by_super : (k : Option ℕ) → superclass T d ≡ k → ((s : ℕ) → is_among n T s c ≡ false → before f (layout_within n T s) ≡ length (layout_within n T s)) → before f (layout_within (suc n) T d) ≡ length (layout_within (suc n) T d)
        by_super None e later = rw (layout-top T d (suc n) n (omega arith) e) own
        by_super (Some s) e later =
            let further = (or_parts (d == c) (list_any (λ y. y == c) (above (ancestry_within n T) (superclass T d))) h).1 in
            let up : is_among n T s c ≡ false = sym (ap (λ k. list_any (λ y. y == c) (above (ancestry_within n T) k)) e) ∙ further in
            let front = later s up in
            let whole = layout-above T d (suc n) n s (omega arith) e in
            ap (before f) whole ∙ after_front f (layout_within n T s) (own_fields T d) front ∙ ap (λ k. length (layout_within n T s) + k) own ∙ sym (length-append (layout_within n T s) (own_fields T d)) ∙ sym (ap length whole)

    module _ (i : ℕ) (at : slice_get (declared_as T c false) i ≡ Some x) (once : field_names_differ (declared_as T c false) ≡ true) where
      -- the fields of the superclass come first
      abbrev pub start : ℕ
      start = option_map_or (λ s. length (layout T s)) (superclass T c) 0

      own_here : before f (own_fields T c) ≡ i
      own_here = own_place false c x (declared_as T c false) i once at

      within_own : i < length (own_fields T c)
      within_own = omega (arith, slice_get_within (declared_as T c false) i x at, length-map (declared_as T c false) (identified false c))

      here : (n : ℕ) → c ≤ suc n → (before f (layout_within (suc n) T c) ≡ start + i) × (start + i < length (layout_within (suc n) T c))
      here n h = by_super (superclass T c) refl
        where
          by_super : (k : Option ℕ) → superclass T c ≡ k → (before f (layout_within (suc n) T c) ≡ option_map_or (λ s. length (layout T s)) k 0 + i) × (option_map_or (λ s. length (layout T s)) k 0 + i < length (layout_within (suc n) T c))
          by_super None e =
              let whole = layout-top T c (suc n) n (omega arith) e in
              (ap (before f) whole ∙ own_here ∙ (let none : i ≡ 0 + i = omega arith in none), omega (arith, ap length whole, within_own))
          by_super (Some s) e =
              let low = super_lower c s e in
              let whole = layout-above T c (suc n) n s (omega arith) e in
              let front = misses n s (none_above n s c low.0) in
              let same = ap length (same_layout n (length T) s (omega (arith, low.0, h)) (omega (arith, low.0, low.1))) in
              let counted = length-append (layout_within n T s) (own_fields T c) in
              let place = ap (before f) whole ∙ after_front f (layout_within n T s) (own_fields T c) front in
              (omega (arith, place, own_here, same), omega (arith, ap length whole, counted, within_own, same))

      -- the place is the same in each subclass
      pub placed : (n d : ℕ) → d ≤ n → is_among n T d c ≡ true → (before f (layout_within n T d) ≡ start + i) × (start + i < length (layout_within n T d))
      placed zero d h among = absurd (cc)
      placed (suc n) d h among = by_test (d == c) refl (placed n)
        where
          by_super : (k : Option ℕ) → superclass T d ≡ k → list_any (λ y. y == c) (above (ancestry_within n T) k) ≡ true → ((s : ℕ) → s ≤ n → is_among n T s c ≡ true → (before f (layout_within n T s) ≡ start + i) × (start + i < length (layout_within n T s))) → (before f (layout_within (suc n) T d) ≡ start + i) × (start + i < length (layout_within (suc n) T d))
          by_super None e q later = absurd (cc)
          by_super (Some s) e q later =
              let up = later s (omega (arith, (super_lower d s e).0, h)) q in
              let whole = layout-above T d (suc n) n s (omega arith) e in
              let front : before f (layout_within n T s) < length (layout_within n T s) = omega (arith, up.0, up.1) in
              (ap (before f) whole ∙ in_front f (layout_within n T s) (own_fields T d) front ∙ up.0, omega (arith, up.1, ap length whole, length-append (layout_within n T s) (own_fields T d)))

          by_test : (b : Bool) → (d == c) ≡ b → ((s : ℕ) → s ≤ n → is_among n T s c ≡ true → (before f (layout_within n T s) ≡ start + i) × (start + i < length (layout_within n T s))) → (before f (layout_within (suc n) T d) ≡ start + i) × (start + i < length (layout_within (suc n) T d))
          by_test true e later =
              let is : c ≡ d = grind (arith, nat_tests) in
              subst (λ k. (before f (layout_within (suc n) T k) ≡ start + i) × (start + i < length (layout_within (suc n) T k))) is (here n (omega (arith, is, h)))
          by_test false e later = by_super (superclass T d) refl (sym (ap (λ b. b || list_any (λ y. y == c) (above (ancestry_within n T) (superclass T d))) e) ∙ among) later

-- ---- the answers

-- the place by how many come before
pub at_place : (f : FieldId) (fields : List FieldId) (n : ℕ) → before f fields ≡ n → n < length fields → n ≡ place_among f fields
at_place f fields n h within =
    let low : nat_lt (before f fields) (length fields) ≡ true = grind (arith, nat_tests) in
    sym (ap (λ b. option_map_or (λ i. i) (cond b (Some (before f fields)) None) 0) low ∙ h)

pub at_no_place : (f : FieldId) (fields : List FieldId) → before f fields ≡ length fields → 0 ≡ place_among f fields
at_no_place f fields h =
    let low : nat_lt (before f fields) (length fields) ≡ false = grind (arith, nat_tests) in
    sym (ap (λ b. option_map_or (λ i. i) (cond b (Some (before f fields)) None) 0) low)

-- by the handle: what its class declares at its place
record IsDeclared (T : Classes) (h : FieldHandle) (s : Bool) (f : FieldId) : Type 0 where
  x : Field
  at : slice_get (declared_as T h.class.number s) h.place ≡ Some x
  is : identified s h.class.number x ≡ f

is_declared : (T : Classes) (h : FieldHandle) (s : Bool) (f : FieldId) → field_of T h ≡ Some f → h.is_static ≡ s → IsDeclared T h s f
is_declared T h s f there kind = by_field (slice_get (declared_as T h.class.number s) h.place) refl (ap (λ b. option_map (identified b h.class.number) (slice_get (declared_as T h.class.number b) h.place)) (sym kind) ∙ sym (of_declared T h) ∙ there)
  where
    by_field : (o : Option Field) → slice_get (declared_as T h.class.number s) h.place ≡ o → option_map (identified s h.class.number) o ≡ Some f → IsDeclared T h s f
    by_field None e q = absurd (cc)
    by_field (Some x) e q = record { x = x; at = e; is = cc }

once_at : (T : Classes) (c : ℕ) → list_all declares_once T ≡ true → (field_names_differ (declared_as T c false) ≡ true) × (field_names_differ (declared_as T c true) ≡ true)
once_at T zero h = (refl, refl)
once_at [] (suc i) h = (refl, refl)
once_at (d ∷ T) (suc zero) h = and_parts (field_names_differ d.fields) (field_names_differ d.statics) (and_parts (declares_once d) (list_all declares_once T) h).0
once_at (d ∷ T) (suc (suc i)) h = once_at T (suc i) (and_parts (declares_once d) (list_all declares_once T) h).1

pub static_placed : (T : Classes) (h : FieldHandle) (f : FieldId) → list_all declares_once T ≡ true → field_of T h ≡ Some f → h.is_static ≡ true → h.place ≡ place_among f (own_statics T f.class)
static_placed T h f once there kind =
    let d = is_declared T h true f there kind in
    let statics = declared_as T h.class.number true in
    let within : h.place < length (map (identified true h.class.number) statics) = omega (arith, slice_get_within statics h.place d.x d.at, length-map statics (identified true h.class.number)) in
    subst (λ g. h.place ≡ place_among g (own_statics T g.class)) d.is
    (at_place (identified true h.class.number d.x) (own_statics T h.class.number) h.place (own_place true h.class.number d.x statics h.place (once_at T h.class.number once).1 d.at) within)

-- the class of the table whose field it is
declarer_within : (T : Classes) (c i : ℕ) (s : Bool) (x : Field) → slice_get (declared_as T c s) i ≡ Some x → c ≤ length T
declarer_within T c i s x at = by_class (class_at T c) refl at
  where
    in_table : (U : Classes) (k : ℕ) (d : Class) → class_at U k ≡ Some d → k ≤ length U
    in_table U zero d h = omega arith
    in_table U (suc j) d h = omega (arith, slice_get_within U j d h)

    by_class : (k : Option Class) → class_at T c ≡ k → slice_get (option_map_or (λ (d : Class). cond s d.statics d.fields) k []) i ≡ Some x → c ≤ length T
    by_class None e q = absurd (cc)
    by_class (Some d) e q = in_table T c d e

pub field_missing : (T : Classes) (h : FieldHandle) (f : FieldId) (class : ℕ) → IsOrdered T → field_of T h ≡ Some f → h.is_static ≡ false → is_subclass T class h.class.number ≡ false → 0 ≡ place_among f (layout T class)
field_missing T h f class o there kind apart =
    let d = is_declared T h false f there kind in
    subst (λ g. 0 ≡ place_among g (layout T class)) d.is (at_no_place (identified false h.class.number d.x) (layout T class) (misses T o h.class.number d.x (length T) class apart))

pub field_placed : (T : Classes) (h : FieldHandle) (f : FieldId) (class : ℕ) → IsOrdered T → list_all declares_once T ≡ true → field_of T h ≡ Some f → h.is_static ≡ false → is_subclass T class h.class.number ≡ true
    → option_map_or (λ s. length (layout T s)) (superclass T h.class.number) 0 + h.place ≡ place_among f (layout T class)
field_placed T h f class o once there kind below =
    let d = is_declared T h false f there kind in
    let among = placed T o h.class.number d.x h.place d.at (once_at T h.class.number once).0 (length T) class (class_there (superclass T class) refl) below in
    subst (λ g. start T o h.class.number d.x h.place d.at (once_at T h.class.number once).0 + h.place ≡ place_among g (layout T class)) d.is
    (at_place (identified false h.class.number d.x) (layout T class) (start T o h.class.number d.x h.place d.at (once_at T h.class.number once).0 + h.place) among.0 among.1)
  where
    itself_or_below : (n : ℕ) → is_among n T class h.class.number ≡ true → superclass T class ≡ None → class ≡ h.class.number
    itself_or_below zero q e = absurd (cc)
    itself_or_below (suc n) q e = by_test (class == h.class.number) refl (sym (ap (λ k. (class == h.class.number) || list_any (λ y. y == h.class.number) (above (ancestry_within n T) k)) e) ∙ q)
      where
        by_test : (b : Bool) → (class == h.class.number) ≡ b → (b || false) ≡ true → class ≡ h.class.number
        by_test true t r = grind (arith, nat_tests)
        by_test false t r = absurd (cc)

    class_there : (k : Option ℕ) → superclass T class ≡ k → class ≤ length T
    class_there None e =
        let d = is_declared T h false f there kind in
        omega (arith, itself_or_below (length T) below e, declarer_within T h.class.number h.place false d.x d.at)
    class_there (Some s) e = (super_lower T o class s e).1

-- a place of a field is small
pub place_small : (T : Classes) (h : FieldHandle) → list_all has_few_fields T ≡ true → IsSome (field_of T h) → h.is_static ≡ false → h.place < 65
place_small T h few there kind = by_field (field_of T h) refl there
  where
    by_field : (o : Option FieldId) → field_of T h ≡ o → IsSome o → h.place < 65
    by_field None e q = absurd (cc)
    by_field (Some f) e q =
        let d = is_declared T h false f e kind in
        omega (arith, slice_get_within (declared_as T h.class.number false) h.place d.x d.at, own-few T h.class.number few, length-map (declared_as T h.class.number false) (identified false h.class.number))
