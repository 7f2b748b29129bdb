-- Fields by name.
use Rattle.std.proofs.Common.{◌≡◌, ℕ, zero, suc, ◌+◌, Bool, true, false, cond, List, [], ◌∷◌, ◌++◌, take, drop, get_or, find, Option, Some, None, slice_get, refl, sym, ap, ◌∙◌, arith, length, ◌<◌}
use Rattle.std.specs.Prelude.{◌&&◌, ◌||◌, not}
use Rattle.std.specs.Option.{option_map_or}
use Rattle.std.specs.List.{list_any, list_all, position_from}
use Rattle.std.specs.Map.{keys_of, lookup}
use Rattle.std.specs.Global.{Vec}
use Rattle.std.specs.Str.{bytes_eq}
use Rattle.std.proofs.Math.Seq.{split_at}
use Rattle.std.proofs.lemmas.Cmp.{nat_list_eq_equiv}
use Rattle.std.proofs.lemmas.Slice.Eq.{bytes_eq-Decides}
use Rattle.std.proofs.lemmas.Bool.{and_parts, or_parts, not-true}
use Rattle.base.specs.Bytes.{Identifier}
use Rattle.base.proofs.Lists.{all_at}
use Rattle.classes.specs.declared.class.FieldType.{FieldType as FieldTypeInMemory}
use Rattle.class_rules.specs.Class.{Field, Class, Classes}
use Rattle.class_rules.specs.Fields.{signature}
use Rattle.classes.specs.FieldViews.{declared_as}
use Rattle.classes.specs.Tables.{field_names_differ, declares_once}
use Rattle.classes.specs.HeldFields.{own_field, own_view}
use Rattle.classes.proofs.FoundFields.{fits}
use Rattle.classes.proofs.Places.{same_bytes}

-- one of the fields has the name
abbrev pub has_field : List Field → Identifier → Bool
has_field fields name = list_any (λ (f : Field). bytes_eq f.name name) fields

-- the test whether a key is the name
abbrev pub is_key : Identifier → Vec ℕ → Bool
is_key name key = bytes_eq name key.items

-- ---- fields in memory

module _ (name : Identifier) where
  -- the field at a place, counted from n, has the name
  abbrev IsAt : ℕ → List (Vec ℕ × FieldTypeInMemory) → ℕ → Type 0
  IsAt n es i = (k : ℕ) × (f : Field) × (i ≡ n + k) × (slice_get (own_view es) k ≡ Some f) × (bytes_eq f.name name ≡ true)

  pub placed : (n : ℕ) (es : List (Vec ℕ × FieldTypeInMemory)) (i : ℕ) → position_from (is_key name) n (keys_of es) ≡ Some i → IsAt n es i
  placed n [] i h = absurd (cc)
  placed n (e ∷ es) i h = by_test (is_key name e.0) refl h (placed (n + 1) es i)
    where
      by_test : (b : Bool) → is_key name e.0 ≡ b → cond b (Some n) (position_from (is_key name) (n + 1) (keys_of es)) ≡ Some i → (position_from (is_key name) (n + 1) (keys_of es) ≡ Some i → IsAt (n + 1) es i) → IsAt n (e ∷ es) i
      by_test true same is further =
          let number : n ≡ i = cc in
          (zero, own_field e, omega (arith, number), refl, same_bytes e.0.items name ∙ same)
      by_test false other is further =
          let later = further is in
          (suc later.0, later.1, omega (arith, later.2), later.3, later.4)

  -- a name without a place is that of no field
  pub unplaced : (n : ℕ) (es : List (Vec ℕ × FieldTypeInMemory)) → position_from (is_key name) n (keys_of es) ≡ None → has_field (own_view es) name ≡ false
  unplaced n [] h = refl
  unplaced n (e ∷ es) h = by_test (is_key name e.0) refl h (unplaced (n + 1) es)
    where
      by_test : (b : Bool) → is_key name e.0 ≡ b → cond b (Some n) (position_from (is_key name) (n + 1) (keys_of es)) ≡ None → (position_from (is_key name) (n + 1) (keys_of es) ≡ None → has_field (own_view es) name ≡ false) → has_field (own_view (e ∷ es)) name ≡ false
      by_test true same is further = absurd (cc)
      by_test false other is further = ap (λ b. b || has_field (own_view es) name) (same_bytes e.0.items name ∙ other) ∙ further is

  -- and is no key
  pub unkeyed : (es : List (Vec ℕ × FieldTypeInMemory)) → has_field (own_view es) name ≡ false → lookup (is_key name) es ≡ None
  unkeyed [] h = refl
  unkeyed (e ∷ es) h =
      let p = or_parts (bytes_eq e.0.items name) (has_field (own_view es) name) h in
      ap (λ b. cond b (Some e.1) (lookup (is_key name) es)) (same_bytes name e.0.items ∙ p.0) ∙ unkeyed es p.1

  -- a field at a place is one of them
  pub has_it : (fs : List Field) (i : ℕ) (f : Field) → slice_get fs i ≡ Some f → bytes_eq f.name name ≡ true → has_field fs name ≡ true
  has_it [] i f at named = absurd (cc)
  has_it (x ∷ fs) zero f at named = let is : f ≡ x = cc in ap (λ b. b || has_field fs name) (ap (λ (y : Field). bytes_eq y.name name) (sym is) ∙ named)
  has_it (x ∷ fs) (suc i) f at named = either (bytes_eq x.name name) (has_it fs i f at named)
    where
      either : (b : Bool) → has_field fs name ≡ true → (b || has_field fs name) ≡ true
      either true h = refl
      either false h = h

-- ---- the first of a name and a signature

module _ (T : Classes) (name : Identifier) (text : List ℕ) where
  pub found_nowhere : (fs : List Field) → has_field fs name ≡ false → find (fits T name text) fs ≡ None
  found_nowhere [] h = refl
  found_nowhere (x ∷ fs) h =
      let p = or_parts (bytes_eq x.name name) (has_field fs name) h in
      ap (λ b. cond (b && bytes_eq (signature T x.type) text) (Some x) (find (fits T name text) fs)) p.0 ∙ found_nowhere fs p.1

  -- where no two have one name, it is that of the name, if it has the signature
  pub found_there : (fs : List Field) (i : ℕ) (f : Field) → slice_get fs i ≡ Some f → f.name ≡ name → field_names_differ fs ≡ true → find (fits T name text) fs ≡ cond (bytes_eq (signature T f.type) text) (Some f) None
  found_there [] i f at named differ = absurd (cc)
  found_there (x ∷ fs) zero f at named differ =
      let is : x ≡ f = cc in
      let p = and_parts (not (has_field fs x.name)) (field_names_differ fs) differ in
      let none = found_nowhere fs (ap (has_field fs) (sym named ∙ ap (λ (y : Field). y.name) (sym is)) ∙ not-true (has_field fs x.name) p.0) in
      ap (λ (y : Field). cond (fits T name text y) (Some y) (find (fits T name text) fs)) is
      ∙ ap (λ b. cond (b && bytes_eq (signature T f.type) text) (Some f) (find (fits T name text) fs)) (ap (λ n. bytes_eq n name) named ∙ nat_list_eq_equiv.refl name)
      ∙ ap (λ o. cond (bytes_eq (signature T f.type) text) (Some f) o) none
  found_there (x ∷ fs) (suc i) f at named differ =
      let p = and_parts (not (has_field fs x.name)) (field_names_differ fs) differ in
      let other = by_test (bytes_eq x.name name) refl (not-true (has_field fs x.name) p.0) in
      ap (λ b. cond (b && bytes_eq (signature T x.type) text) (Some x) (find (fits T name text) fs)) other ∙ found_there fs i f at named p.1
    where
      by_test : (b : Bool) → bytes_eq x.name name ≡ b → has_field fs x.name ≡ false → b ≡ false
      by_test false e new = refl
      by_test true e new =
          let is : x.name ≡ name = (bytes_eq-Decides x.name name).0 e in
          let there : has_field fs x.name ≡ true = has_it x.name fs i f at (ap (λ n. bytes_eq n x.name) (named ∙ sym is) ∙ nat_list_eq_equiv.refl x.name) in
          absurd (cc)

-- ---- what the classes of a table declare

pub declared_differ : (T : Classes) (c : ℕ) (s : Bool) → list_all declares_once T ≡ true → field_names_differ (declared_as T c s) ≡ true
declared_differ T zero s h = refl
declared_differ T (suc i) s h = by_class (slice_get T i) refl
  where
    by_kind : (d : Class) (k : Bool) → declares_once d ≡ true → field_names_differ (cond k d.statics d.fields) ≡ true
    by_kind d true once = (and_parts (field_names_differ d.fields) (field_names_differ d.statics) once).1
    by_kind d false once = (and_parts (field_names_differ d.fields) (field_names_differ d.statics) once).0

    by_class : (o : Option Class) → slice_get T i ≡ o → field_names_differ (option_map_or (λ (d : Class). cond s d.statics d.fields) o []) ≡ true
    by_class None e = refl
    by_class (Some d) e = by_kind d s (all_at declares_once T i d h e)

-- ---- fields that are put one by one

-- a field after others has another name than they
other_field : (U : List Field) (f : Field) (R : List Field) → field_names_differ (U ++ f ∷ R) ≡ true → has_field U f.name ≡ false
other_field [] f R h = refl
other_field (u ∷ U) f R h =
    let p = and_parts (not (has_field (U ++ f ∷ R) u.name)) (field_names_differ (U ++ f ∷ R)) h in
    let q = among U (not-true (has_field (U ++ f ∷ R) u.name) p.0) in
    ap (λ b. b || has_field U f.name) (same_bytes u.name f.name ∙ q) ∙ other_field U f R p.1
  where
    among : (V : List Field) → has_field (V ++ f ∷ R) u.name ≡ false → bytes_eq f.name u.name ≡ false
    among [] e = (or_parts (bytes_eq f.name u.name) (has_field R u.name) e).0
    among (v ∷ V) e = among V ((or_parts (bytes_eq v.name u.name) (has_field (V ++ f ∷ R) u.name) e).1)

-- the next of the list has a name that none before it has
pub next_field : (L : List Field) (i : ℕ) (d : Field) → i < length L → field_names_differ L ≡ true → has_field (take i L) (get_or L i d).name ≡ false
next_field L i d below h = other_field (take i L) (get_or L i d) (drop (suc i) L) (sym (ap field_names_differ (split_at L i d below)) ∙ h)
