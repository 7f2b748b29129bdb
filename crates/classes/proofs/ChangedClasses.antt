-- A table with the class of one place changed.
use Rattle.std.proofs.Common.{◌≡◌, ℕ, zero, suc, ◌+◌, ◌<◌, Bool, true, false, cond, List, [], ◌∷◌, ◌++◌, map, Option, Some, slice_get, refl, sym, ap, ◌∙◌, arith}
use Rattle.std.specs.Prelude.{◌==◌, ◌||◌, unwrap_or, if◌then◌else◌}
use Rattle.std.specs.List.{enumerate_from}
use Rattle.std.specs.Option.{option_map_or}
use Rattle.std.specs.Map.{values_of}
use Rattle.std.specs.Global.{Vec}
use Rattle.std.proofs.lemmas.Bool.{eq-eqb, ne_eqb}
use Rattle.indexmap.specs.IndexMap.{set_value_at}
use Rattle.classes.specs.declared.class.Entry.{Entry}
use Rattle.class_rules.specs.Class.{Field, Class, Classes, array_name}
use Rattle.class_rules.specs.Additions.{with_changed_class}
use Rattle.std.specs.Str.{bytes_eq}
use Rattle.base.specs.Bytes.{Identifier}
use Rattle.classes.specs.FieldViews.{declared_as, with_declared}
use Rattle.classes.specs.Tables.{ArraysHaveElements}
use Rattle.classes.proofs.DistinctNames.{has_name}
use Rattle.classes.specs.Views.{class_view, classes_view}

module _ (change : Class → Class) where
  abbrev pub from : ℕ → ℕ → Classes → Classes
  from c n T = map (λ (d : ℕ × Class). cond (d.0 == c) (change d.1) d.1) (enumerate_from n T)

  past : (c n : ℕ) (T : Classes) → c < n → from c n T ≡ T
  past c n [] h = refl
  past c n (d ∷ T) h =
      let no : (n == c) ≡ false = ne_eqb n c (λ (e : n ≡ c). omega (arith, h, e)) in
      (λ i. cond (no i) (change d) d ∷ past c (n + 1) T (omega (arith, h)) i)

  at : (n i : ℕ) (es : List (Vec ℕ × Entry)) (e new : Entry) → slice_get (values_of es) i ≡ Some e → ((name : Vec ℕ) → class_view (name, new) ≡ change (class_view (name, e)))
      → classes_view (set_value_at es i new) ≡ from (n + i) n (classes_view es)
  at n i [] e new h is = absurd (cc)
  at n zero (x ∷ es) e new h is =
      let own : x.1 ≡ e = cc in
      let yes : (n == n + 0) ≡ true = eq-eqb n (n + 0) (omega arith) in
      ap (λ d. d ∷ classes_view es) (is x.0 ∙ ap (λ v. change (class_view (x.0, v))) (sym own))
      ∙ (λ k. cond (sym yes k) (change (class_view x)) (class_view x) ∷ sym (past (n + 0) (n + 1) (classes_view es) (omega arith)) k)
  at n (suc i) (x ∷ es) e new h is =
      let no : (n == n + suc i) ≡ false = ne_eqb n (n + suc i) (λ (e : n ≡ n + suc i). omega (arith, e)) in
      let further : (n + 1) + i ≡ n + suc i = omega arith in
      ap (λ T. class_view x ∷ T) (at (n + 1) i es e new h is ∙ ap (λ c. from c (n + 1) (classes_view es)) further)
      ∙ (λ k. cond (sym no k) (change (class_view x)) (class_view x) ∷ from (n + suc i) (n + 1) (classes_view es))

  -- a class whose entry is changed is changed alike
  pub changed : (es : List (Vec ℕ × Entry)) (i : ℕ) (e new : Entry) → slice_get (values_of es) i ≡ Some e → ((name : Vec ℕ) → class_view (name, new) ≡ change (class_view (name, e)))
      → classes_view (set_value_at es i new) ≡ with_changed_class (classes_view es) (i + 1) change
  changed es i e new h is = let c : 1 + i ≡ i + 1 = omega arith in at 1 i es e new h is ∙ ap (λ c. from c 1 (classes_view es)) c

-- an entry that is written as it was
pub unchanged : (es : List (Vec ℕ × Entry)) (i : ℕ) (e new : Entry) → slice_get (values_of es) i ≡ Some e → ((name : Vec ℕ) → class_view (name, new) ≡ class_view (name, e)) → classes_view (set_value_at es i new) ≡ classes_view es
unchanged [] i e new h is = refl
unchanged (x ∷ es) zero e new h is =
    let own : x.1 ≡ e = cc in
    ap (λ d. d ∷ classes_view es) (is x.0 ∙ ap (λ v. class_view (x.0, v)) (sym own))
unchanged (x ∷ es) (suc i) e new h is = ap (λ T. class_view x ∷ T) (unchanged es i e new h is)

module _ (es : List (Vec ℕ × Entry)) (i : ℕ) (e : Entry) (more : List Field) (field : Field) where
  -- a class gets a static more, unless memory ran out
  pub static_put : (b : Bool) → slice_get (values_of es) i ≡ Some e → more ≡ (if b then e.statics ++ field ∷ [] else e.statics)
      → classes_view (set_value_at es i (record e { statics = more })) ≡ (if b then with_declared (classes_view es) (Some (i + 1)) field true else classes_view es)
  static_put true h is = changed (λ d. record d { statics = d.statics ++ field ∷ [] }) es i e (record e { statics = more }) h (λ name. ap (λ xs. record (class_view (name, e)) { statics = xs }) is)
  static_put false h is = unchanged es i e (record e { statics = more }) h (λ name. ap (λ xs. record (class_view (name, e)) { statics = xs }) is)

  -- a class gets a field more, unless memory ran out
  pub field_put : (b : Bool) → slice_get (values_of es) i ≡ Some e → more ≡ (if b then e.fields ++ field ∷ [] else e.fields)
      → classes_view (set_value_at es i (record e { fields = more })) ≡ (if b then with_declared (classes_view es) (Some (i + 1)) field false else classes_view es)
  field_put true h is = changed (λ d. record d { fields = d.fields ++ field ∷ [] }) es i e (record e { fields = more }) h (λ name. ap (λ xs. record (class_view (name, e)) { fields = xs }) is)
  field_put false h is = unchanged es i e (record e { fields = more }) h (λ name. ap (λ xs. record (class_view (name, e)) { fields = xs }) is)

-- what a class declares, by its entry
pub own_of : (es : List (Vec ℕ × Entry)) (i : ℕ) (e : Entry) (s : Bool) → slice_get (values_of es) i ≡ Some e → declared_as (classes_view es) (i + 1) s ≡ cond s e.statics e.fields
own_of es i e s at = let next : i + 1 ≡ suc i = omega arith in ap (λ n. declared_as (classes_view es) n s) next ∙ entry_at es i at
  where
    entry_at : (fs : List (Vec ℕ × Entry)) (j : ℕ) → slice_get (values_of fs) j ≡ Some e → option_map_or (λ (d : Class). cond s d.statics d.fields) (slice_get (classes_view fs) j) [] ≡ cond s e.statics e.fields
    entry_at [] j h = absurd (cc)
    entry_at (x ∷ fs) zero h = let is : x.1 ≡ e = cc in ap (λ (y : Entry). cond s y.statics y.fields) is
    entry_at (x ∷ fs) (suc j) h = entry_at fs j h

-- what holds of the tables after success and after a refusal
pub after_either : (P : Classes → Type 0) (b : Bool) (more kept : Classes) → P more → P kept → P (if b then more else kept)
after_either P true more kept holds_more holds_kept = holds_more
after_either P false more kept holds_more holds_kept = holds_kept

-- the names stay as they are
pub names-kept : (change : Class → Class) → ((d : Class) → (change d).name ≡ d.name) → (c n : ℕ) (T : Classes) (name : Identifier) → has_name (from change c n T) name ≡ has_name T name
names-kept change same c n [] name = refl
names-kept change same c n (d ∷ T) name = step (n == c) (names-kept change same c (n + 1) T name)
  where
    step : (b : Bool) → has_name (from change c (n + 1) T) name ≡ has_name T name → (bytes_eq (cond b (change d) d).name name || has_name (from change c (n + 1) T) name) ≡ (bytes_eq d.name name || has_name T name)
    step true e = λ i. bytes_eq (same d i) name || e i
    step false e = λ i. bytes_eq d.name name || e i

-- where there is a class of arrays there is that of the elements, also with a field more
pub declared-elements : (T : Classes) (c : Option ℕ) (field : Field) (is_static : Bool) → ArraysHaveElements T → ArraysHaveElements (with_declared T c field is_static)
declared-elements T c field true elements name h =
    let change : Class → Class = λ d. record d { statics = d.statics ++ field ∷ [] } in
    names-kept change (λ d. refl) (unwrap_or c 0) 1 T name ∙ elements name (sym (names-kept change (λ d. refl) (unwrap_or c 0) 1 T (array_name name)) ∙ h)
declared-elements T c field false elements name h =
    let change : Class → Class = λ d. record d { fields = d.fields ++ field ∷ [] } in
    names-kept change (λ d. refl) (unwrap_or c 0) 1 T name ∙ elements name (sym (names-kept change (λ d. refl) (unwrap_or c 0) 1 T (array_name name)) ∙ h)
