-- What a thread sees, and what a list of statics has at its places, once a static holds something else.
use Rattle.std.proofs.Common.{◌≡◌, ◌≢◌, ℕ, suc, true, false, [], ◌∷◌, Option, Some, None, refl, sym, ap, ◌∙◌, subst}
use Rattle.std.specs.Str.{bytes_eq}
use Rattle.std.proofs.lemmas.Slice.Eq.{bytes_eq-Decides}
use Rattle.std.proofs.lemmas.Bool.Decides.{not_from_Decides}
use Rattle.base.specs.Bytes.{Identifier, lookup}
use Rattle.semantics.specs.Sight.{scalar, held_reference, holds_null, static_is_null}
use Rattle.semantics.specs.Thread.{Shared, Thread}
use Rattle.semantics.specs.Value.{Gives}
use Rattle.semantics.specs.Variable.{Variable, Scalar, LocalRef, FieldHandle, MethodHandle, Elements, LocalArray, StaticReference, Empty, Live, Weakly, Cleared, Deleted, assign}
use Rattle.code.specs.Depth.{Listing}
use Rattle.type_rules.specs.declared.ty.ExprType.{ExprType}
use Rattle.type_rules.specs.declared.ty.ExprType.TheVariants.{Global, Weak}
use Rattle.code_meaning.specs.Layout.{Slot, Known}
use Rattle.code_meaning.specs.Fits.{IsStaticType}
use Rattle.code_meaning.specs.Slots.{visible_to, type_of_array, kind_of_variable, HasNoVariable, IsAsBefore, IsHeld, is_empty, Slots, ShowsSlot, Shows}
use Rattle.code_meaning.proofs.SlotLaws.{slot_stays, static_changes}
use Rattle.code_meaning.proofs.StaticPlaces.{assigned_stays, assigned_held}

-- ---- what a thread sees

-- whether a static is NULL
pub null_of : (h : StaticReference) → static_is_null (Some h) ≡ Gives (is_empty h)
null_of Empty = refl
null_of (Live n) = refl
null_of (Weakly n) = refl
null_of Cleared = refl
null_of Deleted = refl

-- a variable hides a static of its name
hidden_null : (o : Option Variable) (v : Variable) (a b : Option StaticReference) → o ≡ Some v → holds_null o a ≡ holds_null o b
hidden_null o v a b is = ap (λ (q : Option Variable). holds_null q a) is ∙ sym (ap (λ (q : Option Variable). holds_null q b) is)

hidden_reference : (v : Variable) (a b : Option StaticReference) → held_reference (Some v) a ≡ held_reference (Some v) b
hidden_reference (LocalRef level r) a b = refl
hidden_reference (Scalar w) a b = refl
hidden_reference (FieldHandle f) a b = refl
hidden_reference (MethodHandle m) a b = refl
hidden_reference (Elements t held) a b = refl
hidden_reference (LocalArray t zs) a b = refl

-- a variable has a kind or is an array
no_kind : (v : Variable) → kind_of_variable (Some v) ≡ None → type_of_array (Some v) ≡ None → ⊥
no_kind (LocalArray t zs) kind array = let e : Some t ≡ None = array in cc
no_kind (Scalar w) kind array = cc
no_kind (LocalRef level r) kind array = cc
no_kind (FieldHandle f) kind array = cc
no_kind (MethodHandle m) kind array = cc
no_kind (Elements t held) kind array = cc

-- A thread, of which nothing changes, and a static that holds something else.
module _ (own : Identifier → Option ℕ) (shared : Shared) (t : Thread) (x : Identifier) (h : StaticReference) where
  abbrev after : Shared
  after = record shared { statics = assign x h shared.statics }

  no_variable : (s : Shared) → lookup x t.variables ≡ None → HasNoVariable (visible_to own s t) x
  no_variable s none = record { number = ap scalar none; array_type = ap type_of_array none; kind = ap kind_of_variable none }

  -- a name shows what it did, if what it may show of a static is the same
  as_before : (y : Identifier) → holds_null (lookup y t.variables) (lookup y after.statics) ≡ holds_null (lookup y t.variables) (lookup y shared.statics)
      → held_reference (lookup y t.variables) (lookup y after.statics) ≡ held_reference (lookup y t.variables) (lookup y shared.statics) → IsAsBefore (visible_to own shared t) (visible_to own after t) y
  as_before y is_null reference = record { number = refl; is_null = is_null; element = λ k i array. refl; reference = reference; field = refl; method = refl; buffer = refl; array_type = refl; kind = refl; owner = refl }

  others_as_before : (y : Identifier) → y ≢ x → IsAsBefore (visible_to own shared t) (visible_to own after t) y
  others_as_before y other =
      let stays = assigned_stays x y h shared.statics other in
      as_before y (ap (holds_null (lookup y t.variables)) stays.there) (ap (held_reference (lookup y t.variables)) stays.there)

  -- a name that no variable has shows the static
  pub is_held : lookup x t.variables ≡ None → IsHeld (visible_to own shared t) x h (visible_to own after t)
  is_held none =
      let there = assigned_held x h shared.statics in
      record {
        before = no_variable shared none;
        after = no_variable after none;
        is_null = ap (λ (v : Option Variable). holds_null v (lookup x after.statics)) none ∙ ap (holds_null None) there ∙ null_of h;
        reference = ap (λ (v : Option Variable). held_reference v (lookup x after.statics)) none ∙ ap (held_reference None) there;
        statics = refl;
        others = others_as_before;
      }

  -- no variable has the name of a static
  no_variable_at : (slots : Slots) (s : Slot) (kind : ExprType) → IsStaticType kind → ShowsSlot (visible_to own shared t) x slots s kind → HasNoVariable (visible_to own shared t) x
  no_variable_at slots s Global e shown = shown.no_variable
  no_variable_at slots s Weak e shown = shown.no_variable
  no_variable_at slots s kind e shown = absurd e

  -- a variable is not known as a static
  variable_shown : (v : Variable) → lookup x t.variables ≡ Some v → (slots : Slots) (s : Slot) → ShowsSlot (visible_to own shared t) x slots s s.ty → ShowsSlot (visible_to own after t) x slots s s.ty
  variable_shown v is slots s shown =
      slot_stays (visible_to own shared t) (visible_to own after t) x slots slots
      (as_before x (hidden_null (lookup x t.variables) v _ _ is) (ap (λ (o : Option Variable). held_reference o (lookup x after.statics)) is ∙ hidden_reference v _ _ ∙ sym (ap (λ (o : Option Variable). held_reference o (lookup x shared.statics)) is)))
      s.ty s.index (λ k p. refl) (λ e. (refl, refl)) (λ e. refl) (λ e. refl)
      (λ e. absurd (
      let none = no_variable_at slots s s.ty e shown in
      no_kind v (ap kind_of_variable (sym is) ∙ none.kind) (ap type_of_array (sym is) ∙ none.array_type)))
      shown

  -- the slots show each known name still
  pub shows_still : (code : Listing) (known : Known) (slots : Slots) → Shows code known (visible_to own shared t) slots → Shows code known (visible_to own after t) slots
  shows_still code known slots shows = by_variable (lookup x t.variables) refl
    where
      by_variable : (o : Option Variable) → lookup x t.variables ≡ o → Shows code known (visible_to own after t) slots
      by_variable None none = static_changes code known (visible_to own shared t) (visible_to own after t) slots x h shows (is_held none)
      by_variable (Some v) is = record {
        numbers = shows.numbers;
        references = shows.references;
        owners = shows.owners;
        fields = shows.fields;
        buffers = shows.buffers;
        each = λ y s at.
            elim (bytes_eq y x) as (λ b. bytes_eq y x ≡ b → ShowsSlot (visible_to own after t) y slots s s.ty) [
              | true ↦ λ e.
                  let same : y ≡ x = (bytes_eq-Decides y x).0 e in
                  subst (λ (z : Identifier). ShowsSlot (visible_to own after t) z slots s s.ty) (sym same) (variable_shown v is slots s (subst (λ (z : Identifier). ShowsSlot (visible_to own shared t) z slots s s.ty) same (shows.each y s at)))
              | false ↦ λ e.
                  let other : y ≢ x = not_from_Decides (bytes_eq y x) (bytes_eq-Decides y x) e in
                  slot_stays (visible_to own shared t) (visible_to own after t) y slots slots (others_as_before y other) s.ty s.index (λ k p. refl) (λ r. (refl, refl)) (λ r. refl) (λ b. refl) (λ r. assigned_stays x y h shared.statics other) (shows.each y s at)
            ] refl;
      }
