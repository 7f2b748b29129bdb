-- What a thread sees still, once weak references are cleared.
use Rattle.std.proofs.Common.{◌≡◌, ℕ, suc, Bool, true, false, List, [], ◌∷◌, Option, Some, None, refl, sym, ap, ◌∙◌, if◌then◌else◌}
use Rattle.std.specs.Option.{option_map}
use Rattle.std.specs.Str.{bytes_eq}
use Rattle.base.specs.Bytes.{Identifier, lookup}
use Rattle.type_rules.specs.declared.ty.ExprType.TheVariants as types
use Rattle.type_rules.specs.declared.ty.ExprType.{ExprType}
use Rattle.code.specs.Depth.{Listing}
use Rattle.code_meaning.specs.Layout.{Slot, Known}
use Rattle.code_meaning.specs.Slots.{Slots, Shows, ShowsSlot, ShowsStatic, is_empty, kind_of_variable, static_index, type_of_array, visible_to}
use Rattle.semantics.specs.Reachable.{is_in}
use Rattle.semantics.specs.Sight.{held_reference, holds_null, static_is_null}
use Rattle.semantics.specs.declared.variable_kind.VariableKind.{VariableKind}
use Rattle.semantics.specs.declared.variable_kind.VariableKind.TheVariants as kinds
use Rattle.semantics.specs.Thread as source
use Rattle.semantics.specs.Thread.{Shared}
use Rattle.semantics.specs.Variable.{Variable, Scalar, LocalRef, FieldHandle, MethodHandle, Elements, LocalArray, StaticReference, Empty, Live, Weakly, Cleared, Deleted, Statics}
use Rattle.semantics.specs.Value.{Gives}
use Rattle.semantics.specs.WeakReferences.{cleared, cleared_statics}
use Rattle.semantics_safety.specs.Owners.{Owners}

-- ---- statics

module _ (names : List ℕ) where
  -- each keeps its place
  index_cleared : (x : Identifier) (ss : Statics) → static_index x (cleared_statics names ss) ≡ static_index x ss
  index_cleared x [] = refl
  index_cleared x ((y, h) ∷ rest) = ap (λ (o : Option ℕ). if bytes_eq x y then Some 0 else option_map suc o) (index_cleared x rest)

  held_cleared : (x : Identifier) (ss : Statics) → lookup x (cleared_statics names ss) ≡ option_map (cleared names) (lookup x ss)
  held_cleared x [] = refl
  held_cleared x ((y, h) ∷ rest) = by_test (bytes_eq x y) (held_cleared x rest)
    where
      by_test : (b : Bool) → lookup x (cleared_statics names rest) ≡ option_map (cleared names) (lookup x rest)
          → (if b then Some (cleared names h) else lookup x (cleared_statics names rest)) ≡ option_map (cleared names) (if b then Some h else lookup x rest)
      by_test true e = refl
      by_test false e = e

  -- one that is cleared isn't NULL itself
  empty_still : (h : StaticReference) → is_empty (cleared names h) ≡ is_empty h
  empty_still Empty = refl
  empty_still (Live n) = refl
  empty_still (Weakly n) = by_test (is_in names n)
    where
      by_test : (b : Bool) → is_empty (if b then Cleared else Weakly n) ≡ false
      by_test true = refl
      by_test false = refl
  empty_still Cleared = refl
  empty_still Deleted = refl

  null_still : (o : Option StaticReference) → static_is_null (option_map (cleared names) o) ≡ static_is_null o
  null_still None = refl
  null_still (Some Empty) = refl
  null_still (Some (Live n)) = refl
  null_still (Some (Weakly n)) = by_test (is_in names n)
    where
      by_test : (b : Bool) → static_is_null (Some (if b then Cleared else Weakly n)) ≡ static_is_null (Some (Weakly n))
      by_test true = refl
      by_test false = refl
  null_still (Some Cleared) = refl
  null_still (Some Deleted) = refl

-- ---- a variable hides a static of its name

either_null : (o : Option Variable) (a b : Option StaticReference) → static_is_null a ≡ static_is_null b → holds_null o a ≡ holds_null o b
either_null None a b e = e
either_null (Some v) a b e = refl

hidden : (o : Option Variable) (k : VariableKind) (a b : Option StaticReference) → kind_of_variable o ≡ Some k → held_reference o a ≡ held_reference o b
hidden None k a b kind = absurd (cc)
hidden (Some (LocalRef level r)) k a b kind = refl
hidden (Some (Scalar v)) k a b kind = refl
hidden (Some (FieldHandle f)) k a b kind = refl
hidden (Some (MethodHandle f)) k a b kind = refl
hidden (Some (Elements t held)) k a b kind = refl
hidden (Some (LocalArray t zs)) k a b kind = refl

none_there : (o : Option Variable) → type_of_array o ≡ None → kind_of_variable o ≡ None → o ≡ None
none_there None array kind = refl
none_there (Some (LocalArray t zs)) array kind = absurd (let e : Some t ≡ None = array in cc)
none_there (Some (Scalar v)) array kind = absurd (cc)
none_there (Some (LocalRef level r)) array kind = absurd (cc)
none_there (Some (FieldHandle f)) array kind = absurd (cc)
none_there (Some (MethodHandle f)) array kind = absurd (cc)
none_there (Some (Elements t held)) array kind = absurd (cc)

-- ---- what the slots show

module _ (own : Owners) (names : List ℕ) (shared : Shared) (s : source.Thread) where
  abbrev pub after : Shared
  after = record shared { statics = cleared_statics names shared.statics }

  nulls : (x : Identifier) → (visible_to own after s).sight.is_null x ≡ (visible_to own shared s).sight.is_null x
  nulls x =
      either_null (lookup x s.variables) (lookup x after.statics) (lookup x shared.statics)
      (ap static_is_null (held_cleared names x shared.statics) ∙ null_still names (lookup x shared.statics))

  static_shown : (x : Identifier) (i : ℕ) → ShowsStatic (visible_to own shared s) x i → ShowsStatic (visible_to own after s) x i
  static_shown x i h =
      let there : lookup x after.statics ≡ Some (cleared names h.static.held) = held_cleared names x shared.statics ∙ ap (option_map (cleared names)) h.static.there in
      let none : lookup x s.variables ≡ None = none_there (lookup x s.variables) h.no_variable.array_type h.no_variable.kind in
      record {
        static = record { place = index_cleared names x shared.statics ∙ h.static.place; held = cleared names h.static.held; there = there };
        no_variable = record { number = h.no_variable.number; array_type = h.no_variable.array_type; kind = h.no_variable.kind };
        is_null = nulls x ∙ h.is_null ∙ ap Gives (sym (empty_still names h.static.held));
        reference = ap (λ (o : Option Variable). held_reference o (lookup x after.statics)) none ∙ ap (held_reference None) there;
      }

  slot_shown : (x : Identifier) (slots : Slots) (slot : Slot) (of : ExprType) → ShowsSlot (visible_to own shared s) x slots slot of → ShowsSlot (visible_to own after s) x slots slot of
  slot_shown x slots slot types.Word h = record { value = h.value; is = h.is; kind = h.kind; ty = h.ty; word = h.word }
  slot_shown x slots slot types.Jint h = record { value = h.value; is = h.is; kind = h.kind; ty = h.ty; word = h.word }
  slot_shown x slots slot types.Flag h = record { value = h.value; is = h.is; kind = h.kind; ty = h.ty; word = h.word }
  slot_shown x slots slot types.Truth h = h
  slot_shown x slots slot types.Ref h = record {
    reference = h.reference;
    is = hidden (lookup x s.variables) kinds.Reference (lookup x after.statics) (lookup x shared.statics) h.kind ∙ h.is;
    is_null = nulls x ∙ h.is_null;
    no_number = h.no_number;
    kind = h.kind;
    there = h.there;
    owner = h.owner;
  }
  slot_shown x slots slot types.Global h = static_shown x slot.index h
  slot_shown x slots slot types.Weak h = static_shown x slot.index h
  slot_shown x slots slot types.FieldId h = record { field = h.field; is = h.is; is_null = nulls x ∙ h.is_null; no_number = h.no_number; kind = h.kind; there = h.there }
  slot_shown x slots slot types.MethodId h = record { method = h.method; is = h.is; is_null = nulls x ∙ h.is_null; no_number = h.no_number; kind = h.kind; there = h.there }
  slot_shown x slots slot (types.Buffer t writable) h = record { buffer = h.buffer; is = h.is; is_null = nulls x ∙ h.is_null; kind = h.kind; there = h.there }
  slot_shown x slots slot (types.Array t size) h = record {
    few = h.few;
    array_type = h.array_type;
    elements = λ i below. let e = h.elements i below in record { number = e.number; is = e.is; fits = e.fits; word = e.word };
    past = λ i above. h.past i above;
  }

  -- the slots show each known name still
  pub shows_cleared : (code : Listing) (known : Known) (slots : Slots) → Shows code known (visible_to own shared s) slots → Shows code known (visible_to own after s) slots
  shows_cleared code known slots h = record { numbers = h.numbers; references = h.references; owners = h.owners; fields = h.fields; buffers = h.buffers; each = λ x slot at. slot_shown x slots slot slot.ty (h.each x slot at) }
