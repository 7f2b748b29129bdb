-- What the slots show once other references are variables' own, or they have other levels.
use Rattle.std.proofs.Common.{◌≡◌, ◌≢◌, ℕ, true, false, List, length, map, Option, Some, None, refl, sym, ap, ◌∙◌, if◌then◌else◌}
use Rattle.std.specs.Prelude.{slice_get, slice_set, ◌==◌}
use Rattle.std.specs.Option.{option_map}
use Rattle.std.specs.Str.{bytes_eq}
use Rattle.std.proofs.lemmas.List.{length-map, length-set}
use Rattle.std.proofs.lemmas.Option.{slice_get-map}
use Rattle.std.proofs.lemmas.Bool.{eqb-true}
use Rattle.std.proofs.lemmas.Bool.Decides.{not_from_Decides, Decides-eqb}
use Rattle.std.proofs.lemmas.Slice.Eq.{bytes_eq-Decides}
use Rattle.base.specs.Bytes.{Identifier, lookup}
use Rattle.base.proofs.Lists.{get_set_other}
use Rattle.type_rules.specs.declared.ty.ExprType.{ExprType}
use Rattle.type_rules.specs.declared.ty.ExprType.TheVariants.{Jint, Ref, Global, Weak, FieldId, MethodId, Buffer, Array}
use Rattle.type_rules.specs.declared.ty.ExprType.TheVariants as types
use Rattle.code.specs.Depth.{Listing}
use Rattle.code_meaning.specs.Layout.{Slot, Known}
use Rattle.code_meaning.specs.Fits.{IsOwn}
use Rattle.code_meaning.specs.Slots.{Visible, Slots, ShowsNumber, ShowsSlot, Shows}

-- ---- any change

-- The level of a variable's own reference is in the list at the variable's slot. Where it was kept before, it may be used.
abbrev OwnersKept : Known → Visible → Slots → (own : Identifier → Option ℕ) → (owners : List (Option ℕ)) → Type 0
OwnersKept known visible slots own owners = (x : Identifier) (i level : ℕ) → lookup x known ≡ Some (record { ty = Ref; index = i })
    → ((before : ℕ) → visible.owner x ≡ Some before → slice_get slots.owners i ≡ Some (Some before)) → own x ≡ Some level → slice_get owners i ≡ Some (Some level)

module _ (visible : Visible) (slots : Slots) (own : Identifier → Option ℕ) (owners : List (Option ℕ)) (x : Identifier) where
  number_shown : (s : Slot) → ShowsNumber visible x slots.numbers s → ShowsNumber (record visible { owner = own }) x slots.numbers s
  number_shown s h = record { value = h.value; is = h.is; kind = h.kind; ty = h.ty; word = h.word }

  -- only a local reference's slot has to do with owners
  slot_shown : (kind : ExprType) (i : ℕ) → (kind ≡ Ref → ((before : ℕ) → visible.owner x ≡ Some before → slice_get slots.owners i ≡ Some (Some before)) → (level : ℕ) → own x ≡ Some level → slice_get owners i ≡ Some (Some level))
      → ShowsSlot visible x slots (record { ty = kind; index = i }) kind → ShowsSlot (record visible { owner = own }) x (record slots { owners = owners }) (record { ty = kind; index = i }) kind
  slot_shown types.Word i kept h = number_shown (record { ty = types.Word; index = i }) h
  slot_shown Jint i kept h = number_shown (record { ty = Jint; index = i }) h
  slot_shown types.Flag i kept h = number_shown (record { ty = types.Flag; index = i }) h
  slot_shown types.Truth i kept h = tt
  slot_shown Ref i kept h = record { reference = h.reference; is = h.is; is_null = h.is_null; no_number = h.no_number; kind = h.kind; there = h.there; owner = λ n level is owned. kept refl (λ before was. h.owner n before is was) level owned }
  slot_shown Global i kept h = record {
    static = h.static;
    no_variable = record { number = h.no_variable.number; array_type = h.no_variable.array_type; kind = h.no_variable.kind };
    is_null = h.is_null;
    reference = h.reference;
  }
  slot_shown Weak i kept h = record {
    static = h.static;
    no_variable = record { number = h.no_variable.number; array_type = h.no_variable.array_type; kind = h.no_variable.kind };
    is_null = h.is_null;
    reference = h.reference;
  }
  slot_shown FieldId i kept h = record { field = h.field; is = h.is; is_null = h.is_null; no_number = h.no_number; kind = h.kind; there = h.there }
  slot_shown MethodId i kept h = record { method = h.method; is = h.is; is_null = h.is_null; no_number = h.no_number; kind = h.kind; there = h.there }
  slot_shown (Buffer t writable) i kept h = record { buffer = h.buffer; is = h.is; is_null = h.is_null; kind = h.kind; there = h.there }
  slot_shown (Array t size) i kept h = record { few = h.few; array_type = h.array_type; elements = h.elements; past = h.past }

module _ (code : Listing) (known : Known) (visible : Visible) (slots : Slots) (shows : Shows code known visible slots) where
  with_owners : (own : Identifier → Option ℕ) (owners : List (Option ℕ)) → length owners ≡ length slots.owners → OwnersKept known visible slots own owners → Shows code known (record visible { owner = own }) (record slots { owners = owners })
  with_owners own owners count kept = record {
    numbers = shows.numbers;
    references = shows.references;
    owners = count ∙ shows.owners;
    fields = shows.fields;
    buffers = shows.buffers;
    each = λ x s at. slot_shown visible slots own owners x s.ty s.index (λ e before level owned. kept x s.index level (at ∙ ap (λ (k : ExprType). Some (record { ty = k; index = s.index })) e) before owned) (shows.each x s at);
  }

  -- other owners, whose levels are all in the list
  pub owners_changed : (own : Identifier → Option ℕ) (owners : List (Option ℕ)) → length owners ≡ length slots.owners
      → ((x : Identifier) (i level : ℕ) → lookup x known ≡ Some (record { ty = Ref; index = i }) → own x ≡ Some level → slice_get owners i ≡ Some (Some level))
      → Shows code known (record visible { owner = own }) (record slots { owners = owners })
  owners_changed own owners count kept = with_owners own owners count (λ x i level at before owned. kept x i level at owned)

  -- ---- each level changes in one way

  -- a level that is there after the change was one before
  mapped_kept : (f : Option ℕ → Option ℕ) → f None ≡ None → (i level : ℕ) (o : Option ℕ) → ((before : ℕ) → o ≡ Some before → slice_get slots.owners i ≡ Some (Some before)) → f o ≡ Some level → slice_get (map f slots.owners) i ≡ Some (Some level)
  mapped_kept f none i level None before is = absurd (let c : None ≡ Some level = sym none ∙ is in cc)
  mapped_kept f none i level (Some k) before is = slice_get-map f slots.owners i ∙ ap (option_map f) (before k refl) ∙ ap (λ (o : Option ℕ). Some o) is

  pub owners_mapped : (f : Option ℕ → Option ℕ) → f None ≡ None → Shows code known (record visible { owner = λ x. f (visible.owner x) }) (record slots { owners = map f slots.owners })
  owners_mapped f none =
      with_owners (λ x. f (visible.owner x)) (map f slots.owners) (length-map slots.owners f)
      (λ x i level at before is. mapped_kept f none i level (visible.owner x) before is)

  -- ---- a variable has no reference of its own any more

  -- another variable's own reference is in another slot
  other_kept : (i j level : ℕ) (o : Option ℕ) → (j ≡ i → o ≡ None) → ((before : ℕ) → o ≡ Some before → slice_get slots.owners j ≡ Some (Some before)) → o ≡ Some level → slice_get (slice_set slots.owners i None) j ≡ Some (Some level)
  other_kept i j level o alone before is =
      elim (j == i) as (λ b. (j == i) ≡ b → slice_get (slice_set slots.owners i None) j ≡ Some (Some level)) [
        | true ↦ λ e. absurd (let c : None ≡ Some level = sym (alone (eqb-true j i e)) ∙ is in cc)
        | false ↦ λ e. get_set_other slots.owners i j None (not_from_Decides (j == i) (Decides-eqb j i) e) ∙ before level is
      ] refl

  lost_kept : (x : Identifier) (i : ℕ) → ((y : Identifier) → lookup y known ≡ Some (record { ty = Ref; index = i }) → y ≢ x → visible.owner y ≡ None)
      → OwnersKept known visible slots (λ y. if bytes_eq y x then None else visible.owner y) (slice_set slots.owners i None)
  lost_kept x i alone y j level at before is =
      elim (bytes_eq y x) as (λ b. bytes_eq y x ≡ b → (if b then None else visible.owner y) ≡ Some level → slice_get (slice_set slots.owners i None) j ≡ Some (Some level)) [
        | true ↦ λ e h. absurd (let c : None ≡ Some level = h in cc)
        | false ↦ λ e h.
            other_kept i j level (visible.owner y)
            (λ same. alone y (at ∙ ap (λ (k : ℕ). Some (record { ty = Ref; index = k })) same) (not_from_Decides (bytes_eq y x) (bytes_eq-Decides y x) e))
            before h
      ] refl is

  -- the slot is of no other known variable with a reference of its own
  pub owner_lost : (x : Identifier) (i : ℕ) → ((y : Identifier) → lookup y known ≡ Some (record { ty = Ref; index = i }) → y ≢ x → visible.owner y ≡ None)
      → Shows code known (record visible { owner = λ y. if bytes_eq y x then None else visible.owner y }) (record slots { owners = slice_set slots.owners i None })
  owner_lost x i alone =
      with_owners (λ y. if bytes_eq y x then None else visible.owner y) (slice_set slots.owners i None) (length-set slots.owners i None) (lost_kept x i alone)

  -- the slot is the variable's own
  pub owner_lost_with_slot : (x : Identifier) (i : ℕ) → IsOwn known x (record { ty = Ref; index = i })
      → Shows code known (record visible { owner = λ y. if bytes_eq y x then None else visible.owner y }) (record slots { owners = slice_set slots.owners i None })
  owner_lost_with_slot x i own =
      owner_lost x i (λ y at other. absurd ((own y (record { ty = Ref; index = i }) at other).references refl refl refl))

  -- fewer variables have references of their own
  pub fewer_owners : (own : Identifier → Option ℕ) → ((x : Identifier) (level : ℕ) → own x ≡ Some level → visible.owner x ≡ Some level) → Shows code known (record visible { owner = own }) slots
  fewer_owners own among = with_owners own slots.owners refl (λ x i level at before is. before level (among x level is))
