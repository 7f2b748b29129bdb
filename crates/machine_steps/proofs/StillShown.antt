-- What a thread sees still, where others have changed statics.
use Rattle.std.proofs.Common.{◌≡◌, ℕ, ℤ, List, inl, inr, Option, sym, ap, ◌∙◌}
use Rattle.std.specs.Prelude.{slice_get}
use Rattle.semantics.specs.Thread as source
use Rattle.semantics.specs.Thread.{Shared}
use Rattle.base.specs.Bytes.{Identifier, lookup}
use Rattle.type_rules.specs.declared.ty.ExprType.TheVariants as types
use Rattle.type_rules.specs.declared.ty.ExprType.{ExprType}
use Rattle.code.specs.Depth.{Listing}
use Rattle.code_meaning.specs.Layout.{Slot, Known}
use Rattle.semantics.specs.Sight.{holds_null, held_reference, in_range, elements_of}
use Rattle.semantics.specs.Value.{outcome_then}
use Rattle.semantics.specs.Variable.{Variable, Statics, assign}
use Rattle.code_meaning.specs.Slots.{Slots, Shows, ShowsSlot, static_index, visible_to}
use Rattle.code_meaning.proofs.StaticLaws.{shows_still}
use Rattle.machine_steps.proofs.Changes.{array_of}
use Rattle.semantics_safety.specs.Owners.{Owners}
use Rattle.machine_scenes.specs.StoreAgrees.{MayChange}

-- what the slots show, where the statics are as they were
module _ (own : Owners) (shared shared' : Shared) (statics : shared'.statics ≡ shared.statics) (s : source.Thread) where
  nulls : (x : Identifier) → (visible_to own shared' s).sight.is_null x ≡ (visible_to own shared s).sight.is_null x
  nulls x = ap (λ (ss : Statics). holds_null (lookup x s.variables) (lookup x ss)) statics

  referred : (x : Identifier) → (visible_to own shared' s).sight.reference x ≡ (visible_to own shared s).sight.reference x
  referred x = ap (λ (ss : Statics). held_reference (lookup x s.variables) (lookup x ss)) statics

  slot_stays : (x : Identifier) (slots : Slots) (slot : Slot) (of : ExprType) → ShowsSlot (visible_to own shared s) x slots slot of → ShowsSlot (visible_to own shared' s) x slots slot of
  slot_stays x slots slot types.Word h = record { value = h.value; is = h.is; kind = h.kind; ty = h.ty; word = h.word }
  slot_stays x slots slot types.Jint h = record { value = h.value; is = h.is; kind = h.kind; ty = h.ty; word = h.word }
  slot_stays x slots slot types.Flag h = record { value = h.value; is = h.is; kind = h.kind; ty = h.ty; word = h.word }
  slot_stays x slots slot types.Truth h = h
  slot_stays x slots slot types.Ref h = record { reference = h.reference; is = referred x ∙ h.is; is_null = nulls x ∙ h.is_null; no_number = h.no_number; kind = h.kind; there = h.there; owner = h.owner }
  slot_stays x slots slot types.Global h = record {
    static = record { place = ap (static_index x) statics ∙ h.static.place; held = h.static.held; there = ap (lookup x) statics ∙ h.static.there };
    no_variable = record { number = h.no_variable.number; array_type = h.no_variable.array_type; kind = h.no_variable.kind };
    is_null = nulls x ∙ h.is_null;
    reference = referred x ∙ h.reference;
  }
  slot_stays x slots slot types.Weak h = record {
    static = record { place = ap (static_index x) statics ∙ h.static.place; held = h.static.held; there = ap (lookup x) statics ∙ h.static.there };
    no_variable = record { number = h.no_variable.number; array_type = h.no_variable.array_type; kind = h.no_variable.kind };
    is_null = nulls x ∙ h.is_null;
    reference = referred x ∙ h.reference;
  }
  slot_stays x slots slot types.FieldId h = record { field = h.field; is = h.is; is_null = nulls x ∙ h.is_null; no_number = h.no_number; kind = h.kind; there = h.there }
  slot_stays x slots slot types.MethodId h = record { method = h.method; is = h.is; is_null = nulls x ∙ h.is_null; no_number = h.no_number; kind = h.kind; there = h.there }
  slot_stays x slots slot (types.Buffer t writable) h = record { buffer = h.buffer; is = h.is; is_null = nulls x ∙ h.is_null; kind = h.kind; there = h.there }
  slot_stays x slots slot (types.Array t size) h =
      let array = array_of (lookup x s.variables) t h.array_type in
      let same : (i : ℕ) → (visible_to own shared' s).sight.element x i ≡ (visible_to own shared s).sight.element x i = λ i.
      ap (λ (o : Option Variable). outcome_then (λ (zs : List ℤ). in_range (slice_get zs i)) (elements_of shared'.heap o)) array.1
      ∙ sym (ap (λ (o : Option Variable). outcome_then (λ (zs : List ℤ). in_range (slice_get zs i)) (elements_of shared.heap o)) array.1) in
      record {
        few = h.few;
        array_type = h.array_type;
        elements = λ i below. let e = h.elements i below in record { number = e.number; is = same i ∙ e.is; fits = e.fits; word = e.word };
        past = λ i above. same i ∙ h.past i above;
      }

  shows_same : (code : Listing) (known : Known) (slots : Slots) → Shows code known (visible_to own shared s) slots → Shows code known (visible_to own shared' s) slots
  shows_same code known slots h = record { numbers = h.numbers; references = h.references; owners = h.owners; fields = h.fields; buffers = h.buffers; each = λ x slot at. slot_stays x slots slot slot.ty (h.each x slot at) }

-- where one of them may hold something else
pub shows_stay : (own : Owners) (shared shared' : Shared) → MayChange shared.statics shared'.statics → (s : source.Thread) (code : Listing) (known : Known) (slots : Slots) → Shows code known (visible_to own shared s) slots → Shows code known (visible_to own shared' s) slots
shows_stay own shared shared' (inl same) s code known slots h = shows_same own shared shared' same s code known slots h
shows_stay own shared shared' (inr (x, r, is)) s code known slots h = shows_same own (record shared { statics = assign x r shared.statics }) shared' is s code known slots (shows_still own shared s x r code known slots h)
