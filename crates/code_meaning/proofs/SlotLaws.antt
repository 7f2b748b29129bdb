-- What the slots show once a variable is set.
use Rattle.std.proofs.Common.{◌≡◌, ◌≢◌, ℕ, ℤ, pos, lit<, ◌+◌, ◌<◌, ◌≤◌, Bool, true, false, List, ◌∷◌, length, Option, Some, None, refl, sym, ap, ◌∙◌, subst, arith, if◌then◌else◌}
use Rattle.std.specs.Prelude.{slice_get, slice_set, nat_lt, ◌==◌, FitsSigned}
use Rattle.std.specs.Int.{w32, cast_unsigned}
use Rattle.std.specs.Option.{option_map}
use Rattle.std.specs.Str.{bytes_eq}
use Rattle.std.proofs.lemmas.List.{length-set}
use Rattle.std.proofs.lemmas.Bool.{ltb-true, ltb-false, eqb-true}
use Rattle.std.proofs.lemmas.Slice.Eq.{bytes_eq-Decides}
use Rattle.std.proofs.lemmas.Bool.Decides.{not_from_Decides, Decides-eqb}
use Rattle.base.specs.Bytes.{Identifier, lookup}
use Rattle.base.specs.declared.element.ElementType.{ElementType}
use Rattle.base.proofs.Lists.{get_set_other, get_set_same}
use Rattle.type_rules.specs.declared.ty.ExprType.{ExprType}
use Rattle.type_rules.specs.declared.ty.ExprType.TheVariants.{Jint, Ref, Global, Weak, FieldId, MethodId, Buffer, Array}
use Rattle.type_rules.specs.declared.ty.ExprType.TheVariants as types
use Rattle.type_rules.specs.TypeGroups.{IsNumberType}
use Rattle.class_rules.specs.Fields as source
use Rattle.semantics.specs.Method as method
use Rattle.semantics.specs.Object.{Reference}
use Rattle.semantics.specs.declared.variable_kind.VariableKind.{VariableKind}
use Rattle.semantics.specs.declared.variable_kind.VariableKind.TheVariants as kinds
use Rattle.semantics.specs.declared.value.Value.{Value}
use Rattle.semantics.specs.Value.{Gives, convert}
use Rattle.semantics.specs.Variable as variable
use Rattle.semantics.specs.Variable.{NoBuffer, StaticReference, Empty, Statics, as_argument, assign}
use Rattle.code.specs.declared.instr.NullableVariable.{NullableVariable}
use Rattle.code.specs.declared.instr.NullableVariable.TheVariants as nullable
use Rattle.code.specs.Depth.{Listing}
use Rattle.code.specs.Effect.{cleared}
use Rattle.code.proofs.Arrays.{cleared_element, cleared_before, cleared_after}
use Rattle.code_meaning.specs.Layout.{Slot, Known}
use Rattle.code_meaning.specs.Coding.{nullable_of}
use Rattle.code_meaning.specs.Slots.{word_of, ValueHasType, Visible, IsAsBefore, OthersStay, IsSet, IsNulled, IsReferred, IsFieldSet, IsMethodSet, IsBufferSet, IsMade, IsElementSet, IsHeld, HasNoVariable, is_empty, nulled_statics, static_index, Handle, OfField, OfMethod, Slots, ShowsNumber, ShowsElement, ShowsStatic, ShowsSlot, Shows, with_null}
use Rattle.code_meaning.specs.Fits.{IsPlaceOf, IsBufferType, IsHandleType, IsOwn, IndexWithin, IsStaticType}
use Rattle.code_meaning.specs.Stands.{AreAmong, IsSlotOf}
use Rattle.code_meaning.proofs.StaticPlaces.{StaticStays, statics_stay, assigned_stays, assigned_place, assigned_held}

-- ---- names

-- the name that is looked for is the first, or it comes later
pub first_or_after : (x y : Identifier) (s t : Slot) (known : Known) → (P : Type 0) → (y ≡ x → s ≡ t → P) → (y ≢ x → lookup y known ≡ Some t → P) → lookup y ((x, s) ∷ known) ≡ Some t → P
first_or_after x y s t known P here further at =
    elim (bytes_eq y x) as (λ b. bytes_eq y x ≡ b → (if b then Some s else lookup y known) ≡ Some t → P) [
      | true ↦ λ e h. here ((bytes_eq-Decides y x).0 e) cc
      | false ↦ λ e h. further (not_from_Decides (bytes_eq y x) (bytes_eq-Decides y x) e) h
    ] refl at

-- a name that has the slot already is among the others
pub known_among : (x : Identifier) (s : Slot) (known : Known) → lookup x known ≡ Some s → AreAmong known ((x, s) ∷ known)
known_among x s known at y t h =
    elim (bytes_eq y x) as (λ b. bytes_eq y x ≡ b → (if b then Some s else lookup y known) ≡ Some t) [
      | true ↦ λ e. sym at ∙ ap (λ (z : Identifier). lookup z known) (sym ((bytes_eq-Decides y x).0 e)) ∙ h
      | false ↦ λ e. h
    ] refl

-- and those with it among them
pub known_again : (x : Identifier) (s : Slot) (known : Known) → lookup x known ≡ Some s → AreAmong ((x, s) ∷ known) known
known_again x s known at y t h =
    first_or_after x y s t known (lookup y known ≡ Some t) (λ same is. ap (λ (z : Identifier). lookup z known) same ∙ at ∙ ap (λ (q : Slot). Some q) is) (λ other there. there) h

-- so are names that have not this one
pub new_among : (x : Identifier) (s : Slot) (known : Known) → lookup x known ≡ None → AreAmong known ((x, s) ∷ known)
new_among x s known new y t h =
    elim (bytes_eq y x) as (λ b. bytes_eq y x ≡ b → (if b then Some s else lookup y known) ≡ Some t) [
      | true ↦ λ e. absurd (let none : lookup y known ≡ None = ap (λ (z : Identifier). lookup z known) ((bytes_eq-Decides y x).0 e) ∙ new in let c : Some t ≡ None = sym h ∙ none in cc)
      | false ↦ λ e. h
    ] refl

pub all_among : (known : Known) → AreAmong known known
all_among known x s h = h

pub fewer_shown : (code : Listing) (names known : Known) (visible : Visible) (slots : Slots) → AreAmong names known → Shows code known visible slots → Shows code names visible slots
fewer_shown code names known visible slots among shows = record { numbers = shows.numbers; references = shows.references; owners = shows.owners; fields = shows.fields; buffers = shows.buffers; each = λ x s at. shows.each x s (among x s at) }

-- ---- what stays

number_place_at : (kind : ExprType) (i : ℕ) → IsNumberType kind → IsPlaceOf (record { ty = kind; index = i }) i
number_place_at types.Word i h = (omega arith, omega arith)
number_place_at Jint i h = (omega arith, omega arith)
number_place_at types.Flag i h = (omega arith, omega arith)
number_place_at kind i h = absurd h

pub number_place : (s : Slot) → IsNumberType s.ty → IsPlaceOf s s.index
number_place s h = number_place_at s.ty s.index h

-- a local reference stays in its slot, with its level
abbrev pub ReferenceStays : (slots slots' : Slots) (i : ℕ) → Type 0
ReferenceStays slots slots' i = (slice_get slots'.references i ≡ slice_get slots.references i) × (slice_get slots'.owners i ≡ slice_get slots.owners i)

module _ (old new : Visible) (x : Identifier) (slots slots' : Slots) (same : IsAsBefore old new x) where
  number_stays : (kind : ExprType) (i : ℕ) → slice_get slots'.numbers i ≡ slice_get slots.numbers i → ShowsNumber old x slots.numbers (record { ty = kind; index = i }) → ShowsNumber new x slots'.numbers (record { ty = kind; index = i })
  number_stays kind i word h = record { value = h.value; is = same.number ∙ h.is; kind = same.kind ∙ h.kind; ty = h.ty; word = word ∙ h.word }

  pub slot_stays : (kind : ExprType) (i : ℕ) → ((k : ℕ) → IsPlaceOf (record { ty = kind; index = i }) k → slice_get slots'.numbers k ≡ slice_get slots.numbers k) → (kind ≡ Ref → ReferenceStays slots slots' i) → (IsHandleType kind → slice_get slots'.fields i ≡ slice_get slots.fields i)
      → (IsBufferType kind → slice_get slots'.buffers i ≡ slice_get slots.buffers i) → (IsStaticType kind → StaticStays old.statics new.statics x) → ShowsSlot old x slots (record { ty = kind; index = i }) kind → ShowsSlot new x slots' (record { ty = kind; index = i }) kind
  slot_stays types.Word i numbers references fields buffers statics h = number_stays types.Word i (numbers i (omega arith, omega arith)) h
  slot_stays Jint i numbers references fields buffers statics h = number_stays Jint i (numbers i (omega arith, omega arith)) h
  slot_stays types.Flag i numbers references fields buffers statics h = number_stays types.Flag i (numbers i (omega arith, omega arith)) h
  slot_stays types.Truth i numbers references fields buffers statics h = tt
  slot_stays Ref i numbers references fields buffers statics h = record { reference = h.reference; is = same.reference ∙ h.is; is_null = same.is_null ∙ h.is_null; no_number = same.number ∙ h.no_number; kind = same.kind ∙ h.kind; there = (references refl).0 ∙ h.there; owner = λ n level is own. (references refl).1 ∙ h.owner n level is (sym same.owner ∙ own) }
  slot_stays Global i numbers references fields buffers statics h = record {
    static = record { place = (statics tt).place ∙ h.static.place; held = h.static.held; there = (statics tt).there ∙ h.static.there };
    no_variable = record { number = same.number ∙ h.no_variable.number; array_type = same.array_type ∙ h.no_variable.array_type; kind = same.kind ∙ h.no_variable.kind };
    is_null = same.is_null ∙ h.is_null;
    reference = same.reference ∙ h.reference;
  }
  slot_stays Weak i numbers references fields buffers statics h = record {
    static = record { place = (statics tt).place ∙ h.static.place; held = h.static.held; there = (statics tt).there ∙ h.static.there };
    no_variable = record { number = same.number ∙ h.no_variable.number; array_type = same.array_type ∙ h.no_variable.array_type; kind = same.kind ∙ h.no_variable.kind };
    is_null = same.is_null ∙ h.is_null;
    reference = same.reference ∙ h.reference;
  }
  slot_stays FieldId i numbers references fields buffers statics h = record { field = h.field; is = same.field ∙ h.is; is_null = same.is_null ∙ h.is_null; no_number = same.number ∙ h.no_number; kind = same.kind ∙ h.kind; there = fields tt ∙ h.there }
  slot_stays MethodId i numbers references fields buffers statics h = record { method = h.method; is = same.method ∙ h.is; is_null = same.is_null ∙ h.is_null; no_number = same.number ∙ h.no_number; kind = same.kind ∙ h.kind; there = fields tt ∙ h.there }
  slot_stays (Buffer t writable) i numbers references fields buffers statics h = record { buffer = h.buffer; is = same.buffer ∙ h.is; is_null = same.is_null ∙ h.is_null; kind = same.kind ∙ h.kind; there = buffers tt ∙ h.there }
  slot_stays (Array t size) i numbers references fields buffers statics h = record {
    few = h.few;
    array_type = same.array_type ∙ h.array_type;
    elements = λ k below.
        let element = h.elements k below in
        record { number = element.number; is = same.element t k h.array_type ∙ element.is; fits = element.fits; word = numbers (i + k) (omega arith, omega arith) ∙ element.word };
    past = λ k above. same.element t k h.array_type ∙ h.past k above;
  }

-- A name has this slot, which it shows, and the others are as they were.
module _ (code : Listing) (known : Known) (old new : Visible) (slots slots' : Slots) (x : Identifier) (s : Slot) (shows : Shows code known old slots) (own : IsOwn known x s) (others : OthersStay old new x) (statics : (y : Identifier) → y ≢ x → StaticStays old.statics new.statics y) where
  pub with_changed : length slots'.numbers ≡ length slots.numbers → length slots'.references ≡ length slots.references → length slots'.owners ≡ length slots.owners → length slots'.fields ≡ length slots.fields → ((k : ℕ) → (IsPlaceOf s k → ⊥) → slice_get slots'.numbers k ≡ slice_get slots.numbers k)
      → ((i : ℕ) → (s.ty ≡ Ref → i ≢ s.index) → ReferenceStays slots slots' i)
      → ((i : ℕ) → (IsHandleType s.ty → i ≢ s.index) → slice_get slots'.fields i ≡ slice_get slots.fields i)
      → length slots'.buffers ≡ length slots.buffers → ((i : ℕ) → (IsBufferType s.ty → i ≢ s.index) → slice_get slots'.buffers i ≡ slice_get slots.buffers i) → ShowsSlot new x slots' s s.ty → Shows code ((x, s) ∷ known) new slots'
  with_changed numbers references owners fields number reference field buffers buffer here = record {
    numbers = numbers ∙ shows.numbers;
    references = references ∙ shows.references;
    owners = owners ∙ shows.owners;
    fields = fields ∙ shows.fields;
    buffers = buffers ∙ shows.buffers;
    each = λ y t at.
        first_or_after x y s t known (ShowsSlot new y slots' t t.ty)
        (λ same is. subst (λ (z : Identifier). ShowsSlot new z slots' t t.ty) (sym same) (subst (λ (r : Slot). ShowsSlot new x slots' r r.ty) is here))
        (λ other h.
        let apart = own y t h other in
        slot_stays old new y slots slots' (others y other) t.ty t.index
        (λ k p. number k (λ q. apart.numbers k p q))
        (λ e. reference t.index (λ e'. apart.references e e'))
        (λ e. field t.index (λ e'. apart.fields e e'))
        (λ e. buffer t.index (λ e'. apart.buffers e e'))
        (λ e. statics y other)
        (shows.each y t h)) at;
  }

-- ---- a number variable is set

number_shown : (visible : Visible) (x : Identifier) (slots : Slots) (s : Slot) (kind : ExprType) → IsNumberType kind → ShowsNumber visible x slots.numbers s → ShowsSlot visible x slots s kind
number_shown visible x slots s types.Word n h = h
number_shown visible x slots s Jint n h = h
number_shown visible x slots s types.Flag n h = h
number_shown visible x slots s kind n h = absurd n

place_within : (code : Listing) (kind : ExprType) (i : ℕ) → IsNumberType kind → IndexWithin code.slots kind i → i < code.slots.numbers
place_within code types.Word i n h = h
place_within code Jint i n h = h
place_within code types.Flag i n h = h
place_within code kind i n h = absurd n

pub number_below : (code : Listing) (known : Known) (x : Identifier) (s : Slot) → IsNumberType s.ty → IsSlotOf code known x s → s.index < code.slots.numbers
number_below code known x s n own = place_within code s.ty s.index n own.within

pub shows_set : (code : Listing) (known : Known) (old new : Visible) (slots : Slots) (x : Identifier) (s : Slot) (v : Value) → Shows code known old slots → IsSlotOf code known x s → IsNumberType s.ty → ValueHasType v s.ty → IsSet old x v new
    → Shows code ((x, s) ∷ known) new (record slots { numbers = slice_set slots.numbers s.index (word_of v) })
shows_set code known old new slots x s v shows own n fits set =
    let below : s.index < length slots.numbers = omega (arith, number_below code known x s n own, shows.numbers) in
    with_changed code known old new slots (record slots { numbers = slice_set slots.numbers s.index (word_of v) }) x s shows own.own set.others (λ y other. statics_stay old.statics new.statics set.statics y)
    (length-set slots.numbers s.index (word_of v)) refl refl refl
    (λ k outside. get_set_other slots.numbers s.index k (word_of v) (λ e. outside (subst (IsPlaceOf s) (sym e) (number_place s n))))
    (λ i other. (refl, refl)) (λ i other. refl) refl (λ i other. refl)
    (number_shown new x (record slots { numbers = slice_set slots.numbers s.index (word_of v) }) s s.ty n (record { value = v; is = set.is; kind = set.kind; ty = fits; word = get_set_same slots.numbers s.index (word_of v) below }))

-- ---- a local reference, a field ID or a method ID is set

-- a reference is written, and its level, if it is an object and the variable's own
with_reference : (code : Listing) (known : Known) (old new : Visible) (slots : Slots) (x : Identifier) (i : ℕ) (r : Reference) (owners : List (Option ℕ)) → Shows code known old slots → IsSlotOf code known x (record { ty = Ref; index = i }) → IsReferred old x r new → length owners ≡ length slots.owners
    → ((j : ℕ) → j ≢ i → slice_get owners j ≡ slice_get slots.owners j) → ((n level : ℕ) → r ≡ Some n → new.owner x ≡ Some level → slice_get owners i ≡ Some (Some level))
    → Shows code ((x, record { ty = Ref; index = i }) ∷ known) new (record slots { references = slice_set slots.references i r; owners = owners })
with_reference code known old new slots x i r owners shows own set count others owner =
    let below : i < length slots.references = omega (arith, own.within, shows.references) in
    with_changed code known old new slots (record slots { references = slice_set slots.references i r; owners = owners }) x (record { ty = Ref; index = i }) shows own.own set.others (λ y other. statics_stay old.statics new.statics set.statics y)
    refl (length-set slots.references i r) count refl (λ k outside. refl) (λ j other. (get_set_other slots.references i j r (other refl), others j (other refl))) (λ j other. refl) refl (λ j other. refl)
    (record { reference = r; is = set.reference; is_null = set.is_null; no_number = set.number; kind = set.kind; there = get_set_same slots.references i r below; owner = owner })

pub shows_referred : (code : Listing) (known : Known) (old new : Visible) (slots : Slots) (x : Identifier) (i : ℕ) (r : Reference) → Shows code known old slots → IsSlotOf code known x (record { ty = Ref; index = i }) → IsReferred old x r new
    → Shows code ((x, record { ty = Ref; index = i }) ∷ known) new (record slots { references = slice_set slots.references i r; owners = slice_set slots.owners i (new.owner x) })
shows_referred code known old new slots x i r shows own set =
    let below : i < length slots.owners = omega (arith, own.within, shows.owners) in
    with_reference code known old new slots x i r (slice_set slots.owners i (new.owner x)) shows own set (length-set slots.owners i (new.owner x)) (λ j other. get_set_other slots.owners i j (new.owner x) other) (λ n level is owner. get_set_same slots.owners i (new.owner x) below ∙ ap (λ (o : Option ℕ). Some o) owner)

pub shows_field_set : (code : Listing) (known : Known) (old new : Visible) (slots : Slots) (x : Identifier) (i : ℕ) (f : Option source.FieldId) → Shows code known old slots → IsSlotOf code known x (record { ty = FieldId; index = i }) → IsFieldSet old x f new
    → Shows code ((x, record { ty = FieldId; index = i }) ∷ known) new (record slots { fields = slice_set slots.fields i (option_map OfField f) })
shows_field_set code known old new slots x i f shows own set =
    let h : Option Handle = option_map OfField f in
    let below : i < length slots.fields = omega (arith, own.within, shows.fields) in
    with_changed code known old new slots (record slots { fields = slice_set slots.fields i h }) x (record { ty = FieldId; index = i }) shows own.own set.others (λ y other. statics_stay old.statics new.statics set.statics y)
    refl refl refl (length-set slots.fields i h) (λ k outside. refl) (λ j other. (refl, refl)) (λ j other. get_set_other slots.fields i j h (other tt)) refl (λ j other. refl)
    (record { field = f; is = set.field; is_null = set.is_null; no_number = set.number; kind = set.kind; there = get_set_same slots.fields i h below })

pub shows_method_set : (code : Listing) (known : Known) (old new : Visible) (slots : Slots) (x : Identifier) (i : ℕ) (m : Option method.MethodId) → Shows code known old slots → IsSlotOf code known x (record { ty = MethodId; index = i }) → IsMethodSet old x m new
    → Shows code ((x, record { ty = MethodId; index = i }) ∷ known) new (record slots { fields = slice_set slots.fields i (option_map OfMethod m) })
shows_method_set code known old new slots x i m shows own set =
    let h : Option Handle = option_map OfMethod m in
    let below : i < length slots.fields = omega (arith, own.within, shows.fields) in
    with_changed code known old new slots (record slots { fields = slice_set slots.fields i h }) x (record { ty = MethodId; index = i }) shows own.own set.others (λ y other. statics_stay old.statics new.statics set.statics y)
    refl refl refl (length-set slots.fields i h) (λ k outside. refl) (λ j other. (refl, refl)) (λ j other. get_set_other slots.fields i j h (other tt)) refl (λ j other. refl)
    (record { method = m; is = set.method; is_null = set.is_null; no_number = set.number; kind = set.kind; there = get_set_same slots.fields i h below })

-- ---- a buffer is set

pub shows_buffer_set : (code : Listing) (known : Known) (old new : Visible) (slots : Slots) (x : Identifier) (t : ElementType) (writable : Bool) (i : ℕ) (b : variable.Buffer) → Shows code known old slots → IsSlotOf code known x (record { ty = Buffer t writable; index = i })
    → IsBufferSet old t x b new → Shows code ((x, record { ty = Buffer t writable; index = i }) ∷ known) new (record slots { buffers = slice_set slots.buffers i b })
shows_buffer_set code known old new slots x t writable i b shows own set =
    let below : i < length slots.buffers = omega (arith, own.within, shows.buffers) in
    with_changed code known old new slots (record slots { buffers = slice_set slots.buffers i b }) x (record { ty = Buffer t writable; index = i }) shows own.own set.others (λ y other. statics_stay old.statics new.statics set.statics y)
    refl refl refl refl (λ k outside. refl) (λ j other. (refl, refl)) (λ j other. refl) (length-set slots.buffers i b) (λ j other. get_set_other slots.buffers i j b (other tt))
    (record { buffer = b; is = set.buffer; is_null = set.is_null; kind = set.kind; there = get_set_same slots.buffers i b below })

-- one that has its slot already
pub shows_buffer_again : (code : Listing) (known : Known) (old new : Visible) (slots : Slots) (x : Identifier) (t : ElementType) (writable : Bool) (i : ℕ) (b : variable.Buffer) → Shows code known old slots → lookup x known ≡ Some (record { ty = Buffer t writable; index = i })
    → IsSlotOf code known x (record { ty = Buffer t writable; index = i }) → IsBufferSet old t x b new → Shows code known new (record slots { buffers = slice_set slots.buffers i b })
shows_buffer_again code known old new slots x t writable i b shows at own set =
    fewer_shown code known ((x, record { ty = Buffer t writable; index = i }) ∷ known) new (record slots { buffers = slice_set slots.buffers i b }) (known_among x (record { ty = Buffer t writable; index = i }) known at)
    (shows_buffer_set code known old new slots x t writable i b shows own set)

-- ---- a static holds something else

others_assigned : (old new : Visible) (x y : Identifier) (h : StaticReference) → new.statics ≡ assign x h old.statics → y ≢ x → StaticStays old.statics new.statics y
others_assigned old new x y h is other =
    let stays = assigned_stays x y h old.statics other in
    record { place = ap (static_index y) is ∙ stays.place; there = ap (λ (ss : Statics). lookup y ss) is ∙ stays.there }

-- the static that is assigned shows what it holds then
static_holds : (old new : Visible) (x : Identifier) (i : ℕ) (h : StaticReference) → ShowsStatic old x i → new.statics ≡ assign x h old.statics → HasNoVariable new x → new.sight.is_null x ≡ Gives (is_empty h) → new.sight.reference x ≡ as_argument h → ShowsStatic new x i
static_holds old new x i h shown is none is_null reference =
    record {
      static = record { place = ap (static_index x) is ∙ assigned_place x h i old.statics shown.static.place; held = h; there = ap (λ (ss : Statics). lookup x ss) is ∙ assigned_held x h old.statics };
      no_variable = none;
      is_null = is_null;
      reference = reference;
    }

-- a name that no variable has is known as a static, if at all
no_variable_shown : (old new : Visible) (x : Identifier) (slots : Slots) (h : StaticReference) (s : Slot) (kind : ExprType) → IsHeld old x h new → ShowsSlot old x slots s kind → ShowsSlot new x slots s kind
no_variable_shown old new x slots h s types.Word held shown = absurd (let e : Some kinds.Number ≡ None = sym shown.kind ∙ held.before.kind in cc)
no_variable_shown old new x slots h s Jint held shown = absurd (let e : Some kinds.Number ≡ None = sym shown.kind ∙ held.before.kind in cc)
no_variable_shown old new x slots h s types.Flag held shown = absurd (let e : Some kinds.Number ≡ None = sym shown.kind ∙ held.before.kind in cc)
no_variable_shown old new x slots h s types.Truth held shown = tt
no_variable_shown old new x slots h s Ref held shown = absurd (let e : Some kinds.Reference ≡ None = sym shown.kind ∙ held.before.kind in cc)
no_variable_shown old new x slots h s Global held shown = static_holds old new x s.index h shown held.statics held.after held.is_null held.reference
no_variable_shown old new x slots h s Weak held shown = static_holds old new x s.index h shown held.statics held.after held.is_null held.reference
no_variable_shown old new x slots h s FieldId held shown = absurd (let e : Some kinds.Field ≡ None = sym shown.kind ∙ held.before.kind in cc)
no_variable_shown old new x slots h s MethodId held shown = absurd (let e : Some kinds.Method ≡ None = sym shown.kind ∙ held.before.kind in cc)
no_variable_shown old new x slots h s (Buffer t writable) held shown = absurd (let e : Some (kinds.Buffer t) ≡ None = sym shown.kind ∙ held.before.kind in cc)
no_variable_shown old new x slots h s (Array t size) held shown = absurd (let e : Some t ≡ None = sym shown.array_type ∙ held.before.array_type in cc)

-- the slots show each known name still, once a static holds something else
pub static_changes : (code : Listing) (known : Known) (old new : Visible) (slots : Slots) (x : Identifier) (h : StaticReference) → Shows code known old slots → IsHeld old x h new → Shows code known new slots
static_changes code known old new slots x h shows held = record {
  numbers = shows.numbers;
  references = shows.references;
  owners = shows.owners;
  fields = shows.fields;
  buffers = shows.buffers;
  each = λ y s at.
      elim (bytes_eq y x) as (λ b. bytes_eq y x ≡ b → ShowsSlot new y slots s s.ty) [
        | true ↦ λ e.
            let same : y ≡ x = (bytes_eq-Decides y x).0 e in
            subst (λ (z : Identifier). ShowsSlot new z slots s s.ty) (sym same) (no_variable_shown old new x slots h s s.ty held (subst (λ (z : Identifier). ShowsSlot old z slots s s.ty) same (shows.each y s at)))
        | false ↦ λ e.
            let other : y ≢ x = not_from_Decides (bytes_eq y x) (bytes_eq-Decides y x) e in
            slot_stays old new y slots slots (held.others y other) s.ty s.index (λ k p. refl) (λ r. (refl, refl)) (λ r. refl) (λ b. refl) (λ r. others_assigned old new x y h held.statics other) (shows.each y s at)
      ] refl;
}

-- ---- a variable is made NULL

-- the kind of what can be NULL; a static, which has none, is there at its place
abbrev pub KindFits : Visible → Identifier → (i : ℕ) → ExprType → Option VariableKind → Type 0
KindFits visible x i Ref kind = kind ≡ Some kinds.Reference
KindFits visible x i Global kind = (kind ≡ None) × ShowsStatic visible x i
KindFits visible x i Weak kind = (kind ≡ None) × ShowsStatic visible x i
KindFits visible x i FieldId kind = kind ≡ Some kinds.Field
KindFits visible x i MethodId kind = kind ≡ Some kinds.Method
KindFits visible x i (Buffer t writable) kind = kind ≡ Some (kinds.Buffer t)
KindFits visible x i s kind = Unit {0}

-- the statics stay where NULL goes to a variable of some kind
nulled_stay : (old new : Visible) (x : Identifier) (kind : Option VariableKind) (k : VariableKind) → kind ≡ Some k → new.statics ≡ nulled_statics kind x old.statics → new.statics ≡ old.statics
nulled_stay old new x kind k is same = same ∙ ap (λ (o : Option VariableKind). nulled_statics o x old.statics) is

pub shows_nulled : (code : Listing) (known : Known) (old new : Visible) (slots : Slots) (x : Identifier) (s : ExprType) (kind : Option VariableKind) (i : ℕ) (variable : NullableVariable) → Shows code known old slots → IsSlotOf code known x (record { ty = s; index = i }) → nullable_of s i ≡ Some variable
    → KindFits old x i s kind → IsNulled old kind x new → Shows code ((x, record { ty = s; index = i }) ∷ known) new (with_null variable slots)
shows_nulled code known old new slots x Ref kind i variable shows own same e set =
    let is : nullable.Local i ≡ variable = cc in
    subst (λ v. Shows code ((x, record { ty = Ref; index = i }) ∷ known) new (with_null v slots)) is
    (with_reference code known old new slots x i None slots.owners shows own (record { number = set.number; is_null = set.is_null; reference = set.reference; kind = set.same_kind ∙ e; statics = nulled_stay old new x kind kinds.Reference e set.statics; others = set.others }) refl (λ j other. refl) (λ n level is owner. absurd (let c : None ≡ Some n = is in cc)))
shows_nulled code known old new slots x Global kind i variable shows own same e set =
    let is : nullable.Static i ≡ variable = cc in
    let assigned : new.statics ≡ assign x Empty old.statics = set.statics ∙ ap (λ (o : Option VariableKind). nulled_statics o x old.statics) e.0 in
    subst (λ v. Shows code ((x, record { ty = Global; index = i }) ∷ known) new (with_null v slots)) is
    (with_changed code known old new slots slots x (record { ty = Global; index = i }) shows own.own set.others (λ y other. others_assigned old new x y Empty assigned other) refl refl refl refl (λ k outside. refl) (λ j other. (refl, refl)) (λ j other. refl) refl (λ j other. refl)
    (static_holds old new x i Empty e.1 assigned (record { number = set.number; array_type = set.array_type; kind = set.same_kind ∙ e.0 }) set.is_null set.reference))
shows_nulled code known old new slots x Weak kind i variable shows own same e set =
    let is : nullable.Static i ≡ variable = cc in
    let assigned : new.statics ≡ assign x Empty old.statics = set.statics ∙ ap (λ (o : Option VariableKind). nulled_statics o x old.statics) e.0 in
    subst (λ v. Shows code ((x, record { ty = Weak; index = i }) ∷ known) new (with_null v slots)) is
    (with_changed code known old new slots slots x (record { ty = Weak; index = i }) shows own.own set.others (λ y other. others_assigned old new x y Empty assigned other) refl refl refl refl (λ k outside. refl) (λ j other. (refl, refl)) (λ j other. refl) refl (λ j other. refl)
    (static_holds old new x i Empty e.1 assigned (record { number = set.number; array_type = set.array_type; kind = set.same_kind ∙ e.0 }) set.is_null set.reference))
shows_nulled code known old new slots x FieldId kind i variable shows own same e set =
    let is : nullable.FieldId i ≡ variable = cc in
    subst (λ v. Shows code ((x, record { ty = FieldId; index = i }) ∷ known) new (with_null v slots)) is
    (shows_field_set code known old new slots x i None shows own (record { number = set.number; is_null = set.is_null; field = set.field; kind = set.same_kind ∙ e; statics = nulled_stay old new x kind kinds.Field e set.statics; others = set.others }))
shows_nulled code known old new slots x MethodId kind i variable shows own same e set =
    let is : nullable.FieldId i ≡ variable = cc in
    subst (λ v. Shows code ((x, record { ty = MethodId; index = i }) ∷ known) new (with_null v slots)) is
    (shows_method_set code known old new slots x i None shows own (record { number = set.number; is_null = set.is_null; method = set.method; kind = set.same_kind ∙ e; statics = nulled_stay old new x kind kinds.Method e set.statics; others = set.others }))
shows_nulled code known old new slots x (Buffer t writable) kind i variable shows own same e set =
    let is : nullable.Buffer i ≡ variable = cc in
    subst (λ v. Shows code ((x, record { ty = Buffer t writable; index = i }) ∷ known) new (with_null v slots)) is
    (shows_buffer_set code known old new slots x t writable i NoBuffer shows own (record { buffer = set.buffer; is_null = set.is_null; kind = set.same_kind ∙ e; statics = nulled_stay old new x kind (kinds.Buffer t) e set.statics; others = set.others }))
shows_nulled code known old new slots x s kind i variable shows own same e set = absurd (cc)

-- ---- a local array

-- a slot that is none of an array's is in front of it or after it
outside_array : (t : ElementType) (size start k : ℕ) → (IsPlaceOf (record { ty = Array t size; index = start }) k → ⊥) → (b : Bool) → nat_lt k start ≡ b → start ≤ k → start + size ≤ k
outside_array t size start k outside true h above = absurd (let below = ltb-true k start h in omega arith)
outside_array t size start k outside false h above =
    elim (nat_lt k (start + size)) as (λ b. nat_lt k (start + size) ≡ b → start + size ≤ k) [
      | true ↦ λ e. absurd (outside (above, ltb-true k (start + size) e))
      | false ↦ λ e. ltb-false k (start + size) e
    ] refl

cleared_outside : (t : ElementType) (size start k : ℕ) (numbers : List ℕ) → start + size ≤ length numbers → (IsPlaceOf (record { ty = Array t size; index = start }) k → ⊥) → (b : Bool) → nat_lt k start ≡ b
    → slice_get (cleared (record { start = start; len = size }) numbers) k ≡ slice_get numbers k
cleared_outside t size start k numbers inside outside true h = cleared_before (record { start = start; len = size }) numbers inside k (ltb-true k start h)
cleared_outside t size start k numbers inside outside false h =
    let above : start ≤ k = ltb-false k start h in
    cleared_after (record { start = start; len = size }) numbers inside k (outside_array t size start k outside false h above)

pub shows_made : (code : Listing) (known : Known) (old new : Visible) (slots : Slots) (t : ElementType) (x : Identifier) (size start : ℕ) → Shows code known old slots → IsSlotOf code known x (record { ty = Array t size; index = start })
    → length (cleared (record { start = start; len = size }) slots.numbers) ≡ length slots.numbers → IsMade old t x size new
    → Shows code ((x, record { ty = Array t size; index = start }) ∷ known) new (record slots { numbers = cleared (record { start = start; len = size }) slots.numbers })
shows_made code known old new slots t x size start shows own keeps made =
    let inside : start + size ≤ length slots.numbers = omega (arith, own.within.2, shows.numbers) in
    with_changed code known old new slots (record slots { numbers = cleared (record { start = start; len = size }) slots.numbers }) x (record { ty = Array t size; index = start }) shows own.own made.others (λ y other. statics_stay old.statics new.statics made.statics y)
    keeps refl refl refl
    (λ k outside. cleared_outside t size start k slots.numbers inside outside (nat_lt k start) refl)
    (λ i other. (refl, refl)) (λ i other. refl) refl (λ i other. refl)
    (record {
      few = own.within.1;
      array_type = made.array_type;
      elements = λ k below. record { number = pos 0; is = made.zeros k below; fits = record { sfits = lit< tt }; word = cleared_element (record { start = start; len = size }) slots.numbers inside k below };
      past = made.past;
    })

-- the element that is written, and another
element_set : (old new : Visible) (numbers : List ℕ) (t : ElementType) (x : Identifier) (start index k : ℕ) (z : ℤ) (word : ℕ) → start + index < length numbers → word ≡ cast_unsigned w32 (convert t z) → FitsSigned w32 (convert t z) → IsElementSet old t x index z new
    → ShowsElement (old.sight.element x k) numbers (start + k) → (b : Bool) → (k == index) ≡ b → ShowsElement (new.sight.element x k) (slice_set numbers (start + index) word) (start + k)
element_set old new numbers t x start index k z word inside is fits set old_element true e =
    let same : k ≡ index = eqb-true k index e in
    subst (λ (n : ℕ). ShowsElement (new.sight.element x n) (slice_set numbers (start + index) word) (start + n)) (sym same)
    (record { number = convert t z; is = set.is; fits = fits; word = get_set_same numbers (start + index) word inside ∙ ap (λ (w : ℕ). Some w) is })
element_set old new numbers t x start index k z word inside is fits set old_element false e =
    let other : k ≢ index = not_from_Decides (k == index) (Decides-eqb k index) e in
    record { number = old_element.number; is = set.elements k other ∙ old_element.is; fits = old_element.fits; word = get_set_other numbers (start + index) (start + k) word (λ s. other (omega (arith, s))) ∙ old_element.word }

-- an element is written
pub shows_element_set : (code : Listing) (known : Known) (old new : Visible) (slots : Slots) (t : ElementType) (x : Identifier) (size start index : ℕ) (z : ℤ) (word : ℕ) → Shows code known old slots → lookup x known ≡ Some (record { ty = Array t size; index = start })
    → IsSlotOf code known x (record { ty = Array t size; index = start }) → index < size → word ≡ cast_unsigned w32 (convert t z) → FitsSigned w32 (convert t z) → IsElementSet old t x index z new
    → Shows code known new (record slots { numbers = slice_set slots.numbers (start + index) word })
shows_element_set code known old new slots t x size start index z word shows at own below is fits set =
    let array = shows.each x (record { ty = Array t size; index = start }) at in
    let inside : start + index < length slots.numbers = omega (arith, own.within.2, shows.numbers, below) in
    fewer_shown code known ((x, record { ty = Array t size; index = start }) ∷ known) new (record slots { numbers = slice_set slots.numbers (start + index) word }) (known_among x (record { ty = Array t size; index = start }) known at)
    (with_changed code known old new slots (record slots { numbers = slice_set slots.numbers (start + index) word }) x (record { ty = Array t size; index = start }) shows own.own set.others (λ y other. statics_stay old.statics new.statics set.statics y)
    (length-set slots.numbers (start + index) word) refl refl refl
    (λ k outside. get_set_other slots.numbers (start + index) k word (λ e. outside (omega (arith, e), omega (arith, e, below))))
    (λ i other. (refl, refl)) (λ i other. refl) refl (λ i other. refl)
    (record {
      few = array.few;
      array_type = set.array_type ∙ array.array_type;
      elements = λ k small. element_set old new slots.numbers t x start index k z word inside is fits set (array.elements k small) (k == index) refl;
      past = λ k above. set.elements k (λ e. omega (arith, e, above, below)) ∙ array.past k above;
    }))
