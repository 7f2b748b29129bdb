-- The operands of a call give what the arguments of the source's call are.
use Rattle.std.proofs.Common.{◌≡◌, ℕ, ℤ, zero, suc, ◌+◌, ◌-◌, ◌<◌, ◌≤◌, List, [], ◌∷◌, length, Option, Some, None, refl, sym, ap, ◌∙◌, subst, arith, length-append}
use Rattle.std.specs.Prelude.{slice_get, FitsSigned}
use Rattle.std.specs.Int.{w32, cast_unsigned}
use Rattle.std.specs.List.{AllByRecursion, AllZip}
use Rattle.std.proofs.lemmas.Bool.{le-leb}
use Rattle.std.proofs.lemmas.Option.{slice_get_within}
use Rattle.base.specs.Bytes.{Identifier, lookup}
use Rattle.base.specs.declared.element.ElementType.{ElementType}
use Rattle.code.specs.declared.instr.LocalArray.{LocalArray as ArraySlots}
use Rattle.code_meaning.specs.Fits.{IsArray, IsStaticIn, IsStaticType}
use Rattle.code_meaning.specs.Layout.{Known}
use Rattle.syntax.specs.Tree.{SourceUnit}
use Rattle.syntax.specs.Views.{unit_tree}
use Rattle.semantics.specs.Sight.{elements_of, in_range}
use Rattle.semantics.specs.Thread as source
use Rattle.semantics.specs.Thread.{Shared}
use Rattle.semantics.specs.declared.trap.Trap.TheVariants.{OutOfRange}
use Rattle.semantics.specs.Value.{Gives, Traps, outcome_then}
use Rattle.semantics.specs.Variable.{Variable, StaticReference, Empty, Live, Weakly, Cleared, Deleted, as_argument}
use Rattle.semantics_safety.specs.Owners.{Owners}
use Rattle.machine_steps.proofs.Changes.{array_of}
use Rattle.class_rules.specs.Class.{Classes}
use Rattle.class_rules.specs.Fields.{FieldId}
use Rattle.type_rules.specs.declared.ty.ExprType.{ExprType}
use Rattle.type_rules.specs.declared.ty.ExprType.TheVariants.{Ref, Global, Weak}
use Rattle.type_rules.specs.declared.ty.ExprType.TheVariants as types
use Rattle.tables.specs.Elements.{OwnedNumbers}
use Rattle.heap.specs.Heap.{Space}
use Rattle.semantics.specs.Method.{MethodId}
use Rattle.semantics.specs.Object.{Reference}
use Rattle.semantics.specs.Arguments.{Actual, FieldActual, MethodActual}
use Rattle.semantics.specs.Task.{Task}
use Rattle.semantics.specs.Thread.{Frame}
use Rattle.code.specs.declared.instr.Operand.{Operand}
use Rattle.code.specs.declared.instr.Operand.TheVariants as operand
use Rattle.code.specs.Depth.{Listing, words_taken, with_fewer}
use Rattle.code_meaning.specs.Slots.{Shows, ShowsStatic, Slots, Visible, visible_to, OfField, OfMethod}
use Rattle.code_meaning.specs.Does as gives
use Rattle.code_meaning.specs.Does.{AllTogether, GivesReference, IsOperand, word_given, words_given}
use Rattle.jni.specs.declared.kinds.ParameterKind.{ParameterKind}
use Rattle.jni.specs.declared.kinds.ParameterKind.TheVariants.{FieldID, MethodID}
use Rattle.code_meaning.specs.Lowered.{Lowered}
use Rattle.machine_scenes.specs.declared.activation.Activation.{Activation}
use Rattle.machine_scenes.specs.FieldIds.{FieldAgrees, HandleAgrees, HandlesAgree, MethodAgrees, field_held, method_held}
use Rattle.machine_scenes.specs.declared.handle.Handle.{Handle}
use Rattle.machine_scenes.specs.declared.handle.Handle.TheVariants as handle
use Rattle.code_meaning.specs.Slots as meant
use Rattle.std.specs.Option.{option_map}
use Rattle.machine_scenes.specs.StoreAgrees.{HeldAgrees, StaticsAgree}
use Rattle.machine_scenes.specs.Statics.{References, held_argument, held_or_null}
use Rattle.machine_scenes.specs.declared.references.Held.{Held}
use Rattle.machine_scenes.specs.declared.references.Held.TheVariants as held_by
use Rattle.machine_calls.proofs.HeldStatics.{static_there}
use Rattle.machine_scenes.proofs.KeyLaws.{address_there}
use Rattle.machine_scenes.specs.Given as given
use Rattle.machine_scenes.specs.Given.{HasArray, HasElements, held_in, IsGiven, ReferenceIsGiven}
use Rattle.machine_steps.proofs.Calls.{Ready}
use Rattle.machine_threads.specs.SlotsHold.{slots_of}

-- ---- slots

-- what the slot of a field ID holds
field_agrees : (unit : SourceUnit) (classes : Classes) (h : Option Handle) (q : Option FieldId) → HandleAgrees unit classes h (option_map OfField q) → FieldAgrees classes (field_held h) q
field_agrees unit classes None None a = a
field_agrees unit classes None (Some f) a = absurd a
field_agrees unit classes (Some (handle.Field h)) None a = absurd a
field_agrees unit classes (Some (handle.Method h)) None a = absurd a
field_agrees unit classes (Some (handle.Field h)) (Some f) a = a
field_agrees unit classes (Some (handle.Method h)) (Some f) a = absurd a

field_there : (unit : SourceUnit) (classes : Classes) (handles : List (Option Handle)) (fields : List (Option meant.Handle)) (i : ℕ) (q : Option FieldId) → HandlesAgree unit classes handles fields → slice_get fields i ≡ Some (option_map OfField q) → FieldAgrees classes (field_held (held_in (slice_get handles i))) q
field_there unit classes [] [] i q h e = absurd (cc)
field_there unit classes [] (f ∷ fields) i q h e = absurd h
field_there unit classes (a ∷ handles) [] i q h e = absurd h
field_there unit classes (a ∷ handles) (f ∷ fields) zero q h e =
    let same : ◌≡◌ {A = Option meant.Handle} f (option_map OfField q) = cc in
    field_agrees unit classes a q (subst (λ (x : Option meant.Handle). HandleAgrees unit classes a x) same h.0)
field_there unit classes (a ∷ handles) (f ∷ fields) (suc i) q h e = field_there unit classes handles fields i q h.1 e

-- what the slot of a method ID holds
method_agrees : (unit : SourceUnit) (classes : Classes) (h : Option Handle) (q : Option MethodId) → HandleAgrees unit classes h (option_map OfMethod q) → MethodAgrees unit classes (method_held h) q
method_agrees unit classes None None a = a
method_agrees unit classes None (Some f) a = absurd a
method_agrees unit classes (Some (handle.Field h)) None a = absurd a
method_agrees unit classes (Some (handle.Method h)) None a = absurd a
method_agrees unit classes (Some (handle.Field h)) (Some f) a = absurd a
method_agrees unit classes (Some (handle.Method h)) (Some f) a = a

method_there : (unit : SourceUnit) (classes : Classes) (handles : List (Option Handle)) (fields : List (Option meant.Handle)) (i : ℕ) (q : Option MethodId) → HandlesAgree unit classes handles fields → slice_get fields i ≡ Some (option_map OfMethod q) → MethodAgrees unit classes (method_held (held_in (slice_get handles i))) q
method_there unit classes [] [] i q h e = absurd (cc)
method_there unit classes [] (f ∷ fields) i q h e = absurd h
method_there unit classes (a ∷ handles) [] i q h e = absurd h
method_there unit classes (a ∷ handles) (f ∷ fields) zero q h e =
    let same : ◌≡◌ {A = Option meant.Handle} f (option_map OfMethod q) = cc in
    method_agrees unit classes a q (subst (λ (x : Option meant.Handle). HandleAgrees unit classes a x) same h.0)
method_there unit classes (a ∷ handles) (f ∷ fields) (suc i) q h e = method_there unit classes handles fields i q h.1 e

-- ---- operands

-- what a static holds stands for the source's as an argument too
argument_agrees : (space : Space) (h : Held) (r : StaticReference) → HeldAgrees space h r → HeldAgrees space (held_argument h) (as_argument r)
argument_agrees space held_by.Empty Empty e = e
argument_agrees space held_by.Empty (Live n) e = absurd e
argument_agrees space held_by.Empty (Weakly n) e = absurd e
argument_agrees space held_by.Empty Cleared e = absurd e
argument_agrees space held_by.Empty Deleted e = absurd e
argument_agrees space (held_by.At a) Empty e = absurd e
argument_agrees space (held_by.At a) (Live n) e = e
argument_agrees space (held_by.At a) (Weakly n) e = absurd e
argument_agrees space (held_by.At a) Cleared e = absurd e
argument_agrees space (held_by.At a) Deleted e = absurd e
argument_agrees space (held_by.Weakly a) Empty e = absurd e
argument_agrees space (held_by.Weakly a) (Live n) e = absurd e
argument_agrees space (held_by.Weakly a) (Weakly n) e = e
argument_agrees space (held_by.Weakly a) Cleared e = absurd e
argument_agrees space (held_by.Weakly a) Deleted e = absurd e
argument_agrees space held_by.Cleared Empty e = absurd e
argument_agrees space held_by.Cleared (Live n) e = absurd e
argument_agrees space held_by.Cleared (Weakly n) e = absurd e
argument_agrees space held_by.Cleared Cleared e = e
argument_agrees space held_by.Cleared Deleted e = absurd e
argument_agrees space held_by.Deleted Empty e = absurd e
argument_agrees space held_by.Deleted (Live n) e = absurd e
argument_agrees space held_by.Deleted (Weakly n) e = absurd e
argument_agrees space held_by.Deleted Cleared e = absurd e
argument_agrees space held_by.Deleted Deleted e = e

-- the static of a known name is shown, weak or not
pub static_shown : (code : Listing) (known : Known) (visible : Visible) (slots : Slots) → Shows code known visible slots → (x : Identifier) (i : ℕ) → IsStaticIn known x i → ShowsStatic visible x i
static_shown code known visible slots shows x i (s, of_static, at) = on_type s of_static at
  where
    on_type : (s : ExprType) → IsStaticType s → lookup x known ≡ Some (record { ty = s; index = i }) → ShowsStatic visible x i
    on_type Global of_static at = shows.each x (record { ty = Global; index = i }) at
    on_type Weak of_static at = shows.each x (record { ty = Weak; index = i }) at
    on_type s of_static at = absurd of_static

-- a slot with a local reference to an object has an owner
abbrev pub HasOwner : List Reference → (owners : List (Option ℕ)) → Operand → Type 0
HasOwner references owners (operand.Local i) = (n : ℕ) → slice_get references i ≡ Some (Some n) → (level : ℕ) × (slice_get owners i ≡ Some (Some level))
HasOwner references owners o = Unit {0}

module _ (p : Lowered) (classes : Classes) (space : Space) (copies : List (Option OwnedNumbers)) (owner : ℕ) (call : Activation) (code : Listing) (visible : Visible) (frames : List Frame) (task : Task) (rest : List Task) (r : Ready p classes space copies owner call code visible frames task rest) (helds : List Held) (statics : StaticsAgree space helds visible.statics) where
  abbrev references : References
  references = record { keys = call.slots.references.items; locals = call.locals; statics = helds }

  reference_given : {q : ParameterKind} {o : Operand} {x : Identifier} {s : StaticReference} → HasOwner r.meant.references r.meant.owners o → GivesReference r.known visible q o x s → ReferenceIsGiven space references q o s
  reference_given owned (gives.null takes) = given.null takes
  reference_given {q} owned (gives.local {i = i} {x = x} takes at) =
      let shown = r.shows.each x (record { ty = Ref; index = i }) at in
      subst (ReferenceIsGiven space references q (operand.Local i)) (sym shown.is)
      (given.local shown.reference takes (address_there space call.locals call.slots.references.items r.meant.references r.meant.owners i shown.reference r.holds.keys shown.there (λ n is. owned n (shown.there ∙ ap (λ (q : Reference). Some q) is))))
  reference_given {q} owned (gives.static {i = i} {x = x} takes at) =
      let shown = static_shown code r.known visible (slots_of call r.meant) r.shows x i at in
      subst (ReferenceIsGiven space references q (operand.Static i)) (sym shown.reference)
      (given.static takes (argument_agrees space (held_or_null (slice_get helds i)) shown.static.held (static_there space x helds visible.statics i shown.static.held statics shown.static.place shown.static.there)))

  one_given : {q : ParameterKind} {o : Operand} {a : Actual} → HasOwner r.meant.references r.meant.owners o → IsOperand r.known visible q o a → IsGiven (unit_tree p.unit) classes space references call.slots.fields.items q o a
  one_given owned (gives.number fits) = given.number fits
  one_given owned (gives.passed fits) = given.passed fits
  one_given owned gives.text = given.text
  one_given owned (gives.reference kind there) = given.reference kind (reference_given owned there)
  one_given owned gives.no_field = given.null_field
  one_given owned (gives.field {i = i} {x = x} at) =
      let shown = r.shows.each x (record { ty = types.FieldId; index = i }) at in
      subst (λ (f : Option FieldId). IsGiven (unit_tree p.unit) classes space references call.slots.fields.items FieldID (operand.FieldId i) (FieldActual f)) (sym shown.is)
      (given.field (field_there (unit_tree p.unit) classes call.slots.fields.items r.meant.fields i shown.field r.holds.fields shown.there))
  one_given owned gives.no_method = given.null_method
  one_given owned (gives.has_method {i = i} {x = x} at) =
      let shown = r.shows.each x (record { ty = types.MethodId; index = i }) at in
      subst (λ (m : Option MethodId). IsGiven (unit_tree p.unit) classes space references call.slots.fields.items MethodID (operand.MethodId i) (MethodActual m)) (sym shown.is)
      (given.method (method_there (unit_tree p.unit) classes call.slots.fields.items r.meant.fields i shown.method r.holds.fields shown.there))
  one_given owned (gives.array at) = given.array
  one_given owned (gives.buffer at) = given.buffer
  one_given owned gives.mode = given.mode
  one_given owned gives.not_told = given.not_told
  one_given owned (gives.told at) = given.told

  pub all_given : {ps : List ParameterKind} {operands : List Operand} {args : List Actual} → AllByRecursion (HasOwner r.meant.references r.meant.owners) operands → AllTogether (IsOperand r.known visible) ps operands args
      → AllTogether (IsGiven (unit_tree p.unit) classes space references call.slots.fields.items) ps operands args
  all_given owned gives.none = gives.none
  all_given owned (gives.more h rest) = gives.more (one_given owned.0 h) (all_given owned.1 rest)

-- ---- local arrays

-- as many elements as can be seen
as_many : (zs : List ℤ) (size : ℕ) → ((i : ℕ) → i < size → (z : ℤ) × (in_range (slice_get zs i) ≡ Gives z)) → ((i : ℕ) → size ≤ i → in_range (slice_get zs i) ≡ Traps OutOfRange) → length zs ≡ size
as_many [] zero seen past = refl
as_many [] (suc size) seen past = absurd (let e = (seen 0 (omega arith)).1 in cc)
as_many (z ∷ zs) zero seen past = absurd (let e = past 0 (omega arith) in cc)
as_many (z ∷ zs) (suc size) seen past = ap suc (as_many zs size (λ i below. seen (suc i) (omega (arith, below))) (λ i above. past (suc i) (omega (arith, above))))

module _ (code : Listing) (known : Known) (place : ℕ) (stack : List ℕ) (slots : Slots) (own : Owners) (shared : Shared) (s : source.Thread) (shows : Shows code known (visible_to own shared s) slots) where
  -- a local array has its elements in its slots
  pub array_held : (x : Identifier) (t : ElementType) (array : ArraySlots) → IsArray known x t array.len array.start → HasElements slots.numbers array (lookup x s.variables)
  array_held x t array at =
      let shown = shows.each x (record { ty = types.Array t array.len; index = array.start }) at in
      let held = array_of (lookup x s.variables) t shown.array_type in
      let element : (i : ℕ) → (visible_to own shared s).sight.element x i ≡ in_range (slice_get held.0 i) = λ i. ap (λ (o : Option Variable). outcome_then (λ (zs : List ℤ). in_range (slice_get zs i)) (elements_of shared.heap o)) held.1 in
      let count : length held.0 ≡ array.len = as_many held.0 array.len (λ i below. ((shown.elements i below).number, sym (element i) ∙ (shown.elements i below).is)) (λ i above. sym (element i) ∙ shown.past i above) in
      record {
        type = t;
        elements = held.0;
        is = held.1;
        count = count;
        words = λ i z found.
            let e = shown.elements i (omega (arith, slice_get_within held.0 i z found, count)) in
            let same : e.number ≡ z = let both : Gives e.number ≡ Gives z = sym e.is ∙ element i ∙ ap in_range found in cc in
            (subst (FitsSigned w32) same e.fits, e.word ∙ ap (λ (y : ℤ). Some (cast_unsigned w32 y)) same);
      }

  one_array : {q : ParameterKind} {o : Operand} {a : Actual} → IsOperand known (visible_to own shared s) q o a → HasArray slots.numbers s.variables o a
  one_array (gives.array {u = t} {slots = array} {x = x} at) = (x, refl, array_held x t array at)
  one_array (gives.reference kind (gives.null takes)) = tt
  one_array h = tt

  pub arrays_held : {ps : List ParameterKind} {operands : List Operand} {args : List Actual} → AllTogether (IsOperand known (visible_to own shared s)) ps operands args → AllZip (HasArray slots.numbers s.variables) operands args
  arrays_held gives.none = tt
  arrays_held (gives.more h rest) = (one_array h, arrays_held rest)

-- ---- words

-- how many words an operand takes
abbrev one_taken : Operand → ℕ
one_taken o = words_taken (o ∷ [])

first_taken : (o : Operand) (operands : List Operand) → words_taken (o ∷ operands) ≡ one_taken o + words_taken operands
first_taken operand.Null operands = let taken : one_taken operand.Null ≡ 0 = refl in omega (arith, taken)
first_taken (operand.Local i) operands = let taken : one_taken (operand.Local i) ≡ 0 = refl in omega (arith, taken)
first_taken (operand.Static i) operands = let taken : one_taken (operand.Static i) ≡ 0 = refl in omega (arith, taken)
first_taken operand.Number operands = let taken : one_taken operand.Number ≡ 1 = refl in omega (arith, taken)
first_taken (operand.FieldId i) operands = let taken : one_taken (operand.FieldId i) ≡ 0 = refl in omega (arith, taken)
first_taken (operand.MethodId i) operands = let taken : one_taken (operand.MethodId i) ≡ 0 = refl in omega (arith, taken)
first_taken operand.Text operands = let taken : one_taken operand.Text ≡ 0 = refl in omega (arith, taken)
first_taken (operand.Array array) operands = let taken : one_taken (operand.Array array) ≡ 0 = refl in omega (arith, taken)
first_taken (operand.Buffer i) operands = let taken : one_taken (operand.Buffer i) ≡ 0 = refl in omega (arith, taken)
first_taken (operand.Mode mode) operands = let taken : one_taken (operand.Mode mode) ≡ 0 = refl in omega (arith, taken)
first_taken (operand.IsCopy i) operands = let taken : one_taken (operand.IsCopy i) ≡ 0 = refl in omega (arith, taken)

taken_words : {G : ParameterKind → Operand → Actual → Type 0} {ps : List ParameterKind} {operands : List Operand} {args : List Actual} → ((q : ParameterKind) (o : Operand) (a : Actual) → G q o a → length (word_given a) ≡ one_taken o)
    → AllTogether G ps operands args → words_taken operands ≡ length (words_given args)
taken_words each gives.none = refl
taken_words each (gives.more {x = q} {y = o} {z = a} {ys = operands} {zs = args} h rest) = omega (arith, first_taken o operands, each q o a h, taken_words each rest, length-append (words_given args) (word_given a))

none_left : (n : ℕ) → with_fewer n n ≡ Some 0
none_left n = rw (le-leb n n (omega arith)) (ap (λ (m : ℕ). Some m) (let e : n - n ≡ 0 = omega arith in e))

none_left_where : (operands : List Operand) (args : List Actual) (stack : List ℕ) → words_taken operands ≡ length (words_given args) → stack ≡ words_given args → with_fewer (words_taken operands) (length stack) ≡ Some 0
none_left_where operands args stack taken words =
    let count : length stack ≡ words_taken operands = ap length words ∙ sym taken in
    subst (λ (n : ℕ). with_fewer (words_taken operands) n ≡ Some 0) (sym count) (none_left (words_taken operands))

-- a call takes all the words on the stack
pub none_left_after : {unit : SourceUnit} {classes : Classes} {space : Space} {references : References} {fields : List (Option Handle)} {ps : List ParameterKind} {operands : List Operand} {args : List Actual} {stack : List ℕ}
    → AllTogether (IsGiven unit classes space references fields) ps operands args → stack ≡ words_given args → with_fewer (words_taken operands) (length stack) ≡ Some 0
none_left_after {unit} {classes} {space} {references} {fields} {operands = operands} {args = args} {stack = stack} all words = none_left_where operands args stack (taken_words each all) words
  where
    each : (q : ParameterKind) (o : Operand) (a : Actual) → IsGiven unit classes space references fields q o a → length (word_given a) ≡ one_taken o
    each q o a (given.reference kind (given.null takes)) = refl
    each q o a h = refl

-- the same by what the operands are
pub none_left_by : {known : Known} {visible : Visible} {ps : List ParameterKind} {operands : List Operand} {args : List Actual} {stack : List ℕ}
    → AllTogether (IsOperand known visible) ps operands args → stack ≡ words_given args → with_fewer (words_taken operands) (length stack) ≡ Some 0
none_left_by {known} {visible} {operands = operands} {args = args} {stack = stack} all words = none_left_where operands args stack (taken_words each all) words
  where
    each : (q : ParameterKind) (o : Operand) (a : Actual) → IsOperand known visible q o a → length (word_given a) ≡ one_taken o
    each q o a (gives.reference kind (gives.null takes)) = refl
    each q o a h = refl
