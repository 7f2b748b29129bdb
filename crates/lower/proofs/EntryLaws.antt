-- What the slots show at the entry of a function.
use Rattle.std.proofs.Common.{◌≡◌, ℕ, ℤ, ◌+◌, ◌<◌, ◌⊎◌, inl, inr, Bool, true, false, List, [], ◌∷◌, ◌++◌, length, filter_map, zip, Option, Some, None, refl, sym, ap, ◌∙◌, subst, arith, append_assoc, length-append, if◌then◌else◌}
use Rattle.std.specs.Prelude.{slice_get, FitsSigned}
use Rattle.std.specs.Int.{w32, cast_unsigned}
use Rattle.std.specs.Str.{bytes_eq}
use Rattle.std.proofs.lemmas.List.{length-replicate}
use Rattle.std.proofs.lemmas.Option.{slice_get_within}
use Rattle.base.specs.Bytes.{Identifier, lookup}
use Rattle.syntax.specs.declared.declared_type.ParameterType.{ParameterType}
use Rattle.syntax.specs.declared.declared_type.ParameterType.TheVariants.{Jint as IntParameter, Reference as ReferenceParameter}
use Rattle.syntax.specs.Tree.{Parameter, Function}
use Rattle.type_rules.specs.declared.ty.ExprType.{ExprType}
use Rattle.type_rules.specs.declared.ty.ExprType.TheVariants.{Jint, Ref, Global, Weak}
use Rattle.semantics.specs.Object.{ObjectValue, Number, Refers, Reference}
use Rattle.semantics.specs.World.{Invocation}
use Rattle.semantics.specs.Activation.{entered, parameter_variables}
use Rattle.semantics.specs.Sight.{scalar, held_reference, holds_null}
use Rattle.semantics.specs.Thread.{Shared, Thread}
use Rattle.semantics.specs.declared.value.Value.TheVariants.{Int}
use Rattle.semantics.specs.Variable.{Variable, Scalar, LocalRef, StaticReference}
use Rattle.code.specs.Depth.{Listing}
use Rattle.code.proofs.Arrays.{get_replicate}
use Rattle.code_meaning.specs.Layout.{Slot, Known, parameter_slot, parameter_slots, numbers_after, references_after, numbers_of, references_of, entry_names, entry_layout}
use Rattle.code_meaning.specs.Slots as value
use Rattle.code_meaning.specs.Slots.{visible_to, type_of_array, kind_of_variable, Slots, ShowsSlot, Shows, ArgumentFits, ArgumentsFit, argument_word, argument_reference, EntrySlots, AreShared, AreOfLowest, ShowsStatic}
use Rattle.code_meaning.specs.Fits.{AreStatics, IsStaticType}
use Rattle.code_meaning.proofs.StaticLaws.{null_of}
use Rattle.lower.proofs.CodePlaces.{get-append_seam}

-- the slots have these words and references from these places on
record HasFrom (slots : Slots) (n r : ℕ) (words : List ℕ) (references : List Reference) : Type 0 where
  numbers_front : List ℕ
  numbers_back : List ℕ
  numbers : slots.numbers ≡ numbers_front ++ (words ++ numbers_back)
  numbers_count : length numbers_front ≡ n
  references_front : List Reference
  references_back : List Reference
  held : slots.references ≡ references_front ++ (references ++ references_back)
  references_count : length references_front ≡ r

after_number : (slots : Slots) (n r w : ℕ) (words : List ℕ) (references : List Reference) → HasFrom slots n r (w ∷ words) references → HasFrom slots (n + 1) r words references
after_number slots n r w words references h = record {
  numbers_front = h.numbers_front ++ w ∷ [];
  numbers_back = h.numbers_back;
  numbers = h.numbers ∙ sym (append_assoc h.numbers_front (w ∷ []) (words ++ h.numbers_back));
  numbers_count = omega (arith, length-append h.numbers_front (w ∷ []), h.numbers_count);
  references_front = h.references_front;
  references_back = h.references_back;
  held = h.held;
  references_count = h.references_count;
}

after_reference : (slots : Slots) (n r : ℕ) (q : Reference) (words : List ℕ) (references : List Reference) → HasFrom slots n r words (q ∷ references) → HasFrom slots n (r + 1) words references
after_reference slots n r q words references h = record {
  numbers_front = h.numbers_front;
  numbers_back = h.numbers_back;
  numbers = h.numbers;
  numbers_count = h.numbers_count;
  references_front = h.references_front ++ q ∷ [];
  references_back = h.references_back;
  held = h.held ∙ sym (append_assoc h.references_front (q ∷ []) (references ++ h.references_back));
  references_count = omega (arith, length-append h.references_front (q ∷ []), h.references_count);
}

-- a number or a reference of an argument, and its slot
abbrev NumberFound : Slots → Slot → Option Variable → Type 0
NumberFound slots s v = (z : ℤ) × (i : ℕ) × (s ≡ record { ty = Jint; index = i }) × (v ≡ Some (Scalar (Int z))) × FitsSigned w32 z × (slice_get slots.numbers i ≡ Some (cast_unsigned w32 z))

abbrev ReferenceFound : Slots → Slot → Option Variable → Type 0
ReferenceFound slots s v = (q : Reference) × (i : ℕ) × (s ≡ record { ty = Ref; index = i }) × (v ≡ Some (LocalRef 1 q)) × (slice_get slots.references i ≡ Some q)

abbrev Found : Slots → Slot → Option Variable → Type 0
Found slots s v = NumberFound slots s v ⊎ ReferenceFound slots s v

-- a number for a parameter, and what comes after it
number_argument : (slots : Slots) (n r : ℕ) (z : ℤ) (words : List ℕ) (references : List Reference) (type : ParameterType) → ArgumentFits type (Number z) → HasFrom slots n r (cast_unsigned w32 z ∷ words) references
    → Found slots (parameter_slot type n r) (Some (Scalar (Int z))) × HasFrom slots (numbers_after type n) (references_after type r) words references
number_argument slots n r z words references IntParameter fits h =
    (inl (z, n, refl, refl, fits, rw (h.numbers, ← h.numbers_count) (get-append_seam h.numbers_front (words ++ h.numbers_back) (cast_unsigned w32 z))), after_number slots n r (cast_unsigned w32 z) words references h)
number_argument slots n r z words references (ReferenceParameter t) fits h = absurd fits

-- a reference for a parameter, and what comes after it
reference_argument : (slots : Slots) (n r : ℕ) (q : Reference) (words : List ℕ) (references : List Reference) (type : ParameterType) → ArgumentFits type (Refers q) → HasFrom slots n r words (q ∷ references)
    → Found slots (parameter_slot type n r) (Some (LocalRef 1 q)) × HasFrom slots (numbers_after type n) (references_after type r) words references
reference_argument slots n r q words references IntParameter fits h = absurd fits
reference_argument slots n r q words references (ReferenceParameter t) fits h =
    (inr (q, r, refl, refl, rw (h.held, ← h.references_count) (get-append_seam h.references_front (references ++ h.references_back) q)), after_reference slots n r q words references h)

-- the name that is looked for is the first, or it comes later
at_name : (slots : Slots) (b : Bool) (slot s : Slot) (v : Variable) (slot_after : Option Slot) (variable_after : Option Variable) → Found slots slot (Some v) → (slot_after ≡ Some s → Found slots s variable_after)
    → (if b then Some slot else slot_after) ≡ Some s → Found slots s (if b then Some v else variable_after)
at_name slots true slot s v slot_after variable_after here further h = let same : slot ≡ s = cc in subst (λ (t : Slot). Found slots t (Some v)) same here
at_name slots false slot s v slot_after variable_after here further h = further h

parameters_found : (slots : Slots) (x : Identifier) (s : Slot) (ps : List Parameter) (vs : List ObjectValue) (n r : ℕ) → ArgumentsFit ps vs → HasFrom slots n r (filter_map argument_word vs) (filter_map argument_reference vs)
    → lookup x (parameter_slots ps n r) ≡ Some s → Found slots s (lookup x (parameter_variables (zip ps vs)))
parameters_found slots x s [] vs n r fit h at = absurd cc
parameters_found slots x s (p ∷ ps) [] n r fit h at = absurd fit
parameters_found slots x s (p ∷ ps) (Number z ∷ vs) n r fit h at =
    let own = number_argument slots n r z (filter_map argument_word vs) (filter_map argument_reference vs) p.type fit.0 h in
    at_name slots (bytes_eq x p.name) (parameter_slot p.type n r) s (Scalar (Int z)) (lookup x (parameter_slots ps (numbers_after p.type n) (references_after p.type r))) (lookup x (parameter_variables (zip ps vs)))
    own.0 (parameters_found slots x s ps vs (numbers_after p.type n) (references_after p.type r) fit.1 own.1) at
parameters_found slots x s (p ∷ ps) (Refers q ∷ vs) n r fit h at =
    let own = reference_argument slots n r q (filter_map argument_word vs) (filter_map argument_reference vs) p.type fit.0 h in
    at_name slots (bytes_eq x p.name) (parameter_slot p.type n r) s (LocalRef 1 q) (lookup x (parameter_slots ps (numbers_after p.type n) (references_after p.type r))) (lookup x (parameter_variables (zip ps vs)))
    own.0 (parameters_found slots x s ps vs (numbers_after p.type n) (references_after p.type r) fit.1 own.1) at

-- a name that is no parameter's has no variable
none_after : (b : Bool) (slot : Slot) (v : Variable) (slot_after : Option Slot) (variable_after : Option Variable) → (slot_after ≡ None → variable_after ≡ None) → (if b then Some slot else slot_after) ≡ None → (if b then Some v else variable_after) ≡ None
none_after true slot v slot_after variable_after further h = absurd (cc)
none_after false slot v slot_after variable_after further h = further h

no_parameter : (x : Identifier) (ps : List Parameter) (vs : List ObjectValue) (n r : ℕ) → lookup x (parameter_slots ps n r) ≡ None → lookup x (parameter_variables (zip ps vs)) ≡ None
no_parameter x [] vs n r h = refl
no_parameter x (p ∷ ps) [] n r h = refl
no_parameter x (p ∷ ps) (Number z ∷ vs) n r h = none_after (bytes_eq x p.name) (parameter_slot p.type n r) (Scalar (Int z)) (lookup x (parameter_slots ps (numbers_after p.type n) (references_after p.type r))) (lookup x (parameter_variables (zip ps vs))) (no_parameter x ps vs (numbers_after p.type n) (references_after p.type r)) h
no_parameter x (p ∷ ps) (Refers q ∷ vs) n r h = none_after (bytes_eq x p.name) (parameter_slot p.type n r) (LocalRef 1 q) (lookup x (parameter_slots ps (numbers_after p.type n) (references_after p.type r))) (lookup x (parameter_variables (zip ps vs))) (no_parameter x ps vs (numbers_after p.type n) (references_after p.type r)) h

-- a name of joined lists is one of the first, or else one of the second
pub in_both : (x : Identifier) (a b : Known) (o : Option Slot) → lookup x a ≡ o → (s : Slot) → lookup x (a ++ b) ≡ Some s → (o ≡ Some s) ⊎ ((o ≡ None) × (lookup x b ≡ Some s))
in_both x [] b o is s h = inr (sym is, h)
in_both x ((y, slot) ∷ a) b o is s h =
    elim (bytes_eq x y) as (λ q. (if q then Some slot else lookup x a) ≡ o → (if q then Some slot else lookup x (a ++ b)) ≡ Some s → (o ≡ Some s) ⊎ ((o ≡ None) × (lookup x b ≡ Some s))) [
      | true ↦ λ e k. inl (sym e ∙ k)
      | false ↦ λ e k. in_both x a b o e s k
    ] is h

module _ (statics : Known) (f : Function) (code : Listing) (known : AreStatics statics) (own : Identifier → Option ℕ) (shared : Shared) (thread : Thread) (calls : List Invocation) (class : ℕ) (arguments : List ObjectValue) (slots : Slots) (fit : ArgumentsFit f.parameters arguments) (entry : EntrySlots code class arguments slots) (there : AreShared statics shared) (lowest : AreOfLowest own) where
  -- a reference that is there at the entry is a variable's own, of level 1
  first_level : (i : ℕ) (q : Reference) → slice_get slots.references i ≡ Some q → slice_get slots.owners i ≡ Some (Some 1)
  first_level i q there =
      let below : i < code.slots.references = omega (arith, slice_get_within slots.references i q there, entry.references) in
      ap (λ (owners : List (Option ℕ)). slice_get owners i) entry.owners ∙ get_replicate code.slots.references (Some 1) i below

  found_shown : (x : Identifier) (s : Slot) → Found slots s (lookup x ((f.class_name, LocalRef 1 (Some class)) ∷ parameter_variables (zip f.parameters arguments))) → ShowsSlot (visible_to own shared (entered thread calls f class arguments)) x slots s s.ty
  found_shown x s (inl (z, i, is, variable, fits, there)) =
      subst (λ (t : Slot). ShowsSlot (visible_to own shared (entered thread calls f class arguments)) x slots t t.ty) (sym is) (record { value = Int z; is = ap scalar variable; kind = ap kind_of_variable variable; ty = value.int fits; word = there })
  found_shown x s (inr (q, i, is, variable, there)) =
      subst (λ (t : Slot). ShowsSlot (visible_to own shared (entered thread calls f class arguments)) x slots t t.ty) (sym is) (record {
        reference = q;
        is = ap (λ (v : Option Variable). held_reference v (lookup x shared.statics)) variable;
        is_null = ap (λ (v : Option Variable). holds_null v (lookup x shared.statics)) variable;
        no_number = ap scalar variable;
        kind = ap kind_of_variable variable;
        there = there;
        owner = λ n level same own_level. first_level i q there ∙ ap (λ (k : ℕ). Some (Some k)) (sym (lowest x level own_level));
      })

  entry_found : (x : Identifier) (s : Slot) → lookup x (entry_names f) ≡ Some s → Found slots s (lookup x ((f.class_name, LocalRef 1 (Some class)) ∷ parameter_variables (zip f.parameters arguments)))
  entry_found x s at =
      at_name slots (bytes_eq x f.class_name) (record { ty = Ref; index = 0 }) s (LocalRef 1 (Some class)) (lookup x (parameter_slots f.parameters 0 1)) (lookup x (parameter_variables (zip f.parameters arguments)))
      (inr (Some class, 0, refl, refl, ap (λ (q : List Reference). slice_get q 0) entry.given))
      (parameters_found slots x s f.parameters arguments 0 1 fit (record {
        numbers_front = [];
        numbers_back = entry.more_numbers;
        numbers = entry.words;
        numbers_count = refl;
        references_front = Some class ∷ [];
        references_back = entry.more_references;
        held = entry.given;
        references_count = refl;
      })) at

  entry_none : (x : Identifier) → lookup x (entry_names f) ≡ None → lookup x ((f.class_name, LocalRef 1 (Some class)) ∷ parameter_variables (zip f.parameters arguments)) ≡ None
  entry_none x h = none_after (bytes_eq x f.class_name) (record { ty = Ref; index = 0 }) (LocalRef 1 (Some class)) (lookup x (parameter_slots f.parameters 0 1)) (lookup x (parameter_variables (zip f.parameters arguments))) (no_parameter x f.parameters arguments 0 1) h

  static_shown : (x : Identifier) (s : Slot) → lookup x (entry_names f) ≡ None → lookup x statics ≡ Some s → ShowsSlot (visible_to own shared (entered thread calls f class arguments)) x slots s s.ty
  static_shown x s none at =
      let variable = entry_none x none in
      let held = there x s at in
      on_type s.ty (known x s at).0 (record {
        static = held;
        no_variable = record { number = ap scalar variable; array_type = ap type_of_array variable; kind = ap kind_of_variable variable };
        is_null = ap (λ (v : Option Variable). holds_null v (lookup x shared.statics)) variable ∙ ap (λ (v : Option StaticReference). holds_null None v) held.there ∙ null_of held.held;
        reference = ap (λ (v : Option Variable). held_reference v (lookup x shared.statics)) variable ∙ ap (λ (v : Option StaticReference). held_reference None v) held.there;
      })
    where
      on_type : (k : ExprType) → IsStaticType k → ShowsStatic (visible_to own shared (entered thread calls f class arguments)) x s.index → ShowsSlot (visible_to own shared (entered thread calls f class arguments)) x slots s k
      on_type Global is shown = shown
      on_type Weak is shown = shown
      on_type k is shown = absurd is

  either_shown : (x : Identifier) (s : Slot) → (lookup x (entry_names f) ≡ Some s) ⊎ ((lookup x (entry_names f) ≡ None) × (lookup x statics ≡ Some s)) → ShowsSlot (visible_to own shared (entered thread calls f class arguments)) x slots s s.ty
  either_shown x s (inl h) = found_shown x s (entry_found x s h)
  either_shown x s (inr h) = static_shown x s h.0 h.1

-- the slots at the entry show the class, the arguments and the statics
pub entry_shows : (statics : Known) (f : Function) (code : Listing) → AreStatics statics → (own : Identifier → Option ℕ) (shared : Shared) (thread : Thread) (calls : List Invocation) (class : ℕ) (arguments : List ObjectValue) (slots : Slots) → ArgumentsFit f.parameters arguments → EntrySlots code class arguments slots → AreShared statics shared → AreOfLowest own
    → Shows code (entry_layout statics f).known (visible_to own shared (entered thread calls f class arguments)) slots
entry_shows statics f code known own shared thread calls class arguments slots fit entry there lowest = record {
  numbers = entry.numbers;
  references = entry.references;
  owners = ap length entry.owners ∙ length-replicate code.slots.references (Some 1);
  fields = entry.fields;
  buffers = entry.buffers;
  each = λ x s at. either_shown statics f code known own shared thread calls class arguments slots fit entry there lowest x s (in_both x (entry_names f) statics (lookup x (entry_names f)) refl s at);
}

-- ---- room for the arguments

number_counts : (type : ParameterType) (z : ℤ) (n r : ℕ) → ArgumentFits type (Number z) → (numbers_after type n ≡ n + 1) × (references_after type r ≡ r)
number_counts IntParameter z n r fits = (refl, refl)
number_counts (ReferenceParameter t) z n r fits = absurd fits

reference_counts : (type : ParameterType) (q : Reference) (n r : ℕ) → ArgumentFits type (Refers q) → (numbers_after type n ≡ n) × (references_after type r ≡ r + 1)
reference_counts IntParameter q n r fits = absurd fits
reference_counts (ReferenceParameter t) q n r fits = (refl, refl)

-- parameters take as many slots of each kind as there are arguments of it
pub counts : (ps : List Parameter) (vs : List ObjectValue) (n r : ℕ) → ArgumentsFit ps vs → (numbers_of ps n ≡ n + length (filter_map argument_word vs)) × (references_of ps r ≡ r + length (filter_map argument_reference vs))
counts [] [] n r fit = (omega arith, omega arith)
counts [] (v ∷ vs) n r fit = absurd fit
counts (p ∷ ps) [] n r fit = absurd fit
counts (p ∷ ps) (Number z ∷ vs) n r fit =
    let own = number_counts p.type z n r fit.0 in
    let further = counts ps vs (numbers_after p.type n) (references_after p.type r) fit.1 in
    (omega arith, omega arith)
counts (p ∷ ps) (Refers q ∷ vs) n r fit =
    let own = reference_counts p.type q n r fit.0 in
    let further = counts ps vs (numbers_after p.type n) (references_after p.type r) fit.1 in
    (omega arith, omega arith)
