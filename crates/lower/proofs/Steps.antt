-- The instruction at a place does what the first task there does.
use Rattle.std.proofs.Common.{◌≡◌, ℕ, ◌+◌, ◌<◌, ◌≤◌, ◌⊎◌, inl, inr, Bool, List, [], ◌∷◌, ◌++◌, length, Some, refl, sym, ap, ◌∙◌, subst, arith, append_assoc, length-append, Option}
use Rattle.std.specs.Prelude.{slice_set, is_none, IsTrue}
use Rattle.std.specs.List.{list_any}
use Rattle.std.specs.Int.{w32, cast_unsigned}
use Rattle.std.proofs.Math.Facts.{to_z-of_z}
use Rattle.std.proofs.lemmas.List.{append-nil}
use Rattle.std.proofs.lemmas.Bool.{lt-ltb, le-leb}
use Rattle.base.specs.Bytes.{Identifier}
use Rattle.type_rules.specs.declared.ty.ExprType.{ExprType}
use Rattle.type_rules.specs.declared.ty.ExprType.TheVariants.{Jint, Ref, Global, Weak, FieldId, MethodId, Buffer, Array}
use Rattle.type_rules.specs.declared.ty.ExprType.TheVariants as types
use Rattle.code.specs.declared.instr.NullableVariable.{NullableVariable}
use Rattle.code.specs.declared.instr.NullableVariable.TheVariants as nullable
use Rattle.code.specs.declared.instr.Instr.{Instr}
use Rattle.code.specs.declared.instr.Instr.TheVariants as instr
use Rattle.code.specs.declared.instr.Plain.{Plain}
use Rattle.code.specs.declared.instr.Plain.TheVariants as plain
use Rattle.code.specs.Depth.{Listing}
use Rattle.code.specs.Effect.{plain_of, cleared}
use Rattle.code.proofs.Effects.{KeepsSlots, plain_keeps}
use Rattle.semantics.specs.Effect.{goes_on, effect_of}
use Rattle.semantics.specs.declared.variable_kind.VariableKind.{VariableKind}
use Rattle.semantics.specs.declared.variable_kind.VariableKind.TheVariants as kinds
use Rattle.semantics.specs.Task.{Task, SetScalar, SetNull, MakeArray, Print, Target, Declared, Assigned}
use Rattle.semantics.specs.Term.{Term, Done, reduce}
use Rattle.semantics.specs.declared.value.Value.{Value}
use Rattle.semantics.specs.declared.value.Value.TheVariants.{Int}
use Rattle.semantics.specs.Value.{Gives}
use Rattle.code_meaning.specs.Layout.{Slot, Known}
use Rattle.code_meaning.specs.Coding.{nullable_of, term_code}
use Rattle.code_meaning.specs.Slots.{word_of, is_empty, is_no_buffer, Visible, Slots, ShowsSlot, Shows, SeesBuffers}
use Rattle.code_meaning.specs.Fits.{TermHasType}
use Rattle.code_meaning.specs.Stands.{held, IsBegun, HasAt, IsUnderWay, kind_of_type, GoesTo, target_name, TasksStand, StandsFor, task_returns}
use Rattle.code_meaning.specs.Does.{AtEnd, Works, CanBeNull, kind_of_target, IsStoredIn, DoesEffect}
use Rattle.code_meaning.proofs.SlotLaws.{fewer_shown, number_below, shows_set, KindFits, shows_nulled, shows_made}
use Rattle.lower.proofs.CodePlaces.{has_back}
use Rattle.lower.proofs.TermSteps.{IsOpen, LeadsOver, TermGoes, TermTraps, IsStuck, int_in_range, steps_term, value_type}

-- where a path over these instructions leads
pub at_path : (P : ℕ → Type 0) (place : ℕ) (path : Plain) (skipped : List Instr) → LeadsOver path skipped → P (place + 1 + length skipped) → AtEnd P place path
at_path P place plain.Next skipped h k = let e : place + 1 + length skipped ≡ place + 1 = omega (arith, ap length h) in subst P e k
at_path P place (plain.Skip n) skipped h k = subst (λ m. P (place + 1 + m)) (sym h) k
at_path P place (plain.Back n) skipped h k = absurd h
at_path P place (plain.Trap t line) skipped h k = absurd h

-- The place, with these names known, these operands and these slots, which show what can be seen.
module _ (code : Listing) (known : Known) (place : ℕ) (stack : List ℕ) (slots : Slots) (visible : Visible) (shows : Shows code known visible slots) (sees : SeesBuffers visible slots.buffers) where
  -- ---- a step inside an expression

  -- The expression is on the stack in front of `base`, and its instructions come before `after`.
  module _ (line : ℕ) (t : Term) (s : ExprType) (base : List ℕ) (rest_of : List Instr) (task : Term → Task) (rest : List Task) where
    -- what is at the place that a step leads to
    abbrev Further : Type 0
    Further =
        (p : ℕ) (u : Term) → TermHasType known u s → IsBegun u → HasAt code.instrs p (term_code known line u ++ rest_of) → p + length (term_code known line u) ≡ place + length (term_code known line t)
        → TasksStand code known p (held u ++ base) (task u ∷ rest)

    outcome_does : (here : Instr) (more : List Instr) → term_code known line t ≡ here ∷ more → stack ≡ held t ++ base → HasAt code.instrs place (term_code known line t ++ rest_of) → ((u : Term) → IsTrue (list_any task_returns (task u ∷ rest))) → Further
        → TermGoes known line slots visible t s here more ⊎ TermTraps known line slots visible t here ⊎ IsStuck known line slots visible t → DoesEffect code known place stack slots visible rest (goes_on line task (reduce visible.sight t))
    outcome_does here more is operands at returns further (inl g) =
        let whole : HasAt code.instrs place ((here ∷ more) ++ rest_of) = subst (λ c. HasAt code.instrs place (c ++ rest_of)) is at in
        let cut : HasAt code.instrs (place + 1) ((g.skipped ++ term_code known line g.next) ++ rest_of) = subst (λ c. HasAt code.instrs (place + 1) (c ++ rest_of)) g.code whole.1 in
        let moved : HasAt code.instrs (place + 1) (g.skipped ++ (term_code known line g.next ++ rest_of)) = subst (HasAt code.instrs (place + 1)) (append_assoc g.skipped (term_code known line g.next) rest_of) cut in
        let there = has_back code.instrs (place + 1) g.skipped (term_code known line g.next ++ rest_of) moved in
        let size : place + 1 + length g.skipped + length (term_code known line g.next) ≡ place + length (term_code known line t) = omega (arith, ap length is, ap length g.code, length-append g.skipped (term_code known line g.next)) in
        subst (λ r. DoesEffect code known place stack slots visible rest (goes_on line task r)) (sym g.is) (record {
          here = here;
          path = g.path;
          after = held g.next ++ base;
          at = whole.0;
          works = subst (λ a. Works visible slots here a g.path (held g.next ++ base)) (sym operands) (g.works base);
          names = known;
          shows = shows;
          stands = at_path (λ p. StandsFor code known p (held g.next ++ base) (task g.next ∷ rest)) place g.path g.skipped g.leads (record { stand = further (place + 1 + length g.skipped) g.next g.ty g.begun there size; returns = returns g.next });
        })
    outcome_does here more is operands at returns further (inr (inl g)) =
        let whole : HasAt code.instrs place ((here ∷ more) ++ rest_of) = subst (λ c. HasAt code.instrs place (c ++ rest_of)) is at in
        subst (λ r. DoesEffect code known place stack slots visible rest (goes_on line task r)) (sym g.is) (record {
          here = here;
          trap = g.trap;
          is = refl;
          at = whole.0;
          works = subst (λ a. Works visible slots here a (plain.Trap g.trap line) a) (sym operands) (g.works base);
        })
    outcome_does here more is operands at returns further (inr (inr none)) = subst (λ r. DoesEffect code known place stack slots visible rest (goes_on line task r)) (sym none) tt

    pub step_inside : IsOpen t → TermHasType known t s → IsBegun t → stack ≡ held t ++ base → HasAt code.instrs place (term_code known line t ++ rest_of) → ((u : Term) → IsTrue (list_any task_returns (task u ∷ rest))) → Further
        → DoesEffect code known place stack slots visible rest (goes_on line task (reduce visible.sight t))
    step_inside o well_typed begun operands at returns further =
        let st = steps_term known line slots visible shows.each sees o well_typed begun in
        outcome_does st.here st.more st.code operands at returns further st.outcome

  -- the same where the expression is alone on the stack
  alone : (t : Term) → stack ≡ held t → stack ≡ held t ++ []
  alone t h = h ∙ sym (append-nil (held t))

  under_way : (t : Term) (s : ExprType) → TermHasType known t s → IsBegun t → IsUnderWay known s t (held t ++ [])
  under_way t s well_typed begun = record { ty = well_typed; begun = begun; operands = append-nil (held t) }

  none_left : place + 0 + 1 ≡ place + 1
  none_left = omega arith

  -- ---- numbers that are printed

  pub put_step : (line : ℕ) (t : Term) (rest : List Task) → StandsFor code known place stack (Print line t ∷ rest) → DoesEffect code known place stack slots visible rest (effect_of visible.sight (Print line t))
  put_step line (Done (Int z)) rest h = record {
    at = h.stand.0.1.0;
    word = cast_unsigned w32 z;
    top = h.stand.0.0.operands;
    is = to_z-of_z (int_in_range (value_type h.stand.0.0.ty));
    stands = record { stand = subst (λ n. TasksStand code known n [] rest) none_left h.stand.1; returns = h.returns };
  }
  put_step line (Done v) rest h = elim (value_type h.stand.0.0.ty) [ ]
  put_step line t rest h =
      step_inside line t Jint [] (instr.PutJint ∷ []) (Print line) rest tt h.stand.0.0.ty h.stand.0.0.begun (alone t h.stand.0.0.operands) h.stand.0.1 (λ u. h.returns)
      (λ p u well_typed begun at size.
      let e : place + length (term_code known line t) + 1 ≡ p + length (term_code known line u) + 1 = omega (arith, size) in
      ((under_way u Jint well_typed begun, at), subst (λ n. TasksStand code known n [] rest) e h.stand.1))

  -- ---- variables that are set

  set_value : (line : ℕ) (x : Identifier) (v : Value) (rest : List Task) → StandsFor code known place stack (SetScalar line x (Done v) ∷ rest) → DoesEffect code known place stack slots visible rest (effect_of visible.sight (SetScalar line x (Done v)))
  set_value line x v rest h =
      let d = h.stand in
      let below : d.slot.index < length slots.numbers = omega (arith, number_below code known x d.slot d.number d.own, shows.numbers) in
      record {
        here = instr.Store d.slot.index;
        numbers = slice_set slots.numbers d.slot.index (word_of v);
        at = d.value.1.0;
        plain = rw (d.value.0.operands, lt-ltb d.slot.index (length slots.numbers) below) refl;
        names = d.further.0;
        shows = λ new set. fewer_shown code d.further.0 ((x, d.slot) ∷ known) new (record slots { numbers = slice_set slots.numbers d.slot.index (word_of v) }) d.further.1 (shows_set code known visible new slots x d.slot v shows d.own d.number (value_type d.value.0.ty) set);
        stands = record { stand = subst (λ n. TasksStand code d.further.0 n [] rest) none_left d.further.2; returns = h.returns };
      }

  pub set_step : (line : ℕ) (x : Identifier) (t : Term) (rest : List Task) → StandsFor code known place stack (SetScalar line x t ∷ rest) → DoesEffect code known place stack slots visible rest (effect_of visible.sight (SetScalar line x t))
  set_step line x (Done v) rest h = set_value line x v rest h
  set_step line x t rest h =
      let d = h.stand in
      step_inside line t d.slot.ty [] (instr.Store d.slot.index ∷ []) (SetScalar line x) rest tt d.value.0.ty d.value.0.begun (alone t d.value.0.operands) d.value.1 (λ u. h.returns)
      (λ p u well_typed begun at size.
      let e : place + length (term_code known line t) + 1 ≡ p + length (term_code known line u) + 1 = omega (arith, size) in
      record {
        slot = d.slot;
        number = d.number;
        value = (under_way u d.slot.ty well_typed begun, at);
        own = d.own;
        further = (d.further.0, d.further.1, subst (λ n. TasksStand code d.further.0 n [] rest) e d.further.2);
      })

  -- what a name with a slot that can be NULL shows
  shown_null : (x : Identifier) (s : Slot) (kind : ExprType) (variable : NullableVariable) → nullable_of kind s.index ≡ Some variable → ShowsSlot visible x slots s kind → (null : Bool) × (visible.sight.is_null x ≡ Gives null)
  shown_null x s Ref variable e h = (is_none h.reference, h.is_null)
  shown_null x s Global variable e h = (is_empty h.static.held, h.is_null)
  shown_null x s Weak variable e h = (is_empty h.static.held, h.is_null)
  shown_null x s FieldId variable e h = (is_none h.field, h.is_null)
  shown_null x s MethodId variable e h = (is_none h.method, h.is_null)
  shown_null x s (Buffer t writable) variable e h = (is_no_buffer h.buffer, h.is_null)
  shown_null x s kind variable e h = absurd (cc)

  -- a variable that can be NULL is declared as no number
  no_scalar : (s : ExprType) (i : ℕ) (variable : NullableVariable) → nullable_of s i ≡ Some variable → kind_of_type s ≡ Some kinds.Number → ⊥
  no_scalar types.Word i variable e h = cc
  no_scalar s i variable e h = cc

  can_be_null : (target : Target) (s : Slot) (variable : NullableVariable) → nullable_of s.ty s.index ≡ Some variable → GoesTo known s target → CanBeNull code known place stack slots visible target
  can_be_null (Declared kinds.Number x) s variable e h = no_scalar s.ty s.index variable e h
  can_be_null (Declared kinds.Reference x) s variable e h = tt
  can_be_null (Declared kinds.Field x) s variable e h = tt
  can_be_null (Declared kinds.Method x) s variable e h = tt
  can_be_null (Declared (kinds.Buffer t) x) s variable e h = tt
  can_be_null (Assigned x) s variable e h = shown_null x s s.ty variable e (shows.each x s h)
  can_be_null target s variable e h = absurd h

  -- the variable is of its slot's kind
  declared_kind : (x : Identifier) (i : ℕ) (s : ExprType) (kind : VariableKind) → kind_of_type s ≡ Some kind → KindFits visible x i s (Some kind)
  declared_kind x i Ref kind h = sym h
  declared_kind x i Global kind h = absurd (cc)
  declared_kind x i Weak kind h = absurd (cc)
  declared_kind x i FieldId kind h = sym h
  declared_kind x i MethodId kind h = sym h
  declared_kind x i (Buffer t writable) kind h = sym h
  declared_kind x i s kind h = tt

  shown_kind : (x : Identifier) (s : Slot) (t : ExprType) → ShowsSlot visible x slots s t → KindFits visible x s.index t (visible.kind x)
  shown_kind x s Ref h = h.kind
  shown_kind x s Global h = (h.no_variable.kind, h)
  shown_kind x s Weak h = (h.no_variable.kind, h)
  shown_kind x s FieldId h = h.kind
  shown_kind x s MethodId h = h.kind
  shown_kind x s (Buffer t writable) h = h.kind
  shown_kind x s t h = tt

  kind_fits : (target : Target) (name : Identifier) (s : Slot) → target_name target ≡ Some name → GoesTo known s target → KindFits visible name s.index s.ty (kind_of_target code known place stack slots visible target)
  kind_fits (Declared kind x) name s is h = declared_kind name s.index s.ty kind h
  kind_fits (Assigned x) name s is h = let same : x ≡ name = cc in subst (λ (y : Identifier). KindFits visible y s.index s.ty (visible.kind x)) same (shown_kind x s s.ty (shows.each x s h))
  kind_fits target name s is h = absurd h

  -- where a NULL is stored, by what is known of the kind
  stored_in : (s : ExprType) (i : ℕ) (name : Identifier) (kind : Option VariableKind) (variable : NullableVariable) → nullable_of s i ≡ Some variable → KindFits visible name i s kind → IsStoredIn code known place stack slots visible variable kind name
  stored_in Ref i name kind variable e h = subst (λ (v : NullableVariable). IsStoredIn code known place stack slots visible v kind name) (let is : nullable.Local i ≡ variable = cc in is) h
  stored_in Global i name kind variable e h = subst (λ (v : NullableVariable). IsStoredIn code known place stack slots visible v kind name) (let is : nullable.Static i ≡ variable = cc in is) h
  stored_in Weak i name kind variable e h = subst (λ (v : NullableVariable). IsStoredIn code known place stack slots visible v kind name) (let is : nullable.Static i ≡ variable = cc in is) h
  stored_in FieldId i name kind variable e h = subst (λ (v : NullableVariable). IsStoredIn code known place stack slots visible v kind name) (let is : nullable.FieldId i ≡ variable = cc in is) (inl h)
  stored_in MethodId i name kind variable e h = subst (λ (v : NullableVariable). IsStoredIn code known place stack slots visible v kind name) (let is : nullable.FieldId i ≡ variable = cc in is) (inr h)
  stored_in (Buffer t writable) i name kind variable e h = subst (λ (v : NullableVariable). IsStoredIn code known place stack slots visible v kind name) (let is : nullable.Buffer i ≡ variable = cc in is) (t, h)
  stored_in s i name kind variable e h = absurd (cc)

  pub null_step : (target : Target) (rest : List Task) → StandsFor code known place stack (SetNull target ∷ rest) → DoesEffect code known place stack slots visible rest (effect_of visible.sight (SetNull target))
  null_step target rest h =
      let d = h.stand in
      record {
        empty = d.empty;
        name = d.name;
        is = d.is;
        takes = can_be_null target d.slot d.variable d.nullable d.takes;
        variable = d.variable;
        stored = stored_in d.slot.ty d.slot.index d.name (kind_of_target code known place stack slots visible target) d.variable d.nullable (kind_fits target d.name d.slot d.is d.takes);
        at = d.at;
        names = d.further.0;
        shows = λ new set. fewer_shown code d.further.0 ((d.name, d.slot) ∷ known) new _ d.further.1 (shows_nulled code known visible new slots d.name d.slot.ty (kind_of_target code known place stack slots visible target) d.slot.index d.variable shows d.own d.nullable (kind_fits target d.name d.slot d.is d.takes) set);
        stands = record { stand = d.further.2; returns = h.returns };
      }

  pub made_step : (t : _) (x : Identifier) (size : ℕ) (rest : List Task) → StandsFor code known place stack (MakeArray t x size ∷ rest) → DoesEffect code known place stack slots visible rest (effect_of visible.sight (MakeArray t x size))
  made_step t x size rest h =
      let d = h.stand in
      let inside : d.start + size ≤ length slots.numbers = omega (arith, d.own.within.2, shows.numbers) in
      let clears : plain_of (instr.ClearArray (record { start = d.start; len = size })) stack slots.numbers ≡ Some (plain.Next, [], cleared (record { start = d.start; len = size }) slots.numbers) =
      rw (d.empty, le-leb (d.start + size) (length slots.numbers) inside) refl in
      record {
        here = instr.ClearArray (record { start = d.start; len = size });
        numbers = cleared (record { start = d.start; len = size }) slots.numbers;
        at = d.at;
        plain = clears;
        names = d.further.0;
        shows = λ new made. fewer_shown code d.further.0 ((x, record { ty = Array t size; index = d.start }) ∷ known) new _ d.further.1
            (shows_made code known visible new slots t x size d.start shows d.own (subst (KeepsSlots slots.numbers) clears (plain_keeps (instr.ClearArray (record { start = d.start; len = size })) stack slots.numbers)) made);
        stands = record { stand = d.further.2; returns = h.returns };
      }
