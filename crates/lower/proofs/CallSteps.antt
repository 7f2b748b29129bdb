-- The steps of a call whose operands are worked out, and which is then made.
use Rattle.lower.proofs.Steps.{step_inside}
use Rattle.std.proofs.Common.{◌≡◌, ℕ, ◌+◌, Bool, true, List, [], ◌∷◌, ◌++◌, length, Option, Some, None, inl, inr, if◌then◌else◌, ◌&&◌, refl, sym, ap, ◌∙◌, subst, arith, append_assoc, length-append, suc, false, ℤ}
use Rattle.std.specs.Cmp.{first_so, second_so}
use Rattle.std.specs.Prelude.{slice_set, is_none, IsTrue, zip, map, FitsSigned, ◌||◌}
use Rattle.std.specs.List.{list_any, AllZip}
use Rattle.std.specs.Option.{option_map}
use Rattle.std.specs.Int.{w32}
use Rattle.std.proofs.lemmas.Option.{same_Some}
use Rattle.base.specs.Bytes.{Identifier, lookup}
use Rattle.base.specs.declared.element.ElementType.{ElementType}
use Rattle.syntax.specs.Tree as tree
use Rattle.syntax.specs.declared.expr.Constant.TheVariants as constants
use Rattle.syntax.specs.Tree.{Expr}
use Rattle.jni.specs.declared.function.JniFunction.{JniFunction}
use Rattle.jni.specs.JniFunction.{prototype, parameters_for}
use Rattle.jni.specs.declared.kinds.ParameterKind.{ParameterKind}
use Rattle.jni.specs.declared.kinds.ParameterKind.TheVariants.{LocalVariable, StaticVariable, FieldID, MethodID, Passed, ArrayVariable, BufferVariable, Mode, IsCopy, WeakVariable}
use Rattle.jni.specs.declared.kinds.ResultKind.{ResultKind}
use Rattle.jni.specs.declared.kinds.ResultKind.TheVariants.{GivesInt, GivesFlag}
use Rattle.type_rules.specs.declared.ty.ExprType.{ExprType}
use Rattle.type_rules.specs.declared.ty.ExprType.TheVariants.{Jint, Ref, Global, Weak, FieldId, MethodId, Buffer, Array}
use Rattle.type_rules.specs.ExprTypes.{is_jint}
use Rattle.type_rules.specs.declared.ty.ExprType.TheVariants as types
use Rattle.type_rules.specs.TypeGroups.{IsNumberType}
use Rattle.code.specs.declared.instr.Operand.{Operand as Where}
use Rattle.code.specs.declared.instr.Operand.TheVariants as operand
use Rattle.jni.specs.declared.mode.ReleaseMode.{ReleaseMode as ModeInMemory}
use Rattle.code.specs.declared.instr.Target.{Target as Destination}
use Rattle.code.specs.declared.instr.Target.TheVariants as destination
use Rattle.code.specs.declared.instr.Instr.{Instr}
use Rattle.code.specs.declared.instr.Instr.TheVariants as instr
use Rattle.code.specs.Depth.{Listing}
use Rattle.semantics.specs.Effect.{goes_on, is_no_number, is_given, is_ready, call_effect_of, Calls, reduce_name, reduce_first}
use Rattle.semantics.specs.Arguments.{Actual, ReferenceActual, FieldActual, MethodActual, NumberActual, TextActual, VariableActual, ModeActual, NothingActual, mode_of, reference_argument, look_up_expression, look_up, actuals}
use Rattle.semantics.specs.Sight.{Sight}
use Rattle.semantics.specs.Variable.{Empty}
use Rattle.semantics.specs.declared.variable_kind.VariableKind.{VariableKind}
use Rattle.semantics.specs.declared.variable_kind.VariableKind.TheVariants as kinds
use Rattle.semantics.specs.Task.{Task, Invoke, Target, Declared, Assigned, Dropped, Operand, NumberOperand, PassedName, Given, Tested}
use Rattle.semantics.specs.Term.{Term, Done, Read, reduce}
use Rattle.semantics.specs.declared.value.Value.{Value}
use Rattle.semantics.specs.declared.value.Value.TheVariants.{Int}
use Rattle.semantics.specs.Value.{Gives, Outcome, Traps, Stuck, outcome_map}
use Rattle.code_meaning.specs.Layout.{Slot, Known}
use Rattle.code_meaning.specs.Coding.{names_number, term_code}
use Rattle.code_meaning.specs.Slots.{word_of, Visible, Slots, Shows, SeesBuffers, ShowsStatic, ShowsSlot, OfField, OfMethod}
use Rattle.code_meaning.specs.Fits as rule
use Rattle.code_meaning.specs.Fits.{IsReferenceKind, TakesNull, TakesLocal, TakesGlobal, TakesInt, IsVariable, TermHasType, IsStaticIn, IsStaticType}
use Rattle.code_meaning.specs.Stands.{held, HasAt, operand_text, operands_texts, ResultStands, ResultGoes, StaticStands, TestStands, number_type, named_operand, OperandStands, TargetStands, InvokeStands, TasksStand, task_returns, operands_rest, operand_held, operands_held}
use Rattle.code_meaning.specs.Does as gives
use Rattle.code_meaning.specs.Does.{AllTogether, IsOperand, TakesNumber, TakesReference, TakesField, TakesMethod, TakesStatic, TakesBuffer, TakesTest, GoesInto, TakesResult, DoesEffect, word_given, words_given, text_given, texts_given}
use Rattle.code_meaning.proofs.SlotLaws.{fewer_shown, number_below, shows_set, shows_referred, shows_field_set, shows_method_set, shows_buffer_set, static_changes}
use Rattle.lower.proofs.TermSteps.{int_in_range, shows_number, value_type}
use Rattle.lower.proofs.CallOperands.{step_of, are_done, by_step, first_term, open_term, with_open, rest_after, words_under, passed_open, passed_done, open_is_open, open_is_begun, count_same, rest_open, rest_with, texts_with, begun_with, held_with, held_open, ready_rest}

-- ---- the source's step

mapped_twice : {A B C : Type 0} (f : A → B) (g : B → C) (o : Outcome A) → outcome_map g (outcome_map f o) ≡ outcome_map (λ x. g (f x)) o
mapped_twice f g (Gives x) = refl
mapped_twice f g (Traps t) = refl
mapped_twice f g Stuck = refl

-- a name has a value where it is that of a number
abbrev IsSeenAs : Bool → Outcome Value → Type 0
IsSeenAs true number = (v : Value) × (number ≡ Gives v)
IsSeenAs false number = number ≡ Stuck

-- so has the name that an argument is
abbrev IsSeen : Known → Sight → Operand → Type 0
IsSeen known sight (PassedName x) = IsSeenAs (names_number known x) (sight.number x)
IsSeen known sight o = Unit {0}

abbrev AreSeen : Known → Sight → List Operand → Type 0
AreSeen known sight [] = Unit {0}
AreSeen known sight (o ∷ operands) = IsSeen known sight o × AreSeen known sight operands

module _ (known : Known) (sight : Sight) where
  given_by : (b : Bool) (number : Outcome Value) (x : Identifier) → IsSeenAs b number → is_no_number number ≡ is_none (if b then Some (Read x) else None)
  given_by true number x h = ap is_no_number h.1
  given_by false number x h = ap is_no_number h

  given_alike : (o : Operand) → IsSeen known sight o → is_given sight.number o ≡ is_none (step_of known o)
  given_alike (NumberOperand (Done v)) h = refl
  given_alike (NumberOperand t) h = refl
  given_alike (PassedName x) h = given_by (names_number known x) (sight.number x) x h
  given_alike (Given a) h = refl

  ready_alike : (operands : List Operand) → AreSeen known sight operands → is_ready sight.number operands ≡ are_done known operands
  ready_alike [] h = refl
  ready_alike (o ∷ operands) h = ap (λ b. b && is_ready sight.number operands) (given_alike o h.0) ∙ ap (λ b. is_none (step_of known o) && b) (ready_alike operands h.1)

  passed_reduced : (b : Bool) (x : Identifier) (operands : List Operand) (further : Outcome (List Operand)) → b ≡ false → IsSeenAs b (sight.number x) → reduce_name x operands (sight.number x) further ≡ outcome_map (λ (l : List Operand). PassedName x ∷ l) further
  passed_reduced true x operands further e h = absurd (cc)
  passed_reduced false x operands further e h = ap (λ (n : Outcome Value). reduce_name x operands n further) h

  number_reduced : (b : Bool) (x : Identifier) (operands : List Operand) (further : Outcome (List Operand)) → b ≡ true → IsSeenAs b (sight.number x)
      → reduce_name x operands (sight.number x) further ≡ outcome_map (λ (u : Term). NumberOperand u ∷ operands) (reduce sight (Read x))
  number_reduced true x operands further e h =
      ap (λ (n : Outcome Value). reduce_name x operands n further) h.1 ∙ sym (ap (λ (n : Outcome Value). outcome_map (λ (u : Term). NumberOperand u ∷ operands) (outcome_map Done n)) h.1)
  number_reduced false x operands further e h = absurd (cc)

  done_reduced : (o : Operand) (operands : List Operand) → step_of known o ≡ None → IsSeen known sight o → reduce_first sight (o ∷ operands) ≡ outcome_map (λ (l : List Operand). o ∷ l) (reduce_first sight operands)
  done_reduced (NumberOperand (Done v)) operands e h = refl
  done_reduced (NumberOperand t) operands e h = absurd (cc)
  done_reduced (PassedName x) operands e h = passed_reduced (names_number known x) x operands (reduce_first sight operands) (passed_done (names_number known x) x e) h
  done_reduced (Given a) operands e h = refl

  open_reduced : (o : Operand) (operands : List Operand) (t : Term) → step_of known o ≡ Some t → IsSeen known sight o → reduce_first sight (o ∷ operands) ≡ outcome_map (λ (u : Term). NumberOperand u ∷ operands) (reduce sight t)
  open_reduced (NumberOperand (Done v)) operands t e h = absurd (cc)
  open_reduced (NumberOperand u) operands t e h = ap (λ (v : Term). outcome_map (λ (w : Term). NumberOperand w ∷ operands) (reduce sight v)) (same_Some u t e)
  open_reduced (PassedName x) operands t e h =
      let both = passed_open (names_number known x) x t e in
      number_reduced (names_number known x) x operands (reduce_first sight operands) both.0 h ∙ ap (λ (v : Term). outcome_map (λ (w : Term). NumberOperand w ∷ operands) (reduce sight v)) both.1
  open_reduced (Given a) operands t e h = absurd (cc)

  reduced : (operands : List Operand) → are_done known operands ≡ false → AreSeen known sight operands → reduce_first sight operands ≡ outcome_map (with_open known operands) (reduce sight (open_term known operands))
  reduced [] h seen = absurd (cc)
  reduced (o ∷ operands) h seen = by (step_of known o) refl h (λ k. reduced operands k seen.1)
    where
      by : (s : Option Term) → step_of known o ≡ s → (is_none s && are_done known operands) ≡ false → (are_done known operands ≡ false → reduce_first sight operands ≡ outcome_map (with_open known operands) (reduce sight (open_term known operands)))
          → reduce_first sight (o ∷ operands) ≡ outcome_map (λ (u : Term). by_step s (NumberOperand u ∷ operands) (o ∷ with_open known operands u)) (reduce sight (first_term s (open_term known operands)))
      by None e h further =
          done_reduced o operands e seen.0 ∙ ap (outcome_map (λ (l : List Operand). o ∷ l)) (further h) ∙ mapped_twice (with_open known operands) (λ (l : List Operand). o ∷ l) (reduce sight (open_term known operands))
      by (Some t) e h further = open_reduced o operands t e seen.0

goes_on_inside : {A B : Type 0} (line : ℕ) (f : A → B) (task : B → Task) (o : Outcome A) → goes_on line task (outcome_map f o) ≡ goes_on line (λ x. task (f x)) o
goes_on_inside line f task (Gives x) = refl
goes_on_inside line f task (Traps t) = refl
goes_on_inside line f task Stuck = refl

-- ---- where the instruction finds them

local_kind : (p : ParameterKind) → TakesLocal p → IsReferenceKind p
local_kind StaticVariable h = absurd h
local_kind WeakVariable h = absurd h
local_kind p h = h

global_kind : (p : ParameterKind) → TakesGlobal p → IsReferenceKind p
global_kind LocalVariable h = absurd h
global_kind p h = h

-- a bare name is no number, and has neither word nor text
name_is_no_number : (p : ParameterKind) (x : Identifier) (t : Term) → NumberOperand t ≡ named_operand p x → ⊥
name_is_no_number Passed x t e = cc
name_is_no_number p x t e = cc

name_is : (p : ParameterKind) (x y : Identifier) → PassedName x ≡ named_operand p y → x ≡ y
name_is Passed x y e = cc
name_is p x y e = absurd (cc)

named_held : (p : ParameterKind) (x : Identifier) → operand_held (named_operand p x) ≡ []
named_held Passed x = refl
named_held p x = refl

named_text : (p : ParameterKind) (x : Identifier) → operand_text (named_operand p x) ≡ []
named_text Passed x = refl
named_text p x = refl

-- a number has a slot, and no other name
named_alike : (known : Known) (x y : Identifier) (s : Slot) → x ≡ y → lookup y known ≡ Some s → names_number known x ≡ is_jint (Some s.ty)
named_alike known x y s same there = ap (λ z. names_number known z) same ∙ ap (λ o. is_jint (option_map (λ s. s.ty) o)) there

static_number : (s : ExprType) → IsStaticType s → is_jint (Some s) ≡ false
static_number Global h = refl
static_number Weak h = refl
static_number s h = absurd h

none_open : (known : Known) (x : Identifier) (t : Term) → names_number known x ≡ false → step_of known (PassedName x) ≡ Some t → ⊥
none_open known x t none e = let both = passed_open (names_number known x) x t e in let c : true ≡ false = sym both.0 ∙ none in cc

module _ (known : Known) where
  -- an argument that is a number is on the stack
  number_there : (w : Where) (p : ParameterKind) (t : Term) → OperandStands known w (p, NumberOperand t) → (w ≡ operand.Number) × TakesInt p × TermHasType known t Jint
  number_there operand.Null p t h = absurd (let e = h.is in cc)
  number_there (operand.Local i) p t h = absurd (name_is_no_number p h.0 t h.2)
  number_there (operand.Static i) p t h = absurd (name_is_no_number p h.0 t h.2)
  number_there (operand.FieldId i) p t h = absurd (let e = h.2 in cc)
  number_there (operand.MethodId i) p t h = absurd (let e = h.2 in cc)
  number_there operand.Text p t h = absurd (let e = h.is in cc)
  number_there (operand.Array array) p t h = absurd (let e = h.is in cc)
  number_there (operand.Buffer i) p t h = absurd (let e = h.is in cc)
  number_there (operand.Mode mode) p t h = absurd (let e = h.is in cc)
  number_there (operand.IsCopy i) p t h = absurd (let e = h.is in cc)
  number_there operand.Number p t (inl h) = (refl, h.kind, let same : h.term ≡ t = let e : NumberOperand h.term ≡ NumberOperand t = sym h.is in cc in subst (λ (u : Term). TermHasType known u Jint) same h.ty)
  number_there operand.Number p t (inr h) = absurd (let e = h.is in cc)

  -- so is a name of a number once it is worked out
  name_there : (w : Where) (p : ParameterKind) (x : Identifier) (t : Term) → OperandStands known w (p, PassedName x) → step_of known (PassedName x) ≡ Some t → (w ≡ operand.Number) × TakesInt p × TermHasType known t Jint
  name_there operand.Null p x t h e = absurd (let e = h.is in cc)
  name_there (operand.Local i) p x t h e = absurd (none_open known x t (named_alike known x h.0 (record { ty = Ref; index = i }) (name_is p x h.0 h.2) h.3) e)
  name_there (operand.Static i) p x t h e =
      absurd (none_open known x t (named_alike known x h.0 (record { ty = h.3.0; index = i }) (name_is p x h.0 h.2) h.3.2 ∙ static_number h.3.0 h.3.1) e)
  name_there (operand.FieldId i) p x t h e = absurd (let e = h.2 in cc)
  name_there (operand.MethodId i) p x t h e = absurd (let e = h.2 in cc)
  name_there operand.Text p x t h e = absurd (let e = h.is in cc)
  name_there (operand.Array array) p x t h e = absurd (let e = h.is in cc)
  name_there (operand.Buffer i) p x t h e = absurd (let e = h.is in cc)
  name_there (operand.Mode mode) p x t h e = absurd (let e = h.is in cc)
  name_there (operand.IsCopy i) p x t h e = absurd (let e = h.is in cc)
  name_there operand.Number p x t (inl h) e = absurd (let e = h.is in cc)
  name_there operand.Number p x t (inr h) e =
      let same : h.name ≡ x = let e : PassedName h.name ≡ PassedName x = sym h.is in cc in
      (refl, inr h.kind, subst (λ (u : Term). TermHasType known u Jint) (passed_open (names_number known x) x t e).1 (rule.read (subst (λ y. IsVariable known y Jint) same h.there)))

  open_there : (w : Where) (p : ParameterKind) (o : Operand) (t : Term) → OperandStands known w (p, o) → step_of known o ≡ Some t → (w ≡ operand.Number) × TakesInt p × TermHasType known t Jint
  open_there w p (NumberOperand (Done v)) t h e = absurd (cc)
  open_there w p (NumberOperand u) t h e = number_there w p t (subst (λ (v : Term). OperandStands known w (p, NumberOperand v)) (same_Some u t e) h)
  open_there w p (PassedName x) t h e = name_there w p x t h e
  open_there w p (Given a) t h e = absurd (cc)

  other_number : (w : Where) (p : ParameterKind) (o : Operand) (t u : Term) → OperandStands known w (p, o) → step_of known o ≡ Some t → TermHasType known u Jint → OperandStands known w (p, NumberOperand u)
  other_number w p o t u h e well_typed =
      let there = open_there w p o t h e in
      subst (λ (x : Where). OperandStands known x (p, NumberOperand u)) (sym there.0) (inl (record { kind = there.1; term = u; is = refl; ty = well_typed }))

  stand_with : (found : List Where) (parameters : List ParameterKind) (operands : List Operand) (u : Term) → TermHasType known u Jint → AllZip (OperandStands known) found (zip parameters operands)
      → AllZip (OperandStands known) found (zip parameters (with_open known operands u))
  stand_with found [] operands u well_typed h = h
  stand_with found (p ∷ parameters) [] u well_typed h = h
  stand_with [] (p ∷ parameters) (o ∷ operands) u well_typed h = absurd h
  stand_with (w ∷ found) (p ∷ parameters) (o ∷ operands) u well_typed h = by (step_of known o) refl (stand_with found parameters operands u well_typed h.1)
    where
      by : (s : Option Term) → step_of known o ≡ s → AllZip (OperandStands known) found (zip parameters (with_open known operands u))
          → AllZip (OperandStands known) (w ∷ found) (zip (p ∷ parameters) (by_step s (NumberOperand u ∷ operands) (o ∷ with_open known operands u)))
      by None e further = (h.0, further)
      by (Some t) e further = (other_number w p o t u h.0 e well_typed, h.1)

  open_is_typed : (found : List Where) (parameters : List ParameterKind) (operands : List Operand) → length operands ≡ length parameters → are_done known operands ≡ false → AllZip (OperandStands known) found (zip parameters operands) → TermHasType known (open_term known operands) Jint
  open_is_typed found parameters [] count unready h = absurd (cc)
  open_is_typed found [] (o ∷ operands) count unready h = absurd (omega (arith, count))
  open_is_typed [] (p ∷ parameters) (o ∷ operands) count unready h = absurd h
  open_is_typed (w ∷ found) (p ∷ parameters) (o ∷ operands) count unready h = by (step_of known o) refl unready (λ k. open_is_typed found parameters operands (omega (arith, count)) k h.1)
    where
      by : (s : Option Term) → step_of known o ≡ s → (is_none s && are_done known operands) ≡ false → (are_done known operands ≡ false → TermHasType known (open_term known operands) Jint) → TermHasType known (first_term s (open_term known operands)) Jint
      by None e k further = further k
      by (Some t) e k further = (open_there w p o t h.0 e).2

-- whether each path of a call returns goes by its target
returns_alike : (line : ℕ) (target : Target) (f : JniFunction) (a b : List Operand) → task_returns (Invoke line target f a) ≡ task_returns (Invoke line target f b)
returns_alike line (Declared kind x) f a b = refl
returns_alike line (Assigned x) f a b = refl
returns_alike line (Tested first second) f a b = refl
returns_alike line Dropped f a b = refl

-- The place, with these names known, these operands and these slots, which show what can be seen.
module _ (code : Listing) (known : Known) (place : ℕ) (stack : List ℕ) (slots : Slots) (visible : Visible) (shows : Shows code known visible slots) (sees : SeesBuffers visible slots.buffers) where
  -- ---- results

  -- a number goes into its slot
  takes_number : (s : Slot) (x : Identifier) (rest : List Task) → IsNumberType s.ty → IsTrue (list_any task_returns rest) → ResultStands code known (λ p names. TasksStand code names p [] rest) (place + 1) s x → TakesNumber code known place stack slots visible s.ty s.index x rest
  takes_number s x rest n returns h = record {
    within = omega (arith, number_below code known x s n h.own, shows.numbers);
    names = h.further.0;
    shows = λ v new fits set. fewer_shown code h.further.0 ((x, s) ∷ known) new (record slots { numbers = slice_set slots.numbers s.index (word_of v) }) h.further.1 (shows_set code known visible new slots x s v shows h.own n fits set);
    stands = record { stand = h.further.2; returns = returns };
  }

  -- a reference
  takes_reference : (i : ℕ) (x : Identifier) (rest : List Task) → IsTrue (list_any task_returns rest) → ResultStands code known (λ p names. TasksStand code names p [] rest) (place + 1) (record { ty = Ref; index = i }) x → TakesReference code known place stack slots visible i x rest
  takes_reference i x rest returns h = record {
    within = omega (arith, h.own.within, shows.references);
    names = h.further.0;
    shows = λ r new set. fewer_shown code h.further.0 ((x, record { ty = Ref; index = i }) ∷ known) new (record slots { references = slice_set slots.references i r; owners = slice_set slots.owners i (new.owner x) }) h.further.1 (shows_referred code known visible new slots x i r shows h.own set);
    stands = record { stand = h.further.2; returns = returns };
  }

  -- a field ID
  takes_field : (i : ℕ) (x : Identifier) (rest : List Task) → IsTrue (list_any task_returns rest) → ResultStands code known (λ p names. TasksStand code names p [] rest) (place + 1) (record { ty = FieldId; index = i }) x → TakesField code known place stack slots visible i x rest
  takes_field i x rest returns h = record {
    within = omega (arith, h.own.within, shows.fields);
    names = h.further.0;
    shows = λ f new set. fewer_shown code h.further.0 ((x, record { ty = FieldId; index = i }) ∷ known) new (record slots { fields = slice_set slots.fields i (option_map OfField f) }) h.further.1 (shows_field_set code known visible new slots x i f shows h.own set);
    stands = record { stand = h.further.2; returns = returns };
  }

  -- a method ID
  takes_method : (i : ℕ) (x : Identifier) (rest : List Task) → IsTrue (list_any task_returns rest) → ResultStands code known (λ p names. TasksStand code names p [] rest) (place + 1) (record { ty = MethodId; index = i }) x → TakesMethod code known place stack slots visible i x rest
  takes_method i x rest returns h = record {
    within = omega (arith, h.own.within, shows.fields);
    names = h.further.0;
    shows = λ m new set. fewer_shown code h.further.0 ((x, record { ty = MethodId; index = i }) ∷ known) new (record slots { fields = slice_set slots.fields i (option_map OfMethod m) }) h.further.1 (shows_method_set code known visible new slots x i m shows h.own set);
    stands = record { stand = h.further.2; returns = returns };
  }

  -- a buffer
  takes_buffer : (t : ElementType) (writable : Bool) (i : ℕ) (x : Identifier) (rest : List Task) → IsTrue (list_any task_returns rest) → ResultStands code known (λ p names. TasksStand code names p [] rest) (place + 1) (record { ty = Buffer t writable; index = i }) x
      → TakesBuffer code known place stack slots visible t i x rest
  takes_buffer t writable i x rest returns h = record {
    within = omega (arith, h.own.within, shows.buffers);
    names = h.further.0;
    shows = λ told new now b shown set. fewer_shown code h.further.0 ((x, record { ty = Buffer t writable; index = i }) ∷ known) new (record now { buffers = slice_set now.buffers i b }) h.further.1 (shows_buffer_set code known told new now x t writable i b shown h.own set);
    stands = record { stand = h.further.2; returns = returns };
  }

  -- a new variable takes it, or one that is of this kind already
  goes_into : (line : ℕ) (f : JniFunction) (operands : List Operand) (kind : VariableKind) (s : Slot) (target : Target) (rest : List Task) (Takes : Identifier → Type 0) → IsTrue (list_any task_returns (Invoke line target f operands ∷ rest))
      → ((x : Identifier) → IsTrue (list_any task_returns rest) → ResultStands code known (λ p names. TasksStand code names p [] rest) (place + 1) s x → Takes x) → ((x : Identifier) → lookup x known ≡ Some s → visible.kind x ≡ Some kind)
      → ResultGoes code known (λ p names. TasksStand code names p [] rest) (place + 1) s kind target → GoesInto code known place stack slots visible kind target Takes
  goes_into line f operands kind s (Declared declared x) rest Takes returns takes shown h = (h.0, takes x returns h.1)
  goes_into line f operands kind s (Assigned x) rest Takes returns takes shown h = (shown x h.1, takes x returns h.0)
  goes_into line f operands kind s target rest Takes returns takes shown h = absurd h

  is_number_type : (gives : ResultKind) (s : ExprType) → number_type gives ≡ Some s → IsNumberType s
  is_number_type GivesInt s e = subst IsNumberType (let same : Jint ≡ s = cc in same) tt
  is_number_type GivesFlag s e = subst IsNumberType (let same : types.Flag ≡ s = cc in same) tt
  is_number_type gives s e = absurd (cc)

  -- a static is shown, whatever its type
  shown_static : (x : Identifier) (i : ℕ) → IsStaticIn known x i → ShowsStatic visible x i
  shown_static x i (s, is, there) = on_type s is (shows.each x (record { ty = s; index = i }) there)
    where
      on_type : (s : ExprType) → IsStaticType s → ShowsSlot visible x slots (record { ty = s; index = i }) s → ShowsStatic visible x i
      on_type Global is shown = shown
      on_type Weak is shown = shown
      on_type s is shown = absurd is

  -- a static holds it
  takes_static : (line : ℕ) (f : JniFunction) (operands : List Operand) (i : ℕ) (target : Target) (rest : List Task) → IsTrue (list_any task_returns (Invoke line target f operands ∷ rest)) → StaticStands known (λ p names. TasksStand code names p [] rest) (place + 1) i target
      → (x : Identifier) × (target ≡ Assigned x) × TakesStatic code known place stack slots visible i x rest
  takes_static line f operands i target rest returns h = (
    h.name,
    h.is,
    record {
      static = shown_static h.name i h.there;
      names = h.further.0;
      shows = λ held new set. fewer_shown code h.further.0 known new slots h.further.1 (static_changes code known visible new slots h.name held shows set);
      stands = record { stand = h.further.2; returns = subst (λ (t : Target). IsTrue (list_any task_returns (Invoke line t f operands ∷ rest))) h.is returns };
    },
  )

  -- it is tested
  takes_test : (line : ℕ) (f : JniFunction) (operands : List Operand) (target : Target) (rest : List Task) → IsTrue (list_any task_returns (Invoke line target f operands ∷ rest)) → TestStands code known (λ p names. TasksStand code names p [] rest) (place + 1) line target
      → TakesTest code known place stack slots visible line target rest
  takes_test line f operands target rest returns h = record {
    then' = h.then';
    else' = h.else';
    is = h.is;
    stands = λ gave_zero. record { stand = h.paths gave_zero; returns = subst (λ (t : Target). IsTrue (list_any task_returns (Invoke line t f operands ∷ rest))) h.is returns };
  }

  takes_result : (line : ℕ) (f : JniFunction) (operands : List Operand) (goes : Destination) (gives : ResultKind) (target : Target) (rest : List Task) → TargetStands code known (λ p names. TasksStand code names p [] rest) (place + 1) line goes gives target
      → IsTrue (list_any task_returns (Invoke line target f operands ∷ rest)) → TakesResult code known place stack slots visible line goes gives target rest
  takes_result line f operands (destination.Number i) gives target rest h returns =
      let slot : Slot = record { ty = h.0; index = i } in
      let n = is_number_type gives h.0 h.1 in
      (h.0, h.1, goes_into line f operands kinds.Number slot target rest (λ x. TakesNumber code known place stack slots visible h.0 i x rest) returns (λ x r stands. takes_number slot x rest n r stands) (λ x found. (shows_number known line slots visible x slot h.0 n (shows.each x slot found)).kind) h.2)
  takes_result line f operands (destination.Local i) gives target rest h returns =
      let slot : Slot = record { ty = Ref; index = i } in
      (h.0, goes_into line f operands kinds.Reference slot target rest (λ x. TakesReference code known place stack slots visible i x rest) returns (λ x r stands. takes_reference i x rest r stands) (λ x found. (shows.each x slot found).kind) h.1)
  takes_result line f operands (destination.FieldId i) gives target rest h returns =
      let slot : Slot = record { ty = FieldId; index = i } in
      (h.0, goes_into line f operands kinds.Field slot target rest (λ x. TakesField code known place stack slots visible i x rest) returns (λ x r stands. takes_field i x rest r stands) (λ x found. (shows.each x slot found).kind) h.1)
  takes_result line f operands (destination.MethodId i) gives target rest h returns =
      let slot : Slot = record { ty = MethodId; index = i } in
      (h.0, goes_into line f operands kinds.Method slot target rest (λ x. TakesMethod code known place stack slots visible i x rest) returns (λ x r stands. takes_method i x rest r stands) (λ x found. (shows.each x slot found).kind) h.1)
  takes_result line f operands (destination.Static i) gives target rest h returns = (h.0, takes_static line f operands i target rest returns h.1)
  takes_result line f operands (destination.Buffer element i) gives target rest h returns =
      let t = h.1.0 in
      let slot : Slot = record { ty = Buffer t h.1.1; index = i } in
      (h.0, (t, h.1.2, goes_into line f operands (kinds.Buffer t) slot target rest (λ x. TakesBuffer code known place stack slots visible t i x rest) returns (λ x r stands. takes_buffer t h.1.1 i x rest r stands) (λ x found. (shows.each x slot found).kind) h.1.3))
  takes_result line f operands destination.Test gives target rest h returns = (h.0, takes_test line f operands target rest returns h.1)
  takes_result line f operands destination.Dropped gives target rest h returns = (h.0, h.1, record { stand = h.2; returns = subst (λ (t : Target). IsTrue (list_any task_returns (Invoke line t f operands ∷ rest))) h.0 returns })

  -- ---- arguments

  -- a reference is looked up in the call's own step
  looked_up : (p : ParameterKind) (e : Expr) → IsReferenceKind p → look_up_expression visible.sight p e ≡ reference_argument visible.sight e
  looked_up FieldID e kind = absurd kind
  looked_up MethodID e kind = absurd kind
  looked_up (ArrayVariable t) e kind = absurd kind
  looked_up (BufferVariable a) e kind = absurd kind
  looked_up Mode e kind = absurd kind
  looked_up IsCopy e kind = absurd kind
  looked_up p e kind = refl

  looked_up_named : (p : ParameterKind) (x : Identifier) → IsReferenceKind p → look_up visible.sight (p, named_operand p x) ≡ ReferenceActual x (visible.sight.reference x)
  looked_up_named Passed x kind = refl
  looked_up_named p x kind = looked_up p (tree.Variable x) kind

  -- a name has a value where it is that of a number
  seen_name : (w : Where) (p : ParameterKind) (x : Identifier) → OperandStands known w (p, PassedName x) → IsSeenAs (names_number known x) (visible.sight.number x)
  seen_name operand.Null p x h = absurd (let e = h.is in cc)
  seen_name (operand.Local i) p x h =
      let s : Slot = record { ty = Ref; index = i } in
      let same = name_is p x h.0 h.2 in
      subst (λ b. IsSeenAs b (visible.sight.number x)) (sym (named_alike known x h.0 s same h.3)) (ap (λ y. visible.sight.number y) same ∙ (shows.each h.0 s h.3).no_number)
  seen_name (operand.Static i) p x h =
      let same = name_is p x h.0 h.2 in
      subst (λ b. IsSeenAs b (visible.sight.number x)) (sym (named_alike known x h.0 (record { ty = h.3.0; index = i }) same h.3.2 ∙ static_number h.3.0 h.3.1))
      (ap (λ y. visible.sight.number y) same ∙ (shown_static h.0 i h.3).no_variable.number)
  seen_name (operand.FieldId i) p x h = absurd (let e = h.2 in cc)
  seen_name (operand.MethodId i) p x h = absurd (let e = h.2 in cc)
  seen_name operand.Text p x h = absurd (let e = h.is in cc)
  seen_name (operand.Array array) p x h = absurd (let e = h.is in cc)
  seen_name (operand.Buffer i) p x h = absurd (let e = h.is in cc)
  seen_name (operand.Mode mode) p x h = absurd (let e = h.is in cc)
  seen_name (operand.IsCopy i) p x h = absurd (let e = h.is in cc)
  seen_name operand.Number p x (inl h) = absurd (let e = h.is in cc)
  seen_name operand.Number p x (inr h) =
      let same : x ≡ h.name = let e : PassedName x ≡ PassedName h.name = h.is in cc in
      let s : Slot = record { ty = Jint; index = h.there.0 } in
      let shown = shows.each h.name s h.there.1 in
      subst (λ b. IsSeenAs b (visible.sight.number x)) (sym (named_alike known x h.name s same h.there.1)) (shown.value, ap (λ y. visible.sight.number y) same ∙ shown.is)

  seen_operand : (w : Where) (p : ParameterKind) (o : Operand) → OperandStands known w (p, o) → IsSeen known visible.sight o
  seen_operand w p (NumberOperand t) h = tt
  seen_operand w p (PassedName x) h = seen_name w p x h
  seen_operand w p (Given a) h = tt

  are_seen : (found : List Where) (parameters : List ParameterKind) (operands : List Operand) → length operands ≡ length parameters → AllZip (OperandStands known) found (zip parameters operands) → AreSeen known visible.sight operands
  are_seen found parameters [] count h = tt
  are_seen found [] (o ∷ operands) count h = absurd (omega (arith, count))
  are_seen [] (p ∷ parameters) (o ∷ operands) count h = absurd h
  are_seen (w ∷ found) (p ∷ parameters) (o ∷ operands) count h = (seen_operand w p o h.0, are_seen found parameters operands (omega (arith, count)) h.1)

  -- a number that is worked out
  number_is : (p : ParameterKind) (t : Term) → step_of known (NumberOperand t) ≡ None → TermHasType known t Jint → (z : ℤ) × (look_up visible.sight (p, NumberOperand t) ≡ NumberActual z) × FitsSigned w32 z × (held t ≡ word_of (Int z) ∷ [])
  number_is p (Done (Int z)) ready h = (z, refl, int_in_range (value_type h), refl)
  number_is p (Done v) ready h = elim (value_type h) [ ]
  number_is p t ready h = absurd (cc)

  -- an argument that is ready is what its parameter asks for, and is found, with its word and its text
  record IsFound (o : Where) (p : ParameterKind) (given : Operand) : Type 0 where
    found : IsOperand known visible p o (look_up visible.sight (p, given))
    word : operand_held given ≡ word_given (look_up visible.sight (p, given))
    text : operand_text given ≡ text_given (look_up visible.sight (p, given))

  found_as : {o : Where} {p : ParameterKind} (given g : Operand) {a : Actual} → given ≡ g → look_up visible.sight (p, g) ≡ a → IsOperand known visible p o a → operand_held g ≡ word_given a → operand_text g ≡ text_given a → IsFound o p given
  found_as {o} {p} given g {a} is e operand word text =
      let same : look_up visible.sight (p, given) ≡ a = ap (λ (q : Operand). look_up visible.sight (p, q)) is ∙ e in
      record {
        found = subst (IsOperand known visible p o) (sym same) operand;
        word = ap operand_held is ∙ word ∙ ap word_given (sym same);
        text = ap operand_text is ∙ text ∙ ap text_given (sym same);
      }

  -- the same where the parameter is of this kind
  found_of : {o : Where} {p q : ParameterKind} (given g : Operand) {a : Actual} → p ≡ q → given ≡ g → look_up visible.sight (q, g) ≡ a → IsOperand known visible q o a → operand_held g ≡ word_given a → operand_text g ≡ text_given a → IsFound o p given
  found_of {o} given g kind is e operand word text = subst (λ (k : ParameterKind). IsFound o k given) (sym kind) (found_as given g is e operand word text)

  null_found : (p : ParameterKind) (given : Operand) → given ≡ Given (tree.Value (tree.Named constants.Null)) → TakesNull p → IsFound operand.Null p given
  null_found FieldID given is kind = found_as given (Given (tree.Value (tree.Named constants.Null))) is refl gives.no_field refl refl
  null_found MethodID given is kind = found_as given (Given (tree.Value (tree.Named constants.Null))) is refl gives.no_method refl refl
  null_found IsCopy given is kind = found_as given (Given (tree.Value (tree.Named constants.Null))) is refl gives.not_told refl refl
  null_found LocalVariable given is kind = absurd kind
  null_found StaticVariable given is kind = absurd kind
  null_found WeakVariable given is kind = absurd kind
  null_found p given is kind = found_as given (Given (tree.Value (tree.Named constants.Null))) is (looked_up p (tree.Named constants.Null) kind) (gives.reference {x = []} kind (gives.null kind)) refl refl

  number_found : {p : ParameterKind} {z : ℤ} → TakesInt p → FitsSigned w32 z → IsOperand known visible p operand.Number (NumberActual z)
  number_found {z = z} (inl e) fits = subst (λ (p : ParameterKind). IsOperand known visible p operand.Number (NumberActual z)) (sym e) (gives.number fits)
  number_found {z = z} (inr e) fits = subst (λ (p : ParameterKind). IsOperand known visible p operand.Number (NumberActual z)) (sym e) (gives.passed fits)

  is_found : (o : Where) (p : ParameterKind) (given : Operand) → step_of known given ≡ None → OperandStands known o (p, given) → IsFound o p given
  is_found operand.Null p given ready h = null_found p given h.is h.kind
  is_found (operand.Local i) p given ready (x, kind, is, there) =
      found_as given (named_operand p x) is (looked_up_named p x (local_kind p kind)) (gives.reference (local_kind p kind) (gives.local kind there)) (named_held p x) (named_text p x)
  is_found (operand.Static i) p given ready (x, kind, is, there) =
      found_as given (named_operand p x) is (looked_up_named p x (global_kind p kind)) (gives.reference (global_kind p kind) (gives.static kind there)) (named_held p x) (named_text p x)
  is_found (operand.FieldId i) p given ready (x, kind, is, there) = found_of given (Given (tree.Value (tree.Variable x))) kind is refl (gives.field there) refl refl
  is_found (operand.MethodId i) p given ready (x, kind, is, there) = found_of given (Given (tree.Value (tree.Variable x))) kind is refl (gives.has_method there) refl refl
  is_found operand.Text p given ready h = found_of given (Given (tree.Text h.bytes)) h.kind h.is refl gives.text refl refl
  is_found (operand.Array array) p given ready h = found_of given (Given (tree.Value (tree.Variable h.name))) h.kind h.is refl (gives.array h.there) refl refl
  is_found (operand.Buffer i) p given ready h = found_of given (Given (tree.Value (tree.Variable h.name))) h.kind h.is refl (gives.buffer h.there) refl refl
  is_found (operand.Mode mode) p given ready h =
      subst (λ (m : ModeInMemory). IsFound (operand.Mode m) p given) (sym h.same) (found_of given (Given (tree.Value h.written)) h.kind h.is refl gives.mode refl refl)
  is_found (operand.IsCopy i) p given ready h = found_of given (Given (tree.AddressOf h.name)) h.kind h.is refl (gives.told h.there) refl refl
  is_found operand.Number p given ready (inr h) =
      let number : names_number known h.name ≡ true = named_alike known h.name h.name (record { ty = Jint; index = h.there.0 }) refl h.there.1 in
      let none = passed_done (names_number known h.name) h.name (ap (step_of known) (sym h.is) ∙ ready) in
      absurd (let c : true ≡ false = sym number ∙ none in cc)
  is_found operand.Number p given ready (inl h) =
      let number = number_is p h.term (ap (step_of known) (sym h.is) ∙ ready) h.ty in
      found_as given (NumberOperand h.term) h.is number.1 (number_found h.kind number.2) number.3 refl

  none_is : (s : Option Term) → is_none s ≡ true → s ≡ None
  none_is None h = refl
  none_is (Some t) h = absurd (cc)

  both_ready : (o : Operand) (operands : List Operand) → are_done known (o ∷ operands) ≡ true → (step_of known o ≡ None) × (are_done known operands ≡ true)
  both_ready o operands h = (none_is (step_of known o) (first_so (is_none (step_of known o)) (are_done known operands) h), second_so (is_none (step_of known o)) (are_done known operands) h)

  are_operands : (found : List Where) (parameters : List ParameterKind) (operands : List Operand) → length operands ≡ length parameters → are_done known operands ≡ true → AllZip (OperandStands known) found (zip parameters operands)
      → AllTogether (IsOperand known visible) parameters found (map (look_up visible.sight) (zip parameters operands))
  are_operands [] [] operands count ready h = gives.none
  are_operands (w ∷ found) [] operands count ready h = absurd h
  are_operands found (p ∷ parameters) [] count ready h = absurd (omega (arith, count))
  are_operands [] (p ∷ parameters) (o ∷ operands) count ready h = absurd h
  are_operands (w ∷ found) (p ∷ parameters) (o ∷ operands) count ready h =
      let both = both_ready o operands ready in
      gives.more (is_found w p o both.0 h.0).found (are_operands found parameters operands (omega (arith, count)) both.1 h.1)

  are_words : (found : List Where) (parameters : List ParameterKind) (operands : List Operand) → length operands ≡ length parameters → are_done known operands ≡ true → AllZip (OperandStands known) found (zip parameters operands)
      → operands_held operands ≡ words_given (map (look_up visible.sight) (zip parameters operands))
  are_words found [] [] count ready h = refl
  are_words found [] (o ∷ operands) count ready h = absurd (omega (arith, count))
  are_words found (p ∷ parameters) [] count ready h = absurd (omega (arith, count))
  are_words [] (p ∷ parameters) (o ∷ operands) count ready h = absurd h
  are_words (w ∷ found) (p ∷ parameters) (o ∷ operands) count ready h =
      let both = both_ready o operands ready in
      ap (λ (l : List ℕ). l ++ operand_held o) (are_words found parameters operands (omega (arith, count)) both.1 h.1)
      ∙ ap (λ (l : List ℕ). words_given (map (look_up visible.sight) (zip parameters operands)) ++ l) (is_found w p o both.0 h.0).word

  are_texts : (found : List Where) (parameters : List ParameterKind) (operands : List Operand) → length operands ≡ length parameters → are_done known operands ≡ true → AllZip (OperandStands known) found (zip parameters operands)
      → operands_texts operands ≡ texts_given (map (look_up visible.sight) (zip parameters operands))
  are_texts found [] [] count ready h = refl
  are_texts found [] (o ∷ operands) count ready h = absurd (omega (arith, count))
  are_texts found (p ∷ parameters) [] count ready h = absurd (omega (arith, count))
  are_texts [] (p ∷ parameters) (o ∷ operands) count ready h = absurd h
  are_texts (w ∷ found) (p ∷ parameters) (o ∷ operands) count ready h =
      let both = both_ready o operands ready in
      ap (λ (l : List (List ℕ)). operand_text o ++ l) (are_texts found parameters operands (omega (arith, count)) both.1 h.1)
      ∙ ap (λ (l : List (List ℕ)). l ++ texts_given (map (look_up visible.sight) (zip parameters operands))) (is_found w p o both.0 h.0).text

  -- there is an argument for each parameter
  actual_count : (parameters : List ParameterKind) (operands : List Operand) → length operands ≡ length parameters → length (map (look_up visible.sight) (zip parameters operands)) ≡ length parameters
  actual_count [] operands count = refl
  actual_count (p ∷ parameters) [] count = absurd (omega (arith, count))
  actual_count (p ∷ parameters) (o ∷ operands) count = ap (λ n. suc n) (actual_count parameters operands (omega (arith, count)))

  -- ---- the call

  module _ (line : ℕ) (target : Target) (f : JniFunction) (operands : List Operand) (rest : List Task) (c : InvokeStands code known place stack (λ p names. TasksStand code names p [] rest) line target f operands) (returns : IsTrue (list_any task_returns (Invoke line target f operands ∷ rest))) where
    -- the parameters of the arguments
    abbrev parameters : List ParameterKind
    parameters = parameters_for f (length operands)

    seen : AreSeen known visible.sight operands
    seen = are_seen c.call.operands parameters operands c.count c.operands_stand

    -- all is worked out
    made : are_done known operands ≡ true → DoesEffect code known place stack slots visible rest (Calls line target f (actuals visible.sight f operands))
    made ready =
        let none = ready_rest known line operands ready in
        let here = subst (λ (l : List Instr). HasAt code.instrs place (l ++ instr.Call c.call ∷ [])) none c.at in
        let next : place + length (operands_rest known line operands) + 1 ≡ place + 1 = omega (arith, ap length none) in
        let as_many : length operands ≡ length (actuals visible.sight f operands) = c.count ∙ sym (actual_count parameters operands c.count) in
        record {
          call = c.call;
          at = here.0;
          same_line = c.same_line;
          same_function = c.same_function;
          words = c.held ∙ are_words c.call.operands parameters operands c.count ready c.operands_stand;
          texts = c.texts ∙ are_texts c.call.operands parameters operands c.count ready c.operands_stand;
          count = subst (λ n. n ≡ length (parameters_for f n)) as_many c.count;
          own_slots = c.own_slots;
          given = subst (λ n. AllTogether (IsOperand known visible) (parameters_for f n) c.call.operands (actuals visible.sight f operands)) as_many (are_operands c.call.operands parameters operands c.count ready c.operands_stand);
          goes = takes_result line f operands c.call.target (prototype f).result target rest (subst (λ p. TargetStands code known (λ q names. TasksStand code names q [] rest) p line c.call.target (prototype f).result target) next c.goes) returns;
        }

    -- a number takes its step
    worked_out : are_done known operands ≡ false → DoesEffect code known place stack slots visible rest (goes_on line (Invoke line target f) (reduce_first visible.sight operands))
    worked_out unready =
        let t = open_term known operands in
        let whole : operands_rest known line operands ≡ term_code known line t ++ rest_after known line operands = rest_open known line operands unready in
        let at : HasAt code.instrs place (term_code known line t ++ (rest_after known line operands ++ instr.Call c.call ∷ [])) =
        subst (HasAt code.instrs place) (ap (λ (l : List Instr). l ++ instr.Call c.call ∷ []) whole ∙ append_assoc (term_code known line t) (rest_after known line operands) (instr.Call c.call ∷ [])) c.at in
        let under : stack ≡ held t ++ words_under known operands = c.held ∙ held_open known operands unready c.begun in
        subst (DoesEffect code known place stack slots visible rest)
        (sym (ap (goes_on line (Invoke line target f)) (reduced known visible.sight operands unready seen) ∙ goes_on_inside line (with_open known operands) (Invoke line target f) (reduce visible.sight t)))
        (step_inside code known place stack slots visible shows sees line t Jint (words_under known operands) (rest_after known line operands ++ instr.Call c.call ∷ []) (λ u. Invoke line target f (with_open known operands u)) rest
        (open_is_open known operands unready) (open_is_typed known c.call.operands parameters operands c.count unready c.operands_stand) (open_is_begun known operands unready c.begun) under at
        (λ u. subst (λ (b : Bool). IsTrue (b || list_any task_returns rest)) (returns_alike line target f operands (with_open known operands u)) returns)
        (λ p u well_typed begun there size.
        let same : operands_rest known line (with_open known operands u) ≡ term_code known line u ++ rest_after known line operands = rest_with known line operands u unready in
        let end : place + length (operands_rest known line operands) + 1 ≡ p + length (operands_rest known line (with_open known operands u)) + 1 =
        omega (arith, size, ap length whole, ap length same, length-append (term_code known line t) (rest_after known line operands), length-append (term_code known line u) (rest_after known line operands)) in
        let as_many : length operands ≡ length (with_open known operands u) = sym (count_same known operands u) in
        record {
          call = c.call;
          at = subst (HasAt code.instrs p) (sym (ap (λ (l : List Instr). l ++ instr.Call c.call ∷ []) same ∙ append_assoc (term_code known line u) (rest_after known line operands) (instr.Call c.call ∷ []))) there;
          same_line = c.same_line;
          same_function = c.same_function;
          begun = begun_with known operands u unready c.begun begun;
          held = sym (held_with known operands u unready c.begun);
          texts = c.texts ∙ sym (texts_with known operands u);
          count = subst (λ n. n ≡ length (parameters_for f n)) as_many c.count;
          own_slots = c.own_slots;
          operands_stand = subst (λ n. AllZip (OperandStands known) c.call.operands (zip (parameters_for f n) (with_open known operands u))) as_many (stand_with known c.call.operands parameters operands u well_typed c.operands_stand);
          goes = subst (λ q. TargetStands code known (λ r names. TasksStand code names r [] rest) q line c.call.target (prototype f).result target) end c.goes;
        }))

    by_ready : (b : Bool) → are_done known operands ≡ b → DoesEffect code known place stack slots visible rest (call_effect_of visible.sight line target f operands)
    by_ready true ready = rw (ready_alike known visible.sight operands seen ∙ ready) (made ready)
    by_ready false unready = rw (ready_alike known visible.sight operands seen ∙ unready) (worked_out unready)

    pub call_step : DoesEffect code known place stack slots visible rest (call_effect_of visible.sight line target f operands)
    call_step = by_ready (are_done known operands) refl
