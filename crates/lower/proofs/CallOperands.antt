-- The operands of a call, of which the numbers are worked out one after another.
use Rattle.std.proofs.Common.{◌≡◌, ℕ, Bool, true, List, [], ◌∷◌, ◌++◌, length, Option, Some, None, if◌then◌else◌, ◌&&◌, refl, sym, ap, ◌∙◌, subst, append_assoc, suc, false, pos}
use Rattle.std.specs.Prelude.{is_none}
use Rattle.std.specs.Option.{option_map}
use Rattle.std.proofs.lemmas.List.{append-nil}
use Rattle.std.proofs.lemmas.Option.{same_Some}
use Rattle.base.specs.Bytes.{Identifier, lookup}
use Rattle.type_rules.specs.ExprTypes.{is_jint}
use Rattle.code.specs.declared.instr.Instr.{Instr}
use Rattle.semantics.specs.Task.{Operand, NumberOperand, PassedName, Given}
use Rattle.semantics.specs.Term.{Term, Done, Read}
use Rattle.semantics.specs.declared.value.Value.TheVariants.{Int}
use Rattle.code_meaning.specs.Layout.{Slot, Known}
use Rattle.code_meaning.specs.Coding.{of_slot, load_code, number_code, names_number, term_code}
use Rattle.code_meaning.specs.Stands.{held, IsBegun, operand_text, operands_texts, operand_rest, operands_rest, operand_held, operands_held, AreUntouched, AreBegun}
use Rattle.lower.proofs.TermSteps.{IsOpen, untouched_held, untouched_begun}

-- ---- the number that is worked out

-- the term of an argument that takes a step before the call, if there is one
abbrev pub step_of : Known → Operand → Option Term
step_of known (NumberOperand (Done v)) = None
step_of known (NumberOperand t) = Some t
step_of known (PassedName x) = if names_number known x then Some (Read x) else None
step_of known (Given a) = None

-- no argument takes one
abbrev pub are_done : Known → List Operand → Bool
are_done known [] = true
are_done known (o ∷ operands) = is_none (step_of known o) && are_done known operands

-- one of two, by whether the argument takes a step
abbrev pub by_step : {A : Type 0} → Option Term → (here further : A) → A
by_step (Some t) here further = here
by_step None here further = further

-- the term itself, or that of a later argument
abbrev pub first_term : Option Term → Term → Term
first_term (Some t) further = t
first_term None further = further

-- the first that has no value yet
abbrev pub open_term : Known → List Operand → Term
open_term known [] = Done (Int (pos 0))
open_term known (o ∷ operands) = first_term (step_of known o) (open_term known operands)

-- the arguments with another term in its place
abbrev pub with_open : Known → List Operand → Term → List Operand
with_open known [] u = []
with_open known (o ∷ operands) u = by_step (step_of known o) (NumberOperand u ∷ operands) (o ∷ with_open known operands u)

-- the instructions after its own
abbrev pub rest_after : Known → (line : ℕ) → List Operand → List Instr
rest_after known line [] = []
rest_after known line (o ∷ operands) = by_step (step_of known o) (operands_rest known line operands) (rest_after known line operands)

-- the words under its own
abbrev pub words_under : Known → List Operand → List ℕ
words_under known [] = []
words_under known (o ∷ operands) = by_step (step_of known o) [] (words_under known operands ++ operand_held o)

-- ---- one argument

-- a name that takes a step is that of a number
pub passed_open : (b : Bool) (x : Identifier) (t : Term) → (if b then Some (Read x) else None) ≡ Some t → (b ≡ true) × (Read x ≡ t)
passed_open true x t e = (refl, cc)
passed_open false x t e = absurd (cc)

pub passed_done : (b : Bool) (x : Identifier) → (if b then Some (Read x) else None) ≡ None → b ≡ false
passed_done true x e = absurd (cc)
passed_done false x e = refl

number_coded : (s : Option Slot) → is_jint (option_map (λ s. s.ty) s) ≡ true → of_slot number_code s ≡ of_slot load_code s
number_coded None h = refl
number_coded (Some s) h = ap (λ b. if b then load_code s.ty s.index else []) h

reference_coded : (s : Option Slot) → is_jint (option_map (λ s. s.ty) s) ≡ false → of_slot number_code s ≡ []
reference_coded None h = refl
reference_coded (Some s) h = ap (λ b. if b then load_code s.ty s.index else []) h

module _ (known : Known) where
  done_rest : (line : ℕ) (o : Operand) → step_of known o ≡ None → operand_rest known line o ≡ []
  done_rest line (NumberOperand (Done v)) e = refl
  done_rest line (NumberOperand t) e = absurd (cc)
  done_rest line (PassedName x) e = reference_coded (lookup x known) (passed_done (names_number known x) x e)
  done_rest line (Given a) e = refl

  open_rest : (line : ℕ) (o : Operand) (t : Term) → step_of known o ≡ Some t → operand_rest known line o ≡ term_code known line t
  open_rest line (NumberOperand (Done v)) t e = absurd (cc)
  open_rest line (NumberOperand u) t e = ap (term_code known line) (same_Some u t e)
  open_rest line (PassedName x) t e =
      let both = passed_open (names_number known x) x t e in
      number_coded (lookup x known) both.0 ∙ ap (term_code known line) both.1
  open_rest line (Given a) t e = absurd (cc)

  open_held : (o : Operand) (t : Term) → step_of known o ≡ Some t → operand_held o ≡ held t
  open_held (NumberOperand (Done v)) t e = absurd (cc)
  open_held (NumberOperand u) t e = ap held (same_Some u t e)
  open_held (PassedName x) t e = ap held (passed_open (names_number known x) x t e).1
  open_held (Given a) t e = absurd (cc)

  open_text : (o : Operand) (t : Term) → step_of known o ≡ Some t → operand_text o ≡ []
  open_text (NumberOperand u) t e = refl
  open_text (PassedName x) t e = refl
  open_text (Given a) t e = absurd (cc)

  open_open : (o : Operand) (t : Term) → step_of known o ≡ Some t → IsOpen t
  open_open (NumberOperand (Done v)) t e = absurd (cc)
  open_open (NumberOperand u) t e = subst IsOpen (same_Some u t e) tt
  open_open (PassedName x) t e = subst IsOpen (passed_open (names_number known x) x t e).1 tt
  open_open (Given a) t e = absurd (cc)

  open_begun : (o : Operand) (operands : List Operand) (t : Term) → step_of known o ≡ Some t → AreBegun known (o ∷ operands) → IsBegun t × AreUntouched operands
  open_begun (NumberOperand (Done v)) operands t e h = absurd (cc)
  open_begun (NumberOperand u) operands t e h = subst (λ (v : Term). IsBegun v × AreUntouched operands) (same_Some u t e) h
  open_begun (PassedName x) operands t e h =
      let both = passed_open (names_number known x) x t e in
      (subst IsBegun both.1 tt, h.0 both.0)
  open_begun (Given a) operands t e h = absurd (cc)

  done_begun : (o : Operand) (operands : List Operand) → step_of known o ≡ None → AreBegun known (o ∷ operands) → AreBegun known operands
  done_begun (NumberOperand (Done v)) operands e h = h
  done_begun (NumberOperand t) operands e h = absurd (cc)
  done_begun (PassedName x) operands e h = h.1
  done_begun (Given a) operands e h = h

  begun_done : (o : Operand) (operands : List Operand) → step_of known o ≡ None → AreBegun known operands → AreBegun known (o ∷ operands)
  begun_done (NumberOperand (Done v)) operands e h = h
  begun_done (NumberOperand t) operands e h = absurd (cc)
  begun_done (PassedName x) operands e h = (λ number. absurd (let none = passed_done (names_number known x) x e in let c : true ≡ false = sym number ∙ none in cc), h)
  begun_done (Given a) operands e h = h

pub untouched_are_begun : (known : Known) (operands : List Operand) → AreUntouched operands → AreBegun known operands
untouched_are_begun known [] h = tt
untouched_are_begun known (Given a ∷ operands) h = untouched_are_begun known operands h
untouched_are_begun known (PassedName x ∷ operands) h = (λ number. h, untouched_are_begun known operands h)
untouched_are_begun known (NumberOperand (Done v) ∷ operands) h = absurd h.0
untouched_are_begun known (NumberOperand t ∷ operands) h = (untouched_begun t h.0, h.1)

pub untouched_are_held : (operands : List Operand) → AreUntouched operands → operands_held operands ≡ []
untouched_are_held [] h = refl
untouched_are_held (Given a ∷ operands) h = append-nil (operands_held operands) ∙ untouched_are_held operands h
untouched_are_held (PassedName x ∷ operands) h = append-nil (operands_held operands) ∙ untouched_are_held operands h
untouched_are_held (NumberOperand t ∷ operands) h = rw (untouched_are_held operands h.1, untouched_held t h.0) refl

front_begun : (known : Known) (u : Term) (operands : List Operand) → IsBegun u → AreUntouched operands → AreBegun known (NumberOperand u ∷ operands)
front_begun known (Done v) operands b h = untouched_are_begun known operands h
front_begun known u operands b h = (b, h)

-- ---- all arguments

module _ (known : Known) where
  pub open_is_open : (operands : List Operand) → are_done known operands ≡ false → IsOpen (open_term known operands)
  open_is_open [] h = absurd (cc)
  open_is_open (o ∷ operands) h = by (step_of known o) refl h (open_is_open operands)
    where
      by : (s : Option Term) → step_of known o ≡ s → (is_none s && are_done known operands) ≡ false → (are_done known operands ≡ false → IsOpen (open_term known operands)) → IsOpen (first_term s (open_term known operands))
      by None e h further = further h
      by (Some t) e h further = open_open known o t e

  pub open_is_begun : (operands : List Operand) → are_done known operands ≡ false → AreBegun known operands → IsBegun (open_term known operands)
  open_is_begun [] h b = absurd (cc)
  open_is_begun (o ∷ operands) h b = by (step_of known o) refl h (open_is_begun operands)
    where
      by : (s : Option Term) → step_of known o ≡ s → (is_none s && are_done known operands) ≡ false → (are_done known operands ≡ false → AreBegun known operands → IsBegun (open_term known operands)) → IsBegun (first_term s (open_term known operands))
      by None e h further = further h (done_begun known o operands e b)
      by (Some t) e h further = (open_begun known o operands t e b).0

  pub count_same : (operands : List Operand) (u : Term) → length (with_open known operands u) ≡ length operands
  count_same [] u = refl
  count_same (o ∷ operands) u = by (step_of known o) (count_same operands u)
    where
      by : (s : Option Term) → length (with_open known operands u) ≡ length operands → length (by_step s (NumberOperand u ∷ operands) (o ∷ with_open known operands u)) ≡ suc (length operands)
      by None further = ap (λ n. suc n) further
      by (Some t) further = refl

  pub rest_open : (line : ℕ) (operands : List Operand) → are_done known operands ≡ false → operands_rest known line operands ≡ term_code known line (open_term known operands) ++ rest_after known line operands
  rest_open line [] h = absurd (cc)
  rest_open line (o ∷ operands) h = by (step_of known o) refl h (rest_open line operands)
    where
      by : (s : Option Term) → step_of known o ≡ s → (is_none s && are_done known operands) ≡ false → (are_done known operands ≡ false → operands_rest known line operands ≡ term_code known line (open_term known operands) ++ rest_after known line operands)
          → operand_rest known line o ++ operands_rest known line operands ≡ term_code known line (first_term s (open_term known operands)) ++ by_step s (operands_rest known line operands) (rest_after known line operands)
      by None e h further = ap (λ (l : List Instr). l ++ operands_rest known line operands) (done_rest known line o e) ∙ further h
      by (Some t) e h further = ap (λ (l : List Instr). l ++ operands_rest known line operands) (open_rest known line o t e)

  pub rest_with : (line : ℕ) (operands : List Operand) (u : Term) → are_done known operands ≡ false → operands_rest known line (with_open known operands u) ≡ term_code known line u ++ rest_after known line operands
  rest_with line [] u h = absurd (cc)
  rest_with line (o ∷ operands) u h = by (step_of known o) refl h (rest_with line operands u)
    where
      by : (s : Option Term) → step_of known o ≡ s → (is_none s && are_done known operands) ≡ false → (are_done known operands ≡ false → operands_rest known line (with_open known operands u) ≡ term_code known line u ++ rest_after known line operands)
          → operands_rest known line (by_step s (NumberOperand u ∷ operands) (o ∷ with_open known operands u)) ≡ term_code known line u ++ by_step s (operands_rest known line operands) (rest_after known line operands)
      by None e h further = ap (λ (l : List Instr). l ++ operands_rest known line (with_open known operands u)) (done_rest known line o e) ∙ further h
      by (Some t) e h further = refl

  pub texts_with : (operands : List Operand) (u : Term) → operands_texts (with_open known operands u) ≡ operands_texts operands
  texts_with [] u = refl
  texts_with (o ∷ operands) u = by (step_of known o) refl (texts_with operands u)
    where
      by : (s : Option Term) → step_of known o ≡ s → operands_texts (with_open known operands u) ≡ operands_texts operands → operands_texts (by_step s (NumberOperand u ∷ operands) (o ∷ with_open known operands u)) ≡ operand_text o ++ operands_texts operands
      by None e further = ap (λ (l : List (List ℕ)). operand_text o ++ l) further
      by (Some t) e further = ap (λ (l : List (List ℕ)). l ++ operands_texts operands) (sym (open_text known o t e))

  pub begun_with : (operands : List Operand) (u : Term) → are_done known operands ≡ false → AreBegun known operands → IsBegun u → AreBegun known (with_open known operands u)
  begun_with [] u h b k = absurd (cc)
  begun_with (o ∷ operands) u h b k = by (step_of known o) refl h (begun_with operands u)
    where
      by : (s : Option Term) → step_of known o ≡ s → (is_none s && are_done known operands) ≡ false → (are_done known operands ≡ false → AreBegun known operands → IsBegun u → AreBegun known (with_open known operands u))
          → AreBegun known (by_step s (NumberOperand u ∷ operands) (o ∷ with_open known operands u))
      by None e h further = begun_done known o (with_open known operands u) e (further h (done_begun known o operands e b) k)
      by (Some t) e h further = front_begun known u operands k (open_begun known o operands t e b).1

  pub held_with : (operands : List Operand) (u : Term) → are_done known operands ≡ false → AreBegun known operands → operands_held (with_open known operands u) ≡ held u ++ words_under known operands
  held_with [] u h b = absurd (cc)
  held_with (o ∷ operands) u h b = by (step_of known o) refl h (held_with operands u)
    where
      by : (s : Option Term) → step_of known o ≡ s → (is_none s && are_done known operands) ≡ false → (are_done known operands ≡ false → AreBegun known operands → operands_held (with_open known operands u) ≡ held u ++ words_under known operands)
          → operands_held (by_step s (NumberOperand u ∷ operands) (o ∷ with_open known operands u)) ≡ held u ++ by_step s [] (words_under known operands ++ operand_held o)
      by None e h further = ap (λ (l : List ℕ). l ++ operand_held o) (further h (done_begun known o operands e b)) ∙ append_assoc (held u) (words_under known operands) (operand_held o)
      by (Some t) e h further = ap (λ (l : List ℕ). l ++ held u) (untouched_are_held operands (open_begun known o operands t e b).1) ∙ sym (append-nil (held u))

  pub held_open : (operands : List Operand) → are_done known operands ≡ false → AreBegun known operands → operands_held operands ≡ held (open_term known operands) ++ words_under known operands
  held_open [] h b = absurd (cc)
  held_open (o ∷ operands) h b = by (step_of known o) refl h (held_open operands)
    where
      by : (s : Option Term) → step_of known o ≡ s → (is_none s && are_done known operands) ≡ false → (are_done known operands ≡ false → AreBegun known operands → operands_held operands ≡ held (open_term known operands) ++ words_under known operands)
          → operands_held operands ++ operand_held o ≡ held (first_term s (open_term known operands)) ++ by_step s [] (words_under known operands ++ operand_held o)
      by None e h further = ap (λ (l : List ℕ). l ++ operand_held o) (further h (done_begun known o operands e b)) ∙ append_assoc (held (open_term known operands)) (words_under known operands) (operand_held o)
      by (Some t) e h further = ap (λ (l : List ℕ). l ++ operand_held o) (untouched_are_held operands (open_begun known o operands t e b).1) ∙ open_held known o t e ∙ sym (append-nil (held t))

  -- nothing is left to be worked out
  pub ready_rest : (line : ℕ) (operands : List Operand) → are_done known operands ≡ true → operands_rest known line operands ≡ []
  ready_rest line [] h = refl
  ready_rest line (o ∷ operands) h = by (step_of known o) refl h (ready_rest line operands)
    where
      by : (s : Option Term) → step_of known o ≡ s → (is_none s && are_done known operands) ≡ true → (are_done known operands ≡ true → operands_rest known line operands ≡ []) → operand_rest known line o ++ operands_rest known line operands ≡ []
      by None e h further = ap (λ (l : List Instr). l ++ operands_rest known line operands) (done_rest known line o e) ∙ further h
      by (Some t) e h further = absurd (cc)
