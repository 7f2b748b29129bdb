-- The first instruction of a term's code replaces the leftmost part that can be reduced, or traps where it does.
use Rattle.std.proofs.Common.{◌≡◌, ℕ, ℤ, pos, negsuc, ◌+◌, ◌-◌, ◌<◌, ◌^◌, ◌%◌, ◌*◌, ◌/◌, ◌⊎◌, inl, inr, lit<, Bool, true, false, not, List, [], ◌∷◌, ◌++◌, length, Option, Some, None, if◌then◌else◌, refl, sym, ap, ◌∙◌, subst, arith, append_assoc, mod-eq_of_lt}
use Rattle.std.specs.Prelude.{FitsSigned, nat_lt, nat_le, int_lt, int_le, is_none, slice_get, ◌==◌}
use Rattle.std.specs.Bool.{beq}
use Rattle.std.specs.Ordering.{int_eq}
use Rattle.std.specs.Option.{option_map}
use Rattle.std.specs.Int.{w32, cast_unsigned, cast_signed}
use Rattle.std.proofs.Math.Nat.{mod-lt, div-le_self}
use Rattle.std.proofs.Math.Facts.{Fits-and, Fits-or, Fits-xor, Fits-of_lt, Fits-lt-pow, Fits-of_z, of_z-to_z, sfits_to_z, to_z-of_z}
use Rattle.std.proofs.lemmas.List.{append-nil}
use Rattle.std.proofs.lemmas.Bool.{ltb-true, ltb-false}
use Rattle.std.proofs.lemmas.Bool.Decides.{Decides-eqb, Decides-int_eq, same_from_decides}
use Rattle.syntax.specs.declared.expr.PrefixOp.{PrefixOp}
use Rattle.syntax.specs.declared.expr.PrefixOp.TheVariants.{LogicalNot, Complement, ToWord, ToInt}
use Rattle.syntax.specs.declared.expr.BinaryOp.{BinaryOp}
use Rattle.syntax.specs.declared.expr.BinaryOp.TheVariants.{LogicalOr, LogicalAnd, BitOr, BitXor, BitAnd, Equal, NotEqual, Less, LessEqual, Greater, GreaterEqual, ShiftLeft, ShiftRight, Add, Subtract, Multiply, Divide, Remainder}
use Rattle.base.specs.Bytes.{Identifier, lookup}
use Rattle.semantics.specs.Sight.{in_range}
use Rattle.semantics.specs.Variable as variable
use Rattle.semantics.specs.Variable.{StaticReference}
use Rattle.code_meaning.proofs.StaticPlaces.{there_at}
use Rattle.base.specs.declared.element.ElementType.{ElementType}
use Rattle.base.specs.declared.element.ElementType.TheVariants.{Int as JInt}
use Rattle.base.proofs.Numbers.{positive}
use Rattle.type_rules.specs.declared.ty.ExprType.{ExprType}
use Rattle.type_rules.specs.declared.ty.ExprType.TheVariants.{Jint, Ref, Global, FieldId, MethodId, Buffer, Array}
use Rattle.type_rules.specs.ExprTypes.{OperatorGroup, Logic, Equality, Order, OnWords, group, is_jint}
use Rattle.type_rules.specs.declared.ty.ExprType.TheVariants as types
use Rattle.type_rules.specs.TypeGroups.{IsIndexType, IsNumberType, OperatorFits}
use Rattle.code.specs.declared.instr.Operator.TheVariants as operator
use Rattle.code.specs.declared.instr.TrappingOperator.TheVariants as trapping
use Rattle.code.specs.declared.instr.NullableVariable.{NullableVariable}
use Rattle.code.specs.declared.instr.NullableVariable.TheVariants as nullable
use Rattle.code.specs.declared.instr.Instr.{Instr}
use Rattle.code.specs.declared.instr.Instr.TheVariants as instr
use Rattle.code.specs.declared.instr.Plain.{Plain}
use Rattle.code.specs.declared.instr.Plain.TheVariants as plain
use Rattle.code.specs.declared.instr.PlainTrap.{PlainTrap}
use Rattle.code.specs.declared.instr.PlainTrap.TheVariants as trap
use Rattle.code.specs.Effect.{plain_of, truth_word, operate}
use Rattle.code.proofs.Words.{negative_index}
use Rattle.semantics.specs.declared.trap.Trap.TheVariants.{OutOfRange}
use Rattle.semantics.specs.declared.value.Value.{Value}
use Rattle.semantics.specs.declared.value.Value.TheVariants.{Word, Int, Flag, Truth}
use Rattle.semantics.specs.Value.{Gives, Traps, Stuck, outcome_map, convert}
use Rattle.semantics.specs.Term as term
use Rattle.semantics.specs.Term.{Term, Done, Read, IsNull, Prefix, And, Or, Binary, Reduction, done, with_part, reduce}
use Rattle.code_meaning.specs.Layout.{Slot, Known}
use Rattle.code_meaning.specs.Coding.{nullable_of, test_of, null_code, element_code, of_slot, load_code, prefix_code, operator_code, is_signed, skip_code, term_code}
use Rattle.code_meaning.specs.Slots as value
use Rattle.code_meaning.specs.Slots.{word_of, ValueHasType, Visible, Slots, OfField, OfMethod, is_empty, is_no_buffer, ShowsNumber, ShowsArray, ShowsBuffer, ShowsSlot, elements_in, seen_element, SeesBuffers, slot_elements, holds_null}
use Rattle.code_meaning.specs.Fits as rule
use Rattle.code_meaning.specs.Fits.{IsVariable, IsNullable, HasElements, TermHasType, IsUntouched}
use Rattle.code_meaning.specs.Stands.{held, IsBegun}
use Rattle.code_meaning.specs.Does.{trap_of, Loads, Works}

-- some part has no value yet
abbrev pub IsOpen : Term → Type 0
IsOpen (Done v) = ⊥
IsOpen t = Unit {0}

-- a path over these instructions
abbrev pub LeadsOver : Plain → List Instr → Type 0
LeadsOver plain.Next skipped = skipped ≡ []
LeadsOver (plain.Skip n) skipped = n ≡ length skipped
LeadsOver path skipped = ⊥

-- ---- terms that are not begun

pub untouched_held : (t : Term) → IsUntouched t → held t ≡ []
untouched_held (Done v) h = absurd h
untouched_held (term.Element x t) h = untouched_held t h
untouched_held (Prefix op t) h = untouched_held t h
untouched_held (And a b) h = untouched_held a h.0
untouched_held (Or a b) h = untouched_held a h.0
untouched_held (Binary op a b) h = rw (untouched_held b h.1, untouched_held a h.0) refl
untouched_held t h = refl

-- an operator whose left side has no value is begun there
left_begun : (op : BinaryOp) (a b : Term) → IsUntouched a → IsBegun a → IsUntouched b → IsBegun (Binary op a b)
left_begun op (Done v) b h g u = absurd h
left_begun op a b h g u = (g, u)

pub untouched_begun : (t : Term) → IsUntouched t → IsBegun t
untouched_begun (Done v) h = absurd h
untouched_begun (term.Element x t) h = untouched_begun t h
untouched_begun (Prefix op t) h = untouched_begun t h
untouched_begun (And a b) h = (untouched_begun a h.0, h.1)
untouched_begun (Or a b) h = (untouched_begun a h.0, h.1)
untouched_begun (Binary op a b) h = left_begun op a b h.0 (untouched_begun a h.0) h.1
untouched_begun t h = tt

-- the next step of the left side leaves the right one untouched
pub begun_left : (op : BinaryOp) (a b : Term) → IsBegun a → IsUntouched b → IsBegun (Binary op a b)
begun_left op (Done v) b h u = untouched_begun b u
begun_left op a b h u = (h, u)

-- the part that takes its step is the left side
pub left_first : (op : BinaryOp) (a b : Term) → IsOpen a → IsBegun (Binary op a b) → IsBegun a × IsUntouched b
left_first op (Done v) b o h = absurd o
left_first op a b o h = h

-- ---- the types of operands

result_unsigned : (g : OperatorGroup) (r s : ExprType) → OperatorFits g r s → is_jint (Some s) ≡ false
result_unsigned Logic r s h = absurd h
result_unsigned Equality r s h = ap (λ (q : ExprType). is_jint (Some q)) h.1
result_unsigned Order r s h = ap (λ (q : ExprType). is_jint (Some q)) h.1
result_unsigned OnWords r s h = ap (λ (q : ExprType). is_jint (Some q)) h.1

-- whether a term is a `jint` is known from its type
pub signed_is : {known : Known} {t : Term} {s : ExprType} → TermHasType known t s → is_signed known t ≡ is_jint (Some s)
signed_is (rule.done (value.word h)) = refl
signed_is (rule.read h) = ap (λ (o : Option Slot). is_jint (option_map (λ (q : Slot). q.ty) o)) h.1
signed_is (rule.operator {op = op} {r = r} {s = s} fits h k) = sym (result_unsigned (group op) r s fits)
signed_is h = refl

-- ---- what the type of a term tells

pub value_type : {known : Known} {v : Value} {s : ExprType} → TermHasType known (Done v) s → ValueHasType v s
value_type (rule.done h) = h

pub read_variable : {known : Known} {x : Identifier} {s : ExprType} → TermHasType known (Read x) s → IsVariable known x s
read_variable (rule.read h) = h

pub int_in_range : {z : ℤ} {s : ExprType} → ValueHasType (Int z) s → FitsSigned w32 z
int_in_range (value.int h) = h

-- ---- numbers

-- what a word becomes by the cast to `jint`
abbrev convert_int : ℕ → ℤ
convert_int n = convert JInt (pos n)

-- a word that becomes a `jint` keeps its bits
same_word : (n : ℕ) → n < 2 ^ 32 → cast_unsigned w32 (convert_int n) ≡ n
same_word n h = rw (mod-eq_of_lt h) (of_z-to_z {w = w32} (Fits-of_lt h))

int_fits : (n : ℕ) → n < 2 ^ 32 → FitsSigned w32 (convert_int n)
int_fits n h = rw (mod-eq_of_lt h) (sfits_to_z (Fits-of_lt h))

-- `jint`s are equal where their words are
equal_words : (a b : ℤ) → FitsSigned w32 a → FitsSigned w32 b → int_eq a b ≡ (cast_unsigned w32 a == cast_unsigned w32 b)
equal_words a b h k =
    same_from_decides (int_eq a b) (cast_unsigned w32 a == cast_unsigned w32 b) (Decides-int_eq a b) (
      (λ e. let same : cast_unsigned w32 a ≡ cast_unsigned w32 b = (Decides-eqb (cast_unsigned w32 a) (cast_unsigned w32 b)).0 e in sym (to_z-of_z h) ∙ ap (cast_signed w32) same ∙ to_z-of_z k),
      λ e. (Decides-eqb (cast_unsigned w32 a) (cast_unsigned w32 b)).1 (ap (cast_unsigned w32) e),
    )

-- ---- a step

-- A term in a statement on this line, where these names are known and the slots show what can be seen.
module _ (known : Known) (line : ℕ) (slots : Slots) (visible : Visible) where
  -- the instruction does what the term's step does; `more` comes after it
  pub record TermGoes (t : Term) (s : ExprType) (here : Instr) (more : List Instr) : Type 0 where
    pub next : Term
    pub is : reduce visible.sight t ≡ Gives next
    pub skipped : List Instr
    pub code : more ≡ skipped ++ term_code known line next
    pub path : Plain
    pub leads : LeadsOver path skipped
    pub works : (stack : List ℕ) → Works visible slots here (held t ++ stack) path (held next ++ stack)
    pub ty : TermHasType known next s
    pub begun : IsBegun next

  -- both trap
  pub record TermTraps (t : Term) (here : Instr) : Type 0 where
    pub trap : PlainTrap
    pub is : reduce visible.sight t ≡ Traps (trap_of trap)
    pub works : (stack : List ℕ) → Works visible slots here (held t ++ stack) (plain.Trap trap line) (held t ++ stack)

  -- nothing fits
  abbrev pub IsStuck : Term → Type 0
  IsStuck t = reduce visible.sight t ≡ Stuck

  -- a term's step, and what the instruction for it does
  pub record StepsTerm (t : Term) (s : ExprType) : Type 0 where
    pub here : Instr
    pub more : List Instr
    pub code : term_code known line t ≡ here ∷ more
    pub outcome : TermGoes t s here more ⊎ TermTraps t here ⊎ IsStuck t

  -- a part becomes a value by one instruction
  gives_value : {t : Term} {s : ExprType} (v : Value) (here : Instr) → term_code known line t ≡ here ∷ [] → reduce visible.sight t ≡ Gives (Done v) → ((stack : List ℕ) → Works visible slots here (held t ++ stack) plain.Next (word_of v ∷ stack)) → ValueHasType v s → StepsTerm t s
  gives_value v here code is works fits = record {
    here = here;
    more = [];
    code = code;
    outcome = inl (record { next = Done v; is = is; skipped = []; code = refl; path = plain.Next; leads = refl; works = works; ty = rule.done fits; begun = tt });
  }

  gives_trap : {t : Term} {s : ExprType} (here : Instr) (reason : PlainTrap) → term_code known line t ≡ here ∷ [] → reduce visible.sight t ≡ Traps (trap_of reason)
      → ((stack : List ℕ) → Works visible slots here (held t ++ stack) (plain.Trap reason line) (held t ++ stack)) → StepsTerm t s
  gives_trap here reason code is works = record { here = here; more = []; code = code; outcome = inr (inl (record { trap = reason; is = is; works = works })) }

  gives_nothing : {t : Term} {s : ExprType} (here : Instr) → term_code known line t ≡ here ∷ [] → IsStuck t → StepsTerm t s
  gives_nothing here code is = record { here = here; more = []; code = code; outcome = inr (inr is) }

  -- ---- a part inside a term

  record Inside (whole : Term → Term) (t : Term) (r s : ExprType) : Type 0 where
    tail : List Instr
    base : List ℕ
    reduces : reduce visible.sight (whole t) ≡ outcome_map whole (reduce visible.sight t)
    codes : (u : Term) → TermHasType known u r → term_code known line (whole u) ≡ term_code known line u ++ tail
    holds : (u : Term) → held (whole u) ≡ held u ++ base
    types : (u : Term) → TermHasType known u r → TermHasType known (whole u) s
    begins : (u : Term) → IsBegun u → IsBegun (whole u)

  inside_outcome : (whole : Term → Term) (t : Term) (r s : ExprType) (here : Instr) (more : List Instr) → (i : Inside whole t r s) → TermGoes t r here more ⊎ TermTraps t here ⊎ IsStuck t
      → TermGoes (whole t) s here (more ++ i.tail) ⊎ TermTraps (whole t) here ⊎ IsStuck (whole t)
  inside_outcome whole t r s here more i (inl g) = inl (record {
    next = whole g.next;
    is = i.reduces ∙ ap (outcome_map whole) g.is;
    skipped = g.skipped;
    code = ap (λ c. c ++ i.tail) g.code ∙ append_assoc g.skipped (term_code known line g.next) i.tail ∙ ap (λ c. g.skipped ++ c) (sym (i.codes g.next g.ty));
    path = g.path;
    leads = g.leads;
    works = λ stack. rw (i.holds t, i.holds g.next, append_assoc (held t) i.base stack, append_assoc (held g.next) i.base stack) (g.works (i.base ++ stack));
    ty = i.types g.next g.ty;
    begun = i.begins g.next g.begun;
  })
  inside_outcome whole t r s here more i (inr (inl g)) = inr (inl (record {
    trap = g.trap;
    is = i.reduces ∙ ap (outcome_map whole) g.is;
    works = λ stack. rw (i.holds t, append_assoc (held t) i.base stack) (g.works (i.base ++ stack));
  }))
  inside_outcome whole t r s here more i (inr (inr is)) = inr (inr (i.reduces ∙ ap (outcome_map whole) is))

  inside : (whole : Term → Term) (t : Term) (r s : ExprType) → Inside whole t r s → TermHasType known t r → StepsTerm t r → StepsTerm (whole t) s
  inside whole t r s i h st = record {
    here = st.here;
    more = st.more ++ i.tail;
    code = i.codes t h ∙ ap (λ c. c ++ i.tail) st.code;
    outcome = inside_outcome whole t r s st.here st.more i st.outcome;
  }

  -- a part without a value takes its step inside the whole
  into_part : (use_value : Value → Reduction) (whole : Term → Term) (part : Term) (step : Reduction) → IsOpen part → with_part use_value whole part step ≡ outcome_map whole step
  into_part f whole (Done v) step o = absurd o
  into_part f whole t step o = refl

  in_prefix : (op : PrefixOp) (t : Term) (r s : ExprType) → IsOpen t → ((u : Term) → TermHasType known u r → TermHasType known (Prefix op u) s) → Inside (Prefix op) t r s
  in_prefix op t r s o types = record {
    tail = prefix_code op ∷ [];
    base = [];
    reduces = into_part _ (Prefix op) t _ o;
    codes = λ u h. refl;
    holds = λ u. sym (append-nil (held u));
    types = types;
    begins = λ u h. h;
  }

  in_element : (x : Identifier) (t : Term) (r s : ExprType) → IsOpen t → ((u : Term) → TermHasType known u r → TermHasType known (term.Element x u) s) → Inside (term.Element x) t r s
  in_element x t r s o types = record {
    tail = of_slot (element_code line) (lookup x known);
    base = [];
    reduces = into_part _ (term.Element x) t _ o;
    codes = λ u h. refl;
    holds = λ u. sym (append-nil (held u));
    types = types;
    begins = λ u h. h;
  }

  in_and : (a b : Term) → IsOpen a → IsUntouched b → TermHasType known b types.Truth → Inside (λ u. And u b) a types.Truth types.Truth
  in_and a b o u h = record {
    tail = skip_code true (length (term_code known line b)) ∷ term_code known line b;
    base = [];
    reduces = into_part _ (λ t. And t b) a _ o;
    codes = λ w g. refl;
    holds = λ w. sym (append-nil (held w));
    types = λ w g. rule.both g h;
    begins = λ w g. (g, u);
  }

  in_or : (a b : Term) → IsOpen a → IsUntouched b → TermHasType known b types.Truth → Inside (λ u. Or u b) a types.Truth types.Truth
  in_or a b o u h = record {
    tail = skip_code false (length (term_code known line b)) ∷ term_code known line b;
    base = [];
    reduces = into_part _ (λ t. Or t b) a _ o;
    codes = λ w g. refl;
    holds = λ w. sym (append-nil (held w));
    types = λ w g. rule.either g h;
    begins = λ w g. (g, u);
  }

  in_left : (op : BinaryOp) (a b : Term) (r s : ExprType) → IsOpen a → IsUntouched b → OperatorFits (group op) r s → TermHasType known b r → Inside (λ u. Binary op u b) a r s
  in_left op a b r s o u f h = record {
    tail = term_code known line b ++ operator_code line (is_jint (Some r)) op ∷ [];
    base = [];
    reduces = into_part _ (λ t. Binary op t b) a _ o;
    codes = λ w g. ap (λ q. term_code known line w ++ (term_code known line b ++ operator_code line q op ∷ [])) (signed_is g);
    holds = λ w. ap (λ q. q ++ held w) (untouched_held b u) ∙ sym (append-nil (held w));
    types = λ w g. rule.operator f g h;
    begins = λ w g. begun_left op w b g u;
  }

  in_right : (op : BinaryOp) (v : Value) (b : Term) (r s : ExprType) → IsOpen b → OperatorFits (group op) r s → ValueHasType v r → Inside (Binary op (Done v)) b r s
  in_right op v b r s o f h = record {
    tail = operator_code line (is_signed known (Done v)) op ∷ [];
    base = word_of v ∷ [];
    reduces = into_part _ (Binary op (Done v)) b _ o;
    codes = λ w g. refl;
    holds = λ w. refl;
    types = λ w g. rule.operator f (rule.done h) g;
    begins = λ w g. g;
  }

  -- ---- `&&` and `||` after their left side

  goes_right : (t b : Term) (s : ExprType) (here : Instr) → term_code known line t ≡ here ∷ term_code known line b → reduce visible.sight t ≡ Gives b
      → ((stack : List ℕ) → Works visible slots here (held t ++ stack) plain.Next stack) → IsUntouched b → TermHasType known b s → StepsTerm t s
  goes_right t b s here code is works u h = record {
    here = here;
    more = term_code known line b;
    code = code;
    outcome = inl (record {
      next = b;
      is = is;
      skipped = [];
      code = refl;
      path = plain.Next;
      leads = refl;
      works = λ stack. rw (untouched_held b u) (works stack);
      ty = h;
      begun = untouched_begun b u;
    });
  }

  skips_right : (t b : Term) (v : Value) (s : ExprType) (here : Instr) → term_code known line t ≡ here ∷ term_code known line b → reduce visible.sight t ≡ Gives (Done v)
      → ((stack : List ℕ) → Works visible slots here (held t ++ stack) (plain.Skip (length (term_code known line b))) (word_of v ∷ stack)) → ValueHasType v s → StepsTerm t s
  skips_right t b v s here code is works h = record {
    here = here;
    more = term_code known line b;
    code = code;
    outcome = inl (record {
      next = Done v;
      is = is;
      skipped = term_code known line b;
      code = sym (append-nil (term_code known line b));
      path = plain.Skip (length (term_code known line b));
      leads = refl;
      works = works;
      ty = rule.done h;
      begun = tt;
    });
  }

  and_step : (b : Term) {v : Value} → ValueHasType v types.Truth → TermHasType known b types.Truth → IsUntouched b → StepsTerm (And (Done v) b) types.Truth
  and_step b (value.truth {b = true}) k u = goes_right (And (Done (Truth true)) b) b types.Truth (instr.JumpIfFalseOrPop (length (term_code known line b))) refl refl (λ stack. refl) u k
  and_step b (value.truth {b = false}) k u = skips_right (And (Done (Truth false)) b) b (Truth false) types.Truth (instr.JumpIfFalseOrPop (length (term_code known line b))) refl refl (λ stack. refl) value.truth

  or_step : (b : Term) {v : Value} → ValueHasType v types.Truth → TermHasType known b types.Truth → IsUntouched b → StepsTerm (Or (Done v) b) types.Truth
  or_step b (value.truth {b = true}) k u = skips_right (Or (Done (Truth true)) b) b (Truth true) types.Truth (instr.JumpIfTrueOrPop (length (term_code known line b))) refl refl (λ stack. refl) value.truth
  or_step b (value.truth {b = false}) k u = goes_right (Or (Done (Truth false)) b) b types.Truth (instr.JumpIfTrueOrPop (length (term_code known line b))) refl refl (λ stack. refl) u k

  -- ---- operators on values

  prefix_step : {op : PrefixOp} {v : Value} {s : ExprType} → TermHasType known (Prefix op (Done v)) s → StepsTerm (Prefix op (Done v)) s
  prefix_step (rule.logical_not (rule.done (value.truth {b = true}))) = gives_value (Truth false) instr.Not refl refl (λ stack. refl) value.truth
  prefix_step (rule.logical_not (rule.done (value.truth {b = false}))) = gives_value (Truth true) instr.Not refl refl (λ stack. refl) value.truth
  prefix_step (rule.complement (rule.done (value.word {n = n} h))) = gives_value (Word (4294967295 - n)) instr.Complement refl refl (λ stack. refl) (value.word (omega arith))
  prefix_step (rule.to_word i (rule.done (value.word {n = n} h))) = gives_value (Word n) instr.Convert refl refl (λ stack. refl) (value.word h)
  prefix_step (rule.to_word i (rule.done (value.int {z = z} h))) = gives_value (Word (cast_unsigned w32 z)) instr.Convert refl refl (λ stack. refl) (value.word (Fits-lt-pow (Fits-of_z h)))
  prefix_step (rule.to_word i (rule.done (value.flag {b = true}))) = gives_value (Word 1) instr.Convert refl refl (λ stack. refl) (value.word (lit< tt))
  prefix_step (rule.to_word i (rule.done (value.flag {b = false}))) = gives_value (Word 0) instr.Convert refl refl (λ stack. refl) (value.word (lit< tt))
  prefix_step (rule.to_word i (rule.done value.truth)) = absurd i
  prefix_step (rule.to_int i (rule.done (value.word {n = n} h))) = gives_value (Int (convert_int n)) instr.Convert refl refl (λ stack. ap (λ (w : ℕ). Some (plain.Next, w ∷ stack, slots.numbers)) (sym (same_word n h))) (value.int (int_fits n h))
  prefix_step (rule.to_int i (rule.done (value.int {z = z} h))) = gives_value (Int z) instr.Convert refl refl (λ stack. refl) (value.int h)
  prefix_step (rule.to_int i (rule.done (value.flag {b = true}))) = gives_value (Int (pos 1)) instr.Convert refl refl (λ stack. refl) (value.int (record { sfits = lit< tt }))
  prefix_step (rule.to_int i (rule.done (value.flag {b = false}))) = gives_value (Int (pos 0)) instr.Convert refl refl (λ stack. refl) (value.int (record { sfits = lit< tt }))
  prefix_step (rule.to_int i (rule.done value.truth)) = absurd i

  -- ---- operators on two values

  divide : (a b : ℕ) → a < 2 ^ 32 → (z : Bool) → (b == 0) ≡ z → StepsTerm (Binary Divide (Done (Word a)) (Done (Word b))) types.Word
  divide a b h true k = gives_trap (instr.OperateOrTrap trapping.Divide line) trap.DivisionByZero refl (rw k refl) (λ stack. rw k refl)
  divide a b h false k =
      let small = div-le_self a b in
      gives_value (Word (a / b)) (instr.OperateOrTrap trapping.Divide line) refl (rw k refl) (λ stack. rw k refl) (value.word (omega arith))

  remainder : (a b : ℕ) → b < 2 ^ 32 → (z : Bool) → (b == 0) ≡ z → StepsTerm (Binary Remainder (Done (Word a)) (Done (Word b))) types.Word
  remainder a b h true k = gives_trap (instr.OperateOrTrap trapping.Remainder line) trap.DivisionByZero refl (rw k refl) (λ stack. rw k refl)
  remainder a b h false k =
      let some : 0 < b = positive b k in
      let small = mod-lt a some in
      gives_value (Word (a % b)) (instr.OperateOrTrap trapping.Remainder line) refl (rw k refl) (λ stack. rw k refl) (value.word (omega arith))

  shift_left : (a b : ℕ) (z : Bool) → nat_lt b 32 ≡ z → StepsTerm (Binary ShiftLeft (Done (Word a)) (Done (Word b))) types.Word
  shift_left a b true k = gives_value (Word (a * 2 ^ b % 2 ^ 32)) (instr.OperateOrTrap trapping.ShiftLeft line) refl (rw k refl) (λ stack. rw k refl) (value.word (mod-lt (a * 2 ^ b) (lit< tt)))
  shift_left a b false k = gives_trap (instr.OperateOrTrap trapping.ShiftLeft line) trap.ShiftTooFar refl (rw k refl) (λ stack. rw k refl)

  shift_right : (a b : ℕ) → a < 2 ^ 32 → (z : Bool) → nat_lt b 32 ≡ z → StepsTerm (Binary ShiftRight (Done (Word a)) (Done (Word b))) types.Word
  shift_right a b h true k =
      let small = div-le_self a (2 ^ b) in
      gives_value (Word (a / 2 ^ b)) (instr.OperateOrTrap trapping.ShiftRight line) refl (rw k refl) (λ stack. rw k refl) (value.word (omega arith))
  shift_right a b h false k = gives_trap (instr.OperateOrTrap trapping.ShiftRight line) trap.ShiftTooFar refl (rw k refl) (λ stack. rw k refl)

  -- the type of what an operator on values gives
  abbrev result_of : OperatorGroup → ExprType
  result_of OnWords = types.Word
  result_of g = types.Truth

  result_is : (g : OperatorGroup) (r s : ExprType) → OperatorFits g r s → s ≡ result_of g
  result_is Logic r s f = absurd f
  result_is Equality r s f = f.1
  result_is Order r s f = f.1
  result_is OnWords r s f = f.1

  words_step : (op : BinaryOp) (a b : ℕ) (s : ExprType) → a < 2 ^ 32 → b < 2 ^ 32 → OperatorFits (group op) types.Word s → StepsTerm (Binary op (Done (Word a)) (Done (Word b))) (result_of (group op))
  words_step LogicalOr a b s h k f = absurd f
  words_step LogicalAnd a b s h k f = absurd f
  words_step BitOr a b s h k f = gives_value (Word (operate operator.Or a b)) (instr.Operate operator.Or) refl refl (λ stack. refl) (value.word (Fits-lt-pow (Fits-or {w = w32} (Fits-of_lt h) (Fits-of_lt k))))
  words_step BitXor a b s h k f = gives_value (Word (operate operator.Xor a b)) (instr.Operate operator.Xor) refl refl (λ stack. refl) (value.word (Fits-lt-pow (Fits-xor {w = w32} (Fits-of_lt h) (Fits-of_lt k))))
  words_step BitAnd a b s h k f = gives_value (Word (operate operator.And a b)) (instr.Operate operator.And) refl refl (λ stack. refl) (value.word (Fits-lt-pow (Fits-and {w = w32} b (Fits-of_lt h))))
  words_step Equal a b s h k f = gives_value (Truth (a == b)) (instr.Operate operator.Equal) refl refl (λ stack. refl) value.truth
  words_step NotEqual a b s h k f = gives_value (Truth (not (a == b))) (instr.Operate operator.NotEqual) refl refl (λ stack. refl) value.truth
  words_step Less a b s h k f = gives_value (Truth (nat_lt a b)) (instr.Operate operator.Less) refl refl (λ stack. refl) value.truth
  words_step LessEqual a b s h k f = gives_value (Truth (nat_le a b)) (instr.Operate operator.LessEqual) refl refl (λ stack. refl) value.truth
  words_step Greater a b s h k f = gives_value (Truth (nat_lt b a)) (instr.Operate operator.Greater) refl refl (λ stack. refl) value.truth
  words_step GreaterEqual a b s h k f = gives_value (Truth (nat_le b a)) (instr.Operate operator.GreaterEqual) refl refl (λ stack. refl) value.truth
  words_step ShiftLeft a b s h k f = shift_left a b (nat_lt b 32) refl
  words_step ShiftRight a b s h k f = shift_right a b h (nat_lt b 32) refl
  words_step Add a b s h k f = gives_value (Word (operate operator.Add a b)) (instr.Operate operator.Add) refl refl (λ stack. refl) (value.word (mod-lt (a + b) (lit< tt)))
  words_step Subtract a b s h k f = gives_value (Word (operate operator.Subtract a b)) (instr.Operate operator.Subtract) refl refl (λ stack. refl) (value.word (mod-lt (a + (2 ^ 32 - b)) (lit< tt)))
  words_step Multiply a b s h k f = gives_value (Word (operate operator.Multiply a b)) (instr.Operate operator.Multiply) refl refl (λ stack. refl) (value.word (mod-lt (a * b) (lit< tt)))
  words_step Divide a b s h k f = divide a b h (b == 0) refl
  words_step Remainder a b s h k f = remainder a b k (b == 0) refl

  -- the word of a comparison of `jint`s is that of the truth
  compared : (here : Instr) (a b : ℤ) (q p : Bool) (stack : List ℕ) → q ≡ p → plain_of here (cast_unsigned w32 b ∷ cast_unsigned w32 a ∷ stack) slots.numbers ≡ Some (plain.Next, truth_word q ∷ stack, slots.numbers)
      → plain_of here (cast_unsigned w32 b ∷ cast_unsigned w32 a ∷ stack) slots.numbers ≡ Some (plain.Next, truth_word p ∷ stack, slots.numbers)
  compared here a b q p stack same h = h ∙ ap (λ (t : Bool). Some (plain.Next, truth_word t ∷ stack, slots.numbers)) same

  ints_step : (op : BinaryOp) (a b : ℤ) (s : ExprType) → FitsSigned w32 a → FitsSigned w32 b → OperatorFits (group op) Jint s → StepsTerm (Binary op (Done (Int a)) (Done (Int b))) (result_of (group op))
  ints_step LogicalOr a b s h k f = absurd f
  ints_step LogicalAnd a b s h k f = absurd f
  ints_step Equal a b s h k f = gives_value (Truth (int_eq a b)) (instr.Operate operator.Equal) refl refl (λ stack. compared (instr.Operate operator.Equal) a b (cast_unsigned w32 a == cast_unsigned w32 b) (int_eq a b) stack (sym (equal_words a b h k)) refl) value.truth
  ints_step NotEqual a b s h k f =
      gives_value (Truth (not (int_eq a b))) (instr.Operate operator.NotEqual) refl refl (λ stack. compared (instr.Operate operator.NotEqual) a b (not (cast_unsigned w32 a == cast_unsigned w32 b)) (not (int_eq a b)) stack (ap not (sym (equal_words a b h k))) refl) value.truth
  ints_step Less a b s h k f = gives_value (Truth (int_lt a b)) (instr.Operate operator.SignedLess) refl refl (λ stack. compared (instr.Operate operator.SignedLess) a b _ (int_lt a b) stack (rw (to_z-of_z h, to_z-of_z k) refl) refl) value.truth
  ints_step LessEqual a b s h k f = gives_value (Truth (int_le a b)) (instr.Operate operator.SignedLessEqual) refl refl (λ stack. compared (instr.Operate operator.SignedLessEqual) a b _ (int_le a b) stack (rw (to_z-of_z h, to_z-of_z k) refl) refl) value.truth
  ints_step Greater a b s h k f = gives_value (Truth (int_lt b a)) (instr.Operate operator.SignedGreater) refl refl (λ stack. compared (instr.Operate operator.SignedGreater) a b _ (int_lt b a) stack (rw (to_z-of_z h, to_z-of_z k) refl) refl) value.truth
  ints_step GreaterEqual a b s h k f = gives_value (Truth (int_le b a)) (instr.Operate operator.SignedGreaterEqual) refl refl (λ stack. compared (instr.Operate operator.SignedGreaterEqual) a b _ (int_le b a) stack (rw (to_z-of_z h, to_z-of_z k) refl) refl) value.truth
  ints_step op a b s h k f = absurd (let c : Jint ≡ types.Word = f.0 in cc)

  equal_flags : (a b : Bool) → StepsTerm (Binary Equal (Done (Flag a)) (Done (Flag b))) types.Truth
  equal_flags true true = gives_value (Truth true) (instr.Operate operator.Equal) refl refl (λ stack. refl) value.truth
  equal_flags true false = gives_value (Truth false) (instr.Operate operator.Equal) refl refl (λ stack. refl) value.truth
  equal_flags false true = gives_value (Truth false) (instr.Operate operator.Equal) refl refl (λ stack. refl) value.truth
  equal_flags false false = gives_value (Truth true) (instr.Operate operator.Equal) refl refl (λ stack. refl) value.truth

  unequal_flags : (a b : Bool) → StepsTerm (Binary NotEqual (Done (Flag a)) (Done (Flag b))) types.Truth
  unequal_flags true true = gives_value (Truth false) (instr.Operate operator.NotEqual) refl refl (λ stack. refl) value.truth
  unequal_flags true false = gives_value (Truth true) (instr.Operate operator.NotEqual) refl refl (λ stack. refl) value.truth
  unequal_flags false true = gives_value (Truth true) (instr.Operate operator.NotEqual) refl refl (λ stack. refl) value.truth
  unequal_flags false false = gives_value (Truth false) (instr.Operate operator.NotEqual) refl refl (λ stack. refl) value.truth

  -- flags are compared for equality alone
  flags_step : (op : BinaryOp) (a b : Bool) (s : ExprType) → OperatorFits (group op) types.Flag s → StepsTerm (Binary op (Done (Flag a)) (Done (Flag b))) (result_of (group op))
  flags_step LogicalOr a b s f = absurd f
  flags_step LogicalAnd a b s f = absurd f
  flags_step Equal a b s f = equal_flags a b
  flags_step NotEqual a b s f = unequal_flags a b
  flags_step Less a b s f = absurd f.0
  flags_step LessEqual a b s f = absurd f.0
  flags_step Greater a b s f = absurd f.0
  flags_step GreaterEqual a b s f = absurd f.0
  flags_step op a b s f = absurd (let c : types.Flag ≡ types.Word = f.0 in cc)

  no_truths : (g : OperatorGroup) (s : ExprType) → OperatorFits g types.Truth s → ⊥
  no_truths Logic s f = f
  no_truths Equality s f = f.0
  no_truths Order s f = f.0
  no_truths OnWords s f = let c : types.Truth ≡ types.Word = f.0 in absurd (cc)

  operator_step : (op : BinaryOp) {v w : Value} {r : ExprType} (s : ExprType) → OperatorFits (group op) r s → ValueHasType v r → ValueHasType w r → StepsTerm (Binary op (Done v) (Done w)) (result_of (group op))
  operator_step op s f (value.word {n = a} h) (value.word {n = b} k) = words_step op a b s h k f
  operator_step op s f (value.int {z = a} h) (value.int {z = b} k) = ints_step op a b s h k f
  operator_step op s f (value.flag {b = a}) (value.flag {b = b}) = flags_step op a b s f
  operator_step op s f value.truth w = absurd (no_truths (group op) s f)

  values_step : (op : BinaryOp) (v w : Value) (r s : ExprType) → OperatorFits (group op) r s → ValueHasType v r → ValueHasType w r → StepsTerm (Binary op (Done v) (Done w)) s
  values_step op v w r s f h k = subst (StepsTerm (Binary op (Done v) (Done w))) (sym (result_is (group op) r s f)) (operator_step op s f h k)

  -- ---- names

  -- what is put into a slot is NULL where it was
  none_kept : {A B : Type 0} (f : A → B) (o : Option A) → is_none (option_map f o) ≡ is_none o
  none_kept f None = refl
  none_kept f (Some a) = refl

  -- what is shown of a name that can be NULL
  record ShowsNull (x : Identifier) (kind : ExprType) (i : ℕ) : Type 0 where
    null : Bool
    is : visible.sight.is_null x ≡ Gives null
    variable : NullableVariable
    same : nullable_of kind i ≡ Some variable
    holds : holds_null visible slots variable ≡ Some null

  shows_null : (x : Identifier) (s : Slot) (kind : ExprType) → IsNullable kind → ShowsSlot visible x slots s kind → ShowsNull x kind s.index
  shows_null x s Ref n h = record { null = is_none h.reference; is = h.is_null; variable = nullable.Local s.index; same = refl; holds = ap (option_map is_none) h.there }
  shows_null x s Global n h = record {
    null = is_empty h.static.held;
    is = h.is_null;
    variable = nullable.Static s.index;
    same = refl;
    holds = ap (option_map (λ (named : Identifier × StaticReference). is_empty named.1)) (there_at x s.index h.static.held visible.statics h.static.place h.static.there);
  }
  shows_null x s FieldId n h = record { null = is_none h.field; is = h.is_null; variable = nullable.FieldId s.index; same = refl; holds = ap (option_map is_none) h.there ∙ ap (λ (b : Bool). Some b) (none_kept OfField h.field) }
  shows_null x s MethodId n h = record { null = is_none h.method; is = h.is_null; variable = nullable.FieldId s.index; same = refl; holds = ap (option_map is_none) h.there ∙ ap (λ (b : Bool). Some b) (none_kept OfMethod h.method) }
  shows_null x s (Buffer t writable) n h = record { null = is_no_buffer h.buffer; is = h.is_null; variable = nullable.Buffer s.index; same = refl; holds = ap (option_map is_no_buffer) h.there }
  shows_null x s kind n h = absurd n

  same_truth : (b : Bool) → truth_word b ≡ truth_word (beq b true)
  same_truth true = refl
  same_truth false = refl

  other_truth : (b : Bool) → truth_word (not b) ≡ truth_word (beq b false)
  other_truth true = refl
  other_truth false = refl

  null_step : (equal : Bool) (x : Identifier) (slot : Slot) → lookup x known ≡ Some slot → ShowsNull x slot.ty slot.index → StepsTerm (IsNull equal x) types.Truth
  null_step true x slot at n =
      gives_value (Truth n.null) (instr.TestNull n.variable true) (ap (null_code true) at ∙ ap (test_of true) n.same) (ap (λ o. done (outcome_map Truth o)) n.is)
      (λ stack. (n.null, n.holds, refl, ap (λ (w : ℕ). w ∷ stack) (same_truth n.null))) value.truth
  null_step false x slot at n =
      gives_value (Truth (not n.null)) (instr.TestNull n.variable false) (ap (null_code false) at ∙ ap (test_of false) n.same) (ap (λ o. done (outcome_map (λ b. Truth (not b)) o)) n.is)
      (λ stack. (n.null, n.holds, refl, ap (λ (w : ℕ). w ∷ stack) (other_truth n.null))) value.truth

  read_step : (x : Identifier) (s : Slot) → lookup x known ≡ Some s → ShowsNumber visible x slots.numbers s → StepsTerm (Read x) s.ty
  read_step x s at h =
      gives_value h.value (instr.Load s.index) (ap (of_slot load_code) at) (ap done h.is) (λ stack. ap (option_map (λ (n : ℕ). (plain.Next, n ∷ stack, slots.numbers))) h.word) h.ty

  -- ---- elements

  -- an array and an index that isn't negative
  element_step : (x : Identifier) (v : Value) (t : ElementType) (size start k : ℕ) → lookup x known ≡ Some (record { ty = Array t size; index = start }) → ShowsArray visible x slots.numbers t size start
      → word_of v ≡ k → term.index_of v ≡ Gives k → (b : Bool) → nat_lt k size ≡ b → StepsTerm (term.Element x (Done v)) Jint
  element_step x v t size start k at shown word index true below =
      let element = shown.elements k (ltb-true k size below) in
      gives_value (Int element.number) (instr.LoadElement (record { start = start; len = size }) line) (ap (of_slot (element_code line)) at) (rw (index, element.is) refl) (λ stack. rw (word, below, element.word) refl) (value.int element.fits)
  element_step x v t size start k at shown word index false below =
      gives_trap (instr.LoadElement (record { start = start; len = size }) line) trap.OutOfRange (ap (of_slot (element_code line)) at) (rw (index, shown.past k (ltb-false k size below)) refl) (λ stack. rw (word, below) refl)

  index_step : (x : Identifier) {v : Value} {r : ExprType} (t : ElementType) (size start : ℕ) → lookup x known ≡ Some (record { ty = Array t size; index = start }) → ShowsArray visible x slots.numbers t size start
      → IsIndexType r → ValueHasType v r → StepsTerm (term.Element x (Done v)) Jint
  index_step x t size start at shown i (value.word {n = n} h) = element_step x (Word n) t size start n at shown refl refl (nat_lt n size) refl
  index_step x t size start at shown i (value.int {z = pos n} h) = element_step x (Int (pos n)) t size start n at shown refl refl (nat_lt n size) refl
  index_step x t size start at shown i (value.int {z = negsuc n} h) =
      gives_trap (instr.LoadElement (record { start = start; len = size }) line) trap.OutOfRange (ap (of_slot (element_code line)) at) refl (λ stack. rw (negative_index n size h shown.few) refl)
  index_step x t size start at shown i h = absurd i

  -- a buffer, of which the elements are seen
  module _ (sees : SeesBuffers visible slots.buffers) where
    -- no element is at an index that is negative
    pub none_negative : (i : ℕ) (b : variable.Buffer) (n : ℕ) → slice_get slots.buffers i ≡ Some b → FitsSigned w32 (negsuc n) → slice_get (elements_in b visible.numbers) (cast_unsigned w32 (negsuc n)) ≡ None
    none_negative i b n there fits = by_found (slice_get (elements_in b visible.numbers) (cast_unsigned w32 (negsuc n))) refl
      where
        by_found : (o : Option ℤ) → slice_get (elements_in b visible.numbers) (cast_unsigned w32 (negsuc n)) ≡ o → o ≡ None
        by_found None e = refl
        by_found (Some z) e = absurd (let low = (sees.fit i (cast_unsigned w32 (negsuc n)) b z there e).0 in omega (arith, fits.sfits, low))

    -- what is seen of one
    pub seen_as : (x : Identifier) (t : ElementType) (i k : ℕ) (h : ShowsBuffer visible x slots.buffers t i) (null : Bool) → is_no_buffer h.buffer ≡ null → visible.sight.element x k ≡ (if null then Stuck else in_range (slice_get (elements_in h.buffer visible.numbers) k))
    seen_as x t i k h null is =
        sees.seen x t k h.kind ∙ ap (λ (b : variable.Buffer). seen_element b visible.numbers k) h.is ∙ ap (λ (q : Bool). if q then Stuck else in_range (slice_get (elements_in h.buffer visible.numbers) k)) is

    -- what is in the slot has these elements
    pub slot_has : (x : Identifier) (t : ElementType) (i : ℕ) → (h : ShowsBuffer visible x slots.buffers t i) → slot_elements visible slots i ≡ Some (elements_in h.buffer visible.numbers)
    slot_has x t i h = ap (option_map (λ (b : variable.Buffer). elements_in b visible.numbers)) h.there

    -- an element is there, or none
    loaded : (x : Identifier) (t : ElementType) (i k word : ℕ) (stack : List ℕ) (h : ShowsBuffer visible x slots.buffers t i) (found : Option ℤ) (path : Plain) (after : List ℕ) → word ≡ k → slice_get (elements_in h.buffer visible.numbers) k ≡ found
        → Loads line word stack found path after → Works visible slots (instr.LoadBuffer i line) (word ∷ stack) path after
    loaded x t i k word stack h found path after same is loads =
        (elements_in h.buffer visible.numbers, slot_has x t i h, subst (λ (o : Option ℤ). Loads line word stack o path after) (sym (ap (slice_get (elements_in h.buffer visible.numbers)) same ∙ is)) loads)

    -- an index that isn't negative
    buffer_element : (x : Identifier) (v : Value) (t : ElementType) (writable : Bool) (i k : ℕ) → lookup x known ≡ Some (record { ty = Buffer t writable; index = i }) → (h : ShowsBuffer visible x slots.buffers t i)
        → word_of v ≡ k → term.index_of v ≡ Gives k → (null : Bool) → is_no_buffer h.buffer ≡ null → (found : Option ℤ) → slice_get (elements_in h.buffer visible.numbers) k ≡ found → StepsTerm (term.Element x (Done v)) Jint
    buffer_element x v t writable i k at h word index true null found is = gives_nothing (instr.LoadBuffer i line) (ap (of_slot (element_code line)) at) (rw (index, seen_as x t i k h true null) refl)
    buffer_element x v t writable i k at h word index false null (Some z) is =
        let seen : visible.sight.element x k ≡ Gives z = seen_as x t i k h false null ∙ ap in_range is in
        gives_value (Int z) (instr.LoadBuffer i line) (ap (of_slot (element_code line)) at) (rw (index, seen) refl)
        (λ stack. loaded x t i k (word_of v) stack h (Some z) plain.Next (cast_unsigned w32 z ∷ stack) word is (refl, refl)) (value.int (sees.fit i k h.buffer z h.there is).1)
    buffer_element x v t writable i k at h word index false null None is =
        let seen : visible.sight.element x k ≡ Traps OutOfRange = seen_as x t i k h false null ∙ ap in_range is in
        gives_trap (instr.LoadBuffer i line) trap.OutOfRange (ap (of_slot (element_code line)) at) (rw (index, seen) refl)
        (λ stack. loaded x t i k (word_of v) stack h None (plain.Trap trap.OutOfRange line) (word_of v ∷ stack) word is (refl, refl))

    buffer_index : (x : Identifier) {v : Value} {r : ExprType} (t : ElementType) (writable : Bool) (i : ℕ) → lookup x known ≡ Some (record { ty = Buffer t writable; index = i }) → ShowsBuffer visible x slots.buffers t i → IsIndexType r → ValueHasType v r
        → StepsTerm (term.Element x (Done v)) Jint
    buffer_index x t writable i at h index (value.word {n = n} fits) = buffer_element x (Word n) t writable i n at h refl refl (is_no_buffer h.buffer) refl (slice_get (elements_in h.buffer visible.numbers) n) refl
    buffer_index x t writable i at h index (value.int {z = pos n} fits) = buffer_element x (Int (pos n)) t writable i n at h refl refl (is_no_buffer h.buffer) refl (slice_get (elements_in h.buffer visible.numbers) n) refl
    buffer_index x t writable i at h index (value.int {z = negsuc n} fits) =
        let word = cast_unsigned w32 (negsuc n) in
        gives_trap (instr.LoadBuffer i line) trap.OutOfRange (ap (of_slot (element_code line)) at) refl
        (λ stack. loaded x t i word word stack h None (plain.Trap trap.OutOfRange line) (word ∷ stack) refl (none_negative i h.buffer n h.there fits) (refl, refl))
    buffer_index x t writable i at h index v = absurd index

    -- a name that has elements
    named_element : (x : Identifier) (v : Value) (r kind : ExprType) (i : ℕ) → HasElements kind → lookup x known ≡ Some (record { ty = kind; index = i }) → ShowsSlot visible x slots (record { ty = kind; index = i }) kind → IsIndexType r → ValueHasType v r
        → StepsTerm (term.Element x (Done v)) Jint
    named_element x v r (Array t size) i has at shown index fits = index_step x t size i at shown index fits
    named_element x v r (Buffer t writable) i has at shown index fits = buffer_index x t writable i at shown index fits
    named_element x v r kind i has at shown index fits = absurd has

  -- ---- all terms

  -- the slots show each known name
  abbrev pub AllShown : Type 0
  AllShown = (x : Identifier) (s : Slot) → lookup x known ≡ Some s → ShowsSlot visible x slots s s.ty

  -- a slot of a number type shows a number
  pub shows_number : (x : Identifier) (s : Slot) (kind : ExprType) → IsNumberType kind → ShowsSlot visible x slots s kind → ShowsNumber visible x slots.numbers s
  shows_number x s types.Word kind h = h
  shows_number x s Jint kind h = h
  shows_number x s types.Flag kind h = h
  shows_number x s other kind h = absurd kind

  pub steps_term : AllShown → SeesBuffers visible slots.buffers → {t : Term} {s : ExprType} → IsOpen t → TermHasType known t s → IsBegun t → StepsTerm t s
  steps_term shown sees o (rule.done h) b = absurd o
  steps_term shown sees o (rule.word {n = n} h) b = gives_value (Word n) (instr.Push n) refl refl (λ stack. refl) (value.word h)
  steps_term shown sees o (rule.int {n = n} h) b = gives_value (Int (pos n)) (instr.Push n) refl refl (λ stack. refl) (value.int (record { sfits = h }))
  steps_term shown sees o rule.true_flag b = gives_value (Flag true) (instr.Push 1) refl refl (λ stack. refl) value.flag
  steps_term shown sees o rule.false_flag b = gives_value (Flag false) (instr.Push 0) refl refl (λ stack. refl) value.flag
  steps_term shown sees o (rule.read {x = x} {s = s} h) b =
      let slot : Slot = record { ty = s; index = h.0 } in
      read_step x slot h.1 (shows_number x slot s h.2 (shown x slot h.1))
  steps_term shown sees o (rule.element {x = x} {n = n} {r = r} at has index (rule.done {v = v} h)) b = named_element sees x v r n.ty n.index has at (shown x n at) index h
  steps_term shown sees o (rule.element {x = x} {t = t} {r = r} at has index h) b = inside (term.Element x) t r Jint (in_element x t r Jint tt (λ u k. rule.element at has index k)) h (steps_term shown sees tt h b)
  steps_term shown sees o (rule.null_test {equal = equal} {x = x} {n = n} at null) b = null_step equal x n at (shows_null x n n.ty null (shown x n at))
  steps_term shown sees o (rule.logical_not (rule.done h)) b = prefix_step (rule.logical_not (rule.done h))
  steps_term shown sees o (rule.logical_not {t = t} h) b = inside (Prefix LogicalNot) t types.Truth types.Truth (in_prefix LogicalNot t types.Truth types.Truth tt (λ u k. rule.logical_not k)) h (steps_term shown sees tt h b)
  steps_term shown sees o (rule.complement (rule.done h)) b = prefix_step (rule.complement (rule.done h))
  steps_term shown sees o (rule.complement {t = t} h) b = inside (Prefix Complement) t types.Word types.Word (in_prefix Complement t types.Word types.Word tt (λ u k. rule.complement k)) h (steps_term shown sees tt h b)
  steps_term shown sees o (rule.to_word i (rule.done h)) b = prefix_step (rule.to_word i (rule.done h))
  steps_term shown sees o (rule.to_word {t = t} {r = r} i h) b = inside (Prefix ToWord) t r types.Word (in_prefix ToWord t r types.Word tt (λ u k. rule.to_word i k)) h (steps_term shown sees tt h b)
  steps_term shown sees o (rule.to_int i (rule.done h)) b = prefix_step (rule.to_int i (rule.done h))
  steps_term shown sees o (rule.to_int {t = t} {r = r} i h) b = inside (Prefix ToInt) t r Jint (in_prefix ToInt t r Jint tt (λ u k. rule.to_int i k)) h (steps_term shown sees tt h b)
  steps_term shown sees o (rule.both {b = c} (rule.done h) k) b = and_step c h k b.1
  steps_term shown sees o (rule.both {a = a} {b = c} h k) b = inside (λ u. And u c) a types.Truth types.Truth (in_and a c tt b.1 k) h (steps_term shown sees tt h b.0)
  steps_term shown sees o (rule.either {b = c} (rule.done h) k) b = or_step c h k b.1
  steps_term shown sees o (rule.either {a = a} {b = c} h k) b = inside (λ u. Or u c) a types.Truth types.Truth (in_or a c tt b.1 k) h (steps_term shown sees tt h b.0)
  steps_term shown sees o (rule.operator {op = op} {r = r} {s = s} f (rule.done {v = v} h) (rule.done {v = w} k)) b = values_step op v w r s f h k
  steps_term shown sees o (rule.operator {op = op} {b = c} {r = r} {s = s} f (rule.done {v = v} h) k) b = inside (Binary op (Done v)) c r s (in_right op v c r s tt f h) k (steps_term shown sees tt k b)
  steps_term shown sees o (rule.operator {op = op} {a = a} {b = c} {r = r} {s = s} f h k) b = inside (λ u. Binary op u c) a r s (in_left op a c r s tt b.1 f k) h (steps_term shown sees tt h b.0)
