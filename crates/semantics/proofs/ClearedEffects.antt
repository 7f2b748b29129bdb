-- A clearing of weak references changes what a thread can see of its references as arguments and results, and nothing else: no number, no
-- element, no field and no null test, and so no step but that of a call that names a weak reference or a return of one.
use Rattle.std.specs.Prelude.{◌≡◌, ◌≢◌, ℕ, ℤ, Bool, true, false, not, cond, List, [], ◌∷◌, Option, Some, None, refl}
use Rattle.std.specs.Option.{option_map}
use Rattle.std.specs.Str.{bytes_eq}
use Rattle.std.proofs.Common.{ap, ◌∙◌}
use Rattle.base.specs.Bytes.{Identifier, lookup}
use Rattle.semantics.specs.Effect.{Effect, Sets, SetsElement, effect_of, reduce_first, with_value, element_effect, goes_on, at_line, is_given, is_no_number, is_ready, print_effect, branch_effect, loop_effect, return_effect}
use Rattle.semantics.specs.Heap.{Heap}
use Rattle.semantics.specs.Sight.{Sight, seen, holds_null, held_reference, static_is_null}
use Rattle.semantics.specs.Task.{Task, SetScalar, SetElement, SetNull, MakeArray, Invoke, Print, Branch, EndIf, Loop, EndTurn, Return, ReturnValue, Impossible, Operand, NumberOperand, Given, PassedName}
use Rattle.semantics.specs.Arguments.{actuals}
use Rattle.syntax.specs.declared.expr.Constant.TheVariants.{Null, True, False, Commit, Abort}
use Rattle.semantics.specs.Term.{Term, Done, Number, Named, Read, Element, IsNull, Prefix, And, Or, Binary, reduce, done, with_part, and_then, or_else, index_of}
use Rattle.semantics.specs.declared.value.Value.{Value}
use Rattle.semantics.specs.declared.value.Value.TheVariants.{Word, Flag, Int, Truth}
use Rattle.semantics.specs.Value.{Outcome, Gives, Traps, Stuck, outcome_then, outcome_map, prefix_value}
use Rattle.semantics.specs.Variable.{Variable, Scalar, LocalRef, FieldHandle, MethodHandle, Elements, LocalArray, Variables, StaticReference, Empty, Live, Weakly, Cleared, Deleted, Statics}
use Rattle.semantics.specs.WeakReferences.{cleared, cleared_statics}
use Rattle.semantics.specs.Reachable.{is_in}

-- a static is found as it was, or cleared
found_first : (names : List ℕ) (b : Bool) (v : StaticReference) (o o' : Option StaticReference) → o' ≡ option_map (cleared names) o
    → cond b (Some (cleared names v)) o' ≡ option_map (cleared names) (cond b (Some v) o)
found_first names true v o o' h = refl
found_first names false v o o' h = h

pub cleared_lookup : (names : List ℕ) (x : Identifier) (ss : Statics) → lookup x (cleared_statics names ss) ≡ option_map (cleared names) (lookup x ss)
cleared_lookup names x [] = refl
cleared_lookup names x ((y, v) ∷ rest) = found_first names (bytes_eq x y) v (lookup x rest) (lookup x (cleared_statics names rest)) (cleared_lookup names x rest)

-- a reference that is cleared isn't NULL, as it wasn't before
null_cond : (b : Bool) (n : ℕ) → static_is_null (Some (cond b Cleared (Weakly n))) ≡ static_is_null (Some (Weakly n))
null_cond true n = refl
null_cond false n = refl

null_static : (names : List ℕ) (o : Option StaticReference) → static_is_null (option_map (cleared names) o) ≡ static_is_null o
null_static names None = refl
null_static names (Some Empty) = refl
null_static names (Some (Live n)) = refl
null_static names (Some (Weakly n)) = null_cond (is_in names n) n
null_static names (Some Cleared) = refl
null_static names (Some Deleted) = refl

null_either : (v : Option Variable) (o o' : Option StaticReference) → static_is_null o' ≡ static_is_null o → holds_null v o' ≡ holds_null v o
null_either None o o' h = h
null_either (Some v) o o' h = refl

-- a bare name that is returned is the same reference
abbrev pub ReturnsSame : Sight → Sight → Term → Type 0
ReturnsSame a b (Read x) = a.reference x ≡ b.reference x
ReturnsSame a b e = Unit {0}

-- the arguments of a task's call are the same, or the reference that it returns
abbrev pub HasSameArguments : Sight → Sight → Task → Type 0
HasSameArguments a b (Invoke line target f operands) = actuals a f operands ≡ actuals b f operands
HasSameArguments a b (ReturnValue line e) = ReturnsSame a b e
HasSameArguments a b task = Unit {0}

-- Two sights that answer alike but for references and fields.
module _ (a b : Sight) (number : (x : Identifier) → a.number x ≡ b.number x) (is_null : (x : Identifier) → a.is_null x ≡ b.is_null x)
    (element : (x : Identifier) (i : ℕ) → a.element x i ≡ b.element x i) where
  indexed : (x : Identifier) (o : Outcome ℕ) → outcome_then (λ n. outcome_map Int (a.element x n)) o ≡ outcome_then (λ n. outcome_map Int (b.element x n)) o
  indexed x (Gives n) = ap (outcome_map Int) (element x n)
  indexed x (Traps trap) = refl
  indexed x Stuck = refl

  in_element : (x : Identifier) (e : Term) → reduce a e ≡ reduce b e → reduce a (Element x e) ≡ reduce b (Element x e)
  in_element x (Done v) h = ap done (indexed x (index_of v))
  in_element x (Number n u) h = refl
  in_element x (Named c) h = refl
  in_element x (Read y) h = ap (outcome_map (Element x)) h
  in_element x (Element y e) h = ap (outcome_map (Element x)) h
  in_element x (IsNull q y) h = ap (outcome_map (Element x)) h
  in_element x (Prefix op e) h = ap (outcome_map (Element x)) h
  in_element x (And e f) h = ap (outcome_map (Element x)) h
  in_element x (Or e f) h = ap (outcome_map (Element x)) h
  in_element x (Binary op e f) h = ap (outcome_map (Element x)) h

  -- a term takes the same step in both
  reduced : (t : Term) → reduce a t ≡ reduce b t
  reduced (Done v) = refl
  reduced (Number n u) = refl
  reduced (Named c) = refl
  reduced (Read x) = ap done (number x)
  reduced (Element x e) = in_element x e (reduced e)
  reduced (IsNull true x) = ap (λ o. done (outcome_map Truth o)) (is_null x)
  reduced (IsNull false x) = ap (λ o. done (outcome_map (λ q. Truth (not q)) o)) (is_null x)
  reduced (Prefix op e) = ap (with_part (λ v. done (prefix_value op v)) (Prefix op) e) (reduced e)
  reduced (And e f) = ap (with_part (and_then f) (λ t. And t f) e) (reduced e)
  reduced (Or e f) = ap (with_part (or_else f) (λ t. Or t f) e) (reduced e)
  reduced (Binary op e f) = rw (reduced e, reduced f) refl

  -- what is done with a value, or the step towards one
  valued : (line : ℕ) (u u' : Value → Effect) (task : Term → Task) (t : Term) → ((v : Value) → u v ≡ u' v) → with_value a line u task t ≡ with_value b line u' task t
  valued line u u' task (Done v) h = h v
  valued line u u' task (Number n q) h = refl
  valued line u u' task (Named c) h = refl
  valued line u u' task (Read x) h = ap (goes_on line task) (reduced (Read x))
  valued line u u' task (Element x e) h = ap (goes_on line task) (reduced (Element x e))
  valued line u u' task (IsNull q x) h = ap (goes_on line task) (reduced (IsNull q x))
  valued line u u' task (Prefix op e) h = ap (goes_on line task) (reduced (Prefix op e))
  valued line u u' task (And e f) h = ap (goes_on line task) (reduced (And e f))
  valued line u u' task (Or e f) h = ap (goes_on line task) (reduced (Or e f))
  valued line u u' task (Binary op e f) h = ap (goes_on line task) (reduced (Binary op e f))

  at_index_same : (line : ℕ) (x : Identifier) (z : ℤ) (o : Outcome ℕ)
      → at_line line (λ n. at_line line (λ (old : ℤ). SetsElement x n z) (a.element x n)) o ≡ at_line line (λ n. at_line line (λ (old : ℤ). SetsElement x n z) (b.element x n)) o
  at_index_same line x z (Gives n) = ap (at_line line (λ (old : ℤ). SetsElement x n z)) (element x n)
  at_index_same line x z (Traps trap) = refl
  at_index_same line x z Stuck = refl

  element_same : (line : ℕ) (x : Identifier) (i v : Value) → element_effect a line x i v ≡ element_effect b line x i v
  element_same line x i (Int z) = at_index_same line x z (index_of i)
  element_same line x i (Word z) = refl
  element_same line x i (Flag z) = refl
  element_same line x i (Truth z) = refl

  given_same : (o : Operand) → is_given a.number o ≡ is_given b.number o
  given_same (NumberOperand (Done v)) = refl
  given_same (NumberOperand (Number n q)) = refl
  given_same (NumberOperand (Named c)) = refl
  given_same (NumberOperand (Read x)) = refl
  given_same (NumberOperand (Element x e)) = refl
  given_same (NumberOperand (IsNull q x)) = refl
  given_same (NumberOperand (Prefix op e)) = refl
  given_same (NumberOperand (And e f)) = refl
  given_same (NumberOperand (Or e f)) = refl
  given_same (NumberOperand (Binary op e f)) = refl
  given_same (PassedName x) = ap is_no_number (number x)
  given_same (Given g) = refl

  ready_same : (operands : List Operand) → is_ready a.number operands ≡ is_ready b.number operands
  ready_same [] = refl
  ready_same (o ∷ rest) = rw (given_same o, ready_same rest) refl

  first_same : (operands : List Operand) → reduce_first a operands ≡ reduce_first b operands
  first_same [] = refl
  first_same (NumberOperand e ∷ rest) = rw (reduced e, first_same rest) refl
  first_same (PassedName x ∷ rest) = rw (number x, first_same rest) refl
  first_same (Given g ∷ rest) = ap (outcome_map (λ operands. Given g ∷ operands)) (first_same rest)

  returned_same : (line : ℕ) (e : Term) → ReturnsSame a b e → return_effect a line e ≡ return_effect b line e
  returned_same line (Named Null) h = refl
  returned_same line (Named True) h = refl
  returned_same line (Named False) h = refl
  returned_same line (Named Commit) h = refl
  returned_same line (Named Abort) h = refl
  returned_same line (Read x) h = rw (number x, h) refl
  returned_same line (Done v) h = refl
  returned_same line (Number n q) h = refl
  returned_same line (Element x e) h = ap (goes_on line (ReturnValue line)) (reduced (Element x e))
  returned_same line (IsNull q x) h = ap (goes_on line (ReturnValue line)) (reduced (IsNull q x))
  returned_same line (Prefix op e) h = ap (goes_on line (ReturnValue line)) (reduced (Prefix op e))
  returned_same line (And e f) h = ap (goes_on line (ReturnValue line)) (reduced (And e f))
  returned_same line (Or e f) h = ap (goes_on line (ReturnValue line)) (reduced (Or e f))
  returned_same line (Binary op e f) h = ap (goes_on line (ReturnValue line)) (reduced (Binary op e f))

  -- a task has the same effect in both, where its call, if it is one, has the same arguments, and its return the same result
  pub effect_same : (task : Task) → HasSameArguments a b task → effect_of a task ≡ effect_of b task
  effect_same (SetScalar line x e) h = valued line (Sets x) (Sets x) (SetScalar line x) e (λ v. refl)
  effect_same (SetElement line x i e) h =
      valued line (λ v. with_value a line (element_effect a line x v) (SetElement line x (Done v)) e) (λ v. with_value b line (element_effect b line x v) (SetElement line x (Done v)) e)
      (λ u. SetElement line x u e) i (λ v. valued line (element_effect a line x v) (element_effect b line x v) (SetElement line x (Done v)) e (element_same line x v))
  effect_same (SetNull target) h = refl
  effect_same (MakeArray T x n) h = refl
  effect_same (Invoke line target f operands) h = rw (h, ready_same operands, first_same operands) refl
  effect_same (Print line e) h = valued line print_effect print_effect (Print line) e (λ v. refl)
  effect_same (Branch line e then' else') h = valued line (branch_effect then' else') (branch_effect then' else') (λ u. Branch line u then' else') e (λ v. refl)
  effect_same EndIf h = refl
  effect_same (Loop line test e body) h = valued line (loop_effect line test body) (loop_effect line test body) (λ u. Loop line test u body) e (λ v. refl)
  effect_same (EndTurn line test body) h = refl
  effect_same Return h = refl
  effect_same (ReturnValue line e) h = returned_same line e h
  effect_same Impossible h = refl

-- ---- arguments

held_same : (names : List ℕ) (v : Option Variable) (o : Option StaticReference) → (v ≡ None → (n : ℕ) → o ≢ Some (Weakly n))
    → held_reference v (option_map (cleared names) o) ≡ held_reference v o
held_same names (Some (LocalRef level r)) o h = refl
held_same names (Some (Scalar r)) o h = refl
held_same names (Some (FieldHandle r)) o h = refl
held_same names (Some (MethodHandle m)) o h = refl
held_same names (Some (Elements T r)) o h = refl
held_same names (Some (LocalArray T r)) o h = refl
held_same names None None h = refl
held_same names None (Some Empty) h = refl
held_same names None (Some (Live n)) h = refl
held_same names None (Some (Weakly n)) h = absurd (h refl n refl)
held_same names None (Some Cleared) h = refl
held_same names None (Some Deleted) h = refl

module _ (names : List ℕ) (vs : Variables) (ss : Statics) (heap : Heap) where
  -- no null test changes
  pub null_stays : (x : Identifier) → holds_null (lookup x vs) (lookup x (cleared_statics names ss)) ≡ holds_null (lookup x vs) (lookup x ss)
  null_stays x = null_either (lookup x vs) (lookup x ss) (lookup x (cleared_statics names ss)) (ap static_is_null (cleared_lookup names x ss) ∙ null_static names (lookup x ss))

  -- nor what a name is as an argument that isn't one of a weak reference
  pub reference_stays : (x : Identifier) → (lookup x vs ≡ None → (n : ℕ) → lookup x ss ≢ Some (Weakly n))
      → held_reference (lookup x vs) (lookup x (cleared_statics names ss)) ≡ held_reference (lookup x vs) (lookup x ss)
  reference_stays x h = ap (held_reference (lookup x vs)) (cleared_lookup names x ss) ∙ held_same names (lookup x vs) (lookup x ss) h

  -- a task has the effect that it had, where the arguments of its call are as they were, and what it returns
  pub effect_stays : (task : Task) → HasSameArguments (seen vs (cleared_statics names ss) heap) (seen vs ss heap) task
      → effect_of (seen vs (cleared_statics names ss) heap) task ≡ effect_of (seen vs ss heap) task
  effect_stays task h = effect_same (seen vs (cleared_statics names ss) heap) (seen vs ss heap) (λ x. refl) null_stays (λ x i. refl) task h
