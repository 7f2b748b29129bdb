-- The effect of a task that runs at a point follows: the point after it has what is wanted there.
use Rattle.std.proofs.Common.{◌≡◌, ℕ, Bool, true, false, not, ◌&&◌, List, [], ◌∷◌, ◌++◌, length, map, suc, Option, Some, refl, sym, ap, subst, append_assoc}
use Rattle.std.specs.Prelude.{ℤ}
use Rattle.std.proofs.lemmas.Bool.{cond_both}
use Rattle.base.specs.Bytes.{Identifier, lookup}
use Rattle.syntax.specs.declared.expr.Constant.TheVariants as constants
use Rattle.syntax.specs.Tree.{Block, Expr, Argument}
use Rattle.jni.specs.declared.function.JniFunction.{JniFunction}
use Rattle.jni.specs.JniFunction.{parameters_for, takes_count, prototype}
use Rattle.jni.specs.declared.kinds.ParameterKind.{ParameterKind}
use Rattle.jni.specs.declared.kinds.ParameterKind.TheVariants.{IntNumber, Passed}
use Rattle.type_rules.specs.declared.ty.ExprType.{ExprType}
use Rattle.type_rules.specs.ExprTypes.{type_in}
use Rattle.type_rules.specs.declared.ty.ExprType.TheVariants as types
use Rattle.type_rules.specs.TypeGroups.{IsIndexType, IsNumberType}
use Rattle.semantics.specs.Arguments.{actuals}
use Rattle.semantics.specs.CallEffects.{ScalarResult}
use Rattle.semantics.specs.Effect.{Effect, Becomes, Sets, SetsElement, Prints, Calls, Returns, at_line, goes_on, with_value, print_effect, branch_effect, loop_effect, element_effect, is_given, is_no_number, is_ready, reduce_number, reduce_name, reduce_first, call_effect_of, returned_name, return_effect, effect_of}
use Rattle.semantics.specs.Heap.{Heap}
use Rattle.region_rules.specs.RegionStates.{get_of, after_call, with_changed, made_free}
use Rattle.region_rules.specs.Regions.{made_usable}
use Rattle.semantics.specs.Sight.{Sight, seen, scalar}
use Rattle.semantics.specs.Task as task
use Rattle.semantics.specs.Task.{Task, SetScalar, SetElement, SetNull, MakeArray, Invoke, Print, Branch, EndIf, Loop, EndTurn, Impossible, Target, Declared, Assigned, Tested, Dropped, Operand, NumberOperand, PassedName, Given, tasks_of}
use Rattle.semantics.specs.Term as term
use Rattle.semantics.specs.Term.{Term, Done, Read, IsNull, Prefix, And, Or, Binary, Reduction, done, index_of, reduce}
use Rattle.semantics.specs.Thread.{Frame}
use Rattle.semantics.specs.declared.value.Value.{Value}
use Rattle.semantics.specs.declared.value.Value.TheVariants.{Int, Truth}
use Rattle.semantics.specs.Value.{Outcome, Gives, Traps, Stuck, outcome_map}
use Rattle.semantics.specs.Variable.{StaticReference, Variable, LocalRef, Variables, Statics}
use Rattle.semantics_safety.specs.Owners.{Owners}
use Rattle.semantics_safety.specs.Points as rule
use Rattle.semantics_safety.specs.Points.{Point, value_type, ElementsFit, HasType, OperandFits, OperandsFit, PassedFits}
use Rattle.semantics_safety.specs.Stands.{Stands}
use Rattle.semantics_safety.specs.Wanted.{at, Teaches, Nothing, ForNull, ForOther, IsTrueNow, IsFalseNow, Closes, Outside, MayReturnFrom, ReturnedFits, ReturnFits, SetsNumber, ResultGoes, CallFits, CallKeeps, operand_argument, call_seen, RunsTest, RunsBlock, Turns, Runs, GoesOn}
use Rattle.semantics_safety.specs.Follows.{Follows}
use Rattle.semantics_safety.specs.WeakNames.{WeakNames}
use Rattle.semantics_safety.proofs.Values.{ValueFits, IndexFits, index_fits}
use Rattle.semantics_safety.proofs.TermLaws.{TermFits, Answers, reduce_fits}
use Rattle.semantics_safety.proofs.BlockLaws.{block_goes}
use Rattle.semantics_safety.proofs.SightLaws.{sees}
use Rattle.semantics_safety.proofs.PointLaws.{stands_after, stands_null, stands_usable}

module _ (heap : Heap) (ss : Statics) (vs : Variables) (frames : List Frame) (p : Point) {weak : WeakNames} {own : Owners} (stands : Stands weak own ss vs frames p) (rest : List Task) where
  abbrev sight : Sight
  sight = seen vs ss heap

  abbrev Goes : Effect → Type 0
  Goes e = Follows weak own sight ss vs frames p rest e

  -- ---- tasks with an expression

  stepped : (line : ℕ) (task : Term → Task) (s : ExprType) (o : Reduction) → TermFits p s o → ((u : Term) → o ≡ Gives u → HasType p u s → Goes (Becomes (task u ∷ []))) → Goes (goes_on line task o)
  stepped line task s (Gives u) h g = g u refl h
  stepped line task s (Traps trap) h g = tt
  stepped line task s Stuck h g = absurd h

  valued : (line : ℕ) (use_value : Value → Effect) (task : Term → Task) (s : ExprType) (t : Term) → HasType p t s → ((v : Value) → t ≡ Done v → value_type v ≡ s → Goes (use_value v)) → ((u : Term) → reduce sight t ≡ Gives u → HasType p u s → Goes (Becomes (task u ∷ [])))
      → Goes (with_value sight line use_value task t)
  valued line use_value task s (Done v) h value step = value v refl h
  valued line use_value task s t h value step = stepped line task s (reduce sight t) (reduce_fits p sight (sees ss vs frames p heap stands) t s h tt) step

  sets : (x : Identifier) (s : ExprType) (v : Value) → value_type v ≡ s → IsNumberType s → SetsNumber x s (GoesOn rest) p → Goes (Sets x v)
  sets x s v e n h = (subst (λ (r : ExprType). SetsNumber x r (GoesOn rest) p) (sym e) h, subst IsNumberType (sym e) n)

  prints : (v : Value) → value_type v ≡ types.Jint → ((z : ℤ) → Goes (Prints z)) → Goes (print_effect v)
  prints (Int z) e h = h z
  prints v e h = absurd (cc)

  at_element : (line : ℕ) (x : Identifier) (n : ℕ) (z : ℤ) (o : Outcome ℤ) → Answers o → Goes (SetsElement x n z) → Goes (at_line line (λ (old : ℤ). SetsElement x n z) o)
  at_element line x n z (Gives old) a h = h
  at_element line x n z (Traps trap) a h = tt
  at_element line x n z Stuck a h = absurd a

  at_place : (line : ℕ) (x : Identifier) (z : ℤ) (o : Outcome ℕ) → IndexFits o → ((n : ℕ) → Answers (sight.element x n)) → ((n : ℕ) → Goes (SetsElement x n z)) → Goes (at_line line (λ n. at_line line (λ (old : ℤ). SetsElement x n z) (sight.element x n)) o)
  at_place line x z (Gives n) i a h = at_element line x n z (sight.element x n) (a n) (h n)
  at_place line x z (Traps trap) i a h = tt
  at_place line x z Stuck i a h = absurd i

  places : (line : ℕ) (x : Identifier) (v w : Value) (r : ExprType) → IsIndexType r → value_type v ≡ r → value_type w ≡ types.Jint → ElementsFit p x (type_in p.names x) → GoesOn rest p → Goes (element_effect sight line x v w)
  places line x v (Int z) r n e f fit k = at_place line x z (index_of v) (index_fits v r n e) (λ n. (sees ss vs frames p heap stands).element x n fit) (λ n. (fit, k))
  places line x v w r n e f fit k = absurd (cc)

  -- ---- paths

  grouped : (b : Block) (last : Task) (q : Point) → GoesOn (tasks_of b ++ last ∷ rest) q → GoesOn ((tasks_of b ++ last ∷ []) ++ rest) q
  grouped b last q h = subst (λ (tasks : List Task). GoesOn tasks q) (sym (append_assoc (tasks_of b) (last ∷ []) rest)) h

  path : (b : Block) → RunsBlock b (Outside (GoesOn rest)) p → Goes (Becomes (tasks_of b ++ EndIf ∷ []))
  path b h = (p, stands, grouped b EndIf p (block_goes b (Outside (GoesOn rest)) (EndIf ∷ rest) (λ q r. r) p h))

  true_path : (y n : Point) → Teaches p (Done (Truth true)) y n → (k : Point → Type 0) → k y → k p
  true_path y n (Nothing t) k h = h
  true_path y n (IsTrueNow other) k h = h

  false_path : (y n : Point) → Teaches p (Done (Truth false)) y n → (k : Point → Type 0) → k n → k p
  false_path y n (Nothing t) k h = h
  false_path y n (IsFalseNow other) k h = h

  branches : (a b : Block) (v : Value) → value_type v ≡ types.Truth → (y n : Point) → Teaches p (Done v) y n → RunsBlock a (Outside (GoesOn rest)) y → RunsBlock b (Outside (GoesOn rest)) n → Goes (branch_effect a b v)
  branches a b (Truth true) e y n t h g = path a (true_path y n t (RunsBlock a (Outside (GoesOn rest))) h)
  branches a b (Truth false) e y n t h g = path b (false_path y n t (RunsBlock b (Outside (GoesOn rest))) g)
  branches a b v e y n t h g = absurd (cc)

  -- what a test that was worked out has taught
  abbrev Learns : (on_true on_false : Point → Type 0) → Term → Type 0
  Learns on_true on_false u = (q : Point) × Stands weak own ss vs frames q × RunsTest u on_true on_false q

  null_found : (x : Identifier) (on_true on_false : Point → Type 0) (b : Bool) → sight.is_null x ≡ Gives b → on_true (at p (with_changed p.regions x made_free)) → on_false (at p (with_changed p.regions x made_usable)) → Learns on_true on_false (Done (Truth b))
  null_found x on_true on_false true e h g = (at p (with_changed p.regions x made_free), stands_null ss vs frames p stands x (lookup x ss) e, (refl, (at p (with_changed p.regions x made_free), at p (with_changed p.regions x made_usable), IsTrueNow (at p (with_changed p.regions x made_usable)), h, g)))
  null_found x on_true on_false false e h g = (at p (with_changed p.regions x made_usable), stands_usable ss vs frames p stands x (lookup x ss) e, (refl, (at p (with_changed p.regions x made_free), at p (with_changed p.regions x made_usable), IsFalseNow (at p (with_changed p.regions x made_free)), h, g)))

  other_found : (x : Identifier) (on_true on_false : Point → Type 0) (b : Bool) → sight.is_null x ≡ Gives b → on_true (at p (with_changed p.regions x made_usable)) → on_false (at p (with_changed p.regions x made_free)) → Learns on_true on_false (Done (Truth (not b)))
  other_found x on_true on_false true e h g = (at p (with_changed p.regions x made_free), stands_null ss vs frames p stands x (lookup x ss) e, (refl, (at p (with_changed p.regions x made_usable), at p (with_changed p.regions x made_free), IsFalseNow (at p (with_changed p.regions x made_usable)), h, g)))
  other_found x on_true on_false false e h g = (at p (with_changed p.regions x made_usable), stands_usable ss vs frames p stands x (lookup x ss) e, (refl, (at p (with_changed p.regions x made_usable), at p (with_changed p.regions x made_free), IsTrueNow (at p (with_changed p.regions x made_free)), h, g)))

  null_learns : (x : Identifier) (on_true on_false : Point → Type 0) (f : Bool → Bool) (o : Outcome Bool) (u : Term) → ((b : Bool) → o ≡ Gives b → Learns on_true on_false (Done (Truth (f b)))) → done (outcome_map (λ b. Truth (f b)) o) ≡ Gives u → Learns on_true on_false u
  null_learns x on_true on_false f (Gives b) u h e = subst (Learns on_true on_false) (gives_one _ u e) (h b refl)
    where
      term_in : Reduction → Term
      term_in (Gives t) = t
      term_in o = u

      gives_one : (t u : Term) → Gives t ≡ Gives u → t ≡ u
      gives_one t u e = cc
  null_learns x on_true on_false f (Traps trap) u h e = absurd (cc)
  null_learns x on_true on_false f Stuck u h e = absurd (cc)

  stuck_gives : (u : Term) (o : Reduction) → o ≡ Stuck → o ≡ Gives u → ⊥
  stuck_gives u o s e = cc

  learns : (t : Term) (y n : Point) (on_true on_false : Point → Type 0) → Teaches p t y n → on_true y → on_false n → (u : Term) → reduce sight t ≡ Gives u → HasType p u types.Truth → Learns on_true on_false u
  learns t y n on_true on_false (Nothing s) h g u e f = (p, stands, (f, (p, p, Nothing u, h, g)))
  learns t y n on_true on_false (ForNull x) h g u e f = null_learns x on_true on_false (λ b. b) (sight.is_null x) u (λ b c. null_found x on_true on_false b c h g) e
  learns t y n on_true on_false (ForOther x) h g u e f = null_learns x on_true on_false not (sight.is_null x) u (λ b c. other_found x on_true on_false b c h g) e
  learns t y n on_true on_false (IsTrueNow other) h g u e f = absurd (stuck_gives u Stuck refl e)
  learns t y n on_true on_false (IsFalseNow other) h g u e f = absurd (stuck_gives u Stuck refl e)

  turns : (line : ℕ) (e : Expr) (body : Block) (v : Value) → value_type v ≡ types.Truth → Turns e body p → GoesOn rest p → Goes (loop_effect line e body v)
  turns line e body (Truth true) f h k = (p, stands, grouped body (EndTurn line e body) p (block_goes body (λ q. Closes q p) (EndTurn line e body ∷ rest) (λ q c. (p, c, h, k)) p h.1))
  turns line e body (Truth false) f h k = (p, stands, k)
  turns line e body v f h k = absurd (cc)

  -- ---- returns

  type_returns : (o : Option ExprType) (x : Identifier) → o ≡ Some types.Jint → ReturnedFits p x o
  type_returns o x e = subst (ReturnedFits p x) (sym e) tt

  number_returns : (u : Term) → HasType p u types.Jint → ReturnFits p u
  number_returns (term.Named constants.Null) h = tt
  number_returns (term.Named constants.True) h = h
  number_returns (term.Named constants.False) h = h
  number_returns (term.Named constants.Commit) h = h
  number_returns (term.Named constants.Abort) h = h
  number_returns (Read x) h = type_returns (type_in p.names x) x h.0
  number_returns (Done v) h = h
  number_returns (term.Number n unsigned) h = h
  number_returns (term.Element x t) h = h
  number_returns (IsNull equal x) h = h
  number_returns (Prefix op t) h = h
  number_returns (And a b) h = h
  number_returns (Or a b) h = h
  number_returns (Binary op a b) h = h

  value_returns : (line : ℕ) (t : Term) → HasType p t types.Jint → MayReturnFrom p → Goes (with_value sight line (λ v. Returns (ScalarResult v)) (task.ReturnValue line) t)
  value_returns line t h m = valued line (λ v. Returns (ScalarResult v)) (task.ReturnValue line) types.Jint t h (λ v e f. m) (λ u e f. (p, stands, (number_returns u f, m)))

  ref_returns : (line : ℕ) (o : Option Variable) → (level : ℕ) × (r : _) × (o ≡ Some (LocalRef level r)) → (r : StaticReference) → MayReturnFrom p → Goes (returned_name line (scalar o) r)
  ref_returns line o (level, r, e) q m = subst (λ (v : Option Variable). Goes (returned_name line (scalar v) q)) (sym e) m

  name_gives : (line : ℕ) (o : Outcome Value) (r : StaticReference) → ValueFits types.Jint o → MayReturnFrom p → Goes (returned_name line o r)
  name_gives line (Gives v) r h m = (p, stands, (h, m))
  name_gives line (Traps trap) r h m = m
  name_gives line Stuck r h m = m

  name_returns : (line : ℕ) (x : Identifier) (o : Option ExprType) → type_in p.names x ≡ o → ReturnedFits p x o → MayReturnFrom p → Goes (returned_name line (sight.number x) (sight.reference x))
  name_returns line x (Some types.Ref) e h m = ref_returns line (lookup x vs) (stands.types x types.Ref e) (sight.reference x) m
  name_returns line x (Some types.Jint) e h m = name_gives line (sight.number x) (sight.reference x) ((sees ss vs frames p heap stands).number x types.Jint e tt) m
  name_returns line x o e h m = absurd h

  returns : (line : ℕ) (t : Term) → ReturnFits p t → MayReturnFrom p → Goes (return_effect sight line t)
  returns line (term.Named constants.Null) h m = m
  returns line (Read x) h m = name_returns line x (type_in p.names x) refl h m
  returns line (term.Named constants.True) h m = value_returns line (term.Named constants.True) h m
  returns line (term.Named constants.False) h m = value_returns line (term.Named constants.False) h m
  returns line (term.Named constants.Commit) h m = absurd h
  returns line (term.Named constants.Abort) h m = absurd h
  returns line (Done v) h m = value_returns line (Done v) h m
  returns line (term.Number n unsigned) h m = value_returns line (term.Number n unsigned) h m
  returns line (term.Element x t) h m = value_returns line (term.Element x t) h m
  returns line (IsNull equal x) h m = value_returns line (IsNull equal x) h m
  returns line (Prefix op t) h m = value_returns line (Prefix op t) h m
  returns line (And a b) h m = value_returns line (And a b) h m
  returns line (Or a b) h m = value_returns line (Or a b) h m
  returns line (Binary op a b) h m = value_returns line (Binary op a b) h m

  -- ---- calls

  -- operands as good as the others, of which a number may have taken a step
  abbrev AsGood : List ParameterKind → List Operand → List Operand → Type 0
  AsGood parameters before after = OperandsFit p parameters after × (map operand_argument after ≡ map operand_argument before)

  abbrev OperandsGo : List ParameterKind → List Operand → Outcome (List Operand) → Type 0
  OperandsGo parameters before (Gives after) = AsGood parameters before after
  OperandsGo parameters before (Traps trap) = Unit {0}
  OperandsGo parameters before Stuck = ⊥

  after_go : {parameter : ParameterKind} (parameters : List ParameterKind) {o : Operand} (before : List Operand) (further : Outcome (List Operand)) → OperandFits p parameter o → OperandsGo parameters before further → OperandsGo (parameter ∷ parameters) (o ∷ before) (outcome_map (λ os. o ∷ os) further)
  after_go parameters {o} before (Gives after) h g = (rule.next h g.0, ap (λ (l : List Argument). operand_argument o ∷ l) g.1)
  after_go parameters before (Traps trap) h g = tt
  after_go parameters before Stuck h g = g

  -- a number takes a step, whatever is to be given
  number_go : (parameter : ParameterKind) (parameters : List ParameterKind) (e : Term) (before : List Operand) (o : Reduction) → ((u : Term) → HasType p u types.Jint → OperandFits p parameter (NumberOperand u)) → TermFits p types.Jint o → OperandsFit p parameters before
      → OperandsGo (parameter ∷ parameters) (NumberOperand e ∷ before) (outcome_map (λ (u : Term). NumberOperand u ∷ before) o)
  number_go parameter parameters e before (Gives u) fits h g = (rule.next (fits u h) g, refl)
  number_go parameter parameters e before (Traps trap) fits h g = tt
  number_go parameter parameters e before Stuck fits h g = h

  number_steps : (parameter : ParameterKind) (parameters : List ParameterKind) (e : Term) (before : List Operand) → ((u : Term) → HasType p u types.Jint → OperandFits p parameter (NumberOperand u)) → HasType p e types.Jint → OperandsFit p parameters before → (is_ready sight.number before ≡ false → OperandsGo parameters before (reduce_first sight before)) → (is_given sight.number (NumberOperand e) && is_ready sight.number before) ≡ false
      → OperandsGo (parameter ∷ parameters) (NumberOperand e ∷ before) (reduce_number e before (reduce sight e) (reduce_first sight before))
  number_steps parameter parameters (Done v) before fits h g further e = after_go parameters before (reduce_first sight before) (fits (Done v) h) (further e)
  number_steps parameter parameters t before fits h g further e =
      number_go parameter parameters t before (reduce sight t) fits (reduce_fits p sight (sees ss vs frames p heap stands) t types.Jint h tt) g

  -- a name that a method is given is that of a number, or of a reference
  abbrev PassedValue : Outcome Value → Type 0
  PassedValue (Gives v) = HasType p (Done v) types.Jint
  PassedValue o = Unit {0}

  jint_passed : (o : Outcome Value) → ValueFits types.Jint o → PassedValue o
  jint_passed (Gives v) h = h
  jint_passed (Traps trap) h = tt
  jint_passed Stuck h = tt

  name_passed : (x : Identifier) (o : Option ExprType) → type_in p.names x ≡ o → PassedFits p x o → PassedValue (sight.number x)
  name_passed x (Some types.Jint) e h = jint_passed (sight.number x) ((sees ss vs frames p heap stands).number x types.Jint e tt)
  name_passed x (Some types.Ref) e h = let there = stands.types x types.Ref e in subst (λ (v : Option Variable). PassedValue (scalar v)) (sym there.2) tt
  name_passed x (Some types.Global) e h = let there = stands.types x types.Global e in subst (λ (v : Option Variable). PassedValue (scalar v)) (sym there.0) tt
  name_passed x o e h = absurd h

  name_steps : (parameters : List ParameterKind) (x : Identifier) (before : List Operand) (o : Outcome Value) → PassedValue o → PassedFits p x (type_in p.names x) → OperandsFit p parameters before → (is_ready sight.number before ≡ false → OperandsGo parameters before (reduce_first sight before)) → (is_no_number o && is_ready sight.number before) ≡ false
      → OperandsGo (Passed ∷ parameters) (PassedName x ∷ before) (reduce_name x before o (reduce_first sight before))
  name_steps parameters x before (Gives v) is h g further e = (rule.next (rule.passed_number is) g, refl)
  name_steps parameters x before (Traps trap) is h g further e = after_go parameters before (reduce_first sight before) (rule.passed_name h) (further e)
  name_steps parameters x before Stuck is h g further e = after_go parameters before (reduce_first sight before) (rule.passed_name h) (further e)

  operands_go : {parameters : List ParameterKind} {operands : List Operand} → OperandsFit p parameters operands → is_ready sight.number operands ≡ false → OperandsGo parameters operands (reduce_first sight operands)
  operands_go rule.done e = absurd (cc)
  operands_go (rule.next {kinds = kinds} {operands = operands} (rule.number {t = t} h) g) e = number_steps IntNumber kinds t operands (λ u is. rule.number is) h g (operands_go g) e
  operands_go (rule.next {kinds = kinds} {operands = operands} (rule.passed_number {t = t} h) g) e = number_steps Passed kinds t operands (λ u is. rule.passed_number is) h g (operands_go g) e
  operands_go (rule.next {kinds = kinds} {operands = operands} (rule.passed_name {x = x} h) g) e = name_steps kinds x operands (sight.number x) (name_passed x (type_in p.names x) refl h) h g (operands_go g) e
  operands_go (rule.next {kinds = kinds} {operands = operands} h g) e = after_go kinds operands (reduce_first sight operands) h (operands_go g e)

  -- as many
  same_count : (before after : List Operand) → map operand_argument after ≡ map operand_argument before → length after ≡ length before
  same_count [] [] e = refl
  same_count [] (o ∷ after) e = absurd (cc)
  same_count (o ∷ before) [] e = absurd (cc)
  same_count (o ∷ before) (u ∷ after) e =
      let both : operand_argument u ∷ map operand_argument after ≡ operand_argument o ∷ map operand_argument before = e in
      ap suc (same_count before after (let rest : map operand_argument after ≡ map operand_argument before = cc in rest))

  fits_again : (f : JniFunction) (before after : List Operand) → CallFits p f before → AsGood (parameters_for f (length before)) before after → CallFits p f after
  fits_again f before after fits good =
      let same = sym (same_count before after good.1) in
      record {
        types = subst (λ (n : ℕ). OperandsFit p (parameters_for f n) after) same good.0;
        count = subst (λ (n : ℕ). takes_count f n ≡ true) same fits.count;
        views = fits.views;
        rules = subst (λ (args : List Argument). CallKeeps p f args) (sym good.1) fits.rules;
      }

  goes_again : (target : Target) (f : JniFunction) (before after : List Operand) → map operand_argument after ≡ map operand_argument before
      → ResultGoes target (prototype f).result (get_of (call_seen f before)) (GoesOn rest) (at p (after_call p.regions (call_seen f before)))
      → ResultGoes target (prototype f).result (get_of (call_seen f after)) (GoesOn rest) (at p (after_call p.regions (call_seen f after)))
  goes_again target f before after e h =
      subst (λ (args : List Argument). ResultGoes target (prototype f).result (get_of (Some (f, args))) (GoesOn rest) (at p (after_call p.regions (Some (f, args))))) (sym e) h

  runs_again : (line : ℕ) (target : Target) (f : JniFunction) (before after : List Operand) → Runs (Invoke line target f before) (GoesOn rest) p → AsGood (parameters_for f (length before)) before after → Runs (Invoke line target f after) (GoesOn rest) p
  runs_again line (Tested a b) f before after r good = (fits_again f before after r.0 good, r.1, r.2, r.3)
  runs_again line (Declared kind x) f before after r good = (fits_again f before after r.0 good, r.1, goes_again (Declared kind x) f before after good.1 r.2)
  runs_again line (Assigned x) f before after r good = (fits_again f before after r.0 good, r.1, goes_again (Assigned x) f before after good.1 r.2)
  runs_again line Dropped f before after r good = (fits_again f before after r.0 good, r.1, goes_again Dropped f before after good.1 r.2)

  pub call_fits : (line : ℕ) (target : Target) (f : JniFunction) (operands : List Operand) → Runs (Invoke line target f operands) (GoesOn rest) p → CallFits p f operands
  call_fits line (Tested a b) f operands r = r.0
  call_fits line (Declared kind x) f operands r = r.0
  call_fits line (Assigned x) f operands r = r.0
  call_fits line Dropped f operands r = r.0

  operands_stepped : (line : ℕ) (target : Target) (f : JniFunction) (operands : List Operand) (o : Outcome (List Operand)) → Runs (Invoke line target f operands) (GoesOn rest) p → OperandsGo (parameters_for f (length operands)) operands o → Goes (goes_on line (Invoke line target f) o)
  operands_stepped line target f operands (Gives after) r good = (p, stands, runs_again line target f operands after r good)
  operands_stepped line target f operands (Traps trap) r good = tt
  operands_stepped line target f operands Stuck r good = absurd good

  calls : (line : ℕ) (target : Target) (f : JniFunction) (operands : List Operand) → Runs (Invoke line target f operands) (GoesOn rest) p → Goes (call_effect_of sight line target f operands)
  calls line target f operands r =
      cond_both (is_ready sight.number operands) (Calls line target f (actuals sight f operands)) (goes_on line (Invoke line target f) (reduce_first sight operands)) Goes
      (λ e. (operands, refl, e, r))
      (λ e. operands_stepped line target f operands (reduce_first sight operands) r (operands_go (call_fits line target f operands r).types e))

  -- ---- all tasks

  -- the effect of a task that runs at a point where the thread is
  pub effect_follows : (t : Task) → Runs t (GoesOn rest) p → Goes (effect_of sight t)
  effect_follows (SetScalar line x t) (s, n, f, g) = valued line (Sets x) (SetScalar line x) s t f (λ v e h. sets x s v h n g) (λ u e h. (p, stands, (s, n, h, g)))
  effect_follows (SetElement line x i t) (fit, (r, n, f), g, k) =
      valued line _ (λ u. SetElement line x u t) r i f
      (λ v e h. valued line (element_effect sight line x v) (SetElement line x (Done v)) types.Jint t g (λ w c j. places line x v w r n h j fit k) (λ u c j. (p, stands, (fit, (r, n, h), j, k))))
      (λ u e h. (p, stands, (fit, (r, n, h), g, k)))
  effect_follows (SetNull target) r = r
  effect_follows (MakeArray t x size) r = r
  effect_follows (Invoke line target f operands) r = calls line target f operands r
  effect_follows (Print line t) (f, view, k) = valued line print_effect (Print line) types.Jint t f (λ v e h. prints v h (λ z. (view, k))) (λ u e h. (p, stands, (h, view, k)))
  effect_follows (Branch line t a b) (f, (y, n, teaches, h, g)) =
      valued line (branch_effect a b) (λ u. Branch line u a b) types.Truth t f
      (λ v e s. branches a b v s y n (subst (λ (t : Term). Teaches p t y n) e teaches) h g)
      (λ u e s. learns t y n (RunsBlock a (Outside (GoesOn rest))) (RunsBlock b (Outside (GoesOn rest))) teaches h g u e s)
  effect_follows EndIf (q, closes, k) = (q, stands_after ss vs frames p q stands closes, k)
  effect_follows (Loop line e t body) (f, turn, k) = valued line (loop_effect line e body) (λ u. Loop line e u body) types.Truth t f (λ v c s. turns line e body v s turn k) (λ u c s. (p, stands, (s, turn, k)))
  effect_follows (EndTurn line e body) (q, closes, turn, k) = (q, stands_after ss vs frames p q stands closes, (turn.0, turn, k))
  effect_follows task.Return r = r
  effect_follows (task.ReturnValue line t) (f, m) = returns line t f m
  effect_follows Impossible r = absurd r
