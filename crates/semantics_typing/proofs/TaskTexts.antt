-- The texts that are given in the tasks of a thread are of bytes, and methods are asked for only where they are allowed, from each step
-- to the next.
use Rattle.std.proofs.Common.{◌≡◌, ℕ, Bool, true, false, not, ◌||◌, List, [], ◌∷◌, ◌++◌, length, map, zip, Option, Some, None, refl, sym, ap, ◌∙◌, subst, find, bytes_eq, if◌then◌else◌}
use Rattle.std.specs.Prelude.{ℤ}
use Rattle.std.specs.List.{AllByRecursion, list_any}
use Rattle.std.proofs.lemmas.Bool.{cond_both}
use Rattle.std.proofs.lemmas.List.Folds.{list_any-append}
use Rattle.std.proofs.lemmas.Slice.Eq.{bytes_eq-Decides}
use Rattle.base.specs.Bytes.{Identifier}
use Rattle.base.specs.Options.{some_passes}
use Rattle.syntax.specs.Parts.{functions_of, statements_of, statements_within, own_call, call_of_right_side}
use Rattle.syntax.specs.Tree as tree
use Rattle.syntax.specs.declared.expr.Constant.TheVariants as constants
use Rattle.syntax.specs.Tree.{Argument, Call, RightSide, FromExpr, FromCall, Expr, Test, TestExpr, TestCall, Stmt, Block, End, Next, Function, SourceUnit}
use Rattle.jni.specs.declared.function.JniFunction.{JniFunction}
use Rattle.jni.specs.declared.function.JniFunction.TheVariants.{GetStaticMethodID}
use Rattle.jni.specs.JniFunction.{parameters_for, prototype, all_functions, function_named}
use Rattle.jni.specs.declared.kinds.ParameterKind.{ParameterKind}
use Rattle.jni.specs.declared.kinds.ParameterKind.TheVariants.{FieldID, MethodID, Passed, IntNumber, ArrayVariable, BufferVariable, Mode, IsCopy}
use Rattle.semantics.specs.Arguments.{look_up, look_up_expression, reference_argument, field_argument, method_argument, actuals}
use Rattle.semantics.specs.CallEffects.{ScalarResult}
use Rattle.semantics.specs.Load.{methods_load}
use Rattle.semantics.specs.Variable.{StaticReference}
use Rattle.semantics.specs.World.{World}
use Rattle.semantics.specs.Effect.{Effect, Becomes, Sets, SetsElement, Calls, Returns, at_line, goes_on, with_value, print_effect, branch_effect, loop_effect, element_effect, is_ready, reduce_number, reduce_name, reduce_first, call_effect_of, tasks_after, returned_name, return_effect, effect_of}
use Rattle.semantics.specs.Sight.{Sight}
use Rattle.semantics.specs.Task as task
use Rattle.semantics.specs.Task.{Task, SetScalar, SetElement, SetNull, MakeArray, Invoke, Print, Branch, EndIf, Loop, EndTurn, Impossible, Target, Declared, Assigned, Tested, Dropped, Operand, NumberOperand, PassedName, Given, operand, passed_operand, invocation, set_task, right_side_task, if_task, else_block, task_of, tasks_of, kind_of}
use Rattle.semantics.specs.Term as term
use Rattle.semantics.specs.Term.{Term, Done, Read, reduce, index_of}
use Rattle.semantics.specs.declared.value.Value.{Value}
use Rattle.semantics.specs.declared.value.Value.TheVariants.{Int, Truth}
use Rattle.semantics.specs.Value.{Outcome, Gives, Traps, Stuck, outcome_map}
use Rattle.semantics_typing.specs.Texts.{IsTextual, HasText, CallHasTexts, RightHasTexts, TestHasTexts, BlockHasTexts, StmtHasTexts, HasTexts}
use Rattle.semantics_typing.proofs.Arguments.{HasActualText}
use Rattle.semantics_typing.proofs.Lists.{all_append}

-- ---- what tasks have

-- a call of GetStaticMethodID
abbrev asks : Call → Bool
asks c = bytes_eq c.function (prototype GetStaticMethodID).name

-- a statement that has one
abbrev pub asks_method : Stmt → Bool
asks_method s = some_passes asks (own_call s)

-- where one of the statements has one, methods are allowed
abbrev pub MayAsk : (methods : Bool) → List Stmt → Type 0
MayAsk methods statements = list_any asks_method statements ≡ true → methods ≡ true

-- methods are allowed, where this function is GetStaticMethodID
abbrev pub MayCall : (methods : Bool) → JniFunction → Type 0
MayCall methods GetStaticMethodID = methods ≡ true
MayCall methods f = Unit {0}

-- the texts of a block are of bytes, and it asks for methods only where they are allowed
abbrev pub BlockFits : (methods : Bool) → Block → Type 0
BlockFits methods b = BlockHasTexts b × MayAsk methods (statements_of b)

-- the blocks of a test
abbrev pub TargetHasTexts : (methods : Bool) → Target → Type 0
TargetHasTexts methods (Tested a b) = BlockFits methods a × BlockFits methods b
TargetHasTexts methods target = Unit {0}

-- the same of a task, and of the blocks in it
abbrev pub TaskHasTexts : (methods : Bool) → Task → Type 0
TaskHasTexts methods (Invoke line target f operands) = AllByRecursion HasText operands × TargetHasTexts methods target × MayCall methods f
TaskHasTexts methods (Branch line t a b) = BlockFits methods a × BlockFits methods b
TaskHasTexts methods (Loop line test t body) = BlockFits methods body
TaskHasTexts methods (EndTurn line test body) = BlockFits methods body
TaskHasTexts methods task = Unit {0}

abbrev pub HaveTexts : (methods : Bool) → List Task → Type 0
HaveTexts methods tasks = AllByRecursion (TaskHasTexts methods) tasks

abbrev pub TasksHaveTexts : (methods : Bool) → Option (List Task) → Type 0
TasksHaveTexts methods None = Unit {0}
TasksHaveTexts methods (Some tasks) = HaveTexts methods tasks

-- the same of an effect
abbrev pub EffectHasTexts : (methods : Bool) → Effect → Type 0
EffectHasTexts methods (Becomes tasks) = HaveTexts methods tasks
EffectHasTexts methods (Calls line target f args) = AllByRecursion HasActualText args × TargetHasTexts methods target × MayCall methods f
EffectHasTexts methods e = Unit {0}

-- ---- statements

passed_texts : (e : Expr) → HasText (passed_operand e)
passed_texts (tree.Named constants.Null) = tt
passed_texts (tree.Variable x) = tt
passed_texts e = tt

operand_texts : (kind : ParameterKind) (a : Argument) → IsTextual a → HasText (operand (kind, a))
operand_texts IntNumber (tree.Value e) h = tt
operand_texts IntNumber (tree.Text bytes) h = h
operand_texts IntNumber (tree.AddressOf x) h = tt
operand_texts Passed (tree.Value e) h = passed_texts e
operand_texts Passed (tree.Text bytes) h = h
operand_texts Passed (tree.AddressOf x) h = tt
operand_texts kind a h = h

operands_texts : (kinds : List ParameterKind) (args : List Argument) → AllByRecursion IsTextual args → AllByRecursion HasText (map operand (zip kinds args))
operands_texts [] args h = tt
operands_texts (kind ∷ kinds) [] h = tt
operands_texts (kind ∷ kinds) (a ∷ args) h = (operand_texts kind a h.0, operands_texts kinds args h.1)

-- what holds of a test of two holds of each
first_so : (a b methods : Bool) → ((a || b) ≡ true → methods ≡ true) → a ≡ true → methods ≡ true
first_so true b methods h e = h refl
first_so false b methods h e = absurd (cc)

second_so : (a b methods : Bool) → ((a || b) ≡ true → methods ≡ true) → b ≡ true → methods ≡ true
second_so true b methods h e = h refl
second_so false b methods h e = h e

module _ (methods : Bool) where
  front_may : (a b : List Stmt) → MayAsk methods (a ++ b) → MayAsk methods a
  front_may a b h e = first_so (list_any asks_method a) (list_any asks_method b) methods (λ g. h (list_any-append asks_method a b ∙ g)) e

  back_may : (a b : List Stmt) → MayAsk methods (a ++ b) → MayAsk methods b
  back_may a b h e = second_so (list_any asks_method a) (list_any asks_method b) methods (λ g. h (list_any-append asks_method a b ∙ g)) e

  own_may : (s : Stmt) (inner : List Stmt) → MayAsk methods (s ∷ inner) → asks_method s ≡ true → methods ≡ true
  own_may s inner h e = first_so (asks_method s) (list_any asks_method inner) methods h e

  inner_may : (s : Stmt) (inner : List Stmt) → MayAsk methods (s ∷ inner) → MayAsk methods inner
  inner_may s inner h e = second_so (asks_method s) (list_any asks_method inner) methods h e

  none_may : MayAsk methods []
  none_may e = absurd (cc)

  -- the function of a name has that name
  found_named : (fs : List JniFunction) (name : Identifier) (f : JniFunction) → find (λ g. bytes_eq (prototype g).name name) fs ≡ Some f → bytes_eq (prototype f).name name ≡ true
  found_named [] name f h = absurd (cc)
  found_named (g ∷ fs) name f h = by_test (bytes_eq (prototype g).name name) refl h (λ e. found_named fs name f e)
    where
      by_test : (b : Bool) → bytes_eq (prototype g).name name ≡ b → (if b then Some g else find (λ g. bytes_eq (prototype g).name name) fs) ≡ Some f
          → (find (λ g. bytes_eq (prototype g).name name) fs ≡ Some f → bytes_eq (prototype f).name name ≡ true) → bytes_eq (prototype f).name name ≡ true
      by_test true is e later = let same : g ≡ f = cc in subst (λ (x : JniFunction). bytes_eq (prototype x).name name ≡ true) same is
      by_test false is e later = later e

  is_named : (name : Identifier) (f : JniFunction) → function_named name ≡ Some f → bytes_eq name (prototype f).name ≡ true
  unfolding function_named
  is_named name f h = (bytes_eq-Decides name (prototype f).name).1 (sym ((bytes_eq-Decides (prototype f).name name).0 (found_named all_functions name f h)))

  may_call : (c : Call) (f : JniFunction) → bytes_eq c.function (prototype f).name ≡ true → (asks c ≡ true → methods ≡ true) → MayCall methods f
  may_call c GetStaticMethodID is h = h is
  may_call c f is h = tt

  invocation_texts : (line : ℕ) (target : Target) (call : Call) (f : Option JniFunction) → function_named call.function ≡ f → CallHasTexts call → (asks call ≡ true → methods ≡ true) → TargetHasTexts methods target → TaskHasTexts methods (invocation line target call f)
  invocation_texts line target call None is h may g = tt
  invocation_texts line target call (Some f) is h may g = (operands_texts (parameters_for f (length call.arguments)) call.arguments h, g, may_call call f (is_named call.function f is) may)

  set_texts : (line : ℕ) (target : Target) (x : Identifier) (e : Expr) → TaskHasTexts methods (set_task line target x e)
  set_texts line target x (tree.Named constants.Null) = tt
  set_texts line target x e = tt

  right_texts : (line : ℕ) (target : Target) (x : Identifier) (right : RightSide) → RightHasTexts right → (some_passes asks (call_of_right_side (Some right)) ≡ true → methods ≡ true) → TargetHasTexts methods target → TaskHasTexts methods (right_side_task line target x right)
  right_texts line target x (FromExpr e) h may g = set_texts line target x e
  right_texts line target x (FromCall call) h may g = invocation_texts line target call (function_named call.function) refl h may g

  if_texts : (line : ℕ) (test : Test) (a : Block) (other : tree.Else) → TestHasTexts test → (some_passes asks (own_call (tree.If line test a other)) ≡ true → methods ≡ true) → BlockFits methods a → BlockFits methods (else_block line other) → TaskHasTexts methods (if_task line test a (else_block line other))
  if_texts line (TestExpr e) a other h may x y = (x, y)
  if_texts line (TestCall call) a other h may x y = invocation_texts line (Tested a (else_block line other)) call (function_named call.function) refl h may (x, y)

  stmt_texts : (s : Stmt) → StmtHasTexts s → MayAsk methods (statements_within s) → TaskHasTexts methods (task_of s)
  stmt_texts (tree.Plain line (tree.Declare type x right)) h may = right_texts line (Declared (kind_of type) x) x right h (own_may (tree.Plain line (tree.Declare type x right)) [] may) tt
  stmt_texts (tree.Plain line (tree.DeclareArray kind x n)) h may = tt
  stmt_texts (tree.Plain line (tree.Assign x right)) h may = right_texts line (Assigned x) x right h (own_may (tree.Plain line (tree.Assign x right)) [] may) tt
  stmt_texts (tree.Plain line (tree.AssignElement x i e)) h may = tt
  stmt_texts (tree.Plain line (tree.Perform call)) h may = invocation_texts line Dropped call (function_named call.function) refl h (own_may (tree.Plain line (tree.Perform call)) [] may) tt
  stmt_texts (tree.Plain line (tree.PutJint e)) h may = tt
  stmt_texts (tree.If line test then' tree.NoElse) h may =
      let s = tree.If line test then' tree.NoElse in
      if_texts line test then' tree.NoElse h.0 (own_may s (statements_of then') may) (h.1, inner_may s (statements_of then') may) (tt, none_may)
  stmt_texts (tree.If line test then' (tree.ElseBlock else')) h may =
      let s = tree.If line test then' (tree.ElseBlock else') in
      let inner = inner_may s (statements_of then' ++ statements_of else') may in
      if_texts line test then' (tree.ElseBlock else') h.0 (own_may s (statements_of then' ++ statements_of else') may)
      (h.1, front_may (statements_of then') (statements_of else') inner) (h.2, back_may (statements_of then') (statements_of else') inner)
  stmt_texts (tree.While line test body) h may = (h, inner_may (tree.While line test body) (statements_of body) may)
  stmt_texts (tree.Return line None) h may = tt
  stmt_texts (tree.Return line (Some e)) h may = tt

  pub block_texts : (b : Block) → BlockFits methods b → HaveTexts methods (tasks_of b)
  block_texts (End line) h = tt
  block_texts (Next s rest) (h, may) =
      (stmt_texts s h.0 (front_may (statements_within s) (statements_of rest) may), block_texts rest (h.1, back_may (statements_within s) (statements_of rest) may))

-- ---- functions

-- each function's body
abbrev pub UnitFits : (methods : Bool) → SourceUnit → Type 0
UnitFits methods unit = AllByRecursion (λ (f : Function). BlockFits methods f.body) (functions_of unit)

functions_fit : (methods : Bool) (fs : List Function) → AllByRecursion (λ (f : Function). BlockHasTexts f.body) fs → (list_any (λ (f : Function). list_any asks_method (statements_of f.body)) fs ≡ true → methods ≡ true) → AllByRecursion (λ (f : Function). BlockFits methods f.body) fs
functions_fit methods [] h may = tt
functions_fit methods (f ∷ fs) h may =
    let own = list_any asks_method (statements_of f.body) in
    let others = list_any (λ (f : Function). list_any asks_method (statements_of f.body)) fs in
    ((h.0, λ e. first_so own others methods may e), functions_fit methods fs h.1 (λ e. second_so own others methods may e))

-- a world that loads allows methods, where they are asked for
pub unit_fits : (unit : SourceUnit) (w : World) → HasTexts unit → methods_load unit w ≡ true → UnitFits w.methods unit
unit_fits unit w all loads = functions_fit w.methods (functions_of unit) all (λ e. ap (λ (t : Bool). not t || w.methods) (sym e) ∙ loads)

-- ---- effects

module _ (methods : Bool) (sight : Sight) where
  goes_texts : {A : Type 0} (line : ℕ) (task : A → Task) (o : Outcome A) → ((a : A) → o ≡ Gives a → TaskHasTexts methods (task a)) → EffectHasTexts methods (goes_on line task o)
  goes_texts line task (Gives a) h = (h a refl, tt)
  goes_texts line task (Traps trap) h = tt
  goes_texts line task Stuck h = tt

  valued : (line : ℕ) (use_value : Value → Effect) (task : Term → Task) (t : Term) → ((v : Value) → EffectHasTexts methods (use_value v)) → ((u : Term) → TaskHasTexts methods (task u)) → EffectHasTexts methods (with_value sight line use_value task t)
  valued line use_value task (Done v) h g = h v
  valued line use_value task t h g = goes_texts line task (reduce sight t) (λ u e. g u)

  print_texts : (v : Value) → EffectHasTexts methods (print_effect v)
  print_texts (Int z) = tt
  print_texts v = tt

  path_texts : (b : Block) (last : Task) → BlockFits methods b → TaskHasTexts methods last → HaveTexts methods (tasks_of b ++ last ∷ [])
  path_texts b last h g = all_append (TaskHasTexts methods) (tasks_of b) (last ∷ []) (block_texts methods b h) (g, tt)

  branch_texts : (a b : Block) (v : Value) → BlockFits methods a → BlockFits methods b → EffectHasTexts methods (branch_effect a b v)
  branch_texts a b (Truth true) x y = path_texts a EndIf x tt
  branch_texts a b (Truth false) x y = path_texts b EndIf y tt
  branch_texts a b v x y = tt

  loop_texts : (line : ℕ) (test : Expr) (body : Block) (v : Value) → BlockFits methods body → EffectHasTexts methods (loop_effect line test body v)
  loop_texts line test body (Truth true) h = path_texts body (EndTurn line test body) h h
  loop_texts line test body (Truth false) h = tt
  loop_texts line test body v h = tt

  old_texts : (line : ℕ) (x : Identifier) (n : ℕ) (z : ℤ) (o : Outcome ℤ) → EffectHasTexts methods (at_line line (λ (old : ℤ). SetsElement x n z) o)
  old_texts line x n z (Gives old) = tt
  old_texts line x n z (Traps trap) = tt
  old_texts line x n z Stuck = tt

  place_texts : (line : ℕ) (x : Identifier) (z : ℤ) (o : Outcome ℕ) → EffectHasTexts methods (at_line line (λ n. at_line line (λ (old : ℤ). SetsElement x n z) (sight.element x n)) o)
  place_texts line x z (Gives n) = old_texts line x n z (sight.element x n)
  place_texts line x z (Traps trap) = tt
  place_texts line x z Stuck = tt

  element_texts : (line : ℕ) (x : Identifier) (i v : Value) → EffectHasTexts methods (element_effect sight line x i v)
  element_texts line x i (Int z) = place_texts line x z (index_of i)
  element_texts line x i v = tt

  name_texts : (line : ℕ) (o : Outcome Value) (r : StaticReference) → EffectHasTexts methods (returned_name line o r)
  name_texts line (Gives v) r = (tt, tt)
  name_texts line (Traps trap) r = tt
  name_texts line Stuck r = tt

  return_texts : (line : ℕ) (t : Term) → EffectHasTexts methods (return_effect sight line t)
  return_texts line (term.Named constants.Null) = tt
  return_texts line (Read x) = name_texts line (sight.number x) (sight.reference x)
  return_texts line t = valued line (λ v. Returns (ScalarResult v)) (task.ReturnValue line) t (λ v. tt) (λ u. tt)

  -- ---- calls

  reference_texts : (e : Expr) → HasActualText (reference_argument sight e)
  reference_texts (tree.Variable x) = tt
  reference_texts e = tt

  field_texts : (e : Expr) → HasActualText (field_argument sight e)
  field_texts (tree.Variable x) = tt
  field_texts e = tt

  method_texts : (e : Expr) → HasActualText (method_argument sight e)
  method_texts (tree.Variable x) = tt
  method_texts e = tt

  expression_texts : (kind : ParameterKind) (e : Expr) → HasActualText (look_up_expression sight kind e)
  expression_texts FieldID e = field_texts e
  expression_texts MethodID e = method_texts e
  expression_texts (ArrayVariable t) e = tt
  expression_texts (BufferVariable access) e = tt
  expression_texts Mode e = tt
  expression_texts IsCopy e = tt
  expression_texts kind e = reference_texts e

  actual_texts : (kind : ParameterKind) (o : Operand) → HasText o → HasActualText (look_up sight (kind, o))
  actual_texts kind (NumberOperand (Done (Int z))) h = tt
  actual_texts kind (NumberOperand t) h = tt
  actual_texts kind (PassedName x) h = tt
  actual_texts kind (Given (tree.Text bytes)) h = h
  actual_texts kind (Given (tree.AddressOf x)) h = tt
  actual_texts kind (Given (tree.Value e)) h = expression_texts kind e

  actuals_texts : (kinds : List ParameterKind) (operands : List Operand) → AllByRecursion HasText operands → AllByRecursion HasActualText (map (look_up sight) (zip kinds operands))
  actuals_texts [] operands h = tt
  actuals_texts (kind ∷ kinds) [] h = tt
  actuals_texts (kind ∷ kinds) (o ∷ operands) h = (actual_texts kind o h.0, actuals_texts kinds operands h.1)

  abbrev StepsWell : Outcome (List Operand) → Type 0
  StepsWell (Gives operands) = AllByRecursion HasText operands
  StepsWell o = Unit {0}

  number_well : (o : Outcome Term) (rest : List Operand) → AllByRecursion HasText rest → StepsWell (outcome_map (λ (u : Term). NumberOperand u ∷ rest) o)
  number_well (Gives u) rest h = (tt, h)
  number_well (Traps trap) rest h = tt
  number_well Stuck rest h = tt

  further_well : (o : Operand) (further : Outcome (List Operand)) → HasText o → StepsWell further → StepsWell (outcome_map (λ operands. o ∷ operands) further)
  further_well o (Gives operands) h g = (h, g)
  further_well o (Traps trap) h g = tt
  further_well o Stuck h g = tt

  reduced_well : (t : Term) (rest : List Operand) (step : Outcome Term) (further : Outcome (List Operand)) → AllByRecursion HasText rest → StepsWell further → StepsWell (reduce_number t rest step further)
  reduced_well (Done v) rest step further h g = further_well (NumberOperand (Done v)) further tt g
  reduced_well t rest step further h g = number_well step rest h

  named_well : (x : Identifier) (rest : List Operand) (o : Outcome Value) (further : Outcome (List Operand)) → AllByRecursion HasText rest → StepsWell further → StepsWell (reduce_name x rest o further)
  named_well x rest (Gives v) further h g = (tt, h)
  named_well x rest (Traps trap) further h g = further_well (PassedName x) further tt g
  named_well x rest Stuck further h g = further_well (PassedName x) further tt g

  first_well : (operands : List Operand) → AllByRecursion HasText operands → StepsWell (reduce_first sight operands)
  first_well [] h = tt
  first_well (NumberOperand t ∷ rest) h = reduced_well t rest (reduce sight t) (reduce_first sight rest) h.1 (first_well rest h.1)
  first_well (PassedName x ∷ rest) h = named_well x rest (sight.number x) (reduce_first sight rest) h.1 (first_well rest h.1)
  first_well (Given a ∷ rest) h = further_well (Given a) (reduce_first sight rest) h.0 (first_well rest h.1)

  stepped_texts : (line : ℕ) (target : Target) (f : JniFunction) (o : Outcome (List Operand)) → TargetHasTexts methods target → MayCall methods f → StepsWell o → EffectHasTexts methods (goes_on line (Invoke line target f) o)
  stepped_texts line target f (Gives operands) g may h = ((h, g, may), tt)
  stepped_texts line target f (Traps trap) g may h = tt
  stepped_texts line target f Stuck g may h = tt

  call_texts : (line : ℕ) (target : Target) (f : JniFunction) (operands : List Operand) → AllByRecursion HasText operands → TargetHasTexts methods target → MayCall methods f → EffectHasTexts methods (call_effect_of sight line target f operands)
  call_texts line target f operands h g may =
      cond_both (is_ready sight.number operands) (Calls line target f (actuals sight f operands)) (goes_on line (Invoke line target f) (reduce_first sight operands)) (EffectHasTexts methods)
      (λ e. (actuals_texts (parameters_for f (length operands)) operands h, g, may))
      (λ e. stepped_texts line target f (reduce_first sight operands) g may (first_well operands h))

  -- ---- all tasks

  pub effect_texts : (t : Task) → TaskHasTexts methods t → EffectHasTexts methods (effect_of sight t)
  effect_texts (SetScalar line x t) h = valued line (Sets x) (SetScalar line x) t (λ v. tt) (λ u. tt)
  effect_texts (SetElement line x i t) h =
      valued line _ (λ u. SetElement line x u t) i (λ v. valued line (element_effect sight line x v) (SetElement line x (Done v)) t (λ w. element_texts line x v w) (λ u. tt)) (λ u. tt)
  effect_texts (SetNull target) h = tt
  effect_texts (MakeArray t x size) h = tt
  effect_texts (Invoke line target f operands) h = call_texts line target f operands h.0 h.1 h.2
  effect_texts (Print line t) h = valued line print_effect (Print line) t print_texts (λ u. tt)
  effect_texts (Branch line t a b) h = valued line (branch_effect a b) (λ u. Branch line u a b) t (λ v. branch_texts a b v h.0 h.1) (λ u. h)
  effect_texts EndIf h = tt
  effect_texts (Loop line test t body) h = valued line (loop_effect line test body) (λ u. Loop line test u body) t (λ v. loop_texts line test body v h) (λ u. h)
  effect_texts (EndTurn line test body) h = (h, tt)
  effect_texts task.Return h = tt
  effect_texts (task.ReturnValue line t) h = return_texts line t
  effect_texts Impossible h = tt

-- the test of an `if`, after its call
pub after_texts : (methods : Bool) (line : ℕ) (target : Target) (gave_zero : Bool) → TargetHasTexts methods target → HaveTexts methods (tasks_after line target gave_zero)
after_texts methods line (Tested a b) gave_zero h = (h, tt)
after_texts methods line (Declared kind x) gave_zero h = tt
after_texts methods line (Assigned x) gave_zero h = tt
after_texts methods line Dropped gave_zero h = tt
