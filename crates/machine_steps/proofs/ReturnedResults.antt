-- What an instruction gives that leaves a function is what the source's return gives.
use Rattle.std.proofs.Common.{◌≡◌, ℕ, ℤ, Bool, true, false, List, [], ◌∷◌, inl, inr, Option, Some, None, refl, sym, ap, ◌∙◌, subst}
use Rattle.std.specs.Prelude.{slice_get, if◌then◌else◌}
use Rattle.std.specs.List.{AllByRecursion}
use Rattle.base.specs.Bytes.{Identifier, lookup}
use Rattle.syntax.specs.Tree as tree
use Rattle.syntax.specs.Tree.{Block}
use Rattle.class_rules.specs.Class.{Classes}
use Rattle.code.specs.Depth.{Listing}
use Rattle.code.specs.declared.instr.Instr.{Instr}
use Rattle.code.specs.declared.instr.Instr.TheVariants as instr
use Rattle.code.specs.declared.instr.ReferenceOperand.TheVariants.{Null, Local}
use Rattle.code_meaning.specs.Lowered.{Lowered}
use Rattle.code_meaning.specs.Fits as rule
use Rattle.code_meaning.specs.Fits.{TermHasType}
use Rattle.code_meaning.specs.Slots as typed
use Rattle.code_meaning.specs.Slots.{visible_to}
use Rattle.code_meaning.specs.Stands.{NumberStands, ReturnStands, TasksStand}
use Rattle.heap.specs.Heap.{Space}
use Rattle.jni.specs.declared.function.JniFunction.{JniFunction}
use Rattle.machine_steps.specs.declared.execute.ReturnValue.TheVariants as value
use Rattle.machine_scenes.proofs.KeyLaws.{address_there}
use Rattle.machine_scenes.specs.declared.activation.Activation.{Activation}
use Rattle.machine_steps.proofs.Calls.{Ready}
use Rattle.jni.specs.declared.kinds.ParameterKind.TheVariants.{LocalVariable}
use Rattle.code_meaning.specs.Does as does
use Rattle.machine_steps.proofs.OwnedKeys.{IsArgumentOwn, owner_of_one}
use Rattle.machine_steps.specs.Returned.{ReturnAgrees, given_by, returned_at, top_of}
use Rattle.semantics.specs.Arguments.{ReferenceActual, actuals}
use Rattle.semantics.specs.CallEffects.{CallResult, NoResult, ScalarResult, ReferenceResult}
use Rattle.semantics.specs.Effect.{Effect, Becomes, Calls, Sets, SetsElement, Returns, at_line, branch_effect, call_effect_of, effect_of, element_effect, goes_on, is_ready, loop_effect, print_effect, reduce_first, return_effect, returned_name, with_value}
use Rattle.semantics.specs.Object.{Reference}
use Rattle.semantics.specs.Sight.{Sight}
use Rattle.semantics.specs.Task.{Task, SetScalar, SetElement, SetNull, MakeArray, Invoke, Print, Branch, EndIf, Loop, EndTurn, Return, ReturnValue, Impossible, Target, Operand}
use Rattle.semantics.specs.Term.{Term, Done, Read, index_of, reduce}
use Rattle.semantics.specs.Thread.{Shared, Thread, sight_of}
use Rattle.semantics.specs.declared.value.Value.{Value}
use Rattle.semantics.specs.declared.value.Value.TheVariants.{Int, Truth}
use Rattle.semantics.specs.Value.{Outcome, Gives, Traps, Stuck}
use Rattle.semantics.specs.Variable.{StaticReference, Empty, Live, Weakly, Cleared, Deleted, Variables, as_reference, as_static}
use Rattle.semantics_safety.specs.Owners.{Owners, IsOwn}
use Rattle.semantics_safety.specs.Used.{task_names}
use Rattle.tables.specs.Elements.{OwnedNumbers}
use Rattle.type_rules.specs.declared.ty.ExprType.TheVariants.{Jint, Ref}

-- ---- which tasks return

-- an effect is no return
abbrev IsNoReturn : Effect → Type 0
IsNoReturn (Returns given) = ⊥
IsNoReturn other = Unit {0}

module _ (line : ℕ) where
  stays_line : {A : Type 0} (use_value : A → Effect) (o : Outcome A) → ((a : A) → IsNoReturn (use_value a)) → IsNoReturn (at_line line use_value o)
  stays_line use_value (Gives a) stays = stays a
  stays_line use_value (Traps trap) stays = tt
  stays_line use_value Stuck stays = tt

  stays_value : (sight : Sight) (use_value : Value → Effect) (task : Term → Task) (t : Term) → ((v : Value) → IsNoReturn (use_value v)) → IsNoReturn (with_value sight line use_value task t)
  stays_value sight use_value task (Done v) stays = stays v
  stays_value sight use_value task t stays = stays_line {A = Term} (λ u. Becomes (task u ∷ [])) (reduce sight t) (λ u. tt)

  stays_element : (sight : Sight) (x : Identifier) (i v : Value) → IsNoReturn (element_effect sight line x i v)
  stays_element sight x i (Int z) =
      stays_line {A = ℕ} (λ n. at_line line (λ (old : ℤ). SetsElement x n z) (sight.element x n)) (index_of i)
      (λ n. stays_line {A = ℤ} (λ (old : ℤ). SetsElement x n z) (sight.element x n) (λ old. tt))
  stays_element sight x i v = tt

-- what prints or tests a value returns nothing
stays_print : (v : Value) → IsNoReturn (print_effect v)
stays_print (Int z) = tt
stays_print v = tt

stays_branch : (then' else' : Block) (v : Value) → IsNoReturn (branch_effect then' else' v)
stays_branch then' else' (Truth true) = tt
stays_branch then' else' (Truth false) = tt
stays_branch then' else' v = tt

stays_loop : (line : ℕ) (test : tree.Expr) (body : Block) (v : Value) → IsNoReturn (loop_effect line test body v)
stays_loop line test body (Truth true) = tt
stays_loop line test body (Truth false) = tt
stays_loop line test body v = tt

stays_call : (sight : Sight) (line : ℕ) (target : Target) (f : JniFunction) (operands : List Operand) → IsNoReturn (call_effect_of sight line target f operands)
stays_call sight line target f operands = by_test (is_ready sight.number operands)
  where
    by_test : (b : Bool) → IsNoReturn (if b then Calls line target f (actuals sight f operands) else goes_on line (Invoke line target f) (reduce_first sight operands))
    by_test true = tt
    by_test false = stays_line line {A = List Operand} (λ further. Becomes (Invoke line target f further ∷ [])) (reduce_first sight operands) (λ further. tt)

-- an effect that doesn't return gives nothing
no_result : {A : Type 0} (e : Effect) (c : CallResult) → IsNoReturn e → e ≡ Returns c → A
no_result e c stays is = absurd (subst IsNoReturn is stays)

-- ---- what is returned

same_reference : (q : Reference) → as_reference (as_static q) ≡ q
same_reference None = refl
same_reference (Some n) = refl

-- what a name refers to is the variable's own as an argument, where it is so itself
own_argument : (own : Owners) (vs : Variables) (x : Identifier) (r : StaticReference) → IsOwn own x (lookup x vs) → IsArgumentOwn own vs (ReferenceActual x r)
own_argument own vs x Empty h = tt
own_argument own vs x (Live n) h = h
own_argument own vs x (Weakly n) h = tt
own_argument own vs x Cleared h = tt
own_argument own vs x Deleted h = tt

module _ (p : Lowered) (classes : Classes) (space : Space) (copies : List (Option OwnedNumbers)) (owner : ℕ) (call : Activation) (code : Listing) (own : Owners) (shared : Shared) (s : Thread) (task : Task) (rest : List Task) (r : Ready p classes space copies owner call code (visible_to own shared s) s.frames task rest)
    (i : Instr) (at : slice_get code.instrs call.place ≡ Some i) where
  abbrev Agrees : CallResult → Type 0
  Agrees c = ReturnAgrees space (given_by i call) c

  abbrev AreOwn : List Identifier → Type 0
  AreOwn names = AllByRecursion (λ x. IsOwn own x (lookup x s.variables)) names

  -- a number, which is the topmost word
  by_number : (line : ℕ) (t : Term) (c : CallResult) → TermHasType r.known t Jint → NumberStands code r.known call.place call.stack line Jint t (instr.ReturnJint ∷ []) → with_value (sight_of shared s) line (λ v. Returns (ScalarResult v)) (ReturnValue line) t ≡ Returns c → Agrees c
  by_number line t c (rule.done (typed.int {z = z} fits)) (under_way, there) is =
      let same : i ≡ instr.ReturnJint = cc (at, there.0) in
      let gives : ScalarResult (Int z) ≡ c = cc (is) in
      subst (λ (j : Instr). ReturnAgrees space (given_by j call) c) (sym same)
      (subst (ReturnAgrees space (value.Number (top_of call.stack))) gives (ap top_of under_way.operands, fits))
  by_number line t c well_typed h is = no_result (with_value (sight_of shared s) line (λ v. Returns (ScalarResult v)) (ReturnValue line) t) c (stays_line line {A = Term} (λ u. Becomes (ReturnValue line u ∷ [])) (reduce (sight_of shared s) t) (λ u. tt)) is

  -- a `jint` variable is worked out first
  by_term : (line : ℕ) (t : Term) (c : CallResult) → TermHasType r.known t Jint → NumberStands code r.known call.place call.stack line Jint t (instr.ReturnJint ∷ []) → return_effect (sight_of shared s) line t ≡ Returns c → Agrees c
  by_term line t c (rule.read {x = x} there) h is =
      let shown = r.shows.each x (record { ty = Jint; index = there.0 }) there.1 in
      let named : Becomes (ReturnValue line (Done shown.value) ∷ []) ≡ Returns c = sym (ap (λ (o : Outcome Value). returned_name line o ((visible_to own shared s).sight.reference x)) shown.is) ∙ is in
      no_result (Becomes (ReturnValue line (Done shown.value) ∷ [])) c tt named
  by_term line t c well_typed h is = by_number line t c well_typed h is

  -- a local reference, where it is the variable's own
  by_name : (line : ℕ) (x : Identifier) (n : ℕ) (c : CallResult) → lookup x r.known ≡ Some (record { ty = Ref; index = n }) → slice_get code.instrs call.place ≡ Some (instr.ReturnReference (Local n)) → AreOwn (x ∷ []) → return_effect (sight_of shared s) line (Read x) ≡ Returns c → Agrees c
  by_name line x n c found there owned is =
      let shown = r.shows.each x (record { ty = Ref; index = n }) found in
      let sees = (visible_to own shared s).sight in
      let same : i ≡ instr.ReturnReference (Local n) = cc (at, there) in
      let named : Returns (ReferenceResult (as_reference (sees.reference x))) ≡ Returns c = sym (ap (λ (o : Outcome Value). returned_name line o (sees.reference x)) shown.no_number) ∙ is in
      let gives : ReferenceResult shown.reference ≡ c = ap (λ (q : Reference). ReferenceResult q) (sym (ap as_reference shown.is ∙ same_reference shown.reference)) ∙ (let both = named in cc) in
      let has = owner_of_one p classes space copies owner call code own shared s task rest r {q = LocalVariable} (does.reference tt (does.local tt found)) (own_argument own s.variables x (sees.reference x) owned.0) in
      subst (λ (j : Instr). ReturnAgrees space (given_by j call) c) (sym same)
      (subst (ReturnAgrees space (value.Reference (returned_at call (Local n)))) gives
      (address_there space call.locals call.slots.references.items r.meant.references r.meant.owners n shown.reference r.holds.keys shown.there (λ m object. has m (shown.there ∙ ap (λ (q : Reference). Some q) object))))

  by_value : (line : ℕ) (t : Term) (c : CallResult) → ReturnStands code r.known call.place call.stack line t → AreOwn (task_names (ReturnValue line t)) → return_effect (sight_of shared s) line t ≡ Returns c → Agrees c
  by_value line t c (inl h) owned is = by_term line t c h.0.ty h is
  by_value line t c (inr (inl (null, there))) owned is =
      let same : i ≡ instr.ReturnReference Null = cc (at, there) in
      let named : Returns (ReferenceResult None) ≡ Returns c = sym (ap (return_effect (sight_of shared s) line) null) ∙ is in
      let gives : ReferenceResult None ≡ c = cc (named) in
      subst (λ (j : Instr). ReturnAgrees space (given_by j call) c) (sym same) (subst (ReturnAgrees space (value.Reference None)) gives tt)
  by_value line t c (inr (inr (x, n, read, found, there))) owned is =
      by_name line x n c found there (subst (λ (u : Term). AreOwn (task_names (ReturnValue line u))) read owned) (sym (ap (return_effect (sight_of shared s) line) read) ∙ is)

  by_task : (t : Task) (c : CallResult) → TasksStand code r.known call.place call.stack (t ∷ rest) → AreOwn (task_names t) → effect_of (sight_of shared s) t ≡ Returns c → Agrees c
  by_task Return c (empty, there) owned is =
      let same : i ≡ instr.Return = cc (at, there) in
      let gives : NoResult ≡ c = cc (is) in
      subst (λ (j : Instr). ReturnAgrees space (given_by j call) c) (sym same) (subst (ReturnAgrees space value.Nothing) gives tt)
  by_task (ReturnValue line t) c stand owned is = by_value line t c stand owned is
  by_task (SetScalar line x t) c stand owned is = no_result (effect_of (sight_of shared s) (SetScalar line x t)) c (stays_value line (sight_of shared s) (Sets x) (SetScalar line x) t (λ v. tt)) is
  by_task (SetElement line x j t) c stand owned is =
      no_result (effect_of (sight_of shared s) (SetElement line x j t)) c
      (stays_value line (sight_of shared s) (λ u. with_value (sight_of shared s) line (element_effect (sight_of shared s) line x u) (SetElement line x (Done u)) t) (λ e. SetElement line x e t) j
      (λ u. stays_value line (sight_of shared s) (element_effect (sight_of shared s) line x u) (SetElement line x (Done u)) t (λ v. stays_element line (sight_of shared s) x u v))) is
  by_task (SetNull target) c stand owned is = no_result (effect_of (sight_of shared s) (SetNull target)) c tt is
  by_task (MakeArray T x n) c stand owned is = no_result (effect_of (sight_of shared s) (MakeArray T x n)) c tt is
  by_task (Invoke line target f operands) c stand owned is = no_result (effect_of (sight_of shared s) (Invoke line target f operands)) c (stays_call (sight_of shared s) line target f operands) is
  by_task (Print line t) c stand owned is = no_result (effect_of (sight_of shared s) (Print line t)) c (stays_value line (sight_of shared s) print_effect (Print line) t stays_print) is
  by_task (Branch line t then' else') c stand owned is =
      no_result (effect_of (sight_of shared s) (Branch line t then' else')) c (stays_value line (sight_of shared s) (branch_effect then' else') (λ u. Branch line u then' else') t (stays_branch then' else')) is
  by_task EndIf c stand owned is = no_result (effect_of (sight_of shared s) EndIf) c tt is
  by_task (Loop line test t body) c stand owned is =
      no_result (effect_of (sight_of shared s) (Loop line test t body)) c (stays_value line (sight_of shared s) (loop_effect line test body) (λ u. Loop line test u body) t (stays_loop line test body)) is
  by_task (EndTurn line test body) c stand owned is = no_result (effect_of (sight_of shared s) (EndTurn line test body)) c tt is
  by_task Impossible c stand owned is = absurd stand

  -- where the references that the task names are their variables' own
  pub return_agrees : (c : CallResult) → AreOwn (task_names task) → effect_of (sight_of shared s) task ≡ Returns c → Agrees c
  return_agrees c owned is = by_task task c r.stands.stand owned is
