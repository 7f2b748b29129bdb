-- The local references that a call is given are its variables' own.
use Rattle.std.proofs.Common.{◌≡◌, ℕ, ℤ, Bool, true, false, List, [], ◌∷◌, ◌++◌, length, map, zip, Option, Some, None, refl, sym, ap, ◌∙◌, subst, if◌then◌else◌}
use Rattle.std.specs.Prelude.{flat_map, slice_get}
use Rattle.std.specs.List.{AllByRecursion}
use Rattle.base.specs.Bytes.{Identifier, lookup}
use Rattle.syntax.specs.Parts.{names_in}
use Rattle.syntax.specs.Tree as tree
use Rattle.syntax.specs.declared.expr.Constant.TheVariants as constants
use Rattle.syntax.specs.Tree.{Expr}
use Rattle.class_rules.specs.Class.{Classes}
use Rattle.tables.specs.Elements.{OwnedNumbers}
use Rattle.heap.specs.Heap.{Space}
use Rattle.jni.specs.declared.function.JniFunction.{JniFunction}
use Rattle.jni.specs.JniFunction.{parameters_for}
use Rattle.jni.specs.declared.kinds.ParameterKind.{ParameterKind}
use Rattle.jni.specs.declared.kinds.ParameterKind.TheVariants.{FieldID, MethodID, LocalVariable, ArrayVariable, BufferVariable, Mode, IsCopy}
use Rattle.type_rules.specs.declared.ty.ExprType.TheVariants.{Ref}
use Rattle.semantics_safety.specs.Owners.{Owners, IsOwn}
use Rattle.semantics_safety.specs.Used.{operand_names, task_names}
use Rattle.semantics.specs.Arguments.{Actual, ReferenceActual, actuals, field_argument, method_argument, look_up, look_up_expression, reference_argument, reference_given, reference_in_actual, variable_given}
use Rattle.semantics.specs.CallEffects.{ScalarResult, level_of}
use Rattle.semantics.specs.Effect.{Effect, Becomes, Sets, SetsElement, Returns, Calls, effect_of, at_line, with_value, call_effect_of, element_effect, is_ready, print_effect, branch_effect, loop_effect, return_effect, returned_name, reduce_first}
use Rattle.semantics.specs.Object.{Reference}
use Rattle.semantics.specs.Sight.{Sight, held_reference}
use Rattle.semantics.specs.Task.{Task, Target, Operand, NumberOperand, PassedName, Given, SetScalar, SetElement, Invoke, Print, Branch, Loop, ReturnValue}
use Rattle.semantics.specs.Term as term
use Rattle.semantics.specs.Term.{Term, Done, Read, index_of, reduce}
use Rattle.semantics.specs.Thread.{Shared, Thread, sight_of}
use Rattle.semantics.specs.declared.value.Value.{Value}
use Rattle.semantics.specs.declared.value.Value.TheVariants.{Int, Truth}
use Rattle.semantics.specs.Value.{Outcome, Gives, Traps, Stuck}
use Rattle.semantics.specs.Variable.{Variable, LocalRef, StaticReference, Empty, Live, Weakly, Cleared, Deleted, Variables, as_static}
use Rattle.code.specs.Depth.{Listing}
use Rattle.code.specs.declared.instr.Operand.{Operand as InMemory}
use Rattle.code.specs.declared.instr.Operand.TheVariants as operand
use Rattle.code_meaning.specs.Does as gives
use Rattle.code_meaning.specs.Does.{AllTogether, IsOperand}
use Rattle.code_meaning.specs.Lowered.{Lowered}
use Rattle.code_meaning.specs.Slots.{visible_to}
use Rattle.machine_scenes.specs.declared.activation.Activation.{Activation}
use Rattle.machine_steps.proofs.Arguments.{HasOwner}
use Rattle.machine_steps.proofs.Calls.{Ready}
use Rattle.machine_steps.proofs.Changes.{local_by_kind}
use Rattle.machine_scenes.proofs.KeyLaws.{own_key_there}
use Rattle.machine_scenes.specs.Locals.{IsKeyGiven}
use Rattle.machine_scenes.specs.Given.{held_in, operand_of}

-- ---- only an Invoke calls

abbrev is_call : Effect → Bool
is_call (Calls line target f args) = true
is_call e = false

module _ (line : ℕ) where
  quiet_line : {A : Type 0} (use_value : A → Effect) (o : Outcome A) → ((a : A) → is_call (use_value a) ≡ false) → is_call (at_line line use_value o) ≡ false
  quiet_line use_value (Gives a) quiet = quiet a
  quiet_line use_value (Traps trap) quiet = refl
  quiet_line use_value Stuck quiet = refl

  quiet_value : (sight : Sight) (use_value : Value → Effect) (task : Term → Task) (t : Term) → ((v : Value) → is_call (use_value v) ≡ false) → is_call (with_value sight line use_value task t) ≡ false
  quiet_value sight use_value task (Done v) quiet = quiet v
  quiet_value sight use_value task t quiet = quiet_line {A = Term} (λ u. Becomes (task u ∷ [])) (reduce sight t) (λ u. refl)

  quiet_element : (sight : Sight) (x : Identifier) (i v : Value) → is_call (element_effect sight line x i v) ≡ false
  quiet_element sight x i (Int z) =
      quiet_line {A = ℕ} (λ n. at_line line (λ (old : ℤ). SetsElement x n z) (sight.element x n)) (index_of i)
      (λ n. quiet_line {A = ℤ} (λ (old : ℤ). SetsElement x n z) (sight.element x n) (λ old. refl))
  quiet_element sight x i v = refl

  quiet_return : (sight : Sight) (t : Term) → is_call (return_effect sight line t) ≡ false
  quiet_return sight (term.Named constants.Null) = refl
  quiet_return sight (Read x) = by_number (sight.number x) (sight.reference x)
    where
      by_number : (o : Outcome Value) (r : StaticReference) → is_call (returned_name line o r) ≡ false
      by_number (Gives v) r = refl
      by_number (Traps trap) r = refl
      by_number Stuck r = refl
  quiet_return sight t = quiet_value sight (λ v. Returns (ScalarResult v)) (ReturnValue line) t (λ v. refl)

-- what a call's task is
pub record IsInvoke (sight : Sight) (task : Task) (line : ℕ) (target : Target) (f : JniFunction) (args : List Actual) : Type 0 where
  pub operands : List Operand
  pub is : task ≡ Invoke line target f operands
  pub ready : is_ready sight.number operands ≡ true
  pub given : args ≡ actuals sight f operands

clash : {A : Type 0} (e : Effect) (line : ℕ) (target : Target) (f : JniFunction) (args : List Actual) → is_call e ≡ false → e ≡ Calls line target f args → A
clash e line target f args quiet is = absurd (let no : true ≡ false = sym (ap is_call is) ∙ quiet in cc)

pub called : (sight : Sight) (task : Task) (line : ℕ) (target : Target) (f : JniFunction) (args : List Actual) → effect_of sight task ≡ Calls line target f args → IsInvoke sight task line target f args
called sight (SetScalar l x t) line target f args is = clash (with_value sight l (Sets x) (SetScalar l x) t) line target f args (quiet_value l sight (Sets x) (SetScalar l x) t (λ v. refl)) is
called sight (SetElement l x i t) line target f args is =
    clash (effect_of sight (SetElement l x i t)) line target f args
    (quiet_value l sight (λ u. with_value sight l (element_effect sight l x u) (SetElement l x (Done u)) t) (λ e. SetElement l x e t) i
    (λ u. quiet_value l sight (element_effect sight l x u) (SetElement l x (Done u)) t (λ v. quiet_element l sight x u v))) is
called sight (Print l t) line target f args is = clash (with_value sight l print_effect (Print l) t) line target f args (quiet_value l sight print_effect (Print l) t by_value) is
  where
    by_value : (v : Value) → is_call (print_effect v) ≡ false
    by_value (Int z) = refl
    by_value v = refl
called sight (Branch l t then' else') line target f args is =
    clash (with_value sight l (branch_effect then' else') (λ u. Branch l u then' else') t) line target f args (quiet_value l sight (branch_effect then' else') (λ u. Branch l u then' else') t by_value) is
  where
    by_value : (v : Value) → is_call (branch_effect then' else' v) ≡ false
    by_value (Truth true) = refl
    by_value (Truth false) = refl
    by_value v = refl
called sight (Loop l test t body) line target f args is =
    clash (with_value sight l (loop_effect l test body) (λ u. Loop l test u body) t) line target f args (quiet_value l sight (loop_effect l test body) (λ u. Loop l test u body) t by_value) is
  where
    by_value : (v : Value) → is_call (loop_effect l test body v) ≡ false
    by_value (Truth true) = refl
    by_value (Truth false) = refl
    by_value v = refl
called sight (ReturnValue l t) line target f args is = clash (return_effect sight l t) line target f args (quiet_return l sight t) is
called sight (Invoke l to g operands) line target f args is = by_ready (is_ready sight.number operands) refl
  where
    by_ready : (b : Bool) → is_ready sight.number operands ≡ b → IsInvoke sight (Invoke l to g operands) line target f args
    by_ready true e =
        let same : Calls l to g (actuals sight g operands) ≡ Calls line target f args = cc (e, is) in
        let at : l ≡ line = cc in
        let goes : to ≡ target = cc in
        let of : g ≡ f = cc in
        let with' : actuals sight g operands ≡ args = cc in
        record { operands = operands; is = cc (at, goes, of); ready = e; given = sym with' ∙ ap (λ (h : JniFunction). actuals sight h operands) of }
    by_ready false e =
        clash (call_effect_of sight l to g operands) line target f args
        (subst (λ (b : Bool). is_call (if b then Calls l to g (actuals sight g operands) else at_line l (λ (os : List Operand). Becomes (Invoke l to g os ∷ [])) (reduce_first sight operands)) ≡ false) (sym e) (quiet_line l (λ (os : List Operand). Becomes (Invoke l to g os ∷ [])) (reduce_first sight operands) (λ os. refl))) is
called sight task line target f args is = absurd (cc)

-- ---- arguments

-- a reference to an object is the variable's own
abbrev pub IsArgumentOwn : Owners → Variables → Actual → Type 0
IsArgumentOwn own vs (ReferenceActual x (Live n)) = IsOwn own x (lookup x vs)
IsArgumentOwn own vs a = Unit {0}

module _ (own : Owners) (vs : Variables) (sight : Sight) where
  abbrev AreOwn : List Identifier → Type 0
  AreOwn names = AllByRecursion (λ x. IsOwn own x (lookup x vs)) names

  -- what a name refers to
  name_own : (x : Identifier) (r : StaticReference) → IsOwn own x (lookup x vs) → IsArgumentOwn own vs (ReferenceActual x r)
  name_own x (Live n) h = h
  name_own x Empty h = tt
  name_own x (Weakly n) h = tt
  name_own x Cleared h = tt
  name_own x Deleted h = tt

  reference_own : (e : Expr) → AreOwn (names_in e) → IsArgumentOwn own vs (reference_argument sight e)
  reference_own (tree.Variable x) h = name_own x (sight.reference x) h.0
  reference_own e h = tt

  field_own : (e : Expr) → IsArgumentOwn own vs (field_argument sight e)
  field_own (tree.Variable x) = tt
  field_own e = tt

  method_own : (e : Expr) → IsArgumentOwn own vs (method_argument sight e)
  method_own (tree.Variable x) = tt
  method_own e = tt

  value_own : (p : ParameterKind) (e : Expr) → AreOwn (names_in e) → IsArgumentOwn own vs (look_up_expression sight p e)
  value_own FieldID e h = field_own e
  value_own MethodID e h = method_own e
  value_own (ArrayVariable t) e h = tt
  value_own (BufferVariable access) e h = tt
  value_own Mode e h = tt
  value_own IsCopy e h = tt
  value_own p e h = reference_own e h

  argument_own : (p : ParameterKind) (o : Operand) → AreOwn (operand_names o) → IsArgumentOwn own vs (look_up sight (p, o))
  argument_own p (NumberOperand (Done (Int z))) h = tt
  argument_own p (NumberOperand t) h = tt
  argument_own p (PassedName x) h = name_own x (sight.reference x) h.0
  argument_own p (Given (tree.Text bytes)) h = tt
  argument_own p (Given (tree.AddressOf x)) h = tt
  argument_own p (Given (tree.Value e)) h = value_own p e h

  front_own : (names more : List Identifier) → AreOwn (names ++ more) → AreOwn names
  front_own [] more h = tt
  front_own (x ∷ names) more h = (h.0, front_own names more h.1)

  back_own : (names more : List Identifier) → AreOwn (names ++ more) → AreOwn more
  back_own [] more h = h
  back_own (x ∷ names) more h = back_own names more h.1

  arguments_own : (parameters : List ParameterKind) (operands : List Operand) → AreOwn (flat_map operand_names operands) → AllByRecursion (IsArgumentOwn own vs) (map (look_up sight) (zip parameters operands))
  arguments_own [] operands h = tt
  arguments_own (p ∷ parameters) [] h = tt
  arguments_own (p ∷ parameters) (o ∷ operands) h =
      (argument_own p o (front_own (operand_names o) (flat_map operand_names operands) h), arguments_own parameters operands (back_own (operand_names o) (flat_map operand_names operands) h))

-- those of a call
given_own : (own : Owners) (vs : Variables) (sight : Sight) (task : Task) (line : ℕ) (target : Target) (f : JniFunction) (args : List Actual) → effect_of sight task ≡ Calls line target f args → AllByRecursion (λ x. IsOwn own x (lookup x vs)) (task_names task) → AllByRecursion (IsArgumentOwn own vs) args
given_own own vs sight task line target f args is h =
    let invoke = called sight task line target f args is in
    subst (AllByRecursion (IsArgumentOwn own vs)) (sym invoke.given)
    (arguments_own own vs sight (parameters_for f (length invoke.operands)) invoke.operands (subst (λ (t : Task). AllByRecursion (λ x. IsOwn own x (lookup x vs)) (task_names t)) invoke.is h))

-- ---- operands

some_static : (r : Reference) (n : ℕ) → r ≡ Some n → as_static r ≡ Live n
some_static r n e = ap as_static e

static_some : (r : Reference) (n : ℕ) → as_static r ≡ Live n → r ≡ Some n
static_some None n e = absurd (cc)
static_some (Some m) n e = cc

module _ (p : Lowered) (classes : Classes) (space : Space) (copies : List (Option OwnedNumbers)) (owner : ℕ) (call : Activation) (code : Listing) (own : Owners) (shared : Shared) (s : Thread) (task : Task) (rest : List Task) (r : Ready p classes space copies owner call code (visible_to own shared s) s.frames task rest) where
  pub owner_of_one : {q : ParameterKind} {o : InMemory} {a : Actual} → IsOperand r.known (visible_to own shared s) q o a → IsArgumentOwn own s.variables a → HasOwner r.meant.references r.meant.owners o
  owner_of_one (gives.reference kind (gives.local {i = i} {x = x} takes at)) owned = λ n found.
      let shown = r.shows.each x (record { ty = Ref; index = i }) at in
      let local = local_by_kind (lookup x s.variables) shown.kind in
      let object : shown.reference ≡ Some n = let both : Some shown.reference ≡ Some (Some n) = sym shown.there ∙ found in cc in
      let seen : (visible_to own shared s).sight.reference x ≡ Live n = shown.is ∙ some_static shown.reference n object in
      let held : held_reference (lookup x s.variables) (lookup x shared.statics) ≡ as_static local.1 = ap (λ (o : Option Variable). held_reference o (lookup x shared.statics)) local.2 in
      let same : local.1 ≡ Some n = static_some local.1 n (sym held ∙ seen) in
      let variable : lookup x s.variables ≡ Some (LocalRef local.0 (Some n)) = local.2 ∙ ap (λ (q : Reference). Some (LocalRef local.0 q)) same in
      let is_own : IsOwn own x (lookup x s.variables) = subst (IsArgumentOwn own s.variables) (ap (ReferenceActual x) seen) owned in
      let level : own x ≡ Some local.0 = subst (IsOwn own x) variable is_own in
      (local.0, shown.owner n local.0 object level)
  owner_of_one (gives.reference kind (gives.null takes)) owned = tt
  owner_of_one h owned = tt

  pub owners_there : {ps : List ParameterKind} {operands : List InMemory} {args : List Actual} → AllTogether (IsOperand r.known (visible_to own shared s)) ps operands args → AllByRecursion (IsArgumentOwn own s.variables) args
      → AllByRecursion (HasOwner r.meant.references r.meant.owners) operands
  owners_there gives.none owned = tt
  owners_there (gives.more h rest) owned = (owner_of_one h owned.0, owners_there rest owned.1)

  -- each operand of the call has an owner
  pub operands_owned : (line : ℕ) (target : Target) (f : JniFunction) (args : List Actual) {ps : List ParameterKind} {operands : List InMemory} → effect_of (sight_of shared s) task ≡ Calls line target f args → AllByRecursion (λ x. IsOwn own x (lookup x s.variables)) (task_names task)
      → AllTogether (IsOperand r.known (visible_to own shared s)) ps operands args → AllByRecursion (HasOwner r.meant.references r.meant.owners) operands
  operands_owned line target f args is owned h = owners_there h (given_own own s.variables (sight_of shared s) task line target f args is owned)

  -- ---- the local reference that DeleteLocalRef is given

  reference_is : (x : Identifier) (q : Reference) → reference_in_actual (Some (ReferenceActual x (as_static q))) ≡ q
  reference_is x None = refl
  reference_is x (Some n) = refl

  abbrev keys : List (Option ℕ)
  keys = call.slots.references.items

  -- a name of a local reference, its slot and its key
  pub record IsNamedKey (o : InMemory) (a : Actual) : Type 0 where
    pub slot : ℕ
    pub is : o ≡ operand.Local slot
    pub name : Identifier
    pub variable : variable_given (a ∷ []) 0 ≡ name
    pub at : lookup name r.known ≡ Some (record { ty = Ref; index = slot })
    pub owned : HasOwner r.meant.references r.meant.owners (operand.Local slot)
    pub key : IsKeyGiven space call.locals (held_in (slice_get keys slot)) (reference_in_actual (Some a)) (level_of (lookup name s.variables))

  named_key : {o : InMemory} {a : Actual} → IsOperand r.known (visible_to own shared s) LocalVariable o a → IsArgumentOwn own s.variables a → IsNamedKey o a
  named_key {a = a} (gives.reference kind (gives.local {i = i} {x = x} takes at)) owned =
      let shown = r.shows.each x (record { ty = Ref; index = i }) at in
      let local = local_by_kind (lookup x s.variables) shown.kind in
      let held : held_reference (lookup x s.variables) (lookup x shared.statics) ≡ as_static local.1 = ap (λ (o : Option Variable). held_reference o (lookup x shared.statics)) local.2 in
      let given : reference_in_actual (Some a) ≡ shown.reference = ap (λ (b : StaticReference). reference_in_actual (Some (ReferenceActual x b))) shown.is ∙ reference_is x shown.reference in
      let level : level_of (lookup x s.variables) ≡ local.0 = ap level_of local.2 in
      let own_level : (n : ℕ) → shown.reference ≡ Some n → slice_get r.meant.owners i ≡ Some (Some local.0) = λ n object.
      let seen : (visible_to own shared s).sight.reference x ≡ Live n = shown.is ∙ some_static shown.reference n object in
      let same : local.1 ≡ Some n = static_some local.1 n (sym held ∙ seen) in
      let variable : lookup x s.variables ≡ Some (LocalRef local.0 (Some n)) = local.2 ∙ ap (λ (q : Reference). Some (LocalRef local.0 q)) same in
      let is_own : IsOwn own x (lookup x s.variables) = subst (IsArgumentOwn own s.variables) (ap (ReferenceActual x) seen) owned in
      shown.owner n local.0 object (subst (IsOwn own x) variable is_own) in
      record {
        slot = i;
        is = refl;
        name = x;
        variable = refl;
        at = at;
        owned = owner_of_one {q = LocalVariable} (gives.reference kind (gives.local takes at)) owned;
        key = subst (λ (q : Reference). IsKeyGiven space call.locals (held_in (slice_get keys i)) q (level_of (lookup x s.variables))) (sym given)
            (subst (IsKeyGiven space call.locals (held_in (slice_get keys i)) shown.reference) (sym level) (own_key_there space call.locals keys r.meant.references r.meant.owners i shown.reference local.0 r.holds.keys shown.there own_level));
      }
  named_key (gives.reference kind (gives.null takes)) owned = absurd takes
  named_key (gives.reference kind (gives.static takes at)) owned = absurd takes

  -- of a call of DeleteLocalRef
  pub record DeletesKey (operands : List InMemory) (args : List Actual) : Type 0 where
    pub slot : ℕ
    pub is : operand_of operands 0 ≡ operand.Local slot
    pub name : Identifier
    pub variable : variable_given args 0 ≡ name
    pub at : lookup name r.known ≡ Some (record { ty = Ref; index = slot })
    pub owned : HasOwner r.meant.references r.meant.owners (operand.Local slot)
    pub key : IsKeyGiven space call.locals (held_in (slice_get keys slot)) (reference_given args 0) (level_of (lookup name s.variables))

  pub deletes_key : (line : ℕ) (target : Target) (f : JniFunction) (args : List Actual) {operands : List InMemory} → effect_of (sight_of shared s) task ≡ Calls line target f args → AllByRecursion (λ x. IsOwn own x (lookup x s.variables)) (task_names task)
      → AllTogether (IsOperand r.known (visible_to own shared s)) (LocalVariable ∷ []) operands args → DeletesKey operands args
  deletes_key line target f args is owned h = by_operand h (given_own own s.variables (sight_of shared s) task line target f args is owned)
    where
      by_operand : {operands : List InMemory} {args : List Actual} → AllTogether (IsOperand r.known (visible_to own shared s)) (LocalVariable ∷ []) operands args → AllByRecursion (IsArgumentOwn own s.variables) args → DeletesKey operands args
      by_operand (gives.more h gives.none) owned = let one = named_key h owned.0 in record { slot = one.slot; is = one.is; name = one.name; variable = one.variable; at = one.at; owned = one.owned; key = one.key }
