-- At its point a thread names a weak reference in a call of the functions alone that take one.
use Rattle.std.proofs.Common.{◌≡◌, ◌≢◌, inl, inr, ℕ, Bool, true, false, List, length, Option, Some, None, refl, sym, ◌∙◌, arith}
use Rattle.std.specs.List.{list_any, AllByRecursion}
use Rattle.std.proofs.lemmas.Bool.{or_parts}
use Rattle.base.specs.Bytes.{Identifier, lookup}
use Rattle.jni.specs.declared.function.JniFunction.{JniFunction}
use Rattle.jni.specs.JniFunction.{prototype}
use Rattle.jni.specs.declared.kinds.ParameterKind.{ParameterKind}
use Rattle.jni.specs.declared.kinds.ParameterKind.TheVariants.{AnyReference, WeakVariable}
use Rattle.type_rules.specs.declared.ty.ExprType.{ExprType}
use Rattle.type_rules.specs.ExprTypes.{type_in}
use Rattle.type_rules.specs.declared.ty.ExprType.TheVariants as types
use Rattle.semantics.specs.Task.{Task, Invoke, Target, Declared, Assigned, Tested, Dropped, Operand}
use Rattle.semantics.specs.Thread.{Frame}
use Rattle.semantics.specs.Variable.{Variable, LocalRef, FieldHandle, Elements, LocalArray, Weakly, Variables, Statics, MethodHandle, Scalar}
use Rattle.semantics.specs.WeakArguments.{takes_weak, NamesNoWeak, WeakAreTaken}
use Rattle.semantics_safety.specs.Owners.{Owners}
use Rattle.semantics_safety.specs.Points as rule
use Rattle.semantics_safety.specs.Points.{Point, IsLive, IsUsable, ReferenceFits, PassedFits, OperandFits, OperandsFit}
use Rattle.semantics_safety.specs.Stands.{Stands}
use Rattle.semantics_safety.specs.Wanted.{CallFits, Runs}
use Rattle.semantics_safety.specs.WeakNames.{WeakNames}
use Rattle.semantics_safety.proofs.Parameters.{none_among}
use Rattle.semantics_safety.proofs.SetLaws.{none_some}

-- a parameter that may be given a weak reference
abbrev may_be_weak : ParameterKind → Bool
may_be_weak AnyReference = true
may_be_weak WeakVariable = true
may_be_weak parameter = false

-- the functions that take a weak reference have such a parameter, and no others
weak_parameters : (f : JniFunction) → list_any may_be_weak (prototype f).parameters ≡ takes_weak f
weak_parameters f = grind arith

no_kind : true ≡ false → ⊥
no_kind e = cc

module _ (ss : Statics) (vs : Variables) (frames : List Frame) (p : Point) {weak : WeakNames} {own : Owners} (stands : Stands weak own ss vs frames p) where
  -- a variable's name, or that of a static that holds no weak reference
  abbrev IsStrong : Identifier → Type 0
  IsStrong x = lookup x vs ≡ None → (n : ℕ) → lookup x ss ≢ Some (Weakly n)

  variable_strong : (x : Identifier) (v : Variable) → lookup x vs ≡ Some v → IsStrong x
  variable_strong x v is none n e = none_some (lookup x vs) v none is

  static_strong : (x : Identifier) → type_in p.names x ≡ Some types.Global → IsStrong x
  static_strong x is none n e = let c : true ≡ false = sym (stands.only x n e) ∙ stands.kinds x types.Global is in no_kind c

  live_strong : (x : Identifier) → IsLive p x → IsStrong x
  live_strong x (level, known) = let shown = stands.shows x _ known in variable_strong x (LocalRef level shown.0) shown.1

  usable_strong : (x : Identifier) → IsUsable p x → IsStrong x
  usable_strong x (access, a, known) = let shown = stands.shows x _ known in variable_strong x (Elements shown.0 shown.1) shown.2

  field_strong : (x : Identifier) → type_in p.names x ≡ Some types.FieldId → IsStrong x
  field_strong x is = let there = stands.types x types.FieldId is in variable_strong x (FieldHandle there.0) there.1

  array_strong : (t : _) (x : Identifier) → (size : ℕ) × (type_in p.names x ≡ Some (types.Array t size)) → IsStrong x
  array_strong t x (size, is) = let there = stands.types x (types.Array t size) is in variable_strong x (LocalArray t there.0) there.1

  reference_strong : (x : Identifier) (o : Option ExprType) → type_in p.names x ≡ o → ReferenceFits p x o → IsStrong x
  reference_strong x (Some types.Ref) e h = live_strong x h
  reference_strong x (Some types.Global) e h = static_strong x e
  reference_strong x o e h = absurd h

  method_strong : (x : Identifier) → type_in p.names x ≡ Some types.MethodId → IsStrong x
  method_strong x is = let there = stands.types x types.MethodId is in variable_strong x (MethodHandle there.0) there.1

  number_strong : (x : Identifier) → type_in p.names x ≡ Some types.Jint → IsStrong x
  number_strong x is = let there = stands.types x types.Jint is in variable_strong x (Scalar there.0) there.1

  passed_strong : (x : Identifier) (o : Option ExprType) → type_in p.names x ≡ o → PassedFits p x o → IsStrong x
  passed_strong x (Some types.Jint) e h = number_strong x e
  passed_strong x (Some types.Ref) e h = live_strong x h
  passed_strong x (Some types.Global) e h = static_strong x e
  passed_strong x o e h = absurd h

  -- ---- arguments

  operand_strong : {parameter : ParameterKind} {o : Operand} → may_be_weak parameter ≡ false → OperandFits p parameter o → NamesNoWeak vs ss o
  operand_strong strong (rule.passed_name {x = x} h) = passed_strong x (type_in p.names x) refl h
  operand_strong strong (rule.reference takes (rule.named {x = x} h)) = reference_strong x (type_in p.names x) refl h
  operand_strong strong (rule.any_reference h) = absurd (no_kind strong)
  operand_strong strong (rule.local {x = x} h) = live_strong x h
  operand_strong strong (rule.global {x = x} e) = static_strong x e
  operand_strong strong (rule.weak e) = absurd (no_kind strong)
  operand_strong strong (rule.array {t = t} {size = size} {x = x} e) = array_strong t x (size, e)
  operand_strong strong (rule.buffer {x = x} h) = usable_strong x h
  operand_strong strong (rule.field (rule.named {x = x} e)) = field_strong x e
  operand_strong strong (rule.method (rule.named {x = x} e)) = method_strong x e
  operand_strong strong h = tt

  operands_strong : {parameters : List ParameterKind} {operands : List Operand} → list_any may_be_weak parameters ≡ false
      → OperandsFit p parameters operands → AllByRecursion (NamesNoWeak vs ss) operands
  operands_strong strong rule.done = tt
  operands_strong strong (rule.next {kind = kind} {kinds = kinds} h rest) =
      let both = or_parts (may_be_weak kind) (list_any may_be_weak kinds) strong in
      (operand_strong both.0 h, operands_strong both.1 rest)

  -- ---- a task

  call_taken : (line : ℕ) (target : Target) (f : JniFunction) (operands : List Operand) → CallFits p f operands
      → WeakAreTaken vs ss (Invoke line target f operands)
  call_taken line target f operands fits = by_test (takes_weak f) refl
    where
      by_test : (b : Bool) → takes_weak f ≡ b → WeakAreTaken vs ss (Invoke line target f operands)
      by_test true is = inl is
      by_test false is = inr (operands_strong (none_among may_be_weak refl f (length operands) (weak_parameters f ∙ is)) fits.types)

  invoke_taken : (line : ℕ) (target : Target) (f : JniFunction) (operands : List Operand) (k : Point → Type 0) → Runs (Invoke line target f operands) k p
      → WeakAreTaken vs ss (Invoke line target f operands)
  invoke_taken line (Tested a b) f operands k r = call_taken line (Tested a b) f operands r.0
  invoke_taken line (Declared kind x) f operands k r = call_taken line (Declared kind x) f operands r.0
  invoke_taken line (Assigned x) f operands k r = call_taken line (Assigned x) f operands r.0
  invoke_taken line Dropped f operands k r = call_taken line Dropped f operands r.0

  -- a weak reference is named by a call of these functions alone
  pub weak_clause : (t : Task) (k : Point → Type 0) → Runs t k p → WeakAreTaken vs ss t
  weak_clause (Invoke line target f operands) k r = invoke_taken line target f operands k r
  weak_clause t k r = tt
