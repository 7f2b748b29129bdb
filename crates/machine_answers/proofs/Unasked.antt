-- Arguments of which nothing is asked pass.
use Rattle.std.proofs.Common.{◌≡◌, ℕ, Bool, true, false, not, ◌&&◌, ◌||◌, List, [], ◌∷◌, ◌++◌, Option, Some, None, refl, ap, ◌∙◌, arith}
use Rattle.std.specs.List.{list_all, list_any}
use Rattle.std.proofs.lemmas.Bool.{and_parts, not-false, or_parts}
use Rattle.base.specs.declared.element.ElementType.{ElementType}
use Rattle.syntax.specs.Tree.{SourceUnit}
use Rattle.class_rules.specs.Class.{Classes}
use Rattle.code.specs.Call.{asks, is_static, takes_any}
use Rattle.code.specs.declared.instr.Operand.{Operand}
use Rattle.code.specs.declared.instr.Operand.TheVariants as operand
use Rattle.heap.specs.Heap.{Space}
use Rattle.jni.specs.declared.function.JniFunction.{JniFunction}
use Rattle.jni.specs.JniFunction.{prototype}
use Rattle.jni.specs.declared.kinds.ParameterKind.{ParameterKind}
use Rattle.jni.specs.declared.kinds.ParameterKind.TheVariants.{Nullable, LocalVariable}
use Rattle.semantics.specs.Checks.{first_trap}
use Rattle.semantics.specs.declared.trap.Trap.{Trap}
use Rattle.machine_answers.specs.Sights.{gives_deleted, gives_null}
use Rattle.machine_answers.specs.Checked.{arguments_asked, fit_together, may_be_null, misfits, some_misfit, some_missing}
use Rattle.machine_scenes.specs.declared.handle.Handle.{Handle}
use Rattle.machine_scenes.specs.Given.{operand_at}
use Rattle.machine_scenes.specs.Statics.{References}

module _ (references : References) where
  -- what is no static isn't deleted
  undeleted : (o : Operand) → is_static o ≡ false → gives_deleted references o ≡ false
  undeleted (operand.Static i) h = absurd (cc)
  undeleted o h = refl

  none_deleted : (operands : List Operand) → list_any is_static operands ≡ false → list_any (gives_deleted references) operands ≡ false
  none_deleted [] h = refl
  none_deleted (o ∷ operands) h =
      let h' = or_parts (is_static o) (list_any is_static operands) h in
      ap (λ b. b || list_any (gives_deleted references) operands) (undeleted o h'.0) ∙ none_deleted operands h'.1

  -- a parameter that takes each reference may be NULL, and takes objects of each class
  may_be : (p : ParameterKind) → takes_any p ≡ true → may_be_null p ≡ true
  may_be Nullable h = refl
  may_be LocalVariable h = refl
  may_be p h = absurd (cc)

  none_missing : (fields : List (Option Handle)) (parameters : List ParameterKind) (operands : List Operand) → list_all takes_any parameters ≡ true → some_missing references fields parameters operands ≡ false
  none_missing fields [] operands h = refl
  none_missing fields (p ∷ parameters) [] h = refl
  none_missing fields (p ∷ parameters) (o ∷ operands) h =
      let h' = and_parts (takes_any p) (list_all takes_any parameters) h in
      ap (λ b. (not b && gives_null references fields o) || some_missing references fields parameters operands) (may_be p h'.0) ∙ none_missing fields parameters operands h'.1

  fits : (classes : Classes) (space : Space) (p : ParameterKind) (r : Option ℕ) → takes_any p ≡ true → misfits classes space p r ≡ false
  fits classes space p None h = refl
  fits classes space Nullable (Some a) h = refl
  fits classes space LocalVariable (Some a) h = refl
  fits classes space p (Some a) h = absurd (cc)

  none_unfit : (classes : Classes) (space : Space) (parameters : List ParameterKind) (operands : List Operand) → list_all takes_any parameters ≡ true → some_misfit classes space references parameters operands ≡ false
  none_unfit classes space [] operands h = refl
  none_unfit classes space (p ∷ parameters) [] h = refl
  none_unfit classes space (p ∷ parameters) (o ∷ operands) h =
      let h' = and_parts (takes_any p) (list_all takes_any parameters) h in
      ap (λ b. b || some_misfit classes space references parameters operands) (fits classes space p (operand_at references o) h'.0) ∙ none_unfit classes space parameters operands h'.1

-- a function that asks something of its arguments together asks something of each
together : (unit : SourceUnit) (classes : Classes) (space : Space) (references : References) (fields : List (Option Handle)) (operands : List Operand) (wanted : ElementType) (f : JniFunction) → list_all takes_any (prototype f).parameters ≡ true → fit_together unit classes space references fields operands wanted f ≡ true
together unit classes space references fields operands wanted f h = grind (arith, h)

-- three tests that don't hold
passed : (a b c : Bool) (x y z : Trap) (rest : List (Bool × Trap)) → a ≡ false → b ≡ false → c ≡ false → first_trap ((a, x) ∷ (b, y) ∷ (c, z) ∷ rest) ≡ first_trap rest
passed a b c x y z rest p q r = rw (p, q, r) refl

-- a test that doesn't hold gives no trap, and one that does gives its own
pub not_first : (b : Bool) (x : Trap) (rest : List (Bool × Trap)) → b ≡ false → first_trap ((b, x) ∷ rest) ≡ first_trap rest
not_first true x rest h = absurd (cc)
not_first false x rest h = refl

pub is_first : (b : Bool) (x : Trap) (rest : List (Bool × Trap)) → b ≡ true → first_trap ((b, x) ∷ rest) ≡ Some x
is_first true x rest h = refl
is_first false x rest h = absurd (cc)

pub nothing_asked : (unit : SourceUnit) (classes : Classes) (space : Space) (references : References) (fields : List (Option Handle)) (wanted : ElementType) (f : JniFunction) (operands : List Operand) → asks (prototype f).parameters operands ≡ false
    → (rest : List (Bool × Trap)) → first_trap (arguments_asked unit classes space references fields wanted f operands ++ rest) ≡ first_trap rest
nothing_asked unit classes space references fields wanted f operands h rest =
    let parts = or_parts (not (list_all takes_any (prototype f).parameters)) (list_any is_static operands) h in
    let any = not-false (list_all takes_any (prototype f).parameters) parts.0 in
    passed (list_any (gives_deleted references) operands) (some_missing references fields (prototype f).parameters operands) (some_misfit classes space references (prototype f).parameters operands || not (fit_together unit classes space references fields operands wanted f)) _ _ _ rest
    (none_deleted references operands parts.1)
    (none_missing references fields (prototype f).parameters operands any)
    (ap (λ b. b || not (fit_together unit classes space references fields operands wanted f)) (none_unfit references classes space (prototype f).parameters operands any) ∙ ap not (together unit classes space references fields operands wanted f any))
