-- A variable that a step sets as a whole is no buffer that holds something.
use Rattle.std.proofs.Common.{◌≡◌, inl, inr, ℕ, true, false, List, map, length, Option, Some, None, refl, sym, ◌∙◌, subst}
use Rattle.std.specs.Prelude.{drop}
use Rattle.std.proofs.lemmas.Slice.Eq.{bytes_eq-Decides}
use Rattle.base.specs.Bytes.{Identifier, lookup}
use Rattle.jni.specs.declared.function.JniFunction.{JniFunction}
use Rattle.jni.specs.declared.function.JniFunction.TheVariants.{GetBuffer, ReleaseBuffer, DeleteLocalRef, PopLocalFrame}
use Rattle.jni.specs.JniFunction.{parameters_for, prototype}
use Rattle.jni.specs.declared.kinds.ParameterKind.TheVariants.{IsCopy}
use Rattle.jni.specs.declared.kinds.ResultKind.{ResultKind}
use Rattle.jni.specs.declared.kinds.ResultKind.TheVariants.{NewLocal, NewGlobal, NewWeak, GivesFlag, GivesInt, GivesField, GivesMethod, GivesNothing, GivesBuffer}
use Rattle.region_rules.specs.RegionStates.{RegionState, Free, BufferIn, state_of, get_of, after_call, after_pop}
use Rattle.type_rules.specs.declared.ty.ExprType.{ExprType}
use Rattle.type_rules.specs.ExprTypes.{type_in}
use Rattle.type_rules.specs.declared.ty.ExprType.TheVariants as types
use Rattle.type_rules.specs.TypeGroups.{IsNumberType}
use Rattle.semantics.specs.Arguments.{Actual, look_up, actuals, address_in_actual}
use Rattle.semantics.specs.Effect.{Effect, Sets, SetsNull, MakesArray, Calls}
use Rattle.semantics.specs.Sight.{Sight}
use Rattle.semantics.specs.declared.variable_kind.VariableKind.{VariableKind}
use Rattle.semantics.specs.declared.variable_kind.VariableKind.TheVariants as kinds
use Rattle.semantics.specs.Task.{Task, Target, Declared, Assigned, Tested, Dropped, Operand, Invoke}
use Rattle.semantics.specs.Thread.{Frame}
use Rattle.semantics.specs.declared.value.Value.{Value}
use Rattle.semantics.specs.Variable.{Variable, Scalar, LocalRef, FieldHandle, MethodHandle, Elements, StaticReference, Variables, Statics}
use Rattle.semantics_safety.specs.Owners.{Owners, is_target}
use Rattle.semantics_safety.specs.Follows.{Follows}
use Rattle.semantics_safety.specs.Points as rule
use Rattle.semantics_safety.specs.Points.{Point, value_type, OperandFits, OperandsFit}
use Rattle.semantics_safety.specs.Stands.{VariableFits, Stands}
use Rattle.semantics_safety.specs.StepSafe.{HoldsNoBuffer, IsTold, SetsWhole}
use Rattle.semantics_safety.specs.Wanted.{IsNew, at, DeclaresNull, AssignsNull, SetsNumber, SetsNullThere, DeclaresResult, AssignsResult, ResultGoes, CallFits, Runs, GoesOn, call_seen, operand_argument}
use Rattle.semantics_safety.specs.WeakNames.{WeakNames}
use Rattle.semantics_safety.proofs.PoppedLaws.{stands_popped}
use Rattle.semantics_safety.proofs.QuietLaws.{free_call}
use Rattle.semantics_safety.proofs.SetLaws.{none_some}

scalar_holds : (o : Option Variable) (v : Value) → o ≡ Some (Scalar v) → HoldsNoBuffer o
scalar_holds o v e u b h = absurd (let c : Some (Scalar v) ≡ Some (Elements u b) = sym e ∙ h in cc)

reference_holds : (o : Option Variable) (level : ℕ) (r : _) → o ≡ Some (LocalRef level r) → HoldsNoBuffer o
reference_holds o level r e u b h = absurd (let c : Some (LocalRef level r) ≡ Some (Elements u b) = sym e ∙ h in cc)

field_holds : (o : Option Variable) (f : _) → o ≡ Some (FieldHandle f) → HoldsNoBuffer o
field_holds o f e u b h = absurd (let c : Some (FieldHandle f) ≡ Some (Elements u b) = sym e ∙ h in cc)

method_holds : (o : Option Variable) (f : _) → o ≡ Some (MethodHandle f) → HoldsNoBuffer o
method_holds o f e u b h = absurd (let c : Some (MethodHandle f) ≡ Some (Elements u b) = sym e ∙ h in cc)

none_holds : (o : Option Variable) → o ≡ None → HoldsNoBuffer o
none_holds o e u b h = absurd (none_some o (Elements u b) e h)

number_holds : (s : ExprType) (o : Option Variable) (g : Option StaticReference) → IsNumberType s → VariableFits s o g → HoldsNoBuffer o
number_holds types.Word o g n (v, e, f) = scalar_holds o v e
number_holds types.Jint o g n (v, e, f) = scalar_holds o v e
number_holds types.Flag o g n (v, e, f) = scalar_holds o v e
number_holds s o g n h = absurd n

module _ (ss : Statics) (vs : Variables) (frames : List Frame) (p : Point) {weak : WeakNames} {own : Owners} (stands : Stands weak own ss vs frames p) where
  abbrev Nothing : Identifier → Type 0
  Nothing x = HoldsNoBuffer (lookup x vs)

  new_holds : (x : Identifier) → IsNew p x → Nothing x
  new_holds x new u b e = elim (stands.held x u b e) [
    | inl none ↦ none
    | inr (access, a, inl h) ↦ absurd (none_some (state_of p.regions x) _ new.unknown h)
    | inr (access, a, inr h) ↦ absurd (none_some (state_of p.regions x) _ new.unknown h)
  ]

  free_holds : (x : Identifier) → state_of p.regions x ≡ Some (BufferIn Free) → Nothing x
  free_holds x e u b h =
      let shown = stands.shows x (BufferIn Free) e in
      let both : Some (Elements shown.0 shown.1) ≡ Some (Elements u b) = sym shown.2 ∙ h in
      let same : b ≡ shown.1 = cc in
      same ∙ shown.3

  typed_holds : (x : Identifier) (s : ExprType) → IsNumberType s → type_in p.names x ≡ Some s → Nothing x
  typed_holds x s n e = number_holds s (lookup x vs) (lookup x ss) n (stands.types x s e)

  reference_there : (x : Identifier) → type_in p.names x ≡ Some types.Ref → Nothing x
  reference_there x e = let h = stands.types x types.Ref e in reference_holds (lookup x vs) h.0 h.1 h.2

  static_there : (x : Identifier) → type_in p.names x ≡ Some types.Global → Nothing x
  static_there x e = none_holds (lookup x vs) (stands.types x types.Global e).0

  weak_there : (x : Identifier) → type_in p.names x ≡ Some types.Weak → Nothing x
  weak_there x e = none_holds (lookup x vs) (stands.types x types.Weak e).0

  field_there : (x : Identifier) → type_in p.names x ≡ Some types.FieldId → Nothing x
  field_there x e = let h = stands.types x types.FieldId e in field_holds (lookup x vs) h.0 h.1

  method_there : (x : Identifier) → type_in p.names x ≡ Some types.MethodId → Nothing x
  method_there x e = let h = stands.types x types.MethodId e in method_holds (lookup x vs) h.0 h.1

  -- ---- NULL

  null_declared : (kind : VariableKind) (x : Identifier) (k : Point → Type 0) → DeclaresNull p kind x k → Nothing x
  null_declared kinds.Number x k h = absurd h
  null_declared kinds.Reference x k h = new_holds x h.0
  null_declared kinds.Field x k h = new_holds x h.0
  null_declared kinds.Method x k h = new_holds x h.0
  null_declared (kinds.Buffer t) x k h = new_holds x h.0

  null_assigned : (o : Option ExprType) (x : Identifier) (k : Point → Type 0) → type_in p.names x ≡ o → AssignsNull p o x k → Nothing x
  null_assigned (Some types.Ref) x k e h = reference_there x e
  null_assigned (Some types.Global) x k e h = static_there x e
  null_assigned (Some types.Weak) x k e h = weak_there x e
  null_assigned (Some types.FieldId) x k e h = field_there x e
  null_assigned (Some types.MethodId) x k e h = method_there x e
  null_assigned o x k e h = absurd h

  null_holds : (target : Target) (k : Point → Type 0) (x : Identifier) → is_target target x ≡ true → SetsNullThere p target k → Nothing x
  null_holds (Declared kind y) k x is h = subst Nothing (sym ((bytes_eq-Decides x y).0 is)) (null_declared kind y k h)
  null_holds (Assigned y) k x is h = subst Nothing (sym ((bytes_eq-Decides x y).0 is)) (null_assigned (type_in p.names y) y k refl h)
  null_holds (Tested a b) k x is h = absurd h
  null_holds Dropped k x is h = absurd h

  -- ---- results

  result_declared : (kind : VariableKind) (x : Identifier) (result : ResultKind) (get : _) (k : Point → Type 0) → DeclaresResult p kind x result get k → Nothing x
  result_declared kinds.Number x GivesInt get k h = new_holds x h.0
  result_declared kinds.Number x GivesFlag get k h = new_holds x h.0
  result_declared kinds.Reference x NewLocal get k h = new_holds x h.0
  result_declared kinds.Field x GivesField get k h = new_holds x h.0
  result_declared kinds.Method x GivesMethod get k h = new_holds x h.0
  result_declared (kinds.Buffer t) x (GivesBuffer access) get k h = new_holds x h.0
  result_declared kind x result get k h = absurd h

  result_assigned : (o : Option ExprType) (x : Identifier) (result : ResultKind) (get : _) (k : Point → Type 0) → type_in p.names x ≡ o → AssignsResult p o x result get k → Nothing x
  result_assigned (Some types.Jint) x GivesInt get k e h = typed_holds x types.Jint tt e
  result_assigned (Some types.Flag) x GivesFlag get k e h = typed_holds x types.Flag tt e
  result_assigned (Some types.Ref) x NewLocal get k e h = reference_there x e
  result_assigned (Some types.Global) x NewGlobal get k e h = static_there x e
  result_assigned (Some types.Weak) x NewWeak get k e h = weak_there x e
  result_assigned (Some types.FieldId) x GivesField get k e h = field_there x e
  result_assigned (Some types.MethodId) x GivesMethod get k e h = method_there x e
  result_assigned (Some (types.Buffer t w)) x (GivesBuffer access) get k e h = free_holds x h.0
  result_assigned o x result get k e h = absurd h

  pub result_holds : (target : Target) (result : ResultKind) (get : _) (k : Point → Type 0) (x : Identifier) → is_target target x ≡ true → ResultGoes target result get k p → Nothing x
  result_holds (Declared kind y) result get k x is h = subst Nothing (sym ((bytes_eq-Decides x y).0 is)) (result_declared kind y result get k h)
  result_holds (Assigned y) result get k x is h = subst Nothing (sym ((bytes_eq-Decides x y).0 is)) (result_assigned (type_in p.names y) y result get k refl h)
  result_holds (Tested a b) result get k x is h = absurd h
  result_holds Dropped result get k x is h = absurd (let no : false ≡ true = is in cc)

-- ---- calls

no_result : (q : Point) (target : Target) (get : _) (k : Point → Type 0) (x : Identifier) → is_target target x ≡ true → ResultGoes target GivesNothing get k q → ⊥
no_result q (Declared kinds.Number y) get k x is h = h
no_result q (Declared kinds.Reference y) get k x is h = h
no_result q (Declared kinds.Field y) get k x is h = h
no_result q (Declared kinds.Method y) get k x is h = h
no_result q (Declared (kinds.Buffer t) y) get k x is h = h
no_result q (Assigned y) get k x is h = on_type (type_in q.names y) h
  where
    on_type : (o : Option ExprType) → AssignsResult q o y GivesNothing get k → ⊥
    on_type None h = h
    on_type (Some types.Jint) h = h
    on_type (Some types.Flag) h = h
    on_type (Some types.Ref) h = h
    on_type (Some types.Global) h = h
    on_type (Some types.Weak) h = h
    on_type (Some types.FieldId) h = h
    on_type (Some types.MethodId) h = h
    on_type (Some (types.Buffer t w)) h = h
    on_type (Some s) h = h
no_result q (Tested a b) get k x is h = h
no_result q Dropped get k x is h = let no : false ≡ true = is in cc

module _ (ss : Statics) (vs : Variables) (frames : List Frame) (p : Point) {weak : WeakNames} {own : Owners} (stands : Stands weak own ss vs frames p) (k : Point → Type 0) where
  abbrev Goes : Target → JniFunction → List Operand → Type 0
  Goes target f operands = ResultGoes target (prototype f).result (get_of (call_seen f operands)) k (at p (after_call p.regions (call_seen f operands)))

  given_holds : (target : Target) (f : JniFunction) (operands : List Operand) (x : Identifier) → is_target target x ≡ true → Goes target f operands → HoldsNoBuffer (lookup x vs)
  given_holds target PopLocalFrame operands x is h = result_holds ss vs (drop 1 frames) (at p (after_pop p.regions)) (stands_popped ss vs frames p stands) target NewLocal (get_of (call_seen PopLocalFrame operands)) k x is h
  given_holds target (ReleaseBuffer access) operands x is h = absurd (no_result _ target _ k x is h)
  given_holds target DeleteLocalRef operands x is h = absurd (no_result _ target _ k x is h)
  given_holds target f operands x is h =
      result_holds ss vs frames p stands target (prototype f).result (get_of (call_seen f operands)) k x is
      (subst (λ (regions : RegionState). ResultGoes target (prototype f).result (get_of (call_seen f operands)) k (at p regions)) (free_call f p.regions (map operand_argument operands) tt) h)

  target_holds : (line : ℕ) (target : Target) (f : JniFunction) (operands : List Operand) (x : Identifier) → is_target target x ≡ true → Runs (Invoke line target f operands) k p → HoldsNoBuffer (lookup x vs)
  target_holds line (Declared kind y) f operands x is r = given_holds (Declared kind y) f operands x is r.2
  target_holds line (Assigned y) f operands x is r = given_holds (Assigned y) f operands x is r.2
  target_holds line (Tested a b) f operands x is r = absurd (let no : false ≡ true = is in cc)
  target_holds line Dropped f operands x is r = absurd (let no : false ≡ true = is in cc)

  fits_call : (line : ℕ) (target : Target) (f : JniFunction) (operands : List Operand) → Runs (Invoke line target f operands) k p → CallFits p f operands
  fits_call line (Tested a b) f operands r = r.0
  fits_call line (Declared kind x) f operands r = r.0
  fits_call line (Assigned x) f operands r = r.0
  fits_call line Dropped f operands r = r.0

  -- the variable of `isCopy` holds a flag
  told_operand : (sight : Sight) {c : Operand} (x : Identifier) → OperandFits p IsCopy c → address_in_actual (Some (look_up sight (IsCopy, c))) ≡ Some x → HoldsNoBuffer (lookup x vs)
  told_operand sight x rule.not_told e = absurd (cc (e))
  told_operand sight x (rule.reference takes fits) e = elim takes [ ]
  told_operand sight x (rule.told {x = y} flag) e = let same : y ≡ x = cc in subst (λ (z : Identifier). HoldsNoBuffer (lookup z vs)) same (typed_holds ss vs frames p stands y types.Flag tt flag)

  told_holds : (sight : Sight) (f : JniFunction) (operands : List Operand) (x : Identifier) → OperandsFit p (parameters_for f (length operands)) operands → IsTold f (actuals sight f operands) x → HoldsNoBuffer (lookup x vs)
  told_holds sight (GetBuffer access) operands x (rule.next object (rule.next fit rule.done)) told = told_operand sight x fit told
  told_holds sight f operands x fit told = absurd told

-- ---- effects

module _ (sight : Sight) (ss : Statics) (vs : Variables) (frames : List Frame) (p : Point) {weak : WeakNames} {own : Owners} (stands : Stands weak own ss vs frames p) (rest : List Task) where
  number_set : (x : Identifier) (v : Value) → SetsNumber x (value_type v) (GoesOn rest) p → IsNumberType (value_type v) → HoldsNoBuffer (lookup x vs)
  number_set x v (inl h) n = typed_holds ss vs frames p stands x (value_type v) n h.0
  number_set x v (inr h) n = new_holds ss vs frames p stands x h.0

  pub whole_clause : (x : Identifier) (e : Effect) → SetsWhole x e → Follows weak own sight ss vs frames p rest e → HoldsNoBuffer (lookup x vs)
  whole_clause x (Sets y v) is h = subst (λ (z : Identifier). HoldsNoBuffer (lookup z vs)) is (number_set y v h.0 h.1)
  whole_clause x (SetsNull target) is h = null_holds ss vs frames p stands target (GoesOn rest) x is h
  whole_clause x (MakesArray t y size) is h = subst (λ (z : Identifier). HoldsNoBuffer (lookup z vs)) is (new_holds ss vs frames p stands y h.0)
  whole_clause x (Calls line target f args) (inl is) h = target_holds ss vs frames p stands (GoesOn rest) line target f h.0 x is h.3
  whole_clause x (Calls line target f args) (inr told) h =
      told_holds ss vs frames p stands (GoesOn rest) sight f h.0 x ((fits_call ss vs frames p stands (GoesOn rest) line target f h.0 h.3).types) (subst (λ (l : List Actual). IsTold f l x) h.1 told)
  whole_clause x e is h = absurd is
