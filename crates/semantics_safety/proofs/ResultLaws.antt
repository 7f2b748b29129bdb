-- A thread is at the point after a call's result that is no buffer and no new local reference.
use Rattle.std.proofs.Common.{◌≡◌, ℕ, Bool, true, List, Option, Some, None, refl, sym, ◌∙◌, subst}
use Rattle.std.specs.Prelude.{ℤ}
use Rattle.base.specs.Bytes.{Identifier, lookup}
use Rattle.base.specs.declared.element.ElementType.{ElementType}
use Rattle.syntax.specs.Tree.{SourceUnit}
use Rattle.class_rules.specs.Class.{Classes}
use Rattle.class_rules.specs.Fields.{FieldId}
use Rattle.jni.specs.declared.access.Access.{Access}
use Rattle.jni.specs.declared.kinds.ResultKind.{ResultKind}
use Rattle.jni.specs.declared.kinds.ResultKind.TheVariants.{NewLocal, NewGlobal, NewWeak, GivesFlag, GivesInt, GivesField, GivesMethod, GivesNothing}
use Rattle.type_rules.specs.declared.ty.ExprType.{ExprType}
use Rattle.type_rules.specs.ExprTypes.{type_in}
use Rattle.type_rules.specs.declared.ty.ExprType.TheVariants as types
use Rattle.semantics.specs.Object.{Reference}
use Rattle.semantics.specs.CallEffects.{CallResult, NoResult, NullResult, ScalarResult, ReferenceResult, WeakResult, FieldResult, MethodResult}
use Rattle.semantics.specs.CallStep.{put, put_assigned, static_result}
use Rattle.semantics.specs.Method.{MethodId}
use Rattle.semantics.specs.declared.variable_kind.VariableKind.{VariableKind}
use Rattle.semantics.specs.declared.variable_kind.VariableKind.TheVariants as kinds
use Rattle.semantics.specs.Task.{Task, Target, Declared, Assigned, Tested, Dropped}
use Rattle.semantics.specs.Thread.{Thread, Shared, BuffersInUse}
use Rattle.semantics.specs.ThreadStep.{with_tasks}
use Rattle.semantics.specs.declared.value.Value.{Value}
use Rattle.semantics.specs.declared.value.Value.TheVariants.{Int, Flag}
use Rattle.semantics.specs.Variable.{Variable, Scalar, LocalRef, FieldHandle, MethodHandle, Elements, Buffer, StaticReference, Empty, Weakly}
use Rattle.semantics_safety.specs.Owners.{Owners}
use Rattle.semantics_safety.specs.Points.{Point}
use Rattle.semantics_safety.specs.Stands.{VariableFits, Stands}
use Rattle.region_rules.specs.RegionStates.{with_changed}
use Rattle.semantics_safety.specs.Wanted.{revived, DeclaresResult, AssignsResult, ResultGoes, GoesOn, at, named}
use Rattle.semantics_safety.specs.WeakNames.{WeakNames}
use Rattle.semantics_safety.proofs.SetLaws.{stands_new, stands_kept}
use Rattle.semantics_safety.proofs.StepLaws.{Lands}
use Rattle.semantics_safety.proofs.NullLaws.{nulled, null_lands, assigned_lands, stands_static, statics_stay}

-- the results of a kind that put no reference into a frame and no buffer into a variable
pub data Simple : ResultKind → CallResult → Type 0 where
  AnInt : (z : ℤ) → Simple GivesInt (ScalarResult (Int z))
  AFlag : (b : Bool) → Simple GivesFlag (ScalarResult (Flag b))
  AField : (f : Option FieldId) → Simple GivesField (FieldResult f)
  AMethod : (f : Option MethodId) → Simple GivesMethod (MethodResult f)
  NoField : Simple GivesField NullResult
  NoMethod : Simple GivesMethod NullResult
  AGlobal : (r : Reference) → Simple NewGlobal (ReferenceResult r)
  NoGlobal : Simple NewGlobal NullResult
  AWeak : (r : Reference) → Simple NewWeak (WeakResult r)
  NoWeak : Simple NewWeak NullResult
  NoLocal : Simple NewLocal NullResult
  NullLocal : Simple NewLocal (ReferenceResult None)
  NoResultThere : Simple GivesNothing NoResult

module _ (unit : SourceUnit) (classes : Classes) (in_use : BuffersInUse) (k : ℕ) (s : Shared) (t : Thread) (rest : List Task) (p : Point) {weak : WeakNames} {own : Owners} (stands : Stands weak own s.statics t.variables t.frames p) where
  scalar_no_buffer : (v : Value) (u : ElementType) (b : Buffer) → Scalar v ≡ Elements u b → ⊥
  scalar_no_buffer v u b e = cc

  scalar_no_ref : (v : Value) (level : ℕ) (r : _) → Scalar v ≡ LocalRef level r → ⊥
  scalar_no_ref v level r e = cc

  field_no_buffer : (f : Option FieldId) (u : ElementType) (b : Buffer) → FieldHandle f ≡ Elements u b → ⊥
  field_no_buffer f u b e = cc

  method_no_buffer : (f : Option MethodId) (u : ElementType) (b : Buffer) → MethodHandle f ≡ Elements u b → ⊥
  method_no_buffer f u b e = cc

  field_no_ref : (f : Option FieldId) (level : ℕ) (r : _) → FieldHandle f ≡ LocalRef level r → ⊥
  field_no_ref f level r e = cc

  method_no_ref : (f : Option MethodId) (level : ℕ) (r : _) → MethodHandle f ≡ LocalRef level r → ⊥
  method_no_ref f level r e = cc

  stay : (x : Identifier) (r : StaticReference) → lookup x s.statics ≡ Some r → (q : StaticReference) × (lookup x s.statics ≡ Some q)
  stay x r e = (r, e)

  declared : (kind : VariableKind) (x : Identifier) (result : ResultKind) (given : CallResult) (get : Option (Access × Option Identifier)) → Simple result given → DeclaresResult p kind x result get (GoesOn rest) → Lands weak own s.statics (put (Declared kind x) given s (with_tasks t rest))
  declared kinds.Number x result given get (AnInt z) (new, g) =
      ((named p x types.Jint, stands_new s.statics t.variables t.frames p stands x (Scalar (Int z)) types.Jint new tt (Int z, refl, refl) (λ u b c. absurd (scalar_no_buffer (Int z) u b c)), g), stay)
  declared kinds.Number x result given get (AFlag b) (new, g) =
      ((named p x types.Flag, stands_new s.statics t.variables t.frames p stands x (Scalar (Flag b)) types.Flag new tt (Flag b, refl, refl) (λ u c d. absurd (scalar_no_buffer (Flag b) u c d)), g), stay)
  declared kinds.Field x result given get (AField f) (new, g) =
      ((named p x types.FieldId, stands_new s.statics t.variables t.frames p stands x (FieldHandle f) types.FieldId new tt (f, refl) (λ u b c. absurd (field_no_buffer f u b c)), g), stay)
  declared kinds.Method x result given get (AMethod f) (new, g) =
      ((named p x types.MethodId, stands_new s.statics t.variables t.frames p stands x (MethodHandle f) types.MethodId new tt (f, refl) (λ u b c. absurd (method_no_buffer f u b c)), g), stay)
  declared kinds.Field x result given get NoField h = null_lands unit classes in_use k s t rest p stands (Declared kinds.Field x) h
  declared kinds.Method x result given get NoMethod h = null_lands unit classes in_use k s t rest p stands (Declared kinds.Method x) h
  declared kinds.Reference x result given get NoLocal h = null_lands unit classes in_use k s t rest p stands (Declared kinds.Reference x) h
  declared kinds.Reference x result given get NullLocal h = null_lands unit classes in_use k s t rest p stands (Declared kinds.Reference x) h
  declared (kinds.Buffer u) x result given get (AnInt z) h = absurd h
  declared (kinds.Buffer u) x result given get (AFlag b) h = absurd h
  declared (kinds.Buffer u) x result given get (AField f) h = absurd h
  declared (kinds.Buffer u) x result given get (AMethod f) h = absurd h
  declared (kinds.Buffer u) x result given get NoField h = absurd h
  declared (kinds.Buffer u) x result given get NoMethod h = absurd h
  declared (kinds.Buffer u) x result given get (AGlobal r) h = absurd h
  declared (kinds.Buffer u) x result given get NoGlobal h = absurd h
  declared (kinds.Buffer u) x result given get (AWeak r) h = absurd h
  declared (kinds.Buffer u) x result given get NoWeak h = absurd h
  declared (kinds.Buffer u) x result given get NoLocal h = absurd h
  declared (kinds.Buffer u) x result given get NullLocal h = absurd h
  declared (kinds.Buffer u) x result given get NoResultThere h = absurd h
  declared kind x result given get simple h = absurd h

  number_put : (x : Identifier) (r : ExprType) (v : Value) (o : Option Variable) → type_in p.names x ≡ Some r → lookup x t.variables ≡ o → (old : Value) × (o ≡ Some (Scalar old)) → VariableFits r (Some (Scalar v)) (lookup x s.statics) → GoesOn rest p → Lands weak own s.statics (put_assigned x (ScalarResult v) s (with_tasks t rest) o)
  number_put x r v o e at_x (old, is) fits g =
      subst (λ (w : Option Variable). Lands weak own s.statics (put_assigned x (ScalarResult v) s (with_tasks t rest) w)) (sym is)
      ((p, stands_kept s.statics t.variables t.frames p stands x (Scalar v) r (Scalar old) e (at_x ∙ is) (scalar_no_ref old) (scalar_no_buffer old) fits (λ u b c. absurd (scalar_no_buffer v u b c)), g), stay)

  field_put : (x : Identifier) (f : Option FieldId) (o : Option Variable) → type_in p.names x ≡ Some types.FieldId → lookup x t.variables ≡ o → (old : Option FieldId) × (o ≡ Some (FieldHandle old)) → GoesOn rest p → Lands weak own s.statics (put_assigned x (FieldResult f) s (with_tasks t rest) o)
  field_put x f o e at_x (old, is) g =
      subst (λ (w : Option Variable). Lands weak own s.statics (put_assigned x (FieldResult f) s (with_tasks t rest) w)) (sym is)
      ((p, stands_kept s.statics t.variables t.frames p stands x (FieldHandle f) types.FieldId (FieldHandle old) e (at_x ∙ is) (field_no_ref old) (field_no_buffer old) (f, refl) (λ u b c. absurd (field_no_buffer f u b c)), g), stay)

  method_put : (x : Identifier) (f : Option MethodId) (o : Option Variable) → type_in p.names x ≡ Some types.MethodId → lookup x t.variables ≡ o → (old : Option MethodId) × (o ≡ Some (MethodHandle old)) → GoesOn rest p → Lands weak own s.statics (put_assigned x (MethodResult f) s (with_tasks t rest) o)
  method_put x f o e at_x (old, is) g =
      subst (λ (w : Option Variable). Lands weak own s.statics (put_assigned x (MethodResult f) s (with_tasks t rest) w)) (sym is)
      ((p, stands_kept s.statics t.variables t.frames p stands x (MethodHandle f) types.MethodId (MethodHandle old) e (at_x ∙ is) (method_no_ref old) (method_no_buffer old) (f, refl) (λ u b c. absurd (method_no_buffer f u b c)), g), stay)

  no_empty : (n : ℕ) → Empty ≡ Weakly n → ⊥
  no_empty n e = cc

  no_global : (r : Reference) (n : ℕ) → static_result (ReferenceResult r) ≡ Weakly n → ⊥
  no_global None n e = cc
  no_global (Some m) n e = cc

  static_put : (x : Identifier) (given : CallResult) (o : Option Variable) → ((n : ℕ) → static_result given ≡ Weakly n → weak x ≡ true) → o ≡ None → GoesOn rest p → Lands weak own s.statics (put_assigned x given s (with_tasks t rest) o)
  static_put x given o right none g =
      subst (λ (w : Option Variable). Lands weak own s.statics (put_assigned x given s (with_tasks t rest) w)) (sym none)
      ((p, stands_static unit classes in_use k s t rest p stands x (static_result given) right, g), statics_stay unit classes in_use k s t rest p stands x (static_result given))

  assigned : (x : Identifier) (o : Option ExprType) (result : ResultKind) (given : CallResult) (get : Option (Access × Option Identifier)) → type_in p.names x ≡ o → Simple result given → AssignsResult p o x result get (GoesOn rest) → Lands weak own s.statics (put_assigned x given s (with_tasks t rest) (lookup x t.variables))
  assigned x (Some types.Jint) result given get e (AnInt z) g = let old = stands.types x types.Jint e in number_put x types.Jint (Int z) (lookup x t.variables) e refl (old.0, old.1) (Int z, refl, refl) g
  assigned x (Some types.Flag) result given get e (AFlag b) g = let old = stands.types x types.Flag e in number_put x types.Flag (Flag b) (lookup x t.variables) e refl (old.0, old.1) (Flag b, refl, refl) g
  assigned x (Some types.FieldId) result given get e (AField f) g = field_put x f (lookup x t.variables) e refl (stands.types x types.FieldId e) g
  assigned x (Some types.MethodId) result given get e (AMethod f) g = method_put x f (lookup x t.variables) e refl (stands.types x types.MethodId e) g
  assigned x (Some types.FieldId) result given get e NoField g = assigned_lands unit classes in_use k s t rest p stands x (Some types.FieldId) e g
  assigned x (Some types.MethodId) result given get e NoMethod g = assigned_lands unit classes in_use k s t rest p stands x (Some types.MethodId) e g
  assigned x (Some types.Ref) result given get e NoLocal h = assigned_lands unit classes in_use k s t rest p stands x (Some types.Ref) e h
  assigned x (Some types.Ref) result given get e NullLocal (may, g) =
      let shown = stands.shows x _ may.known in
      subst (λ (v : Option Variable). Lands weak own s.statics (put_assigned x (ReferenceResult None) s (with_tasks t rest) v)) (sym shown.1) ((at p (with_changed p.regions x revived), nulled unit classes in_use k s t rest p stands x may e, g), stay)
  assigned x (Some types.Global) result given get e (AGlobal r) g = static_put x (ReferenceResult r) (lookup x t.variables) (λ n c. absurd (no_global r n c)) ((stands.types x types.Global e).0) g
  assigned x (Some types.Global) result given get e NoGlobal g = static_put x NullResult (lookup x t.variables) (λ n c. absurd (no_empty n c)) ((stands.types x types.Global e).0) g
  assigned x (Some types.Weak) result given get e (AWeak r) g = static_put x (WeakResult r) (lookup x t.variables) (λ n c. stands.kinds x types.Weak e) ((stands.types x types.Weak e).0) g
  assigned x (Some types.Weak) result given get e NoWeak g = static_put x NullResult (lookup x t.variables) (λ n c. absurd (no_empty n c)) ((stands.types x types.Weak e).0) g
  assigned x (Some (types.Buffer u w)) result given get e (AnInt z) h = absurd h
  assigned x (Some (types.Buffer u w)) result given get e (AFlag b) h = absurd h
  assigned x (Some (types.Buffer u w)) result given get e (AField f) h = absurd h
  assigned x (Some (types.Buffer u w)) result given get e (AMethod f) h = absurd h
  assigned x (Some (types.Buffer u w)) result given get e NoField h = absurd h
  assigned x (Some (types.Buffer u w)) result given get e NoMethod h = absurd h
  assigned x (Some (types.Buffer u w)) result given get e (AGlobal r) h = absurd h
  assigned x (Some (types.Buffer u w)) result given get e NoGlobal h = absurd h
  assigned x (Some (types.Buffer u w)) result given get e (AWeak r) h = absurd h
  assigned x (Some (types.Buffer u w)) result given get e NoWeak h = absurd h
  assigned x (Some (types.Buffer u w)) result given get e NoLocal h = absurd h
  assigned x (Some (types.Buffer u w)) result given get e NullLocal h = absurd h
  assigned x (Some (types.Buffer u w)) result given get e NoResultThere h = absurd h
  assigned x o result given get e simple g = absurd g

  -- such a result goes where it may
  pub result_lands : (target : Target) (result : ResultKind) (given : CallResult) (get : Option (Access × Option Identifier)) → Simple result given → ResultGoes target result get (GoesOn rest) p → Lands weak own s.statics (put target given s (with_tasks t rest))
  result_lands (Declared kind x) result given get simple h = declared kind x result given get simple h
  result_lands (Assigned x) result given get simple h = assigned x (type_in p.names x) result given get refl simple h
  result_lands (Tested a b) result given get simple h = absurd h
  result_lands Dropped result given get simple h = ((p, stands, h.1), stay)
