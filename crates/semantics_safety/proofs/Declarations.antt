-- Declarations run from what is known before them.
use Rattle.std.proofs.Common.{◌≡◌, ℕ, inr, Bool, true, false, not, List, [], ◌∷◌, ◌++◌, Option, Some, refl, sym, ap, ◌∙◌, subst}
use Rattle.std.specs.Option.{is_some}
use Rattle.std.proofs.lemmas.Bool.{and_parts}
use Rattle.base.specs.Bytes.{Identifier}
use Rattle.base.specs.declared.element.ElementType.{ElementType}
use Rattle.base.specs.declared.element.ElementType.TheVariants.{Char as JChar}
use Rattle.syntax.specs.declared.declared_type.DeclaredType.TheVariants.{Simple, Pointer, ConstChars}
use Rattle.syntax.specs.Tree as tree
use Rattle.syntax.specs.declared.declared_type.VariableType.{VariableType}
use Rattle.syntax.specs.declared.declared_type.VariableType.TheVariants.{Uint32 as UInt32, Jint as JIntVariable, Jsize as JSize, Jboolean as JBoolean, JfieldId as JFieldId, JmethodId as JMethodId, Reference as ReferenceVariable}
use Rattle.syntax.specs.Tree.{Expr, Argument, Call, FromExpr, FromCall}
use Rattle.jni.specs.declared.access.Access.{Access}
use Rattle.jni.specs.declared.function.JniFunction.{JniFunction}
use Rattle.jni.specs.declared.function.JniFunction.TheVariants.{GetBuffer}
use Rattle.jni.specs.JniFunction.{prototype}
use Rattle.jni.specs.declared.kinds.ResultKind.{ResultKind}
use Rattle.jni.specs.declared.kinds.ResultKind.TheVariants.{NewLocal, NewGlobal, NewWeak, GivesFlag, GivesInt, GivesField, GivesMethod, GivesBuffer}
use Rattle.type_rules.specs.declared.ty.ExprType.TheVariants.{Word, Jint, Flag, Ref, Buffer}
use Rattle.type_rules.specs.ExprTypes.{type_of, is_null, name_type}
use Rattle.type_rules.specs.declared.ty.ExprType.TheVariants as types
use Rattle.type_rules.specs.TypeRules as rules
use Rattle.type_rules.specs.TypeRules.{has_name, variable_type, result_fits, call_fits}
use Rattle.type_rules.proofs.TypeTests.{jint_is, flag_is, word_is, null_is, first_passed}
use Rattle.region_rules.specs.RegionStates.{Free, BufferIn, ReferenceAt, held_by, get_of, buffer_from, function_called, after_call, with_new, with_set, FunctionCall}
use Rattle.semantics.specs.declared.variable_kind.VariableKind.TheVariants as kinds
use Rattle.semantics.specs.Task.{Declared, set_task, variable_kind}
use Rattle.semantics_safety.specs.Points.{Point}
use Rattle.semantics_safety.specs.Wanted.{CallKeeps, DeclaresResult, RunsPlain, at}
use Rattle.semantics_safety.proofs.ArgumentFits.{first_read, buffer_for}
use Rattle.semantics_safety.proofs.CallFits.{statement_reads}
use Rattle.semantics_safety.proofs.KnownPoints.{IsKnown, is_new, known_named, known_new}
use Rattle.semantics_safety.proofs.PlainStatements.{scalar_runs}
use Rattle.semantics_safety.proofs.StatementCalls.{call_there, known_called, call_runs}
use Rattle.semantics_safety.proofs.PathsGive.{Gives}

-- ---- values

pub declare_value : (line : ℕ) (t : VariableType) (x : Identifier) (e : Expr) → Gives (tree.Plain line (tree.Declare (Simple t) x (FromExpr e)))
declare_value line UInt32 x e p taken returns path k known kept (obeys, is) h =
    let read = (first_read p.regions e [] (statement_reads p.regions (tree.Plain line (tree.Declare (Simple UInt32) x (FromExpr e))) obeys)).0 in
    scalar_runs p taken line (Declared kinds.Number x) x e Word k known tt (word_is (type_of p.names e) kept.fits) read (inr (is_new p taken x known kept.new, h p.regions is (known_named p taken known x kept.new Word tt)))
declare_value line JIntVariable x e p taken returns path k known kept (obeys, is) h =
    let read = (first_read p.regions e [] (statement_reads p.regions (tree.Plain line (tree.Declare (Simple JIntVariable) x (FromExpr e))) obeys)).0 in
    scalar_runs p taken line (Declared kinds.Number x) x e Jint k known tt (jint_is (type_of p.names e) kept.fits) read (inr (is_new p taken x known kept.new, h p.regions is (known_named p taken known x kept.new Jint tt)))
declare_value line JSize x e p taken returns path k known kept (obeys, is) h =
    let read = (first_read p.regions e [] (statement_reads p.regions (tree.Plain line (tree.Declare (Simple JSize) x (FromExpr e))) obeys)).0 in
    scalar_runs p taken line (Declared kinds.Number x) x e Jint k known tt (jint_is (type_of p.names e) kept.fits) read (inr (is_new p taken x known kept.new, h p.regions is (known_named p taken known x kept.new Jint tt)))
declare_value line JBoolean x e p taken returns path k known kept (obeys, is) h =
    let read = (first_read p.regions e [] (statement_reads p.regions (tree.Plain line (tree.Declare (Simple JBoolean) x (FromExpr e))) obeys)).0 in
    scalar_runs p taken line (Declared kinds.Number x) x e Flag k known tt (flag_is (type_of p.names e) kept.fits) read (inr (is_new p taken x known kept.new, h p.regions is (known_named p taken known x kept.new Flag tt)))
declare_value line JFieldId x e p taken returns path k known kept (obeys, is) h =
    subst (λ (e : Expr). RunsPlain (set_task line (Declared kinds.Field x) x e) k p) (sym (null_is e kept.fits)) (is_new p taken x known kept.new, h p.regions is (known_named p taken known x kept.new types.FieldId tt))
declare_value line JMethodId x e p taken returns path k known kept (obeys, is) h =
    subst (λ (e : Expr). RunsPlain (set_task line (Declared kinds.Method x) x e) k p) (sym (null_is e kept.fits)) (is_new p taken x known kept.new, h p.regions is (known_named p taken known x kept.new types.MethodId tt))
declare_value line (ReferenceVariable r) x e p taken returns path k known kept (obeys, is) h =
    subst (λ (e : Expr). RunsPlain (set_task line (Declared kinds.Reference x) x e) k p) (sym (null_is e (first_passed (is_null e) (is_some (name_type p.names e)) kept.fits kept.uncopied)))
    (is_new p taken x known kept.new, h (with_new p.regions x (ReferenceAt p.regions.frames true)) is (known_new p taken known x kept.new Ref (ReferenceAt p.regions.frames true) tt))

nothing_held : (access : Access) (a : Identifier) → held_by Free ≡ Some (access, a) → ⊥
nothing_held access a h = cc

pub declare_buffer : (line : ℕ) (t : ElementType) (x : Identifier) (e : Expr) → Gives (tree.Plain line (tree.Declare (Pointer t) x (FromExpr e)))
declare_buffer line t x e p taken returns path k known kept (obeys, is) h =
    subst (λ (e : Expr). RunsPlain (set_task line (Declared (kinds.Buffer t) x) x e) k p) (sym (null_is e kept.fits))
    (is_new p taken x known kept.new, (true, h (with_new p.regions x (BufferIn Free)) is (known_new p taken known x kept.new (Buffer t true) (BufferIn Free) (λ access a g. absurd (nothing_held access a g)))))

pub declare_chars : (line : ℕ) (x : Identifier) (e : Expr) → Gives (tree.Plain line (tree.Declare ConstChars x (FromExpr e)))
declare_chars line x e p taken returns path k known kept (obeys, is) h =
    subst (λ (e : Expr). RunsPlain (set_task line (Declared (kinds.Buffer JChar) x) x e) k p) (sym (null_is e kept.fits))
    (is_new p taken x known kept.new, (false, h (with_new p.regions x (BufferIn Free)) is (known_new p taken known x kept.new (Buffer JChar false) (BufferIn Free) (λ access a g. absurd (nothing_held access a g)))))

-- ---- results

no_buffer_type : (t : VariableType) (u : ElementType) (w : Bool) → Some (variable_type t) ≡ Some (Buffer u w) → ⊥
no_buffer_type UInt32 u w e = cc
no_buffer_type JIntVariable u w e = cc
no_buffer_type JSize u w e = cc
no_buffer_type JBoolean u w e = cc
no_buffer_type JFieldId u w e = cc
no_buffer_type JMethodId u w e = cc
no_buffer_type (ReferenceVariable r) u w e = cc

no_buffer_result : (t : VariableType) (access : Access) → result_fits (Some (variable_type t)) (GivesBuffer access) ≡ true → ⊥
no_buffer_result t access h = let is = buffer_for access (Some (variable_type t)) h in no_buffer_type t is.0 is.1 is.2

no_global_result : (t : VariableType) → result_fits (Some (variable_type t)) NewGlobal ≡ true → ⊥
no_global_result UInt32 h = cc
no_global_result JIntVariable h = cc
no_global_result JSize h = cc
no_global_result JBoolean h = cc
no_global_result JFieldId h = cc
no_global_result JMethodId h = cc
no_global_result (ReferenceVariable r) h = cc

no_weak_result : (t : VariableType) → result_fits (Some (variable_type t)) NewWeak ≡ true → ⊥
no_weak_result UInt32 h = cc
no_weak_result JIntVariable h = cc
no_weak_result JSize h = cc
no_weak_result JBoolean h = cc
no_weak_result JFieldId h = cc
no_weak_result JMethodId h = cc
no_weak_result (ReferenceVariable r) h = cc

module _ (q : Point) (taken : List Identifier) (known : IsKnown q taken) (x : Identifier) (new : has_name taken x ≡ false) (k : Point → Type 0) where
  declared_result : (line : ℕ) (c : Call) (t : VariableType) (result : ResultKind) (get : Option (Access × Option Identifier)) → result_fits (Some (variable_type t)) result ≡ true
      → (IsKnown (record { names = (x, variable_type t) ∷ q.names; regions = with_set q.regions (tree.Plain line (tree.Declare (Simple t) x (FromCall c))) }) (taken ++ x ∷ []) → k (record { names = (x, variable_type t) ∷ q.names; regions = with_set q.regions (tree.Plain line (tree.Declare (Simple t) x (FromCall c))) }))
      → DeclaresResult q (variable_kind t) x result get k
  declared_result line c t (GivesBuffer access) get fit h = absurd (no_buffer_result t access fit)
  declared_result line c t NewGlobal get fit h = absurd (no_global_result t fit)
  declared_result line c t NewWeak get fit h = absurd (no_weak_result t fit)
  declared_result line c JIntVariable GivesInt get fit h = (is_new q taken x known new, h (known_named q taken known x new Jint tt))
  declared_result line c JSize GivesInt get fit h = (is_new q taken x known new, h (known_named q taken known x new Jint tt))
  declared_result line c JBoolean GivesFlag get fit h = (is_new q taken x known new, h (known_named q taken known x new Flag tt))
  declared_result line c JFieldId GivesField get fit h = (is_new q taken x known new, h (known_named q taken known x new types.FieldId tt))
  declared_result line c JMethodId GivesMethod get fit h = (is_new q taken x known new, h (known_named q taken known x new types.MethodId tt))
  declared_result line c (ReferenceVariable r) NewLocal get fit h = (is_new q taken x known new, h (known_new q taken known x new Ref (ReferenceAt q.regions.frames true) tt))
  declared_result line c t result get fit h = absurd (cc)

  buffer_result : (t : ElementType) (writable : Bool) (result : ResultKind) (get : Option (Access × Option Identifier)) → result_fits (Some (Buffer t writable)) result ≡ true
      → ((access : Access) (a : Identifier) → held_by (buffer_from get) ≡ Some (access, a) → has_name taken a ≡ true)
      → (IsKnown (record { names = (x, Buffer t writable) ∷ q.names; regions = with_new q.regions x (BufferIn (buffer_from get)) }) (taken ++ x ∷ []) → k (record { names = (x, Buffer t writable) ∷ q.names; regions = with_new q.regions x (BufferIn (buffer_from get)) }))
      → DeclaresResult q (kinds.Buffer t) x result get k
  buffer_result t writable (GivesBuffer access) get fit gets h = (is_new q taken x known new, (writable, fit, h (known_new q taken known x new (Buffer t writable) (BufferIn (buffer_from get)) gets)))
  buffer_result t writable result get fit gets h = absurd (cc)

-- the array of a Get was taken
get_taken : (p : Point) (taken : List Identifier) → IsKnown p taken → (f : JniFunction) (arguments : List Argument) → CallKeeps p f arguments → (access : Access) (a : Identifier) → held_by (buffer_from (get_of (Some (f, arguments)))) ≡ Some (access, a) → has_name taken a ≡ true
get_taken p taken known (GetBuffer own) (tree.Value (tree.Variable y) ∷ rest) keeps access a h =
    let pair : (own, y) ≡ (access, a) = cc in
    subst (λ (z : Identifier). has_name taken z ≡ true) (ap (λ (w : Access × Identifier). w.1) pair) (known.known_taken y (ReferenceAt keeps.0 true) keeps.1)
get_taken p taken known (GetBuffer own) arguments keeps access a h = absurd keeps
get_taken p taken known f arguments keeps access a h = absurd (cc)

pub called_taken : (p : Point) (taken : List Identifier) → IsKnown p taken → (f : JniFunction) (arguments : List Argument) → CallKeeps p f arguments → (call : Option FunctionCall) → call ≡ Some (f, arguments) → (access : Access) (a : Identifier) → held_by (buffer_from (get_of call)) ≡ Some (access, a) → has_name taken a ≡ true
called_taken p taken known f arguments keeps call is access a h = get_taken p taken known f arguments keeps access a (ap (λ (o : Option FunctionCall). held_by (buffer_from (get_of o))) (sym is) ∙ h)

-- by the type, a statement's names and states are worked out
abbrev CallGives : VariableType → Type 1
CallGives t = (line : ℕ) (x : Identifier) (c : Call) → Gives (tree.Plain line (tree.Declare (Simple t) x (FromCall c)))

declare_word : CallGives UInt32
declare_word line x c p taken returns path k known kept (obeys, is) h =
    let s = tree.Plain line (tree.Declare (Simple UInt32) x (FromCall c)) in
    let call = call_there p taken returns s c known kept obeys refl refl in
    let result = (prototype call.function).result in
    let both = and_parts (not (rules.is_push call.function)) (result_fits (Some (variable_type UInt32)) result) (ap (call_fits (Some (variable_type UInt32))) (sym call.is_named) ∙ kept.fits) in
    let q = at p (after_call p.regions (function_called s)) in
    call_runs p s line (Declared (variable_kind UInt32) x) c k call both.0 (declared_result q taken (known_called p taken s known obeys) x kept.new k line c UInt32 result (get_of (function_called s)) both.1 (h q.regions is))

declare_jint : CallGives JIntVariable
declare_jint line x c p taken returns path k known kept (obeys, is) h =
    let s = tree.Plain line (tree.Declare (Simple JIntVariable) x (FromCall c)) in
    let call = call_there p taken returns s c known kept obeys refl refl in
    let result = (prototype call.function).result in
    let both = and_parts (not (rules.is_push call.function)) (result_fits (Some (variable_type JIntVariable)) result) (ap (call_fits (Some (variable_type JIntVariable))) (sym call.is_named) ∙ kept.fits) in
    let q = at p (after_call p.regions (function_called s)) in
    call_runs p s line (Declared (variable_kind JIntVariable) x) c k call both.0 (declared_result q taken (known_called p taken s known obeys) x kept.new k line c JIntVariable result (get_of (function_called s)) both.1 (h q.regions is))

declare_size : CallGives JSize
declare_size line x c p taken returns path k known kept (obeys, is) h =
    let s = tree.Plain line (tree.Declare (Simple JSize) x (FromCall c)) in
    let call = call_there p taken returns s c known kept obeys refl refl in
    let result = (prototype call.function).result in
    let both = and_parts (not (rules.is_push call.function)) (result_fits (Some (variable_type JSize)) result) (ap (call_fits (Some (variable_type JSize))) (sym call.is_named) ∙ kept.fits) in
    let q = at p (after_call p.regions (function_called s)) in
    call_runs p s line (Declared (variable_kind JSize) x) c k call both.0 (declared_result q taken (known_called p taken s known obeys) x kept.new k line c JSize result (get_of (function_called s)) both.1 (h q.regions is))

declare_flag : CallGives JBoolean
declare_flag line x c p taken returns path k known kept (obeys, is) h =
    let s = tree.Plain line (tree.Declare (Simple JBoolean) x (FromCall c)) in
    let call = call_there p taken returns s c known kept obeys refl refl in
    let result = (prototype call.function).result in
    let both = and_parts (not (rules.is_push call.function)) (result_fits (Some (variable_type JBoolean)) result) (ap (call_fits (Some (variable_type JBoolean))) (sym call.is_named) ∙ kept.fits) in
    let q = at p (after_call p.regions (function_called s)) in
    call_runs p s line (Declared (variable_kind JBoolean) x) c k call both.0 (declared_result q taken (known_called p taken s known obeys) x kept.new k line c JBoolean result (get_of (function_called s)) both.1 (h q.regions is))

declare_field : CallGives JFieldId
declare_field line x c p taken returns path k known kept (obeys, is) h =
    let s = tree.Plain line (tree.Declare (Simple JFieldId) x (FromCall c)) in
    let call = call_there p taken returns s c known kept obeys refl refl in
    let result = (prototype call.function).result in
    let both = and_parts (not (rules.is_push call.function)) (result_fits (Some (variable_type JFieldId)) result) (ap (call_fits (Some (variable_type JFieldId))) (sym call.is_named) ∙ kept.fits) in
    let q = at p (after_call p.regions (function_called s)) in
    call_runs p s line (Declared (variable_kind JFieldId) x) c k call both.0 (declared_result q taken (known_called p taken s known obeys) x kept.new k line c JFieldId result (get_of (function_called s)) both.1 (h q.regions is))

declare_method : CallGives JMethodId
declare_method line x c p taken returns path k known kept (obeys, is) h =
    let s = tree.Plain line (tree.Declare (Simple JMethodId) x (FromCall c)) in
    let call = call_there p taken returns s c known kept obeys refl refl in
    let result = (prototype call.function).result in
    let both = and_parts (not (rules.is_push call.function)) (result_fits (Some (variable_type JMethodId)) result) (ap (call_fits (Some (variable_type JMethodId))) (sym call.is_named) ∙ kept.fits) in
    let q = at p (after_call p.regions (function_called s)) in
    call_runs p s line (Declared (variable_kind JMethodId) x) c k call both.0 (declared_result q taken (known_called p taken s known obeys) x kept.new k line c JMethodId result (get_of (function_called s)) both.1 (h q.regions is))

declare_reference : (r : _) → CallGives (ReferenceVariable r)
declare_reference r line x c p taken returns path k known kept (obeys, is) h =
    let s = tree.Plain line (tree.Declare (Simple (ReferenceVariable r)) x (FromCall c)) in
    let call = call_there p taken returns s c known kept obeys refl refl in
    let result = (prototype call.function).result in
    let both = and_parts (not (rules.is_push call.function)) (result_fits (Some Ref) result) (ap (call_fits (Some Ref)) (sym call.is_named) ∙ kept.fits) in
    let q = at p (after_call p.regions (function_called s)) in
    call_runs p s line (Declared kinds.Reference x) c k call both.0 (declared_result q taken (known_called p taken s known obeys) x kept.new k line c (ReferenceVariable r) result (get_of (function_called s)) both.1 (h (with_set q.regions s) is))

pub declare_call : (t : VariableType) → CallGives t
declare_call UInt32 = declare_word
declare_call JIntVariable = declare_jint
declare_call JSize = declare_size
declare_call JBoolean = declare_flag
declare_call JFieldId = declare_field
declare_call JMethodId = declare_method
declare_call (ReferenceVariable r) = declare_reference r

pub buffer_call : (line : ℕ) (t : ElementType) (x : Identifier) (c : Call) → Gives (tree.Plain line (tree.Declare (Pointer t) x (FromCall c)))
buffer_call line t x c p taken returns path k known kept (obeys, is) h =
    let s = tree.Plain line (tree.Declare (Pointer t) x (FromCall c)) in
    let call = call_there p taken returns s c known kept obeys refl refl in
    let result = (prototype call.function).result in
    let both = and_parts (not (rules.is_push call.function)) (result_fits (Some (Buffer t true)) result) (ap (call_fits (Some (Buffer t true))) (sym call.is_named) ∙ kept.fits) in
    let q = at p (after_call p.regions (function_called s)) in
    call_runs p s line (Declared (kinds.Buffer t) x) c k call both.0
    (buffer_result q taken (known_called p taken s known obeys) x kept.new k t true result (get_of (function_called s)) both.1 (called_taken p taken known call.function c.arguments call.keeps (function_called s) call.called) (h (with_set q.regions s) is))

pub chars_call : (line : ℕ) (x : Identifier) (c : Call) → Gives (tree.Plain line (tree.Declare ConstChars x (FromCall c)))
chars_call line x c p taken returns path k known kept (obeys, is) h =
    let s = tree.Plain line (tree.Declare ConstChars x (FromCall c)) in
    let call = call_there p taken returns s c known kept obeys refl refl in
    let result = (prototype call.function).result in
    let both = and_parts (not (rules.is_push call.function)) (result_fits (Some (Buffer JChar false)) result) (ap (call_fits (Some (Buffer JChar false))) (sym call.is_named) ∙ kept.fits) in
    let q = at p (after_call p.regions (function_called s)) in
    call_runs p s line (Declared (kinds.Buffer JChar) x) c k call both.0
    (buffer_result q taken (known_called p taken s known obeys) x kept.new k JChar false result (get_of (function_called s)) both.1 (called_taken p taken known call.function c.arguments call.keeps (function_called s) call.called) (h (with_set q.regions s) is))
