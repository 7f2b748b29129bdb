-- The statements without blocks run from what is known before them: returns, prints, elements, arrays, calls and declarations.
use Rattle.std.proofs.Common.{◌≡◌, ℕ, ◌≤◌, arith, Bool, true, false, not, ◌&&◌, ◌||◌, List, [], ◌∷◌, ◌++◌, Some, refl, sym, ap, ◌∙◌, subst, if◌then◌else◌, None}
use Rattle.std.specs.Prelude.{flat_map, nat_lt}
use Rattle.std.specs.List.{list_any}
use Rattle.std.specs.Str.{bytes_eq}
use Rattle.std.proofs.lemmas.Bool.{and_parts, or_parts}
use Rattle.std.proofs.lemmas.Bool.Decides.{nat_tests}
use Rattle.base.specs.Bytes.{Identifier, ByName, lookup}
use Rattle.base.specs.declared.element.ElementType.{ElementType}
use Rattle.base.specs.Options.{some_passes}
use Rattle.syntax.specs.Parts.{elements_in, used_names, names_in}
use Rattle.syntax.specs.Tree as tree
use Rattle.syntax.specs.declared.unit.ResultType.{ResultType}
use Rattle.syntax.specs.declared.unit.ResultType.TheVariants.{Void, Jint as IntResult, Reference as ReferenceResult}
use Rattle.syntax.specs.declared.expr.Constant.TheVariants.{Null}
use Rattle.syntax.specs.Tree.{Expr, Call, Stmt}
use Rattle.jni.specs.declared.access.Access.{Access}
use Rattle.jni.specs.Access.{is_critical}
use Rattle.jni.specs.JniFunction.{prototype}
use Rattle.jni.specs.declared.kinds.ResultKind.{ResultKind}
use Rattle.jni.specs.declared.kinds.ResultKind.TheVariants.{NewGlobal, NewWeak, GivesBuffer}
use Rattle.type_rules.specs.declared.ty.ExprType.{ExprType}
use Rattle.type_rules.specs.declared.ty.ExprType.TheVariants.{Jint, Array}
use Rattle.type_rules.specs.ExprTypes.{type_in, type_of, is_jint, is_ref, is_index, has_elements, is_null, name_type}
use Rattle.type_rules.specs.TypeRules as rules
use Rattle.type_rules.specs.TypeRules.{may_be_dropped, is_droppable, return_fits}
use Rattle.type_rules.specs.TypeGroups.{IsNumberType}
use Rattle.type_rules.proofs.TypeCases.{indexed, index_is_value, number_is_value}
use Rattle.type_rules.proofs.TypeTests.{jint_is, ref_is}
use Rattle.region_rules.specs.declared.rule.RegionRule.TheVariants.{CallWhileCritical, ReturnWithBuffer, ReturnInFrame, UntestedBuffer, WrongBuffer}
use Rattle.region_rules.specs.RegionRules.{is_return, is_put_jint, is_critical_call, is_dead, is_held, is_free, is_untested, holds_buffer, Obeys}
use Rattle.region_rules.specs.RegionStates.{VariableState, BufferState, Free, Untested, Usable, BufferIn, state_of, held_by, held_buffers, function_called, after_call}
use Rattle.semantics.specs.Task.{Target, Dropped, set_task}
use Rattle.semantics.specs.Term as term
use Rattle.semantics.specs.Term.{Term, Read, term_of}
use Rattle.semantics_safety.specs.Points.{Point, HasType}
use Rattle.semantics_safety.specs.Wanted.{HasNoView, MayReturnFrom, ReturnedFits, ReturnFits, SetsNumber, MayDrop, RunsPlain, at}
use Rattle.semantics_safety.proofs.ArgumentFits.{first_read}
use Rattle.semantics_safety.proofs.CallFits.{second_fails, unbroken, statement_reads, holds_any}
use Rattle.semantics_safety.proofs.ExpressionFits.{MayRead, is_live, elements_fit, expression_fits, none_of_both}
use Rattle.semantics_safety.proofs.KnownPoints.{IsKnown, known_more, held_of, is_new, known_named}
use Rattle.semantics_safety.proofs.StatementCalls.{call_there, known_called, call_runs}
use Rattle.semantics_safety.proofs.PathsGive.{Gives, covers_front}

-- ---- returns

held_found : (x : Identifier) (b : BufferState) (e : Access × Identifier) (vs : ByName VariableState) → lookup x vs ≡ Some (BufferIn b) → held_by b ≡ Some e → list_any (λ (v : Identifier × VariableState). is_held (Some v.1)) vs ≡ true
held_found x b e [] at h = absurd (cc)
held_found x b e ((y, v) ∷ vs) at h = by_test (bytes_eq x y) at (λ g. held_found x b e vs g h)
  where
    or_true : (a c : Bool) → c ≡ true → (a || c) ≡ true
    or_true true c g = refl
    or_true false c g = g

    by_state : (c : BufferState) → held_by c ≡ Some e → is_held (Some (BufferIn c)) ≡ true
    by_state Free g = absurd (cc)
    by_state (Untested own a) g = refl
    by_state (Usable own a) g = refl

    by_test : (t : Bool) → (if t then Some v else lookup x vs) ≡ Some (BufferIn b) → (lookup x vs ≡ Some (BufferIn b) → list_any (λ (v : Identifier × VariableState). is_held (Some v.1)) vs ≡ true)
        → (is_held (Some v) || list_any (λ (v : Identifier × VariableState). is_held (Some v.1)) vs) ≡ true
    by_test true g later =
        let is : v ≡ BufferIn b = cc in
        ap (λ (a : Bool). a || list_any (λ (v : Identifier × VariableState). is_held (Some v.1)) vs) (ap (λ (u : VariableState). is_held (Some u)) is ∙ by_state b h)
    by_test false g later = or_true (is_held (Some v)) (list_any (λ (v : Identifier × VariableState). is_held (Some v.1)) vs) (later g)

one_frame : (n : ℕ) → 1 ≤ n → nat_lt 1 n ≡ false → n ≡ 1
one_frame n some h = let few : n ≤ 1 = grind (arith, nat_tests, h) in omega (arith, some, few)

may_return : (p : Point) (taken : List Identifier) (s : Stmt) → IsKnown p taken → Obeys p.regions s → is_return s ≡ true → MayReturnFrom p
may_return p taken s known obeys returns = record {
  free = λ x a access h.
      let held = held_of p x access a h in
      let found = held_found x held.0 (access, a) p.regions.variables held.1 held.2 in
      let none = second_fails (is_return s) (holds_buffer p.regions) (unbroken p.regions s ReturnWithBuffer obeys) returns in
      let c : true ≡ false = sym found ∙ none in cc;
  frames = one_frame p.regions.frames known.framed (second_fails (is_return s) (nat_lt 1 p.regions.frames) (unbroken p.regions s ReturnInFrame obeys) returns);
}

jint_returns : (p : Point) (t : Term) → HasType p t Jint → ReturnFits p t
jint_returns p (term.Named Null) h = tt
jint_returns p (Read x) h = subst (ReturnedFits p x) (sym h.0) tt
jint_returns p t h = h

reference_returns : (p : Point) (taken : List Identifier) (e : Expr) → IsKnown p taken → (is_null e || is_ref (name_type p.names e)) ≡ true → MayRead p.regions e → ReturnFits p (term_of e)
reference_returns p taken (tree.Named Null) known h read = tt
reference_returns p taken (tree.Variable x) known h read =
    let is = ref_is (type_in p.names x) h in
    subst (ReturnedFits p x) (sym is) (is_live p known.stated x is (or_parts (is_dead (state_of p.regions x)) false read.alive).0)
reference_returns p taken e known h read = absurd (cc)

value_returns : (p : Point) (taken : List Identifier) (returns : ResultType) (e : Expr) → IsKnown p taken → return_fits p.names returns e ≡ true → MayRead p.regions e → ReturnFits p (term_of e)
value_returns p taken Void e known h read = absurd (cc)
value_returns p taken IntResult e known h read = jint_returns p (term_of e) (expression_fits p known.stated e Jint read (jint_is (type_of p.names e) h) tt)
value_returns p taken (ReferenceResult r) e known h read = reference_returns p taken e known h read

pub return_gives : (line : ℕ) → Gives (tree.Return line None)
return_gives line p taken returns path k known kept (obeys, is) h = may_return p taken (tree.Return line None) known obeys refl

pub value_gives : (line : ℕ) (e : Expr) → Gives (tree.Return line (Some e))
value_gives line e p taken returns path k known kept (obeys, is) h =
    let s = tree.Return line (Some e) in
    (value_returns p taken returns e known kept.fits (first_read p.regions e [] (statement_reads p.regions s obeys)).0, may_return p taken s known obeys refl)

-- ---- prints, elements and arrays

no_view : (p : Point) (s : Stmt) → Obeys p.regions s → is_put_jint s ≡ true → HasNoView p
no_view p s obeys prints x a access h critical =
    let any = holds_any p (λ held. is_critical held.0) x access a h critical in
    let both = second_fails (list_any (λ held. is_critical held.0) (held_buffers p.regions)) (is_put_jint s || some_passes (λ call. not (is_critical_call call.0)) (function_called s)) (unbroken p.regions s CallWhileCritical obeys) any in
    let none = (or_parts (is_put_jint s) (some_passes (λ call. not (is_critical_call call.0)) (function_called s)) both).0 in
    let c : true ≡ false = sym prints ∙ none in cc

pub print_gives : (line : ℕ) (e : Expr) → Gives (tree.Plain line (tree.PutJint e))
print_gives line e p taken returns path k known kept (obeys, is) h =
    let s = tree.Plain line (tree.PutJint e) in (
      expression_fits p known.stated e Jint (first_read p.regions e [] (statement_reads p.regions s obeys)).0 (jint_is (type_of p.names e) kept.fits) tt,
      no_view p s obeys refl,
      h p.regions is (known_more p taken (taken ++ []) (covers_front taken []) known),
    )

pub element_gives : (line : ℕ) (x : Identifier) (i e : Expr) → Gives (tree.Plain line (tree.AssignElement x i e))
element_gives line x i e p taken returns path k known kept (obeys, is) h =
    let s = tree.Plain line (tree.AssignElement x i e) in
    let all = and_parts (has_elements (type_in p.names x) && is_index (type_of p.names i)) (is_jint (type_of p.names e)) kept.fits in
    let front = and_parts (has_elements (type_in p.names x)) (is_index (type_of p.names i)) all.0 in
    let reads = first_read p.regions i (e ∷ []) (statement_reads p.regions s obeys) in
    let index = indexed (type_of p.names i) front.1 in
    let wrong = or_parts (list_any (λ y. is_free (state_of p.regions y)) (used_names s)) _ (unbroken p.regions s WrongBuffer obeys) in
    let free = or_parts (is_free (state_of p.regions x)) (list_any (λ y. is_free (state_of p.regions y)) (flat_map names_in (i ∷ e ∷ []) ++ [])) wrong.0 in
    let bare = or_parts (list_any (λ y. is_untested (state_of p.regions y)) (flat_map elements_in (i ∷ e ∷ []) ++ x ∷ [])) _ (unbroken p.regions s UntestedBuffer obeys) in
    let untested = or_parts (is_untested (state_of p.regions x)) false (none_of_both (λ y. is_untested (state_of p.regions y)) (flat_map elements_in (i ∷ e ∷ [])) (x ∷ []) bare.0).1 in (
      elements_fit p known.stated x (type_in p.names x) refl front.0 free.0 untested.0,
      (index.0, index.2, expression_fits p known.stated i index.0 reads.0 index.1 (index_is_value index.0 index.2)),
      expression_fits p known.stated e Jint (first_read p.regions e [] reads.1).0 (jint_is (type_of p.names e) all.1) tt,
      h p.regions is (known_more p taken (taken ++ []) (covers_front taken []) known),
    )

pub array_gives : (line : ℕ) (t : ElementType) (x : Identifier) (size : ℕ) → Gives (tree.Plain line (tree.DeclareArray t x size))
array_gives line t x size p taken returns path k known kept (obeys, is) h = (is_new p taken x known kept.new, h p.regions is (known_named p taken known x kept.new (Array t size) tt))

-- ---- calls

may_drop : (result : ResultKind) → is_droppable result ≡ true → MayDrop result
may_drop NewGlobal h = absurd (cc)
may_drop NewWeak h = absurd (cc)
may_drop (GivesBuffer access) h = absurd (cc)
may_drop result h = tt

pub perform_gives : (line : ℕ) (c : Call) → Gives (tree.Plain line (tree.Perform c))
perform_gives line c p taken returns path k known kept (obeys, is) h =
    let s = tree.Plain line (tree.Perform c) in
    let call = call_there p taken returns s c known kept obeys refl refl in
    let both = and_parts (not (rules.is_push call.function)) (is_droppable (prototype call.function).result) (ap may_be_dropped (sym call.is_named) ∙ kept.fits) in
    let q = at p (after_call p.regions (function_called s)) in
    call_runs p s line Dropped c k call both.0
    (may_drop (prototype call.function).result both.1, h q.regions is (known_more q taken (taken ++ []) (covers_front taken []) (known_called p taken s known obeys)))

-- ---- declarations

-- a number is worked out for a variable
pub scalar_runs : (p : Point) (taken : List Identifier) (line : ℕ) (target : Target) (x : Identifier) (e : Expr) (s : ExprType) (k : Point → Type 0) → IsKnown p taken → IsNumberType s → type_of p.names e ≡ Some s → MayRead p.regions e → SetsNumber x s k p → RunsPlain (set_task line target x e) k p
scalar_runs p taken line target x (tree.Named Null) s k known number h read sets = absurd (cc)
scalar_runs p taken line target x e s k known number h read sets = (s, number, expression_fits p known.stated e s read h (number_is_value s number), sets)
