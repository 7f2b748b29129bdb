-- What is asked of a thread's next step holds where the thread is at a point from which its tasks go on.
use Rattle.std.proofs.Common.{◌≡◌, ◌≢◌, ℕ, ◌<◌, arith, Bool, true, false, ◌&&◌, ◌||◌, ◌⊎◌, inl, inr, List, [], ◌∷◌, ◌++◌, filter, flat_map, length, Option, Some, None, refl, sym, ap, ◌∙◌, subst, if◌then◌else◌}
use Rattle.std.specs.Prelude.{ℤ, IsTrue, ◌==◌}
use Rattle.std.specs.List.{list_any, AllByRecursion}
use Rattle.std.specs.Str.{bytes_eq}
use Rattle.std.proofs.lemmas.Bool.Decides.{nat_tests}
use Rattle.std.proofs.lemmas.Slice.Eq.{bytes_eq-Decides}
use Rattle.base.specs.Bytes.{Identifier, ByName, lookup}
use Rattle.syntax.specs.declared.expr.Constant.TheVariants as constants
use Rattle.jni.specs.declared.access.Access.{Access}
use Rattle.jni.specs.Access.{is_critical}
use Rattle.jni.specs.declared.function.JniFunction.{JniFunction}
use Rattle.jni.specs.declared.kinds.ParameterKind.{ParameterKind}
use Rattle.type_rules.specs.declared.ty.ExprType.{ExprType}
use Rattle.type_rules.specs.ExprTypes.{type_in}
use Rattle.type_rules.specs.declared.ty.ExprType.TheVariants as types
use Rattle.type_rules.specs.TypeGroups.{IsNumberType}
use Rattle.semantics.specs.Object.{Reference}
use Rattle.region_rules.specs.RegionRules.{is_critical_call}
use Rattle.region_rules.specs.RegionStates.{VariableState, Untested, Usable, ReferenceAt, BufferIn, state_of}
use Rattle.semantics.specs.Task as task
use Rattle.semantics.specs.Task.{Task, SetScalar, SetElement, Invoke, Print, Branch, Loop, Target, Declared, Assigned, Tested, Dropped, Operand}
use Rattle.semantics.specs.Term as term
use Rattle.semantics.specs.Term.{Term, Done, Read, IsNull, Prefix, And, Or, Binary}
use Rattle.semantics.specs.Thread.{Frame}
use Rattle.semantics.specs.Variable.{Variable, LocalRef, Elements, Buffer, NoBuffer, Copy, View, StaticReference, Variables, Statics, viewed}
use Rattle.semantics_safety.specs.Owners.{Owners, IsOwn}
use Rattle.semantics_safety.specs.Points as rule
use Rattle.semantics_safety.specs.Points.{Point, AreOnce, IsLive, IsUsable, NullTestFits, ElementsFit, ReferenceFits, AnyReferenceFits, HasType, PassedFits, OperandFits, OperandsFit, is_copy, owns, owners}
use Rattle.semantics_safety.specs.StepSafe.{MayMeetView, is_lent, references_at, IsAlive}
use Rattle.semantics_safety.specs.Stands.{VariableFits, IsOf, Shows, Stands}
use Rattle.semantics_safety.specs.Used.{term_names, operand_names, task_names}
use Rattle.semantics_safety.specs.Wanted.{Holds, HasNoView, MeetsViews, MayReturnFrom, ReturnedFits, ReturnFits, Runs}
use Rattle.semantics_safety.specs.WeakNames.{WeakNames}
use Rattle.semantics_safety.proofs.NameLaws.{front_same, front_other}

-- ---- all variables

-- what holds of each name's variable holds of all variables
pub each_variable : (P : Variable → Type 0) (vs : Variables) → AreOnce vs → ((x : Identifier) (v : Variable) → lookup x vs ≡ Some v → P v) → AllByRecursion (λ (e : Identifier × Variable). P e.1) vs
each_variable P [] once h = tt
each_variable P ((y, w) ∷ rest) once h =
    (h y w (front_same y w rest), each_variable P rest once.1 (λ x v e. h x v (front_other y x w rest (λ same. none_some (lookup y rest) v once.0 (subst (λ (z : Identifier). lookup z rest ≡ Some v) same e)) ∙ e)))
  where
    none_some : (o : Option Variable) (v : Variable) → o ≡ None → o ≡ Some v → ⊥
    none_some o v e f = cc

no_views_in : (vs : Variables) → AllByRecursion (λ (e : Identifier × Variable). viewed e.1 ≡ []) vs → flat_map (λ (v : Identifier × Variable). viewed v.1) vs ≡ []
no_views_in [] h = refl
no_views_in (e ∷ rest) h = ap (λ (l : List ℕ). l ++ flat_map (λ (v : Identifier × Variable). viewed v.1) rest) h.0 ∙ no_views_in rest h.1

none_lent_in : (vs : Variables) → AllByRecursion (λ (e : Identifier × Variable). is_lent e.1 ≡ false) vs → list_any (λ (v : Identifier × Variable). is_lent v.1) vs ≡ false
none_lent_in [] h = refl
none_lent_in (e ∷ rest) h = ap (λ (b : Bool). b || list_any (λ (v : Identifier × Variable). is_lent v.1) rest) h.0 ∙ none_lent_in rest h.1

module _ (ss : Statics) (vs : Variables) (frames : List Frame) (p : Point) {weak : WeakNames} {own : Owners} (stands : Stands weak own ss vs frames p) where
  -- ---- views

  view_of : (critical : Bool) (m n : ℕ) (b : Buffer) → IsOf critical m b → b ≡ View n → critical ≡ true
  view_of true m n b h e = refl
  view_of false m n b (zs, h) e = absurd (cc)

  -- a held buffer that is a view is critical
  shown_critical : (v : VariableState) (access : Access) (a : Identifier) (o : Option Variable) (u : _) (n : ℕ) → (v ≡ BufferIn (Untested access a)) ⊎ (v ≡ BufferIn (Usable access a)) → o ≡ Some (Elements u (View n)) → Shows vs v o → is_critical access ≡ true
  shown_critical v access a o u n (inl is) e h = untested (subst (λ (w : VariableState). Shows vs w o) is h)
    where
      no_buffer : (b : Buffer) (w : _) → o ≡ Some (Elements w b) → b ≡ View n
      no_buffer b w f = let c : Some (Elements w b) ≡ Some (Elements u (View n)) = sym f ∙ e in cc

      untested : Shows vs (BufferIn (Untested access a)) o → is_critical access ≡ true
      untested (w, b, f, inl none) = absurd (let c : b ≡ View n = no_buffer b w f in cc)
      untested (w, b, f, inr (m, level, at_a, is)) = view_of (is_critical access) m n b is (no_buffer b w f)
  shown_critical v access a o u n (inr is) e h = usable (subst (λ (w : VariableState). Shows vs w o) is h)
    where
      no_buffer : (b : Buffer) (w : _) → o ≡ Some (Elements w b) → b ≡ View n
      no_buffer b w f = let c : Some (Elements w b) ≡ Some (Elements u (View n)) = sym f ∙ e in cc

      usable : Shows vs (BufferIn (Usable access a)) o → is_critical access ≡ true
      usable (w, b, f, (m, level, at_a, is)) = view_of (is_critical access) m n b is (no_buffer b w f)

  held_critical : (x : Identifier) (access : Access) (a : Identifier) (u : _) (n : ℕ) → Holds p x access a → lookup x vs ≡ Some (Elements u (View n)) → is_critical access ≡ true
  held_critical x access a u n (inl h) e = shown_critical (BufferIn (Untested access a)) access a (lookup x vs) u n (inl refl) e (stands.shows x _ h)
  held_critical x access a u n (inr h) e = shown_critical (BufferIn (Usable access a)) access a (lookup x vs) u n (inr refl) e (stands.shows x _ h)

  not_viewed : HasNoView p → (x : Identifier) (v : Variable) → lookup x vs ≡ Some v → viewed v ≡ []
  not_viewed none x (Elements u (View n)) e = elim (stands.held x u (View n) e) [
    | inl free ↦ absurd (no_view n free)
    | inr h ↦ absurd (none x h.1 h.0 h.2 (held_critical x h.0 h.1 u n h.2 e))
  ]
    where
      no_view : (n : ℕ) → View n ≡ NoBuffer → ⊥
      no_view n e = cc
  not_viewed none x (Elements u NoBuffer) e = refl
  not_viewed none x (Elements u (Copy n zs)) e = refl
  not_viewed none x v e = refl

  -- without a critical buffer the thread has no view
  pub no_views : HasNoView p → flat_map (λ (v : Identifier × Variable). viewed v.1) vs ≡ []
  no_views none = no_views_in vs (each_variable (λ v. viewed v ≡ []) vs stands.once (not_viewed none))

  meets : (f : JniFunction) (b : Bool) → is_critical_call f ≡ b → MeetsViews p f → flat_map (λ (v : Identifier × Variable). viewed v.1) vs ≢ [] → IsTrue (is_critical_call f)
  meets f true e h view = e
  meets f false e h view = absurd (view (no_views (λ x a access held critical. let t : is_critical_call f ≡ true = h x a access held critical in let c : true ≡ false = sym t ∙ e in cc)))

  call_meets : (line : ℕ) (target : Target) (f : JniFunction) (operands : List Operand) (k : Point → Type 0) → Runs (Invoke line target f operands) k p → MeetsViews p f
  call_meets line (Tested a b) f operands k r = (r.0).views
  call_meets line (Declared kind x) f operands k r = (r.0).views
  call_meets line (Assigned x) f operands k r = (r.0).views
  call_meets line Dropped f operands k r = (r.0).views

  -- with a view, no call but the critical ones, and nothing printed
  pub view_clause : (t : Task) (k : Point → Type 0) → Runs t k p → flat_map (λ (v : Identifier × Variable). viewed v.1) vs ≢ [] → MayMeetView t
  view_clause (Invoke line target f operands) k r view = meets f (is_critical_call f) refl (call_meets line target f operands k r) view
  view_clause (Print line t) k r view = view (no_views r.1)
  view_clause t k r view = tt

  -- ---- returns

  not_lent : MayReturnFrom p → (x : Identifier) (v : Variable) → lookup x vs ≡ Some v → is_lent v ≡ false
  not_lent may x (Elements u (View n)) e = elim (stands.held x u (View n) e) [ inl free ↦ absurd (no_view n free) | inr h ↦ absurd (may.free x h.1 h.0 h.2) ]
    where
      no_view : (n : ℕ) → View n ≡ NoBuffer → ⊥
      no_view n e = cc
  not_lent may x (Elements u (Copy n zs)) e = elim (stands.held x u (Copy n zs) e) [ inl free ↦ absurd (no_copy n zs free) | inr h ↦ absurd (may.free x h.1 h.0 h.2) ]
    where
      no_copy : (n : ℕ) (zs : List ℤ) → Copy n zs ≡ NoBuffer → ⊥
      no_copy n zs e = cc
  not_lent may x (Elements u NoBuffer) e = refl
  not_lent may x v e = refl

  -- a return finds no copied list, no view and one frame
  pub return_clause : MayReturnFrom p → (list_any (λ (v : Identifier × Variable). is_lent v.1) vs ≡ false) × (length frames ≡ 1)
  return_clause may = (none_lent_in vs (each_variable (λ v. is_lent v ≡ false) vs stands.once (not_lent may)), stands.depth ∙ may.frames)

  -- ---- references

  first_or_later : (A : Type 0) (b : Bool) (v : A) (o : Option A) (w : A) → (if b then Some v else o) ≡ Some w → ((b ≡ true) × (v ≡ w)) ⊎ (o ≡ Some w)
  first_or_later A true v o w e = inl (refl, cc)
  first_or_later A false v o w e = inr e

  one_counted : (b : Bool) (e : Identifier × VariableState) (l : List (Identifier × VariableState)) → b ≡ true → 0 < length (if b then e ∷ l else l)
  one_counted true e l h = omega arith
  one_counted false e l h = absurd (cc)

  more_counted : (b : Bool) (e : Identifier × VariableState) (l : List (Identifier × VariableState)) → 0 < length l → 0 < length (if b then e ∷ l else l)
  more_counted true e l h = omega arith
  more_counted false e l h = h

  owner_there : (level n : ℕ) (x : Identifier) (known : ByName VariableState) → owns vs level n (x, ReferenceAt level true) ≡ true → lookup x known ≡ Some (ReferenceAt level true) → 0 < length (filter (owns vs level n) known)
  owner_there level n x [] own e = absurd (cc)
  owner_there level n x ((y, v) ∷ rest) own e = elim (first_or_later VariableState (bytes_eq x y) v (lookup x rest) (ReferenceAt level true) e) [
    | inl (same, is) ↦
        let name : x ≡ y = (bytes_eq-Decides x y).0 same in
        one_counted (owns vs level n (y, v)) (y, v) _ (subst (λ (w : VariableState). owns vs level n (y, w) ≡ true) (sym is) (subst (λ (z : Identifier). owns vs level n (z, ReferenceAt level true) ≡ true) name own))
    | inr later ↦ more_counted (owns vs level n (y, v)) (y, v) _ (owner_there level n x rest own later)
  ]

  same_pair : (level n : ℕ) → (level == level && n == n) ≡ true
  same_pair level n = grind (arith, nat_tests)

  some_copy : (n : ℕ) (names : List ℕ) → 0 < length (filter (λ m. n == m) names) → list_any (λ m. n == m) names ≡ true
  some_copy n [] h = absurd (omega (arith, h))
  some_copy n (m ∷ names) h = by_test (n == m) (some_copy n names) h
    where
      by_test : (b : Bool) → (0 < length (filter (λ m. n == m) names) → list_any (λ m. n == m) names ≡ true) → 0 < length (if b then m ∷ filter (λ m. n == m) names else filter (λ m. n == m) names) → (b || list_any (λ m. n == m) names) ≡ true
      by_test true later g = refl
      by_test false later g = later g

  -- a live reference has a copy in the frame of its level
  alive_at : (x : Identifier) (level : ℕ) (r : Reference) → state_of p.regions x ≡ Some (ReferenceAt level true) → lookup x vs ≡ Some (LocalRef level r) → IsAlive frames (Some (LocalRef level r))
  alive_at x level None e f = tt
  alive_at x level (Some n) e f =
      let own : owns vs level n (x, ReferenceAt level true) ≡ true = ap (is_copy level n) f ∙ same_pair level n in
      let there : 0 < owners p.regions vs level n = owner_there level n x p.regions.variables own e in
      let enough = stands.backed level n in
      some_copy n (references_at level frames) (omega (arith, there, enough))

  -- and is its variable's own
  own_at : (x : Identifier) (level : ℕ) (r : Reference) → state_of p.regions x ≡ Some (ReferenceAt level true) → lookup x vs ≡ Some (LocalRef level r) → IsOwn own x (Some (LocalRef level r))
  own_at x level None e f = tt
  own_at x level (Some n) e f = stands.owned x level level n e f

  abbrev Serves : Identifier → Option Variable → Type 0
  Serves x o = IsAlive frames o × IsOwn own x o

  abbrev Alive : Identifier → Type 0
  Alive x = Serves x (lookup x vs)

  live_alive : (x : Identifier) → IsLive p x → Alive x
  live_alive x (level, e) = let shown = stands.shows x _ e in subst (Serves x) (sym shown.1) (alive_at x level shown.0 e shown.1, own_at x level shown.0 e shown.1)

  other_alive : (x : Identifier) (s : ExprType) (o : Option Variable) (g : Option StaticReference) → (s ≡ types.Ref → ⊥) → VariableFits s o g → Serves x o
  other_alive x types.Ref o g away h = absurd (away refl)
  other_alive x types.Global o g away (none, h) = subst (Serves x) (sym none) (tt, tt)
  other_alive x types.Weak o g away (none, h) = subst (Serves x) (sym none) (tt, tt)
  other_alive x types.FieldId o g away (f, h) = subst (Serves x) (sym h) (tt, tt)
  other_alive x types.MethodId o g away (f, h) = subst (Serves x) (sym h) (tt, tt)
  other_alive x (types.Buffer t w) o g away (b, h) = subst (Serves x) (sym h) (tt, tt)
  other_alive x (types.Array t size) o g away (zs, h) = subst (Serves x) (sym h) (tt, tt)
  other_alive x types.Truth o g away h = absurd h
  other_alive x types.Word o g away (v, h, f) = subst (Serves x) (sym h) (tt, tt)
  other_alive x types.Jint o g away (v, h, f) = subst (Serves x) (sym h) (tt, tt)
  other_alive x types.Flag o g away (v, h, f) = subst (Serves x) (sym h) (tt, tt)

  no_ref : (s : ExprType) → IsNumberType s → s ≡ types.Ref → ⊥
  no_ref s h e = subst IsNumberType e h

  null_alive : (x : Identifier) (o : Option ExprType) → type_in p.names x ≡ o → NullTestFits p x o → Alive x
  null_alive x (Some types.Ref) e h = live_alive x h
  null_alive x (Some types.Global) e h = other_alive x types.Global (lookup x vs) (lookup x ss) (λ c. cc) (stands.types x types.Global e)
  null_alive x (Some types.FieldId) e h = other_alive x types.FieldId (lookup x vs) (lookup x ss) (λ c. cc) (stands.types x types.FieldId e)
  null_alive x (Some types.MethodId) e h = other_alive x types.MethodId (lookup x vs) (lookup x ss) (λ c. cc) (stands.types x types.MethodId e)
  null_alive x (Some (types.Buffer t w)) e h = other_alive x (types.Buffer t w) (lookup x vs) (lookup x ss) (λ c. cc) (stands.types x (types.Buffer t w) e)
  null_alive x o e h = absurd h

  element_alive : (x : Identifier) (o : Option ExprType) → type_in p.names x ≡ o → ElementsFit p x o → Alive x
  element_alive x (Some (types.Buffer t w)) e h = other_alive x (types.Buffer t w) (lookup x vs) (lookup x ss) (λ c. cc) (stands.types x (types.Buffer t w) e)
  element_alive x (Some (types.Array t n)) e h = other_alive x (types.Array t n) (lookup x vs) (lookup x ss) (λ c. cc) (stands.types x (types.Array t n) e)
  element_alive x o e h = absurd h

  reference_alive : (x : Identifier) (o : Option ExprType) → type_in p.names x ≡ o → ReferenceFits p x o → Alive x
  reference_alive x (Some types.Ref) e h = live_alive x h
  reference_alive x (Some types.Global) e h = other_alive x types.Global (lookup x vs) (lookup x ss) (λ c. cc) (stands.types x types.Global e)
  reference_alive x o e h = absurd h

  any_reference_alive : (x : Identifier) (o : Option ExprType) → type_in p.names x ≡ o → AnyReferenceFits p x o → Alive x
  any_reference_alive x (Some types.Ref) e h = live_alive x h
  any_reference_alive x (Some types.Global) e h = other_alive x types.Global (lookup x vs) (lookup x ss) (λ c. cc) (stands.types x types.Global e)
  any_reference_alive x (Some types.Weak) e h = other_alive x types.Weak (lookup x vs) (lookup x ss) (λ c. cc) (stands.types x types.Weak e)
  any_reference_alive x o e h = absurd h

  both_alive : (xs ys : List Identifier) → AllByRecursion Alive xs → AllByRecursion Alive ys → AllByRecursion Alive (xs ++ ys)
  both_alive [] ys h g = g
  both_alive (x ∷ xs) ys h g = (h.0, both_alive xs ys h.1 g)

  term_alive : (t : Term) (s : ExprType) → HasType p t s → AllByRecursion Alive (term_names t)
  term_alive (Done v) s h = tt
  term_alive (term.Number n unsigned) s h = tt
  term_alive (term.Named c) s h = tt
  term_alive (Read x) s h = (other_alive x s (lookup x vs) (lookup x ss) (no_ref s h.1) (stands.types x s h.0), tt)
  term_alive (term.Element x t) s h = (element_alive x (type_in p.names x) refl h.0, term_alive t h.1.0 h.1.2)
  term_alive (IsNull equal x) s h = (null_alive x (type_in p.names x) refl h.0, tt)
  term_alive (Prefix op t) s h = term_alive t h.0 h.2
  term_alive (And a b) s h = both_alive (term_names a) (term_names b) (term_alive a types.Truth h.0) (term_alive b types.Truth h.1)
  term_alive (Or a b) s h = both_alive (term_names a) (term_names b) (term_alive a types.Truth h.0) (term_alive b types.Truth h.1)
  term_alive (Binary op a b) s h = both_alive (term_names a) (term_names b) (term_alive a h.0 h.2) (term_alive b h.0 h.3)

  -- ---- arguments

  type_alive : (x : Identifier) (s : ExprType) → (s ≡ types.Ref → ⊥) → type_in p.names x ≡ Some s → Alive x
  type_alive x s away e = other_alive x s (lookup x vs) (lookup x ss) away (stands.types x s e)

  usable_alive : (x : Identifier) → IsUsable p x → Alive x
  usable_alive x (access, a, e) = let shown = stands.shows x _ e in subst (Serves x) (sym shown.2) (tt, tt)

  passed_alive : (x : Identifier) (o : Option ExprType) → type_in p.names x ≡ o → PassedFits p x o → Alive x
  passed_alive x (Some types.Jint) e h = type_alive x types.Jint (λ c. cc) e
  passed_alive x (Some types.Ref) e h = live_alive x h
  passed_alive x (Some types.Global) e h = type_alive x types.Global (λ c. cc) e
  passed_alive x o e h = absurd h

  typed_alive : (x : Identifier) {s : ExprType} → (s ≡ types.Ref → ⊥) → type_in p.names x ≡ Some s → AllByRecursion Alive (x ∷ [])
  typed_alive x {s} away e = (type_alive x s away e, tt)

  operand_alive : {parameter : ParameterKind} {o : Operand} → OperandFits p parameter o → AllByRecursion Alive (operand_names o)
  operand_alive (rule.number {t = t} h) = term_alive t types.Jint h
  operand_alive (rule.passed_number {t = t} h) = term_alive t types.Jint h
  operand_alive (rule.passed_name {x = x} h) = (passed_alive x (type_in p.names x) refl h, tt)
  operand_alive (rule.reference takes (rule.named {x = x} h)) = (reference_alive x (type_in p.names x) refl h, tt)
  operand_alive (rule.any_reference (rule.named {x = x} h)) = (any_reference_alive x (type_in p.names x) refl h, tt)
  operand_alive (rule.local {x = x} h) = (live_alive x h, tt)
  operand_alive (rule.buffer {x = x} h) = (usable_alive x h, tt)
  operand_alive (rule.global {x = x} e) = typed_alive x (λ c. cc) e
  operand_alive (rule.weak {x = x} e) = typed_alive x (λ c. cc) e
  operand_alive (rule.array {x = x} e) = typed_alive x (λ c. cc) e
  operand_alive (rule.field (rule.named {x = x} e)) = typed_alive x (λ c. cc) e
  operand_alive (rule.method (rule.named {x = x} e)) = typed_alive x (λ c. cc) e
  operand_alive (rule.told {x = x} e) = typed_alive x (λ c. cc) e
  operand_alive h = tt

  operands_alive : {parameters : List ParameterKind} {operands : List Operand} → OperandsFit p parameters operands → AllByRecursion Alive (flat_map operand_names operands)
  operands_alive rule.done = tt
  operands_alive (rule.next {o = o} {operands = operands} h rest) = both_alive (operand_names o) (flat_map operand_names operands) (operand_alive h) (operands_alive rest)

  returned_alive : (x : Identifier) (o : Option ExprType) → type_in p.names x ≡ o → ReturnedFits p x o → Alive x
  returned_alive x (Some types.Ref) e h = live_alive x h
  returned_alive x (Some types.Jint) e h = type_alive x types.Jint (λ c. cc) e
  returned_alive x o e h = absurd h

  return_alive : (t : Term) → ReturnFits p t → AllByRecursion Alive (term_names t)
  return_alive (term.Named constants.Null) h = tt
  return_alive (term.Named constants.True) h = tt
  return_alive (term.Named constants.False) h = tt
  return_alive (term.Named constants.Commit) h = tt
  return_alive (term.Named constants.Abort) h = tt
  return_alive (Read x) h = (returned_alive x (type_in p.names x) refl h, tt)
  return_alive (Done v) h = tt
  return_alive (term.Number n unsigned) h = tt
  return_alive (term.Element x t) h = term_alive (term.Element x t) types.Jint h
  return_alive (IsNull equal x) h = term_alive (IsNull equal x) types.Jint h
  return_alive (Prefix op t) h = term_alive (Prefix op t) types.Jint h
  return_alive (And a b) h = term_alive (And a b) types.Jint h
  return_alive (Or a b) h = term_alive (Or a b) types.Jint h
  return_alive (Binary op a b) h = term_alive (Binary op a b) types.Jint h

  call_alive : (line : ℕ) (target : Target) (f : JniFunction) (operands : List Operand) (k : Point → Type 0) → Runs (Invoke line target f operands) k p → AllByRecursion Alive (flat_map operand_names operands)
  call_alive line (Tested a b) f operands k r = operands_alive (r.0).types
  call_alive line (Declared kind x) f operands k r = operands_alive (r.0).types
  call_alive line (Assigned x) f operands k r = operands_alive (r.0).types
  call_alive line Dropped f operands k r = operands_alive (r.0).types

  -- each name that a step uses
  each_used : (t : Task) (k : Point → Type 0) → Runs t k p → AllByRecursion Alive (task_names t)
  each_used (SetScalar line x t) k (s, n, f, g) = term_alive t s f
  each_used (SetElement line x i t) k (fit, (r, n, f), g, h) = (element_alive x (type_in p.names x) refl fit, both_alive (term_names i) (term_names t) (term_alive i r f) (term_alive t types.Jint g))
  each_used (Invoke line target f operands) k r = call_alive line target f operands k r
  each_used (Print line t) k r = term_alive t types.Jint r.0
  each_used (Branch line t a b) k r = term_alive t types.Truth r.0
  each_used (Loop line e t body) k r = term_alive t types.Truth r.0
  each_used (task.ReturnValue line t) k r = return_alive t r.0
  each_used t k r = tt

  firsts : (xs : List Identifier) → AllByRecursion Alive xs → AllByRecursion (λ x. IsAlive frames (lookup x vs)) xs
  firsts [] h = tt
  firsts (x ∷ xs) h = (h.0.0, firsts xs h.1)

  seconds : (xs : List Identifier) → AllByRecursion Alive xs → AllByRecursion (λ x. IsOwn own x (lookup x vs)) xs
  seconds [] h = tt
  seconds (x ∷ xs) h = (h.0.1, seconds xs h.1)

  -- a step uses no dead reference
  pub reference_clause : (t : Task) (k : Point → Type 0) → Runs t k p → AllByRecursion (λ x. IsAlive frames (lookup x vs)) (task_names t)
  reference_clause t k r = firsts (task_names t) (each_used t k r)

  -- nor one that isn't its variable's own
  pub owned_clause : (t : Task) (k : Point → Type 0) → Runs t k p → AllByRecursion (λ x. IsOwn own x (lookup x vs)) (task_names t)
  owned_clause t k r = seconds (task_names t) (each_used t k r)
