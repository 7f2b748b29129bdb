-- A call that keeps the rules of types and regions fits at its point.
use Rattle.std.proofs.Common.{◌≡◌, ℕ, suc, ◌<◌, arith, inl, inr, Bool, true, false, not, ◌&&◌, ◌||◌, List, [], ◌∷◌, ◌++◌, map, length, nat_le, Option, Some, None, refl, sym, ap, ◌∙◌, subst, if◌then◌else◌}
use Rattle.std.specs.Prelude.{flat_map, filter_map, zip}
use Rattle.std.specs.List.{list_any, cons_option}
use Rattle.std.specs.Option.{option_and_then, option_to_list}
use Rattle.std.specs.Str.{bytes_eq}
use Rattle.std.proofs.lemmas.Bool.{and_parts, or_parts, both_ways, not-false, or_right, false_from_ne_true, eq-eqb}
use Rattle.std.proofs.lemmas.Bool.Decides.{nat_tests}
use Rattle.std.proofs.lemmas.List.{length-map}
use Rattle.std.proofs.lemmas.Slice.Eq.{bytes_eq-Decides}
use Rattle.base.specs.Bytes.{Identifier, ByName, lookup}
use Rattle.base.specs.declared.element.ElementType.{ElementType}
use Rattle.base.specs.Options.{some_passes}
use Rattle.syntax.specs.Parts.{names_in, elements_in, argument_expressions, own_expressions, own_call, used_names, addresses_in, written_name, assigned_name}
use Rattle.syntax.specs.Tree.{Variable, Argument, Value, Stmt}
use Rattle.jni.specs.declared.access.Access.{Access}
use Rattle.jni.specs.declared.access.Access.TheVariants.{ElementsCopy, ArrayView, CharsCopy, CharsView}
use Rattle.jni.specs.Access.{is_critical, same_access}
use Rattle.jni.specs.declared.function.JniFunction.{JniFunction}
use Rattle.jni.specs.declared.function.JniFunction.TheVariants.{GetBuffer, ReleaseBuffer, DeleteLocalRef, PopLocalFrame}
use Rattle.jni.specs.JniFunction.{calls_method, parameters_for, takes_count, prototype}
use Rattle.jni.specs.declared.kinds.ParameterKind.{ParameterKind}
use Rattle.jni.specs.declared.kinds.ParameterKind.TheVariants.{IntNumber, LocalVariable, Passed, BufferVariable, Mode}
use Rattle.jni.specs.Prototype.{owner, release_mode}
use Rattle.type_rules.specs.ExprTypes.{arguments_fit}
use Rattle.type_rules.specs.TypeRules.{modes_fit}
use Rattle.type_rules.proofs.TypeTests.{same_types}
use Rattle.type_rules.proofs.CallParameters.{parameters_count, modes_of_all}
use Rattle.region_rules.specs.declared.rule.RegionRule.{RegionRule}
use Rattle.region_rules.specs.declared.rule.RegionRule.TheVariants.{CallWhileCritical, UntestedBuffer, WrongBuffer, PopLastFrame, DeadReference, ArrayInUse}
use Rattle.region_rules.specs.RegionRules.{is_put_jint, is_critical_call, is_dead, is_reference_now, is_untested, is_free, is_mismatched, is_array_in_use, is_level, breaks_region_rule, Obeys}
use Rattle.region_rules.specs.RegionStates.{VariableState, BufferState, Untested, Usable, ReferenceAt, BufferIn, RegionState, state_of, buffer_of, held_by, held_buffers, FunctionCall, function_called, argument_name, get_of, has_commit, Release, release_of, deleted_name, pops, after_call}
use Rattle.region_rules.proofs.KeptRules.{kept}
use Rattle.semantics.specs.Task.{Operand, operand, Given}
use Rattle.semantics_safety.specs.Points.{Point, OperandFits, OperandsFit, next, done, local, buffer, reference}
use Rattle.semantics_safety.specs.Wanted.{Holds, CallKeeps, MeetsViews, CallFits, operand_argument, call_seen}
use Rattle.semantics_safety.proofs.ArgumentFits.{MayReadAll, both_read, BufferTested, BuffersTested, operands_fit}
use Rattle.semantics_safety.proofs.ExpressionFits.{AreStated, none_of_both}
use Rattle.semantics_safety.proofs.Parameters.{none_among, own_parameters}

-- ---- tests, turned round

pub second_fails : (a b : Bool) → (a && b) ≡ false → a ≡ true → b ≡ false
second_fails true b h e = h
second_fails false b h e = absurd (cc)

first_fails : (a b : Bool) → (a && b) ≡ false → b ≡ true → a ≡ false
first_fails true b h e = sym e ∙ h
first_fails false b h e = refl

access_same : (a b : Access) → same_access a b ≡ true → b ≡ a
access_same (ElementsCopy t) (ElementsCopy u) h = ap (λ (v : ElementType). ElementsCopy v) (same_types t u h)
access_same ArrayView ArrayView h = refl
access_same CharsCopy CharsCopy h = refl
access_same CharsView CharsView h = refl
access_same a b h = absurd (cc)

-- ---- what a statement that keeps the rules of regions reads

-- a rule that isn't broken
pub unbroken : (regions : RegionState) (s : Stmt) (rule : RegionRule) → Obeys regions s → breaks_region_rule rule regions s ≡ false
unbroken regions s rule obeys = false_from_ne_true (breaks_region_rule rule regions s) (kept regions s rule obeys)

pub statement_reads : (regions : RegionState) (s : Stmt) → Obeys regions s → MayReadAll regions (own_expressions s)
statement_reads regions s obeys =
    let written = option_to_list (written_name s) in
    let names = flat_map names_in (own_expressions s) in
    let addresses = addresses_in (own_call s) in
    let dead = none_of_both (λ x. is_dead (state_of regions x)) (written ++ names) addresses (unbroken regions s DeadReference obeys) in
    let wrong = or_parts (list_any (λ x. is_free (state_of regions x)) (used_names s)) _ (unbroken regions s WrongBuffer obeys) in
    let free = none_of_both (λ x. is_free (state_of regions x)) (written ++ names) addresses wrong.0 in
    let bare = or_parts (list_any (λ x. is_untested (state_of regions x)) (flat_map elements_in (own_expressions s) ++ written)) _ (unbroken regions s UntestedBuffer obeys) in
    record {
      alive = (none_of_both (λ x. is_dead (state_of regions x)) written names dead.0).1;
      unfree = (none_of_both (λ x. is_free (state_of regions x)) written names free.0).1;
      tested = (none_of_both (λ x. is_untested (state_of regions x)) (flat_map elements_in (own_expressions s)) written bare.0).0;
    }

-- ---- held buffers

later_any : (q : Access × Identifier → Bool) (o : Option (Access × Identifier)) (rest : List (Access × Identifier)) → list_any q rest ≡ true → list_any q (cons_option o rest) ≡ true
later_any q None rest h = h
later_any q (Some e) rest h = or_right (q e) (list_any q rest) h

first_any : (q : Access × Identifier → Bool) (e : Access × Identifier) (rest : List (Access × Identifier)) → q e ≡ true → list_any q (e ∷ rest) ≡ true
first_any q e rest h = ap (λ (b : Bool). b || list_any q rest) h

held_any : (q : Access × Identifier → Bool) (x : Identifier) (b : BufferState) (e : Access × Identifier) (vs : ByName VariableState) → held_by b ≡ Some e → lookup x vs ≡ Some (BufferIn b) → q e ≡ true
    → list_any q (filter_map (λ v. option_and_then held_by (buffer_of v.1)) vs) ≡ true
held_any q x b e [] held at h = absurd (cc)
held_any q x b e ((y, v) ∷ vs) held at h = by_test (bytes_eq x y) at (λ there. held_any q x b e vs held there h)
  where
    others : List (Access × Identifier)
    others = filter_map (λ v. option_and_then held_by (buffer_of v.1)) vs

    by_test : (t : Bool) → (if t then Some v else lookup x vs) ≡ Some (BufferIn b) → (lookup x vs ≡ Some (BufferIn b) → list_any q (filter_map (λ v. option_and_then held_by (buffer_of v.1)) vs) ≡ true)
        → list_any q (cons_option (option_and_then held_by (buffer_of v)) (filter_map (λ v. option_and_then held_by (buffer_of v.1)) vs)) ≡ true
    by_test true is later =
        let same : v ≡ BufferIn b = cc in
        let there : option_and_then held_by (buffer_of v) ≡ Some e = ap (λ (w : VariableState). option_and_then held_by (buffer_of w)) same ∙ held in
        subst (λ (o : Option (Access × Identifier)). list_any q (cons_option o (filter_map (λ v. option_and_then held_by (buffer_of v.1)) vs)) ≡ true) (sym there)
        (first_any q e (filter_map (λ v. option_and_then held_by (buffer_of v.1)) vs) h)
    by_test false is later = later_any q (option_and_then held_by (buffer_of v)) (filter_map (λ v. option_and_then held_by (buffer_of v.1)) vs) (later is)

-- a buffer that is held is among those that are
pub holds_any : (p : Point) (q : Access × Identifier → Bool) (x : Identifier) (access : Access) (a : Identifier) → Holds p x access a → q (access, a) ≡ true → list_any q (held_buffers p.regions) ≡ true
holds_any p q x access a (inl h) e = held_any q x (Untested access a) (access, a) p.regions.variables refl h e
holds_any p q x access a (inr h) e = held_any q x (Usable access a) (access, a) p.regions.variables refl h e

-- where none of the held buffers passes, none that is held does
pub none_holds : (p : Point) (q : Access × Identifier → Bool) → list_any q (held_buffers p.regions) ≡ false → (x : Identifier) (access : Access) (a : Identifier) → Holds p x access a → q (access, a) ≡ true → ⊥
none_holds p q none x access a h e = both_ways (list_any q (held_buffers p.regions)) none (holds_any p q x access a h e)

-- ---- arguments, as the rules see them

-- a number, or what may be one
is_number : ParameterKind → Bool
is_number IntNumber = true
is_number Passed = true
is_number parameter = false

seen_one : (parameter : ParameterKind) (a : Argument) → is_number parameter ≡ false → operand_argument (operand (parameter, a)) ≡ a
unfolding is_number
seen_one IntNumber a h = absurd (cc)
seen_one Passed a h = absurd (cc)
seen_one parameter a h = refl

seen_same : (parameters : List ParameterKind) (arguments : List Argument) → length arguments ≡ length parameters → list_any is_number parameters ≡ false → map operand_argument (map operand (zip parameters arguments)) ≡ arguments
seen_same [] [] count none = refl
seen_same [] (a ∷ arguments) count none = absurd (cc)
seen_same (parameter ∷ parameters) [] count none = absurd (cc)
seen_same (parameter ∷ parameters) (a ∷ arguments) count none =
    let both = or_parts (is_number parameter) (list_any is_number parameters) none in
    let later : length arguments ≡ length parameters = cc in
    ap (λ (b : Argument). b ∷ map operand_argument (map operand (zip parameters arguments))) (seen_one parameter a both.0) ∙ ap (λ (l : List Argument). a ∷ l) (seen_same parameters arguments later both.1)

get_unnumbered : (access : Access) → list_any is_number (prototype (GetBuffer access)).parameters ≡ false
unfolding is_number
get_unnumbered (ElementsCopy t) = refl
get_unnumbered ArrayView = refl
get_unnumbered CharsCopy = refl
get_unnumbered CharsView = refl

release_unnumbered : (access : Access) → list_any is_number (prototype (ReleaseBuffer access)).parameters ≡ false
unfolding is_number
release_unnumbered (ElementsCopy t) = refl
release_unnumbered ArrayView = refl
release_unnumbered CharsCopy = refl
release_unnumbered CharsView = refl

delete_unnumbered : list_any is_number (prototype DeleteLocalRef).parameters ≡ false
unfolding is_number
delete_unnumbered = refl

pop_unnumbered : list_any is_number (prototype PopLocalFrame).parameters ≡ false
unfolding is_number
pop_unnumbered = refl

-- the operands of a call
abbrev pub operands_of : JniFunction → List Argument → List Operand
operands_of f arguments = map operand (zip (parameters_for f (length arguments)) arguments)

module _ (arguments : List Argument) where
  unnumbered : (f : JniFunction) → calls_method f ≡ false → list_any is_number (prototype f).parameters ≡ false → list_any is_number (parameters_for f (length arguments)) ≡ false
  unnumbered f plain h = subst (λ (l : List ParameterKind). list_any is_number l ≡ false) (sym (own_parameters f (length arguments) plain)) h

  abbrev seen_by : JniFunction → List Argument
  seen_by f = map operand_argument (operands_of f arguments)

  -- what a call leaves of a state
  pub after_same : (regions : RegionState) (f : JniFunction) → length arguments ≡ length (parameters_for f (length arguments)) → after_call regions (call_seen f (operands_of f arguments)) ≡ after_call regions (Some (f, arguments))
  after_same regions (ReleaseBuffer access) count = ap (λ (l : List Argument). after_call regions (Some (ReleaseBuffer access, l))) (seen_same (parameters_for (ReleaseBuffer access) (length arguments)) arguments count (unnumbered (ReleaseBuffer access) refl (release_unnumbered access)))
  after_same regions DeleteLocalRef count = ap (λ (l : List Argument). after_call regions (Some (DeleteLocalRef, l))) (seen_same (parameters_for DeleteLocalRef (length arguments)) arguments count (unnumbered DeleteLocalRef refl delete_unnumbered))
  after_same regions PopLocalFrame count = refl
  after_same regions f count = refl

  -- what a call gets
  pub get_same : (f : JniFunction) → length arguments ≡ length (parameters_for f (length arguments)) → get_of (call_seen f (operands_of f arguments)) ≡ get_of (Some (f, arguments))
  get_same (GetBuffer access) count = ap (λ (l : List Argument). get_of (Some (GetBuffer access, l))) (seen_same (parameters_for (GetBuffer access) (length arguments)) arguments count (unnumbered (GetBuffer access) refl (get_unnumbered access)))
  get_same f count = refl

  keeps_seen : (p : Point) (f : JniFunction) → length arguments ≡ length (parameters_for f (length arguments)) → CallKeeps p f arguments → CallKeeps p f (seen_by f)
  keeps_seen p (GetBuffer access) count h = subst (CallKeeps p (GetBuffer access)) (sym (seen_same (parameters_for (GetBuffer access) (length arguments)) arguments count (unnumbered (GetBuffer access) refl (get_unnumbered access)))) h
  keeps_seen p (ReleaseBuffer access) count h = subst (CallKeeps p (ReleaseBuffer access)) (sym (seen_same (parameters_for (ReleaseBuffer access) (length arguments)) arguments count (unnumbered (ReleaseBuffer access) refl (release_unnumbered access)))) h
  keeps_seen p DeleteLocalRef count h = subst (CallKeeps p DeleteLocalRef) (sym (seen_same (parameters_for DeleteLocalRef (length arguments)) arguments count (unnumbered DeleteLocalRef refl delete_unnumbered))) h
  keeps_seen p PopLocalFrame count h = subst (CallKeeps p PopLocalFrame) (sym (seen_same (parameters_for PopLocalFrame (length arguments)) arguments count (unnumbered PopLocalFrame refl pop_unnumbered))) h
  keeps_seen p f count h = tt

-- ---- the rules of regions, by the call

module _ (p : Point) (s : Stmt) (obeys : Obeys p.regions s) (f : JniFunction) (arguments : List Argument) (called : function_called s ≡ Some (f, arguments)) where
  -- while a buffer is critical, only critical calls are made
  pub views_met : MeetsViews p f
  views_met x a access h critical =
      let rule = unbroken p.regions s CallWhileCritical obeys in
      let any = holds_any p (λ held. is_critical held.0) x access a h critical in
      let both = second_fails (list_any (λ held. is_critical held.0) (held_buffers p.regions)) (is_put_jint s || some_passes (λ call. not (is_critical_call call.0)) (function_called s)) rule any in
      let call = (or_parts (is_put_jint s) (some_passes (λ call. not (is_critical_call call.0)) (function_called s)) both).1 in
      not-false (is_critical_call f) (ap (some_passes (λ (c : FunctionCall). not (is_critical_call c.0))) (sym called) ∙ call)

  -- ---- a Get

  -- no Get is of another than a local reference
  get_rule : some_passes (λ get. not (some_passes (λ x. is_reference_now (state_of p.regions x)) get.1)) (get_of (Some (f, arguments))) ≡ false
  get_rule =
      let rule = or_parts _ (some_passes (λ get. not (some_passes (λ x. is_reference_now (state_of p.regions x)) get.1)) (get_of (function_called s))) (unbroken p.regions s ArrayInUse obeys) in
      ap (λ (c : Option FunctionCall). some_passes (λ get. not (some_passes (λ x. is_reference_now (state_of p.regions x)) get.1)) (get_of c)) (sym called) ∙ rule.1

  -- ---- a release

  tested_rule : some_passes (λ release. some_passes (λ x. is_untested (state_of p.regions x)) release.buffer) (release_of (Some (f, arguments))) ≡ false
  tested_rule =
      let rule = or_parts _ (some_passes (λ release. some_passes (λ x. is_untested (state_of p.regions x)) release.buffer) (release_of (function_called s))) (unbroken p.regions s UntestedBuffer obeys) in
      ap (λ (c : Option FunctionCall). some_passes (λ release. some_passes (λ x. is_untested (state_of p.regions x)) release.buffer) (release_of c)) (sym called) ∙ rule.1

  release_rule : some_passes (λ release. (release.commits && is_critical release.access) || some_passes (λ x. is_mismatched release (state_of p.regions x)) release.buffer) (release_of (Some (f, arguments))) ≡ false
  release_rule =
      let rule = or_parts _ (some_passes (λ release. (release.commits && is_critical release.access) || some_passes (λ x. is_mismatched release (state_of p.regions x)) release.buffer) (release_of (function_called s))) (unbroken p.regions s WrongBuffer obeys) in
      ap (λ (c : Option FunctionCall). some_passes (λ release. (release.commits && is_critical release.access) || some_passes (λ x. is_mismatched release (state_of p.regions x)) release.buffer) (release_of c)) (sym called) ∙ rule.1

  -- ---- a deleted reference

  deleted_rule : some_passes (is_array_in_use p.regions) (deleted_name (Some (f, arguments))) ≡ false
  deleted_rule =
      let one = or_parts _ (some_passes (λ get. not (some_passes (λ x. is_reference_now (state_of p.regions x)) get.1)) (get_of (function_called s))) (unbroken p.regions s ArrayInUse obeys) in
      let two = or_parts _ (pops (function_called s) && list_any (λ held. is_level p.regions.frames (state_of p.regions held.1)) (held_buffers p.regions)) one.0 in
      let three = or_parts (some_passes (is_array_in_use p.regions) (assigned_name s)) (some_passes (is_array_in_use p.regions) (deleted_name (function_called s))) two.0 in
      ap (λ (c : Option FunctionCall). some_passes (is_array_in_use p.regions) (deleted_name c)) (sym called) ∙ three.1

  -- ---- a frame that ends

  popped_rule : (pops (Some (f, arguments)) && list_any (λ held. is_level p.regions.frames (state_of p.regions held.1)) (held_buffers p.regions)) ≡ false
  popped_rule =
      let one = or_parts _ (some_passes (λ get. not (some_passes (λ x. is_reference_now (state_of p.regions x)) get.1)) (get_of (function_called s))) (unbroken p.regions s ArrayInUse obeys) in
      let two = or_parts _ (pops (function_called s) && list_any (λ held. is_level p.regions.frames (state_of p.regions held.1)) (held_buffers p.regions)) one.0 in
      ap (λ (c : Option FunctionCall). pops c && list_any (λ held. is_level p.regions.frames (state_of p.regions held.1)) (held_buffers p.regions)) (sym called) ∙ two.1

  last_rule : (pops (Some (f, arguments)) && nat_le p.regions.frames 1) ≡ false
  last_rule = ap (λ (c : Option FunctionCall). pops c && nat_le p.regions.frames 1) (sym called) ∙ unbroken p.regions s PopLastFrame obeys

-- ---- what each call asks

live_now : (o : Option VariableState) → is_reference_now o ≡ true → is_dead o ≡ false → (level : ℕ) × (o ≡ Some (ReferenceAt level true))
live_now (Some (ReferenceAt level true)) h alive = (level, refl)
live_now (Some (ReferenceAt level false)) h alive = absurd (cc)
live_now o h alive = absurd (cc)

above_one : (n : ℕ) → nat_le n 1 ≡ false → 1 < n
above_one n h = grind (arith, nat_tests, h)

some_name : (q : Identifier → Bool) (a : Argument) → some_passes q (argument_name a) ≡ true → (x : Identifier) × (a ≡ Value (Variable x)) × (q x ≡ true)
some_name q (Value (Variable x)) h = (x, refl, h)
some_name q a h = absurd (cc)

module _ (p : Point) where
  get_keeps : (access : Access) (arguments : List Argument) → MayReadAll p.regions (flat_map argument_expressions arguments)
      → some_passes (λ get. not (some_passes (λ x. is_reference_now (state_of p.regions x)) get.1)) (get_of (Some (GetBuffer access, arguments))) ≡ false → CallKeeps p (GetBuffer access) arguments
  get_keeps access [] read rule = absurd (cc)
  get_keeps access (a ∷ rest) read rule =
      let found = some_name (λ x. is_reference_now (state_of p.regions x)) a (not-false (some_passes (λ x. is_reference_now (state_of p.regions x)) (argument_name a)) rule) in
      let parts = both_read p.regions (argument_expressions a) (flat_map argument_expressions rest) read in
      let own : MayReadAll p.regions (Variable found.0 ∷ []) = subst (λ (b : Argument). MayReadAll p.regions (argument_expressions b)) found.1 parts.0 in
      let alive = (or_parts (is_dead (state_of p.regions found.0)) false own.alive).0 in
      subst (λ (b : Argument). CallKeeps p (GetBuffer access) (b ∷ rest)) (sym found.1) (live_now (state_of p.regions found.0) found.2 alive)

  release_keeps : (access : Access) (o : Argument) {b : Argument} (modes : List Argument) → OperandFits p (BufferVariable access) (Given b)
      → some_passes (λ release. (release.commits && is_critical release.access) || some_passes (λ x. is_mismatched release (state_of p.regions x)) release.buffer) (release_of (Some (ReleaseBuffer access, o ∷ b ∷ modes))) ≡ false
      → CallKeeps p (ReleaseBuffer access) (o ∷ b ∷ modes)
  release_keeps access o modes (buffer {x = x} (own, a, at)) rule =
      let release : Release = record { access = access; object = argument_name o; buffer = Some x; commits = has_commit modes } in
      let both = or_parts (has_commit modes && is_critical access) (is_mismatched release (state_of p.regions x)) rule in
      let matched : is_mismatched release (Some (BufferIn (Usable own a))) ≡ false = subst (λ (v : Option VariableState). is_mismatched release v ≡ false) at both.1 in
      let right = and_parts (same_access access own) (some_passes (bytes_eq a) (argument_name o)) (not-false (same_access access own && some_passes (bytes_eq a) (argument_name o)) matched) in
      let same = access_same access own right.0 in
      let found = some_name (bytes_eq a) o right.1 in
      let array : a ≡ found.0 = (bytes_eq-Decides a found.0).0 found.2 in
      let held : state_of p.regions x ≡ Some (BufferIn (Usable access found.0)) =
      at ∙ ap (λ (c : Access). Some (BufferIn (Usable c a))) same ∙ ap (λ (y : Identifier). Some (BufferIn (Usable access y))) array in
      subst (λ (c : Argument). CallKeeps p (ReleaseBuffer access) (c ∷ Value (Variable x) ∷ modes)) (sym found.1) (held, λ commits. second_fails (has_commit modes) (is_critical access) both.0 commits)
  release_keeps access o modes (reference takes h) rule = elim takes [ ]

  delete_keeps : {a : Argument} → OperandFits p LocalVariable (Given a) → some_passes (is_array_in_use p.regions) (deleted_name (Some (DeleteLocalRef, a ∷ []))) ≡ false → CallKeeps p DeleteLocalRef (a ∷ [])
  delete_keeps (local {x = x} h) rule = λ y access held. none_holds p (λ e. bytes_eq e.1 x) rule y access x held ((bytes_eq-Decides x x).1 refl)
  delete_keeps (reference takes h) rule = elim takes [ ]

  pop_keeps : (arguments : List Argument) → (true && list_any (λ held. is_level p.regions.frames (state_of p.regions held.1)) (held_buffers p.regions)) ≡ false → (true && nat_le p.regions.frames 1) ≡ false → CallKeeps p PopLocalFrame arguments
  pop_keeps arguments level last = (
    above_one p.regions.frames last,
    λ x a access live held at. none_holds p (λ held. is_level p.regions.frames (state_of p.regions held.1)) level x access a held (ap (is_level p.regions.frames) at ∙ eq-eqb p.regions.frames p.regions.frames refl),
  )

  -- by its function
  call_keeps : (f : JniFunction) (arguments : List Argument) → length arguments ≡ length (parameters_for f (length arguments)) → OperandsFit p (parameters_for f (length arguments)) (operands_of f arguments) → MayReadAll p.regions (flat_map argument_expressions arguments)
      → some_passes (λ get. not (some_passes (λ x. is_reference_now (state_of p.regions x)) get.1)) (get_of (Some (f, arguments))) ≡ false
      → some_passes (λ release. (release.commits && is_critical release.access) || some_passes (λ x. is_mismatched release (state_of p.regions x)) release.buffer) (release_of (Some (f, arguments))) ≡ false
      → some_passes (is_array_in_use p.regions) (deleted_name (Some (f, arguments))) ≡ false
      → (pops (Some (f, arguments)) && list_any (λ held. is_level p.regions.frames (state_of p.regions held.1)) (held_buffers p.regions)) ≡ false → (pops (Some (f, arguments)) && nat_le p.regions.frames 1) ≡ false → CallKeeps p f arguments
  call_keeps (GetBuffer access) arguments count fits read get release deleted popped last = get_keeps access arguments read get
  call_keeps (ReleaseBuffer access) (o ∷ b ∷ modes) count (next owner (next fits more)) read get release deleted popped last = release_keeps access o modes fits release
  call_keeps (ReleaseBuffer access) (o ∷ []) count (next owner fits) read get release deleted popped last = elim fits [ ]
  call_keeps (ReleaseBuffer access) [] count fits read get release deleted popped last = elim fits [ ]
  call_keeps DeleteLocalRef (a ∷ []) count (next fits done) read get release deleted popped last = delete_keeps fits deleted
  call_keeps DeleteLocalRef [] count fits read get release deleted popped last = elim fits [ ]
  call_keeps DeleteLocalRef (a ∷ b ∷ rest) count fits read get release deleted popped last = absurd (cc)
  call_keeps PopLocalFrame arguments count fits read get release deleted popped last = pop_keeps arguments popped last
  call_keeps f arguments count fits read get release deleted popped last = tt

-- each argument with its parameter
zipped : (parameters : List ParameterKind) (arguments : List Argument) → length arguments ≡ length parameters → length (zip parameters arguments) ≡ length arguments
zipped [] [] count = refl
zipped [] (a ∷ arguments) count = absurd (cc)
zipped (parameter ∷ parameters) [] count = refl
zipped (parameter ∷ parameters) (a ∷ arguments) count = let later : length arguments ≡ length parameters = cc in ap suc (zipped parameters arguments later)

-- ---- buffers that were tested

is_buffer : ParameterKind → Bool
is_buffer (BufferVariable access) = true
is_buffer parameter = false

none_tested_at : (p : Point) (parameter : ParameterKind) (a : Argument) → is_buffer parameter ≡ false → BufferTested p parameter a
unfolding is_buffer
none_tested_at p (BufferVariable access) a h = absurd (cc)
none_tested_at p parameter a h = tt

one_tested : (p : Point) (access : Access) (a : Argument) → some_passes (λ x. is_untested (state_of p.regions x)) (argument_name a) ≡ false → BufferTested p (BufferVariable access) a
one_tested p access (Value (Variable x)) h = h
one_tested p access a h = tt

module _ (p : Point) (stated : AreStated p) where
  none_tested : (parameters : List ParameterKind) (arguments : List Argument) → list_any is_buffer parameters ≡ false → BuffersTested p stated parameters arguments
  none_tested [] arguments h = tt
  none_tested (parameter ∷ parameters) [] h = tt
  none_tested (parameter ∷ parameters) (a ∷ arguments) h =
      let both = or_parts (is_buffer parameter) (list_any is_buffer parameters) h in
      (none_tested_at p parameter a both.0, none_tested parameters arguments both.1)

  owner_tested : (access : Access) (o : Argument) → BufferTested p (owner access) o
  owner_tested (ElementsCopy t) o = tt
  owner_tested ArrayView o = tt
  owner_tested CharsCopy o = tt
  owner_tested CharsView o = tt

  mode_tested : (access : Access) (modes : List Argument) → BuffersTested p stated (release_mode access ++ []) modes
  unfolding is_buffer
  mode_tested (ElementsCopy t) modes = none_tested (Mode ∷ []) modes refl
  mode_tested ArrayView modes = none_tested (Mode ∷ []) modes refl
  mode_tested CharsCopy modes = none_tested [] modes refl
  mode_tested CharsView modes = none_tested [] modes refl

  tested_at : (f : JniFunction) (arguments : List Argument) → some_passes (λ release. some_passes (λ x. is_untested (state_of p.regions x)) release.buffer) (release_of (Some (f, arguments))) ≡ false → BuffersTested p stated (parameters_for f (length arguments)) arguments
  unfolding is_buffer
  tested_at (ReleaseBuffer access) [] rule = tt
  tested_at (ReleaseBuffer access) (o ∷ []) rule = (owner_tested access o, tt)
  tested_at (ReleaseBuffer access) (o ∷ b ∷ modes) rule = (owner_tested access o, (one_tested p access b rule, mode_tested access modes))
  tested_at (GetBuffer (ElementsCopy t)) arguments rule = none_tested (parameters_for (GetBuffer (ElementsCopy t)) (length arguments)) arguments refl
  tested_at (GetBuffer ArrayView) arguments rule = none_tested (parameters_for (GetBuffer ArrayView) (length arguments)) arguments refl
  tested_at (GetBuffer CharsCopy) arguments rule = none_tested (parameters_for (GetBuffer CharsCopy) (length arguments)) arguments refl
  tested_at (GetBuffer CharsView) arguments rule = none_tested (parameters_for (GetBuffer CharsView) (length arguments)) arguments refl
  tested_at f arguments rule = none_tested (parameters_for f (length arguments)) arguments (none_among is_buffer refl f (length arguments) refl)

  -- ---- the call

  module _ (s : Stmt) (obeys : Obeys p.regions s) (f : JniFunction) (arguments : List Argument) (called : function_called s ≡ Some (f, arguments)) (own : own_expressions s ≡ flat_map argument_expressions arguments) (takes : takes_count f (length arguments) ≡ true) (fit : arguments_fit p.names (parameters_for f (length arguments)) arguments ≡ true) (modes : modes_fit (prototype f).parameters arguments ≡ true) where
    count : length arguments ≡ length (parameters_for f (length arguments))
    count = parameters_count f (length arguments) takes

    arguments_read : MayReadAll p.regions (flat_map argument_expressions arguments)
    arguments_read = subst (MayReadAll p.regions) own (statement_reads p.regions s obeys)

    call_operands : OperandsFit p (parameters_for f (length arguments)) (operands_of f arguments)
    call_operands = operands_fit p stated (parameters_for f (length arguments)) arguments count fit (modes_of_all f arguments modes) arguments_read (tested_at f arguments (tested_rule p s obeys f arguments called))

    -- what the call asks, of its arguments themselves
    pub call_rules : CallKeeps p f arguments
    call_rules = call_keeps p f arguments count call_operands arguments_read (get_rule p s obeys f arguments called) (release_rule p s obeys f arguments called) (deleted_rule p s obeys f arguments called) (popped_rule p s obeys f arguments called) (last_rule p s obeys f arguments called)

    -- as many operands as arguments
    same_number : length (operands_of f arguments) ≡ length arguments
    same_number = length-map (zip (parameters_for f (length arguments)) arguments) operand ∙ zipped (parameters_for f (length arguments)) arguments count

    -- a call that keeps the rules fits
    pub call_fits : CallFits p f (operands_of f arguments)
    call_fits = record {
      types = subst (λ (n : ℕ). OperandsFit p (parameters_for f n) (operands_of f arguments)) (sym same_number) call_operands;
      count = subst (λ (n : ℕ). takes_count f n ≡ true) (sym same_number) takes;
      views = views_met p s obeys f arguments called;
      rules = keeps_seen arguments p f count call_rules;
    }
