-- Assignments to names that are there run from what is known before them.
use Rattle.std.proofs.Common.{◌≡◌, ℕ, ◌-◌, ◌⊎◌, inl, inr, Bool, true, false, not, ◌&&◌, List, [], ◌∷◌, ◌++◌, map, Option, Some, None, refl, sym, ap, ◌∙◌, subst, if◌then◌else◌}
use Rattle.std.specs.Prelude.{◌==◌}
use Rattle.std.specs.List.{list_any}
use Rattle.std.specs.Option.{is_some, option_map}
use Rattle.std.specs.Str.{bytes_eq}
use Rattle.std.proofs.lemmas.Bool.{and_parts, or_parts, not-false}
use Rattle.std.proofs.lemmas.Bool.Decides.{Decides-eqb}
use Rattle.std.proofs.lemmas.Slice.Eq.{bytes_eq-Decides}
use Rattle.base.specs.Bytes.{Identifier, ByName, lookup}
use Rattle.base.specs.Options.{some_passes}
use Rattle.base.specs.declared.element.ElementType.{ElementType}
use Rattle.syntax.specs.Tree as tree
use Rattle.syntax.specs.declared.unit.ResultType.{ResultType}
use Rattle.syntax.specs.Tree.{Expr, Argument, Call, RightSide, FromExpr, FromCall, Stmt}
use Rattle.jni.specs.declared.access.Access.{Access}
use Rattle.jni.specs.declared.function.JniFunction.{JniFunction}
use Rattle.jni.specs.declared.function.JniFunction.TheVariants.{GetBuffer}
use Rattle.jni.specs.JniFunction.{prototype}
use Rattle.jni.specs.declared.kinds.ResultKind.{ResultKind}
use Rattle.jni.specs.declared.kinds.ResultKind.TheVariants.{NewLocal, NewGlobal, NewWeak, GivesFlag, GivesInt, GivesField, GivesMethod, GivesNothing, GivesBuffer}
use Rattle.type_rules.specs.declared.ty.ExprType.{ExprType}
use Rattle.type_rules.specs.declared.ty.ExprType.TheVariants.{Word, Jint, Flag, Ref, Global, Weak, Buffer}
use Rattle.type_rules.specs.ExprTypes.{type_in, type_of, is_buffer_for, is_ref, is_null, name_type}
use Rattle.type_rules.specs.declared.ty.ExprType.TheVariants as types
use Rattle.type_rules.specs.TypeRules as rules
use Rattle.type_rules.specs.TypeRules.{result_fits, call_fits, value_sets}
use Rattle.type_rules.specs.TypeGroups.{IsNumberType}
use Rattle.type_rules.proofs.TypeTests.{jint_is, flag_is, ref_is, field_is, method_is, word_is, null_is, first_passed}
use Rattle.region_rules.specs.declared.rule.RegionRule.TheVariants.{HeldBuffer, ArrayInUse, WrongLevel}
use Rattle.region_rules.specs.RegionRules.{is_reference_now, is_level, is_held, is_array_in_use, Obeys}
use Rattle.region_rules.specs.RegionStates.{VariableState, BufferState, Free, Untested, Usable, ReferenceAt, BufferIn, RegionState, state_of, held_by, held_buffers, function_called, get_of, Release, release_of, deleted_name, pops, frame_count_after, made_free, killed, killed_from, with_changed, with_some_changed, after_release, after_pop, after_call, buffer_from, set_to, FunctionCall}
use Rattle.semantics.specs.Task.{Assigned, set_task}
use Rattle.semantics_safety.specs.Points.{Point, AreOnce}
use Rattle.semantics_safety.specs.Wanted.{Holds, IsUnused, MaySet, AssignsNull, AssignsResult, RunsPlain, revived, at}
use Rattle.semantics_safety.proofs.ArgumentFits.{first_read, buffer_for}
use Rattle.semantics_safety.proofs.CallFits.{second_fails, unbroken, none_holds, statement_reads}
use Rattle.semantics_safety.proofs.ExpressionFits.{MayRead}
use Rattle.semantics_safety.proofs.PlainStatements.{scalar_runs}
use Rattle.semantics_safety.proofs.Declarations.{called_taken}
use Rattle.semantics_safety.proofs.KnownPoints.{IsKnown, Kin, HasState, known_more, each_found, held_of, holds_of}
use Rattle.semantics_safety.proofs.StatementCalls.{IsCalled, call_there, known_called, call_runs}
use Rattle.semantics_safety.proofs.PathsGive.{Gives, covers_front, known_one}
use Rattle.semantics_safety.proofs.PointLaws.{mapped_some}

-- ---- one variable's state changes

abbrev mapped : Identifier → (VariableState → VariableState) → ByName VariableState → ByName VariableState
mapped x f vs = map (λ (v : Identifier × VariableState). (v.0, if bytes_eq x v.0 then f v.1 else v.1)) vs

map_none : (x : Identifier) (f : VariableState → VariableState) (vs : ByName VariableState) → lookup x vs ≡ None → mapped x f vs ≡ vs
map_none x f [] e = refl
map_none x f ((y, v) ∷ vs) e = by_test (bytes_eq x y) e (map_none x f vs)
  where
    by_test : (b : Bool) → (if b then Some v else lookup x vs) ≡ None → (lookup x vs ≡ None → mapped x f vs ≡ vs) → ((y, if b then f v else v) ∷ mapped x f vs) ≡ ((y, v) ∷ vs)
    by_test true h later = absurd (cc)
    by_test false h later = ap (λ (l : ByName VariableState). (y, v) ∷ l) (later h)

map_same : (x : Identifier) (f g : VariableState → VariableState) (v : VariableState) (vs : ByName VariableState) → AreOnce vs → lookup x vs ≡ Some v → f v ≡ g v → mapped x f vs ≡ mapped x g vs
map_same x f g v [] once e same = refl
map_same x f g v ((y, w) ∷ vs) once e same = by_test (bytes_eq x y) refl e (λ there. map_same x f g v vs once.1 there same)
  where
    by_test : (b : Bool) → bytes_eq x y ≡ b → (if b then Some w else lookup x vs) ≡ Some v → (lookup x vs ≡ Some v → mapped x f vs ≡ mapped x g vs)
        → ((y, if b then f w else w) ∷ mapped x f vs) ≡ ((y, if b then g w else w) ∷ mapped x g vs)
    by_test true is h later =
        let here : w ≡ v = cc in
        let none : lookup x vs ≡ None = ap (λ (z : Identifier). lookup z vs) ((bytes_eq-Decides x y).0 is) ∙ once.0 in
        let head : f w ≡ g w = ap f here ∙ same ∙ sym (ap g here) in
        let tail : mapped x f vs ≡ mapped x g vs = map_none x f vs none ∙ sym (map_none x g vs none) in
        (λ i. (y, head i) ∷ tail i)
    by_test false is h later = ap (λ (l : ByName VariableState). (y, w) ∷ l) (later h)

-- a variable without a state changes nothing
changed_none : (state : RegionState) (x : Identifier) (f : VariableState → VariableState) → state_of state x ≡ None → with_changed state x f ≡ state
changed_none state x f e = ap (λ (vs : ByName VariableState). let r : RegionState = record state { variables = vs } in r) (map_none x f state.variables e)

-- two changes that agree on its state are one
changed_same : (state : RegionState) (x : Identifier) (f g : VariableState → VariableState) (v : VariableState) → AreOnce state.variables → state_of state x ≡ Some v → f v ≡ g v → with_changed state x f ≡ with_changed state x g
changed_same state x f g v once e same = ap (λ (vs : ByName VariableState). let r : RegionState = record state { variables = vs } in r) (map_same x f g v state.variables once e same)

-- ---- what a call leaves

-- a reference keeps its level, and a buffer is as it was or free
abbrev Milder : VariableState → VariableState → Type 0
Milder (ReferenceAt l a) (ReferenceAt m b) = l ≡ m
Milder (BufferIn b) (BufferIn c) = (c ≡ b) ⊎ (c ≡ Free)
Milder u v = ⊥

milder_same : (u : VariableState) → Milder u u
milder_same (ReferenceAt l a) = refl
milder_same (BufferIn b) = inl refl

milder_after : (u v w : VariableState) → Milder u v → Milder v w → Milder u w
milder_after (ReferenceAt l a) (ReferenceAt m b) (ReferenceAt n c) h g = h ∙ g
milder_after (BufferIn b) (BufferIn c) (BufferIn d) (inl e) (inl f) = inl (f ∙ e)
milder_after (BufferIn b) (BufferIn c) (BufferIn d) (inr e) (inl f) = inr (f ∙ e)
milder_after (BufferIn b) (BufferIn c) (BufferIn d) h (inr f) = inr f
milder_after (ReferenceAt l a) (BufferIn c) w h g = absurd h
milder_after (BufferIn b) (ReferenceAt m c) w h g = absurd h
milder_after (ReferenceAt l a) (ReferenceAt m b) (BufferIn d) h g = absurd g
milder_after (BufferIn b) (BufferIn c) (ReferenceAt n d) h g = absurd g

-- from one state to another a variable's state becomes milder
record IsMilder (before after : RegionState) (x : Identifier) : Type 0 where
  pub change : VariableState → VariableState
  pub mild : (u : VariableState) → Milder u (change u)
  pub is : state_of after x ≡ option_map change (state_of before x)

map_nothing : (o : Option VariableState) → o ≡ option_map (λ (u : VariableState). u) o
map_nothing None = refl
map_nothing (Some u) = refl

map_twice : (g f : VariableState → VariableState) (o : Option VariableState) → option_map g (option_map f o) ≡ option_map (λ (u : VariableState). g (f u)) o
map_twice g f None = refl
map_twice g f (Some u) = refl

same_mild : (a : RegionState) (x : Identifier) → IsMilder a a x
same_mild a x = record { change = λ u. u; mild = milder_same; is = map_nothing (state_of a x) }

then_mild : (a b c : RegionState) (x : Identifier) → IsMilder a b x → IsMilder b c x → IsMilder a c x
then_mild a b c x h g = record {
  change = λ u. g.change (h.change u);
  mild = λ u. milder_after u (h.change u) (g.change (h.change u)) (h.mild u) (g.mild (h.change u));
  is = g.is ∙ ap (option_map g.change) h.is ∙ map_twice g.change h.change (state_of a x);
}

one_mild : (f : VariableState → VariableState) → ((u : VariableState) → Milder u (f u)) → (a : RegionState) (y x : Identifier) → IsMilder a (with_changed a y f) x
one_mild f mild a y x = record {
  change = λ u. if bytes_eq y x then f u else u;
  mild = λ u. by_test u (bytes_eq y x);
  is = each_found (λ z old. if bytes_eq y z then f old else old) x a.variables;
}
  where
    by_test : (u : VariableState) (b : Bool) → Milder u (if b then f u else u)
    by_test u true = mild u
    by_test u false = milder_same u

some_mild : (f : VariableState → VariableState) → ((u : VariableState) → Milder u (f u)) → (a : RegionState) (o : Option Identifier) (x : Identifier) → IsMilder a (with_some_changed a o f) x
some_mild f mild a None x = same_mild a x
some_mild f mild a (Some y) x = one_mild f mild a y x

free_mild : (u : VariableState) → Milder u (made_free u)
free_mild (ReferenceAt l a) = refl
free_mild (BufferIn b) = inr refl

killed_mild : (u : VariableState) → Milder u (killed u)
killed_mild (ReferenceAt l a) = refl
killed_mild (BufferIn b) = inl refl

from_mild : (level : ℕ) (u : VariableState) → Milder u (killed_from level u)
from_mild level (ReferenceAt l a) = refl
from_mild level (BufferIn b) = inl refl

released_mild : (a : RegionState) (o : Option Release) (x : Identifier) → IsMilder a (after_release a o) x
released_mild a None x = same_mild a x
released_mild a (Some release) x = by_test release.commits
  where
    by_test : (b : Bool) → IsMilder a (if b then a else with_some_changed a release.buffer made_free) x
    by_test true = same_mild a x
    by_test false = some_mild made_free free_mild a release.buffer x

popped_mild : (a : RegionState) (x : Identifier) → IsMilder a (after_pop a) x
popped_mild a x = record { change = killed_from a.frames; mild = from_mild a.frames; is = each_found (λ z old. killed_from a.frames old) x a.variables }

call_mild : (a : RegionState) (call : Option FunctionCall) (x : Identifier) → IsMilder a (after_call a call) x
call_mild a call x = by_test (pops call)
  where
    released : RegionState
    released = after_release a (release_of call)

    by_test : (b : Bool) → IsMilder a (if b then after_pop a else with_some_changed released (deleted_name call) killed) x
    by_test true = popped_mild a x
    by_test false = then_mild a released (with_some_changed released (deleted_name call) killed) x (released_mild a (release_of call) x) (some_mild killed killed_mild released (deleted_name call) x)

-- the number of frames after a call
some_frames : (a : RegionState) (o : Option Identifier) (f : VariableState → VariableState) → (with_some_changed a o f).frames ≡ a.frames
some_frames a None f = refl
some_frames a (Some y) f = refl

released_frames : (a : RegionState) (o : Option Release) → (after_release a o).frames ≡ a.frames
released_frames a None = refl
released_frames a (Some release) = by_test release.commits
  where
    by_test : (b : Bool) → (if b then a else with_some_changed a release.buffer made_free).frames ≡ a.frames
    by_test true = refl
    by_test false = some_frames a release.buffer made_free

call_frames : (a : RegionState) (call : Option FunctionCall) → (after_call a call).frames ≡ (if pops call then a.frames - 1 else a.frames)
call_frames a call = by_test (pops call)
  where
    by_test : (b : Bool) → (if b then after_pop a else with_some_changed (after_release a (release_of call)) (deleted_name call) killed).frames ≡ (if b then a.frames - 1 else a.frames)
    by_test true = refl
    by_test false = some_frames (after_release a (release_of call)) (deleted_name call) killed ∙ released_frames a (release_of call)

-- ---- a reference

reference_of : (l : ℕ) (a : Bool) (v : VariableState) → Milder (ReferenceAt l a) v → (b : Bool) × (v ≡ ReferenceAt l b)
reference_of l a (ReferenceAt m b) h = (b, ap (λ (n : ℕ). ReferenceAt n b) (sym h))
reference_of l a (BufferIn b) h = absurd h

buffer_before : (u : VariableState) (b : BufferState) → Milder u (BufferIn b) → (u ≡ BufferIn b) ⊎ (b ≡ Free)
buffer_before (ReferenceAt l a) b h = absurd h
buffer_before (BufferIn c) b (inl e) = inl (ap (λ (d : BufferState). BufferIn d) (sym e))
buffer_before (BufferIn c) b (inr e) = inr e

-- what is held after a call was held before it
held_before : (p : Point) (call : Option FunctionCall) (y : Identifier) (access : Access) (a : Identifier) → Holds (at p (after_call p.regions call)) y access a → Holds p y access a
held_before p call y access a h =
    let q = at p (after_call p.regions call) in
    let held = held_of q y access a h in
    let m = call_mild p.regions call y in
    let old = mapped_some m.change (state_of p.regions y) (BufferIn held.0) (sym m.is ∙ held.1) in
    by_case held.0 held.2 old.0 old.1 (buffer_before old.0 held.0 (subst (Milder old.0) old.2 (m.mild old.0)))
  where
    by_case : (b : BufferState) → held_by b ≡ Some (access, a) → (u : VariableState) → state_of p.regions y ≡ Some u → (u ≡ BufferIn b) ⊎ (b ≡ Free) → Holds p y access a
    by_case b is u e (inl same) = holds_of p y b access a (e ∙ ap (λ (v : VariableState). Some v) same) is
    by_case b is u e (inr free) = absurd (let none : None ≡ Some (access, a) = sym (ap held_by free) ∙ is in cc)

level_rule : (n : ℕ) (o : Option VariableState) (l : ℕ) (a : Bool) → o ≡ Some (ReferenceAt l a) → (is_reference_now o && not (is_level n o)) ≡ false → l ≡ n
level_rule n o l a e h = (Decides-eqb l n).0 (not-false (l == n) (ap (λ (o : Option VariableState). is_reference_now o && not (is_level n o)) (sym e) ∙ h))

module _ (p : Point) (taken : List Identifier) (known : IsKnown p taken) (line : ℕ) (x : Identifier) (r : RightSide) (obeys : Obeys p.regions (tree.Plain line (tree.Assign x r))) where
  abbrev s : Stmt
  s = tree.Plain line (tree.Assign x r)

  abbrev q : Point
  q = at p (after_call p.regions (function_called s))

  unused : IsUnused q x
  unused y access h =
      let one = or_parts _ (some_passes (λ get. not (some_passes (λ x. is_reference_now (state_of p.regions x)) get.1)) (get_of (function_called s))) (unbroken p.regions s ArrayInUse obeys) in
      let two = or_parts _ (pops (function_called s) && list_any (λ held. is_level p.regions.frames (state_of p.regions held.1)) (held_buffers p.regions)) one.0 in
      let none : is_array_in_use p.regions x ≡ false = (or_parts (is_array_in_use p.regions x) (some_passes (is_array_in_use p.regions) (deleted_name (function_called s))) two.0).0 in
      none_holds p (λ held. bytes_eq held.1 x) none y access x (held_before p (function_called s) y access x h) ((bytes_eq-Decides x x).1 refl)

  -- a reference that is assigned may be set after the call
  pub may_set : type_in p.names x ≡ Some Ref → MaySet q x
  may_set e =
      let there = known.stated.reference x e in
      let level : there.0 ≡ frame_count_after p.regions s = level_rule (frame_count_after p.regions s) (state_of p.regions x) there.0 there.1 there.2 (unbroken p.regions s WrongLevel obeys) in
      let m = call_mild p.regions (function_called s) x in
      let now = reference_of there.0 there.1 (m.change (ReferenceAt there.0 there.1)) (m.mild (ReferenceAt there.0 there.1)) in
      let frames : there.0 ≡ q.regions.frames = level ∙ sym (call_frames p.regions (function_called s)) in
      record {
        live = now.0;
        known = m.is ∙ ap (option_map m.change) there.2 ∙ ap (λ (v : VariableState). Some v) now.1 ∙ ap (λ (n : ℕ). Some (ReferenceAt n now.0)) frames;
        unused = unused;
      }

-- ---- a variable's state after it is set

-- nothing is known of a variable without a state
stateless_same : (q : Point) (taken : List Identifier) → IsKnown q taken → (x : Identifier) (f : VariableState → VariableState) (k : Point → Type 0) (t : ExprType) → type_in q.names x ≡ Some t → (HasState t → ⊥) → k (at q (with_changed q.regions x f)) → k q
stateless_same q taken known x f k t e stateless now = subst (λ (r : RegionState). k (at q r)) (changed_none q.regions x f (by_state (state_of q.regions x) refl)) now
  where
    by_state : (o : Option VariableState) → state_of q.regions x ≡ o → o ≡ None
    by_state None h = refl
    by_state (Some v) h =
        let there = known.stateful x v h in
        let same : there.0 ≡ t = let both : Some there.0 ≡ Some t = sym there.1 ∙ e in cc in
        absurd (stateless (subst HasState same there.2))

-- a reference that is set is live
reference_set : (q : Point) (taken : List Identifier) → IsKnown q taken → (x : Identifier) (r : RightSide) (k : Point → Type 0) → type_in q.names x ≡ Some Ref → k (at q (with_changed q.regions x (set_to r))) → k (at q (with_changed q.regions x revived))
reference_set q taken known x r k e now =
    let there = known.stated.reference x e in
    subst (λ (state : RegionState). k (at q state)) (changed_same q.regions x (set_to r) revived (ReferenceAt there.0 there.1) known.once there.2 refl) now

-- ---- the result

is_a_global : (o : Option ExprType) → result_fits o NewGlobal ≡ true → o ≡ Some Global
is_a_global (Some Global) h = refl
is_a_global o h = absurd (cc)

is_a_weak : (o : Option ExprType) → result_fits o NewWeak ≡ true → o ≡ Some Weak
is_a_weak (Some Weak) h = refl
is_a_weak o h = absurd (cc)

is_a_get : (f : JniFunction) (access : Access) → (prototype f).result ≡ GivesBuffer access → f ≡ GetBuffer access
is_a_get (GetBuffer own) access h = let same : own ≡ access = cc in ap (λ (a : Access). GetBuffer a) same
is_a_get f access h = absurd (cc)

not_held : (b : BufferState) → is_held (Some (BufferIn b)) ≡ false → b ≡ Free
not_held Free h = refl
not_held (Untested access a) h = absurd (cc)
not_held (Usable access a) h = absurd (cc)

-- the state of a buffer before a Get into it
free_before : (o : Option FunctionCall) (access : Access) (arguments : List Argument) (there : Option VariableState) (b : BufferState) → o ≡ Some (GetBuffer access, arguments) → there ≡ Some (BufferIn b) → (is_some (get_of o) && is_held there) ≡ false → b ≡ Free
free_before o access arguments there b is e h =
    not_held b (ap is_held (sym e) ∙ second_fails (is_some (get_of o)) (is_held there) h (ap (λ (o : Option FunctionCall). is_some (get_of o)) is))

-- such a call changes no state
get_keeps : (state : RegionState) (o : Option FunctionCall) (access : Access) (arguments : List Argument) → o ≡ Some (GetBuffer access, arguments) → after_call state o ≡ state
get_keeps state o access arguments is = ap (after_call state) is

module _ (p : Point) (taken : List Identifier) (returns : ResultType) (known : IsKnown p taken) (line : ℕ) (x : Identifier) (c : Call) (obeys : Obeys p.regions (tree.Plain line (tree.Assign x (FromCall c)))) (call : IsCalled p (tree.Plain line (tree.Assign x (FromCall c))) c) (k : Point → Type 0) where
  abbrev stmt : Stmt
  stmt = tree.Plain line (tree.Assign x (FromCall c))

  abbrev later : Point
  later = at p (after_call p.regions (function_called stmt))

  abbrev get : Option (Access × Option Identifier)
  get = get_of (function_called stmt)

  after_known : IsKnown later taken
  after_known = known_called p taken stmt known obeys

  set_kin : (y : Identifier) (u : VariableState) → state_of later.regions y ≡ Some u → Kin taken u (set_to (FromCall c) u)
  set_kin y (ReferenceAt l a) e = tt
  set_kin y (BufferIn b) e = called_taken p taken known call.function c.arguments call.keeps (function_called stmt) call.called

  -- the point after the assignment
  abbrev end : Point
  end = at later (with_changed later.regions x (set_to (FromCall c)))

  end_known : IsKnown end taken
  end_known = known_one later taken after_known x (set_to (FromCall c)) set_kin

  module _ (now : k end) where
    buffer : (access : Access) (t : ElementType) (writable : Bool) → (prototype call.function).result ≡ GivesBuffer access → type_in p.names x ≡ Some (Buffer t writable) → is_buffer_for access (Some (Buffer t writable)) ≡ true
        → (state_of later.regions x ≡ Some (BufferIn Free)) × (is_buffer_for access (Some (Buffer t writable)) ≡ true) × k (at later (with_changed later.regions x (λ old. BufferIn (buffer_from get))))
    buffer access t writable result e for_it =
        let there = known.stated.buffer x t writable e in
        let is : function_called stmt ≡ Some (GetBuffer access, c.arguments) = call.called ∙ ap (λ (f : JniFunction). Some (f, c.arguments)) (is_a_get call.function access result) in
        let free = free_before (function_called stmt) access c.arguments (state_of p.regions x) there.0 is there.1 (unbroken p.regions stmt HeldBuffer obeys) in
        let state : state_of later.regions x ≡ Some (BufferIn Free) =
        ap (λ (r : RegionState). state_of r x) (get_keeps p.regions (function_called stmt) access c.arguments is) ∙ there.1 ∙ ap (λ (b : BufferState). Some (BufferIn b)) free in
        (state, for_it, subst (λ (r : RegionState). k (at later r)) (changed_same later.regions x (set_to (FromCall c)) (λ old. BufferIn (buffer_from get)) (BufferIn Free) after_known.once state refl) now)

    assigned : (o : Option ExprType) → type_in p.names x ≡ o → (result : ResultKind) → (prototype call.function).result ≡ result → result_fits o result ≡ true → AssignsResult later o x result get k
    assigned o e GivesInt is fit = subst (λ (o : Option ExprType). AssignsResult later o x GivesInt get k) (sym (jint_is o fit)) (stateless_same later taken after_known x (set_to (FromCall c)) k Jint (e ∙ jint_is o fit) (λ h. h) now)
    assigned o e GivesFlag is fit = subst (λ (o : Option ExprType). AssignsResult later o x GivesFlag get k) (sym (flag_is o fit)) (stateless_same later taken after_known x (set_to (FromCall c)) k Flag (e ∙ flag_is o fit) (λ h. h) now)
    assigned o e GivesField is fit = subst (λ (o : Option ExprType). AssignsResult later o x GivesField get k) (sym (field_is o fit)) (stateless_same later taken after_known x (set_to (FromCall c)) k types.FieldId (e ∙ field_is o fit) (λ h. h) now)
    assigned o e GivesMethod is fit = subst (λ (o : Option ExprType). AssignsResult later o x GivesMethod get k) (sym (method_is o fit)) (stateless_same later taken after_known x (set_to (FromCall c)) k types.MethodId (e ∙ method_is o fit) (λ h. h) now)
    assigned o e NewGlobal is fit = subst (λ (o : Option ExprType). AssignsResult later o x NewGlobal get k) (sym (is_a_global o fit)) (stateless_same later taken after_known x (set_to (FromCall c)) k Global (e ∙ is_a_global o fit) (λ h. h) now)
    assigned o e NewWeak is fit = subst (λ (o : Option ExprType). AssignsResult later o x NewWeak get k) (sym (is_a_weak o fit)) (stateless_same later taken after_known x (set_to (FromCall c)) k Weak (e ∙ is_a_weak o fit) (λ h. h) now)
    assigned o e NewLocal is fit =
        let ref = ref_is o fit in
        subst (λ (o : Option ExprType). AssignsResult later o x NewLocal get k) (sym ref) (may_set p taken known line x (FromCall c) obeys (e ∙ ref), reference_set later taken after_known x (FromCall c) k (e ∙ ref) now)
    assigned o e (GivesBuffer access) is fit =
        let of = buffer_for access o fit in
        subst (λ (o : Option ExprType). AssignsResult later o x (GivesBuffer access) get k) (sym of.2) (buffer access of.0 of.1 is (e ∙ of.2) (ap (is_buffer_for access) (sym of.2) ∙ fit))
    assigned o e GivesNothing is fit = absurd (cc)

pub assign_call : (line : ℕ) (x : Identifier) (c : Call) → Gives (tree.Plain line (tree.Assign x (FromCall c)))
assign_call line x c p taken returns path k known kept (obeys, is) h =
    let s = tree.Plain line (tree.Assign x (FromCall c)) in
    let call = call_there p taken returns s c known kept obeys refl refl in
    let result = (prototype call.function).result in
    let both = and_parts (not (rules.is_push call.function)) (result_fits (type_in p.names x) result) (ap (call_fits (type_in p.names x)) (sym call.is_named) ∙ kept.fits) in
    let after = end p taken returns known line x c obeys call k in
    let now = h after.regions is (known_more after taken (taken ++ []) (covers_front taken []) (end_known p taken returns known line x c obeys call k)) in
    call_runs p s line (Assigned x) c k call both.0 (assigned p taken returns known line x c obeys call k now (type_in p.names x) refl result refl both.1)

-- ---- a value

-- a value frees a buffer
value_kin : (taken : List Identifier) (e : Expr) (u : VariableState) → Kin taken u (set_to (FromExpr e) u)
value_kin taken e (ReferenceAt l a) = tt
value_kin taken e (BufferIn b) = λ access a h. absurd (cc)

module _ (p : Point) (taken : List Identifier) (known : IsKnown p taken) (line : ℕ) (x : Identifier) (e : Expr) (obeys : Obeys p.regions (tree.Plain line (tree.Assign x (FromExpr e)))) (k : Point → Type 0) (now : k (at p (with_changed p.regions x (set_to (FromExpr e))))) where
  reads : MayRead p.regions e
  reads = (first_read p.regions e [] (statement_reads p.regions (tree.Plain line (tree.Assign x (FromExpr e))) obeys)).0

  number : (t : ExprType) → IsNumberType t → (HasState t → ⊥) → type_in p.names x ≡ Some t → type_of p.names e ≡ Some t → RunsPlain (set_task line (Assigned x) x e) k p
  number t numbered stateless at' is = scalar_runs p taken line (Assigned x) x e t k known numbered is reads (inl (at', stateless_same p taken known x (set_to (FromExpr e)) k t at' stateless now))

  -- NULL is assigned
  null : (o : Option ExprType) → type_in p.names x ≡ o → is_null e ≡ true → AssignsNull p o x k → RunsPlain (set_task line (Assigned x) x e) k p
  null o at' is runs = subst (λ (e : Expr). RunsPlain (set_task line (Assigned x) x e) k p) (sym (null_is e is)) (subst (λ (o : Option ExprType). AssignsNull p o x k) (sym at') runs)

  valued : (o : Option ExprType) → type_in p.names x ≡ o → value_sets p.names o e ≡ true → (is_ref o && is_some (name_type p.names e)) ≡ false → RunsPlain (set_task line (Assigned x) x e) k p
  valued (Some Word) at' fit uncopied = number Word tt (λ h. h) at' (word_is (type_of p.names e) fit)
  valued (Some Jint) at' fit uncopied = number Jint tt (λ h. h) at' (jint_is (type_of p.names e) fit)
  valued (Some Flag) at' fit uncopied = number Flag tt (λ h. h) at' (flag_is (type_of p.names e) fit)
  valued (Some Ref) at' fit uncopied =
      null (Some Ref) at' (first_passed (is_null e) (is_some (name_type p.names e)) fit uncopied)
      (may_set p taken known line x (FromExpr e) obeys at', reference_set p taken known x (FromExpr e) k at' now)
  valued (Some Global) at' fit uncopied = null (Some Global) at' fit (stateless_same p taken known x (set_to (FromExpr e)) k Global at' (λ h. h) now)
  valued (Some Weak) at' fit uncopied = null (Some Weak) at' fit (stateless_same p taken known x (set_to (FromExpr e)) k Weak at' (λ h. h) now)
  valued (Some types.FieldId) at' fit uncopied = null (Some types.FieldId) at' fit (stateless_same p taken known x (set_to (FromExpr e)) k types.FieldId at' (λ h. h) now)
  valued (Some types.MethodId) at' fit uncopied = null (Some types.MethodId) at' fit (stateless_same p taken known x (set_to (FromExpr e)) k types.MethodId at' (λ h. h) now)
  valued o at' fit uncopied = absurd (cc)

pub assign_value : (line : ℕ) (x : Identifier) (e : Expr) → Gives (tree.Plain line (tree.Assign x (FromExpr e)))
assign_value line x e p taken returns path k known kept (obeys, is) h =
    let after = at p (with_changed p.regions x (set_to (FromExpr e))) in
    let now = h after.regions is (known_more after taken (taken ++ []) (covers_front taken []) (known_one p taken known x (set_to (FromExpr e)) (λ y u at'. value_kin taken e u))) in
    valued p taken known line x e obeys k now (type_in p.names x) refl kept.fits kept.uncopied
