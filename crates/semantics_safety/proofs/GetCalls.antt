-- The steps of the calls that get a buffer.
use Rattle.std.proofs.Common.{◌≡◌, ◌≢◌, ℕ, ◌≤◌, arith, Bool, true, false, ◌⊎◌, inl, inr, List, [], ◌∷◌, ◌++◌, map, filter, length, Option, Some, None, refl, sym, ap, ◌∙◌, subst, if◌then◌else◌}
use Rattle.std.specs.Prelude.{ℤ}
use Rattle.std.specs.List.{list_any}
use Rattle.std.specs.Option.{option_map}
use Rattle.std.specs.Str.{bytes_eq}
use Rattle.base.specs.Bytes.{Identifier, ByName, lookup}
use Rattle.base.specs.declared.element.ElementType.{ElementType}
use Rattle.syntax.specs.Tree.{SourceUnit}
use Rattle.syntax.specs.Tree as tree
use Rattle.class_rules.specs.Class.{Classes}
use Rattle.jni.specs.declared.access.Access.{Access}
use Rattle.jni.specs.declared.access.Access.TheVariants.{ElementsCopy, ArrayView, CharsCopy, CharsView}
use Rattle.jni.specs.Access.{is_critical}
use Rattle.jni.specs.declared.function.JniFunction.TheVariants.{GetBuffer, PushLocalFrame}
use Rattle.jni.specs.declared.kinds.ParameterKind.TheVariants.{IsCopy}
use Rattle.jni.specs.declared.kinds.ResultKind.{ResultKind}
use Rattle.jni.specs.declared.kinds.ResultKind.TheVariants.{GivesBuffer}
use Rattle.jni.specs.Prototype.{owner}
use Rattle.type_rules.specs.declared.ty.ExprType.{ExprType}
use Rattle.type_rules.specs.ExprTypes.{type_in}
use Rattle.type_rules.specs.declared.ty.ExprType.TheVariants as types
use Rattle.region_rules.specs.RegionStates.{get_of, VariableState, BufferState, Free, Untested, ReferenceAt, BufferIn, state_of, with_new, with_changed}
use Rattle.semantics.specs.Object.{Reference}
use Rattle.semantics.specs.Answer.{Answer, effect_of, Copies, Views}
use Rattle.semantics.specs.Arguments.{Actual, ReferenceActual, look_up, actuals, reference_in_actual, name_or_zero, object_given, address_given, address_in_actual}
use Rattle.semantics.specs.CallEffects.{Leaves, BufferResult}
use Rattle.semantics.specs.AnswerTable.{call_effect}
use Rattle.semantics.specs.CallSight.{CallSight, sight_of_call}
use Rattle.semantics.specs.Checks.{misses, with_kinds}
use Rattle.semantics.specs.CallStep.{put, put_assigned, tell_copy, trap_of_call, target_element, checked}
use Rattle.semantics.specs.Effect.{tasks_after}
use Rattle.semantics.specs.Sight.{held_reference}
use Rattle.semantics.specs.declared.variable_kind.VariableKind.{VariableKind}
use Rattle.semantics.specs.declared.variable_kind.VariableKind.TheVariants as kinds
use Rattle.semantics.specs.Task.{Task, Target, Declared, Assigned, Tested, Dropped, Operand, Given, Invoke}
use Rattle.semantics.specs.Thread.{Thread, Shared, BuffersInUse, Frame, sight_of}
use Rattle.semantics.specs.ThreadStep.{with_tasks}
use Rattle.semantics.specs.declared.trap.Trap.{Trap}
use Rattle.semantics.specs.declared.value.Value.{Value}
use Rattle.semantics.specs.declared.value.Value.TheVariants.{Flag}
use Rattle.semantics.specs.Variable.{Variable, Scalar, LocalRef, Elements, Buffer, NoBuffer, Copy, View, Variables, Statics, assign}
use Rattle.semantics.proofs.CheckLaws.{passed}
use Rattle.semantics.proofs.AnswerKinds.{AnswersAs, Copying, GetsBuffer, Halting, Viewing, answers_as}
use Rattle.semantics_safety.proofs.OwnerLaws.{put_by, AnswerLands, CallLands}
use Rattle.semantics_safety.specs.Owners.{Owners, left_by, answer_to}
use Rattle.semantics_safety.specs.Points as rule
use Rattle.semantics_safety.specs.Points.{Point, OperandFits, OperandsFit, is_copy, owns}
use Rattle.semantics_safety.specs.Stands.{VariableFits, IsOf, Lends, Shows, Goes, Stands}
use Rattle.semantics_safety.specs.Wanted.{Holds, IsNew, DeclaresResult, AssignsResult, ResultGoes, Runs, GoesOn, CallKeeps, call_seen, operand_argument, at, named}
use Rattle.semantics_safety.specs.WeakNames.{WeakNames}
use Rattle.semantics_safety.proofs.FrameLaws.{counted_here}
use Rattle.semantics_safety.proofs.NameLaws.{one_or_other, front_same, front_other, lookup_same, lookup_other, known_same, known_other}
use Rattle.semantics_safety.proofs.QuietLaws.{IsNoTest, nothing_after}
use Rattle.semantics_safety.proofs.SetLaws.{none_some, once_changed, owners_elsewhere, owners_same, types_named, kinds_named, stands_at, stands_kept}
use Rattle.semantics_safety.proofs.StepLaws.{Lands, same_statics, apart_buffer, type_of_buffer, buffer_no_copy}

-- NULL, or a buffer of the object that a variable holds
abbrev pub IsLentBy : Variables → Access → Identifier → Buffer → Type 0
IsLentBy vs access a b = (b ≡ NoBuffer) ⊎ Lends vs access a b

lent_moved : (vs us : Variables) (access : Access) (a : Identifier) (b : Buffer) → lookup a us ≡ lookup a vs → IsLentBy vs access a b → IsLentBy us access a b
lent_moved vs us access a b same (inl none) = inl none
lent_moved vs us access a b same (inr (n, level, e, is)) = inr (n, level, same ∙ e, is)

-- what is known to be a buffer owns nothing
fewer_owners : (vs : Variables) (x : Identifier) (b : BufferState) (l m : ℕ) (known : ByName VariableState)
    → length (filter (owns vs l m) (map (λ (v : Identifier × VariableState). (v.0, if bytes_eq x v.0 then BufferIn b else v.1)) known)) ≤ length (filter (owns vs l m) known)
fewer_owners vs x b l m [] = omega arith
fewer_owners vs x b l m ((y, v) ∷ known) = by_test (bytes_eq x y) (fewer_owners vs x b l m known)
  where
    by_test : (c : Bool) → length (filter (owns vs l m) (map (λ (v : Identifier × VariableState). (v.0, if bytes_eq x v.0 then BufferIn b else v.1)) known)) ≤ length (filter (owns vs l m) known)
        → length (filter (owns vs l m) ((y, if c then BufferIn b else v) ∷ map (λ (v : Identifier × VariableState). (v.0, if bytes_eq x v.0 then BufferIn b else v.1)) known)) ≤ length (filter (owns vs l m) ((y, v) ∷ known))
    by_test true later =
        let old = counted_here (owns vs l m (y, v)) (y, v) (filter (owns vs l m) known) in
        omega (arith, old, later)
    by_test false later =
        let new = counted_here (owns vs l m (y, v)) (y, v) (filter (owns vs l m) (map (λ (v : Identifier × VariableState). (v.0, if bytes_eq x v.0 then BufferIn b else v.1)) known)) in
        let old = counted_here (owns vs l m (y, v)) (y, v) (filter (owns vs l m) known) in
        omega (arith, new, old, later)

module _ (unit : SourceUnit) (classes : Classes) (in_use : BuffersInUse) (k : ℕ) (s : Shared) (t : Thread) (rest : List Task) (p : Point) {weak : WeakNames} {own : Owners} (stands : Stands weak own s.statics t.variables t.frames p) (access : Access) (a : Identifier) (level : ℕ) (here_a : state_of p.regions a ≡ Some (ReferenceAt level true)) (b : Buffer) (is_lent : IsLentBy t.variables access a b) where
  -- a new variable holds the buffer
  got_declared : (x : Identifier) (u : ElementType) (w : Bool) → IsNew p x
      → Stands weak own s.statics (assign x (Elements u b) t.variables) t.frames (at (named p x (types.Buffer u w)) (with_new p.regions x (BufferIn (Untested access a))))
  got_declared x u w new = stands_at s.statics t.variables t.frames p stands x (Elements u b) t.frames (at (named p x (types.Buffer u w)) (with_new p.regions x (BufferIn (Untested access a)))) (record {
    elsewhere = λ y other. front_other x y (BufferIn (Untested access a)) p.regions.variables other;
    apart = λ y c access' m l h at_c same. new.unused y access' (subst (Holds p y access') same h);
    here = λ v e.
        let both : Some (BufferIn (Untested access a)) ≡ Some v = sym (front_same x (BufferIn (Untested access a)) p.regions.variables) ∙ e in
        let one : BufferIn (Untested access a) ≡ v = cc in
        let other : a ≢ x = λ same. none_some (state_of p.regions x) (ReferenceAt level true) new.unknown (subst (λ (z : Identifier). state_of p.regions z ≡ Some (ReferenceAt level true)) same here_a) in
        subst (λ (v : VariableState). Shows (assign x (Elements u b) t.variables) v (Some (Elements u b))) one
        (u, b, refl, lent_moved t.variables (assign x (Elements u b) t.variables) access a b (lookup_other x a (Elements u b) t.variables other) is_lent);
    types = types_named s.statics t.variables t.frames p stands x (Elements u b) (types.Buffer u w) (b, refl);
    held = λ v c e. inr (access, a, inl (front_same x (BufferIn (Untested access a)) p.regions.variables));
    kinds = kinds_named weak x (types.Buffer u w) p.names tt stands.kinds;
    known_once = (new.unknown, stands.known_once);
    depth = stands.depth;
    backed = λ l m.
        let same = owners_elsewhere t.variables x (Elements u b) l m p.regions.variables new.unknown in
        let enough = stands.backed l m in
        omega (arith, same, enough);
    keeps = λ y other. refl;
    owned_here = λ l m n known h. absurd (let c : Elements u b ≡ LocalRef m (Some n) = h in cc);
  })

  -- a buffer that is there and free holds it
  got_assigned : (x : Identifier) (u : ElementType) (old : Buffer) → state_of p.regions x ≡ Some (BufferIn Free) → lookup x t.variables ≡ Some (Elements u old)
      → Stands weak own s.statics (assign x (Elements u b) t.variables) t.frames (at p (with_changed p.regions x (λ v. BufferIn (Untested access a))))
  got_assigned x u old e at_x = stands_at s.statics t.variables t.frames p stands x (Elements u b) t.frames (at p (with_changed p.regions x (λ v. BufferIn (Untested access a)))) (record {
    elsewhere = λ y other. known_other p.regions x y (λ v. BufferIn (Untested access a)) other;
    apart = λ y c access' m l h at_c. apart_buffer unit classes in_use k s t rest p stands x u old at_x c m l at_c;
    here = λ v h.
        let both : Some (BufferIn (Untested access a)) ≡ Some v = sym (known_there x e) ∙ h in
        let one : BufferIn (Untested access a) ≡ v = cc in
        let other : a ≢ x = λ same. let both : Some (ReferenceAt level true) ≡ Some (BufferIn Free) = sym (subst (λ (z : Identifier). state_of p.regions z ≡ Some (ReferenceAt level true)) same here_a) ∙ e in cc in
        subst (λ (v : VariableState). Shows (assign x (Elements u b) t.variables) v (Some (Elements u b))) one
        (u, b, refl, lent_moved t.variables (assign x (Elements u b) t.variables) access a b (lookup_other x a (Elements u b) t.variables other) is_lent);
    types = λ y r h. elim (one_or_other y x) [
      | inl same ↦
          subst (λ (z : Identifier). VariableFits r (lookup z (assign x (Elements u b) t.variables)) (lookup z s.statics)) (sym same)
          (subst (λ (o : Option Variable). VariableFits r o (lookup x s.statics)) (sym (lookup_same x (Elements u b) t.variables))
          (type_of_buffer unit classes in_use k s t rest p stands r (lookup x t.variables) (lookup x s.statics) u old b at_x (stands.types x r (subst (λ (z : Identifier). type_in p.names z ≡ Some r) same h))))
      | inr other ↦ subst (λ (o : Option Variable). VariableFits r o (lookup y s.statics)) (sym (lookup_other x y (Elements u b) t.variables other)) (stands.types y r h)
    ];
    held = λ v c h. inr (access, a, inl (known_there x e));
    kinds = stands.kinds;
    known_once = once_changed (λ (y : Identifier) (old : VariableState). if bytes_eq x y then BufferIn (Untested access a) else old) p.regions.variables stands.known_once;
    depth = stands.depth;
    backed = λ l m.
        let us = assign x (Elements u b) t.variables in
        let less = fewer_owners us x (Untested access a) l m p.regions.variables in
        let same = owners_same t.variables us l m p.regions.variables (λ y. elim (one_or_other y x) [
          | inl is ↦ subst (λ (z : Identifier). is_copy l m (lookup z us) ≡ is_copy l m (lookup z t.variables)) (sym is)
              (ap (is_copy l m) (lookup_same x (Elements u b) t.variables) ∙ buffer_no_copy unit classes in_use k s t rest p stands l m u old b (lookup x t.variables) at_x)
          | inr other ↦ ap (is_copy l m) (lookup_other x y (Elements u b) t.variables other)
        ]) in
        let enough = stands.backed l m in
        omega (arith, less, same, enough);
    keeps = λ y other. refl;
    owned_here = λ l m n known h. absurd (let c : Elements u b ≡ LocalRef m (Some n) = h in cc);
  })
    where
      known_there : (x : Identifier) → state_of p.regions x ≡ Some (BufferIn Free) → state_of (with_changed p.regions x (λ v. BufferIn (Untested access a))) x ≡ Some (BufferIn (Untested access a))
      known_there x e = known_same p.regions x (λ v. BufferIn (Untested access a)) ∙ ap (option_map (λ (v : VariableState). BufferIn (Untested access a))) e

  declared : (kind : VariableKind) (x : Identifier) → DeclaresResult p kind x (GivesBuffer access) (Some (access, Some a)) (GoesOn rest) → Lands weak own s.statics (put (Declared kind x) (BufferResult b) s (with_tasks t rest))
  declared (kinds.Buffer u) x (new, (w, for_it, g)) = ((at (named p x (types.Buffer u w)) (with_new p.regions x (BufferIn (Untested access a))), got_declared x u w new, g), same_statics s.statics)
  declared kinds.Number x h = absurd h
  declared kinds.Reference x h = absurd h
  declared kinds.Field x h = absurd h
  declared kinds.Method x h = absurd h

  assigned : (x : Identifier) (o : Option ExprType) → AssignsResult p o x (GivesBuffer access) (Some (access, Some a)) (GoesOn rest) → Lands weak own s.statics (put_assigned x (BufferResult b) s (with_tasks t rest) (lookup x t.variables))
  assigned x (Some (types.Buffer u w)) (e, for_it, g) =
      let shown = stands.shows x (BufferIn Free) e in
      subst (λ (v : Option Variable). Lands weak own s.statics (put_assigned x (BufferResult b) s (with_tasks t rest) v)) (sym shown.2)
      ((at p (with_changed p.regions x (λ v. BufferIn (Untested access a))), got_assigned x shown.0 shown.1 e shown.2, g), same_statics s.statics)
  assigned x o h = absurd h

  -- the buffer goes where it may
  pub buffer_lands : (target : Target) → ResultGoes target (GivesBuffer access) (Some (access, Some a)) (GoesOn rest) p → Lands weak own s.statics (put target (BufferResult b) s (with_tasks t rest))
  buffer_lands (Declared kind x) h = declared kind x h
  buffer_lands (Assigned x) h = assigned x (type_in p.names x) h
  buffer_lands (Tested c d) h = absurd h
  buffer_lands Dropped h = absurd h.0

-- ---- whether it is a copy

module _ (ss : Statics) (vs : Variables) (frames : List Frame) (p : Point) {weak : WeakNames} {own : Owners} (stands : Stands weak own ss vs frames p) (y : Identifier) (flag : type_in p.names y ≡ Some types.Flag) where
  flag_set : (v : Bool) → Stands weak own ss (assign y (Scalar (Flag v)) vs) frames p
  flag_set v =
      let old = stands.types y types.Flag flag in
      stands_kept ss vs frames p stands y (Scalar (Flag v)) types.Flag (Scalar old.0) flag old.1 (λ level r e. no_ref old.0 level r e) (λ u b e. no_buffer old.0 u b e) (Flag v, refl, refl) (λ u b e. absurd (no_buffer (Flag v) u b e))
    where
      no_ref : (v : Value) (level : ℕ) (r : _) → Scalar v ≡ LocalRef level r → ⊥
      no_ref v level r e = cc

      no_buffer : (v : Value) (u : _) (b : Buffer) → Scalar v ≡ Elements u b → ⊥
      no_buffer v u b e = cc

  not_flag : (a : Identifier) (level : ℕ) (r : Reference) → lookup a vs ≡ Some (LocalRef level r) → a ≢ y
  not_flag a level r e same =
      let old = stands.types y types.Flag flag in
      let there : lookup y vs ≡ Some (LocalRef level r) = subst (λ (z : Identifier). lookup z vs ≡ Some (LocalRef level r)) same e in
      let both : Some (Scalar old.0) ≡ Some (LocalRef level r) = sym old.1 ∙ there in
      cc

  -- the flag tells it
  pub stands_told : (b : Buffer) → Stands weak own ss (tell_copy (Some y) (BufferResult b) vs) frames p
  stands_told NoBuffer = stands
  stands_told (Copy n zs) = flag_set true
  stands_told (View n) = flag_set false

  -- and references are as they were
  pub told_apart : (a : Identifier) (level : ℕ) (r : Reference) (b : Buffer) → lookup a vs ≡ Some (LocalRef level r) → lookup a (tell_copy (Some y) (BufferResult b) vs) ≡ lookup a vs
  told_apart a level r NoBuffer e = refl
  told_apart a level r (Copy n zs) e = lookup_other y a (Scalar (Flag true)) vs (not_flag a level r e)
  told_apart a level r (View n) e = lookup_other y a (Scalar (Flag false)) vs (not_flag a level r e)

-- ---- the step

module _ (unit : SourceUnit) (classes : Classes) (in_use : BuffersInUse) (k : ℕ) (s : Shared) (t : Thread) (line : ℕ) (rest : List Task) (p : Point) {weak : WeakNames} {own : Owners} (stands : Stands weak own s.statics t.variables t.frames p) (whole : Goes weak own s.statics t t.tasks) where
  -- the object of the first argument
  abbrev object_of : Identifier → Option Variable → ℕ
  object_of a o = name_or_zero (reference_in_actual (Some (ReferenceActual a (held_reference o (lookup a s.statics)))))

  -- the buffer of an answer, which may be none
  module _ (access : Access) (a : Identifier) (level n m : ℕ) (e : lookup a t.variables ≡ Some (LocalRef level (Some n))) (same : m ≡ n) where
    copy_lent : (fits : Bool) (zs : List ℤ) → is_critical access ≡ false → IsLentBy t.variables access a (if fits then Copy m zs else NoBuffer)
    copy_lent true zs critical = inr (n, level, e, subst (λ (c : Bool). IsOf c n (Copy m zs)) (sym critical) (zs, ap (λ (i : ℕ). Copy i zs) same))
    copy_lent false zs critical = inl refl

    view_lent : (fits : Bool) → is_critical access ≡ true → IsLentBy t.variables access a (if fits then View m else NoBuffer)
    view_lent true critical = inr (n, level, e, subst (λ (c : Bool). IsOf c n (View m)) (sym critical) (ap (λ (i : ℕ). View i) same))
    view_lent false critical = inl refl

  module _ (access : Access) (a : Identifier) (level : ℕ) (here_a : state_of p.regions a ≡ Some (ReferenceAt level true)) (r : Reference) (at_a : lookup a t.variables ≡ Some (LocalRef level r)) (target : Target) (away : IsNoTest target) (goes : ResultGoes target (GivesBuffer access) (Some (access, Some a)) (GoesOn rest) p) where
    -- the address of a flag, or NULL
    abbrev IsFlagOrNone : Option Identifier → Type 0
    IsFlagOrNone y = (y ≡ None) ⊎ ((x : Identifier) × (y ≡ Some x) × (type_in p.names x ≡ Some types.Flag))

    got : (shared : Shared) → shared.statics ≡ s.statics → (b : Buffer) → IsLentBy t.variables access a b → (y : Option Identifier) → IsFlagOrNone y
        → Lands weak own shared.statics (put target (BufferResult b) shared (record t { tasks = Some (tasks_after line target false ++ rest); variables = tell_copy y (BufferResult b) t.variables }))
    got shared same b is y told =
        subst (λ (tasks : List Task). Lands weak own shared.statics (put target (BufferResult b) shared (record t { tasks = Some tasks; variables = tell_copy y (BufferResult b) t.variables }))) (sym (nothing_after t line rest target false away)) (by_copy told)
      where
        there : Stands weak own shared.statics t.variables t.frames p
        there = subst (λ (ss : Statics). Stands weak own ss t.variables t.frames p) (sym same) stands

        by_copy : IsFlagOrNone y → Lands weak own shared.statics (put target (BufferResult b) shared (record t { tasks = Some rest; variables = tell_copy y (BufferResult b) t.variables }))
        by_copy (inl none) =
            subst (λ (z : Option Identifier). Lands weak own shared.statics (put target (BufferResult b) shared (record t { tasks = Some rest; variables = tell_copy z (BufferResult b) t.variables }))) (sym none)
            (buffer_lands unit classes in_use k shared t rest p there access a level here_a b is target goes)
        by_copy (inr (x, is_x, flag)) =
            subst (λ (z : Option Identifier). Lands weak own shared.statics (put target (BufferResult b) shared (record t { tasks = Some rest; variables = tell_copy z (BufferResult b) t.variables }))) (sym is_x)
            (buffer_lands unit classes in_use k shared (record t { variables = tell_copy (Some x) (BufferResult b) t.variables }) rest p (stands_told shared.statics t.variables t.frames p there x flag b) access a level here_a b
            (lent_moved t.variables (tell_copy (Some x) (BufferResult b) t.variables) access a b (told_apart shared.statics t.variables t.frames p there x flag a level r b at_a) is) target goes)

  -- the variable of `isCopy`
  abbrev told_in : Operand → Option Identifier
  told_in c = address_in_actual (Some (look_up (sight_of s t) (IsCopy, c)))

  told_fits : {c : Operand} → OperandFits p IsCopy c → (told_in c ≡ None) ⊎ ((x : Identifier) × (told_in c ≡ Some x) × (type_in p.names x ≡ Some types.Flag))
  told_fits rule.not_told = inl refl
  told_fits (rule.told {x = y} flag) = inr (y, refl, flag)
  told_fits (rule.reference takes fits) = elim takes [ ]

  -- the arguments of such a call
  abbrev got_with : Access → Identifier → Operand → List Actual
  got_with access a c = actuals (sight_of s t) (GetBuffer access) (Given (tree.Value (tree.Variable a)) ∷ c ∷ [])

  -- the object that it gets a buffer of
  got_of : (access : Access) (a : Identifier) (c : Operand) → object_given (got_with access a c) 0 ≡ object_of a (lookup a t.variables)
  got_of (ElementsCopy u) a c = refl
  got_of CharsCopy a c = refl
  got_of ArrayView a c = refl
  got_of CharsView a c = refl

  told_is : (access : Access) (a : Identifier) (c : Operand) → address_given (got_with access a c) 1 ≡ told_in c
  told_is (ElementsCopy u) a c = refl
  told_is CharsCopy a c = refl
  told_is ArrayView a c = refl
  told_is CharsView a c = refl

  -- NULL would have been a trap
  -- what its checks see
  abbrev sight : (access : Access) (a : Identifier) (c : Operand) → CallSight
  sight access a c = sight_of_call s t (GetBuffer access) (got_with access a c)

  null_missing : (access : Access) (a : Identifier) (c : Operand) (level : ℕ) → lookup a t.variables ≡ Some (LocalRef level None) → list_any misses (with_kinds classes (sight access a c) (GetBuffer access)) ≡ true
  null_missing (ElementsCopy u) a c level e = cc
  null_missing CharsCopy a c level e = cc
  null_missing ArrayView a c level e = cc
  null_missing CharsView a c level e = cc

  module _ (access : Access) (a : Identifier) (c : Operand) (level n : ℕ) (target : Target) (away : IsNoTest target) (here_a : state_of p.regions a ≡ Some (ReferenceAt level true)) (at_a : lookup a t.variables ≡ Some (LocalRef level (Some n)))
      (fit : OperandFits p IsCopy c) (goes : ResultGoes target (GivesBuffer access) (Some (access, Some a)) (GoesOn rest) p) where
    buffer_given : (answer : Answer) → ((y : Identifier) → own y ≡ left_by answer (got_with access a c) (length t.frames) own y) → (b : Buffer) → IsLentBy t.variables access a b → AnswerLands unit classes in_use k s t line rest weak own target (GetBuffer access) (got_with access a c) answer (Leaves [] s t (BufferResult b))
    buffer_given answer left b lent =
        put_by weak target _ (left_by answer (got_with access a c) (length t.frames) own) own (λ vs. refl) (λ y other. left y) s.statics target (BufferResult b) _ _
        (subst (λ (y : Option Identifier). Lands weak own s.statics (put target (BufferResult b) (record s { heap = s.heap ++ [] }) (record t { tasks = Some (tasks_after line target false ++ rest); variables = tell_copy y (BufferResult b) t.variables }))) (sym (told_is access a c))
        (got access a level here_a (Some n) at_a target away goes (record s { heap = s.heap ++ [] }) refl b lent (told_in c) (told_fits fit)))

    same_object : object_given (got_with access a c) 0 ≡ n
    same_object = got_of access a c ∙ ap (object_of a) at_a

    buffer_answered : {kind : ResultKind} {answer : Answer} → AnswersAs unit classes (sight_of_call s t (GetBuffer access) (got_with access a c)) (GetBuffer access) (GetsBuffer access) kind answer → AnswerLands unit classes in_use k s t line rest weak own target (GetBuffer access) (got_with access a c) answer (effect_of classes in_use k s t (got_with access a c) answer)
    unfolding effect_of
    buffer_answered (Copying of plain) = buffer_given (Copies (object_given (got_with access a c) 0)) (λ y. refl) _ (copy_lent access a level n (object_given (got_with access a c) 0) at_a same_object _ _ plain)
    buffer_answered (Viewing of critical) = buffer_given (Views (object_given (got_with access a c) 0)) (λ y. refl) _ (view_lent access a level n (object_given (got_with access a c) 0) at_a same_object _ critical)
    buffer_answered (Halting trap) = (whole, λ x q g. (q, g))

  got_at : (access : Access) (a : Identifier) (c : Operand) (level : ℕ) (r : Reference) (target : Target) → IsNoTest target → state_of p.regions a ≡ Some (ReferenceAt level true) → lookup a t.variables ≡ Some (LocalRef level r) → OperandFits p IsCopy c
      → ResultGoes target (GivesBuffer access) (Some (access, Some a)) (GoesOn rest) p → (o : Option Trap) → trap_of_call classes s t target (GetBuffer access) (got_with access a c) ≡ o
      → AnswerLands unit classes in_use k s t line rest weak own target (GetBuffer access) (got_with access a c) (answer_to unit classes k s t (GetBuffer access) (got_with access a c)) (checked o (call_effect unit classes in_use k s t (got_with access a c) (GetBuffer access)))
  got_at access a c level r target away here_a at_a fit goes (Some trap) e = (whole, λ x q g. (q, g))
  got_at access a c level None target away here_a at_a fit goes None e =
      absurd (let missing = null_missing access a c level at_a in let none = (passed classes (sight access a c) (target_element t.variables target) (GetBuffer access) e).given in let both : true ≡ false = sym missing ∙ none in cc)
  got_at access a c level (Some n) target away here_a at_a fit goes None e =
      (buffer_answered access a c level n target away here_a at_a fit goes (answers_as unit classes k (sight access a c) (GetBuffer access)))

  get_operands : (access : Access) (target : Target) (operands : List Operand) → IsNoTest target → CallKeeps p (GetBuffer access) (map operand_argument operands) → OperandsFit p (owner access ∷ IsCopy ∷ []) operands
      → ResultGoes target (GivesBuffer access) (get_of (call_seen (GetBuffer access) operands)) (GoesOn rest) p
      → CallLands unit classes in_use k s t line rest weak own target (GetBuffer access) (actuals (sight_of s t) (GetBuffer access) operands)
  get_operands access target (Given (tree.Value (tree.Variable a)) ∷ operands) away (level, e) (rule.next object (rule.next {o = c} fit rule.done)) goes =
      let shown = stands.shows a (ReferenceAt level true) e in
      got_at access a c level shown.0 target away e shown.1 fit goes (trap_of_call classes s t target (GetBuffer access) (got_with access a c)) refl
  get_operands access target operands away rules fit goes = absurd rules

  get_no_push : (access : Access) → GetBuffer access ≡ PushLocalFrame → ⊥
  get_no_push access e = cc

  -- the calls that get a buffer
  pub get_lands : (access : Access) (target : Target) (operands : List Operand) → Runs (Invoke line target (GetBuffer access) operands) (GoesOn rest) p
      → CallLands unit classes in_use k s t line rest weak own target (GetBuffer access) (actuals (sight_of s t) (GetBuffer access) operands)
  get_lands access (Tested a b) operands r = absurd (get_no_push access r.1)
  get_lands access (Declared kind x) operands r = get_operands access (Declared kind x) operands tt r.0.rules r.0.types r.2
  get_lands access (Assigned x) operands r = get_operands access (Assigned x) operands tt r.0.rules r.0.types r.2
  get_lands access Dropped operands r = get_operands access Dropped operands tt r.0.rules r.0.types r.2
