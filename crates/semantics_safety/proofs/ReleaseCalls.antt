-- The steps of the calls that release a buffer.
use Rattle.std.proofs.Common.{◌≡◌, ℕ, arith, Bool, true, false, not, inl, inr, List, [], ◌∷◌, map, Option, Some, None, refl, sym, ap, ◌∙◌, subst, if◌then◌else◌, length}
use Rattle.std.proofs.lemmas.List.{append-nil}
use Rattle.std.specs.Option.{option_map}
use Rattle.std.specs.Str.{bytes_eq}
use Rattle.base.specs.Bytes.{Identifier, lookup}
use Rattle.base.specs.declared.element.ElementType.{ElementType}
use Rattle.syntax.specs.Tree.{SourceUnit}
use Rattle.syntax.specs.Tree as tree
use Rattle.syntax.specs.declared.expr.Constant.TheVariants as constants
use Rattle.class_rules.specs.Class.{Classes}
use Rattle.jni.specs.declared.access.Access.{Access}
use Rattle.jni.specs.declared.access.Access.TheVariants.{ElementsCopy, ArrayView, CharsCopy, CharsView}
use Rattle.jni.specs.Access.{is_critical}
use Rattle.jni.specs.declared.function.JniFunction.TheVariants.{ReleaseBuffer, PushLocalFrame}
use Rattle.jni.specs.JniFunction.{parameters_for, prototype}
use Rattle.jni.specs.declared.kinds.ParameterKind.{ParameterKind}
use Rattle.jni.specs.declared.kinds.ParameterKind.TheVariants.{Mode}
use Rattle.jni.specs.declared.kinds.ResultKind.{ResultKind}
use Rattle.jni.specs.declared.kinds.ResultKind.TheVariants.{GivesNothing}
use Rattle.jni.specs.Prototype.{release_mode}
use Rattle.type_rules.specs.ExprTypes.{type_in}
use Rattle.region_rules.specs.RegionStates as states
use Rattle.region_rules.specs.RegionStates.{VariableState, Free, Usable, BufferIn, state_of, with_changed, made_free, has_commit}
use Rattle.semantics.specs.Answer.{Answer, effect_of, with_copied_back, CopiesBack, Frees}
use Rattle.semantics.specs.Arguments.{Actual, look_up, actuals, object_given, mode_given, mode_in_actual}
use Rattle.semantics.specs.CallEffects.{Leaves, NoResult, with_freed, freed}
use Rattle.semantics.specs.AnswerTable.{call_effect}
use Rattle.semantics.specs.CallSight.{sight_of_call}
use Rattle.semantics.specs.CallStep.{trap_of_call, checked, after_call}
use Rattle.semantics.specs.Task.{Task, Target, Declared, Assigned, Tested, Dropped, Operand, Given, Invoke}
use Rattle.semantics.specs.Thread.{Thread, Shared, BuffersInUse, sight_of}
use Rattle.semantics.specs.declared.trap.Trap.{Trap}
use Rattle.semantics.specs.Variable.{Variable, Elements, Buffer, NoBuffer, Variables, Statics, assign, change, LocalRef}
use Rattle.semantics.proofs.AnswerFacts.{frees_in}
use Rattle.semantics.proofs.AnswerKinds.{AnswersAs, CopyingBack, Freeing, Halting, ReleasesBuffer, answers_as}
use Rattle.semantics_safety.proofs.OwnerLaws.{AnswerLands, CallLands}
use Rattle.semantics_safety.specs.Owners.{Owners, after_answer, left_by, answer_to}
use Rattle.semantics_safety.specs.Points as rule
use Rattle.semantics_safety.specs.Points.{Point, OperandFits, OperandsFit, is_copy}
use Rattle.semantics_safety.specs.Stands.{VariableFits, Shows, Goes, Stands}
use Rattle.semantics_safety.specs.Wanted.{Runs, ResultGoes, GoesOn, CallKeeps, operand_argument, call_seen, at}
use Rattle.semantics_safety.specs.WeakNames.{WeakNames}
use Rattle.semantics_safety.proofs.ChangeCalls.{changed_is}
use Rattle.semantics_safety.proofs.NameLaws.{one_or_other, lookup_same, lookup_other, known_same, known_other}
use Rattle.semantics_safety.proofs.PointLaws.{owners_kept, free_owns}
use Rattle.semantics_safety.proofs.QuietLaws.{Plainly, IsNoTest, given_lands}
use Rattle.semantics_safety.proofs.ResultLaws.{NoResultThere}
use Rattle.semantics_safety.proofs.SetLaws.{once_changed, owners_same, stands_at}
use Rattle.semantics_safety.proofs.StepLaws.{LandsBy, apart_buffer, type_of_buffer, buffer_no_copy}

null_buffer : (v u : _) (b : Buffer) → Elements v NoBuffer ≡ Elements u b → b ≡ NoBuffer
null_buffer v u b e = cc

module _ (unit : SourceUnit) (classes : Classes) (in_use : BuffersInUse) (k : ℕ) (s : Shared) (t : Thread) (line : ℕ) (rest : List Task) (p : Point) {weak : WeakNames} {own : Owners} (stands : Stands weak own s.statics t.variables t.frames p) (whole : Goes weak own s.statics t t.tasks) where
  -- the point with a buffer given up
  abbrev freed_point : Identifier → Point
  freed_point x = at p (with_changed p.regions x made_free)

  stands_free : (x : Identifier) (access : Access) (a : Identifier) (u : _) (b : Buffer) → state_of p.regions x ≡ Some (BufferIn (Usable access a)) → lookup x t.variables ≡ Some (Elements u b) → Stands weak own s.statics (assign x (Elements u NoBuffer) t.variables) t.frames (freed_point x)
  stands_free x access a u b e at_x = stands_at s.statics t.variables t.frames p stands x (Elements u NoBuffer) t.frames (freed_point x) (record {
    elsewhere = λ y other. known_other p.regions x y made_free other;
    apart = λ y c access m level h at_c. apart_buffer unit classes in_use k s t rest p stands x u b at_x c m level at_c;
    here = λ v h.
        let both : Some (BufferIn Free) ≡ Some v = sym (known_same p.regions x made_free ∙ ap (option_map made_free) e) ∙ h in
        let one : BufferIn Free ≡ v = cc in
        subst (λ (v : VariableState). Shows (assign x (Elements u NoBuffer) t.variables) v (Some (Elements u NoBuffer))) one (u, NoBuffer, refl, refl);
    types = λ y r h. elim (one_or_other y x) [
      | inl same ↦
          subst (λ (z : Identifier). VariableFits r (lookup z (assign x (Elements u NoBuffer) t.variables)) (lookup z s.statics)) (sym same)
          (subst (λ (o : Option Variable). VariableFits r o (lookup x s.statics)) (sym (lookup_same x (Elements u NoBuffer) t.variables))
          (type_of_buffer unit classes in_use k s t rest p stands r (lookup x t.variables) (lookup x s.statics) u b NoBuffer at_x (stands.types x r (subst (λ (z : Identifier). type_in p.names z ≡ Some r) same h))))
      | inr other ↦ subst (λ (o : Option Variable). VariableFits r o (lookup y s.statics)) (sym (lookup_other x y (Elements u NoBuffer) t.variables other)) (stands.types y r h)
    ];
    held = λ v c h. inl (null_buffer u v c h);
    kinds = stands.kinds;
    known_once = once_changed (λ (y : Identifier) (old : VariableState). if bytes_eq x y then made_free old else old) p.regions.variables stands.known_once;
    depth = stands.depth;
    backed = λ level m.
        let us = assign x (Elements u NoBuffer) t.variables in
        let kept = owners_kept us level m x made_free p.regions (free_owns us level m) in
        let same = owners_same t.variables us level m p.regions.variables (λ y. elim (one_or_other y x) [
          | inl is ↦ subst (λ (z : Identifier). is_copy level m (lookup z us) ≡ is_copy level m (lookup z t.variables)) (sym is)
              (ap (is_copy level m) (lookup_same x (Elements u NoBuffer) t.variables) ∙ buffer_no_copy unit classes in_use k s t rest p stands level m u b NoBuffer (lookup x t.variables) at_x)
          | inr other ↦ ap (is_copy level m) (lookup_other x y (Elements u NoBuffer) t.variables other)
        ]) in
        let enough = stands.backed level m in
        omega (arith, kept, same, enough);
    keeps = λ y other. refl;
    owned_here = λ level l n known h. absurd (let c : Elements u NoBuffer ≡ LocalRef l (Some n) = h in cc);
  })

  stands_freed : (x : Identifier) (access : Access) (a : Identifier) → state_of p.regions x ≡ Some (BufferIn (Usable access a)) → Stands weak own s.statics (change x freed t.variables) t.frames (freed_point x)
  stands_freed x access a e =
      let shown = stands.shows x (BufferIn (Usable access a)) e in
      subst (λ (vs : Variables). Stands weak own s.statics vs t.frames (freed_point x)) (sym (changed_is x freed (Elements shown.0 shown.1) t.variables shown.2)) (stands_free x access a shown.0 shown.1 e shown.2)

  module _ (access : Access) (a x : Identifier) (usable : state_of p.regions x ≡ Some (BufferIn (Usable access a))) (target : Target) (away : IsNoTest target) (args : List Actual) (get : Option (Access × Option Identifier)) where
    -- an answer that ends no reference, and leaves the statics as they were
    abbrev Answered : Answer → Shared → Type 0
    Answered answer s' = ((y : Identifier) → own y ≡ left_by answer args (length t.frames) own y) × (s'.statics ≡ s.statics)

    abbrev Lands : Answer → Shared → Thread → Type 0
    Lands answer s' t' = AnswerLands unit classes in_use k s t line rest weak own target (ReleaseBuffer access) args answer (Leaves [] s' t' NoResult)

    released_lands : (answer : Answer) (s' : Shared) (t' : Thread) (q : Point) → Answered answer s' → Stands weak own s.statics t'.variables t'.frames q → ResultGoes target GivesNothing get (GoesOn rest) q → Lands answer s' t'
    released_lands answer s' t' q (left, same) there goes =
        subst (λ (ss : Statics). LandsBy weak (after_answer target answer args (length t.frames) own) ss (after_call unit classes in_use k s t line target (ReleaseBuffer access) args rest (Leaves [] s' t' NoResult))) same
        (given_lands unit classes in_use k s t line target (ReleaseBuffer access) args rest q own answer left GivesNothing [] s' t' NoResult get refl away (λ c. absurd (cc))
        (subst (λ (ss : Statics). Stands weak own ss t'.variables t'.frames q) (sym same) there) (Plainly NoResultThere) goes)

    -- with the buffer given up
    freed_lands : (answer : Answer) (s' : Shared) → Answered answer s' → ResultGoes target GivesNothing get (GoesOn rest) (freed_point x) → Lands answer s' (with_freed t x)
    freed_lands answer s' is goes = released_lands answer s' (with_freed t x) (freed_point x) is (stands_freed x access a usable) goes

    -- with the buffer kept
    kept_lands : (answer : Answer) (s' : Shared) → Answered answer s' → ResultGoes target GivesNothing get (GoesOn rest) p → Lands answer s' t
    kept_lands answer s' is goes = released_lands answer s' t p is stands goes

  -- the point after a release, by whether it commits
  abbrev released_point : Bool → Identifier → Point
  released_point commits x = at p (if commits then p.regions else with_changed p.regions x made_free)

  -- the arguments of a release
  abbrev given_to : Access → Identifier → Identifier → List Operand → List Actual
  given_to access a x modes = actuals (sight_of s t) (ReleaseBuffer access) (Given (tree.Value (tree.Variable a)) ∷ Given (tree.Value (tree.Variable x)) ∷ modes)

  -- a mode commits where it gives no buffer up
  commit_is : {m : Operand} → OperandFits p Mode m → has_commit (operand_argument m ∷ []) ≡ not (frees_in (mode_in_actual (Some (look_up (sight_of s t) (Mode, m)))))
  commit_is rule.mode_number = refl
  commit_is (rule.mode {c = constants.Commit}) = refl
  commit_is (rule.mode {c = constants.Abort}) = refl
  commit_is (rule.mode {c = c}) = refl
  commit_is (rule.reference takes fits) = elim takes [ ]

  none_commits : (b : Bool) → (b ≡ true → true ≡ false) → b ≡ false
  none_commits true h = h refl
  none_commits false h = refl

  uncommitted : (access : Access) (a x : Identifier) (modes : List Operand) → OperandsFit p (release_mode access) modes → (has_commit (map operand_argument modes) ≡ true → is_critical access ≡ false)
      → ((T : ElementType) → access ≡ ElementsCopy T → frees_in (mode_given (given_to access a x modes) 2) ≡ true) → has_commit (map operand_argument modes) ≡ false
  uncommitted (ElementsCopy u) a x modes (rule.next fit rule.done) commits frees = commit_is fit ∙ ap not (frees u refl)
  uncommitted ArrayView a x modes fit commits frees = none_commits (has_commit (map operand_argument modes)) commits
  uncommitted CharsCopy a x modes rule.done commits frees = refl
  uncommitted CharsView a x modes rule.done commits frees = refl

  committed : (u : ElementType) (a x : Identifier) (modes : List Operand) → OperandsFit p (Mode ∷ []) modes → (frees : Bool) → frees_in (mode_given (given_to (ElementsCopy u) a x modes) 2) ≡ frees
      → has_commit (map operand_argument modes) ≡ not frees
  committed u a x modes (rule.next fit rule.done) frees is = commit_is fit ∙ ap not is

  module _ (a x : Identifier) (modes : List Operand) (target : Target) (away : IsNoTest target) (get : Option (Access × Option Identifier)) (goes : ResultGoes target GivesNothing get (GoesOn rest) (released_point (has_commit (map operand_argument modes)) x)) where
    -- what follows goes by whether the release commits
    goes_by : (commits : Bool) → has_commit (map operand_argument modes) ≡ commits → ResultGoes target GivesNothing get (GoesOn rest) (released_point commits x)
    goes_by commits is = subst (λ (b : Bool). ResultGoes target GivesNothing get (GoesOn rest) (released_point b x)) is goes

    released : {kind : ResultKind} {answer : Answer} (access : Access) → state_of p.regions x ≡ Some (BufferIn (Usable access a)) → (has_commit (map operand_argument modes) ≡ true → is_critical access ≡ false) → OperandsFit p (release_mode access) modes
        → AnswersAs unit classes (sight_of_call s t (ReleaseBuffer access) (given_to access a x modes)) (ReleaseBuffer access) (ReleasesBuffer access) kind answer
        → AnswerLands unit classes in_use k s t line rest weak own target (ReleaseBuffer access) (given_to access a x modes) answer (effect_of classes in_use k s t (given_to access a x modes) answer)
    unfolding effect_of
    released access usable commits fit (CopyingBack T true of mode) =
        freed_lands access a x usable target away (given_to access a x modes) get (CopiesBack (object_given (given_to access a x modes) 0) 1 true) (record s { heap = with_copied_back t.variables x (object_given (given_to access a x modes) 0) s.heap }) ((λ y. refl), refl) (goes_by false (committed T a x modes fit true mode))
    released access usable commits fit (CopyingBack T false of mode) =
        kept_lands access a x usable target away (given_to access a x modes) get (CopiesBack (object_given (given_to access a x modes) 0) 1 false) (record s { heap = with_copied_back t.variables x (object_given (given_to access a x modes) 0) s.heap }) ((λ y. refl), refl) (goes_by true (committed T a x modes fit false mode))
    released access usable commits fit (Freeing mode) = freed_lands access a x usable target away (given_to access a x modes) get (Frees 1) s ((λ y. refl), refl) (goes_by false (uncommitted access a x modes fit commits mode))
    released access usable commits fit (Halting trap) = (whole, λ y r g. (r, g))

    released_at : (access : Access) (o : Option Trap) → state_of p.regions x ≡ Some (BufferIn (Usable access a)) → (has_commit (map operand_argument modes) ≡ true → is_critical access ≡ false) → OperandsFit p (release_mode access) modes
        → AnswerLands unit classes in_use k s t line rest weak own target (ReleaseBuffer access) (given_to access a x modes) (answer_to unit classes k s t (ReleaseBuffer access) (given_to access a x modes)) (checked o (call_effect unit classes in_use k s t (given_to access a x modes) (ReleaseBuffer access)))
    released_at access None usable commits fit =
        (released access usable commits fit (answers_as unit classes k (sight_of_call s t (ReleaseBuffer access) (given_to access a x modes)) (ReleaseBuffer access)))
    released_at access (Some trap) usable commits fit = (whole, λ y r g. (r, g))

  release_operands : (access : Access) (target : Target) (operands : List Operand) → IsNoTest target → CallKeeps p (ReleaseBuffer access) (map operand_argument operands) → OperandsFit p (prototype (ReleaseBuffer access)).parameters operands
      → ResultGoes target GivesNothing None (GoesOn rest) (at p (states.after_call p.regions (call_seen (ReleaseBuffer access) operands)))
      → CallLands unit classes in_use k s t line rest weak own target (ReleaseBuffer access) (actuals (sight_of s t) (ReleaseBuffer access) operands)
  release_operands access target (Given (tree.Value (tree.Variable a)) ∷ Given (tree.Value (tree.Variable x)) ∷ modes) away (usable, commits) (rule.next object (rule.next held fit)) goes =
      released_at a x modes target away None goes access (trap_of_call classes s t target (ReleaseBuffer access) (given_to access a x modes)) usable commits fit
  release_operands access target operands away rules fit goes = absurd rules

  -- no more arguments than its own
  own_types : (access : Access) (operands : List Operand) → OperandsFit p (parameters_for (ReleaseBuffer access) (length operands)) operands → OperandsFit p (prototype (ReleaseBuffer access)).parameters operands
  own_types access operands h = subst (λ (l : List ParameterKind). OperandsFit p l operands) (append-nil (prototype (ReleaseBuffer access)).parameters) h

  no_push : (access : Access) → ReleaseBuffer access ≡ PushLocalFrame → ⊥
  no_push access e = cc

  -- the calls that release a buffer
  pub release_lands : (access : Access) (target : Target) (operands : List Operand) → Runs (Invoke line target (ReleaseBuffer access) operands) (GoesOn rest) p
      → CallLands unit classes in_use k s t line rest weak own target (ReleaseBuffer access) (actuals (sight_of s t) (ReleaseBuffer access) operands)
  release_lands access (Tested a b) operands r = absurd (no_push access r.1)
  release_lands access (Declared kind x) operands r = release_operands access (Declared kind x) operands tt r.0.rules (own_types access operands r.0.types) r.2
  release_lands access (Assigned x) operands r = release_operands access (Assigned x) operands tt r.0.rules (own_types access operands r.0.types) r.2
  release_lands access Dropped operands r = release_operands access Dropped operands tt r.0.rules (own_types access operands r.0.types) r.2
