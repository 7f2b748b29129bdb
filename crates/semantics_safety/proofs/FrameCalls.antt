-- The steps of the calls that end a reference, or begin or end a frame.
use Rattle.std.proofs.Common.{◌≡◌, ℕ, ◌+◌, ◌≤◌, arith, Bool, true, false, ◌&&◌, inl, inr, List, [], ◌∷◌, length, Option, Some, None, refl, sym, ap, ◌∙◌, subst, if◌then◌else◌, ◌++◌}
use Rattle.std.specs.Prelude.{ℤ, pos, negsuc, nat_le, drop, ◌==◌}
use Rattle.std.proofs.lemmas.Bool.{cond_both, eq-eqb}
use Rattle.base.specs.Bytes.{Identifier, lookup}
use Rattle.syntax.specs.Tree as tree
use Rattle.syntax.specs.Tree.{Block, SourceUnit}
use Rattle.class_rules.specs.Class.{Classes}
use Rattle.base.specs.Limits.{most_references}
use Rattle.jni.specs.declared.access.Access.{Access}
use Rattle.jni.specs.declared.function.JniFunction.TheVariants.{DeleteLocalRef, PushLocalFrame, PopLocalFrame}
use Rattle.jni.specs.declared.kinds.ParameterKind.TheVariants.{LocalVariable}
use Rattle.jni.specs.declared.kinds.ResultKind.{ResultKind}
use Rattle.jni.specs.declared.kinds.ResultKind.TheVariants.{NewLocal, GivesInt, GivesNothing}
use Rattle.region_rules.specs.RegionStates as states
use Rattle.region_rules.specs.RegionStates.{ReferenceAt, state_of, with_changed, killed, after_pop, get_of}
use Rattle.semantics.specs.Answer as answer
use Rattle.semantics.specs.Answer.{Answer, effect_of, Pushes, DeletesLocal, Pops, RefusesFrames}
use Rattle.semantics.specs.Arguments.{Actual, ReferenceActual, actuals, reference_in_actual, reference_given, variable_given, address_given}
use Rattle.semantics.specs.CallEffects.{ScalarResult, ReferenceResult, NoResult, CallEffect, Leaves, level_of, without_local, refuses_frames}
use Rattle.semantics.specs.AnswerTable.{call_effect}
use Rattle.semantics.specs.CallSight.{sight_of_call}
use Rattle.semantics.specs.CallStep.{trap_of_call, target_element, checked, is_zero, received, tell_copy}
use Rattle.semantics.specs.Object.{Reference}
use Rattle.semantics.specs.Sight.{held_reference}
use Rattle.semantics.specs.Task.{Task, Target, Declared, Assigned, Tested, Dropped, Operand, Given, Invoke, Branch}
use Rattle.semantics.specs.Term.{Done}
use Rattle.semantics.specs.Thread.{Frame, Thread, Shared, BuffersInUse, capacities, sight_of}
use Rattle.semantics.specs.declared.trap.Trap.{Trap}
use Rattle.semantics.specs.declared.value.Value.TheVariants.{Int, Truth}
use Rattle.semantics.specs.Variable.{Variable, LocalRef, Variables}
use Rattle.semantics.specs.Effect.{tasks_after}
use Rattle.std.specs.Str.{bytes_eq}
use Rattle.semantics.proofs.AnswerKinds.{AnswersAs, EndingLocal, EndingNoLocal, EndsLocal, Halting, PopsFrame, Popping, Pushing, PushingNone, PushesFrame, answers_as}
use Rattle.semantics_safety.proofs.OwnerLaws.{quiet_by, stands_with, AnswerLands, CallLands}
use Rattle.semantics_safety.specs.Owners.{Owners, after_answer, left_by, other_than, answer_to}
use Rattle.semantics_safety.specs.Points as rule
use Rattle.semantics_safety.specs.Points.{Point, OperandsFit, owners}
use Rattle.semantics_safety.specs.StepSafe.{references_at}
use Rattle.semantics_safety.specs.Stands.{copies, Goes, Stands, IsOwned}
use Rattle.semantics_safety.specs.Wanted.{Outside, Runs, RunsBlock, ResultGoes, GoesOn, IsTrueNow, IsFalseNow, call_seen, at}
use Rattle.semantics_safety.specs.WeakNames.{WeakNames}
use Rattle.semantics_safety.proofs.FrameLaws.{HasFrame, one_if, level_there, no_references, copies_deleted, deleted_length}
use Rattle.semantics_safety.proofs.KilledLaws.{fewer, killed_owners, stands_killed, killed_owned, killed_live}
use Rattle.semantics_safety.proofs.PoppedLaws.{stands_popped, stands_pushed, popped_owned}
use Rattle.semantics_safety.proofs.QuietLaws.{Gives, Plainly, ALocal, IsNoTest, told, given_lands}
use Rattle.semantics_safety.proofs.QuietSteps.{has_frame, has_room}
use Rattle.semantics_safety.proofs.ResultLaws.{AnInt, NullLocal, NoResultThere}
use Rattle.semantics_safety.proofs.PointLaws.{owned_changed}

module _ (unit : SourceUnit) (classes : Classes) (in_use : BuffersInUse) (k : ℕ) (s : Shared) (t : Thread) (line : ℕ) (rest : List Task) (p : Point) {weak : WeakNames} {own : Owners} (stands : Stands weak own s.statics t.variables t.frames p) (whole : Goes weak own s.statics t t.tasks) where
  -- ---- a reference is deleted

  -- its level has a frame
  level_within : (x : Identifier) (level n : ℕ) → state_of p.regions x ≡ Some (ReferenceAt level true) → lookup x t.variables ≡ Some (LocalRef level (Some n)) → level ≤ length t.frames
  level_within x level n e h = elim (level_there level t.frames) [
    | inl there ↦ there
    | inr past ↦
        let owned = killed_owners t.variables x level n level n p.regions.variables e h in
        let one : one_if (level == level && n == n) ≡ 1 = ap (λ (b : Bool). one_if (b && n == n)) (eq-eqb level level refl) ∙ ap one_if (eq-eqb n n refl) in
        let enough = stands.backed level n in
        let none : copies (references_at level t.frames) n ≡ 0 = ap (λ (l : List ℕ). copies l n) (no_references level t.frames past) in
        absurd (omega (arith, owned, one, enough, none))
  ]

  module _ (x : Identifier) (level : ℕ) (r : Reference) (target : Target) (args : List Actual) (get : Option (Access × Option Identifier)) (away : IsNoTest target) (e : state_of p.regions x ≡ Some (ReferenceAt level true)) (h : lookup x t.variables ≡ Some (LocalRef level r))
      (goes : ResultGoes target GivesNothing get (GoesOn rest) (at p (with_changed p.regions x killed))) (is : x ≡ variable_given args 0) (given : reference_given args 0 ≡ r) where
    -- where these frames and owners are left
    left_with : (a : Answer) (now : Owners) → ((y : Identifier) → now y ≡ left_by a args (length t.frames) own y) → (frames : List Frame) → length frames ≡ length t.frames → ((l m : ℕ) → owners (with_changed p.regions x killed) t.variables l m ≤ copies (references_at l frames) m)
        → IsOwned now t.variables (at p (with_changed p.regions x killed)) → AnswerLands unit classes in_use k s t line rest weak own target DeleteLocalRef args a (Leaves [] s (record t { frames = frames }) NoResult)
    left_with a now left frames same enough owned =
        given_lands unit classes in_use k s t line target DeleteLocalRef args rest (at p (with_changed p.regions x killed)) own a left GivesNothing [] s (record t { frames = frames }) NoResult get refl away (λ c. absurd (cc))
        (stands_with now s.statics t.variables frames (at p (with_changed p.regions x killed)) (stands_killed s.statics t.variables t.frames p stands x frames same enough) owned)
        (Plainly NoResultThere) goes

    level_is : level_of (lookup (variable_given args 0) t.variables) ≡ level
    level_is = ap (λ (z : Identifier). level_of (lookup z t.variables)) (sym is) ∙ ap level_of h

    deleted : {kind : ResultKind} {a : Answer} → AnswersAs unit classes (sight_of_call s t DeleteLocalRef args) DeleteLocalRef EndsLocal kind a → AnswerLands unit classes in_use k s t line rest weak own target DeleteLocalRef args a (effect_of classes in_use k s t args a)
    unfolding effect_of
    deleted (EndingNoLocal none) =
        left_with (answer.Gives NoResult) own (λ y. refl) t.frames refl (λ l m. let less = fewer t.variables x l m p.regions.variables in let enough = stands.backed l m in omega (arith, less, enough))
        (owned_changed s.statics t.variables t.frames p stands x None killed killed_live)
    deleted (EndingLocal n found) =
        let held : lookup x t.variables ≡ Some (LocalRef level (Some n)) = h ∙ ap (λ (q : Reference). Some (LocalRef level q)) (sym given ∙ found) in
        subst (λ (l : ℕ). AnswerLands unit classes in_use k s t line rest weak own target DeleteLocalRef args (DeletesLocal 0 n) (Leaves [] s (record t { frames = without_local l n t.frames }) NoResult)) (sym level_is)
        (left_with (DeletesLocal 0 n) (λ y. if bytes_eq y x then None else own y) (λ y. ap (λ (z : Identifier). if bytes_eq y z then None else own y) is) (without_local level n t.frames) (deleted_length level n t.frames) (λ l m.
        let less = killed_owners t.variables x l m level n p.regions.variables e held in
        let one = copies_deleted level n l m t.frames (level_within x level n e held) in
        let enough = stands.backed l m in
        omega (arith, less, one, enough)) (killed_owned s.statics t.variables t.frames p stands x))
    deleted (Halting trap) = (whole, λ x r g. (r, g))

  -- the reference of a variable that is looked up
  reference_is : (x : Identifier) (level : ℕ) (r : Reference) → lookup x t.variables ≡ Some (LocalRef level r)
      → reference_in_actual (Some (ReferenceActual x (held_reference (lookup x t.variables) (lookup x s.statics)))) ≡ r
  reference_is x level None h = ap (λ (o : Option Variable). reference_in_actual (Some (ReferenceActual x (held_reference o (lookup x s.statics))))) h
  reference_is x level (Some n) h = ap (λ (o : Option Variable). reference_in_actual (Some (ReferenceActual x (held_reference o (lookup x s.statics))))) h

  delete_known : (x : Identifier) (level : ℕ) (target : Target) (get : _) → IsNoTest target → state_of p.regions x ≡ Some (ReferenceAt level true)
      → ResultGoes target GivesNothing get (GoesOn rest) (at p (with_changed p.regions x killed))
      → CallLands unit classes in_use k s t line rest weak own target DeleteLocalRef (actuals (sight_of s t) DeleteLocalRef (Given (tree.Value (tree.Variable x)) ∷ []))
  delete_known x level target get away e goes = by_trap (trap_of_call classes s t target DeleteLocalRef args)
    where
      args : List Actual
      args = actuals (sight_of s t) DeleteLocalRef (Given (tree.Value (tree.Variable x)) ∷ [])

      shown : (r : Reference) × (lookup x t.variables ≡ Some (LocalRef level r))
      shown = stands.shows x (ReferenceAt level true) e

      by_trap : (o : Option Trap) → AnswerLands unit classes in_use k s t line rest weak own target DeleteLocalRef args (answer_to unit classes k s t DeleteLocalRef args) (checked o (call_effect unit classes in_use k s t args DeleteLocalRef))
      by_trap None =
          (deleted x level shown.0 target args get away e shown.1 goes refl (reference_is x level shown.0 shown.1) (answers_as unit classes k (sight_of_call s t DeleteLocalRef args) DeleteLocalRef))
      by_trap (Some trap) = (whole, λ x r g. (r, g))

  delete_operands : (target : Target) {operands : List Operand} → IsNoTest target → OperandsFit p (LocalVariable ∷ []) operands
      → ResultGoes target GivesNothing (get_of (call_seen DeleteLocalRef operands)) (GoesOn rest) (at p (states.after_call p.regions (call_seen DeleteLocalRef operands)))
      → CallLands unit classes in_use k s t line rest weak own target DeleteLocalRef (actuals (sight_of s t) DeleteLocalRef operands)
  delete_operands target away (rule.next (rule.local {x = x} (level, live)) rule.done) goes = delete_known x level target _ away live goes
  delete_operands target away (rule.next (rule.reference takes fits) rule.done) goes = elim takes [ ]

  -- DeleteLocalRef
  pub delete_lands : (target : Target) (operands : List Operand) → Runs (Invoke line target DeleteLocalRef operands) (GoesOn rest) p
      → CallLands unit classes in_use k s t line rest weak own target DeleteLocalRef (actuals (sight_of s t) DeleteLocalRef operands)
  delete_lands (Tested a b) operands r = absurd (no_push r.1)
    where
      no_push : DeleteLocalRef ≡ PushLocalFrame → ⊥
      no_push e = cc
  delete_lands (Declared kind x) operands r = delete_operands (Declared kind x) tt r.0.types r.2
  delete_lands (Assigned x) operands r = delete_operands (Assigned x) tt r.0.types r.2
  delete_lands Dropped operands r = delete_operands Dropped tt r.0.types r.2

  -- ---- a frame begins

  module _ (a b : Block) (args : List Actual) (on_true : RunsBlock a (Outside (GoesOn rest)) (at p (record p.regions { frames = p.regions.frames + 1 }))) (on_false : RunsBlock b (Outside (GoesOn rest)) p) where
    -- the point with a frame more
    abbrev pushed : Point
    pushed = at p (record p.regions { frames = p.regions.frames + 1 })

    -- a push that answers with a number
    tested_lands : (answer : Answer) → ((y : Identifier) → own y ≡ left_by answer args (length t.frames) own y) → (t' : Thread) (z : ℤ) (q : Point) → Stands weak own s.statics t'.variables t'.frames q → GoesOn (Branch line (Done (Truth (is_zero (ScalarResult (Int z))))) a b ∷ rest) q
        → AnswerLands unit classes in_use k s t line rest weak own (Tested a b) PushLocalFrame args answer (Leaves [] s t' (ScalarResult (Int z)))
    tested_lands answer left t' z q there g =
        quiet_by weak (Tested a b) (after_answer (Tested a b) answer args (length t.frames) own) (left_by answer args (length t.frames) own) own (λ vs. refl) (λ y other. left y) s.statics (record s { heap = s.heap ++ [] })
        (record (received GivesInt (ScalarResult (Int z)) t') { tasks = Some (tasks_after line (Tested a b) (is_zero (ScalarResult (Int z))) ++ rest); variables = tell_copy (address_given args 1) (ScalarResult (Int z)) t'.variables })
        ((q, subst (λ (vs : Variables). Stands weak own s.statics vs t'.frames q) (sym (told t' line rest (address_given args 1) t'.variables GivesInt (ScalarResult (Int z)) (AnInt z))) there, g), λ x r e. (r, e))

    refused : (answer : Answer) → ((y : Identifier) → own y ≡ left_by answer args (length t.frames) own y) → AnswerLands unit classes in_use k s t line rest weak own (Tested a b) PushLocalFrame args answer (refuses_frames classes s t)
    refused answer left = tested_lands answer left (record t { pending = Some (length classes + 1) }) (negsuc 3) p stands (refl, (pushed, p, IsFalseNow pushed, on_true, on_false))

    pushes : {kind : ResultKind} {answer : Answer} → AnswersAs unit classes (sight_of_call s t PushLocalFrame args) PushLocalFrame PushesFrame kind answer → AnswerLands unit classes in_use k s t line rest weak own (Tested a b) PushLocalFrame args answer (effect_of classes in_use k s t args answer)
    unfolding effect_of
    pushes (Pushing n) =
        cond_both (nat_le (capacities (record { capacity = n; references = [] } ∷ t.frames)) most_references) _ _ (λ (e : CallEffect). AnswerLands unit classes in_use k s t line rest weak own (Tested a b) PushLocalFrame args (Pushes n) e)
        (λ e. tested_lands (Pushes n) (λ y. refl) (record t { frames = record { capacity = n; references = [] } ∷ t.frames }) (pos 0) pushed (stands_pushed s.statics t.variables t.frames p stands (record { capacity = n; references = [] })) (refl, (pushed, p, IsTrueNow p, on_true, on_false)))
        (λ e. refused (Pushes n) (λ y. refl))
    pushes PushingNone = refused RefusesFrames (λ y. refl)
    pushes (Halting trap) = (whole, λ x r g. (r, g))

    push_at : (o : Option Trap) → AnswerLands unit classes in_use k s t line rest weak own (Tested a b) PushLocalFrame args (answer_to unit classes k s t PushLocalFrame args) (checked o (call_effect unit classes in_use k s t args PushLocalFrame))
    push_at None =
        (pushes (answers_as unit classes k (sight_of_call s t PushLocalFrame args) PushLocalFrame))
    push_at (Some trap) = (whole, λ x r g. (r, g))

  no_other : PushLocalFrame ≡ PushLocalFrame → true ≡ false → ⊥
  no_other e h = cc

  -- PushLocalFrame
  pub push_lands : (target : Target) (operands : List Operand) (args : List Actual) → Runs (Invoke line target PushLocalFrame operands) (GoesOn rest) p → CallLands unit classes in_use k s t line rest weak own target PushLocalFrame args
  push_lands (Tested a b) operands args r = push_at a b args r.2 r.3 (trap_of_call classes s t (Tested a b) PushLocalFrame args)
  push_lands (Declared kind x) operands args r = absurd (no_other refl r.1)
  push_lands (Assigned x) operands args r = absurd (no_other refl r.1)
  push_lands Dropped operands args r = absurd (no_other refl r.1)

  -- ---- a frame ends

  gives_any : (r : Reference) → Gives NewLocal (ReferenceResult r)
  gives_any None = Plainly NullLocal
  gives_any (Some n) = ALocal n

  popped : {kind : ResultKind} {a : Answer} (target : Target) (args : List Actual) (get : Option (Access × Option Identifier)) → IsNoTest target → HasFrame (drop 1 t.frames) → ResultGoes target NewLocal get (GoesOn rest) (at p (after_pop p.regions))
      → AnswersAs unit classes (sight_of_call s t PopLocalFrame args) PopLocalFrame PopsFrame kind a → AnswerLands unit classes in_use k s t line rest weak own target PopLocalFrame args a (effect_of classes in_use k s t args a)
  unfolding effect_of
  popped target args get away room goes (Popping r) =
      given_lands unit classes in_use k s t line target PopLocalFrame args rest (at p (after_pop p.regions)) own (Pops r) (λ y. refl) NewLocal [] s (record t { frames = drop 1 t.frames }) (ReferenceResult r) get refl away (λ is. room)
      (stands_with (λ y. other_than (length t.frames) (own y)) s.statics t.variables (drop 1 t.frames) (at p (after_pop p.regions)) (stands_popped s.statics t.variables t.frames p stands) (popped_owned s.statics t.variables t.frames p stands)) (gives_any r) goes
  popped target args get away room goes (Halting trap) = (whole, λ x r g. (r, g))

  pop_at : (target : Target) (args : List Actual) (get : Option (Access × Option Identifier)) → IsNoTest target → ResultGoes target NewLocal get (GoesOn rest) (at p (after_pop p.regions)) → (o : Option Trap) → trap_of_call classes s t target PopLocalFrame args ≡ o
      → AnswerLands unit classes in_use k s t line rest weak own target PopLocalFrame args (answer_to unit classes k s t PopLocalFrame args) (checked o (call_effect unit classes in_use k s t args PopLocalFrame))
  pop_at target args get away goes None e =
      (popped target args get away (has_frame (drop 1 t.frames) (has_room classes s t (target_element t.variables target) PopLocalFrame args e refl)) goes (answers_as unit classes k (sight_of_call s t PopLocalFrame args) PopLocalFrame))
  pop_at target args get away goes (Some trap) e = (whole, λ x r g. (r, g))

  -- PopLocalFrame
  pub pop_lands : (target : Target) (operands : List Operand) (args : List Actual) → Runs (Invoke line target PopLocalFrame operands) (GoesOn rest) p → CallLands unit classes in_use k s t line rest weak own target PopLocalFrame args
  pop_lands (Tested a b) operands args r = absurd (no_push r.1)
    where
      no_push : PopLocalFrame ≡ PushLocalFrame → ⊥
      no_push e = cc
  pop_lands (Declared kind x) operands args r = pop_at (Declared kind x) args (get_of (call_seen PopLocalFrame operands)) tt r.2 (trap_of_call classes s t (Declared kind x) PopLocalFrame args) refl
  pop_lands (Assigned x) operands args r = pop_at (Assigned x) args (get_of (call_seen PopLocalFrame operands)) tt r.2 (trap_of_call classes s t (Assigned x) PopLocalFrame args) refl
  pop_lands Dropped operands args r = pop_at Dropped args None tt r.2 (trap_of_call classes s t Dropped PopLocalFrame args) refl
