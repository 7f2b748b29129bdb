-- The trap that is found is that of the call.
use Rattle.std.proofs.Common.{◌≡◌, Bool, true, false, not, List, [], ◌∷◌, ◌++◌, length, Option, Some, None, refl, sym, ap, ◌∙◌}
use Rattle.std.specs.Prelude.{◌&&◌, ◌||◌, drop, if◌then◌else◌, is_some, map, slice_get, zip}
use Rattle.std.specs.List.{list_any}
use Rattle.std.proofs.lemmas.Bool.{and_right}
use Rattle.std.proofs.lemmas.List.{length-map}
use Rattle.base.specs.declared.element.ElementType.{ElementType}
use Rattle.class_rules.specs.Class.{Classes}
use Rattle.jni.specs.declared.function.JniFunction.{JniFunction}
use Rattle.jni.specs.declared.function.JniFunction.TheVariants.{PopLocalFrame}
use Rattle.jni.specs.JniFunction.{calls_method, is_allowed_pending, parameters_for, prototype}
use Rattle.jni.specs.declared.kinds.ParameterKind.{ParameterKind}
use Rattle.jni.specs.declared.kinds.ResultKind.{ResultKind}
use Rattle.jni.specs.declared.kinds.ResultKind.TheVariants.{NewLocal}
use Rattle.semantics.specs.Arguments.{Actual}
use Rattle.semantics.specs.CallSight.{ArgumentSight, CallSight, argument_seen, call_seen, is_deleted}
use Rattle.semantics.specs.Checks as seen
use Rattle.semantics.specs.Checks.{first_trap, frames_after, go_together, misfits, misses, trap_of}
use Rattle.semantics.specs.Heap.{Heap}
use Rattle.semantics.specs.Object.{Reference}
use Rattle.semantics.specs.Thread.{Frame, Shared}
use Rattle.semantics.specs.declared.trap.Trap.{Trap}
use Rattle.semantics.specs.declared.trap.Trap.TheVariants.{CallsTooDeep, DeletedReference, ExceptionPending, NoCapacity, NullReference, WrongObject}
use Rattle.semantics.specs.Variable.{Variables}
use Rattle.semantics.specs.Views.{name_of}
use Rattle.semantics.specs.declared.object_id.ObjectId.{ObjectId}
use Rattle.replay_arguments.specs.Sights.{lacks, lacks_room, seen_with}
use Rattle.replay_terms.proofs.PassedLemmas.{arguments_parted, as_passed}

-- what is passed to a method fails no test of single arguments
module _ (fails : ParameterKind × Actual → Bool) (never : (a : Actual) → fails (as_passed a) ≡ false) where
  none_passed : (args : List Actual) → list_any fails (map as_passed args) ≡ false
  none_passed [] = refl
  none_passed (a ∷ args) = ap (λ b. b || list_any fails (map as_passed args)) (never a) ∙ none_passed args

  none_after : (own : List (ParameterKind × Actual)) (b : Bool) (args : List Actual) → list_any fails (own ++ (if b then map as_passed args else [])) ≡ list_any fails own
  none_after [] true args = none_passed args
  none_after [] false args = refl
  none_after (x ∷ own) b args = ap (λ further. fails x || further) (none_after own b args)

  own_fail : (f : JniFunction) (args : List Actual) → list_any fails (zip (parameters_for f (length args)) args) ≡ list_any fails (zip (prototype f).parameters args)
  own_fail f args = ap (list_any fails) (arguments_parted f args) ∙ none_after (zip (prototype f).parameters args) (calls_method f) (drop 2 args)

-- no call is too deep for which no other waits
first_five : (a b c d e calls : Bool) → first_trap ((a, ExceptionPending) ∷ (b, DeletedReference) ∷ (c, NullReference) ∷ (d, WrongObject) ∷ (e, NoCapacity) ∷ [])
    ≡ first_trap ((a, ExceptionPending) ∷ (b, DeletedReference) ∷ (c, NullReference) ∷ (d, WrongObject) ∷ (e, NoCapacity) ∷ (calls && false, CallsTooDeep) ∷ [])
first_five true b c d e calls = refl
first_five false true c d e calls = refl
first_five false false true d e calls = refl
first_five false false false true e calls = refl
first_five false false false false true calls = refl
first_five false false false false false true = refl
first_five false false false false false false = refl

-- what is seen of single arguments
module _ (heap : Heap) where
  deleted : (args : List Actual) → list_any is_deleted args ≡ list_any (λ (a : ArgumentSight). a.is_deleted) (map (λ (a : Actual). argument_seen heap (Some a)) args)
  deleted [] = refl
  deleted (a ∷ args) = ap (λ b. is_deleted a || b) (deleted args)

  any_seen : (fails : ParameterKind × ArgumentSight → Bool) (ps : List ParameterKind) (args : List Actual)
      → list_any (λ (c : ParameterKind × Actual). fails (seen_with heap c)) (zip ps args) ≡ list_any fails (zip ps (map (λ (a : Actual). argument_seen heap (Some a)) args))
  any_seen fails [] args = refl
  any_seen fails (p ∷ ps) [] = refl
  any_seen fails (p ∷ ps) (a ∷ args) = ap (λ b. fails (seen_with heap (p, a)) || b) (any_seen fails ps args)

  -- and with the kinds of all parameters, those of what is passed to a method too
  all_seen : (fails : ParameterKind × ArgumentSight → Bool) → ((a : Actual) → fails (seen_with heap (as_passed a)) ≡ false) → (f : JniFunction) (args : List Actual)
      → list_any (λ (c : ParameterKind × Actual). fails (seen_with heap c)) (zip (prototype f).parameters args)
      ≡ list_any fails (zip (parameters_for f (length (map (λ (a : Actual). argument_seen heap (Some a)) args))) (map (λ (a : Actual). argument_seen heap (Some a)) args))
  all_seen fails never f args =
      sym (own_fail (λ (c : ParameterKind × Actual). fails (seen_with heap c)) never f args)
      ∙ any_seen fails (parameters_for f (length args)) args
      ∙ ap (λ n. list_any fails (zip (parameters_for f n) (map (λ (a : Actual). argument_seen heap (Some a)) args))) (sym (length-map args (λ (a : Actual). argument_seen heap (Some a))))

module _ (classes : Classes) (s : Shared) (vs : Variables) (frames : List Frame) (pending : Reference) (element : ElementType) (f : JniFunction) (args : List Actual) where
  -- what the call sees
  abbrev sight : CallSight
  sight = call_seen s vs frames 0 pending f args

  -- the trap of the tests of which each is told
  abbrev pub found : (is_pending : Bool) → Option Trap
  found is_pending = first_trap (
      (is_pending && not (is_allowed_pending f), ExceptionPending)
      ∷ (list_any is_deleted args, DeletedReference)
      ∷ (list_any lacks (zip (prototype f).parameters args), NullReference)
      ∷ (list_any (λ (c : ParameterKind × Actual). misfits classes (seen_with s.heap c)) (zip (prototype f).parameters args) || not (go_together classes sight element f), WrongObject)
      ∷ (lacks_room (prototype f).result (slice_get (frames_after f frames) 0), NoCapacity)
      ∷ [])

  room_is : (g : JniFunction) (kind : ResultKind) → lacks_room kind (slice_get (frames_after g frames) 0) ≡ seen.lacks_room classes sight g kind
  room_is PopLocalFrame NewLocal = refl
  room_is PopLocalFrame kind = cc
  room_is g NewLocal = cc
  room_is g kind = cc

  -- the same found by each test gives the same trap
  all_same : (a : Bool) {b b' c c' d d' e e' : Bool} (calls : Bool) → b ≡ b' → c ≡ c' → d ≡ d' → e ≡ e'
      → first_trap ((a, ExceptionPending) ∷ (b, DeletedReference) ∷ (c, NullReference) ∷ (d, WrongObject) ∷ (e, NoCapacity) ∷ [])
      ≡ first_trap ((a, ExceptionPending) ∷ (b', DeletedReference) ∷ (c', NullReference) ∷ (d', WrongObject) ∷ (e', NoCapacity) ∷ (calls && false, CallsTooDeep) ∷ [])
  all_same a {b = b} {c = c} {d = d} {e = e} calls same_b same_c same_d same_e = first_five a b c d e calls ∙ (cc)

  found_is : found (is_some pending) ≡ trap_of classes sight element f
  unfolding trap_of
  found_is =
      all_same (is_some pending && not (is_allowed_pending f)) (calls_method f)
      (deleted s.heap args)
      (all_seen s.heap misses (λ a. refl) f args)
      (ap (λ b. b || not (go_together classes sight element f)) (all_seen s.heap (misfits classes) (λ a. and_right (is_some (argument_seen s.heap (Some a)).reference) false refl) f args))
      (room_is f (prototype f).result)

  -- so it is what the call's own checks find
  pub as_found : (o : Option Trap) (is_pending : Bool) → is_pending ≡ is_some pending → o ≡ found is_pending → o ≡ trap_of classes sight element f
  as_found o is_pending same is = is ∙ ap found same ∙ found_is

  -- where no test finds anything there is none
  pub passes : (is_pending : Bool) → is_pending ≡ is_some pending → (is_pending && not (is_allowed_pending f)) ≡ false → list_any is_deleted args ≡ false → list_any lacks (zip (prototype f).parameters args) ≡ false
      → list_any (λ (c : ParameterKind × Actual). misfits classes (seen_with s.heap c)) (zip (prototype f).parameters args) ≡ false → go_together classes sight element f ≡ true → lacks_room (prototype f).result (slice_get (frames_after f frames) 0) ≡ false
      → trap_of classes sight element f ≡ None
  passes is_pending same allowed kept given fit together room = sym (as_found None is_pending same (rw (allowed, kept, given, fit, together, room) refl))

-- an object is pending where its name is
pub is_some_name : (o : Option ObjectId) → is_some o ≡ is_some (name_of o)
is_some_name None = refl
is_some_name (Some n) = refl
