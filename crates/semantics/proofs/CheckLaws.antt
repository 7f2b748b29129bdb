-- What the checks of a call have found where no trap stops it, and what no check looks at.
use Rattle.std.proofs.Common.{◌≡◌, ℕ, ◌+◌, Bool, true, false, not, List, ◌∷◌, [], Option, None, refl, ◌≤◌, length, Some, arith}
use Rattle.std.specs.Prelude.{◌&&◌, ◌||◌, nat_le, is_some, ⊤}
use Rattle.std.specs.List.{list_any}
use Rattle.base.specs.declared.element.ElementType.{ElementType}
use Rattle.base.specs.Bytes.{Identifier, lookup}
use Rattle.class_rules.specs.Class.{Classes}
use Rattle.jni.specs.declared.access.Access.TheVariants.{ElementsCopy, ArrayView, CharsCopy, CharsView}
use Rattle.jni.specs.declared.function.JniFunction.{JniFunction}
use Rattle.jni.specs.declared.function.JniFunction.TheVariants.{GetBuffer, PopLocalFrame}
use Rattle.jni.specs.JniFunction.{calls_method, is_allowed_pending, prototype}
use Rattle.jni.specs.declared.kinds.ParameterKind.{ParameterKind}
use Rattle.jni.specs.declared.kinds.ParameterKind.TheVariants.{ArrayVariable}
use Rattle.jni.specs.declared.kinds.ResultKind.{ResultKind}
use Rattle.jni.specs.declared.kinds.ResultKind.TheVariants.{NewLocal}
use Rattle.semantics.specs.CallSight.{ArgumentSight, CallSight, elements_seen}
use Rattle.semantics.specs.Checks.{first_trap, go_together, lacks_room, misfits, misses, trap_of, with_kinds}
use Rattle.semantics.specs.Thread.{Monitor}
use Rattle.semantics.specs.declared.trap.Trap.{Trap}
use Rattle.semantics.specs.declared.trap.Trap.TheVariants.{NullReference, ExceptionPending, WrongObject, DeletedReference, NoCapacity, CallsTooDeep}
use Rattle.semantics.specs.CallEffects.{local_array}
use Rattle.semantics.specs.Variable.{StaticReference, Variables}

-- ---- what is known of a call that no trap stops

abbrev NoneHolds : List (Bool × Trap) → Type 0
NoneHolds [] = ⊤
NoneHolds (check ∷ further) = (check.0 ≡ false) × NoneHolds further

none_holds : (checks : List (Bool × Trap)) → first_trap checks ≡ None → NoneHolds checks
none_holds [] h = tt
none_holds ((true, trap) ∷ further) h = absurd (cc)
none_holds ((false, trap) ∷ further) h = (refl, none_holds further h)

pub fits_and_goes : (a b : Bool) → (a || not b) ≡ false → (a ≡ false) × (b ≡ true)
fits_and_goes true b h = absurd (cc)
fits_and_goes false true h = (refl, refl)
fits_and_goes false false h = absurd (cc)

-- a call of a function that sees this
module _ (classes : Classes) (sight : CallSight) (element : ElementType) (f : JniFunction) where
  -- what its checks have found
  pub record ArePassed : Type 0 where
    pub allowed : (is_some sight.pending && not (is_allowed_pending f)) ≡ false
    pub present : list_any (λ (a : ArgumentSight). a.is_deleted) sight.arguments ≡ false
    pub given : list_any misses (with_kinds classes sight f) ≡ false
    pub kinds : list_any (misfits classes) (with_kinds classes sight f) ≡ false
    pub together : go_together classes sight element f ≡ true
    pub room : lacks_room classes sight f (prototype f).result ≡ false

  abbrev checks : List (Bool × Trap)
  checks =
      (is_some sight.pending && not (is_allowed_pending f), ExceptionPending)
      ∷ (list_any (λ (a : ArgumentSight). a.is_deleted) sight.arguments, DeletedReference)
      ∷ (list_any misses (with_kinds classes sight f), NullReference)
      ∷ (list_any (misfits classes) (with_kinds classes sight f) || not (go_together classes sight element f), WrongObject)
      ∷ (lacks_room classes sight f (prototype f).result, NoCapacity)
      ∷ (calls_method f && nat_le 64 (sight.callers + 1), CallsTooDeep)
      ∷ []

  pub passed : trap_of classes sight element f ≡ None → ArePassed
  unfolding trap_of
  passed none =
      let found : NoneHolds checks = none_holds checks none in
      let fits = fits_and_goes (list_any (misfits classes) (with_kinds classes sight f)) (go_together classes sight element f) found.1.1.1.0 in
      record {
        allowed = found.0;
        present = found.1.0;
        given = found.1.1.0;
        kinds = fits.0;
        together = fits.1;
        room = found.1.1.1.1.0;
      }

-- ---- what no check looks at

-- where no array is asked for, none of its elements are seen
pub few_there : (vs : Variables) (p : Option ParameterKind) (x : Identifier) (n : ℕ) → n ≤ elements_seen vs p x → n ≤ length (local_array (lookup x vs))
few_there vs (Some (ArrayVariable T)) x n h = h
few_there vs p x n h = omega (arith, h)

-- another monitor, another static that is to be deleted, and other calls that wait
module _ (classes : Classes) (sight : CallSight) (m : Option Monitor) (o : Option StaticReference) (n : ℕ) where
  abbrev other : CallSight
  other = record sight { monitor = m; held = o; callers = n }

  pub together_without : (element : ElementType) (f : JniFunction) → go_together classes other element f ≡ go_together classes sight element f
  unfolding go_together
  together_without element (GetBuffer (ElementsCopy T)) = refl
  together_without element (GetBuffer ArrayView) = refl
  together_without element (GetBuffer CharsCopy) = refl
  together_without element (GetBuffer CharsView) = refl
  together_without element f = refl

  pub lacks_without : (f : JniFunction) (kind : ResultKind) → lacks_room classes other f kind ≡ lacks_room classes sight f kind
  lacks_without PopLocalFrame NewLocal = refl
  lacks_without f NewLocal = refl
  lacks_without f kind = refl

-- another monitor and another static change no trap
module _ (classes : Classes) (sight : CallSight) (m : Option Monitor) (o : Option StaticReference) where
  pub trap_without : (element : ElementType) (f : JniFunction) → trap_of classes (record sight { monitor = m; held = o }) element f ≡ trap_of classes sight element f
  unfolding trap_of
  trap_without element f =
      let together = together_without classes sight m o sight.callers element f in
      let lacks = lacks_without classes sight m o sight.callers f (prototype f).result in
      λ i. first_trap (
      (is_some sight.pending && not (is_allowed_pending f), ExceptionPending)
      ∷ (list_any (λ (a : ArgumentSight). a.is_deleted) sight.arguments, DeletedReference)
      ∷ (list_any misses (with_kinds classes sight f), NullReference)
      ∷ (list_any (misfits classes) (with_kinds classes sight f) || not (together i), WrongObject)
      ∷ (lacks i, NoCapacity)
      ∷ (calls_method f && nat_le 64 (sight.callers + 1), CallsTooDeep)
      ∷ [])
