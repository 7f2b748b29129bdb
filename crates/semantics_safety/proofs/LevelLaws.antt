-- A new local reference comes into the frame at which its variable was declared.
use Rattle.std.proofs.Common.{◌≡◌, ℕ, List, length, Option, Some, sym, ap, ◌∙◌, subst, arith}
use Rattle.std.specs.Prelude.{drop}
use Rattle.base.specs.Bytes.{Identifier, lookup}
use Rattle.jni.specs.declared.access.Access.{Access}
use Rattle.jni.specs.declared.function.JniFunction.{JniFunction}
use Rattle.jni.specs.declared.function.JniFunction.TheVariants.{ReleaseBuffer, DeleteLocalRef, PopLocalFrame}
use Rattle.jni.specs.JniFunction.{prototype}
use Rattle.jni.specs.declared.kinds.ResultKind.{ResultKind}
use Rattle.jni.specs.declared.kinds.ResultKind.TheVariants.{NewLocal, GivesNothing}
use Rattle.region_rules.specs.RegionStates.{RegionState, get_of, after_call, after_pop}
use Rattle.type_rules.specs.declared.ty.ExprType.{ExprType}
use Rattle.type_rules.specs.ExprTypes.{type_in}
use Rattle.type_rules.specs.declared.ty.ExprType.TheVariants as types
use Rattle.semantics.specs.Checks.{frames_after}
use Rattle.semantics.specs.Object.{Reference}
use Rattle.semantics.specs.Task.{Assigned, Operand, Invoke}
use Rattle.semantics.specs.Thread.{Frame}
use Rattle.semantics.specs.Variable.{LocalRef, Variables, Statics}
use Rattle.semantics_safety.specs.Owners.{Owners}
use Rattle.semantics_safety.specs.Points.{Point}
use Rattle.semantics_safety.specs.Stands.{Stands}
use Rattle.semantics_safety.specs.Wanted.{AssignsResult, Runs, call_seen, at}
use Rattle.semantics_safety.specs.WeakNames.{WeakNames}
use Rattle.semantics_safety.proofs.PoppedLaws.{stands_popped}
use Rattle.semantics_safety.proofs.QuietLaws.{IsFree, free_call}

pub frames_stay : (f : JniFunction) (frames : List Frame) → IsFree f → frames_after f frames ≡ frames
frames_stay f frames h = grind (arith, h)

no_local : GivesNothing ≡ NewLocal → ⊥
no_local e = cc

module _ (ss : Statics) (vs : Variables) (frames : List Frame) (p : Point) {weak : WeakNames} {own : Owners} (stands : Stands weak own ss vs frames p) (k : Point → Type 0) (x : Identifier) (level : ℕ) (r : Reference) (there : lookup x vs ≡ Some (LocalRef level r)) where
  -- the variable that is set at a point is of the frame that is current there
  pub set_level : (q : Point) (fs : List Frame) → Stands weak own ss vs fs q → (s : Option ExprType) (get : Option (Access × Option Identifier)) → AssignsResult q s x NewLocal get k → level ≡ length fs
  set_level q fs now (Some types.Ref) get (may, goes) =
      let shown = now.shows x _ may.known in
      let same : level ≡ q.regions.frames = cc in
      same ∙ sym now.depth
  set_level q fs now s get h = absurd h

  free_level : (line : ℕ) (f : JniFunction) (operands : List Operand) → IsFree f → Runs (Invoke line (Assigned x) f operands) k p → (prototype f).result ≡ NewLocal → level ≡ length (frames_after f frames)
  free_level line f operands free runs e =
      let goes = subst (λ (kind : ResultKind). AssignsResult (at p (after_call p.regions (call_seen f operands))) (type_in p.names x) x kind (get_of (call_seen f operands)) k) e runs.2 in
      let here = subst (λ (regions : RegionState). AssignsResult (at p regions) (type_in p.names x) x NewLocal (get_of (call_seen f operands)) k) (free_call f p.regions _ free) goes in
      set_level p frames stands (type_in p.names x) (get_of (call_seen f operands)) here ∙ sym (ap (λ (fs : List Frame). length fs) (frames_stay f frames free))

  -- a call's reference that goes to a variable that is there comes into the frame of its level
  pub level_clause : (line : ℕ) (f : JniFunction) (operands : List Operand) → Runs (Invoke line (Assigned x) f operands) k p → (prototype f).result ≡ NewLocal → level ≡ length (frames_after f frames)
  level_clause line PopLocalFrame operands runs e = set_level (at p (after_pop p.regions)) (drop 1 frames) (stands_popped ss vs frames p stands) (type_in p.names x) (get_of (call_seen PopLocalFrame operands)) runs.2
  level_clause line (ReleaseBuffer access) operands runs e = absurd (no_local e)
  level_clause line DeleteLocalRef operands runs e = absurd (no_local e)
  level_clause line f operands runs e = free_level line f operands tt runs e
