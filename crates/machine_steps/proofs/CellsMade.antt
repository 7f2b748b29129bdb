-- A step of a call makes the objects of its effect.
use Rattle.std.proofs.Common.{◌≡◌, ℕ, List, [], ◌∷◌, ◌++◌, length, drop, Option, Some, None, refl, sym, ap, ◌∙◌}
use Rattle.std.proofs.Math.Seq.{drop-append_seam, drop-length}
use Rattle.base.specs.Bytes.{Identifier, lookup}
use Rattle.class_rules.specs.Class.{Classes}
use Rattle.syntax.specs.Tree.{SourceUnit}
use Rattle.jni.specs.declared.function.JniFunction.{JniFunction}
use Rattle.semantics.specs.Arguments.{Actual}
use Rattle.semantics.specs.CallEffects.{CallEffect, CallResult, Enters, Halts, Leaves, Throws}
use Rattle.semantics.specs.CallStep.{after_call, effect_of_call, put, put_assigned}
use Rattle.semantics.specs.Effect.{Calls}
use Rattle.semantics.specs.Heap.{Heap}
use Rattle.semantics.specs.Object.{Object, sizes}
use Rattle.semantics.specs.Task.{Assigned, Declared, Dropped, Target, Task, Tested}
use Rattle.semantics.specs.Thread.{BuffersInUse, Shared, Thread}
use Rattle.semantics.specs.ThreadStep.{after_effect}
use Rattle.semantics.specs.Variable.{Variable}
use Rattle.semantics.specs.World.{fresh_object}
use Rattle.machine_calls.specs.CarriedOut.{made_by}
use Rattle.machine_steps.specs.Executes.{cells_made}

-- the effect leaves as many objects as the state has
abbrev pub IsAsLong : Shared → CallEffect → Type 0
IsAsLong s (Throws c) = Unit {0}
IsAsLong s (Halts trap) = Unit {0}
IsAsLong s (Enters function arguments) = Unit {0}
IsAsLong s (Leaves made s' t' r) = length s'.heap ≡ length s.heap

-- what comes after as many objects
made_after : (shared : Shared) (h : Heap) (made : List Object) → length h ≡ length shared.heap → drop (length shared.heap) (h ++ made) ≡ made
made_after shared h made same = ap (λ (n : ℕ). drop n (h ++ made)) (sym same) ∙ drop-append_seam h made

-- where a result goes, nothing is made
assigned_cells : (shared : Shared) (x : Identifier) (c : CallResult) (next : Shared) (t : Thread) (o : Option Variable) → cells_made shared (put_assigned x c next t o) ≡ sizes (drop (length shared.heap) next.heap)
assigned_cells shared x c next t None = refl
assigned_cells shared x c next t (Some v) = refl

put_cells : (shared : Shared) (target : Target) (c : CallResult) (next : Shared) (t : Thread) → cells_made shared (put target c next t) ≡ sizes (drop (length shared.heap) next.heap)
put_cells shared (Declared kind x) c next t = refl
put_cells shared (Assigned x) c next t = assigned_cells shared x c next t (lookup x t.variables)
put_cells shared (Tested a b) c next t = refl
put_cells shared Dropped c next t = refl

module _ (unit : SourceUnit) (classes : Classes) (in_use : BuffersInUse) (k : ℕ) (shared : Shared) (s : Thread) (line : ℕ) (target : Target) (f : JniFunction) (args : List Actual) (rest : List Task) where
  after_cells : (effect : CallEffect) → IsAsLong shared effect → cells_made shared (after_call unit classes in_use k shared s line target f args rest effect) ≡ sizes (made_by classes effect)
  after_cells (Throws c) long = put_cells shared target _ _ _ ∙ ap sizes (made_after shared shared.heap (fresh_object classes c ∷ []) refl)
  after_cells (Leaves made s' t' c) long = put_cells shared target _ _ _ ∙ ap sizes (made_after shared s'.heap made long)
  after_cells (Halts trap) long = ap sizes (drop-length shared.heap)
  after_cells (Enters function arguments) long = ap sizes (drop-length shared.heap)

  pub call_cells : (effect : CallEffect) → effect_of_call unit classes in_use k shared s line target f args rest ≡ effect → IsAsLong shared effect
      → cells_made shared (after_effect unit classes in_use k shared s rest (Calls line target f args)) ≡ sizes (made_by classes effect)
  call_cells effect is long = ap (λ (e : CallEffect). cells_made shared (after_call unit classes in_use k shared s line target f args rest e)) is ∙ after_cells effect long
