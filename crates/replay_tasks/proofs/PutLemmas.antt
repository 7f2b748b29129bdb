-- What tasks do to variables is what they do to those of a thread.
use Rattle.std.proofs.Common.{◌≡◌, ℕ, ℤ, length, Option, Some, None, refl, sym, ap, ◌∙◌}
use Rattle.std.specs.Prelude.{slice_set}
use Rattle.std.specs.Borrow.{Bor}
use Rattle.base.specs.Bytes.{Identifier, lookup}
use Rattle.semantics.specs.CallEffects.{CallResult}
use Rattle.semantics.specs.CallStep.{blank, filled, static_result, put_assigned, put}
use Rattle.semantics.specs.Heap.{Heap, with_value_at}
use Rattle.semantics.specs.Object.{Number}
use Rattle.semantics.specs.declared.variable_kind.VariableKind.{VariableKind}
use Rattle.semantics.specs.Task.{Declared, Assigned}
use Rattle.semantics.specs.Thread.{Thread, Shared, Advance, Advances, NoAdvance}
use Rattle.semantics.specs.declared.event.Event.TheVariants.{Quiet}
use Rattle.semantics.specs.ThreadStep.{set_variable, set_element}
use Rattle.semantics.specs.Value.{convert}
use Rattle.semantics.specs.Variable.{Variable, Scalar, LocalRef, FieldHandle, MethodHandle, Elements, NoBuffer, Copy, View, LocalArray, Variables, Statics, assign}
use Rattle.replay_tasks.specs.declared.outcome.Outcome.TheVariants as outcome
use Rattle.replay_tasks.specs.Outcomes.{variable_step, Holds, LeavesVariables}
use Rattle.replay_terms.specs.Views.{Contents, variables_view, written, HasNoElements, IsToWrite, IsWritten}

-- ---- steps

module _ (count : ℕ) (ss : Statics) (heap : Heap) (old new : Contents) where
  abbrev ends : Shared → Thread → Statics → Heap → Variables → Advance
  ends s t q h vs = let r : Shared = record s { statics = q; heap = h } in let u : Thread = record t { variables = vs } in Advances r u Quiet

  with_variables : (s : Shared) (t : Thread) (vs us : Variables) → Holds count ss heap old s t → vs ≡ us → Advances s (record t { variables = vs }) Quiet ≡ Advances (record s { statics = ss; heap = heap }) (record t { variables = us }) Quiet
  with_variables s t vs us h same =
      ap (ends s t s.statics s.heap) same
      ∙ ap (λ (q : Statics). ends s t q s.heap us) h.statics
      ∙ ap (λ (p : Heap). ends s t ss p us) h.heap

  -- a variable is set
  pub set_leaves : (x : Identifier) (v : Variable) → variables_view new ≡ assign x v (variables_view old) → LeavesVariables count ss heap old (λ s t. set_variable s t x v) ss heap new
  set_leaves x v is = λ s t h. with_variables s t (assign x v t.variables) (variables_view new) h (ap (assign x v) h.variables ∙ sym is)

  -- a variable is declared
  pub declared_leaves : (kind : VariableKind) (x : Identifier) (given : CallResult) → variables_view new ≡ assign x (filled (blank kind count) given) (variables_view old) → LeavesVariables count ss heap old (put (Declared kind x) given) ss heap new
  declared_leaves kind x given is = λ s t h.
      with_variables s t (assign x (filled (blank kind (length t.frames)) given) t.variables) (variables_view new) h
      (ap (λ (n : ℕ). assign x (filled (blank kind n) given) t.variables) h.frames ∙ ap (assign x (filled (blank kind count) given)) h.variables ∙ sym is)

  -- a variable that is there is filled
  pub assigned_leaves : (x : Identifier) (v : Variable) (given : CallResult) → lookup x (variables_view old) ≡ Some v → variables_view new ≡ assign x (filled v given) (variables_view old) → LeavesVariables count ss heap old (put (Assigned x) given) ss heap new
  assigned_leaves x v given there is = λ s t h.
      ap (λ (vs : Variables). put_assigned x given s t (lookup x vs)) h.variables
      ∙ ap (put_assigned x given s t) there
      ∙ with_variables s t (assign x (filled v given) t.variables) (variables_view new) h (ap (assign x (filled v given)) h.variables ∙ sym is)

  module _ (x : Bor Identifier) (i : ℕ) (z : ℤ) where
    looked_up : (o : Option Variable) → lookup x.now (variables_view old) ≡ o → (s : Shared) (t : Thread) → Holds count ss heap old s t → variable_step (outcome.SetsElement x i z) s t ≡ set_element s t x.now i z o
    looked_up o there s t h = ap (λ (vs : Variables). set_element s t x.now i z (lookup x.now vs)) h.variables ∙ ap (set_element s t x.now i z) there

    no_elements : (o : Option Variable) → HasNoElements o → (s : Shared) (t : Thread) → set_element s t x.now i z o ≡ NoAdvance
    no_elements None has s t = refl
    no_elements (Some (Scalar v)) has s t = refl
    no_elements (Some (LocalRef level r)) has s t = refl
    no_elements (Some (FieldHandle f)) has s t = refl
    no_elements (Some (MethodHandle m)) has s t = refl
    no_elements (Some (Elements T NoBuffer)) has s t = refl
    no_elements (Some (Elements T (Copy n zs))) has s t = absurd has
    no_elements (Some (Elements T (View n))) has s t = absurd has
    no_elements (Some (LocalArray T zs)) has s t = absurd has

    -- what was written is set
    written_is : (v w : Variable) → written i z v ≡ Some w → (s : Shared) (t : Thread) → set_element s t x.now i z (Some v) ≡ set_variable s t x.now w
    written_is (Scalar u) w is s t = absurd (cc)
    written_is (LocalRef level r) w is s t = absurd (cc)
    written_is (FieldHandle f) w is s t = absurd (cc)
    written_is (MethodHandle m) w is s t = absurd (cc)
    written_is (Elements T NoBuffer) w is s t = absurd (cc)
    written_is (Elements T (View n)) w is s t = absurd (cc)
    written_is (Elements T (Copy n zs)) w is s t = let same : Elements T (Copy n (slice_set zs i (convert T z))) ≡ w = cc in ap (set_variable s t x.now) same
    written_is (LocalArray T zs) w is s t = let same : LocalArray T (slice_set zs i (convert T z)) ≡ w = cc in ap (set_variable s t x.now) same

    -- an element is set, where the variable is an array or a copy
    pub element_leaves : IsWritten (variables_view old) x.now i z (variables_view new) → LeavesVariables count ss heap old (variable_step (outcome.SetsElement x i z)) ss heap new
    element_leaves w = λ s t h. looked_up (Some w.before) w.there s t h ∙ written_is w.before w.after w.is s t ∙ set_leaves x.now w.after w.set s t h

    -- the object itself is written, where it is a view
    pub shown_leaves : (n : ℕ) (y : ℤ) (heap' : Heap) → IsToWrite (variables_view old) x.now z n y (variables_view new) → heap' ≡ with_value_at heap n i (Number y)
        → LeavesVariables count ss heap old (variable_step (outcome.SetsElement x i z)) ss heap' new
    shown_leaves n y heap' w is = λ s t h.
        looked_up (Some (Elements w.shown.kind (View n))) (w.there ∙ ap (λ (v : Variable). let o : Option Variable = Some v in o) w.shown.shows) s t h
        ∙ ap (λ (vs : Variables). ends s t s.statics (with_value_at s.heap n i (Number (convert w.shown.kind z))) vs) (h.variables ∙ sym w.same)
        ∙ ap (λ (q : Statics). ends s t q (with_value_at s.heap n i (Number (convert w.shown.kind z))) (variables_view new)) h.statics
        ∙ ap (λ (p : Heap). ends s t ss p (variables_view new)) (ap (λ (p : Heap). with_value_at p n i (Number (convert w.shown.kind z))) h.heap ∙ ap (λ (y' : ℤ). with_value_at heap n i (Number y')) (sym w.shown.converted) ∙ sym is)

    -- nothing is set, where it has no elements
    pub nothing_leaves : HasNoElements (lookup x.now (variables_view old)) → (s : Shared) (t : Thread) → Holds count ss heap old s t → variable_step (outcome.SetsElement x i z) s t ≡ NoAdvance
    nothing_leaves none s t h = looked_up (lookup x.now (variables_view old)) refl s t h ∙ no_elements (lookup x.now (variables_view old)) none s t

-- a static is set
pub static_leaves : (count : ℕ) (ss ss' : Statics) (heap : Heap) (old : Contents) (x : Identifier) (given : CallResult) → lookup x (variables_view old) ≡ None → ss' ≡ assign x (static_result given) ss
    → LeavesVariables count ss heap old (put (Assigned x) given) ss' heap old
static_leaves count ss ss' heap old x given none is = λ s t h.
    ap (λ (vs : Variables). put_assigned x given s t (lookup x vs)) h.variables
    ∙ ap (put_assigned x given s t) none
    ∙ ap (λ (q : Statics). ends count ss heap old old s t q s.heap t.variables) (ap (assign x (static_result given)) h.statics ∙ sym is)
    ∙ ap (λ (p : Heap). ends count ss heap old old s t ss' p t.variables) h.heap
    ∙ ap (λ (vs : Variables). ends count ss heap old old s t ss' heap vs) h.variables

-- nothing is done
pub none_leaves : (count : ℕ) (ss : Statics) (heap : Heap) (old : Contents) → LeavesVariables count ss heap old (λ s t. Advances s t Quiet) ss heap old
none_leaves count ss heap old = λ s t h. with_variables count ss heap old old s t t.variables (variables_view old) h h.variables

pub ruleset put_rules = (declared_leaves, assigned_leaves, static_leaves)

pub ruleset variable_rules = (set_leaves, none_leaves)
