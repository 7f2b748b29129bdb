-- The steps of the calls that delete a global reference, weak or not, or fill a local array.
use Rattle.std.proofs.Common.{◌≡◌, ℕ, Bool, true, false, List, [], ◌∷◌, length, map, take, drop, zip, Option, Some, refl, sym, ap, ◌∙◌, subst, if◌then◌else◌}
use Rattle.std.specs.Prelude.{ℤ}
use Rattle.std.specs.Str.{bytes_eq}
use Rattle.std.proofs.lemmas.Slice.Eq.{bytes_eq-Decides}
use Rattle.base.specs.Bytes.{Identifier, ByName, lookup}
use Rattle.base.specs.declared.element.ElementType.{ElementType}
use Rattle.syntax.specs.Tree.{SourceUnit}
use Rattle.class_rules.specs.Class.{Classes}
use Rattle.jni.specs.declared.access.Access.{Access}
use Rattle.jni.specs.declared.function.JniFunction.{JniFunction}
use Rattle.jni.specs.JniFunction.{prototype}
use Rattle.jni.specs.declared.kinds.ParameterKind.{ParameterKind}
use Rattle.jni.specs.declared.kinds.ParameterKind.TheVariants.{IntNumber, ArrayVariable}
use Rattle.jni.specs.declared.kinds.ResultKind.{ResultKind}
use Rattle.jni.specs.declared.kinds.ResultKind.TheVariants.{NewLocal, GivesNothing}
use Rattle.type_rules.specs.ExprTypes.{type_in}
use Rattle.type_rules.specs.declared.ty.ExprType.TheVariants as types
use Rattle.semantics.specs.Answer.{Answer, effect_of, with_region_got, DeletesGlobal, DeletesWeak, GetsRegion, Gives, Raises}
use Rattle.semantics.specs.CallSight.{CallSight, sight_of_call}
use Rattle.semantics.specs.Arguments.{Actual, actuals, look_up, variable_given}
use Rattle.semantics.specs.CallEffects.{Throws, Leaves, NoResult, without_one, begun_with, overwritten, CallEffect}
use Rattle.semantics.specs.CallStep.{failure}
use Rattle.semantics.specs.Heap.{numbers_of}
use Rattle.semantics.specs.Task.{Task, Target, Declared, Assigned, Tested, Dropped, Operand, Invoke}
use Rattle.semantics.specs.declared.event.Event.{Event}
use Rattle.semantics.specs.Thread.{Thread, Shared, BuffersInUse, Advance, Advances, NoAdvance, sight_of}
use Rattle.semantics.specs.Variable.{LocalRef, Elements, LocalArray, Buffer, StaticReference, Weakly, Variables, Statics, Deleted, assign, change}
use Rattle.semantics.proofs.AnswerKinds.{AnswersAs, EndingGlobal, EndingNoStatic, EndingWeak, EndsStatic, Filling, FillingNone, FillsArray, Halting, answers_of, call_kind, filled_last}
use Rattle.semantics_safety.proofs.StepLaws.{LandsBy}
use Rattle.semantics_safety.proofs.OwnerLaws.{CallLands, AnswerLands}
use Rattle.semantics_safety.specs.Owners.{Owners, left_by}
use Rattle.semantics_safety.specs.Points as rule
use Rattle.semantics_safety.specs.Points.{Point, OperandsFit}
use Rattle.semantics_safety.specs.Stands.{Goes, Stands}
use Rattle.semantics_safety.specs.Wanted.{CallFits, Runs, ResultGoes, GoesOn}
use Rattle.semantics_safety.specs.WeakNames.{WeakNames}
use Rattle.semantics_safety.proofs.NullLaws.{stands_static, statics_stay}
use Rattle.semantics_safety.proofs.QuietLaws.{Plainly, IsNoTest, IsPlain, given_lands, quiet_lands}
use Rattle.semantics_safety.proofs.QuietSteps.{plain_call_lands}
use Rattle.semantics_safety.proofs.ResultLaws.{Simple, NoResultThere}
use Rattle.semantics_safety.proofs.SetLaws.{stands_kept}

-- the names of the statics are there yet
pub lands_from : (weak : WeakNames) (give : Event → Variables → Owners) (ss us : Statics) (e : Advance) → ((x : Identifier) (r : StaticReference) → lookup x ss ≡ Some r → (q : StaticReference) × (lookup x us ≡ Some q)) → LandsBy weak give us e → LandsBy weak give ss e
lands_from weak give ss us (Advances s t event) stay h = (h.0, λ x r e. let q = stay x r e in h.1 x q.0 q.1)
lands_from weak give ss us NoAdvance stay h = h

-- a variable that is there is changed as it is set
pub changed_is : {A : Type 0} (x : Identifier) (f : A → A) (v : A) (vs : ByName A) → lookup x vs ≡ Some v → change x f vs ≡ assign x (f v) vs
changed_is x f v [] e = absurd (cc)
changed_is {A = A} x f v ((y, w) ∷ rest) e = by_test (bytes_eq x y) refl e (changed_is x f v rest)
  where
    by_test : (b : Bool) → bytes_eq x y ≡ b → (if b then Some w else lookup x rest) ≡ Some v → (lookup x rest ≡ Some v → change x f rest ≡ assign x (f v) rest)
        → (if b then (y, f w) ∷ rest else (y, w) ∷ change x f rest) ≡ (if b then (x, f v) ∷ rest else (y, w) ∷ assign x (f v) rest)
    by_test true same g later =
        let is : w ≡ v = cc in
        ap (λ (i : A). (y, f i) ∷ rest) is ∙ ap (λ (z : Identifier). (z, f v) ∷ rest) (sym ((bytes_eq-Decides x y).0 same))
    by_test false other g later = ap (λ (l : ByName A). (y, w) ∷ l) (later g)

module _ (unit : SourceUnit) (classes : Classes) (in_use : BuffersInUse) (k : ℕ) (s : Shared) (t : Thread) (line : ℕ) (rest : List Task) (p : Point) {weak : WeakNames} {own : Owners} (stands : Stands weak own s.statics t.variables t.frames p) (whole : Goes weak own s.statics t t.tasks) where
  no_deleted : (n : ℕ) → Deleted ≡ Weakly n → ⊥
  no_deleted n e = cc

  array_no_ref : (u : ElementType) (zs : List ℤ) (level : ℕ) (r : _) → LocalArray u zs ≡ LocalRef level r → ⊥
  array_no_ref u zs level r e = cc

  array_no_buffer : (v : ElementType) (zs : List ℤ) (u : ElementType) (b : Buffer) → LocalArray v zs ≡ Elements u b → ⊥
  array_no_buffer v zs u b e = cc

  stands_filled : (u : ElementType) (size : ℕ) (x : Identifier) (new : List ℤ) → type_in p.names x ≡ Some (types.Array u size) → Stands weak own s.statics (change x (begun_with new) t.variables) t.frames p
  stands_filled u size x new e =
      let there = stands.types x (types.Array u size) e in
      subst (λ (vs : Variables). Stands weak own s.statics vs t.frames p) (sym (changed_is x (begun_with new) (LocalArray u there.0) t.variables there.1))
      (stands_kept s.statics t.variables t.frames p stands x (LocalArray u (overwritten there.0 0 new)) (types.Array u size) (LocalArray u there.0) e there.1 (array_no_ref u there.0) (array_no_buffer u there.0) (overwritten there.0 0 new, refl)
      (λ v b c. absurd (array_no_buffer u (overwritten there.0 0 new) v b c)))

  -- ---- what is answered

  module _ (f : JniFunction) (target : Target) (away : IsNoTest target) (args : List Actual) (get : Option (Access × Option Identifier)) where
    -- what an answer does leads to a point
    abbrev Lands : Answer → CallEffect → Type 0
    Lands a e = AnswerLands unit classes in_use k s t line rest weak own target f args a e

    -- a global reference is deleted
    marked : (a : Answer) → ((y : Identifier) → own y ≡ left_by a args (length t.frames) own y) → (x : Identifier) (globals : List ℕ) → (prototype f).result ≡ GivesNothing → ResultGoes target GivesNothing get (GoesOn rest) p
        → Lands a (Leaves [] (record s { globals = globals; statics = assign x Deleted s.statics }) t NoResult)
    marked a left x globals is goes =
        lands_from weak _ s.statics (assign x Deleted s.statics) _ (statics_stay unit classes in_use k s t rest p stands x Deleted)
        (given_lands unit classes in_use k s t line target f args rest p own a left GivesNothing [] (record s { globals = globals; statics = assign x Deleted s.statics }) t NoResult get is away (λ c. absurd (cc))
        (stands_static unit classes in_use k s t rest p stands x Deleted (λ n c. absurd (no_deleted n c))) (Plainly NoResultThere) goes)

    static_lands : {sight : CallSight} {g : JniFunction} {kind : ResultKind} {a : Answer} → (prototype f).result ≡ kind → ResultGoes target kind get (GoesOn rest) p → AnswersAs unit classes sight g EndsStatic kind a → Lands a (effect_of classes in_use k s t args a)
    unfolding effect_of
    static_lands is goes EndingNoStatic = given_lands unit classes in_use k s t line target f args rest p own (Gives NoResult) (λ y. refl) GivesNothing [] s t NoResult get is away (λ c. absurd (cc)) stands (Plainly NoResultThere) goes
    static_lands is goes (EndingGlobal n) = marked (DeletesGlobal 0 n) (λ y. refl) (variable_given args 0) (without_one n s.globals) is goes
    static_lands is goes EndingWeak = marked (DeletesWeak 0) (λ y. refl) (variable_given args 0) s.globals is goes
    static_lands is goes (Halting trap) = (whole, λ x r g. (r, g))

    -- a local array is filled
    region_lands : {sight : CallSight} {g : JniFunction} {kind : ResultKind} {a : Answer} → (u : ElementType) (size : ℕ) → type_in p.names (variable_given args 3) ≡ Some (types.Array u size)
        → (prototype f).result ≡ kind → ResultGoes target kind get (GoesOn rest) p → AnswersAs unit classes sight g FillsArray kind a → Lands a (effect_of classes in_use k s t args a)
    unfolding effect_of
    region_lands u size e is goes (Filling r of) =
        given_lands unit classes in_use k s t line target f args rest p own (GetsRegion r) (λ y. refl) GivesNothing [] s (record t { variables = with_region_got s.heap (variable_given args 3) r t.variables }) NoResult get is away (λ c. absurd (cc))
        (stands_filled u size (variable_given args 3) (take r.count (drop r.start (numbers_of s.heap r.object))) e) (Plainly NoResultThere) goes
    region_lands u size e is goes (FillingNone class of) =
        quiet_lands unit classes in_use k s t line target f args rest p stands (Raises class) (λ y. refl) get (Throws class) away whole
        (λ local. absurd (let both : GivesNothing ≡ NewLocal = sym is ∙ local in cc))
        (subst (λ (kind : ResultKind). Simple kind (failure kind)) (sym is) NoResultThere)
        (subst (λ (kind : ResultKind). ResultGoes target kind get (GoesOn rest) p) (sym is) goes)
    region_lands u size e is goes (Halting trap) = (whole, λ x r g. (r, g))

  -- the array is the last argument
  array_last : (owner : ParameterKind) (u : ElementType) {operands : List Operand} → OperandsFit p (owner ∷ IntNumber ∷ IntNumber ∷ ArrayVariable u ∷ []) operands
      → (size : ℕ) × (type_in p.names (variable_given (map (look_up (sight_of s t)) (zip (owner ∷ IntNumber ∷ IntNumber ∷ ArrayVariable u ∷ []) operands)) 3) ≡ Some (types.Array u size))
  array_last owner u (rule.next a (rule.next b (rule.next c (rule.next (rule.array {size = size} is) rule.done)))) = (size, is)
  array_last owner u (rule.next a (rule.next b (rule.next c (rule.next (rule.reference takes d) rule.done)))) = elim takes [ ]

  module _ (f : JniFunction) (target : Target) (operands : List Operand) (args : List Actual) where
    call_fits : (target : Target) → Runs (Invoke line target f operands) (GoesOn rest) p → CallFits p f operands
    call_fits (Tested a b) runs = runs.0
    call_fits (Declared kind x) runs = runs.0
    call_fits (Assigned x) runs = runs.0
    call_fits Dropped runs = runs.0

    -- the calls that delete what a static holds
    pub static_call_lands : call_kind f ≡ EndsStatic → Runs (Invoke line target f operands) (GoesOn rest) p → CallLands unit classes in_use k s t line rest weak own target f args
    static_call_lands is runs =
        plain_call_lands unit classes in_use k s t line f args rest p stands (subst IsPlain (sym is) tt) whole target operands (λ get away room goes.
        static_lands f target away args get refl goes (answers_of unit classes k (sight_of_call s t f args) f EndsStatic is)) runs

    -- those that fill a local array
    pub region_call_lands : args ≡ actuals (sight_of s t) f operands → call_kind f ≡ FillsArray → Runs (Invoke line target f operands) (GoesOn rest) p → CallLands unit classes in_use k s t line rest weak own target f args
    region_call_lands looked is runs =
        let last = filled_last f is in
        let parameters = last.1.1 (length operands) in
        let array = array_last last.0 last.1.0 (subst (λ (l : List ParameterKind). OperandsFit p l operands) parameters (call_fits target runs).types) in
        let given : args ≡ map (look_up (sight_of s t)) (zip (last.0 ∷ IntNumber ∷ IntNumber ∷ ArrayVariable last.1.0 ∷ []) operands) =
        looked ∙ ap (λ (l : List ParameterKind). map (look_up (sight_of s t)) (zip l operands)) parameters in
        plain_call_lands unit classes in_use k s t line f args rest p stands (subst IsPlain (sym is) tt) whole target operands (λ get away room goes.
        region_lands f target away args get last.1.0 array.0
        (subst (λ (l : List Actual). type_in p.names (variable_given l 3) ≡ Some (types.Array last.1.0 array.0)) (sym given) array.1)
        refl goes (answers_of unit classes k (sight_of_call s t f args) f FillsArray is)) runs
