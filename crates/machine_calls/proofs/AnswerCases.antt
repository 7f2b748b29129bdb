-- What is known of a call that has an answer.
use Rattle.std.proofs.Common.{◌≡◌, ℕ, List, Option, Some, drop, map, refl, subst}
use Rattle.base.specs.Bytes.{Identifier, lookup}
use Rattle.class_rules.specs.Class.{Classes}
use Rattle.class_rules.specs.declared.class_id.ClassId.{ClassId}
use Rattle.heap.specs.Heap.{Space, name_at}
use Rattle.heap.specs.declared.value.Value.{Value}
use Rattle.jni.specs.declared.kinds.ResultKind.{ResultKind}
use Rattle.semantics.specs.declared.trap.Trap.{Trap}
use Rattle.semantics.specs.Answer.{Answer as SourceAnswer, effect_of}
use Rattle.semantics.specs.Arguments.{passed_value, variable_given}
use Rattle.semantics.specs.CallEffects.{CallResult, NoResult, Enters, Halts, level_of}
use Rattle.semantics.specs.Object.{Object, ObjectValue, Reference}
use Rattle.semantics.specs.Thread.{Shared, Thread}
use Rattle.tables.specs.Locals.{LocalTable}
use Rattle.machine_scenes.specs.declared.array_region.ArrayRegion.{ArrayRegion}
use Rattle.machine_scenes.specs.declared.buffer.Release.{Release}
use Rattle.machine_scenes.specs.declared.new_object.New.{New}
use Rattle.machine_scenes.specs.HeapAgrees.{ReferenceAgrees}
use Rattle.machine_scenes.specs.Locals.{IsKeyOf}
use Rattle.machine_scenes.specs.NewObjects.{Describes, IsMakeable}
use Rattle.machine_answers.specs.declared.answer.Given.{Given}
use Rattle.machine_answers.specs.declared.answer.Answer.{Answer}
use Rattle.machine_answers.specs.declared.answer.Answer.TheVariants as answer
use Rattle.machine_answers.specs.Answers.{Brought, GivenAgrees, HoldsObject, HoldsWeakly, IsAnswer, IsCopiedIn, IsCopiedOut, IsCopyAcquired, IsReleased, WritesAt, effect_told}
use Rattle.machine_answers.specs.Answers as row

module _ {classes : Classes} {brought : Brought} {space : Space} {locals : LocalTable} {s : Shared} {t : Thread} where
  -- an answer that is this one
  pub as_answer : {a b : Answer} {kind : ResultKind} {of_source : SourceAnswer} → a ≡ b → IsAnswer classes brought space locals s t a kind of_source → IsAnswer classes brought space locals s t b kind of_source
  as_answer {kind = kind} {of_source = of_source} same does = subst (λ (x : Answer). IsAnswer classes brought space locals s t x kind of_source) same does

  pub gave : {g : Given} {kind : ResultKind} {of_source : SourceAnswer} → IsAnswer classes brought space locals s t (answer.Gives g) kind of_source → (c : CallResult) × GivenAgrees brought.unit classes space kind g c
  gave (row.gives {c = c} agrees) = (c, agrees)
  gave (row.writes_nothing same) = (NoResult, row.nothing)

  pub written : {a place : ℕ} {v : Value} {kind : ResultKind} {of_source : SourceAnswer} → IsAnswer classes brought space locals s t (answer.Writes a place v) kind of_source → (name : ℕ) × (value : ObjectValue) × WritesAt space a place v name value
  written (row.writes {name = name} {value = value} it) = (name, value, it)

  pub made : {new : New} {kind : ResultKind} {of_source : SourceAnswer} → IsAnswer classes brought space locals s t (answer.Makes new) kind of_source → (o : Object) × Describes classes brought.texts space new o
  made (row.makes {o = o} describes) = (o, describes)

  pub thrown : {class : ClassId} {kind : ResultKind} {of_source : SourceAnswer} → IsAnswer classes brought space locals s t (answer.Throws class) kind of_source → IsMakeable classes class.number
  thrown (row.throws makeable) = makeable

  pub raised : {class : ClassId} {place : ℕ} {kind : ResultKind} {of_source : SourceAnswer} → IsAnswer classes brought space locals s t (answer.Raises class place) kind of_source → IsMakeable classes class.number
  raised (row.raises string makeable) = makeable

  pub pending : {a : Option ℕ} {g : Given} {kind : ResultKind} {of_source : SourceAnswer} → IsAnswer classes brought space locals s t (answer.Pends a g) kind of_source
      → ((r : Reference) × ReferenceAgrees space a r) × ((c : CallResult) × GivenAgrees brought.unit classes space kind g c)
  pending (row.pends {c = c} r agrees of_call) = ((r, agrees), (c, of_call))

  pub copied_out : {region : ArrayRegion} {kind : ResultKind} {of_source : SourceAnswer} → IsAnswer classes brought space locals s t (answer.CopiesOut region) kind of_source → IsCopiedOut brought space s region
  copied_out (row.copies_out it) = it

  pub copied_in : {region : ArrayRegion} {kind : ResultKind} {of_source : SourceAnswer} → IsAnswer classes brought space locals s t (answer.CopiesIn region) kind of_source → IsCopiedIn brought space s t region
  copied_in (row.copies_in it) = it

  pub copied : {a : ℕ} {kind : ResultKind} {of_source : SourceAnswer} → IsAnswer classes brought space locals s t (answer.AcquiresCopy a) kind of_source → IsCopyAcquired space s a
  copied (row.acquires_copy buffer it) = it

  pub viewed : {a : ℕ} {kind : ResultKind} {of_source : SourceAnswer} → IsAnswer classes brought space locals s t (answer.AcquiresView a) kind of_source → (n : ℕ) × (name_at space a ≡ Some n)
  viewed (row.acquires_view n buffer there) = (n, there)

  pub released : {r : Release} {kind : ResultKind} {of_source : SourceAnswer} → IsAnswer classes brought space locals s t (answer.Releases r) kind of_source → IsReleased brought space s t r
  released (row.releases it) = it

  pub popped : {a : Option ℕ} {kind : ResultKind} {of_source : SourceAnswer} → IsAnswer classes brought space locals s t (answer.Pops a) kind of_source → (r : Reference) × ReferenceAgrees space a r
  popped (row.pops r agrees) = (r, agrees)

  pub deleted : {key : ℕ} {kind : ResultKind} {of_source : SourceAnswer} → IsAnswer classes brought space locals s t (answer.Deletes key) kind of_source → (n level : ℕ) × IsKeyOf space locals key n level
  deleted (row.deletes n variable there) = (n, level_of (lookup (variable_given brought.args variable) t.variables), there)

  pub made_global : {a : Option ℕ} {kind : ResultKind} {of_source : SourceAnswer} → IsAnswer classes brought space locals s t (answer.MakesGlobal a) kind of_source → (r : Reference) × ReferenceAgrees space a r
  made_global (row.makes_global r agrees) = (r, agrees)

  pub deleted_global : {i : ℕ} {kind : ResultKind} {of_source : SourceAnswer} → IsAnswer classes brought space locals s t (answer.DeletesGlobal i) kind of_source → (x : Identifier) × (n : ℕ) × HoldsObject s x i n
  deleted_global (row.deletes_global n variable holds) = (variable_given brought.args variable, n, holds)

  pub made_weak : {a : Option ℕ} {kind : ResultKind} {of_source : SourceAnswer} → IsAnswer classes brought space locals s t (answer.MakesWeak a) kind of_source → (r : Reference) × ReferenceAgrees space a r
  made_weak (row.makes_weak r agrees) = (r, agrees)

  pub deleted_weak : {i : ℕ} {kind : ResultKind} {of_source : SourceAnswer} → IsAnswer classes brought space locals s t (answer.DeletesWeak i) kind of_source → (x : Identifier) × HoldsWeakly s x i
  deleted_weak (row.deletes_weak variable holds) = (variable_given brought.args variable, holds)

  pub called : {kind : ResultKind} {of_source : SourceAnswer} → IsAnswer classes brought space locals s t answer.Calls kind of_source → (function : Identifier) × (arguments : List ObjectValue) × (effect_told classes brought s t of_source ≡ Enters function arguments)
  unfolding effect_of
  called (row.calls method) = (method.function.name, map passed_value (drop 2 brought.args), refl)

  pub halted : {trap : Trap} {kind : ResultKind} {of_source : SourceAnswer} → IsAnswer classes brought space locals s t (answer.Halts trap) kind of_source → effect_told classes brought s t of_source ≡ Halts trap
  unfolding effect_of
  halted row.halts = refl
