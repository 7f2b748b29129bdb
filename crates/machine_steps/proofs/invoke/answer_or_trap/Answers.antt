use Rattle.code_meaning.specs.Lowered.{Lowered}
use Rattle.syntax.specs.Views.{unit_tree}
use Rattle.std.specs.Prelude.{IfOk, IfErr}
use Rattle.std.proofs.Common.{inl, inr, Result, Ok, Err, ◌≡◌, ℕ, Option, None, sym, ap, ◌∙◌, subst, rules}
use Rattle.semantics.specs.World.{World}
use Rattle.code.specs.Call.{call_view}
use Rattle.code.specs.declared.instr.Call.{Call}
use Rattle.machine_answers.specs.declared.answer.Answer.{Answer}
use Rattle.machine_answers.specs.declared.answer.Answer.TheVariants as answer
use Rattle.semantics.specs.declared.trap.Trap.{Trap}
use Rattle.machine_scenes.specs.declared.store.Store.{Store}
use Rattle.machine_scenes.specs.declared.activation.Activation.{Activation}
use Rattle.machine_answers.specs.Asked.{scene_of}
use Rattle.machine_scenes.specs.Scenes.{Scene, scene_view}
use Rattle.machine_answers.specs.Sights.{trap_seen}
use Rattle.machine_steps.specs.Invoked.{trap_at}
use Rattle.machine_answers.specs.Answered.{IsAnswerTo}
use Rattle.machine_steps.proofs.SeenCalls.{all_there, passed_seen}
use Rattle.machine_steps.proofs.invoke.answer_or_trap.Goals as goal

module _ (p : Lowered) (w : World) (store : Store) (pending : Option ℕ) (call : Activation) (k : ℕ) (function : Call) (scene : Scene) (same : scene ≡ scene_of (unit_tree p.unit) w.classes store call k pending) where
  -- the trap that was found is the call's
  told : (o found : Option Trap) → o ≡ trap_seen scene call.locals (call_view function) → o ≡ found
      → trap_at p w store pending call k function ≡ found
  told o found checked is =
      ap (λ (x : Scene). trap_seen x call.locals (call_view function)) (sym same) ∙ sym checked ∙ is

  -- and so is what was worked out
  worked : (found answer : Answer) → answer ≡ found → IsAnswerTo scene (call_view function) found → IsAnswerTo (scene_of (unit_tree p.unit) w.classes store call k pending) (call_view function) answer
  worked found answer is works =
      subst (λ (x : Answer). IsAnswerTo (scene_of (unit_tree p.unit) w.classes store call k pending) (call_view function) x) (sym is)
      (subst (λ (x : Scene). IsAnswerTo x (call_view function) found) same works)

pub check-requires : goal.check-requires
check-requires c =
    let at = c.requires.at_call in
    let a = at.1 in
    let is = all_there c.args.context.program.now c.args.context.world.now c.args.store.now c.args.pending c.args.activation.now c.args.call.now a.0 c.args.context.thread at.0 a.1 a.2 a.3 a.4 a.5 a.6 c.args.store.now.monitors (scene_view c.scene_of-scene.result) c.scene_of-scene.ensures.scene in
    record { prepared = c.requires.prepared; pending = is.pending; objects = is.objects; handles = is.handles; method = is.method }

pub returns-in-Some-clause-trap : goal.returns-in-Some-clause-trap
returns-in-Some-clause-trap c = inl (told c.args.context.program.now c.args.context.world.now c.args.store.now c.args.pending c.args.activation.now c.args.context.thread c.args.call.now (scene_view c.scene_of-scene.result) c.scene_of-scene.ensures.scene c.check.result _ c.check.ensures c.in-Some.is)

pub work_out-requires : goal.work_out-requires
work_out-requires c =
    let at = c.requires.at_call in
    let a = at.1 in
    let is = all_there c.args.context.program.now c.args.context.world.now c.args.store.now c.args.pending c.args.activation.now c.args.call.now a.0 c.args.context.thread at.0 a.1 a.2 a.3 a.4 a.5 a.6 c.args.store.now.monitors (scene_view c.scene_of-scene.result) c.scene_of-scene.ensures.scene in
    let passed = passed_seen c.args.context.program.now c.args.context.world.now c.args.store.now c.args.pending c.args.activation.now c.args.call.now a.0 c.args.context.thread at.0 a.1 a.2 a.3 a.4 a.5 a.6 c.args.store.now.monitors (scene_view c.scene_of-scene.result) c.scene_of-scene.ensures.scene in
    record { grown = search rules; loaded = is.loaded; objects = is.objects; handles = is.handles; passed = passed (sym c.check.ensures ∙ c.in-None.is) }

-- what was worked out is handed on
handed_on : {A E : Type 0} (P Q : A → Type 0) (r : Result A E) → ((x : A) → P x → Q x) → IfOk r P → IfOk r Q
handed_on P Q (Ok x) f h = f x h
handed_on P Q (Err e) f h = h

stopped : {A E : Type 0} (P Q : E → Type 0) (r : Result A E) → ((e : E) → P e → Q e) → IfErr r P → IfErr r Q
stopped P Q (Ok x) f h = h
stopped P Q (Err e) f h = f e h

pub returns-in-None-clause-answer : goal.returns-in-None-clause-answer
returns-in-None-clause-answer c =
    handed_on _ _ c.running.result
    (λ (answer : Answer) (is : answer ≡ c.work_out.result).
    record {
      sound = c.scene_of-scene.ensures.sound;
      free = told c.args.context.program.now c.args.context.world.now c.args.store.now c.args.pending c.args.activation.now c.args.context.thread c.args.call.now (scene_view c.scene_of-scene.result) c.scene_of-scene.ensures.scene c.check.result None c.check.ensures c.in-None.is;
      works = worked c.args.context.program.now c.args.context.world.now c.args.store.now c.args.pending c.args.activation.now c.args.context.thread c.args.call.now (scene_view c.scene_of-scene.result) c.scene_of-scene.ensures.scene c.work_out.result answer is c.work_out.ensures;
    })
    c.running.ensures.answer

pub returns-in-None-clause-trap : goal.returns-in-None-clause-trap
returns-in-None-clause-trap c =
    stopped _ _ c.running.result
    (λ (trap : Trap) (is : c.work_out.result ≡ answer.Halts trap).
    inr (record {
      sound = c.scene_of-scene.ensures.sound;
      free = told c.args.context.program.now c.args.context.world.now c.args.store.now c.args.pending c.args.activation.now c.args.context.thread c.args.call.now (scene_view c.scene_of-scene.result) c.scene_of-scene.ensures.scene c.check.result None c.check.ensures c.in-None.is;
      works = worked c.args.context.program.now c.args.context.world.now c.args.store.now c.args.pending c.args.activation.now c.args.context.thread c.args.call.now (scene_view c.scene_of-scene.result) c.scene_of-scene.ensures.scene c.work_out.result (answer.Halts trap) (sym is) c.work_out.ensures;
    }))
    c.running.ensures.trap
