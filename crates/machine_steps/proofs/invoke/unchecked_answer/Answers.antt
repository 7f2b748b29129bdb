use Rattle.syntax.specs.Views.{unit_tree}
use Rattle.syntax.specs.Tree.{SourceUnit}
use Rattle.std.specs.Prelude.{IfSome}
use Rattle.std.proofs.Common.{◌≡◌, Bool, Option, Some, None, refl, sym, ◌∙◌}
use Rattle.base.specs.declared.element.ElementType.{ElementType}
use Rattle.class_rules.specs.Class.{Classes}
use Rattle.code.specs.Call.{call_view}
use Rattle.tables.specs.Locals.{has_room}
use Rattle.machine_answers.specs.Asked.{scene_of}
use Rattle.machine_answers.specs.declared.answer.Answer.{Answer}
use Rattle.machine_answers.specs.Checked.{trap_found}
use Rattle.machine_answers.specs.Sights.{element_wanted}
use Rattle.machine_answers.specs.Answered.{IsAnswerTo}
use Rattle.machine_scenes.specs.Locals.{locals_after}
use Rattle.machine_steps.specs.MonitorCalls.{MayChange}
use Rattle.machine_steps.proofs.SeenCalls.{all_there, as_seen}
use Rattle.machine_steps.proofs.invoke.unchecked_answer.Goals as goal

-- what is known of an answer by two clauses
known : (P Q R : Answer → Type 0) (o : Option Answer) → ((x : Answer) → P x → Q x → R x) → IfSome o P → IfSome o Q → IfSome o R
known P Q R (Some x) f p q = f x p q
known P Q R None f p q = tt

pub answer_at_once-requires : goal.answer_at_once-requires
answer_at_once-requires c =
    let at = c.requires.at_call in
    let a = at.1 in
    record { function = c.requires.function; objects = (all_there c.args.context.program.now c.args.context.world.now c.args.store.now c.args.pending c.args.activation.now c.args.call.now a.0 c.args.context.thread at.0 a.1 a.2 a.3 a.4 a.5 a.6 c.args.store.now.monitors (scene_of (unit_tree c.args.context.program.now.unit) c.args.context.world.now.classes c.args.store.now c.args.activation.now c.args.context.thread c.args.pending) refl).objects }

pub returns-clause-answer : goal.returns-clause-answer
returns-clause-answer c =
    let at = c.requires.at_call in
    let a = at.1 in
    let call = c.args.call.now in
    let w = c.args.context.world.now in
    let scene = scene_of (unit_tree c.args.context.program.now.unit) w.classes c.args.store.now c.args.activation.now c.args.context.thread c.args.pending in
    known
    (λ (x : Answer). (unit : SourceUnit) (classes : Classes) (room : Bool) (wanted : ElementType) → trap_found (scene_of unit classes c.args.store.now c.args.activation.now c.args.context.thread c.args.pending) room wanted call.function call.operands.items ≡ None)
    (λ (x : Answer). MayChange c.args.context.thread x c.args.store.now.monitors → (unit : SourceUnit) (classes : Classes) → IsAnswerTo (scene_of unit classes c.args.store.now c.args.activation.now c.args.context.thread c.args.pending) (call_view call) x)
    _ c.answer_at_once.result
    (λ (x : Answer) free works owns.
    record {
      sound = c.classes.ensures.sound;
      free =
          sym (as_seen c.args.context.program.now w c.args.store.now c.args.pending c.args.activation.now call a.0 c.args.context.thread at.0 a.1 a.2 a.3 a.4 a.5 a.6 c.args.store.now.monitors scene refl)
          ∙ free (unit_tree c.args.context.program.now.unit) w.classes (has_room (locals_after call.function c.args.activation.now.locals)) (element_wanted call.target);
      works = works owns (unit_tree c.args.context.program.now.unit) w.classes;
    })
    c.answer_at_once.ensures.free
    c.answer_at_once.ensures.works
