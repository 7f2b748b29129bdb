-- Of an object that is given the monitor is entered and left as the source does it, where it can be.
use Rattle.std.proofs.Common.{◌≡◌, true, false, Some, refl, sym, ap, ◌∙◌, subst}
use Rattle.std.proofs.lemmas.Bool.{and_from, eq-eqb}
use Rattle.code.specs.Call.{Call}
use Rattle.heap.specs.Heap.{name_at}
use Rattle.jni.specs.declared.function.JniFunction.{JniFunction}
use Rattle.jni.specs.declared.function.JniFunction.TheVariants.{DeleteLocalRef, MonitorEnter, MonitorExit}
use Rattle.jni.specs.JniFunction.{calls_method}
use Rattle.semantics.specs.AnswerTable.{call_answer, monitor_entered, monitor_left}
use Rattle.semantics.specs.Arguments.{name_or_zero}
use Rattle.monitors.specs.declared.monitors.Enter.TheVariants.{Entered}
use Rattle.monitors.specs.declared.monitors.Exit.TheVariants.{Left}
use Rattle.monitors.specs.declared.monitors.Object.{Object}
use Rattle.monitors.specs.Monitors.{entering, leaving, monitor_of}
use Rattle.machine_scenes.specs.Given.{operand_at, operand_of, name_there}
use Rattle.machine_scenes.specs.Scenes.{Scene}
use Rattle.machine_answers.specs.declared.answer.Answer.{Answer}
use Rattle.machine_answers.specs.declared.answer.Answer.TheVariants as replies
use Rattle.machine_answers.specs.Answered.{IsAnswerTo}
use Rattle.machine_answers.specs.AnswersSeen.{CallsMethod, EndsFirst, IsSeen, is_entered, is_key, is_left, owned_seen}
use Rattle.machine_answers.specs.Sights.{name_seen}
use Rattle.machine_answers.proofs.AnswersStand.{answers_seen}
use Rattle.machine_answers.proofs.SightParts.{name_is}

module _ (sees : Scene) (call : Call) (o : Object) (first : operand_at sees.references (operand_of call.operands 0) ≡ Some o.address) (named : name_at sees.space o.address ≡ Some o.name) where
  -- the name of the object, as it is seen and as it is there
  seen : o.name ≡ name_or_zero (name_seen sees.space (operand_at sees.references (operand_of call.operands 0)))
  seen = sym (ap name_or_zero (ap (name_seen sees.space) first ∙ named))

  there : o.name ≡ name_there sees.space (operand_at sees.references (operand_of call.operands 0))
  there = seen ∙ sym (name_is sees.space (operand_at sees.references (operand_of call.operands 0)))

  is_own : is_key (name_at sees.space o.address) o.name ≡ true
  is_own = ap (λ q. is_key q o.name) named ∙ eq-eqb o.name o.name refl

  -- a function of monitors neither ends a local reference nor calls a method
  ends_none : (x : Answer) → call.function ≡ MonitorEnter → EndsFirst sees call x
  ends_none x is one key e = absurd (let clash : MonitorEnter ≡ DeleteLocalRef = sym is ∙ one in cc)

  ends_none_left : (x : Answer) → call.function ≡ MonitorExit → EndsFirst sees call x
  ends_none_left x is one key e = absurd (let clash : MonitorExit ≡ DeleteLocalRef = sym is ∙ one in cc)

  calls_none : (x : Answer) → calls_method call.function ≡ false → CallsMethod call x
  calls_none x none calls = absurd (let clash : false ≡ true = sym none ∙ calls in cc)

  entered_seen : call.function ≡ MonitorEnter → IsSeen sees call (replies.Enters o)
  unfolding call_answer
  entered_seen is =
      subst (λ (g : JniFunction). IsSeen sees (record call { function = g }) (replies.Enters o)) (sym is)
      (λ locals callers objects class pending same count key given owned field place static class_named inside i. monitor_entered (seen i) (owned_seen sees (there i)))

  left_seen : call.function ≡ MonitorExit → IsSeen sees call (replies.Exits o.name)
  unfolding call_answer
  left_seen is =
      subst (λ (g : JniFunction). IsSeen sees (record call { function = g }) (replies.Exits o.name)) (sym is)
      (λ locals callers objects class pending same count key given owned field place static class_named inside i. monitor_left sees.thread (seen i) (owned_seen sees (there i)))

-- the monitor of the first argument's object is entered
pub enters : (sees : Scene) (call : Call) (o : Object) → operand_at sees.references (operand_of call.operands 0) ≡ Some o.address → name_at sees.space o.address ≡ Some o.name → call.function ≡ MonitorEnter
    → entering sees.thread (monitor_of sees.monitors o.name) ≡ Entered → IsAnswerTo sees call (replies.Enters o)
enters sees call o first named is came =
    answers_seen sees call (replies.Enters o) (entered_seen sees call o first named is) (λ pending cells methods. and_from _ _ (is_own sees call o first named) (ap is_entered came))
    (ends_none sees call o first named _ is) (calls_none sees call o first named _ (ap calls_method is))

-- it is left
pub exits : (sees : Scene) (call : Call) (o : Object) → operand_at sees.references (operand_of call.operands 0) ≡ Some o.address → name_at sees.space o.address ≡ Some o.name → call.function ≡ MonitorExit
    → leaving sees.thread (monitor_of sees.monitors o.name) ≡ Left → IsAnswerTo sees call (replies.Exits o.name)
exits sees call o first named is came =
    answers_seen sees call (replies.Exits o.name) (left_seen sees call o first named is) (λ pending cells methods. ap is_left came)
    (ends_none_left sees call o first named _ is) (calls_none sees call o first named _ (ap calls_method is))
