-- That the answer to a call stands for the source's.
use Rattle.std.specs.Prelude.{◌≡◌, ℕ, true, List, Option, Some, None}
use Rattle.syntax.specs.Tree.{SourceUnit}
use Rattle.syntax.specs.Views.{unit_tree}
use Rattle.code.specs.Call.{Call}
use Rattle.code_meaning.specs.Lowered.{Lowered}
use Rattle.jni.specs.declared.function.JniFunction.{JniFunction}
use Rattle.jni.specs.declared.function.JniFunction.TheVariants.{DeleteLocalRef}
use Rattle.jni.specs.JniFunction.{calls_method, prototype}
use Rattle.semantics.specs.AnswerTable.{call_answer}
use Rattle.semantics.specs.Arguments.{Actual}
use Rattle.semantics.specs.CallSight.{sight_of_call}
use Rattle.semantics.specs.Task.{Target}
use Rattle.semantics.specs.Thread.{Shared, Thread}
use Rattle.semantics.specs.World.{World}
use Rattle.world_values.specs.SoundWorlds.{IsSound}
use Rattle.machine_scenes.specs.declared.activation.Activation.{Activation}
use Rattle.machine_scenes.specs.declared.store.Store.{Store}
use Rattle.machine_scenes.specs.Buffers.{Acquired, acquired_by, beside, in_use_of}
use Rattle.machine_scenes.specs.Given.{key_at, operand_of}
use Rattle.machine_scenes.specs.Scenes.{Scene}
use Rattle.machine_answers.specs.declared.answer.Answer.{Answer}
use Rattle.machine_answers.specs.declared.answer.Answer.TheVariants.{Calls, Deletes}
use Rattle.machine_answers.specs.Answers.{Brought, IsAnswer}
use Rattle.machine_answers.specs.Asked.{IsAsked, brought_by, scene_of}
use Rattle.machine_answers.specs.Sights.{trap_seen}

-- a call that the machine makes in thread k, in its call of this number, and the source's
pub record TwoCalls : Type 0 where
  pub p : Lowered
  pub w : World
  pub sound : IsSound w
  pub store : Store
  pub pending : Option ℕ
  pub activation : Activation
  pub call : Call
  pub others : Acquired
  pub k : ℕ
  pub owner : ℕ
  pub shared : Shared
  pub s : Thread
  pub target : Target
  pub args : List Actual

module _ (both : TwoCalls) where
  open both use {p, w, store, pending, activation, call, others, k, owner, shared, s, target, args}

  abbrev pub unit : SourceUnit
  unit = unit_tree p.unit

  -- what the machine sees
  abbrev pub scene : Scene
  scene = scene_of unit w.classes store activation k pending

  abbrev pub brought : Brought
  brought = brought_by unit store activation k owner (in_use_of (beside others (acquired_by s))) call args

  -- the machine's call is asked as the source's, of function f
  abbrev pub Asked : JniFunction → Type 0
  Asked f = IsAsked p w store pending activation call others k owner shared s target f args

  -- no check stops it, but perhaps that of how deep calls are
  abbrev pub Passes : Type 0
  Passes = trap_seen scene activation.locals call ≡ None

  -- the answer stands for what the source's call answers
  abbrev pub Does : JniFunction → Answer → Type 0
  Does f answer = IsAnswer w.classes brought store.heap activation.locals shared s answer (prototype f).result
      (call_answer unit w.classes k (sight_of_call shared s f args) f)

-- The answer to a call that sees this scene stands for the source's, whatever call of the source it is asked as. The local reference that
-- DeleteLocalRef ends is that of the first operand, and a function that calls a method answers so.
pub record IsReply (sees : Scene) (call : Call) (answer : Answer) : Type 0 where
  pub stands : (both : TwoCalls) (f : JniFunction) → scene both ≡ sees → both.call ≡ call → Asked both f → Passes both → Does both f answer
  pub ends : call.function ≡ DeleteLocalRef → (key : ℕ) → answer ≡ Deletes key → key_at sees.references (operand_of call.operands 0) ≡ Some key
  pub calls : calls_method call.function ≡ true → answer ≡ Calls

-- the same, for a proof that doesn't look into it
unfoldable pub IsAnswerTo : Scene → Call → Answer → Type 0
IsAnswerTo sees call answer = IsReply sees call answer
