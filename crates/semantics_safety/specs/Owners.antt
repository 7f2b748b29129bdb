-- Which variables have a local reference of their own: one that the call was entered with or that a call gave to the variable,
-- and that no call has ended.
use Rattle.std.specs.Prelude.{◌≡◌, ℕ, ◌==◌, Bool, true, false, if◌then◌else◌, List, [], ◌∷◌, length, Option, Some, None}
use Rattle.std.specs.Str.{bytes_eq}
use Rattle.base.specs.Bytes.{Identifier, lookup}
use Rattle.syntax.specs.Tree.{SourceUnit}
use Rattle.class_rules.specs.Class.{Classes}
use Rattle.jni.specs.declared.function.JniFunction.{JniFunction}
use Rattle.jni.specs.JniFunction.{calls_method}
use Rattle.semantics.specs.Answer.{Answer, DeletesLocal, Pops}
use Rattle.semantics.specs.AnswerTable.{call_answer}
use Rattle.semantics.specs.Arguments.{Actual, variable_given}
use Rattle.semantics.specs.CallSight.{sight_of_call}
use Rattle.semantics.specs.Effect.{Effect, Calls, Returns}
use Rattle.semantics.specs.Journal.{Entry, Step, Clearing, Journal}
use Rattle.semantics.specs.Start.{start}
use Rattle.semantics.specs.State.{State, thread_at, in_use}
use Rattle.semantics.specs.Step.{world_step}
use Rattle.semantics.specs.Task.{Task, Target, Declared, Assigned}
use Rattle.semantics.specs.Thread.{Thread, Caller, Shared, Advance, Advances, NoAdvance}
use Rattle.semantics.specs.declared.event.Event.{Event}
use Rattle.semantics.specs.declared.event.Event.TheVariants.{Quiet, Trapped}
use Rattle.semantics.specs.ThreadStep.{next_effect, thread_step}
use Rattle.semantics.specs.Variable.{Variable, LocalRef, Variables}
use Rattle.semantics.specs.World.{World}

-- for each variable of a call the level of its own reference, if it has one
abbrev pub Owners : Type 0
Owners = Identifier → Option ℕ

-- of a thread: those of the call in progress, and of its callers, the last one first
pub record ThreadOwners : Type 0 where
  pub current : Owners
  pub callers : List Owners

-- no variable has one
abbrev pub no_owner : Owners
no_owner x = None

-- the level of a variable that refers to an object
abbrev pub level_held : Option Variable → Option ℕ
level_held (Some (LocalRef level (Some n))) = Some level
level_held v = None

-- before its first call
abbrev pub no_owners : ThreadOwners
no_owners = record { current = no_owner; callers = [] }

-- each variable that refers to an object has one
abbrev pub holders : Variables → Owners
holders vs x = level_held (lookup x vs)

-- ---- a call

-- a call's result goes to this variable
abbrev pub is_target : Target → Identifier → Bool
is_target (Declared kind y) x = bytes_eq x y
is_target (Assigned y) x = bytes_eq x y
is_target target x = false

-- the owners once a result is where it goes, with these variables then
abbrev pub with_result : Target → Owners → Variables → Owners
with_result target own vs x = if is_target target x then level_held (lookup x vs) else own x

-- a level other than this one
abbrev pub other_than : ℕ → Option ℕ → Option ℕ
other_than top None = None
other_than top (Some level) = if level == top then None else Some level

-- The owners that an answer leaves, where this is the number of frames before it. A call that deletes NULL ends none: whatever was the
-- variable's own stays so until a call gives it another, and nothing is asked of it before, since NULL is no reference.
abbrev pub left_by : Answer → List Actual → (frames : ℕ) → Owners → Owners
left_by (DeletesLocal i n) args frames own x = if bytes_eq x (variable_given args i) then None else own x
left_by (Pops r) args frames own x = other_than frames (own x)
left_by a args frames own x = own x

-- those after a call with this answer whose result goes to this target, with these variables then; a trap leaves all as they were
abbrev pub after_answer : Target → Answer → List Actual → (frames : ℕ) → Owners → Event → Variables → Owners
after_answer target a args frames own (Trapped trap line) vs = own
after_answer target a args frames own event vs = with_result target (left_by a args frames own) vs

-- ---- a step

-- after a return into the first of these callers, which has these variables then; without one it is a call's end
abbrev pub after_return : List Caller → List Owners → ThreadOwners → Variables → ThreadOwners
after_return (c ∷ callers) (own ∷ owners) now vs = record { current = with_result c.target own vs; callers = owners }
after_return callers owners now vs = now

-- after a call of the JNI: one of a method leaves the call in progress to the callers; these are left where it is another
abbrev pub after_invoked : (method : Bool) → Event → ThreadOwners → Owners → ThreadOwners
after_invoked true Quiet own left = record { current = no_owner; callers = own.current ∷ own.callers }
after_invoked method event own left = record own { current = left }

-- a step of thread k, which is t
module _ (unit : SourceUnit) (classes : Classes) (k : ℕ) (s : Shared) (t : Thread) where
  -- what a call answers
  abbrev pub answer_to : JniFunction → List Actual → Answer
  answer_to f args = call_answer unit classes k (sight_of_call s t f args) f

  -- the owners after an effect that leaves these variables
  abbrev pub after_effect : Effect → Owners → Event → Variables → Owners
  after_effect (Calls line target f args) own event vs = after_answer target (answer_to f args) args (length t.frames) own event vs
  after_effect e own event vs = own

  -- after the effect of a step within a call
  abbrev pub after_step : ThreadOwners → Event → Effect → Variables → ThreadOwners
  after_step own event (Returns given) vs = after_return t.callers own.callers own vs
  after_step own event (Calls line target f args) vs =
      after_invoked (calls_method f) event own (after_effect (Calls line target f args) own.current event vs)
  after_step own event e vs = own

  -- after a step with these tasks that leaves these variables; a call begins with those that it is given
  abbrev pub after_tasks : Option (List Task) → ThreadOwners → Event → Variables → ThreadOwners
  after_tasks None own event vs = record own { current = holders vs }
  after_tasks (Some tasks) own event vs = after_step own event (next_effect s t (Some tasks)) vs

  -- after a step, where it is possible
  abbrev pub after_advance : ThreadOwners → Advance → ThreadOwners
  after_advance own NoAdvance = own
  after_advance own (Advances s' t' event) = after_tasks t.tasks own event t'.variables

-- ---- a journal

-- of each thread, by its number
abbrev pub AllOwners : Type 0
AllOwners = ℕ → ThreadOwners

-- with those of one thread
abbrev pub with_owners : AllOwners → ℕ → ThreadOwners → AllOwners
with_owners owners k own j = if j == k then own else owners j

-- after a step of thread k, if it is there
abbrev pub after_turn : SourceUnit → Classes → State → AllOwners → (k : ℕ) → (refused : Bool) → Option Thread → AllOwners
after_turn unit classes s owners k refused None = owners
after_turn unit classes s owners k refused (Some t) = with_owners owners k
    (after_advance unit classes k s.shared t (owners k) (thread_step unit classes (in_use s) k s.shared t refused))

-- after an entry
abbrev pub after_entry : SourceUnit → Classes → State → AllOwners → Entry → AllOwners
after_entry unit classes s owners (Step k refused) = after_turn unit classes s owners k refused (thread_at s k)
after_entry unit classes s owners (Clearing names) = owners

-- after entries, from a state on; none is after one that isn't possible
abbrev pub owners_from : SourceUnit → World → Option State → AllOwners → Journal → AllOwners
owners_from unit w s owners [] = owners
owners_from unit w None owners (e ∷ rest) = owners
owners_from unit w (Some s) owners (e ∷ rest) = owners_from unit w (world_step unit w s e) (after_entry unit w.classes s owners e) rest

-- after a journal
abbrev pub owners_after : SourceUnit → World → Journal → AllOwners
owners_after unit w journal = owners_from unit w (Some (start unit w)) (λ k. no_owners) journal

-- ---- a use

-- a variable that is NULL, no local reference, or has its reference yet
abbrev pub IsOwn : Owners → Identifier → Option Variable → Type 0
IsOwn own x (Some (LocalRef level (Some n))) = own x ≡ Some level
IsOwn own x v = Unit {0}
