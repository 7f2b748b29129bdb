-- The step of a call in memory, up to the call's own step and with it.
use Rattle.std.proofs.Common.{◌≡◌, ℕ, zero, suc, ◌+◌, ◌<◌, Bool, true, false, List, [], ◌∷◌, ◌++◌, length, map, Option, Some, None, nat_lt, slice_get, refl, sym, ap, ◌∙◌, subst, arith}
use Rattle.std.specs.Prelude.{◌&&◌, is_some, slice_set}
use Rattle.std.specs.Borrow.{Bor}
use Rattle.std.specs.Global.{Vec}
use Rattle.syntax.specs.declared.call.Argument.{Argument}
use Rattle.base.specs.Bytes.{Identifier}
use Rattle.base.proofs.Lists.{set_same}
use Rattle.std.proofs.lemmas.Bool.Decides.{nat_tests}
use Rattle.class_rules.specs.Class.{Classes}
use Rattle.semantics.specs.Arguments.{Actual, actuals}
use Rattle.semantics.specs.Effect.{Becomes, Calls, effect_of, goes_on, is_no_number, is_ready, reduce_first, reduce_name, reduce_number, is_given}
use Rattle.semantics.specs.Sight.{Sight}
use Rattle.semantics.specs.Task as source
use Rattle.semantics.specs.Term as terms
use Rattle.semantics.specs.Term.{reduce}
use Rattle.semantics.specs.Thread.{Thread, Shared, sight_of}
use Rattle.semantics.specs.ThreadStep.{after_effect, after_refused_effect}
use Rattle.semantics.specs.declared.value.Value.{Value}
use Rattle.semantics.specs.Value.{Outcome as Outcomes, Gives, Traps, Stuck, outcome_map}
use Rattle.replay_tasks.specs.declared.outcome.Outcome.{Outcome}
use Rattle.replay_tasks.specs.declared.task.Invocation.{Invocation}
use Rattle.replay_terms.specs.declared.operand.Operand.{Operand}
use Rattle.replay_terms.specs.declared.operand.Operand.TheVariants as operands
use Rattle.replay_terms.specs.declared.operand.Operands.TheVariants as all
use Rattle.replay_tasks.specs.declared.task.Task.TheVariants as task
use Rattle.replay_terms.specs.declared.reduction.Reduction.{Reduction}
use Rattle.replay_terms.specs.declared.reduction.Reduction.TheVariants as reduction
use Rattle.replay_terms.specs.declared.term.Term.{Term}
use Rattle.replay_terms.specs.declared.term.Term.TheVariants as term
use Rattle.replay_steps.specs.Calls.{FindsArguments, MakesCall, MakesInvocation, ReducesFirst, ReducesListed, ReducesOne}
use Rattle.replay_tasks.specs.Outcomes.{purpose_view}
use Rattle.replay_arguments.specs.Shares.{sight_in}
use Rattle.replay_tasks.specs.Effects.{HasEffect, reduced}
use Rattle.replay_steps.specs.Steps.{Scene, Sees, Does}
use Rattle.replay_terms.specs.Views.{operand_view, operands_view, looked_up, Contents, term_view, Reduces}
use Rattle.replay_tasks.specs.Tasks.{task_view}
use Rattle.replay_steps.proofs.TaskLemmas.{sees_so}

-- ---- the first number that isn't worked out

first_given : (sight : Sight) (o : Operand) (rest : List source.Operand) → is_given sight.number (operand_view o) ≡ true → reduce_first sight (operand_view o ∷ rest) ≡ outcome_map (λ os. operand_view o ∷ os) (reduce_first sight rest)
first_given sight (operands.Given a) rest given = refl
first_given sight (operands.Passed x) rest given = by_value (sight.number x.now) given
  where
    by_value : (o : Outcomes Value) → is_no_number o ≡ true → reduce_name x.now rest o (reduce_first sight rest) ≡ outcome_map (λ os. source.PassedName x.now ∷ os) (reduce_first sight rest)
    by_value (Gives v) given = absurd (cc)
    by_value (Traps trap) given = refl
    by_value Stuck given = refl
first_given sight (operands.Number (term.Done v)) rest given = refl
first_given sight (operands.Number (term.Number n unsigned)) rest given = absurd (cc)
first_given sight (operands.Number (term.Named c)) rest given = absurd (cc)
first_given sight (operands.Number (term.Read x)) rest given = absurd (cc)
first_given sight (operands.Number (term.Element x i)) rest given = absurd (cc)
first_given sight (operands.Number (term.IsNull wanted x)) rest given = absurd (cc)
first_given sight (operands.Number (term.Prefix op t)) rest given = absurd (cc)
first_given sight (operands.Number (term.And' p s q t)) rest given = absurd (cc)
first_given sight (operands.Number (term.Or' p s q t)) rest given = absurd (cc)
first_given sight (operands.Number (term.Binary op s t)) rest given = absurd (cc)

-- a number that has no value yet
pub record IsOpen (u : terms.Term) : Type 0 where
  pub unready : (number : Identifier → Outcomes Value) → is_given number (source.NumberOperand u) ≡ false
  pub reduces : (rest : List source.Operand) (step : Outcomes terms.Term) (further : Outcomes (List source.Operand)) → reduce_number u rest step further ≡ outcome_map (λ (w : terms.Term). source.NumberOperand w ∷ rest) step

is_open : (t : Term) → ((v : Value) → t ≡ term.Done v → ⊥) → IsOpen (term_view t)
is_open (term.Done v) none = absurd (none v refl)
is_open (term.Number n unsigned) none = record { unready = λ number. refl; reduces = λ rest step further. refl }
is_open (term.Named c) none = record { unready = λ number. refl; reduces = λ rest step further. refl }
is_open (term.Read x) none = record { unready = λ number. refl; reduces = λ rest step further. refl }
is_open (term.Element x i) none = record { unready = λ number. refl; reduces = λ rest step further. refl }
is_open (term.IsNull wanted x) none = record { unready = λ number. refl; reduces = λ rest step further. refl }
is_open (term.Prefix op t) none = record { unready = λ number. refl; reduces = λ rest step further. refl }
is_open (term.And' p s q t) none = record { unready = λ number. refl; reduces = λ rest step further. refl }
is_open (term.Or' p s q t) none = record { unready = λ number. refl; reduces = λ rest step further. refl }
is_open (term.Binary op s t) none = record { unready = λ number. refl; reduces = λ rest step further. refl }

-- arguments that are looked up
abbrev given : List Argument → List source.Operand
given args = map looked_up args

-- where they are left out, as much is ready
pub ready_after : (number : Identifier → Outcomes Value) (args : List Argument) (os : List source.Operand) → is_ready number (given args ++ os) ≡ is_ready number os
ready_after number [] os = refl
ready_after number (a ∷ args) os = ready_after number args os

pub all_ready : (number : Identifier → Outcomes Value) (args : List Argument) → is_ready number (given args) ≡ true
all_ready number [] = refl
all_ready number (a ∷ args) = all_ready number args

module _ (sight : Sight) where
  -- the first n are worked out
  abbrev pub AreGiven : List Operand → ℕ → Type 0
  AreGiven os n = (i : ℕ) (o : Operand) → i < n → slice_get os i ≡ Some o → is_given sight.number (operand_view o) ≡ true

  pub given_more : (os : List Operand) (n : ℕ) (o : Operand) → slice_get os n ≡ Some o → is_given sight.number (operand_view o) ≡ true → AreGiven os n → AreGiven os (n + 1)
  given_more os n o at given before = λ i p low there. by_place i p low there (nat_lt i n) refl
    where
      by_place : (i : ℕ) (p : Operand) → i < n + 1 → slice_get os i ≡ Some p → (b : Bool) → nat_lt i n ≡ b → is_given sight.number (operand_view p) ≡ true
      by_place i p low there true is = before i p (grind (arith, nat_tests, is)) there
      by_place i p low there false is =
          let last : i ≡ n = grind (arith, nat_tests, is, low) in
          let same : Some o ≡ Some p = sym at ∙ ap (slice_get os) (sym last) ∙ there in
          let equal : o ≡ p = cc in
          ap (λ (q : Operand). is_given sight.number (operand_view q)) (sym equal) ∙ given

  -- what comes before it stays
  pub after_given : (o : Operand) (old new : List Operand) (took : Option Reduction) → is_given sight.number (operand_view o) ≡ true → ReducesListed sight old took new → ReducesListed sight (o ∷ old) took (o ∷ new)
  after_given o old new None given h = (rw (given, h.0) refl, ap (λ (os : List Operand). o ∷ os) h.1)
  after_given o old new (Some reduction.Reduced) given h =
      (rw (given, h.0) refl, first_given sight o (map operand_view old) given ∙ ap (outcome_map (λ os. operand_view o ∷ os)) h.1)
  after_given o old new (Some (reduction.Trapped trap)) given h =
      (rw (given, h.0) refl, first_given sight o (map operand_view old) given ∙ ap (outcome_map (λ os. operand_view o ∷ os)) h.1, ap (λ (os : List Operand). o ∷ os) h.2)
  after_given o old new (Some reduction.Stuck) given h =
      (rw (given, h.0) refl, first_given sight o (map operand_view old) given ∙ ap (outcome_map (λ os. operand_view o ∷ os)) h.1)

  -- it takes its step
  pub takes_first : (t t' : Term) (rest : List Operand) (took : Reduction) → ((v : Value) → t ≡ term.Done v → ⊥) → Reduces sight t took t' → ReducesListed sight (operands.Number t ∷ rest) (Some took) (operands.Number t' ∷ rest)
  takes_first t t' rest reduction.Reduced none h =
      let o = is_open t none in
      (rw (o.unready sight.number) refl, o.reduces (map operand_view rest) (reduce sight (term_view t)) (reduce_first sight (map operand_view rest)) ∙ ap (outcome_map (λ (w : terms.Term). source.NumberOperand w ∷ map operand_view rest)) h)
  takes_first t t' rest (reduction.Trapped trap) none h =
      let o = is_open t none in (
        rw (o.unready sight.number) refl,
        o.reduces (map operand_view rest) (reduce sight (term_view t)) (reduce_first sight (map operand_view rest)) ∙ ap (outcome_map (λ (w : terms.Term). source.NumberOperand w ∷ map operand_view rest)) h.0,
        ap (λ (u : Term). operands.Number u ∷ rest) h.1,
      )
  takes_first t t' rest reduction.Stuck none h =
      let o = is_open t none in
      (rw (o.unready sight.number) refl, o.reduces (map operand_view rest) (reduce sight (term_view t)) (reduce_first sight (map operand_view rest)) ∙ ap (outcome_map (λ (w : terms.Term). source.NumberOperand w ∷ map operand_view rest)) h)

  -- the value of a number takes the place of its name
  pub name_takes : (x : Bor Identifier) (v : Value) (rest : List Operand) → sight.number x.now ≡ Gives v → ReducesListed sight (operands.Passed x ∷ rest) (Some reduction.Reduced) (operands.Number (term.Done v) ∷ rest)
  name_takes x v rest is = (
    ap (λ (o : Outcomes Value). is_no_number o && is_ready sight.number (map operand_view rest)) is,
    ap (λ (o : Outcomes Value). reduce_name x.now (map operand_view rest) o (reduce_first sight (map operand_view rest))) is,
  )

  -- the one after them takes its step
  pub first_in : (os : List Operand) (n : ℕ) (o o' : Operand) (took : Reduction) → slice_get os n ≡ Some o → AreGiven os n → ReducesOne sight o (Some took) o' → ReducesListed sight os (Some took) (slice_set os n o')
  first_in [] n o o' took at given h = absurd (cc)
  first_in (p ∷ os) zero o o' took at given h = let same : p ≡ o = cc in subst (λ (q : Operand). ReducesListed sight (q ∷ os) (Some took) (o' ∷ os)) (sym same) (h os)
  first_in (p ∷ os) (suc n) o o' took at given h = after_given p os (slice_set os n o') (Some took) (given 0 p (omega arith) refl) (first_in os n o o' took at (λ i q low there. given (suc i) q (omega arith) there) h)

  pub first_step : (os : List Operand) (n : ℕ) (o o' : Operand) (took : Option Reduction) → is_some took ≡ true → slice_get os n ≡ Some o → AreGiven os n → ReducesOne sight o took o' → ReducesListed sight os took (slice_set os n o')
  first_step os n o o' None some at given h = absurd (cc)
  first_step os n o o' (Some r) some at given h = first_in os n o o' r at given h

  -- or is worked out already
  pub none_step : (os : List Operand) (n : ℕ) (o o' : Operand) (took : Option Reduction) → is_some took ≡ false → slice_get os n ≡ Some o → AreGiven os n → ReducesOne sight o took o' → (slice_set os n o' ≡ os) × AreGiven os (n + 1)
  none_step os n o o' None none at given h = (ap (slice_set os n) h.1 ∙ set_same os n o at, given_more os n o at h.0 given)
  none_step os n o o' (Some r) none at given h = absurd (cc)

  -- or each is worked out
  pub none_first : (os : List Operand) → AreGiven os (length os) → ReducesListed sight os None os
  none_first [] given = (refl, refl)
  none_first (p ∷ os) given = after_given p os os None (given 0 p (omega arith) refl) (none_first os (λ i q low there. given (suc i) q (omega arith) there))

  -- ---- all of a call

  twice : (f g : List source.Operand → List source.Operand) (o : Outcomes (List source.Operand)) → outcome_map f (outcome_map g o) ≡ outcome_map (λ os. f (g os)) o
  twice f g (Gives os) = refl
  twice f g (Traps trap) = refl
  twice f g Stuck = refl

  same_outcome : (o : Outcomes (List source.Operand)) → o ≡ outcome_map (λ os. os) o
  same_outcome (Gives os) = refl
  same_outcome (Traps trap) = refl
  same_outcome Stuck = refl

  first_after : (args : List Argument) (os : List source.Operand) → reduce_first sight (given args ++ os) ≡ outcome_map (λ rest. given args ++ rest) (reduce_first sight os)
  first_after [] os = same_outcome (reduce_first sight os)
  first_after (a ∷ args) os =
      ap (outcome_map (λ rest. looked_up a ∷ rest)) (first_after args os)
      ∙ twice (λ rest. looked_up a ∷ rest) (λ rest. given args ++ rest) (reduce_first sight os)

  -- of arguments that are looked up there is none
  pub given_ready : (args : Bor (List Argument)) → ReducesFirst sight (all.Given args) None (all.Given args)
  given_ready args = (all_ready sight.number args.now, refl)

  -- the number after them takes its step
  pub last_steps : (args : Bor (List Argument)) (t t' : Term) (took : Option Reduction) → ReducesOne sight (operands.Number t) took (operands.Number t') → ReducesFirst sight (all.Last args t) took (all.Last args t')
  last_steps args t t' None h =
      let same : t' ≡ t = cc in
      (ready_after sight.number args.now (source.NumberOperand (term_view t) ∷ []) ∙ rw h.0 refl, ap (all.Last args) same)
  last_steps args t t' (Some reduction.Reduced) h =
      let one = h [] in (
        ready_after sight.number args.now (source.NumberOperand (term_view t) ∷ []) ∙ one.0,
        first_after args.now (source.NumberOperand (term_view t) ∷ []) ∙ ap (outcome_map (λ rest. given args.now ++ rest)) one.1,
      )
  last_steps args t t' (Some (reduction.Trapped trap)) h =
      let one = h [] in
      let same : t' ≡ t = cc (one.2) in (
        ready_after sight.number args.now (source.NumberOperand (term_view t) ∷ []) ∙ one.0,
        first_after args.now (source.NumberOperand (term_view t) ∷ []) ∙ ap (outcome_map (λ rest. given args.now ++ rest)) one.1,
        ap (all.Last args) same,
      )
  last_steps args t t' (Some reduction.Stuck) h =
      let one = h [] in (
        ready_after sight.number args.now (source.NumberOperand (term_view t) ∷ []) ∙ one.0,
        first_after args.now (source.NumberOperand (term_view t) ∷ []) ∙ ap (outcome_map (λ rest. given args.now ++ rest)) one.1,
      )

  -- that of a list is that of its operands
  pub listed_steps : (v w : Vec Operand) (took : Option Reduction) → (w.items ≡ v.items → w ≡ v) → ReducesListed sight v.items took w.items → ReducesFirst sight (all.Listed v) took (all.Listed w)
  listed_steps v w None same h = (h.0, ap all.Listed (same h.1))
  listed_steps v w (Some reduction.Reduced) same h = h
  listed_steps v w (Some (reduction.Trapped trap)) same h = (h.0, h.1, ap all.Listed (same h.2))
  listed_steps v w (Some reduction.Stuck) same h = h

  -- ---- the step of a call

  module _ (i i' : Invocation) (line : i'.line ≡ i.line) (purpose : i'.purpose ≡ i.purpose) (function : i'.function ≡ i.function) where
    abbrev whole : List source.Operand → source.Task
    whole os = source.Invoke i.line (purpose_view i.line i.purpose) i.function os

    abbrev before : List source.Operand
    before = operands_view i.operands

    pub same_call : (os : List source.Operand) → operands_view i'.operands ≡ os → task_view (task.Invoke i') ≡ whole os
    same_call os same = rw (line, purpose, function, same) refl

    goes : is_ready sight.number before ≡ false → effect_of sight (task_view (task.Invoke i)) ≡ goes_on i.line whole (reduce_first sight before)
    goes unready = rw unready refl

    -- a number takes its step
    pub number_reduces : (took : Reduction) → ReducesFirst sight i.operands (Some took) i'.operands → HasEffect sight (task.Invoke i) (reduced i.line took) (task.Invoke i')
    number_reduces reduction.Reduced h = goes h.0 ∙ ap (goes_on i.line whole) h.1 ∙ ap (λ (u : source.Task). Becomes (u ∷ [])) (sym (same_call (operands_view i'.operands) refl))
    number_reduces (reduction.Trapped trap) h = (goes h.0 ∙ ap (goes_on i.line whole) h.1, same_call before (ap operands_view h.2))
    number_reduces reduction.Stuck h = goes h.0 ∙ ap (goes_on i.line whole) h.1

-- ---- with its object refused, or not

module _ (scene : Scene) where
  abbrev classes : Classes
  classes = scene.classes

  abbrev s : Shared
  s = scene.shared

  abbrev variables : Contents
  variables = scene.variables

  module _ (i i' : Invocation) (scene' : Scene) (same : task_view (task.Invoke i') ≡ task_view (task.Invoke i)) (ready : is_ready (sight_in s variables).number (operands_view i.operands) ≡ true)
      (args : List Actual) (looked_up : args ≡ actuals (sight_in s variables) i.function (operands_view i.operands)) where
    pub calls : (t : Thread) → Sees scene t → effect_of (sight_of s t) (task_view (task.Invoke i)) ≡ Calls i.line (purpose_view i.line i.purpose) i.function args
    calls t sees =
        ap (λ (sight : Sight). effect_of sight (task_view (task.Invoke i))) (sees_so scene t sees)
        ∙ rw (ready, looked_up) refl

    finds : FindsArguments scene i.line i.purpose i.function args (task_view (task.Invoke i'))
    finds = record { operands = operands_view i.operands; is = same; found = looked_up }

    -- the call's own step is the step of the task
    pub call_does : (refused : Bool) (took : Outcome) → MakesCall refused scene i.line i.purpose i.function args took scene' → Does refused scene (task.Invoke i) took scene' (task.Invoke i')
    call_does false took makes = λ t rest sees has.
        ap (after_effect scene.unit classes scene.in_use scene.thread s t rest) (calls t sees)
        ∙ makes t rest (task.Invoke i') sees (has ∙ ap (λ (u : source.Task). let o : Option (List source.Task) = Some (u ∷ rest) in o) (sym same)) finds
    call_does true took makes = λ t rest sees has.
        ap (after_refused_effect scene.unit classes scene.in_use scene.thread s t rest) (calls t sees)
        ∙ makes t rest (task.Invoke i') sees (has ∙ ap (λ (u : source.Task). let o : Option (List source.Task) = Some (u ∷ rest) in o) (sym same)) finds

  -- an invocation that is made is the step of the task that its numbers were worked out of
  pub invocation_does : (i i' : Invocation) (scene' : Scene) → i'.line ≡ i.line → i'.purpose ≡ i.purpose → i'.function ≡ i.function → i'.operands ≡ i.operands → is_ready (sight_in s variables).number (operands_view i.operands) ≡ true
      → (refused : Bool) (took : Outcome) → MakesInvocation refused scene i' took scene' → Does refused scene (task.Invoke i) took scene' (task.Invoke i')
  invocation_does i i' scene' line purpose function operands ready refused took makes =
      let before = operands_view i.operands in
      let same = same_call (sight_in s variables) i i' line purpose function before (ap operands_view operands) in
      call_does i i' scene' same ready (actuals (sight_in s variables) i.function before) refl refused took (rw (line, purpose, function, operands) at makes)
