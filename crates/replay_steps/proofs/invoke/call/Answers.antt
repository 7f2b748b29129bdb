use Rattle.std.proofs.Common.{Result, Ok, Err, IfOk, map, sym, ap, subst}
use Rattle.jni.specs.Table.{Facts}
use Rattle.syntax.specs.Views.{unit_tree}
use Rattle.semantics.specs.Views.{name_of}
use Rattle.replay_arguments.specs.Actuals.{actual_view}
use Rattle.replay_arguments.specs.Shares.{shared_view}
use Rattle.replay_calls.specs.Answers.{CarriesOut, answer_view}
use Rattle.replay_calls.specs.declared.carry_out.Done.{Done}
use Rattle.replay_terms.specs.Views.{in_use_view}
use Rattle.replay_steps.specs.Calls.{MakesCall}
use Rattle.replay_steps.specs.Steps.{Scene, scene_of}
use Rattle.replay_steps.proofs.CallLemmas.{call_gives, call_halts, call_lends, call_waits, has_answer}
use Rattle.replay_steps.proofs.invoke.call.Goals as goal

-- what holds of an answer, by two things that do
both_ok : {A E : Type 0} {P Q R : A → Type 0} → (r : Result A E) → ((a : A) → P a → Q a → R a) → IfOk r P → IfOk r Q → IfOk r R
both_ok (Ok a) f h k = f a h k
both_ok (Err e) f h k = tt

pub returns-then-turn-clause-step : goal.returns-then-turn-clause-step
returns-then-turn-clause-step c =
    let i = c.args.i.now in
    let turn = c.args.turn in
    let s = shared_view c.args.shared.now in
    let locals = c.args.locals.now in
    let args = map actual_view c.args.actuals.now in
    let before : Scene = scene_of turn s locals c.args.pending.now in
    let after : Scene = scene_of turn s locals c.refuse_object.new.pending in
    let has = has_answer before i args (answer_view turn.classes.now c.answer_or_trap-answer.result) c.wanted_element.result c.wanted_element.ensures c.answer_or_trap-answer.ensures.answer c.answer_or_trap-answer.ensures.fits in
    subst (λ b. MakesCall b before i.line i.purpose i.function args c.refuse_object.result after) (sym c.if-turn.true) (c.refuse_object.ensures.step s locals args has)

pub returns-in_ok-put_local-in-Gives-clause-step : goal.returns-in_ok-put_local-in-Gives-clause-step
returns-in_ok-put_local-in-Gives-clause-step c =
    let i = c.args.i.now in
    let turn = c.args.turn in
    let s = shared_view c.args.shared.now in
    let locals = c.args.locals.now in
    let args = map actual_view c.args.actuals.now in
    let a = answer_view turn.classes.now c.answer_or_trap-answer.result in
    let before : Scene = scene_of turn s locals c.args.pending.now in
    let has = has_answer before i args a c.wanted_element.result c.wanted_element.ensures c.answer_or_trap-answer.ensures.answer c.answer_or_trap-answer.ensures.fits in
    let new = c.carry_out.new in
    let left = subst (λ (d : Done). CarriesOut turn i.function c.args.actuals.now c.answer_or_trap-answer.result c.args.shared.now locals c.args.pending.now d new.shared new.locals new.pending) c.in-Gives.is c.in_ok-done.ensures in
    call_gives (unit_tree turn.unit.now) turn.classes.now (in_use_view turn.in_use) turn.thread s locals.variables locals.frames (name_of c.args.pending.now) i.line i args a turn.refused c.in-Gives.given c.prototype-asked.result.now.result
    (shared_view new.shared) new.locals.variables new.locals.frames c.put_local.new.frames (name_of new.pending) c.outcome_for.result
    has c.if-turn.false left (ap (λ (x : Facts). x.prototype.result) c.prototype-asked.ensures) c.in_ok-put_local-in-Gives.ensures c.outcome_for.ensures.step

pub returns-in-Lends-clause-step : goal.returns-in-Lends-clause-step
returns-in-Lends-clause-step c =
    let i = c.args.i.now in
    let turn = c.args.turn in
    let s = shared_view c.args.shared.now in
    let locals = c.args.locals.now in
    let args = map actual_view c.args.actuals.now in
    let a = answer_view turn.classes.now c.answer_or_trap-answer.result in
    let before : Scene = scene_of turn s locals c.args.pending.now in
    let has = has_answer before i args a c.wanted_element.result c.wanted_element.ensures c.answer_or_trap-answer.ensures.answer c.answer_or_trap-answer.ensures.fits in
    let new = c.carry_out.new in
    let left = subst (λ (d : Done). CarriesOut turn i.function c.args.actuals.now c.answer_or_trap-answer.result c.args.shared.now locals c.args.pending.now d new.shared new.locals new.pending) c.in-Lends.is c.in_ok-done.ensures in
    let b = c.in-Lends.buffer in
    both_ok c.lend.result (λ o varied is_for.
    call_lends (unit_tree turn.unit.now) turn.classes.now (in_use_view turn.in_use) turn.thread s locals.variables locals.frames (name_of c.args.pending.now) i.line i args a turn.refused b
    (shared_view new.shared) new.locals.variables c.lend.new.locals.variables new.locals.frames c.lend.new.locals.frames (name_of new.pending) o
    has c.if-turn.false left (varied (shared_view new.shared).heap) c.lend.ensures.frames is_for)
    c.lend.ensures.variables c.lend.ensures.outcome

pub returns-in-Calls-clause-step : goal.returns-in-Calls-clause-step
returns-in-Calls-clause-step c =
    let i = c.args.i.now in
    let turn = c.args.turn in
    let s = shared_view c.args.shared.now in
    let locals = c.args.locals.now in
    let args = map actual_view c.args.actuals.now in
    let a = answer_view turn.classes.now c.answer_or_trap-answer.result in
    let before : Scene = scene_of turn s locals c.args.pending.now in
    let has = has_answer before i args a c.wanted_element.result c.wanted_element.ensures c.answer_or_trap-answer.ensures.answer c.answer_or_trap-answer.ensures.fits in
    let new = c.carry_out.new in
    let left = subst (λ (d : Done). CarriesOut turn i.function c.args.actuals.now c.answer_or_trap-answer.result c.args.shared.now locals c.args.pending.now d new.shared new.locals new.pending) c.in-Calls.is c.in_ok-done.ensures in
    call_waits (unit_tree turn.unit.now) turn.classes.now (in_use_view turn.in_use) turn.thread s locals.variables locals.frames (name_of c.args.pending.now) i.line i args a turn.refused c.in-Calls.function
    (shared_view new.shared) new.locals.variables new.locals.frames (name_of new.pending) has c.if-turn.false left

pub returns-in-Halts-clause-step : goal.returns-in-Halts-clause-step
returns-in-Halts-clause-step c =
    let i = c.args.i.now in
    let turn = c.args.turn in
    let s = shared_view c.args.shared.now in
    let locals = c.args.locals.now in
    let args = map actual_view c.args.actuals.now in
    let a = answer_view turn.classes.now c.answer_or_trap-answer.result in
    let before : Scene = scene_of turn s locals c.args.pending.now in
    let has = has_answer before i args a c.wanted_element.result c.wanted_element.ensures c.answer_or_trap-answer.ensures.answer c.answer_or_trap-answer.ensures.fits in
    let new = c.carry_out.new in
    let left = subst (λ (d : Done). CarriesOut turn i.function c.args.actuals.now c.answer_or_trap-answer.result c.args.shared.now locals c.args.pending.now d new.shared new.locals new.pending) c.in-Halts.is c.in_ok-done.ensures in
    call_halts (unit_tree turn.unit.now) turn.classes.now (in_use_view turn.in_use) turn.thread s locals.variables locals.frames (name_of c.args.pending.now) i.line i args a turn.refused c.in-Halts.trap
    (shared_view new.shared) new.locals.variables new.locals.frames (name_of new.pending) has c.if-turn.false left

pub answer_or_trap-answer-requires-clause-grown : goal.answer_or_trap-answer-requires-clause-grown
answer_or_trap-answer-requires-clause-grown c = c.requires.grown

pub refuse_object-requires : goal.refuse_object-requires
refuse_object-requires c = c.requires.branches

pub returns-then-turn-clause-range : goal.returns-then-turn-clause-range
returns-then-turn-clause-range c = c.refuse_object.ensures.range
