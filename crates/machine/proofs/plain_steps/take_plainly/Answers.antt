use Rattle.std.proofs.Common.{◌≡◌, ℕ, ◌+◌, ◌-◌, ◌<◌, ◌≤◌, true, false, List, None, refl, sym, ap, ◌∙◌, subst, arith}
use Rattle.std.specs.Prelude.{slice_set}
use Rattle.semantics.specs.Journal.{steps_in}
use Rattle.semantics.specs.declared.event.Event.TheVariants as event
use Rattle.semantics.specs.declared.printed.Printed.{Printed}
use Rattle.machine_threads.specs.declared.thread.Thread.{Thread}
use Rattle.machine.proofs.FreeSteps.{both_went, goes_on_now, none_taken, one_more, stands_now}
use Rattle.machine.proofs.Notes.{steps_more}
use Rattle.machine.specs.Run.{CanGoOn, WentOn}
use Rattle.machine.specs.declared.plain_steps.Next.TheVariants as next
use Rattle.machine.proofs.plain_steps.take_plainly.Goals as goal
use Rattle.machine.proofs.plain_steps.take_plainly.Goals.{After-take_in_call-ran}

pub loop-taken-init : goal.loop-taken-init
loop-taken-init c = record {
  went = λ threads index printed h. none_taken c.args.turns.step.program.now c.args.turns.step.world.now c.args.store.now threads index printed c.args.journal.now.entries c.args.turns.step.thread c.args.thread.now h;
  within = omega arith;
  goes = c.requires.goes;
  ending = refl;
  many = omega arith;
  room = omega arith;
}

pub take_in_call-ran-requires-clause-stands : goal.take_in_call-ran-requires-clause-stands
take_in_call-ran-requires-clause-stands c =
    let a = c.requires.stands in
    let p = c.args.turns.step.program.now in
    let l = c.loop-taken in
    let now = goes_on_now p c.args.turns.step.world.now c.args.store.now a.0 a.1 a.2 c.args.journal.now.entries c.args.turns.step.thread c.args.thread.now a.3 l.taken l.store l.thread l.journal.entries (l.invariant.went a.0 a.1 a.2 a.3) (l.invariant.ending ∙ a.3.lives) in
    (slice_set a.0 a.1 l.thread, a.1, a.2, now)

pub take_in_call-ran-requires-clause-room : goal.take_in_call-ran-requires-clause-room
take_in_call-ran-requires-clause-room c =
    let room = c.requires.room (omega (arith, c.loop-taken-test.true)) in
    omega (arith, room, c.loop-taken.invariant.many, c.loop-taken-test.true)

pub take_in_call-ran-requires-clause-memory : goal.take_in_call-ran-requires-clause-memory
take_in_call-ran-requires-clause-memory c = omega (arith, c.requires.memory, c.loop-taken.invariant.room, c.loop-taken-test.true)

-- what was done with the steps within a call
module _ (c : After-take_in_call-ran) where
  ended : c.take_in_call-ran.new.thread.ending ≡ c.args.thread.now.ending
  ended = c.take_in_call-ran.ensures.ending ∙ c.loop-taken.invariant.ending

  done : (threads : List Thread) (index : ℕ) (printed : List Printed) → CanGoOn c.args.turns.step.program.now c.args.turns.step.world.now c.args.store.now threads index printed c.args.journal.now.entries c.args.turns.step.thread c.args.thread.now
      → WentOn c.args.turns.step.program.now c.args.turns.step.world.now c.args.store.now c.take_in_call-ran.new.store threads index printed c.args.journal.now.entries c.args.turns.step.thread (c.loop-taken.taken + c.take_in_call-ran.result.count) c.take_in_call-ran.new.thread c.take_in_call-ran.new.stop c.take_in_call-ran.new.journal.entries
  done threads index printed h =
      let l = c.loop-taken in
      let so_far = l.invariant.went threads index printed h in
      let now = goes_on_now c.args.turns.step.program.now c.args.turns.step.world.now c.args.store.now threads index printed c.args.journal.now.entries c.args.turns.step.thread c.args.thread.now h l.taken l.store l.thread l.journal.entries so_far (l.invariant.ending ∙ h.lives) in
      both_went c.args.turns.step.program.now c.args.turns.step.world.now c.args.store.now threads index printed c.args.journal.now.entries c.args.turns.step.thread c.args.thread.now h l.taken l.store l.thread l.journal.entries so_far
      c.take_in_call-ran.new.store c.take_in_call-ran.result.count c.take_in_call-ran.new.thread c.take_in_call-ran.new.stop c.take_in_call-ran.new.journal.entries (c.take_in_call-ran.ensures.went (slice_set threads index l.thread) index printed now)

  many : steps_in c.take_in_call-ran.new.journal.entries ≡ steps_in c.args.journal.now.entries + (c.loop-taken.taken + c.take_in_call-ran.result.count)
  many = omega (arith, c.take_in_call-ran.ensures.noted.0, c.loop-taken.invariant.many)

  room : c.take_in_call-ran.new.journal.room + (c.loop-taken.taken + c.take_in_call-ran.result.count) ≡ c.args.journal.now.room
  room = omega (arith, c.take_in_call-ran.ensures.noted.1, c.loop-taken.invariant.room)

  few : steps_in c.args.journal.now.entries + c.args.turns.most ≤ 1000000
  few = c.requires.room (omega (arith, c.loop-taken-test.true))

pub returns-in-Stop : goal.returns-in-Stop
returns-in-Stop c =
    let o = (goal.at.returns-in-Stop c).After-take_in_call-ran in record {
      most = omega (arith, c.take_in_call-ran.ensures.most, c.loop-taken-test.true);
      went = done o;
      ready = λ is. absurd (let clash : false ≡ true = is in cc);
    }

pub returns-in-Other : goal.returns-in-Other
returns-in-Other c =
    let o = (goal.at.returns-in-Other c).After-take_in_call-ran in
    let goes = c.take_in_call-ran.ensures.next (λ stop. let clash : next.Other ≡ next.Stop = sym c.in-Other.is ∙ stop in cc) in record {
      most = omega (arith, c.take_in_call-ran.ensures.most, c.loop-taken-test.true);
      went = done o;
      ready = λ is. (omega (arith, goes.0, c.loop-taken-test.true), goes.1, ended o, omega (arith, many o, few o, goes.0, c.loop-taken-test.true));
    }

-- where a step that changes the call in progress comes then
module _ (c : After-take_in_call-ran) (other : c.take_in_call-ran.result.next ≡ next.Stop → ⊥) where
  goes : (c.take_in_call-ran.result.count < c.args.turns.most - c.loop-taken.taken) × (c.take_in_call-ran.new.stop ≡ None)
  goes = c.take_in_call-ran.ensures.next other

  went_on : (threads : List Thread) (index : ℕ) (printed : List Printed) → CanGoOn c.args.turns.step.program.now c.args.turns.step.world.now c.args.store.now threads index printed c.args.journal.now.entries c.args.turns.step.thread c.args.thread.now
      → WentOn c.args.turns.step.program.now c.args.turns.step.world.now c.args.store.now c.take_in_call-ran.new.store threads index printed c.args.journal.now.entries c.args.turns.step.thread (c.loop-taken.taken + c.take_in_call-ran.result.count) c.take_in_call-ran.new.thread None c.take_in_call-ran.new.journal.entries
  went_on threads index printed h = rw (sym goes.1) (done c threads index printed h)

pub returns-then-turns : goal.returns-then-turns
returns-then-turns c =
    let o = (goal.at.returns-then-turns c).After-take_in_call-ran in
    let go = goes o c.in_default.not-Stop in record {
      most = omega (arith, c.take_in_call-ran.ensures.most, c.loop-taken-test.true);
      went = done o;
      ready = λ is. (omega (arith, go.0, c.loop-taken-test.true), go.1, ended o, omega (arith, many o, few o, go.0, c.loop-taken-test.true));
    }

pub change_call-requires-clause-lowered : goal.change_call-requires-clause-lowered
change_call-requires-clause-lowered c = c.requires.stands.3.stands.lowered

pub change_call-requires-clause-stands : goal.change_call-requires-clause-stands
change_call-requires-clause-stands c =
    let o = (goal.at.change_call-requires-clause-stands c).After-take_in_call-ran in
    let a = c.requires.stands in
    stands_now c.args.turns.step.program.now c.args.turns.step.world.now c.args.store.now a.0 a.1 a.2 c.args.journal.now.entries c.args.turns.step.thread c.args.thread.now a.3 (c.loop-taken.taken + c.take_in_call-ran.result.count) c.take_in_call-ran.new.store c.take_in_call-ran.new.thread c.take_in_call-ran.new.journal.entries
    (went_on o c.in_default.not-Stop a.0 a.1 a.2 a.3)

pub returns-then-not-change_call : goal.returns-then-not-change_call
returns-then-not-change_call c =
    let o = (goal.at.returns-then-not-change_call c).After-take_in_call-ran in
    let go = goes o c.in_default.not-Stop in
    let store = c.change_call.ensures.store c.if-not-change_call.true in
    let thread = c.change_call.ensures.kept c.if-not-change_call.true in record {
      most = omega (arith, c.take_in_call-ran.ensures.most, c.loop-taken-test.true);
      went = λ threads index printed h. rw (store, thread) (done o threads index printed h);
      ready = λ is. (omega (arith, go.0, c.loop-taken-test.true), go.1, c.change_call.ensures.ending ∙ ended o, omega (arith, many o, few o, go.0, c.loop-taken-test.true));
    }

pub loop-taken-preserved : goal.loop-taken-preserved
loop-taken-preserved c =
    let o = (goal.at.loop-taken-preserved c).After-take_in_call-ran in
    let p = c.args.turns.step.program.now in
    let w = c.args.turns.step.world.now in
    let go = goes o c.in_default.not-Stop in
    let n = c.loop-taken.taken + c.take_in_call-ran.result.count in
    let mid = c.take_in_call-ran.new in
    let longer : steps_in c.push_step.new.self.entries ≡ steps_in mid.journal.entries + 1 = ap steps_in c.push_step.ensures.entries ∙ steps_more mid.journal.entries c.args.turns.step.thread false in
    let less : steps_in mid.journal.entries < 1000000 = omega (arith, many o, few o, go.0, c.loop-taken-test.true) in record {
      went = λ threads index printed h.
          subst (WentOn p w c.args.store.now c.change_call.new.store threads index printed c.args.journal.now.entries c.args.turns.step.thread (n + 1) c.change_call.new.thread None) (sym c.push_step.ensures.entries)
          (one_more p w c.args.store.now threads index printed c.args.journal.now.entries c.args.turns.step.thread c.args.thread.now h n mid.store mid.thread mid.journal.entries (went_on o c.in_default.not-Stop threads index printed h)
          c.change_call.new.store c.change_call.new.thread event.Quiet (ended o ∙ h.lives) less (c.change_call.ensures.steps c.if-not-change_call.false) tt);
      within = omega (arith, go.0, c.loop-taken-test.true);
      goes = go.1;
      ending = c.change_call.ensures.ending ∙ ended o;
      many = omega (arith, longer, many o);
      room = omega (arith, room o, c.push_step.ensures.room);
    }

pub returns : goal.returns
returns c = record {
  most = omega (arith, c.loop-taken.invariant.within);
  went = λ threads index printed h. rw c.loop-taken.invariant.goes (c.loop-taken.invariant.went threads index printed h);
  ready = λ is. absurd (let clash : false ≡ true = is in cc);
}
