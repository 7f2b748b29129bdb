use Rattle.std.proofs.Common.{◌≡◌, ℕ, false, ◌+◌, ◌<◌, List, Option, Some, None, refl, sym, ap, ◌∙◌, subst, arith}
use Rattle.std.specs.Prelude.{slice_get}
use Rattle.code_meaning.specs.Lowered.{Lowered}
use Rattle.code.specs.Depth.{Listing}
use Rattle.semantics.specs.declared.event.Event.TheVariants as event
use Rattle.semantics.specs.Journal.{Entry, steps_in}
use Rattle.semantics.specs.declared.printed.Printed.{Printed}
use Rattle.semantics.specs.Thread as source
use Rattle.semantics.specs.Thread.{Shared}
use Rattle.semantics.specs.World.{World}
use Rattle.semantics_safety.specs.Owners.{ThreadOwners}
use Rattle.machine_scenes.specs.Buffers.{Acquired}
use Rattle.machine_scenes.specs.declared.activation.Activation.{Activation}
use Rattle.machine_scenes.specs.declared.store.Store.{Store}
use Rattle.machine_steps.specs.Advances.{Stands, StandsWithin, StepsFreely, within}
use Rattle.machine_threads.specs.declared.thread.Thread.{Thread}
use Rattle.machine.proofs.Notes.{steps_more}
use Rattle.machine.specs.Run.{CanGoOnIn, WentOn}
use Rattle.machine.proofs.FreeSteps.{none_taken, one_more, same_call, stands_now}
use Rattle.machine.proofs.plain_steps.take_in_code.Goals as goal

-- it is still in this code
still_within : (p : Lowered) (w : World) (store mid : Store) (threads : List Thread) (index : ℕ) (printed : List Printed) (journal : List Entry) (k : ℕ) (thread : Thread) (code : Listing) (first call : Activation) (pending left : Option ℕ) (owner : ℕ) → CanGoOnIn p w store threads index printed journal k thread code first pending owner → call.function ≡ first.function
    → (others : Acquired) (own : ThreadOwners) (shared : Shared) (s : source.Thread) → Stands p w mid others k own shared s (within call left thread) → StandsWithin p w mid others k own shared s (within call left thread) code call left owner
still_within p w store mid threads index printed journal k thread code first call pending left owner h same others own shared s stands = record {
  in_code = record {
    lowered = h.goes_on.stands.lowered;
    stands = stands;
    in_progress = refl;
    of_function = ap (λ (n : ℕ). slice_get p.codes n) same ∙ h.of_function;
  };
  pending_is = refl;
  owner_is = h.owner_is;
}

pub loop-taken-init : goal.loop-taken-init
loop-taken-init c = record {
  went = λ threads index printed thread h.
      subst (λ (t : Thread). WentOn c.args.turns.context.step.program.now c.args.turns.context.step.world.now c.args.store.now c.args.store.now threads index printed c.args.journal.now.entries c.args.turns.context.step.thread 0 t None c.args.journal.now.entries) (sym (same_call thread c.args.activation.now c.args.pending.now h.in_progress h.pending_is))
      (none_taken c.args.turns.context.step.program.now c.args.turns.context.step.world.now c.args.store.now threads index printed c.args.journal.now.entries c.args.turns.context.step.thread thread h.goes_on);
  within = omega arith;
  goes = c.requires.goes;
  function = refl;
  many = omega arith;
  room = omega arith;
}

pub advance_at_once-requires-clause-few : goal.advance_at_once-requires-clause-few
advance_at_once-requires-clause-few c =
    let a = c.requires.stands in
    let l = c.loop-taken in
    let born = (l.invariant.went a.0 a.1 a.2 a.3 a.4).stands.born in
    let few : steps_in l.journal.entries < 1000000 = omega (arith, l.invariant.many, c.requires.room, c.loop-taken-test.true) in
    omega (arith, born, few)

pub advance_at_once-requires-clause-stands : goal.advance_at_once-requires-clause-stands
advance_at_once-requires-clause-stands c =
    let a = c.requires.stands in
    let p = c.args.turns.context.step.program.now in
    let w = c.args.turns.context.step.world.now in
    let l = c.loop-taken in
    let m = stands_now p w c.args.store.now a.0 a.1 a.2 c.args.journal.now.entries c.args.turns.context.step.thread a.3 a.4.goes_on l.taken l.store (within l.activation l.pending a.3) l.journal.entries (l.invariant.went a.0 a.1 a.2 a.3 a.4) in (
      m.0,
      m.1,
      m.2,
      m.3,
      within l.activation l.pending a.3,
      still_within p w c.args.store.now l.store a.0 a.1 a.2 c.args.journal.now.entries c.args.turns.context.step.thread a.3 c.args.turns.context.code.now c.args.activation.now l.activation c.args.pending.now l.pending c.args.turns.context.owner a.4 l.invariant.function m.0 m.1 m.2 m.3 m.4,
    )

pub loop-taken-preserved : goal.loop-taken-preserved
loop-taken-preserved c =
    let p = c.args.turns.context.step.program.now in
    let w = c.args.turns.context.step.world.now in
    let l = c.loop-taken in
    let few : steps_in l.journal.entries < 1000000 = omega (arith, l.invariant.many, c.requires.room, c.loop-taken-test.true) in
    let longer : steps_in c.push_step.new.self.entries ≡ steps_in l.journal.entries + 1 = ap steps_in c.push_step.ensures.entries ∙ steps_more l.journal.entries c.args.turns.context.step.thread false in
    let later = c.advance_at_once.new.store in
    record {
      went = λ threads index printed thread h.
          let after = within c.advance_at_once.new.activation c.advance_at_once.new.pending thread in
          subst (WentOn p w c.args.store.now later threads index printed c.args.journal.now.entries c.args.turns.context.step.thread (l.taken + 1) after None) (sym c.push_step.ensures.entries)
          (one_more p w c.args.store.now threads index printed c.args.journal.now.entries c.args.turns.context.step.thread thread h.goes_on l.taken l.store (within l.activation l.pending thread) l.journal.entries (l.invariant.went threads index printed thread h)
          later after event.Quiet h.goes_on.lives few
          (subst (StepsFreely p w c.args.turns.context.step.thread l.store later (within l.activation l.pending thread) after) c.in-Did-Quiet.field-0-is
          (λ others own shared s stands. c.in-Did-Quiet.ensures.advances others own shared s (within l.activation l.pending thread) (still_within p w c.args.store.now l.store threads index printed c.args.journal.now.entries c.args.turns.context.step.thread thread c.args.turns.context.code.now c.args.activation.now l.activation c.args.pending.now l.pending c.args.turns.context.owner h l.invariant.function others own shared s stands))) tt);
      within = omega (arith, c.loop-taken-test.true);
      goes = l.invariant.goes;
      function = c.advance_at_once.ensures.function ∙ l.invariant.function;
      many = omega (arith, l.invariant.many, longer);
      room = omega (arith, l.invariant.room, c.push_step.ensures.room);
    }

pub returns-in-Did-Trapped : goal.returns-in-Did-Trapped
returns-in-Did-Trapped c =
    let p = c.args.turns.context.step.program.now in
    let w = c.args.turns.context.step.world.now in
    let l = c.loop-taken in
    let few : steps_in l.journal.entries < 1000000 = omega (arith, l.invariant.many, c.requires.room, c.loop-taken-test.true) in
    let later = c.advance_at_once.new.store in
    record {
      most = omega (arith, c.loop-taken-test.true);
      went = λ threads index printed thread h.
          let after = within c.advance_at_once.new.activation c.advance_at_once.new.pending thread in
          subst (WentOn p w c.args.store.now later threads index printed c.args.journal.now.entries c.args.turns.context.step.thread (l.taken + 1) after (Some (record { thread = c.args.turns.context.step.thread; trap = c.in-Did-Trapped.trap; line = c.in-Did-Trapped.line }))) (sym c.push_step-in-Did-Trapped.ensures.entries)
          (one_more p w c.args.store.now threads index printed c.args.journal.now.entries c.args.turns.context.step.thread thread h.goes_on l.taken l.store (within l.activation l.pending thread) l.journal.entries (l.invariant.went threads index printed thread h)
          later after (event.Trapped c.in-Did-Trapped.trap c.in-Did-Trapped.line) h.goes_on.lives few
          (subst (StepsFreely p w c.args.turns.context.step.thread l.store later (within l.activation l.pending thread) after) c.in-Did-Trapped.field-0-is
          (λ others own shared s stands. c.in-Did-Trapped.ensures.advances others own shared s (within l.activation l.pending thread) (still_within p w c.args.store.now l.store threads index printed c.args.journal.now.entries c.args.turns.context.step.thread thread c.args.turns.context.code.now c.args.activation.now l.activation c.args.pending.now l.pending c.args.turns.context.owner h l.invariant.function others own shared s stands))) tt);
      next = λ other. absurd (other refl);
      noted = (
        (let longer : steps_in c.push_step-in-Did-Trapped.new.self.entries ≡ steps_in l.journal.entries + 1 = ap steps_in c.push_step-in-Did-Trapped.ensures.entries ∙ steps_more l.journal.entries c.args.turns.context.step.thread false in omega (arith, l.invariant.many, longer)),
        omega (arith, l.invariant.room, c.push_step-in-Did-Trapped.ensures.room),
      );
    }

pub returns-in-Other : goal.returns-in-Other
returns-in-Other c =
    let p = c.args.turns.context.step.program.now in
    let w = c.args.turns.context.step.world.now in
    let l = c.loop-taken in
    record {
      most = omega (arith, c.loop-taken-test.true);
      went = λ threads index printed thread h.
          rw l.invariant.goes
          (subst (λ (x : Store). WentOn p w c.args.store.now x threads index printed c.args.journal.now.entries c.args.turns.context.step.thread l.taken (within c.advance_at_once.new.activation c.advance_at_once.new.pending thread) None l.journal.entries) (sym c.in-Other.ensures.kept.0)
          (subst (λ (t : Thread). WentOn p w c.args.store.now l.store threads index printed c.args.journal.now.entries c.args.turns.context.step.thread l.taken t None l.journal.entries)
          (λ i. let t : Thread = within (sym c.in-Other.ensures.kept.2 i) (sym c.in-Other.ensures.kept.1 i) thread in t)
          (l.invariant.went threads index printed thread h)));
      next = λ other. (omega (arith, c.loop-taken-test.true), l.invariant.goes);
      noted = (l.invariant.many, l.invariant.room);
    }

pub returns-in-Calls : goal.returns-in-Calls
returns-in-Calls c =
    let p = c.args.turns.context.step.program.now in
    let w = c.args.turns.context.step.world.now in
    let l = c.loop-taken in
    record {
      most = omega (arith, c.loop-taken-test.true);
      went = λ threads index printed thread h.
          rw l.invariant.goes
          (subst (λ (x : Store). WentOn p w c.args.store.now x threads index printed c.args.journal.now.entries c.args.turns.context.step.thread l.taken (within c.advance_at_once.new.activation c.advance_at_once.new.pending thread) None l.journal.entries) (sym c.in-Calls.ensures.kept.0)
          (subst (λ (t : Thread). WentOn p w c.args.store.now l.store threads index printed c.args.journal.now.entries c.args.turns.context.step.thread l.taken t None l.journal.entries)
          (λ i. let t : Thread = within (sym c.in-Calls.ensures.kept.2 i) (sym c.in-Calls.ensures.kept.1 i) thread in t)
          (l.invariant.went threads index printed thread h)));
      next = λ other. (omega (arith, c.loop-taken-test.true), l.invariant.goes);
      noted = (l.invariant.many, l.invariant.room);
    }

pub returns-in-Returns : goal.returns-in-Returns
returns-in-Returns c =
    let p = c.args.turns.context.step.program.now in
    let w = c.args.turns.context.step.world.now in
    let l = c.loop-taken in
    record {
      most = omega (arith, c.loop-taken-test.true);
      went = λ threads index printed thread h.
          rw l.invariant.goes
          (subst (λ (x : Store). WentOn p w c.args.store.now x threads index printed c.args.journal.now.entries c.args.turns.context.step.thread l.taken (within c.advance_at_once.new.activation c.advance_at_once.new.pending thread) None l.journal.entries) (sym c.in-Returns.ensures.kept.0)
          (subst (λ (t : Thread). WentOn p w c.args.store.now l.store threads index printed c.args.journal.now.entries c.args.turns.context.step.thread l.taken t None l.journal.entries)
          (λ i. let t : Thread = within (sym c.in-Returns.ensures.kept.2 i) (sym c.in-Returns.ensures.kept.1 i) thread in t)
          (l.invariant.went threads index printed thread h)));
      next = λ other. (omega (arith, c.loop-taken-test.true), l.invariant.goes);
      noted = (l.invariant.many, l.invariant.room);
    }

pub returns : goal.returns
returns c =
    let p = c.args.turns.context.step.program.now in
    let w = c.args.turns.context.step.world.now in
    let l = c.loop-taken in
    let all : l.taken ≡ c.args.turns.most = omega (arith, l.invariant.within, c.loop-taken-test.false) in
    record {
      most = omega arith;
      went = λ threads index printed thread h.
          rw l.invariant.goes
          (subst (λ (n : ℕ). WentOn p w c.args.store.now l.store threads index printed c.args.journal.now.entries c.args.turns.context.step.thread n (within l.activation l.pending thread) None l.journal.entries) all (l.invariant.went threads index printed thread h));
      next = λ other. absurd (other refl);
      noted = (l.invariant.many ∙ ap (λ (n : ℕ). steps_in c.args.journal.now.entries + n) all, omega (arith, l.invariant.room, all));
    }
