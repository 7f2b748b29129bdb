use Rattle.std.proofs.Common.{◌≡◌, ◌++◌, ◌∷◌, [], List, Option, Some, refl, sym, ap, ◌∙◌, subst}
use Rattle.std.specs.Prelude.{IsSome, drop, reverse}
use Rattle.machine_answers.specs.Asked.{references_of}
use Rattle.machine_answers.specs.Passed.{passed_in}
use Rattle.machine_scenes.specs.declared.activation.Activation.{Activation}
use Rattle.machine_threads.specs.declared.thread.Entering.{Entering}
use Rattle.machine_threads.specs.declared.thread.Thread.{Thread}
use Rattle.machine_steps.proofs.push.push_method.Goals as goal

pub unreachable-requires : goal.unreachable-requires
unreachable-requires c = absurd (let clash = subst (λ (o : Option Activation). IsSome o) (sym c.take.ensures.value ∙ c.in-None.is) c.requires.active in cc)

pub returns-clause-pushes : goal.returns-clause-pushes
returns-clause-pushes c activation is =
    let store = c.args.store.now in
    let t = c.args.thread.now in
    let caller = c.in-Some.caller in
    let same : caller ≡ activation = let both : Some caller ≡ Some activation = sym c.in-Some.is ∙ c.take.ensures.value ∙ is in cc in
    let lent : c.get.result.now ≡ activation = c.get.ensures ∙ same in
    let entering : Entering = record { function = c.args.method.function; class = c.args.method.declarer; arguments = c.pass-arguments.result } in
    record {
      entering = entering;
      callers = c.push_reserved.new.self;
      spare = c.replace-spare.new.dest;
      last =
          c.push_reserved.ensures.items
          ∙ ap (λ (l : List Activation). l ++ caller ∷ []) c.have_memory.ensures.items
          ∙ ap (λ (x : Activation). t.callers.items ++ x ∷ []) same;
      pushed = ap (λ (o : Option Activation). let u : Thread = record t { entering = Some entering; call = o; callers = c.push_reserved.new.self; spare_arguments = c.replace-spare.new.dest } in u) c.take.ensures.after;
      function = refl;
      class = refl;
      arguments = c.pass-arguments.ensures ∙ (λ j. passed_in (references_of store (lent j)) (drop 2 (c.deref-operands.ensures.value j)) (reverse (lent j).stack));
    }
