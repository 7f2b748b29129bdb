use Rattle.std.proofs.Common.{ℕ, ◌+◌, List, Option, Some, length, map, refl, sym, ap, ◌∙◌, subst}
use Rattle.std.specs.Prelude.{slice_get}
use Rattle.syntax.specs.Views.{unit_tree}
use Rattle.std.proofs.lemmas.Option.{slice_get_read}
use Rattle.base.proofs.Lists.{all_at}
use Rattle.semantics.specs.World.{Invocation, loaded_objects}
use Rattle.machine_threads.proofs.LoadLemmas.{AgreeSoFar, all_agree, loads_at, none_refused, one_more, refused_at, some_call}
use Rattle.world_values.specs.CallArguments.{are_arguments}
use Rattle.machine_threads.specs.declared.thread.PendingCall.{PendingCall}
use Rattle.machine_threads.specs.Loading.{IsCallOf}
use Rattle.machine_threads.proofs.WaitingThreads.{before_agrees}
use Rattle.machine_threads.proofs.load.load_thread.Goals as goal

pub load_call-requires-clause-given : goal.load_call-requires-clause-given
load_call-requires-clause-given c =
    all_at (are_arguments (length (loaded_objects c.args.world.now))) c.args.calls.now c.loop-call.call-index _ c.requires.given
    (slice_get_read c.args.calls.now (length c.args.calls.now) c.loop-call.call-index c.call-item.result refl c.loop-call-test.true c.call-item.is)

pub returns-clause-agrees : goal.returns-clause-agrees
returns-clause-agrees c space copies k shared =
    let w = c.args.world.now in
    before_agrees c.args.program.now w.classes space copies (length (loaded_objects w)) k shared _ c.args.calls.now
    (all_agree c.args.program.now w.classes (length (loaded_objects w)) c.args.calls.now c.loop-call.call-index c.loop-call.nexts.items c.loop-call-test.false c.loop-call.invariant.agree)
    (some_call c.args.calls.now c.requires.some) refl refl c.new.ensures.items refl refl

pub loop-call-preserved : goal.loop-call-preserved
loop-call-preserved c =
    let p = c.args.program.now in
    let classes = c.args.world.now.classes in
    let made = length (loaded_objects c.args.world.now) in
    let calls = c.args.calls.now in
    let k = c.loop-call.call-index in
    let at = slice_get_read calls (length calls) k c.call-item.result refl c.loop-call-test.true c.call-item.is in
    let call = subst (λ (o : Option PendingCall). IsCallOf p classes made c.call-item.result o) c.in-Some.is c.in_ok-next.ensures in
    record {
      agree = subst (λ (nexts : List PendingCall). AgreeSoFar p classes made calls (k + 1) nexts) (sym {A = List PendingCall} c.in_ok-push_back-in-Some.ensures.items)
          (one_more p classes made calls k c.call-item.result c.in-Some.next c.loop-call.nexts.items at call.0 c.loop-call.invariant.agree);
      all = c.loop-call.invariant.all ∙ loads_at (unit_tree p.unit) classes calls k c.call-item.result at call.1;
    }

pub returns-in-None-clause-refused : goal.returns-in-None-clause-refused
returns-in-None-clause-refused c =
    let p = c.args.program.now in
    let classes = c.args.world.now.classes in
    let calls = c.args.calls.now in
    let k = c.loop-call.call-index in
    let at = slice_get_read calls (length calls) k c.call-item.result refl c.loop-call-test.true c.call-item.is in
    let refused = subst (λ (o : Option PendingCall). IsCallOf p classes (length (loaded_objects c.args.world.now)) c.call-item.result o) c.in-None.is c.in_ok-next.ensures in
    ap (λ (l : List Invocation). slice_get (map (λ (x : Invocation). x.line) l) 0) (c.loop-call.invariant.all ∙ refused_at (unit_tree p.unit) classes calls k c.call-item.result at refused)
    ∙ ap (λ (line : ℕ). Some line) (sym c.line_of_call-line.ensures)

pub returns-clause-all : goal.returns-clause-all
returns-clause-all c = c.loop-call.invariant.all ∙ none_refused (unit_tree c.args.program.now.unit) c.args.world.now.classes c.args.calls.now c.loop-call.call-index c.loop-call-test.false
