use Rattle.std.proofs.Common.{rules, ◌≡◌, ◌≤◌, ℕ, List, [], ◌∷◌, ◌++◌, Option, Some, None, refl, sym, ap, ◌∙◌, subst, arith}
use Rattle.std.specs.Prelude.{slice_get}
use Rattle.std.specs.Option.{option_to_list}
use Rattle.std.specs.Global.{Vec}
use Rattle.std.specs.Vec.{with_items}
use Rattle.std.proofs.lemmas.List.{places, same_from_push, with_items_is}
use Rattle.std.proofs.lemmas.Option.{slice_get_within}
use Rattle.code.specs.Call.{Call, call_view}
use Rattle.code.specs.Depth.{Listing}
use Rattle.code.specs.declared.instr.Instr.{Instr}
use Rattle.code.specs.declared.instr.Instr.TheVariants as instr
use Rattle.code_meaning.specs.Lowered.{Lowered, IsLowered}
use Rattle.jni.specs.JniFunction.{prototype}
use Rattle.jni.specs.declared.kinds.ResultKind.{ResultKind}
use Rattle.machine_answers.specs.declared.answer.Given.{Given}
use Rattle.machine_answers.specs.declared.answer.Given.TheVariants as given
use Rattle.machine_scenes.specs.Statics.{StaticReference}
use Rattle.machine_scenes.specs.declared.activation.Activation.{Activation}
use Rattle.machine_scenes.specs.declared.store.Store.{Store}
use Rattle.machine_threads.specs.declared.thread.Thread.{Thread}
use Rattle.machine_steps.specs.Received.{HasRoom, HasStatic, HasTarget, Receives, statics_with}
use Rattle.machine_steps.specs.Resumed.{HasCalled, Resumes}
use Rattle.machine_steps.specs.Returned.{given_back}
use Rattle.machine_steps.proofs.MonitorCalls.{statics_stay}
use Rattle.machine_steps.proofs.Returns.{calls_it, has_room, has_static, has_target}
use Rattle.machine_steps.proofs.CallsThere.{running}
use Rattle.machine_steps.proofs.advance.resume.Goals as goal
use Rattle.machine_steps.proofs.advance.resume.Goals.{After-call-call, After-get_mut-caller}

-- the caller
last : (items left : List Activation) (o : Option Activation) (caller : Activation) → items ≡ left ++ option_to_list o → o ≡ Some caller → items ≡ left ++ caller ∷ []
last items left o caller e is = e ∙ ap (λ (x : Option Activation). left ++ option_to_list x) is

-- the instruction at its place
module _ (p : Lowered) (lowered : IsLowered p) (store : Store) (caller : Activation) (h : HasCalled p store caller) (few : store.heap.cells ≤ 1048576) (code : Listing) (of_function : slice_get p.codes caller.function ≡ Some code) where
  it_called : (call : Call) × (slice_get h.agrees.stands.code.instrs caller.place ≡ Some (instr.Call call)) × HasTarget call.target caller × ((count : ℕ) → HasStatic call.target count) × (call.function ≡ h.agrees.function)
  it_called =
      let it = calls_it p h.world.classes store h.world h.all h.owner caller h.own h.shared h.source lowered h.shares h.agrees few in (
        it.call,
        it.at,
        has_target p h.world.classes store h.world h.all h.owner caller h.own h.shared h.source lowered h.shares h.agrees few,
        has_static p h.world.classes store h.world h.all h.owner caller h.own h.shared h.source lowered h.shares h.agrees few h.resumable,
        it.same_function,
      )

  call_there : slice_get code.instrs caller.place ≡ Some (instr.Call it_called.0)
  call_there = let same : h.agrees.stands.code ≡ code = cc (h.agrees.stands.of_function, of_function) in subst (λ (l : Listing). slice_get l.instrs caller.place ≡ Some (instr.Call it_called.0)) same it_called.1

  same_call : (call : Call) → slice_get code.instrs caller.place ≡ Some (instr.Call call) → it_called.0 ≡ call
  same_call call at = let both : instr.Call it_called.0 ≡ instr.Call call = cc (call_there, at) in cc

  target_of : (call : Call) → slice_get code.instrs caller.place ≡ Some (instr.Call call) → HasTarget call.target caller
  target_of call at = subst (λ (x : Call). HasTarget x.target caller) (same_call call at) it_called.2

  static_of : (call : Call) → slice_get code.instrs caller.place ≡ Some (instr.Call call) → (count : ℕ) → HasStatic call.target count
  static_of call at count = subst (λ (x : Call). HasStatic x.target count) (same_call call at) (it_called.3 count)

  room_of : (call : Call) → slice_get code.instrs caller.place ≡ Some (instr.Call call) → HasRoom (prototype call.function).result caller.locals
  room_of call at =
      subst (λ (x : Call). HasRoom (prototype x.function).result caller.locals) (same_call call at)
      (subst (λ (f : _). HasRoom (prototype f).result caller.locals) (sym it_called.4) (has_room p h.world.classes store h.world h.all h.owner caller h.own h.shared h.source lowered h.shares h.agrees few h.resumable))

-- the caller, and what is known of it
popped : (c : After-get_mut-caller) → c.args.thread.now.callers.items ≡ c.pop.new.self.items ++ c.get_mut-caller.result.now ∷ []
popped c = last c.args.thread.now.callers.items c.pop.new.self.items c.pop.result c.get_mut-caller.result.now c.pop.ensures.items (running c.in-Some.is c.get_mut-caller.ensures.value)

called : (c : After-get_mut-caller) → HasCalled c.args.program.now c.args.store.now c.get_mut-caller.result.now
called c = c.requires.called c.pop.new.self.items c.get_mut-caller.result.now (popped c)

few_cells : (c : After-get_mut-caller) → c.args.store.now.heap.cells ≤ 1048576
few_cells c = omega (arith, c.cells.ensures.cells, c.cells.ensures.limit)

pub code_at-code-requires : goal.code_at-code-requires
code_at-code-requires c =
    let h = (called (goal.at.code_at-code-requires c).After-get_mut-caller).agrees.stands in
    slice_get_within c.args.program.now.codes c.get_mut-caller.result.now.function h.code h.of_function

pub instr_at-requires : goal.instr_at-requires
instr_at-requires c =
    let o = (goal.at.instr_at-requires c).After-get_mut-caller in
    slice_get_within c.code_at-code.result.now.instrs c.get_mut-caller.result.now.place _
    (call_there c.args.program.now c.requires.lowered c.args.store.now c.get_mut-caller.result.now (called o) (few_cells o) c.code_at-code.result.now c.code_at-code.ensures.code)

pub unreachable-requires : goal.unreachable-requires
unreachable-requires c =
    let o = (goal.at.unreachable-requires c).After-get_mut-caller in
    let found = it_called c.args.program.now c.requires.lowered c.args.store.now c.get_mut-caller.result.now (called o) (few_cells o) c.code_at-code.result.now c.code_at-code.ensures.code in
    let there : slice_get c.code_at-code.result.now.instrs c.get_mut-caller.result.now.place ≡ Some (instr.Call found.0) = call_there c.args.program.now c.requires.lowered c.args.store.now c.get_mut-caller.result.now (called o) (few_cells o) c.code_at-code.result.now c.code_at-code.ensures.code in
    c.in_default.not-Call found.0 (let both : Some c.instr_at.result.now ≡ Some (instr.Call found.0) = sym c.instr_at.ensures.instr ∙ there in cc)

-- the call that it made
it_made : (c : After-call-call) → slice_get c.code_at-code.result.now.instrs c.get_mut-caller.result.now.place ≡ Some (instr.Call (call_view c.call-call.result.now))
it_made c = c.instr_at.ensures.instr ∙ ap (λ (i : Instr). Some i) (c.in-Call.is ∙ ap (λ (x : Call). instr.Call x) (sym c.call-call.ensures.view))

-- the same of it as of the caller alone
popped_it : (c : After-call-call) → c.args.thread.now.callers.items ≡ c.pop.new.self.items ++ c.get_mut-caller.result.now ∷ []
popped_it c = last c.args.thread.now.callers.items c.pop.new.self.items c.pop.result c.get_mut-caller.result.now c.pop.ensures.items (running c.in-Some.is c.get_mut-caller.ensures.value)

called_it : (c : After-call-call) → HasCalled c.args.program.now c.args.store.now c.get_mut-caller.result.now
called_it c = c.requires.called c.pop.new.self.items c.get_mut-caller.result.now (popped_it c)

few_there : (c : After-call-call) → c.args.store.now.heap.cells ≤ 1048576
few_there c = omega (arith, c.cells.ensures.cells, c.cells.ensures.limit)

target_there : (c : After-call-call) → HasTarget c.call-call.result.now.target c.get_mut-caller.result.now
target_there c = target_of c.args.program.now c.requires.lowered c.args.store.now c.get_mut-caller.result.now (called_it c) (few_there c) c.code_at-code.result.now c.code_at-code.ensures.code (call_view c.call-call.result.now) (it_made c)

pub receive_word-requires-clause-target : goal.receive_word-requires-clause-target
receive_word-requires-clause-target c = target_there (goal.at.receive_word-requires-clause-target c).After-call-call

pub receive-requires-clause-target : goal.receive-requires-clause-target
receive-requires-clause-target c = target_there (goal.at.receive-requires-clause-target c).After-call-call

pub receive-requires-clause-static_target : goal.receive-requires-clause-static_target
receive-requires-clause-static_target c =
    let o = (goal.at.receive-requires-clause-static_target c).After-call-call in
    static_of c.args.program.now c.requires.lowered c.args.store.now c.get_mut-caller.result.now (called_it o) (few_there o) c.code_at-code.result.now c.code_at-code.ensures.code (call_view c.call-call.result.now) (it_made o) _

pub receive-requires-clause-room : goal.receive-requires-clause-room
receive-requires-clause-room c =
    let o = (goal.at.receive-requires-clause-room c).After-call-call in
    subst (λ (kind : ResultKind). HasRoom kind c.get_mut-caller.result.now.locals) (sym c.call-call.ensures.prepared.result)
    (room_of c.args.program.now c.requires.lowered c.args.store.now c.get_mut-caller.result.now (called_it o) (few_there o) c.code_at-code.result.now c.code_at-code.ensures.code (call_view c.call-call.result.now) (it_made o))

-- it goes on, with this where it belongs
goes_on : (c : After-call-call) (g : Given) (call : Activation) (spare : Option Activation) (statics : Vec StaticReference) (below : List Activation) (caller : Activation)
    → c.args.thread.now.callers.items ≡ below ++ caller ∷ []
    → g ≡ given_back c.args.thread.now.pending c.call-call.result.now.result c.args.value
    → Receives c.call-call.result.now.target c.call-call.result.now.result None g c.get_mut-caller.result.now call
    → statics.items ≡ statics_with c.call-call.result.now.target g c.args.store.now.statics.items
    → Resumes c.args.program.now c.args.value caller below c.args.store.now (record c.args.store.now { statics = statics }) c.args.thread.now (record c.args.thread.now { call = Some call; callers = c.pop.new.self; spare = spare })
goes_on c g call spare statics below caller is of receives put =
    let same = same_from_push c.pop.new.self.items below c.get_mut-caller.result.now caller (sym (popped_it c) ∙ is) in
    let p = c.args.program.now in
    let old = c.args.store.now in
    let t = c.args.thread.now in
    let v = c.args.value in
    let function = c.call-call.result.now in
    let store : Store = record old { statics = statics } in
    let after : Thread = record t { call = Some call; callers = c.pop.new.self; spare = spare } in
    subst (λ (x : Activation). Resumes p v x below old store t after) same.1
    (subst (λ (l : List Activation). Resumes p v c.get_mut-caller.result.now l old store t after) same.0 (record {
      call = call;
      callers = c.pop.new.self;
      spare = spare;
      left = refl;
      resumed = refl;
      code = c.code_at-code.result.now;
      of_function = c.code_at-code.ensures.code;
      function = call_view function;
      at = it_made c;
      receives =
          subst (λ (kind : ResultKind). Receives function.target kind None (given_back t.pending kind v) c.get_mut-caller.result.now call) c.call-call.ensures.prepared.result
          (subst (λ (x : Given). Receives function.target function.result None x c.get_mut-caller.result.now call) of receives);
      statics = statics;
      store_is = refl;
      put =
          subst (λ (kind : ResultKind). statics.items ≡ statics_with function.target (given_back t.pending kind v) old.statics.items) c.call-call.ensures.prepared.result
          (subst (λ (x : Given). statics.items ≡ statics_with function.target x old.statics.items) of put);
      few = few_there c;
      stacked = c.frames.ensures.stacked;
    }))

pub returns-in-None-GivesInt-Number : goal.returns-in-None-GivesInt-Number
returns-in-None-GivesInt-Number c below caller is =
    let o = (goal.at.returns-in-None-GivesInt-Number c).After-call-call in
    goes_on o (given.Number c.in-None-GivesInt-Number.word) c.receive_word.new.activation c.swap.new.y c.args.store.now.statics below caller is
    (λ j. given_back (sym c.in-None-GivesInt-Number.is-0 j) (sym c.in-None-GivesInt-Number.is-1 j) (sym c.in-None-GivesInt-Number.is-2 j))
    (c.receive_word.ensures c.call-call.result.now.result None)
    (statics_stay c.call-call.result.now.target c.in-None-GivesInt-Number.word c.args.store.now.statics.items)

pub returns-in_default-2 : goal.returns-in_default-2
returns-in_default-2 c below caller is =
    let o = (goal.at.returns-in_default-2 c).After-call-call in
    let old = c.args.store.now in
    let goal_of = c.call-call.result.now.target in
    goes_on o c.given_back-given.result c.receive.new.activation c.swap.new.y (with_items old.statics c.receive.new.statics) below caller is
    c.given_back-given.ensures c.receive.ensures.activation
    (with_items_is old.statics c.receive.new.statics (search (rules, places)) ∙ c.receive.ensures.statics ∙ ap (λ (l : List StaticReference). statics_with goal_of c.given_back-given.result l) c.deref_mut.ensures.value)
