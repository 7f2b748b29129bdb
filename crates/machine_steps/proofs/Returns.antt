-- A return into a caller is that of the source's thread.
use Rattle.std.proofs.Common.{◌≡◌, ℕ, ◌+◌, ◌<◌, ◌≤◌, Bool, false, List, [], ◌∷◌, ◌++◌, length, length-append, reverse, Option, Some, None, refl, sym, ap, ◌∙◌, subst, arith}
use Rattle.std.specs.Prelude.{flat_map, sum_by, slice_get}
use Rattle.std.proofs.lemmas.List.{length-reverse, reverse-append}
use Rattle.std.proofs.lemmas.List.Concat.{flat_map-cons}
use Rattle.std.proofs.lemmas.List.Sums.{sum_by-cons}
use Rattle.syntax.specs.Tree.{Block, SourceUnit}
use Rattle.syntax.specs.Views.{unit_tree}
use Rattle.class_rules.specs.Class.{Classes}
use Rattle.heap.specs.Heap.{Space}
use Rattle.jni.specs.declared.function.JniFunction.{JniFunction}
use Rattle.jni.specs.JniFunction.{prototype}
use Rattle.jni.specs.declared.kinds.ResultKind.{ResultKind}
use Rattle.jni.specs.declared.kinds.ResultKind.TheVariants.{NewLocal, NewGlobal, NewWeak, GivesFlag, GivesInt, GivesField, GivesMethod, GivesNothing, GivesBuffer}
use Rattle.semantics.specs.Arguments.{Actual, actuals, address_given}
use Rattle.semantics.specs.CallEffects.{CallResult, NoResult, ScalarResult, ReferenceResult}
use Rattle.semantics.specs.CallStep.{is_zero, put, received, tell_copy}
use Rattle.semantics.specs.Effect.{Effect, Returns, effect_of, tasks_after}
use Rattle.semantics.specs.Object.{Reference}
use Rattle.semantics.specs.Return as activation
use Rattle.semantics.specs.Return.{resumed_in, return_by}
use Rattle.semantics.specs.Task.{Task, Invoke, Target, Declared, Assigned, Tested, Dropped}
use Rattle.semantics.specs.Thread as source
use Rattle.semantics.specs.Thread.{Shared, lengths_copied, objects_viewed, sight_of}
use Rattle.semantics.specs.ThreadStep.{after_effect, step_within}
use Rattle.semantics.specs.declared.value.Value.TheVariants.{Int}
use Rattle.semantics.specs.Variable.{Variables}
use Rattle.semantics.specs.World.{World, loaded_objects}
use Rattle.semantics_safety.specs.Owners.{Owners, ThreadOwners, after_return, after_step, after_tasks, with_result}
use Rattle.semantics_safety.specs.StepSafe.{IsMethodResult, IsResumable, MayReturn}
use Rattle.code.specs.Call.{Call}
use Rattle.code.specs.Depth.{Listing}
use Rattle.code.specs.declared.instr.Target.{Target as Destination}
use Rattle.code.specs.declared.instr.Target.TheVariants as destination
use Rattle.code.specs.declared.instr.Instr.TheVariants as instr
use Rattle.code_meaning.specs.Does.{CallsFunction, TakesResult}
use Rattle.code_meaning.specs.Lowered.{Lowered, IsLowered}
use Rattle.code_meaning.specs.Slots.{SeesBuffers}
use Rattle.code_meaning.specs.Stands.{IsBufferResult, IsStaticResult}
use Rattle.code_meaning.proofs.BufferLaws.{sees_buffers}
use Rattle.tables.specs.Elements.{OwnedNumbers}
use Rattle.machine_answers.specs.declared.answer.Given.{Given}
use Rattle.machine_answers.specs.Answers as row
use Rattle.machine_calls.specs.CarriedOut.{ResultAgrees, acquired_with}
use Rattle.machine_scenes.specs.Buffers.{Acquired, SameAcquired, acquired_by, beside, nothing_acquired}
use Rattle.machine_scenes.specs.HeapAgrees.{ReferenceAgrees, times}
use Rattle.machine_scenes.specs.StoreAgrees.{StoreAgrees}
use Rattle.machine_scenes.specs.declared.activation.Activation.{Activation}
use Rattle.machine_scenes.specs.declared.store.Store.{Store}
use Rattle.machine_scenes.proofs.HeldSums.{times_append}
use Rattle.machine_scenes.proofs.Keeping.{keeps_same}
use Rattle.machine_threads.specs.Callers.{CallerAgrees, CallersAgree, beside_callers, owner_at, seen_by, thread_of}
use Rattle.machine_threads.proofs.Reversed.{callers_counted}
use Rattle.machine_threads.specs.SlotsHold.{slots_of}
use Rattle.machine_threads.specs.ThreadAgrees.{ThreadAgrees}
use Rattle.machine_threads.specs.declared.thread.Thread.{Thread}
use Rattle.semantics.specs.declared.event.Event.TheVariants as event
use Rattle.machine_steps.specs.Advances.{Advances}
use Rattle.machine_steps.specs.Executes.{in_use_with}
use Rattle.machine_steps.specs.Received.{HasRoom, HasStatic, HasTarget, Receives, statics_with}
use Rattle.machine_steps.specs.Resumed.{HasCalled, Resumes}
use Rattle.machine_steps.specs.Returned.{ReturnAgrees, given_back}
use Rattle.machine_steps.specs.declared.execute.ReturnValue.{ReturnValue}
use Rattle.machine_steps.specs.declared.execute.ReturnValue.TheVariants as value
use Rattle.machine_steps.proofs.Acquisitions.{nothing_lent, store_taken, taken_by}
use Rattle.machine_steps.proofs.Arguments.{none_left_by}
use Rattle.machine_steps.proofs.AskedCalls.{room_by, target_there}
use Rattle.machine_steps.proofs.Calls.{Ready}
use Rattle.machine_steps.proofs.CallersCalls.{caller_calls, caller_ready}
use Rattle.machine_steps.proofs.GivenResults.{nothing_with, plain_result}
use Rattle.machine_steps.proofs.Invocations.{Finishes, finishes, going, resumption}
use Rattle.machine_steps.proofs.KeptCallers.{callers_stay, others_below}
use Rattle.machine_steps.proofs.Receives.{IsNoBuffer, frames_received, nothing_told, received_is}
use Rattle.machine_steps.proofs.SlotBuffers.{elements_fit}
use Rattle.machine_steps.proofs.Threads.{calls_of_world, calls_to_come, none_due, still_due}

-- ---- what a caller is given

-- it is what the source's is
back_agrees : (unit : SourceUnit) (classes : Classes) (store : Store) (owner : ℕ) (a : Option ℕ) (r : Reference) (kind : ResultKind) (v : ReturnValue) (c : CallResult) → IsMethodResult kind → ReferenceAgrees store.heap a r → ReturnAgrees store.heap v c → ResultAgrees unit classes store owner (given_back a kind v) kind (activation.given_back r kind c)
back_agrees unit classes store owner None (Some n) kind v c m pends h = absurd pends
back_agrees unit classes store owner (Some a) None kind v c m pends h = absurd pends
back_agrees unit classes store owner None None NewLocal (value.Reference a) (ReferenceResult r) m pends h = row.reference h
back_agrees unit classes store owner None None NewLocal (value.Reference a) c m pends h = absurd h
back_agrees unit classes store owner None None NewLocal (value.Number word) (ScalarResult (Int z)) m pends h = row.null_reference
back_agrees unit classes store owner None None NewLocal (value.Number word) c m pends h = absurd h
back_agrees unit classes store owner None None NewLocal value.Nothing NoResult m pends h = row.null_reference
back_agrees unit classes store owner None None NewLocal value.Nothing c m pends h = absurd h
back_agrees unit classes store owner None None GivesInt (value.Number word) (ScalarResult (Int z)) m pends h = row.int h.0 h.1
back_agrees unit classes store owner None None GivesInt (value.Number word) c m pends h = absurd h
back_agrees unit classes store owner None None GivesInt (value.Reference a) (ReferenceResult r) m pends h = row.int refl (record { sfits = omega arith })
back_agrees unit classes store owner None None GivesInt (value.Reference a) c m pends h = absurd h
back_agrees unit classes store owner None None GivesInt value.Nothing NoResult m pends h = row.int refl (record { sfits = omega arith })
back_agrees unit classes store owner None None GivesInt value.Nothing c m pends h = absurd h
back_agrees unit classes store owner None None GivesNothing v c m pends h = row.nothing
back_agrees unit classes store owner (Some a) (Some n) NewLocal v c m pends h = row.null_reference
back_agrees unit classes store owner (Some a) (Some n) GivesInt v c m pends h = row.int refl (record { sfits = omega arith })
back_agrees unit classes store owner (Some a) (Some n) GivesNothing v c m pends h = row.nothing
back_agrees unit classes store owner a r NewGlobal v c m pends h = absurd m
back_agrees unit classes store owner a r NewWeak v c m pends h = absurd m
back_agrees unit classes store owner a r GivesFlag v c m pends h = absurd m
back_agrees unit classes store owner a r GivesField v c m pends h = absurd m
back_agrees unit classes store owner a r GivesMethod v c m pends h = absurd m
back_agrees unit classes store owner a r (GivesBuffer access) v c m pends h = absurd m

-- ---- the first caller

-- the first of a thread's callers, and those below it
pub record First (p : Lowered) (classes : Classes) (space : Space) (copies : List (Option OwnedNumbers)) (k : ℕ) (shared : Shared) (call : Activation) (calls : List Activation) (all : List Owners) (callers : List source.Caller) : Type 0 where
  pub caller : source.Caller
  pub below : List source.Caller
  pub is : callers ≡ caller ∷ below
  pub own : Owners
  pub owners : List Owners
  pub are : all ≡ own ∷ owners
  pub agrees : CallerAgrees p classes space copies (owner_at k (length below)) call own shared caller
  pub rest : CallersAgree p classes space copies k shared calls owners below

first_there : (p : Lowered) (classes : Classes) (space : Space) (copies : List (Option OwnedNumbers)) (k : ℕ) (shared : Shared) (call : Activation) (calls : List Activation) (all : List Owners) (callers : List source.Caller) → CallersAgree p classes space copies k shared (call ∷ calls) all callers → First p classes space copies k shared call calls all callers
first_there p classes space copies k shared call calls (own ∷ owners) (c ∷ below) h = record { caller = c; below = below; is = refl; own = own; owners = owners; are = refl; agrees = h.0; rest = h.1 }
first_there p classes space copies k shared call calls all callers h = absurd h

-- where memory has none, the source has none
pub none_below : (p : Lowered) (classes : Classes) (space : Space) (copies : List (Option OwnedNumbers)) (k : ℕ) (shared : Shared) (calls : List Activation) (all : List Owners) (callers : List source.Caller) → CallersAgree p classes space copies k shared calls all callers → calls ≡ [] → callers ≡ []
none_below p classes space copies k shared [] [] [] h none = refl
none_below p classes space copies k shared (call ∷ calls) (own ∷ owners) (c ∷ below) h none = absurd (cc)
none_below p classes space copies k shared calls all callers h none = absurd h

-- the owner of what its call in progress copies, by how many callers are there in memory
pub copier_is : (p : Lowered) (classes : Classes) (space : Space) (copies : List (Option OwnedNumbers)) (made k : ℕ) (own : ThreadOwners) (shared : Shared) (t : Thread) (s : source.Thread) → ThreadAgrees p classes space copies made k own shared t s → (n : ℕ) → n ≡ length t.callers.items → owner_at k n ≡ owner_at k (length s.callers)
copier_is p classes space copies made k own shared t s h n is =
    ap (owner_at k) (is ∙ sym (length-reverse t.callers.items) ∙ callers_counted p classes space copies k shared (reverse t.callers.items) own.callers s.callers h.callers)

-- ---- what is there for it

module _ (p : Lowered) (classes : Classes) (store : Store) (world : World) (all : Acquired) (owner : ℕ) (call : Activation) (own : Owners) (shared : Shared) (c : source.Caller) (lowered : IsLowered p) (shares : StoreAgrees p world store shared all) (h : CallerAgrees p classes store.heap store.elements owner call own shared c) (few : store.heap.cells ≤ 1048576) where
  pub sees : SeesBuffers (seen_by own shared c) h.stands.meant.buffers
  sees = sees_buffers own shared (thread_of c) h.stands.meant.buffers (elements_fit p world store shared all shares owner call.slots.buffers.items h.stands.meant.buffers few h.stands.holds.buffers h.stands.holds.small)

  abbrev pub args : List Actual
  args = actuals (seen_by own shared c).sight h.function h.operands

  pub is_ready : Ready p classes store.heap store.elements owner call h.stands.code (seen_by own shared c) c.frames (Invoke h.line c.target h.function h.operands) c.tasks
  is_ready = caller_ready p classes store.heap store.elements owner call h.stands.code own shared c lowered h.stands.of_function h sees

  pub calls_it : CallsFunction h.stands.code is_ready.known call.place call.stack (slots_of call is_ready.meant) (seen_by own shared c) h.line c.target h.function args c.tasks
  unfolding is_ready
  calls_it = caller_calls p classes store.heap store.elements owner call h.stands.code own shared c lowered h.stands.of_function h sees

  -- where its result goes is there
  pub has_target : HasTarget calls_it.call.target call
  has_target = target_there p classes store.heap store.elements owner call h.stands.code (seen_by own shared c) c.frames (Invoke h.line c.target h.function h.operands) c.tasks is_ready h.line calls_it.call.target (prototype h.function).result c.target calls_it.goes

  pub has_room : IsResumable c → HasRoom (prototype h.function).result call.locals
  has_room can = room_by (prototype h.function).result call.locals c.frames c.frames store.heap (λ local. refl) is_ready.frames_agree (λ local. can.room (sym h.result ∙ local))

  -- no static takes what a function of the unit gives
  pub has_static : IsResumable c → (count : ℕ) → HasStatic calls_it.call.target count
  has_static can count = by_target calls_it.call.target calls_it.goes
    where
      by_target : (d : Destination) → TakesResult h.stands.code is_ready.known call.place call.stack (slots_of call is_ready.meant) (seen_by own shared c) h.line d (prototype h.function).result c.target c.tasks → HasStatic d count
      by_target (destination.Static i) goes = absurd (no_static c.result (subst IsStaticResult h.result goes.0) can.method)
        where
          no_static : (kind : ResultKind) → IsStaticResult kind → IsMethodResult kind → ⊥
          no_static NewGlobal goes m = m
          no_static NewWeak goes m = m
          no_static kind goes m = goes
      by_target (destination.Number i) goes = tt
      by_target (destination.Local i) goes = tt
      by_target (destination.FieldId i) goes = tt
      by_target (destination.MethodId i) goes = tt
      by_target (destination.Buffer element i) goes = tt
      by_target destination.Test goes = tt
      by_target destination.Dropped goes = tt

-- ---- what buffers take

-- by a count of names that goes over lists: a call that takes nothing is over, and its caller goes on
count_moved : (count : List ℕ → ℕ) → ((xs ys : List ℕ) → count (xs ++ ys) ≡ count xs + count ys) → count [] ≡ 0 → (others all head tail own : List ℕ) → all ≡ head ++ tail → own ≡ [] → count ((others ++ all) ++ own) ≡ count ((others ++ tail) ++ (head ++ []))
count_moved count both none others all head tail own is empty =
    omega (arith, both (others ++ all) own, both others all, ap count is, both head tail, ap count empty, none, both (others ++ tail) (head ++ []), both others tail, both head [])

same_taken : (others : Acquired) (s : source.Thread) (c : source.Caller) (below : List source.Caller) (what : CallResult) → s.callers ≡ c ∷ below → taken_by s.variables ≡ nothing_acquired → acquired_with what ≡ nothing_acquired
    → SameAcquired (beside (beside_callers others s) (acquired_by s)) (beside (beside_callers others (record s { callers = below })) (beside (taken_by c.variables) (acquired_with what)))
same_taken others s c below what is lent plain =
    let counts : source.Caller → ℕ = λ c. lengths_copied c.variables in
    let views : source.Caller → List ℕ = λ c. objects_viewed c.variables in
    let all : sum_by counts s.callers ≡ counts c + sum_by counts below = ap (sum_by counts) is ∙ sum_by-cons counts c below in
    let viewed : flat_map views s.callers ≡ views c ++ flat_map views below = ap (flat_map views) is ∙ flat_map-cons views c below in
    let own : lengths_copied s.variables ≡ 0 = ap (λ (a : Acquired). a.copied) lent in
    let none : objects_viewed s.variables ≡ [] = ap (λ (a : Acquired). a.viewed) lent in
    subst (λ (a : Acquired). SameAcquired (beside (beside_callers others s) (acquired_by s)) (beside (beside_callers others (record s { callers = below })) (beside (taken_by c.variables) a))) (sym plain) (record {
      copied = omega (arith, all, own);
      many = count_moved length (λ xs ys. length-append xs ys) refl others.viewed (flat_map views s.callers) (views c) (flat_map views below) (objects_viewed s.variables) viewed none;
      viewed = λ n. count_moved (times n) (times_append n) refl others.viewed (flat_map views s.callers) (views c) (flat_map views below) (objects_viewed s.variables) viewed none;
    })

-- ---- the source's thread

-- nothing is tested
no_branch : (line : ℕ) (target : Target) (zero : Bool) (tasks : List Task) → ((then' else' : Block) → target ≡ Tested then' else' → ⊥) → tasks_after line target zero ++ tasks ≡ tasks
no_branch line (Declared kind x) zero tasks other = refl
no_branch line (Assigned x) zero tasks other = refl
no_branch line (Tested a b) zero tasks other = absurd (other a b refl)
no_branch line Dropped zero tasks other = refl

module _ (p : Lowered) (w : World) (old : Store) (others : Acquired) (k : ℕ) (own : ThreadOwners) (shared : Shared) (t : Thread) (s : source.Thread) (h : ThreadAgrees p w.classes old.heap old.elements (length (loaded_objects w)) k own shared t s) (below : List Activation) (caller : Activation) (last : t.callers.items ≡ below ++ caller ∷ []) where
  -- memory has the last caller last
  abbrev calls : List Activation
  calls = reverse below

  there : reverse t.callers.items ≡ caller ∷ calls
  there = ap reverse last ∙ reverse-append below (caller ∷ [])

  pub first : First p w.classes old.heap old.elements k shared caller calls own.callers s.callers
  first = first_there p w.classes old.heap old.elements k shared caller calls own.callers s.callers (subst (λ (l : List Activation). CallersAgree p w.classes old.heap old.elements k shared l own.callers s.callers) there h.callers)

  abbrev c : source.Caller
  c = first.caller

  abbrev everything : Acquired
  everything = beside (beside_callers others s) (acquired_by s)

  module _ (lowered : IsLowered p) (shares : StoreAgrees p w old shared everything) (can : IsResumable c) where
    -- it can go on
    pub has_called : HasCalled p old caller
    has_called = record { world = w; all = everything; owner = owner_at k (length first.below); own = first.own; shared = shared; source = c; shares = shares; agrees = first.agrees; resumable = can }

    module _ (task : Task) (rest : List Task) (tasks : s.tasks ≡ Some (task ∷ rest)) (may : MayReturn s) (pending : Option ℕ) (pends : ReferenceAgrees old.heap pending s.pending) (v : ReturnValue) (result : CallResult) (returns : effect_of (sight_of shared s) task ≡ Returns result) (gives : ReturnAgrees old.heap v result)
        (active : Option Activation) (after : Thread) (left : Store) (d : Resumes p v caller below old left (record t { call = active; pending = pending }) after) where
      abbrev owner : ℕ
      owner = owner_at k (length first.below)

      abbrev f : JniFunction
      f = first.agrees.function

      abbrev line : ℕ
      line = first.agrees.line

      abbrev kind : ResultKind
      kind = (prototype f).result

      code_same : first.agrees.stands.code ≡ d.code
      code_same = cc (first.agrees.stands.of_function, d.of_function)

      abbrev r : Ready p w.classes old.heap old.elements owner caller first.agrees.stands.code (seen_by first.own shared c) c.frames (Invoke line c.target f first.agrees.operands) c.tasks
      r = is_ready p w.classes old w everything owner caller first.own shared c lowered shares first.agrees d.few

      abbrev it : CallsFunction first.agrees.stands.code r.known caller.place caller.stack (slots_of caller r.meant) (seen_by first.own shared c) line c.target f (args p w.classes old w everything owner caller first.own shared c lowered shares first.agrees d.few) c.tasks
      it = calls_it p w.classes old w everything owner caller first.own shared c lowered shares first.agrees d.few

      abbrev given_args : List Actual
      given_args = args p w.classes old w everything owner caller first.own shared c lowered shares first.agrees d.few

      -- what it is given
      abbrev g : Given
      g = given_back pending kind v

      abbrev back : CallResult
      back = activation.given_back s.pending c.result result

      agree : ResultAgrees (unit_tree p.unit) w.classes old owner g kind back
      agree = subst (λ (x : ResultKind). ResultAgrees (unit_tree p.unit) w.classes old owner (given_back pending x v) x back) (sym first.agrees.result) (back_agrees (unit_tree p.unit) w.classes old owner pending s.pending c.result v result can.method pends gives)

      no_buffer_kind : IsBufferResult kind → ⊥
      no_buffer_kind b = subst IsMethodResult (sym first.agrees.result ∙ b.1) can.method

      plain : IsNoBuffer back
      plain = plain_result (unit_tree p.unit) w.classes old owner kind g back no_buffer_kind agree

      -- the instruction is its call
      same : d.function ≡ it.call
      same = let both : instr.Call d.function ≡ instr.Call it.call = cc (subst (λ (l : Listing). slice_get l.instrs caller.place ≡ Some (instr.Call d.function)) (sym code_same) d.at, it.at) in cc

      received_it : Receives it.call.target kind None g caller d.call
      received_it =
          subst (λ (x : JniFunction). Receives it.call.target (prototype x).result None (given_back pending (prototype x).result v) caller d.call) it.same_function
          (subst (λ (x : Call). Receives x.target (prototype x.function).result None (given_back pending (prototype x.function).result v) caller d.call) same d.receives)

      put_it : d.statics.items ≡ statics_with it.call.target g old.statics.items
      put_it =
          subst (λ (x : JniFunction). d.statics.items ≡ statics_with it.call.target (given_back pending (prototype x).result v) old.statics.items) it.same_function
          (subst (λ (x : Call). d.statics.items ≡ statics_with x.target (given_back pending (prototype x.function).result v) old.statics.items) same d.put)

      -- the thread within its caller
      abbrev within : source.Thread
      within = record s { callers = first.below; variables = c.variables; frames = c.frames }

      told : tell_copy (address_given given_args 1) back c.variables ≡ c.variables
      told = nothing_told (address_given given_args 1) back c.variables plain

      parted : StoreAgrees p w old shared (beside (beside_callers others within) (beside (taken_by c.variables) (acquired_with back)))
      parted = store_taken p w old shared everything _ (same_taken others s c first.below back first.is (nothing_lent s.variables may.0) (nothing_with back plain)) shares

      ends : Finishes p w old.heap shared old d.statics shared line c.target f given_args c.tasks within c.frames s.pending back c.variables (beside_callers others within) owner first.own d.call
      unfolding first
      ends = finishes p w old.heap old.elements old (beside_callers others within) owner first.own shared shared (keeps_same old.heap shared) within caller first.agrees.stands.code (Invoke line c.target f first.agrees.operands) c.tasks r line f given_args caller.locals d.stacked
          (has_room p w.classes old w everything owner caller first.own shared c lowered shares first.agrees d.few can) r.holds.keys r.holds.buffers first.agrees.views c.frames r.frames_agree s.pending g back c.variables told refl parted agree
          (λ b is. absurd (subst IsNoBuffer is plain)) (λ b j key is copy at. absurd (no_buffer_kind (subst (λ (x : Given). ResultAgrees (unit_tree p.unit) w.classes old owner x kind back) is agree).0)) (λ goes. refl)
          it.call it.at (none_left_by it.given it.words) d.call d.statics
          it.call.target c.target (λ local x level q is at. can.declared x level q is (sym first.agrees.result ∙ local) at) can.free refl it.goes received_it put_it

      abbrev next : source.Thread
      next = going line f given_args ends.tasks within c.frames s.pending back ends.variables

      -- the source's caller is given the same
      same_thread : resumption line f given_args c.tasks within c.frames s.pending back c.variables c.target ≡ received c.result back (resumed_in s c first.below)
      same_thread =
          ap (λ (u : source.Thread). let x : source.Thread = record u { tasks = Some (tasks_after line c.target (is_zero back) ++ c.tasks); variables = tell_copy (address_given given_args 1) back c.variables } in x) (received_is kind back within)
          ∙ ap (λ (l : List Task). let x : source.Thread = record within { tasks = Some l; variables = tell_copy (address_given given_args 1) back c.variables; frames = frames_received kind back c.frames } in x) (no_branch line c.target (is_zero back) c.tasks can.untested)
          ∙ ap (λ (vs : Variables). let x : source.Thread = record within { tasks = Some c.tasks; variables = vs; frames = frames_received kind back c.frames } in x) told
          ∙ ap (λ (n : ResultKind). let x : source.Thread = record within { tasks = Some c.tasks; frames = frames_received n back c.frames } in x) first.agrees.result
          ∙ sym (received_is c.result back (resumed_in s c first.below))

      steps : step_within (unit_tree p.unit) w.classes (in_use_with (beside_callers others s) s) k shared s false s.tasks ≡ source.Advances ends.now next event.Quiet
      steps =
          ap (step_within (unit_tree p.unit) w.classes (in_use_with (beside_callers others s) s) k shared s false) tasks
          ∙ ap (after_effect (unit_tree p.unit) w.classes (in_use_with (beside_callers others s) s) k shared s rest) returns
          ∙ ap (return_by k shared s result) first.is
          ∙ ap (put c.target back shared) (sym same_thread)
          ∙ ends.steps

      abbrev now : ThreadOwners
      now = record { current = with_result c.target first.own ends.variables; callers = first.owners }

      owners_now : after_tasks (unit_tree p.unit) w.classes k shared s s.tasks own event.Quiet ends.variables ≡ now
      owners_now =
          ap (λ (ts : Option (List Task)). after_tasks (unit_tree p.unit) w.classes k shared s ts own event.Quiet ends.variables) tasks
          ∙ ap (λ (e : Effect). after_step (unit_tree p.unit) w.classes k shared s own event.Quiet e ends.variables) returns
          ∙ ap (λ (cs : List source.Caller). after_return cs own.callers own ends.variables) first.is
          ∙ ap (λ (os : List Owners). after_return (c ∷ first.below) os own ends.variables) first.are

      abbrev final : Store
      final = record old { statics = d.statics }

      abbrev resumed : Thread
      resumed = record t { call = Some d.call; callers = d.callers; spare = d.spare; pending = pending }

      none : t.entering ≡ None
      none = none_due t.entering s.tasks s.callers (task ∷ rest) h.due tasks

      agrees_now : ThreadAgrees p w.classes final.heap final.elements (length (loaded_objects w)) k now ends.now resumed next
      agrees_now = record {
        calls =
            calls_to_come p w.classes final.heap (length (loaded_objects w)) t.entering t.calls.items s.calls none
            (calls_of_world p w.classes old.heap (length (loaded_objects w)) t.entering t.calls.items s.calls none h.calls);
        due = still_due t.entering next.tasks next.callers none (λ b. cc);
        work = ends.stands;
        callers = subst (λ (l : List Activation). CallersAgree p w.classes old.heap old.elements k ends.now l first.owners first.below) (sym (ap reverse d.left))
            (callers_stay p w.classes owner old.heap old.heap old.elements old.elements shared ends.now ends.keeps (λ key x at other. at) k calls first.owners first.below (λ b less. others_below k b (length first.below) less) first.rest);
        few =
            let before : length t.callers.items < 64 = h.few in
            let one = ap length last ∙ length-append below (caller ∷ []) in
            let now = ap length d.left in
            let less : length d.callers.items < 64 = omega (arith, before, one, now) in
            less;
        pending = pends;
        ending = h.ending;
        busy = λ a b e. cc;
        caught = λ b. absurd (cc);
        idle = λ b. absurd (cc);
        views = ends.views;
      }

      advanced : Advances p w old final others k own shared s resumed false event.Quiet
      advanced = record {
        next_shared = ends.now;
        next = next;
        steps = steps;
        store_agrees = ends.store_agrees;
        keeps = ends.keeps;
        keeps_copies = λ key x at other. at;
        agrees = subst (λ (o : ThreadOwners). ThreadAgrees p w.classes final.heap final.elements (length (loaded_objects w)) k o ends.now resumed next) (sym owners_now) agrees_now;
        short = λ e. absurd (cc);
      }

      -- the source's thread goes on with its caller too
      pub returned_into : Advances p w old left others k own shared s after false event.Quiet
      returned_into =
          subst (λ (u : Thread). Advances p w old left others k own shared s u false event.Quiet) (sym d.resumed)
          (subst (λ (store : Store). Advances p w old store others k own shared s resumed false event.Quiet) (sym d.store_is) advanced)
