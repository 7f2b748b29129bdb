use Rattle.std.proofs.Common.{◌≡◌, ℕ, ◌+◌, ◌<◌, ◌++◌, [], ◌∷◌, List, Option, length, map, sym, ap, ◌∙◌, subst, arith, length-append}
use Rattle.std.specs.Prelude.{flat_map}
use Rattle.std.specs.Option.{option_map}
use Rattle.std.specs.Vec.{with_items}
use Rattle.machine_scenes.specs.declared.activation.Activation.{Activation}
use Rattle.machine_threads.specs.declared.thread.Entering.{Entering}
use Rattle.machine_threads.specs.declared.thread.Thread.{Thread}
use Rattle.machine_collections.specs.Moving.{AreMovedAt, moved_call, moved_entering}
use Rattle.machine_collections.specs.Roots.{argument_places, call_places, slots_of, thread_places}
use Rattle.machine_collections.proofs.MovedRoots.{last_moved, moved_back, moved_below, moved_front}
use Rattle.machine_collections.proofs.roots.put_thread.Goals as goal
use Rattle.machine_collections.proofs.roots.put_thread.Goals.{After-put_call-next, After-put_callers-next, After-put_entering-next}

module _ (t : Thread) (places : List (Option ℕ)) (from : ℕ) (to : ℕ → ℕ) (h : AreMovedAt to (thread_places t) places from) where
  abbrev below : List (Option ℕ)
  below = flat_map call_places t.callers.items

  abbrev given : List (Option ℕ)
  given = argument_places t.entering

  abbrev last_two : List (Option ℕ)
  last_two = slots_of t.call ++ t.pending ∷ []

  abbrev own : List (Option ℕ)
  own = given ++ last_two

  callers_there : AreMovedAt to below places from
  callers_there = moved_front to below own places from h

  own_there : AreMovedAt to own places (from + length below)
  own_there = moved_back to below own places from h

  given_there : AreMovedAt to given places (from + length below)
  given_there = moved_front to given last_two places (from + length below) own_there

  two_there : AreMovedAt to last_two places (from + length below + length given)
  two_there = moved_back to given last_two places (from + length below) own_there

  call_there : AreMovedAt to (slots_of t.call) places (from + length below + length given)
  call_there = moved_front to (slots_of t.call) (t.pending ∷ []) places (from + length below + length given) two_there

  pending_there : AreMovedAt to (t.pending ∷ []) places (from + length below + length given + length (slots_of t.call))
  pending_there = moved_back to (slots_of t.call) (t.pending ∷ []) places (from + length below + length given) two_there

pub put_callers-next-requires : goal.put_callers-next-requires
put_callers-next-requires c =
    let t = c.args.thread.now in
    let items = c.args.roots.now.places.items in (
      c.requires.0,
      subst (λ (l : List Activation). AreMovedAt c.requires.0 (flat_map call_places l) items c.args.from) (sym c.deref_mut.ensures.value) (callers_there t items c.args.from c.requires.0 c.requires.1),
    )

-- where what is given to a call that isn't entered yet begins
given_from : (c : After-put_callers-next) → c.put_callers-next.result ≡ c.args.from + length (flat_map call_places c.args.thread.now.callers.items)
given_from c = c.put_callers-next.ensures.next ∙ ap (λ (l : List Activation). c.args.from + length (flat_map call_places l)) c.deref_mut.ensures.value

-- and the local references of the call in progress
call_from : (c : After-put_entering-next) → c.put_entering-next.result ≡ c.args.from + length (flat_map call_places c.args.thread.now.callers.items) + length (argument_places c.args.thread.now.entering)
call_from c =
    c.put_entering-next.ensures.next
    ∙ ap (λ (n : ℕ). n + length (argument_places c.args.thread.now.entering))
    (c.put_callers-next.ensures.next ∙ ap (λ (l : List Activation). c.args.from + length (flat_map call_places l)) c.deref_mut.ensures.value)

pub put_entering-next-requires : goal.put_entering-next-requires
put_entering-next-requires c =
    let t = c.args.thread.now in
    let items = c.args.roots.now.places.items in
    (c.requires.0, subst (λ (n : ℕ). AreMovedAt c.requires.0 (argument_places t.entering) items n) (sym (given_from (goal.at.put_entering-next-requires c).After-put_callers-next)) (given_there t items c.args.from c.requires.0 c.requires.1))

pub put_call-next-requires : goal.put_call-next-requires
put_call-next-requires c =
    let t = c.args.thread.now in
    let items = c.args.roots.now.places.items in
    (c.requires.0, subst (λ (n : ℕ). AreMovedAt c.requires.0 (slots_of t.call) items n) (sym (call_from (goal.at.put_call-next-requires c).After-put_entering-next)) (call_there t items c.args.from c.requires.0 c.requires.1))

-- where the pending exception is
last : (c : After-put_call-next) → c.put_call-next.result
    ≡ c.args.from + length (flat_map call_places c.args.thread.now.callers.items) + length (argument_places c.args.thread.now.entering) + length (slots_of c.args.thread.now.call)
last c =
    c.put_call-next.ensures.next
    ∙ ap (λ (n : ℕ). n + length (slots_of c.args.thread.now.call))
    (c.put_entering-next.ensures.next
    ∙ ap (λ (n : ℕ). n + length (argument_places c.args.thread.now.entering))
    (c.put_callers-next.ensures.next ∙ ap (λ (l : List Activation). c.args.from + length (flat_map call_places l)) c.deref_mut.ensures.value))

within : (c : After-put_call-next) → c.put_call-next.result < length c.args.roots.now.places.items
within c =
    let t = c.args.thread.now in
    let places = c.args.roots.now.places.items in
    let from = c.args.from + length (flat_map call_places t.callers.items) + length (argument_places t.entering) + length (slots_of t.call) in
    let less = moved_below c.requires.0 (t.pending ∷ []) places from 0 (pending_there t places c.args.from c.requires.0 c.requires.1) (omega arith) in
    omega (arith, less, last c)

pub root-thread-requires : goal.root-thread-requires
root-thread-requires c = within c

pub overflow_add-result : goal.overflow_add-result
overflow_add-result c = let less = within (goal.at.overflow_add-result c).After-put_call-next in omega (arith, less, c.args.roots.now.places.ok.0)

pub returns-clause-moved : goal.returns-clause-moved
returns-clause-moved c = λ to h.
    let t = c.args.thread.now in
    let items = c.args.roots.now.places.items in
    let at = (goal.at.returns-clause-moved c).After-put_call-next in
    let callers = c.put_callers-next.ensures.moved to (subst (λ (l : List Activation). AreMovedAt to (flat_map call_places l) items c.args.from) (sym c.deref_mut.ensures.value) (callers_there t items c.args.from to h)) in
    let entering = c.put_entering-next.ensures.moved to (subst (λ (n : ℕ). AreMovedAt to (argument_places t.entering) items n) (sym (given_from (goal.at.returns-clause-moved c).After-put_callers-next)) (given_there t items c.args.from to h)) in
    let call = c.put_call-next.ensures.moved to (subst (λ (n : ℕ). AreMovedAt to (slots_of t.call) items n) (sym (call_from (goal.at.returns-clause-moved c).After-put_entering-next)) (call_there t items c.args.from to h)) in
    let from = c.args.from + length (flat_map call_places t.callers.items) + length (argument_places t.entering) + length (slots_of t.call) in
    let pending = last_moved to t.pending items from c.put_call-next.result c.root-thread.result (pending_there t items c.args.from to h) (last at) c.root-thread.ensures in
    ap (λ (l : List Activation). let u : Thread = record t { callers = with_items t.callers l; entering = c.put_entering-next.new.entering; call = c.put_call-next.new.call; pending = c.root-thread.result } in u)
    (callers ∙ ap (map (moved_call to)) c.deref_mut.ensures.value)
    ∙ ap (λ (e : Option Entering). let u : Thread = record t { callers = with_items t.callers (map (moved_call to) t.callers.items); entering = e; call = c.put_call-next.new.call; pending = c.root-thread.result } in u) entering
    ∙ ap (λ (o : Option Activation). let u : Thread = record t { callers = with_items t.callers (map (moved_call to) t.callers.items); entering = option_map (moved_entering to) t.entering; call = o; pending = c.root-thread.result } in u) call
    ∙ ap (λ (o : Option ℕ). let u : Thread = record t { callers = with_items t.callers (map (moved_call to) t.callers.items); entering = option_map (moved_entering to) t.entering; call = option_map (moved_call to) t.call; pending = o } in u) pending

pub returns-clause-next : goal.returns-clause-next
returns-clause-next c =
    let t = c.args.thread.now in
    let at = (goal.at.returns-clause-next c).After-put_call-next in
    let below = flat_map call_places t.callers.items in
    let given = argument_places t.entering in
    let two = slots_of t.call ++ t.pending ∷ [] in
    let parts : length (thread_places t) ≡ length below + length (given ++ two) = length-append below (given ++ two) in
    let middle : length (given ++ two) ≡ length given + length two = length-append given two in
    let own : length two ≡ length (slots_of t.call) + 1 = length-append (slots_of t.call) (t.pending ∷ []) in
    omega (arith, last at, parts, middle, own)
