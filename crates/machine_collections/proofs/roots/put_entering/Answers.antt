use Rattle.std.proofs.Common.{◌+◌, List, Option, Some, length, map, sym, ap, ◌∙◌, subst}
use Rattle.std.specs.Option.{option_map}
use Rattle.std.specs.Vec.{with_items}
use Rattle.heap.specs.declared.value.Value.{Value}
use Rattle.compact.specs.Same.{moved_value}
use Rattle.machine_threads.specs.declared.thread.Entering.{Entering}
use Rattle.machine_collections.specs.Moving.{AreMovedAt, moved_entering}
use Rattle.machine_collections.specs.Roots.{argument_place, argument_places}
use Rattle.machine_collections.proofs.roots.put_entering.Goals as goal

pub put_arguments-requires : goal.put_arguments-requires
put_arguments-requires c = (
  c.requires.0,
  subst (λ (ws : List Value). AreMovedAt c.requires.0 (map argument_place ws) c.args.roots.now.places.items c.args.from) (sym c.deref_mut.ensures.value)
      (subst (λ (o : Option Entering). AreMovedAt c.requires.0 (argument_places o) c.args.roots.now.places.items c.args.from) c.in-Some.is c.requires.1),
)

pub returns-in-Some-clause-moved : goal.returns-in-Some-clause-moved
returns-in-Some-clause-moved c = λ to h.
    let places = c.args.roots.now.places.items in
    let e = c.in-Some.entering in
    let there = subst (λ (o : Option Entering). AreMovedAt to (argument_places o) places c.args.from) c.in-Some.is h in
    let arguments = c.put_arguments.ensures.moved to (subst (λ (ws : List Value). AreMovedAt to (map argument_place ws) places c.args.from) (sym c.deref_mut.ensures.value) there) ∙ ap (map (moved_value to)) c.deref_mut.ensures.value in
    ap (λ (ws : List Value). let x : Entering = record e { arguments = with_items e.arguments ws } in Some x) arguments ∙ sym (ap (option_map (moved_entering to)) c.in-Some.is)

pub returns-in-Some-clause-next : goal.returns-in-Some-clause-next
returns-in-Some-clause-next c =
    c.put_arguments.ensures.next ∙ ap (λ (ws : List Value). c.args.from + length (map argument_place ws)) c.deref_mut.ensures.value
    ∙ sym (ap (λ (o : Option Entering). c.args.from + length (argument_places o)) c.in-Some.is)
