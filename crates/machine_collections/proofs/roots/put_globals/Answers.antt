use Rattle.std.proofs.Common.{◌≡◌, ℕ, ◌+◌, ◌<◌, ◌≤◌, List, Option, Some, IsSome, length, sym, ap, ◌∙◌, subst, arith, ⊎_elim}
use Rattle.std.specs.Prelude.{slice_set}
use Rattle.std.specs.Option.{option_map}
use Rattle.tables.specs.References.{address_at}
use Rattle.compact.proofs.Fronts.{front_all, front_counted}
use Rattle.machine_collections.proofs.MovedRoots.{moved_below, moved_end, slot_free, slot_live, slot_put}
use Rattle.machine_collections.proofs.roots.put_globals.Goals as goal
use Rattle.machine_collections.proofs.roots.put_globals.Goals.{in-Some, in_default, In-loop-place}

within : (c : In-loop-place) → c.loop-place.place < length c.args.globals.now
within c = omega (arith, c.loop-place-test.true, c.len-place-end.ensures)

below : (c : In-loop-place) → c.args.from + c.loop-place.place < length c.args.roots.now.places.items
below c = moved_below c.requires.0 c.args.globals.now c.args.roots.now.places.items c.args.from c.loop-place.place c.requires.1 (within c)

pub overflow_add-from : goal.overflow_add-from
overflow_add-from c = omega (arith, below c, c.args.roots.now.places.ok.0)

pub root-requires : goal.root-requires
root-requires c = below c

pub set_root-requires : goal.set_root-requires
set_root-requires c =
    subst (λ (l : List (Option ℕ)). IsSome (address_at l c.loop-place.place)) (sym (c.loop-place.invariant c.requires.0 c.requires.1))
    (slot_live c.requires.0 c.args.globals.now c.args.roots.now.places.items c.args.from c.loop-place.place c.in-Some.addr c.requires.1 (within (goal.at.set_root-requires c).In-loop-place) (c.root.ensures ∙ ap (λ (o : Option ℕ). Some o) c.in-Some.is))

pub loop-place-preserved : goal.loop-place-preserved
loop-place-preserved c =
    let less = within (goal.at.loop-place-preserved c).In-loop-place in
    let places = c.args.roots.now.places.items in
    elim c.match-root.branch [
      | in-Some w ↦ λ to h.
          w.globals-is ∙ w.set_root.ensures
          ∙ ap (λ (l : List (Option ℕ)). slice_set l c.loop-place.place (Some w.in-Some.addr)) (c.loop-place.invariant to h)
          ∙ slot_put to c.args.globals.now places c.args.from c.loop-place.place w.in-Some.addr h less (c.root.ensures ∙ ap (λ (o : Option ℕ). Some o) w.in-Some.is)
      | in_default w ↦ λ to h.
          w.globals-is ∙ c.loop-place.invariant to h
          ∙ slot_free to c.args.globals.now places c.args.from c.loop-place.place c.root.result h less c.root.ensures w.in_default.not-Some
    ]

pub overflow_add-result : goal.overflow_add-result
overflow_add-result c =
    let count : c.len.result ≡ length c.args.globals.now = front_counted c.requires.0 _ c.args.globals.now c.loop-place.place c.len.result c.len.ensures (c.loop-place.invariant c.requires.0 c.requires.1) in
    ⊎_elim
    (λ (none : length c.args.globals.now ≡ 0). omega (arith, count, none, c.ranges.from))
    (λ (some : c.args.from + length c.args.globals.now ≤ length c.args.roots.now.places.items). omega (arith, count, some, c.args.roots.now.places.ok.0))
    (moved_end c.requires.0 c.args.globals.now c.args.roots.now.places.items c.args.from c.requires.1)

pub returns-clause-moved : goal.returns-clause-moved
returns-clause-moved c = λ to h. c.loop-place.invariant to h ∙ front_all (option_map to) c.loop-place.place c.args.globals.now (omega (arith, c.loop-place-test.false, c.len-place-end.ensures))

pub returns-clause-next : goal.returns-clause-next
returns-clause-next c =
    ap (λ (n : ℕ). c.args.from + n) (front_counted c.requires.0 _ c.args.globals.now c.loop-place.place c.len.result c.len.ensures (c.loop-place.invariant c.requires.0 c.requires.1))
