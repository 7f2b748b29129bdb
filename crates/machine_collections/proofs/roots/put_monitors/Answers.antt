use Rattle.std.proofs.Common.{◌≡◌, ℕ, ◌+◌, ◌<◌, List, Option, Some, length, map, sym, ap, ◌∙◌, arith}
use Rattle.std.specs.Prelude.{slice_set}
use Rattle.std.specs.Option.{option_map}
use Rattle.std.proofs.lemmas.List.{length-map}
use Rattle.compact.proofs.Fronts.{front_all}
use Rattle.monitors.specs.declared.monitors.Monitor.{Monitor}
use Rattle.monitors.specs.Monitors.{addresses, held}
use Rattle.machine_collections.proofs.MovedRoots.{moved_below, slot_free, slot_put}
use Rattle.machine_collections.proofs.OwnedMonitors.{monitors_put}
use Rattle.machine_collections.proofs.roots.put_monitors.Goals as goal
use Rattle.machine_collections.proofs.roots.put_monitors.Goals.{in-Some, in_default, In-loop-place}

-- as many as at first
long : (ms now : List Monitor) → map held now ≡ map held ms → length now ≡ length ms
long ms now same = sym (length-map now held) ∙ ap length same ∙ length-map ms held

places : (ms : List Monitor) → length (addresses ms) ≡ length ms
places ms = length-map ms (λ (m : Monitor). Some m.address)

within : (c : In-loop-place) → c.loop-place.place < length (addresses c.args.monitors.now)
within c = omega (arith, c.loop-place-test.true, c.len-place-end.ensures.count, places c.args.monitors.now)

below : (c : In-loop-place) → c.args.from + c.loop-place.place < length c.args.roots.now.places.items
below c = moved_below c.requires.0 (addresses c.args.monitors.now) c.args.roots.now.places.items c.args.from c.loop-place.place c.requires.1 (within c)

pub overflow_add-from : goal.overflow_add-from
overflow_add-from c = omega (arith, below c, c.args.roots.now.places.ok.0)

pub root-requires : goal.root-requires
root-requires c = below c

pub set_root-requires : goal.set_root-requires
set_root-requires c = omega (arith, within (goal.at.set_root-requires c).In-loop-place, places c.args.monitors.now, long c.args.monitors.now c.loop-place.monitors c.loop-place.invariant.held)

pub loop-place-preserved : goal.loop-place-preserved
loop-place-preserved c =
    let less = within (goal.at.loop-place-preserved c).In-loop-place in
    let all = addresses c.args.monitors.now in
    elim c.match-root.branch [
      | in-Some w ↦ record {
        held = ap (map held) w.monitors-is ∙ w.set_root.ensures.kept ∙ c.loop-place.invariant.held;
        moved = λ to h.
            ap addresses w.monitors-is ∙ w.set_root.ensures.addresses
            ∙ ap (λ (l : List (Option ℕ)). slice_set l c.loop-place.place (Some w.in-Some.addr)) (c.loop-place.invariant.moved to h)
            ∙ slot_put to all c.args.roots.now.places.items c.args.from c.loop-place.place w.in-Some.addr h less (c.root.ensures ∙ ap (λ (o : Option ℕ). Some o) w.in-Some.is);
      }
      | in_default w ↦ record {
        held = ap (map held) w.monitors-is ∙ c.loop-place.invariant.held;
        moved = λ to h.
            ap addresses w.monitors-is ∙ c.loop-place.invariant.moved to h
            ∙ slot_free to all c.args.roots.now.places.items c.args.from c.loop-place.place c.root.result h less c.root.ensures w.in_default.not-Some;
      }
    ]

pub returns : goal.returns
returns c = λ to h.
    let ms = c.args.monitors.now in
    monitors_put to ms c.loop-place.monitors c.loop-place.invariant.held
    (c.loop-place.invariant.moved to h ∙ front_all (option_map to) c.loop-place.place (addresses ms) (omega (arith, c.loop-place-test.false, c.len-place-end.ensures.count, places ms)))
