use Rattle.std.proofs.Common.{ℕ, List, Option, ◌++◌, length, ap, arith}
use Rattle.std.specs.Option.{option_flatten}
use Rattle.std.proofs.lemmas.List.{length-map}
use Rattle.tables.specs.Weaks.{weak_places}
use Rattle.machine_collections.proofs.Counts.{left_next}
use Rattle.machine_collections.proofs.MovedRoots.{pushed_all, pushed_next}
use Rattle.machine_collections.proofs.weak.fill_weak.Goals as goal

pub loop-place-init : goal.loop-place-init
loop-place-init c =
    let all = weak_places c.args.weaks.now in
    let none = ap (λ (l : List (Option ℕ)). length l) c.requires.none in
    record {
      places = ap (λ (l : List (Option ℕ)). l ++ all) c.requires.none;
      room = omega (arith, none, c.args.list.now.places.ok.0, c.requires.room, length-map c.args.weaks.now (λ (o : Option (Option ℕ)). option_flatten o));
    }

pub push_reserved-requires : goal.push_reserved-requires
push_reserved-requires c =
    let left = left_next (weak_places c.args.weaks.now) c.loop-place.place c.weak.result c.weak.ensures in
    omega (arith, left, c.loop-place.invariant.room)

pub loop-place-preserved : goal.loop-place-preserved
loop-place-preserved c =
    let all = weak_places c.args.weaks.now in
    let left = left_next all c.loop-place.place c.weak.result c.weak.ensures in
    record {
      places = pushed_next c.loop-place.list.places.items all all c.push_reserved.new.self.items c.loop-place.place c.weak.result c.weak.ensures c.push_reserved.ensures.items c.loop-place.invariant.places;
      room = omega (arith, left, c.loop-place.invariant.room, c.push_reserved.ensures.len, c.push_reserved.ensures.capacity);
    }

pub returns : goal.returns
returns c =
    let slots = c.args.weaks.now in
    pushed_all c.loop-place.list.places.items (weak_places slots) (weak_places slots) c.loop-place.place
    (omega (arith, length-map slots (λ (o : Option (Option ℕ)). option_flatten o), c.loop-place-test.false, c.len-place-end.ensures)) c.loop-place.invariant.places
