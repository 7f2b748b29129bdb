use Rattle.std.proofs.Common.{ℕ, Some, ◌++◌, length, refl, ◌∙◌, arith}
use Rattle.std.proofs.lemmas.List.{length-map}
use Rattle.std.proofs.lemmas.Option.{slice_get_read}
use Rattle.base.proofs.Lists.{get_map}
use Rattle.machine_collections.specs.Roots.{loaded_places}
use Rattle.machine_collections.proofs.Counts.{left_next, left_none}
use Rattle.machine_collections.proofs.MovedRoots.{pushed_all, pushed_next}
use Rattle.machine_collections.proofs.roots.push_loaded.Goals as goal

pub push_reserved-requires : goal.push_reserved-requires
push_reserved-requires c =
    let xs = c.args.loaded.now in
    let i = c.loop-addr.addr-index in
    let left = left_next (loaded_places c.args.loaded.now) c.loop-addr.addr-index (Some c.addr-item.result) (get_map _ xs i c.addr-item.result (slice_get_read xs (length xs) i c.addr-item.result refl c.loop-addr-test.true c.addr-item.is)) in
    omega (arith, left, c.loop-addr.invariant.len, c.loop-addr.invariant.capacity, c.requires)

pub loop-addr-preserved : goal.loop-addr-preserved
loop-addr-preserved c =
    let xs = c.args.loaded.now in
    let i = c.loop-addr.addr-index in
    let at = (get_map _ xs i c.addr-item.result (slice_get_read xs (length xs) i c.addr-item.result refl c.loop-addr-test.true c.addr-item.is)) in
    let left = left_next (loaded_places c.args.loaded.now) c.loop-addr.addr-index (Some c.addr-item.result) at in
    record {
      places = pushed_next c.loop-addr.places.items (loaded_places c.args.loaded.now) (c.args.places.now.items ++ loaded_places c.args.loaded.now) c.push_reserved.new.self.items c.loop-addr.addr-index (Some c.addr-item.result) at
          c.push_reserved.ensures.items c.loop-addr.invariant.places;
      len = omega (arith, left, c.loop-addr.invariant.len, c.push_reserved.ensures.len);
      capacity = c.push_reserved.ensures.capacity ∙ c.loop-addr.invariant.capacity;
    }

pub returns-clause-places : goal.returns-clause-places
returns-clause-places c = pushed_all c.loop-addr.places.items (loaded_places c.args.loaded.now) (c.args.places.now.items ++ loaded_places c.args.loaded.now) c.loop-addr.addr-index (omega (arith, length-map c.args.loaded.now (λ (a : ℕ). Some a), c.loop-addr-test.false)) c.loop-addr.invariant.places

pub returns-clause-len : goal.returns-clause-len
returns-clause-len c =
    let none = left_none (loaded_places c.args.loaded.now) c.loop-addr.addr-index (omega (arith, length-map c.args.loaded.now (λ (a : ℕ). Some a), c.loop-addr-test.false)) in
    omega (arith, none, c.loop-addr.invariant.len)
