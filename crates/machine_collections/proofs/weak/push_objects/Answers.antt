use Rattle.std.proofs.Common.{[], ◌∷◌, ◌++◌, get_or, map, ap, ◌∙◌, arith}
use Rattle.std.proofs.lemmas.List.{map-append}
use Rattle.std.proofs.lemmas.Option.{slice_get-get_or}
use Rattle.semantics.specs.declared.object_id.ObjectId.{ObjectId}
use Rattle.machine_collections.proofs.MovedRoots.{pushed_all, pushed_next}
use Rattle.machine_collections.proofs.weak.push_objects.Goals as goal

pub push_reserved-requires : goal.push_reserved-requires
push_reserved-requires c = omega (arith, c.loop-place.invariant.room, c.loop-place-test.true)

pub loop-place-preserved : goal.loop-place-preserved
loop-place-preserved c =
    let xs = c.args.names.now in
    let number = λ (o : ObjectId). o.number in
    let whole = map number c.args.objects.now.items ++ xs in
    let n = get_or xs c.loop-place.place 0 in
    record {
      items = pushed_next (map number c.loop-place.objects.items) xs whole (map number c.push_reserved.new.self.items) c.loop-place.place n (slice_get-get_or xs c.loop-place.place 0 c.loop-place-test.true)
          (ap (map number) c.push_reserved.ensures.items ∙ map-append number c.loop-place.objects.items (record { number = n } ∷ [])) c.loop-place.invariant.items;
      room = omega (arith, c.loop-place.invariant.room, c.push_reserved.ensures.len, c.push_reserved.ensures.capacity);
    }

pub returns : goal.returns
returns c =
    let xs = c.args.names.now in
    pushed_all (map (λ (o : ObjectId). o.number) c.loop-place.objects.items) xs (map (λ (o : ObjectId). o.number) c.args.objects.now.items ++ xs) c.loop-place.place (omega (arith, c.loop-place-test.false)) c.loop-place.invariant.items
