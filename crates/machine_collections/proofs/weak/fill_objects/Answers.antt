use Rattle.std.proofs.Common.{◌≡◌, ℕ, List, Option, [], ◌∷◌, ◌++◌, length, map, refl, ap, ◌∙◌, arith}
use Rattle.std.specs.Option.{option_map}
use Rattle.std.proofs.lemmas.List.{length-map, map-append}
use Rattle.std.proofs.lemmas.Option.{slice_get_read}
use Rattle.base.proofs.Lists.{get_map}
use Rattle.semantics.specs.declared.object_id.ObjectId.{ObjectId}
use Rattle.machine_collections.specs.Clearing.{weak_name, weak_names}
use Rattle.machine_collections.proofs.Counts.{left_next}
use Rattle.machine_collections.proofs.MovedRoots.{pushed_all, pushed_next}
use Rattle.machine_collections.proofs.weak.fill_objects.Goals as goal

abbrev number : Option ObjectId → Option ℕ
number o = option_map (λ (x : ObjectId). x.number) o

pub loop-held-init : goal.loop-held-init
loop-held-init c =
    let name = weak_name c.args.heap.now c.args.weaks.now in
    let all = weak_names c.args.heap.now c.args.weaks.now c.args.statics.now in
    let none = ap (λ (l : List (Option ObjectId)). length l) c.requires.none in
    record {
      names = ap (λ (l : List (Option ObjectId)). map number l ++ all) c.requires.none;
      room = omega (arith, none, c.args.objects.now.ok.0, c.requires.room, length-map c.args.statics.now name);
    }

pub push_reserved-requires : goal.push_reserved-requires
push_reserved-requires c =
    let xs = c.args.statics.now in
    let i = c.loop-held.held-index in
    let name = weak_name c.args.heap.now c.args.weaks.now in
    let at = slice_get_read xs (length xs) i c.held-item.result refl c.loop-held-test.true c.held-item.is in
    let left = left_next (weak_names c.args.heap.now c.args.weaks.now xs) i (name c.held-item.result) (get_map name xs i c.held-item.result at) in
    omega (arith, left, c.loop-held.invariant.room)

pub loop-held-preserved : goal.loop-held-preserved
loop-held-preserved c =
    let xs = c.args.statics.now in
    let i = c.loop-held.held-index in
    let name = weak_name c.args.heap.now c.args.weaks.now in
    let all = weak_names c.args.heap.now c.args.weaks.now xs in
    let at = get_map name xs i c.held-item.result (slice_get_read xs (length xs) i c.held-item.result refl c.loop-held-test.true c.held-item.is) in
    let more : map number c.push_reserved.new.self.items ≡ map number c.loop-held.objects.items ++ name c.held-item.result ∷ [] =
    ap (map number) c.push_reserved.ensures.items ∙ map-append number c.loop-held.objects.items (c.weak_object.result ∷ []) ∙ ap (λ (x : Option ℕ). map number c.loop-held.objects.items ++ x ∷ []) c.weak_object.ensures in
    let left = left_next all i (name c.held-item.result) at in
    record {
      names = pushed_next (map number c.loop-held.objects.items) all all (map number c.push_reserved.new.self.items) i (name c.held-item.result) at more c.loop-held.invariant.names;
      room = omega (arith, left, c.loop-held.invariant.room, c.push_reserved.ensures.len, c.push_reserved.ensures.capacity);
    }

pub returns : goal.returns
returns c =
    let xs = c.args.statics.now in
    let name = weak_name c.args.heap.now c.args.weaks.now in
    let all = weak_names c.args.heap.now c.args.weaks.now xs in
    pushed_all (map number c.loop-held.objects.items) all all c.loop-held.held-index (omega (arith, length-map xs name, c.loop-held-test.false)) c.loop-held.invariant.names
