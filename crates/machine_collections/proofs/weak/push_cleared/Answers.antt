use Rattle.std.proofs.Common.{◌≡◌, ℕ, ◌+◌, ◌<◌, List, [], ◌++◌, Option, Some, None, drop, get_or, length, map, refl, sym, ap, ◌∙◌, append-nil, arith}
use Rattle.std.specs.Prelude.{slice_get, vec_capacity, vec_len}
use Rattle.std.specs.Option.{option_map, option_to_list}
use Rattle.std.proofs.lemmas.List.{length-map}
use Rattle.std.proofs.lemmas.Option.{slice_get-get_or}
use Rattle.base.proofs.Lists.{get_map}
use Rattle.semantics.specs.declared.object_id.ObjectId.{ObjectId}
use Rattle.machine_scenes.specs.Statics.{StaticReference}
use Rattle.machine_collections.specs.Clearing.{cleared_names, holds_cleared}
use Rattle.machine_collections.proofs.ListedNames.{listed_all, listed_next}
use Rattle.machine_collections.proofs.weak.push_cleared.Goals as goal
use Rattle.machine_collections.proofs.weak.push_cleared.Goals.{in-Some, in_default}

abbrev number : Option ObjectId → Option ℕ
number o = option_map (λ (x : ObjectId). x.number) o

none_of : (o : Option ℕ) → ((x : ℕ) → o ≡ Some x → ⊥) → option_to_list o ≡ []
none_of None h = refl
none_of (Some x) h = absurd (h x refl)

pub push_reserved-requires : goal.push_reserved-requires
push_reserved-requires c = omega (arith, c.loop-place.invariant.room, c.loop-place-test.true)

pub loop-place-preserved : goal.loop-place-preserved
loop-place-preserved c =
    let names = map number c.args.objects.now in
    let gone = map (holds_cleared c.args.weaks.now) c.args.statics.now in
    let i = c.loop-place.place in
    let done = c.loop-place.cleared.items in
    let found = c.cleared_name.result in
    let less : i < length c.args.objects.now = c.loop-place-test.true in
    let at = get_map number c.args.objects.now i (get_or c.args.objects.now i None) (slice_get-get_or c.args.objects.now i None less) in
    let held : slice_get c.args.statics.now i ≡ Some c.index-statics-place.result =
    slice_get-get_or c.args.statics.now i c.index-statics-place.result (omega (arith, less, c.requires.count)) ∙ ap (λ (s : StaticReference). Some s) (sym c.index-statics-place.is) in
    let there = get_map (holds_cleared c.args.weaks.now) c.args.statics.now i c.index-statics-place.result held in
    let next : (after : List ℕ) → after ≡ done ++ option_to_list found → after ++ cleared_names (drop (i + 1) names) (drop (i + 1) gone) ≡ c.args.cleared.now.items ++ cleared_names names gone =
    λ after change. listed_next names gone done after (c.args.cleared.now.items ++ cleared_names names gone) i _ _ found at there c.cleared_name.ensures change c.loop-place.invariant.items in
    elim c.match-cleared_name.branch [
      | in-Some w ↦ record {
        items = next c.match-cleared_name.cleared.items (ap (λ v. v.items) w.cleared-is ∙ w.push_reserved.ensures.items ∙ ap (λ (o : Option ℕ). done ++ option_to_list o) (sym w.in-Some.is));
        room = let long = ap (λ v. vec_len v) w.cleared-is in
            let large = ap (λ v. vec_capacity v) w.cleared-is in
            omega (arith, c.loop-place.invariant.room, w.push_reserved.ensures.len, w.push_reserved.ensures.capacity, long, large);
      }
      | in_default w ↦ record {
        items = next c.match-cleared_name.cleared.items (ap (λ v. v.items) w.cleared-is ∙ sym (ap (λ (l : List ℕ). done ++ l) (none_of found w.in_default.not-Some) ∙ append-nil done));
        room = let long = ap (λ v. vec_len v) w.cleared-is in
            let large = ap (λ v. vec_capacity v) w.cleared-is in
            omega (arith, c.loop-place.invariant.room, long, large);
      }
    ]

pub returns : goal.returns
returns c =
    let names = map number c.args.objects.now in
    listed_all names (map (holds_cleared c.args.weaks.now) c.args.statics.now) c.loop-place.cleared.items _ c.loop-place.place (omega (arith, length-map c.args.objects.now number, c.loop-place-test.false)) c.loop-place.invariant.items
