use Rattle.std.proofs.Common.{◌≡◌, ℕ, ◌-◌, ◌++◌, List, drop, length, reverse, ap, ◌∙◌, arith}
use Rattle.std.proofs.lemmas.List.{map-append}
use Rattle.semantics.specs.Views.{names_of}
use Rattle.semantics.specs.declared.object_id.ObjectId.{ObjectId}
use Rattle.replay_objects.proofs.Lists.{map_reversed}
use Rattle.replay_objects.proofs.names.add_reversed.Goals as goal

pub returns : goal.returns
returns c =
    let all = c.args.all.now.items in
    let names = c.args.names.now in
    let number : ObjectId → ℕ = λ o. o.number in
    let end : length names - c.loop-done.done ≡ 0 = omega (arith, c.loop-done-test.false) in
    ap names_of c.loop-done.invariant
    ∙ ap (λ n. names_of (all ++ reverse (drop n names))) end
    ∙ map-append number all (reverse names)
    ∙ ap (λ (l : List ℕ). names_of all ++ l) (map_reversed number names)
