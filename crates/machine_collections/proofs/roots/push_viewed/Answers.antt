use Rattle.std.proofs.Common.{◌≡◌, ℕ, ◌+◌, ◌++◌, Bool, true, false, List, [], ◌∷◌, Some, drop, sym, ap, ◌∙◌, arith, append_assoc, if◌then◌else◌}
use Rattle.std.specs.Prelude.{nat_lt}
use Rattle.std.specs.Option.{option_map, option_map_or}
use Rattle.std.proofs.lemmas.Bool.{lt-ltb}
use Rattle.std.proofs.lemmas.List.{map-append}
use Rattle.heap.specs.Heap.{Block}
use Rattle.semantics.specs.declared.object_id.ObjectId.{ObjectId}
use Rattle.semantics.specs.Views.{names_of}
use Rattle.machine_collections.specs.Roots.{pinned_names}
use Rattle.machine_collections.proofs.HeldViews.{block_there, pinned_next, unpinned_test}
use Rattle.machine_collections.proofs.roots.push_viewed.Goals as goal
use Rattle.machine_collections.proofs.roots.push_viewed.Goals.{then-pins-gt0+in_ok-push, else-pins-gt0}

pub loop-place-preserved : goal.loop-place-preserved
loop-place-preserved c =
    let bs = c.args.heap.now.blocks in
    let i = c.loop-place.place in
    let names = names_of c.loop-place.names.items in
    let b = block_there bs i c.address-viewed.result c.address-viewed.ensures.address in
    let at = c.address-viewed.ensures.block ∙ b.1 in
    let further : List ℕ = pinned_names (drop (i + 1) bs) in
    let pins = c.pins.ensures ∙ ap (λ o. option_map_or (λ (x : Block). x.pins) o 0) at in
    let next = pinned_next bs i b.0 b.1 in
    elim c.if-pins-gt0.branch [
      | then-pins-gt0+in_ok-push w ↦
          let birth : b.0.birth ≡ w.object_there.result.number = let both : Some b.0.birth ≡ Some w.object_there.result.number = sym (ap (option_map (λ (x : Block). x.birth)) at) ∙ w.object_there.ensures in cc in
          let test : nat_lt 0 b.0.pins ≡ true = lt-ltb 0 b.0.pins (omega (arith, pins, w.if-pins-gt0.true)) in
          let now : pinned_names (drop i bs) ≡ w.object_there.result.number ∷ further = next ∙ ap (λ (t : Bool). if t then b.0.birth ∷ further else further) test ∙ ap (λ (n : ℕ). n ∷ further) birth in
          ap (λ v. names_of v.items ++ further) w.names-is
          ∙ ap (λ (l : List ObjectId). names_of l ++ further) w.in_ok-push.ensures.items
          ∙ ap (λ (l : List ℕ). l ++ further) (map-append (λ (o : ObjectId). o.number) c.loop-place.names.items _)
          ∙ append_assoc names (w.object_there.result.number ∷ []) further
          ∙ ap (λ (l : List ℕ). names ++ l) (sym now)
          ∙ c.loop-place.invariant
      | else-pins-gt0 w ↦
          let test : nat_lt 0 b.0.pins ≡ false = unpinned_test b.0.pins (omega (arith, pins, w.if-pins-gt0.false)) in
          let now : pinned_names (drop i bs) ≡ further = next ∙ ap (λ (t : Bool). if t then b.0.birth ∷ further else further) test in
          ap (λ v. names_of v.items ++ further) w.names-is ∙ ap (λ (l : List ℕ). names ++ l) (sym now) ∙ c.loop-place.invariant
    ]
