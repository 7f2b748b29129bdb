-- A new object whose values have been written one after another.
use Rattle.std.proofs.Common.{◌≡◌, ℕ, ◌+◌, ◌-◌, ◌<◌, ◌≤◌, true, List, [], ◌∷◌, ◌++◌, length, map, Some, None, refl, sym, ap, subst, ◌∙◌, arith}
use Rattle.std.specs.Prelude.{nat_lt, nat_le, slice_index_or}
use Rattle.std.specs.List.{list_all}
use Rattle.std.proofs.lemmas.Bool.{and_parts}
use Rattle.std.proofs.lemmas.Bool.Decides.{nat_tests}
use Rattle.std.proofs.lemmas.List.{length-map}
use Rattle.std.proofs.lemmas.Option.{slice_get-get_or}
use Rattle.heap.specs.declared.value.Value.{Value}
use Rattle.heap.specs.Heap.{Space, end_of, left_of, with_block}
use Rattle.semantics.specs.Heap.{Heap}
use Rattle.semantics.specs.Object.{Object, ObjectValue, Number, Refers}
use Rattle.world_values.specs.CallArguments.{is_argument}
use Rattle.machine_threads.specs.Held.{held_value}
use Rattle.machine_scenes.specs.HeapAgrees.{ValueAgrees, ValuesAgree, IsTable, AreMade}
use Rattle.machine_scenes.proofs.HeapLaws.{IsNext}
use Rattle.machine_scenes.proofs.Loaded.{made_more}
use Rattle.machine_threads.proofs.LoadLemmas.{in_range}
use Rattle.machine_scenes.proofs.FilledBlocks.{cells_all, filled_block}

-- ---- what is held

value_agrees : (s : Space) (addresses : List ℕ) (count : ℕ) (v : ObjectValue) → IsTable s addresses count → is_argument (length addresses) v ≡ true → ValueAgrees s (held_value addresses v) v
value_agrees s addresses count (Number z) table given = (in_range z given, refl)
value_agrees s addresses count (Refers None) table given = tt
value_agrees s addresses count (Refers (Some n)) table given =
    let b = and_parts (nat_lt 0 n) (nat_le n (length addresses)) given in
    let low : 0 < n = grind (arith, nat_tests, b.0) in
    let high : n ≤ length addresses = grind (arith, nat_tests, b.1) in
    let e : n - 1 + 1 ≡ n = omega arith in
    table.named (n - 1) (slice_index_or addresses (n - 1) 0) (slice_get-get_or addresses (n - 1) 0 (omega arith)) ∙ ap (λ (m : ℕ). Some m) e

values_agree : (s : Space) (addresses : List ℕ) (count : ℕ) (vs : List ObjectValue) → IsTable s addresses count → list_all (is_argument (length addresses)) vs ≡ true → ValuesAgree s (map (held_value addresses) vs) vs
values_agree s addresses count [] table given = tt
values_agree s addresses count (v ∷ vs) table given =
    let b = and_parts (is_argument (length addresses) v) (list_all (is_argument (length addresses)) vs) given in
    (value_agrees s addresses count v table b.0, values_agree s addresses count vs table b.1)

-- ---- the highest block

-- all values
pub filled_made : (s : Space) (addresses : List ℕ) (objects : Heap) (class i : ℕ) (vs : List ObjectValue) → AreMade s addresses objects → 3 + length vs ≤ left_of s → list_all (is_argument (length addresses)) vs ≡ true → length vs ≤ i
    → AreMade (with_block s (filled_block s class (length addresses + 1) (map (held_value addresses) vs) i)) (addresses ++ end_of s ∷ []) (objects ++ record { class = class; values = vs } ∷ [])
filled_made s addresses objects class i vs h room given l =
    let o : Object = record { class = class; values = vs } in
    let held = map (held_value addresses) vs in
    let counted : length addresses ≡ length objects = h.table.counted in
    let whole = cells_all held i (omega (arith, length-map vs (held_value addresses))) in
    let next : IsNext s objects (filled_block s class (length addresses + 1) held i) o = record {
      after = refl;
      birth = ap (λ n. n + 1) counted;
      class = refl;
      values = subst (λ (ws : List Value). ValuesAgree s ws vs) (sym whole) (values_agree s addresses (length objects) vs h.table given);
      unpinned = refl;
    } in
    made_more s addresses objects (filled_block s class (length addresses + 1) held i) o h next room
