-- A list in memory whose items were written back as they were.
use mathlib.Core.HLevel.{is_prop→PathP}
use native.Mathlib.Bridge.{le_prop}
use native.Mathlib.Nat.{ℕ_set}
use Rattle.std.proofs.Common.{◌≡◌, ◌≤◌, List, length}
use Rattle.std.specs.Global.{Vec}

module _ {X : Type 0} (v : Vec X) where
  -- with these items
  abbrev pub holding : (xs : List X) → (v.len ≡ length xs) × (v.len ≤ v.cap) → Vec X
  holding xs ok = record { ptr = v.ptr; len = v.len; cap = v.cap; alloc = v.alloc; items = xs; ok = ok; small = v.small }

  pub same_list : (xs : List X) (ok : (v.len ≡ length xs) × (v.len ≤ v.cap)) → xs ≡ v.items → holding xs ok ≡ v
  same_list xs ok same = λ i.
      record {
        ptr = v.ptr;
        len = v.len;
        cap = v.cap;
        alloc = v.alloc;
        items = same i;
        ok = (is_prop→PathP (λ j. v.len ≡ length (same j)) (λ j. ℕ_set v.len (length (same j))) ok.0 v.ok.0 i, is_prop→PathP (λ j. v.len ≤ v.cap) (λ j. le_prop) ok.1 v.ok.1 i);
        small = v.small;
      }
