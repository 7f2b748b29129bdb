-- A class that passes a test is found in a table, and the built-in table is as long as it is.
use Rattle.std.proofs.Common.{◌≡◌, ℕ, zero, suc, ◌+◌, Bool, true, false, [], ◌∷◌, length, slice_get, Some, refl, ap, ◌∙◌, if◌then◌else◌}
use Rattle.std.specs.List.{position_from}
use Rattle.class_rules.specs.BuiltIns.{built_ins}
use Rattle.class_rules.specs.Class.{Class, Classes}

pub found_from : (test : Class → Bool) (n : ℕ) (cs : Classes) (i : ℕ) (c : Class) → slice_get cs i ≡ Some c → test c ≡ true → (j : ℕ) × (position_from test n cs ≡ Some j)
found_from test n [] i c there passes = absurd (cc)
found_from test n (d ∷ cs) zero c there passes =
    let same : d ≡ c = cc in
    (n, ap (λ (b : Bool). if b then Some n else position_from test (n + 1) cs) (ap test same ∙ passes))
found_from test n (d ∷ cs) (suc i) c there passes = by_test (test d) (found_from test (n + 1) cs i c there passes)
  where
    by_test : (b : Bool) → (j : ℕ) × (position_from test (n + 1) cs ≡ Some j) → (j : ℕ) × ((if b then Some n else position_from test (n + 1) cs) ≡ Some j)
    by_test true later = (n, refl)
    by_test false later = later

pub built_ins_long : length built_ins ≡ 42
unfolding built_ins
built_ins_long = refl
