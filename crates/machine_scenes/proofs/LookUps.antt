-- What a look-up in a table finds.
use Rattle.std.proofs.Common.{◌≡◌, ℕ, List, length, Option, Some, None, Bor, refl, sym, ap, ◌∙◌}
use Rattle.std.specs.Prelude.{slice_get, unwrap_or}
use Rattle.std.specs.Option.{option_copied}
use Rattle.std.specs.Slice.{IsItemAt}
use Rattle.machine_scenes.specs.Given.{held_in}
use Rattle.std.proofs.lemmas.Option.{slice_get_past, slice_get_read}

pub copied_found : {X : Type 0} (xs : List X) (i : ℕ) (found : Option (Bor X)) → IsItemAt xs i found → option_copied found ≡ slice_get xs i
copied_found xs i None h = sym (slice_get_past xs i h.3)
copied_found xs i (Some x) h = sym (slice_get_read xs (length xs) i x.now refl h.3.0 h.1)

-- an entry that may be none, and none past the end
pub held_found : {X : Type 0} (xs : List (Option X)) (i : ℕ) (found : Option (Bor (Option X))) → IsItemAt xs i found → unwrap_or (option_copied found) None ≡ held_in (slice_get xs i)
held_found {X} xs i found h = by (option_copied found) ∙ ap (λ (o : Option (Option X)). held_in o) (copied_found xs i found h)
  where
    by : (o : Option (Option X)) → unwrap_or o None ≡ held_in o
    by None = refl
    by (Some x) = refl
