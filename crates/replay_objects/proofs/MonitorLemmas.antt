-- Monitors that are found or kept are so as those of the language.
use Rattle.std.proofs.Common.{◌≡◌, Bool, true, false, cond, List, [], ◌∷◌, map, Some, refl, ap}
use Rattle.std.specs.Prelude.{filter, find}
use Rattle.std.specs.Option.{option_map}
use Rattle.semantics.specs.Thread.{Monitor}
use Rattle.replay_objects.specs.declared.monitors.Monitor.{Monitor as InMemory}
use Rattle.replay_objects.specs.Monitors.{monitor_view}

module _ (p : Monitor → Bool) where
  pub kept_as : (ms : List InMemory) → map monitor_view (filter (λ m. p (monitor_view m)) ms) ≡ filter p (map monitor_view ms)
  kept_as [] = refl
  kept_as (m ∷ ms) = by_test (p (monitor_view m)) (kept_as ms)
    where
      by_test : (b : Bool) → map monitor_view (filter (λ m. p (monitor_view m)) ms) ≡ filter p (map monitor_view ms)
          → map monitor_view (cond b (m ∷ filter (λ m. p (monitor_view m)) ms) (filter (λ m. p (monitor_view m)) ms)) ≡ cond b (monitor_view m ∷ filter p (map monitor_view ms)) (filter p (map monitor_view ms))
      by_test true rest = ap (λ (l : List Monitor). monitor_view m ∷ l) rest
      by_test false rest = rest

  pub found_as : (ms : List InMemory) → option_map monitor_view (find (λ m. p (monitor_view m)) ms) ≡ find p (map monitor_view ms)
  found_as [] = refl
  found_as (m ∷ ms) = by_test (p (monitor_view m)) (found_as ms)
    where
      by_test : (b : Bool) → option_map monitor_view (find (λ m. p (monitor_view m)) ms) ≡ find p (map monitor_view ms)
          → option_map monitor_view (cond b (Some m) (find (λ m. p (monitor_view m)) ms)) ≡ cond b (Some (monitor_view m)) (find p (map monitor_view ms))
      by_test true rest = refl
      by_test false rest = rest
