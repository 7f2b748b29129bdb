-- Monitors stand for the source's yet, once their objects were moved.
use Rattle.std.proofs.Common.{◌≡◌, ℕ, suc, List, [], ◌∷◌, Option, Some, None, refl, sym, ap, ◌∙◌}
use Rattle.std.specs.Prelude.{map, slice_get}
use Rattle.std.specs.Option.{option_map}
use Rattle.heap.specs.Heap.{Space, name_at}
use Rattle.semantics.specs.Thread as source
use Rattle.monitors.specs.declared.monitors.Monitor.{Monitor}
use Rattle.monitors.specs.Monitors.{addresses, held, monitor_of}
use Rattle.monitors.proofs.MonitorLaws.{held_alike}
use Rattle.machine_scenes.specs.MonitorsAgree.{AreThere, MonitorAgrees, MonitorsAgree}

-- which monitor it is shows without its address
agrees_alike : (o o' : Option Monitor) (q : Option source.Monitor) → option_map held o' ≡ option_map held o → MonitorAgrees o q → MonitorAgrees o' q
agrees_alike None None q same h = h
agrees_alike None (Some m') q same h = absurd (cc)
agrees_alike (Some m) None q same h = absurd (cc)
agrees_alike (Some m) (Some m') None same h = absurd h
agrees_alike (Some m) (Some m') (Some s) same h =
    let e : held m' ≡ held m = cc in
    (ap (λ (t : ℕ × ℕ × ℕ). t.0) e ∙ h.0, ap (λ (t : ℕ × ℕ × ℕ). t.1) e ∙ h.1, ap (λ (t : ℕ × ℕ × ℕ). t.2) e ∙ h.2)

-- so monitors agree that have other addresses alone
pub agree_alike : (ms ms' : List Monitor) (ss : List source.Monitor) → map held ms' ≡ map held ms → MonitorsAgree ms ss → MonitorsAgree ms' ss
agree_alike ms ms' ss same h = record {
  at = λ n. agrees_alike (monitor_of ms n) (monitor_of ms' n) (source.monitor_of ss n) (held_alike ms ms' n same) (h.at n);
  different = h.different;
}

module _ (space space' : Space) (to : ℕ → ℕ) where
  -- each of these addresses, once it is moved, has the name that it had
  abbrev pub KeepNames : List (Option ℕ) → Type 0
  KeepNames places = (i a n : ℕ) → slice_get places i ≡ Some (Some a) → name_at space a ≡ Some n → name_at space' (to a) ≡ Some n

  pub there_moved : (ms ms' : List Monitor) → map held ms' ≡ map held ms → addresses ms' ≡ map (option_map to) (addresses ms) → KeepNames (addresses ms) → AreThere space ms → AreThere space' ms'
  there_moved [] [] same follow names h = tt
  there_moved [] (m' ∷ ms') same follow names h = absurd (cc)
  there_moved (m ∷ ms) [] same follow names h = absurd (cc)
  there_moved (m ∷ ms) (m' ∷ ms') same follow names h =
      let e : held m' ≡ held m = cc in
      let same' : map held ms' ≡ map held ms = cc in
      let address : Some m'.address ≡ Some (to m.address) = cc in
      let place : m'.address ≡ to m.address = cc in
      let follow' : addresses ms' ≡ map (option_map to) (addresses ms) = cc in (
        ap (name_at space') place ∙ names 0 m.address m.object refl h.0 ∙ ap (λ (t : ℕ × ℕ × ℕ). Some t.0) (sym e),
        there_moved ms ms' same' follow' (λ i a n at. names (suc i) a n at) h.1,
      )

  -- The monitors hold what they held, their addresses are moved, and each has the name that it had: then they agree, and lie where they say.
  pub moved : (ms ms' : List Monitor) (ss : List source.Monitor) → map held ms' ≡ map held ms → addresses ms' ≡ map (option_map to) (addresses ms) → KeepNames (addresses ms) → MonitorsAgree ms ss → AreThere space ms
      → MonitorsAgree ms' ss × AreThere space' ms'
  moved ms ms' ss same follow names agree there = (agree_alike ms ms' ss same agree, there_moved ms ms' same follow names there)
