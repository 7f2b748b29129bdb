-- The objects whose monitors are owned: where they lie, and what they are named in the source.
use Rattle.std.proofs.Common.{◌≡◌, ℕ, Bool, true, false, cond, eqb, List, [], ◌∷◌, map, Option, Some, None, refl, sym, ap, ◌∙◌, subst, ◌⊎◌, ⊎_elim}
use Rattle.std.specs.Prelude.{◌||◌}
use Rattle.std.proofs.lemmas.Bool.{false≢true}
use Rattle.std.proofs.lemmas.Bool.Decides.{eqb_tells}
use Rattle.heap.specs.Heap.{Space, name_at}
use Rattle.tables.specs.References.{references_in}
use Rattle.monitors.specs.declared.monitors.Monitor.{Monitor}
use Rattle.monitors.specs.Monitors.{addresses, held, monitor_of}
use Rattle.semantics.specs.Reachable.{is_in}
use Rattle.semantics.specs.Thread as source
use Rattle.semantics.proofs.ReachableLemmas.{In, in_cases, in_head, in_tail}
use Rattle.machine_scenes.specs.MonitorsAgree.{AreThere, MonitorAgrees, MonitorsAgree}
use Rattle.machine_collections.specs.Moving.{moved_monitors, moved_slots}

-- where the objects of monitors lie
abbrev pub monitor_addresses : List Monitor → List ℕ
monitor_addresses ms = map (λ (m : Monitor). m.address) ms

-- which objects of the source have owners
abbrev pub monitor_names : List source.Monitor → List ℕ
monitor_names ss = map (λ (s : source.Monitor). s.object) ss

pub monitors_are : (ms : List Monitor) → references_in (addresses ms) ≡ monitor_addresses ms
monitors_are [] = refl
monitors_are (m ∷ ms) = ap (λ (l : List ℕ). m.address ∷ l) (monitors_are ms)

-- ---- names

-- an object that has an owner in the source has a monitor there, and the other way round
monitor_named : (ss : List source.Monitor) (n : ℕ) → In (monitor_names ss) n → (s : source.Monitor) × (source.monitor_of ss n ≡ Some s)
monitor_named [] n k = absurd (false≢true k)
monitor_named (s ∷ ss) n k = by_test (eqb s.object n) (monitor_named ss n) k
  where
    by_test : (b : Bool) → (In (monitor_names ss) n → (t : source.Monitor) × (source.monitor_of ss n ≡ Some t)) → (b || is_in (monitor_names ss) n) ≡ true → (t : source.Monitor) × (cond b (Some s) (source.monitor_of ss n) ≡ Some t)
    by_test true later k = (s, refl)
    by_test false later k = later k

name_monitored : (ss : List source.Monitor) (n : ℕ) (s : source.Monitor) → source.monitor_of ss n ≡ Some s → In (monitor_names ss) n
name_monitored [] n s is = absurd (cc)
name_monitored (t ∷ ss) n s is = by_test (eqb t.object n) (name_monitored ss n s) is
  where
    by_test : (b : Bool) → (source.monitor_of ss n ≡ Some s → In (monitor_names ss) n) → cond b (Some t) (source.monitor_of ss n) ≡ Some s → (b || is_in (monitor_names ss) n) ≡ true
    by_test true later e = refl
    by_test false later e = later e

-- where one of the two has a monitor, the other has one
found_there : (o : Option Monitor) (p : Option source.Monitor) (s : source.Monitor) → MonitorAgrees o p → p ≡ Some s → (m : Monitor) × (o ≡ Some m)
found_there o None s agrees is = absurd (cc)
found_there None (Some t) s agrees is = absurd agrees
found_there (Some m) (Some t) s agrees is = (m, refl)

found_here : (o : Option Monitor) (p : Option source.Monitor) (m : Monitor) → MonitorAgrees o p → o ≡ Some m → (s : source.Monitor) × (p ≡ Some s)
found_here None p m agrees is = absurd (cc)
found_here (Some n) None m agrees is = absurd agrees
found_here (Some n) (Some s) m agrees is = (s, refl)

module _ (space : Space) where
  -- an object that has a monitor lies there
  lies_there : (ms : List Monitor) (n : ℕ) (m : Monitor) → AreThere space ms → monitor_of ms n ≡ Some m → (name_at space m.address ≡ Some n) × In (monitor_addresses ms) m.address
  lies_there [] n m there is = absurd (cc)
  lies_there (x ∷ ms) n m there is =
      ⊎_elim
      (λ (t : (eqb x.object n ≡ true) × (x.object ≡ n)).
      let found : Some x ≡ Some m = sym (ap (λ (b : Bool). cond b (Some x) (monitor_of ms n)) t.0) ∙ is in
      let same : x ≡ m = cc in (
        subst (λ (y : Monitor). name_at space y.address ≡ Some n) same (there.0 ∙ ap (λ (k : ℕ). Some k) t.1),
        subst (λ (y : Monitor). In (x.address ∷ monitor_addresses ms) y.address) same (in_head x.address (monitor_addresses ms)),
      ))
      (λ (t : (eqb x.object n ≡ false) × (x.object ≡ n → ⊥)).
      let r = lies_there ms n m there.1 (sym (ap (λ (b : Bool). cond b (Some x) (monitor_of ms n)) t.0) ∙ is) in
      (r.0, in_tail x.address (monitor_addresses ms) m.address r.1))
      (eqb_tells x.object n)

  -- what lies at the address of a monitor has one
  has_monitor : (ms : List Monitor) (a : ℕ) → AreThere space ms → In (monitor_addresses ms) a → (n : ℕ) × (m : Monitor) × (name_at space a ≡ Some n) × (monitor_of ms n ≡ Some m)
  has_monitor [] a there k = absurd (false≢true k)
  has_monitor (x ∷ ms) a there k =
      ⊎_elim
      (λ (same : x.address ≡ a). let r = first (eqb x.object x.object) (eqb_tells x.object x.object) in (x.object, x, ap (name_at space) (sym same) ∙ there.0, r))
      (λ (l : In (monitor_addresses ms) a). let r = has_monitor ms a there.1 l in let s = later (eqb x.object r.0) r.0 r.1 r.3 in (r.0, s.0, r.2, s.1))
      (in_cases x.address (monitor_addresses ms) a k)
    where
      first : (b : Bool) → ((b ≡ true) × (x.object ≡ x.object)) ⊎ ((b ≡ false) × (x.object ≡ x.object → ⊥)) → cond b (Some x) (monitor_of ms x.object) ≡ Some x
      first true t = refl
      first false t = ⊎_elim (λ (u : (false ≡ true) × (x.object ≡ x.object)). absurd (false≢true u.0)) (λ (u : (false ≡ false) × (x.object ≡ x.object → ⊥)). absurd (u.1 refl)) t

      later : (b : Bool) (n : ℕ) (m : Monitor) → monitor_of ms n ≡ Some m → (y : Monitor) × (cond b (Some x) (monitor_of ms n) ≡ Some y)
      later true n m is = (x, refl)
      later false n m is = (m, is)

  -- an object that has an owner in the source lies at an address of the monitors
  pub monitors_place : (ms : List Monitor) (ss : List source.Monitor) (n : ℕ) → MonitorsAgree ms ss → AreThere space ms → In (monitor_names ss) n → (a : ℕ) × (name_at space a ≡ Some n) × In (monitor_addresses ms) a
  monitors_place ms ss n agree there k =
      let s = monitor_named ss n k in
      let m = found_there (monitor_of ms n) (source.monitor_of ss n) s.0 (agree.at n) s.1 in
      let r = lies_there ms n m.0 there m.1 in
      (m.0.address, r.0, r.1)

  -- and what lies at one has an owner there
  pub monitors_name : (ms : List Monitor) (ss : List source.Monitor) (a : ℕ) → MonitorsAgree ms ss → AreThere space ms → In (monitor_addresses ms) a → (n : ℕ) × (name_at space a ≡ Some n) × In (monitor_names ss) n
  monitors_name ms ss a agree there k =
      let r = has_monitor ms a there k in
      let s = found_here (monitor_of ms r.0) (source.monitor_of ss r.0) r.1 (agree.at r.0) r.3 in
      (r.0, r.2, name_monitored ss r.0 s.0 s.1)

-- ---- moves

pub held_moved : (f : ℕ → ℕ) (ms : List Monitor) → map held (moved_monitors f ms) ≡ map held ms
held_moved f [] = refl
held_moved f (m ∷ ms) = ap (λ (l : List (ℕ × ℕ × ℕ)). held m ∷ l) (held_moved f ms)

pub addresses_moved : (f : ℕ → ℕ) (ms : List Monitor) → addresses (moved_monitors f ms) ≡ moved_slots f (addresses ms)
addresses_moved f [] = refl
addresses_moved f (m ∷ ms) = ap (λ (l : List (Option ℕ)). Some (f m.address) ∷ l) (addresses_moved f ms)

-- monitors are what they hold, and where
same_monitors : (xs ys : List Monitor) → map held xs ≡ map held ys → addresses xs ≡ addresses ys → xs ≡ ys
same_monitors [] [] h a = refl
same_monitors [] (y ∷ ys) h a = absurd (cc)
same_monitors (x ∷ xs) [] h a = absurd (cc)
same_monitors (x ∷ xs) (y ∷ ys) h a =
    let what : held x ≡ held y = cc in
    let at : x.address ≡ y.address = cc in
    let rest : map held xs ≡ map held ys = cc in
    let further : addresses xs ≡ addresses ys = cc in
    let same : x ≡ y = λ i. record { object = (what i).0; address = at i; owner = (what i).1; count = (what i).2 } in
    λ i. same i ∷ same_monitors xs ys rest further i

-- monitors that hold the same, at the new addresses
pub monitors_put : (f : ℕ → ℕ) (ms after : List Monitor) → map held after ≡ map held ms → addresses after ≡ moved_slots f (addresses ms) → after ≡ moved_monitors f ms
monitors_put f ms after h a = same_monitors after (moved_monitors f ms) (h ∙ sym (held_moved f ms)) (a ∙ sym (addresses_moved f ms))
