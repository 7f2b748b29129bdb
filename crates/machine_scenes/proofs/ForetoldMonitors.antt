-- What entering and leaving a monitor would come to tells who owns it in the source, and the other way round.
use Rattle.std.proofs.Common.{◌≡◌, ℕ, ◌<◌, Bool, true, false, cond, eqb, List, Option, Some, None, refl, sym, ap, ◌∙◌, arith, eqb-true, ltb-true}
use Rattle.std.specs.Prelude.{nat_lt}
use Rattle.semantics.specs.Thread as source
use Rattle.monitors.specs.declared.monitors.Monitor.{Monitor}
use Rattle.monitors.specs.declared.monitors.Enter.TheVariants.{Entered, Limit, Busy}
use Rattle.monitors.specs.declared.monitors.Exit.TheVariants.{Left, NotOwner}
use Rattle.monitors.specs.Monitors.{entering, leaving, monitor_of}
use Rattle.monitors.proofs.MonitorLaws.{enters_more, leaves_own}
use Rattle.machine_scenes.specs.MonitorsAgree.{MonitorAgrees, MonitorsAgree}

-- thread k may enter: no other thread owns the monitor, and thread k has entered it fewer times than it may
pub record MayEnter (k : ℕ) (o : Option source.Monitor) : Type 0 where
  pub own : (s : source.Monitor) → o ≡ Some s → s.owner ≡ k
  pub few : (s : source.Monitor) → o ≡ Some s → s.count < 255

-- thread k owns the monitor
pub record Owns (k : ℕ) (o : Option source.Monitor) : Type 0 where
  pub monitor : source.Monitor
  pub owned : o ≡ Some monitor
  pub own : monitor.owner ≡ k

module _ (k : ℕ) where
  one_entered : (m : Monitor) (s : source.Monitor) → MonitorAgrees (Some m) (Some s) → Entered ≡ entering k (Some m) → (s.owner ≡ k) × (s.count < 255)
  one_entered m s agrees answer = by_tests (eqb m.owner k) refl (nat_lt m.count 255) refl answer
    where
      by_tests : (a : Bool) → eqb m.owner k ≡ a → (b : Bool) → nat_lt m.count 255 ≡ b → Entered ≡ cond a (cond b Entered Limit) Busy → (s.owner ≡ k) × (s.count < 255)
      by_tests false own b few e = absurd (cc)
      by_tests true own false few e = absurd (cc)
      by_tests true own true few e = (sym agrees.1 ∙ eqb-true m.owner k own, omega (arith, agrees.2, ltb-true m.count 255 few))

  entered_told : (o : Option Monitor) (p : Option source.Monitor) → MonitorAgrees o p → Entered ≡ entering k o → MayEnter k p
  entered_told None None agrees answer = record { own = λ s is. absurd (cc); few = λ s is. absurd (cc) }
  entered_told None (Some x) agrees answer = absurd agrees
  entered_told (Some m) None agrees answer = absurd agrees
  entered_told (Some m) (Some x) agrees answer =
      let t = one_entered m x agrees answer in
      record {
        own = λ s is. let same : x ≡ s = cc in ap (λ (y : source.Monitor). y.owner) (sym same) ∙ t.0;
        few = λ s is. let same : x ≡ s = cc in let count : x.count ≡ s.count = ap (λ (y : source.Monitor). y.count) same in omega (arith, t.1, count);
      }

  entered_so : (o : Option Monitor) (p : Option source.Monitor) → MonitorAgrees o p → MayEnter k p → Entered ≡ entering k o
  entered_so None p agrees may = refl
  entered_so (Some m) None agrees may = absurd agrees
  entered_so (Some m) (Some s) agrees may = sym (enters_more k m (agrees.1 ∙ may.own s refl) (omega (arith, agrees.2, may.few s refl)))

  left_told : (o : Option Monitor) (p : Option source.Monitor) → MonitorAgrees o p → Left ≡ leaving k o → Owns k p
  left_told None p agrees answer = absurd (cc)
  left_told (Some m) None agrees answer = absurd agrees
  left_told (Some m) (Some s) agrees answer = by_test (eqb m.owner k) refl answer
    where
      by_test : (a : Bool) → eqb m.owner k ≡ a → Left ≡ cond a Left NotOwner → Owns k (Some s)
      by_test true own e = record { monitor = s; owned = refl; own = sym agrees.1 ∙ eqb-true m.owner k own }
      by_test false own e = absurd (cc)

  left_so : (o : Option Monitor) (p : Option source.Monitor) → MonitorAgrees o p → Owns k p → Left ≡ leaving k o
  left_so None None agrees owns = absurd (let no : None ≡ Some owns.monitor = owns.owned in cc)
  left_so None (Some x) agrees owns = absurd agrees
  left_so (Some m) None agrees owns = absurd agrees
  left_so (Some m) (Some x) agrees owns =
      let is : Some x ≡ Some owns.monitor = owns.owned in
      let same : x ≡ owns.monitor = cc in
      sym (leaves_own k m (agrees.1 ∙ ap (λ (y : source.Monitor). y.owner) same ∙ owns.own))

  module _ (ms : List Monitor) (ss : List source.Monitor) (h : MonitorsAgree ms ss) (n : ℕ) where
    pub may_enter : Entered ≡ entering k (monitor_of ms n) → MayEnter k (source.monitor_of ss n)
    may_enter answer = entered_told (monitor_of ms n) (source.monitor_of ss n) (h.at n) answer

    pub enters_so : MayEnter k (source.monitor_of ss n) → Entered ≡ entering k (monitor_of ms n)
    enters_so may = entered_so (monitor_of ms n) (source.monitor_of ss n) (h.at n) may

    pub owns : Left ≡ leaving k (monitor_of ms n) → Owns k (source.monitor_of ss n)
    owns answer = left_told (monitor_of ms n) (source.monitor_of ss n) (h.at n) answer

    pub leaves_so : Owns k (source.monitor_of ss n) → Left ≡ leaving k (monitor_of ms n)
    leaves_so own = left_so (monitor_of ms n) (source.monitor_of ss n) (h.at n) own
