-- The contracts of `enter`, `exit` and `drop_thread` say what the source's effects do.
use Rattle.std.proofs.Common.{◌≡◌, ◌≢◌, ℕ, ◌+◌, ◌-◌, Bool, true, false, cond, not, eqb, List, [], ◌∷◌, Option, Some, None, refl, sym, ap, ◌∙◌, subst, ⊎_elim}
use Rattle.std.specs.Prelude.{nat_lt, negsuc}
use Rattle.std.proofs.lemmas.Bool.{eq-eqb, ne_eqb}
use Rattle.std.proofs.lemmas.Bool.Decides.{eqb_tells}
use Rattle.class_rules.specs.BuiltIns.{illegal_monitor_state}
use Rattle.class_rules.specs.Class.{Classes}
use Rattle.semantics.specs.Answer.{Answer, Disowns, Gives, Owns, Raises, effect_of}
use Rattle.semantics.specs.AnswerTable.{monitor_entered, monitor_left}
use Rattle.semantics.specs.Arguments.{Actual}
use Rattle.semantics.specs.Thread as source
use Rattle.semantics.specs.Thread.{BuffersInUse}
use Rattle.semantics.specs.declared.value.Value.TheVariants.{Int}
use Rattle.semantics.specs.CallEffects.{CallEffect, ScalarResult, monitor, monitors_effect}
use Rattle.monitors.specs.declared.monitors.Monitor.{Monitor}
use Rattle.monitors.specs.declared.monitors.Object.{Object}
use Rattle.monitors.specs.declared.monitors.Enter.TheVariants.{Entered, Limit, Busy}
use Rattle.monitors.specs.declared.monitors.Exit.TheVariants.{Left, NotOwner}
use Rattle.monitors.specs.Monitors.{ChangesAt, entered, entering, kept_from, leaving, left, monitor_of}
use Rattle.machine_scenes.specs.MonitorsAgree.{AreDifferent, MonitorAgrees, MonitorsAgree}

module _ {P : Type 0} (n m : ℕ) where
  by_equal : (eqb n m ≡ true → n ≡ m → P) → (eqb n m ≡ false → n ≢ m → P) → P
  by_equal same other = ⊎_elim (λ (t : (eqb n m ≡ true) × (n ≡ m)). same t.0 t.1) (λ (t : (eqb n m ≡ false) × (n ≡ m → ⊥)). other t.0 t.1) (eqb_tells n m)

-- ---- the source's monitors

own_first : (s : source.Monitor) (ss : List source.Monitor) (n : ℕ) → s.object ≡ n → source.monitor_of (s ∷ ss) n ≡ Some s
own_first s ss n e = ap (λ b. cond b (Some s) (source.monitor_of ss n)) (eq-eqb s.object n e)

other_first : (s : source.Monitor) (ss : List source.Monitor) (n : ℕ) → s.object ≢ n → source.monitor_of (s ∷ ss) n ≡ source.monitor_of ss n
other_first s ss n ne = ap (λ b. cond b (Some s) (source.monitor_of ss n)) (ne_eqb s.object n ne)

-- without that of an object
without_here : (ss : List source.Monitor) (n : ℕ) → source.monitor_of (source.without_monitor ss n) n ≡ None
without_here [] n = refl
without_here (s ∷ ss) n = by_test (eqb s.object n) refl (without_here ss n)
  where
    by_test : (b : Bool) → eqb s.object n ≡ b → source.monitor_of (source.without_monitor ss n) n ≡ None → source.monitor_of (cond (not b) (s ∷ source.without_monitor ss n) (source.without_monitor ss n)) n ≡ None
    by_test true e rest = rest
    by_test false e rest = ap (λ c. cond c (Some s) (source.monitor_of (source.without_monitor ss n) n)) e ∙ rest

without_other : (ss : List source.Monitor) (n k : ℕ) → k ≢ n → source.monitor_of (source.without_monitor ss n) k ≡ source.monitor_of ss k
without_other [] n k ne = refl
without_other (s ∷ ss) n k ne =
    by_equal s.object n
    (λ same e.
    ap (λ b. source.monitor_of (cond (not b) (s ∷ source.without_monitor ss n) (source.without_monitor ss n)) k) same ∙ without_other ss n k ne ∙ sym (other_first s ss k (λ h. ne (sym h ∙ e))))
    (λ other apart.
    ap (λ b. source.monitor_of (cond (not b) (s ∷ source.without_monitor ss n) (source.without_monitor ss n)) k) other ∙ ap (λ o. cond (eqb s.object k) (Some s) o) (without_other ss n k ne))

without_different : (ss : List source.Monitor) (n : ℕ) → AreDifferent ss → AreDifferent (source.without_monitor ss n)
without_different [] n h = tt
without_different (s ∷ ss) n h =
    by_equal s.object n
    (λ same e. subst (λ b. AreDifferent (cond (not b) (s ∷ source.without_monitor ss n) (source.without_monitor ss n))) (sym same) (without_different ss n h.1))
    (λ other apart. subst (λ b. AreDifferent (cond (not b) (s ∷ source.without_monitor ss n) (source.without_monitor ss n))) (sym other) (without_other ss n s.object apart ∙ h.0, without_different ss n h.1))

-- without those of a thread
abbrev source_kept : ℕ → Option source.Monitor → Option source.Monitor
source_kept k None = None
source_kept k (Some s) = cond (eqb s.owner k) None (Some s)

owner_kept : (ss : List source.Monitor) (k n : ℕ) → AreDifferent ss → source.monitor_of (source.without_owner ss k) n ≡ source_kept k (source.monitor_of ss n)
owner_kept [] k n h = refl
owner_kept (s ∷ ss) k n h =
    let rest = owner_kept ss k n h.1 in
    by_equal s.object n
    (λ same e.
    let none : source.monitor_of ss n ≡ None = ap (source.monitor_of ss) (sym e) ∙ h.0 in
    let gone : source.monitor_of (source.without_owner ss k) n ≡ None = rest ∙ ap (source_kept k) none in
    by_owner (eqb s.owner k) n same gone ∙ ap (source_kept k) (sym (own_first s ss n e)))
    (λ other ne. past (not (eqb s.owner k)) n other ∙ rest ∙ ap (source_kept k) (sym (other_first s ss n ne)))
  where
    by_owner : (b : Bool) (j : ℕ) → eqb s.object j ≡ true → source.monitor_of (source.without_owner ss k) j ≡ None → source.monitor_of (cond (not b) (s ∷ source.without_owner ss k) (source.without_owner ss k)) j ≡ cond b None (Some s)
    by_owner true j same gone = gone
    by_owner false j same gone = ap (λ b. cond b (Some s) (source.monitor_of (source.without_owner ss k) j)) same

    past : (b : Bool) (j : ℕ) → eqb s.object j ≡ false → source.monitor_of (cond b (s ∷ source.without_owner ss k) (source.without_owner ss k)) j ≡ source.monitor_of (source.without_owner ss k) j
    past true j other = ap (λ b. cond b (Some s) (source.monitor_of (source.without_owner ss k) j)) other
    past false j other = refl

owner_different : (ss : List source.Monitor) (k : ℕ) → AreDifferent ss → AreDifferent (source.without_owner ss k)
owner_different [] k h = tt
owner_different (s ∷ ss) k h = by_owner (not (eqb s.owner k)) (owner_different ss k h.1)
  where
    by_owner : (b : Bool) → AreDifferent (source.without_owner ss k) → AreDifferent (cond b (s ∷ source.without_owner ss k) (source.without_owner ss k))
    by_owner true rest = (owner_kept ss k s.object h.1 ∙ ap (source_kept k) h.0, rest)
    by_owner false rest = rest

-- ---- one object's monitor changes

-- in the source it comes first, or it goes
put_first : (ms ms' : List Monitor) (ss : List source.Monitor) (n : ℕ) (m : Monitor) (s : source.Monitor) → MonitorsAgree ms ss → ChangesAt ms ms' n (Some m) → s.object ≡ n → MonitorAgrees (Some m) (Some s) → MonitorsAgree ms' (s ∷ source.without_monitor ss n)
put_first ms ms' ss n m s h changes named agrees = record {
  at = λ k. by_equal k n
      (λ same e. subst (λ j. MonitorAgrees (monitor_of ms' j) (source.monitor_of (s ∷ source.without_monitor ss n) j)) (sym e)
      (subst (λ o. MonitorAgrees o (source.monitor_of (s ∷ source.without_monitor ss n) n)) (sym changes.changed)
      (subst (λ o. MonitorAgrees (Some m) o) (sym (own_first s (source.without_monitor ss n) n named)) agrees)))
      (λ other ne. subst (λ o. MonitorAgrees o (source.monitor_of (s ∷ source.without_monitor ss n) k)) (sym (changes.others k ne))
      (subst (λ o. MonitorAgrees (monitor_of ms k) o) (sym (other_first s (source.without_monitor ss n) k (λ e. ne (sym e ∙ named)) ∙ without_other ss n k ne)) (h.at k)));
  different = (ap (source.monitor_of (source.without_monitor ss n)) named ∙ without_here ss n, without_different ss n h.different);
}

goes : (ms ms' : List Monitor) (ss : List source.Monitor) (n : ℕ) → MonitorsAgree ms ss → ChangesAt ms ms' n None → MonitorsAgree ms' (source.without_monitor ss n)
goes ms ms' ss n h changes = record {
  at = λ k. by_equal k n
      (λ same e. subst (λ j. MonitorAgrees (monitor_of ms' j) (source.monitor_of (source.without_monitor ss n) j)) (sym e)
      (subst (λ o. MonitorAgrees o (source.monitor_of (source.without_monitor ss n) n)) (sym changes.changed)
      (subst (λ o. MonitorAgrees None o) (sym (without_here ss n)) tt)))
      (λ other ne. subst (λ o. MonitorAgrees o (source.monitor_of (source.without_monitor ss n) k)) (sym (changes.others k ne))
      (subst (λ o. MonitorAgrees (monitor_of ms k) o) (sym (without_other ss n k ne)) (h.at k)));
  different = without_different ss n h.different;
}

-- what the source's state is after an effect that changes monitors alone
pub record Does (effect : CallEffect) (shared : source.Shared) (t : source.Thread) (ms' : List Monitor) : Type 0 where
  pub monitors : List source.Monitor
  pub is : effect ≡ monitors_effect shared t monitors
  pub agree : MonitorsAgree ms' monitors

-- a call of thread k whose answer changes a monitor
module _ (classes : Classes) (in_use : BuffersInUse) (k : ℕ) (shared : source.Shared) (t : source.Thread) (args : List Actual) (ms ms' : List Monitor) (h : MonitorsAgree ms shared.monitors) where
  -- the effect of an answer
  abbrev of : Answer → CallEffect
  of a = effect_of classes in_use k shared t args a

  -- ---- entering

  enters_at : (object : Object) (o : Option Monitor) (p : Option source.Monitor) → ((s : source.Monitor) → p ≡ Some s → s.object ≡ object.name) → MonitorAgrees o p → Entered ≡ entering k o
      → ChangesAt ms ms' object.name (Some (entered object k o)) → Does (of (monitor_entered object.name p)) shared t ms'
  unfolding effect_of
  enters_at object None None named agrees enters changes = record {
    monitors = monitor object.name k 1 ∷ source.without_monitor shared.monitors object.name;
    is = refl;
    agree = put_first ms ms' shared.monitors object.name (entered object k None) (monitor object.name k 1) h changes refl (refl, refl, refl);
  }
  enters_at object None (Some s) named agrees enters changes = absurd agrees
  enters_at object (Some m) None named agrees enters changes = absurd agrees
  enters_at object (Some m) (Some s) named agrees enters changes = by_tests (eqb m.owner k) refl (nat_lt m.count 255) refl enters
    where
      by_tests : (a : Bool) → eqb m.owner k ≡ a → (b : Bool) → nat_lt m.count 255 ≡ b → Entered ≡ cond a (cond b Entered Limit) Busy → Does (of (cond (nat_lt s.count 255) (Owns object.name (s.count + 1)) (Gives (ScalarResult (Int (negsuc 0)))))) shared t ms'
      by_tests false own b more e = absurd (cc)
      by_tests true own false more e = absurd (cc)
      by_tests true own true more e =
          let below : nat_lt s.count 255 ≡ true = ap (λ c. nat_lt c 255) (sym agrees.2) ∙ more in
          let owner : m.owner ≡ k = by_equal m.owner k (λ same e. e) (λ other apart. let clash : true ≡ false = sym own ∙ other in absurd (cc)) in
          record {
            monitors = monitor object.name k (s.count + 1) ∷ source.without_monitor shared.monitors object.name;
            is = ap (λ c. of (cond c (Owns object.name (s.count + 1)) (Gives (ScalarResult (Int (negsuc 0)))))) below;
            agree = put_first ms ms' shared.monitors object.name (record m { count = m.count + 1 }) (monitor object.name k (s.count + 1)) h changes refl (agrees.0 ∙ named s refl, owner, ap (λ c. c + 1) agrees.2);
          }

  -- ---- leaving

  leaves_at : (n : ℕ) (o : Option Monitor) (p : Option source.Monitor) → ((s : source.Monitor) → p ≡ Some s → s.object ≡ n) → MonitorAgrees o p → Left ≡ leaving k o
      → ChangesAt ms ms' n (left o) → Does (of (monitor_left k n p)) shared t ms'
  unfolding effect_of
  leaves_at n None None named agrees leaves changes = absurd (cc)
  leaves_at n None (Some s) named agrees leaves changes = absurd agrees
  leaves_at n (Some m) None named agrees leaves changes = absurd agrees
  leaves_at n (Some m) (Some s) named agrees leaves changes = by_tests (eqb m.owner k) refl (eqb m.count 1) refl leaves changes
    where
      by_tests : (a : Bool) → eqb m.owner k ≡ a → (b : Bool) → eqb m.count 1 ≡ b → Left ≡ cond a Left NotOwner → ChangesAt ms ms' n (cond b None (Some (record m { count = m.count - 1 })))
          → Does (of (cond (eqb s.owner k) (cond (eqb s.count 1) (Disowns n) (Owns n (s.count - 1))) (Raises illegal_monitor_state))) shared t ms'
      by_tests false own b one e changes = absurd (cc)
      by_tests true own true one e changes =
          let owns : eqb s.owner k ≡ true = ap (λ c. eqb c k) (sym agrees.1) ∙ own in
          let last : eqb s.count 1 ≡ true = ap (λ c. eqb c 1) (sym agrees.2) ∙ one in
          record {
            monitors = source.without_monitor shared.monitors n;
            is = ap (λ c. of (cond c (cond (eqb s.count 1) (Disowns n) (Owns n (s.count - 1))) (Raises illegal_monitor_state))) owns
                ∙ ap (λ c. of (cond c (Disowns n) (Owns n (s.count - 1)))) last;
            agree = goes ms ms' shared.monitors n h changes;
          }
      by_tests true own false more e changes =
          let owns : eqb s.owner k ≡ true = ap (λ c. eqb c k) (sym agrees.1) ∙ own in
          let further : eqb s.count 1 ≡ false = ap (λ c. eqb c 1) (sym agrees.2) ∙ more in
          let owner : m.owner ≡ k = by_equal m.owner k (λ same e. e) (λ other apart. let clash : true ≡ false = sym own ∙ other in absurd (cc)) in
          record {
            monitors = monitor n k (s.count - 1) ∷ source.without_monitor shared.monitors n;
            is = ap (λ c. of (cond c (cond (eqb s.count 1) (Disowns n) (Owns n (s.count - 1))) (Raises illegal_monitor_state))) owns
                ∙ ap (λ c. of (cond c (Disowns n) (Owns n (s.count - 1)))) further;
            agree = put_first ms ms' shared.monitors n (record m { count = m.count - 1 }) (monitor n k (s.count - 1)) h changes refl (agrees.0 ∙ named s refl, owner, ap (λ c. c - 1) agrees.2);
          }

-- the monitor that is found is of the object
source_named : (ss : List source.Monitor) (n : ℕ) (s : source.Monitor) → source.monitor_of ss n ≡ Some s → s.object ≡ n
source_named [] n s is = absurd (cc)
source_named (x ∷ ss) n s is =
    by_equal x.object n
    (λ same e. let found : Some x ≡ Some s = sym (own_first x ss n e) ∙ is in let it : x ≡ s = cc in ap (λ (y : source.Monitor). y.object) (sym it) ∙ e)
    (λ other ne. source_named ss n s (sym (other_first x ss n ne) ∙ is))

module _ (classes : Classes) (in_use : BuffersInUse) (k : ℕ) (shared : source.Shared) (t : source.Thread) (args : List Actual) (ms : List Monitor) (h : MonitorsAgree ms shared.monitors) where
  -- what `enter` ensures, where it answers `Entered`
  pub enters : (ms' : List Monitor) (object : Object) → Entered ≡ entering k (monitor_of ms object.name) → ChangesAt ms ms' object.name (Some (entered object k (monitor_of ms object.name)))
      → Does (effect_of classes in_use k shared t args (monitor_entered object.name (source.monitor_of shared.monitors object.name))) shared t ms'
  enters ms' object answer changes = enters_at classes in_use k shared t args ms ms' h object (monitor_of ms object.name) (source.monitor_of shared.monitors object.name) (source_named shared.monitors object.name) (h.at object.name) answer changes

  -- what `exit` ensures, where it answers `Left`
  pub leaves : (ms' : List Monitor) (n : ℕ) → Left ≡ leaving k (monitor_of ms n) → ChangesAt ms ms' n (left (monitor_of ms n))
      → Does (effect_of classes in_use k shared t args (monitor_left k n (source.monitor_of shared.monitors n))) shared t ms'
  leaves ms' n answer changes = leaves_at classes in_use k shared t args ms ms' h n (monitor_of ms n) (source.monitor_of shared.monitors n) (source_named shared.monitors n) (h.at n) answer changes

module _ (k : ℕ) (shared : source.Shared) (ms : List Monitor) (h : MonitorsAgree ms shared.monitors) where
  -- where `enter` answers `Limit`
  pub limited : (n : ℕ) → Limit ≡ entering k (monitor_of ms n) → monitor_entered n (source.monitor_of shared.monitors n) ≡ Gives (ScalarResult (Int (negsuc 0)))
  limited n answer = by_monitor (monitor_of ms n) (source.monitor_of shared.monitors n) (h.at n) answer
    where
      by_monitor : (o : Option Monitor) (p : Option source.Monitor) → MonitorAgrees o p → Limit ≡ entering k o → monitor_entered n p ≡ Gives (ScalarResult (Int (negsuc 0)))
      by_monitor None p agrees answer = absurd (cc)
      by_monitor (Some m) None agrees answer = absurd agrees
      by_monitor (Some m) (Some s) agrees answer = by_tests (eqb m.owner k) (nat_lt m.count 255) refl answer
        where
          by_tests : (a b : Bool) → nat_lt m.count 255 ≡ b → Limit ≡ cond a (cond b Entered Limit) Busy → cond (nat_lt s.count 255) (Owns n (s.count + 1)) (Gives (ScalarResult (Int (negsuc 0)))) ≡ Gives (ScalarResult (Int (negsuc 0)))
          by_tests false b most e = absurd (cc)
          by_tests true true most e = absurd (cc)
          by_tests true false most e = ap (λ c. cond c (Owns n (s.count + 1)) (Gives (ScalarResult (Int (negsuc 0))))) (ap (λ c. nat_lt c 255) (sym agrees.2) ∙ most)

  -- where it answers `Busy`: another thread owns the object
  pub busy : (n : ℕ) → Busy ≡ entering k (monitor_of ms n) → (s : source.Monitor) × (source.monitor_of shared.monitors n ≡ Some s) × (s.owner ≢ k)
  busy n answer = by_monitor (monitor_of ms n) (source.monitor_of shared.monitors n) refl (h.at n) answer
    where
      by_monitor : (o : Option Monitor) (p : Option source.Monitor) → source.monitor_of shared.monitors n ≡ p → MonitorAgrees o p → Busy ≡ entering k o → (s : source.Monitor) × (source.monitor_of shared.monitors n ≡ Some s) × (s.owner ≢ k)
      by_monitor None p is agrees answer = absurd (cc)
      by_monitor (Some m) None is agrees answer = absurd agrees
      by_monitor (Some m) (Some s) is agrees answer = (s, is, λ own. by_tests (eqb m.owner k) (nat_lt m.count 255) (eq-eqb m.owner k (agrees.1 ∙ own)) answer)
        where
          by_tests : (a b : Bool) → a ≡ true → Busy ≡ cond a (cond b Entered Limit) Busy → ⊥
          by_tests false b own e = cc
          by_tests true true own e = cc
          by_tests true false own e = cc

  -- where `exit` answers `NotOwner`
  pub refuses : (n : ℕ) → NotOwner ≡ leaving k (monitor_of ms n) → monitor_left k n (source.monitor_of shared.monitors n) ≡ Raises illegal_monitor_state
  refuses n answer = by_monitor (monitor_of ms n) (source.monitor_of shared.monitors n) (h.at n) answer
    where
      by_monitor : (o : Option Monitor) (p : Option source.Monitor) → MonitorAgrees o p → NotOwner ≡ leaving k o → monitor_left k n p ≡ Raises illegal_monitor_state
      by_monitor None None agrees answer = refl
      by_monitor None (Some s) agrees answer = absurd agrees
      by_monitor (Some m) None agrees answer = absurd agrees
      by_monitor (Some m) (Some s) agrees answer = by_test (eqb m.owner k) refl answer
        where
          by_test : (a : Bool) → eqb m.owner k ≡ a → NotOwner ≡ cond a Left NotOwner → monitor_left k n (Some s) ≡ Raises illegal_monitor_state
          by_test true own e = absurd (cc)
          by_test false own e = ap (λ c. cond c (cond (eqb s.count 1) (Disowns n) (Owns n (s.count - 1))) (Raises illegal_monitor_state)) (ap (λ c. eqb c k) (sym agrees.1) ∙ own)

  -- what `drop_thread` ensures
  pub drops : (ms' : List Monitor) → ((n : ℕ) → monitor_of ms' n ≡ kept_from k (monitor_of ms n)) → MonitorsAgree ms' (source.without_owner shared.monitors k)
  drops ms' each = record {
    at = λ n. subst (λ o. MonitorAgrees o (source.monitor_of (source.without_owner shared.monitors k) n)) (sym (each n)) (subst (λ o. MonitorAgrees (kept_from k (monitor_of ms n)) o) (sym (owner_kept shared.monitors k n h.different)) (by_monitor (monitor_of ms n) (source.monitor_of shared.monitors n) (h.at n)));
    different = owner_different shared.monitors k h.different;
  }
    where
      by_monitor : (o : Option Monitor) (p : Option source.Monitor) → MonitorAgrees o p → MonitorAgrees (kept_from k o) (source_kept k p)
      by_monitor None None agrees = tt
      by_monitor None (Some s) agrees = absurd agrees
      by_monitor (Some m) None agrees = absurd agrees
      by_monitor (Some m) (Some s) agrees = by_tests (eqb m.owner k) (eqb s.owner k) (ap (λ c. eqb c k) agrees.1)
        where
          by_tests : (a b : Bool) → a ≡ b → MonitorAgrees (cond a None (Some m)) (cond b None (Some s))
          by_tests true true e = tt
          by_tests true false e = absurd (cc)
          by_tests false true e = absurd (cc)
          by_tests false false e = agrees
