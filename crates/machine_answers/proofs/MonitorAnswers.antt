-- What entering and leaving a monitor come to is what the source's calls do with it, as it is seen.
use Rattle.std.proofs.Common.{◌≡◌, ℕ, Bool, true, false, not, Option, Some, None, refl}
use Rattle.std.specs.Prelude.{◌==◌, ◌+◌, ◌-◌, if◌then◌else◌, nat_lt, negsuc}
use Rattle.std.specs.Option.{option_map}
use Rattle.base.specs.Limits.{most_monitor_entries}
use Rattle.class_rules.specs.BuiltIns.{illegal_monitor_state}
use Rattle.semantics.specs.Answer.{Answer, Disowns, Owns, Raises}
use Rattle.semantics.specs.AnswerTable.{gives_int, monitor_entered, monitor_left}
use Rattle.semantics.specs.CallStep.{is_owned_by_other}
use Rattle.monitors.specs.declared.monitors.Monitor.{Monitor}
use Rattle.monitors.specs.declared.monitors.Enter.TheVariants.{Entered, Limit, Busy}
use Rattle.monitors.specs.declared.monitors.Exit.TheVariants.{Left, NotOwner}
use Rattle.monitors.specs.Monitors.{entering, leaving}
use Rattle.machine_answers.specs.AnswersSeen.{is_entered, is_left}
use Rattle.machine_answers.specs.Sights.{monitor_seen}

-- an answer that changes a monitor
abbrev pub changes_monitor : Answer → Bool
changes_monitor (Owns n count) = true
changes_monitor (Disowns n) = true
changes_monitor a = false

-- thread k enters the monitor of object n, or leaves it
module _ (k n : ℕ) where
  pub entered : (o : Option Monitor) → is_entered (entering k o) ≡ true → changes_monitor (monitor_entered n (option_map monitor_seen o)) ≡ true
  entered None is = refl
  entered (Some m) is = by_tests (m.owner == k) (nat_lt m.count most_monitor_entries) is
    where
      by_tests : (own few : Bool) → is_entered (if own then (if few then Entered else Limit) else Busy) ≡ true → changes_monitor (if few then Owns n (m.count + 1) else gives_int (negsuc 0)) ≡ true
      by_tests true true is = refl
      by_tests own few is = absurd (cc)

  pub limited : (o : Option Monitor) → entering k o ≡ Limit → monitor_entered n (option_map monitor_seen o) ≡ gives_int (negsuc 0)
  limited None is = absurd (cc)
  limited (Some m) is = by_tests (m.owner == k) (nat_lt m.count most_monitor_entries) is
    where
      by_tests : (own few : Bool) → (if own then (if few then Entered else Limit) else Busy) ≡ Limit → (if few then Owns n (m.count + 1) else gives_int (negsuc 0)) ≡ gives_int (negsuc 0)
      by_tests true false is = refl
      by_tests own few is = absurd (cc)

  pub left : (o : Option Monitor) → is_left (leaving k o) ≡ true → changes_monitor (monitor_left k n (option_map monitor_seen o)) ≡ true
  left None is = absurd (cc)
  left (Some m) is = by_tests (m.owner == k) (m.count == 1) is
    where
      by_tests : (own last : Bool) → is_left (if own then Left else NotOwner) ≡ true → changes_monitor (if own then (if last then Disowns n else Owns n (m.count - 1)) else Raises illegal_monitor_state) ≡ true
      by_tests true true is = refl
      by_tests true false is = refl
      by_tests false last is = absurd (cc)

  pub refused : (o : Option Monitor) → leaving k o ≡ NotOwner → monitor_left k n (option_map monitor_seen o) ≡ Raises illegal_monitor_state
  refused None is = refl
  refused (Some m) is = by_test (m.owner == k) is
    where
      by_test : (own : Bool) → (if own then Left else NotOwner) ≡ NotOwner → (if own then (if m.count == 1 then Disowns n else Owns n (m.count - 1)) else Raises illegal_monitor_state) ≡ Raises illegal_monitor_state
      by_test true is = absurd (cc)
      by_test false is = refl

-- no monitor is another thread's that thread k is let enter
pub not_busy : (k : ℕ) (o : Option Monitor) → is_owned_by_other k (option_map monitor_seen o) ≡ false → entering k o ≡ Busy → ⊥
not_busy k None own is = absurd (cc)
not_busy k (Some m) own is = by_tests (m.owner == k) (nat_lt m.count most_monitor_entries) own is
  where
    by_tests : (own few : Bool) → not own ≡ false → (if own then (if few then Entered else Limit) else Busy) ≡ Busy → ⊥
    by_tests true true own is = cc
    by_tests true false own is = cc
    by_tests false few own is = cc
