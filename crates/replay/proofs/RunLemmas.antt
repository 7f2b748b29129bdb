-- A journal's replay goes on by an entry, or stops before it.
use Rattle.std.proofs.Common.{Contains, ◌≡◌, ℕ, ◌+◌, ◌<◌, ◌≤◌, true, false, List, ◌∷◌, ◌++◌, length, map, drop, take, Option, Some, None, refl, sym, ap, ◌∙◌, subst, arith}
use Rattle.std.specs.Prelude.{slice_get, is_some, Result, Ok, Err, IfOk, IfErr, OnOk}
use Rattle.std.specs.Option.{option_and_then, option_map}
use Rattle.std.proofs.lemmas.List.{take-append-drop, length-take-le, take_all}
use Rattle.base.proofs.Lists.{drop_next, take_next}
use Rattle.syntax.specs.Tree.{SourceUnit}
use Rattle.semantics.specs.Journal.{Entry, Journal}
use Rattle.semantics.specs.JournalText.{journal_line}
use Rattle.class_rules.specs.Class.{Classes}
use Rattle.report_objects.specs.Rows.{AreReported}
use Rattle.semantics.specs.Heap.{Heap, object_at}
use Rattle.semantics.specs.Reachable.{from_one, loaded_count}
use Rattle.semantics.specs.Report.{Report, ShownRow}
use Rattle.semantics.specs.ReportOf.{report}
use Rattle.semantics.specs.Thread.{Shared}
use Rattle.report.specs.ReportText.{report_text}
use Rattle.sinks.specs.Sink.{Written}
use Rattle.report.specs.Shown.{report_with}
use Rattle.semantics.specs.World.{World}
use Rattle.semantics.specs.Load.{first_load_fault}
use Rattle.semantics.specs.Run.{replay, replay_from}
use Rattle.report.specs.RunText.{Writes}
use Rattle.semantics.specs.Start.{start}
use Rattle.semantics.specs.State.{State}
use Rattle.semantics.proofs.RunLaws.{replay_from-append, replay_more}
use Rattle.replay.specs.declared.fault.ReplayError.{ReplayError}
use Rattle.replay.specs.declared.fault.ReplayError.TheVariants.{DoesNotFit, Impossible, Memory, Writer}
use Rattle.replay_threads.specs.declared.state.State.{State as StateInMemory}
use Rattle.replay_threads.specs.States.{Stands, TakesEntry, AreInRange, AreStandings}
use Rattle.semantics.specs.EventViews.{stop_view}
use Rattle.replay.specs.declared.trap_at.TrapAt.{TrapAt}
use Rattle.replay.specs.TrapAt.{trap_at}
use Rattle.semantics.specs.declared.event.Stop.{Stop as StopInMemory}
use Rattle.report.specs.declared.thread_status.ThreadStatus.{ThreadStatus}
use Rattle.report.specs.ThreadStatus.{standing_view}
use Rattle.replay_arguments.specs.Shares.{shared_view}
use Rattle.replay_threads.specs.Rows.{root_names}
use Rattle.replay.specs.Replays.{Answers, IsFirstImpossible, Replayed, IsRefused, IsLoadFault, IsStoppedBy, IsReplayable, IsFromOutside, EndsBy, ShowsRows, WritesRun, shown_stop}
use Rattle.replay_threads.proofs.RootLemmas.{among_roots, root_among}
use Rattle.replay_threads.proofs.StateLemmas.{report_same}

module _ (unit : SourceUnit) (w : World) (journal : Journal) (i : ℕ) (e : Entry) (old new : StateInMemory) (at : slice_get journal i ≡ Some e) (h : Replayed unit w (take i journal) old) where
  -- the entry isn't possible
  pub stops : i < length journal → TakesEntry unit old e false new → (first_load_fault unit w ≡ None) × IsFirstImpossible unit w journal (i + 1)
  stops low step = (
    h.fits,
    record {
      done = take i journal;
      entry = e;
      rest = drop (i + 1) journal;
      whole = sym (take-append-drop i journal) ∙ ap (λ (l : Journal). take i journal ++ l) (drop_next journal i e at);
      number = omega (arith, length-take-le i journal (omega arith));
      before = h.end;
      replays = h.replays;
      impossible = step w h.end h.stands;
    },
  )

  -- it is possible
  pub goes_on : TakesEntry unit old e true new → AreInRange new.threads.items → Replayed unit w (take (i + 1) journal) new
  goes_on step range =
      let next = step w h.end h.stands in
      record {
        fits = h.fits;
        end = next.0;
        replays = ap (replay unit w) (take_next journal i e at) ∙ replay_more unit w (take i journal) e h.end next.0 h.replays next.1;
        stands = next.2;
        range = range;
      }

pub at_end : (unit : SourceUnit) (w : World) (journal : Journal) (i : ℕ) (m : StateInMemory) → length journal ≤ i → Replayed unit w (take i journal) m → Replayed unit w journal m
at_end unit w journal i m past h = subst (λ j. Replayed unit w j m) (take_all i journal past) h

-- ---- faults

-- a replay that didn't begin
pub not_begun : (unit : SourceUnit) (w : World) (journal : Journal) (f : ReplayError) → IsLoadFault unit w f → IsRefused unit w journal f
not_begun unit w journal (DoesNotFit line) h = h
not_begun unit w journal (Impossible i) h = absurd h
not_begun unit w journal Memory h = tt
not_begun unit w journal Writer h = absurd h

-- nothing was written
pub unwritten : (unit : SourceUnit) (w : World) (journal : Journal) (old : Written) (f : ReplayError) → IsRefused unit w journal f → IsStoppedBy unit w journal old old f
unwritten unit w journal old (DoesNotFit line) h = (h, refl)
unwritten unit w journal old (Impossible i) h = (h.0, h.1, refl)
unwritten unit w journal old Memory h = refl
unwritten unit w journal old Writer h = absurd h

-- a journal with an impossible entry has no replay
no_replay : (unit : SourceUnit) (w : World) (journal : Journal) (i : ℕ) → IsFirstImpossible unit w journal i → replay unit w journal ≡ None
no_replay unit w journal i h =
    ap (replay unit w) h.whole
    ∙ replay_from-append unit w (start unit w) h.done (h.entry ∷ h.rest)
    ∙ ap (option_and_then (λ s. replay_from unit w s (h.entry ∷ h.rest))) h.replays
    ∙ ap (option_and_then (λ s. replay_from unit w s h.rest)) h.impossible

-- a journal that can be replayed is refused for lack of memory alone
pub from_outside : (unit : SourceUnit) (w : World) (journal : Journal) (f : ReplayError) → IsRefused unit w journal f → IsReplayable unit w journal → IsFromOutside f
from_outside unit w journal (DoesNotFit line) h r = let bad : None ≡ Some line = sym r.fits ∙ h in absurd (cc)
from_outside unit w journal (Impossible i) h r =
    let bad : false ≡ true = subst (λ (o : Option State). is_some o ≡ true) (no_replay unit w journal i h.1) r.defined in absurd (cc)
from_outside unit w journal Memory h r = tt
from_outside unit w journal Writer h r = absurd h

-- ---- the end

-- the trap in memory is the one that stops the run
pub ends : (unit : SourceUnit) (w : World) (journal : Journal) (m : StateInMemory) → Replayed unit w journal m → EndsBy unit w journal (shown_stop m.stop)
ends unit w journal m h = record {
  end = h.end;
  replays = h.replays;
  stopped = ap (option_map trap_at) h.stands.stop ∙ shown m.stop;
}
  where
    shown : (stop : Option StopInMemory) → option_map trap_at (option_map stop_view stop) ≡ shown_stop stop
    shown None = refl
    shown (Some stop) = refl

-- ---- the text

-- the rows of what the threads in memory refer to are those of the report
pub rows_are : (unit : SourceUnit) (w : World) (m : StateInMemory) (s : State) (classes : Classes) (objects : Heap) (loaded : ℕ) (names : List ℕ) (rows : List ShownRow) → Stands unit w m s
    → classes ≡ m.world.now.classes → objects ≡ m.shared.store → loaded ≡ loaded_count w → names ≡ root_names (shared_view m.shared) m.threads.items → AreReported classes objects loaded names rows → rows ≡ (report w s).objects
rows_are unit w m s classes objects loaded names rows h k o l n told =
    let same : from_one (loaded_count w) ++ root_names (shared_view m.shared) m.threads.items ≡ from_one loaded ++ names =
    ap (λ c. from_one c ++ root_names (shared_view m.shared) m.threads.items) (sym l)
    ∙ ap (λ (ns : List ℕ). from_one loaded ++ ns) (sym n) in
    told w s (record {
      classes = ap (λ (v : World). v.classes) h.world ∙ sym k;
      count = ap (λ (x : Heap). length x) (ap (λ (x : Shared). x.heap) h.shared ∙ sym o);
      same = λ i there. ap (λ (x : Heap). object_at x i) (ap (λ (x : Shared). x.heap) h.shared ∙ sym o);
      sound = λ i there. subst (λ (l : List ℕ). Contains l i) same (root_among unit w m s h i there);
      complete = λ i there. among_roots unit w m s h i (subst (λ (l : List ℕ). Contains l i) (sym same) there);
    })

-- what is written from the state in memory is what the run writes
pub writes : (unit : SourceUnit) (w : World) (journal : Journal) (m : StateInMemory) (standings : List ThreadStatus) (rows : List ShownRow) → Replayed unit w journal m → AreStandings m (map standing_view standings) → ShowsRows m rows
    → Writes unit w journal (report_text (report_with m.printed.items standings rows) ++ journal_line journal)
writes unit w journal m standings rows h is shows = record {
  end = h.end;
  replays = h.replays;
  same = ap (λ (r : Report). report_text r ++ journal_line journal) (sym (report_same unit w m h.end h.stands h.range standings rows (is unit w h.end h.stands h.range) (shows unit w h.end h.stands)));
}

-- ---- answers

-- a replay that was refused
pub refused_answer : (unit : SourceUnit) (w : World) (journal : Journal) (old : Written) (fault : ReplayError) → IsRefused unit w journal fault → Answers unit w journal old old (Err fault)
refused_answer unit w journal old fault h = (unwritten unit w journal old fault h, from_outside unit w journal fault h)

module _ (unit : SourceUnit) (w : World) (journal : Journal) (old new : Written) where
  pub ok_of : (r : Result (Option TrapAt) ReplayError) → Answers unit w journal old new r → OnOk r (WritesRun unit w journal old new)
  ok_of (Ok trap) h = h.0
  ok_of (Err fault) h = tt

  pub trap_of : (r : Result (Option TrapAt) ReplayError) → Answers unit w journal old new r → IfOk r (EndsBy unit w journal)
  trap_of (Ok trap) h = h.1
  trap_of (Err fault) h = tt

  pub none_waits_of : (r : Result (Option TrapAt) ReplayError) → Answers unit w journal old new r → OnOk r (new.waiting ≡ 0)
  none_waits_of (Ok trap) h = h.2
  none_waits_of (Err fault) h = tt

  pub err_of : (r : Result (Option TrapAt) ReplayError) → Answers unit w journal old new r → IfErr r (IsStoppedBy unit w journal old new)
  err_of (Ok trap) h = tt
  err_of (Err fault) h = h.0

  pub only_of : (r : Result (Option TrapAt) ReplayError) → Answers unit w journal old new r → IsReplayable unit w journal → IfErr r IsFromOutside
  only_of (Ok trap) h replayable = tt
  only_of (Err fault) h replayable = h.1 replayable
