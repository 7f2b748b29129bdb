-- What the layers answer, as what a run by workers does to the sink.
use Rattle.std.proofs.Common.{◌≡◌, ◌<◌, ◌≤◌, ℕ, List, ◌++◌, true, false, Option, None, Result, Ok, Err, inl, refl, sym, ap, ◌∙◌, subst}
use Rattle.std.specs.Prelude.{OnOk}
use Rattle.std.specs.Option.{option_map}
use Rattle.syntax.specs.declared.unit.Item.{Item}
use Rattle.syntax.specs.Tree.{SourceUnit}
use Rattle.syntax.specs.Views.{unit_tree}
use Rattle.world_schedules.specs.declared.fault.ReadError.{ReadError}
use Rattle.world_schedules.specs.declared.fault.ReadError.TheVariants as reading
use Rattle.world_schedules.specs.Reading.{Fails}
use Rattle.world.specs.ReadingWorlds.{world_of_text}
use Rattle.report.specs.ReportText.{report_text}
use Rattle.report.specs.RunText.{Writes}
use Rattle.sinks.specs.Sink.{Written}
use Rattle.semantics.specs.Journal.{steps_in}
use Rattle.semantics.specs.JournalText.{journal_line}
use Rattle.semantics.specs.Load.{first_load_fault}
use Rattle.semantics.specs.ReportOf.{report}
use Rattle.semantics.specs.Run.{MarkedAreFair, UnmarkedFit}
use Rattle.semantics.specs.State.{State}
use Rattle.semantics.specs.World.{World}
use Rattle.lower.specs.declared.fault.LowerError.{LowerError}
use Rattle.lower.specs.declared.fault.LowerError.TheVariants as lowering
use Rattle.code_meaning.specs.Length.{IsTooLong}
use Rattle.machine_threads.specs.declared.fault.LoadFault.{LoadFault}
use Rattle.machine_threads.specs.declared.fault.LoadFault.TheVariants as loading
use Rattle.machine_threads.specs.Loading.{IsLoadFault}
use Rattle.machine.specs.declared.fault.ReportFault.{ReportFault}
use Rattle.machine.specs.declared.fault.ReportFault.TheVariants as reporting
use Rattle.semantics.specs.declared.event.Stop.{Stop}
use Rattle.machine.specs.Run.{Run, IsFinished, ReportsRun, StoppedBy, is_finished}
use Rattle.semantics.specs.EventViews.{stop_view}
use Rattle.places.specs.declared.place.Place.TheVariants.{Line}
use Rattle.places.specs.declared.place.Text.TheVariants as which
use Rattle.program_check.specs.declared.fault.RunError.{RunError}
use Rattle.program_check.specs.declared.fault.RunError.TheVariants.{Memory, Fault, Writer}
use Rattle.program_check.specs.Errors.{too_long}
use Rattle.program_check.specs.Passes.{IsRefusal}
use Rattle.program_check.specs.Programs.{IsProgram}
use Rattle.program_check.specs.Checks.{ChecksText}
use Rattle.replay.specs.TrapAt.{trap_at}
use Rattle.jnirun.specs.Errors.{of_reading, of_load, of_report, of_lower}
use Rattle.jnirun.specs.Running.{IsUnderWay, HasRoom}
use Rattle.jnirun.specs.Runs.{RunsTexts}
use Rattle.jnirun.specs.Works.{WorkMeaning, IsWork, EndsWork, AreRefusedWork, by_check, by_world, by_load, by_full, IsWorkOrFails}
use Rattle.jnirun.proofs.RunLemmas.{as_run, told}
use Rattle.program_check.proofs.CheckLemmas as checks

-- ---- verdicts

-- a run that is over
pub room_done : (r : Run) → IsFinished r true → HasRoom r
room_done r h = (h.0, h.1, λ going. absurd (cc (going, h.2)))

-- a run that isn't over, and has room
pub room_stalled : (r : Run) → IsFinished r false → steps_in r.journal < 1000000 → HasRoom r
room_stalled r h few = (h.0, h.1, λ going. few)

-- ---- what is answered where nothing is written

-- memory or the writer refused
pub report_fails : (f : ReportFault) → IsWorkOrFails (Err (of_report f))
report_fails reporting.Memory = tt
report_fails reporting.Sink = tt

-- memory was refused, or a function is too long
pub lower_fails : (f : LowerError) → IsWorkOrFails (Err (of_lower f))
lower_fails lowering.Memory = tt
lower_fails lowering.TooLong = (inl refl, refl)

-- the two texts, and what the sink had
module _ (program world : List ℕ) (old : Written) where
  abbrev pub Refuses : RunError → Type 0
  Refuses e = RunsTexts old old (Err e) (EndsWork program world) (AreRefusedWork program world)

  -- what a check refuses is refused
  refused_check : (e : RunError) → ChecksText program (Err e) → Refuses e
  refused_check Memory h = refl
  refused_check (Fault number place) h = (refl, by_check number place h)
  refused_check Writer h = absurd h

  pub refused_program : (e : RunError) → IsRefusal program e → Refuses e
  refused_program e h = refused_check e (checks.refused_pass program e h)

  pub refused_length : (unit : SourceUnit) (f : LowerError) → IsProgram program unit → (f ≡ lowering.TooLong → IsTooLong unit) → Refuses (of_lower f)
  refused_length unit lowering.Memory is h = refl
  refused_length unit lowering.TooLong is h = refused_check too_long (checks.refused_length program unit is (h refl))

  pub refused_world : (unit : SourceUnit) (e : ReadError) → IsProgram program unit → (IsTooLong unit → ⊥) → Fails e (world_of_text world) → Refuses (of_reading which.World e)
  refused_world unit reading.Memory is short h = refl
  refused_world unit (reading.Fault fault) is short h = (refl, by_world fault (record { unit = unit; of_program = is; short = short }) h)

  pub refused_load : (unit : SourceUnit) (meant : World) (f : LoadFault) → IsProgram program unit → (IsTooLong unit → ⊥) → world_of_text world ≡ Ok meant → IsLoadFault unit meant f → Refuses (of_load f)
  refused_load unit meant loading.Memory is short w h = refl
  refused_load unit meant (loading.DoesNotFit line) is short w h = (refl, by_load meant line (record { unit = unit; of_program = is; short = short }) w h)

  -- the run that a machine has come to
  abbrev is_work : (r : Run) (text : List ℕ) → IsUnderWay program world r.unit r.world → Writes (unit_tree r.unit) r.world r.journal text → UnmarkedFit (unit_tree r.unit) r.world r.journal → MarkedAreFair (unit_tree r.unit) r.world r.journal
      → IsWork program world text
  is_work r text under writes fits fair = record {
    meaning = record { unit = unit_tree r.unit; of_program = under.passed.of_program; world = r.world; of_world = under.passed.of_world; loads = under.loads };
    short = under.passed.short;
    of_world = under.passed.means;
    journal = r.journal;
    writes = writes;
    fits = fits;
    fair = fair;
  }

  -- it has room in the state that it has led to
  room_at_end : (r : Run) (end : State) (here : HasRoom r) → end ≡ here.0 → is_finished r.world.classes end ≡ false → steps_in r.journal < 1000000
  room_at_end r end here same going = here.2 (subst (λ (s : State). is_finished r.world.classes s ≡ false) same going)

  -- what a report answered is what the run by workers answers
  pub worked : {T : Type 0} (r : Run) (stop : Option Stop) (new : Written) (result : Result T ReportFault) → StoppedBy r stop → OnOk result (new.waiting ≡ 0) → HasRoom r → IsUnderWay program world r.unit r.world → ReportsRun r old new result
      → RunsTexts old new (as_run (option_map (λ s. trap_at (stop_view s)) stop) result) (EndsWork program world) (AreRefusedWork program world)
  worked r stop new (Ok x) halts none room under h =
      let same : h.is.end ≡ halts.0 = cc (h.is.replays, halts.1) in
      let there : h.is.end ≡ room.0 = cc (h.is.replays, room.1) in
      record {
        text = h.text;
        runs = record {
          work = is_work r h.text under h.is h.fits h.fair;
          stopped = ap (λ (end : State). option_map trap_at end.stop) same ∙ ap (option_map trap_at) halts.2 ∙ told stop;
          ends = room_at_end r h.is.end room there;
        };
        appended = h.written;
        none_waits = none;
      }
  worked r stop new (Err reporting.Memory) halts none room under h = h
  worked r stop new (Err reporting.Sink) halts none room under h =
      let there : h.is.end ≡ room.0 = cc (h.is.replays, room.1) in
      record {
        text = h.text;
        runs = (option_map trap_at h.is.end.stop, record { work = is_work r h.text under h.is h.fits h.fair; stopped = refl; ends = room_at_end r h.is.end room there });
        stopped = h.written;
      }

  -- a run that isn't over has filled its journal
  pub filled : (r : Run) → IsUnderWay program world r.unit r.world → IsFinished r false → 1000000 ≤ steps_in r.journal → UnmarkedFit (unit_tree r.unit) r.world r.journal → MarkedAreFair (unit_tree r.unit) r.world r.journal
      → Refuses (Fault 92 (Line which.Program 0))
  filled r under h full fits fair =
      let text : List ℕ = report_text (report r.world h.0) ++ journal_line r.journal in
      (refl, by_full text (is_work r text under (record { end = h.0; replays = h.1; same = refl }) fits fair) (sym h.2) full)

-- a machine that workers ran is of the same texts
pub still_under_way : (program world : List ℕ) (items items' : List Item) (w w' : World) → items' ≡ items → w' ≡ w → IsUnderWay program world items w → IsUnderWay program world items' w'
still_under_way program world items items' w w' same_items same_world under = rw (same_items, same_world) under

-- texts that go with each other load
pub loads_or_fails : (program world : List ℕ) (items : List Item) (meant : World) (f : LoadFault) (m : WorkMeaning program world) → unit_tree items ≡ m.unit → world_of_text world ≡ Ok meant → IsLoadFault (unit_tree items) meant f → IsWorkOrFails (Err (of_load f))
loads_or_fails program world items meant loading.Memory m same w h = tt
loads_or_fails program world items meant (loading.DoesNotFit line) m same w h =
    let here : m.world ≡ meant = cc (m.of_world, w) in
    let none : first_load_fault (unit_tree items) meant ≡ None = ap (λ (s : World). first_load_fault (unit_tree items) s) (sym here) ∙ ap (λ (u : SourceUnit). first_load_fault u m.world) same ∙ m.loads in
    absurd (cc (none, h))
