-- What the layers answer, as what a run does to the sink.
use Rattle.std.proofs.Common.{◌≡◌, ℕ, List, ◌++◌, ◌∷◌, suc, Option, Some, None, Result, Ok, Err, length, refl, sym, ap, ◌∙◌, subst, ◌+◌, ◌≤◌, arith, length-append, []}
use Rattle.std.specs.Prelude.{OnOk}
use Rattle.std.specs.Option.{option_map}
use Rattle.syntax.specs.declared.unit.Item.{Item}
use Rattle.syntax.specs.Tree.{SourceUnit}
use Rattle.syntax.specs.Views.{unit_tree}
use Rattle.world_schedules.specs.declared.fault.ReadError.{ReadError}
use Rattle.world_schedules.specs.declared.fault.ReadError.TheVariants as reading
use Rattle.world_schedules.specs.Reading.{Fails}
use Rattle.world_schedules.specs.ReadingSchedules.{schedule_of}
use Rattle.world.specs.ReadingWorlds.{world_of_text}
use Rattle.semantics.specs.Schedule.{Schedule}
use Rattle.world_schedules.specs.ScheduleText.{IsScheduleText}
use Rattle.sinks.specs.Sink.{Written}
use Rattle.semantics.specs.Load.{first_load_fault}
use Rattle.semantics.specs.Journal.{Entry, Journal, steps_in}
use Rattle.semantics.specs.World.{World}
use Rattle.world_values.specs.WorldRules.{IsWorldText}
use Rattle.semantics.specs.State.{State}
use Rattle.semantics.specs.Run.{Over, Collects, Clears, Slices, SliceClears, Waits, Steps, ClearsAndSteps, Follows, JournalFollows, MarkedAreFair, UnmarkedFit, replay}
use Rattle.report.specs.RunText.{Writes}
use Rattle.semantics.specs.Start.{start}
use Rattle.lower.specs.declared.fault.LowerError.{LowerError}
use Rattle.lower.specs.declared.fault.LowerError.TheVariants as lowering
use Rattle.code_meaning.specs.Length.{IsTooLong}
use Rattle.machine_threads.specs.declared.fault.LoadFault.{LoadFault}
use Rattle.machine_threads.specs.declared.fault.LoadFault.TheVariants as loading
use Rattle.machine.specs.declared.fault.ReportFault.{ReportFault}
use Rattle.machine.specs.declared.fault.ReportFault.TheVariants as reporting
use Rattle.machine_threads.specs.Loading.{IsLoadFault}
use Rattle.machine.specs.declared.fault.RunFault.TheVariants.{Full}
use Rattle.machine.specs.Run.{Run, IsUnstarted, RunsAlong, RunsInto, ReportsRun, StoppedBy, replay_of}
use Rattle.semantics.specs.declared.event.Stop.{Stop}
use Rattle.semantics.specs.EventViews.{stop_view}
use Rattle.places.specs.declared.place.Text.TheVariants as which
use Rattle.program_check.specs.declared.fault.RunError.{RunError}
use Rattle.program_check.specs.declared.fault.RunError.TheVariants.{Memory, Fault, Writer}
use Rattle.program_check.specs.Errors.{too_long}
use Rattle.jnirun.specs.Errors.{of_reading, of_load, of_report, of_lower}
use Rattle.program_check.specs.Passes.{IsRefusal}
use Rattle.program_check.specs.Programs.{IsProgram}
use Rattle.program_check.specs.Checks.{PassesCheck, ChecksText}
use Rattle.jnirun.specs.Texts.{Meaning, AreRefused, by_check, by_world, by_schedule, by_load}
use Rattle.replay.specs.declared.trap_at.TrapAt.{TrapAt}
use Rattle.replay.specs.TrapAt.{trap_at}
use Rattle.jnirun.specs.Runs.{RunsTexts, IsRun, EndsRun, IsRunOrFails}
use Rattle.program_check.proofs.CheckLemmas as checks

-- a journal has no more steps than the words that it follows
follows_short : {unit : SourceUnit} {w : World} {s end : State} {journal : Journal} {words : Schedule} → Follows unit w s journal words end
    → steps_in journal ≤ length words
follows_short (Over s) = omega arith
follows_short (Collects s end journal words l h) = let short : steps_in journal ≤ length words = follows_short h in omega (arith, short)
follows_short (Clears s next end names journal words c h) = let short : steps_in journal ≤ length words = follows_short h in omega (arith, short)
follows_short (Slices s end journal words h) = let short : steps_in journal ≤ length words = follows_short h in omega (arith, short)
follows_short (SliceClears s next end names journal words c h) = let short : steps_in journal ≤ length words = follows_short h in omega (arith, short)
follows_short (Waits s end k journal words e h) = let short : steps_in journal ≤ length words = follows_short h in omega (arith, short)
follows_short (Steps s next end k refused journal words c e h) = let short : steps_in journal ≤ length words = follows_short h in omega (arith, short)
follows_short (ClearsAndSteps s between next end names k refused journal words c m l e h) =
    let short : steps_in journal ≤ length words = follows_short h in omega (arith, short)

-- so the journal is never full before the last of a schedule's words
pub never_full : (begun ended : Run) (words : Schedule) → begun.journal ≡ [] → RunsInto begun ended words Full → length words ≤ 1000000 → ⊥
never_full begun ended words unstarted into few =
    let steps : ended.journal ≡ into.along.steps = into.along.journal ∙ ap (λ (j : List Entry). j ++ into.along.steps) unstarted in
    let short : steps_in into.along.steps ≤ length into.taken = follows_short into.along.follows in
    let parts : length words ≡ length into.taken + suc (length into.left) = ap length into.is ∙ length-append into.taken (into.next ∷ into.left) in
    let full : 1000000 ≤ steps_in ended.journal = into.ends.0 in
    absurd (omega (arith, ap steps_in steps, short, parts, full))

-- what a report answered is what the run answers
abbrev pub as_run : {T : Type 0} → Option TrapAt → Result T ReportFault → Result (Option TrapAt) RunError
as_run trap (Ok x) = Ok trap
as_run trap (Err fault) = Err (of_report fault)

-- memory or the writer refused
pub report_fails : (f : ReportFault) → IsRunOrFails (Err (of_report f))
report_fails reporting.Memory = tt
report_fails reporting.Sink = tt

-- a trap that is held in memory, as it is told
pub told : (stop : Option Stop) → option_map trap_at (option_map stop_view stop) ≡ option_map (λ s. trap_at (stop_view s)) stop
told None = refl
told (Some stop) = refl

-- the three texts, and what the sink had
module _ (program world schedule : List ℕ) (old : Written) where
  abbrev pub Refuses : RunError → Type 0
  Refuses e = RunsTexts old old (Err e) (EndsRun program world schedule) (AreRefused program world schedule)

  -- what a check refuses is refused
  refused_check : (e : RunError) → ChecksText program (Err e) → Refuses e
  refused_check Memory h = refl
  refused_check (Fault number place) h = (refl, by_check number place h)
  refused_check Writer h = absurd h

  pub refused_program : (e : RunError) → IsRefusal program e → Refuses e
  refused_program e h = refused_check e (checks.refused_pass program e h)

  pub refused_length : (unit : SourceUnit) (f : LowerError) → IsProgram program unit → (f ≡ lowering.TooLong → IsTooLong unit) → Refuses (of_lower f)
  refused_length unit lowering.Memory is h = refl
  refused_length unit lowering.TooLong is h = refused_check too_long (checks.refused_length program unit is (h refl))

  -- a program that passes a check
  abbrev pub passing : (unit : SourceUnit) → IsProgram program unit → (IsTooLong unit → ⊥) → PassesCheck program
  passing unit is short = record { unit = unit; of_program = is; short = short }

  pub refused_world : (e : ReadError) → PassesCheck program → Fails e (world_of_text world) → Refuses (of_reading which.World e)
  refused_world reading.Memory p h = refl
  refused_world (reading.Fault fault) p h = (refl, by_world fault p h)

  pub refused_schedule : (meant : World) (e : ReadError) → PassesCheck program → world_of_text world ≡ Ok meant → Fails e (schedule_of schedule (length meant.threads)) → Refuses (of_reading which.Schedule e)
  refused_schedule meant reading.Memory p w h = refl
  refused_schedule meant (reading.Fault fault) p w h = (refl, by_schedule meant fault p w h)

  pub refused_load : (meant : World) (words : Schedule) (f : LoadFault) (p : PassesCheck program) → world_of_text world ≡ Ok meant → schedule_of schedule (length meant.threads) ≡ Ok words → IsLoadFault p.unit meant f → Refuses (of_load f)
  refused_load meant words loading.Memory p w s h = refl
  refused_load meant words (loading.DoesNotFit line) p w s h = (refl, by_load meant words line p w s h)

  -- a schedule's run from the start is one of the journal
  follows_all : (items : List Item) (meant : World) (begun ended : Run) (words : Schedule) → IsUnstarted items meant begun → RunsAlong begun ended words → JournalFollows (unit_tree items) meant ended.journal words
  follows_all items meant begun ended words un along =
      let unit_is : unit_tree begun.unit ≡ unit_tree items = ap unit_tree un.of_unit in
      let world_is : begun.world ≡ meant = un.on_world in
      let steps : along.steps ≡ ended.journal = sym (along.journal ∙ ap (λ (j : List Entry). j ++ along.steps) un.unstarted) in
      let at_start : replay_of begun ≡ Some (start (unit_tree begun.unit) begun.world) = ap (replay (unit_tree begun.unit) begun.world) un.unstarted in
      let first : along.before ≡ start (unit_tree begun.unit) begun.world = cc (along.replays, at_start) in
      let here : Follows (unit_tree begun.unit) begun.world (start (unit_tree begun.unit) begun.world) along.steps words along.after =
      subst (λ (s : State). Follows (unit_tree begun.unit) begun.world s along.steps words along.after) first along.follows in
      let on_unit : Follows (unit_tree items) begun.world (start (unit_tree items) begun.world) along.steps words along.after =
      subst (λ (u : SourceUnit). Follows u begun.world (start u begun.world) along.steps words along.after) unit_is here in
      let on_world : Follows (unit_tree items) meant (start (unit_tree items) meant) along.steps words along.after =
      subst (λ (w : World). Follows (unit_tree items) w (start (unit_tree items) w) along.steps words along.after) world_is on_unit in
      (along.after, subst (λ (j : Journal). Follows (unit_tree items) meant (start (unit_tree items) meant) j words along.after) steps on_world)

  -- the unit and the world of a run stay
  same_parts : (items : List Item) (meant : World) (begun ended : Run) (words : Schedule) → IsUnstarted items meant begun → RunsAlong begun ended words → ended ≡ record { unit = items; world = meant; journal = ended.journal; layout = ended.layout; slices = ended.slices }
  same_parts items meant begun ended words un along =
      ap (λ (u : List Item). let r : Run = record { unit = u; world = ended.world; journal = ended.journal; layout = ended.layout; slices = ended.slices } in r) (along.same_unit ∙ un.of_unit)
      ∙ ap (λ (s : World). let r : Run = record { unit = items; world = s; journal = ended.journal; layout = ended.layout; slices = ended.slices } in r) (along.same_world ∙ un.on_world)

  -- the texts' meaning, from what the layers answered
  abbrev pub meaning_of : (items : List Item) (meant : World) (words : Schedule) → IsProgram program (unit_tree items) → world_of_text world ≡ Ok meant → schedule_of schedule (length meant.threads) ≡ Ok words → first_load_fault (unit_tree items) meant ≡ None → Meaning program world schedule
  meaning_of items meant words is w s l = record { unit = unit_tree items; of_program = is; world = meant; of_world = w; words = words; of_schedule = s; loads = l }

  -- the run that a machine wrote
  abbrev is_run : (items : List Item) (meant : World) (words : Schedule) (begun ended : Run) (text : List ℕ) (is : IsProgram program (unit_tree items)) → (IsTooLong (unit_tree items) → ⊥) → (w : world_of_text world ≡ Ok meant) (s : schedule_of schedule (length meant.threads) ≡ Ok words) (l : first_load_fault (unit_tree items) meant ≡ None)
      → IsWorldText world meant → IsScheduleText (length meant.threads) schedule words
      → IsUnstarted items meant begun → RunsAlong begun ended words → Writes (unit_tree ended.unit) ended.world ended.journal text → UnmarkedFit (unit_tree ended.unit) ended.world ended.journal → MarkedAreFair (unit_tree ended.unit) ended.world ended.journal → IsRun program world schedule text
  is_run items meant words begun ended text is short w s l of_world of_schedule un along writes fits fair = record {
    meaning = meaning_of items meant words is w s l;
    short = short;
    of_world = of_world;
    of_schedule = of_schedule;
    journal = ended.journal;
    writes = subst (λ (r : Run). Writes (unit_tree r.unit) r.world ended.journal text) (same_parts items meant begun ended words un along) writes;
    follows = follows_all items meant begun ended words un along;
    fits = subst (λ (r : Run). UnmarkedFit (unit_tree r.unit) r.world ended.journal) (same_parts items meant begun ended words un along) fits;
    fair = subst (λ (r : Run). MarkedAreFair (unit_tree r.unit) r.world ended.journal) (same_parts items meant begun ended words un along) fair;
  }

  pub ran : (items : List Item) (meant : World) (words : Schedule) (begun ended : Run) (stop : Option Stop) (new : Written) {T : Type 0} (result : Result T ReportFault) → StoppedBy ended stop → OnOk result (new.waiting ≡ 0)
      → IsProgram program (unit_tree items) → (IsTooLong (unit_tree items) → ⊥) → world_of_text world ≡ Ok meant → schedule_of schedule (length meant.threads) ≡ Ok words → first_load_fault (unit_tree items) meant ≡ None
      → IsWorldText world meant → IsScheduleText (length meant.threads) schedule words
      → IsUnstarted items meant begun → RunsAlong begun ended words → ReportsRun ended old new result
      → RunsTexts old new (as_run (option_map (λ s. trap_at (stop_view s)) stop) result) (EndsRun program world schedule) (AreRefused program world schedule)
  ran items meant words begun ended stop new (Ok x) halts none is short w s l of_world of_schedule un along h =
      let run : IsRun program world schedule h.text = is_run items meant words begun ended h.text is short w s l of_world of_schedule un along h.is h.fits h.fair in
      let there : replay_of ended ≡ Some run.writes.end = ap replay_of (same_parts items meant begun ended words un along) ∙ run.writes.replays in
      let same : run.writes.end ≡ halts.0 = cc (there, halts.1) in
      record {
        text = h.text;
        runs = record { run = run; stopped = ap (λ (end : State). option_map trap_at end.stop) same ∙ ap (option_map trap_at) halts.2 ∙ told stop };
        appended = h.written;
        none_waits = none;
      }
  ran items meant words begun ended stop new (Err reporting.Memory) halts none is short w s l of_world of_schedule un along h = h
  ran items meant words begun ended stop new (Err reporting.Sink) halts none is short w s l of_world of_schedule un along h =
      let run : IsRun program world schedule h.text = is_run items meant words begun ended h.text is short w s l of_world of_schedule un along h.is h.fits h.fair in
      record { text = h.text; runs = (option_map trap_at run.writes.end.stop, record { run = run; stopped = refl }); stopped = h.written }

  -- texts that mean a run load
  pub loads_or_fails : (items : List Item) (meant : World) (f : LoadFault) (m : Meaning program world schedule) → unit_tree items ≡ m.unit → world_of_text world ≡ Ok meant → IsLoadFault (unit_tree items) meant f → IsRunOrFails (Err (of_load f))
  loads_or_fails items meant loading.Memory m same w h = tt
  loads_or_fails items meant (loading.DoesNotFit line) m same w h =
      let here : m.world ≡ meant = cc (m.of_world, w) in
      let none : first_load_fault (unit_tree items) meant ≡ None = ap (λ (s : World). first_load_fault (unit_tree items) s) (sym here) ∙ ap (λ (u : SourceUnit). first_load_fault u m.world) same ∙ m.loads in
      absurd (cc (none, h))
