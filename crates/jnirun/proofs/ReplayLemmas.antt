-- What the layers answer, as what a replay does to the sink.
use Rattle.std.proofs.Common.{◌≡◌, ℕ, List, Option, None, Ok, Err, length, refl, sym, ap, ◌∙◌, subst}
use Rattle.std.specs.Option.{option_map}
use Rattle.syntax.specs.Tree.{SourceUnit}
use Rattle.world_schedules.specs.declared.fault.ReadError.{ReadError}
use Rattle.world_schedules.specs.declared.fault.ReadError.TheVariants as reading
use Rattle.semantics.specs.Journal.{Journal}
use Rattle.world_schedules.specs.JournalMeaning.{IsJournalText}
use Rattle.world_schedules.specs.Reading.{Fails}
use Rattle.world_schedules.specs.ReadingJournals.{journal_of}
use Rattle.world.specs.ReadingWorlds.{world_of_text}
use Rattle.semantics.specs.World.{World}
use Rattle.sinks.specs.Sink.{Written}
use Rattle.world_values.specs.WorldRules.{IsWorldText}
use Rattle.semantics.specs.Load.{first_load_fault}
use Rattle.report.specs.RunText.{Writes}
use Rattle.semantics.specs.State.{State}
use Rattle.replay.specs.declared.fault.ReplayError.{ReplayError}
use Rattle.replay.specs.declared.fault.ReplayError.TheVariants as replaying
use Rattle.replay.specs.Replays.{WritesRun, IsStoppedBy, IsReplayable, IsFromOutside, EndsBy}
use Rattle.replay.specs.declared.trap_at.TrapAt.{TrapAt}
use Rattle.replay.specs.TrapAt.{trap_at}
use Rattle.places.specs.declared.place.Place.TheVariants as place
use Rattle.places.specs.declared.place.Text.TheVariants as which
use Rattle.program_check.specs.declared.fault.RunError.{RunError}
use Rattle.program_check.specs.declared.fault.RunError.TheVariants.{Memory, Fault, Writer}
use Rattle.jnirun.specs.Errors.{of_reading, of_replay}
use Rattle.program_check.specs.Passes.{IsRefusal}
use Rattle.program_check.specs.Programs.{IsProgram}
use Rattle.jnirun.specs.Runs.{RunsTexts}
use Rattle.jnirun.specs.Replays.{ReplayMeaning, IsReplay, EndsReplay, AreRefusedReplays, by_program, by_world, by_journal, by_load, by_entry, IsPossible, IsReplayOrFails}

-- the three texts, and what the sink had
module _ (program world journal : List ℕ) (old : Written) where
  abbrev pub Refuses : RunError → Type 0
  Refuses e = RunsTexts old old (Err e) (EndsReplay program world journal) (AreRefusedReplays program world journal)

  pub refused_program : (e : RunError) → IsRefusal program e → Refuses e
  refused_program Memory h = refl
  refused_program (Fault number (place.Line which.Program line)) h = (refl, by_program number line h)
  refused_program (Fault number (place.Line which.World line)) h = absurd h
  refused_program (Fault number (place.Line which.Schedule line)) h = absurd h
  refused_program (Fault number (place.Line which.Journal line)) h = absurd h
  refused_program (Fault number (place.Entry entry)) h = absurd h
  refused_program Writer h = absurd h

  pub refused_world : (unit : SourceUnit) (e : ReadError) → IsProgram program unit → Fails e (world_of_text world) → Refuses (of_reading which.World e)
  refused_world unit reading.Memory is h = refl
  refused_world unit (reading.Fault fault) is h = (refl, by_world unit fault is h)

  pub refused_journal : (unit : SourceUnit) (meant : World) (e : ReadError) → IsProgram program unit → world_of_text world ≡ Ok meant → Fails e (journal_of journal (length meant.threads)) → Refuses (of_reading which.Journal e)
  refused_journal unit meant reading.Memory is w h = refl
  refused_journal unit meant (reading.Fault fault) is w h = (refl, by_journal unit meant fault is w h)

  -- a journal that a world's threads can have is refused for want of memory alone
  pub unread_journal : (meant : World) (e : ReadError) → IsPossible program world journal → world_of_text world ≡ Ok meant → Fails e (journal_of journal (length meant.threads)) → IsReplayOrFails (Err (of_reading which.Journal e))
  unread_journal meant reading.Memory p w h = tt
  unread_journal meant (reading.Fault fault) p w h =
      let here : p.meaning.world ≡ meant = cc (p.meaning.of_world, w) in
      let read : journal_of journal (length meant.threads) ≡ Ok p.meaning.entries = subst (λ (s : World). journal_of journal (length s.threads) ≡ Ok p.meaning.entries) here p.meaning.of_journal in
      absurd (cc (h, read))

  -- what was read of the three texts
  module _ (unit : SourceUnit) (meant : World) (entries : Journal) (is : IsProgram program unit) (w : world_of_text world ≡ Ok meant) (j : journal_of journal (length meant.threads) ≡ Ok entries) where
    -- the texts' meaning, where they load
    abbrev pub meaning_of : first_load_fault unit meant ≡ None → ReplayMeaning program world journal
    meaning_of l = record { unit = unit; of_program = is; world = meant; of_world = w; entries = entries; of_journal = j; loads = l }

    -- the replay whose text this is
    abbrev pub is_replay : IsWorldText world meant → IsJournalText (length meant.threads) journal entries → first_load_fault unit meant ≡ None → (text : List ℕ) → Writes unit meant entries text → IsReplay program world journal text
    is_replay of_world of_journal l text writes = record { meaning = meaning_of l; of_world = of_world; of_journal = of_journal; writes = writes }

    pub replayed : (new : Written) (trap : Option TrapAt) → EndsBy unit meant entries trap → new.waiting ≡ 0 → IsWorldText world meant → IsJournalText (length meant.threads) journal entries → WritesRun unit meant entries old new
        → RunsTexts old new (Ok trap) (EndsReplay program world journal) (AreRefusedReplays program world journal)
    replayed new trap ends none of_world of_journal h =
        let same : h.is.end ≡ ends.end = cc (h.is.replays, ends.replays) in
        record {
          text = h.text;
          runs = record { replay = is_replay of_world of_journal h.fits h.text h.is; stopped = ap (λ (end : State). option_map trap_at end.stop) same ∙ ends.stopped };
          appended = h.written;
          none_waits = none;
        }

    pub stopped : (new : Written) (f : ReplayError) → IsWorldText world meant → IsJournalText (length meant.threads) journal entries → IsStoppedBy unit meant entries old new f
        → RunsTexts old new (Err (of_replay f)) (EndsReplay program world journal) (AreRefusedReplays program world journal)
    stopped new replaying.Memory of_world of_journal h = h
    stopped new (replaying.DoesNotFit line) of_world of_journal h = (h.1, by_load unit meant entries line is w j h.0)
    stopped new (replaying.Impossible entry) of_world of_journal h = (h.2, by_entry (meaning_of h.0) entry h.1)
    stopped new replaying.Writer of_world of_journal h = record { text = h.text; runs = (option_map trap_at h.is.end.stop, record { replay = is_replay of_world of_journal h.fits h.text h.is; stopped = refl }); stopped = h.stopped }

  -- memory or the writer refused
  pub from_outside : (f : ReplayError) → IsFromOutside f → IsReplayOrFails (Err (of_replay f))
  from_outside replaying.Memory h = tt
  from_outside (replaying.DoesNotFit line) h = h
  from_outside (replaying.Impossible entry) h = h
  from_outside replaying.Writer h = tt

  -- a possible journal can be replayed
  pub replayable : (unit : SourceUnit) (meant : World) (entries : Journal) (p : IsPossible program world journal) → unit ≡ p.meaning.unit → world_of_text world ≡ Ok meant → journal_of journal (length meant.threads) ≡ Ok entries → IsReplayable unit meant entries
  replayable unit meant entries p same w j =
      let here : p.meaning.world ≡ meant = cc (p.meaning.of_world, w) in
      let read : journal_of journal (length meant.threads) ≡ Ok p.meaning.entries = subst (λ (s : World). journal_of journal (length s.threads) ≡ Ok p.meaning.entries) here p.meaning.of_journal in
      let those : p.meaning.entries ≡ entries = cc (read, j) in
      let on_unit : IsReplayable unit p.meaning.world p.meaning.entries = subst (λ (u : SourceUnit). IsReplayable u p.meaning.world p.meaning.entries) (sym same) (record { fits = p.meaning.loads; defined = p.replays }) in
      let on_world : IsReplayable unit meant p.meaning.entries = subst (λ (s : World). IsReplayable unit s p.meaning.entries) here on_unit in
      subst (λ (e : Journal). IsReplayable unit meant e) those on_world
