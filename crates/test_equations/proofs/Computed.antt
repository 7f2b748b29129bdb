-- How the claims are computed.
use Rattle.std.proofs.Common.{◌≡◌, ◌≢◌, ℕ, ◌+◌, ◌≤◌, nat_le, nat_lt, Bool, true, false, ◌&&◌, inl, inr, List, [], ◌∷◌, ◌++◌, map, length, flat_map, refl, sym, ◌∙◌, ap, subst, Option, Some, None, is_none, if◌then◌else◌}
use Rattle.std.specs.Prelude.{IsTrue}
use Rattle.std.specs.Fmt.{digits}
use Rattle.std.specs.List.{list_all, list_any, AllZip}
use Rattle.std.specs.Str.{bytes_eq}
use Rattle.std.proofs.lemmas.Bool.{leb-true, ltb-true}
use Rattle.syntax.specs.Limits.{IsTree, levelled, numbers_in_range, text_of_bytes, block_height, block_well_formed}
use Rattle.syntax.specs.Parts.{functions_of, statics_of, statements_of, own_expressions, own_arguments, names_declared, parameter_names}
use Rattle.syntax.specs.Tree.{SourceUnit}
use Rattle.class_rules.specs.BuiltIns.{built_ins}
use Rattle.class_rules.specs.Class.{Classes}
use Rattle.class_rules.specs.Mangling.{unmangle}
use Rattle.jni.specs.JniFunction.{function_named}
use Rattle.type_rules.specs.declared.rule.TypeRule.{TypeRule}
use Rattle.type_rules.specs.TypeRules.{type_rule_number, IsWellTyped, first_broken}
use Rattle.semantics.specs.declared.schedule.ScheduleWord.{ScheduleWord}
use Rattle.semantics.specs.declared.schedule.ScheduleWord.TheVariants.{Turn, Collect, Slice}
use Rattle.semantics.specs.Journal.{Journal, Entry, Step, Clearing, steps_in, clearings_in}
use Rattle.world_schedules.specs.JournalMeaning.{IsJournalText, is_entry}
use Rattle.semantics.specs.JournalText.{entry_text, journal_line}
use Rattle.semantics.specs.Object.{Object, sizes}
use Rattle.world_lines.specs.ReadingValues.{value_named}
use Rattle.world_schedules.specs.ReadingWords.{lines_words, allowed_words}
use Rattle.world_lines.specs.ReadingLines.{heap_of_line, line_of}
use Rattle.world.specs.ReadingWorlds.{line_read, lines_read, heap_read, world_read, numbered_read}
use Rattle.report.specs.ReportText.{report_text}
use Rattle.semantics.specs.Schedule.{Schedule}
use Rattle.world_schedules.specs.ScheduleText.{IsScheduleText, schedule_word, words_meant, is_turn, is_count}
use Rattle.world_schedules.specs.Words.{words_of}
use Rattle.semantics.specs.WeakReferences.{lost}
use Rattle.semantics.specs.World.{World}
use Rattle.world_values.specs.WorldLines.{WorldLine, Lines, has_words, line_text, spaced, text_lines}
use Rattle.world_values.specs.WorldMeaning.{has_methods, world_of}
use Rattle.world_values.specs.WorldRules.{IsWorldText, IsNumberedLine, broken_after, first_lines, heap_words, is_thread_line}
use Rattle.std.proofs.lemmas.Slice.Eq.{bytes_eq-Decides}
use Rattle.semantics.specs.Answer.{effect_of}
use Rattle.semantics.specs.AnswerTable.{call_answer}
use Rattle.semantics.specs.Checks.{go_together, trap_of}
use Rattle.regions.specs.Findings.{first_fault}
use Rattle.semantics.specs.Load.{first_load_fault}
use Rattle.semantics.specs.Reachable.{live_size}
use Rattle.region_rules.specs.declared.rule.RegionRule.{RegionRule}
use Rattle.region_rules.specs.RegionRules.{region_rule_number}
use Rattle.semantics.specs.ReportOf.{report}
use Rattle.semantics.specs.Run.{Follows, Over, Collects, Clears, Slices, SliceClears, Waits, Steps, ClearsAndSteps, ClearsLost, IsFair, Fits, FitsUnmarked, IsFairMarked, EachFrom, made_between, made, wanted, replay}
use Rattle.report.specs.RunText.{Writes}
use Rattle.semantics.specs.Start.{start}
use Rattle.semantics.specs.State.{State, thread_at, views}
use Rattle.semantics.specs.Step.{turn_step, clearing_step, world_step, can_step, step_of}
use Rattle.semantics.proofs.RunLaws.{follows-replay}
use Rattle.regions.proofs.UnitLemmas.{accepted-all, faulty-all}
use Rattle.test_equations.specs.Claims.{IsAccepted, IsRefused, by_types, by_regions, Beginning, IsWorkedRun, IsWorkedReplay, IsStoppedReplay, IsUnloaded}
use Rattle.test_equations.proofs.Programs.{entry}

-- what the computations unfold
unfoldable pub opened : Unit {0}
unfolding turn_step clearing_step trap_of go_together call_answer effect_of report report_text journal_line digits function_named unmangle built_ins
opened = tt

-- what the reading of worlds and schedules unfolds beside
unfoldable pub read : Unit {0}
unfolding digits built_ins lines_words allowed_words numbered_read heap_of_line heap_read lines_read line_read line_of value_named world_read
read = tt

both : (a b : Bool) → IsTrue (a && b) → IsTrue a × IsTrue b
both true b h = (refl, h)
both false b h = absurd cc

-- ---- checks

-- the expressions follow precedence, their numbers are in range, and texts are of bytes
abbrev pub has_expressions : SourceUnit → Bool
has_expressions unit =
    list_all (λ f. list_all (λ s. list_all levelled (own_expressions s)) (statements_of f.body)) (functions_of unit)
    && (list_all (λ f. list_all (λ s. list_all numbers_in_range (own_expressions s)) (statements_of f.body)) (functions_of unit)
    && list_all (λ f. list_all (λ s. list_all text_of_bytes (own_arguments s)) (statements_of f.body)) (functions_of unit))

-- the blocks are well formed and low
abbrev pub has_blocks : SourceUnit → Bool
has_blocks unit =
    list_all (λ f. block_well_formed f.body) (functions_of unit)
    && list_all (λ f. nat_le (block_height f.body) 32) (functions_of unit)

-- there are not too many functions, statics and names
abbrev pub has_few : SourceUnit → Bool
has_few unit =
    nat_le (length (functions_of unit)) 256
    && (nat_le (length (statics_of unit)) 256
    && list_all (λ f. nat_le (length (parameter_names f ++ names_declared (statements_of f.body))) 256) (functions_of unit))

-- the tree is within the limits
abbrev pub is_tree : SourceUnit → Bool
is_tree unit = has_expressions unit && (has_blocks unit && has_few unit)

pub a_tree : (unit : SourceUnit) → IsTrue (is_tree unit) → IsTree unit
a_tree unit h =
    let parts = both (has_expressions unit) (has_blocks unit && has_few unit) h in
    let further = both (has_blocks unit) (has_few unit) parts.1 in
    let expressions = both _ _ parts.0 in
    let ranges = both _ _ expressions.1 in
    let blocks = both _ _ further.0 in
    let few = both _ _ further.1 in
    let fewer = both _ _ few.1 in
    record {
      levelled_expressions = expressions.0;
      numbers = ranges.0;
      texts = ranges.1;
      forms = blocks.0;
      low = blocks.1;
      few_functions = leb-true _ _ few.0;
      few_statics = leb-true _ _ fewer.0;
      few_names = fewer.1;
    }

pub accepted : (unit : SourceUnit) → IsTrue (is_tree unit) → IsWellTyped unit → first_fault (functions_of unit) ≡ None → IsAccepted unit
accepted unit tree well_typed none = record { tree = a_tree unit tree; well_typed = well_typed; regions = accepted-all (functions_of unit) none }

pub ill_typed : (unit : SourceUnit) (rule : TypeRule) (line : ℕ) → IsTrue (is_tree unit) → first_broken unit ≡ Some (line, rule) → IsRefused unit (type_rule_number rule) line
ill_typed unit rule line tree first = by_types rule line (a_tree unit tree) first

pub bad_path : (unit : SourceUnit) (rule : RegionRule) (line : ℕ) → IsTrue (is_tree unit) → IsWellTyped unit → first_fault (functions_of unit) ≡ Some (line, rule) → IsRefused unit (region_rule_number rule) line
bad_path unit rule line tree well_typed first = by_regions rule line (a_tree unit tree) well_typed (faulty-all (functions_of unit) (line, rule) first)

-- ---- texts

-- a line with its number, as it is written
abbrev pub written_line : ℕ × WorldLine → ℕ × List ℕ
written_line l = (l.0, line_text l.1)

lines-spelled : (lines : Lines) → IsTrue (list_all (λ l. has_words l.1) lines) → AllZip IsNumberedLine (map written_line lines) lines
lines-spelled [] words = tt
lines-spelled (l ∷ lines) words = let parts = both (has_words l.1) (list_all (λ l. has_words l.1) lines) words in ((refl, (parts.0, inl refl)), lines-spelled lines parts.1)

pub world-text : (text : List ℕ) (cells : ℕ) (methods : Bool) (lines : Lines) (heap_line : ℕ)
    → text_lines text ≡ (heap_line, spaced (heap_words cells methods)) ∷ map written_line lines
    → IsTrue (nat_le 512 cells && nat_le cells 1048576)
    → broken_after cells (first_lines heap_line methods) lines ≡ []
    → IsTrue (list_any (λ (l : ℕ × WorldLine). is_thread_line l.1) lines && list_all (λ (l : ℕ × WorldLine). has_words l.1) lines)
    → has_methods (first_lines heap_line methods ++ lines) ≡ methods
    → IsWorldText text (world_of heap_line cells (first_lines heap_line methods ++ lines))
world-text text cells methods lines heap_line spelled size rules formed same =
    let sizes = both (nat_le 512 cells) (nat_le cells 1048576) size in
    let parts = both (list_any (λ (l : ℕ × WorldLine). is_thread_line l.1) lines) (list_all (λ (l : ℕ × WorldLine). has_words l.1) lines) formed in
    record {
      written = map written_line lines;
      lines = lines;
      spelled = spelled ∙ ap (λ m. (heap_line, spaced (heap_words cells m)) ∷ map written_line lines) (sym same);
      lines_spelled = lines-spelled lines parts.1;
      size = (leb-true _ _ sizes.0, leb-true _ _ sizes.1);
      rules = ap (λ m. broken_after cells (first_lines heap_line m) lines) same ∙ rules;
      threads = parts.0;
      meant = ap (λ m. world_of heap_line cells (first_lines heap_line m ++ lines)) (sym same);
    }

-- the words of a schedule are turns, collections and slices, and not too many
abbrev pub is_schedule : ℕ → List (ScheduleWord × Option ℕ) → Bool
is_schedule threads words =
    list_all (λ w. is_turn threads w.0 && is_count w.1) words && nat_le (length (flat_map words_meant words)) 1000000

pub schedule-text : (threads : ℕ) (text : List ℕ) (words : List (ScheduleWord × Option ℕ))
    → words_of text ≡ map schedule_word words
    → IsTrue (is_schedule threads words)
    → IsScheduleText threads text (flat_map words_meant words)
schedule-text threads text words spelled h =
    let parts = both (list_all (λ w. is_turn threads w.0 && is_count w.1) words) (nat_le (length (flat_map words_meant words)) 1000000) h in
    record { words = words; spelled = spelled; counted = parts.0; meant = refl; few = leb-true _ _ parts.1 }

-- the entries of a journal are those of threads, or clearings, and not too many
abbrev pub is_journal : ℕ → Journal → Bool
is_journal threads journal = list_all (is_entry threads) journal && (nat_le (steps_in journal) 1000000 && nat_le (clearings_in journal) 1000000)

journal-text : (threads : ℕ) (text : List ℕ) (journal : Journal) → words_of text ≡ map entry_text journal → IsTrue (is_journal threads journal) → IsJournalText threads text journal
journal-text threads text journal spelled h =
    let parts = both (list_all (is_entry threads) journal) (nat_le (steps_in journal) 1000000 && nat_le (clearings_in journal) 1000000) h in
    let few = both (nat_le (steps_in journal) 1000000) (nat_le (clearings_in journal) 1000000) parts.1 in
    record { spelled = spelled; known = parts.0; few = leb-true _ _ few.0; few_clearings = leb-true _ _ few.1 }

abbrev pub begins : (unit : SourceUnit) (world : List ℕ) (w : World) → IsAccepted unit → IsWorldText world w → first_load_fault unit w ≡ None → Beginning unit world
begins unit world w accepted of_world loads = record { accepted = accepted; w = w; of_world = of_world; loads = loads }

-- ---- runs

-- how a step is entered: refused or not, alone or after the clearing of all that is lost; or what a slice clears
pub data Mark : Type 0 where
  Alone AfterClearing : (refused : Bool) → Mark
  Sliced : (names : List ℕ) → Mark

-- the first mark, and where there are no more that of a step as most are
abbrev pub first_mark : List Mark → Mark
first_mark [] = Alone false
first_mark (mark ∷ marks) = mark

-- the marks after the first
abbrev pub later_marks : List Mark → List Mark
later_marks [] = []
later_marks (mark ∷ marks) = marks

-- a step that is possible is one of a thread that can step
if_true : (b : Bool) (o : Option State) (next : State) → (if b then o else None) ≡ Some next → b ≡ true
if_true true o next h = refl
if_true false o next h = absurd cc

can-step : (unit : SourceUnit) (classes : Classes) (s next : State) (k : ℕ) (refused : Bool) → turn_step unit classes s k refused ≡ Some next → can_step classes s k ≡ true
unfolding turn_step
can-step unit classes s next k refused h = if_true (can_step classes s k) (step_of unit classes s k refused (thread_at s k)) next h

-- a journal in front of others, turned round
abbrev pub onto : Journal → Journal → Journal
onto [] later = later
onto (e ∷ journal) later = onto journal (e ∷ later)

onto-onto : (journal later more : Journal) → onto (onto journal later) more ≡ onto later (journal ++ more)
onto-onto [] later more = refl
onto-onto (e ∷ journal) later more = onto-onto journal (e ∷ later) more

with_none : (journal : Journal) → journal ++ [] ≡ journal
with_none [] = refl
with_none (e ∷ journal) = ap (λ j. e ∷ j) (with_none journal)

turned_twice : (journal : Journal) → onto (onto journal []) [] ≡ journal
turned_twice journal = onto-onto journal [] [] ∙ with_none journal

-- what a run adds to the latest entries is a journal that follows the schedule, and each of its entries has room, or is fairly refused
pub record Lawful (unit : SourceUnit) (w : World) (s : State) (words : Schedule) (latest : Journal) (end : State) (whole : Journal) : Type 0 where
  pub journal : Journal
  pub adds : whole ≡ onto journal latest
  pub follows : Follows unit w s journal words end
  pub fits : EachFrom unit w (FitsUnmarked unit w) (Some s) journal
  pub fair : EachFrom unit w (IsFairMarked unit w) (Some s) journal

module _ (unit : SourceUnit) (w : World) where
  -- ---- room

  -- whether something is pinned
  abbrev pub is_some_view : List ℕ → Bool
  is_some_view [] = false
  is_some_view (n ∷ names) = true

  -- a refusal is lawful: something is pinned, or there was no room
  abbrev pub refusal_is_fair : State → ℕ → Bool → Bool
  refusal_is_fair s k true = true
  refusal_is_fair s k false = nat_lt w.cells (wanted unit w s k)

  -- an allocation of these objects is lawful
  abbrev pub allocation_fits : State → List Object → Bool
  allocation_fits s [] = true
  allocation_fits s (o ∷ objects) = nat_le (live_size w s + sizes (o ∷ objects)) w.cells

  -- a step to another state, refused or not
  abbrev pub has_room : State → ℕ → Bool → State → Bool
  has_room s k true next = refusal_is_fair s k (is_some_view (views s))
  has_room s k false next = allocation_fits s (made_between s (Some next))

  refused-room : (s : State) (k : ℕ) (names : List ℕ) → views s ≡ names → IsTrue (refusal_is_fair s k (is_some_view names)) → IsFair unit w s k
  refused-room s k [] e h = inl (ltb-true _ _ h)
  refused-room s k (n ∷ names) e h = inr (λ none. absurd cc)

  fits-room : (s : State) (k : ℕ) (objects : List Object) → made unit w s k ≡ objects → IsTrue (allocation_fits s objects) → Fits unit w s k
  fits-room s k [] e h = λ some. absurd (some e)
  fits-room s k (o ∷ objects) e h = λ some. subst (λ xs. live_size w s + sizes xs ≤ w.cells) (sym e) (leb-true _ _ h)

  step-fits : (s next : State) (k : ℕ) (refused : Bool) → turn_step unit w.classes s k refused ≡ Some next → IsTrue (has_room s k refused next) → FitsUnmarked unit w s (Step k refused)
  step-fits s next k true e h = tt
  step-fits s next k false e h = fits-room s k (made_between s (Some next)) (ap (made_between s) e) h

  step-fair : (s next : State) (k : ℕ) (refused : Bool) → IsTrue (has_room s k refused next) → IsFairMarked unit w s (Step k refused)
  step-fair s next k true h = refused-room s k (views s) refl h
  step-fair s next k false h = tt

  -- ---- the run by a schedule

  -- what a run goes on with: a state, the marks that are left, and the entries so far, the latest first
  abbrev pub Further : Type 0
  Further = State → List Mark → Journal → Option (State × Journal)

  -- the run goes on after a step that has room
  abbrev pub after_step : Further → State → List Mark → Journal → Bool → Option (State × Journal)
  after_step go next marks latest true = go next marks latest
  after_step go next marks latest false = None

  -- it goes on after the turn of a thread that can't step
  abbrev pub after_waiting : Option (State × Journal) → Bool → Option (State × Journal)
  after_waiting r false = r
  after_waiting r true = None

  -- after a thread's turn, with the state after its step if that is possible
  abbrev pub after_turn : ℕ → Bool → Further → State → List Mark → Journal → Option State → Option (State × Journal)
  after_turn k refused go s marks latest None = after_waiting (go s marks latest) (can_step w.classes s k)
  after_turn k refused go s marks latest (Some next) = after_step go next (later_marks marks) (entry k refused ∷ latest) (has_room s k refused next)

  -- it goes on after a clearing that is possible
  abbrev pub after_clearing : (State → Journal → Option (State × Journal)) → List ℕ → Journal → Option State → Option (State × Journal)
  after_clearing go names latest None = None
  after_clearing go names latest (Some next) = go next (Clearing names ∷ latest)

  -- a clearing stands before the entries of steps alone that make objects
  abbrev pub where_made : List Object → Option (State × Journal) → Option (State × Journal)
  where_made [] r = None
  where_made (o ∷ objects) r = r

  -- after a thread's turn behind a clearing
  abbrev pub after_cleared_turn : ℕ → Bool → Further → State → List Mark → Journal → Option State → Option (State × Journal)
  after_cleared_turn k refused go between marks latest None = None
  after_cleared_turn k refused go between marks latest (Some next) =
      after_step go next (later_marks marks) (entry k refused ∷ latest) (has_room between k refused next)

  -- a thread's turn behind a clearing
  abbrev pub cleared_turn : ℕ → Bool → Further → List Mark → State → Journal → Option (State × Journal)
  cleared_turn k refused go marks between latest = after_cleared_turn k refused go between marks latest (turn_step unit w.classes between k refused)

  -- a thread's turn
  abbrev pub turn : ℕ → Further → State → List Mark → Journal → Mark → Option (State × Journal)
  turn k go s marks latest (Alone refused) = after_turn k refused go s marks latest (turn_step unit w.classes s k refused)
  turn k go s marks latest (AfterClearing refused) =
      where_made (made unit w s k) (after_clearing (cleared_turn k refused go marks) (lost w s) latest (clearing_step w s (lost w s)))
  turn k go s marks latest (Sliced names) = None

  -- a collection clears all that is lost, and gives no entry where nothing is
  abbrev pub collection : (State → Journal → Option (State × Journal)) → State → Journal → List ℕ → Option (State × Journal)
  collection go s latest [] = go s latest
  collection go s latest (n ∷ names) = after_clearing go (n ∷ names) latest (clearing_step w s (n ∷ names))

  -- a slice clears what its mark says, and nothing where the next mark is one of a step
  abbrev pub slice : Further → State → List Mark → Journal → Mark → Option (State × Journal)
  slice go s marks latest (Alone refused) = go s marks latest
  slice go s marks latest (AfterClearing refused) = go s marks latest
  slice go s marks latest (Sliced []) = go s (later_marks marks) latest
  slice go s marks latest (Sliced (n ∷ names)) =
      after_clearing (λ next j. go next (later_marks marks) j) (n ∷ names) latest (clearing_step w s (n ∷ names))

  -- The state and the journal of a run by a schedule, the latest entry first. Each step has a mark, up to the last that isn't as most are.
  abbrev pub run : Schedule → State → List Mark → Journal → Option (State × Journal)
  run [] s marks latest = Some (s, latest)
  run (Collect ∷ words) s marks latest = collection (λ next j. run words next marks j) s latest (lost w s)
  run (Slice ∷ words) s marks latest = slice (λ next rest j. run words next rest j) s marks latest (first_mark marks)
  run (Turn k ∷ words) s marks latest = turn k (λ next rest j. run words next rest j) s marks latest (first_mark marks)

  -- where there is an end
  abbrev pub IsLawful : State → Schedule → Journal → Option (State × Journal) → Type 0
  IsLawful s words latest None = Unit {0}
  IsLawful s words latest (Some (end, whole)) = Lawful unit w s words latest end whole

  -- a clearing of all that is lost, and what follows it
  clears : (s next : State) (names : List ℕ) (words : Schedule) (latest : Journal) (r : Option (State × Journal)) → ClearsLost w s names next
      → IsLawful next words (Clearing names ∷ latest) r
      → IsLawful s (Collect ∷ words) latest r
  clears s next names words latest None c h = tt
  clears s next names words latest (Some (end, whole)) c h = record {
    journal = Clearing names ∷ h.journal;
    adds = h.adds;
    follows = Clears s next end names h.journal words c h.follows;
    fits = (tt, subst (λ o. EachFrom unit w (FitsUnmarked unit w) o h.journal) (sym c.possible) h.fits);
    fair = (tt, subst (λ o. EachFrom unit w (IsFairMarked unit w) o h.journal) (sym c.possible) h.fair);
  }

  clears_where : (s : State) (words : Schedule) (go : State → Journal → Option (State × Journal)) (names : List ℕ) (latest : Journal) (o : Option State)
      → lost w s ≡ names → clearing_step w s names ≡ o
      → ((next : State) (j : Journal) → IsLawful next words j (go next j)) → IsLawful s (Collect ∷ words) latest (after_clearing go names latest o)
  clears_where s words go names latest None e c further = tt
  clears_where s words go names latest (Some next) e c further =
      clears s next names words latest (go next (Clearing names ∷ latest)) (record { all = e; possible = c }) (further next (Clearing names ∷ latest))

  keeps_all : (s : State) (words : Schedule) (latest : Journal) (r : Option (State × Journal)) → lost w s ≡ [] → IsLawful s words latest r
      → IsLawful s (Collect ∷ words) latest r
  keeps_all s words latest None e h = tt
  keeps_all s words latest (Some (end, whole)) e h =
      record { journal = h.journal; adds = h.adds; follows = Collects s end h.journal words e h.follows; fits = h.fits; fair = h.fair }

  collects : (s : State) (words : Schedule) (go : State → Journal → Option (State × Journal)) (latest : Journal) (names : List ℕ) → lost w s ≡ names
      → ((next : State) (j : Journal) → IsLawful next words j (go next j)) → IsLawful s (Collect ∷ words) latest (collection go s latest names)
  collects s words go latest [] e further = keeps_all s words latest (go s latest) e (further s latest)
  collects s words go latest (n ∷ names) e further = clears_where s words go (n ∷ names) latest (clearing_step w s (n ∷ names)) e refl further

  -- a slice that clears nothing
  slices_alone : (s : State) (words : Schedule) (latest : Journal) (r : Option (State × Journal)) → IsLawful s words latest r → IsLawful s (Slice ∷ words) latest r
  slices_alone s words latest None h = tt
  slices_alone s words latest (Some (end, whole)) h =
      record { journal = h.journal; adds = h.adds; follows = Slices s end h.journal words h.follows; fits = h.fits; fair = h.fair }

  -- one that clears what may be cleared
  slice_clears : (s next : State) (names : List ℕ) (words : Schedule) (latest : Journal) (r : Option (State × Journal)) → clearing_step w s names ≡ Some next
      → IsLawful next words (Clearing names ∷ latest) r
      → IsLawful s (Slice ∷ words) latest r
  slice_clears s next names words latest None c h = tt
  slice_clears s next names words latest (Some (end, whole)) c h = record {
    journal = Clearing names ∷ h.journal;
    adds = h.adds;
    follows = SliceClears s next end names h.journal words c h.follows;
    fits = (tt, subst (λ o. EachFrom unit w (FitsUnmarked unit w) o h.journal) (sym c) h.fits);
    fair = (tt, subst (λ o. EachFrom unit w (IsFairMarked unit w) o h.journal) (sym c) h.fair);
  }

  slice_where : (s : State) (words : Schedule) (go : State → Journal → Option (State × Journal)) (names : List ℕ) (latest : Journal) (o : Option State)
      → clearing_step w s names ≡ o
      → ((next : State) (j : Journal) → IsLawful next words j (go next j)) → IsLawful s (Slice ∷ words) latest (after_clearing go names latest o)
  slice_where s words go names latest None c further = tt
  slice_where s words go names latest (Some next) c further = slice_clears s next names words latest (go next (Clearing names ∷ latest)) c (further next (Clearing names ∷ latest))

  slices : (s : State) (words : Schedule) (go : Further) (marks : List Mark) (latest : Journal) (mark : Mark)
      → ((next : State) (rest : List Mark) (j : Journal) → IsLawful next words j (go next rest j))
      → IsLawful s (Slice ∷ words) latest (slice go s marks latest mark)
  slices s words go marks latest (Alone refused) further = slices_alone s words latest (go s marks latest) (further s marks latest)
  slices s words go marks latest (AfterClearing refused) further = slices_alone s words latest (go s marks latest) (further s marks latest)
  slices s words go marks latest (Sliced []) further = slices_alone s words latest (go s (later_marks marks) latest) (further s (later_marks marks) latest)
  slices s words go marks latest (Sliced (n ∷ names)) further =
      slice_where s words (λ next j. go next (later_marks marks) j) (n ∷ names) latest (clearing_step w s (n ∷ names)) refl
      (λ next j. further next (later_marks marks) j)

  waits : (s : State) (k : ℕ) (words : Schedule) (latest : Journal) (r : Option (State × Journal)) (can : Bool) → can_step w.classes s k ≡ can
      → IsLawful s words latest r → IsLawful s (Turn k ∷ words) latest (after_waiting r can)
  waits s k words latest r true e h = tt
  waits s k words latest None false e h = tt
  waits s k words latest (Some (end, whole)) false e h =
      record { journal = h.journal; adds = h.adds; follows = Waits s end k h.journal words e h.follows; fits = h.fits; fair = h.fair }

  goes_on : (s next : State) (k : ℕ) (refused : Bool) (words : Schedule) (latest : Journal) (r : Option (State × Journal))
      → turn_step unit w.classes s k refused ≡ Some next → IsTrue (has_room s k refused next) → IsLawful next words (entry k refused ∷ latest) r
      → IsLawful s (Turn k ∷ words) latest r
  goes_on s next k refused words latest None e is h = tt
  goes_on s next k refused words latest (Some (end, whole)) e is h =
      record {
        journal = entry k refused ∷ h.journal;
        adds = h.adds;
        follows = Steps s next end k refused h.journal words (can-step unit w.classes s next k refused e) e h.follows;
        fits = (step-fits s next k refused e is, subst (λ o. EachFrom unit w (FitsUnmarked unit w) o h.journal) (sym e) h.fits);
        fair = (step-fair s next k refused is, subst (λ o. EachFrom unit w (IsFairMarked unit w) o h.journal) (sym e) h.fair);
      }

  steps : (s next : State) (k : ℕ) (refused : Bool) (words : Schedule) (go : Further) (marks : List Mark) (latest : Journal) (room : Bool)
      → turn_step unit w.classes s k refused ≡ Some next → has_room s k refused next ≡ room
      → IsLawful next words (entry k refused ∷ latest) (go next marks (entry k refused ∷ latest))
      → IsLawful s (Turn k ∷ words) latest (after_step go next marks (entry k refused ∷ latest) room)
  steps s next k refused words go marks latest false e is h = tt
  steps s next k refused words go marks latest true e is h = goes_on s next k refused words latest (go next marks (entry k refused ∷ latest)) e is h

  turns : (s : State) (k : ℕ) (refused : Bool) (words : Schedule) (go : Further) (marks : List Mark) (latest : Journal) (o : Option State)
      → turn_step unit w.classes s k refused ≡ o
      → ((next : State) (rest : List Mark) (j : Journal) → IsLawful next words j (go next rest j))
      → IsLawful s (Turn k ∷ words) latest (after_turn k refused go s marks latest o)
  turns s k refused words go marks latest None e further = waits s k words latest (go s marks latest) (can_step w.classes s k) refl (further s marks latest)
  turns s k refused words go marks latest (Some next) e further =
      steps s next k refused words go (later_marks marks) latest (has_room s k refused next) e refl
      (further next (later_marks marks) (entry k refused ∷ latest))

  -- a thread whose step makes objects can step
  can-make : (s : State) (k : ℕ) (o : Option State) → turn_step unit w.classes s k false ≡ o → made_between s o ≢ [] → can_step w.classes s k ≡ true
  can-make s k None e some = absurd (some refl)
  can-make s k (Some next) e some = can-step unit w.classes s next k false e

  -- the clearing before a step
  clears_first : (s between next : State) (names : List ℕ) (k : ℕ) (refused : Bool) (words : Schedule) (latest : Journal) (r : Option (State × Journal))
      → made unit w s k ≢ [] → ClearsLost w s names between
      → turn_step unit w.classes between k refused ≡ Some next → IsTrue (has_room between k refused next)
      → IsLawful next words (entry k refused ∷ Clearing names ∷ latest) r → IsLawful s (Turn k ∷ words) latest r
  clears_first s between next names k refused words latest None some c e is h = tt
  clears_first s between next names k refused words latest (Some (end, whole)) some c e is h =
      record {
        journal = Clearing names ∷ entry k refused ∷ h.journal;
        adds = h.adds;
        follows = ClearsAndSteps s between next end names k refused h.journal words
            (can-make s k (turn_step unit w.classes s k false) refl some) some c e h.follows;
        fits = (
          tt,
          subst (λ o. EachFrom unit w (FitsUnmarked unit w) o (entry k refused ∷ h.journal)) (sym c.possible)
              (step-fits between next k refused e is, subst (λ o. EachFrom unit w (FitsUnmarked unit w) o h.journal) (sym e) h.fits),
        );
        fair = (
          tt,
          subst (λ o. EachFrom unit w (IsFairMarked unit w) o (entry k refused ∷ h.journal)) (sym c.possible)
              (step-fair between next k refused is, subst (λ o. EachFrom unit w (IsFairMarked unit w) o h.journal) (sym e) h.fair),
        );
      }

  steps_then : (s between next : State) (names : List ℕ) (k : ℕ) (refused : Bool) (words : Schedule) (go : Further) (marks : List Mark)
      → (latest : Journal) (room : Bool)
      → made unit w s k ≢ [] → ClearsLost w s names between
      → turn_step unit w.classes between k refused ≡ Some next → has_room between k refused next ≡ room
      → IsLawful next words (entry k refused ∷ Clearing names ∷ latest) (go next marks (entry k refused ∷ Clearing names ∷ latest))
      → IsLawful s (Turn k ∷ words) latest (after_step go next marks (entry k refused ∷ Clearing names ∷ latest) room)
  steps_then s between next names k refused words go marks latest false some c e is h = tt
  steps_then s between next names k refused words go marks latest true some c e is h =
      clears_first s between next names k refused words latest (go next marks (entry k refused ∷ Clearing names ∷ latest)) some c e is h

  turns_then : (s between : State) (names : List ℕ) (k : ℕ) (refused : Bool) (words : Schedule) (go : Further) (marks : List Mark)
      → (latest : Journal) (o : Option State)
      → made unit w s k ≢ [] → ClearsLost w s names between
      → turn_step unit w.classes between k refused ≡ o → ((next : State) (rest : List Mark) (j : Journal) → IsLawful next words j (go next rest j))
      → IsLawful s (Turn k ∷ words) latest (after_cleared_turn k refused go between marks (Clearing names ∷ latest) o)
  turns_then s between names k refused words go marks latest None some c e further = tt
  turns_then s between names k refused words go marks latest (Some next) some c e further =
      steps_then s between next names k refused words go (later_marks marks) latest (has_room between k refused next) some c e refl
      (further next (later_marks marks) (entry k refused ∷ Clearing names ∷ latest))

  turns_cleared : (s : State) (names : List ℕ) (k : ℕ) (refused : Bool) (words : Schedule) (go : Further) (marks : List Mark)
      → (latest : Journal) (o : Option State)
      → made unit w s k ≢ [] → lost w s ≡ names → clearing_step w s names ≡ o
      → ((next : State) (rest : List Mark) (j : Journal) → IsLawful next words j (go next rest j))
      → IsLawful s (Turn k ∷ words) latest (after_clearing (cleared_turn k refused go marks) names latest o)
  turns_cleared s names k refused words go marks latest None some e c further = tt
  turns_cleared s names k refused words go marks latest (Some between) some e c further =
      turns_then s between names k refused words go marks latest (turn_step unit w.classes between k refused) some
      (record { all = e; possible = c }) refl further

  makes : (s : State) (k : ℕ) (words : Schedule) (latest : Journal) (r : Option (State × Journal)) (objects : List Object) → made unit w s k ≡ objects
      → (made unit w s k ≢ [] → IsLawful s (Turn k ∷ words) latest r)
      → IsLawful s (Turn k ∷ words) latest (where_made objects r)
  makes s k words latest r [] e h = tt
  makes s k words latest r (o ∷ objects) e h = h (λ none. absurd (cc (sym e ∙ none)))

  any_turn : (s : State) (k : ℕ) (words : Schedule) (go : Further) (marks : List Mark) (latest : Journal) (mark : Mark)
      → ((next : State) (rest : List Mark) (j : Journal) → IsLawful next words j (go next rest j))
      → IsLawful s (Turn k ∷ words) latest (turn k go s marks latest mark)
  any_turn s k words go marks latest (Alone refused) further = turns s k refused words go marks latest (turn_step unit w.classes s k refused) refl further
  any_turn s k words go marks latest (AfterClearing refused) further =
      makes s k words latest
      (after_clearing (cleared_turn k refused go marks) (lost w s) latest (clearing_step w s (lost w s)))
      (made unit w s k) refl (λ some. turns_cleared s (lost w s) k refused words go marks latest (clearing_step w s (lost w s)) some refl refl further)
  any_turn s k words go marks latest (Sliced names) further = tt

  run-lawful : (words : Schedule) (s : State) (marks : List Mark) (latest : Journal) → IsLawful s words latest (run words s marks latest)
  run-lawful [] s marks latest = record { journal = []; adds = refl; follows = Over s; fits = tt; fair = tt }
  run-lawful (Collect ∷ words) s marks latest =
      collects s words (λ next j. run words next marks j) latest (lost w s) refl (λ next j. run-lawful words next marks j)
  run-lawful (Slice ∷ words) s marks latest =
      slices s words (λ next rest j. run words next rest j) marks latest (first_mark marks) (λ next rest j. run-lawful words next rest j)
  run-lawful (Turn k ∷ words) s marks latest =
      any_turn s k words (λ next rest j. run words next rest j) marks latest (first_mark marks) (λ next rest j. run-lawful words next rest j)

  -- ---- what is written

  -- the report of a state, and a journal
  abbrev pub output : State → Journal → List ℕ
  output end journal = report_text (report w end) ++ journal_line journal

  -- a run ends, and this is written
  abbrev pub runs_to : List ℕ → Option (State × Journal) → Bool
  runs_to text None = false
  runs_to text (Some (end, latest)) = bytes_eq text (output end (onto latest []))

  run-writes : (schedule text world : List ℕ) (words : Schedule) (r : Option (State × Journal)) (h : IsAccepted unit) (of_world : IsWorldText world w) (loads : first_load_fault unit w ≡ None) → IsScheduleText (length w.threads) schedule words → IsLawful (start unit w) words [] r → IsTrue (runs_to text r) → IsWorkedRun unit world schedule text
  run-writes schedule text world words None h of_world loads of_schedule lawful is = absurd cc
  run-writes schedule text world words (Some (end, latest)) h of_world loads of_schedule lawful is =
      record {
        beginning = begins unit world w h of_world loads;
        words = words;
        of_schedule = of_schedule;
        journal = lawful.journal;
        follows = (end, lawful.follows);
        fits = lawful.fits;
        fair = lawful.fair;
        writes = record {
          end = end;
          replays = follows-replay unit w lawful.follows;
          same = (bytes_eq-Decides text (output end (onto latest []))).0 is ∙ ap (output end) (ap (λ j. onto j []) lawful.adds ∙ turned_twice lawful.journal);
        };
      }

-- the same world, with its parts worked out, so that each step of a computation finds them so
abbrev pub worked_out : World → World
worked_out w = record { heap_line = w.heap_line; methods = w.methods; cells = w.cells; classes = w.classes; objects = w.objects; threads = w.threads }

pub worked-run : {world schedule text : List ℕ} (unit : SourceUnit) (w : World) (words : List (ScheduleWord × Option ℕ)) (marks : List Mark)
    → IsAccepted unit
    → IsWorldText world w
    → first_load_fault unit w ≡ None
    → words_of schedule ≡ map schedule_word words
    → IsTrue (is_schedule (length w.threads) words)
    → IsTrue (runs_to unit (worked_out w) text (run unit (worked_out w) (flat_map words_meant words) (start unit (worked_out w)) marks []))
    → IsWorkedRun unit world schedule text
worked-run {world} {schedule} {text} unit w words marks h of_world loads spelled good is =
    run-writes unit w schedule text world (flat_map words_meant words) (run unit w (flat_map words_meant words) (start unit w) marks []) h of_world loads
    (schedule-text (length w.threads) schedule words spelled good) (run-lawful unit w (flat_map words_meant words) (start unit w) marks []) is

-- ---- replays

-- a replay ends, and this is written
abbrev pub replays_to : World → List ℕ → Journal → Option State → Bool
replays_to w text journal None = false
replays_to w text journal (Some end) = bytes_eq text (report_text (report w end) ++ journal_line journal)

replay-writes : (unit : SourceUnit) (w : World) (text : List ℕ) (journal : Journal) (o : Option State) → replay unit w journal ≡ o → IsTrue (replays_to w text journal o) → Writes unit w journal text
replay-writes unit w text journal None e is = absurd cc
replay-writes unit w text journal (Some end) e is = record { end = end; replays = e; same = (bytes_eq-Decides text (report_text (report w end) ++ journal_line journal)).0 is }

pub worked-replay : {world journal text : List ℕ} (unit : SourceUnit) (w : World) (entries : Journal)
    → IsAccepted unit
    → IsWorldText world w
    → first_load_fault unit w ≡ None
    → words_of journal ≡ map entry_text entries
    → IsTrue (is_journal (length w.threads) entries)
    → IsTrue (replays_to (worked_out w) text entries (replay unit (worked_out w) entries))
    → IsWorkedReplay unit world journal text
worked-replay {world} {journal} {text} unit w entries h of_world loads spelled good is =
    record {
      beginning = begins unit world w h of_world loads;
      entries = entries;
      of_journal = journal-text (length w.threads) journal entries spelled good;
      writes = replay-writes unit w text entries (replay unit w entries) refl is;
    }

-- a replay ends, and the next entry isn't possible
abbrev pub is_stopped : SourceUnit → World → Entry → Option State → Bool
is_stopped unit w e None = false
is_stopped unit w e (Some s) = is_none (world_step unit w s e)

-- a state in which the entry isn't possible
pub record Stops (unit : SourceUnit) (w : World) (e : Entry) (o : Option State) : Type 0 where
  pub before : State
  pub is : o ≡ Some before
  pub impossible : world_step unit w before e ≡ None

no_step : (o : Option State) → IsTrue (is_none o) → o ≡ None
no_step None h = refl
no_step (Some s) h = absurd cc

stops : (unit : SourceUnit) (w : World) (e : Entry) (o : Option State) → IsTrue (is_stopped unit w e o) → Stops unit w e o
stops unit w e None h = absurd cc
stops unit w e (Some s) h = record { before = s; is = refl; impossible = no_step (world_step unit w s e) h }

pub stopped-replay : {world journal : List ℕ} (unit : SourceUnit) (w : World) (done : Journal) (e : Entry) (rest : Journal)
    → IsAccepted unit
    → IsWorldText world w
    → first_load_fault unit w ≡ None
    → words_of journal ≡ map entry_text (done ++ e ∷ rest)
    → IsTrue (is_journal (length w.threads) (done ++ e ∷ rest))
    → IsTrue (is_stopped unit (worked_out w) e (replay unit (worked_out w) done))
    → IsStoppedReplay unit world journal (length done + 1)
stopped-replay {world} {journal} unit w done e rest h of_world loads spelled good is =
    let stop = stops unit w e (replay unit w done) is in
    record {
      beginning = begins unit world w h of_world loads;
      done = done;
      entry = e;
      rest = rest;
      of_journal = journal-text (length w.threads) journal (done ++ e ∷ rest) spelled good;
      counted = refl;
      before = stop.before;
      replays = stop.is;
      impossible = stop.impossible;
    }

pub unloaded : {world : List ℕ} (unit : SourceUnit) (w : World) (line : ℕ) → IsWorldText world w → first_load_fault unit w ≡ Some line → IsUnloaded unit world line
unloaded unit w line of_world fault = record { w = w; of_world = of_world; fault = fault }
