-- A text of single turns is read as they are.
use Rattle.std.proofs.Common.{◌≡◌, ℕ, ◌-◌, ◌<◌, ◌≤◌, Bool, true, false, cond, List, [], ◌∷◌, ◌++◌, length, Option, Some, None, Ok, refl, sym, ap, ◌∙◌, subst, append_assoc, sum_by, arith}
use Rattle.std.specs.Prelude.{flat_map, ◌==◌, ◌&&◌, ◌||◌, nat_le}
use Rattle.std.specs.Option.{option_map}
use Rattle.std.specs.List.{list_all}
use Rattle.std.proofs.lemmas.Bool.{and_from, and_parts}
use Rattle.std.proofs.lemmas.Bool.Decides.{nat_tests}
use Rattle.std.proofs.lemmas.List.Sums.{sum_by-cons}
use Rattle.std.proofs.lemmas.Option.{cond_some, some_pair_parts}
use Rattle.base.specs.Bytes.{with_first, split_at}
use Rattle.semantics.specs.declared.schedule.ScheduleWord.TheVariants.{Turn}
use Rattle.world_schedules.specs.declared.schedule.Repetition.{Repetition}
use Rattle.world_schedules.specs.Split.{parts_of}
use Rattle.world_schedules.specs.Reading.{◌>>=◌}
use Rattle.world_schedules.specs.ReadingSchedules.{named_word, repetition_of, is_known_turn, repeated_words, schedule_of}
use Rattle.world_schedules.specs.ReadingWords.{with_word, formed_words}
use Rattle.world_schedules.specs.SingleTurns.{single_turn, first_turn, single_turns, with_turns}
use Rattle.world_schedules.proofs.MeantSchedules.{once_read, none_apart}
use Rattle.world_schedules.proofs.ScheduleLaws.{some_with}
use Rattle.world_schedules.proofs.WordLaws.{words_of-parts, all_parts, words_read, formed_words-filter}

-- a byte that separates words
abbrev separates : ℕ → Bool
separates c = c == 32 || c == 10

-- ---- one turn

record IsTurn (threads name end : ℕ) (turn : Repetition) : Type 0 where
  pub apart : separates name ≡ false
  pub ends : separates end ≡ true
  pub read : repetition_of (name ∷ []) ≡ Some turn
  pub known : is_known_turn threads turn.word ≡ true
  pub once : turn.times ≡ 1

is_turn : (threads name end : ℕ) (turn : Repetition) → single_turn threads name end ≡ Some turn → IsTurn threads name end turn
is_turn threads name end turn h =
    let g = cond_some ((nat_le 49 name && nat_le name 56) && (nat_le (name - 48) threads && (end == 32 || end == 10))) (record { word = Turn (name - 48); times = 1 }) turn h in
    let both = and_parts (nat_le 49 name && nat_le name 56) (nat_le (name - 48) threads && (end == 32 || end == 10)) g.0 in
    let digit = and_parts (nat_le 49 name) (nat_le name 56) both.0 in
    let there = and_parts (nat_le (name - 48) threads) (end == 32 || end == 10) both.1 in
    let low : 49 ≤ name = grind (arith, nat_tests, digit.0) in
    let high : name ≤ 56 = grind (arith, nat_tests, digit.1) in
    let no_space : (name == 32) ≡ false = grind (arith, nat_tests, low) in
    let no_feed : (name == 10) ≡ false = grind (arith, nat_tests, low) in
    let no_collection : (name == 99) ≡ false = grind (arith, nat_tests, high) in
    let no_slice : (name == 115) ≡ false = grind (arith, nat_tests, high) in
    let named : named_word name ≡ Some (Turn (name - 48)) = rw (no_collection, no_slice, digit.0, digit.1) refl in
    record {
      apart = rw (no_space, no_feed) refl;
      ends = there.1;
      read = once_read name (Turn (name - 48)) named ∙ ap (λ (t : Repetition). Some t) g.1;
      known = ap (λ (t : Repetition). is_known_turn threads t.word) (sym g.1) ∙ there.0;
      once = ap (λ (t : Repetition). t.times) (sym g.1);
    }

-- ---- all turns

record AreTurns (threads : ℕ) (text : List ℕ) (turns : List Repetition) : Type 0 where
  pub formed : formed_words repetition_of (split_at separates text) ≡ Some turns
  pub known : list_all (λ (r : Repetition). is_known_turn threads r.word) turns ≡ true
  pub counted : sum_by (λ (r : Repetition). r.times) turns ≡ length turns

none : (threads : ℕ) → AreTurns threads [] []
none threads = record { formed = refl; known = refl; counted = refl }

one : (threads name : ℕ) (turn : Repetition) → IsTurn threads name 10 turn → AreTurns threads (name ∷ []) (turn ∷ [])
one threads name turn t =
    let sum = sum_by-cons (λ (r : Repetition). r.times) turn [] in
    record {
      formed = ap (λ b. formed_words repetition_of (cond b ([] ∷ [] ∷ []) ((name ∷ []) ∷ []))) t.apart ∙ ap (λ o. with_word o (Some [])) t.read;
      known = and_from (is_known_turn threads turn.word) true t.known refl;
      counted = omega (arith, sum, t.once);
    }

one_more : (threads name end : ℕ) (text : List ℕ) (turn : Repetition) (turns : List Repetition) → IsTurn threads name end turn → AreTurns threads text turns → AreTurns threads (name ∷ end ∷ text) (turn ∷ turns)
one_more threads name end text turn turns t rest =
    let sum = sum_by-cons (λ (r : Repetition). r.times) turn turns in
    record {
      formed = ap (λ b. formed_words repetition_of (cond b ([] ∷ split_at separates (end ∷ text)) (with_first name (split_at separates (end ∷ text))))) t.apart
          ∙ ap (λ b. formed_words repetition_of (with_first name (cond b ([] ∷ split_at separates text) (with_first end (split_at separates text))))) t.ends
          ∙ ap (λ o. with_word o (formed_words repetition_of (split_at separates text))) t.read
          ∙ ap (with_word (Some turn)) rest.formed;
      known = and_from (is_known_turn threads turn.word) (list_all (λ (r : Repetition). is_known_turn threads r.word) turns) t.known rest.known;
      counted = omega (arith, sum, t.once, rest.counted);
    }

some_mapped : (o : Option Repetition) (turns : List Repetition) → option_map (λ (turn : Repetition). turn ∷ []) o ≡ Some turns → (turn : Repetition) × (o ≡ Some turn) × (turn ∷ [] ≡ turns)
some_mapped None turns h = absurd (cc)
some_mapped (Some turn) turns h = (turn, refl, cc)

are_turns : (threads : ℕ) (text : List ℕ) (turns : List Repetition) → single_turns threads text ≡ Some turns → AreTurns threads text turns
are_turns threads [] turns h = let same : [] ≡ turns = cc in subst (AreTurns threads []) same (none threads)
are_turns threads (name ∷ []) turns h =
    let t = some_mapped (single_turn threads name 10) turns h in
    subst (AreTurns threads (name ∷ [])) t.2 (one threads name t.0 (is_turn threads name 10 t.0 t.1))
are_turns threads (name ∷ end ∷ text) turns h =
    let t = some_with (single_turn threads name end) (single_turns threads text) turns h in
    subst (AreTurns threads (name ∷ end ∷ text)) (sym t.4) (one_more threads name end text t.0 t.1 (is_turn threads name end t.0 t.2) (are_turns threads text t.1 t.3))

-- such a text is read as its turns
pub turns_are_read : (threads : ℕ) (text : List ℕ) (turns : List Repetition) → single_turns threads text ≡ Some turns → length turns ≤ 1000000 → schedule_of text threads ≡ Ok (flat_map repeated_words turns)
turns_are_read threads text turns h most =
    let r = are_turns threads text turns h in
    let formed : formed_words repetition_of (all_parts text) ≡ Some turns =
    formed_words-filter repetition_of (all_parts text)
    ∙ ap (formed_words repetition_of) (sym (words_of-parts text))
    ∙ sym (formed_words-filter repetition_of (split_at separates text))
    ∙ r.formed in
    let read = words_read repetition_of (λ (r : Repetition). is_known_turn threads r.word) (λ (r : Repetition). r.times) (λ (r : Repetition). 0) 1 0 0 (parts_of 10 text) turns
    (record { formed = formed; all_known = r.known; few = omega (arith, r.counted, most); few_others = none_apart turns }) in
    ap (λ x. x >>= λ repetitions. Ok (flat_map repeated_words repetitions)) read

-- ---- turns one after another

-- what is known of a text that begins with a turn
pub record BeginsWith (threads : ℕ) (text : List ℕ) (turn : Repetition) (rest : List ℕ) : Type 0 where
  pub turns : single_turns threads text ≡ with_word (Some turn) (single_turns threads rest)
  pub shorter : length rest < length text

pub begins_with : (threads : ℕ) (text : List ℕ) (turn : Repetition) (rest : List ℕ) → first_turn threads text ≡ Some (turn, rest) → BeginsWith threads text turn rest
begins_with threads [] turn rest h = absurd (cc)
begins_with threads (name ∷ []) turn rest h = absurd (cc)
begins_with threads (name ∷ end ∷ text) turn rest h = by_turn (single_turn threads name end) refl h
  where
    by_turn : (o : Option Repetition) → single_turn threads name end ≡ o → option_map {U = Repetition × List ℕ} (λ (t : Repetition). (t, text)) o ≡ Some (turn, rest) → BeginsWith threads (name ∷ end ∷ text) turn rest
    by_turn None e h = absurd (cc)
    by_turn (Some t) e h =
        let p = some_pair_parts t turn text rest h in
        record {
          turns = ap (λ o. with_word o (single_turns threads text)) e
              ∙ ap (λ (first : Repetition). with_word (Some first) (single_turns threads text)) p.0
              ∙ ap (λ (further : List ℕ). with_word (Some turn) (single_turns threads further)) p.1;
          shorter = let same = ap length p.1 in omega (arith, same);
        }

pub goes_on : (threads : ℕ) (text : List ℕ) (turns : List Repetition) (turn : Repetition) (rest : List ℕ) → first_turn threads text ≡ Some (turn, rest) → with_turns threads turns text ≡ with_turns threads (turns ++ turn ∷ []) rest
goes_on threads text turns turn rest h =
    ap (option_map (λ (further : List Repetition). turns ++ further)) (begins_with threads text turn rest h).turns
    ∙ regroup turns turn (single_turns threads rest)
  where
    regroup : (front : List Repetition) (t : Repetition) (words : Option (List Repetition)) → option_map (λ (further : List Repetition). front ++ further) (with_word (Some t) words) ≡ option_map (λ (further : List Repetition). (front ++ t ∷ []) ++ further) words
    regroup front t None = refl
    regroup front t (Some further) = ap (λ (ts : List Repetition). Some ts) (sym (append_assoc front (t ∷ []) further))

pub begins : (threads : ℕ) (text : List ℕ) → with_turns threads [] text ≡ single_turns threads text
begins threads text = same (single_turns threads text)
  where
    same : (words : Option (List Repetition)) → option_map (λ (further : List Repetition). [] ++ further) words ≡ words
    same None = refl
    same (Some further) = refl
