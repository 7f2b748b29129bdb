-- The fault that is told of lines is their first, whatever the kind of their words.
use Rattle.std.proofs.Common.{◌≡◌, ◌⊎◌, inl, inr, ℕ, suc, zero, ◌+◌, ◌<◌, ◌≤◌, Bool, true, false, cond, List, [], ◌∷◌, ◌++◌, length, map, Option, Some, None, Result, Ok, Err, refl, sym, ap, ◌∙◌, subst, append_assoc, append-nil, arith, sum_by}
use Rattle.std.specs.Prelude.{◌↔◌, filter, flat_map, ◌==◌, ◌||◌, ◌&&◌, not, nat_le, IsOk}
use Rattle.std.specs.List.{list_all, Contains}
use Rattle.std.proofs.lemmas.Bool.{and_from, and_parts}
use Rattle.std.proofs.lemmas.Bool.Decides.{nat_tests}
use Rattle.std.proofs.lemmas.Grind.{flat_map-append}
use Rattle.std.proofs.lemmas.List.{map-append, length-append}
use Rattle.std.proofs.lemmas.List.Concat.{flat_map-cons}
use Rattle.std.proofs.lemmas.List.Elements.{Contains-append_right}
use Rattle.std.proofs.lemmas.List.Folds.{list_all-append}
use Rattle.std.proofs.lemmas.List.Sums.{sum_by-append, sum_by-cons}
use Rattle.base.specs.Bytes.{is_some_byte, with_first, split_at}
use Rattle.world_schedules.specs.declared.fault.TextFault.{TextFault}
use Rattle.world_schedules.specs.declared.fault.Rule.{Rule}
use Rattle.world_schedules.specs.declared.fault.Rule.TheVariants.{NameTaken, Superclass, Signature, Classes, Form, Name, Limit, Heap}
use Rattle.world_schedules.specs.FirstFaults.{lines_of, WordKind, HasNoForm, IsUnknown, PassLimit, Breaks, BreakNoRule, IsFirstFault}
use Rattle.world_schedules.specs.Reading.{◌>>=◌, refused}
use Rattle.world_schedules.specs.ReadingWords.{with_word, formed_words, allowed_words, line_words, lines_words, text_words}
use Rattle.world_schedules.specs.Rule.{rule_number}
use Rattle.world_schedules.specs.Split.{parts_of}
use Rattle.world_schedules.specs.Words.{words_of}
use Rattle.world_schedules.proofs.PartLemmas.{slice_split-split_at}

-- ---- places of a list

-- two places of a list are the same, or one is before the other
pub data ArePlaces {X : Type 0} (b : List X) (l : X) (c : List X) (m : X) : Type 0 where
  same : b ≡ c → l ≡ m → ArePlaces b l c m
  sooner : (rest : List X) → c ≡ b ++ l ∷ rest → ArePlaces b l c m
  later : (rest : List X) → b ≡ c ++ m ∷ rest → ArePlaces b l c m

one_more : {X : Type 0} (x y : X) (b : List X) (l : X) (c : List X) (m : X) → x ≡ y → ArePlaces b l c m → ArePlaces (x ∷ b) l (y ∷ c) m
one_more x y b l c m e (same p q) = same (cc) q
one_more x y b l c m e (sooner rest p) = sooner rest (cc)
one_more x y b l c m e (later rest p) = later rest (cc)

pub places : {X : Type 0} (b c a d : List X) (l m : X) → b ++ l ∷ a ≡ c ++ m ∷ d → ArePlaces b l c m
places [] [] a d l m e = same refl (cc)
places [] (y ∷ c) a d l m e = sooner c (cc)
places (x ∷ b) [] a d l m e = later b (cc)
places (x ∷ b) (y ∷ c) a d l m e = one_more x y b l c m (cc) (places b c a d l m (cc))

-- ---- the words of a line

has_no_feed : List ℕ → Bool
has_no_feed line = list_all (λ c. not (c == 10)) line

in_first : (c : ℕ) (parts : List (List ℕ)) → (c == 10) ≡ false → list_all has_no_feed parts ≡ true → list_all has_no_feed (with_first c parts) ≡ true
unfolding has_no_feed
in_first c [] e h = refl
in_first c (part ∷ parts) e h = ap (λ b. (not b && has_no_feed part) && list_all has_no_feed parts) e ∙ h

one_byte : (c : ℕ) (lines : List (List ℕ)) (b : Bool) → (c == 10) ≡ b → list_all has_no_feed lines ≡ true → list_all has_no_feed (cond b ([] ∷ lines) (with_first c lines)) ≡ true
unfolding has_no_feed
one_byte c lines true e h = h
one_byte c lines false e h = in_first c lines e h

lines_have_no_feed : (text : List ℕ) → list_all has_no_feed (lines_of text) ≡ true
unfolding has_no_feed
lines_have_no_feed [] = refl
lines_have_no_feed (c ∷ rest) = one_byte c (lines_of rest) (c == 10) refl (lines_have_no_feed rest)

or_false : (b c : Bool) → c ≡ false → (b || c) ≡ b
or_false true c e = refl
or_false false c e = e

same_parts : (line : List ℕ) → has_no_feed line ≡ true → split_at (λ c. c == 32 || c == 10) line ≡ split_at (λ c. c == 32) line
unfolding has_no_feed
same_parts [] h = refl
same_parts (c ∷ rest) h =
    let b = and_parts (not (c == 10)) (has_no_feed rest) h in
    let no : (c == 10) ≡ false = by_test (c == 10) b.0 in
    ap (λ t. cond t ([] ∷ split_at (λ c. c == 32 || c == 10) rest) (with_first c (split_at (λ c. c == 32 || c == 10) rest))) (or_false (c == 32) (c == 10) no)
    ∙ ap (λ (ps : List (List ℕ)). cond (c == 32) ([] ∷ ps) (with_first c ps)) (same_parts rest b.1)
  where
    by_test : (t : Bool) → not t ≡ true → t ≡ false
    by_test true e = absurd (cc)
    by_test false e = refl

words_in_line : (line : List ℕ) → has_no_feed line ≡ true → words_of line ≡ filter is_some_byte (parts_of 32 line)
words_in_line line h = ap (filter is_some_byte) (same_parts line h ∙ sym (slice_split-split_at (λ b. b == 32) line))

-- ---- words of a kind, and how they are read

-- a word of the kind is read so
pub record IsReadOf {W R : Type 0} (kind : WordKind W) (threads : ℕ) (is_known : R → Bool) (times apart : R → ℕ) (bytes : List ℕ) (r : R) : Type 0 where
  pub word : W
  pub text : bytes ≡ kind.text word
  pub formed : kind.is_allowed 8 word ≡ true
  pub known : is_known r ≡ kind.is_allowed threads word
  pub counted : times r ≡ kind.count word
  pub counted_apart : apart r ≡ kind.apart word

-- the words of the kind that have a form are those that are read
pub record IsReader {W R : Type 0} (kind : WordKind W) (threads : ℕ) (spelled : List ℕ → Option R) (is_known : R → Bool) (times apart : R → ℕ) : Type 0 where
  pub reads : (bytes : List ℕ) (r : R) → spelled bytes ≡ Some r → IsReadOf kind threads is_known times apart bytes r
  pub finds : (w : W) → kind.is_allowed 8 w ≡ true → (r : R) × (spelled (kind.text w) ≡ Some r) × (is_known r ≡ kind.is_allowed threads w) × (times r ≡ kind.count w) × (apart r ≡ kind.apart w)

-- words of the kind are read so, of these bytes
record AreReadOf {W R : Type 0} (kind : WordKind W) (threads : ℕ) (is_known : R → Bool) (times apart : R → ℕ) (bytes : List (List ℕ)) (rs : List R) : Type 0 where
  pub words : List W
  pub text : bytes ≡ map kind.text words
  pub formed : list_all (kind.is_allowed 8) words ≡ true
  pub known : list_all is_known rs ≡ list_all (kind.is_allowed threads) words
  pub counted : sum_by times rs ≡ sum_by kind.count words
  pub counted_apart : sum_by apart rs ≡ sum_by kind.apart words

first_of_list : {X : Type 0} (x : X) (xs : List X) → Contains (x ∷ xs) x
first_of_list x xs = (0, omega arith, refl)

further : {X : Type 0} (y : X) (xs : List X) (x : X) → Contains xs x → Contains (y ∷ xs) x
further y xs x h = Contains-append_right (y ∷ []) xs x h

-- some bytes among these spell nothing
abbrev HasNone : {R : Type 0} → (List ℕ → Option R) → List (List ℕ) → Type 0
HasNone spelled bytes = (b : List ℕ) × Contains bytes b × (spelled b ≡ None)

none_after : {R : Type 0} (spelled : List ℕ → Option R) (b : List ℕ) (bytes : List (List ℕ)) (o : Option R) (ws : Option (List R)) → spelled b ≡ o → with_word o ws ≡ None → (ws ≡ None → HasNone spelled bytes) → HasNone spelled (b ∷ bytes)
none_after spelled b bytes None ws e h more = (b, first_of_list b bytes, e)
none_after spelled b bytes (Some r) None e h more = let f = more refl in (f.0, further b bytes f.0 f.1, f.2)
none_after spelled b bytes (Some r) (Some ws) e h more = absurd (cc)

none_formed : {R : Type 0} (spelled : List ℕ → Option R) (parts : List (List ℕ)) → formed_words spelled parts ≡ None → HasNone spelled (filter is_some_byte parts)
none_formed spelled [] h = absurd (cc)
none_formed spelled ([] ∷ parts) h = none_formed spelled parts h
none_formed spelled ((c ∷ cs) ∷ parts) h =
    none_after spelled (c ∷ cs) (filter is_some_byte parts) (spelled (c ∷ cs)) (formed_words spelled parts) refl h (none_formed spelled parts)

-- ---- lists of words

-- a word of these whose text the bytes are, and which passes what all of them pass
record IsWordAmong {W : Type 0} (text : W → List ℕ) (ws : List W) (bytes : List ℕ) : Type 0 where
  pub word : W
  pub is : text word ≡ bytes
  pub passes : (p : W → Bool) → list_all p ws ≡ true → p word ≡ true

among : {W : Type 0} (text : W → List ℕ) (ws : List W) (bytes : List ℕ) → Contains (map text ws) bytes → IsWordAmong text ws bytes
among text [] bytes h = absurd (omega (arith, h.1))
among text (w ∷ ws) bytes (zero, within, is) = record { word = w; is = is; passes = λ p all. (and_parts (p w) (list_all p ws) all).0 }
among text (w ∷ ws) bytes (suc k, within, is) =
    let a = among text ws bytes (k, omega (arith, within), is) in
    record { word = a.word; is = a.is; passes = λ p all. a.passes p (and_parts (p w) (list_all p ws) all).1 }

-- a word of these that fails a test
record FailsAmong {W : Type 0} (text : W → List ℕ) (ws : List W) (test : W → Bool) : Type 0 where
  pub word : W
  pub there : Contains (map text ws) (text word)
  pub fails : test word ≡ false
  pub passes : (p : W → Bool) → list_all p ws ≡ true → p word ≡ true

failing_first : {W : Type 0} (text : W → List ℕ) (w : W) (ws : List W) (test : W → Bool) (b : Bool) → test w ≡ b → (b && list_all test ws) ≡ false → (list_all test ws ≡ false → FailsAmong text ws test) → FailsAmong text (w ∷ ws) test
failing_first text w ws test false e all more = record { word = w; there = first_of_list (text w) (map text ws); fails = e; passes = λ p every. (and_parts (p w) (list_all p ws) every).0 }
failing_first text w ws test true e all more =
    let f = more all in
    record { word = f.word; there = further (text w) (map text ws) (text f.word) f.there; fails = f.fails; passes = λ p every. f.passes p (and_parts (p w) (list_all p ws) every).1 }

failing : {W : Type 0} (text : W → List ℕ) (ws : List W) (test : W → Bool) → list_all test ws ≡ false → FailsAmong text ws test
failing text [] test h = absurd (cc)
failing text (w ∷ ws) test h = failing_first text w ws test (test w) refl h (failing text ws test)

module _ {W R : Type 0} (kind : WordKind W) (threads : ℕ) (spelled : List ℕ → Option R) (is_known : R → Bool) (times apart : R → ℕ)
    (reader : IsReader kind threads spelled is_known times apart) where
  -- ---- one line

  one_read : (b : List ℕ) (bytes : List (List ℕ)) (o : Option R) (rest : Option (List R)) (rs : List R) → spelled b ≡ o → with_word o rest ≡ Some rs
      → ((others : List R) → rest ≡ Some others → AreReadOf kind threads is_known times apart bytes others) → AreReadOf kind threads is_known times apart (b ∷ bytes) rs
  one_read b bytes None rest rs e h more = absurd (cc)
  one_read b bytes (Some r) None rs e h more = absurd (cc)
  one_read b bytes (Some r) (Some others) rs e h more =
      let w = reader.reads b r e in
      let m = more others refl in
      let whole : r ∷ others ≡ rs = cc (h) in
      subst (AreReadOf kind threads is_known times apart (b ∷ bytes)) whole (record {
        words = w.word ∷ m.words;
        text = ap (λ (x : List ℕ). x ∷ bytes) w.text ∙ ap (λ (xs : List (List ℕ)). kind.text w.word ∷ xs) m.text;
        formed = and_from (kind.is_allowed 8 w.word) (list_all (kind.is_allowed 8) m.words) w.formed m.formed;
        known = ap (λ b. b && list_all is_known others) w.known ∙ ap (λ b. kind.is_allowed threads w.word && b) m.known;
        counted = sum_by-cons times r others ∙ ap (λ n. n + sum_by times others) w.counted ∙ ap (λ n. kind.count w.word + n) m.counted ∙ sym (sum_by-cons kind.count w.word m.words);
        counted_apart = sum_by-cons apart r others ∙ ap (λ n. n + sum_by apart others) w.counted_apart ∙ ap (λ n. kind.apart w.word + n) m.counted_apart ∙ sym (sum_by-cons kind.apart w.word m.words);
      })

  all_read : (parts : List (List ℕ)) (rs : List R) → formed_words spelled parts ≡ Some rs → AreReadOf kind threads is_known times apart (filter is_some_byte parts) rs
  all_read [] rs h =
      let none : [] ≡ rs = cc (h) in
      subst (AreReadOf kind threads is_known times apart []) none (record { words = []; text = refl; formed = refl; known = refl; counted = refl; counted_apart = refl })
  all_read ([] ∷ parts) rs h = all_read parts rs h
  all_read ((c ∷ cs) ∷ parts) rs h =
      one_read (c ∷ cs) (filter is_some_byte parts) (spelled (c ∷ cs)) (formed_words spelled parts) rs refl h (all_read parts)

  -- a word is read as one thing alone
  known_once : (v w : W) → kind.text v ≡ kind.text w → kind.is_allowed 8 v ≡ true → kind.is_allowed 8 w ≡ true
      → (kind.is_allowed threads v ≡ kind.is_allowed threads w) × (kind.count v ≡ kind.count w) × (kind.apart v ≡ kind.apart w)
  known_once v w e a b =
      let f = reader.finds v a in
      let g = reader.finds w b in
      let both : Some f.0 ≡ Some g.0 = sym f.1 ∙ ap spelled e ∙ g.1 in
      let one : f.0 ≡ g.0 = cc (both) in
      (sym f.2 ∙ ap is_known one ∙ g.2, sym f.3 ∙ ap times one ∙ g.3, sym f.4 ∙ ap apart one ∙ g.4)

  count_once : (vs ws : List W) → map kind.text vs ≡ map kind.text ws → list_all (kind.is_allowed 8) vs ≡ true → list_all (kind.is_allowed 8) ws ≡ true
      → (sum_by kind.count vs ≡ sum_by kind.count ws) × (sum_by kind.apart vs ≡ sum_by kind.apart ws)
  count_once [] [] e a b = (refl, refl)
  count_once [] (w ∷ ws) e a b = absurd (cc)
  count_once (v ∷ vs) [] e a b = absurd (cc)
  count_once (v ∷ vs) (w ∷ ws) e a b =
      let p = and_parts (kind.is_allowed 8 v) (list_all (kind.is_allowed 8) vs) a in
      let q = and_parts (kind.is_allowed 8 w) (list_all (kind.is_allowed 8) ws) b in
      let one = known_once v w (cc) p.0 q.0 in
      let others = count_once vs ws (cc) p.1 q.1 in (
        sum_by-cons kind.count v vs ∙ ap (λ n. n + sum_by kind.count vs) one.1 ∙ ap (λ n. kind.count w + n) others.0 ∙ sym (sum_by-cons kind.count w ws),
        sum_by-cons kind.apart v vs ∙ ap (λ n. n + sum_by kind.apart vs) one.2 ∙ ap (λ n. kind.apart w + n) others.1 ∙ sym (sum_by-cons kind.apart w ws),
      )

  -- these lines have this number of words, and of others, which are counted apart
  pub record AreCounted (lines : List (List ℕ)) (count others : ℕ) : Type 0 where
    pub words : List W
    pub text : flat_map words_of lines ≡ map kind.text words
    pub formed : list_all (kind.is_allowed 8) words ≡ true
    pub counted : count ≡ sum_by kind.count words
    pub counted_apart : others ≡ sum_by kind.apart words

  -- and none of them breaks a rule
  pub record IsUpTo (before : List (List ℕ)) (count others : ℕ) : Type 0 where
    pub words : AreCounted before count others
    pub clean : BreakNoRule kind threads before

  -- what is known of the next line by its reading
  abbrev Outcome : (before : List (List ℕ)) (number count others : ℕ) (line : List ℕ) → Result (List R) TextFault → Type 0
  Outcome before number count others line (Ok rs) = IsUpTo (before ++ line ∷ []) (count + sum_by times rs) (others + sum_by apart rs)
  Outcome before number count others line (Err fault) =
      (fault.line ≡ number) × Breaks kind threads fault.rule before line × ((rule : Rule) → rule_number rule < rule_number fault.rule → Breaks kind threads rule before line → ⊥)

  -- a word of which the form is wrong is none of these
  formless : (bytes : List (List ℕ)) (rs : List R) → AreReadOf kind threads is_known times apart bytes rs → (b : List ℕ) → Contains bytes b → HasNoForm kind b → ⊥
  formless bytes rs a b there wrong =
      let w = among kind.text a.words b (subst (λ (bs : List (List ℕ)). Contains bs b) a.text there) in
      wrong w.word (w.passes (kind.is_allowed 8) a.formed) w.is

  -- nor is one of a thread that isn't there, where all are known
  unknown : (bytes : List (List ℕ)) (rs : List R) → AreReadOf kind threads is_known times apart bytes rs → list_all is_known rs ≡ true → (b : List ℕ) → Contains bytes b → IsUnknown kind threads b → ⊥
  unknown bytes rs a all b there wrong =
      let w = among kind.text a.words b (subst (λ (bs : List (List ℕ)). Contains bs b) a.text there) in
      let same = known_once wrong.0 w.word (wrong.1 ∙ sym w.is) wrong.2 (w.passes (kind.is_allowed 8) a.formed) in
      absurd (cc (same.0, wrong.3, w.passes (kind.is_allowed threads) (sym a.known ∙ all)))

  -- no rule is broken of which the number is less
  none_below : (n : ℕ) (before : List (List ℕ)) (line : List ℕ) → (81 < n → Breaks kind threads Form before line → ⊥) → (82 < n → Breaks kind threads Name before line → ⊥) → (83 < n → Breaks kind threads Limit before line → ⊥)
      → (rule : Rule) → rule_number rule < n → Breaks kind threads rule before line → ⊥
  none_below n before line form name limit Form less h = form less h
  none_below n before line form name limit Name less h = name less h
  none_below n before line form name limit Limit less h = limit less h
  none_below n before line form name limit rule less h = h

  -- one more line that breaks no rule
  clean_more : (before : List (List ℕ)) (line : List ℕ) → BreakNoRule kind threads before → ((rule : Rule) → Breaks kind threads rule before line → ⊥) → BreakNoRule kind threads (before ++ line ∷ [])
  clean_more before line clean here b a x rule e h = by_place (places before b [] a line x e)
    where
      by_place : ArePlaces before line b x → ⊥
      by_place (same p q) = here rule (subst (λ (bs : List (List ℕ)). Breaks kind threads rule bs line) (sym p) (subst (Breaks kind threads rule b) (sym q) h))
      by_place (sooner rest p) = omega (arith, ap length e, ap length p, length-append before (line ∷ []), length-append b (x ∷ a), length-append before (line ∷ rest))
      by_place (later rest p) = clean b rest x rule p h

  -- the words of one line more
  with_line : (before : List (List ℕ)) (count others : ℕ) (line : List ℕ) (rs : List R) → AreCounted before count others → AreReadOf kind threads is_known times apart (words_of line) rs → AreCounted (before ++ line ∷ []) (count + sum_by times rs) (others + sum_by apart rs)
  with_line before count others line rs u a = record {
    words = u.words ++ a.words;
    text = flat_map-append words_of before (line ∷ [])
        ∙ ap (λ (bs : List (List ℕ)). bs ++ flat_map words_of (line ∷ [])) u.text
        ∙ ap (λ (bs : List (List ℕ)). map kind.text u.words ++ bs) (flat_map-cons words_of line [] ∙ append-nil (words_of line) ∙ a.text)
        ∙ sym (map-append kind.text u.words a.words);
    formed = list_all-append (kind.is_allowed 8) u.words a.words ∙ and_from (list_all (kind.is_allowed 8) u.words) (list_all (kind.is_allowed 8) a.words) u.formed a.formed;
    counted = ap (λ n. n + sum_by times rs) u.counted ∙ ap (λ n. sum_by kind.count u.words + n) a.counted ∙ sym (sum_by-append kind.count u.words a.words);
    counted_apart = ap (λ n. n + sum_by apart rs) u.counted_apart ∙ ap (λ n. sum_by kind.apart u.words + n) a.counted_apart ∙ sym (sum_by-append kind.apart u.words a.words);
  }

  -- so many words don't pass the limit
  within_limit : (lines : List (List ℕ)) (count others : ℕ) → AreCounted lines count others → count ≤ 1000000 → others ≤ 1000000 → PassLimit kind lines → ⊥
  within_limit lines count others u few few_apart h = by_count h.3
    where
      same : (sum_by kind.count h.0 ≡ sum_by kind.count u.words) × (sum_by kind.apart h.0 ≡ sum_by kind.apart u.words)
      same = count_once h.0 u.words (sym h.1 ∙ u.text) h.2 u.formed

      by_count : (1000000 < sum_by kind.count h.0) ⊎ (1000000 < sum_by kind.apart h.0) → ⊥
      by_count (inl past) = omega (arith, same.0, u.counted, few, past)
      by_count (inr past) = omega (arith, same.1, u.counted_apart, few_apart, past)

  of_formed : (before : List (List ℕ)) (number count others : ℕ) (line : List ℕ) (rs : List R) → IsUpTo before count others → AreReadOf kind threads is_known times apart (words_of line) rs
      → (k m n : Bool) → list_all is_known rs ≡ k → nat_le (count + sum_by times rs) 1000000 ≡ m → nat_le (others + sum_by apart rs) 1000000 ≡ n
      → Outcome before number count others line (cond k (cond (m && n) (Ok rs) (refused Limit number)) (refused Name number))
  of_formed before number count others line rs u a false m n e f g =
      let w = failing kind.text a.words (kind.is_allowed threads) (sym a.known ∙ e) in
      let there = subst (λ (bs : List (List ℕ)). Contains bs (kind.text w.word)) (sym a.text) w.there in (
        refl,
        (kind.text w.word, there, (w.word, refl, w.passes (kind.is_allowed 8) a.formed, w.fails)),
        none_below 82 before line (λ less h. formless (words_of line) rs a h.0 h.1 h.2) (λ less h. omega (arith, less)) (λ less h. omega (arith, less)),
      )
  of_formed before number count others line rs u a true false n e f g =
      let all = with_line before count others line rs u.words a in
      let past : 1000000 < count + sum_by times rs = grind (arith, nat_tests, f) in (
        refl,
        (all.words, all.text, all.formed, inl (omega (arith, past, all.counted))),
        none_below 83 before line (λ less h. formless (words_of line) rs a h.0 h.1 h.2) (λ less h. unknown (words_of line) rs a e h.0 h.1 h.2) (λ less h. omega (arith, less)),
      )
  of_formed before number count others line rs u a true true false e f g =
      let all = with_line before count others line rs u.words a in
      let past : 1000000 < others + sum_by apart rs = grind (arith, nat_tests, g) in (
        refl,
        (all.words, all.text, all.formed, inr (omega (arith, past, all.counted_apart))),
        none_below 83 before line (λ less h. formless (words_of line) rs a h.0 h.1 h.2) (λ less h. unknown (words_of line) rs a e h.0 h.1 h.2) (λ less h. omega (arith, less)),
      )
  of_formed before number count others line rs u a true true true e f g =
      let all = with_line before count others line rs u.words a in
      let few : count + sum_by times rs ≤ 1000000 = grind (arith, nat_tests, f) in
      let few_apart : others + sum_by apart rs ≤ 1000000 = grind (arith, nat_tests, g) in
      record {
        words = all;
        clean = clean_more before line u.clean (λ rule. none_below (rule_number rule + 1) before line (λ less h. formless (words_of line) rs a h.0 h.1 h.2) (λ less h. unknown (words_of line) rs a e h.0 h.1 h.2)
            (λ less h. within_limit (before ++ line ∷ []) (count + sum_by times rs) (others + sum_by apart rs) all few few_apart h) rule (omega arith));
      }

  of_words : (before : List (List ℕ)) (number count others : ℕ) (line : List ℕ) → IsUpTo before count others → has_no_feed line ≡ true
      → (o : Option (List R)) → formed_words spelled (parts_of 32 line) ≡ o → Outcome before number count others line (allowed_words is_known times apart number count others o)
  unfolding allowed_words
  of_words before number count others line u f None e =
      let n = none_formed spelled (parts_of 32 line) e in
      let there = subst (λ (bs : List (List ℕ)). Contains bs n.0) (sym (words_in_line line f)) n.1 in (
        refl,
        (n.0, there, λ w a is. let g = reader.finds w a in absurd (cc (g.1, n.2, is))),
        none_below 81 before line (λ less h. omega (arith, less)) (λ less h. omega (arith, less)) (λ less h. omega (arith, less)),
      )
  of_words before number count others line u f (Some rs) e =
      let a = subst (λ (bs : List (List ℕ)). AreReadOf kind threads is_known times apart bs rs) (sym (words_in_line line f)) (all_read (parts_of 32 line) rs e) in
      of_formed before number count others line rs u a (list_all is_known rs) (nat_le (count + sum_by times rs) 1000000) (nat_le (others + sum_by apart rs) 1000000) refl refl refl

  -- ---- all lines

  -- what is known of lines by what is read of them
  abbrev pub Verdict : {A : Type 0} → List (List ℕ) → Result A TextFault → Type 0
  Verdict lines (Ok rs) = BreakNoRule kind threads lines
  Verdict lines (Err fault) = IsFirstFault kind threads lines fault

  pub and_then : {A B : Type 0} (lines : List (List ℕ)) (r : Result A TextFault) (f : A → B) → Verdict lines r → Verdict lines (r >>= λ x. Ok (f x))
  and_then lines (Ok x) f h = h
  and_then lines (Err e) f h = h

  after_line : (before lines : List (List ℕ)) (number count others : ℕ) (line : List ℕ) → number ≡ length before + 1 → IsUpTo before count others → (r : Result (List R) TextFault) → Outcome before number count others line r
      → ((rs : List R) → IsUpTo (before ++ line ∷ []) (count + sum_by times rs) (others + sum_by apart rs) → Verdict ((before ++ line ∷ []) ++ lines) (lines_words spelled is_known times apart (number + 1) (count + sum_by times rs) (others + sum_by apart rs) lines))
      → Verdict (before ++ line ∷ lines) (r >>= λ first. lines_words spelled is_known times apart (number + 1) (count + sum_by times first) (others + sum_by apart first) lines >>= λ further. Ok (first ++ further))
  after_line before lines number count others line n u (Ok rs) o more =
      and_then (before ++ line ∷ lines) (lines_words spelled is_known times apart (number + 1) (count + sum_by times rs) (others + sum_by apart rs) lines) (λ further. rs ++ further)
      (subst (λ (ls : List (List ℕ)). Verdict ls (lines_words spelled is_known times apart (number + 1) (count + sum_by times rs) (others + sum_by apart rs) lines)) (append_assoc before (line ∷ []) lines) (more rs o))
  after_line before lines number count others line n u (Err fault) o more =
      record { before = before; line = line; after = lines; placed = refl; numbered = o.0 ∙ n; broken = o.1; none_before = u.clean; least = o.2 }

  of_lines : (before : List (List ℕ)) (number count others : ℕ) (lines : List (List ℕ)) → number ≡ length before + 1 → IsUpTo before count others → list_all has_no_feed lines ≡ true
      → Verdict (before ++ lines) (lines_words spelled is_known times apart number count others lines)
  unfolding lines_words
  of_lines before number count others [] n u f = subst (BreakNoRule kind threads) (sym (append-nil before)) u.clean
  of_lines before number count others (line ∷ lines) n u f =
      let b = and_parts (has_no_feed line) (list_all has_no_feed lines) f in
      let next : number + 1 ≡ length (before ++ line ∷ []) + 1 = omega (arith, n, length-append before (line ∷ [])) in
      after_line before lines number count others line n u (line_words spelled is_known times apart number count others line)
      (of_words before number count others line u b.0 (formed_words spelled (parts_of 32 line)) refl)
      (λ rs v. of_lines (before ++ line ∷ []) (number + 1) (count + sum_by times rs) (others + sum_by apart rs) lines next v b.1)

  pub of_text : (text : List ℕ) → Verdict (lines_of text) (text_words spelled is_known times apart text)
  of_text text =
      let none : IsUpTo [] 0 0 = record { words = record { words = []; text = refl; formed = refl; counted = refl; counted_apart = refl }; clean = λ b a x rule e h. no_line b a x e } in
      subst (λ (ls : List (List ℕ)). Verdict ls (text_words spelled is_known times apart text)) (slice_split-split_at (λ b. b == 10) text)
      (of_lines [] 1 0 0 (parts_of 10 text) refl none (ap (list_all has_no_feed) (slice_split-split_at (λ b. b == 10) text) ∙ lines_have_no_feed text))
    where
      no_line : (b a : List (List ℕ)) (x : List ℕ) → [] ≡ b ++ x ∷ a → ⊥
      no_line [] a x e = absurd (cc)
      no_line (y ∷ b) a x e = absurd (cc)

  -- ---- one first fault

  same_rule : (a b : Rule) → (before : List (List ℕ)) (line : List ℕ) → Breaks kind threads a before line → Breaks kind threads b before line
      → (rule_number a < rule_number b → ⊥) → (rule_number b < rule_number a → ⊥) → a ≡ b
  same_rule Form Form before line h k p q = refl
  same_rule Name Name before line h k p q = refl
  same_rule Limit Limit before line h k p q = refl
  same_rule Form Name before line h k p q = absurd (p (omega arith))
  same_rule Form Limit before line h k p q = absurd (p (omega arith))
  same_rule Name Limit before line h k p q = absurd (p (omega arith))
  same_rule Name Form before line h k p q = absurd (q (omega arith))
  same_rule Limit Form before line h k p q = absurd (q (omega arith))
  same_rule Limit Name before line h k p q = absurd (q (omega arith))
  same_rule NameTaken b before line h k p q = absurd h
  same_rule Superclass b before line h k p q = absurd h
  same_rule Signature b before line h k p q = absurd h
  same_rule Classes b before line h k p q = absurd h
  same_rule Heap b before line h k p q = absurd h
  same_rule a b before line h k p q = absurd k

  same_fault : (f g : TextFault) → f.rule ≡ g.rule → f.line ≡ g.line → f ≡ g
  same_fault f g p q = ap (λ r. let e : TextFault = record { rule = r; line = f.line } in e) p ∙ ap (λ n. let e : TextFault = record { rule = g.rule; line = n } in e) q

  one_first : (lines : List (List ℕ)) (f g : TextFault) → IsFirstFault kind threads lines f → IsFirstFault kind threads lines g → f ≡ g
  one_first lines f g h k = by_place (places h.before k.before h.after k.after h.line k.line (sym h.placed ∙ k.placed))
    where
      by_place : ArePlaces h.before h.line k.before k.line → f ≡ g
      by_place (same p q) =
          let broken = subst (λ (bs : List (List ℕ)). Breaks kind threads g.rule bs h.line) (sym p) (subst (Breaks kind threads g.rule k.before) (sym q) k.broken) in
          let rule = same_rule f.rule g.rule h.before h.line h.broken broken
          (λ less. k.least f.rule less (subst (λ (bs : List (List ℕ)). Breaks kind threads f.rule bs k.line) p (subst (Breaks kind threads f.rule h.before) q h.broken)))
          (λ less. h.least g.rule less broken) in
          same_fault f g rule (h.numbered ∙ ap (λ (bs : List (List ℕ)). length bs + 1) p ∙ sym k.numbered)
      by_place (sooner rest p) = absurd (k.none_before h.before rest h.line f.rule p h.broken)
      by_place (later rest p) = absurd (h.none_before k.before rest k.line g.rule p k.broken)

  -- ---- the laws

  pub refused_first : {A : Type 0} (lines : List (List ℕ)) (r : Result A TextFault) → Verdict lines r → (fault : TextFault) → (r ≡ Err fault) ↔ IsFirstFault kind threads lines fault
  refused_first lines (Ok x) v fault = (λ e. absurd (cc (e)), λ h. absurd (v h.before h.after h.line fault.rule h.placed h.broken))
  refused_first lines (Err e) v fault = (λ same. subst (IsFirstFault kind threads lines) (cc (same)) v, λ h. ap (λ (f : TextFault). Err f) (one_first lines e fault v h))

  pub accepted_only : {A : Type 0} (lines : List (List ℕ)) (r : Result A TextFault) → Verdict lines r → IsOk r ↔ BreakNoRule kind threads lines
  accepted_only lines (Ok x) v = (λ ok. v, λ clean. refl)
  accepted_only lines (Err e) v = (λ ok. absurd (cc (ok)), λ clean. absurd (clean v.before v.after v.line e.rule v.placed v.broken))
