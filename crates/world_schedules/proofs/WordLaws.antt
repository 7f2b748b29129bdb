-- Texts of words: the words that are read are those that the text has.
use Rattle.std.proofs.Common.{◌≡◌, ℕ, ◌+◌, ◌≤◌, Bool, true, false, cond, List, [], ◌∷◌, ◌++◌, Option, Some, None, Result, Ok, Err, refl, sym, ap, ◌∙◌, subst, arith, sum_by}
use Rattle.std.specs.Prelude.{filter, flat_map, ◌==◌, ◌||◌, ◌&&◌, nat_le}
use Rattle.std.specs.List.{list_all}
use Rattle.std.proofs.lemmas.Bool.{and_from, and_parts}
use Rattle.std.proofs.lemmas.Bool.Decides.{nat_tests}
use Rattle.std.proofs.lemmas.List.Concat.{flat_map-cons}
use Rattle.std.proofs.lemmas.List.Folds.{list_all-append}
use Rattle.std.proofs.lemmas.List.Sums.{sum_by-append}
use Rattle.base.specs.Bytes.{is_some_byte, with_first, split_at}
use Rattle.world_schedules.specs.declared.fault.TextFault.{TextFault}
use Rattle.world_schedules.specs.declared.fault.Rule.TheVariants.{Name, Limit}
use Rattle.world_schedules.specs.Split.{parts_of}
use Rattle.world_schedules.specs.Reading.{◌>>=◌, refused}
use Rattle.world_schedules.specs.ReadingWords.{with_word, formed_words, allowed_words, line_words, lines_words}
use Rattle.world_schedules.specs.Words.{words_of}
use Rattle.world_schedules.proofs.PartLemmas.{some_part, slice_split-split_at}

-- ---- the words of a text are those of its lines

abbrev lines_in : List ℕ → List (List ℕ)
lines_in text = split_at (λ c. c == 10) text

abbrev pieces_in : List ℕ → List (List ℕ)
pieces_in text = split_at (λ c. c == 32) text

abbrev both_in : List ℕ → List (List ℕ)
both_in text = split_at (λ c. c == 32 || c == 10) text

first_piece : (c : ℕ) (text : List ℕ) (more : List (List ℕ)) → with_first c (pieces_in text) ++ more ≡ with_first c (pieces_in text ++ more)
first_piece c text more =
    let e = some_part (λ b. b == 32) text in
    ap (λ (ps : List (List ℕ)). with_first c ps ++ more) e.2 ∙ ap (λ (ps : List (List ℕ)). with_first c (ps ++ more)) (sym e.2)

-- one more byte in the first line
in_line : (c : ℕ) (rest h : List ℕ) (t : List (List ℕ)) → lines_in rest ≡ h ∷ t → flat_map pieces_in (with_first c (lines_in rest)) ≡ pieces_in (c ∷ h) ++ flat_map pieces_in t
in_line c rest h t l = ap (λ (ls : List (List ℕ)). flat_map pieces_in (with_first c ls)) l ∙ flat_map-cons pieces_in (c ∷ h) t

whole : (rest h : List ℕ) (t : List (List ℕ)) → lines_in rest ≡ h ∷ t → both_in rest ≡ flat_map pieces_in (lines_in rest) → pieces_in h ++ flat_map pieces_in t ≡ both_in rest
whole rest h t l ih = sym (flat_map-cons pieces_in h t) ∙ ap (flat_map pieces_in) (sym l) ∙ sym ih

one_byte : (c : ℕ) (rest h : List ℕ) (t : List (List ℕ)) (b32 b10 : Bool) → (c == 32) ≡ b32 → lines_in rest ≡ h ∷ t → both_in rest ≡ flat_map pieces_in (lines_in rest)
    → cond (b32 || b10) ([] ∷ both_in rest) (with_first c (both_in rest)) ≡ flat_map pieces_in (cond b10 ([] ∷ lines_in rest) (with_first c (lines_in rest)))
one_byte c rest h t true true e l ih = ap (λ (ps : List (List ℕ)). [] ∷ ps) ih ∙ sym (flat_map-cons pieces_in [] (lines_in rest))
one_byte c rest h t false true e l ih = ap (λ (ps : List (List ℕ)). [] ∷ ps) ih ∙ sym (flat_map-cons pieces_in [] (lines_in rest))
one_byte c rest h t true false e l ih =
    ap (λ (ps : List (List ℕ)). [] ∷ ps) (sym (whole rest h t l ih))
    ∙ ap (λ (b : Bool). cond b ([] ∷ pieces_in h) (with_first c (pieces_in h)) ++ flat_map pieces_in t) (sym e)
    ∙ sym (in_line c rest h t l)
one_byte c rest h t false false e l ih =
    ap (with_first c) (sym (whole rest h t l ih))
    ∙ sym (first_piece c h (flat_map pieces_in t))
    ∙ ap (λ (b : Bool). cond b ([] ∷ pieces_in h) (with_first c (pieces_in h)) ++ flat_map pieces_in t) (sym e)
    ∙ sym (in_line c rest h t l)

split_twice : (text : List ℕ) → both_in text ≡ flat_map pieces_in (lines_in text)
split_twice [] = refl
split_twice (c ∷ rest) =
    let e = some_part (λ b. b == 10) rest in
    one_byte c rest e.0 e.1 (c == 32) (c == 10) refl e.2 (split_twice rest)

same_pieces : (lines : List (List ℕ)) → flat_map pieces_in lines ≡ flat_map (parts_of 32) lines
same_pieces [] = refl
same_pieces (line ∷ lines) =
    flat_map-cons pieces_in line lines
    ∙ ap (λ (ps : List (List ℕ)). ps ++ flat_map pieces_in lines) (sym (slice_split-split_at (λ b. b == 32) line))
    ∙ ap (λ (ps : List (List ℕ)). parts_of 32 line ++ ps) (same_pieces lines)
    ∙ sym (flat_map-cons (parts_of 32) line lines)

-- the parts of all lines
abbrev pub all_parts : List ℕ → List (List ℕ)
all_parts text = flat_map (parts_of 32) (parts_of 10 text)

pub words_of-parts : (text : List ℕ) → words_of text ≡ filter is_some_byte (all_parts text)
words_of-parts text =
    ap (filter is_some_byte) (split_twice text
    ∙ same_pieces (lines_in text)
    ∙ ap (flat_map (parts_of 32)) (sym (slice_split-split_at (λ b. b == 10) text)))

-- ---- one result after another

pub and_then_ok : {A B : Type 0} (r : Result A TextFault) (f : A → Result B TextFault) (y : B) → (r >>= f) ≡ Ok y → (x : A) × (r ≡ Ok x) × (f x ≡ Ok y)
and_then_ok (Ok x) f y h = (x, refl, h)
and_then_ok (Err e) f y h = absurd (cc)

-- ---- formed words

both_formed : {W : Type 0} → Option (List W) → Option (List W) → Option (List W)
both_formed (Some a) (Some b) = Some (a ++ b)
both_formed (Some a) None = None
both_formed None b = None

word_in_front : {W : Type 0} (w : Option W) (a b : Option (List W)) → with_word w (both_formed a b) ≡ both_formed (with_word w a) b
unfolding both_formed
word_in_front None a b = refl
word_in_front (Some w) None b = refl
word_in_front (Some w) (Some a) None = refl
word_in_front (Some w) (Some a) (Some b) = refl

none_in_front : {W : Type 0} (b : Option (List W)) → b ≡ both_formed (Some []) b
unfolding both_formed
none_in_front None = refl
none_in_front (Some b) = refl

two_parts : {W : Type 0} (a b : Option (List W)) (ws : List W) → both_formed a b ≡ Some ws → (x : List W) × (y : List W) × (a ≡ Some x) × (b ≡ Some y) × (ws ≡ x ++ y)
unfolding both_formed
two_parts None b ws h = absurd (cc)
two_parts (Some x) None ws h = absurd (cc)
two_parts (Some x) (Some y) ws h = (x, y, refl, refl, cc)

some_both : {W : Type 0} (a b : Option (List W)) (x y : List W) → a ≡ Some x → b ≡ Some y → both_formed a b ≡ Some (x ++ y)
unfolding both_formed
some_both a b x y p q = ap (λ o. both_formed o b) p ∙ ap (λ o. both_formed (Some x) o) q

module _ {W : Type 0} (spelled : List ℕ → Option W) where
  formed-append : (a b : List (List ℕ)) → formed_words spelled (a ++ b) ≡ both_formed (formed_words spelled a) (formed_words spelled b)
  formed-append [] b = none_in_front (formed_words spelled b)
  formed-append ([] ∷ a) b = formed-append a b
  formed-append ((c ∷ cs) ∷ a) b = ap (with_word (spelled (c ∷ cs))) (formed-append a b) ∙ word_in_front (spelled (c ∷ cs)) (formed_words spelled a) (formed_words spelled b)

-- ---- lines that are read

guarded : {A : Type 0} (b : Bool) (x y : A) (r : Result A TextFault) (f : TextFault) → cond b r (Err f) ≡ Ok y → (b ≡ true) × (r ≡ Ok y)
guarded true x y r f h = (refl, h)
guarded false x y r f h = absurd (cc)

module _ {W : Type 0} (known : W → Bool) (times apart : W → ℕ) (number count others : ℕ) where
  allowed_ok : (o : Option (List W)) (ws : List W) → allowed_words known times apart number count others o ≡ Ok ws → (o ≡ Some ws) × (list_all known ws ≡ true) × (count + sum_by times ws ≤ 1000000) × (others + sum_by apart ws ≤ 1000000)
  unfolding allowed_words
  allowed_ok None ws h = absurd (cc)
  allowed_ok (Some x) ws h =
      let g = guarded (list_all known x) x ws (cond (nat_le (count + sum_by times x) 1000000 && nat_le (others + sum_by apart x) 1000000) (Ok x) (refused Limit number)) (record { rule = Name; line = number }) h in
      let k = guarded (nat_le (count + sum_by times x) 1000000 && nat_le (others + sum_by apart x) 1000000) x ws (Ok x) (record { rule = Limit; line = number }) g.1 in
      let both = and_parts (nat_le (count + sum_by times x) 1000000) (nat_le (others + sum_by apart x) 1000000) k.0 in
      let same : x ≡ ws = cc (k.1) in
      let few : count + sum_by times x ≤ 1000000 = grind (arith, nat_tests, both.0) in
      let few_others : others + sum_by apart x ≤ 1000000 = grind (arith, nat_tests, both.1) in
      (ap (λ (l : List W). Some l) same, subst (λ (l : List W). list_all known l ≡ true) same g.0, subst (λ (l : List W). count + sum_by times l ≤ 1000000) same few, subst (λ (l : List W). others + sum_by apart l ≤ 1000000) same few_others)

  ok_allowed : (o : Option (List W)) (ws : List W) → o ≡ Some ws → list_all known ws ≡ true → count + sum_by times ws ≤ 1000000 → others + sum_by apart ws ≤ 1000000 → allowed_words known times apart number count others o ≡ Ok ws
  unfolding allowed_words
  ok_allowed o ws e k f g =
      let n : nat_le (count + sum_by times ws) 1000000 ≡ true = grind (arith, nat_tests, f) in
      let m : nat_le (others + sum_by apart ws) 1000000 ≡ true = grind (arith, nat_tests, g) in
      ap (allowed_words known times apart number count others) e ∙ rw (k, n, m) refl

-- what was read of these lines, after this number of words, and of those that are counted apart
pub record AreWords {W : Type 0} (spelled : List ℕ → Option W) (known : W → Bool) (times apart : W → ℕ) (count others : ℕ) (lines : List (List ℕ)) (ws : List W) : Type 0 where
  pub formed : formed_words spelled (flat_map (parts_of 32) lines) ≡ Some ws
  pub all_known : list_all known ws ≡ true
  pub few : count + sum_by times ws ≤ 1000000
  pub few_others : others + sum_by apart ws ≤ 1000000

module _ {W : Type 0} (spelled : List ℕ → Option W) (known : W → Bool) (times apart : W → ℕ) where
  formed_line : (line : List ℕ) (lines : List (List ℕ)) → formed_words spelled (flat_map (parts_of 32) (line ∷ lines)) ≡ both_formed (formed_words spelled (parts_of 32 line)) (formed_words spelled (flat_map (parts_of 32) lines))
  formed_line line lines = ap (formed_words spelled) (flat_map-cons (parts_of 32) line lines) ∙ formed-append spelled (parts_of 32 line) (flat_map (parts_of 32) lines)

  pub are_words : (number count others : ℕ) (lines : List (List ℕ)) (ws : List W) → count ≤ 1000000 → others ≤ 1000000 → lines_words spelled known times apart number count others lines ≡ Ok ws → AreWords spelled known times apart count others lines ws
  unfolding lines_words
  are_words number count others [] ws c d h = let none : [] ≡ ws = cc in subst (AreWords spelled known times apart count others []) none (record { formed = refl; all_known = refl; few = omega (arith, c); few_others = omega (arith, d) })
  are_words number count others (line ∷ lines) ws c d h =
      let a = and_then_ok (line_words spelled known times apart number count others line) (λ first. lines_words spelled known times apart (number + 1) (count + sum_by times first) (others + sum_by apart first) lines >>= λ further. Ok (first ++ further)) ws h in
      let first = allowed_ok known times apart number count others (formed_words spelled (parts_of 32 line)) a.0 a.1 in
      let b = and_then_ok (lines_words spelled known times apart (number + 1) (count + sum_by times a.0) (others + sum_by apart a.0) lines) (λ further. Ok (a.0 ++ further)) ws a.2 in
      let rest = are_words (number + 1) (count + sum_by times a.0) (others + sum_by apart a.0) lines b.0 first.2 first.3 b.1 in
      let same : a.0 ++ b.0 ≡ ws = cc (b.2) in
      let few : count + sum_by times (a.0 ++ b.0) ≤ 1000000 = omega (arith, sum_by-append times a.0 b.0, rest.few) in
      let few_others : others + sum_by apart (a.0 ++ b.0) ≤ 1000000 = omega (arith, sum_by-append apart a.0 b.0, rest.few_others) in
      subst (AreWords spelled known times apart count others (line ∷ lines)) same (record {
        formed = formed_line line lines ∙ some_both (formed_words spelled (parts_of 32 line)) (formed_words spelled (flat_map (parts_of 32) lines)) a.0 b.0 first.0 rest.formed;
        all_known = list_all-append known a.0 b.0 ∙ and_from (list_all known a.0) (list_all known b.0) first.1 rest.all_known;
        few = few;
        few_others = few_others;
      })

  pub words_read : (number count others : ℕ) (lines : List (List ℕ)) (ws : List W) → AreWords spelled known times apart count others lines ws → lines_words spelled known times apart number count others lines ≡ Ok ws
  unfolding lines_words
  words_read number count others [] ws h = let none : [] ≡ ws = cc (h.formed) in ap Ok none
  words_read number count others (line ∷ lines) ws h =
      let t = two_parts (formed_words spelled (parts_of 32 line)) (formed_words spelled (flat_map (parts_of 32) lines)) ws (sym (formed_line line lines) ∙ h.formed) in
      let x = t.0 in
      let y = t.1 in
      let known_both = and_parts (list_all known x) (list_all known y) (sym (list_all-append known x y) ∙ ap (list_all known) (sym t.4) ∙ h.all_known) in
      let sums : sum_by times ws ≡ sum_by times x + sum_by times y = ap (sum_by times) t.4 ∙ sum_by-append times x y in
      let aparts : sum_by apart ws ≡ sum_by apart x + sum_by apart y = ap (sum_by apart) t.4 ∙ sum_by-append apart x y in
      let line_is = ok_allowed known times apart number count others (formed_words spelled (parts_of 32 line)) x t.2 known_both.0 (omega (arith, sums, h.few)) (omega (arith, aparts, h.few_others)) in
      let rest_is = words_read (number + 1) (count + sum_by times x) (others + sum_by apart x) lines y (record { formed = t.3; all_known = known_both.1; few = omega (arith, sums, h.few); few_others = omega (arith, aparts, h.few_others) }) in
      ap (λ r. r >>= λ first. lines_words spelled known times apart (number + 1) (count + sum_by times first) (others + sum_by apart first) lines >>= λ further. Ok (first ++ further)) line_is
      ∙ ap (λ r. r >>= λ further. Ok (x ++ further)) rest_is
      ∙ ap (λ (l : List W). Ok l) (sym t.4)

-- empty parts are no words
pub formed_words-filter : {W : Type 0} (spelled : List ℕ → Option W) (parts : List (List ℕ)) → formed_words spelled parts ≡ formed_words spelled (filter is_some_byte parts)
formed_words-filter spelled [] = refl
formed_words-filter spelled ([] ∷ parts) = formed_words-filter spelled parts
formed_words-filter spelled ((c ∷ cs) ∷ parts) = ap (with_word (spelled (c ∷ cs))) (formed_words-filter spelled parts)
