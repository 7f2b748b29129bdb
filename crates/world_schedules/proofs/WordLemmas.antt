-- Words that are read one after the other.
use Rattle.std.proofs.Common.{◌≡◌, ℕ, ◌+◌, ◌-◌, ◌^◌, ◌<◌, ◌≤◌, List, [], ◌∷◌, ◌++◌, length, Option, Some, None, Result, Ok, refl, sym, ap, ◌∙◌, append_assoc, append-nil, arith}
use Rattle.std.specs.Option.{option_map}
use Rattle.std.specs.List.{list_all}
use Rattle.std.specs.Prelude.{◌==◌, Bool, true, false, nat_le, sum_by, min}
use Rattle.std.proofs.lemmas.Bool.Decides.{nat_tests}
use Rattle.world_schedules.specs.declared.fault.TextFault.{TextFault}
use Rattle.world_schedules.specs.declared.fault.Rule.TheVariants.{Form, Name, Limit}
use Rattle.world_schedules.specs.Reading.{refused}
use Rattle.world_schedules.specs.ReadingWords.{formed_words, with_word, allowed_words}

-- the words in front, and then these
abbrev pub after : {W : Type 0} → List W → Option (List W) → Option (List W)
after front words = option_map (λ ws. front ++ ws) words

pub after-nil : {W : Type 0} (words : Option (List W)) → after [] words ≡ words
after-nil None = refl
after-nil (Some ws) = refl

pub after_one : {W : Type 0} (front : List W) (w : W) (words : Option (List W)) → after front (with_word (Some w) words) ≡ after (front ++ w ∷ []) words
after_one front w None = refl
after_one front w (Some ws) = ap Some (sym (append_assoc front (w ∷ []) ws))

module _ {W : Type 0} (spelled : List ℕ → Option W) where
  pub formed_part : (part : List ℕ) (parts : List (List ℕ)) → 0 < length part → formed_words spelled (part ∷ parts) ≡ with_word (spelled part) (formed_words spelled parts)
  formed_part [] parts h = absurd (omega arith)
  formed_part (b ∷ bs) parts h = refl

  formed_empty : (part : List ℕ) (parts : List (List ℕ)) → length part ≡ 0 → formed_words spelled (part ∷ parts) ≡ formed_words spelled parts
  formed_empty [] parts h = refl
  formed_empty (b ∷ bs) parts h = absurd (omega arith)

  -- what is left begins with an empty part
  pub skips : (part : List ℕ) (left rest : List (List ℕ)) (words : List W) (all : Option (List W)) → left ≡ part ∷ rest → length part ≡ 0 → after words (formed_words spelled left) ≡ all
      → after words (formed_words spelled rest) ≡ all
  skips part left rest words all e h so_far =
      ap (after words) (sym (ap (formed_words spelled) e ∙ formed_empty part rest h)) ∙ so_far

  -- what is left begins with a part that spells a word
  pub takes : (part : List ℕ) (left rest : List (List ℕ)) (words : List W) (all : Option (List W)) (w : W) → left ≡ part ∷ rest → 0 < length part → Some w ≡ spelled part → after words (formed_words spelled left) ≡ all
      → after (words ++ w ∷ []) (formed_words spelled rest) ≡ all
  takes part left rest words all w e h is so_far =
      sym (after_one words w (formed_words spelled rest))
      ∙ ap (after words) (sym (ap (formed_words spelled) e ∙ formed_part part rest h ∙ ap (λ o. with_word o (formed_words spelled rest)) (sym is)))
      ∙ so_far

  -- what is left begins with a part that spells none
  pub no_form : (part : List ℕ) (left rest : List (List ℕ)) (words : List W) (all : Option (List W)) → left ≡ part ∷ rest → 0 < length part → None ≡ spelled part → after words (formed_words spelled left) ≡ all → None ≡ all
  no_form part left rest words all e h is so_far =
      sym (ap (after words) (ap (formed_words spelled) e ∙ formed_part part rest h ∙ ap (λ o. with_word o (formed_words spelled rest)) (sym is))) ∙ so_far

  pub starts : (parts left : List (List ℕ)) → left ≡ parts → after [] (formed_words spelled left) ≡ formed_words spelled parts
  starts parts left e = after-nil (formed_words spelled left) ∙ ap (formed_words spelled) e

  pub ends : (left : List (List ℕ)) (words : List W) (all : Option (List W)) → left ≡ [] → after words (formed_words spelled left) ≡ all → Some words ≡ all
  ends left words all e so_far =
      sym (ap (λ ps. after words (formed_words spelled ps)) e ∙ ap Some (append-nil words)) ∙ so_far

-- ---- the words of a line

passes : (count sum : ℕ) → count ≤ 1000000 → 1000000 - count < min sum (2 ^ 64 - 1) → nat_le (count + sum) 1000000 ≡ false
passes count sum c h = grind (arith, nat_tests)

pub stays_within : (count sum : ℕ) → count ≤ 1000000 → min sum (2 ^ 64 - 1) ≤ 1000000 - count → count + sum ≤ 1000000
stays_within count sum c h = omega arith

fits_within : (count sum : ℕ) → count + sum ≤ 1000000 → nat_le (count + sum) 1000000 ≡ true
fits_within count sum h = grind (arith, nat_tests)

module _ {W : Type 0} (known : W → Bool) (times apart : W → ℕ) (number count others : ℕ) (words : List W) where
  abbrev allowed : Option (List W) → Result (List W) TextFault
  allowed all = allowed_words known times apart number count others all

  pub refused_form : (all : Option (List W)) → None ≡ all → allowed all ≡ refused Form number
  unfolding allowed_words
  refused_form all e = ap allowed (sym e)

  pub refused_name : (all : Option (List W)) → Some words ≡ all → list_all known words ≡ false → allowed all ≡ refused Name number
  unfolding allowed_words
  refused_name all e k = ap allowed (sym e) ∙ rw k refl

  pub refused_limit : (all : Option (List W)) → Some words ≡ all → list_all known words ≡ true → count ≤ 1000000 → 1000000 - count < min (sum_by times words) (2 ^ 64 - 1) → allowed all ≡ refused Limit number
  unfolding allowed_words
  refused_limit all e k c h = ap allowed (sym e) ∙ rw (k, passes count (sum_by times words) c h) refl

  pub refused_others : (all : Option (List W)) → Some words ≡ all → list_all known words ≡ true → count + sum_by times words ≤ 1000000 → others ≤ 1000000 → 1000000 - others < min (sum_by apart words) (2 ^ 64 - 1)
      → allowed all ≡ refused Limit number
  unfolding allowed_words
  refused_others all e k w c h = ap allowed (sym e) ∙ rw (k, fits_within count (sum_by times words) w, passes others (sum_by apart words) c h) refl

  pub are_allowed : (all : Option (List W)) → Some words ≡ all → list_all known words ≡ true → count + sum_by times words ≤ 1000000 → others + sum_by apart words ≤ 1000000 → allowed all ≡ Ok words
  unfolding allowed_words
  are_allowed all e k h g = ap allowed (sym e) ∙ rw (k, fits_within count (sum_by times words) h, fits_within others (sum_by apart words) g) refl

-- ---- an emptiness test

pub empty : (n : ℕ) → true ≡ (n == 0) → n ≡ 0
empty n e = grind (arith, nat_tests)
