-- The words of a line: the first, those after it, and the text of a string, which is what is after the first two.
use Rattle.std.proofs.Common.{◌≡◌, ℕ, suc, ◌+◌, ◌-◌, ◌<◌, ◌≤◌, Bool, true, false, cond, List, [], ◌∷◌, length, map, take, drop, get_or, Some, None, refl, sym, ap, ◌∙◌, arith, Bor}
use Rattle.std.specs.Prelude.{bytes_eq, codes}
use Rattle.std.specs.List.{list_all}
use Rattle.std.proofs.Math.Seq.{drop-append-add}
use Rattle.std.proofs.Math.ListN.{drop_of_length-le}
use Rattle.std.proofs.lemmas.List.{take_all}
use Rattle.std.proofs.lemmas.List.Folds.{list_all-map}
use Rattle.std.proofs.lemmas.List.Splits.{join_with_byte-slice_split}
use Rattle.base.specs.Bytes.{is_some_byte}
use Rattle.world_schedules.specs.Split.{parts_of}
use Rattle.world_lines.specs.ReadingValues.{object_named}
use Rattle.world_lines.specs.ReadingLines.{heap_by_words, string_by_words, words_by_kind, line_by_words, line_of}
use Rattle.world_values.specs.WorldLines.{StringLine, spaced}

-- ---- the text of a string

-- what is after the first word and its space
after_word : (word : List ℕ) (words : List (List ℕ)) → drop (length word + 1) (spaced (word ∷ words)) ≡ spaced words
after_word word [] = drop_of_length-le word (omega arith)
after_word word (next ∷ words) = drop-append-add word (32 ∷ spaced (next ∷ words)) 1

text_is : (line word name : List ℕ) (words : List (List ℕ)) → parts_of 32 line ≡ word ∷ name ∷ words → drop (length name + 1) (drop (length word + 1) line) ≡ spaced words
text_is line word name words e =
    let whole : spaced (word ∷ name ∷ words) ≡ line = ap spaced (sym e) ∙ join_with_byte-slice_split 32 line in
    ap (λ l. drop (length name + 1) (drop (length word + 1) l)) (sym whole)
    ∙ ap (drop (length name + 1)) (after_word word (name ∷ words))
    ∙ after_word name words

-- words in memory
abbrev pub Words : Type 0
Words = List (Bor (List ℕ))

abbrev pub bytes_of : Words → List (List ℕ)
bytes_of words = map (λ w. w.now) words

string_named : (line word : List ℕ) (name : List ℕ) (words : List (List ℕ)) (x text : List ℕ) → parts_of 32 line ≡ word ∷ name ∷ words → Some x ≡ object_named name → text ≡ drop (length name + 1) (drop (length word + 1) line) → Some (StringLine x text) ≡ string_by_words (name ∷ words)
string_named line word name words x text e named is =
    ap (λ t. Some (StringLine x t)) (is ∙ text_is line word name words e)
    ∙ rw (sym named) refl

-- the line of a string, by its name and the bytes after it
pub string_is : (line word : List ℕ) (words : Words) (d : Bor (List ℕ)) (x text : List ℕ) → 1 ≤ length words → parts_of 32 line ≡ word ∷ bytes_of words → Some x ≡ object_named (get_or words 0 d).now
    → text ≡ drop (length (get_or words 0 d).now + 1) (drop (length word + 1) line) → Some (StringLine x text) ≡ string_by_words (bytes_of words)
string_is line word [] d x text some e named is = absurd (omega arith)
string_is line word (w ∷ words) d x text some e named is = string_named line word w.now (bytes_of words) x text e named is

-- ---- the line of the heap has two words or three

pub few_words : (words : Words) → length words < 2 → None ≡ heap_by_words (bytes_of words)
few_words [] h = refl
few_words (w ∷ []) h = refl
few_words (w ∷ v ∷ words) h = absurd (omega arith)

pub many_words : (words : Words) → 4 ≤ length words → None ≡ heap_by_words (bytes_of words)
many_words [] h = absurd (omega arith)
many_words (w ∷ []) h = absurd (omega arith)
many_words (w ∷ v ∷ []) h = absurd (omega arith)
many_words (w ∷ v ∷ u ∷ []) h = absurd (omega arith)
many_words (w ∷ v ∷ u ∷ t ∷ words) h = refl

-- ---- the first word

-- what is after the first
abbrev pub after_first : Words → Words
after_first words = take (length words - 1) (drop 1 words)

first_and_rest : (words : Words) (d : Bor (List ℕ)) → 1 ≤ length words → words ≡ get_or words 0 d ∷ after_first words
first_and_rest [] d some = absurd (omega arith)
first_and_rest (w ∷ words) d some = ap (λ (ws : Words). w ∷ ws) (sym (take_all (suc (length words) - 1) words (omega arith)))

module _ (bytes : List ℕ) (words : Words) (d : Bor (List ℕ)) (some : 1 ≤ length words) (are : bytes_of words ≡ parts_of 32 bytes) where
  abbrev first : List ℕ
  first = (get_or words 0 d).now

  abbrev rest : List (List ℕ)
  rest = bytes_of (after_first words)

  pub parts_are : parts_of 32 bytes ≡ first ∷ rest
  parts_are = sym are ∙ ap bytes_of (first_and_rest words d some)

  -- a string's line
  pub by_string : bytes_eq first (codes "string") ≡ true → line_of bytes ≡ string_by_words rest
  unfolding line_of
  by_string is = ap line_by_words parts_are ∙ ap (λ (b : Bool). cond b (string_by_words rest) (cond (list_all is_some_byte rest) (words_by_kind first rest) None)) is

  -- another line
  pub by_kind : (b : Bool) → bytes_eq first (codes "string") ≡ false → list_all (λ w. is_some_byte w.now) (after_first words) ≡ b → line_of bytes ≡ cond b (words_by_kind first rest) None
  unfolding line_of
  by_kind b is_not all =
      ap line_by_words parts_are
      ∙ ap (λ (c : Bool). cond c (string_by_words rest) (cond (list_all is_some_byte rest) (words_by_kind first rest) None)) is_not
      ∙ ap (λ (c : Bool). cond c (words_by_kind first rest) None) (list_all-map is_some_byte (λ w. w.now) (after_first words) ∙ all)
