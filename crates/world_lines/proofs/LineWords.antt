-- The words of a line: its parts between spaces.
use Rattle.std.proofs.Common.{◌≡◌, ℕ, Bool, true, false, cond, List, [], ◌∷◌, ◌++◌, refl, ap, ◌∙◌}
use Rattle.std.specs.Prelude.{not, ◌&&◌, ◌==◌}
use Rattle.std.specs.List.{list_all, onto_first}
use Rattle.std.proofs.lemmas.Bool.{and_from, and_parts, not-true}
use Rattle.std.proofs.lemmas.List.Splits.{join_with_byte-slice_split}
use Rattle.base.specs.Bytes.{is_some_byte}
use Rattle.world_schedules.specs.Split.{parts_of}
use Rattle.world_values.specs.WorldLines.{has_no_space, is_line_word, spaced}

-- a word is one part
one_part : (w : List ℕ) → has_no_space w ≡ true → parts_of 32 w ≡ w ∷ []
one_part [] h = refl
one_part (c ∷ w) h =
    let b = and_parts (not (c == 32)) (has_no_space w) h in
    ap (λ t. cond t ([] ∷ parts_of 32 w) (onto_first c (parts_of 32 w))) (not-true (c == 32) b.0) ∙ ap (onto_first c) (one_part w b.1)

-- before a space too
pub first_part : (w rest : List ℕ) → has_no_space w ≡ true → parts_of 32 (w ++ 32 ∷ rest) ≡ w ∷ parts_of 32 rest
first_part [] rest h = refl
first_part (c ∷ w) rest h =
    let b = and_parts (not (c == 32)) (has_no_space w) h in
    ap (λ t. cond t ([] ∷ parts_of 32 (w ++ 32 ∷ rest)) (onto_first c (parts_of 32 (w ++ 32 ∷ rest)))) (not-true (c == 32) b.0) ∙ ap (onto_first c) (first_part w rest b.1)

-- the words of a line are its parts
pub spaced_parts : (w : List ℕ) (ws : List (List ℕ)) → has_no_space w ≡ true → list_all has_no_space ws ≡ true → parts_of 32 (spaced (w ∷ ws)) ≡ w ∷ ws
spaced_parts w [] h k = one_part w h
spaced_parts w (v ∷ ws) h k =
    let b = and_parts (has_no_space v) (list_all has_no_space ws) k in
    first_part w (spaced (v ∷ ws)) h ∙ ap (λ (ps : List (List ℕ)). w ∷ ps) (spaced_parts v ws b.0 b.1)

-- a line is its parts with spaces between
pub parts_spaced : (bytes : List ℕ) → spaced (parts_of 32 bytes) ≡ bytes
parts_spaced bytes = join_with_byte-slice_split 32 bytes

-- and no part has a space
free_first : (c : ℕ) (parts : List (List ℕ)) → (c == 32) ≡ false → list_all has_no_space parts ≡ true → list_all has_no_space (onto_first c parts) ≡ true
free_first c [] e h = ap (λ b. not b && true && true) e
free_first c (part ∷ parts) e h =
    let b = and_parts (has_no_space part) (list_all has_no_space parts) h in
    and_from (not (c == 32) && has_no_space part) (list_all has_no_space parts) (and_from (not (c == 32)) (has_no_space part) (ap not e) b.0) b.1

pub parts_free : (bytes : List ℕ) → list_all has_no_space (parts_of 32 bytes) ≡ true
parts_free [] = refl
parts_free (c ∷ bytes) = by_test (c == 32) refl (parts_free bytes)
  where
    by_test : (b : Bool) → (c == 32) ≡ b → list_all has_no_space (parts_of 32 bytes) ≡ true → list_all has_no_space (cond b ([] ∷ parts_of 32 bytes) (onto_first c (parts_of 32 bytes))) ≡ true
    by_test true e h = h
    by_test false e h = free_first c (parts_of 32 bytes) e h

-- words have a byte, and no space
pub words_some : (ws : List (List ℕ)) → list_all is_line_word ws ≡ true → list_all is_some_byte ws ≡ true
words_some [] h = refl
words_some (w ∷ ws) h =
    let b = and_parts (is_line_word w) (list_all is_line_word ws) h in
    and_from (is_some_byte w) (list_all is_some_byte ws) (and_parts (is_some_byte w) (has_no_space w) b.0).0 (words_some ws b.1)

pub words_free : (ws : List (List ℕ)) → list_all is_line_word ws ≡ true → list_all has_no_space ws ≡ true
words_free [] h = refl
words_free (w ∷ ws) h =
    let b = and_parts (is_line_word w) (list_all is_line_word ws) h in
    and_from (has_no_space w) (list_all has_no_space ws) (and_parts (is_some_byte w) (has_no_space w) b.0).1 (words_free ws b.1)

pub are_words : (ws : List (List ℕ)) → list_all is_some_byte ws ≡ true → list_all has_no_space ws ≡ true → list_all is_line_word ws ≡ true
are_words [] h k = refl
are_words (w ∷ ws) h k =
    let a = and_parts (is_some_byte w) (list_all is_some_byte ws) h in
    let b = and_parts (has_no_space w) (list_all has_no_space ws) k in
    and_from (is_line_word w) (list_all is_line_word ws) (and_from (is_some_byte w) (has_no_space w) a.0 b.0) (are_words ws a.1 b.1)
