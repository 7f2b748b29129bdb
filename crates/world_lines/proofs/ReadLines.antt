-- The text of a line is read as the line, where its numbers are in the range of jint.
use Rattle.std.proofs.Common.{◌≡◌, ℕ, true, false, cond, List, [], ◌∷◌, map, Some, None, refl, ap, ◌∙◌, inl, inr}
use Rattle.std.specs.Prelude.{codes, ◌&&◌, bytes_eq}
use Rattle.std.specs.Option.{option_map}
use Rattle.std.specs.List.{list_all}
use Rattle.std.proofs.lemmas.Bool.{and_from, and_parts}
use Rattle.base.specs.Bytes.{is_some_byte}
use Rattle.base.specs.declared.element.ElementType.TheVariants.{Int as JInt}
use Rattle.world_schedules.specs.Split.{parts_of}
use Rattle.world_lines.specs.LineContents.{written_values}
use Rattle.world_lines.specs.ReadingLines.{string_by_words, object_line, array_line, words_by_kind, line_by_words, line_of}
use Rattle.world_values.specs.WorldLines.{WorldValue, WorldLine, MethodsLine, ClassLine, FieldLine, StaticLine, ObjectLine, ObjectsLine, ArrayLine, StringLine, ThreadLine, CallLine, has_no_space, is_line_word, is_value_word, has_words, spaced, at_name, value_text, element_letter, line_text, IsLineText}
use Rattle.world_values.specs.WorldRules.{value_in_range}
use Rattle.world_lines.proofs.LineWords.{first_part, spaced_parts, parts_spaced, words_some, words_free}
use Rattle.world_lines.proofs.ReadValues.{value_words, values_read, element_read, element_word}

by_words : (bytes : List ℕ) (words : List (List ℕ)) → parts_of 32 bytes ≡ words → line_of bytes ≡ line_by_words words
unfolding line_of
by_words bytes words e = ap line_by_words e

-- a line of words, none of them empty, is read by its first word
by_kind : (kind : List ℕ) (ws : List (List ℕ)) → bytes_eq kind (codes "string") ≡ false → has_no_space kind ≡ true → list_all is_line_word ws ≡ true → line_of (spaced (kind ∷ ws)) ≡ words_by_kind kind ws
by_kind kind ws other free words =
    by_words (spaced (kind ∷ ws)) (kind ∷ ws) (spaced_parts kind ws free (words_free ws words))
    ∙ ap (λ b. cond b (string_by_words ws) (cond (list_all is_some_byte ws) (words_by_kind kind ws) None)) other
    ∙ ap (λ b. cond b (words_by_kind kind ws) None) (words_some ws words)

-- the words of an object's line
object_words : (x word : List ℕ) (vs : List WorldValue) → has_no_space x ≡ true → is_line_word word ≡ true → list_all is_value_word vs ≡ true → list_all (value_in_range JInt) vs ≡ true → list_all is_line_word (at_name x ∷ word ∷ map value_text vs) ≡ true
object_words x word vs a b c range = and_from (is_line_word (at_name x)) (list_all is_line_word (word ∷ map value_text vs)) a (and_from (is_line_word word) (list_all is_line_word (map value_text vs)) b (value_words vs c range))

call_words : (function : List ℕ) (vs : List WorldValue) → is_line_word function ≡ true → list_all is_value_word vs ≡ true → list_all (value_in_range JInt) vs ≡ true → list_all is_line_word (function ∷ map value_text vs) ≡ true
call_words function vs b c range = and_from (is_line_word function) (list_all is_line_word (map value_text vs)) b (value_words vs c range)

text_read : (line : WorldLine) → has_words line ≡ true → list_all (value_in_range JInt) (written_values line) ≡ true → line_of (line_text line) ≡ Some line
text_read MethodsLine words range = absurd (cc)
text_read (ClassLine name None) words range = by_kind (codes "class") (name ∷ []) refl refl (and_from (is_line_word name) true words refl)
text_read (ClassLine name (Some superclass)) words range =
    let b = and_parts (is_line_word name) (is_line_word superclass) words in
    by_kind (codes "class") (name ∷ codes "extends" ∷ superclass ∷ []) refl refl (and_from (is_line_word name) (is_line_word superclass && true) b.0 (and_from (is_line_word superclass) true b.1 refl))
text_read (FieldLine class name signature) words range = by_kind (codes "field") (class ∷ name ∷ signature ∷ []) refl refl words
text_read (StaticLine class name signature) words range = by_kind (codes "static") (class ∷ name ∷ signature ∷ []) refl refl words
text_read (ObjectLine x class vs) words range =
    let b = and_parts (has_no_space x && is_line_word class) (list_all is_value_word vs) words in
    let c = and_parts (has_no_space x) (is_line_word class) b.0 in
    by_kind (codes "object") (at_name x ∷ class ∷ map value_text vs) refl refl (object_words x class vs c.0 c.1 b.1 range)
    ∙ ap (object_line (λ name. ObjectLine name class) (Some x)) (values_read vs range)
text_read (ObjectsLine x class vs) words range =
    let b = and_parts (has_no_space x && is_line_word class) (list_all is_value_word vs) words in
    let c = and_parts (has_no_space x) (is_line_word class) b.0 in
    by_kind (codes "objects") (at_name x ∷ class ∷ map value_text vs) refl refl (object_words x class vs c.0 c.1 b.1 range)
    ∙ ap (object_line (λ name. ObjectsLine name class) (Some x)) (values_read vs range)
text_read (ArrayLine x t vs) words range =
    let b = and_parts (has_no_space x) (list_all is_value_word vs) words in
    by_kind (codes "array") (at_name x ∷ element_letter t ∷ map value_text vs) refl refl (object_words x (element_letter t) vs b.0 (element_word t) b.1 range)
    ∙ (λ i. array_line (Some x) (element_read t i) (values_read vs range i))
text_read (StringLine x text) words range =
    let parts = first_part (codes "string") (spaced (at_name x ∷ text ∷ [])) refl ∙ ap (λ (ps : List (List ℕ)). codes "string" ∷ ps) (first_part (at_name x) text words) in
    by_words (spaced (codes "string" ∷ at_name x ∷ text ∷ [])) (codes "string" ∷ at_name x ∷ parts_of 32 text) parts ∙ ap (λ t. Some (StringLine x t)) (parts_spaced text)
text_read (ThreadLine function vs) words range =
    let b = and_parts (is_line_word function) (list_all is_value_word vs) words in
    by_kind (codes "thread") (function ∷ map value_text vs) refl refl (call_words function vs b.0 b.1 range)
    ∙ ap (λ o. option_map (ThreadLine function) o) (values_read vs range)
text_read (CallLine function vs) words range =
    let b = and_parts (is_line_word function) (list_all is_value_word vs) words in
    by_kind (codes "call") (function ∷ map value_text vs) refl refl (call_words function vs b.0 b.1 range)
    ∙ ap (λ o. option_map (CallLine function) o) (values_read vs range)

-- a text of a line is read as the line
pub line_is_read : (bytes : List ℕ) (line : WorldLine) → IsLineText bytes line → list_all (value_in_range JInt) (written_values line) ≡ true → line_of bytes ≡ Some line
line_is_read bytes line (words, inl e) range = ap line_of e ∙ text_read line words range
line_is_read bytes (StringLine x []) (words, inr e) range = ap line_of e ∙ by_words (spaced (codes "string" ∷ at_name x ∷ [])) (codes "string" ∷ at_name x ∷ []) (spaced_parts (codes "string") (at_name x ∷ []) refl (and_from (has_no_space x) true words refl))
line_is_read bytes (StringLine x (c ∷ text)) (words, inr e) range = absurd e
line_is_read bytes MethodsLine (words, inr e) range = absurd e
line_is_read bytes (ClassLine name superclass) (words, inr e) range = absurd e
line_is_read bytes (FieldLine class name signature) (words, inr e) range = absurd e
line_is_read bytes (StaticLine class name signature) (words, inr e) range = absurd e
line_is_read bytes (ObjectLine x class vs) (words, inr e) range = absurd e
line_is_read bytes (ObjectsLine x class vs) (words, inr e) range = absurd e
line_is_read bytes (ArrayLine x t vs) (words, inr e) range = absurd e
line_is_read bytes (ThreadLine function vs) (words, inr e) range = absurd e
line_is_read bytes (CallLine function vs) (words, inr e) range = absurd e
