-- A reserved word is found among those of its first letter.
use Rattle.std.proofs.Common.{◌≡◌, ℕ, ◌+◌, ◌-◌, ◌<◌, ◌≤◌, ◌%◌, take, drop, Bool, true, false, List, [], ◌∷◌, ◌++◌, length, map, get_or, Option, Some, None, refl, sym, ap, ◌∙◌, bytes_eq, if◌then◌else◌, arith}
use Rattle.std.specs.Prelude.{◌==◌, ◌||◌}
use Rattle.std.specs.List.{list_any, filter, range_with_len}
use Rattle.std.specs.Option.{option_or}
use Rattle.std.proofs.lemmas.Bool.{eq-eqb}
use Rattle.std.proofs.lemmas.Slice.Eq.{bytes_eq-Decides}
use Rattle.std.proofs.lemmas.List.{get_or-take, get_or-drop}
use Rattle.std.proofs.lemmas.List.Folds.{list_any-append}
use Rattle.std.proofs.lemmas.List.FromFn.{get_or-map-range_with_len}
use Rattle.base.specs.Bytes.{ByName, lookup}
use Rattle.scan.specs.declared.reserved.Word.{Word}
use Rattle.scan.specs.declared.reserved.Word.TheVariants as words
use Rattle.scan.specs.Words.{keywords, interface_words, reference_words, constant_words, unused_types, unused_declarations, unused_statements, keyword, interface_word, reference_word, constant_word, is_unused_type, is_unused_declaration, is_unused_statement, unused_word, word_of}

-- ---- one list of all words

abbrev unused_words : ByName Word
unused_words = map (λ bytes. (bytes, words.Unused)) ((unused_types ++ unused_declarations) ++ unused_statements)

abbrev from_constants : ByName Word
from_constants = constant_words ++ unused_words

abbrev from_references : ByName Word
from_references = reference_words ++ from_constants

abbrev from_interface : ByName Word
from_interface = interface_words ++ from_references

abbrev all_words : ByName Word
all_words = keywords ++ from_interface

or_more : (b : Bool) (v : Word) (a o : Option Word) → (if b then Some v else option_or a o) ≡ option_or (if b then Some v else a) o
or_more true v a o = refl
or_more false v a o = refl

in_both : (bytes : List ℕ) (a b : ByName Word) → lookup bytes (a ++ b) ≡ option_or (lookup bytes a) (lookup bytes b)
in_both bytes [] b = refl
in_both bytes ((y, v) ∷ a) b = ap (λ o. if bytes_eq bytes y then Some v else o) (in_both bytes a b) ∙ or_more (bytes_eq bytes y) v (lookup bytes a) (lookup bytes b)

or_any : (b c : Bool) → (if b then Some words.Unused else (if c then Some words.Unused else None)) ≡ (if b || c then Some words.Unused else None)
or_any true c = refl
or_any false c = refl

among_unused : (bytes : List ℕ) (ws : List (List ℕ)) → lookup bytes (map (λ w. (w, words.Unused)) ws) ≡ (if list_any (bytes_eq bytes) ws then Some words.Unused else None)
among_unused bytes [] = refl
among_unused bytes (w ∷ ws) = ap (λ o. if bytes_eq bytes w then Some words.Unused else o) (among_unused bytes ws) ∙ or_any (bytes_eq bytes w) (list_any (bytes_eq bytes) ws)

unused_is : (bytes : List ℕ) → lookup bytes unused_words ≡ unused_word bytes
unfolding unused_word is_unused_type is_unused_declaration is_unused_statement
unused_is bytes =
    among_unused bytes ((unused_types ++ unused_declarations) ++ unused_statements)
    ∙ ap (λ b. if b then Some words.Unused else None) (list_any-append (bytes_eq bytes) (unused_types ++ unused_declarations) unused_statements ∙ ap (λ b. b || list_any (bytes_eq bytes) unused_statements) (list_any-append (bytes_eq bytes) unused_types unused_declarations))

all_is : (bytes : List ℕ) → lookup bytes all_words ≡ word_of bytes
unfolding word_of keyword interface_word reference_word constant_word
all_is bytes =
    in_both bytes keywords from_interface
    ∙ ap (option_or (lookup bytes keywords)) (in_both bytes interface_words from_references
    ∙ ap (option_or (lookup bytes interface_words)) (in_both bytes reference_words from_constants
    ∙ ap (option_or (lookup bytes reference_words)) (in_both bytes constant_words unused_words
    ∙ ap (option_or (lookup bytes constant_words)) (unused_is bytes))))

-- ---- by first letters

abbrev letter : List ℕ → ℕ
letter [] = 0
letter (byte ∷ bytes) = byte % 32

filtered : (table : ByName Word) (bytes : List ℕ) → lookup bytes (filter (λ r. letter r.0 == letter bytes) table) ≡ lookup bytes table
filtered [] bytes = refl
filtered ((y, v) ∷ rest) bytes =
    elim (letter y == letter bytes) as (λ b. (letter y == letter bytes) ≡ b → lookup bytes (if b then (y, v) ∷ filter (λ r. letter r.0 == letter bytes) rest else filter (λ r. letter r.0 == letter bytes) rest) ≡ lookup bytes ((y, v) ∷ rest)) [
      | true ↦ λ e. ap (λ o. if bytes_eq bytes y then Some v else o) (filtered rest bytes)
      | false ↦ λ e. filtered rest bytes ∙ other (bytes_eq bytes y) refl e
    ] refl
  where
    other : (b : Bool) → bytes_eq bytes y ≡ b → (letter y == letter bytes) ≡ false → lookup bytes rest ≡ (if b then Some v else lookup bytes rest)
    other true same e = absurd (let there : (letter y == letter bytes) ≡ true = eq-eqb (letter y) (letter bytes) (ap letter (sym ((bytes_eq-Decides bytes y).0 same))) in let c : true ≡ false = sym there ∙ e in cc)
    other false same e = refl

-- the words of each letter
abbrev pub by_letter : List (ByName Word)
by_letter = map (λ k. filter (λ r. letter r.0 == k) all_words) (range_with_len 0 32)

first_letter : (bytes : List ℕ) (d place : ℕ) → 1 ≤ length bytes → place ≡ get_or bytes 0 d % 32 → letter bytes ≡ place
first_letter [] d place some e = absurd omega (arith, some)
first_letter (byte ∷ bytes) d place some e = sym e

pub listed : (bytes : List ℕ) (d : ℕ) → 1 ≤ length bytes → lookup bytes (get_or by_letter (get_or bytes 0 d % 32) []) ≡ word_of bytes
listed bytes d some =
    let place = get_or bytes 0 d % 32 in
    let low : place < 32 = omega arith in
    let f : get_or by_letter place [] ≡ filter (λ r. letter r.0 == place) all_words = get_or-map-range_with_len (λ k. filter (λ r. letter r.0 == k) all_words) 0 32 place place [] low (omega arith) in
    ap (lookup bytes) (f ∙ ap (λ k. filter (λ r. letter r.0 == k) all_words) (sym (first_letter bytes d place some refl))) ∙ filtered all_words bytes ∙ all_is bytes

-- the words of a letter before j, of j, and of one after it
pub listed_early : (bytes : List ℕ) (letter : ℕ) → letter < 10 → 1 ≤ length bytes → letter ≡ get_or bytes 0 0 % 32 → lookup bytes (get_or (take 10 by_letter) letter []) ≡ word_of bytes
listed_early bytes letter early some first = ap (lookup bytes) (get_or-take 10 by_letter letter [] early ∙ ap (λ k. get_or by_letter k []) first) ∙ listed bytes 0 some

pub listed_j : (bytes : List ℕ) → 1 ≤ length bytes → get_or bytes 0 0 % 32 ≡ 10 → lookup bytes (get_or by_letter 10 []) ≡ word_of bytes
listed_j bytes some first = ap (λ k. lookup bytes (get_or by_letter k [])) (sym first) ∙ listed bytes 0 some

pub listed_late : (bytes : List ℕ) (letter : ℕ) → 11 ≤ letter → 1 ≤ length bytes → letter ≡ get_or bytes 0 0 % 32 → lookup bytes (get_or (drop 11 by_letter) (letter - 11) []) ≡ word_of bytes
listed_late bytes letter late some first =
    let place : 11 + (letter - 11) ≡ letter = omega (arith, late) in
    ap (lookup bytes) (get_or-drop 11 by_letter (letter - 11) [] ∙ ap (λ k. get_or by_letter k []) (place ∙ first)) ∙ listed bytes 0 some

pub no_word : (bytes : List ℕ) → length bytes < 1 → None ≡ word_of bytes
unfolding word_of keyword interface_word reference_word constant_word unused_word is_unused_type is_unused_declaration is_unused_statement
no_word [] few = refl
no_word (byte ∷ bytes) few = absurd omega (arith, few)
