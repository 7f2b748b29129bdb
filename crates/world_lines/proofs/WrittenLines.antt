-- A line that bytes are read as is written so, where its numbers are in the range of jint.
use Rattle.std.proofs.Common.{◌≡◌, ℕ, Bool, true, false, cond, List, [], ◌∷◌, map, Option, Some, None, refl, sym, ap, ◌∙◌, subst, ◌⊎◌, inl, inr}
use Rattle.std.specs.Prelude.{codes, ◌&&◌, bytes_eq}
use Rattle.std.specs.List.{list_all}
use Rattle.std.proofs.lemmas.Bool.{and_from, and_parts}
use Rattle.std.proofs.lemmas.Slice.Eq.{bytes_eq-Decides}
use Rattle.base.specs.Bytes.{Identifier, is_some_byte}
use Rattle.base.specs.declared.element.ElementType.{ElementType}
use Rattle.base.specs.declared.element.ElementType.TheVariants.{Int as JInt}
use Rattle.world_schedules.specs.Split.{parts_of}
use Rattle.world_lines.specs.ReadingLines.{class_by_words, field_by_words, object_line, object_by_words, array_line, array_by_words, string_by_words, call_by_words, words_by_kind, line_by_words, line_of}
use Rattle.world_lines.specs.ReadingValues.{object_named, values_named, element_named}
use Rattle.world_values.specs.WorldLines.{WorldValue, WorldLine, ClassLine, FieldLine, StaticLine, ObjectLine, ObjectsLine, ArrayLine, StringLine, ThreadLine, CallLine, has_no_space, is_line_word, is_value_word, spaced, at_name, value_text, line_text, IsBareString, IsLineText}
use Rattle.world_values.specs.WorldRules.{value_in_range}
use Rattle.world_lines.proofs.LineWords.{parts_spaced, parts_free, are_words}
use Rattle.world_lines.specs.LineContents.{written_values}
use Rattle.world_lines.proofs.Tests.{mapped}
use Rattle.world_lines.proofs.WrittenValues.{object_written, values_written, element_written}

-- a line of a first word and others, none of them empty
record AreWords (bytes kind : List ℕ) (words : List (List ℕ)) : Type 0 where
  is : bytes ≡ spaced (kind ∷ words)
  are_words : list_all is_line_word words ≡ true
  free : list_all has_no_space words ≡ true

class_written : (bytes : List ℕ) (line : WorldLine) (words : List (List ℕ)) → AreWords bytes (codes "class") words → class_by_words words ≡ Some line → IsLineText bytes line
class_written bytes line [] w h = absurd (cc)
class_written bytes line (name ∷ []) w h =
    let is : ClassLine name None ≡ line = cc in
    subst (IsLineText bytes) is ((and_parts (is_line_word name) true w.are_words).0, inl w.is)
class_written bytes line (name ∷ extends ∷ []) w h = absurd (cc)
class_written bytes line (name ∷ extends ∷ superclass ∷ []) w h = by_test (bytes_eq extends (codes "extends")) refl h
  where
    by_test : (b : Bool) → bytes_eq extends (codes "extends") ≡ b → cond b (Some (ClassLine name (Some superclass))) None ≡ Some line → IsLineText bytes line
    by_test false e k = absurd (cc)
    by_test true e k =
        let is : ClassLine name (Some superclass) ≡ line = cc in
        let a = and_parts (is_line_word name) (list_all is_line_word (extends ∷ superclass ∷ [])) w.are_words in
        let b = and_parts (is_line_word extends) (list_all is_line_word (superclass ∷ [])) a.1 in
        let c = and_parts (is_line_word superclass) true b.1 in
        subst (IsLineText bytes) is (and_from (is_line_word name) (is_line_word superclass) a.0 c.0, inl (w.is ∙ ap (λ word. spaced (codes "class" ∷ name ∷ word ∷ superclass ∷ [])) ((bytes_eq-Decides extends (codes "extends")).0 e)))
class_written bytes line (name ∷ extends ∷ superclass ∷ more ∷ words) w h = absurd (cc)

-- ---- fields

record IsMember (made : Identifier → Identifier → List ℕ → WorldLine) (words : List (List ℕ)) (line : WorldLine) : Type 0 where
  class : Identifier
  name : Identifier
  signature : List ℕ
  are : words ≡ class ∷ name ∷ signature ∷ []
  is : made class name signature ≡ line

member_said : (made : Identifier → Identifier → List ℕ → WorldLine) (words : List (List ℕ)) (line : WorldLine) → field_by_words made words ≡ Some line → IsMember made words line
member_said made [] line h = absurd (cc)
member_said made (class ∷ []) line h = absurd (cc)
member_said made (class ∷ name ∷ []) line h = absurd (cc)
member_said made (class ∷ name ∷ signature ∷ []) line h = record { class = class; name = name; signature = signature; are = refl; is = cc }
member_said made (class ∷ name ∷ signature ∷ more ∷ words) line h = absurd (cc)

field_written : (bytes : List ℕ) (line : WorldLine) (words : List (List ℕ)) → AreWords bytes (codes "field") words → field_by_words FieldLine words ≡ Some line → IsLineText bytes line
field_written bytes line words w h =
    let m = member_said FieldLine words line h in
    subst (IsLineText bytes) m.is (ap (list_all is_line_word) (sym m.are) ∙ w.are_words, inl (w.is ∙ ap (λ ws. spaced (codes "field" ∷ ws)) m.are))

static_written : (bytes : List ℕ) (line : WorldLine) (words : List (List ℕ)) → AreWords bytes (codes "static") words → field_by_words StaticLine words ≡ Some line → IsLineText bytes line
static_written bytes line words w h =
    let m = member_said StaticLine words line h in
    subst (IsLineText bytes) m.is (ap (list_all is_line_word) (sym m.are) ∙ w.are_words, inl (w.is ∙ ap (λ ws. spaced (codes "static" ∷ ws)) m.are))

-- ---- objects

-- what the words of an object's line say, its name first
record IsObject (made : Identifier → List WorldValue → WorldLine) (x : Option Identifier) (values : Option (List WorldValue)) (line : WorldLine) : Type 0 where
  name : Identifier
  named : x ≡ Some name
  vs : List WorldValue
  valued : values ≡ Some vs
  is : made name vs ≡ line

object_said : (made : Identifier → List WorldValue → WorldLine) (x : Option Identifier) (values : Option (List WorldValue)) (line : WorldLine) → object_line made x values ≡ Some line → IsObject made x values line
object_said made None values line h = absurd (cc)
object_said made (Some x) None line h = absurd (cc)
object_said made (Some x) (Some vs) line h = record { name = x; named = refl; vs = vs; valued = refl; is = cc }

-- the words of such a line are those that are written
record AreObjectWords (first word : List ℕ) (words : List (List ℕ)) (x : Identifier) (vs : List WorldValue) : Type 0 where
  texts : first ∷ word ∷ words ≡ at_name x ∷ word ∷ map value_text vs
  name_word : has_no_space x ≡ true
  second_word : is_line_word word ≡ true
  value_words : list_all is_value_word vs ≡ true

object_words : (first word : List ℕ) (words : List (List ℕ)) (x : Identifier) (vs : List WorldValue) → list_all is_line_word (first ∷ word ∷ words) ≡ true → list_all has_no_space (first ∷ word ∷ words) ≡ true → object_named first ≡ Some x → values_named words ≡ Some vs
    → list_all (value_in_range JInt) vs ≡ true → AreObjectWords first word words x vs
object_words first word words x vs are free named valued range =
    let a = and_parts (is_line_word first) (list_all is_line_word (word ∷ words)) are in
    let f = and_parts (has_no_space first) (list_all has_no_space (word ∷ words)) free in
    let v = values_written words vs (and_parts (has_no_space word) (list_all has_no_space words) f.1).1 valued range in
    let text = object_written first x named in
    record {
      texts = ap (λ w. w ∷ word ∷ words) text ∙ ap (λ ws. at_name x ∷ word ∷ ws) v.texts;
      name_word = ap has_no_space (sym text) ∙ f.0;
      second_word = (and_parts (is_line_word word) (list_all is_line_word words) a.1).0;
      value_words = v.are_words;
    }

object_is : (bytes : List ℕ) (line : WorldLine) (words : List (List ℕ)) → AreWords bytes (codes "object") words → object_by_words ObjectLine words ≡ Some line → list_all (value_in_range JInt) (written_values line) ≡ true → IsLineText bytes line
object_is bytes line [] w h range = absurd (cc)
object_is bytes line (first ∷ []) w h range = absurd (cc)
object_is bytes line (first ∷ class ∷ words) w h range =
    let o = object_said (λ name. ObjectLine name class) (object_named first) (values_named words) line h in
    let s = object_words first class words o.name o.vs w.are_words w.free o.named o.valued (ap (λ l. list_all (value_in_range JInt) (written_values l)) o.is ∙ range) in
    subst (IsLineText bytes) o.is
    (and_from (has_no_space o.name && is_line_word class) (list_all is_value_word o.vs) (and_from (has_no_space o.name) (is_line_word class) s.name_word s.second_word) s.value_words, inl (w.is ∙ ap (λ ws. spaced (codes "object" ∷ ws)) s.texts))

objects_is : (bytes : List ℕ) (line : WorldLine) (words : List (List ℕ)) → AreWords bytes (codes "objects") words → object_by_words ObjectsLine words ≡ Some line → list_all (value_in_range JInt) (written_values line) ≡ true → IsLineText bytes line
objects_is bytes line [] w h range = absurd (cc)
objects_is bytes line (first ∷ []) w h range = absurd (cc)
objects_is bytes line (first ∷ class ∷ words) w h range =
    let o = object_said (λ name. ObjectsLine name class) (object_named first) (values_named words) line h in
    let s = object_words first class words o.name o.vs w.are_words w.free o.named o.valued (ap (λ l. list_all (value_in_range JInt) (written_values l)) o.is ∙ range) in
    subst (IsLineText bytes) o.is
    (and_from (has_no_space o.name && is_line_word class) (list_all is_value_word o.vs) (and_from (has_no_space o.name) (is_line_word class) s.name_word s.second_word) s.value_words, inl (w.is ∙ ap (λ ws. spaced (codes "objects" ∷ ws)) s.texts))

array_is : (bytes : List ℕ) (line : WorldLine) (words : List (List ℕ)) → AreWords bytes (codes "array") words → array_by_words words ≡ Some line → list_all (value_in_range JInt) (written_values line) ≡ true → IsLineText bytes line
array_is bytes line [] w h range = absurd (cc)
array_is bytes line (first ∷ []) w h range = absurd (cc)
array_is bytes line (first ∷ letter ∷ words) w h range = by_letter (element_named letter) refl h
  where
    by_letter : (t : Option ElementType) → element_named letter ≡ t → array_line (object_named first) t (values_named words) ≡ Some line → IsLineText bytes line
    by_letter None e k = absurd (cc)
    by_letter (Some t) e k =
        let o = object_said (λ name. ArrayLine name t) (object_named first) (values_named words) line k in
        let s = object_words first letter words o.name o.vs w.are_words w.free o.named o.valued (ap (λ l. list_all (value_in_range JInt) (written_values l)) o.is ∙ range) in
        subst (IsLineText bytes) o.is
        (and_from (has_no_space o.name) (list_all is_value_word o.vs) s.name_word s.value_words, inl (w.is ∙ ap (λ ws. spaced (codes "array" ∷ ws)) s.texts ∙ ap (λ word. spaced (codes "array" ∷ at_name o.name ∷ word ∷ map value_text o.vs)) (element_written letter t e)))

-- a string's text may be several words, or none
string_is : (bytes : List ℕ) (line : WorldLine) (words : List (List ℕ)) → bytes ≡ spaced (codes "string" ∷ words) → list_all has_no_space words ≡ true → string_by_words words ≡ Some line → IsLineText bytes line
string_is bytes line [] e free h = absurd (cc)
string_is bytes line (first ∷ words) e free h =
    let x = mapped (λ name. StringLine name (spaced words)) (object_named first) line h in
    let text = object_written first x.0 x.1 in
    let f = and_parts (has_no_space first) (list_all has_no_space words) free in
    subst (IsLineText bytes) x.2 (ap has_no_space (sym text) ∙ f.0, by_words x.0 words (e ∙ ap (λ w. spaced (codes "string" ∷ w ∷ words)) text))
  where
    by_words : (x : Identifier) (ws : List (List ℕ)) → bytes ≡ spaced (codes "string" ∷ at_name x ∷ ws) → (bytes ≡ line_text (StringLine x (spaced ws))) ⊎ IsBareString (StringLine x (spaced ws)) bytes
    by_words x [] k = inr k
    by_words x (w ∷ ws) k = inl k

-- ---- calls

record IsCall (made : Identifier → List WorldValue → WorldLine) (words : List (List ℕ)) (line : WorldLine) : Type 0 where
  function : Identifier
  vs : List WorldValue
  is : made function vs ≡ line
  texts : words ≡ function ∷ map value_text vs
  word : is_line_word function ≡ true
  value_words : list_all is_value_word vs ≡ true

call_said : (made : Identifier → List WorldValue → WorldLine) (words : List (List ℕ)) (line : WorldLine) → list_all is_line_word words ≡ true → list_all has_no_space words ≡ true → call_by_words made words ≡ Some line
    → ((f : Identifier) (vs : List WorldValue) → made f vs ≡ line → list_all (value_in_range JInt) vs ≡ true) → IsCall made words line
call_said made [] line are free h range = absurd (cc)
call_said made (function ∷ words) line are free h range =
    let vs = mapped (made function) (values_named words) line h in
    let a = and_parts (is_line_word function) (list_all is_line_word words) are in
    let f = and_parts (has_no_space function) (list_all has_no_space words) free in
    let v = values_written words vs.0 f.1 vs.1 (range function vs.0 vs.2) in
    record { function = function; vs = vs.0; is = vs.2; texts = ap (λ ws. function ∷ ws) v.texts; word = a.0; value_words = v.are_words }

thread_is : (bytes : List ℕ) (line : WorldLine) (words : List (List ℕ)) → AreWords bytes (codes "thread") words → call_by_words ThreadLine words ≡ Some line → list_all (value_in_range JInt) (written_values line) ≡ true → IsLineText bytes line
thread_is bytes line words w h range =
    let c = call_said ThreadLine words line w.are_words w.free h (λ f vs is. ap (λ l. list_all (value_in_range JInt) (written_values l)) is ∙ range) in
    subst (IsLineText bytes) c.is (and_from (is_line_word c.function) (list_all is_value_word c.vs) c.word c.value_words, inl (w.is ∙ ap (λ ws. spaced (codes "thread" ∷ ws)) c.texts))

call_is : (bytes : List ℕ) (line : WorldLine) (words : List (List ℕ)) → AreWords bytes (codes "call") words → call_by_words CallLine words ≡ Some line → list_all (value_in_range JInt) (written_values line) ≡ true → IsLineText bytes line
call_is bytes line words w h range =
    let c = call_said CallLine words line w.are_words w.free h (λ f vs is. ap (λ l. list_all (value_in_range JInt) (written_values l)) is ∙ range) in
    subst (IsLineText bytes) c.is (and_from (is_line_word c.function) (list_all is_value_word c.vs) c.word c.value_words, inl (w.is ∙ ap (λ ws. spaced (codes "call" ∷ ws)) c.texts))

-- ---- any line

module _ (bytes : List ℕ) (line : WorldLine) (range : list_all (value_in_range JInt) (written_values line) ≡ true) (kind : List ℕ) (words : List (List ℕ)) (w : AreWords bytes kind words) where
  begun : (first : List ℕ) → bytes_eq kind first ≡ true → AreWords bytes first words
  begun first e = record { is = w.is ∙ ap (λ k. spaced (k ∷ words)) ((bytes_eq-Decides kind first).0 e); are_words = w.are_words; free = w.free }

  kind_written : words_by_kind kind words ≡ Some line → IsLineText bytes line
  kind_written h = by_kind (bytes_eq kind (codes "class")) (bytes_eq kind (codes "field")) (bytes_eq kind (codes "static")) (bytes_eq kind (codes "object")) (bytes_eq kind (codes "objects")) (bytes_eq kind (codes "array")) (bytes_eq kind (codes "thread"))
      (bytes_eq kind (codes "call")) refl refl refl refl refl refl refl refl h
    where
      by_kind : (c f s o os a t k : Bool) → bytes_eq kind (codes "class") ≡ c → bytes_eq kind (codes "field") ≡ f → bytes_eq kind (codes "static") ≡ s → bytes_eq kind (codes "object") ≡ o → bytes_eq kind (codes "objects") ≡ os
          → bytes_eq kind (codes "array") ≡ a → bytes_eq kind (codes "thread") ≡ t → bytes_eq kind (codes "call") ≡ k
          → cond c (class_by_words words) (cond f (field_by_words FieldLine words) (cond s (field_by_words StaticLine words) (cond o (object_by_words ObjectLine words) (cond os (object_by_words ObjectsLine words)
          (cond a (array_by_words words) (cond t (call_by_words ThreadLine words) (cond k (call_by_words CallLine words) None))))))) ≡ Some line → IsLineText bytes line
      by_kind true f s o os a t k e1 e2 e3 e4 e5 e6 e7 e8 h = class_written bytes line words (begun (codes "class") e1) h
      by_kind false true s o os a t k e1 e2 e3 e4 e5 e6 e7 e8 h = field_written bytes line words (begun (codes "field") e2) h
      by_kind false false true o os a t k e1 e2 e3 e4 e5 e6 e7 e8 h = static_written bytes line words (begun (codes "static") e3) h
      by_kind false false false true os a t k e1 e2 e3 e4 e5 e6 e7 e8 h = object_is bytes line words (begun (codes "object") e4) h range
      by_kind false false false false true a t k e1 e2 e3 e4 e5 e6 e7 e8 h = objects_is bytes line words (begun (codes "objects") e5) h range
      by_kind false false false false false true t k e1 e2 e3 e4 e5 e6 e7 e8 h = array_is bytes line words (begun (codes "array") e6) h range
      by_kind false false false false false false true k e1 e2 e3 e4 e5 e6 e7 e8 h = thread_is bytes line words (begun (codes "thread") e7) h range
      by_kind false false false false false false false true e1 e2 e3 e4 e5 e6 e7 e8 h = call_is bytes line words (begun (codes "call") e8) h range
      by_kind false false false false false false false false e1 e2 e3 e4 e5 e6 e7 e8 h = absurd (cc)

-- what bytes are read as is what they say
pub line_is_written : (bytes : List ℕ) (line : WorldLine) → line_of bytes ≡ Some line → list_all (value_in_range JInt) (written_values line) ≡ true → IsLineText bytes line
unfolding line_of
line_is_written bytes line h range = by_parts (parts_of 32 bytes) (sym (parts_spaced bytes)) (parts_free bytes) h
  where
    by_parts : (parts : List (List ℕ)) → bytes ≡ spaced parts → list_all has_no_space parts ≡ true → line_by_words parts ≡ Some line → IsLineText bytes line
    by_parts [] e free k = absurd (cc)
    by_parts (kind ∷ words) e free k = by_tests (bytes_eq kind (codes "string")) (list_all is_some_byte words) refl refl k
      where
        free_words : list_all has_no_space words ≡ true
        free_words = (and_parts (has_no_space kind) (list_all has_no_space words) free).1

        by_tests : (a b : Bool) → bytes_eq kind (codes "string") ≡ a → list_all is_some_byte words ≡ b → cond a (string_by_words words) (cond b (words_by_kind kind words) None) ≡ Some line → IsLineText bytes line
        by_tests true b p q j = string_is bytes line words (e ∙ ap (λ first. spaced (first ∷ words)) ((bytes_eq-Decides kind (codes "string")).0 p)) free_words j
        by_tests false false p q j = absurd (cc)
        by_tests false true p q j = kind_written bytes line range kind words (record { is = e; are_words = are_words words q free_words; free = free_words }) j
