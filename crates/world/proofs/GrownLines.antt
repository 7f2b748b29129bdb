-- What one more line changes, where it is in its order: objects that are defined and values that are known keep their meaning.
use Rattle.std.proofs.Common.{◌≡◌, ℕ, suc, ◌+◌, Bool, true, false, cond, List, [], ◌∷◌, ◌++◌, length, map, fold, Option, Some, None, refl, sym, ap, ◌∙◌, ◌⊎◌, inl, inr}
use Rattle.std.specs.Prelude.{not, ◌&&◌, ◌||◌, filter_map, is_some, position, bytes_eq}
use Rattle.std.specs.Option.{option_map, option_to_list}
use Rattle.std.specs.List.{list_all, list_any}
use Rattle.std.proofs.lemmas.Bool.{and_from, and_parts}
use Rattle.std.proofs.lemmas.List.Elements.{filter_map-append}
use Rattle.std.proofs.lemmas.List.Folds.{list_all-append}
use Rattle.std.proofs.lemmas.List.Sums.{fold-append}
use Rattle.base.specs.Bytes.{Identifier, ByName, lookup}
use Rattle.class_rules.specs.BuiltIns.{built_ins}
use Rattle.class_rules.specs.Class.{Classes, class_named}
use Rattle.class_rules.proofs.Unescaping.{some_of}
use Rattle.semantics.specs.Object.{Object, Refers}
use Rattle.semantics.specs.World.{Invocation}
use Rattle.world_values.specs.declared.part.Part.{Part}
use Rattle.world_values.specs.declared.part.Part.TheVariants as parts
use Rattle.world_values.specs.WorldLines.{WorldValue, NumberValue, NullValue, NamedObject, NamedClass, WorldLine, MethodsLine, ClassLine, FieldLine, StaticLine, ObjectLine, ObjectsLine, ArrayLine, StringLine, ThreadLine, CallLine, Lines}
use Rattle.world_values.specs.WorldMeaning.{table_with, table_of, object_defined, objects_defined, class_of_object, object_number, value_of, values_of_line, object_of, with_last, threads_with, threads_of}
use Rattle.world_values.specs.WorldRules.{part_of, is_no_later, is_thread_line, is_call_line, is_in_order, is_known_value}
use Rattle.world.proofs.Places.{found, position-found, kept_place}
use Rattle.classes.proofs.Places.{same_bytes}

-- the objects that lines make
abbrev pub objects_of : Lines → List Object
objects_of lines = filter_map (λ (l : ℕ × WorldLine). object_of lines l.1) lines

-- ---- parts

pub no_later-trans : (p q r : Part) → is_no_later p q ≡ true → is_no_later q r ≡ true → is_no_later p r ≡ true
no_later-trans parts.Classes q r h k = refl
no_later-trans parts.Objects parts.Classes r h k = absurd (let no : false ≡ true = h in cc)
no_later-trans parts.Objects parts.Objects r h k = k
no_later-trans parts.Objects parts.Threads parts.Classes h k = absurd (let no : false ≡ true = k in cc)
no_later-trans parts.Objects parts.Threads parts.Objects h k = absurd (let no : false ≡ true = k in cc)
no_later-trans parts.Objects parts.Threads parts.Threads h k = refl
no_later-trans parts.Threads parts.Classes r h k = absurd (let no : false ≡ true = h in cc)
no_later-trans parts.Threads parts.Objects r h k = absurd (let no : false ≡ true = h in cc)
no_later-trans parts.Threads parts.Threads r h k = k

-- no line of a later part
abbrev pub are_within : Part → Lines → Bool
are_within part lines = list_all (λ (l : ℕ × WorldLine). is_no_later (part_of l.1) part) lines

-- the lines before a line that is in its order
pub earlier_within : (earlier : Lines) (line : WorldLine) → is_in_order earlier line ≡ true → are_within (part_of line) earlier ≡ true
earlier_within earlier line h = (and_parts (are_within (part_of line) earlier) (not (is_call_line line) || list_any (λ (l : ℕ × WorldLine). is_thread_line l.1) earlier) h).0

within_more : (p q : Part) → is_no_later p q ≡ true → (lines : Lines) → are_within p lines ≡ true → are_within q lines ≡ true
within_more p q le [] h = refl
within_more p q le (l ∷ lines) h =
    let b = and_parts (is_no_later (part_of l.1) p) (are_within p lines) h in
    and_from (is_no_later (part_of l.1) q) (are_within q lines) (no_later-trans (part_of l.1) p q b.0 le) (within_more p q le lines b.1)

-- a line of a later part than the first
abbrev pub IsAfterClasses : WorldLine → Type 0
IsAfterClasses line = is_no_later (part_of line) parts.Classes ≡ false

-- a line of the first part, or of a later one
pub first_or_later : (line : WorldLine) → (part_of line ≡ parts.Classes) ⊎ IsAfterClasses line
first_or_later MethodsLine = inl refl
first_or_later (ClassLine name superclass) = inl refl
first_or_later (FieldLine class name signature) = inl refl
first_or_later (StaticLine class name signature) = inl refl
first_or_later (ObjectLine x class values) = inr refl
first_or_later (ObjectsLine x class values) = inr refl
first_or_later (ArrayLine x t values) = inr refl
first_or_later (StringLine x text) = inr refl
first_or_later (ThreadLine function arguments) = inr refl
first_or_later (CallLine function arguments) = inr refl

-- a line of a part before that of threads
abbrev pub IsBeforeThreads : WorldLine → Type 0
IsBeforeThreads line = is_no_later (part_of line) parts.Objects ≡ true

-- such a line, or one of a thread
pub before_or_thread : (line : WorldLine) → IsBeforeThreads line ⊎ (part_of line ≡ parts.Threads)
before_or_thread MethodsLine = inl refl
before_or_thread (ClassLine name superclass) = inl refl
before_or_thread (FieldLine class name signature) = inl refl
before_or_thread (StaticLine class name signature) = inl refl
before_or_thread (ObjectLine x class values) = inl refl
before_or_thread (ObjectsLine x class values) = inl refl
before_or_thread (ArrayLine x t values) = inl refl
before_or_thread (StringLine x text) = inl refl
before_or_thread (ThreadLine function arguments) = inr refl
before_or_thread (CallLine function arguments) = inr refl

-- ---- what a line of a part defines

no_object : (T : Classes) (line : WorldLine) → is_no_later (part_of line) parts.Classes ≡ true → object_defined T line ≡ None
no_object T MethodsLine h = refl
no_object T (ClassLine name superclass) h = refl
no_object T (FieldLine class name signature) h = refl
no_object T (StaticLine class name signature) h = refl
no_object T (ObjectLine x class values) h = absurd (let no : false ≡ true = h in cc)
no_object T (ObjectsLine x class values) h = absurd (let no : false ≡ true = h in cc)
no_object T (ArrayLine x t values) h = absurd (let no : false ≡ true = h in cc)
no_object T (StringLine x text) h = absurd (let no : false ≡ true = h in cc)
no_object T (ThreadLine function arguments) h = refl
no_object T (CallLine function arguments) h = refl

-- the lines of threads define none either
pub thread_no_object : (T : Classes) (line : WorldLine) → part_of line ≡ parts.Threads → object_defined T line ≡ None
thread_no_object T MethodsLine h = refl
thread_no_object T (ClassLine name superclass) h = refl
thread_no_object T (FieldLine class name signature) h = refl
thread_no_object T (StaticLine class name signature) h = refl
thread_no_object T (ObjectLine x class values) h = absurd (let no : parts.Objects ≡ parts.Threads = h in cc)
thread_no_object T (ObjectsLine x class values) h = absurd (let no : parts.Objects ≡ parts.Threads = h in cc)
thread_no_object T (ArrayLine x t values) h = absurd (let no : parts.Objects ≡ parts.Threads = h in cc)
thread_no_object T (StringLine x text) h = absurd (let no : parts.Objects ≡ parts.Threads = h in cc)
thread_no_object T (ThreadLine function arguments) h = refl
thread_no_object T (CallLine function arguments) h = refl

no_value : (line : WorldLine) → is_no_later (part_of line) parts.Classes ≡ true → values_of_line line ≡ []
no_value MethodsLine h = refl
no_value (ClassLine name superclass) h = refl
no_value (FieldLine class name signature) h = refl
no_value (StaticLine class name signature) h = refl
no_value (ObjectLine x class values) h = absurd (let no : false ≡ true = h in cc)
no_value (ObjectsLine x class values) h = absurd (let no : false ≡ true = h in cc)
no_value (ArrayLine x t values) h = absurd (let no : false ≡ true = h in cc)
no_value (StringLine x text) h = absurd (let no : false ≡ true = h in cc)
no_value (ThreadLine function arguments) h = absurd (let no : false ≡ true = h in cc)
no_value (CallLine function arguments) h = absurd (let no : false ≡ true = h in cc)

pub no_thread : (L : Lines) (threads : List (List Invocation)) (n : ℕ) (line : WorldLine) → is_no_later (part_of line) parts.Objects ≡ true → threads_with L threads (n, line) ≡ threads
no_thread L threads n MethodsLine h = refl
no_thread L threads n (ClassLine name superclass) h = refl
no_thread L threads n (FieldLine class name signature) h = refl
no_thread L threads n (StaticLine class name signature) h = refl
no_thread L threads n (ObjectLine x class values) h = refl
no_thread L threads n (ObjectsLine x class values) h = refl
no_thread L threads n (ArrayLine x t values) h = refl
no_thread L threads n (StringLine x text) h = refl
no_thread L threads n (ThreadLine function arguments) h = absurd (let no : false ≡ true = h in cc)
no_thread L threads n (CallLine function arguments) h = absurd (let no : false ≡ true = h in cc)

same_classes : (T : Classes) (line : WorldLine) → IsAfterClasses line → table_with T line ≡ T
same_classes T MethodsLine h = absurd (let no : true ≡ false = h in cc)
same_classes T (ClassLine name superclass) h = absurd (let no : true ≡ false = h in cc)
same_classes T (FieldLine class name signature) h = absurd (let no : true ≡ false = h in cc)
same_classes T (StaticLine class name signature) h = absurd (let no : true ≡ false = h in cc)
same_classes T (ObjectLine x class values) h = refl
same_classes T (ObjectsLine x class values) h = refl
same_classes T (ArrayLine x t values) h = refl
same_classes T (StringLine x text) h = refl
same_classes T (ThreadLine function arguments) h = refl
same_classes T (CallLine function arguments) h = refl

-- ---- lines of the first parts

filter_map-none : {X Y : Type 0} (f : X → Option Y) (x : X) (xs : List X) → f x ≡ None → filter_map f (x ∷ xs) ≡ filter_map f xs
filter_map-none f x xs h = rw h refl

filter_map-one : {X Y : Type 0} (f : X → Option Y) (x : X) → filter_map f (x ∷ []) ≡ option_to_list (f x)
filter_map-one f x = by_value (f x) refl
  where
    by_value : (o : Option _) → f x ≡ o → filter_map f (x ∷ []) ≡ option_to_list o
    by_value None h = rw h refl
    by_value (Some y) h = rw h refl

filter_map-both : {X Y : Type 0} (f g : X → Option Y) (x : X) (xs : List X) → f x ≡ g x → filter_map f xs ≡ filter_map g xs → filter_map f (x ∷ xs) ≡ filter_map g (x ∷ xs)
filter_map-both f g x xs h k = by_value (f x) (g x) refl refl h
  where
    by_value : (o p : Option _) → f x ≡ o → g x ≡ p → o ≡ p → filter_map f (x ∷ xs) ≡ filter_map g (x ∷ xs)
    by_value None None a b e = rw (a, b) k
    by_value None (Some z) a b e = absurd (cc)
    by_value (Some y) None a b e = absurd (cc)
    by_value (Some y) (Some z) a b e = let same : y ≡ z = cc in rw (a, b, k, same) refl

pub no_objects_defined : (T : Classes) (lines : Lines) → are_within parts.Classes lines ≡ true → filter_map (λ (l : ℕ × WorldLine). object_defined T l.1) lines ≡ []
no_objects_defined T [] h = refl
no_objects_defined T (l ∷ lines) h =
    let b = and_parts (is_no_later (part_of l.1) parts.Classes) (are_within parts.Classes lines) h in
    filter_map-none (λ (k : ℕ × WorldLine). object_defined T k.1) l lines (no_object T l.1 b.0) ∙ no_objects_defined T lines b.1

pub no_objects_made : (L lines : Lines) → are_within parts.Classes lines ≡ true → filter_map (λ (l : ℕ × WorldLine). object_of L l.1) lines ≡ []
no_objects_made L [] h = refl
no_objects_made L (l ∷ lines) h =
    let b = and_parts (is_no_later (part_of l.1) parts.Classes) (are_within parts.Classes lines) h in
    let made : Identifier × ℕ → Object = λ o. record { class = o.1; values = map (value_of L) (values_of_line l.1) } in
    filter_map-none (λ (k : ℕ × WorldLine). object_of L k.1) l lines (ap (option_map made) (no_object (table_of L) l.1 b.0)) ∙ no_objects_made L lines b.1

pub no_threads_in : (L : Lines) (threads : List (List Invocation)) (lines : Lines) → are_within parts.Objects lines ≡ true → fold (threads_with L) threads lines ≡ threads
no_threads_in L threads [] h = refl
no_threads_in L threads ((n, line) ∷ lines) h =
    let b = and_parts (is_no_later (part_of line) parts.Objects) (are_within parts.Objects lines) h in
    ap (λ ts. fold (threads_with L) ts lines) (no_thread L threads n line b.0) ∙ no_threads_in L threads lines b.1

-- ---- values that are known

-- each value of these lines is known
abbrev pub values_known : Lines → Lines → Bool
values_known L lines = list_all (λ (l : ℕ × WorldLine). list_all (is_known_value L) (values_of_line l.1)) lines

-- lines whose values are all of the objects and classes that they define
abbrev pub are_known : Lines → Bool
are_known lines = values_known lines lines

no_values_known : (L lines : Lines) → are_within parts.Classes lines ≡ true → values_known L lines ≡ true
no_values_known L [] h = refl
no_values_known L (l ∷ lines) h =
    let b = and_parts (is_no_later (part_of l.1) parts.Classes) (are_within parts.Classes lines) h in
    and_from (list_all (is_known_value L) (values_of_line l.1)) (values_known L lines) (ap (list_all (is_known_value L)) (no_value l.1 b.0)) (no_values_known L lines b.1)

-- ---- names of objects

-- whether an object has this name
abbrev pub is_called : Identifier → Identifier × ℕ → Bool
is_called x o = bytes_eq o.0 x

pub lookup-append : (x : Identifier) (os more : ByName ℕ) (c : ℕ) → lookup x os ≡ Some c → lookup x (os ++ more) ≡ Some c
lookup-append x [] more c h = absurd (cc)
lookup-append x ((y, v) ∷ os) more c h = by_test (bytes_eq x y) h (lookup-append x os more c)
  where
    by_test : (b : Bool) → cond b (Some v) (lookup x os) ≡ Some c → (lookup x os ≡ Some c → lookup x (os ++ more) ≡ Some c) → cond b (Some v) (lookup x (os ++ more)) ≡ Some c
    by_test true e further = e
    by_test false e further = further e

-- an object that can be looked up has a place
placed : (x : Identifier) (os : ByName ℕ) → is_some (lookup x os) ≡ true → is_some (found (is_called x) os) ≡ true
placed x [] h = absurd (cc)
placed x ((y, v) ∷ os) h = by_test (bytes_eq x y) (sym (same_bytes x y)) h (placed x os)
  where
    further : (o : Option ℕ) → is_some o ≡ true → is_some (option_map (λ (i : ℕ). suc i) o) ≡ true
    further None e = e
    further (Some i) e = refl

    by_test : (b : Bool) → bytes_eq y x ≡ b → is_some (cond b (Some v) (lookup x os)) ≡ true → (is_some (lookup x os) ≡ true → is_some (found (is_called x) os) ≡ true)
        → is_some (cond (bytes_eq y x) (Some 0) (option_map (λ (i : ℕ). suc i) (found (is_called x) os))) ≡ true
    by_test true e k rest = ap (λ b. is_some (cond b (Some 0) (option_map (λ (i : ℕ). suc i) (found (is_called x) os)))) e
    by_test false e k rest = ap (λ b. is_some (cond b (Some 0) (option_map (λ (i : ℕ). suc i) (found (is_called x) os)))) e ∙ further (found (is_called x) os) (rest k)

pub position-kept : (x : Identifier) (os more : ByName ℕ) → is_some (lookup x os) ≡ true → position (is_called x) (os ++ more) ≡ position (is_called x) os
position-kept x os more h =
    let i = some_of (found (is_called x) os) (placed x os h) in
    position-found (is_called x) (os ++ more) ∙ kept_place (is_called x) os more i.0 i.1 ∙ sym i.1 ∙ sym (position-found (is_called x) os)

-- ---- one more line, in its order

module _ (earlier : Lines) (n : ℕ) (line : WorldLine) where
  -- the lines with it
  abbrev next : Lines
  next = earlier ++ (n, line) ∷ []

  -- the classes grow by what the line says
  pub table_grows : table_of next ≡ table_with (table_of earlier) line
  table_grows = fold-append (λ (classes : Classes) (l : ℕ × WorldLine). table_with classes l.1) built_ins earlier ((n, line) ∷ [])

  -- after the class lines they stay
  pub table_stays : IsAfterClasses line → table_of next ≡ table_of earlier
  table_stays later = table_grows ∙ same_classes (table_of earlier) line later

  module _ (ordered : is_in_order earlier line ≡ true) where
    -- before class and field lines there are only such
    pub first_lines : part_of line ≡ parts.Classes → are_within parts.Classes earlier ≡ true
    first_lines p = ap (λ part. are_within part earlier) (sym p) ∙ earlier_within earlier line ordered

    pub first_lines_next : part_of line ≡ parts.Classes → are_within parts.Classes next ≡ true
    first_lines_next p =
        let own : is_no_later (part_of line) parts.Classes ≡ true = ap (λ part. is_no_later part parts.Classes) p in
        list_all-append (λ (l : ℕ × WorldLine). is_no_later (part_of l.1) parts.Classes) earlier ((n, line) ∷ []) ∙ and_from (are_within parts.Classes earlier) (is_no_later (part_of line) parts.Classes && true) (first_lines p) (and_from (is_no_later (part_of line) parts.Classes) true own refl)

    -- the objects that are defined, by name
    pub defined_grow : objects_defined next ≡ objects_defined earlier ++ option_to_list (object_defined (table_of earlier) line)
    defined_grow = by_part (first_or_later line)
      where
        by_part : (part_of line ≡ parts.Classes) ⊎ IsAfterClasses line → objects_defined next ≡ objects_defined earlier ++ option_to_list (object_defined (table_of earlier) line)
        by_part (inl p) =
            let own : is_no_later (part_of line) parts.Classes ≡ true = ap (λ part. is_no_later part parts.Classes) p in
            no_objects_defined (table_of next) next (first_lines_next p)
            ∙ ap (λ o. [] ++ option_to_list o) (sym (no_object (table_of earlier) line own))
            ∙ ap (λ (os : ByName ℕ). os ++ option_to_list (object_defined (table_of earlier) line)) (sym (no_objects_defined (table_of earlier) earlier (first_lines p)))
        by_part (inr p) =
            ap (λ T. filter_map (λ (l : ℕ × WorldLine). object_defined T l.1) next) (table_stays p)
            ∙ filter_map-append (λ (l : ℕ × WorldLine). object_defined (table_of earlier) l.1) earlier ((n, line) ∷ [])
            ∙ ap (λ os. objects_defined earlier ++ os) (filter_map-one (λ (l : ℕ × WorldLine). object_defined (table_of earlier) l.1) (n, line))

    -- an object keeps its class
    pub class_kept : (x : Identifier) (c : ℕ) → class_of_object earlier x ≡ Some c → class_of_object next x ≡ Some c
    class_kept x c h = ap (lookup x) defined_grow ∙ lookup-append x (objects_defined earlier) (option_to_list (object_defined (table_of earlier) line)) c h

    module _ (later : IsAfterClasses line) where
      -- after the class lines a known object keeps its number
      pub number_kept : (x : Identifier) → is_some (class_of_object earlier x) ≡ true → object_number next x ≡ object_number earlier x
      number_kept x h =
          ap (λ (T : Classes). option_map (λ i. length T + 2 + i) (position (is_called x) (objects_defined next))) (table_stays later)
          ∙ ap (option_map (λ i. length (table_of earlier) + 2 + i)) (ap (position (is_called x)) defined_grow ∙ position-kept x (objects_defined earlier) (option_to_list (object_defined (table_of earlier) line)) h)

      pub known_kept : (v : WorldValue) → is_known_value earlier v ≡ true → is_known_value next v ≡ true
      known_kept (NumberValue z) h = refl
      known_kept NullValue h = refl
      known_kept (NamedObject x) h = let c = some_of (class_of_object earlier x) h in ap is_some (class_kept x c.0 c.1)
      known_kept (NamedClass name) h = ap (λ (T : Classes). is_some (class_named T name)) (table_stays later) ∙ h

      -- a known value keeps its meaning
      pub value_kept : (v : WorldValue) → is_known_value earlier v ≡ true → value_of next v ≡ value_of earlier v
      value_kept (NumberValue z) h = refl
      value_kept NullValue h = refl
      value_kept (NamedObject x) h = ap Refers (number_kept x h)
      value_kept (NamedClass name) h = ap (λ (T : Classes). Refers (class_named T name)) (table_stays later)

      pub values_kept : (vs : List WorldValue) → list_all (is_known_value earlier) vs ≡ true → map (value_of next) vs ≡ map (value_of earlier) vs
      values_kept [] h = refl
      values_kept (v ∷ vs) h =
          let b = and_parts (is_known_value earlier v) (list_all (is_known_value earlier) vs) h in
          (λ i. value_kept v b.0 i ∷ values_kept vs b.1 i)

      pub all_known_kept : (vs : List WorldValue) → list_all (is_known_value earlier) vs ≡ true → list_all (is_known_value next) vs ≡ true
      all_known_kept [] h = refl
      all_known_kept (v ∷ vs) h =
          let b = and_parts (is_known_value earlier v) (list_all (is_known_value earlier) vs) h in
          and_from (is_known_value next v) (list_all (is_known_value next) vs) (known_kept v b.0) (all_known_kept vs b.1)

      lines_known_kept : (lines : Lines) → values_known earlier lines ≡ true → values_known next lines ≡ true
      lines_known_kept [] h = refl
      lines_known_kept (l ∷ lines) h =
          let b = and_parts (list_all (is_known_value earlier) (values_of_line l.1)) (values_known earlier lines) h in
          and_from (list_all (is_known_value next) (values_of_line l.1)) (values_known next lines) (all_known_kept (values_of_line l.1) b.0) (lines_known_kept lines b.1)

      -- what a line of known values makes
      pub object_kept : (l : WorldLine) → list_all (is_known_value earlier) (values_of_line l) ≡ true → object_of next l ≡ object_of earlier l
      object_kept l h =
          ap (λ (T : Classes). option_map (λ (o : Identifier × ℕ). record { class = o.1; values = map (value_of next) (values_of_line l) }) (object_defined T l)) (table_stays later)
          ∙ ap (λ vs. option_map (λ (o : Identifier × ℕ). record { class = o.1; values = vs }) (object_defined (table_of earlier) l)) (values_kept (values_of_line l) h)

      objects_kept : (lines : Lines) → values_known earlier lines ≡ true → filter_map (λ (l : ℕ × WorldLine). object_of next l.1) lines ≡ filter_map (λ (l : ℕ × WorldLine). object_of earlier l.1) lines
      objects_kept [] h = refl
      objects_kept (l ∷ lines) h =
          let b = and_parts (list_all (is_known_value earlier) (values_of_line l.1)) (values_known earlier lines) h in
          filter_map-both (λ (k : ℕ × WorldLine). object_of next k.1) (λ (k : ℕ × WorldLine). object_of earlier k.1) l lines (object_kept l.1 b.0) (objects_kept lines b.1)

      -- what a thread or call line of known values adds
      pub thread_kept : (threads : List (List Invocation)) (m : ℕ) (l : WorldLine) → list_all (is_known_value earlier) (values_of_line l) ≡ true → threads_with next threads (m, l) ≡ threads_with earlier threads (m, l)
      thread_kept threads m MethodsLine h = refl
      thread_kept threads m (ClassLine name superclass) h = refl
      thread_kept threads m (FieldLine class name signature) h = refl
      thread_kept threads m (StaticLine class name signature) h = refl
      thread_kept threads m (ObjectLine x class values) h = refl
      thread_kept threads m (ObjectsLine x class values) h = refl
      thread_kept threads m (ArrayLine x t values) h = refl
      thread_kept threads m (StringLine x text) h = refl
      thread_kept threads m (ThreadLine function arguments) h = ap (λ vs. threads ++ ((record { line = m; function = function; arguments = vs }) ∷ []) ∷ []) (values_kept arguments h)
      thread_kept threads m (CallLine function arguments) h = ap (λ vs. with_last (record { line = m; function = function; arguments = vs }) threads) (values_kept arguments h)

      threads_kept : (threads : List (List Invocation)) (lines : Lines) → values_known earlier lines ≡ true → fold (threads_with next) threads lines ≡ fold (threads_with earlier) threads lines
      threads_kept threads [] h = refl
      threads_kept threads ((m, l) ∷ lines) h =
          let b = and_parts (list_all (is_known_value earlier) (values_of_line l)) (values_known earlier lines) h in
          ap (λ ts. fold (threads_with next) ts lines) (thread_kept threads m l b.0) ∙ threads_kept (threads_with earlier threads (m, l)) lines b.1

    module _ (known : are_known earlier ≡ true) (own : list_all (is_known_value earlier) (values_of_line line) ≡ true) where
      -- all values are still known
      pub known_grow : are_known next ≡ true
      known_grow = by_part (first_or_later line)
        where
          by_part : (part_of line ≡ parts.Classes) ⊎ IsAfterClasses line → are_known next ≡ true
          by_part (inl p) = no_values_known next next (first_lines_next p)
          by_part (inr p) =
              list_all-append (λ (l : ℕ × WorldLine). list_all (is_known_value next) (values_of_line l.1)) earlier ((n, line) ∷ [])
              ∙ and_from (values_known next earlier) (list_all (is_known_value next) (values_of_line line) && true) (lines_known_kept p earlier known)
              (and_from (list_all (is_known_value next) (values_of_line line)) true (all_known_kept p (values_of_line line) own) refl)

      -- the objects that are made
      pub objects_grow : objects_of next ≡ objects_of earlier ++ option_to_list (object_of earlier line)
      objects_grow = by_part (first_or_later line)
        where
          by_part : (part_of line ≡ parts.Classes) ⊎ IsAfterClasses line → objects_of next ≡ objects_of earlier ++ option_to_list (object_of earlier line)
          by_part (inl p) =
              let none = no_object (table_of earlier) line (ap (λ part. is_no_later part parts.Classes) p) in
              let made : Identifier × ℕ → Object = λ o. record { class = o.1; values = map (value_of earlier) (values_of_line line) } in
              no_objects_made next next (first_lines_next p)
              ∙ ap (λ o. [] ++ option_to_list (option_map made o)) (sym none)
              ∙ ap (λ (os : List Object). os ++ option_to_list (object_of earlier line)) (sym (no_objects_made earlier earlier (first_lines p)))
          by_part (inr p) =
              filter_map-append (λ (l : ℕ × WorldLine). object_of next l.1) earlier ((n, line) ∷ [])
              ∙ ap (λ os. os ++ filter_map (λ (l : ℕ × WorldLine). object_of next l.1) ((n, line) ∷ [])) (objects_kept p earlier known)
              ∙ ap (λ os. objects_of earlier ++ os) (filter_map-one (λ (l : ℕ × WorldLine). object_of next l.1) (n, line) ∙ ap option_to_list (object_kept p line own))

      -- the threads
      pub threads_grow : threads_of next ≡ threads_with earlier (threads_of earlier) (n, line)
      threads_grow = fold-append (threads_with next) [] earlier ((n, line) ∷ []) ∙ by_part (before_or_thread line)
        where
          by_part : IsBeforeThreads line ⊎ (part_of line ≡ parts.Threads) → threads_with next (fold (threads_with next) [] earlier) (n, line) ≡ threads_with earlier (threads_of earlier) (n, line)
          by_part (inl p) =
              let before = within_more (part_of line) parts.Objects p earlier (earlier_within earlier line ordered) in
              no_thread next _ n line p ∙ no_threads_in next [] earlier before ∙ sym (no_threads_in earlier [] earlier before) ∙ sym (no_thread earlier _ n line p)
          by_part (inr p) =
              let later : IsAfterClasses line = ap (λ part. is_no_later part parts.Classes) p in
              ap (λ ts. threads_with next ts (n, line)) (threads_kept later [] earlier known) ∙ thread_kept later (threads_of earlier) n line own

      -- before the lines of threads there is none
      pub no_threads : IsBeforeThreads line → threads_of earlier ≡ []
      no_threads p = no_threads_in earlier [] earlier (within_more (part_of line) parts.Objects p earlier (earlier_within earlier line ordered))
