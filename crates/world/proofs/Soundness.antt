-- Lines that keep the rules, each after those before it, define a sound world.
use Rattle.std.proofs.Common.{◌≡◌, ℕ, ◌+◌, ◌≤◌, Bool, true, false, List, [], ◌∷◌, ◌++◌, length, map, Option, Some, None, refl, sym, ap, ◌∙◌, subst, arith, append_assoc, append-nil, ◌⊎◌, inl, inr}
use Rattle.std.specs.Prelude.{◌&&◌, ◌||◌, codes}
use Rattle.std.specs.Option.{option_map, option_to_list}
use Rattle.std.specs.List.{list_all}
use Rattle.std.proofs.lemmas.Bool.{and_from, and_parts, le-leb}
use Rattle.std.proofs.lemmas.List.Folds.{list_all-append, list_any-append}
use Rattle.std.proofs.lemmas.List.{length-map}
use Rattle.base.specs.Bytes.{Identifier}
use Rattle.base.specs.declared.element.ElementType.TheVariants.{Int as JInt}
use Rattle.class_rules.specs.declared.rule.ClassRule.{ClassRule}
use Rattle.class_rules.specs.declared.rule.ClassRule.TheVariants.{NameTaken, BadSuperclass, BadSignature, TooMany}
use Rattle.class_rules.specs.Additions.{new_class, with_methods}
use Rattle.class_rules.specs.BuiltIns.{built_ins, incompatible_class_change_error, no_such_method_error, out_of_memory_error}
use Rattle.class_rules.specs.Class.{Classes, class_at}
use Rattle.class_rules.specs.Grown.{HasMethodError}
use Rattle.semantics.specs.Object.{Object, sizes}
use Rattle.semantics.specs.Reachable.{loaded_count}
use Rattle.semantics.specs.World.{Invocation, class_objects, fresh_object, made_before}
use Rattle.world_values.specs.CallArguments.{is_argument, are_arguments}
use Rattle.world_values.specs.SoundWorlds.{IsObjectAfter, AreObjectsAfter, has_call, IsSound}
use Rattle.world_values.specs.declared.part.Part.TheVariants as parts
use Rattle.world_values.specs.WorldLines.{WorldValue, WorldLine, MethodsLine, ClassLine, FieldLine, StaticLine, ObjectLine, ObjectsLine, ArrayLine, StringLine, ThreadLine, CallLine, Lines}
use Rattle.world_values.specs.WorldMeaning.{table_with, table_of, objects_defined, value_of, values_of_line, object_of, invocation_of_line, with_last, threads_with, threads_of, is_methods_line, has_methods, world_of, cells_of}
use Rattle.world_values.specs.WorldRules.{first_lines, part_of, is_no_later, is_well_formed, is_class_allowed, is_known_value, value_in_range, types_of_line, each_in_range, breaks_class_rule}
use Rattle.world.proofs.DeclaredTables.{Declares, built_ins_declare, line_declares, declares_well}
use Rattle.world.proofs.FittingObjects.{made_so_far, same_classes, made-length, are_given, object_fits}
use Rattle.world.proofs.GrownClasses.{IsGrownTable, built_ins_grown, line_grows}
use Rattle.world.proofs.GrownLines.{objects_of, are_known, table_grows, table_stays, IsAfterClasses, IsBeforeThreads, first_or_later, before_or_thread, known_grow, objects_grow, threads_grow, no_thread, no_threads, first_lines_next, no_objects_made, thread_no_object}
use Rattle.world.proofs.KeptBuiltIns.{KeepsBuiltIns, built_ins_kept, line_kept, error_kept}
use Rattle.world.proofs.WorldTables.{built_ins_table}
use Rattle.world.proofs.KeptLines.{IsKept}

-- ---- objects one after another

after_more : (T : Classes) (made os : List Object) (o : Object) → AreObjectsAfter T made os → IsObjectAfter T (made ++ os) o → AreObjectsAfter T made (os ++ o ∷ [])
after_more T made [] o h k = (subst (λ m. IsObjectAfter T m o) (append-nil made) k, tt)
after_more T made (x ∷ os) o h k = (h.0, after_more T (made ++ x ∷ []) os o h.1 (subst (λ m. IsObjectAfter T m o) (sym (append_assoc made (x ∷ []) os)) k))

after_one : (T : Classes) (made os : List Object) (o : Option Object) → AreObjectsAfter T made os → ((x : Object) → o ≡ Some x → IsObjectAfter T (made ++ os) x) → AreObjectsAfter T made (os ++ option_to_list o)
after_one T made os None h k = subst (AreObjectsAfter T made) (sym (append-nil os)) h
after_one T made os (Some x) h k = after_more T made os x h (k x refl)

-- as many objects as are defined
as_many : (lines : Lines) → length (objects_of lines) ≡ length (objects_defined lines)
as_many lines =
    sym (length-map (objects_of lines) (λ (o : Object). o.class)) ∙ ap length (same_classes lines lines) ∙ length-map (objects_defined lines) (λ (o : Identifier × ℕ). o.1)

-- ---- threads

all_with_last : (p : Invocation → Bool) (c : Invocation) (threads : List (List Invocation)) → list_all (list_all p) threads ≡ true → p c ≡ true → list_all (list_all p) (with_last c threads) ≡ true
all_with_last p c [] h k = refl
all_with_last p c (calls ∷ []) h k =
    let b = and_parts (list_all p calls) true h in
    and_from (list_all p (calls ++ c ∷ [])) true (list_all-append p calls (c ∷ []) ∙ and_from (list_all p calls) (p c && true) b.0 (and_from (p c) true k refl)) refl
all_with_last p c (calls ∷ next ∷ threads) h k =
    let b = and_parts (list_all p calls) (list_all (list_all p) (next ∷ threads)) h in
    and_from (list_all p calls) (list_all (list_all p) (with_last c (next ∷ threads))) b.0 (all_with_last p c (next ∷ threads) b.1 k)

has_last : (calls : List Invocation) (c : Invocation) → has_call (calls ++ c ∷ []) ≡ true
has_last [] c = refl
has_last (d ∷ calls) c = refl

calls_with_last : (c : Invocation) (threads : List (List Invocation)) → list_all has_call threads ≡ true → list_all has_call (with_last c threads) ≡ true
calls_with_last c [] h = refl
calls_with_last c (calls ∷ []) h = and_from (has_call (calls ++ c ∷ [])) true (has_last calls c) refl
calls_with_last c (calls ∷ next ∷ threads) h =
    let b = and_parts (has_call calls) (list_all has_call (next ∷ threads)) h in
    and_from (has_call calls) (list_all has_call (with_last c (next ∷ threads))) b.0 (calls_with_last c (next ∷ threads) b.1)

-- ---- the step

-- what holds after lines that keep the rules
pub record AreSound (cells : ℕ) (L : Lines) : Type 0 where
  pub table : IsGrownTable (table_of L)
  pub methods : has_methods L ≡ true → HasMethodError (table_of L)
  pub built_ins : KeepsBuiltIns (table_of L)
  pub declares : Declares (table_of L)
  pub known : are_known L ≡ true
  pub objects : AreObjectsAfter (table_of L) (made_before (table_of L)) (objects_of L)
  pub few_objects : length (objects_defined L) ≤ 65536
  pub few_threads : length (threads_of L) ≤ 8
  pub calls : list_all has_call (threads_of L) ≡ true
  pub arguments : list_all (list_all (are_arguments (loaded_count (world_of 0 cells L)))) (threads_of L) ≡ true
  pub fits : cells_of L ≤ cells

or_none : (b : Bool) → (b || (false || false)) ≡ b
or_none true = refl
or_none false = refl

no_methods : (T : Classes) (line : WorldLine) → is_well_formed T line ≡ true → is_methods_line line ≡ false
no_methods T MethodsLine h = absurd (let no : false ≡ true = h in cc)
no_methods T (ClassLine name superclass) h = refl
no_methods T (FieldLine class name signature) h = refl
no_methods T (StaticLine class name signature) h = refl
no_methods T (ObjectLine x class values) h = refl
no_methods T (ObjectsLine x class values) h = refl
no_methods T (ArrayLine x t values) h = refl
no_methods T (StringLine x text) h = refl
no_methods T (ThreadLine function arguments) h = refl
no_methods T (CallLine function arguments) h = refl

-- the class that a line of methods adds, as a line of its own would
method_class : table_with built_ins (ClassLine (codes "java/lang/NoSuchMethodError") (Some (codes "java/lang/IncompatibleClassChangeError"))) ≡ with_methods built_ins
unfolding built_ins
method_class = refl

method_rules : (rule : ClassRule) → breaks_class_rule rule built_ins (ClassLine (codes "java/lang/NoSuchMethodError") (Some (codes "java/lang/IncompatibleClassChangeError"))) ≡ false
unfolding built_ins
method_rules NameTaken = refl
method_rules BadSuperclass = refl
method_rules BadSignature = refl
method_rules TooMany = refl

method_cells : (n : ℕ) → cells_of ((n, MethodsLine) ∷ []) ≤ 136
unfolding built_ins
method_cells n = omega arith

method_there : class_at (with_methods built_ins) no_such_method_error ≡ Some (new_class (codes "java/lang/NoSuchMethodError") (Some incompatible_class_change_error))
unfolding built_ins
method_there = refl

-- after a line of the heap that allows methods
methods_sound : (cells n : ℕ) → 512 ≤ cells → AreSound cells ((n, MethodsLine) ∷ [])
methods_sound cells n low =
    let line = ClassLine (codes "java/lang/NoSuchMethodError") (Some (codes "java/lang/IncompatibleClassChangeError")) in
    record {
      table = subst IsGrownTable method_class (line_grows built_ins built_ins_grown line method_rules refl);
      methods = λ h. record { class = new_class (codes "java/lang/NoSuchMethodError") (Some incompatible_class_change_error); there = method_there; name = refl; superclass = refl; kind = refl };
      built_ins = subst KeepsBuiltIns method_class (line_kept built_ins built_ins_kept false line refl);
      declares = subst Declares method_class (line_declares built_ins built_ins_table built_ins_declare false line method_rules refl refl);
      known = refl;
      objects = tt;
      few_objects = omega arith;
      few_threads = omega arith;
      calls = refl;
      arguments = refl;
      fits = omega (arith, low, method_cells n);
    }

loaded-made : (cells : ℕ) (L : Lines) → loaded_count (world_of 0 cells L) ≡ length (made_so_far L)
loaded-made cells L = sym (made-length L)

pub empty_cells : cells_of [] ≤ 130
unfolding built_ins
empty_cells = omega arith

pub none_sound : (cells : ℕ) → 512 ≤ cells → AreSound cells []
none_sound cells low = record {
  table = built_ins_grown;
  methods = λ h. absurd (let no : false ≡ true = h in cc);
  built_ins = built_ins_kept;
  declares = built_ins_declare;
  known = refl;
  objects = tt;
  few_objects = omega arith;
  few_threads = omega arith;
  calls = refl;
  arguments = refl;
  fits = omega (arith, low, empty_cells);
}

-- after the line of the heap
pub first_sound : (cells n : ℕ) (methods : Bool) → 512 ≤ cells → AreSound cells (first_lines n methods)
first_sound cells n true low = methods_sound cells n low
first_sound cells n false low = none_sound cells low

module _ (cells : ℕ) (L : Lines) (n : ℕ) (line : WorldLine) (s : AreSound cells L) (k : IsKept cells L (n, line)) where
  abbrev next : Lines
  next = L ++ (n, line) ∷ []

  table_next : IsGrownTable (table_of next)
  table_next = subst IsGrownTable (sym (table_grows L n line)) (line_grows (table_of L) s.table line k.class_rules k.well)

  -- a line that keeps the rules allows no methods
  pub methods_stay : has_methods next ≡ has_methods L
  methods_stay =
      list_any-append (λ (l : ℕ × WorldLine). is_methods_line l.1) L ((n, line) ∷ [])
      ∙ ap (λ b. has_methods L || (b || false)) (no_methods (table_of L) line k.well)
      ∙ or_none (has_methods L)

  methods_next : has_methods next ≡ true → HasMethodError (table_of next)
  methods_next h =
      let allows : has_methods L ≡ true = sym methods_stay ∙ h in
      subst HasMethodError (sym (table_grows L n line))
      (error_kept (table_of L) (s.methods allows) line (ap (λ m. is_class_allowed m (table_of L) line) (sym allows) ∙ k.allowed))

  objects_next : objects_of next ≡ objects_of L ++ option_to_list (object_of L line)
  objects_next = objects_grow L n line k.ordered s.known k.known

  fitting_next : AreObjectsAfter (table_of next) (made_before (table_of next)) (objects_of next)
  fitting_next = by_part (first_or_later line)
    where
      by_part : (part_of line ≡ parts.Classes) ⊎ IsAfterClasses line → AreObjectsAfter (table_of next) (made_before (table_of next)) (objects_of next)
      by_part (inl p) = subst (AreObjectsAfter (table_of next) (made_before (table_of next))) (sym (no_objects_made next next (first_lines_next L n line k.ordered p))) tt
      by_part (inr p) =
          subst (λ T. AreObjectsAfter T (made_before T) (objects_of next)) (sym (table_stays L n line p))
          (subst (AreObjectsAfter (table_of L) (made_before (table_of L))) (sym objects_next)
          (after_one (table_of L) (made_before (table_of L)) (objects_of L) (object_of L line) s.objects (object_fits L s.table.table cells n line k)))

  threads_next : threads_of next ≡ threads_with L (threads_of L) (n, line)
  threads_next = threads_grow L n line k.ordered s.known k.known

  -- what a line does to threads
  by_line : (P : List (List Invocation) → Type 0) → P (threads_of L) → (l : WorldLine) → ((f : Identifier) (vs : List WorldValue) → l ≡ ThreadLine f vs → P (threads_of L ++ (invocation_of_line L n f vs ∷ []) ∷ []))
      → ((f : Identifier) (vs : List WorldValue) → l ≡ CallLine f vs → P (with_last (invocation_of_line L n f vs) (threads_of L))) → P (threads_with L (threads_of L) (n, l))
  by_line P h (ThreadLine f vs) t c = t f vs refl
  by_line P h (CallLine f vs) t c = c f vs refl
  by_line P h MethodsLine t c = h
  by_line P h (ClassLine name superclass) t c = h
  by_line P h (FieldLine class name signature) t c = h
  by_line P h (StaticLine class name signature) t c = h
  by_line P h (ObjectLine x class values) t c = h
  by_line P h (ObjectsLine x class values) t c = h
  by_line P h (ArrayLine x e values) t c = h
  by_line P h (StringLine x text) t c = h

  calls_next : list_all has_call (threads_of next) ≡ true
  calls_next =
      ap (list_all has_call) threads_next
      ∙ by_line (λ threads. list_all has_call threads ≡ true) s.calls line
      (λ f vs is. list_all-append has_call (threads_of L) ((invocation_of_line L n f vs ∷ []) ∷ []) ∙ and_from (list_all has_call (threads_of L)) true s.calls refl)
      (λ f vs is. calls_with_last (invocation_of_line L n f vs) (threads_of L) s.calls)

  given : (f : Identifier) (vs : List WorldValue) → list_all (is_known_value L) vs ≡ true → list_all (value_in_range JInt) vs ≡ true → are_arguments (loaded_count (world_of 0 cells L)) (invocation_of_line L n f vs) ≡ true
  given f vs known range = ap (λ made. list_all (is_argument made) (map (value_of L) vs)) (loaded-made cells L) ∙ are_given L vs known range

  line_given : (f : Identifier) (vs : List WorldValue) → values_of_line line ≡ vs → types_of_line (table_of L) line ≡ [] → are_arguments (loaded_count (world_of 0 cells L)) (invocation_of_line L n f vs) ≡ true
  line_given f vs e t =
      given f vs (ap (list_all (is_known_value L)) (sym e) ∙ k.known) (ap (λ xs. each_in_range [] xs) (sym e) ∙ ap (λ types. each_in_range types (values_of_line line)) (sym t) ∙ k.ranged)

  -- the same objects as before a line of a thread
  same_objects : part_of line ≡ parts.Threads → objects_of next ≡ objects_of L
  same_objects p =
      let made : Identifier × ℕ → Object = λ o. record { class = o.1; values = map (value_of L) (values_of_line line) } in
      objects_next ∙ ap (λ o. objects_of L ++ option_to_list (option_map made o)) (thread_no_object (table_of L) line p) ∙ append-nil (objects_of L)

  same_table : part_of line ≡ parts.Threads → table_of next ≡ table_of L
  same_table p = table_stays L n line (ap (λ part. is_no_later part parts.Classes) p)

  arguments_next : list_all (list_all (are_arguments (loaded_count (world_of 0 cells next)))) (threads_of next) ≡ true
  arguments_next = by_part (before_or_thread line)
    where
      made : ℕ
      made = loaded_count (world_of 0 cells L)

      by_part : IsBeforeThreads line ⊎ (part_of line ≡ parts.Threads) → list_all (list_all (are_arguments (loaded_count (world_of 0 cells next)))) (threads_of next) ≡ true
      by_part (inl p) = ap (list_all (list_all (are_arguments (loaded_count (world_of 0 cells next))))) (threads_next ∙ no_thread L (threads_of L) n line p ∙ no_threads L n line k.ordered s.known k.known p)
      by_part (inr p) =
          ap (λ T. list_all (list_all (are_arguments (length T + 1 + length (objects_of next)))) (threads_of next)) (same_table p)
          ∙ ap (λ os. list_all (list_all (are_arguments (length (table_of L) + 1 + length os))) (threads_of next)) (same_objects p)
          ∙ ap (list_all (list_all (are_arguments made))) threads_next
          ∙ by_line (λ threads. list_all (list_all (are_arguments made)) threads ≡ true) s.arguments line
          (λ f vs is.
          list_all-append (list_all (are_arguments made)) (threads_of L) ((invocation_of_line L n f vs ∷ []) ∷ [])
          ∙ and_from (list_all (list_all (are_arguments made)) (threads_of L)) _ s.arguments
          (and_from (are_arguments made (invocation_of_line L n f vs) && true) true (and_from (are_arguments made (invocation_of_line L n f vs)) true (line_given f vs (ap values_of_line is) (ap (types_of_line (table_of L)) is)) refl) refl))
          (λ f vs is. all_with_last (are_arguments made) (invocation_of_line L n f vs) (threads_of L) s.arguments (line_given f vs (ap values_of_line is) (ap (types_of_line (table_of L)) is)))

  fits_next : cells_of next ≤ cells
  fits_next = by_part (before_or_thread line)
    where
      by_part : IsBeforeThreads line ⊎ (part_of line ≡ parts.Threads) → cells_of next ≤ cells
      by_part (inl p) = k.room p
      by_part (inr p) =
          subst (λ w. sizes w ≤ cells)
          (sym (ap (λ T. class_objects T ++ fresh_object T out_of_memory_error ∷ objects_of next) (same_table p) ∙ ap (λ os. class_objects (table_of L) ++ fresh_object (table_of L) out_of_memory_error ∷ os) (same_objects p))) s.fits

  pub line_sound : AreSound cells next
  line_sound = record {
    table = table_next;
    methods = methods_next;
    built_ins = subst KeepsBuiltIns (sym (table_grows L n line)) (line_kept (table_of L) s.built_ins (has_methods L) line k.allowed);
    declares = subst Declares (sym (table_grows L n line)) (line_declares (table_of L) s.table.table s.declares (has_methods L) line k.class_rules k.well k.allowed);
    known = known_grow L n line k.ordered s.known k.known;
    objects = fitting_next;
    few_objects = k.few_objects;
    few_threads = k.few_threads;
    calls = calls_next;
    arguments = arguments_next;
    fits = fits_next;
  }

-- ---- the whole

-- the world of lines of which this holds is sound
pub sound_world : (heap_line cells : ℕ) (lines : Lines) → cells ≤ 1048576 → AreSound cells lines → IsSound (world_of heap_line cells lines)
sound_world heap_line cells lines high s =
    let few : length (objects_of lines) ≤ 65536 = omega (arith, as_many lines, s.few_objects) in
    record {
      grown = s.table.grown;
      methods = s.methods;
      declares = declares_well (table_of lines) s.table.table s.built_ins s.declares;
      cells = high;
      fits = le-leb (cells_of lines) cells s.fits;
      few_objects = few;
      objects = s.objects;
      few_threads = s.few_threads;
      calls = s.calls;
      arguments = s.arguments;
    }
