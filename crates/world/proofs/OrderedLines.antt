-- Lines in their order: the part of the last says which lines are before.
use Rattle.std.proofs.Common.{◌≡◌, ℕ, Bool, true, false, [], ◌∷◌, ◌++◌, refl, sym, ap, ◌∙◌}
use Rattle.std.specs.Prelude.{not, ◌&&◌, ◌||◌}
use Rattle.std.specs.List.{list_any}
use Rattle.std.proofs.lemmas.Bool.{and_parts}
use Rattle.std.proofs.lemmas.List.Folds.{list_all-append, list_any-append}
use Rattle.world_values.specs.declared.part.Part.{Part}
use Rattle.world_values.specs.declared.part.Part.TheVariants as parts
use Rattle.world_values.specs.WorldLines.{WorldLine, MethodsLine, ClassLine, FieldLine, StaticLine, ObjectLine, ObjectsLine, ArrayLine, StringLine, ThreadLine, CallLine, Lines}
use Rattle.world_values.specs.WorldRules.{part_of, is_no_later, is_thread_line, is_call_line, is_in_order}
use Rattle.world.proofs.GrownLines.{no_later-trans, are_within}

-- what the part of the last line says of lines in their order; of no line it is the first
pub record AreOrdered (lines : Lines) (part : Part) : Type 0 where
  pub within : (p : Part) → are_within p lines ≡ is_no_later part p
  pub threads : list_any (λ (l : ℕ × WorldLine). is_thread_line l.1) lines ≡ is_no_later parts.Threads part

pub none_ordered : AreOrdered [] parts.Classes
none_ordered = record { within = λ p. refl; threads = refl }

-- the next line is in its order by that part alone
pub order_told : (earlier : Lines) (part : Part) (line : WorldLine) → AreOrdered earlier part → is_in_order earlier line ≡ (is_no_later part (part_of line) && (not (is_call_line line) || is_no_later parts.Threads part))
order_told earlier part line o = λ i. o.within (part_of line) i && (not (is_call_line line) || o.threads i)

-- a test that passes as long as another does
both_so : (a b : Bool) → (b ≡ true → a ≡ true) → (a && (b && true)) ≡ b
both_so true true h = refl
both_so true false h = refl
both_so false true h = h refl
both_so false false h = refl

or_right : (a b : Bool) → b ≡ true → (a || (b || false)) ≡ true
or_right true b h = refl
or_right false b h = ap (λ t. t || false) h

or_left : (a b : Bool) → a ≡ true → (a || (b || false)) ≡ true
or_left a b h = ap (λ t. t || (b || false)) h

or_none : (a b : Bool) → a ≡ false → b ≡ false → (a || (b || false)) ≡ false
or_none a b h k = (λ i. h i || (k i || false))

-- a part before that of threads
not_threads : (part : Part) → is_no_later part parts.Objects ≡ true → is_no_later parts.Threads part ≡ false
not_threads parts.Classes h = refl
not_threads parts.Objects h = refl
not_threads parts.Threads h = absurd (let no : false ≡ true = h in cc)

-- a thread line is there after it exactly where it is of the part of threads
thread_after : (part : Part) (line : WorldLine) → is_no_later part (part_of line) ≡ true → (not (is_call_line line) || is_no_later parts.Threads part) ≡ true → (is_no_later parts.Threads part || (is_thread_line line || false)) ≡ is_no_later parts.Threads (part_of line)
thread_after part (ThreadLine function vs) h k = or_right (is_no_later parts.Threads part) true refl
thread_after part (CallLine function vs) h k = or_left (is_no_later parts.Threads part) false k
thread_after part MethodsLine h k = or_none (is_no_later parts.Threads part) false (not_threads part (no_later-trans part parts.Classes parts.Objects h refl)) refl
thread_after part (ClassLine name superclass) h k = or_none (is_no_later parts.Threads part) false (not_threads part (no_later-trans part parts.Classes parts.Objects h refl)) refl
thread_after part (FieldLine class name signature) h k = or_none (is_no_later parts.Threads part) false (not_threads part (no_later-trans part parts.Classes parts.Objects h refl)) refl
thread_after part (StaticLine class name signature) h k = or_none (is_no_later parts.Threads part) false (not_threads part (no_later-trans part parts.Classes parts.Objects h refl)) refl
thread_after part (ObjectLine x class vs) h k = or_none (is_no_later parts.Threads part) false (not_threads part h) refl
thread_after part (ObjectsLine x class vs) h k = or_none (is_no_later parts.Threads part) false (not_threads part h) refl
thread_after part (ArrayLine x t vs) h k = or_none (is_no_later parts.Threads part) false (not_threads part h) refl
thread_after part (StringLine x text) h k = or_none (is_no_later parts.Threads part) false (not_threads part h) refl

pub more_ordered : (earlier : Lines) (part : Part) (n : ℕ) (line : WorldLine) → AreOrdered earlier part → is_in_order earlier line ≡ true → AreOrdered (earlier ++ (n, line) ∷ []) (part_of line)
more_ordered earlier part n line o h =
    let b = and_parts (is_no_later part (part_of line)) (not (is_call_line line) || is_no_later parts.Threads part) (sym (order_told earlier part line o) ∙ h) in
    record {
      within = λ p.
          list_all-append (λ (l : ℕ × WorldLine). is_no_later (part_of l.1) p) earlier ((n, line) ∷ [])
          ∙ ap (λ t. t && (is_no_later (part_of line) p && true)) (o.within p)
          ∙ both_so (is_no_later part p) (is_no_later (part_of line) p) (no_later-trans part (part_of line) p b.0);
      threads =
          list_any-append (λ (l : ℕ × WorldLine). is_thread_line l.1) earlier ((n, line) ∷ [])
          ∙ ap (λ t. t || (is_thread_line line || false)) o.threads
          ∙ thread_after part line b.0 b.1;
    }
