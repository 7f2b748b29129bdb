-- The line of the heap is read as the number that it says.
use Rattle.std.proofs.Common.{◌≡◌, ℕ, ◌-◌, ◌^◌, ◌<◌, ◌≤◌, Bool, true, false, cond, List, [], ◌∷◌, get_or, min, Option, Some, None, refl, sym, ap, ◌∙◌, arith}
use Rattle.std.specs.Prelude.{codes, decimal, ◌==◌, bytes_eq}
use Rattle.std.specs.Option.{option_map}
use Rattle.std.proofs.lemmas.Bool.{and_from, and_parts}
use Rattle.std.proofs.lemmas.Fmt.{first_decimal}
use Rattle.std.proofs.lemmas.Slice.Eq.{bytes_eq-Decides}
use Rattle.world_schedules.specs.Numbers.{natural_of}
use Rattle.world_schedules.specs.Split.{parts_of}
use Rattle.world_lines.specs.ReadingLines.{HeapLine, below_zero, cells_named, heap_named, heap_by_words, heap_of_line}
use Rattle.world_values.specs.WorldLines.{has_no_space, spaced}
use Rattle.world_values.specs.WorldRules.{heap_words}
use Rattle.base.specs.Bytes.{is_some_byte}
use Rattle.world_schedules.proofs.MeantSchedules.{natural_of-decimal}
use Rattle.world_schedules.proofs.ScheduleLaws.{decimal-natural_of}
use Rattle.world_lines.proofs.LineWords.{spaced_parts, parts_spaced}
use Rattle.world_lines.proofs.ReadValues.{decimal_word}
use Rattle.world_lines.proofs.Tests.{mapped, later_number}

-- the line of a heap of this number of cells
abbrev pub heap_text : (cells : ℕ) (methods : Bool) → List ℕ
heap_text cells methods = spaced (heap_words cells methods)

cells_are : (bytes : List ℕ) (n : ℕ) → 48 < get_or bytes 0 0 → natural_of bytes ≡ Some n → n ≤ 1048576 → cells_named bytes ≡ Some n
cells_are [] n first h high = absurd (cc)
cells_are (sign ∷ digits) n first h high =
    let small : min n (2 ^ 64 - 1) ≡ n = omega (arith, high) in
    ap (λ t. cond t (below_zero (natural_of digits)) (option_map (λ m. min m (2 ^ 64 - 1)) (natural_of (sign ∷ digits)))) (later_number sign 45 (omega (arith, first)))
    ∙ ap (option_map (λ m. min m (2 ^ 64 - 1))) h
    ∙ ap (λ m. Some m) small

-- what such a line says
abbrev told : (methods : Bool) → ℕ → HeapLine
told methods n = (n, methods)

pub heap_is_read : (cells : ℕ) (methods : Bool) → 512 ≤ cells → cells ≤ 1048576 → heap_of_line (heap_text cells methods) ≡ Some (cells, methods)
unfolding heap_of_line
heap_is_read cells methods low high = by_methods methods
  where
    word : (is_some_byte (decimal cells) ≡ true) × (has_no_space (decimal cells) ≡ true)
    word = and_parts (is_some_byte (decimal cells)) (has_no_space (decimal cells)) (decimal_word cells (omega (arith, high)))

    are : cells_named (decimal cells) ≡ Some cells
    are = cells_are (decimal cells) cells (first_decimal cells (omega (arith, low)) (omega (arith, high))) (natural_of-decimal cells (omega (arith, low)) (omega (arith, high))) high

    by_methods : (m : Bool) → heap_by_words (parts_of 32 (heap_text cells m)) ≡ Some (cells, m)
    by_methods false =
        ap heap_by_words (spaced_parts (codes "heap") (decimal cells ∷ []) refl (and_from (has_no_space (decimal cells)) true word.1 refl))
        ∙ ap (option_map (told false)) are
    by_methods true =
        ap heap_by_words (spaced_parts (codes "heap") (decimal cells ∷ codes "methods" ∷ []) refl (and_from (has_no_space (decimal cells)) true word.1 refl))
        ∙ ap (option_map (told true)) are

zero_below : (o : Option ℕ) (cells : ℕ) → below_zero o ≡ Some cells → cells ≡ 0
zero_below None cells h = absurd (cc)
zero_below (Some n) cells h = by_zero (n == 0) h
  where
    by_zero : (b : Bool) → cond b None (Some 0) ≡ Some cells → cells ≡ 0
    by_zero true h = absurd (cc)
    by_zero false h = cc

cells_written : (bytes : List ℕ) (cells : ℕ) → cells_named bytes ≡ Some cells → 512 ≤ cells → cells ≤ 1048576 → bytes ≡ decimal cells
cells_written [] cells h low high = absurd (cc)
cells_written (sign ∷ digits) cells h low high = by_sign (sign == 45) h
  where
    by_sign : (b : Bool) → cond b (below_zero (natural_of digits)) (option_map (λ n. min n (2 ^ 64 - 1)) (natural_of (sign ∷ digits))) ≡ Some cells → sign ∷ digits ≡ decimal cells
    by_sign true h = let z = zero_below (natural_of digits) cells h in absurd (omega (arith, z, low))
    by_sign false h =
        let n = mapped (λ n. min n (2 ^ 64 - 1)) (natural_of (sign ∷ digits)) cells h in
        let same : n.0 ≡ cells = omega (arith, n.2, high) in
        sym (decimal-natural_of (sign ∷ digits) n.0 n.1 (omega (arith, same, high))) ∙ ap decimal same

named_written : (more : Bool) (word number : List ℕ) (cells : ℕ) (methods : Bool) → heap_named more word number ≡ Some (cells, methods) → 512 ≤ cells → cells ≤ 1048576
    → (word ≡ codes "heap") × (number ≡ decimal cells) × (more ≡ methods)
named_written more word number cells methods k low high = by_test (bytes_eq word (codes "heap")) refl k
  where
    by_test : (b : Bool) → bytes_eq word (codes "heap") ≡ b → cond b (option_map (told more) (cells_named number)) None ≡ Some (cells, methods)
        → (word ≡ codes "heap") × (number ≡ decimal cells) × (more ≡ methods)
    by_test false e j = absurd (cc)
    by_test true e j =
        let n = mapped (told more) (cells_named number) (cells, methods) j in
        let same : n.0 ≡ cells = ap (λ (h : ℕ × Bool). h.0) n.2 in
        ((bytes_eq-Decides word (codes "heap")).0 e, cells_written number cells (n.1 ∙ ap Some same) low high, ap (λ (h : ℕ × Bool). h.1) n.2)

pub heap_is_written : (bytes : List ℕ) (cells : ℕ) (methods : Bool) → heap_of_line bytes ≡ Some (cells, methods) → 512 ≤ cells → cells ≤ 1048576 → bytes ≡ heap_text cells methods
unfolding heap_of_line
heap_is_written bytes cells methods h low high = sym (parts_spaced bytes) ∙ by_parts (parts_of 32 bytes) h
  where
    by_parts : (parts : List (List ℕ)) → heap_by_words parts ≡ Some (cells, methods) → spaced parts ≡ heap_text cells methods
    by_parts [] k = absurd (cc)
    by_parts (word ∷ []) k = absurd (cc)
    by_parts (word ∷ number ∷ []) k =
        let n = named_written false word number cells methods k low high in
        (λ i. spaced (n.0 i ∷ n.1 i ∷ [])) ∙ ap (heap_text cells) n.2
    by_parts (word ∷ number ∷ more ∷ []) k = by_more (bytes_eq more (codes "methods")) refl k
      where
        by_more : (b : Bool) → bytes_eq more (codes "methods") ≡ b → cond b (heap_named true word number) None ≡ Some (cells, methods) → spaced (word ∷ number ∷ more ∷ []) ≡ heap_text cells methods
        by_more false e j = absurd (cc)
        by_more true e j =
            let n = named_written true word number cells methods j low high in
            (λ i. spaced (n.0 i ∷ n.1 i ∷ (bytes_eq-Decides more (codes "methods")).0 e i ∷ [])) ∙ ap (heap_text cells) n.2
    by_parts (word ∷ number ∷ more ∷ next ∷ words) k = absurd (cc)
