use Rattle.std.proofs.Common.{◌≡◌, ◌≢◌, ℕ, ◌<◌, ◌≤◌, List, [], ◌∷◌, length, Option, Some, refl, sym, ap, subst, ◌∙◌, arith}
use Rattle.std.specs.Prelude.{slice_index_or, slice_set, IsSome}
use Rattle.std.proofs.lemmas.List.{length-set}
use Rattle.heap.specs.declared.value.Value.{Value}
use Rattle.heap.specs.declared.value.Value.TheVariants.{Null, Block as Refers}
use Rattle.heap.specs.Heap.{Block, Space, IsAddress, IsLaidOut, end_of, with_block, with_noted, with_value, values_at}
use Rattle.heap.proofs.Spaces.{block_at-fresh}
use Rattle.machine_calls.specs.Made.{Allocates, next_block}
use Rattle.machine_scenes.specs.NewObjects.{initial_values}
use Rattle.machine_scenes.proofs.Loaded.{changed_new, values_new}
use Rattle.machine_calls.proofs.NotedBlocks.{address_kept, is_before, noted_before}
use Rattle.machine_calls.proofs.make.allocate_exception.Goals as goal
use Rattle.machine_calls.proofs.make.allocate_exception.Goals.{then-len_of-gt0, else-len_of-gt0}

-- no value of none changes
none_changed : (values : List Value) (v : Value) → length values ≤ 0 → values ≡ slice_set values 0 v
none_changed [] v h = refl
none_changed (x ∷ values) v h = absurd (omega (arith, h))

-- what is noted of an exception: its first value, if it has one
first_of : (values : List Value) (v : Value) → 0 < length values → slice_index_or (slice_set values 0 v) 0 Null ≡ v
first_of [] v some = absurd (omega (arith, some))
first_of (x ∷ values) v some = refl

first_of_none : (values : List Value) (v : Value) → length values ≤ 0 → slice_index_or (slice_set values 0 v) 0 Null ≡ Null
first_of_none [] v none = refl
first_of_none (x ∷ values) v none = absurd (omega (arith, none))

module _ (s new : Space) (class birth a : ℕ) (values : List Value) (laid : IsLaidOut s) (made : Allocates Null s class birth values new (Some a)) where
  abbrev b : Block
  b = next_block s class birth values

  there : IsAddress new a
  there = subst (λ (t : Space). IsAddress t a) (sym made.0) (subst (λ (x : ℕ). IsAddress (with_block s b) x) (sym made.2) (subst (λ (o : Option Block). IsSome o) (sym (block_at-fresh s b laid refl)) refl))

  held : values_at new a ≡ values
  held = (λ i. values_at (made.0 i) (made.2 i)) ∙ values_new s b laid refl

  -- what was there is there
  stays : (x : ℕ) → IsAddress s x → IsAddress new x
  stays x at = subst (λ (t : Space). IsAddress t x) (sym made.0) (address_kept s b x at)

  -- the heap with the exception of these values, with what this value refers to noted before
  abbrev With : List Value → Value → Space
  With values noted = with_block (with_noted noted s) (next_block s class birth values)

  -- its first value changes
  changed : (message : ℕ) → IsAddress s message → 0 < length (values_at new a)
      → with_value new a 0 (Refers message) ≡ With (slice_set values 0 (Refers message)) (slice_index_or (slice_set values 0 (Refers message)) 0 Null)
  changed message at some =
      let v = Refers message in
      let other : (x : ℕ) → v ≡ Refers x → x ≢ end_of s = λ x e same. let is : message ≡ x = cc in let before = is_before s message laid at in omega (arith, before, is, same) in
      (λ i. with_value (made.0 i) (made.2 i) 0 v)
      ∙ ap (with_noted v) (changed_new s b (λ c. record c { values = slice_set c.values 0 v }) laid refl refl)
      ∙ noted_before s (next_block s class birth (slice_set values 0 v)) v other
      ∙ ap (With (slice_set values 0 v)) (sym (first_of values v (omega (arith, some, ap (λ (l : List Value). length l) held))))

  -- it has none
  same : (v : Value) → length (values_at new a) ≤ 0 → new ≡ With (slice_set values 0 v) (slice_index_or (slice_set values 0 v) 0 Null)
  same v none =
      let no : length values ≤ 0 = omega (arith, none, ap (λ (l : List Value). length l) held) in
      made.0
      ∙ ap (λ (l : List Value). with_block s (next_block s class birth l)) (none_changed values v no)
      ∙ ap (With (slice_set values 0 v)) (sym (first_of_none values v no))

pub len_of-requires : goal.len_of-requires
len_of-requires c =
    let values = initial_values c.args.classes.now c.args.class.number in
    there c.args.heap.now c.allocate_fresh.new.heap c.args.class.number c.args.birth c.in-Some.addr values c.count.ensures.laid_out (subst (Allocates Null c.args.heap.now c.args.class.number c.args.birth values c.allocate_fresh.new.heap) c.in-Some.is c.allocate_fresh.ensures)

pub set-requires-clause-target : goal.set-requires-clause-target
set-requires-clause-target c under x e =
    let values = initial_values c.args.classes.now c.args.class.number in
    let is : c.args.message ≡ x = cc in
    subst (IsAddress c.allocate_fresh.new.heap) is
    (stays c.args.heap.now c.allocate_fresh.new.heap c.args.class.number c.args.birth c.in-Some.addr values c.count.ensures.laid_out (subst (Allocates Null c.args.heap.now c.args.class.number c.args.birth values c.allocate_fresh.new.heap) c.in-Some.is c.allocate_fresh.ensures)
    c.args.message c.requires.message)

pub returns-after-len_of-gt0 : goal.returns-after-len_of-gt0
returns-after-len_of-gt0 c =
    let s = c.args.heap.now in
    let new = c.allocate_fresh.new.heap in
    let class = c.args.class.number in
    let birth = c.args.birth in
    let a = c.in-Some.addr in
    let values = initial_values c.args.classes.now class in
    let laid = c.count.ensures.laid_out in
    let v = Refers c.args.message in
    let made = subst (Allocates Null s class birth values new) c.in-Some.is c.allocate_fresh.ensures in (
      elim c.if-len_of-gt0.branch [
        | then-len_of-gt0 w ↦ w.heap-is ∙ w.set.ensures ∙ changed s new class birth a values laid made c.args.message c.requires.message (omega (arith, c.len_of.ensures, w.if-len_of-gt0.true))
        | else-len_of-gt0 w ↦ w.heap-is ∙ same s new class birth a values laid made v (omega (arith, c.len_of.ensures, w.if-len_of-gt0.false))
      ],
      omega (arith, made.1, length-set values 0 v),
      made.2,
    )
