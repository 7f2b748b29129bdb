use Rattle.std.proofs.Common.{rules, ◌≡◌, ℕ, ℤ, suc, ◌+◌, ◌≤◌, List, [], length, map, take, Option, Some, sym, ap, ◌∙◌, subst, arith}
use Rattle.std.specs.Prelude.{slice_get}
use Rattle.std.specs.Int.{w32, cast_unsigned}
use Rattle.std.specs.Option.{option_map, option_map_or}
use Rattle.std.proofs.lemmas.List.{length-map, take_all}
use Rattle.std.proofs.lemmas.Option.{slice_get-map}
use Rattle.heap.specs.Heap.{Space, values_at, with_changed, with_value}
use Rattle.heap.specs.declared.value.Value.TheVariants as value
use Rattle.tables.specs.Elements.{OwnedNumbers, number_in}
use Rattle.tables.specs.Keys.{value_at}
use Rattle.machine_scenes.specs.declared.buffer.Buffer.{Buffer}
use Rattle.machine_scenes.specs.declared.buffer.Buffer.TheVariants as held
use Rattle.machine_answers.specs.BufferChanges.{CanCopyBack, copied_back, numbers_at}
use Rattle.machine_answers.specs.Copies.{overlay}
use Rattle.machine_answers.proofs.CopiedRegions.{none_overlaid, one_overlaid, overlaid_count}
use Rattle.machine_answers.proofs.buffers.copy_back.Goals as goal

-- the list of a slot's key
record Listed (elements : List (Option OwnedNumbers)) (space : Space) (object key : ℕ) : Type 0 where
  pub list : OwnedNumbers
  pub there : value_at elements key ≡ Some list
  pub numbers : numbers_at elements key ≡ list.numbers
  pub few : length list.numbers ≤ length (values_at space object)

listed : (elements : List (Option OwnedNumbers)) (space : Space) (object key : ℕ) (h : Buffer) → h ≡ held.Copy key → CanCopyBack elements object h space → Listed elements space object key
listed elements space object key h is can =
    let it = subst (λ (b : Buffer). CanCopyBack elements object b space) is can in
    record { list = it.0; there = it.1; numbers = ap (λ (o : Option OwnedNumbers). option_map_or (λ (c : OwnedNumbers). c.numbers) o []) it.1; few = it.2 }

pub loop-place-init : goal.loop-place-init
loop-place-init c = sym (none_overlaid c.args.heap.now c.args.object 0)

pub set-requires-clause-place : goal.set-requires-clause-place
set-requires-clause-place c =
    let s = c.args.heap.now in
    let it = listed c.args.elements.now s c.args.object c.in-Copy.key c.args.held c.in-Copy.is c.requires in
    let words = map (cast_unsigned w32) (numbers_at c.args.elements.now c.in-Copy.key) in
    let there : length (values_at c.loop-place.heap c.args.object) ≡ length (values_at s c.args.object) =
    ap (λ (t : Space). length (values_at t c.args.object)) c.loop-place.invariant ∙ overlaid_count s c.args.object 0 (take c.loop-place.place words) in
    let count : c.unwrap-count.result ≡ length it.list.numbers = search (rules, it.there) in
    omega (arith, there, count, it.few, c.loop-place-test.true)

pub loop-place-preserved : goal.loop-place-preserved
loop-place-preserved c =
    let s = c.args.heap.now in
    let numbers = numbers_at c.args.elements.now c.in-Copy.key in
    let words = map (cast_unsigned w32) numbers in
    let it = listed c.args.elements.now s c.args.object c.in-Copy.key c.args.held c.in-Copy.is c.requires in
    let place = c.loop-place.place in
    let number = c.unwrap-number.result in
    let read : number_in (value_at c.args.elements.now c.in-Copy.key) place ≡ Some number = search rules in
    let found : slice_get numbers place ≡ Some number = ap (λ (l : List ℤ). slice_get l place) it.numbers ∙ sym (ap (λ (o : Option OwnedNumbers). number_in o place) it.there) ∙ read in
    let at : slice_get words place ≡ Some (cast_unsigned w32 number) = slice_get-map (cast_unsigned w32) numbers place ∙ ap (option_map (cast_unsigned w32)) found in
    let word : c.cast_unsigned.result ≡ cast_unsigned w32 number = search rules in
    let here : place ≡ 0 + place = omega arith in
    let next : suc place ≡ place + 1 = omega arith in
    c.set.ensures
    ∙ ap (λ (v : ℕ). with_value c.loop-place.heap c.args.object place (value.Number v)) word
    ∙ ap (λ (t : Space). with_value t c.args.object place (value.Number (cast_unsigned w32 number))) c.loop-place.invariant
    ∙ ap (λ (k : ℕ). with_value (with_changed s c.args.object (overlay 0 (take place words))) c.args.object k (value.Number (cast_unsigned w32 number))) here
    ∙ one_overlaid s c.args.object 0 words place (cast_unsigned w32 number) at
    ∙ ap (λ (k : ℕ). with_changed s c.args.object (overlay 0 (take k words))) next

pub returns-after-loop-place : goal.returns-after-loop-place
returns-after-loop-place c =
    let s = c.args.heap.now in
    let numbers = numbers_at c.args.elements.now c.in-Copy.key in
    let words = map (cast_unsigned w32) numbers in
    let it = listed c.args.elements.now s c.args.object c.in-Copy.key c.args.held c.in-Copy.is c.requires in
    let count : c.unwrap-count.result ≡ length it.list.numbers = search (rules, it.there) in
    let all : length words ≤ c.loop-place.place = omega (arith, length-map numbers (cast_unsigned w32), ap length it.numbers, count, c.loop-place-test.false) in
    c.loop-place.invariant
    ∙ ap (λ (l : List ℕ). with_changed s c.args.object (overlay 0 l)) (take_all c.loop-place.place words all)
    ∙ ap (λ (b : Buffer). copied_back c.args.elements.now c.args.object b s) (sym c.in-Copy.is)
