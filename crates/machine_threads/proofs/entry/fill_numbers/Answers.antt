use Rattle.std.proofs.Common.{◌≡◌, ℕ, ◌+◌, ◌≤◌, List, [], ◌∷◌, ◌++◌, Some, filter_map, length, take, refl, sym, ap, ◌∙◌, arith, append-nil, length-take}
use Rattle.std.specs.Prelude.{vec_len, vec_capacity}
use Rattle.std.proofs.lemmas.Grind.{common_steps}
use Rattle.std.proofs.lemmas.List.{take_all}
use Rattle.std.proofs.lemmas.Option.{slice_get_read}
use Rattle.heap.specs.declared.value.Value.{Value}
use Rattle.heap.specs.declared.value.Value.TheVariants.{Number, Null, Block}
use Rattle.tables.specs.References.{references_in}
use Rattle.machine_threads.specs.Entry.{given_address, given_word}
use Rattle.machine_threads.proofs.ArgumentSlots.{given_more}
use Rattle.machine_threads.proofs.EntryTables.{arguments_few}
use Rattle.machine_threads.proofs.FirstReferences.{less_before, counted_more}
use Rattle.machine_threads.proofs.entry.fill_numbers.Goals.{in-Number, in-Null, in-Block}
use Rattle.machine_threads.proofs.entry.fill_numbers.Goals as goal

pub push_reserved-requires : goal.push_reserved-requires
push_reserved-requires c =
    let xs = c.args.arguments.now in
    let i = c.loop-argument.argument-index in
    let there = slice_get_read xs (length xs) i c.argument-item.result refl c.loop-argument-test.true c.argument-item.is in
    let less = less_before given_word xs i (Number c.in-Number.number) c.in-Number.number (there ∙ ap (λ (v : Value). Some v) c.in-Number.is) refl in
    let held = ap length c.loop-argument.invariant.items in
    let given : length (filter_map given_word xs) ≤ c.args.count = c.requires.given in
    let counted : vec_len c.loop-argument.slots ≡ length c.loop-argument.slots.items = grind (arith, common_steps) in
    omega (arith, less, held, given, counted, c.loop-argument.invariant.capacity)

-- so many of them are references at most
few_references : (n : ℕ) (xs : List Value) (i : ℕ) → n ≡ length (references_in (filter_map given_address (take i xs))) → length xs ≤ 256 → n ≤ 256
few_references n xs i is most =
    let few = arguments_few (take i xs) in
    let short = length-take i xs in
    omega (arith, few, short, is, most)

pub overflow_add-references : goal.overflow_add-references
overflow_add-references c =
    let few = few_references c.loop-argument.references c.args.arguments.now c.loop-argument.argument-index c.loop-argument.invariant.references c.requires.few in
    omega (arith, few)

pub loop-argument-preserved : goal.loop-argument-preserved
loop-argument-preserved c =
    let xs = c.args.arguments.now in
    let i = c.loop-argument.argument-index in
    let there = slice_get_read xs (length xs) i c.argument-item.result refl c.loop-argument-test.true c.argument-item.is in
    record {
      items = elim c.match-argument.branch as (λ w. c.match-argument.slots.items ≡ filter_map given_word (take (i + 1) xs)) [
        | in-Number w ↦
            let at = there ∙ ap (λ (v : Value). Some v) w.in-Number.is in
            ap (λ v. v.items) w.slots-is ∙ w.push_reserved.ensures.items ∙ ap (λ (l : List ℕ). l ++ w.in-Number.number ∷ []) c.loop-argument.invariant.items
            ∙ sym (given_more given_word xs i (Number w.in-Number.number) at)
        | in-Null w ↦
            let at = there ∙ ap (λ (v : Value). Some v) w.in-Null.is in
            ap (λ v. v.items) w.slots-is ∙ c.loop-argument.invariant.items ∙ sym (append-nil _) ∙ sym (given_more given_word xs i Null at)
        | in-Block w ↦
            let at = there ∙ ap (λ (v : Value). Some v) w.in-Block.is in
            ap (λ v. v.items) w.slots-is ∙ c.loop-argument.invariant.items ∙ sym (append-nil _) ∙ sym (given_more given_word xs i (Block w.in-Block.field-0) at)
      ];
      capacity = elim c.match-argument.branch as (λ w. c.args.count ≤ vec_capacity c.match-argument.slots) [
        | in-Number w ↦
            let is = ap vec_capacity w.slots-is in
            omega (arith, is, w.push_reserved.ensures.capacity, c.loop-argument.invariant.capacity)
        | in-Null w ↦ let is = ap vec_capacity w.slots-is in omega (arith, is, c.loop-argument.invariant.capacity)
        | in-Block w ↦ let is = ap vec_capacity w.slots-is in omega (arith, is, c.loop-argument.invariant.capacity)
      ];
      references = elim c.match-argument.branch as (λ w. c.match-argument.references ≡ length (references_in (filter_map given_address (take (i + 1) xs)))) [
        | in-Number w ↦
            w.references-is ∙ c.loop-argument.invariant.references ∙ sym (counted_more xs i (Number w.in-Number.number) (there ∙ ap (λ (v : Value). Some v) w.in-Number.is) ∙ plus_zero _)
        | in-Null w ↦
            w.references-is ∙ c.loop-argument.invariant.references ∙ sym (counted_more xs i Null (there ∙ ap (λ (v : Value). Some v) w.in-Null.is) ∙ plus_zero _)
        | in-Block w ↦
            w.references-is ∙ ap (λ (n : ℕ). n + 1) c.loop-argument.invariant.references
            ∙ sym (counted_more xs i (Block w.in-Block.field-0) (there ∙ ap (λ (v : Value). Some v) w.in-Block.is))
      ];
    }
  where
    plus_zero : (n : ℕ) → n + 0 ≡ n
    plus_zero n = omega arith

pub returns-clause-references : goal.returns-clause-references
returns-clause-references c =
    let xs = c.args.arguments.now in
    c.loop-argument.invariant.references ∙ ap (λ (l : List Value). length (references_in (filter_map given_address l))) (take_all c.loop-argument.argument-index xs c.loop-argument-test.false)

pub returns-clause-few : goal.returns-clause-few
returns-clause-few c = few_references c.loop-argument.references c.args.arguments.now c.loop-argument.argument-index c.loop-argument.invariant.references c.requires.few
