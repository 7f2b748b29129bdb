use Rattle.std.proofs.Common.{◌≡◌, ℕ, suc, ◌+◌, ◌<◌, true, false, List, [], ◌∷◌, ◌++◌, length, map, Option, Some, None, sym, ap, ◌∙◌, subst, arith}
use Rattle.std.specs.Prelude.{slice_get, slice_index_or, IsSome}
use Rattle.std.specs.Option.{option_map}
use Rattle.std.proofs.lemmas.List.{length-map}
use Rattle.std.proofs.lemmas.Option.{slice_get-map, slice_get-get_or}
use Rattle.base.proofs.Lists.{all_at}
use Rattle.heap.specs.declared.value.Value.TheVariants.{Null}
use Rattle.heap.specs.Heap.{Space, end_of, fresh_block, with_block, with_value, values_at}
use Rattle.heap.specs.Marks.{Marks, with_new}
use Rattle.semantics.specs.Object.{ObjectValue}
use Rattle.world_values.specs.CallArguments.{is_argument}
use Rattle.semantics.specs.declared.object_value.ObjectValue.{ObjectValue as InMemory}
use Rattle.world_values.specs.Views.{object_value_view}
use Rattle.machine_threads.specs.Held.{held_value}
use Rattle.machine_scenes.proofs.FilledBlocks.{filled_block, filled_fresh, filled_within, filled_more, quiet_unmarked}
use Rattle.machine_threads.proofs.FilledObjects.{filled_made}
use Rattle.machine_threads.proofs.objects.make.Goals as goal

-- the value that is read
value_read : (xs : List InMemory) (i : ℕ) (d : InMemory) → i < length xs → slice_get (map object_value_view xs) i ≡ Some (object_value_view (slice_index_or xs i d))
value_read xs i d l = slice_get-map object_value_view xs i ∙ ap (option_map object_value_view) (slice_get-get_or xs i d l)

-- and how it is held
value_held : (addresses : List ℕ) (xs : List InMemory) (i : ℕ) (d : InMemory) → i < length xs → slice_get (map (held_value addresses) (map object_value_view xs)) i ≡ Some (held_value addresses (object_value_view (slice_index_or xs i d)))
value_held addresses xs i d l = slice_get-map (held_value addresses) (map object_value_view xs) i ∙ ap (option_map (held_value addresses)) (value_read xs i d l)

pub loop-place-init : goal.loop-place-init
loop-place-init c =
    let s = c.args.heap.now in
    let address : c.unwrap-addr.result ≡ end_of s = rw c.unwrap-addr.ensures at (c.alloc.ensures.address) in
    let count : c.len.result ≡ length c.args.loaded.now.items = omega (arith, c.len.ensures, ap length c.in_ok-reserve.ensures.items) in
    let vs = map object_value_view c.args.values.now in
    let held = map (held_value c.args.loaded.now.items) vs in
    let long : length c.args.values.now ≡ length held = sym (length-map vs (held_value c.args.loaded.now.items) ∙ length-map c.args.values.now object_value_view) in
    let made = rw c.unwrap-addr.ensures at (c.alloc.ensures.block) in
    made
    ∙ ap (λ (a : ℕ). with_block s (fresh_block a c.args.class.number (c.len.result + 1) (length c.args.values.now) Null)) address
    ∙ ap (λ (n : ℕ). with_block s (fresh_block (end_of s) c.args.class.number (n + 1) (length c.args.values.now) Null)) count
    ∙ filled_fresh s c.args.class.number (length c.args.loaded.now.items + 1) (length c.args.values.now) held long

pub held-requires : goal.held-requires
held-requires c =
    let xs = c.args.values.now in
    let i = c.loop-place.place in
    let same : length c.args.loaded.now.items ≡ length c.deref.result.now = sym (ap length (c.deref.ensures.value ∙ c.in_ok-reserve.ensures.items)) in
    subst (λ n. is_argument n (object_value_view (slice_index_or xs i (InMemory.Number (lib.IntN.pos 0)))) ≡ true) same
    (all_at (is_argument (length c.args.loaded.now.items)) (map object_value_view xs) i _ c.requires.given (value_read xs i _ c.loop-place-test.true))

pub set-requires-clause-place : goal.set-requires-clause-place
set-requires-clause-place c =
    let s = c.args.heap.now in
    let vs = map object_value_view c.args.values.now in
    let held = map (held_value c.args.loaded.now.items) vs in
    let birth = length c.args.loaded.now.items + 1 in
    let address : c.unwrap-addr.result ≡ end_of s = rw c.unwrap-addr.ensures at (c.alloc.ensures.address) in
    let there : length (values_at c.loop-place.heap c.unwrap-addr.result) ≡ length held =
    ap (λ (a : ℕ). length (values_at c.loop-place.heap a)) address
    ∙ ap (λ (t : Space). length (values_at t (end_of s))) c.loop-place.invariant
    ∙ filled_within s c.args.class.number birth held c.loop-place.place c.requires.laid_out in
    let long = length-map vs (held_value c.args.loaded.now.items) ∙ length-map c.args.values.now object_value_view in
    omega (arith, c.loop-place-test.true)

pub set-requires-clause-target : goal.set-requires-clause-target
set-requires-clause-target c some b is =
    let none : c.loop-place.heap.marking ≡ None = ap (λ (t : Space). t.marking) c.loop-place.invariant ∙ ap (option_map (with_new (end_of c.args.heap.now))) c.requires.unmarked in
    absurd (let no : false ≡ true = subst (λ (o : Option Marks). IsSome o) none some in cc)

pub loop-place-preserved : goal.loop-place-preserved
loop-place-preserved c =
    let s = c.args.heap.now in
    let xs = c.args.values.now in
    let i = c.loop-place.place in
    let loaded = c.args.loaded.now.items in
    let held = map (held_value loaded) (map object_value_view xs) in
    let birth = length loaded + 1 in
    let v : ObjectValue = object_value_view (slice_index_or xs i (InMemory.Number (lib.IntN.pos 0))) in
    let address : c.unwrap-addr.result ≡ end_of s = rw c.unwrap-addr.ensures at (c.alloc.ensures.address) in
    let value : c.held.result ≡ held_value loaded v = c.held.ensures ∙ ap (λ (a : List ℕ). held_value a v) (c.deref.ensures.value ∙ c.in_ok-reserve.ensures.items) in
    let next : suc i ≡ i + 1 = omega arith in
    c.set.ensures
    ∙ ap (λ (t : Space). with_value t c.unwrap-addr.result i c.held.result) c.loop-place.invariant
    ∙ ap (λ (a : ℕ). with_value (with_block s (filled_block s c.args.class.number birth held i)) a i c.held.result) address
    ∙ ap (λ w. with_value (with_block s (filled_block s c.args.class.number birth held i)) (end_of s) i w) value
    ∙ filled_more s c.args.class.number birth held i (held_value loaded v) c.requires.laid_out (value_held loaded xs i _ c.loop-place-test.true) (quiet_unmarked s (held_value loaded v) c.requires.unmarked)
    ∙ ap (λ (k : ℕ). with_block s (filled_block s c.args.class.number birth held k)) next

pub returns-clause-made : goal.returns-clause-made
returns-clause-made c objects h =
    let s = c.args.heap.now in
    let loaded = c.args.loaded.now.items in
    let vs = map object_value_view c.args.values.now in
    let long = length-map c.args.values.now object_value_view in
    let address : c.unwrap-addr.result ≡ end_of s = rw c.unwrap-addr.ensures at (c.alloc.ensures.address) in
    let table : c.push.new.self.items ≡ loaded ++ end_of s ∷ [] =
    (rw c.unwrap.ensures at c.push.ensures.items)
    ∙ ap (λ (l : List ℕ). l ++ c.unwrap-addr.result ∷ []) c.in_ok-reserve.ensures.items
    ∙ ap (λ (a : ℕ). loaded ++ a ∷ []) address in
    let room = c.requires.room in
    let all = c.loop-place-test.false in
    rw (c.loop-place.invariant, table) (filled_made s loaded objects c.args.class.number c.loop-place.place vs h (omega arith) c.requires.given (omega arith))
