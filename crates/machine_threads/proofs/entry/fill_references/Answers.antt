use Rattle.std.proofs.Common.{◌≡◌, ℕ, zero, suc, ◌+◌, ◌-◌, ◌≤◌, ◌<◌, List, [], ◌∷◌, ◌++◌, Option, Some, None, filter_map, length, replicate, take, get_or, refl, sym, ap, ◌∙◌, subst, arith, append-nil, length-append}
use Rattle.std.specs.Prelude.{slice_get, vec_len, vec_capacity}
use Rattle.std.specs.Option.{IsSome}
use Rattle.std.proofs.lemmas.List.{length-replicate, take_all}
use Rattle.std.proofs.lemmas.Grind.{common_steps}
use Rattle.std.proofs.lemmas.Option.{slice_get_read}
use Rattle.heap.specs.declared.value.Value.{Value}
use Rattle.heap.specs.declared.value.Value.TheVariants.{Number, Null, Block}
use Rattle.tables.specs.Locals.{LocalTable, has_room, IsMade}
use Rattle.tables.specs.References.{references_in}
use Rattle.machine_threads.specs.Entry.{given_address, keys_from}
use Rattle.machine_threads.proofs.EntryTables.{keys_after, one_frame, adds_one, room_in_one}
use Rattle.machine_threads.proofs.FirstReferences.{less_before, keys_of_nulls, references_of_nulls, keys_counted, key_more, reference_more, references_before}
use Rattle.machine_threads.proofs.entry.fill_references.Goals.{in-Number, in-Null, in-Block}
use Rattle.machine_threads.proofs.entry.fill_references.Goals as goal

is_there : (xs : List ℕ) (i : ℕ) → i < length xs → IsSome (slice_get xs i)
is_there [] i less = absurd (omega (arith, less))
is_there (x ∷ xs) zero less = refl
is_there (x ∷ xs) (suc i) less = is_there xs i (omega (arith, less))

pub unwrap-object-requires : goal.unwrap-object-requires
unwrap-object-requires c =
    let class = c.requires.class in
    let less : c.args.next.now.class.number - 1 < length c.args.loaded.now = omega (arith, class.0, class.1) in
    subst IsSome (sym (c.object_of.ensures ∙ ap (λ (n : ℕ). slice_get c.args.loaded.now (n - 1)) c.of_class.ensures)) (is_there c.args.loaded.now (c.args.next.now.class.number - 1) less)

pub make_in_room-key-requires : goal.make_in_room-key-requires
make_in_room-key-requires c =
    let capacity : ℕ = length (references_in (filter_map given_address c.args.next.now.arguments.items)) + 17 in
    ap has_room c.requires.frame ∙ room_in_one capacity [] (omega arith)

pub push_reserved-requires : goal.push_reserved-requires
push_reserved-requires c =
    let none : vec_len c.clear.new.self ≡ 0 = c.clear.ensures.len in
    let some : length (filter_map given_address c.args.next.now.arguments.items) < c.args.count = c.requires.given in
    omega (arith, none, some, c.clear.ensures.capacity, c.requires.room)

-- the argument that a turn reads
read_there : (xs seen : List Value) (i : ℕ) (x : Value) → seen ≡ xs → i < length seen → x ≡ get_or seen i x → slice_get xs i ≡ Some x
read_there xs seen i x same less is = ap (λ (l : List Value). slice_get l i) (sym same) ∙ slice_get_read seen (length seen) i x refl less is

-- the addresses before an argument
abbrev so_far : Option ℕ → List Value → ℕ → List (Option ℕ)
so_far o xs i = o ∷ filter_map given_address (take i xs)

one_at_most : (o : Option ℕ) (xs : List (Option ℕ)) → length (references_in (o ∷ xs)) ≤ suc (length (references_in xs))
one_at_most None xs = omega arith
one_at_most (Some a) xs = omega arith

-- room for a further key
room_for : (keys : List (Option ℕ)) (first : Option ℕ) (xs : List Value) (i : ℕ) (x : Value) (o : Option ℕ) (len count capacity : ℕ) → keys ≡ keys_from 0 (so_far first xs i) → slice_get xs i ≡ Some x → given_address x ≡ Some o → len ≡ length keys → length (filter_map given_address xs) < count → count ≤ capacity → len < capacity
room_for keys first xs i x o len count capacity held at is counted given room =
    let less = less_before given_address xs i x o at is in
    let all = ap length held ∙ keys_counted 0 (so_far first xs i) in
    omega (arith, less, all, counted, given, room)

pub make_in_room-key-requires-in-Block : goal.make_in_room-key-requires-in-Block
make_in_room-key-requires-in-Block c =
    let xs = c.args.next.now.arguments.items in
    let i = c.loop-argument.argument-index in
    let capacity : ℕ = length (references_in (filter_map given_address xs)) + 17 in
    let object : Option ℕ = slice_get c.args.loaded.now (c.args.next.now.class.number - 1) in
    let less = references_before xs i in
    let one = one_at_most object (filter_map given_address (take i xs)) in
    ap has_room c.loop-argument.invariant.table ∙ room_in_one capacity (references_in (so_far object xs i)) (omega (arith, less, one))

pub push_reserved-requires-in-Null : goal.push_reserved-requires-in-Null
push_reserved-requires-in-Null c =
    let xs = c.args.next.now.arguments.items in
    let i = c.loop-argument.argument-index in
    let there = read_there xs c.deref-argument-items.result.now i c.argument-item.result c.deref-argument-items.ensures.value c.loop-argument-test.true c.argument-item.is in
    room_for c.loop-argument.keys.items (slice_get c.args.loaded.now (c.args.next.now.class.number - 1)) xs i Null None (vec_len c.loop-argument.keys) c.args.count (vec_capacity c.loop-argument.keys)
    c.loop-argument.invariant.keys (there ∙ ap (λ (v : Value). Some v) c.in-Null.is) refl (grind (arith, common_steps)) c.requires.given c.loop-argument.invariant.capacity

pub push_reserved-requires-in-Block : goal.push_reserved-requires-in-Block
push_reserved-requires-in-Block c =
    let xs = c.args.next.now.arguments.items in
    let i = c.loop-argument.argument-index in
    let there = read_there xs c.deref-argument-items.result.now i c.argument-item.result c.deref-argument-items.ensures.value c.loop-argument-test.true c.argument-item.is in
    room_for c.loop-argument.keys.items (slice_get c.args.loaded.now (c.args.next.now.class.number - 1)) xs i (Block c.in-Block.addr) (Some c.in-Block.addr) (vec_len c.loop-argument.keys) c.args.count (vec_capacity c.loop-argument.keys)
    c.loop-argument.invariant.keys (there ∙ ap (λ (v : Value). Some v) c.in-Block.is) refl (grind (arith, common_steps)) c.requires.given c.loop-argument.invariant.capacity

-- the keys with a further one
null_key : (object : Option ℕ) (xs : List Value) (i : ℕ) → slice_get xs i ≡ Some Null → keys_from 0 (so_far object xs (i + 1)) ≡ keys_from 0 (so_far object xs i) ++ None ∷ []
null_key object xs i at = key_more object xs i Null at ∙ keys_after 0 (so_far object xs i) None

next_key : (object : Option ℕ) (xs : List Value) (i a : ℕ) → slice_get xs i ≡ Some (Block a) → keys_from 0 (so_far object xs (i + 1)) ≡ keys_from 0 (so_far object xs i) ++ Some (length (references_in (so_far object xs i))) ∷ []
next_key object xs i a at =
    let same : 0 + length (references_in (so_far object xs i)) ≡ length (references_in (so_far object xs i)) = omega arith in
    key_more object xs i (Block a) at ∙ keys_after 0 (so_far object xs i) (Some a) ∙ ap (λ (n : ℕ). keys_from 0 (so_far object xs i) ++ keys_from n (Some a ∷ [])) same

pub loop-argument-preserved : goal.loop-argument-preserved
loop-argument-preserved c =
    let xs = c.args.next.now.arguments.items in
    let i = c.loop-argument.argument-index in
    let object : Option ℕ = slice_get c.args.loaded.now (c.args.next.now.class.number - 1) in
    let capacity : ℕ = length (references_in (filter_map given_address xs)) + 17 in
    let given : List ℕ = references_in (so_far object xs i) in
    let there = read_there xs c.deref-argument-items.result.now i c.argument-item.result c.deref-argument-items.ensures.value c.loop-argument-test.true c.argument-item.is in
    let old = c.loop-argument.invariant in
    record {
      table = elim c.match-argument.branch as (λ w. c.match-argument.locals ≡ one_frame capacity (references_in (so_far object xs (i + 1)))) [
        | in-Number w ↦
            let at = there ∙ ap (λ (v : Value). Some v) w.in-Number.is in
            w.locals-is ∙ old.table ∙ ap (one_frame capacity) (sym (reference_more object xs i (Number w.in-Number.field-0) at ∙ append-nil _))
        | in-Null w ↦
            let at = there ∙ ap (λ (v : Value). Some v) w.in-Null.is in
            w.locals-is ∙ old.table ∙ ap (one_frame capacity) (sym (reference_more object xs i Null at ∙ append-nil _))
        | in-Block w ↦
            let at = there ∙ ap (λ (v : Value). Some v) w.in-Block.is in
            let added = adds_one capacity given w.make_in_room-key-in-Block.result w.in-Block.addr w.make_in_room-key-in-Block.new.self (subst (λ (t : LocalTable). IsMade t w.make_in_room-key-in-Block.result w.in-Block.addr w.make_in_room-key-in-Block.new.self) old.table w.make_in_room-key-in-Block.ensures) in
            w.locals-is ∙ added.after_is ∙ ap (one_frame capacity) (sym (reference_more object xs i (Block w.in-Block.addr) at))
      ];
      keys = elim c.match-argument.branch as (λ w. c.match-argument.keys.items ≡ keys_from 0 (so_far object xs (i + 1))) [
        | in-Number w ↦
            let at = there ∙ ap (λ (v : Value). Some v) w.in-Number.is in
            ap (λ v. v.items) w.keys-is ∙ old.keys ∙ sym (key_more object xs i (Number w.in-Number.field-0) at ∙ ap (λ (l : List (Option ℕ)). keys_from 0 (object ∷ l)) (append-nil _))
        | in-Null w ↦
            let at = there ∙ ap (λ (v : Value). Some v) w.in-Null.is in
            ap (λ v. v.items) w.keys-is ∙ w.push_reserved-in-Null.ensures.items ∙ ap (λ (l : List (Option ℕ)). l ++ None ∷ []) old.keys ∙ sym (null_key object xs i at)
        | in-Block w ↦
            let at = there ∙ ap (λ (v : Value). Some v) w.in-Block.is in
            let added = adds_one capacity given w.make_in_room-key-in-Block.result w.in-Block.addr w.make_in_room-key-in-Block.new.self (subst (λ (t : LocalTable). IsMade t w.make_in_room-key-in-Block.result w.in-Block.addr w.make_in_room-key-in-Block.new.self) old.table w.make_in_room-key-in-Block.ensures) in
            ap (λ v. v.items) w.keys-is ∙ w.push_reserved-in-Block.ensures.items ∙ ap (λ (l : List (Option ℕ)). l ++ Some w.make_in_room-key-in-Block.result ∷ []) old.keys
            ∙ ap (λ (n : ℕ). keys_from 0 (so_far object xs i) ++ Some n ∷ []) added.place_is ∙ sym (next_key object xs i w.in-Block.addr at)
      ];
      capacity = elim c.match-argument.branch as (λ w. c.args.count ≤ vec_capacity c.match-argument.keys) [
        | in-Number w ↦ let is = ap vec_capacity w.keys-is in omega (arith, is, old.capacity)
        | in-Null w ↦ let is = ap vec_capacity w.keys-is in omega (arith, is, w.push_reserved-in-Null.ensures.capacity, old.capacity)
        | in-Block w ↦ let is = ap vec_capacity w.keys-is in omega (arith, is, w.push_reserved-in-Block.ensures.capacity, old.capacity)
      ];
    }

pub loop-argument-init : goal.loop-argument-init
loop-argument-init c =
    let capacity : ℕ = length (references_in (filter_map given_address c.args.next.now.arguments.items)) + 17 in
    let object = c.unwrap-object.result in
    let is : slice_get c.args.loaded.now (c.args.next.now.class.number - 1) ≡ Some object = ap (λ (n : ℕ). slice_get c.args.loaded.now (n - 1)) (sym c.of_class.ensures) ∙ sym c.object_of.ensures ∙ c.unwrap-object.ensures in
    let added = adds_one capacity [] c.make_in_room-key.result object c.make_in_room-key.new.self (subst (λ (t : LocalTable). IsMade t c.make_in_room-key.result object c.make_in_room-key.new.self) c.requires.frame c.make_in_room-key.ensures) in
    record {
      table = added.after_is ∙ ap (λ (o : Option ℕ). one_frame capacity (references_in (o ∷ []))) (sym is);
      keys = c.push_reserved.ensures.items ∙ ap (λ (l : List (Option ℕ)). l ++ Some c.make_in_room-key.result ∷ []) c.clear.ensures.items ∙ ap (λ (n : ℕ). Some n ∷ []) added.place_is ∙ ap (λ (o : Option ℕ). keys_from 0 (o ∷ [])) (sym is);
      capacity = omega (arith, c.clear.ensures.capacity, c.push_reserved.ensures.capacity, c.requires.room);
    }

pub add_nulls-requires-clause-given : goal.add_nulls-requires-clause-given
add_nulls-requires-clause-given c =
    let xs = c.args.next.now.arguments.items in
    let given : List (Option ℕ) = filter_map given_address xs in
    let object : Option ℕ = slice_get c.args.loaded.now (c.args.next.now.class.number - 1) in
    let whole : take c.loop-argument.argument-index xs ≡ xs = take_all c.loop-argument.argument-index xs (subst (λ (l : List Value). length l ≤ c.loop-argument.argument-index) c.deref-argument-items.ensures.value c.loop-argument-test.false) in
    let keys : c.loop-argument.keys.items ≡ keys_from 0 (object ∷ given) = c.loop-argument.invariant.keys ∙ ap (λ (l : List Value). keys_from 0 (object ∷ filter_map given_address l)) whole in
    let counted : length c.loop-argument.keys.items ≡ length (object ∷ given) = ap length keys ∙ keys_counted 0 (object ∷ given) in
    let few : length given < c.args.count = c.requires.given in
    omega (arith, counted, few)

pub returns : goal.returns
returns c =
    let xs = c.args.next.now.arguments.items in
    let i = c.loop-argument.argument-index in
    let given : List (Option ℕ) = filter_map given_address xs in
    let capacity : ℕ = length (references_in given) + 17 in
    let object : Option ℕ = slice_get c.args.loaded.now (c.args.next.now.class.number - 1) in
    let is : object ≡ Some c.unwrap-object.result = ap (λ (n : ℕ). slice_get c.args.loaded.now (n - 1)) (sym c.of_class.ensures) ∙ sym c.object_of.ensures ∙ c.unwrap-object.ensures in
    let whole : take i xs ≡ xs = take_all i xs (subst (λ (l : List Value). length l ≤ i) c.deref-argument-items.ensures.value c.loop-argument-test.false) in
    let all : List (Option ℕ) = object ∷ given in
    let keys : c.loop-argument.keys.items ≡ keys_from 0 all = c.loop-argument.invariant.keys ∙ ap (λ (l : List Value). keys_from 0 (object ∷ filter_map given_address l)) whole in
    let table : c.loop-argument.locals ≡ one_frame capacity (references_in all) = c.loop-argument.invariant.table ∙ ap (λ (l : List Value). one_frame capacity (references_in (object ∷ filter_map given_address l))) whole in
    let longer : length c.loop-argument.keys.items ≡ length all = ap length keys ∙ keys_counted 0 all in
    let few : length given < c.args.count = c.requires.given in
    let more : ℕ = c.args.count - length c.loop-argument.keys.items in
    let missing : List (Option ℕ) = replicate more None in
    let one_more : capacity ≡ suc (length (references_in given)) + 16 = omega arith in
    let room : capacity ≡ length (references_in all) + 16 = one_more ∙ ap (λ (o : Option ℕ). length (references_in (o ∷ given)) + 16) (sym is) in
    let nulls : references_in (all ++ missing) ≡ references_in all = references_of_nulls all more in
    let together : length (given ++ missing) ≡ length given + length missing = length-append given missing in
    let others : length missing ≡ more = length-replicate more None in
    record {
      addresses = all ++ missing;
      given = record {
        counted = omega (arith, together, others, longer, few);
        more = more;
        given = refl;
      };
      made = table ∙ ap (λ (n : ℕ). one_frame n (references_in all)) room ∙ ap (λ (l : List ℕ). one_frame (length l + 16) l) (sym nulls);
      held = c.add_nulls.ensures ∙ ap (λ (l : List (Option ℕ)). l ++ missing) keys ∙ sym (keys_of_nulls 0 all more);
    }
