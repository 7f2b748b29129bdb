-- What the effects of instructions have in common.
use Rattle.std.proofs.Common.{◌≡◌, ℕ, ◌+◌, ◌<◌, ◌≤◌, Bool, true, false, ◌&&◌, cond, List, [], ◌∷◌, ◌++◌, length, take, drop, replicate, Option, Some, None, Result, Ok, Err, refl, arith, length-append}
use Rattle.std.specs.Prelude.{slice_get, slice_set, nat_lt, nat_le, IsSome, ◌==◌}
use Rattle.std.specs.Option.{option_map}
use Rattle.std.proofs.lemmas.Bool.{ltb-true, leb-true, lt-ltb, le-leb, and_parts}
use Rattle.std.proofs.lemmas.List.{length-set, length-take, length-drop, length-replicate}
use Rattle.std.proofs.lemmas.Option.{slice_get-get_or}
use Rattle.code.specs.declared.instr.Instr.{Instr}
use Rattle.code.specs.declared.instr.Instr.TheVariants as instr
use Rattle.code.specs.declared.instr.LocalArray.{LocalArray}
use Rattle.code.specs.declared.instr.Plain.TheVariants as path
use Rattle.code.specs.declared.instr.PlainTrap.{PlainTrap}
use Rattle.code.specs.declared.slots.SlotCounts.{SlotCounts}
use Rattle.code.specs.Depth.{depth_after, array_within, within_slots}
use Rattle.code.specs.Effect.{Effect, operate_or_trap, operated, element_word, number_stored, cleared, plain_of, IsPlain}

-- ---- the number of slots stays

abbrev pub KeepsSlots : (numbers : List ℕ) → Option Effect → Type 0
KeepsSlots numbers None = Unit {0}
KeepsSlots numbers (Some e) = length e.2 ≡ length numbers

loaded_keeps : (stack numbers : List ℕ) (o : Option ℕ) → KeepsSlots numbers (option_map {U = Effect} (λ (n : ℕ). (path.Next, n ∷ stack, numbers)) o)
loaded_keeps stack numbers None = tt
loaded_keeps stack numbers (Some n) = refl

stored_keeps : (slot n : ℕ) (stack numbers : List ℕ) → KeepsSlots numbers (number_stored slot n stack numbers)
stored_keeps slot n stack numbers = elim (nat_lt slot (length numbers)) as (λ b. KeepsSlots numbers (cond b (Some (path.Next, stack, slice_set numbers slot n)) None)) [ true ↦ length-set numbers slot n | false ↦ tt ]

operated_keeps : (line : ℕ) (before stack numbers : List ℕ) (r : Result ℕ PlainTrap) → KeepsSlots numbers (Some (operated line before stack numbers r))
operated_keeps line before stack numbers (Ok n) = refl
operated_keeps line before stack numbers (Err trap) = refl

-- one of two effects that keep the slots
either_keeps : (b : Bool) (e f : Effect) (numbers : List ℕ) → length e.2 ≡ length numbers → length f.2 ≡ length numbers → KeepsSlots numbers (Some (cond b e f))
either_keeps true e f numbers h k = h
either_keeps false e f numbers h k = k

one_keeps : (b : Bool) (e f : Option Effect) (numbers : List ℕ) → KeepsSlots numbers e → KeepsSlots numbers f → KeepsSlots numbers (cond b e f)
one_keeps true e f numbers h k = h
one_keeps false e f numbers h k = k

length-cleared : (array : LocalArray) (numbers : List ℕ) → array.start + array.len ≤ length numbers → length (cleared array numbers) ≡ length numbers
length-cleared array numbers h =
    omega (
      arith,
      length-append (take array.start numbers) (replicate array.len 0 ++ drop (array.start + array.len) numbers),
      length-append (replicate array.len 0) (drop (array.start + array.len) numbers),
      length-take array.start numbers,
      length-replicate {A = ℕ} array.len 0,
      length-drop (array.start + array.len) numbers,
    )

cleared_keeps : (array : LocalArray) (stack numbers : List ℕ) (b : Bool) → nat_le (array.start + array.len) (length numbers) ≡ b → KeepsSlots numbers (cond b (Some (path.Next, stack, cleared array numbers)) None)
cleared_keeps array stack numbers true h = length-cleared array numbers (leb-true (array.start + array.len) (length numbers) h)
cleared_keeps array stack numbers false h = tt

pub plain_keeps : (i : Instr) (stack numbers : List ℕ) → KeepsSlots numbers (plain_of i stack numbers)
plain_keeps (instr.Push n) stack numbers = refl
plain_keeps (instr.Load slot) stack numbers = loaded_keeps stack numbers (slice_get numbers slot)
plain_keeps (instr.Store slot) [] numbers = tt
plain_keeps (instr.Store slot) (n ∷ stack) numbers = stored_keeps slot n stack numbers
plain_keeps instr.Complement [] numbers = tt
plain_keeps instr.Complement (a ∷ stack) numbers = refl
plain_keeps instr.Not [] numbers = tt
plain_keeps instr.Not (a ∷ stack) numbers = refl
plain_keeps instr.Convert [] numbers = tt
plain_keeps instr.Convert (a ∷ stack) numbers = refl
plain_keeps (instr.Operate operator) [] numbers = tt
plain_keeps (instr.Operate operator) (b ∷ []) numbers = tt
plain_keeps (instr.Operate operator) (b ∷ a ∷ stack) numbers = refl
plain_keeps (instr.OperateOrTrap operator line) [] numbers = tt
plain_keeps (instr.OperateOrTrap operator line) (b ∷ []) numbers = tt
plain_keeps (instr.OperateOrTrap operator line) (b ∷ a ∷ stack) numbers = operated_keeps line (b ∷ a ∷ stack) stack numbers (operate_or_trap operator a b)
plain_keeps (instr.JumpIfFalseOrPop n) [] numbers = tt
plain_keeps (instr.JumpIfFalseOrPop n) (a ∷ stack) numbers = either_keeps (a == 0) (path.Skip n, a ∷ stack, numbers) (path.Next, stack, numbers) numbers refl refl
plain_keeps (instr.JumpIfTrueOrPop n) [] numbers = tt
plain_keeps (instr.JumpIfTrueOrPop n) (a ∷ stack) numbers = either_keeps (a == 0) (path.Next, stack, numbers) (path.Skip n, a ∷ stack, numbers) numbers refl refl
plain_keeps (instr.JumpIfFalse n) [] numbers = tt
plain_keeps (instr.JumpIfFalse n) (a ∷ stack) numbers = either_keeps (a == 0) (path.Skip n, stack, numbers) (path.Next, stack, numbers) numbers refl refl
plain_keeps (instr.Jump n) stack numbers = refl
plain_keeps (instr.JumpBack n) stack numbers = refl
plain_keeps (instr.LoadElement array line) [] numbers = tt
plain_keeps (instr.LoadElement array line) (index ∷ stack) numbers = one_keeps (nat_lt index array.len) _ _ numbers (loaded_keeps stack numbers (slice_get numbers (array.start + index))) refl
plain_keeps (instr.StoreElement type array line) [] numbers = tt
plain_keeps (instr.StoreElement type array line) (word ∷ []) numbers = tt
plain_keeps (instr.StoreElement type array line) (word ∷ index ∷ stack) numbers = one_keeps (nat_lt index array.len) _ _ numbers (stored_keeps (array.start + index) (element_word type word) stack numbers) refl
plain_keeps (instr.ClearArray array) stack numbers = cleared_keeps array stack numbers (nat_le (array.start + array.len) (length numbers)) refl
plain_keeps (instr.LoadBuffer slot line) stack numbers = tt
plain_keeps (instr.StoreBuffer type slot line) stack numbers = tt
plain_keeps (instr.TestNull variable equal) stack numbers = tt
plain_keeps (instr.StoreNull variable) stack numbers = tt
plain_keeps instr.PutJint stack numbers = tt
plain_keeps (instr.Call call) stack numbers = tt
plain_keeps instr.Return stack numbers = tt
plain_keeps instr.ReturnJint stack numbers = tt
plain_keeps (instr.ReturnReference operand) stack numbers = tt

-- ---- an effect is there

array_inside : (numbers : ℕ) (array : LocalArray) → array_within numbers array ≡ true → array.start + array.len ≤ numbers
array_inside numbers array h = leb-true (array.start + array.len) numbers ((and_parts (nat_lt 0 array.len && nat_le array.len 1024) (nat_le (array.start + array.len) numbers) h).1)

load_there : (slot : ℕ) (stack numbers : List ℕ) → slot < length numbers → IsSome (option_map {U = Effect} (λ (n : ℕ). (path.Next, n ∷ stack, numbers)) (slice_get numbers slot))
load_there slot stack numbers h = rw (slice_get-get_or numbers slot 0 h) refl

store_there : (slot n : ℕ) (stack numbers : List ℕ) → slot < length numbers → IsSome (number_stored slot n stack numbers)
store_there slot n stack numbers h = rw (lt-ltb slot (length numbers) h) refl

-- inside an array, or a trap
one_there : (index len : ℕ) (e : Option Effect) (f : Effect) → (index < len → IsSome e) → (b : Bool) → nat_lt index len ≡ b → IsSome (cond b e (Some f))
one_there index len e f h true k = h (ltb-true index len k)
one_there index len e f h false k = refl

pub plain_there : (slots : SlotCounts) (i : Instr) (stack numbers : List ℕ) (after : ℕ) → IsPlain i → within_slots slots i ≡ true → length numbers ≡ slots.numbers → depth_after i (length stack) ≡ Some after → IsSome (plain_of i stack numbers)
plain_there slots (instr.Push n) stack numbers after p w l h = refl
plain_there slots (instr.Load slot) stack numbers after p w l h = let inside : slot < slots.numbers = ltb-true slot slots.numbers w in load_there slot stack numbers (omega arith)
plain_there slots (instr.Store slot) [] numbers after p w l h = absurd (cc)
plain_there slots (instr.Store slot) (n ∷ stack) numbers after p w l h = let inside : slot < slots.numbers = ltb-true slot slots.numbers w in store_there slot n stack numbers (omega arith)
plain_there slots instr.Complement [] numbers after p w l h = absurd (cc)
plain_there slots instr.Complement (a ∷ stack) numbers after p w l h = refl
plain_there slots instr.Not [] numbers after p w l h = absurd (cc)
plain_there slots instr.Not (a ∷ stack) numbers after p w l h = refl
plain_there slots instr.Convert [] numbers after p w l h = absurd (cc)
plain_there slots instr.Convert (a ∷ stack) numbers after p w l h = refl
plain_there slots (instr.Operate operator) [] numbers after p w l h = absurd (cc)
plain_there slots (instr.Operate operator) (b ∷ []) numbers after p w l h = absurd (cc)
plain_there slots (instr.Operate operator) (b ∷ a ∷ stack) numbers after p w l h = refl
plain_there slots (instr.OperateOrTrap operator line) [] numbers after p w l h = absurd (cc)
plain_there slots (instr.OperateOrTrap operator line) (b ∷ []) numbers after p w l h = absurd (cc)
plain_there slots (instr.OperateOrTrap operator line) (b ∷ a ∷ stack) numbers after p w l h = refl
plain_there slots (instr.JumpIfFalseOrPop n) [] numbers after p w l h = absurd (cc)
plain_there slots (instr.JumpIfFalseOrPop n) (a ∷ stack) numbers after p w l h = refl
plain_there slots (instr.JumpIfTrueOrPop n) [] numbers after p w l h = absurd (cc)
plain_there slots (instr.JumpIfTrueOrPop n) (a ∷ stack) numbers after p w l h = refl
plain_there slots (instr.JumpIfFalse n) [] numbers after p w l h = absurd (cc)
plain_there slots (instr.JumpIfFalse n) (a ∷ stack) numbers after p w l h = refl
plain_there slots (instr.Jump n) stack numbers after p w l h = refl
plain_there slots (instr.JumpBack n) stack numbers after p w l h = refl
plain_there slots (instr.LoadElement array line) [] numbers after p w l h = absurd (cc)
plain_there slots (instr.LoadElement array line) (index ∷ stack) numbers after p w l h =
    let inside = array_inside slots.numbers array w in
    one_there index array.len _ _ (λ k. load_there (array.start + index) stack numbers (omega arith)) (nat_lt index array.len) refl
plain_there slots (instr.StoreElement type array line) [] numbers after p w l h = absurd (cc)
plain_there slots (instr.StoreElement type array line) (word ∷ []) numbers after p w l h = absurd (cc)
plain_there slots (instr.StoreElement type array line) (word ∷ index ∷ stack) numbers after p w l h =
    let inside = array_inside slots.numbers array w in
    one_there index array.len _ _ (λ k. store_there (array.start + index) (element_word type word) stack numbers (omega arith)) (nat_lt index array.len) refl
plain_there slots (instr.ClearArray array) stack numbers after p w l h =
    let inside = array_inside slots.numbers array w in
    rw (le-leb (array.start + array.len) (length numbers) (omega arith)) refl
plain_there slots (instr.LoadBuffer slot line) stack numbers after p w l h = absurd p
plain_there slots (instr.StoreBuffer type slot line) stack numbers after p w l h = absurd p
plain_there slots (instr.TestNull variable equal) stack numbers after p w l h = absurd p
plain_there slots (instr.StoreNull variable) stack numbers after p w l h = absurd p
plain_there slots instr.PutJint stack numbers after p w l h = absurd p
plain_there slots (instr.Call call) stack numbers after p w l h = absurd p
plain_there slots instr.Return stack numbers after p w l h = absurd p
plain_there slots instr.ReturnJint stack numbers after p w l h = absurd p
plain_there slots (instr.ReturnReference operand) stack numbers after p w l h = absurd p
