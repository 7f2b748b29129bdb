-- Marks by address.
use Rattle.std.proofs.Common.{◌≡◌, ℕ, zero, suc, ◌+◌, ◌<◌, ◌≤◌, Bool, true, false, cond, List, [], ◌∷◌, ◌++◌, length, set, ap, arith}
use Rattle.std.proofs.lemmas.List.{length_push, length-set}
use Rattle.heap.specs.Marks.{is_kept}
use Rattle.heap.specs.Marking.{unmarked, HasRoom}

-- a further mark
pub unmarked-set : (ms : List Bool) (a : ℕ) → a < length ms → is_kept ms a ≡ false → unmarked (set ms a true) + 1 ≡ unmarked ms
unmarked-set [] a h unseen = absurd (omega arith)
unmarked-set (m ∷ ms) zero h unseen =
    let e : m ≡ false = unseen in
    let now : cond {A = ℕ} m 0 1 ≡ 1 = ap (λ (b : Bool). cond {A = ℕ} b 0 1) e in
    omega arith
unmarked-set (m ∷ ms) (suc a) h unseen =
    let rest : unmarked (set ms a true) + 1 ≡ unmarked ms = unmarked-set ms a (omega arith) unseen in
    omega arith

-- a mark where there may be one
pub unmarked-less : (ms : List Bool) (a : ℕ) → unmarked (set ms a true) ≤ unmarked ms
unmarked-less [] a = omega arith
unmarked-less (m ∷ ms) zero = omega arith
unmarked-less (m ∷ ms) (suc a) = let rest = unmarked-less ms a in omega arith

pub few_unmarked : (ms : List Bool) → unmarked ms ≤ length ms
few_unmarked [] = omega arith
few_unmarked (true ∷ ms) = let rest = few_unmarked ms in omega arith
few_unmarked (false ∷ ms) = let rest = few_unmarked ms in omega arith

some_unmarked : (ms : List Bool) (a : ℕ) → a < length ms → is_kept ms a ≡ false → 0 < unmarked ms
some_unmarked ms a h unseen = let e = unmarked-set ms a h unseen in omega arith

pub room_to_note : (ms : List Bool) (list : List ℕ) (taken capacity a : ℕ) → HasRoom ms list taken capacity → a < length ms → is_kept ms a ≡ false → length list < capacity
room_to_note ms list taken capacity a h within unseen =
    let some = some_unmarked ms a within unseen in
    omega (arith, h.few, h.room)

pub HasRoom-noted : (ms : List Bool) (list : List ℕ) (taken capacity capacity' a : ℕ) → HasRoom ms list taken capacity → a < length ms → is_kept ms a ≡ false → capacity ≤ capacity' → HasRoom (set ms a true) (list ++ a ∷ []) taken capacity'
HasRoom-noted ms list taken capacity capacity' a h within unseen grows =
    let less = unmarked-set ms a within unseen in
    let count = length-set ms a true in
    let more = length_push list a in
    record {
      few = omega (arith, h.few);
      room = omega (arith, h.room);
      within = omega (arith, h.within);
    }

pub HasRoom-new : (ms : List Bool) (list : List ℕ) (taken capacity a : ℕ) → HasRoom ms list taken capacity → HasRoom (set ms a true) list taken capacity
HasRoom-new ms list taken capacity a h =
    let less = unmarked-less ms a in
    let count = length-set ms a true in
    record {
      few = omega (arith, h.few);
      room = omega (arith, h.room);
      within = h.within;
    }
