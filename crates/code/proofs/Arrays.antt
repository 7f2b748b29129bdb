-- What the number slots hold of an array that is declared or written.
use Rattle.std.proofs.Common.{◌≡◌, ℕ, zero, suc, ◌+◌, ◌-◌, ◌<◌, ◌≤◌, List, [], ◌∷◌, ◌++◌, length, take, drop, replicate, Some, refl, sym, ap, ◌∙◌, arith}
use Rattle.std.specs.Prelude.{slice_get}
use Rattle.std.proofs.lemmas.List.{length-take-le, length-replicate}
use Rattle.base.proofs.Lists.{get_left, get_right}
use Rattle.code.specs.declared.instr.LocalArray.{LocalArray}
use Rattle.code.specs.Effect.{cleared}

get_take : {X : Type 0} (n : ℕ) (a : List X) (place : ℕ) → place < n → slice_get (take n a) place ≡ slice_get a place
get_take zero a place h = absurd (omega arith)
get_take (suc n) [] place h = refl
get_take (suc n) (x ∷ a) zero h = refl
get_take (suc n) (x ∷ a) (suc place) h = get_take n a place (omega arith)

get_drop : {X : Type 0} (n : ℕ) (a : List X) (place : ℕ) → slice_get (drop n a) place ≡ slice_get a (n + place)
get_drop zero a place = let same : place ≡ 0 + place = omega arith in ap (slice_get a) same
get_drop (suc n) [] place = refl
get_drop (suc n) (x ∷ a) place = let same : suc n + place ≡ suc (n + place) = omega arith in get_drop n a place ∙ ap (slice_get (x ∷ a)) (sym same)

pub get_replicate : {X : Type 0} (n : ℕ) (x : X) (place : ℕ) → place < n → slice_get (replicate n x) place ≡ Some x
get_replicate zero x place h = absurd (omega arith)
get_replicate (suc n) x zero h = refl
get_replicate (suc n) x (suc place) h = get_replicate n x place (omega arith)

-- Slots that an array is in.
module _ (array : LocalArray) (numbers : List ℕ) (inside : array.start + array.len ≤ length numbers) where
  zeros : List ℕ
  zeros = replicate array.len 0

  front_length : length (take array.start numbers) ≡ array.start
  front_length = length-take-le array.start numbers (omega arith)

  -- its elements are zeros
  pub cleared_element : (k : ℕ) → k < array.len → slice_get (cleared array numbers) (array.start + k) ≡ Some 0
  unfolding zeros
  cleared_element k h =
      let front = front_length in
      let size : length zeros ≡ array.len = length-replicate {A = ℕ} array.len 0 in
      let place : array.start + k - length (take array.start numbers) ≡ k = omega arith in
      get_right (take array.start numbers) (zeros ++ drop (array.start + array.len) numbers) (array.start + k) (omega arith) ∙ ap (slice_get (zeros ++ drop (array.start + array.len) numbers)) place
      ∙ get_left zeros (drop (array.start + array.len) numbers) k (omega arith) ∙ get_replicate array.len 0 k h

  -- and the other slots stay
  pub cleared_before : (slot : ℕ) → slot < array.start → slice_get (cleared array numbers) slot ≡ slice_get numbers slot
  cleared_before slot h =
      let front = front_length in
      get_left (take array.start numbers) (replicate array.len 0 ++ drop (array.start + array.len) numbers) slot (omega arith) ∙ get_take array.start numbers slot h

  pub cleared_after : (slot : ℕ) → array.start + array.len ≤ slot → slice_get (cleared array numbers) slot ≡ slice_get numbers slot
  unfolding zeros
  cleared_after slot h =
      let front = front_length in
      let size : length zeros ≡ array.len = length-replicate {A = ℕ} array.len 0 in
      let same : array.start + array.len + (slot - length (take array.start numbers) - length zeros) ≡ slot = omega arith in
      get_right (take array.start numbers) (zeros ++ drop (array.start + array.len) numbers) slot (omega arith)
      ∙ get_right zeros (drop (array.start + array.len) numbers) (slot - length (take array.start numbers)) (omega arith)
      ∙ get_drop (array.start + array.len) numbers (slot - length (take array.start numbers) - length zeros) ∙ ap (slice_get numbers) same
