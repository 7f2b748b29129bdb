-- An instruction of valid code leads inside.
use Rattle.std.proofs.Common.{◌≡◌, ℕ, zero, suc, ◌+◌, ◌-◌, ◌<◌, ◌≤◌, Bool, true, false, cond, List, [], ◌∷◌, length, Option, Some, None, Result, Ok, Err, refl, sym, ap, ◌∙◌, subst, arith, Bor}
use Rattle.std.specs.Prelude.{slice_get, slice_set, nat_lt, nat_le, IfSome, ◌==◌}
use Rattle.std.specs.List.{list_all}
use Rattle.std.specs.Slice.{IsItemAt}
use Rattle.std.specs.Option.{option_map, option_and_then, option_copied, is_some}
use Rattle.std.proofs.lemmas.Bool.{ltb-true, ltb-false, and_parts}
use Rattle.std.proofs.lemmas.Option.{slice_get_within, slice_get_past, slice_get_read}
use Rattle.code.specs.declared.instr.Instr.{Instr}
use Rattle.code.specs.declared.instr.Instr.TheVariants as instr
use Rattle.code.specs.declared.instr.Plain.TheVariants as path
use Rattle.code.specs.declared.instr.PlainTrap.{PlainTrap}
use Rattle.code.specs.Depth.{Listing, IsValid, HasDepth, LeadsInside, Lands, Leaves, EndsByLeaving, depth_after, depth_at, within_slots, with_one_more}
use Rattle.code.specs.Effect.{Effect, operate_or_trap, operated, number_stored, element_word, cleared, plain_of}
use Rattle.code.specs.Running.{RunsAt}
use Rattle.code.proofs.Depths.{depth_at-next, depth_known}
use Rattle.code.proofs.Effects.{KeepsSlots, plain_keeps, plain_there}

-- each of a list that all pass
passes : (test : Instr → Bool) (code : List Instr) (place : ℕ) (i : Instr) → list_all test code ≡ true → slice_get code place ≡ Some i → test i ≡ true
passes test [] place i h at = absurd (cc)
passes test (x ∷ code) zero i h at = let same : x ≡ i = cc in ap test (sym same) ∙ (and_parts (test x) (list_all test code) h).0
passes test (x ∷ code) (suc place) i h at = passes test code place i ((and_parts (test x) (list_all test code) h).1) at

guarded : (b : Bool) (d after : ℕ) → cond b (Some d) None ≡ Some after → after ≡ d
guarded true d after h = cc
guarded false d after h = absurd (cc)

one_more : (d after : ℕ) → with_one_more d ≡ Some after → after ≡ suc d
one_more d after h = guarded (nat_lt d 64) (suc d) after h

-- ---- where an effect leads

module _ (code : List Instr) (place : ℕ) where
  abbrev Led : Option Effect → Type 0
  Led None = Unit {0}
  Led (Some e) = LeadsInside code place e.0 (length e.1)

  at_next : (after d : ℕ) → HasDepth code (place + 1) after → after ≡ d → HasDepth code (place + 1) d
  at_next after d h same = subst (HasDepth code (place + 1)) same h

  loaded_led : (stack numbers : List ℕ) (o : Option ℕ) → HasDepth code (place + 1) (suc (length stack)) → Led (option_map {U = Effect} (λ (n : ℕ). (path.Next, n ∷ stack, numbers)) o)
  loaded_led stack numbers None h = tt
  loaded_led stack numbers (Some n) h = h

  operated_led : (line : ℕ) (before stack numbers : List ℕ) (r : Result ℕ PlainTrap) → HasDepth code (place + 1) (suc (length stack)) → Led (Some (operated line before stack numbers r))
  operated_led line before stack numbers (Ok n) h = h
  operated_led line before stack numbers (Err trap) h = tt

  one_led : (b : Bool) (e f : Option Effect) → Led e → Led f → Led (cond b e f)
  one_led true e f h k = h
  one_led false e f h k = k

  either_led : (b : Bool) (e f : Effect) → Led (Some e) → Led (Some f) → Led (Some (cond b e f))
  either_led true e f h k = h
  either_led false e f h k = k

  led : (i : Instr) (stack numbers : List ℕ) (after : ℕ) → depth_after i (length stack) ≡ Some after → ((Leaves i → ⊥) → HasDepth code (place + 1) after) → Lands code place (length stack) i → Led (plain_of i stack numbers)
  led (instr.Push n) stack numbers after k next lands = at_next after (suc (length stack)) (next (λ h. h)) (one_more (length stack) after k)
  led (instr.Load slot) stack numbers after k next lands = loaded_led stack numbers (slice_get numbers slot) (at_next after (suc (length stack)) (next (λ h. h)) (one_more (length stack) after k))
  led (instr.Store slot) [] numbers after k next lands = tt
  led (instr.Store slot) (n ∷ stack) numbers after k next lands = one_led (nat_lt slot (length numbers)) (Some (path.Next, stack, slice_set numbers slot n)) None (at_next after (length stack) (next (λ h. h)) (cc)) tt
  led instr.Complement [] numbers after k next lands = tt
  led instr.Complement (a ∷ stack) numbers after k next lands = at_next after (suc (length stack)) (next (λ h. h)) (cc)
  led instr.Not [] numbers after k next lands = tt
  led instr.Not (a ∷ stack) numbers after k next lands = at_next after (suc (length stack)) (next (λ h. h)) (cc)
  led instr.Convert [] numbers after k next lands = tt
  led instr.Convert (a ∷ stack) numbers after k next lands = at_next after (suc (length stack)) (next (λ h. h)) (cc)
  led (instr.Operate operator) [] numbers after k next lands = tt
  led (instr.Operate operator) (b ∷ []) numbers after k next lands = tt
  led (instr.Operate operator) (b ∷ a ∷ stack) numbers after k next lands = at_next after (suc (length stack)) (next (λ h. h)) (cc)
  led (instr.OperateOrTrap operator line) [] numbers after k next lands = tt
  led (instr.OperateOrTrap operator line) (b ∷ []) numbers after k next lands = tt
  led (instr.OperateOrTrap operator line) (b ∷ a ∷ stack) numbers after k next lands = operated_led line (b ∷ a ∷ stack) stack numbers (operate_or_trap operator a b) (at_next after (suc (length stack)) (next (λ h. h)) (cc))
  led (instr.JumpIfFalseOrPop n) [] numbers after k next lands = tt
  led (instr.JumpIfFalseOrPop n) (a ∷ stack) numbers after k next lands = either_led (a == 0) (path.Skip n, a ∷ stack, numbers) (path.Next, stack, numbers) lands (at_next after (length stack) (next (λ h. h)) (cc))
  led (instr.JumpIfTrueOrPop n) [] numbers after k next lands = tt
  led (instr.JumpIfTrueOrPop n) (a ∷ stack) numbers after k next lands = either_led (a == 0) (path.Next, stack, numbers) (path.Skip n, a ∷ stack, numbers) (at_next after (length stack) (next (λ h. h)) (cc)) lands
  led (instr.JumpIfFalse n) [] numbers after k next lands = tt
  led (instr.JumpIfFalse n) (a ∷ stack) numbers after k next lands =
      let same : suc (length stack) - 1 ≡ length stack = omega arith in
      either_led (a == 0) (path.Skip n, stack, numbers) (path.Next, stack, numbers) (subst (HasDepth code (place + 1 + n)) same lands) (at_next after (length stack) (next (λ h. h)) (cc))
  led (instr.Jump n) stack numbers after k next lands = lands
  led (instr.JumpBack n) stack numbers after k next lands = lands
  led (instr.LoadElement array line) [] numbers after k next lands = tt
  led (instr.LoadElement array line) (index ∷ stack) numbers after k next lands =
      one_led (nat_lt index array.len) _ _ (loaded_led stack numbers (slice_get numbers (array.start + index)) (at_next after (suc (length stack)) (next (λ h. h)) (cc))) tt
  led (instr.StoreElement type array line) [] numbers after k next lands = tt
  led (instr.StoreElement type array line) (word ∷ []) numbers after k next lands = tt
  led (instr.StoreElement type array line) (word ∷ index ∷ stack) numbers after k next lands =
      one_led (nat_lt index array.len) (number_stored (array.start + index) (element_word type word) stack numbers) _
      (one_led (nat_lt (array.start + index) (length numbers)) (Some (path.Next, stack, slice_set numbers (array.start + index) (element_word type word))) None (at_next after (length stack) (next (λ h. h)) (cc)) tt)
      tt
  led (instr.ClearArray array) stack numbers after k next lands =
      one_led (nat_le (array.start + array.len) (length numbers)) (Some (path.Next, stack, cleared array numbers)) None (at_next after (length stack) (next (λ h. h)) (cc)) tt
  led (instr.LoadBuffer slot line) stack numbers after k next lands = tt
  led (instr.StoreBuffer type slot line) stack numbers after k next lands = tt
  led (instr.TestNull variable equal) stack numbers after k next lands = tt
  led (instr.StoreNull variable) stack numbers after k next lands = tt
  led instr.PutJint stack numbers after k next lands = tt
  led (instr.Call call) stack numbers after k next lands = tt
  led instr.Return stack numbers after k next lands = tt
  led instr.ReturnJint stack numbers after k next lands = tt
  led (instr.ReturnReference operand) stack numbers after k next lands = tt

-- ---- in valid code

-- something comes after an instruction that doesn't leave
inside_or_last : (code : List Instr) (place : ℕ) (i : Instr) (b : Bool) → EndsByLeaving code → slice_get code place ≡ Some i → (Leaves i → ⊥) → nat_lt (place + 1) (length code) ≡ b → place + 1 < length code
inside_or_last code place i true ends at stays h = ltb-true (place + 1) (length code) h
inside_or_last code place i false ends at stays h =
    let inside : place < length code = slice_get_within code place i at in
    let past : length code ≤ place + 1 = ltb-false (place + 1) (length code) h in
    let last : length code - 1 ≡ place = omega arith in
    let same : ends.last ≡ i = let e : Some ends.last ≡ Some i = sym ends.ends ∙ ap (slice_get code) last ∙ at in cc in
    absurd (stays (subst Leaves same ends.leaves))

module _ (code : Listing) (valid : IsValid code) (place : ℕ) (i : Instr) (at : slice_get code.instrs place ≡ Some i) where
  known : (p : ℕ) → (d : ℕ) × (depth_at code.instrs p ≡ Some d)
  known p = depth_known code.instrs p (ap is_some valid.moves.stays)

  words_after : (depth : ℕ) → depth_at code.instrs place ≡ Some depth → (e : ℕ) × (depth_after i depth ≡ Some e) × (depth_at code.instrs (place + 1) ≡ Some e)
  words_after depth h =
      let next = known (place + 1) in
      (next.0, sym (ap (option_and_then (depth_after i)) h) ∙ sym (depth_at-next code.instrs place i at) ∙ next.1, next.1)

  place_after : (depth after : ℕ) → (Leaves i → ⊥) → depth_at code.instrs place ≡ Some depth → depth_after i depth ≡ Some after → HasDepth code.instrs (place + 1) after
  place_after depth after stays h k =
      let next = words_after depth h in
      let same : Some next.0 ≡ Some after = sym next.1 ∙ k in
      record { inside = inside_or_last code.instrs place i (nat_lt (place + 1) (length code.instrs)) valid.moves.ends at stays refl; words = next.2 ∙ same }

  pub runs_at : RunsAt code place i
  runs_at = record {
    slots = passes (within_slots code.slots) code.instrs place i valid.slots at;
    words = ap is_some ((known place).1);
    room = λ depth h. ap is_some ((words_after depth h).1);
    plain = λ stack numbers p h l. let next = words_after (length stack) h in plain_there code.slots i stack numbers next.0 p (passes (within_slots code.slots) code.instrs place i valid.slots at) l next.1;
    keeps = λ stack numbers stack' numbers' path h. subst (KeepsSlots numbers) h (plain_keeps i stack numbers);
    leads = λ stack numbers stack' numbers' path h k.
        let next = words_after (length stack) h in
        subst (Led code.instrs place) k (led code.instrs place i stack numbers next.0 next.1 (λ stays. place_after (length stack) next.0 stays h next.1) (valid.jumps place (length stack) i at h));
    rest_of = place_after;
  }

-- the first place is inside, with no words
pub begins : (code : Listing) → IsValid code → HasDepth code.instrs 0 0
begins code valid =
    let inside = slice_get_within code.instrs (length code.instrs - 1) valid.moves.ends.last valid.moves.ends.ends in
    record { inside = omega arith; words = refl }

-- what a look-up finds is the instruction there
copied_found : (code : List Instr) (place : ℕ) (found : Option (Bor Instr)) → IsItemAt code place found → option_copied found ≡ slice_get code place
copied_found code place None h = sym (slice_get_past code place h.3)
copied_found code place (Some i) h = sym (slice_get_read code (length code) place i.now refl h.3.0 h.1)

runs_copied : (code : Listing) → IsValid code → (place : ℕ) (found : Option (Bor Instr)) → option_copied found ≡ slice_get code.instrs place → IfSome found (λ i. RunsAt code place i.now)
runs_copied code valid place None h = tt
runs_copied code valid place (Some i) h = runs_at code valid place i.now (sym h)

pub runs_found : (code : Listing) → IsValid code → (place : ℕ) (found : Option (Bor Instr)) → IsItemAt code.instrs place found → IfSome found (λ i. RunsAt code place i.now)
runs_found code valid place found h = runs_copied code valid place found (copied_found code.instrs place found h)
