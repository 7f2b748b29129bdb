-- What holds of an instruction of valid code where the stack has as many words as the place has.
use Rattle.std.specs.Prelude.{◌≡◌, ℕ, ◌+◌, List, Some, IsSome, IsTrue, length}
use Rattle.code.specs.declared.instr.Instr.{Instr}
use Rattle.code.specs.declared.instr.Plain.{Plain}
use Rattle.code.specs.Depth.{Listing, HasDepth, LeadsInside, Leaves, depth_at, depth_after, within_slots}
use Rattle.code.specs.Effect.{IsPlain, plain_of}

pub record RunsAt (code : Listing) (place : ℕ) (i : Instr) : Type 0 where
  -- the instruction finds its slots
  pub slots : IsTrue (within_slots code.slots i)
  -- the stack has a number of words there
  pub words : IsSome (depth_at code.instrs place)
  -- for which it finds its words and its room
  pub room : (depth : ℕ) → depth_at code.instrs place ≡ Some depth → IsSome (depth_after i depth)
  -- a plain one has an effect
  pub plain : (stack numbers : List ℕ) → IsPlain i → depth_at code.instrs place ≡ Some (length stack)
      → length numbers ≡ code.slots.numbers → IsSome (plain_of i stack numbers)
  -- which keeps the number of slots
  pub keeps : (stack numbers stack' numbers' : List ℕ) (path : Plain)
      → plain_of i stack numbers ≡ Some (path, stack', numbers') → length numbers' ≡ length numbers
  -- and leads inside, to a place with as many words as the stack has then
  pub leads : (stack numbers stack' numbers' : List ℕ) (path : Plain) → depth_at code.instrs place ≡ Some (length stack)
      → plain_of i stack numbers ≡ Some (path, stack', numbers') → LeadsInside code.instrs place path (length stack')
  -- and after one that doesn't leave there is a place with the words that it leaves
  pub rest_of : (depth after : ℕ) → (Leaves i → ⊥) → depth_at code.instrs place ≡ Some depth
      → depth_after i depth ≡ Some after → HasDepth code.instrs (place + 1) after
