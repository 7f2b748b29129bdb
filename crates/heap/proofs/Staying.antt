-- What leaves a marking as it was, but for what is kept besides.
use Rattle.std.proofs.Common.{◌≡◌, ℕ, zero, suc, Bool, true, false, List, [], ◌∷◌, set, Option, Some, None, refl, sym, ◌∙◌, subst}
use Rattle.std.specs.Option.{option_map}
use Rattle.heap.specs.declared.value.Value.{Value}
use Rattle.heap.specs.declared.value.Value.TheVariants.{Number, Null, Block as Reference}
use Rattle.heap.specs.Heap.{Space, with_value}
use Rattle.heap.specs.Marks.{Marks, is_kept, noted, noted_in, with_new}
use Rattle.heap.specs.Marking.{MarkingStays}

kept_set : (ms : List Bool) (a x : ℕ) → is_kept ms x ≡ true → is_kept (set ms a true) x ≡ true
kept_set [] a x k = k
kept_set (m ∷ ms) zero zero k = refl
kept_set (m ∷ ms) zero (suc x) k = k
kept_set (m ∷ ms) (suc a) zero k = k
kept_set (m ∷ ms) (suc a) (suc x) k = kept_set ms a x k

pub stays_same : (o : Option Marks) → MarkingStays o o
stays_same None = tt
stays_same (Some m) = (refl, λ a k. k)

pub stays_is : (o p : Option Marks) → p ≡ o → MarkingStays o p
stays_is o p e = subst (λ (x : Option Marks). MarkingStays o x) (sym e) (stays_same o)

pub stays_on : (o p q : Option Marks) → MarkingStays o p → MarkingStays p q → MarkingStays o q
stays_on None None None h g = tt
stays_on None None (Some n) h g = g
stays_on None (Some m) q h g = absurd h
stays_on (Some m) None q h g = absurd h
stays_on (Some m) (Some n) None h g = g
stays_on (Some m) (Some n) (Some r) h g = (g.0 ∙ h.0, λ a k. g.1 a (h.1 a k))

stays_marks : (m : Marks) (a : ℕ) → MarkingStays (Some m) (Some (noted m a))
stays_marks m a = by_mark (is_kept m.kept a) refl
  where
    by_mark : (b : Bool) → is_kept m.kept a ≡ b → MarkingStays (Some m) (Some (noted m a))
    by_mark true e = rw e (refl, λ x k. k)
    by_mark false e = rw e (refl, λ x k. kept_set m.kept a x k)

pub stays_noted : (v : Value) (o : Option Marks) → MarkingStays o (noted_in v o)
stays_noted (Number n) o = stays_same o
stays_noted Null o = stays_same o
stays_noted (Reference a) None = tt
stays_noted (Reference a) (Some m) = stays_marks m a

-- a value is written
pub stays_written : (s : Space) (a place : ℕ) (v : Value) → MarkingStays s.marking (with_value s a place v).marking
stays_written s a place v = stays_noted v s.marking

-- a block is made
pub stays_made : (s : Space) (a : ℕ) → MarkingStays s.marking (option_map (with_new a) s.marking)
stays_made s a = by_marking s.marking
  where
    by_marking : (o : Option Marks) → MarkingStays o (option_map (with_new a) o)
    by_marking None = tt
    by_marking (Some m) = (refl, λ x k. kept_set m.kept a x k)
