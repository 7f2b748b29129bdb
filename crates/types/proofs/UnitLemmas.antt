-- A unit of which no rule is broken is well-typed, and else the first fault is one that it earns.
use Rattle.std.proofs.Common.{◌≡◌, ◌⊎◌, inl, inr, ℕ, suc, ◌<◌, Bool, true, false, List, [], ◌∷◌, ◌++◌, Option, Some, None, refl, sym, ap, subst, ◌∙◌, map, filter, flat_map, take, length, get_or, slice_get, if◌then◌else◌, append-nil, arith}
use Rattle.std.proofs.lemmas.List.Elements.{All-from_recursion}
use Rattle.std.specs.Prelude.{Contains}
use Rattle.std.specs.List.{All, AllByRecursion}
use Rattle.syntax.specs.Tree.{SourceUnit}
use Rattle.types.specs.declared.fault.TypeError.{TypeError}
use Rattle.types.specs.declared.fault.TypeError.TheVariants.{Memory, Fault}
use Rattle.type_rules.specs.declared.rule.TypeRule.{TypeRule}
use Rattle.type_rules.specs.TypeRules.{typing_rules, Place, IsWellTyped, BreaksTypeRule, breaks, broken_at, broken, first_broken, places}
use Rattle.types.specs.AllFaults.{told_at, typing_faults}
use Rattle.types.specs.Faults.{Faults, TypeFault, Refuses, IfBroken, kept, first, fault_of}

-- ---- what is told, and what is broken

-- of each place the first that is broken is told
told_first : (all : List Place) → first (flat_map told_at all) ≡ first (flat_map broken_at all)
told_first [] = refl
told_first (p ∷ all) = by (broken_at p) (told_first all)
  where
    by : (here : Faults) → first (flat_map told_at all) ≡ first (flat_map broken_at all) → first (take 1 here ++ flat_map told_at all) ≡ first (here ++ flat_map broken_at all)
    by [] later = later
    by (f ∷ here) later = refl

none_first : (xs : Faults) → first xs ≡ None → xs ≡ []
none_first [] h = refl
none_first (x ∷ xs) h = absurd cc

-- nothing is told where nothing is broken, and only there
pub none-told : (unit : SourceUnit) → typing_faults unit ≡ [] → IsWellTyped unit
none-told unit h = none_first (broken unit) (sym (told_first (places unit)) ∙ ap first h)

pub none-broken : (unit : SourceUnit) → IsWellTyped unit → typing_faults unit ≡ []
none-broken unit h = none_first (typing_faults unit) (told_first (places unit) ∙ ap first h)

pub first-told : (unit : SourceUnit) → first (typing_faults unit) ≡ first (broken unit)
first-told unit = told_first (places unit)

-- ---- units

pub well_typed-memory : (unit : SourceUnit) (e : TypeError) → Refuses e (broken unit) → IsWellTyped unit → e ≡ Memory
well_typed-memory unit Memory h well_typed = refl
well_typed-memory unit (Fault f) h well_typed = absurd (let k : ◌≡◌ {A = Option (ℕ × TypeRule)} None (Some (fault_of f)) = subst (λ xs. first xs ≡ Some (fault_of f)) well_typed h in cc)

pub broken-first : (unit : SourceUnit) (e : TypeError) → Refuses e (broken unit) → IfBroken e (λ f. first_broken unit ≡ Some (fault_of f))
broken-first unit Memory h = tt
broken-first unit (Fault f) h = at_start (broken unit) h
  where
    at_start : (xs : Faults) → first xs ≡ Some (fault_of f) → slice_get xs 0 ≡ Some (fault_of f)
    at_start [] k = absurd cc
    at_start (g ∷ xs) k = k

-- ---- what a fault says

some_is : (f g : ℕ × TypeRule) → ◌≡◌ {A = Option (ℕ × TypeRule)} (Some f) (Some g) → g ≡ f
some_is f g e = cc

-- the first of all is broken here, or after it
here_or_later : (p : TypeRule → Bool) (line : ℕ) (rules : List TypeRule) (f : ℕ × TypeRule) (xs : Faults) → first (map {B = ℕ × TypeRule} (λ r. (line, r)) (filter p rules) ++ xs) ≡ Some f
    → ((f.0 ≡ line) × (p f.1 ≡ true)) ⊎ (first xs ≡ Some f)
here_or_later p line [] f xs h = inr h
here_or_later p line (rule ∷ rules) f xs h = by (p rule) refl (λ k. here_or_later p line rules f xs k) h
  where
    by : (b : Bool) → p rule ≡ b → (first (map {B = ℕ × TypeRule} (λ r. (line, r)) (filter p rules) ++ xs) ≡ Some f → ((f.0 ≡ line) × (p f.1 ≡ true)) ⊎ (first xs ≡ Some f))
        → first (map {B = ℕ × TypeRule} (λ r. (line, r)) (if b then rule ∷ filter p rules else filter p rules) ++ xs) ≡ Some f → ((f.0 ≡ line) × (p f.1 ≡ true)) ⊎ (first xs ≡ Some f)
    by true e go k = let g = some_is (line, rule) f k in inl (ap (λ (x : ℕ × TypeRule). x.0) g, ap (λ (x : ℕ × TypeRule). p x.1) g ∙ e)
    by false e go k = go k

at_place : (all : List Place) (f : ℕ × TypeRule) → first (flat_map broken_at all) ≡ Some f → (place : Place) × Contains all place × (f.0 ≡ place.line) × (breaks f.1 place place.form ≡ true)
at_place [] f h = absurd cc
at_place (p ∷ all) f h =
    elim (here_or_later (λ rule. breaks rule p p.form) p.line typing_rules f (flat_map broken_at all) h) [
      | inl here ↦ (p, (0, omega arith, refl), here.0, here.1)
      | inr rest ↦ let further = at_place all f rest in (further.0, (suc (further.1).0, omega (arith, (further.1).1), (further.1).2), further.2, further.3)
    ]

pub earned-unit : (unit : SourceUnit) (e : TypeError) → Refuses e (broken unit) → IfBroken e (λ f. BreaksTypeRule f.rule f.line unit)
earned-unit unit Memory h = tt
earned-unit unit (Fault f) h = at_place (places unit) (fault_of f) h

-- ---- all that is told

-- the rule of a fault is broken at a place that is on its line
abbrev pub IsEarned : List Place → ℕ × TypeRule → Type 0
IsEarned all f = (place : Place) × Contains all place × (f.0 ≡ place.line) × (breaks f.1 place place.form ≡ true)

told_here : (p : Place) (f : ℕ × TypeRule) (rest : Faults) → broken_at p ≡ f ∷ rest → (f.0 ≡ p.line) × (breaks f.1 p p.form ≡ true)
told_here p f rest e =
    elim (here_or_later (λ rule. breaks rule p p.form) p.line typing_rules f [] (ap first (append-nil (broken_at p)) ∙ ap first e)) [
      | inl here ↦ here
      | inr none ↦ absurd (let k : ◌≡◌ {A = Option (ℕ × TypeRule)} None (Some f) = none in cc)
    ]

all_earned : (all left : List Place) → ((p : Place) → Contains left p → Contains all p) → AllByRecursion (IsEarned all) (flat_map told_at left)
all_earned all [] within = tt
all_earned all (p ∷ left) within = by (broken_at p) refl (all_earned all left (λ q c. within q (suc c.0, omega (arith, c.1), c.2)))
  where
    by : (here : Faults) → broken_at p ≡ here → AllByRecursion (IsEarned all) (flat_map told_at left) → AllByRecursion (IsEarned all) (take 1 here ++ flat_map told_at left)
    by [] e later = later
    by (f ∷ here) e later = let is = told_here p f here e in ((p, within p (0, omega arith, refl), is.0, is.1), later)

-- of each fault that is told of a unit
pub earned-faults : (unit : SourceUnit) → AllByRecursion (λ (f : ℕ × TypeRule). BreaksTypeRule f.1 f.0 unit) (typing_faults unit)
earned-faults unit = all_earned (places unit) (places unit) (λ p c. c)

earned_in_memory : (unit : SourceUnit) (faults : List TypeFault) → AllByRecursion (IsEarned (places unit)) (map fault_of faults) → AllByRecursion (λ f. BreaksTypeRule f.rule f.line unit) faults
earned_in_memory unit [] h = tt
earned_in_memory unit (f ∷ faults) h = (h.0, earned_in_memory unit faults h.1)

pub earned-all : (unit : SourceUnit) (faults : List TypeFault) → map fault_of faults ≡ typing_faults unit → All (λ f. BreaksTypeRule f.rule f.line unit) faults
earned-all unit faults e =
    All-from_recursion _ faults (earned_in_memory unit faults (subst (AllByRecursion (IsEarned (places unit))) (sym e) (earned-faults unit)))

none_in_memory : (faults : List TypeFault) → map fault_of faults ≡ [] → faults ≡ []
none_in_memory [] e = refl
none_in_memory (f ∷ faults) e = absurd cc

pub none-all : (unit : SourceUnit) (faults : List TypeFault) → map fault_of faults ≡ typing_faults unit → IsWellTyped unit → faults ≡ []
none-all unit faults e well_typed = none_in_memory faults (e ∙ none-broken unit well_typed)

pub well_typed-all : (unit : SourceUnit) (faults : List TypeFault) → map fault_of faults ≡ typing_faults unit → faults ≡ [] → IsWellTyped unit
well_typed-all unit faults e none = none-told unit (sym e ∙ ap (map fault_of) none)

get_first : (xs : Faults) → slice_get xs 0 ≡ first xs
get_first [] = refl
get_first (x ∷ xs) = refl

-- the first that is told is the one that is answered
pub first-fault : (unit : SourceUnit) → slice_get (typing_faults unit) 0 ≡ first_broken unit
first-fault unit = get_first (typing_faults unit) ∙ first-told unit ∙ sym (get_first (broken unit))

pub first-all : (unit : SourceUnit) (faults : List TypeFault) → map fault_of faults ≡ typing_faults unit → slice_get (map fault_of faults) 0 ≡ first_broken unit
first-all unit faults e = ap (λ xs. slice_get xs 0) e ∙ first-fault unit

-- ---- the first alone

kept_none : (faults : Faults) → take 1 faults ≡ [] → faults ≡ []
kept_none [] e = refl
kept_none (f ∷ faults) e = absurd cc

-- nothing is kept of a unit that keeps the rules
pub well_typed-none : (unit : SourceUnit) (faults : List TypeFault) → kept false (map fault_of faults) ≡ kept false (typing_faults unit) → length faults ≡ 0 → IsWellTyped unit
well_typed-none unit [] h e = none-told unit (kept_none (typing_faults unit) (sym h))
well_typed-none unit (f ∷ faults) h e = absurd (omega (arith, e))

first_kept : (xs ys : Faults) → take 1 xs ≡ take 1 ys → first xs ≡ first ys
first_kept [] [] e = refl
first_kept [] (y ∷ ys) e = absurd cc
first_kept (x ∷ xs) [] e = absurd cc
first_kept (x ∷ xs) (y ∷ ys) e = ap first e

-- and of another the first
pub refused-first : (unit : SourceUnit) (faults : List TypeFault) (f : TypeFault) → kept false (map fault_of faults) ≡ kept false (typing_faults unit) → 0 < length faults → f ≡ get_or faults 0 f → Refuses (Fault f) (broken unit)
refused-first unit [] f h some is = absurd (omega (arith, some))
refused-first unit (g ∷ faults) f h some is = sym (first-told unit) ∙ sym (first_kept (map fault_of (g ∷ faults)) (typing_faults unit) h) ∙ ap (λ (x : TypeFault). Some (fault_of x)) (sym is)

pub ruleset unit_rules = (well_typed-memory, broken-first)
