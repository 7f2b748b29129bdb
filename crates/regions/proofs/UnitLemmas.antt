-- A unit without fault is accepted, and the fault found is its first.
use Rattle.std.proofs.Common.{◌≡◌, ℕ, suc, inl, inr, List, [], ◌∷◌, Option, Some, None, Result, Ok, Err, refl, sym, ap, ap₂, ◌∙◌, subst, map, filter_map, slice_get, arith}
use Rattle.std.proofs.lemmas.List.Elements.{All-from_recursion}
use Rattle.std.specs.Prelude.{Contains}
use Rattle.std.specs.List.{All, AllByRecursion, cons_option}
use Rattle.std.specs.Option.{option_or}
use Rattle.syntax.specs.Parts.{functions_of}
use Rattle.syntax.specs.Tree.{Function, Item, StaticItem, FunctionItem, SourceUnit}
use Rattle.regions.specs.declared.fault.CheckError.{CheckError}
use Rattle.regions.specs.declared.fault.CheckError.TheVariants.{Memory, Fault}
use Rattle.regions.specs.AllFaults.{AreFunctionFaults, for_none, for_accepted, for_refused, AreRegionFaults}
use Rattle.regions.specs.Findings.{Finds, Refuses, IfBroken, RegionFault, fault_of, end_line_of, fault_at_end, function_fault, items_fault, items_faults, first_fault}
use Rattle.region_rules.specs.FirstFaults.{FirstInFunction, FirstInFunctions, IsFirstRegionFault}
use Rattle.region_rules.specs.declared.rule.RegionRule.{RegionRule}
use Rattle.region_rules.specs.declared.rule.RegionRule.TheVariants.{NoReturn}
use Rattle.region_rules.specs.RegionStates.{state_at_entry}
use Rattle.region_rules.specs.Regions.{Path, On, Returned, AcceptedFunction, BreaksFunction, BreaksRegionRule, HasRegions}
use Rattle.regions.specs.Paths.{Found, path_of_block}
use Rattle.regions.proofs.Paths.{keeps_block, answers_block}
use Rattle.regions.proofs.BrokenPaths.{function_broken}
use Rattle.regions.proofs.FaultLemmas.{end_is, end-line}
use Rattle.regions.proofs.FirstPaths.{firsts_block, first_block_is, no_first_in}

-- ---- faults one after another

pub Finds-later : {A : Type 0} (r : Result A CheckError) (earlier later : Option Found) → earlier ≡ None → Finds r later → Finds r (option_or earlier later)
Finds-later r earlier later none h = subst (λ o. Finds r (option_or o later)) (sym none) h

pub Refuses-first : (e : CheckError) (earlier later : Option Found) → Refuses e earlier → Refuses e (option_or earlier later)
Refuses-first Memory earlier later h = tt
Refuses-first (Fault f) earlier later h = ap (λ o. option_or o later) h

pub ruleset finds_rules = (Finds-later, Refuses-first)

-- ---- truth values

-- ---- functions

accepted : (f : Function) (r : Result Path Found) → path_of_block (state_at_entry f) (state_at_entry f) f.body ≡ r → fault_at_end r (end_line_of f.body) ≡ None → AcceptedFunction f
accepted f (Err e) h none = absurd cc
accepted f (Ok (On end)) h none = absurd cc
accepted f (Ok Returned) h none = keeps_block (state_at_entry f) (state_at_entry f) f.body Returned h

some_is : (f g : Found) → ◌≡◌ {A = Option Found} (Some f) (Some g) → f ≡ g
some_is f g e = cc

faulty : (f : Function) (e : Found) (r : Result Path Found) → path_of_block (state_at_entry f) (state_at_entry f) f.body ≡ r → fault_at_end r (end_line_of f.body) ≡ Some e → FirstInFunction e.1 e.0 f
faulty f e (Err g) h some = subst (λ (x : Found). FirstInFunction x.1 x.0 f) (some_is g e some) (inl (firsts_block (state_at_entry f) (state_at_entry f) f.body g h))
faulty f e (Ok (On end)) h some =
    subst (λ (x : Found). FirstInFunction x.1 x.0 f) (some_is (end_line_of f.body, NoReturn) e some)
    (inr (refl, end-line f.body, (end, keeps_block (state_at_entry f) (state_at_entry f) f.body (On end) h)))
faulty f e (Ok Returned) h some = absurd cc

-- ---- units

or_none : (a b : Option Found) → option_or a b ≡ None → (a ≡ None) × (b ≡ None)
or_none None b h = (refl, h)
or_none (Some x) b h = absurd cc

pub accepted-all : (functions : List Function) → first_fault functions ≡ None → AllByRecursion AcceptedFunction functions
accepted-all [] h = tt
accepted-all (f ∷ functions) h =
    let both = or_none (function_fault f) (first_fault functions) h in
    (accepted f (path_of_block (state_at_entry f) (state_at_entry f) f.body) refl both.0, accepted-all functions both.1)

faulty-next : (f : Function) (functions : List Function) (e : Found) (o : Option Found) → function_fault f ≡ o → (first_fault functions ≡ Some e → FirstInFunctions e.1 e.0 functions)
    → option_or o (first_fault functions) ≡ Some e → FirstInFunctions e.1 e.0 (f ∷ functions)
faulty-next f functions e None is further k = inr (accepted f (path_of_block (state_at_entry f) (state_at_entry f) f.body) refl is, further k)
faulty-next f functions e (Some g) is further k = inl (faulty f e (path_of_block (state_at_entry f) (state_at_entry f) f.body) refl (is ∙ k))

pub faulty-all : (functions : List Function) (e : Found) → first_fault functions ≡ Some e → FirstInFunctions e.1 e.0 functions
faulty-all [] e h = absurd cc
faulty-all (f ∷ functions) e h = faulty-next f functions e (function_fault f) refl (λ k. faulty-all functions e k) h

-- an accepted unit has none
pub accepted-none : (functions : List Function) (e : Found) → first_fault functions ≡ Some e → AllByRecursion AcceptedFunction functions → ⊥
accepted-none functions e h accepted = no_first_in functions e.1 e.0 (faulty-all functions e h) accepted

-- ---- a unit has one first fault at most

accepted_is : (f : Function) → AcceptedFunction f → function_fault f ≡ None
accepted_is f a = ap (λ (r : Result Path Found). fault_at_end r (end_line_of f.body)) (answers_block (state_at_entry f) (state_at_entry f) f.body Returned a)

function_fault_is : (f : Function) (rule : RegionRule) (l : ℕ) → FirstInFunction rule l f → function_fault f ≡ Some (l, rule)
function_fault_is f rule l b =
    elim b [
      | inl inner ↦ ap (λ (r : Result Path Found). fault_at_end r (end_line_of f.body)) (first_block_is (state_at_entry f) (state_at_entry f) f.body rule l inner)
      | inr open' ↦ ap (λ (r : Result Path Found). fault_at_end r (end_line_of f.body)) (answers_block (state_at_entry f) (state_at_entry f) f.body (On (open'.2).0) (open'.2).1)
          ∙ ap₂ (λ (n : ℕ) (r : RegionRule). Some (n, r)) (end_is f.body (end_line_of f.body) l (end-line f.body) open'.1) (sym open'.0)
    ]

fault_is : (functions : List Function) (rule : RegionRule) (l : ℕ) → FirstInFunctions rule l functions → first_fault functions ≡ Some (l, rule)
fault_is [] rule l b = absurd b
fault_is (f ∷ functions) rule l b =
    elim b [
      | inl own ↦ ap (λ o. option_or o (first_fault functions)) (function_fault_is f rule l own)
      | inr later ↦ ap₂ (λ o further. option_or o further) (accepted_is f later.0) (fault_is functions rule l later.1)
    ]

pub one_first_of : (functions : List Function) (rule rule' : RegionRule) (l l' : ℕ) → FirstInFunctions rule l functions → FirstInFunctions rule' l' functions → (l ≡ l') × (rule ≡ rule')
one_first_of functions rule rule' l l' h k =
    let e = some_is (l, rule) (l', rule') (sym (fault_is functions rule l h) ∙ fault_is functions rule' l' k) in
    (ap (λ (f : Found). f.0) e, ap (λ (f : Found). f.1) e)

-- ---- a first fault is of a rule that is broken

pub first_broken_in : (functions : List Function) (rule : RegionRule) (l : ℕ) → FirstInFunctions rule l functions → (f : Function) × Contains functions f × BreaksFunction rule l f
first_broken_in [] rule l b = absurd b
first_broken_in (f ∷ functions) rule l b =
    elim b [
      | inl own ↦ (f, (0, omega arith, refl), function_broken f rule l own)
      | inr later ↦ let further = first_broken_in functions rule l later.1 in (further.0, (suc (further.1).0, omega (arith, (further.1).1), (further.1).2), further.2)
    ]

-- ---- items

-- the faults of items are those of their functions
pub items-fault : (items : List Item) → items_fault items ≡ first_fault (functions_of (record { items = items }))
items-fault [] = refl
items-fault (StaticItem s ∷ items) = items-fault items
items-fault (FunctionItem f ∷ items) = ap (λ further. option_or (function_fault f) further) (items-fault items)

-- ---- what is answered

pub accepted-memory : (items : List Item) (e : CheckError) → Refuses e (items_fault items) → AllByRecursion AcceptedFunction (functions_of (record { items = items })) → e ≡ Memory
accepted-memory items Memory h accepted = refl
accepted-memory items (Fault f) h accepted = absurd (accepted-none (functions_of (record { items = items })) (fault_of f) (sym (items-fault items) ∙ h) accepted)

pub fault-first : (items : List Item) (e : CheckError) → Refuses e (items_fault items) → IfBroken e (λ f. FirstInFunctions f.rule f.line (functions_of (record { items = items })))
fault-first items Memory h = tt
fault-first items (Fault f) h = faulty-all (functions_of (record { items = items })) (fault_of f) (sym (items-fault items) ∙ h)

pub fault-broken : (items : List Item) (e : CheckError) → Refuses e (items_fault items) → IfBroken e (λ f. BreaksRegionRule f.rule f.line (record { items = items }))
fault-broken items Memory h = tt
fault-broken items (Fault f) h = first_broken_in (functions_of (record { items = items })) f.rule f.line (fault-first items (Fault f) h)

-- ---- all faults

-- the faults of functions are those that are told of them
faults_are : (functions : List Function) → AreFunctionFaults functions (filter_map function_fault functions)
faults_are [] = for_none
faults_are (f ∷ functions) = by (function_fault f) refl (faults_are functions)
  where
    by : (o : Option Found) → function_fault f ≡ o → AreFunctionFaults functions (filter_map function_fault functions) → AreFunctionFaults (f ∷ functions) (cons_option o (filter_map function_fault functions))
    by None is further = for_accepted f functions _ (accepted f (path_of_block (state_at_entry f) (state_at_entry f) f.body) refl is) further
    by (Some e) is further = for_refused f functions e.1 e.0 _ (faulty f e (path_of_block (state_at_entry f) (state_at_entry f) f.body) refl is) further

faults_of_items : (items : List Item) → items_faults items ≡ filter_map function_fault (functions_of (record { items = items }))
faults_of_items [] = refl
faults_of_items (StaticItem s ∷ items) = faults_of_items items
faults_of_items (FunctionItem f ∷ items) = ap (λ faults. cons_option (function_fault f) faults) (faults_of_items items)

pub told-all : (items : List Item) (faults : List RegionFault) → map fault_of faults ≡ items_faults items → AreRegionFaults (record { items = items }) (map fault_of faults)
told-all items faults e =
    subst (AreFunctionFaults (functions_of (record { items = items }))) (sym (e ∙ faults_of_items items)) (faults_are (functions_of (record { items = items })))

-- none is told of functions that are accepted, and only of them
pub none_of_accepted : (functions : List Function) (faults : List Found) → AreFunctionFaults functions faults → AllByRecursion AcceptedFunction functions → faults ≡ []
none_of_accepted functions faults for_none a = refl
none_of_accepted functions faults (for_accepted f further _ one rest) a = none_of_accepted further faults rest a.1
none_of_accepted functions faults (for_refused f further rule line _ one rest) a = absurd (no_first_in (f ∷ []) rule line (inl one) (a.0, tt))

pub accepted_of_none : (functions : List Function) (faults : List Found) → AreFunctionFaults functions faults → faults ≡ [] → AllByRecursion AcceptedFunction functions
accepted_of_none functions faults for_none e = tt
accepted_of_none functions faults (for_accepted f further _ one rest) e = (one, accepted_of_none further faults rest e)
accepted_of_none functions faults (for_refused f further rule line _ one rest) e = absurd cc

-- the first is the one that is answered
pub first_of_all : (functions : List Function) (faults : List Found) (g : Found) → AreFunctionFaults functions faults → slice_get faults 0 ≡ Some g → FirstInFunctions g.1 g.0 functions
first_of_all functions faults g for_none e = absurd cc
first_of_all functions faults g (for_accepted f further _ one rest) e = inr (one, first_of_all further faults g rest e)
first_of_all functions faults g (for_refused f further rule line _ one rest) e = subst (λ (x : Found). FirstInFunctions x.1 x.0 (f ∷ further)) (some_is (line, rule) g e) (inl one)

-- each is of a rule that is broken
IsBrokenIn : List Function → Found → Type 0
IsBrokenIn all g = (f : Function) × Contains all f × BreaksFunction g.1 g.0 f

broken_of_all : (all functions : List Function) (faults : List Found) → ((f : Function) → Contains functions f → Contains all f) → AreFunctionFaults functions faults → AllByRecursion (IsBrokenIn all) faults
unfolding IsBrokenIn
broken_of_all all functions faults within for_none = tt
broken_of_all all functions faults within (for_accepted f further _ one rest) = broken_of_all all further faults (λ g c. within g (suc c.0, omega (arith, c.1), c.2)) rest
broken_of_all all functions faults within (for_refused f further rule line later one rest) =
    ((f, within f (0, omega arith, refl), function_broken f rule line one), broken_of_all all further later (λ g c. within g (suc c.0, omega (arith, c.1), c.2)) rest)

-- each that is told of a unit
pub broken-faults : (items : List Item) (faults : List Found) → AreRegionFaults (record { items = items }) faults → AllByRecursion (λ (g : Found). BreaksRegionRule g.1 g.0 (record { items = items })) faults
unfolding IsBrokenIn
broken-faults items faults h = broken_of_all (functions_of (record { items = items })) (functions_of (record { items = items })) faults (λ f c. c) h

broken_in_memory : (items : List Item) (faults : List RegionFault) → AllByRecursion (λ (g : Found). BreaksRegionRule g.1 g.0 (record { items = items })) (map fault_of faults)
    → AllByRecursion (λ f. BreaksRegionRule f.rule f.line (record { items = items })) faults
broken_in_memory items [] h = tt
broken_in_memory items (f ∷ faults) h = (h.0, broken_in_memory items faults h.1)

-- ---- what is told of a unit

none_in_memory : (faults : List RegionFault) → map fault_of faults ≡ [] → faults ≡ []
none_in_memory [] e = refl
none_in_memory (f ∷ faults) e = absurd cc

pub none-told : (unit : SourceUnit) (faults : List RegionFault) → AreRegionFaults unit (map fault_of faults) → HasRegions unit → faults ≡ []
none-told unit faults h accepted = none_in_memory faults (none_of_accepted (functions_of unit) (map fault_of faults) h accepted)

pub accepted-told : (unit : SourceUnit) (faults : List RegionFault) → AreRegionFaults unit (map fault_of faults) → faults ≡ [] → HasRegions unit
accepted-told unit faults h e = accepted_of_none (functions_of unit) (map fault_of faults) h (ap (map fault_of) e)

get_in_memory : (faults : List RegionFault) (f : RegionFault) → slice_get faults 0 ≡ Some f → slice_get (map fault_of faults) 0 ≡ Some (fault_of f)
get_in_memory [] f e = absurd cc
get_in_memory (g ∷ faults) f e = let k : g ≡ f = cc in ap (λ (x : RegionFault). Some (fault_of x)) k

pub first-told : (unit : SourceUnit) (faults : List RegionFault) → AreRegionFaults unit (map fault_of faults) → (f : RegionFault) → slice_get faults 0 ≡ Some f → IsFirstRegionFault f.rule f.line unit
first-told unit faults h f e = first_of_all (functions_of unit) (map fault_of faults) (fault_of f) h (get_in_memory faults f e)

pub broken-told : (items : List Item) (faults : List RegionFault) → AreRegionFaults (record { items = items }) (map fault_of faults) → All (λ f. BreaksRegionRule f.rule f.line (record { items = items })) faults
broken-told items faults h =
    All-from_recursion _ faults (broken_in_memory items faults (broken-faults items (map fault_of faults) h))
