-- What a check of some rules finds: the first that is broken.
use Rattle.std.specs.Prelude.{◌≡◌, ℕ, Bool, true, false, not, ◌||◌, List, [], ◌∷◌, ◌++◌, map, take, flat_map, Option, Some, None, Result, Ok, Err}
use Rattle.std.specs.Option.{is_some, option_map}
use Rattle.base.specs.Bytes.{Identifier, ByName}
use Rattle.class_rules.specs.Mangling.{unmangle}
use Rattle.places.specs.declared.fault.Fault.{Fault as FaultAt}
use Rattle.syntax.specs.declared.unit.Function.{Function as FunctionInMemory}
use Rattle.syntax.specs.declared.unit.ResultType.{ResultType}
use Rattle.syntax.specs.declared.unit.ResultType.TheVariants.{Void}
use Rattle.syntax.specs.Tree.{Stmt, Item, StaticItem, FunctionItem}
use Rattle.types.specs.AllFaults.{told_at}
use Rattle.types.specs.declared.fault.TypeError.{TypeError}
use Rattle.types.specs.declared.fault.TypeError.TheVariants.{Memory, Fault}
use Rattle.type_rules.specs.declared.ty.ExprType.{ExprType}
use Rattle.type_rules.specs.declared.ty.ExprType.TheVariants.{Ref}
use Rattle.type_rules.specs.ExprTypes.{Scope}
use Rattle.type_rules.specs.declared.rule.TypeRule.{TypeRule}
use Rattle.type_rules.specs.declared.rule.TypeRule.TheVariants.{UnknownName, DeclaredTwice}
use Rattle.type_rules.specs.TypeRules.{Place, StaticForm, breaks_type_rule, function_places, has_name, has_repeated, parameter_type, static_type}

-- a rule that is broken, and the line
abbrev pub TypeFault : Type 0
TypeFault = FaultAt TypeRule ℕ

-- the line and the rule
abbrev pub fault_of : TypeFault → ℕ × TypeRule
fault_of f = (f.line, f.rule)

-- ---- what a check finds in a list of broken rules

-- the rules that are broken, each with its line
abbrev pub Faults : Type 0
Faults = List (ℕ × TypeRule)

-- the first of them
abbrev pub first : Faults → Option (ℕ × TypeRule)
first [] = None
first (f ∷ rest) = Some f

-- memory ran out, or this rule is the first
abbrev pub Refuses : TypeError → Faults → Type 0
Refuses Memory broken = Unit {0}
Refuses (Fault f) broken = first broken ≡ Some (fault_of f)

-- no rule is broken, or the fault is the first, or memory ran out
abbrev pub Finds : {A : Type 0} → Result A TypeError → Faults → Type 0
Finds (Ok x) broken = broken ≡ []
Finds (Err e) broken = Refuses e broken

-- no rule is broken, or this one is the first, on this line
abbrev pub Judges : Option TypeRule → ℕ → Faults → Type 0
Judges rule line broken = first broken ≡ option_map (λ r. (line, r)) rule

-- the fact of the broken rule, unless memory ran out
abbrev pub IfBroken : TypeError → (TypeFault → Type 0) → Type 0
IfBroken Memory P = Unit {0}
IfBroken (Fault f) P = P f

-- ---- what is refused at places

-- the rule at this line, where it is broken
abbrev pub broken_if : Bool → TypeRule → ℕ → Faults
broken_if true rule line = (line, rule) ∷ []
broken_if false rule line = []

-- what is told of places, in their order
unfoldable pub found : List Place → Faults
found places = flat_map told_at places

-- ---- what is kept of what is found

-- all of it, or the first alone
abbrev pub kept : (all : Bool) → Faults → Faults
kept true faults = faults
kept false faults = take 1 faults

-- the faults that are kept, and whether all are
pub record Kept : Type 0 where
  pub all : Bool
  pub faults : List TypeFault

-- of what was told before and what is told now the same is kept as of what was told before and what was found
abbrev pub Tells : (old new : Kept) → (found : Faults) → Type 0
Tells old new found = (new.all ≡ old.all) × (kept old.all (map fault_of new.faults) ≡ kept old.all (map fault_of old.faults ++ found))

-- what is refused at a statement on this line of these rules, one after the other
abbrev pub refused_of : ResultType → Scope → List Identifier → Stmt → ℕ → List TypeRule → Faults
refused_of returns known taken s line rules = flat_map (λ rule. broken_if (breaks_type_rule rule known taken returns s) rule line) rules

-- the places of an item alone
abbrev pub own_places : List Identifier → Scope → Item → List Place
own_places taken statics (StaticItem s) = record { line = s.line; known = statics; taken = taken; returns = Void; form = StaticForm s } ∷ []
own_places taken statics (FunctionItem f) = function_places taken statics f

-- the statics after an item
abbrev pub with_static : Scope → Item → Scope
with_static statics (StaticItem s) = (s.name, static_type s.type) ∷ statics
with_static statics (FunctionItem f) = statics

-- what is refused at a function's head after items of these names, where its parameters and the statics have those
abbrev pub head_faults : List Identifier → List Identifier → FunctionInMemory → Faults
head_faults taken entry f = broken_if (not (is_some (unmangle f.name))) UnknownName f.line
    ++ broken_if (has_name taken f.name || has_repeated entry) DeclaredTwice f.line

-- ---- names in memory

-- the list ends with the other
pub record IsAbove (all below : ByName ExprType) : Type 0 where
  pub above : ByName ExprType
  pub joined : all ≡ above ++ below

-- what is known at a function's beginning, after these statics
abbrev pub entry_scope : Scope → FunctionInMemory → Scope
entry_scope statics f = (f.class_name, Ref) ∷ map (λ p. (p.name, parameter_type p.kind)) f.parameters.items ++ statics
