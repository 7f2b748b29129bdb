-- What is refused at a statement, rule by rule.
use Rattle.std.proofs.Common.{◌≡◌, Bool, true, false, ◌||◌, List, [], Option, Some, None, refl, ap₂, ◌∙◌}
use Rattle.std.specs.List.{list_any}
use Rattle.std.specs.Option.{option_to_list}
use Rattle.std.proofs.lemmas.List.Folds.{list_any-append}
use Rattle.base.specs.Bytes.{Identifier}
use Rattle.base.specs.Options.{some_passes}
use Rattle.syntax.specs.Parts.{line_of, used_names, assigned_name}
use Rattle.syntax.specs.declared.unit.ResultType.{ResultType}
use Rattle.syntax.specs.declared.unit.ResultType.TheVariants.{Void}
use Rattle.syntax.specs.Tree.{Stmt}
use Rattle.type_rules.specs.ExprTypes.{Scope, is_unknown}
use Rattle.type_rules.specs.declared.rule.TypeRule.TheVariants.{UnknownName}
use Rattle.type_rules.specs.TypeRules.{typing_rules, breaks_type_rule, broken_at, statement_place}
use Rattle.types.specs.Faults.{refused_of}
use Rattle.type_rules.specs.Uses.{uses}
use Rattle.types.proofs.RuleLemmas.{listed}
use Rattle.type_rules.proofs.UseLemmas.{uses_is}

any_of : (p : Identifier → Bool) (o : Option Identifier) → list_any p (option_to_list o) ≡ some_passes p o
any_of p None = refl
any_of p (Some x) = or_false (p x)
  where
    or_false : (a : Bool) → (a || false) ≡ a
    or_false true = refl
    or_false false = refl

-- the names that are used, and the one that is set
pub unknown_names : (known : Scope) (s : Stmt) → breaks_type_rule UnknownName known [] Void s ≡ (uses (is_unknown known) s || some_passes (is_unknown known) (assigned_name s))
unknown_names known s =
    list_any-append (is_unknown known) (used_names s) (option_to_list (assigned_name s))
    ∙ ap₂ ◌||◌ (uses_is (is_unknown known) s) (any_of (is_unknown known) (assigned_name s))

pub statement-faults : (returns : ResultType) (known : Scope) (taken : List Identifier) (s : Stmt) → broken_at (statement_place returns known taken s) ≡ refused_of returns known taken s (line_of s) typing_rules
statement-faults returns known taken s = listed (λ rule. breaks_type_rule rule known taken returns s) (line_of s)
