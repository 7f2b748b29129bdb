-- How many names a function has.
use Rattle.std.specs.Prelude.{◌≤◌, ◌-◌, ◌++◌, List, length, take, Bool, true, nat_le}
use Rattle.base.specs.Bytes.{Identifier}
use Rattle.base.specs.Limits.{most_names}
use Rattle.syntax.specs.Parts.{parameter_names, names_declared, statements_of}
use Rattle.syntax.specs.Tree.{Function, Item, StaticItem, FunctionItem}

-- no more than may be
abbrev pub HasFewNames : Function → Type 0
HasFewNames f = length (parameter_names f ++ names_declared (statements_of f.body)) ≤ most_names

-- so has an item that is a function
abbrev pub has_few_names : Item → Bool
has_few_names (StaticItem s) = true
has_few_names (FunctionItem f) = nat_le (length (parameter_names f ++ names_declared (statements_of f.body))) most_names

-- names with the first of others, as many as there is room for
unfoldable pub with_names : (names more : List Identifier) → List Identifier
with_names names more = names ++ take (most_names - length names) more
