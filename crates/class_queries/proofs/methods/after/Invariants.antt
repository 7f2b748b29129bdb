use Rattle.std.proofs.Common.{◌≡◌, ◌++◌, List, ℕ, drop}
use Rattle.std.specs.Str.{bytes_eq}
use Rattle.class_queries.proofs.methods.after.Given as goal

-- what is still wanted of the text that is left
abbrev pub invariant-loop-wanted : goal.invariant-loop-wanted
invariant-loop-wanted l = (xs : List ℕ) → bytes_eq (l.prefix ++ xs) l.text ≡ bytes_eq (drop l.wanted-index l.prefix ++ xs) l.rest
