use Rattle.std.proofs.Common.{◌≡◌, ◌++◌, List, ℕ, drop}
use Rattle.std.specs.Str.{bytes_eq}
use Rattle.class_rules.specs.Mangling.{unescaped}
use Rattle.class_queries.proofs.methods.after_part.Given as goal

-- what is still wanted of the path that is left
abbrev pub invariant-loop-wanted : goal.invariant-loop-wanted
invariant-loop-wanted l = (xs : List ℕ) → bytes_eq (unescaped l.bytes) (l.part ++ xs) ≡ bytes_eq (unescaped l.rest) (drop l.wanted-index l.part ++ xs)
