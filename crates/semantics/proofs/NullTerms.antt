-- An expression that compares no bare name with NULL tests none.
use Rattle.std.proofs.Common.{◌≡◌, Option, None, sym, ap, ◌∙◌}
use Rattle.std.specs.Option.{option_map}
use Rattle.base.specs.Bytes.{Identifier}
use Rattle.syntax.specs.NullTests.{NullTest, null_test_of}
use Rattle.syntax.specs.Parts.{null_tested}
use Rattle.syntax.specs.Tree.{Expr}
use Rattle.syntax.proofs.NullTests.{tested_name}

abbrev name_of : Option NullTest → Option Identifier
name_of o = option_map (λ t. t.name) o

pub none_tested : (e : Expr) → null_test_of e ≡ None → null_tested e ≡ None
none_tested e h = sym (tested_name e) ∙ ap name_of h
