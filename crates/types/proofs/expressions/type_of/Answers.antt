use Rattle.std.proofs.Common.{Some, sym, ap, ◌∙◌}
use Rattle.syntax.specs.Shapes.{ref_tree}
use Rattle.types.proofs.TypeLemmas.{value-is, bare-is}
use Rattle.types.proofs.expressions.type_of.Goals as goal

pub returns-in-Some : goal.returns-in-Some
returns-in-Some c = ap Some c.among_all.ensures ∙ sym (value-is _ _ (sym c.in-Some.ensures))

pub returns-in-None : goal.returns-in-None
returns-in-None c = c.bare_type.ensures ∙ sym (bare-is c.args.known.now (ref_tree c.args.e) (sym c.in-None.ensures))
