use Rattle.std.proofs.Common.{refl}
use Rattle.syntax.specs.Stacks.{stacked}
use Rattle.syntax.specs.Tree.{Number}
use Rattle.parse_lexemes.specs.Lexemes.{views}
use Rattle.parse_expressions.proofs.Primaries.{primary_shape}
use Rattle.parse_expressions.proofs.Pushes.{pushed_top}
use Rattle.parse_expressions.proofs.expressions.primary.Goals as goal

pub returns-in_ok-number-in-Number-clause-gives : goal.returns-in_ok-number-in-Number-clause-gives
returns-in_ok-number-in-Number-clause-gives c =
    rw (
      primary_shape (views c.args.lexemes) c.shape.result c.shape.ensures,
      c.in-Number.is,
      c.skip.ensures,
      pushed_top (Number c.in-Number.value c.in-Number.unsigned) (stacked c.number.new.self) (stacked c.args.stack.now) c.in_ok-number-in-Number.ensures,
    ) refl

pub returns-in-Name-clause-gives : goal.returns-in-Name-clause-gives
returns-in-Name-clause-gives c = rw (primary_shape (views c.args.lexemes) c.shape.result c.shape.ensures, c.in-Name.is) c.variable.ensures.gives

pub returns-in-Fixed-Word-clause-gives : goal.returns-in-Fixed-Word-clause-gives
returns-in-Fixed-Word-clause-gives c = rw (primary_shape (views c.args.lexemes) c.shape.result c.shape.ensures, c.in-Fixed-Word.is, c.in-Fixed-Word.field-0-is, ← c.in-Fixed-Word.word-is) c.named.ensures.gives
