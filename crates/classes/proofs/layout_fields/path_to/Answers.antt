use Rattle.std.proofs.Common.{◌≡◌, ◌+◌, ◌-◌, [], ◌∷◌, length, ap, ◌∙◌, arith, length-append}
use Rattle.class_rules.specs.Class.{ancestry, ancestry_within}
use Rattle.classes.proofs.Walks.{front_alone, one_more, past_all}
use Rattle.classes.proofs.layout_fields.path_to.Goals as goal

pub loop-preserved : goal.loop-preserved
loop-preserved c =
    let left : c.len-end.result - c.loop.counter ≡ (c.len-end.result - (c.loop.counter + 1)) + 1 = omega arith in
    record {
      whole =
          one_more c.args.classes.now (c.len-end.result - (c.loop.counter + 1)) (c.len-end.result - c.loop.counter) c.loop.ancestor.number c.in-Some.above.number c.loop.ancestors c.push.new.self left c.push.ensures c.in-Some.ensures
          ∙ c.loop.invariant.whole;
      many = omega (arith, ap length c.push.ensures, length-append c.loop.ancestors (c.loop.ancestor.number ∷ []), c.loop.invariant.many);
    }

pub returns-then-ancestor-gt-MOST_CLASSES : goal.returns-then-ancestor-gt-MOST_CLASSES
returns-then-ancestor-gt-MOST_CLASSES c =
    let T = c.args.classes.now in
    let n = c.len-end.result - c.loop.counter in
    front_alone T c.loop.ancestors (ancestry_within n T c.loop.ancestor.number) (ancestry T c.args.class.number) c.loop.invariant.whole (past_all T n c.loop.ancestor.number (omega (arith, c.len-end.ensures.len, c.len-end.ensures.few, c.if-ancestor-gt-MOST_CLASSES.true)))
