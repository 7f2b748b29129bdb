use Rattle.std.proofs.Common.{◌≡◌, ◌<◌, ◌+◌, ◌∷◌, length, get_or, drop, drop-cons, add-one, append_assoc, append-nil, [], eqb, false}
use Rattle.std.proofs.lemmas.List.{drop_all}
use Rattle.std.proofs.lemmas.Bool.{ne_eqb}
use Rattle.class_rules.proofs.Unescaping.{unescaped-other}
use Rattle.class_rules.proofs.mangling.unescape.Goals.{then-underscore+in_ok-underscore, else-underscore+then-b-eq95, else-underscore+else-b-eq95+in_ok-push, then-underscore-2+in_ok-push-2, else-underscore-2}
use Rattle.class_rules.proofs.mangling.unescape.Goals as goal

pub loop-b-preserved : goal.loop-b-preserved
loop-b-preserved c =
    let below : c.loop-b.b-index < length c.args.bytes.now = c.loop-b-test.true in
    let more : drop c.loop-b.b-index c.args.bytes.now ≡ get_or c.args.bytes.now c.loop-b.b-index 0 ∷ drop (c.loop-b.b-index + 1) c.args.bytes.now = rw (add-one, drop-cons c.args.bytes.now c.loop-b.b-index 0) in
    elim c.if-underscore.branch [
      | then-underscore+in_ok-underscore w ↦
          rw (w.path-is, w.underscore-is, w.in_ok-underscore.ensures (drop (c.loop-b.b-index + 1) c.args.bytes.now))
          (rw (w.if-underscore.true, more) at c.loop-b.invariant)
      | else-underscore+then-b-eq95 w ↦
          rw (w.path-is, w.underscore-is) (rw (w.if-underscore.false, more, w.if-b-eq95.true) at c.loop-b.invariant)
      | else-underscore+else-b-eq95+in_ok-push w ↦
          let other : eqb (get_or c.args.bytes.now c.loop-b.b-index 0) 95 ≡ false = ne_eqb (get_or c.args.bytes.now c.loop-b.b-index 0) 95 w.if-b-eq95.false in
          rw (w.path-is, w.underscore-is, w.if-underscore.false, w.in_ok-push.ensures.items, append_assoc, ← unescaped-other (get_or c.args.bytes.now c.loop-b.b-index 0) (drop (c.loop-b.b-index + 1) c.args.bytes.now) other)
          (rw (w.if-underscore.false, more) at c.loop-b.invariant)
    ]

pub returns : goal.returns
returns c =
    let no_more : drop c.loop-b.b-index c.args.bytes.now ≡ [] = drop_all c.loop-b.b-index c.args.bytes.now c.loop-b-test.false in
    elim c.if-underscore-2.branch [
      | then-underscore-2+in_ok-push-2 w ↦ rw (w.path-is, w.in_ok-push-2.ensures.items) (rw (w.if-underscore-2.true, no_more) at c.loop-b.invariant)
      | else-underscore-2 w ↦ rw w.path-is (rw (w.if-underscore-2.false, no_more, append-nil) at c.loop-b.invariant)
    ]
