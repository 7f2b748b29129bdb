use Rattle.std.proofs.Common.{◌≡◌, ◌∙◌, Some, get_or, sym, ap, ◌<◌, ◌≤◌, length, arith}
use Rattle.std.proofs.lemmas.List.{get_or-map, length-map}
use Rattle.semantics.specs.declared.object_id.ObjectId.{ObjectId}
use Rattle.semantics.specs.Views.{names_of}
use Rattle.report_objects.specs.Names.{within}
use Rattle.report_objects.proofs.MarkedRoots.{name_marked, name_passed, all_marked}
use Rattle.report_objects.proofs.roots.marked_roots.Goals as goal
use Rattle.report_objects.proofs.roots.marked_roots.Goals.{in-Some+in_ok-add-2, in_default}

pub loop-name-2-preserved : goal.loop-name-2-preserved
loop-name-2-preserved c =
    let names = names_of c.args.names.now in
    let index = c.loop-name-2.name-index in
    let low : index < length names = omega (arith, c.loop-name-2-test.true, length-map c.args.names.now (λ (o : ObjectId). o.number)) in
    let at : get_or names index 0 ≡ _ = get_or-map (λ (o : ObjectId). o.number) c.args.names.now index _ 0 c.loop-name-2-test.true in
    let is : within c.args.count (Some (get_or names index 0)) ≡ c.within.result = ap (λ n. within c.args.count (Some n)) at ∙ sym c.within.ensures in
    elim c.match-within.branch [
      | in-Some+in_ok-add-2 w ↦
          rw (w.marks-is, w.in_ok-add-2.ensures.ok) (name_marked c.args.count c.args.loaded names index w.in-Some.place c.loop-name-2.marks c.loop-name-2.invariant low (is ∙ w.in-Some.is))
      | in_default w ↦
          rw (w.marks-is) (name_passed c.args.count c.args.loaded names index c.loop-name-2.marks c.loop-name-2.invariant (λ a e. w.in_default.not-Some a (sym is ∙ e)))
    ]

pub returns : goal.returns
returns c =
    let past : length (names_of c.args.names.now) ≤ c.loop-name-2.name-index = omega (arith, c.loop-name-2-test.false, length-map c.args.names.now (λ (o : ObjectId). o.number)) in
    all_marked c.args.count c.args.loaded (names_of c.args.names.now) c.loop-name-2.name-index c.loop-name-2.marks c.loop-name-2.invariant past
