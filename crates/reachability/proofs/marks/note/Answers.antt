use Rattle.std.proofs.Common.{◌≡◌, ◌∙◌, sym, false}
use Rattle.std.proofs.lemmas.List.{get_or_default}
use Rattle.reachability.specs.Marks.{is_marked}
use Rattle.reachability.proofs.Adding.{Adds-one}
use Rattle.reachability.proofs.marks.note.Goals as goal

pub returns-in_ok-push-clause-adds : goal.returns-in_ok-push-clause-adds
returns-in_ok-push-clause-adds c =
    let none : is_marked c.args.marked.now.items c.args.place ≡ false = get_or_default c.args.marked.now.items c.args.place false c.index.result.now c.requires ∙ sym c.index.ensures ∙ c.if-not-index.true in
    rw (c.in_ok-push.ensures.items) (Adds-one c.args.marked.now.items c.args.waiting.now.items c.args.place c.requires none)
