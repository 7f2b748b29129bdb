use Rattle.std.proofs.Common.{◌≡◌, Some, arith, sym, ◌∙◌}
use Rattle.std.specs.Prelude.{slice_get}
use Rattle.std.specs.List.{Contains}
use Rattle.std.proofs.lemmas.Option.{same_Some}
use Rattle.base.proofs.Lists.{Contains-from_get, get-from_contains}
use Rattle.reachability.proofs.Adding.{Seen-more, Seen-none}
use Rattle.reachability.proofs.marks.follow.Goals as goal
use Rattle.reachability.proofs.marks.follow.Goals.{in-Some+in_ok-note, in_default}

pub note-requires : goal.note-requires
note-requires g c =
    let read : slice_get (g.G.Graph.references c.args.graph.now c.args.place) c.loop-index.index ≡ Some (Some c.in-Some.target) = c.in-Some.ensures in
    let within = c.requires.within c.in-Some.target (Contains-from_get (g.G.Graph.references c.args.graph.now c.args.place) c.loop-index.index (Some c.in-Some.target) read) in
    omega (arith, within, c.loop-index.invariant.adds.count)

pub loop-index-preserved : goal.loop-index-preserved
loop-index-preserved g c =
    elim c.match-reference.branch [
      | in-Some+in_ok-note w ↦
          let read : slice_get (g.G.Graph.references c.args.graph.now c.args.place) c.loop-index.index ≡ Some (Some w.in-Some.target) = w.in-Some.ensures in
          let more = Seen-more (λ x. Contains (g.G.Graph.references c.args.graph.now c.args.place) (Some x)) (λ k x. slice_get (g.G.Graph.references c.args.graph.now c.args.place) k ≡ Some (Some x)) c.args.marked.now.items c.args.waiting.now.items c.loop-index.marked.items c.loop-index.waiting.items w.note.new.marked.items w.note.new.waiting.items c.loop-index.index w.in-Some.target c.loop-index.invariant.adds c.loop-index.invariant.seen (Contains-from_get (g.G.Graph.references c.args.graph.now c.args.place) c.loop-index.index (Some w.in-Some.target) read) (λ x e. same_Some x w.in-Some.target (same_Some (Some x) (Some w.in-Some.target) (sym e ∙ read))) w.in_ok-note.ensures.adds w.in_ok-note.ensures.here in
          rw (w.marked-is, w.waiting-is) (record { adds = more.adds; seen = more.seen })
      | in_default w ↦
          let more = Seen-none (λ x. Contains (g.G.Graph.references c.args.graph.now c.args.place) (Some x)) (λ k x. slice_get (g.G.Graph.references c.args.graph.now c.args.place) k ≡ Some (Some x)) c.args.marked.now.items c.args.waiting.now.items c.loop-index.marked.items c.loop-index.waiting.items c.loop-index.index c.loop-index.invariant.adds c.loop-index.invariant.seen (λ x e. w.in_default.not-Some x (same_Some c.reference.result (Some x) (sym c.reference.ensures ∙ e))) in
          rw (w.marked-is, w.waiting-is) (record { adds = more.adds; seen = more.seen })
    ]

pub returns-clause-followed : goal.returns-clause-followed
returns-clause-followed g c q r =
    c.loop-index.invariant.seen r.0 q (omega (arith, r.1, c.count-index-end.ensures)) (get-from_contains (g.G.Graph.references c.args.graph.now c.args.place) (Some q) r)
