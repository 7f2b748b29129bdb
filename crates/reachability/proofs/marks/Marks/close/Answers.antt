use Rattle.std.proofs.Common.{◌≡◌, ℕ, ◌<◌, ◌+◌, ◌++◌, ◌∷◌, [], List, Bool, true, length, sym, ap, ◌∙◌, subst, arith}
use Rattle.std.specs.List.{Contains}
use Rattle.std.proofs.lemmas.List.{length_push, nil_from_length}
use Rattle.std.proofs.lemmas.List.Elements.{Contains-push}
use Rattle.reachability.specs.Marks.{is_marked, unmarked}
use Rattle.reachability.proofs.Closure.{IsMarking, marking_start, marking_step, marking_end, places_reached}
use Rattle.reachability.proofs.marks.Marks.close.Goals as goal

pub loop-place-init : goal.loop-place-init
loop-place-init g c =
    let start = marking_start (g.G.Graph.references c.args.graph.now) c.self.inside.marked.items c.self.inside.waiting.items c.self.invariant in
    subst (λ (r : List Bool). IsMarking (g.G.Graph.references c.args.graph.now) r c.self.inside.marked.items c.self.inside.waiting.items) c.self.view_is start

pub follow-requires-clause-place : goal.follow-requires-clause-place
follow-requires-clause-place g c =
    let popped : c.loop-place.waiting.items ≡ c.pop.new.self.items ++ c.in-Some.place ∷ [] = c.in-Some.ensures.items in
    let waits = c.loop-place.invariant.waits c.in-Some.place (subst (λ (l : List ℕ). Contains l c.in-Some.place) (sym popped) (Contains-push c.pop.new.self.items c.in-Some.place)) in
    places_reached (g.G.Graph.references c.args.graph.now) (λ r. is_marked c.args.self r ≡ true) (g.G.Graph.IsPlace c.args.graph.now) c.requires.closed c.requires.roots c.in-Some.place (c.loop-place.invariant.sound c.in-Some.place waits)

pub follow-requires-clause-within : goal.follow-requires-clause-within
follow-requires-clause-within g c q r =
    let here = follow-requires-clause-place g c in
    let low = c.requires.within q (c.requires.closed c.in-Some.place q here r) in
    let high : q < length c.loop-place.marked.items = omega (arith, low, c.loop-place.invariant.count) in
    high

pub loop-place-preserved : goal.loop-place-preserved
loop-place-preserved g c =
    let popped : c.loop-place.waiting.items ≡ c.pop.new.self.items ++ c.in-Some.place ∷ [] = c.in-Some.ensures.items in
    marking_step (g.G.Graph.references c.args.graph.now) c.args.self c.loop-place.marked.items c.loop-place.waiting.items c.pop.new.self.items c.in-Some.place c.follow.new.marked.items c.follow.new.waiting.items c.loop-place.invariant popped c.in_ok-follow.ensures.adds c.in_ok-follow.ensures.followed

pub loop-place-smaller : goal.loop-place-smaller
loop-place-smaller g c =
    let popped : c.loop-place.waiting.items ≡ c.pop.new.self.items ++ c.in-Some.place ∷ [] = c.in-Some.ensures.items in
    let count : length c.loop-place.waiting.items ≡ length c.pop.new.self.items + 1 = ap length popped ∙ length_push c.pop.new.self.items c.in-Some.place in
    let work : unmarked c.follow.new.marked.items + length c.follow.new.waiting.items ≡ unmarked c.loop-place.marked.items + length c.pop.new.self.items = c.in_ok-follow.ensures.adds.work in
    let less : unmarked c.follow.new.marked.items + length c.follow.new.waiting.items < unmarked c.loop-place.marked.items + length c.loop-place.waiting.items = omega arith in
    less

pub returns : goal.returns
returns g c =
    let none : length c.loop-place.waiting.items ≡ 0 = omega (arith, c.in_default.ensures.cases.0, c.loop-place.waiting.ok) in
    marking_end (g.G.Graph.references c.args.graph.now) c.args.self c.loop-place.marked.items c.loop-place.waiting.items c.loop-place.invariant (nil_from_length c.loop-place.waiting.items none)
