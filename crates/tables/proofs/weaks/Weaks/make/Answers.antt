use Rattle.std.proofs.Common.{◌≡◌, ◌<◌, ℕ, None, Some, Option, ◌≤◌, List, subst, arith}
use Rattle.slab.specs.Slab.{Slab, Updates, get}
use Rattle.tables.specs.Keys.{AreBelow, Gains, IsOneMore, listed, values_in}
use Rattle.tables.proofs.Keys.{one_more}
use Rattle.tables.proofs.GlobalViews.{gains, below_after}
use Rattle.tables.proofs.weaks.Weaks.make.Goals as goal

made : (s t : Slab (Option ℕ)) (end end' key : ℕ) (a : Option ℕ) → AreBelow s end → get s key ≡ None → Updates s t key (Some a) → end ≤ end' → key < end' → Gains (listed (get s) end) key a (listed (get t) end')
made s t end end' key a below vacant updates further here = gains s t end end' key a below (below_after s t end end' key a below updates further here) vacant updates

pub returns-clause-made : goal.returns-clause-made
returns-clause-made c =
    let most = c.max-self-inside.ensures in
    subst (λ (l : List (Option (Option ℕ))). Gains l c.in_ok-place.place (Some c.args.addr) (listed (get c.insert.new.self) c.max-self-inside.result)) c.self.view_is (made c.self.inside.slots c.insert.new.self c.self.inside.end c.max-self-inside.result c.in_ok-place.place (Some c.args.addr) c.self.invariant c.in_ok-place.ensures.was_vacant c.in_ok-place.ensures.updates (omega arith) (omega arith))

pub returns-clause-more : goal.returns-clause-more
returns-clause-more c =
    let most = c.max-self-inside.ensures in
    subst (λ (l : List (Option (Option ℕ))). IsOneMore (Some c.args.addr) (values_in l) (values_in (listed (get c.insert.new.self) c.max-self-inside.result))) c.self.view_is (one_more (listed (get c.self.inside.slots) c.self.inside.end) (listed (get c.insert.new.self) c.max-self-inside.result) c.in_ok-place.place (Some c.args.addr) (made c.self.inside.slots c.insert.new.self c.self.inside.end c.max-self-inside.result c.in_ok-place.place (Some c.args.addr) c.self.invariant c.in_ok-place.ensures.was_vacant c.in_ok-place.ensures.updates (omega arith) (omega arith)))
