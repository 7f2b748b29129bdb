use Rattle.std.proofs.Common.{◌≡◌, None, Some, sym, ◌∙◌, refl}
use Rattle.slab.specs.Slab.{get, with_value}
use Rattle.slab.proofs.SlabLemmas.{Updates-with_value}
use Rattle.tables.specs.Keys.{listed, value_at}
use Rattle.tables.proofs.Keys.{set_none}
use Rattle.tables.proofs.GlobalViews.{seen_at, changes}
use Rattle.tables.proofs.weaks.Weaks.set_weak.Goals as goal
use Rattle.tables.proofs.weaks.Weaks.set_weak.Goals.{in-Some, in_default}

pub returns : goal.returns
returns c =
    let at = seen_at c.self.inside.slots c.self.inside.end c.args.place c.self.invariant in
    elim c.match-get_mut.branch [
      | in-Some w ↦
          let was : get c.self.inside.slots c.args.place ≡ Some w.in-Some.held.now = sym w.in-Some.ensures.value in
          let updates = Updates-with_value c.self.inside.slots c.args.place c.args.address (rw was refl) in
          let here : value_at (listed (get c.self.inside.slots) c.self.inside.end) c.args.place ≡ Some w.in-Some.held.now = at ∙ was in
          rw (w.self-inside-is, ← c.self.view_is, here) (changes c.self.inside.slots (with_value c.self.inside.slots c.args.place c.args.address) c.self.inside.end c.args.place w.in-Some.held.now (Some c.args.address) c.self.invariant was updates)
      | in_default w ↦
          let none : get c.self.inside.slots c.args.place ≡ None = sym w.in_default.ensures.value in
          let here : value_at (listed (get c.self.inside.slots) c.self.inside.end) c.args.place ≡ None = at ∙ none in
          rw (w.self-inside-is, ← c.self.view_is, here) (sym (set_none (listed (get c.self.inside.slots) c.self.inside.end) c.args.place here))
    ]
