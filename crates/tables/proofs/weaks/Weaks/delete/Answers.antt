use Rattle.std.proofs.Common.{◌≡◌, ℕ, None, Some, Option, List, refl, sym, ap, ◌∙◌, subst}
use Rattle.std.specs.Prelude.{IsSome}
use Rattle.slab.specs.Slab.{get}
use Rattle.tables.specs.Keys.{listed, value_at, without_key}
use Rattle.tables.proofs.Keys.{one_more, lost}
use Rattle.tables.proofs.GlobalViews.{seen_at, changes}
use Rattle.tables.proofs.weaks.Weaks.delete.Goals as goal

pub returns-in_default-clause-fewer : goal.returns-in_default-clause-fewer
returns-in_default-clause-fewer c =
    λ a has.
    let at = seen_at c.self.inside.slots c.self.inside.end c.args.key c.self.invariant in
    let none : None ≡ get c.self.inside.slots c.key.inside.place = c.in_default.ensures.value in
    let here = ap (λ (l : List (Option (Option ℕ))). value_at l c.args.key) (sym c.self.view_is) ∙ at ∙ ap (get c.self.inside.slots) (sym c.key.view_is) ∙ sym none in
    let both : Some a ≡ None = sym has ∙ here in
    absurd (cc)

pub returns-in_default-clause-dead : goal.returns-in_default-clause-dead
returns-in_default-clause-dead c =
    let at = seen_at c.self.inside.slots c.self.inside.end c.args.key c.self.invariant in
    let none : None ≡ get c.self.inside.slots c.key.inside.place = c.in_default.ensures.value in
    (refl, ap (λ (l : List (Option (Option ℕ))). value_at l c.args.key) (sym c.self.view_is) ∙ at ∙ ap (get c.self.inside.slots) (sym c.key.view_is) ∙ sym none)

pub returns-clause-live : goal.returns-clause-live
returns-clause-live c =
    let at = seen_at c.self.inside.slots c.self.inside.end c.args.key c.self.invariant in
    let some : Some c.in-Some._held ≡ get c.self.inside.slots c.key.inside.place = c.in-Some.ensures.value in
    let here = ap (λ (l : List (Option (Option ℕ))). value_at l c.args.key) (sym c.self.view_is) ∙ at ∙ ap (get c.self.inside.slots) (sym c.key.view_is) ∙ sym some in
    subst (λ (o : Option (Option ℕ)). IsSome o) (sym here) refl

pub returns-clause-ok : goal.returns-clause-ok
returns-clause-ok c = rw (← c.self.view_is, ← c.key.view_is) (changes c.self.inside.slots c.try_remove.new.self c.self.inside.end c.key.inside.place c.in-Some._held None c.self.invariant (sym c.in-Some.ensures.value) c.in-Some.ensures.updates)

pub returns-clause-fewer : goal.returns-clause-fewer
returns-clause-fewer c =
    λ a has.
    let gone = changes c.self.inside.slots c.try_remove.new.self c.self.inside.end c.key.inside.place c.in-Some._held None c.self.invariant (sym c.in-Some.ensures.value) c.in-Some.ensures.updates in
    let old = listed (get c.self.inside.slots) c.self.inside.end in
    let there : value_at (listed (get c.self.inside.slots) c.self.inside.end) c.key.inside.place ≡ Some a = ap (λ (l : List (Option (Option ℕ))). value_at l c.key.inside.place) c.self.view_is ∙ ap (value_at c.args.self.now) c.key.view_is ∙ has in
    let more = one_more (without_key (listed (get c.self.inside.slots) c.self.inside.end) c.key.inside.place) (listed (get c.self.inside.slots) c.self.inside.end) c.key.inside.place a (lost (listed (get c.self.inside.slots) c.self.inside.end) c.key.inside.place a there) in
    rw (gone, ← c.self.view_is) more
