use Rattle.std.proofs.Common.{◌≡◌, ◌<◌, ℕ, Some, length, Option, List, sym, ap, ◌∙◌, subst}
use Rattle.std.specs.Prelude.{slice_get}
use Rattle.std.specs.Option.{option_map, option_flatten}
use Rattle.std.proofs.lemmas.Option.{slice_get-map}
use Rattle.slab.specs.Slab.{get}
use Rattle.tables.specs.Keys.{listed}
use Rattle.tables.specs.Weaks.{weak_places}
use Rattle.tables.proofs.Keys.{length-listed, listed_get}
use Rattle.tables.proofs.weaks.Weaks.weak.Goals as goal

kept : (slots : List (Option (Option ℕ))) (place : ℕ) (o : Option (Option ℕ)) → slice_get slots place ≡ Some o → slice_get (weak_places slots) place ≡ Some (option_flatten o)
kept slots place o here = slice_get-map (λ (p : Option (Option ℕ)). option_flatten p) slots place ∙ ap (λ (x : Option (Option (Option ℕ))). option_map (λ (p : Option (Option ℕ)). option_flatten p) x) here

pub returns : goal.returns
returns c =
    let count = length-listed (get c.self.inside.slots) c.self.inside.end in
    let below : c.args.place < c.self.inside.end = subst (λ (n : ℕ). c.args.place < n) (ap (λ (l : List (Option (Option ℕ))). length l) (sym c.self.view_is) ∙ count) c.requires in
    let here = listed_get (get c.self.inside.slots) c.self.inside.end c.args.place below in
    rw (← c.self.view_is) (kept (listed (get c.self.inside.slots) c.self.inside.end) c.args.place (get c.self.inside.slots c.args.place) here ∙ ap (λ (o : Option (Option ℕ)). Some (option_flatten o)) (sym (c.copied.ensures ∙ c.get.ensures)) ∙ ap (λ (o : Option ℕ). Some o) (sym c.flatten.ensures))
