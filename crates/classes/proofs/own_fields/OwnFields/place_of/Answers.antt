use Rattle.std.proofs.Common.{◌≡◌, ◌∙◌, sym, ap, slice_get, arith}
use Rattle.std.specs.Map.{keys_of}
use Rattle.std.proofs.lemmas.Iterator.Adapters.{position_from-zero}
use Rattle.classes.specs.HeldFields.{own_view}
use Rattle.classes.proofs.NamedFields.{has_field, is_key, placed, unplaced}
use Rattle.classes.proofs.own_fields.OwnFields.place_of.Goals as goal

pub returns-in-Some : goal.returns-in-Some
returns-in-Some c =
    let es = c.self.inside.types.entries in
    let name = c.args.name.now in
    let at = placed name 0 es c.in-Some.place (sym (position_from-zero (is_key name) (keys_of es)) ∙ sym c.in-Some.ensures.index) in
    let same : c.in-Some.place ≡ at.0 = omega (arith, at.2) in
    (at.1, ap (λ fs. slice_get fs c.in-Some.place) (sym c.self.view_is) ∙ ap (slice_get (own_view es)) same ∙ at.3, at.4)

pub returns-in-None : goal.returns-in-None
returns-in-None c =
    let es = c.self.inside.types.entries in
    let name = c.args.name.now in
    ap (λ fs. has_field fs name) (sym c.self.view_is) ∙ unplaced name 0 es (sym (position_from-zero (is_key name) (keys_of es)) ∙ sym c.in-None.ensures.index)
