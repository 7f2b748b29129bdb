use Rattle.std.proofs.Common.{◌≡◌, ℕ, List, [], map, Option, Bor, sym, ap, ◌∙◌}
use Rattle.std.specs.Global.{Vec}
use Rattle.std.specs.Prelude.{slice_get, unwrap_or}
use Rattle.std.specs.Option.{option_map, option_copied}
use Rattle.std.specs.Slice.{IsItemAt}
use Rattle.std.proofs.lemmas.Option.{slice_get-map}
use Rattle.machine_scenes.proofs.LookUps.{copied_found}
use Rattle.machine_scenes.proofs.new_object.text_at.Goals as goal

-- the text that is found at a place
found_text : (texts : List (Vec ℕ)) (place : ℕ) (found : Option (Bor (Vec ℕ))) → IsItemAt texts place found
    → unwrap_or (option_map (λ (text : Vec ℕ). text.items) (option_copied found)) [] ≡ unwrap_or (slice_get (map (λ (text : Vec ℕ). text.items) texts) place) []
found_text texts place found h =
    ap (λ (o : Option (Vec ℕ)). unwrap_or (option_map (λ (text : Vec ℕ). text.items) o) []) (copied_found texts place found h)
    ∙ ap (λ (o : Option (List ℕ)). unwrap_or o []) (sym (slice_get-map (λ (text : Vec ℕ). text.items) texts place))

pub returns-in-Some : goal.returns-in-Some
returns-in-Some c =
    c.deref.ensures.value
    ∙ ap (λ (o : Option (Bor (Vec ℕ))). unwrap_or (option_map (λ (text : Vec ℕ). text.items) (option_copied o)) []) (sym c.in-Some.is)
    ∙ found_text c.args.texts.now c.args.place c.get.result c.get.ensures.lookup

pub returns-in-None : goal.returns-in-None
returns-in-None c =
    ap (λ (o : Option (Bor (Vec ℕ))). unwrap_or (option_map (λ (text : Vec ℕ). text.items) (option_copied o)) []) (sym c.in-None.is)
    ∙ found_text c.args.texts.now c.args.place c.get.result c.get.ensures.lookup
