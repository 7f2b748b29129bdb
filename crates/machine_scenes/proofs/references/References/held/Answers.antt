use Rattle.std.proofs.Common.{◌≡◌, ℕ, List, Option, Some, None, Result, Ok, Err, Bor, refl, sym, ap, ◌∙◌}
use Rattle.std.specs.Prelude.{slice_get}
use Rattle.std.specs.Option.{ok_or, option_map, option_copied}
use Rattle.std.specs.Slice.{IsItemAt}
use Rattle.std.proofs.lemmas.Option.{slice_get-map}
use Rattle.tables.specs.declared.fault.TableFault.{TableFault}
use Rattle.tables.specs.declared.fault.TableFault.TheVariants.{Dead}
use Rattle.tables.specs.References.{address_at}
use Rattle.machine_scenes.specs.Statics.{References, all_held, held, held_at, held_or_null, static_at}
use Rattle.machine_scenes.specs.declared.references.Held.{Held}
use Rattle.machine_scenes.specs.declared.references.Held.TheVariants.{Empty, At}
use Rattle.machine_scenes.specs.Statics.{StaticReference}
use Rattle.machine_scenes.proofs.LookUps.{copied_found}
use Rattle.machine_scenes.proofs.references.References.held.Goals as goal

-- what is found in a slot tells what its static holds
held_in_slot : (globals : List (Option ℕ)) (weaks : List (Option (Option ℕ))) (statics : List StaticReference) (slot : ℕ) (found : Option (Bor StaticReference)) (r : References) → IsItemAt statics slot found
    → all_held globals weaks statics ≡ r.statics → held_or_null (option_map (held globals weaks) (option_copied found)) ≡ static_at r slot
held_in_slot globals weaks statics slot found r h view =
    ap (λ (o : Option StaticReference). held_or_null (option_map (held globals weaks) o)) (copied_found statics slot found h)
    ∙ ap held_or_null (sym (slice_get-map (held globals weaks) statics slot))
    ∙ ap (λ (l : List Held). held_or_null (slice_get l slot)) view

-- what is found at a key
at_key : (o : Option ℕ) (r : Result ℕ TableFault) (addr : ℕ) → r ≡ ok_or o Dead → r ≡ Ok addr → At addr ≡ held_at o
at_key None r addr h e = absurd (cc)
at_key (Some a) r addr h e = let same : addr ≡ a = cc in ap At same

none_at_key : (o : Option ℕ) (r : Result ℕ TableFault) (fault : TableFault) → r ≡ ok_or o Dead → r ≡ Err fault → Empty ≡ held_at o
none_at_key None r fault h e = refl
none_at_key (Some a) r fault h e = absurd (cc)

pub returns-in-Ok : goal.returns-in-Ok
returns-in-Ok c =
    let globals = c.self.inside.globals.now in
    let weaks = c.self.inside.weaks.now in
    at_key (address_at globals c.in-Some-Live.key) c.get-in-Some-Live.result c.in-Ok.addr c.get-in-Some-Live.ensures c.in-Ok.is
    ∙ ap (held globals weaks) (sym c.in-Some-Live.field-0-is)
    ∙ ap (λ (o : Option (Bor StaticReference)). held_or_null (option_map (held globals weaks) (option_copied o))) (sym c.in-Some-Live.is)
    ∙ held_in_slot globals weaks c.self.inside.statics.now c.args.slot c.get.result c.args.self.now c.get.ensures.lookup (ap (λ (r : References). r.statics) c.self.view_is)

pub returns-in-Err : goal.returns-in-Err
returns-in-Err c =
    let globals = c.self.inside.globals.now in
    let weaks = c.self.inside.weaks.now in
    none_at_key (address_at globals c.in-Some-Live.key) c.get-in-Some-Live.result c.in-Err.field-0 c.get-in-Some-Live.ensures c.in-Err.is
    ∙ ap (held globals weaks) (sym c.in-Some-Live.field-0-is)
    ∙ ap (λ (o : Option (Bor StaticReference)). held_or_null (option_map (held globals weaks) (option_copied o))) (sym c.in-Some-Live.is)
    ∙ held_in_slot globals weaks c.self.inside.statics.now c.args.slot c.get.result c.args.self.now c.get.ensures.lookup (ap (λ (r : References). r.statics) c.self.view_is)

pub returns-in-Some-Deleted : goal.returns-in-Some-Deleted
returns-in-Some-Deleted c =
    let globals = c.self.inside.globals.now in
    let weaks = c.self.inside.weaks.now in
    ap (held globals weaks) (sym c.in-Some-Deleted.field-0-is)
    ∙ ap (λ (o : Option (Bor StaticReference)). held_or_null (option_map (held globals weaks) (option_copied o))) (sym c.in-Some-Deleted.is)
    ∙ held_in_slot globals weaks c.self.inside.statics.now c.args.slot c.get.result c.args.self.now c.get.ensures.lookup (ap (λ (r : References). r.statics) c.self.view_is)
