use Rattle.std.proofs.Common.{◌≡◌, ℕ, List, Option, Some, None, Result, Ok, Err, refl, sym, ap, ◌∙◌, subst, get_or}
use Rattle.std.specs.Prelude.{slice_get, IsSome, IsOk, IfErr, OnOk}
use Rattle.std.proofs.lemmas.Option.{get_or_from_slice_get, slice_get_within}
use Rattle.tables.specs.declared.globals.Global.{Global}
use Rattle.tables.specs.declared.fault.TableFault.{TableFault}
use Rattle.tables.specs.declared.fault.TableFault.TheVariants.{Dead}
use Rattle.tables.specs.Globals.{without}
use Rattle.tables.specs.References.{address_at}
use Rattle.machine_scenes.specs.Statics.{StaticReference}
use Rattle.semantics.specs.declared.static_reference.StaticReference.TheVariants.{Live}
use Rattle.machine_scenes.proofs.statics.delete_global.Goals as goal

-- the key at a place is the one that was read there
same_key : (statics : List StaticReference) (place : ℕ) (read : StaticReference) (key held : Global) → slice_get statics place ≡ Some (Live key) → read ≡ get_or statics place read → read ≡ Live held → key ≡ held
same_key statics place read key held there is live =
    let e : Live key ≡ Live held = sym (get_or_from_slice_get statics place (Live key) read there) ∙ sym is ∙ live in cc

-- what isn't NULL isn't refused
is_live : {T E : Type 0} (r : Result T E) (o : Option ℕ) (dead : E → Type 0) → IsSome o → IfErr r (λ e. dead e × (o ≡ None)) → IsOk r
is_live (Ok x) o dead some refused = refl
is_live (Err e) o dead some refused = absurd (cc)

pub unwrap-requires : goal.unwrap-requires
unwrap-requires c =
    let r = c.requires in
    let same = same_key c.args.statics.now c.args.slot c.index-statics-place.result r.0 c.in-Live.key r.1 c.index-statics-place.is c.in-Live.is in
    is_live c.delete.result (address_at c.args.globals.now c.in-Live.key) (λ (e : TableFault). e ≡ Dead) (subst (λ (key : Global). IsSome (address_at c.args.globals.now key)) same r.2) c.delete.ensures.dead

pub returns-clause-globals : goal.returns-clause-globals
returns-clause-globals c key there =
    let same = same_key c.args.statics.now c.args.slot c.index-statics-place.result key c.in-Live.key there c.index-statics-place.is c.in-Live.is in
    let done = subst {A = Result (Unit {0}) TableFault} (λ r. OnOk r (c.delete.new.self ≡ without c.args.globals.now c.in-Live.key)) c.unwrap.ensures c.delete.ensures.ok in
    done ∙ ap (without c.args.globals.now) (sym same)

pub unreachable-requires : goal.unreachable-requires
unreachable-requires c =
    let r = c.requires in
    c.in_default.not-Live r.0 (c.index-statics-place.is ∙ get_or_from_slice_get c.args.statics.now c.args.slot (Live r.0) c.index-statics-place.result r.1)

pub bounds-statics-place : goal.bounds-statics-place
bounds-statics-place c = slice_get_within c.args.statics.now c.args.slot (Live c.requires.0) c.requires.1

pub bounds-statics-place-2 : goal.bounds-statics-place-2
bounds-statics-place-2 c = slice_get_within c.args.statics.now c.args.slot (Live c.requires.0) c.requires.1
