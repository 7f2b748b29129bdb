use Rattle.std.proofs.Common.{◌≡◌, ℕ, List, Option, Some, None, Result, Ok, Err, refl, sym, ap, ◌∙◌}
use Rattle.std.specs.Prelude.{slice_get, IfErr, OnErr, OnOk}
use Rattle.std.proofs.lemmas.Option.{slice_get-get_or}
use Rattle.tables.specs.declared.fault.TableFault.{TableFault}
use Rattle.tables.specs.declared.fault.TableFault.TheVariants.{Dead}
use Rattle.tables.specs.Keys.{value_at, without_key}
use Rattle.tables.proofs.Keys.{set_none}
use Rattle.machine_scenes.specs.Statics.{StaticReference, without_weak}
use Rattle.semantics.specs.declared.static_reference.StaticReference.TheVariants as static
use Rattle.machine_scenes.proofs.statics.delete_weak.Goals as goal
use Rattle.machine_scenes.proofs.statics.delete_weak.Goals.{in-Weakly, in_default}

ended : {T : Type 0} (r : Result T TableFault) (old new : List (Option (Option ℕ))) (key : ℕ) → OnOk r (new ≡ without_key old key) → IfErr r (λ e. (e ≡ Dead) × (value_at old key ≡ None)) → OnErr r (new ≡ old) → new ≡ without_key old key
ended (Ok x) old new key ok dead err = ok
ended (Err e) old new key ok dead err = err ∙ sym (set_none old key dead.1)

none_held : (s : StaticReference) (weaks : List (Option (Option ℕ))) → ((key : ℕ) → s ≡ static.Weakly key → ⊥) → without_weak weaks (Some s) ≡ weaks
none_held static.Empty weaks h = refl
none_held (static.Live k) weaks h = refl
none_held (static.Weakly k) weaks h = absurd (h k refl)
none_held static.Cleared weaks h = refl
none_held static.Deleted weaks h = refl

pub returns-clause-weaks : goal.returns-clause-weaks
returns-clause-weaks c =
    let there : slice_get c.args.statics.now c.args.slot ≡ Some c.index-statics-place.result = slice_get-get_or c.args.statics.now c.args.slot c.index-statics-place.result c.requires ∙ ap (λ (s : StaticReference). Some s) (sym c.index-statics-place.is) in
    elim c.match-held.branch [
      | in-Weakly w ↦
          w.weaks-is
          ∙ ended w.delete.result c.args.weaks.now w.delete.new.self w.in-Weakly.key w.delete.ensures.ok w.delete.ensures.dead w.delete.ensures.err
          ∙ sym (ap (without_weak c.args.weaks.now) (there ∙ ap (λ (s : StaticReference). Some s) w.in-Weakly.is))
      | in_default w ↦ w.weaks-is ∙ sym (ap (without_weak c.args.weaks.now) there ∙ none_held c.index-statics-place.result c.args.weaks.now w.in_default.not-Weakly)
    ]
