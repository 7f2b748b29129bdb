use Rattle.std.proofs.Common.{◌≡◌, ◌++◌, ◌∷◌, [], ◌∙◌, sym, ap, ℕ, None}
use Rattle.indexmap.proofs.CallerLemmas.{insert_entry-new}
use Rattle.base.specs.Bytes.{lookup, ByName}
use Rattle.base.proofs.Results.{on_ok}
use Rattle.class_rules.proofs.ClassIds.{no_class}
use Rattle.world.specs.NameViews.{names_view}
use Rattle.world.proofs.NamesInMemory.{lookup-view, names_view-more}
use Rattle.world.proofs.names.ObjectNames.push.Goals as goal

pub returns-clause-ok : goal.returns-clause-ok
returns-clause-ok c =
    let old = c.self.inside.classes in
    let name = c.in_ok-name.ensures.items in
    let is_new : lookup c.in_ok-name.name.items (names_view old.entries) ≡ None = ap (λ n. lookup n (names_view old.entries)) name ∙ ap (lookup c.args.name.now) c.self.view_is ∙ c.requires in
    ap names_view (on_ok c.insert.result _ c.insert.ensures.entries (sym c.is_err.ensures.value ∙ c.if-is_err.false)
    ∙ insert_entry-new _ old c.in_ok-name.name c.args.class (no_class _ (sym (lookup-view c.in_ok-name.name.items old.entries) ∙ is_new)))
    ∙ names_view-more old.entries (c.in_ok-name.name, c.args.class)
    ∙ ap (λ (ns : ByName ℕ). ns ++ (c.in_ok-name.name.items, c.args.class.number) ∷ []) c.self.view_is
    ∙ ap (λ n. c.args.self.now ++ (n, c.args.class.number) ∷ []) name
