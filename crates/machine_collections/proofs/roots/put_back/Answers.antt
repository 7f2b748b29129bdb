use Rattle.std.proofs.Common.{rules, ℕ, ◌+◌, List, refl, length, map, sym, ap, ◌∙◌, subst}
use Rattle.std.specs.Prelude.{flat_map}
use Rattle.std.proofs.lemmas.List.{with_items_is, places}
use Rattle.machine_collections.specs.Moving.{AreMovedAt}
use Rattle.machine_collections.specs.Roots.{loaded_places, thread_places}
use Rattle.monitors.specs.Monitors.{addresses}
use Rattle.machine_collections.proofs.MovedRoots.{parts_moved}
use Rattle.machine_collections.proofs.roots.put_back.Goals as goal

pub put_loaded-next-requires : goal.put_loaded-next-requires
put_loaded-next-requires c =
    let parts = parts_moved c.requires.0 c.args.store.now c.args.threads.now c.args.roots.now.places.items c.requires.1 in
    (c.requires.0, subst (λ (l : List ℕ). AreMovedAt c.requires.0 (loaded_places l) c.args.roots.now.places.items 0) (sym c.deref_mut.ensures.value) parts.0)

pub put_globals-next-requires : goal.put_globals-next-requires
put_globals-next-requires c =
    let parts = parts_moved c.requires.0 c.args.store.now c.args.threads.now c.args.roots.now.places.items c.requires.1 in
    let next = c.put_loaded-next.ensures.next ∙ ap (λ (l : List ℕ). length l) c.deref_mut.ensures.value in
    (c.requires.0, subst (λ (n : ℕ). AreMovedAt c.requires.0 c.args.store.now.globals c.args.roots.now.places.items n) (sym next) parts.1)

pub put_threads-next-requires : goal.put_threads-next-requires
put_threads-next-requires c =
    let parts = parts_moved c.requires.0 c.args.store.now c.args.threads.now c.args.roots.now.places.items c.requires.1 in
    let next = c.put_globals-next.ensures.next ∙ ap (λ (n : ℕ). n + length c.args.store.now.globals) (c.put_loaded-next.ensures.next ∙ ap (λ (l : List ℕ). length l) c.deref_mut.ensures.value) in
    (c.requires.0, subst (λ (n : ℕ). AreMovedAt c.requires.0 (flat_map thread_places c.args.threads.now) c.args.roots.now.places.items n) (sym next) parts.2)

pub put_monitors-requires : goal.put_monitors-requires
put_monitors-requires c =
    let parts = parts_moved c.requires.0 c.args.store.now c.args.threads.now c.args.roots.now.places.items c.requires.1 in
    let further = c.put_globals-next.ensures.next ∙ ap (λ (n : ℕ). n + length c.args.store.now.globals) (c.put_loaded-next.ensures.next ∙ ap (λ (l : List ℕ). length l) c.deref_mut.ensures.value) in
    let last = c.put_threads-next.ensures.next ∙ ap (λ (n : ℕ). n + length (flat_map thread_places c.args.threads.now)) further in
    (c.requires.0, subst (λ (n : ℕ). AreMovedAt c.requires.0 (addresses c.args.store.now.monitors) c.args.roots.now.places.items n) (sym last) parts.3)

pub returns-clause-moved : goal.returns-clause-moved
returns-clause-moved c = λ to h.
    let items = c.args.roots.now.places.items in
    let parts = parts_moved to c.args.store.now c.args.threads.now items h in
    let next = c.put_loaded-next.ensures.next ∙ ap (λ (l : List ℕ). length l) c.deref_mut.ensures.value in
    let further = c.put_globals-next.ensures.next ∙ ap (λ (n : ℕ). n + length c.args.store.now.globals) next in
    let last = c.put_threads-next.ensures.next ∙ ap (λ (n : ℕ). n + length (flat_map thread_places c.args.threads.now)) further in
    record {
      moved = record {
        heap = refl;
        loaded =
            with_items_is c.args.store.now.loaded c.put_loaded-next.new.loaded (search (rules, places))
            ∙ c.put_loaded-next.ensures.moved to (subst (λ (l : List ℕ). AreMovedAt to (loaded_places l) items 0) (sym c.deref_mut.ensures.value) parts.0)
            ∙ ap (λ (l : List ℕ). map to l) c.deref_mut.ensures.value;
        births = refl;
        statics = refl;
        globals = c.put_globals-next.ensures.moved to (subst (λ (n : ℕ). AreMovedAt to c.args.store.now.globals items n) (sym next) parts.1);
        elements = refl;
        views = refl;
        monitors = c.put_monitors.ensures to (subst (λ (n : ℕ). AreMovedAt to (addresses c.args.store.now.monitors) items n) (sym last) parts.3);
      };
      follow = c.put_threads-next.ensures.moved to (subst (λ (n : ℕ). AreMovedAt to (flat_map thread_places c.args.threads.now) items n) (sym further) parts.2);
    }
