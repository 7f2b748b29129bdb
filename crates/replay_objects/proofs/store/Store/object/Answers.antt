use Rattle.std.proofs.Common.{◌≡◌, ◌-◌, ℕ, zero, suc, List, length, map, Some, refl, sym, ap, ◌∙◌, arith}
use Rattle.std.specs.Prelude.{slice_get}
use Rattle.std.specs.Option.{option_map}
use Rattle.std.proofs.lemmas.Option.{slice_get_read, slice_get-map}
use Rattle.semantics.specs.Heap.{Heap, object_at}
use Rattle.replay_objects.specs.declared.store.Object.{Object}
use Rattle.replay_objects.specs.Stores.{object_view}
use Rattle.replay_objects.proofs.store.Store.object.Goals.{After-index}
use Rattle.replay_objects.proofs.store.Store.object.Goals as goal

there : (objects : List Object) (name : ℕ) (o : Object) → (name ≡ 0 → ⊥) → slice_get objects (name - 1) ≡ Some o → Some (object_view o) ≡ object_at (map object_view objects) name
there objects zero o some at = absurd (some refl)
there objects (suc i) o some at =
    let e : suc i - 1 ≡ i = omega arith in
    sym (slice_get-map object_view objects i ∙ ap (option_map object_view) (ap (slice_get objects) (sym e) ∙ at))

read : (c : After-index) → slice_get c.self.inside.objects.items (c.args.name.number - 1) ≡ Some c.index.result.now
read c =
    let some : c.args.name.number ≡ 0 → ⊥ = c.if-name-eq0.false in
    slice_get_read c.self.inside.objects.items (length c.self.inside.objects.items) (c.args.name.number - 1) c.index.result.now refl (omega (arith, some, c.if-len-name.false, c.len.ensures)) c.index.ensures

pub returns-clause-view : goal.returns-clause-view
returns-clause-view c = there c.self.inside.objects.items c.args.name.number c.index.result.now c.if-name-eq0.false (read c) ∙ ap (λ (heap : Heap). object_at heap c.args.name.number) c.self.view_is

pub returns-clause-short : goal.returns-clause-short
returns-clause-short c = c.self.invariant.0 (c.args.name.number - 1) c.index.result.now (read c)
