use Rattle.std.proofs.Common.{◌≡◌, ℕ, ◌+◌, ◌-◌, ◌++◌, List, length, get_or, refl, sym, ap, ◌∙◌, append_assoc, arith}
use Rattle.std.proofs.lemmas.Option.{slice_get_read}
use Rattle.semantics.specs.Views.{names_of}
use Rattle.replay_objects.specs.declared.frame.Frame.{Frame as InMemory}
use Rattle.replay_objects.proofs.FrameLemmas.{references_from, references_next}
use Rattle.replay_objects.proofs.frame.add_references.Goals as goal

pub loop-done-preserved : goal.loop-done-preserved
loop-done-preserved c =
    let below = c.args.frames.now in
    let frame = c.index-frames-frames.result in
    let place : length below - 1 - c.loop-done.done ≡ length below - (c.loop-done.done + 1) = omega arith in
    let next : length below - c.loop-done.done ≡ (length below - (c.loop-done.done + 1)) + 1 = omega (arith, c.loop-done-test.true) in
    let at = slice_get_read below (length below) (length below - (c.loop-done.done + 1)) frame refl (omega (arith, c.loop-done-test.true)) (c.index-frames-frames.is ∙ ap (λ i. get_or below i frame) place) in
    let added : names_of c.add_to.new.names.items ≡ names_of c.loop-done.names.items ++ frame.references = c.in_ok-add_to.ensures ∙ ap (λ (f : InMemory). names_of c.loop-done.names.items ++ f.references) (sym c.index-frames-frames.is) in
    added
    ∙ ap (λ (l : List ℕ). l ++ frame.references) c.loop-done.invariant
    ∙ append_assoc (names_of c.args.names.now.items) (references_from below (length below - c.loop-done.done)) frame.references
    ∙ ap (λ (l : List ℕ). names_of c.args.names.now.items ++ l) (sym (references_next below (length below - (c.loop-done.done + 1)) (length below - c.loop-done.done) frame next at))
