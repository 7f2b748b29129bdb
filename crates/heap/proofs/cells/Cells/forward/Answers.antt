use Rattle.std.proofs.Common.{◌≡◌, ℕ, ◌+◌, List, length, get_or, sym, ap, ◌∙◌, subst, arith}
use Rattle.std.specs.Prelude.{slice_index}
use Rattle.std.proofs.lemmas.List.{with_items_is}
use Rattle.heap.specs.Values.{AreForwardedWords, IsCopied}
use Rattle.heap.proofs.ValueLaws.{length-values_in, reference_held, values_forwarded}
use Rattle.heap.proofs.cells.Cells.forward.Goals as goal

pub forward_cells-requires-clause-room : goal.forward_cells-requires-clause-room
forward_cells-requires-clause-room c =
    let count = length-values_in c.self.inside.kinds.items c.self.inside.words.items c.self.invariant.counted in
    let seen = ap length c.self.view_is in
    let words = ap length c.deref_mut.ensures.value in
    omega (arith, c.requires.room)

pub forward_cells-requires-clause-closed : goal.forward_cells-requires-clause-closed
forward_cells-requires-clause-closed c i low high two =
    let ks : List ℕ = c.self.inside.kinds.items in
    let ws : List ℕ = c.self.inside.words.items in
    let kind : get_or ks (c.args.from + i) 0 ≡ 2 = sym (ap (λ (xs : List ℕ). get_or xs (c.args.from + i) 0) c.deref_mut-2.ensures.value) ∙ two in
    let is = reference_held ks ws c.args.self.now (c.args.from + i) c.self.invariant c.self.view_is (omega (arith, c.requires.room, high)) kind in
    let below = c.requires.closed i (get_or ws (c.args.from + i) 0) low high is in
    let same = ap (λ (xs : List ℕ). get_or xs (c.args.from + i) 0) c.deref_mut.ensures.value in
    omega (arith, below, same)

pub invariant_of-self : goal.invariant_of-self
invariant_of-self c =
    let ks : List ℕ = c.self.inside.kinds.items in
    let ws : List ℕ = c.self.inside.words.items in
    let kinds = subst (λ (xs : List ℕ). IsCopied xs c.forward_cells.new.kinds c.args.from c.args.size c.args.target) c.deref_mut-2.ensures.value c.forward_cells.ensures.kinds in
    let near = subst (λ (xs : List ℕ). AreForwardedWords (slice_index c.args.to.now) xs c.deref_mut.result.now c.forward_cells.new.words c.args.from c.args.size c.args.target) c.deref_mut-2.ensures.value c.forward_cells.ensures.words in
    let words = subst (λ (xs : List ℕ). AreForwardedWords (slice_index c.args.to.now) ks xs c.forward_cells.new.words c.args.from c.args.size c.args.target) c.deref_mut.ensures.value near in
    let after = values_forwarded (slice_index c.args.to.now) ks ws c.forward_cells.new.kinds c.forward_cells.new.words c.args.self.now c.args.from c.args.size c.args.target c.self.invariant c.self.view_is c.requires.room c.requires.down c.requires.size kinds words in
    let all_words = with_items_is c.self.inside.words c.forward_cells.new.words (omega (arith, words.len)) in
    let all_kinds = with_items_is c.self.inside.kinds c.forward_cells.new.kinds (omega (arith, kinds.len)) in
    rw (all_words, all_kinds) after.0

pub returns : goal.returns
returns c =
    let ks : List ℕ = c.self.inside.kinds.items in
    let ws : List ℕ = c.self.inside.words.items in
    let kinds = subst (λ (xs : List ℕ). IsCopied xs c.forward_cells.new.kinds c.args.from c.args.size c.args.target) c.deref_mut-2.ensures.value c.forward_cells.ensures.kinds in
    let near = subst (λ (xs : List ℕ). AreForwardedWords (slice_index c.args.to.now) xs c.deref_mut.result.now c.forward_cells.new.words c.args.from c.args.size c.args.target) c.deref_mut-2.ensures.value c.forward_cells.ensures.words in
    let words = subst (λ (xs : List ℕ). AreForwardedWords (slice_index c.args.to.now) ks xs c.forward_cells.new.words c.args.from c.args.size c.args.target) c.deref_mut.ensures.value near in
    let after = values_forwarded (slice_index c.args.to.now) ks ws c.forward_cells.new.kinds c.forward_cells.new.words c.args.self.now c.args.from c.args.size c.args.target c.self.invariant c.self.view_is c.requires.room c.requires.down c.requires.size kinds words in
    let all_words = with_items_is c.self.inside.words c.forward_cells.new.words (omega (arith, words.len)) in
    let all_kinds = with_items_is c.self.inside.kinds c.forward_cells.new.kinds (omega (arith, kinds.len)) in
    rw (all_words, all_kinds) after.1
