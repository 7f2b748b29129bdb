use Rattle.std.proofs.Common.{◌≡◌, ℕ, ◌≤◌, List, [], ◌++◌, ◌∙◌, append-nil, drop, length, map, reverse, ap, sym}
use Rattle.std.proofs.Math.ListN.{drop_of_length-le}
use Rattle.base.specs.Bytes.{Identifier, ByName}
use Rattle.type_rules.specs.declared.known.Declared.{Declared}
use Rattle.type_rules.specs.Declarations.{known_after}
use Rattle.type_rules.proofs.KnownDeclarations.{known_after-names}
use Rattle.type_rules.proofs.known.Known.names.Goals as goal

-- after the last declaration the names are in the order of the text, and then reversed
reversed : {T : Type 0} (ds items : List (Declared T)) (i : ℕ) (names all : List Identifier) (known : ByName T) → items ≡ ds → length items ≤ i → names ++ map (λ d. d.name.now) (drop i items) ≡ map (λ d. d.name.now) items → all ≡ reverse names
    → known_after ds [] ≡ known → all ≡ map {B = Identifier} (λ k. k.0) known
reversed {T} ds items i names all known same past read is known_is =
    let none : drop i items ≡ [] = drop_of_length-le items past in
    let whole : names ≡ map (λ d. d.name.now) items = sym (append-nil names) ∙ sym (ap (λ (left : List (Declared T)). names ++ map {B = Identifier} (λ d. d.name.now) left) none) ∙ read in
    is ∙ ap reverse (whole ∙ ap (λ (ds : List (Declared T)). map {B = Identifier} (λ d. d.name.now) ds) same) ∙ sym (append-nil _) ∙ sym (known_after-names ds []) ∙ ap (λ (known : ByName T). map {B = Identifier} (λ k. k.0) known) known_is

pub returns : goal.returns
returns g c =
    reversed c.self.inside.declared.items c.deref-d-items.result.now c.loop-d.d-index c.loop-d.names.items c.reverse.new.self.items c.args.self.now c.deref-d-items.ensures.value c.loop-d-test.false c.loop-d.invariant
    c.reverse.ensures.items c.self.view_is
