use Rattle.std.proofs.Common.{◌≡◌, ℕ, List, [], ◌∷◌, ◌+◌, ◌<◌, ◌++◌, length, get_or, take, take-suc, add-one, append-nil, append_assoc, flat_map, ap}
use Rattle.std.proofs.lemmas.Grind.{flat_map-append}
use Rattle.class_rules.specs.Mangling.{escaped_byte}
use Rattle.class_rules.proofs.mangling.push_escaped.Goals as goal

one_more : (f : ℕ → List ℕ) (xs : List ℕ) (i : ℕ) → i < length xs → flat_map f (take (i + 1) xs) ≡ flat_map f (take i xs) ++ f (get_or xs i 0)
one_more f xs i h = rw (add-one, take-suc xs i 0 h, flat_map-append f (take i xs) (get_or xs i 0 ∷ [])) (ap (λ ys. flat_map f (take i xs) ++ ys) (append-nil (f (get_or xs i 0))))

pub loop-b-preserved : goal.loop-b-preserved
loop-b-preserved c = rw (c.in_ok-push_escaped_byte.ensures, c.loop-b.invariant, one_more escaped_byte c.args.path.now c.loop-b.b-index c.loop-b-test.true, append_assoc)
