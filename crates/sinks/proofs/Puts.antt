-- Texts that are put piece by piece.
use Rattle.std.proofs.Common.{◌≡◌, ℕ, ◌+◌, ◌<◌, ◌≤◌, List, length, get_or, drop, [], ◌++◌, Result, Ok, Err, refl, sym, ap, subst, ◌∙◌, append_assoc, append-nil}
use Rattle.std.proofs.lemmas.List.{at_drop_more, drop_all}
use Rattle.std.proofs.lemmas.List.Concat.{flat_map-cons}
use Rattle.std.specs.Prelude.{OnOk, OnErr}
use Rattle.std.specs.List.{flat_map}
use Rattle.std.specs.Io.KnownBytes.{Keeps}
use Rattle.std.proofs.KnownBytes.{Appends-nil, Appends-trans, Appends-kept}
use Rattle.sinks.specs.Sink.{Written, AppendsText, StopsWithin, Writes}

-- a front of the text was put, and the rest is still to be put
pub record PutSoFar (old now : Written) (text rest : List ℕ) : Type 0 where
  pub part : List ℕ
  pub whole : text ≡ part ++ rest
  pub put : AppendsText old now part

pub AppendsText-nil : (w : Written) → AppendsText w w []
AppendsText-nil w = record { bytes = Appends-nil w.bytes; failures = refl }

pub AppendsText-then : (a b c : Written) (x y : List ℕ) → AppendsText a b x → AppendsText b c y → AppendsText a c (x ++ y)
AppendsText-then a b c x y p q =
    record { bytes = Appends-trans a.bytes b.bytes c.bytes x y p.bytes q.bytes; failures = q.failures ∙ p.failures }

-- nothing was put yet
pub starts : (w : Written) (text : List ℕ) → PutSoFar w w text text
starts w text = record { part = []; whole = refl; put = AppendsText-nil w }

-- one more piece was put
pub goes_on : (old now next : Written) (text rest piece more : List ℕ) → PutSoFar old now text rest → rest ≡ piece ++ more → AppendsText now next piece → PutSoFar old next text more
goes_on old now next text rest piece more s e p = record {
  part = s.part ++ piece;
  whole = s.whole ∙ ap (λ (r : List ℕ). s.part ++ r) e ∙ sym (append_assoc s.part piece more);
  put = AppendsText-then old now next s.part piece s.put p;
}

-- everything was put
pub is_all : (old now : Written) (text rest : List ℕ) → PutSoFar old now text rest → rest ≡ [] → AppendsText old now text
is_all old now text rest s e =
    subst (AppendsText old now) (sym (s.whole ∙ ap (λ (r : List ℕ). s.part ++ r) e ∙ append-nil s.part)) s.put

-- a piece was put in part
pub stops : (old now next : Written) (text rest piece more : List ℕ) → PutSoFar old now text rest → rest ≡ piece ++ more → StopsWithin now next piece → StopsWithin old next text
stops old now next text rest piece more s e p = record {
  part = s.part ++ p.part;
  rest = p.rest ++ more;
  whole = s.whole ∙ ap (λ (r : List ℕ). s.part ++ r) (e ∙ ap (λ (r : List ℕ). r ++ more) p.whole ∙ append_assoc p.part p.rest more) ∙ sym (append_assoc s.part p.part (p.rest ++ more));
  bytes = Appends-trans old.bytes now.bytes next.bytes s.part p.part s.put.bytes p.bytes;
  failures = p.failures ∙ ap (λ (n : ℕ). n + 1) s.put.failures;
}

-- the texts of the elements from a place on
pub flat_map-at : {X : Type 0} (f : X → List ℕ) (xs : List X) (i : ℕ) (d : X) → i < length xs → flat_map f (drop i xs) ≡ f (get_or xs i d) ++ flat_map f (drop (i + 1) xs)
flat_map-at f xs i d h = at_drop_more (flat_map f) xs i d h ∙ flat_map-cons f (get_or xs i d) (drop (i + 1) xs)

pub flat_map-past : {X : Type 0} (f : X → List ℕ) (xs : List X) (i : ℕ) → length xs ≤ i → flat_map f (drop i xs) ≡ []
flat_map-past f xs i h = ap (flat_map f) (drop_all i xs h)

-- one text after the other
pub Writes-then : {T E : Type 0} (a b c : Written) (r : Result T E) (x y : List ℕ) → AppendsText a b x → Writes b c r y → Writes a c r (x ++ y)
Writes-then a b c (Ok v) x y p q = AppendsText-then a b c x y p q
Writes-then a b c (Err e) x y p q =
    stops a b c (x ++ y) y y [] (record { part = x; whole = refl; put = p }) (sym (append-nil y)) q

-- what stops within the first stops within both
pub StopsWithin-more : (a b : Written) (x y : List ℕ) → StopsWithin a b x → StopsWithin a b (x ++ y)
StopsWithin-more a b x y p = record {
  part = p.part;
  rest = p.rest ++ y;
  whole = ap (λ (t : List ℕ). t ++ y) p.whole ∙ append_assoc p.part p.rest y;
  bytes = p.bytes;
  failures = p.failures;
}

-- what stops within the second, after all of the first, stops within both
pub StopsWithin-then : (a b c : Written) (x y : List ℕ) → AppendsText a b x → StopsWithin b c y → StopsWithin a c (x ++ y)
StopsWithin-then a b c x y p q =
    stops a b c (x ++ y) y y [] (record { part = x; whole = refl; put = p }) (sym (append-nil y)) q

-- a flush after the whole text
pub Writes-flushed : {T E : Type 0} (a b c : Written) (r : Result T E) (text : List ℕ) → AppendsText a b text → Keeps b.bytes c.bytes
    → OnOk r (c.failures ≡ b.failures) → OnErr r (c.failures ≡ b.failures + 1) → Writes a c r text
Writes-flushed a b c (Ok v) text p k s f = record { bytes = Appends-kept a.bytes b.bytes c.bytes text p.bytes k; failures = s ∙ p.failures }
Writes-flushed a b c (Err e) text p k s f = record {
  part = text;
  rest = [];
  whole = sym (append-nil text);
  bytes = Appends-kept a.bytes b.bytes c.bytes text p.bytes k;
  failures = f ∙ ap (λ (n : ℕ). n + 1) p.failures;
}
