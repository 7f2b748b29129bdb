-- Faults that are kept behind others: all of them, or the first alone.
use Rattle.std.proofs.Common.{◌≡◌, Bool, true, false, List, [], ◌∷◌, ◌++◌, map, refl, sym, ap, subst, ◌∙◌, append_assoc, append-nil}
use Rattle.types.specs.Faults.{Faults, Kept, fault_of, kept, Tells}

-- what is kept of two lists is the same behind which more follows
kept_more : (all : Bool) (xs ys more : Faults) → kept all xs ≡ kept all ys → kept all (xs ++ more) ≡ kept all (ys ++ more)
kept_more true xs ys more e = ap (λ zs. zs ++ more) e
kept_more false [] [] more e = refl
kept_more false [] (y ∷ ys) more e = absurd cc
kept_more false (x ∷ xs) [] more e = absurd cc
kept_more false (x ∷ xs) (y ∷ ys) more e = e

-- what is kept of as many, and behind others
behind : (old new : Kept) (found more : Faults) → Tells old new found → kept old.all (map fault_of new.faults ++ more) ≡ kept old.all (map fault_of old.faults ++ (found ++ more))
behind old new found more h = kept_more old.all (map fault_of new.faults) (map fault_of old.faults ++ found) more h.1 ∙ ap (kept old.all) (append_assoc (map fault_of old.faults) found more)

-- nothing more is told
pub tells-none : (old : Kept) → Tells old old []
tells-none old = (refl, ap (kept old.all) (sym (append-nil (map fault_of old.faults))))

-- what is found at one place, and behind it
pub tells-next : (old middle new : Kept) (here after : Faults) → Tells old middle here → Tells middle new after → Tells old new (here ++ after)
tells-next old middle new here after h k =
    (k.0 ∙ h.0, subst (λ all. kept all (map fault_of new.faults) ≡ kept all (map fault_of middle.faults ++ after)) h.0 k.1 ∙ behind old middle here after h)

-- what was told at first and all that there is to find is kept as what is told so far and the rest of it
abbrev pub IsLeft : (before now : Kept) → (everything rest : Faults) → Type 0
IsLeft before now everything rest = (now.all ≡ before.all) × (kept before.all (map fault_of before.faults ++ everything) ≡ kept before.all (map fault_of now.faults ++ rest))

pub left-all : (before : Kept) (everything rest : Faults) → everything ≡ rest → IsLeft before before everything rest
left-all before everything rest e = (refl, ap (λ xs. kept before.all (map fault_of before.faults ++ xs)) e)

pub left-next : (before now next : Kept) (everything now_rest here rest : Faults) → IsLeft before now everything now_rest → now_rest ≡ here ++ rest → Tells now next here → IsLeft before next everything rest
left-next before now next everything now_rest here rest h e t = (
  t.0 ∙ h.0,
  h.1 ∙ ap (λ xs. kept before.all (map fault_of now.faults ++ xs)) e
      ∙ sym (subst (λ all. kept all (map fault_of next.faults ++ rest) ≡ kept all (map fault_of now.faults ++ (here ++ rest))) h.0 (behind now next here rest t)),
)

pub left-none : (before now : Kept) (everything rest : Faults) → IsLeft before now everything rest → rest ≡ [] → Tells before now everything
left-none before now everything rest h none =
    (h.0, sym (h.1 ∙ ap (λ xs. kept before.all (map fault_of now.faults ++ xs)) none ∙ ap (kept before.all) (append-nil (map fault_of now.faults))))
