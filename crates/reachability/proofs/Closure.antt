-- The loop that follows what waits.
use Rattle.std.proofs.Common.{◌≡◌, ℕ, Bool, true, List, [], ◌∷◌, ◌++◌, length, Option, Some, refl, sym, ◌∙◌, subst, ⊎_elim, inl, inr, ◌⊎◌}
use Rattle.std.specs.Prelude.{Result, Ok, Err, OnOk, OnErr}
use Rattle.std.specs.List.{Contains}
use Rattle.std.proofs.lemmas.List.Elements.{Contains-push, Contains-append_left, Contains-push_cases}
use Rattle.base.proofs.Lists.{none_in}
use Rattle.reachability.specs.Reach.{IsReached, IsClosed}
use Rattle.reachability.specs.Reach.IsReached.{Root, Referred}
use Rattle.reachability.specs.Marks.{is_marked, Adds, IsFollowed, WaitsFor, AreReached}

-- ---- what waits

pub waits_added : (P : ℕ → Type 0) (ms : List Bool) (xs : List ℕ) (ns : List Bool) (ys : List ℕ) → WaitsFor ms xs → Adds P ms xs ns ys → WaitsFor ns ys
waits_added P ms xs ns ys h g = record {
  marked = λ x c. ⊎_elim
      (λ (k : Contains xs x). g.stays x (h.marked x k))
      (λ (k : P x × (is_marked ns x ≡ true)). k.1)
      (g.ours x c);
  waits = λ x m. ⊎_elim
      (λ (k : is_marked ms x ≡ true). g.listed x (h.waits x k))
      (λ (k : P x × Contains ys x). k.1)
      (g.fresh x m);
}

-- ---- the loop

pub record IsMarking (references : ℕ → List (Option ℕ)) (roots ms : List Bool) (xs : List ℕ) : Type 0 where
  pub count : length ms ≡ length roots
  pub sound : (x : ℕ) → is_marked ms x ≡ true → IsReached references (λ r. is_marked roots r ≡ true) x
  pub waits : (x : ℕ) → Contains xs x → is_marked ms x ≡ true
  pub closed : (x : ℕ) → is_marked ms x ≡ true → Contains xs x ⊎ IsFollowed references ms x
  pub from_roots : (x : ℕ) → is_marked roots x ≡ true → is_marked ms x ≡ true

pub marking_start : (references : ℕ → List (Option ℕ)) (ms : List Bool) (xs : List ℕ) → WaitsFor ms xs → IsMarking references ms ms xs
marking_start references ms xs h = record {
  count = refl;
  sound = λ x m. Root x m;
  waits = h.marked;
  closed = λ x m. inl (h.waits x m);
  from_roots = λ x m. m;
}

pub marking_step : (references : ℕ → List (Option ℕ)) (roots ms : List Bool) (xs ys : List ℕ) (a : ℕ) (ns : List Bool) (zs : List ℕ) → IsMarking references roots ms xs → xs ≡ ys ++ a ∷ [] → Adds (λ q. Contains (references a) (Some q)) ms ys ns zs → IsFollowed references ns a → IsMarking references roots ns zs
marking_step references roots ms xs ys a ns zs h e g followed =
    let here : IsReached references (λ r. is_marked roots r ≡ true) a = h.sound a (h.waits a (subst (λ (l : List ℕ). Contains l a) (sym e) (Contains-push ys a))) in
    let before : (x : ℕ) → Contains ys x → Contains xs x = λ x c. subst (λ (l : List ℕ). Contains l x) (sym e) (Contains-append_left ys (a ∷ []) x c) in
    record {
      count = g.count ∙ h.count;
      sound = λ x m. ⊎_elim
          (λ (k : is_marked ms x ≡ true). h.sound x k)
          (λ (k : Contains (references a) (Some x) × Contains zs x). Referred a x here k.0)
          (g.fresh x m);
      waits = λ x c. ⊎_elim
          (λ (k : Contains ys x). g.stays x (h.waits x (before x k)))
          (λ (k : Contains (references a) (Some x) × (is_marked ns x ≡ true)). k.1)
          (g.ours x c);
      closed = λ x m. ⊎_elim
          (λ (k : is_marked ms x ≡ true). ⊎_elim
          (λ (c : Contains xs x). ⊎_elim
          (λ (d : Contains ys x). inl (g.listed x d))
          (λ (d : a ≡ x). inr (subst (IsFollowed references ns) d followed))
          (Contains-push_cases ys a x (subst (λ (l : List ℕ). Contains l x) e c)))
          (λ (c : IsFollowed references ms x). inr (λ b r. g.stays b (c b r)))
          (h.closed x k))
          (λ (k : Contains (references a) (Some x) × Contains zs x). inl k.1)
          (g.fresh x m);
      from_roots = λ x c. g.stays x (h.from_roots x c);
    }

all_marked : (references : ℕ → List (Option ℕ)) (roots ms : List Bool) → IsMarking references roots ms [] → (p : ℕ) → IsReached references (λ r. is_marked roots r ≡ true) p → is_marked ms p ≡ true
all_marked references roots ms h p (Root x c) = h.from_roots x c
all_marked references roots ms h p (Referred x q k r) =
    ⊎_elim
    (λ (c : Contains [] x). absurd (none_in x c))
    (λ (c : IsFollowed references ms x). c q r)
    (h.closed x (all_marked references roots ms h x k))

pub marking_end : (references : ℕ → List (Option ℕ)) (roots ms : List Bool) (xs : List ℕ) → IsMarking references roots ms xs → xs ≡ [] → AreReached references roots ms
marking_end references roots ms xs h e =
    let none : IsMarking references roots ms [] = subst (IsMarking references roots ms) e h in
    record {
      count = h.count;
      sound = h.sound;
      complete = all_marked references roots ms none;
    }

-- what is reached is a place
pub places_reached : (references : ℕ → List (Option ℕ)) (IsRoot IsPlace : ℕ → Type 0) → IsClosed IsPlace references → ((p : ℕ) → IsRoot p → IsPlace p) → (p : ℕ) → IsReached references IsRoot p → IsPlace p
places_reached references IsRoot IsPlace closed roots p (Root x c) = roots x c
places_reached references IsRoot IsPlace closed roots p (Referred x q k r) = closed x q (places_reached references IsRoot IsPlace closed roots x k) r

-- ---- values by place

-- a root that is added waits, and where none is added all is as it was
pub waits_after : {T E : Type 0} (r : Result T E) (P : ℕ → Type 0) (ms : List Bool) (xs : List ℕ) (ns : List Bool) (ys : List ℕ) → WaitsFor ms xs → OnOk r (Adds P ms xs ns ys) → OnErr r (ns ≡ ms) → OnErr r (ys ≡ xs) → WaitsFor ns ys
waits_after (Ok t) P ms xs ns ys h adds e f = waits_added P ms xs ns ys h adds
waits_after (Err t) P ms xs ns ys h adds e f = rw (e, f) h
