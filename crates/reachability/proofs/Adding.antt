-- Marks that are added.
use Rattle.std.proofs.Common.{◌≡◌, ℕ, zero, suc, ◌+◌, ◌<◌, Bool, true, false, cond, List, [], ◌∷◌, ◌++◌, length, set, refl, sym, ap, ◌∙◌, subst, arith, ⊎_elim, inl, inr}
use Rattle.std.specs.List.{Contains}
use Rattle.std.proofs.lemmas.List.{get_or-set_same, get_or-set_other, length-set, length_push}
use Rattle.std.proofs.lemmas.Bool.{cases_eq}
use Rattle.std.proofs.lemmas.List.Elements.{Contains-push, Contains-append_left, Contains-push_cases}
use Rattle.reachability.specs.Marks.{is_marked, unmarked, Adds}

-- a further mark
pub unmarked-set : (ms : List Bool) (a : ℕ) → a < length ms → is_marked ms a ≡ false → unmarked (set ms a true) + 1 ≡ unmarked ms
unmarked-set [] a h unseen = absurd (omega arith)
unmarked-set (m ∷ ms) zero h unseen =
    let e : m ≡ false = unseen in
    let now : cond {A = ℕ} m 0 1 ≡ 1 = ap (λ (b : Bool). cond {A = ℕ} b 0 1) e in
    omega arith
unmarked-set (m ∷ ms) (suc a) h unseen =
    let rest : unmarked (set ms a true) + 1 ≡ unmarked ms = unmarked-set ms a (omega arith) unseen in
    omega arith

pub Adds-nothing : (P : ℕ → Type 0) (ms : List Bool) (xs : List ℕ) → Adds P ms xs ms xs
Adds-nothing P ms xs = record {
  count = refl;
  work = refl;
  stays = λ x h. h;
  listed = λ x h. h;
  fresh = λ x h. inl h;
  ours = λ x h. inl h;
}

-- a mark at a, which had none
pub Adds-one : (ms : List Bool) (xs : List ℕ) (a : ℕ) → a < length ms → is_marked ms a ≡ false → Adds (λ x. x ≡ a) ms xs (set ms a true) (xs ++ a ∷ [])
Adds-one ms xs a h unseen =
    let now : is_marked (set ms a true) a ≡ true = get_or-set_same ms a true false h in
    record {
      count = length-set ms a true;
      work = let w = unmarked-set ms a h unseen in let l : length (xs ++ a ∷ []) ≡ length xs + 1 = length_push xs a in omega arith;
      stays = λ x m. ⊎_elim
          (λ (e : x ≡ a). subst (λ n. is_marked (set ms a true) n ≡ true) (sym e) now)
          (λ (ne : x ≡ a → ⊥). get_or-set_other ms a x true false ne ∙ m)
          (cases_eq x a);
      listed = λ x c. Contains-append_left xs (a ∷ []) x c;
      fresh = λ x m. ⊎_elim
          (λ (e : x ≡ a). inr (e, subst (λ n. Contains (xs ++ a ∷ []) n) (sym e) (Contains-push xs a)))
          (λ (ne : x ≡ a → ⊥). inl (sym (get_or-set_other ms a x true false ne) ∙ m))
          (cases_eq x a);
      ours = λ x c. ⊎_elim
          (λ (d : Contains xs x). inl d)
          (λ (e : a ≡ x). inr (sym e, subst (λ n. is_marked (set ms a true) n ≡ true) e now))
          (Contains-push_cases xs a x c);
    }

-- one after another
pub Adds-both : (P : ℕ → Type 0) (ms : List Bool) (xs : List ℕ) (ns : List Bool) (ys : List ℕ) (os : List Bool) (zs : List ℕ) → Adds P ms xs ns ys → Adds P ns ys os zs → Adds P ms xs os zs
Adds-both P ms xs ns ys os zs f g =
    record {
      count = g.count ∙ f.count;
      work = g.work ∙ f.work;
      stays = λ x h. g.stays x (f.stays x h);
      listed = λ x h. g.listed x (f.listed x h);
      fresh = λ x h. ⊎_elim
          (λ (m : is_marked ns x ≡ true). ⊎_elim
          (λ (k : is_marked ms x ≡ true). inl k)
          (λ (k : P x × Contains ys x). inr (k.0, g.listed x k.1))
          (f.fresh x m))
          (λ (k : P x × Contains zs x). inr k)
          (g.fresh x h);
      ours = λ x h. ⊎_elim
          (λ (m : Contains ys x). ⊎_elim
          (λ (k : Contains xs x). inl k)
          (λ (k : P x × (is_marked ns x ≡ true)). inr (k.0, g.stays x k.1))
          (f.ours x m))
          (λ (k : P x × (is_marked os x ≡ true)). inr k)
          (g.ours x h);
    }

pub Adds-weaker : (P Q : ℕ → Type 0) (ms : List Bool) (xs : List ℕ) (ns : List Bool) (ys : List ℕ) → ((x : ℕ) → P x → Q x) → Adds P ms xs ns ys → Adds Q ms xs ns ys
Adds-weaker P Q ms xs ns ys w f =
    record {
      count = f.count;
      work = f.work;
      stays = f.stays;
      listed = f.listed;
      fresh = λ x h. ⊎_elim
          (λ (k : is_marked ms x ≡ true). inl k)
          (λ (k : P x × Contains ys x). inr (w x k.0, k.1))
          (f.fresh x h);
      ours = λ x h. ⊎_elim
          (λ (k : Contains xs x). inl k)
          (λ (k : P x × (is_marked ns x ≡ true)). inr (w x k.0, k.1))
          (f.ours x h);
    }

-- what was added so far, while a loop goes over what P holds of, of which V says what is at each place
pub record Seen (P : ℕ → Type 0) (V : ℕ → ℕ → Type 0) (ms : List Bool) (xs : List ℕ) (ns : List Bool) (ys : List ℕ) (place : ℕ) : Type 0 where
  pub adds : Adds P ms xs ns ys
  pub seen : (k x : ℕ) → k < place → V k x → is_marked ns x ≡ true

pub Seen-more : (P : ℕ → Type 0) (V : ℕ → ℕ → Type 0) (ms : List Bool) (xs : List ℕ) (ns : List Bool) (ys : List ℕ) (os : List Bool) (zs : List ℕ) (place b : ℕ) → Adds P ms xs ns ys → ((k x : ℕ) → k < place → V k x → is_marked ns x ≡ true) → P b → ((x : ℕ) → V place x → x ≡ b) → Adds (λ x. x ≡ b) ns ys os zs → is_marked os b ≡ true → Seen P V ms xs os zs (place + 1)
Seen-more P V ms xs ns ys os zs place b adds seen p only more marked =
    record {
      adds = Adds-both P ms xs ns ys os zs adds (Adds-weaker (λ x. x ≡ b) P ns ys os zs (λ x e. subst P (sym e) p) more);
      seen = λ k x l v. ⊎_elim
          (λ (e : k ≡ place). subst (λ n. is_marked os n ≡ true) (sym (only x (subst (λ n. V n x) e v))) marked)
          (λ (ne : k ≡ place → ⊥). more.stays x (seen k x (omega arith) v))
          (cases_eq k place);
    }

pub Seen-none : (P : ℕ → Type 0) (V : ℕ → ℕ → Type 0) (ms : List Bool) (xs : List ℕ) (ns : List Bool) (ys : List ℕ) (place : ℕ) → Adds P ms xs ns ys → ((k x : ℕ) → k < place → V k x → is_marked ns x ≡ true) → ((x : ℕ) → V place x → ⊥) → Seen P V ms xs ns ys (place + 1)
Seen-none P V ms xs ns ys place adds seen none =
    record {
      adds = adds;
      seen = λ k x l v. ⊎_elim
          (λ (e : k ≡ place). absurd (none x (subst (λ n. V n x) e v)))
          (λ (ne : k ≡ place → ⊥). seen k x (omega arith) v)
          (cases_eq k place);
    }
