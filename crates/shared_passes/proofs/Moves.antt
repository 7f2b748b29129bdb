-- Each step keeps the rule over the passes.
use Rattle.std.proofs.Common.{◌≡◌, ◌≢◌, ◌⊎◌, ℕ, zero, suc, ◌+◌, ◌<◌, ◌==◌, List, [], ◌∷◌, ◌++◌, length, set, Bool, true, false, if◌then◌else◌, refl, sym, ap, ◌∙◌, subst, inl, inr, ⊎_elim, arith, eq-eqb, ne_eqb}
use Rattle.std.proofs.lemmas.Bool.{false≢true}
use mathlib.Core.Option.{some, some-ne-none, some-injective}
use lib.ListN.{get_elem?}
use Rattle.crossbeam_utils.specs.Register.{Turns, Forks, Merges}
use Rattle.atomic_table.proofs.Lists.{at_set}
use Rattle.shared_passes.specs.declared.view.Claim.{Claim}
use Rattle.shared_passes.specs.declared.view.Known.{Known}
use Rattle.shared_passes.specs.declared.view.View.{View}
use Rattle.shared_passes.specs.Tokens.{unknown, Right, knower, sitting, nobody, hosting, both_of, kept_after, Fits, Kept, Settled, Checked}

-- a fact of each view, where one view is set
all_set : (P : ℕ → View → Type 0) (views : List View) (by : ℕ) (w : View) → ((j : ℕ) (u : View) → j ≢ by → get_elem? views j ≡ some u → P j u) → P by w → (j : ℕ) (u : View) → get_elem? (set views by w) j ≡ some u → P j u
all_set P views by w others mine j u e =
    ⊎_elim
    (λ (x : (j ≡ by) × (w ≡ u)). subst (λ (y : ℕ × View). P y.0 y.1) (λ i. (sym x.0 i, x.1 i)) mine)
    (λ (x : (j ≢ by) × (get_elem? views j ≡ some u)). others j u x.0 x.1)
    (at_set views by j w u e)

at_end : (l : List View) (a b : View) (j : ℕ) → get_elem? (l ++ a ∷ []) j ≡ some b → (get_elem? l j ≡ some b) ⊎ ((j ≡ length l) × (a ≡ b))
at_end [] a b zero e = inr (refl, some-injective a b e)
at_end [] a b (suc j) e = absurd (some-ne-none b (sym e))
at_end (x ∷ xs) a b zero e = inl e
at_end (x ∷ xs) a b (suc j) e = ⊎_elim (λ t. inl t) (λ t. inr (ap suc t.0, t.1)) (at_end xs a b j e)

in_bounds : (l : List View) (b : View) (j : ℕ) → get_elem? l j ≡ some b → j < length l
in_bounds [] b j e = absurd (some-ne-none b (sym e))
in_bounds (x ∷ xs) b zero e = omega arith
in_bounds (x ∷ xs) b (suc j) e = let h = in_bounds xs b j e in omega arith

-- a fact of each view, where one is set and one is added
all_forked : (P : ℕ → View → Type 0) (views : List View) (by : ℕ) (v left right : View) → get_elem? views by ≡ some v → ((j : ℕ) (u : View) → j ≢ by → j < length views → get_elem? views j ≡ some u → P j u) → P by left → P (length (set views by left)) right
    → (j : ℕ) (u : View) → get_elem? (set views by left ++ right ∷ []) j ≡ some u → P j u
all_forked P views by v left right at others mine new j u e =
    ⊎_elim
    (λ was. all_set P views by left (λ i y apart e'. others i y apart (in_bounds views y i e') e') mine j u was)
    (λ (x : (j ≡ length (set views by left)) × (right ≡ u)). subst (λ (y : ℕ × View). P y.0 y.1) (λ i. (sym x.0 i, x.1 i)) new)
    (at_end (set views by left) right u j e)

-- the owners, once the thread has another
abbrev now_by : (ℕ → ℕ) → ℕ → ℕ → ℕ → ℕ
now_by owner thread by t = if t == thread then by else owner t

now_here : (owner : ℕ → ℕ) (thread by : ℕ) → now_by owner thread by thread ≡ by
now_here owner thread by = ap (λ (b : Bool). if b then by else owner thread) (eq-eqb thread thread refl)

now_else : (owner : ℕ → ℕ) (thread by t : ℕ) → t ≢ thread → now_by owner thread by t ≡ owner t
now_else owner thread by t apart = ap (λ (b : Bool). if b then by else owner t) (ne_eqb t thread apart)

pub begins : (words : List ℕ) → Kept words (knower unknown 0 ∷ [])
begins words = (0, unknown, 0, (λ t. 0), one)
  where
    one : (by : ℕ) (v : View) → get_elem? (knower unknown 0 ∷ []) by ≡ some v → Fits 0 unknown 0 (λ t. 0) by v
    one zero v e = subst (Fits 0 unknown 0 (λ t. 0) 0) (some-injective _ _ e) ((λ _. (refl, refl, refl)), (λ c. absurd (false≢true c)))
    one (suc by) v e = absurd (some-ne-none v (sym e))

-- the keeper learns the accounts, before a seat is given
pub opens : (by : ℕ) (table : Known) → Forks Kept by (knower unknown 0) (knower table 1) nobody
opens by table words views h at =
    let mine = (h.4 by (knower unknown 0) at).0 refl in
    let none : h.2 ≡ 0 = sym mine.2 in (
      by,
      table,
      1,
      h.3,
      all_forked (Fits by table 1 h.3) views by (knower unknown 0) (knower table 1) nobody at
          (λ j u apart in_it e. (
            (λ k. absurd (apart (((h.4 j u e).0 k).0 ∙ sym mine.0))),
            (λ s. let below = ((h.4 j u e).1 s).1 in absurd (omega arith)),
          ))
          ((λ _. (refl, refl, refl)), (λ c. absurd (false≢true c)))
          ((λ k. absurd (false≢true k)), (λ c. absurd (false≢true c))),
    )

-- the seat of the next thread is given
pub gives : (by : ℕ) (table : Known) (next : ℕ) (account : Claim) → Right table next account → Forks Kept by (knower table next) (knower table (next + 1)) (sitting next account)
gives by table next account is words views h at =
    let mine = (h.4 by (knower table next) at).0 refl in
    let new = length (set views by (knower table (next + 1))) in (
      h.0,
      h.1,
      h.2 + 1,
      now_by h.3 next new,
      all_forked (Fits h.0 h.1 (h.2 + 1) (now_by h.3 next new)) views by (knower table next) (knower table (next + 1)) (sitting next account) at
          (λ j u apart in_it e. (
            (λ k. absurd (apart (((h.4 j u e).0 k).0 ∙ sym mine.0))),
            (λ s.
                let theirs = (h.4 j u e).1 s in
                let below = theirs.1 in
                let given = mine.2 in
                (now_else h.3 next new u.thread (λ same. omega arith) ∙ theirs.0, omega arith, theirs.2)),
          ))
          ((λ _. (mine.0, mine.1, ap (λ n. n + 1) mine.2)), (λ c. absurd (false≢true c)))
          ((λ k. absurd (false≢true k)), (λ _. (now_here h.3 next new, (let given = mine.2 in omega arith), subst (λ t. Right t next account) mine.1 is))),
    )

-- the keeper takes in a seat's pass
pub takes : (by : ℕ) (table : Known) (next other thread : ℕ) (account : Claim) → Merges Kept by (knower table next) other (sitting thread account) (hosting table next thread account) nobody
takes by table next other thread account words views h at apart there =
    let w = hosting table next thread account in
    let mine = (h.4 by (knower table next) at).0 refl in
    let theirs =
    ⊎_elim
    (λ (t : (other ≡ by) × (w ≡ sitting thread account)). absurd (apart t.0))
    (λ (t : (other ≢ by) × (get_elem? views other ≡ some (sitting thread account))). (h.4 other (sitting thread account) t.1).1 refl)
    (at_set views by other w (sitting thread account) there) in
    let P = Fits h.0 h.1 h.2 (now_by h.3 thread by) in (
      h.0,
      h.1,
      h.2,
      now_by h.3 thread by,
      all_set P (set views by w) other nobody
          (λ j v far e.
          ⊎_elim
          (λ (x : (j ≡ by) × (w ≡ v)). subst (λ (y : ℕ × View). P y.0 y.1) (λ i. (sym x.0 i, x.1 i)) ((λ _. mine), (λ _. (now_here h.3 thread by, theirs.1, theirs.2))))
          (λ (x : (j ≢ by) × (get_elem? views j ≡ some v)). (
            (h.4 j v x.1).0,
            (λ s.
                let its = (h.4 j v x.1).1 s in
                (now_else h.3 thread by v.thread (λ same. far (sym its.0 ∙ ap h.3 same ∙ theirs.0)) ∙ its.0, its.1, its.2)),
          ))
          (at_set views by j w v e))
          ((λ k. absurd (false≢true k)), (λ c. absurd (false≢true c))),
    )

-- the seat that was taken in has a new account, and no other thread's changes
pub settles : (by : ℕ) (table : Known) (next thread : ℕ) (account : Claim) (after : Known) (new : Claim) → (Right table thread account → Right after thread new) → ((j : ℕ) (c : Claim) → j ≢ thread → Right table j c → Right after j c)
    → Turns Kept by (hosting table next thread account) (λ x. x) (Settled after new)
settles by table next thread account after new here others words views h at =
    let mine = (h.4 by (hosting table next thread account) at).0 refl in
    let seat = (h.4 by (hosting table next thread account) at).1 refl in
    let w = hosting after next thread new in (
      w,
      (
        h.0,
        after,
        h.2,
        h.3,
        all_set (Fits h.0 after h.2 h.3) views by w
            (λ j u apart e. (
              (λ k. absurd (apart (((h.4 j u e).0 k).0 ∙ sym mine.0))),
              (λ s.
                  let its = (h.4 j u e).1 s in
                  (its.0, its.1, others u.thread u.account (λ same. apart (sym its.0 ∙ ap h.3 same ∙ seat.0)) (subst (λ t. Right t u.thread u.account) (sym mine.1) its.2))),
            ))
            ((λ _. (mine.0, refl, mine.2)), (λ _. (seat.0, seat.1, here (subst (λ t. Right t thread account) (sym mine.1) seat.2)))),
      ),
      (refl, subst (λ t. Right t thread account) (sym mine.1) seat.2),
    )

-- the seat gets its pass again
pub lets_go : (by : ℕ) (table : Known) (next thread : ℕ) (account : Claim) → Forks Kept by (hosting table next thread account) (knower table next) (sitting thread account)
lets_go by table next thread account words views h at =
    let v = hosting table next thread account in
    let mine = (h.4 by v at).0 refl in
    let seat = (h.4 by v at).1 refl in
    let new = length (set views by (knower table next)) in (
      h.0,
      h.1,
      h.2,
      now_by h.3 thread new,
      all_forked (Fits h.0 h.1 h.2 (now_by h.3 thread new)) views by v (knower table next) (sitting thread account) at
          (λ j u apart in_it e. (
            (h.4 j u e).0,
            (λ s.
                let its = (h.4 j u e).1 s in
                (now_else h.3 thread new u.thread (λ same. apart (sym its.0 ∙ ap h.3 same ∙ seat.0)) ∙ its.0, its.1, its.2)),
          ))
          ((λ _. mine), (λ c. absurd (false≢true c)))
          ((λ k. absurd (false≢true k)), (λ _. (now_here h.3 thread new, seat.1, seat.2))),
    )

-- the seat that was taken in was right
pub checks : (by : ℕ) (table : Known) (next thread : ℕ) (account : Claim) → Turns Kept by (hosting table next thread account) (λ x. x) Checked
checks by table next thread account words views h at =
    let v = hosting table next thread account in
    let mine = (h.4 by v at).0 refl in
    let seat = (h.4 by v at).1 refl in
    let w = knower table next in (
      w,
      (h.0, h.1, h.2, h.3, all_set (Fits h.0 h.1 h.2 h.3) views by w (λ j u apart e. h.4 j u e) ((λ _. mine), (λ c. absurd (false≢true c)))),
      (refl, subst (λ t. Right t thread account) (sym mine.1) seat.2),
    )

-- ---- the moves, at views that are known

pub takes_as : (by : ℕ) (v : View) (other : ℕ) (u : View) → v ≡ knower v.table v.next → u ≡ sitting u.thread u.account → Merges Kept by v other u (both_of v u) nobody
takes_as by v other u is is' = subst (λ (y : View × View). Merges Kept by y.0 other y.1 (both_of y.0 y.1) nobody) (λ i. (sym is i, sym is' i)) (takes by v.table v.next other u.thread u.account)

pub settles_as : (by : ℕ) (v : View) (after : Known) (new : Claim) → v ≡ hosting v.table v.next v.thread v.account → (Right v.table v.thread v.account → Right after v.thread new) → ((j : ℕ) (c : Claim) → j ≢ v.thread → Right v.table j c → Right after j c)
    → Turns Kept by v (λ x. x) (Settled after new)
settles_as by v after new is here others = subst (λ (y : View). Turns Kept by y (λ x. x) (Settled after new)) (sym is) (settles by v.table v.next v.thread v.account after new here others)

pub lets_go_as : (by : ℕ) (v : View) → v ≡ hosting v.table v.next v.thread v.account → Forks Kept by v (knower v.table v.next) (sitting v.thread v.account)
lets_go_as by v is = subst (λ (y : View). Forks Kept by y (knower y.table y.next) (sitting y.thread y.account)) (sym is) (lets_go by v.table v.next v.thread v.account)

pub checks_as : (by : ℕ) (v : View) → v ≡ hosting v.table v.next v.thread v.account → Turns Kept by v (λ x. x) Checked
checks_as by v is = subst (λ (y : View). Turns Kept by y (λ x. x) Checked) (sym is) (checks by v.table v.next v.thread v.account)

pub gives_as : (by : ℕ) (v : View) (account : Claim) → v ≡ knower v.table v.next → Right v.table v.next account → Forks Kept by v (kept_after v) (sitting v.next account)
gives_as by v account is here = subst (λ (y : View). Forks Kept by y (kept_after y) (sitting y.next account)) (sym is) (gives by v.table v.next account here)

-- the keeper that has taken in a seat's pass
pub hosts : (v u w : View) → v ≡ knower v.table v.next → u ≡ sitting u.thread u.account → w ≡ both_of v u → w ≡ hosting w.table w.next w.thread w.account
hosts v u w is is' made = λ i. record { keeps = (ap (λ (x : View). x.keeps) made ∙ ap (λ (x : View). x.keeps) is) i; table = w.table; next = w.next; sits = (ap (λ (x : View). x.sits) made ∙ ap (λ (x : View). x.sits) is') i; thread = w.thread; account = w.account }

-- it stays one, whatever it knows
pub hosted : (w : View) (table : Known) (next thread : ℕ) (account : Claim) → w ≡ hosting table next thread account → w ≡ hosting w.table w.next w.thread w.account
hosted w table next thread account is = subst (λ (x : View). x ≡ hosting x.table x.next x.thread x.account) (sym is) refl

-- a seat's pass goes to another
pub leaves : (by thread : ℕ) (account : Claim) → Forks Kept by (sitting thread account) nobody (sitting thread account)
leaves by thread account words views h at =
    let v = sitting thread account in
    let seat = (h.4 by v at).1 refl in
    let new = length (set views by nobody) in (
      h.0,
      h.1,
      h.2,
      now_by h.3 thread new,
      all_forked (Fits h.0 h.1 h.2 (now_by h.3 thread new)) views by v nobody (sitting thread account) at
          (λ j u apart in_it e. (
            (h.4 j u e).0,
            (λ s.
                let its = (h.4 j u e).1 s in
                (now_else h.3 thread new u.thread (λ same. apart (sym its.0 ∙ ap h.3 same ∙ seat.0)) ∙ its.0, its.1, its.2)),
          ))
          ((λ k. absurd (false≢true k)), (λ c. absurd (false≢true c)))
          ((λ k. absurd (false≢true k)), (λ _. (now_here h.3 thread new, seat.1, seat.2))),
    )

pub leaves_as : (by : ℕ) (v : View) → v ≡ sitting v.thread v.account → Forks Kept by v nobody (sitting v.thread v.account)
leaves_as by v is = subst (λ (y : View). Forks Kept by y nobody (sitting y.thread y.account)) (sym is) (leaves by v.thread v.account)

pub opens_as : (by : ℕ) (v : View) (table : Known) → v ≡ knower unknown 0 → Forks Kept by v (knower table 1) nobody
opens_as by v table is = subst (λ (y : View). Forks Kept by y (knower table 1) nobody) (sym is) (opens by table)

pub sits : (w : View) (thread : ℕ) (account : Claim) → w ≡ sitting thread account → w ≡ sitting w.thread w.account
sits w thread account is = subst (λ (x : View). x ≡ sitting x.thread x.account) (sym is) refl

pub keeps : (w : View) (table : Known) (next : ℕ) → w ≡ knower table next → w ≡ knower w.table w.next
keeps w table next is = subst (λ (x : View). x ≡ knower x.table x.next) (sym is) refl

-- the keeper that has taken in a seat's pass hosts it
pub taken_in : (v u : View) (thread : ℕ) (account : Claim) → v ≡ knower v.table v.next → u ≡ sitting thread account → both_of v u ≡ hosting v.table v.next thread account
taken_in v u thread account is is' = λ i. record { keeps = (ap (λ (x : View). x.keeps) is) i; table = v.table; next = v.next; sits = (ap (λ (x : View). x.sits) is') i; thread = (ap (λ (x : View). x.thread) is') i; account = (ap (λ (x : View). x.account) is') i }
