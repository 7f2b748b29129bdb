-- The table of all accounts, and what a turn changes of it.
use Rattle.std.proofs.Common.{◌≡◌, ℕ, zero, suc, ◌+◌, ◌<◌, ◌≤◌, ◌==◌, List, [], ◌∷◌, ◌++◌, length, Option, Some, true, false, refl, sym, ap, ◌∙◌, subst, arith, eq-eqb, length-append, ◌-◌}
use Rattle.std.specs.List.{list_any}
use Rattle.std.specs.Option.{unwrap_or}
use Rattle.std.proofs.lemmas.Bool.{false≢true, and_left, and_right, and_from}
use Rattle.std.specs.Prelude.{slice_get, Bool, ◌||◌, ◌&&◌}
use Rattle.semantics.specs.World.{World}
use Rattle.machine.specs.Run.{Run}
use Rattle.shared_passes.specs.declared.view.Account.{Account}
use Rattle.shared_passes.specs.Tokens.{nothing, none}
use Rattle.shared_accounts.specs.Accounts.{Sat, account_of, table_of, accounts_of, seats_in, seats_of, each_sits, is_one_each}

pub table_get : (f : ℕ → Account) (n k : ℕ) → k < n → slice_get (table_of f n) k ≡ Some (f k)
table_get f zero k h = absurd (omega arith)
table_get f (suc n) zero h = refl
table_get f (suc n) (suc k) h = table_get (λ j. f (suc j)) n k (omega arith)

-- two tables differ at most where the functions do
pub table_same : (f g : ℕ → Account) (n k : ℕ) → f k ≡ g k → slice_get (table_of f n) k ≡ slice_get (table_of g n) k
table_same f g zero k h = refl
table_same f g (suc n) zero h = ap Some h
table_same f g (suc n) (suc k) h = table_same (λ j. f (suc j)) (λ j. g (suc j)) n k h

-- the table of another run of as many threads
pub accounts_same : (old new : Run) (j : ℕ) → new.world ≡ old.world → account_of new j ≡ account_of old j → slice_get (accounts_of new) j ≡ slice_get (accounts_of old) j
accounts_same old new j world same = ap (λ (w : World). slice_get (table_of (account_of new) (length w.threads + 1)) j) world ∙ table_same (account_of new) (account_of old) (length old.world.threads + 1) j same

pub accounts_get : (r : Run) (k : ℕ) → k ≤ length r.world.threads → slice_get (accounts_of r) k ≡ Some (account_of r k)
accounts_get r k h = table_get (account_of r) (length r.world.threads + 1) k (omega arith)

pub some_same : (a b : Account) → Some a ≡ Some b → a ≡ b
some_same a b e = cc

pub table_length : (f : ℕ → Account) (n : ℕ) → length (table_of f n) ≡ n
table_length f zero = refl
table_length f (suc n) = ap suc (table_length (λ k. f (suc k)) n)

pub get_known : (t : List Account) (k : ℕ) → k < length t → slice_get t k ≡ Some (unwrap_or (slice_get t k) nothing)
get_known [] k h = absurd (omega arith)
get_known (x ∷ xs) zero h = refl
get_known (x ∷ xs) (suc k) h = get_known xs k (omega arith)

-- the seats by the table are those of the run
pub seats_same : (r : Run) (n : ℕ) → n ≤ length r.world.threads → seats_in (accounts_of r) n ≡ seats_of r n
seats_same r zero h = refl
seats_same r (suc n) h = λ i. (seats_same r n (omega arith)) i ++ record { thread = n + 1; account = (ap (λ (o : Option Account). unwrap_or o nothing) (accounts_get r (n + 1) (omega arith))) i; kept = none } ∷ []

-- ---- one seat each

more_sit : (seats : List Sat) (d k : ℕ) → each_sits k seats ≡ false → each_sits (d + k) seats ≡ false
more_sit seats zero k h = let e : k ≡ 0 + k = omega arith in subst (λ m. each_sits m seats ≡ false) e h
more_sit seats (suc d) k h = let e : suc (d + k) ≡ suc d + k = omega arith in subst (λ m. each_sits m seats ≡ false) e (and_left _ _ (more_sit seats d k h))

-- a thread without a seat
pub one_stands : (seats : List Sat) (n k : ℕ) → k < n → list_any (λ (s : Sat). s.thread == k + 1) seats ≡ false → each_sits n seats ≡ false
one_stands seats n k below none =
    let here : each_sits (suc k) seats ≡ false = and_right (each_sits k seats) _ none in
    let d : (n - suc k) + suc k ≡ n = omega arith in
    ap (λ m. each_sits m seats) (sym d) ∙ more_sit seats (n - suc k) (suc k) here

pub not_each : (threads k : ℕ) (seats : List Sat) → k < threads → list_any (λ (s : Sat). s.thread == k + 1) seats ≡ false → is_one_each threads seats ≡ false
not_each threads k seats below none = and_right (length seats == threads) _ (one_stands seats threads k below none)

pub table_of_all : (r : Run) (n : ℕ) → length r.world.threads ≡ n → length (accounts_of r) ≡ n + 1
table_of_all r n h = table_length (account_of r) (length r.world.threads + 1) ∙ ap (λ m. m + 1) h

pub one_more_sits : (k : ℕ) (seats : List Sat) → each_sits k seats ≡ true → list_any (λ (s : Sat). s.thread == k + 1) seats ≡ true → each_sits (k + 1) seats ≡ true
one_more_sits k seats h one = let e : suc k ≡ k + 1 = omega arith in subst (λ m. each_sits m seats ≡ true) e (and_from _ _ h one)

-- ---- the seats that are given are one for each thread

any_append : (xs : List Sat) (y : Sat) (k : ℕ) → list_any (λ (s : Sat). s.thread == k) xs ≡ true → list_any (λ (s : Sat). s.thread == k) (xs ++ y ∷ []) ≡ true
any_append [] y k h = absurd (false≢true h)
any_append (x ∷ xs) y k h = or_more (x.thread == k) _ _ (any_append xs y k) h
  where
    or_more : (a b c : Bool) → (b ≡ true → c ≡ true) → (a || b) ≡ true → (a || c) ≡ true
    or_more true b c f g = refl
    or_more false b c f g = f g

any_last : (xs : List Sat) (y : Sat) → list_any (λ (s : Sat). s.thread == y.thread) (xs ++ y ∷ []) ≡ true
any_last [] y = let e : (y.thread == y.thread) ≡ true = eq-eqb y.thread y.thread refl in rw e refl
any_last (x ∷ xs) y = or_right (x.thread == y.thread) _ (any_last xs y)
  where
    or_right : (a b : Bool) → b ≡ true → (a || b) ≡ true
    or_right true b h = refl
    or_right false b h = h

each_append : (n : ℕ) (xs : List Sat) (y : Sat) → each_sits n xs ≡ true → each_sits n (xs ++ y ∷ []) ≡ true
each_append zero xs y h = refl
each_append (suc n) xs y h =
    let parts = both_true (each_sits n xs) _ h in
    and_from _ _ (each_append n xs y parts.0) (any_append xs y (n + 1) parts.1)
  where
    both_true : (a b : Bool) → (a && b) ≡ true → (a ≡ true) × (b ≡ true)
    both_true true b h = (refl, h)
    both_true false b h = absurd (false≢true h)

seats_length : (r : Run) (n : ℕ) → length (seats_of r n) ≡ n
seats_length r zero = refl
seats_length r (suc n) = length-append (seats_of r n) _ ∙ (let h = seats_length r n in omega arith)

all_sit : (r : Run) (n : ℕ) → each_sits n (seats_of r n) ≡ true
all_sit r zero = refl
all_sit r (suc n) = and_from _ _ (each_append n (seats_of r n) _ (all_sit r n)) (any_last (seats_of r n) (record { thread = n + 1; account = account_of r (n + 1); kept = none }))

pub given_one_each : (r : Run) (n : ℕ) → is_one_each n (seats_of r n) ≡ true
given_one_each r n = and_from _ _ (eq-eqb _ _ (seats_length r n)) (all_sit r n)
