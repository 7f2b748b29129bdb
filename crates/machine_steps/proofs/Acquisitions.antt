-- What the buffers of a thread take, once a variable has changed.
use Rattle.std.proofs.Common.{◌≡◌, ℕ, ◌+◌, Bool, true, false, ◌||◌, List, [], ◌∷◌, ◌++◌, length, Option, Some, None, refl, sym, ap, ◌∙◌, subst, arith, length-append, if◌then◌else◌}
use Rattle.std.specs.Prelude.{flat_map, sum_by}
use Rattle.std.specs.List.{list_any}
use Rattle.std.specs.Str.{bytes_eq}
use Rattle.std.proofs.lemmas.List.Sums.{sum_by-cons}
use Rattle.base.specs.Bytes.{Identifier, lookup}
use Rattle.base.specs.declared.element.ElementType.{ElementType}
use Rattle.syntax.specs.Tree.{Parameter}
use Rattle.semantics.specs.Activation.{parameter_variables}
use Rattle.semantics.specs.Object.{ObjectValue, Number, Refers}
use Rattle.semantics.specs.Thread.{Shared}
use Rattle.semantics.specs.declared.value.Value.TheVariants.{Int}
use Rattle.semantics.specs.Variable as source
use Rattle.semantics.specs.Variable.{Variable, Variables, Scalar, LocalRef, FieldHandle, MethodHandle, Elements, LocalArray, NoBuffer, Copy, View, assign, copied_length, viewed}
use Rattle.semantics.specs.World.{World}
use Rattle.semantics_safety.specs.StepSafe.{HoldsNoBuffer, is_lent}
use Rattle.code_meaning.specs.Lowered.{Lowered}
use Rattle.machine_scenes.specs.Buffers.{Acquired, SameAcquired, acquired_of, beside, nothing_acquired}
use Rattle.machine_scenes.specs.HeapAgrees.{times}
use Rattle.machine_scenes.specs.StoreAgrees.{StoreAgrees}
use Rattle.machine_scenes.specs.declared.store.Store.{Store}
use Rattle.machine_scenes.proofs.HeldSums.{times_append, copied_of, viewed_of}
use Rattle.machine_scenes.proofs.Taken.{taken_same}

-- what the buffers of these variables take
abbrev pub taken_by : Variables → Acquired
taken_by vs = record { copied = sum_by (λ (v : Identifier × Variable). copied_length v.1) vs; viewed = flat_map (λ (v : Identifier × Variable). viewed v.1) vs }

-- ---- sums

module _ (count : Variable → ℕ) where
  abbrev total : Variables → ℕ
  total vs = sum_by (λ (v : Identifier × Variable). count v.1) vs

  abbrev pub counted : Option Variable → ℕ
  counted None = 0
  counted (Some v) = count v

  sum_assigned : (x : Identifier) (v : Variable) (vs : Variables) → total (assign x v vs) + counted (lookup x vs) ≡ total vs + count v
  sum_assigned x v [] = omega (arith, sum_by-cons (λ (e : Identifier × Variable). count e.1) (x, v) [])
  sum_assigned x v ((y, u) ∷ vs) = by_test (bytes_eq x y) (sum_assigned x v vs)
    where
      by_test : (t : Bool) → total (assign x v vs) + counted (lookup x vs) ≡ total vs + count v → total (if t then (x, v) ∷ vs else (y, u) ∷ assign x v vs) + counted (if t then Some u else lookup x vs) ≡ total ((y, u) ∷ vs) + count v
      by_test true later = omega (arith, sum_by-cons (λ (e : Identifier × Variable). count e.1) (x, v) vs, sum_by-cons (λ (e : Identifier × Variable). count e.1) (y, u) vs)
      by_test false later = omega (arith, later, sum_by-cons (λ (e : Identifier × Variable). count e.1) (y, u) (assign x v vs), sum_by-cons (λ (e : Identifier × Variable). count e.1) (y, u) vs)

-- what is counted of views
module _ (count : List ℕ → ℕ) (none : count [] ≡ 0) (both : (xs ys : List ℕ) → count (xs ++ ys) ≡ count xs + count ys) where
  all_views : (vs : Variables) → count (taken_by vs).viewed ≡ total (λ (v : Variable). count (viewed v)) vs
  all_views [] = none
  all_views (e ∷ vs) =
      both (viewed e.1) (taken_by vs).viewed
      ∙ ap (λ (k : ℕ). count (viewed e.1) + k) (all_views vs)
      ∙ sym (sum_by-cons (λ (e : Identifier × Variable). count (viewed e.1)) e vs)

  pub views_assigned : (x : Identifier) (v : Variable) (vs : Variables) → count (taken_by (assign x v vs)).viewed + counted (λ (u : Variable). count (viewed u)) (lookup x vs) ≡ count (taken_by vs).viewed + count (viewed v)
  views_assigned x v vs = omega (arith, all_views (assign x v vs), all_views vs, sum_assigned (λ (u : Variable). count (viewed u)) x v vs)

-- ---- a variable that takes what was taken

-- the object that a variable shows, if it is there
abbrev pub viewed_there : Option Variable → List ℕ
viewed_there None = []
viewed_there (Some v) = viewed v

-- how long its copy is
abbrev pub copied_there : Option Variable → ℕ
copied_there None = 0
copied_there (Some v) = copied_length v

views_same : (x : Identifier) (v : Variable) (vs : Variables) → viewed v ≡ viewed_there (lookup x vs) → (taken_by (assign x v vs)).viewed ≡ (taken_by vs).viewed
views_same x v [] h = ap (λ (l : List ℕ). l ++ []) h
views_same x v ((y, u) ∷ vs) h = by_test (bytes_eq x y) h (views_same x v vs)
  where
    by_test : (t : Bool) → viewed v ≡ viewed_there (if t then Some u else lookup x vs) → (viewed v ≡ viewed_there (lookup x vs) → (taken_by (assign x v vs)).viewed ≡ (taken_by vs).viewed) → (taken_by (if t then (x, v) ∷ vs else (y, u) ∷ assign x v vs)).viewed ≡ (taken_by ((y, u) ∷ vs)).viewed
    by_test true same later = ap (λ (l : List ℕ). l ++ (taken_by vs).viewed) same
    by_test false same later = ap (λ (l : List ℕ). viewed u ++ l) (later same)

counted_copies : (o : Option Variable) → counted copied_length o ≡ copied_there o
counted_copies None = refl
counted_copies (Some v) = refl

pub assigned_same : (x : Identifier) (v : Variable) (vs : Variables) → copied_length v ≡ copied_there (lookup x vs) → viewed v ≡ viewed_there (lookup x vs) → taken_by (assign x v vs) ≡ taken_by vs
assigned_same x v vs copies views =
    let copied : (taken_by (assign x v vs)).copied ≡ (taken_by vs).copied = omega (arith, sum_assigned copied_length x v vs, copies, counted_copies (lookup x vs)) in
    ap (λ (n : ℕ). let a : Acquired = record { copied = n; viewed = (taken_by (assign x v vs)).viewed } in a) copied
    ∙ ap (λ (l : List ℕ). let a : Acquired = record { copied = (taken_by vs).copied; viewed = l } in a) (views_same x v vs views)

-- one that holds nothing takes nothing
pub copies_none : (o : Option Variable) → HoldsNoBuffer o → copied_there o ≡ 0
copies_none None h = refl
copies_none (Some (Scalar v)) h = refl
copies_none (Some (LocalRef level r)) h = refl
copies_none (Some (FieldHandle f)) h = refl
copies_none (Some (MethodHandle f)) h = refl
copies_none (Some (LocalArray t zs)) h = refl
copies_none (Some (Elements t b)) h = ap (λ (c : source.Buffer). copied_length (Elements t c)) (h t b refl)

pub views_none : (o : Option Variable) → HoldsNoBuffer o → viewed_there o ≡ []
views_none None h = refl
views_none (Some (Scalar v)) h = refl
views_none (Some (LocalRef level r)) h = refl
views_none (Some (FieldHandle f)) h = refl
views_none (Some (MethodHandle f)) h = refl
views_none (Some (LocalArray t zs)) h = refl
views_none (Some (Elements t b)) h = ap (λ (c : source.Buffer). viewed (Elements t c)) (h t b refl)

-- a variable that takes nothing is set where nothing was held
pub assigned_nothing : (x : Identifier) (v : Variable) (vs : Variables) → copied_length v ≡ 0 → viewed v ≡ [] → HoldsNoBuffer (lookup x vs) → taken_by (assign x v vs) ≡ taken_by vs
assigned_nothing x v vs copies views none = assigned_same x v vs (copies ∙ sym (copies_none (lookup x vs) none)) (views ∙ sym (views_none (lookup x vs) none))

-- ---- a buffer

counted_none : (count : List ℕ → ℕ) → count [] ≡ 0 → (o : Option Variable) → viewed_there o ≡ [] → counted (λ (u : Variable). count (viewed u)) o ≡ 0
counted_none count none None h = refl
counted_none count none (Some v) h = ap count h ∙ none

-- a buffer goes to a variable that held none
pub assigned_buffer : (others : Acquired) (x : Identifier) (t : ElementType) (b : source.Buffer) (vs : Variables) → HoldsNoBuffer (lookup x vs) → SameAcquired (beside others (beside (taken_by vs) (acquired_of b))) (beside others (taken_by (assign x (Elements t b) vs)))
assigned_buffer others x t b vs none =
    let empty = views_none (lookup x vs) none in
    record {
      copied = omega (arith, sum_assigned copied_length x (Elements t b) vs, copied_of t b, counted_copies (lookup x vs), copies_none (lookup x vs) none);
      many = omega (arith, length-append others.viewed ((taken_by vs).viewed ++ (acquired_of b).viewed), length-append (taken_by vs).viewed (acquired_of b).viewed, length-append others.viewed (taken_by (assign x (Elements t b) vs)).viewed, views_assigned length refl length-append x (Elements t b) vs, ap length (viewed_of t b), counted_none length refl (lookup x vs) empty);
      viewed = λ n.
          omega (arith, times_append n others.viewed ((taken_by vs).viewed ++ (acquired_of b).viewed), times_append n (taken_by vs).viewed (acquired_of b).viewed, times_append n others.viewed (taken_by (assign x (Elements t b) vs)).viewed, views_assigned (times n) refl (times_append n) x (Elements t b) vs, ap (times n) (viewed_of t b), counted_none (times n) refl (lookup x vs) empty);
    }

-- what takes nothing
pub nothing_more : (others own : Acquired) → SameAcquired (beside others (beside own nothing_acquired)) (beside others own)
nothing_more others own = record {
  copied = omega arith;
  many = omega (arith, length-append others.viewed own.viewed, length-append others.viewed (own.viewed ++ []), length-append own.viewed []);
  viewed = λ n. omega (arith, times_append n others.viewed own.viewed, times_append n others.viewed (own.viewed ++ []), times_append n own.viewed []);
}

-- ---- nothing

-- nothing is lent
none_lent : (v : Variable) (rest : Bool) → (is_lent v || rest) ≡ false → (copied_length v ≡ 0) × (viewed v ≡ []) × (rest ≡ false)
none_lent (Scalar v) rest h = (refl, refl, h)
none_lent (LocalRef level r) rest h = (refl, refl, h)
none_lent (FieldHandle f) rest h = (refl, refl, h)
none_lent (MethodHandle f) rest h = (refl, refl, h)
none_lent (LocalArray t zs) rest h = (refl, refl, h)
none_lent (Elements t NoBuffer) rest h = (refl, refl, h)
none_lent (Elements t (Copy n zs)) rest h = absurd (cc)
none_lent (Elements t (View n)) rest h = absurd (cc)

-- a variable that takes nothing adds nothing
adds_none : (x : Identifier) (v : Variable) (vs : Variables) → copied_length v ≡ 0 → viewed v ≡ [] → taken_by vs ≡ nothing_acquired → taken_by ((x, v) ∷ vs) ≡ nothing_acquired
adds_none x v vs copies views rest =
    let copied : (taken_by ((x, v) ∷ vs)).copied ≡ 0 = omega (arith, sum_by-cons (λ (e : Identifier × Variable). copied_length e.1) (x, v) vs, copies, ap (λ (a : Acquired). a.copied) rest) in
    let viewed_is : (taken_by ((x, v) ∷ vs)).viewed ≡ [] = ap (λ (l : List ℕ). l ++ (taken_by vs).viewed) views ∙ ap (λ (a : Acquired). a.viewed) rest in
    ap (λ (n : ℕ). let a : Acquired = record { copied = n; viewed = (taken_by ((x, v) ∷ vs)).viewed } in a) copied
    ∙ ap (λ (l : List ℕ). let a : Acquired = record { copied = 0; viewed = l } in a) viewed_is

pub nothing_lent : (vs : Variables) → list_any (λ (v : Identifier × Variable). is_lent v.1) vs ≡ false → taken_by vs ≡ nothing_acquired
nothing_lent [] h = refl
nothing_lent ((x, v) ∷ vs) h =
    let none = none_lent v (list_any (λ (v : Identifier × Variable). is_lent v.1) vs) h in
    adds_none x v vs none.0 none.1 (nothing_lent vs none.2)

-- what a call is given
parameters_nothing : (ps : List (Parameter × ObjectValue)) → taken_by (parameter_variables ps) ≡ nothing_acquired
parameters_nothing [] = refl
parameters_nothing ((p, Number z) ∷ ps) = adds_none p.name (Scalar (Int z)) (parameter_variables ps) refl refl (parameters_nothing ps)
parameters_nothing ((p, Refers r) ∷ ps) = adds_none p.name (LocalRef 1 r) (parameter_variables ps) refl refl (parameters_nothing ps)

pub entered_nothing : (x : Identifier) (level class : ℕ) (ps : List (Parameter × ObjectValue)) → taken_by ((x, LocalRef level (Some class)) ∷ parameter_variables ps) ≡ nothing_acquired
entered_nothing x level class ps = adds_none x (LocalRef level (Some class)) (parameter_variables ps) refl refl (parameters_nothing ps)

-- ---- the store

-- a store agrees with what is taken, in any order
pub store_taken : (p : Lowered) (w : World) (store : Store) (shared : Shared) (a b : Acquired) → SameAcquired a b → StoreAgrees p w store shared a → StoreAgrees p w store shared b
store_taken p w store shared a b same h = record {
  heap = h.heap;
  laid_out = h.laid_out;
  cells = h.cells;
  table = h.table;
  begun = h.begun;
  births = h.births;
  statics = h.statics;
  named = h.named;
  keys = h.keys;
  weak_keys = h.weak_keys;
  weaks = h.weaks;
  globals = h.globals;
  buffers = taken_same store.heap store.elements store.views (length shared.heap) a b same h.buffers;
  monitors = h.monitors;
  monitored = h.monitored;
}

-- and with the same, where the thread's variables take what they did
pub store_same : (p : Lowered) (w : World) (store : Store) (shared : Shared) (others : Acquired) (before after : Variables) → taken_by after ≡ taken_by before → StoreAgrees p w store shared (beside others (taken_by before)) → StoreAgrees p w store shared (beside others (taken_by after))
store_same p w store shared others before after same h = subst (λ (a : Acquired). StoreAgrees p w store shared (beside others a)) (sym same) h
