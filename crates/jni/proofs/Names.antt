-- The table in memory is that of the definitions, and a function's name is found in its bucket.
use Rattle.std.proofs.Common.{◌≡◌, ℕ, ◌<◌, Bool, true, false, List, [], ◌∷◌, map, get_or, Some, refl, sym, ap, ◌∙◌, bytes_eq, if◌then◌else◌, arith, find}
use Rattle.std.specs.Prelude.{◌==◌}
use Rattle.std.specs.List.{filter, range_with_len, slice_get}
use Rattle.std.specs.Option.{option_map}
use Rattle.std.proofs.lemmas.Bool.{eq-eqb}
use Rattle.std.proofs.lemmas.Option.{slice_get-map, slice_get_within}
use Rattle.std.proofs.lemmas.Slice.Eq.{bytes_eq-Decides}
use Rattle.std.proofs.lemmas.List.FromFn.{get_or-map-range_with_len}
use Rattle.base.specs.Bytes.{Identifier}
use Rattle.jni.specs.declared.kinds.Prototype.{Prototype as PrototypeInMemory}
use Rattle.jni.specs.declared.function.JniFunction.{JniFunction}
use Rattle.jni.specs.JniFunction.{prototype, all_functions, function_named}
use Rattle.jni.specs.Table.{Facts, facts, facts_of, all_rows, bucket, has_name}

-- ---- the rows

pub number_is_below : (n : ℕ) (f : JniFunction) → slice_get all_functions n ≡ Some f → n < 83
number_is_below n f at = slice_get_within all_functions n f at

pub row_is : (n : ℕ) (f : JniFunction) (r : Facts) → slice_get all_functions n ≡ Some f → slice_get all_rows n ≡ Some r → r ≡ facts_of f
row_is n f r at row = same r (facts_of f) (sym row ∙ slice_get-map facts_of all_functions n ∙ ap (option_map facts_of) at)
  where
    same : (a b : Facts) → Some a ≡ Some b → a ≡ b
    same a b e = cc

-- ---- by the buckets of names

abbrev bucket_of : JniFunction → ℕ
bucket_of f = bucket (prototype f).name

filtered : (fs : List JniFunction) (name : Identifier) → find (has_name name) (filter (λ f. bucket_of f == bucket name) fs) ≡ find (has_name name) fs
unfolding has_name
filtered [] name = refl
filtered (f ∷ fs) name =
    let rest = filter (λ g. bucket_of g == bucket name) fs in
    elim (bucket_of f == bucket name) as (λ b. (bucket_of f == bucket name) ≡ b → find (has_name name) (if b then f ∷ rest else rest) ≡ find (has_name name) (f ∷ fs)) [
      | true ↦ λ e. ap (λ o. if has_name name f then Some f else o) (filtered fs name)
      | false ↦ λ e. filtered fs name ∙ other (has_name name f) refl e
    ] refl
  where
    other : (b : Bool) → has_name name f ≡ b → (bucket_of f == bucket name) ≡ false → find (has_name name) fs ≡ (if b then Some f else find (has_name name) fs)
    other true same e =
        let there : (bucket_of f == bucket name) ≡ true = eq-eqb (bucket_of f) (bucket name) (ap bucket ((bytes_eq-Decides (prototype f).name name).0 same)) in
        let c : true ≡ false = sym there ∙ e in
        absurd cc
    other false same e = refl

abbrev pub by_bucket : List (List JniFunction)
by_bucket = map (λ k. filter (λ f. bucket_of f == k) all_functions) (range_with_len 0 128)

named : (name : Identifier) → find (has_name name) (get_or by_bucket (bucket name) []) ≡ function_named name
unfolding function_named has_name
named name =
    let low : bucket name < 128 = omega arith in
    let there : get_or by_bucket (bucket name) [] ≡ filter (λ f. bucket_of f == bucket name) all_functions =
    get_or-map-range_with_len (λ k. filter (λ f. bucket_of f == k) all_functions) 0 128 (bucket name) (bucket name) [] low (omega arith) in
    ap (find (has_name name)) there ∙ filtered all_functions name

pub found : (name : Identifier) (k : ℕ) → k ≡ bucket name → find (has_name name) (get_or by_bucket k []) ≡ function_named name
found name k same = ap (λ n. find (has_name name) (get_or by_bucket n [])) same ∙ named name

pub name_is : (name : Identifier) (p : PrototypeInMemory) (f : JniFunction) → facts p ≡ facts_of f → bytes_eq p.name.now name ≡ has_name name f
unfolding has_name
name_is name p f same = ap (λ (x : Facts). bytes_eq x.prototype.name name) same
