-- What the loop over the items of a unit keeps.
use Rattle.std.proofs.Common.{◌≡◌, ℕ, zero, suc, ◌+◌, ◌<◌, ◌≤◌, true, false, List, [], ◌∷◌, ◌++◌, length, Result, Ok, Err, refl, sym, ap, ◌∙◌, arith, append_assoc, add-one}
use Rattle.std.proofs.lemmas.List.{append-nil}
use Rattle.syntax.specs.Tree.{Item}
use Rattle.parse_lexemes.specs.declared.fault.ParseError.{ParseError}
use Rattle.parse_lexemes.specs.declared.fault.ParseError.TheVariants.{Memory, Fault}
use Rattle.parse_lexemes.specs.declared.first.Fixed.TheVariants as fixed
use Rattle.parse_lexemes.specs.Results.{◌>>=◌, Fails}
use Rattle.parse_lexemes.specs.Lexemes.{Lexed}
use Rattle.parse_lexemes.specs.Reading.{starts_with}
use Rattle.parse.specs.Reading.{item_at, items_at}
use Rattle.parse.proofs.Programs.{item_takes}

abbrev pub with_items : List Item → Result (List Item) ParseError → Result (List Item) ParseError
with_items front read = read >>= λ items. Ok (front ++ items)

pub record FillsUnit (items : List Item) (functions statics : ℕ) (ls : List Lexed) (total : Result (List Item) ParseError) : Type 0 where
  pub steps : ℕ
  pub enough : length ls ≤ steps
  pub same : with_items items (items_at (suc steps) functions statics ls) ≡ total

no_items : (read : Result (List Item) ParseError) → with_items [] read ≡ read
no_items (Ok x) = refl
no_items (Err f) = refl

abbrev parsed : List Item → Result (List Item) ParseError
parsed items = Ok items

pub unit_start : (ls : List Lexed) → FillsUnit [] 256 256 ls (items_at (length ls + 1) 256 256 ls)
unit_start ls = record { steps = length ls; enough = omega arith; same = no_items (items_at (suc (length ls)) 256 256 ls) ∙ sym (ap (λ n. items_at n 256 256 ls) (add-one (length ls))) }

module _ (items : List Item) (functions statics : ℕ) (ls : List Lexed) (total : Result (List Item) ParseError) (f : FillsUnit items functions statics ls total) where
  pub unit_done : starts_with fixed.End ls ≡ true → total ≡ Ok items
  unfolding items_at
  unit_done s =
      let one : with_items items (items_at (suc f.steps) functions statics ls) ≡ Ok items = rw s (ap parsed (append-nil items)) in
      sym f.same ∙ one

  pub unit_fails : (e : ParseError) → starts_with fixed.End ls ≡ false → Fails e (item_at functions statics ls) → Fails e total
  unfolding items_at
  unit_fails Memory s h = tt
  unit_fails (Fault broken) s h =
      let one : with_items items (items_at (suc f.steps) functions statics ls) ≡ Err (Fault broken) = rw (s, h) refl in
      sym f.same ∙ one

  regroup_items : (x : Item) (read : Result (List Item) ParseError) → with_items (items ++ x ∷ []) read ≡ with_items items (read >>= λ more. Ok (x ∷ more))
  regroup_items x (Ok more) = ap parsed (append_assoc items (x ∷ []) more)
  regroup_items x (Err e) = refl

  pub unit_on : (x : Item) (functions_left statics_left : ℕ) (after : List Lexed) → starts_with fixed.End ls ≡ false → item_at functions statics ls ≡ Ok (x, functions_left, statics_left, after) → FillsUnit (items ++ x ∷ []) functions_left statics_left after total
  unfolding items_at
  unit_on x functions_left statics_left after s h =
      go f.steps f.enough f.same
    where
      short : length after < length ls
      short = (item_takes functions statics ls (x, functions_left, statics_left, after) h).shorter

      go : (steps : ℕ) → length ls ≤ steps → with_items items (items_at (suc steps) functions statics ls) ≡ total → FillsUnit (items ++ x ∷ []) functions_left statics_left after total
      go zero enough same = absurd (omega (arith, short))
      go (suc steps) enough same =
          let one : with_items items (items_at (suc (suc steps)) functions statics ls) ≡ with_items (items ++ x ∷ []) (items_at (suc steps) functions_left statics_left after) = rw (s, h) (sym (regroup_items x (items_at (suc steps) functions_left statics_left after))) in
          record { steps = steps; enough = omega (arith, short); same = sym one ∙ same }
