-- The codes of an accepted unit, where none is too long.
use Rattle.std.proofs.Common.{◌≡◌, ◌<◌, ◌||◌, true, false, List, [], ◌∷◌, length, map, refl, sym, ap, ◌∙◌, arith, subst}
use Rattle.std.specs.Prelude.{IsTrue}
use Rattle.std.specs.List.{All, list_any}
use Rattle.std.proofs.lemmas.Bool.{le-ltb}
use Rattle.std.proofs.lemmas.List.Elements.{All-head, All-tail}
use Rattle.base.specs.Limits.{most_steps}
use Rattle.syntax.specs.declared.unit.Item.{Item as ItemInMemory}
use Rattle.syntax.specs.Views.{item_tree}
use Rattle.syntax.specs.Tree.{Item, StaticItem, FunctionItem}
use Rattle.code.specs.Depth.{Listing}
use Rattle.code_meaning.specs.Layout.{Known, with_static}
use Rattle.code_meaning.specs.Length.{function_steps, is_long}
use Rattle.code_meaning.specs.Lowered.{AreCodesOf}
use Rattle.lower.specs.Listings.{listing_of, listings_of}
use Rattle.lower.proofs.AcceptedFacts.{AllFit}
use Rattle.lower.proofs.Functions.{is_code_of}
use Rattle.lower_parallel.specs.Shares.{IsShort, AreShares}
use Rattle.lower_parallel.proofs.Dealing.{all_short}

-- where none of the shares has a code that is too long, the program has none
pub program_short : (program : List Listing) (shares : List (List Listing)) → 0 < length shares → AreShares program shares → All IsShort program
program_short program shares some h = all_short (length shares) 0 program some (λ w below. subst (All IsShort) (h w below).0 (h w below).1)

-- they are the codes of the unit's functions
pub codes_stand : (statics : Known) (items : List Item) → AllFit statics items → All IsShort (listings_of statics items) → AreCodesOf statics items (listings_of statics items)
codes_stand statics [] fit short = tt
codes_stand statics (StaticItem s ∷ items) fit short = (fit.0, codes_stand (with_static s statics) items fit.1 short)
codes_stand statics (FunctionItem f ∷ items) fit short =
    let first : IsShort (listing_of statics f) = All-head IsShort (listing_of statics f) (listings_of statics items) short in
    (is_code_of statics f fit.0 fit.1 fit.2 fit.3 (omega (arith, first, fit.3)), codes_stand statics items fit.4 (All-tail IsShort (listing_of statics f) (listings_of statics items) short))

-- and no function that has its code is too long
none_long : (statics : Known) (items : List Item) (codes : List Listing) → AreCodesOf statics items codes → list_any is_long items ≡ false
none_long statics [] [] h = refl
none_long statics [] (c ∷ codes) h = absurd h
none_long statics (StaticItem s ∷ items) codes h = none_long (with_static s statics) items codes h.1
none_long statics (FunctionItem f ∷ items) [] h = absurd h
none_long statics (FunctionItem f ∷ items) (c ∷ codes) h = ap (λ b. b || list_any is_long items) (le-ltb most_steps (function_steps f) h.0.short) ∙ none_long statics items codes h.1

pub not_long : (items : List Item) (codes : List Listing) → AreCodesOf [] items codes → IsTrue (list_any is_long items) → ⊥
not_long items codes h long = let e : false ≡ true = sym (none_long [] items codes h) ∙ long in absurd (cc)

-- ---- what workers made of a unit

pub made_stands : (unit : List ItemInMemory) (codes : List Listing) (shares : List (List Listing)) → AllFit [] (map item_tree unit) → 0 < length shares → AreShares (listings_of [] (map item_tree unit)) shares → codes ≡ listings_of [] (map item_tree unit)
    → AreCodesOf [] (map item_tree unit) codes
made_stands unit codes shares fit some h same =
    subst (AreCodesOf [] (map item_tree unit)) (sym same) (codes_stand [] (map item_tree unit) fit (program_short (listings_of [] (map item_tree unit)) shares some h))
