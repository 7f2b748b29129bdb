-- What is known after some items of a unit, of which a worker lowers its own functions.
use Rattle.std.proofs.Common.{◌≡◌, ℕ, ◌+◌, ◌<◌, ◌%◌, ◌||◌, Bool, true, false, List, [], ◌∷◌, ◌++◌, length, map, drop, get_or, refl, sym, ap, ◌∙◌, subst, arith, append_assoc}
use Rattle.std.specs.Prelude.{IsTrue}
use Rattle.std.specs.List.{All, list_any}
use Rattle.std.proofs.lemmas.List.{append-nil}
use Rattle.std.proofs.lemmas.List.Elements.{All-nil, All-push}
use Rattle.syntax.specs.declared.unit.Item.{Item as ItemInMemory}
use Rattle.syntax.specs.Views.{item_tree}
use Rattle.syntax.specs.Tree.{Function, Item, StaticItem, FunctionItem, Static}
use Rattle.code.specs.Depth.{Listing}
use Rattle.code_meaning.specs.Layout.{Known, with_static}
use Rattle.code_meaning.specs.Length.{is_long}
use Rattle.lower.specs.Items.{ItemFits, IsItemDone}
use Rattle.lower.specs.Listings.{listing_of, listings_of}
use Rattle.lower.proofs.AcceptedFacts.{AllFit}
use Rattle.lower.proofs.ItemSteps.{next_item}
use Rattle.lower_parallel.specs.Shares.{share_of, IsShort, IsShare}
use Rattle.lower_parallel.proofs.Dealing.{own_first, other_first}

-- these items are left after these statics, of which the first function has this number, and the worker's own functions in front of them have these codes
pub record AreLeft (workers worker : ℕ) (all : List Item) (statics : Known) (number : ℕ) (rest : List Item) (codes : List Listing) : Type 0 where
  pub fit : AllFit statics rest
  pub share : codes ++ share_of workers worker number (listings_of statics rest) ≡ share_of workers worker 0 (listings_of [] all)
  pub short : All IsShort codes
  pub long : IsTrue (list_any is_long rest) → IsTrue (list_any is_long all)

pub none_done : (workers worker : ℕ) (all : List Item) → AllFit [] all → AreLeft workers worker all [] 0 all []
none_done workers worker all fit = record { fit = fit; share = refl; short = All-nil IsShort; long = λ h. h }

pub static_done : (workers worker : ℕ) (all : List Item) (statics : Known) (number : ℕ) (s : Static) (rest : List Item) (codes : List Listing) → AreLeft workers worker all statics number (StaticItem s ∷ rest) codes
    → AreLeft workers worker all (with_static s statics) number rest codes
static_done workers worker all statics number s rest codes h = record { fit = h.fit.1; share = h.share; short = h.short; long = λ l. h.long l }

or_later : (a b : Bool) → IsTrue b → IsTrue (a || b)
or_later true b h = refl
or_later false b h = h

or_first : (a b : Bool) → IsTrue a → IsTrue (a || b)
or_first true b h = refl
or_first false b h = absurd (cc)

-- a function that isn't the worker's is passed over
pub other_passed : (workers worker : ℕ) (all : List Item) (statics : Known) (number : ℕ) (f : Function) (rest : List Item) (codes : List Listing) → AreLeft workers worker all statics number (FunctionItem f ∷ rest) codes
    → (number % workers ≡ worker → ⊥) → AreLeft workers worker all statics (number + 1) rest codes
other_passed workers worker all statics number f rest codes h other = record {
  fit = h.fit.4;
  share = ap (λ (further : List Listing). codes ++ further) (sym (other_first workers worker number (listing_of statics f) (listings_of statics rest) other)) ∙ h.share;
  short = h.short;
  long = λ l. h.long (or_later (is_long (FunctionItem f)) (list_any is_long rest) l);
}

-- one of its own has its code then
pub own_done : (workers worker : ℕ) (all : List Item) (statics : Known) (number : ℕ) (f : Function) (rest : List Item) (codes : List Listing) (after : Known) (done : List Listing)
    → AreLeft workers worker all statics number (FunctionItem f ∷ rest) codes → number % workers ≡ worker → IsItemDone statics codes (FunctionItem f) after done → AreLeft workers worker all after (number + 1) rest done
own_done workers worker all statics number f rest codes after done h own is =
    let c = is.1.0 in
    let further = share_of workers worker (number + 1) (listings_of statics rest) in
    rw (is.0, is.1.1) (record {
      fit = h.fit.4;
      share = append_assoc codes (c ∷ []) further ∙ ap (λ x. codes ++ x ∷ further) is.1.2
          ∙ ap (λ (l : List Listing). codes ++ l) (sym (own_first workers worker number (listing_of statics f) (listings_of statics rest) own)) ∙ h.share;
      short = All-push IsShort codes c h.short (omega (arith, is.1.3.counted, is.1.3.short));
      long = λ l. h.long (or_later (is_long (FunctionItem f)) (list_any is_long rest) l);
    })

-- the first item that is left, as it is in memory
pub first_left : (workers worker : ℕ) (all : List Item) (statics : Known) (number : ℕ) (items : List ItemInMemory) (i : ℕ) (item x : ItemInMemory) (codes : List Listing) → i < length items → item ≡ get_or items i item → item ≡ x
    → AreLeft workers worker all statics number (map item_tree (drop i items)) codes → AreLeft workers worker all statics number (item_tree x ∷ map item_tree (drop (i + 1) items)) codes
first_left workers worker all statics number items i item x codes below at is h =
    subst (λ rest. AreLeft workers worker all statics number rest codes) (next_item items i item below at ∙ ap (λ (y : ItemInMemory). item_tree y ∷ map item_tree (drop (i + 1) items)) is) h

-- a function that is left can be lowered
pub function_fits : (workers worker : ℕ) (all : List Item) (statics : Known) (number : ℕ) (f : Function) (rest : List Item) (codes : List Listing) → AreLeft workers worker all statics number (FunctionItem f ∷ rest) codes
    → ItemFits statics (FunctionItem f)
function_fits workers worker all statics number f rest codes h = (h.fit.0, h.fit.1, h.fit.2, h.fit.3)

pub all_done : (workers worker : ℕ) (all : List Item) (statics : Known) (number : ℕ) (codes : List Listing) → AreLeft workers worker all statics number [] codes → IsShare workers worker (listings_of [] all) codes
all_done workers worker all statics number codes h = (sym (append-nil codes) ∙ h.share, h.short)
