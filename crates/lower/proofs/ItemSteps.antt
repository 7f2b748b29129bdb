-- What is known after some items of a unit that is lowered.
use Rattle.std.proofs.Common.{◌≡◌, ℕ, ◌+◌, ◌<◌, ◌≤◌, ◌||◌, List, [], ◌∷◌, ◌++◌, length, get_or, drop, add-one, drop-cons, map, refl, sym, ap, ◌∙◌, subst, append_assoc}
use Rattle.std.specs.Prelude.{IsTrue}
use Rattle.std.specs.List.{list_any}
use Rattle.std.proofs.Math.ListN.{drop_of_length-le}
use Rattle.std.proofs.lemmas.Bool.{le-ltb}
use Rattle.std.proofs.lemmas.List.{append-nil}
use Rattle.base.specs.Limits.{most_steps}
use Rattle.syntax.specs.declared.unit.Item.{Item as ItemInMemory}
use Rattle.syntax.specs.Tree.{Function, Item, StaticItem, FunctionItem, Static}
use Rattle.syntax.specs.Views.{item_tree}
use Rattle.code.specs.Depth.{Listing}
use Rattle.code_meaning.specs.Layout.{Known, with_static}
use Rattle.code_meaning.specs.Length.{function_steps, is_long}
use Rattle.lower.specs.Items.{ItemFits, IsItemDone}
use Rattle.lower.specs.Listings.{listing_of, listings_of}
use Rattle.code_meaning.specs.Lowered.{IsCodeOf, AreCodesOf}
use Rattle.lower.proofs.AcceptedFacts.{AllFit}

-- these items are left after these statics, and the functions in front of them have these codes
pub record AreLeft (all : List Item) (statics : Known) (rest : List Item) (codes : List Listing) : Type 0 where
  pub fit : AllFit statics rest
  pub lowered : (further : List Listing) → AreCodesOf statics rest further → AreCodesOf [] all (codes ++ further)
  pub listed : codes ++ listings_of statics rest ≡ listings_of [] all
  pub long : list_any is_long all ≡ list_any is_long rest

pub none_done : (all : List Item) → AllFit [] all → AreLeft all [] all []
none_done all fit = record { fit = fit; lowered = λ further h. h; listed = refl; long = refl }

pub static_done : (all : List Item) (statics : Known) (s : Static) (rest : List Item) (codes : List Listing) → AreLeft all statics (StaticItem s ∷ rest) codes → AreLeft all (with_static s statics) rest codes
static_done all statics s rest codes h = record { fit = h.fit.1; lowered = λ further k. h.lowered further (h.fit.0, k); listed = h.listed; long = h.long }

pub function_done : (all : List Item) (statics : Known) (f : Function) (rest : List Item) (codes : List Listing) (c : Listing) → AreLeft all statics (FunctionItem f ∷ rest) codes → c ≡ listing_of statics f → IsCodeOf statics f c
    → AreLeft all statics rest (codes ++ c ∷ [])
function_done all statics f rest codes c h same is = record {
  fit = h.fit.4;
  lowered = λ further k. subst (AreCodesOf [] all) (sym (append_assoc codes (c ∷ []) further)) (h.lowered (c ∷ further) (is, k));
  listed = append_assoc codes (c ∷ []) (listings_of statics rest) ∙ ap (λ x. codes ++ x ∷ listings_of statics rest) same ∙ h.listed;
  long = h.long ∙ ap (λ b. b || list_any is_long rest) (le-ltb most_steps (function_steps f) is.short);
}

-- an item that is left can be lowered
pub item_fits : (all : List Item) (statics : Known) (item : Item) (rest : List Item) (codes : List Listing) → AreLeft all statics (item ∷ rest) codes → ItemFits statics item
item_fits all statics (StaticItem s) rest codes h = tt
item_fits all statics (FunctionItem f) rest codes h = (h.fit.0, h.fit.1, h.fit.2, h.fit.3)

-- and those after it are left then
pub item_done : (all : List Item) (statics : Known) (item : Item) (rest : List Item) (codes : List Listing) (after : Known) (done : List Listing) → AreLeft all statics (item ∷ rest) codes → IsItemDone statics codes item after done → AreLeft all after rest done
item_done all statics (StaticItem s) rest codes after done h is = rw (is.0, is.1) (static_done all statics s rest codes h)
item_done all statics (FunctionItem f) rest codes after done h is = rw (is.0, is.1.1) (function_done all statics f rest codes is.1.0 h is.1.2 is.1.3)

-- the first item that is left is too long
pub item_long : (all : List Item) (statics : Known) (item : Item) (rest : List Item) (codes : List Listing) → AreLeft all statics (item ∷ rest) codes → IsTrue (is_long item) → IsTrue (list_any is_long all)
item_long all statics item rest codes h long = h.long ∙ ap (λ b. b || list_any is_long rest) long

pub all_done : (all : List Item) (statics : Known) (codes : List Listing) → AreLeft all statics [] codes → AreCodesOf [] all codes
all_done all statics codes h = subst (AreCodesOf [] all) (append-nil codes) (h.lowered [] tt)

pub all_listed : (all : List Item) (statics : Known) (codes : List Listing) → AreLeft all statics [] codes → codes ≡ listings_of [] all
all_listed all statics codes h = sym (append-nil codes) ∙ h.listed

pub none_long : (all : List Item) (statics : Known) (codes : List Listing) → AreLeft all statics [] codes → IsTrue (list_any is_long all) → ⊥
none_long all statics codes h long = let e = sym h.long ∙ long in absurd (cc)

-- the next item in memory
pub next_item : (items : List ItemInMemory) (i : ℕ) (item : ItemInMemory) → i < length items → item ≡ get_or items i item → map item_tree (drop i items) ≡ item_tree item ∷ map item_tree (drop (i + 1) items)
next_item items i item below is = let front : drop i items ≡ item ∷ drop (i + 1) items = rw (add-one, drop-cons items i item, ← is) refl in ap (map item_tree) front

pub last_item : (items : List ItemInMemory) (i : ℕ) → length items ≤ i → map item_tree (drop i items) ≡ []
last_item items i past = ap (map item_tree) (drop_of_length-le items past)
