-- What an item has to be to be lowered, and what is known after it.
use Rattle.std.specs.Prelude.{◌≡◌, ◌+◌, List, [], ◌∷◌, ◌++◌, length, IsTrue}
use Rattle.syntax.specs.Tree.{Item, StaticItem, FunctionItem}
use Rattle.code.specs.Depth.{Listing}
use Rattle.code_meaning.specs.Layout.{Known, with_static}
use Rattle.code_meaning.specs.Coding.{function_code}
use Rattle.code_meaning.specs.Fits.{AreStatics, FunctionFits}
use Rattle.code_meaning.specs.Stands.{block_returns}
use Rattle.code_meaning.specs.Length.{function_steps}
use Rattle.code_meaning.specs.Lowered.{IsCodeOf}
use Rattle.lower.specs.Listings.{listing_of}

-- an item that can be lowered after these statics
abbrev pub ItemFits : (statics : Known) → Item → Type 0
ItemFits statics (StaticItem s) = Unit {0}
ItemFits statics (FunctionItem f) = AreStatics statics × FunctionFits statics f × IsTrue (block_returns f.body)
    × (length (function_code statics f) ≡ function_steps f + 1)

-- the statics and the codes after an item, where these were there before it
abbrev pub IsItemDone : (statics : Known) → List Listing → Item → (after : Known) → List Listing → Type 0
IsItemDone statics codes (StaticItem s) after done = (after ≡ with_static s statics) × (done ≡ codes)
IsItemDone statics codes (FunctionItem f) after done = (after ≡ statics)
    × ((code : Listing) × (done ≡ codes ++ code ∷ []) × (code ≡ listing_of statics f) × IsCodeOf statics f code)
