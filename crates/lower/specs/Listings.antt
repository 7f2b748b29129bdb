-- Which code each function of a unit becomes.
use Rattle.std.specs.Prelude.{List, [], ◌∷◌}
use Rattle.syntax.specs.Tree.{Function, Item, StaticItem, FunctionItem}
use Rattle.code.specs.Depth.{Listing}
use Rattle.code_meaning.specs.Layout.{Known, with_static, function_slots}
use Rattle.code_meaning.specs.Coding.{function_code}

-- the code of a function with its slots, after these statics
abbrev pub listing_of : (statics : Known) → Function → Listing
listing_of statics f = record { instrs = function_code statics f; slots = function_slots statics f }

-- the codes of the functions of these items in their order, after the statics so far
abbrev pub listings_of : (statics : Known) → List Item → List Listing
listings_of statics [] = []
listings_of statics (StaticItem s ∷ items) = listings_of (with_static s statics) items
listings_of statics (FunctionItem f ∷ items) = listing_of statics f ∷ listings_of statics items
