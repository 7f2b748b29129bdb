-- A table in which one function more is found.
use Rattle.std.proofs.Common.{◌≡◌, ℕ, suc, ◌+◌, ◌<◌, Bool, true, false, cond, List, [], ◌∷◌, ◌++◌, length, length-append, take, get_or, Option, Some, None, is_some, refl, sym, ap, ◌∙◌, arith, Bor}
use Rattle.std.proofs.Math.Seq.{take-suc}
use Rattle.std.proofs.lemmas.Map.Text.{hash_map_updates_str}
use Rattle.std.proofs.lemmas.Slice.Eq.{bytes_eq-Decides}
use Rattle.std.specs.HashMap.{HashMap, UpdatesBy, get_by}
use Rattle.std.specs.Option.{option_map}
use Rattle.std.specs.Str.{bytes_eq}
use Rattle.base.specs.Bytes.{Identifier}
use Rattle.syntax.specs.declared.unit.Item.{Item}
use Rattle.syntax.specs.declared.unit.Function.{Function as FunctionInMemory}
use Rattle.syntax.specs.declared.unit.Static.{Static}
use Rattle.syntax.specs.declared.unit.Item.TheVariants as item
use Rattle.syntax.specs.Parts.{functions_of}
use Rattle.syntax.specs.Tree.{Function}
use Rattle.syntax.specs.Views.{unit_tree, function_tree}
use Rattle.functions.specs.declared.functions.NumberedFunction.{NumberedFunction}
use Rattle.functions.specs.Numbers.{FindsAll, first_named, numbered_view}

abbrev Table : Type 0 → Type 0
Table S = HashMap (Bor Identifier) NumberedFunction S

-- one table is the other with this function at a name
abbrev Puts : {S : Type 0} → Table S → Table S → Identifier → NumberedFunction → Type 0
Puts old new x n = UpdatesBy (λ a b. bytes_eq a.now b.now) (λ key. bytes_eq x key.now) old new (Some n)

-- what was found, or else the last where it has the name
abbrev or_last : Option (ℕ × Function) → Bool → ℕ × Function → Option (ℕ × Function)
or_last (Some p) b q = Some p
or_last None b q = cond b (Some q) None

first_more : (n : ℕ) (fs : List Function) (f : Function) (x : Identifier) → first_named n (fs ++ f ∷ []) x ≡ or_last (first_named n fs x) (bytes_eq f.name x) (n + length fs, f)
first_more n [] f x = let e : n ≡ n + 0 = omega arith in ap (λ m. cond (bytes_eq f.name x) (Some (m, f)) None) e
first_more n (g ∷ fs) f x = by_name (bytes_eq g.name x) (first_more (n + 1) fs f x)
  where
    by_name : (b : Bool) → first_named (n + 1) (fs ++ f ∷ []) x ≡ or_last (first_named (n + 1) fs x) (bytes_eq f.name x) ((n + 1) + length fs, f)
        → cond b (Some (n, g)) (first_named (n + 1) (fs ++ f ∷ []) x) ≡ or_last (cond b (Some (n, g)) (first_named (n + 1) fs x)) (bytes_eq f.name x) (n + suc (length fs), f)
    by_name true h = refl
    by_name false h = let e : (n + 1) + length fs ≡ n + suc (length fs) = omega arith in h ∙ ap (λ m. or_last (first_named (n + 1) fs x) (bytes_eq f.name x) (m, f)) e

with_last : (fs : List Function) (f : Function) (x : Identifier) → first_named 0 (fs ++ f ∷ []) x ≡ or_last (first_named 0 fs x) (bytes_eq f.name x) (length fs, f)
with_last fs f x = let e : 0 + length fs ≡ length fs = omega arith in first_more 0 fs f x ∙ ap (λ m. or_last (first_named 0 fs x) (bytes_eq f.name x) (m, f)) e

still : (o : Option NumberedFunction) → is_some (option_map numbered_view o) ≡ is_some o
still None = refl
still (Some n) = refl

nothing : (o : Option NumberedFunction) → is_some o ≡ false → option_map numbered_view o ≡ None
nothing None h = refl
nothing (Some n) h = absurd (cc)

module _ {S : Type 0} (fs : List Function) (f : Function) (old : Table S) (all : FindsAll 0 fs old) where
  -- of one name the first stays
  pub known : is_some (get_by (λ key. bytes_eq f.name key.now) old) ≡ true → FindsAll 0 (fs ++ f ∷ []) old
  known there x = all x ∙ kept (first_named 0 fs x) (bytes_eq f.name x) refl refl ∙ sym (with_last fs f x)
    where
      kept : (o : Option (ℕ × Function)) (b : Bool) → first_named 0 fs x ≡ o → bytes_eq f.name x ≡ b → o ≡ or_last o b (length fs, f)
      kept (Some p) b e same = refl
      kept None false e same = refl
      kept None true e same =
          let is : f.name ≡ x = (bytes_eq-Decides f.name x).0 same in
          let none : first_named 0 fs f.name ≡ None = ap (first_named 0 fs) is ∙ e in
          let not_there : is_some (get_by (λ key. bytes_eq f.name key.now) old) ≡ false = sym (still (get_by (λ key. bytes_eq f.name key.now) old)) ∙ ap is_some (all f.name ∙ none) in
          absurd (cc)

  -- and one of another name is found
  pub one_more : (n : NumberedFunction) (new : Table S) (name : Identifier) → name ≡ f.name → n.number ≡ length fs → function_tree n.function.now ≡ f → is_some (get_by (λ key. bytes_eq name key.now) old) ≡ false → Puts old new name n
      → FindsAll 0 (fs ++ f ∷ []) new
  one_more n new name named number is none puts x =
      ap (option_map numbered_view) (hash_map_updates_str name old new (Some n) puts x)
      ∙ by_name (bytes_eq name x) refl
      ∙ ap (λ b. or_last (first_named 0 fs x) b (length fs, f)) (ap (λ (y : Identifier). bytes_eq y x) named)
      ∙ sym (with_last fs f x)
    where
      other : (o : Option (ℕ × Function)) → o ≡ or_last o false (length fs, f)
      other None = refl
      other (Some p) = refl

      by_name : (b : Bool) → bytes_eq name x ≡ b → option_map numbered_view (cond b (Some n) (get_by (λ key. bytes_eq x key.now) old)) ≡ or_last (first_named 0 fs x) b (length fs, f)
      by_name true same =
          let e : name ≡ x = (bytes_eq-Decides name x).0 same in
          let new_name : first_named 0 fs x ≡ None = sym (all x) ∙ ap (λ (y : Identifier). option_map numbered_view (get_by (λ key. bytes_eq y key.now) old)) (sym e) ∙ nothing (get_by (λ key. bytes_eq name key.now) old) none in
          (λ i. Some (number i, is i)) ∙ sym (ap (λ (o : Option (ℕ × Function)). or_last o true (length fs, f)) new_name)
      by_name false different = all x ∙ other (first_named 0 fs x)

-- ---- the functions among items, with one item more

static_more : (items : List Item) (x : Static) → functions_of (unit_tree (items ++ item.Static x ∷ [])) ≡ functions_of (unit_tree items)
static_more [] x = refl
static_more (item.Static y ∷ items) x = static_more items x
static_more (item.Function g ∷ items) x = ap (λ fs. function_tree g ∷ fs) (static_more items x)

function_more : (items : List Item) (f : FunctionInMemory) → functions_of (unit_tree (items ++ item.Function f ∷ [])) ≡ functions_of (unit_tree items) ++ function_tree f ∷ []
function_more [] f = refl
function_more (item.Static y ∷ items) f = function_more items f
function_more (item.Function g ∷ items) f = ap (λ fs. function_tree g ∷ fs) (function_more items f)

next_item : (items : List Item) (i : ℕ) (x y : Item) → i < length items → x ≡ get_or items i x → x ≡ y → take (i + 1) items ≡ take i items ++ y ∷ []
next_item items i x y below at is =
    let e : i + 1 ≡ suc i = omega arith in
    ap (λ n. take n items) e ∙ take-suc items i x below ∙ ap (λ z. take i items ++ z ∷ []) (sym at ∙ is)

-- the functions among the first items, with the item at a place
pub static_next : (items : List Item) (i : ℕ) (x : Item) (s : Static) → i < length items → x ≡ get_or items i x → x ≡ item.Static s → functions_of (unit_tree (take (i + 1) items)) ≡ functions_of (unit_tree (take i items))
static_next items i x s below at is = ap (λ l. functions_of (unit_tree l)) (next_item items i x (item.Static s) below at is) ∙ static_more (take i items) s

pub function_next : (items : List Item) (i : ℕ) (x : Item) (f : FunctionInMemory) → i < length items → x ≡ get_or items i x → x ≡ item.Function f → functions_of (unit_tree (take (i + 1) items)) ≡ functions_of (unit_tree (take i items)) ++ function_tree f ∷ []
function_next items i x f below at is = ap (λ l. functions_of (unit_tree l)) (next_item items i x (item.Function f) below at is) ∙ function_more (take i items) f

pub function_counted : (items : List Item) (i : ℕ) (x : Item) (f : FunctionInMemory) → i < length items → x ≡ get_or items i x → x ≡ item.Function f → length (functions_of (unit_tree (take (i + 1) items))) ≡ length (functions_of (unit_tree (take i items))) + 1
function_counted items i x f below at is = ap (λ fs. length fs) (function_next items i x f below at is) ∙ length-append (functions_of (unit_tree (take i items))) (function_tree f ∷ [])
