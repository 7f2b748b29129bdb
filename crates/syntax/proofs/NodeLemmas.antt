-- Which trees nodes spell: as many nodes as a tree has, one after another.
use Rattle.std.proofs.Common.{◌≡◌, Bool, true, false, if◌then◌else◌, ℕ, ◌+◌, ◌-◌, ◌≤◌, ◌<◌, List, [], ◌∷◌, ◌++◌, length, refl, sym, ap, ap₂, ◌∙◌, subst, arith, append_assoc, length-append, take, drop, take-append-drop, length-drop, get_or, Result, Ok, Err}
use Rattle.std.specs.List.{sum_by}
use Rattle.std.proofs.Math.Logic.{∥∥₁_elim, ∥∥₁_map}
use Rattle.std.proofs.Math.Nat.{ℕ_set}
use Rattle.std.proofs.Props.{props}
use Rattle.std.proofs.lemmas.List.{length-take-le}
use Rattle.std.specs.Prelude.{OnOk, OnErr}
use Rattle.std.proofs.lemmas.List.Sums.{sum_by-cons}
use Rattle.base.specs.Bytes.{Identifier}
use Rattle.syntax.specs.declared.node.Node.{Node}
use Rattle.syntax.specs.declared.node.Node.TheVariants as node
use Rattle.syntax.specs.declared.expr.Constant.{Constant}
use Rattle.syntax.specs.declared.expr.PrefixOp.{PrefixOp}
use Rattle.syntax.specs.declared.expr.BinaryOp.{BinaryOp}
use Rattle.syntax.specs.Nodes.{size, top, before_top, onto, HasOperands, trees_after, tree_of, Spells, number, named, variable, element, prefix, binary, paren, IsWhole, SpellAll, none, more, AreWhole}
use Rattle.syntax.specs.Tree.{Expr, Expr-set, Number, Named, Variable, Element, Prefix, Binary, Paren}

-- ---- postfix notation

pub after_both : (before : List Expr) (xs ys : List Node) → trees_after before (xs ++ ys) ≡ trees_after (trees_after before xs) ys
unfolding trees_after
after_both before [] ys = refl
after_both before (x ∷ xs) ys = after_both (onto before x) xs ys

pub after_one : (before : List Expr) (xs : List Node) (n : Node) → trees_after before (xs ++ n ∷ []) ≡ onto (trees_after before xs) n
unfolding trees_after
after_one before xs n = after_both before xs (n ∷ [])

-- nodes that spell a tree put it on those before
pub spelled : {nodes : List Node} {e : Expr} → Spells nodes e → (before : List Expr) → trees_after before nodes ≡ e ∷ before
unfolding trees_after
spelled (number value unsigned) before = refl
spelled (named c) before = refl
spelled (variable x) before = refl
spelled (element x own i h) before = after_one before own (node.Element x) ∙ ap (λ (es : List Expr). onto es (node.Element x)) (spelled h before)
spelled (prefix op own a h) before = after_one before own (node.Prefix op) ∙ ap (λ (es : List Expr). onto es (node.Prefix op)) (spelled h before)
spelled (paren own a h) before = after_one before own node.Paren ∙ ap (λ (es : List Expr). onto es node.Paren) (spelled h before)
spelled (binary op left right a b h k) before =
    after_one before (left ++ right) (node.Binary op (length right))
    ∙ ap (λ (es : List Expr). onto es (node.Binary op (length right))) (after_both before left right ∙ ap (λ (es : List Expr). trees_after es right) (spelled h before) ∙ spelled k (a ∷ before))

pub tree_is : {nodes : List Node} {e : Expr} → Spells nodes e → tree_of nodes ≡ e
tree_is h = ap top (spelled h [])

pub is_whole : {nodes : List Node} {e : Expr} → Spells nodes e → IsWhole nodes
is_whole {nodes} {e} h = subst (λ (t : Expr). Spells nodes t) (sym (tree_is h)) h

some_size : (e : Expr) → 1 ≤ size e
unfolding size
some_size (Number value unsigned) = omega arith
some_size (Named c) = omega arith
some_size (Variable x) = omega arith
some_size (Element x i) = omega arith
some_size (Prefix op a) = omega arith
some_size (Binary op a b) = omega arith
some_size (Paren a) = omega arith

-- there are as many nodes as the tree has
pub spelled_size : {nodes : List Node} {e : Expr} → Spells nodes e → length nodes ≡ size e
unfolding size
spelled_size (number value unsigned) = refl
spelled_size (named c) = refl
spelled_size (variable x) = refl
spelled_size (element x own i h) = omega (arith, length-append own (node.Element x ∷ []), spelled_size h)
spelled_size (prefix op own a h) = omega (arith, length-append own (node.Prefix op ∷ []), spelled_size h)
spelled_size (paren own a h) = omega (arith, length-append own (node.Paren ∷ []), spelled_size h)
spelled_size (binary op left right a b h k) =
    omega (arith, length-append (left ++ right) (node.Binary op (length right) ∷ []), length-append left right, spelled_size h, spelled_size k)

-- ---- trees one after another

pub all_spelled : {nodes : List Node} {trees : List Expr} → SpellAll nodes trees → trees_after [] nodes ≡ trees
unfolding trees_after
all_spelled none = refl
all_spelled (more before own trees e h k) = after_both [] before own ∙ ap (λ (es : List Expr). trees_after es own) (all_spelled h) ∙ spelled k trees

pub all_whole : {nodes : List Node} {trees : List Expr} → SpellAll nodes trees → AreWhole nodes
all_whole {nodes} {trees} h = subst (λ (es : List Expr). SpellAll nodes es) (sym (all_spelled h)) h

pub all_size : {nodes : List Node} {trees : List Expr} → SpellAll nodes trees → length nodes ≡ sum_by size trees
all_size none = refl
all_size (more before own trees e h k) = omega (arith, length-append before own, all_size h, spelled_size k, sum_by-cons size e trees)

-- what a node at the end of the last tree makes of it
at_end : (nodes : List Node) (trees : List Expr) (n : Node) (a e : Expr) → ((own : List Node) → Spells own a → Spells (own ++ n ∷ []) e) → SpellAll nodes (a ∷ trees) → SpellAll (nodes ++ n ∷ []) (e ∷ trees)
at_end nodes trees n a e f (more before own _ _ h k) =
    subst (λ (ns : List Node). SpellAll ns (e ∷ trees)) (sym (append_assoc before own (n ∷ []))) (more before (own ++ n ∷ []) trees e h (f own k))

-- a node that finds its operands keeps them so
pub grown : (nodes : List Node) (trees : List Expr) (n : Node) → SpellAll nodes trees → HasOperands trees n → SpellAll (nodes ++ n ∷ []) (onto trees n)
grown nodes trees (node.Number value unsigned) h fits = more nodes (node.Number value unsigned ∷ []) trees (Number value unsigned) h (number value unsigned)
grown nodes trees (node.Named c) h fits = more nodes (node.Named c ∷ []) trees (Named c) h (named c)
grown nodes trees (node.Variable x) h fits = more nodes (node.Variable x ∷ []) trees (Variable x) h (variable x)
grown nodes [] (node.Element x) h fits = absurd (omega arith)
grown nodes (a ∷ trees) (node.Element x) h fits = at_end nodes trees (node.Element x) a (Element x a) (λ own k. element x own a k) h
grown nodes [] (node.Prefix op) h fits = absurd (omega arith)
grown nodes (a ∷ trees) (node.Prefix op) h fits = at_end nodes trees (node.Prefix op) a (Prefix op a) (λ own k. prefix op own a k) h
grown nodes [] node.Paren h fits = absurd (omega arith)
grown nodes (a ∷ trees) node.Paren h fits = at_end nodes trees node.Paren a (Paren a) (λ own k. paren own a k) h
grown nodes [] (node.Binary op right) h fits = absurd (omega (arith, fits.0))
grown nodes (b ∷ []) (node.Binary op right) h fits = absurd (omega (arith, fits.0))
grown nodes (b ∷ a ∷ trees) (node.Binary op right) h fits = joined h fits.1
  where
    joined : {ns : List Node} → SpellAll ns (b ∷ a ∷ trees) → right ≡ size b → SpellAll (ns ++ node.Binary op right ∷ []) (Binary op a b ∷ trees)
    joined (more both own_b _ _ h k) e = joined_after h k e
      where
        joined_after : {both own_b : List Node} → SpellAll both (a ∷ trees) → Spells own_b b → right ≡ size b → SpellAll ((both ++ own_b) ++ node.Binary op right ∷ []) (Binary op a b ∷ trees)
        joined_after {both} {own_b} (more before own_a _ _ h j) k e =
            let count : right ≡ length own_b = e ∙ sym (spelled_size k) in
            let whole = more before ((own_a ++ own_b) ++ node.Binary op (length own_b) ∷ []) trees (Binary op a b) h (binary op own_a own_b a b j k) in
            subst (λ (ns : List Node). SpellAll ns (Binary op a b ∷ trees)) (rw (count, append_assoc, append_assoc, append_assoc) refl) whole

-- where memory is refused the nodes stay
pub kept_whole : (ok : Bool) (old new : List Node) (n : Node) → new ≡ (if ok then old ++ n ∷ [] else old) → HasOperands (trees_after [] old) n → AreWhole old → AreWhole new
kept_whole true old new n e fits h = subst AreWhole (sym e) (all_whole (grown old (trees_after [] old) n h fits))
kept_whole false old new n e fits h = subst AreWhole (sym e) h

-- ---- what lies before the last node

last_same : (xs ys : List Node) (x y : Node) → xs ++ x ∷ [] ≡ ys ++ y ∷ [] → (xs ≡ ys) × (x ≡ y)
last_same [] [] x y e = (refl, cc)
last_same [] (z ∷ ys) x y e = absurd (omega (arith, ap length e, length-append ys (y ∷ [])))
last_same (z ∷ xs) [] x y e = absurd (omega (arith, ap length e, length-append xs (x ∷ [])))
last_same (z ∷ xs) (w ∷ ys) x y e =
    let first : z ≡ w = cc in
    let rest : xs ++ x ∷ [] ≡ ys ++ y ∷ [] = cc in
    let h = last_same xs ys x y rest in
    (ap₂ ◌∷◌ first h.0, h.1)

-- what a node has before it, where both spell a tree
Inside : List Node → Node → Expr → Type 0
Inside before (node.Number value unsigned) e = e ≡ Number value unsigned
Inside before (node.Named c) e = e ≡ Named c
Inside before (node.Variable x) e = e ≡ Variable x
Inside before (node.Element x) e = (i : Expr) × Spells before i × (e ≡ Element x i)
Inside before (node.Prefix op) e = (a : Expr) × Spells before a × (e ≡ Prefix op a)
Inside before (node.Binary op n) e =
    (left : List Node) × (right : List Node) × (a : Expr) × (b : Expr) × (before ≡ left ++ right) × (n ≡ length right) × Spells left a × Spells right b × (e ≡ Binary op a b)
Inside before node.Paren e = (a : Expr) × Spells before a × (e ≡ Paren a)

inside_same : (before other : List Node) (n m : Node) (e : Expr) → Inside other m e → other ++ m ∷ [] ≡ before ++ n ∷ [] → Inside before n e
inside_same before other n m e h same =
    let both = last_same other before m n same in
    subst (λ (p : List Node × Node). Inside p.0 p.1 e) (ap₂ (λ (xs : List Node) (x : Node). (xs, x)) both.0 both.1) h

inside : {nodes : List Node} {e : Expr} → Spells nodes e → (before : List Node) (n : Node) → nodes ≡ before ++ n ∷ [] → Inside before n e
unfolding Inside
inside (number value unsigned) before n same = inside_same before [] n (node.Number value unsigned) (Number value unsigned) refl same
inside (named c) before n same = inside_same before [] n (node.Named c) (Named c) refl same
inside (variable x) before n same = inside_same before [] n (node.Variable x) (Variable x) refl same
inside (element x own i h) before n same = inside_same before own n (node.Element x) (Element x i) (i, h, refl) same
inside (prefix op own a h) before n same = inside_same before own n (node.Prefix op) (Prefix op a) (a, h, refl) same
inside (paren own a h) before n same = inside_same before own n node.Paren (Paren a) (a, h, refl) same
inside (binary op left right a b h k) before n same =
    inside_same before (left ++ right) n (node.Binary op (length right)) (Binary op a b) (left, right, a, b, refl, refl, h, k, refl) same

names_set : IsSet Identifier
names_set = Prim.hlevel props

constants_set : IsSet Constant
constants_set = Prim.hlevel props

prefixes_set : IsSet PrefixOp
prefixes_set = Prim.hlevel props

operators_set : IsSet BinaryOp
operators_set = Prim.hlevel props

trees_set : IsSet Expr
trees_set = Prim.hlevel (props, Expr-set, names_set, constants_set, prefixes_set, operators_set)

list_set : IsSet (List Expr)
list_set = Prim.hlevel (props, trees_set)

-- lists whose first parts are as long have the same parts
same_parts : (a b c d : List Node) → a ++ b ≡ c ++ d → length a ≡ length c → (a ≡ c) × (b ≡ d)
same_parts [] b [] d e n = (refl, e)
same_parts [] b (z ∷ c) d e n = absurd (omega arith)
same_parts (y ∷ a) b [] d e n = absurd (omega arith)
same_parts (y ∷ a) b (z ∷ c) d e n =
    let first : y ≡ z = cc in
    let rest : a ++ b ≡ c ++ d = cc in
    let h = same_parts a b c d rest (omega arith) in
    (ap₂ ◌∷◌ first h.0, h.1)

-- the same from the back
same_ends : (a b c d : List Node) → a ++ b ≡ c ++ d → length b ≡ length d → (a ≡ c) × (b ≡ d)
same_ends a b c d e n = same_parts a b c d e (omega (arith, ap length e, length-append a b, length-append c d))

module _ (nodes before : List Node) (n : Node) (same : nodes ≡ before ++ n ∷ []) (whole : ∥ IsWhole nodes ∥₁) where
  -- a node that stands alone
  pub alone_number : (value : ℕ) (unsigned : Bool) → n ≡ node.Number value unsigned → Number value unsigned ≡ tree_of nodes
  unfolding Inside
  alone_number value unsigned e = ∥∥₁_elim whole (trees_set _ _) (λ h. sym (subst (λ (m : Node). Inside before m (tree_of nodes)) e (inside h before n same)))

  pub alone_named : (c : Constant) → n ≡ node.Named c → Named c ≡ tree_of nodes
  unfolding Inside
  alone_named c e = ∥∥₁_elim whole (trees_set _ _) (λ h. sym (subst (λ (m : Node). Inside before m (tree_of nodes)) e (inside h before n same)))

  pub alone_variable : (x : Identifier) → n ≡ node.Variable x → Variable x ≡ tree_of nodes
  unfolding Inside
  alone_variable x e = ∥∥₁_elim whole (trees_set _ _) (λ h. sym (subst (λ (m : Node). Inside before m (tree_of nodes)) e (inside h before n same)))

  -- one with an operand
  one_whole : (f : Expr → Expr) → ((e : Expr) → Inside before n e → (a : Expr) × Spells before a × (e ≡ f a)) → ∥ IsWhole before ∥₁
  one_whole f parts = ∥∥₁_map whole (λ h. is_whole (parts (tree_of nodes) (inside h before n same)).1)

  one_tree : (f : Expr → Expr) → ((e : Expr) → Inside before n e → (a : Expr) × Spells before a × (e ≡ f a)) → f (tree_of before) ≡ tree_of nodes
  one_tree f parts =
      ∥∥₁_elim whole (trees_set _ _) (λ h. let p = parts (tree_of nodes) (inside h before n same) in ap f (tree_is p.1) ∙ sym p.2)

  element_parts : (x : Identifier) → n ≡ node.Element x → (e : Expr) → Inside before n e → (i : Expr) × Spells before i × (e ≡ Element x i)
  unfolding Inside
  element_parts x e t h = subst (λ (m : Node). Inside before m t) e h

  prefix_parts : (op : PrefixOp) → n ≡ node.Prefix op → (e : Expr) → Inside before n e → (a : Expr) × Spells before a × (e ≡ Prefix op a)
  unfolding Inside
  prefix_parts op e t h = subst (λ (m : Node). Inside before m t) e h

  paren_parts : n ≡ node.Paren → (e : Expr) → Inside before n e → (a : Expr) × Spells before a × (e ≡ Paren a)
  unfolding Inside
  paren_parts e t h = subst (λ (m : Node). Inside before m t) e h

  pub element_whole : (x : Identifier) → n ≡ node.Element x → ∥ IsWhole before ∥₁
  element_whole x e = one_whole (Element x) (element_parts x e)

  pub element_tree : (x : Identifier) → n ≡ node.Element x → Element x (tree_of before) ≡ tree_of nodes
  element_tree x e = one_tree (Element x) (element_parts x e)

  pub prefix_whole : (op : PrefixOp) → n ≡ node.Prefix op → ∥ IsWhole before ∥₁
  prefix_whole op e = one_whole (Prefix op) (prefix_parts op e)

  pub prefix_tree_is : (op : PrefixOp) → n ≡ node.Prefix op → Prefix op (tree_of before) ≡ tree_of nodes
  prefix_tree_is op e = one_tree (Prefix op) (prefix_parts op e)

  pub paren_whole : n ≡ node.Paren → ∥ IsWhole before ∥₁
  paren_whole e = one_whole Paren (paren_parts e)

  pub paren_tree : n ≡ node.Paren → Paren (tree_of before) ≡ tree_of nodes
  paren_tree e = one_tree Paren (paren_parts e)

  -- one with two: the nodes of the right one are as many as it says
  two_parts : (op : BinaryOp) (m : ℕ) → n ≡ node.Binary op m → (e : Expr) → Inside before n e
      → (left : List Node) × (right : List Node) × (a : Expr) × (b : Expr) × (before ≡ left ++ right) × (m ≡ length right) × Spells left a × Spells right b × (e ≡ Binary op a b)
  unfolding Inside
  two_parts op m e t h = subst (λ (k : Node). Inside before k t) e h

  pub two_within : (op : BinaryOp) (m : ℕ) → n ≡ node.Binary op m → m ≤ length before
  two_within op m e =
      let none : m - length before ≡ 0 = ∥∥₁_elim whole (ℕ_set _ _) (λ h. let p = two_parts op m e (tree_of nodes) (inside h before n same) in
      omega (arith, p.5, ap length p.4, length-append p.0 p.1)) in
      omega arith

  -- what is left and right of the place that it names
  module _ (op : BinaryOp) (m : ℕ) (e : n ≡ node.Binary op m) (left right : List Node) (both : before ≡ left ++ right) (count : length right ≡ m) where
    parted : (own_left own_right : List Node) → before ≡ own_left ++ own_right → m ≡ length own_right → (own_left ≡ left) × (own_right ≡ right)
    parted own_left own_right b c = same_ends own_left own_right left right (sym b ∙ both) (sym c ∙ sym count)

    pub left_whole : ∥ IsWhole left ∥₁
    left_whole = ∥∥₁_map whole (λ h. let p = two_parts op m e (tree_of nodes) (inside h before n same) in subst IsWhole (parted p.0 p.1 p.4 p.5).0 (is_whole p.6))

    pub right_whole : ∥ IsWhole right ∥₁
    right_whole = ∥∥₁_map whole (λ h. let p = two_parts op m e (tree_of nodes) (inside h before n same) in subst IsWhole (parted p.0 p.1 p.4 p.5).1 (is_whole p.7))

    pub two_tree : Binary op (tree_of left) (tree_of right) ≡ tree_of nodes
    two_tree =
        ∥∥₁_elim whole (trees_set _ _) (λ h. let p = two_parts op m e (tree_of nodes) (inside h before n same) in
        let q = parted p.0 p.1 p.4 p.5 in
        ap₂ (Binary op) (ap tree_of (sym q.0) ∙ tree_is p.6) (ap tree_of (sym q.1) ∙ tree_is p.7) ∙ sym p.8)

pub parts : (k : ℕ) {xs front back : List Node} → front ≡ take k xs → back ≡ drop k xs → xs ≡ front ++ back
parts k {xs} {front} {back} a b = sym (take-append-drop k xs) ∙ ap₂ ◌++◌ (sym a) (sym b)

-- an expression has a node
pub some_node : (nodes : List Node) → ∥ IsWhole nodes ∥₁ → 1 ≤ length nodes
some_node nodes whole =
    let none : 1 - length nodes ≡ 0 = ∥∥₁_elim whole (ℕ_set _ _) (λ h. omega (arith, spelled_size h, some_size (tree_of nodes))) in
    omega arith

-- the nodes but the last, and the last
pub last_node : (nodes before end : List Node) (n : Node) (k : ℕ) → before ≡ take k nodes → end ≡ drop k nodes → length end ≡ 1 → n ≡ get_or end 0 n → nodes ≡ before ++ n ∷ []
last_node nodes before [] n k b d one e = absurd (omega arith)
last_node nodes before (m ∷ []) n k b d one e = sym (take-append-drop k nodes) ∙ ap₂ ◌++◌ (sym b) (sym d ∙ ap (λ (x : Node). x ∷ []) (sym e))
last_node nodes before (m ∷ l ∷ end) n k b d one e = absurd (omega arith)

pub cut_last : (nodes before end : List Node) (n : Node) → ∥ IsWhole nodes ∥₁ → before ≡ take (length nodes - 1) nodes → end ≡ drop (length nodes - 1) nodes → n ≡ get_or end 0 n → nodes ≡ before ++ n ∷ []
cut_last nodes before end n whole b d e =
    let some : 1 ≤ length nodes = some_node nodes whole in
    last_node nodes before end n (length nodes - 1) b d (omega (arith, ap length d, length-drop (length nodes - 1) nodes)) e

-- ---- the trees of a stack

pub stack_size : (nodes : List Node) → ∥ AreWhole nodes ∥₁ → length nodes ≡ sum_by size (trees_after [] nodes)
stack_size nodes whole = ∥∥₁_elim whole (ℕ_set _ _) all_size

pub top_size : (trees : List Expr) → 1 ≤ length trees → sum_by size trees ≡ size (top trees) + sum_by size (before_top trees)
top_size [] some = absurd (omega arith)
top_size (e ∷ trees) some = sum_by-cons size e trees

-- where as many nodes are taken off as the last tree has, the others are left, and it is spelled by those
taken : (nodes front back : List Node) (trees : List Expr) → nodes ≡ front ++ back → 1 ≤ length trees → length front ≡ sum_by size (before_top trees) → SpellAll nodes trees
    → SpellAll front (before_top trees) × Spells back (top trees)
taken nodes front back trees both some count none = absurd (omega arith)
taken nodes front back trees both some count (more before own rest e h k) =
    let q = same_parts before own front back both (all_size h ∙ sym count) in
    (subst (λ (ns : List Node). SpellAll ns rest) q.0 h, subst (λ (ns : List Node). Spells ns e) q.1 k)

module _ (nodes front back : List Node) (both : nodes ≡ front ++ back) (some : 1 ≤ length (trees_after [] nodes)) (count : length front ≡ sum_by size (before_top (trees_after [] nodes)))
    (whole : ∥ AreWhole nodes ∥₁) where
  pub front_whole : ∥ AreWhole front ∥₁
  front_whole = ∥∥₁_map whole (λ h. all_whole (taken nodes front back (trees_after [] nodes) both some count h).0)

  pub back_whole : ∥ IsWhole back ∥₁
  back_whole = ∥∥₁_map whole (λ h. is_whole (taken nodes front back (trees_after [] nodes) both some count h).1)

  pub front_trees : trees_after [] front ≡ before_top (trees_after [] nodes)
  front_trees = ∥∥₁_elim whole (list_set _ _) (λ h. all_spelled (taken nodes front back (trees_after [] nodes) both some count h).0)

  pub back_tree : tree_of back ≡ top (trees_after [] nodes)
  back_tree = ∥∥₁_elim whole (trees_set _ _) (λ h. tree_is (taken nodes front back (trees_after [] nodes) both some count h).1)

-- what is inside is smaller
below : (a t : Expr) (n : ℕ) → size t ≡ 1 + n → size a ≤ n → size a < size t
below a t n whole le = omega arith

pub element_below : (x : Identifier) (a t : Expr) → Element x a ≡ t → size a < size t
unfolding size
element_below x a t e = below a t (size a) (sym (ap size e)) (omega arith)

pub prefix_below : (op : PrefixOp) (a t : Expr) → Prefix op a ≡ t → size a < size t
unfolding size
prefix_below op a t e = below a t (size a) (sym (ap size e)) (omega arith)

pub paren_below : (a t : Expr) → Paren a ≡ t → size a < size t
unfolding size
paren_below a t e = below a t (size a) (sym (ap size e)) (omega arith)

pub two_below : (op : BinaryOp) (a b t : Expr) → Binary op a b ≡ t → (size a < size t) × (size b < size t)
unfolding size
two_below op a b t e =
    let whole : 1 + size a + size b ≡ size t = ap size e in
    (omega arith, omega arith)

-- a stack that is cut where its last tree begins
module _ (nodes : List Node) (start : ℕ) (some : 1 ≤ length (trees_after [] nodes)) (count : start ≡ sum_by size (before_top (trees_after [] nodes))) (whole : ∥ AreWhole nodes ∥₁) where
  pub start_within : start ≤ length nodes
  start_within = omega (arith, stack_size nodes whole, top_size (trees_after [] nodes) some)

  cut_count : length (take start nodes) ≡ sum_by size (before_top (trees_after [] nodes))
  cut_count = length-take-le start nodes start_within ∙ count

  pub cut_whole : ∥ AreWhole (take start nodes) ∥₁
  cut_whole = front_whole nodes (take start nodes) (drop start nodes) (sym (take-append-drop start nodes)) some cut_count whole

  pub cut_trees : trees_after [] (take start nodes) ≡ before_top (trees_after [] nodes)
  cut_trees = front_trees nodes (take start nodes) (drop start nodes) (sym (take-append-drop start nodes)) some cut_count whole

  pub rest_whole : ∥ IsWhole (drop start nodes) ∥₁
  rest_whole = back_whole nodes (take start nodes) (drop start nodes) (sym (take-append-drop start nodes)) some cut_count whole

  pub rest_tree : tree_of (drop start nodes) ≡ top (trees_after [] nodes)
  rest_tree = back_tree nodes (take start nodes) (drop start nodes) (sym (take-append-drop start nodes)) some cut_count whole

  -- where memory is refused nothing is cut
  pub split_whole : {A E V : Type 0} (items : V → List Node) (r : Result A E) (old new : V) → items old ≡ nodes → OnOk r (items new ≡ take start (items old)) → OnErr r (new ≡ old) → ∥ AreWhole (items new) ∥₁
  split_whole items (Ok x) old new same ok err = subst (λ (ns : List Node). ∥ AreWhole ns ∥₁) (sym (ok ∙ ap (take start) same)) cut_whole
  split_whole items (Err e) old new same ok err = subst (λ (ns : List Node). ∥ AreWhole ns ∥₁) (sym (ap items err ∙ same)) whole

  -- the last tree has one node, where no more are left
  pub one_left : ¬ (1 < length nodes - start) → length nodes ≡ start + 1
  one_left few = omega (arith, stack_size nodes whole, top_size (trees_after [] nodes) some, some_size (top (trees_after [] nodes)))
