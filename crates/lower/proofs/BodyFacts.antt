-- The body of an accepted function fits.
use Rattle.std.proofs.Common.{◌≡◌, ◌≤◌, Bool, true, false, not, ◌&&◌, List, ◌∷◌, ◌++◌, Some, map, refl, sym, ap, ◌∙◌, subst, arith, None}
use Rattle.std.specs.Cmp.{first_so, second_so}
use Rattle.std.specs.List.{list_all}
use Rattle.std.proofs.lemmas.List.Folds.{list_all-append}
use Rattle.base.specs.Bytes.{Identifier}
use Rattle.base.specs.declared.element.ElementType.TheVariants.{Char as JChar}
use Rattle.syntax.specs.Limits.{height, highest, numbers_in_range, statement_height, block_height, is_end, well_formed, block_well_formed}
use Rattle.syntax.specs.Parts.{statements_of, statements_inside, statements_within, call_of_right_side, own_call, right_side_expressions, own_expressions, names_declared}
use Rattle.syntax.specs.declared.declared_type.DeclaredType.{DeclaredType}
use Rattle.syntax.specs.declared.declared_type.DeclaredType.TheVariants.{Simple, Pointer, ConstChars}
use Rattle.syntax.specs.Tree as tree
use Rattle.syntax.specs.declared.declared_type.VariableType.TheVariants as variables
use Rattle.syntax.specs.declared.declared_type.VariableType.{VariableType}
use Rattle.syntax.specs.declared.unit.ResultType.{ResultType}
use Rattle.syntax.specs.Tree.{RightSide, FromExpr, FromCall, TestExpr, TestCall, Stmt, Block, End, Next}
use Rattle.type_rules.specs.declared.ty.ExprType.TheVariants.{Truth, Array}
use Rattle.jni.specs.declared.function.JniFunction.{JniFunction}
use Rattle.jni.specs.JniFunction.{prototype}
use Rattle.type_rules.specs.TypeRules.{is_droppable, is_push, may_be_dropped, variable_type, with_declared, places_within, places_of, declared_type}
use Rattle.code_meaning.specs.Layout.{Slot, Known, Layout, new_slot, closed, layout_after, block_layout}
use Rattle.code_meaning.specs.Fits.{StmtFits, BlockFits}
use Rattle.code_meaning.proofs.SlotLaws.{first_or_after}
use Rattle.lower.proofs.TypeFacts.{scope_of, HasNoTruth}
use Rattle.type_rules.proofs.PlaceLists.{AreUnbroken}
use Rattle.type_rules.proofs.KeptPlaces.{IsKept, own_kept, inside_kept, block_kept, paths_kept}
use Rattle.lower.proofs.NameFacts.{AreTaken, taken_more, taken_after}
use Rattle.lower.proofs.StatementFacts.{AreFine, are_fine, called_expressions, CallHolds, call_fits_name, right_fits, buffer_fits, assigned_fits, element_fits, jint_fits, truth_fits, tested_fits, returned_fits, size_fits}

-- ---- what holds of a statement and of a block

-- the numbers of the statements are in range
abbrev pub AreInRange : List Stmt → Type 0
AreInRange statements = list_all (λ s. list_all numbers_in_range (own_expressions s)) statements ≡ true

-- a statement of an accepted function, with what is known before it
pub record StmtHolds (l : Layout) (taken : List Identifier) (returns : ResultType) (s : Stmt) : Type 0 where
  pub well_typed : AreUnbroken (places_within returns (scope_of l.known) taken s)
  pub numbers : AreInRange (statements_within s)
  pub formed : well_formed s ≡ true
  pub low : statement_height s ≤ 31
  pub names : AreTaken taken l.known
  pub no_truth : HasNoTruth l.known

-- the same of the rest of a block
pub record BlockHolds (l : Layout) (taken : List Identifier) (returns : ResultType) (b : Block) : Type 0 where
  pub well_typed : AreUnbroken (places_of returns (scope_of l.known) taken b)
  pub numbers : AreInRange (statements_of b)
  pub formed : block_well_formed b ≡ true
  pub low : block_height b ≤ 32
  pub names : AreTaken taken l.known
  pub no_truth : HasNoTruth l.known

-- ---- one statement

first_in_range : (s : Stmt) → AreInRange (statements_within s) → list_all numbers_in_range (own_expressions s) ≡ true
first_in_range s h = first_so (list_all numbers_in_range (own_expressions s)) (list_all (λ s. list_all numbers_in_range (own_expressions s)) (statements_inside s)) h

inside_in_range : (s : Stmt) (inside : List Stmt) → AreInRange (s ∷ inside) → AreInRange inside
inside_in_range s inside h = second_so (list_all numbers_in_range (own_expressions s)) (list_all (λ s. list_all numbers_in_range (own_expressions s)) inside) h

both_in_range : (front back : List Stmt) → AreInRange (front ++ back) → AreInRange front × AreInRange back
both_in_range front back h =
    let p : Stmt → Bool = λ s. list_all numbers_in_range (own_expressions s) in
    let e : (list_all p front && list_all p back) ≡ true = sym (list_all-append p front back) ∙ h in
    (first_so (list_all p front) (list_all p back) e, second_so (list_all p front) (list_all p back) e)

own_low : (s : Stmt) → highest (map height (own_expressions s)) ≤ statement_height s
own_low (tree.If line test then' tree.NoElse) = omega arith
own_low (tree.If line test then' (tree.ElseBlock else')) = omega arith
own_low (tree.While line test body) = omega arith
own_low (tree.Plain line (tree.AssignElement x i e)) = omega arith
own_low s = omega arith

-- the arguments of a statement's call are among its expressions
right_fine : (r : RightSide) → AreFine (right_side_expressions r) → AreFine (called_expressions (call_of_right_side (Some r)))
right_fine (FromExpr e) h = tt
right_fine (FromCall c) h = h

called_fine : (s : Stmt) → AreFine (own_expressions s) → AreFine (called_expressions (own_call s))
called_fine (tree.Plain line (tree.Declare t x r)) h = right_fine r h
called_fine (tree.Plain line (tree.Assign x r)) h = right_fine r h
called_fine (tree.Plain line (tree.Perform c)) h = h
called_fine (tree.If line (TestExpr e) then' else') h = tt
called_fine (tree.If line (TestCall c) then' else') h = h
called_fine s h = tt

module _ (l : Layout) (taken : List Identifier) (returns : ResultType) where
  all_fine : (s : Stmt) → StmtHolds l taken returns s → AreFine (own_expressions s)
  all_fine s h =
      let few = own_low s in
      are_fine (own_expressions s) (first_in_range s h.numbers) (omega (arith, few, h.low))

  kept : (s : Stmt) → StmtHolds l taken returns s → IsKept (scope_of l.known) taken returns s
  kept s h = own_kept returns (scope_of l.known) taken s h.well_typed

  call_holds : (s : Stmt) → StmtHolds l taken returns s → CallHolds l.known (own_call s)
  call_holds s h = record { function = (kept s h).there; arguments = (kept s h).arguments; count = (kept s h).count; modes = (kept s h).modes; fine = called_fine s (all_fine s h) }

-- ---- after a statement

pub scope_after : (s : Stmt) (l : Layout) → with_declared (scope_of l.known) s ≡ scope_of (layout_after l s).known
scope_after (tree.Plain line (tree.Declare t x r)) l = refl
scope_after (tree.Plain line (tree.DeclareArray t x size)) l = refl
scope_after s l = refl

no_truth_first : (x : Identifier) (slot : Slot) (known : Known) → (slot.ty ≡ Truth → ⊥) → HasNoTruth known → HasNoTruth ((x, slot) ∷ known)
no_truth_first x slot known new h y s at e =
    first_or_after x y slot s known ⊥ (λ same is. new (ap (λ (t : Slot). t.ty) is ∙ e)) (λ other found. h y s found e) at

variable_no_truth : (t : VariableType) → variable_type t ≡ Truth → ⊥
variable_no_truth variables.Uint32 e = cc
variable_no_truth variables.Jint e = cc
variable_no_truth variables.Jsize e = cc
variable_no_truth variables.Jboolean e = cc
variable_no_truth variables.JfieldId e = cc
variable_no_truth variables.JmethodId e = cc
variable_no_truth (variables.Reference r) e = cc

declared_no_truth : (t : DeclaredType) → declared_type t ≡ Truth → ⊥
declared_no_truth (Simple t) e = variable_no_truth t e
declared_no_truth (Pointer t) e = cc
declared_no_truth ConstChars e = cc

no_truth_after : (s : Stmt) (l : Layout) → HasNoTruth l.known → HasNoTruth (layout_after l s).known
no_truth_after (tree.Plain line (tree.Declare t x r)) l h = no_truth_first x (new_slot (declared_type t) l) l.known (declared_no_truth t) h
no_truth_after (tree.Plain line (tree.DeclareArray t x size)) l h = no_truth_first x (new_slot (Array t size) l) l.known (λ e. let c : Array t size ≡ Truth = e in cc) h
no_truth_after s l h = h

end_formed : (b : Block) → is_end b ≡ true → block_well_formed b ≡ true
end_formed (End line) h = refl
end_formed (Next s rest) h = absurd (cc)

next_formed : (s : Stmt) (rest : Block) → block_well_formed (Next s rest) ≡ true → (well_formed s ≡ true) × (block_well_formed rest ≡ true)
next_formed (tree.Return line e) rest h = (refl, end_formed rest h)
next_formed (tree.If line test then' tree.NoElse) rest h = (first_so (block_well_formed then') (block_well_formed rest) h, second_so (block_well_formed then') (block_well_formed rest) h)
next_formed (tree.If line test then' (tree.ElseBlock else')) rest h =
    (first_so (block_well_formed then' && block_well_formed else') (block_well_formed rest) h, second_so (block_well_formed then' && block_well_formed else') (block_well_formed rest) h)
next_formed (tree.While line test body) rest h = (first_so (block_well_formed body) (block_well_formed rest) h, second_so (block_well_formed body) (block_well_formed rest) h)
next_formed s rest h = (first_so (well_formed s) (block_well_formed rest) h, second_so (well_formed s) (block_well_formed rest) h)

module _ (l : Layout) (taken : List Identifier) (returns : ResultType) (s : Stmt) (rest : Block) (h : BlockHolds l taken returns (Next s rest)) where
  first_holds : StmtHolds l taken returns s
  first_holds = record {
    well_typed = (block_kept returns (scope_of l.known) taken s rest h.well_typed).0;
    numbers = (both_in_range (statements_within s) (statements_of rest) h.numbers).0;
    formed = (next_formed s rest h.formed).0;
    low = omega (arith, h.low);
    names = h.names;
    no_truth = h.no_truth;
  }

  rest_holds : BlockHolds (layout_after l s) (taken ++ names_declared (statements_within s)) returns rest
  rest_holds = record {
    well_typed = subst (λ scope. AreUnbroken (places_of returns scope (taken ++ names_declared (statements_within s)) rest)) (scope_after s l) (block_kept returns (scope_of l.known) taken s rest h.well_typed).1;
    numbers = (both_in_range (statements_within s) (statements_of rest) h.numbers).1;
    formed = (next_formed s rest h.formed).1;
    low = omega (arith, h.low);
    names = taken_after s l taken h.names;
    no_truth = no_truth_after s l h.no_truth;
  }

-- what may be dropped
drops : (f : JniFunction) → may_be_dropped (Some f) ≡ true → is_droppable (prototype f).result ≡ true
drops f h = second_so (not (is_push f)) (is_droppable (prototype f).result) h

-- ---- all statements

mutual
  stmt_fits : (s : Stmt) (l : Layout) (taken : List Identifier) (returns : ResultType) → StmtHolds l taken returns s → StmtFits l s
  stmt_fits (tree.Plain line (tree.Declare (Simple t) x r)) l taken returns h =
      let s = tree.Plain line (tree.Declare (Simple t) x r) in
      let k = kept l taken returns s h in
      (h.names x k.new, right_fits l.known h.no_truth (variable_type t) r (all_fine l taken returns s h) (call_holds l taken returns s h) k.fits k.uncopied)
  stmt_fits (tree.Plain line (tree.Declare (Pointer t) x r)) l taken returns h =
      let s = tree.Plain line (tree.Declare (Pointer t) x r) in
      let k = kept l taken returns s h in
      (h.names x k.new, buffer_fits l.known h.no_truth t true r (call_holds l taken returns s h) k.fits)
  stmt_fits (tree.Plain line (tree.Declare ConstChars x r)) l taken returns h =
      let s = tree.Plain line (tree.Declare ConstChars x r) in
      let k = kept l taken returns s h in
      (h.names x k.new, buffer_fits l.known h.no_truth JChar false r (call_holds l taken returns s h) k.fits)
  stmt_fits (tree.Plain line (tree.DeclareArray t x size)) l taken returns h =
      let few = size_fits size h.formed in
      (h.names x (kept l taken returns (tree.Plain line (tree.DeclareArray t x size)) h).new, few.0, few.1)
  stmt_fits (tree.Plain line (tree.Assign x r)) l taken returns h =
      let s = tree.Plain line (tree.Assign x r) in
      let k = kept l taken returns s h in
      assigned_fits l.known h.no_truth x r (all_fine l taken returns s h) (call_holds l taken returns s h) k.fits k.uncopied
  stmt_fits (tree.Plain line (tree.AssignElement x i e)) l taken returns h =
      let s = tree.Plain line (tree.AssignElement x i e) in
      let fine = all_fine l taken returns s h in
      element_fits l.known h.no_truth x i e fine.0 fine.1.0 (kept l taken returns s h).fits
  stmt_fits (tree.Plain line (tree.Perform c)) l taken returns h =
      let fits = call_fits_name l.known h.no_truth c (call_holds l taken returns (tree.Plain line (tree.Perform c)) h) in
      record { fits = fits; result = drops fits.function (sym (ap may_be_dropped fits.named) ∙ (kept l taken returns (tree.Plain line (tree.Perform c)) h).fits) }
  stmt_fits (tree.Plain line (tree.PutJint e)) l taken returns h = jint_fits l.known h.no_truth e (all_fine l taken returns (tree.Plain line (tree.PutJint e)) h).0 (kept l taken returns (tree.Plain line (tree.PutJint e)) h).fits
  stmt_fits (tree.If line test then' tree.NoElse) l taken returns h =
      let s = tree.If line test then' tree.NoElse in (
        tested_fits l.known h.no_truth test (all_fine l taken returns s h) (λ c e. subst (λ t. CallHolds l.known (own_call (tree.If line t then' tree.NoElse))) e (call_holds l taken returns s h)) (kept l taken returns s h).fits,
        block_fits then' l taken returns (record {
          well_typed = inside_kept returns (scope_of l.known) taken s h.well_typed;
          numbers = inside_in_range s (statements_of then') h.numbers;
          formed = h.formed;
          low = omega (arith, h.low);
          names = h.names;
          no_truth = h.no_truth;
        }),
        tt,
      )
  stmt_fits (tree.If line test then' (tree.ElseBlock else')) l taken returns h =
      let s = tree.If line test then' (tree.ElseBlock else') in
      let well_typed = paths_kept returns (scope_of l.known) taken line test then' else' h.well_typed in
      let numbers = both_in_range (statements_of then') (statements_of else') (inside_in_range s (statements_of then' ++ statements_of else') h.numbers) in (
        tested_fits l.known h.no_truth test (all_fine l taken returns s h) (λ c e. subst (λ t. CallHolds l.known (own_call (tree.If line t then' (tree.ElseBlock else')))) e (call_holds l taken returns s h)) (kept l taken returns s h).fits,
        block_fits then' l taken returns (record {
          well_typed = well_typed.0;
          numbers = numbers.0;
          formed = first_so (block_well_formed then') (block_well_formed else') h.formed;
          low = omega (arith, h.low);
          names = h.names;
          no_truth = h.no_truth;
        }),
        block_fits else' (closed l (block_layout l then')) (taken ++ names_declared (statements_of then')) returns (record {
          well_typed = well_typed.1;
          numbers = numbers.1;
          formed = second_so (block_well_formed then') (block_well_formed else') h.formed;
          low = omega (arith, h.low);
          names = taken_more taken (names_declared (statements_of then')) l.known h.names;
          no_truth = h.no_truth;
        }),
      )
  stmt_fits (tree.While line test body) l taken returns h =
      let s = tree.While line test body in (
        truth_fits l.known h.no_truth test (all_fine l taken returns s h).0 (kept l taken returns s h).fits,
        block_fits body l taken returns (record {
          well_typed = inside_kept returns (scope_of l.known) taken s h.well_typed;
          numbers = inside_in_range s (statements_of body) h.numbers;
          formed = h.formed;
          low = omega (arith, h.low);
          names = h.names;
          no_truth = h.no_truth;
        }),
      )
  stmt_fits (tree.Return line None) l taken returns h = tt
  stmt_fits (tree.Return line (Some e)) l taken returns h =
      returned_fits l.known h.no_truth returns e (all_fine l taken returns (tree.Return line (Some e)) h).0 (kept l taken returns (tree.Return line (Some e)) h).fits

  pub block_fits : (b : Block) (l : Layout) (taken : List Identifier) (returns : ResultType) → BlockHolds l taken returns b → BlockFits l b
  block_fits (End line) l taken returns h = tt
  block_fits (Next s rest) l taken returns h =
      (stmt_fits s l taken returns (first_holds l taken returns s rest h), block_fits rest (layout_after l s) (taken ++ names_declared (statements_within s)) returns (rest_holds l taken returns s rest h))
