-- The steps of `if`, `while`, elements and returns; then those of all tasks.
use Rattle.std.proofs.Common.{◌≡◌, ℕ, ℤ, pos, negsuc, ◌+◌, ◌-◌, ◌<◌, ◌≤◌, ◌⊎◌, inl, inr, Bool, true, false, List, [], ◌∷◌, ◌++◌, length, Option, Some, None, refl, sym, ap, ◌∙◌, subst, arith, append_assoc, length-append}
use Rattle.std.specs.Prelude.{slice_get, slice_set, nat_lt, IsTrue, FitsSigned}
use Rattle.std.specs.List.{list_any}
use Rattle.std.specs.Int.{w32, cast_unsigned}
use Rattle.std.proofs.lemmas.List.{append-nil}
use Rattle.std.proofs.lemmas.Bool.{ltb-true, ltb-false, lt-ltb}
use Rattle.std.proofs.lemmas.Option.{slice_get_within}
use Rattle.base.specs.Bytes.{Identifier, lookup}
use Rattle.base.specs.declared.element.ElementType.{ElementType}
use Rattle.syntax.specs.declared.expr.BinaryOp.TheVariants.{BitOr}
use Rattle.syntax.specs.Tree.{Expr, Block}
use Rattle.type_rules.specs.declared.ty.ExprType.{ExprType}
use Rattle.type_rules.specs.declared.ty.ExprType.TheVariants.{Jint, Ref, Buffer, Array}
use Rattle.type_rules.specs.declared.ty.ExprType.TheVariants as types
use Rattle.type_rules.specs.TypeGroups.{IsIndexType}
use Rattle.code.specs.declared.instr.ReferenceOperand.TheVariants.{Null, Local}
use Rattle.code.specs.declared.instr.Instr.TheVariants as instr
use Rattle.code.specs.declared.instr.Plain.TheVariants as plain
use Rattle.code.specs.declared.instr.PlainTrap.TheVariants as trap
use Rattle.code.specs.Depth.{Listing}
use Rattle.code.specs.Effect.{element_word}
use Rattle.code.proofs.Words.{negative_index}
use Rattle.semantics.specs.CallEffects.{ScalarResult}
use Rattle.semantics.specs.Effect.{Returns, with_value, return_effect, element_effect, effect_of}
use Rattle.semantics.specs.Sight.{in_range}
use Rattle.semantics.specs.Task.{Task, SetScalar, SetElement, SetNull, MakeArray, Invoke, Print, Branch, EndIf, Loop, EndTurn, Return, ReturnValue, Impossible, tasks_of}
use Rattle.semantics.specs.Term as term
use Rattle.semantics.specs.Term.{Term, Done, term_of}
use Rattle.semantics.specs.declared.trap.Trap.TheVariants.{OutOfRange}
use Rattle.semantics.specs.declared.value.Value.{Value}
use Rattle.semantics.specs.declared.value.Value.TheVariants.{Word, Int, Truth}
use Rattle.semantics.specs.Value.{Gives, Traps}
use Rattle.semantics.specs.Variable as variable
use Rattle.code_meaning.specs.Layout.{Slot, Known, Layout}
use Rattle.code_meaning.specs.Coding.{element_of, write_code, term_code, paths_code, turn_code, block_code}
use Rattle.code_meaning.specs.Slots as value
use Rattle.code_meaning.specs.Slots.{word_of, ValueHasType, Visible, Slots, is_no_buffer, ShowsBuffer, Shows, elements_in, SeesBuffers, with_element}
use Rattle.code_meaning.specs.Fits as rule
use Rattle.code_meaning.specs.Fits.{HasElements, TermHasType}
use Rattle.code_meaning.specs.Stands.{held, HasAt, AreAmong, IsSlotOf, NumberStands, BlockStands, LoopStands, TasksStand, StandsFor, ReferenceReturned, task_returns}
use Rattle.code_meaning.specs.Does.{Works, WritesBuffer, Stops, DoesEffect}
use Rattle.code_meaning.proofs.SlotLaws.{fewer_shown, shows_buffer_again, shows_element_set}
use Rattle.lower.proofs.CodePlaces.{has_front, has_back}
use Rattle.lower.proofs.TermSteps.{int_in_range, none_negative, seen_as, slot_has, shows_number, untouched_held, begun_left, left_first, value_type}
use Rattle.lower.proofs.Bodies.{number_begins, begins}
use Rattle.code_meaning.proofs.ElementWords.{element_words, convert_fits}
use Rattle.lower.proofs.PathsReturn.{then_returns, else_returns, any_after}
use Rattle.lower.proofs.Steps.{step_inside, put_step, set_step, null_step, made_step}
use Rattle.lower.proofs.CallSteps.{call_step}

-- The place, with these names known, these operands and these slots, which show what can be seen.
module _ (code : Listing) (known : Known) (place : ℕ) (stack : List ℕ) (slots : Slots) (visible : Visible) (shows : Shows code known visible slots) (sees : SeesBuffers visible slots.buffers) where
  -- ---- the end of a path

  end_step : (rest : List Task) → StandsFor code known place stack (EndIf ∷ rest) → DoesEffect code known place stack slots visible rest (effect_of visible.sight EndIf)
  end_step rest h =
      let d = h.stand in
      record {
        here = instr.Jump d.skipped;
        path = plain.Skip d.skipped;
        after = [];
        at = d.at;
        works = rw d.empty refl;
        names = d.further.0;
        shows = fewer_shown code d.further.0 known visible slots d.further.1 shows;
        stands = record { stand = d.further.2; returns = h.returns };
      }

  turn_step : (line : ℕ) (test : Expr) (body : Block) (rest : List Task) → StandsFor code known place stack (EndTurn line test body ∷ rest) → DoesEffect code known place stack slots visible rest (effect_of visible.sight (EndTurn line test body))
  turn_step line test body rest h =
      let d = h.stand in
      record {
        here = instr.JumpBack d.back;
        path = plain.Back d.back;
        after = [];
        at = d.at;
        works = rw d.empty refl;
        names = d.names;
        shows = fewer_shown code d.names known visible slots d.among shows;
        stands = (d.inside, record { stand = d.loop; returns = h.returns });
      }

  -- ---- `if`

  -- the block that is entered, and the jump at its end
  path_taken : (b : Block) (l : Layout) (p skipped : ℕ) (rest : List Task) → l.known ≡ known → BlockStands code l p b → slice_get code.instrs (p + length (block_code l b)) ≡ Some (instr.Jump skipped) → TasksStand code known (p + length (block_code l b) + 1 + skipped) [] rest
      → TasksStand code known p [] (tasks_of b ++ EndIf ∷ rest)
  path_taken b l p skipped rest same stands at further =
      subst (λ names. TasksStand code names p [] (tasks_of b ++ EndIf ∷ rest)) same
      (begins code b l p (EndIf ∷ rest) stands
      (λ names among. record { empty = refl; skipped = skipped; at = at; further = (known, subst (λ k. AreAmong k names) same among, further) }))

  branch_true : (line : ℕ) (then' else' : Block) (rest : List Task) → StandsFor code known place stack (Branch line (Done (Truth true)) then' else' ∷ rest) → DoesEffect code known place stack slots visible rest (effect_of visible.sight (Branch line (Done (Truth true)) then' else'))
  branch_true line then' else' rest h =
      let d = h.stand in
      let A = d.then_code in
      let B = d.else_code ++ instr.Jump 0 ∷ [] in
      let l : Layout = record { known = known; slots = d.slots } in
      let start : place + 0 + 1 ≡ place + 1 = omega arith in
      let own : BlockStands code l (place + 1) then' = subst (λ p. BlockStands code l p then') start d.first in
      let jump = has_back code.instrs (place + 1) A (instr.Jump (length B) ∷ B) d.at.1 in
      let at = subst (λ c. slice_get code.instrs (place + 1 + length c) ≡ Some (instr.Jump (length B))) d.then_is jump.0 in
      let end : place + 0 + 1 + length A + 1 + length d.else_code + 1 ≡ place + 1 + length (block_code l then') + 1 + length B = omega (arith, ap length d.then_is, length-append d.else_code (instr.Jump 0 ∷ [])) in
      let further = subst (λ p. TasksStand code known p [] rest) end d.further in
      record {
        here = instr.JumpIfFalse (length A + 1);
        path = plain.Next;
        after = [];
        at = d.at.0;
        works = rw d.test.operands refl;
        names = known;
        shows = shows;
        stands = rw (append_assoc (tasks_of then') (EndIf ∷ []) rest) (record {
          stand = path_taken then' l (place + 1) (length B) rest refl own at further;
          returns = then_returns then' else' rest (EndIf ∷ rest) (λ e. e) h.returns;
        });
      }

  branch_false : (line : ℕ) (then' else' : Block) (rest : List Task) → StandsFor code known place stack (Branch line (Done (Truth false)) then' else' ∷ rest) → DoesEffect code known place stack slots visible rest (effect_of visible.sight (Branch line (Done (Truth false)) then' else'))
  branch_false line then' else' rest h =
      let d = h.stand in
      let A = d.then_code in
      let B = d.else_code ++ instr.Jump 0 ∷ [] in
      let l : Layout = record { known = known; slots = d.slots_else } in
      let start : place + 0 + 1 + length A + 1 ≡ place + 1 + (length A + 1) = omega arith in
      let own : BlockStands code l (place + 1 + (length A + 1)) else' = subst (λ p. BlockStands code l p else') start d.second in
      let second = has_back code.instrs (place + 1) A (instr.Jump (length B) ∷ B) d.at.1 in
      let jump = has_back code.instrs (place + 1 + length A + 1) d.else_code (instr.Jump 0 ∷ []) second.1 in
      let there : place + 1 + length A + 1 + length d.else_code ≡ place + 1 + (length A + 1) + length (block_code l else') = omega (arith, ap length d.else_is) in
      let at = subst (λ p. slice_get code.instrs p ≡ Some (instr.Jump 0)) there jump.0 in
      let end : place + 0 + 1 + length A + 1 + length d.else_code + 1 ≡ place + 1 + (length A + 1) + length (block_code l else') + 1 + 0 = omega (arith, ap length d.else_is) in
      let further = subst (λ p. TasksStand code known p [] rest) end d.further in
      record {
        here = instr.JumpIfFalse (length A + 1);
        path = plain.Skip (length A + 1);
        after = [];
        at = d.at.0;
        works = rw d.test.operands refl;
        names = known;
        shows = shows;
        stands = rw (append_assoc (tasks_of else') (EndIf ∷ []) rest) (record {
          stand = path_taken else' l (place + 1 + (length A + 1)) 0 rest refl own at further;
          returns = else_returns then' else' rest (EndIf ∷ rest) (λ e. e) h.returns;
        });
      }

  branch_step : (line : ℕ) (t : Term) (then' else' : Block) (rest : List Task) → StandsFor code known place stack (Branch line t then' else' ∷ rest) → DoesEffect code known place stack slots visible rest (effect_of visible.sight (Branch line t then' else'))
  branch_step line (Done (Truth true)) then' else' rest h = branch_true line then' else' rest h
  branch_step line (Done (Truth false)) then' else' rest h = branch_false line then' else' rest h
  branch_step line (Done v) then' else' rest h = elim (value_type h.stand.test.ty) [ ]
  branch_step line t then' else' rest h =
      let d = h.stand in
      step_inside code known place stack slots visible shows sees line t types.Truth [] (paths_code d.then_code (d.else_code ++ instr.Jump 0 ∷ [])) (λ u. Branch line u then' else') rest tt d.test.ty d.test.begun (d.test.operands ∙ sym (append-nil (held t))) d.at (λ u. h.returns)
      (λ p u well_typed begun at size.
      let first : place + length (term_code known line t) + 1 ≡ p + length (term_code known line u) + 1 = omega (arith, size) in
      let second : place + length (term_code known line t) + 1 + length d.then_code + 1 ≡ p + length (term_code known line u) + 1 + length d.then_code + 1 = omega (arith, size) in
      let end : place + length (term_code known line t) + 1 + length d.then_code + 1 + length d.else_code + 1 ≡ p + length (term_code known line u) + 1 + length d.then_code + 1 + length d.else_code + 1 = omega (arith, size) in
      record {
        slots = d.slots;
        slots_else = d.slots_else;
        test = record { ty = well_typed; begun = begun; operands = append-nil (held u) };
        then_code = d.then_code;
        then_is = d.then_is;
        else_code = d.else_code;
        else_is = d.else_is;
        at = at;
        first = subst (λ n. BlockStands code (record { known = known; slots = d.slots }) n then') first d.first;
        second = subst (λ n. BlockStands code (record { known = known; slots = d.slots_else }) n else') second d.second;
        further = subst (λ n. TasksStand code known n [] rest) end d.further;
      })

  -- ---- `while`

  -- the loop again, from its first instruction on
  from_the_start : (line : ℕ) (test : Expr) (t : Term) (body : Block) (rest : List Task) (p : ℕ) → (d : LoopStands code known place stack (λ q names. TasksStand code names q [] rest) line test t body) → p ≡ d.start → TasksStand code known p [] (Loop line test (term_of test) body ∷ rest)
  from_the_start line test t body rest p d same =
      let code_is : d.test_code ≡ term_code known line (term_of test) = d.test_is in
      subst (λ n. TasksStand code known n [] (Loop line test (term_of test) body ∷ rest)) (sym same) (record {
        slots = d.slots;
        start = d.start;
        under_way = number_begins known (term_of test) types.Truth d.fits;
        fits = d.fits;
        test_code = d.test_code;
        test_is = d.test_is;
        body_code = d.body_code;
        body_is = d.body_is;
        whole = d.whole;
        here = subst (HasAt code.instrs d.start) code_is (has_front code.instrs d.start d.test_code (turn_code d.test_code d.body_code) d.whole);
        meets = omega (arith, ap length code_is);
        turn = d.turn;
        further = d.further;
      })

  loop_true : (line : ℕ) (test : Expr) (body : Block) (rest : List Task) → StandsFor code known place stack (Loop line test (Done (Truth true)) body ∷ rest) → DoesEffect code known place stack slots visible rest (effect_of visible.sight (Loop line test (Done (Truth true)) body))
  loop_true line test body rest h =
      let d = h.stand in
      let B = d.body_code in
      let l : Layout = record { known = known; slots = d.slots } in
      let turn = has_back code.instrs d.start d.test_code (turn_code d.test_code B) d.whole in
      let here : d.start + length d.test_code ≡ place = omega (arith, d.meets) in
      let start : d.start + length d.test_code + 1 ≡ place + 1 = omega (arith, d.meets) in
      let own : BlockStands code l (place + 1) body = subst (λ p. BlockStands code l p body) start d.turn in
      let jump = has_back code.instrs (d.start + length d.test_code + 1) B (instr.JumpBack (length d.test_code + 1 + length B) ∷ []) turn.1 in
      let there : d.start + length d.test_code + 1 + length B ≡ place + 1 + length (block_code l body) = omega (arith, d.meets, ap length d.body_is) in
      let at = subst (λ p. slice_get code.instrs p ≡ Some (instr.JumpBack (length d.test_code + 1 + length B))) there jump.0 in
      let back : place + 1 + length (block_code l body) - (length d.test_code + 1 + length B) ≡ d.start = omega (arith, d.meets, ap length d.body_is) in
      let inside : length d.test_code + 1 + length B ≤ place + 1 + length (block_code l body) = omega (arith, d.meets, ap length d.body_is) in
      record {
        here = instr.JumpIfFalse (length B + 1);
        path = plain.Next;
        after = [];
        at = subst (λ p. slice_get code.instrs p ≡ Some (instr.JumpIfFalse (length B + 1))) here turn.0;
        works = rw d.under_way.operands refl;
        names = known;
        shows = shows;
        stands = rw (append_assoc (tasks_of body) (EndTurn line test body ∷ []) rest) (record {
          stand = begins code body l (place + 1) (EndTurn line test body ∷ rest) own (λ names among. record {
            empty = refl;
            back = length d.test_code + 1 + length B;
            at = at;
            inside = inside;
            names = known;
            among = among;
            loop = from_the_start line test (Done (Truth true)) body rest (place + 1 + length (block_code l body) - (length d.test_code + 1 + length B)) d back;
          });
          returns = any_after body (EndTurn line test body ∷ rest) h.returns;
        });
      }

  loop_false : (line : ℕ) (test : Expr) (body : Block) (rest : List Task) → StandsFor code known place stack (Loop line test (Done (Truth false)) body ∷ rest) → DoesEffect code known place stack slots visible rest (effect_of visible.sight (Loop line test (Done (Truth false)) body))
  loop_false line test body rest h =
      let d = h.stand in
      let turn = has_back code.instrs d.start d.test_code (turn_code d.test_code d.body_code) d.whole in
      let here : d.start + length d.test_code ≡ place = omega (arith, d.meets) in
      let end : d.start + length d.test_code + 1 + length d.body_code + 1 ≡ place + 1 + (length d.body_code + 1) = omega (arith, d.meets) in
      record {
        here = instr.JumpIfFalse (length d.body_code + 1);
        path = plain.Skip (length d.body_code + 1);
        after = [];
        at = subst (λ p. slice_get code.instrs p ≡ Some (instr.JumpIfFalse (length d.body_code + 1))) here turn.0;
        works = rw d.under_way.operands refl;
        names = known;
        shows = shows;
        stands = record { stand = subst (λ p. TasksStand code known p [] rest) end d.further; returns = h.returns };
      }

  loop_step : (line : ℕ) (test : Expr) (t : Term) (body : Block) (rest : List Task) → StandsFor code known place stack (Loop line test t body ∷ rest) → DoesEffect code known place stack slots visible rest (effect_of visible.sight (Loop line test t body))
  loop_step line test (Done (Truth true)) body rest h = loop_true line test body rest h
  loop_step line test (Done (Truth false)) body rest h = loop_false line test body rest h
  loop_step line test (Done v) body rest h = elim (value_type h.stand.under_way.ty) [ ]
  loop_step line test t body rest h =
      let d = h.stand in
      step_inside code known place stack slots visible shows sees line t types.Truth [] [] (λ u. Loop line test u body) rest tt d.under_way.ty d.under_way.begun (d.under_way.operands ∙ sym (append-nil (held t)))
      (subst (HasAt code.instrs place) (sym (append-nil (term_code known line t))) d.here) (λ u. h.returns)
      (λ p u well_typed begun at size. record {
        slots = d.slots;
        start = d.start;
        under_way = record { ty = well_typed; begun = begun; operands = append-nil (held u) };
        fits = d.fits;
        test_code = d.test_code;
        test_is = d.test_is;
        body_code = d.body_code;
        body_is = d.body_is;
        whole = d.whole;
        here = subst (HasAt code.instrs p) (append-nil (term_code known line u)) at;
        meets = size ∙ d.meets;
        turn = d.turn;
        further = d.further;
      })

  -- ---- returns

  return_step : (line : ℕ) (t : Term) (rest : List Task) → NumberStands code known place stack line Jint t (instr.ReturnJint ∷ []) → IsTrue (list_any task_returns (ReturnValue line t ∷ rest)) → DoesEffect code known place stack slots visible rest (with_value visible.sight line (λ v. Returns (ScalarResult v)) (ReturnValue line) t)
  return_step line (Done v) rest h returns = record { here = instr.ReturnJint; at = h.1.0; returns = tt }
  return_step line t rest h returns =
      step_inside code known place stack slots visible shows sees line t Jint [] (instr.ReturnJint ∷ []) (ReturnValue line) rest tt h.0.ty h.0.begun (h.0.operands ∙ sym (append-nil (held t))) h.1 (λ u. refl)
      (λ p u well_typed begun at size. inl (record { ty = well_typed; begun = begun; operands = append-nil (held u) }, at))

  -- a `jint` is worked out before it is returned
  returned_number : (line : ℕ) {t : Term} → TermHasType known t Jint → return_effect visible.sight line t ≡ with_value visible.sight line (λ v. Returns (ScalarResult v)) (ReturnValue line) t
  returned_number line (rule.read {x = x} h) = let shown = shows_number known line slots visible x (record { ty = Jint; index = h.0 }) Jint tt (shows.each x (record { ty = Jint; index = h.0 }) h.1) in rw shown.is refl
  returned_number line h = refl

  returned_step : (line : ℕ) (t : Term) (rest : List Task) → NumberStands code known place stack line Jint t (instr.ReturnJint ∷ []) ⊎ ReferenceReturned code known place t → IsTrue (list_any task_returns (ReturnValue line t ∷ rest))
      → DoesEffect code known place stack slots visible rest (return_effect visible.sight line t)
  returned_step line t rest (inl h) returns = subst (DoesEffect code known place stack slots visible rest) (sym (returned_number line h.0.ty)) (return_step line t rest h returns)
  returned_step line t rest (inr (inl (is, at))) returns = subst (λ u. DoesEffect code known place stack slots visible rest (return_effect visible.sight line u)) (sym is) (record { here = instr.ReturnReference Null; at = at; returns = tt })
  returned_step line t rest (inr (inr (x, i, is, found, at))) returns =
      let shown = shows.each x (record { ty = Ref; index = i }) found in
      subst (λ u. DoesEffect code known place stack slots visible rest (return_effect visible.sight line u)) (sym is) (rw shown.no_number (record { here = instr.ReturnReference (Local i); at = at; returns = tt }))

  -- ---- elements

  -- a number and an index are there for an element of what has this slot, and what comes after it
  record IsReady (line : ℕ) (x : Identifier) (v : Value) (z : ℤ) (rest : List Task) (s : Slot) : Type 0 where
    there : lookup x known ≡ Some s
    own : IsSlotOf code known x s
    fits : FitsSigned w32 z
    operands : stack ≡ cast_unsigned w32 z ∷ word_of v ∷ []
    at : HasAt code.instrs place (write_code line s.ty s.index)
    stands : StandsFor code known (place + 1) [] rest

  -- of an array, at an index that isn't negative
  array_written : (line : ℕ) (x : Identifier) (v : Value) (z : ℤ) (rest : List Task) (t : ElementType) (size start k : ℕ) → IsReady line x v z rest (record { ty = Array t size; index = start }) → word_of v ≡ k → term.index_of v ≡ Gives k → (b : Bool) → nat_lt k size ≡ b
      → DoesEffect code known place stack slots visible rest (element_effect visible.sight line x v (Int z))
  array_written line x v z rest t size start k d word index true below =
      let shown = shows.each x (record { ty = Array t size; index = start }) d.there in
      let small : k < size = ltb-true k size below in
      let element = shown.elements k small in
      let inside : start + k < length slots.numbers = omega (arith, d.own.within.2, shows.numbers, small) in
      rw (index, element.is) (inl (
        t,
        shown.array_type,
        record {
          here = instr.StoreElement (element_of t) (record { start = start; len = size }) line;
          numbers = slice_set slots.numbers (start + k) (element_word (element_of t) (cast_unsigned w32 z));
          at = d.at.0;
          plain = rw (d.operands, word, below, lt-ltb (start + k) (length slots.numbers) inside) refl;
          names = known;
          shows = λ new set. shows_element_set code known visible new slots t x size start k z (element_word (element_of t) (cast_unsigned w32 z)) shows d.there d.own small (element_words t z d.fits) (convert_fits t z) set;
          stands = d.stands;
        },
      ))
  array_written line x v z rest t size start k d word index false below =
      let shown = shows.each x (record { ty = Array t size; index = start }) d.there in
      rw (index, shown.past k (ltb-false k size below)) (record {
        here = instr.StoreElement (element_of t) (record { start = start; len = size }) line;
        trap = trap.OutOfRange;
        is = refl;
        at = d.at.0;
        works = rw (d.operands, word, below) refl;
      })

  write_array : (line : ℕ) (x : Identifier) {v : Value} {r : ExprType} (z : ℤ) (rest : List Task) (t : ElementType) (size start : ℕ) → IsReady line x v z rest (record { ty = Array t size; index = start }) → IsIndexType r → ValueHasType v r
      → DoesEffect code known place stack slots visible rest (element_effect visible.sight line x v (Int z))
  write_array line x z rest t size start d index (value.word {n = n} h) = array_written line x (Word n) z rest t size start n d refl refl (nat_lt n size) refl
  write_array line x z rest t size start d index (value.int {z = pos n} h) = array_written line x (Int (pos n)) z rest t size start n d refl refl (nat_lt n size) refl
  write_array line x z rest t size start d index (value.int {z = negsuc n} h) =
      let shown = shows.each x (record { ty = Array t size; index = start }) d.there in
      record {
        here = instr.StoreElement (element_of t) (record { start = start; len = size }) line;
        trap = trap.OutOfRange;
        is = refl;
        at = d.at.0;
        works = rw (d.operands, negative_index n size h shown.few) refl;
      }
  write_array line x z rest t size start d index h = absurd index

  -- of a buffer that has none there
  buffer_stops : (line : ℕ) (x : Identifier) (v : Value) (z : ℤ) (rest : List Task) (t : ElementType) (writable : Bool) (i : ℕ) → IsReady line x v z rest (record { ty = Buffer t writable; index = i }) → (h : ShowsBuffer visible x slots.buffers t i)
      → slice_get (elements_in h.buffer visible.numbers) (word_of v) ≡ None → Stops code known place stack slots visible OutOfRange line
  buffer_stops line x v z rest t writable i d h none = record {
    here = instr.StoreBuffer (element_of t) i line;
    trap = trap.OutOfRange;
    is = refl;
    at = d.at.0;
    works = subst (λ (words : List ℕ). Works visible slots (instr.StoreBuffer (element_of t) i line) words (plain.Trap trap.OutOfRange line) words) (sym d.operands)
        ((elements_in h.buffer visible.numbers, slot_has known line slots visible sees x t i h, none), refl, refl);
  }

  -- of a buffer that has one
  buffer_writes : (line : ℕ) (x : Identifier) (v : Value) (z old : ℤ) (rest : List Task) (t : ElementType) (writable : Bool) (i k : ℕ) → IsReady line x v z rest (record { ty = Buffer t writable; index = i }) → (h : ShowsBuffer visible x slots.buffers t i) → word_of v ≡ k
      → slice_get (elements_in h.buffer visible.numbers) k ≡ Some old → WritesBuffer code known place stack slots visible x k z rest
  buffer_writes line x v z old rest t writable i k d h word found = record {
    type = t;
    kind = h.kind;
    slot = i;
    there = h.there ∙ ap (λ (b : variable.Buffer). Some b) (sym h.is);
    inside = subst (λ (b : variable.Buffer). k < length (elements_in b visible.numbers)) (sym h.is) (slice_get_within (elements_in h.buffer visible.numbers) k old found);
    line = line;
    at = d.at.0;
    operands = d.operands ∙ ap (λ (n : ℕ). cast_unsigned w32 z ∷ n ∷ []) word;
    fits = d.fits;
    names = known;
    shows = λ new set. shows_buffer_again code known visible new slots x t writable i (with_element t k z (visible.buffer x)) shows d.there d.own set;
    stands = d.stands;
  }

  -- at an index that isn't negative
  buffer_written : (line : ℕ) (x : Identifier) (v : Value) (z : ℤ) (rest : List Task) (t : ElementType) (writable : Bool) (i k : ℕ) → IsReady line x v z rest (record { ty = Buffer t writable; index = i }) → (h : ShowsBuffer visible x slots.buffers t i) → word_of v ≡ k → term.index_of v ≡ Gives k
      → (null : Bool) → is_no_buffer h.buffer ≡ null → (found : Option ℤ) → slice_get (elements_in h.buffer visible.numbers) k ≡ found → DoesEffect code known place stack slots visible rest (element_effect visible.sight line x v (Int z))
  buffer_written line x v z rest t writable i k d h word index true null found is = rw (index, seen_as known line slots visible sees x t i k h true null) tt
  buffer_written line x v z rest t writable i k d h word index false null (Some old) is =
      let seen : visible.sight.element x k ≡ Gives old = seen_as known line slots visible sees x t i k h false null ∙ ap in_range is in
      rw (index, seen) (inr (buffer_writes line x v z old rest t writable i k d h word is))
  buffer_written line x v z rest t writable i k d h word index false null None is =
      let seen : visible.sight.element x k ≡ Traps OutOfRange = seen_as known line slots visible sees x t i k h false null ∙ ap in_range is in
      rw (index, seen) (buffer_stops line x v z rest t writable i d h (ap (slice_get (elements_in h.buffer visible.numbers)) word ∙ is))

  write_buffer : (line : ℕ) (x : Identifier) {v : Value} {r : ExprType} (z : ℤ) (rest : List Task) (t : ElementType) (writable : Bool) (i : ℕ) → IsReady line x v z rest (record { ty = Buffer t writable; index = i }) → ShowsBuffer visible x slots.buffers t i → IsIndexType r → ValueHasType v r
      → DoesEffect code known place stack slots visible rest (element_effect visible.sight line x v (Int z))
  write_buffer line x z rest t writable i d h index (value.word {n = n} fits) = buffer_written line x (Word n) z rest t writable i n d h refl refl (is_no_buffer h.buffer) refl (slice_get (elements_in h.buffer visible.numbers) n) refl
  write_buffer line x z rest t writable i d h index (value.int {z = pos n} fits) = buffer_written line x (Int (pos n)) z rest t writable i n d h refl refl (is_no_buffer h.buffer) refl (slice_get (elements_in h.buffer visible.numbers) n) refl
  write_buffer line x z rest t writable i d h index (value.int {z = negsuc n} fits) = buffer_stops line x (Int (negsuc n)) z rest t writable i d h (none_negative known line slots visible sees i h.buffer n h.there fits)
  write_buffer line x z rest t writable i d h index v = absurd index

  write_step : (line : ℕ) (x : Identifier) (v : Value) (z : ℤ) (rest : List Task) (s r : ExprType) (i : ℕ) → HasElements s → IsReady line x v z rest (record { ty = s; index = i }) → IsIndexType r → ValueHasType v r → DoesEffect code known place stack slots visible rest (element_effect visible.sight line x v (Int z))
  write_step line x v z rest (Array t size) r i has d index h = write_array line x z rest t size i d index h
  write_step line x v z rest (Buffer t writable) r i has d index h = write_buffer line x z rest t writable i d (shows.each x (record { ty = Buffer t writable; index = i }) d.there) index h
  write_step line x v z rest s r i has d index h = absurd has

  element_step : (line : ℕ) (x : Identifier) (i e : Term) (rest : List Task) → StandsFor code known place stack (SetElement line x i e ∷ rest) → DoesEffect code known place stack slots visible rest (effect_of visible.sight (SetElement line x i e))
  element_step line x (Done v) (Done (Int z)) rest h =
      let d = h.stand in
      let none : place + (0 + 0) + 1 ≡ place + 1 = omega arith in
      let ready : IsReady line x v z rest d.slot = record {
        there = d.there;
        own = d.own;
        fits = int_in_range (value_type d.value);
        operands = d.operands;
        at = d.at;
        stands = record { stand = subst (λ p. TasksStand code known p [] rest) none d.further; returns = h.returns };
      } in
      write_step line x v z rest d.slot.ty d.index.0 d.slot.index d.elements ready d.index.1 (value_type d.index.2)
  element_step line x (Done v) (Done w) rest h = elim (value_type h.stand.value) [ ]
  element_step line x (Done v) e rest h =
      let d = h.stand in
      step_inside code known place stack slots visible shows sees line e Jint (word_of v ∷ []) (write_code line d.slot.ty d.slot.index) (SetElement line x (Done v)) rest tt d.value d.begun d.operands d.at (λ u. h.returns)
      (λ p u well_typed begun at size.
      let end : place + (0 + length (term_code known line e)) + 1 ≡ p + (0 + length (term_code known line u)) + 1 = omega (arith, size) in
      record {
        slot = d.slot;
        there = d.there;
        elements = d.elements;
        own = d.own;
        index = d.index;
        value = well_typed;
        begun = begun;
        operands = refl;
        at = at;
        further = subst (λ n. TasksStand code known n [] rest) end d.further;
      })
  element_step line x i e rest h =
      let d = h.stand in
      let parts = left_first BitOr i e tt d.begun in
      step_inside code known place stack slots visible shows sees line i d.index.0 [] (term_code known line e ++ write_code line d.slot.ty d.slot.index) (λ u. SetElement line x u e) rest tt d.index.2 parts.0
      (d.operands ∙ ap (λ q. q ++ held i) (untouched_held e parts.1) ∙ sym (append-nil (held i))) d.at (λ u. h.returns)
      (λ p u well_typed begun at size.
      let end : place + (length (term_code known line i) + length (term_code known line e)) + 1 ≡ p + (length (term_code known line u) + length (term_code known line e)) + 1 = omega (arith, size) in
      record {
        slot = d.slot;
        there = d.there;
        elements = d.elements;
        own = d.own;
        index = (d.index.0, d.index.1, well_typed);
        value = d.value;
        begun = begun_left BitOr u e begun parts.1;
        operands = append-nil (held u) ∙ sym (ap (λ q. q ++ held u) (untouched_held e parts.1));
        at = at;
        further = subst (λ n. TasksStand code known n [] rest) end d.further;
      })

  -- ---- all tasks

  -- each instruction is one step of the source
  pub steps : (task : Task) (rest : List Task) → StandsFor code known place stack (task ∷ rest) → DoesEffect code known place stack slots visible rest (effect_of visible.sight task)
  steps (SetScalar line x t) rest h = set_step code known place stack slots visible shows sees line x t rest h
  steps (SetElement line x i e) rest h = element_step line x i e rest h
  steps (SetNull target) rest h = null_step code known place stack slots visible shows sees target rest h
  steps (MakeArray t x size) rest h = made_step code known place stack slots visible shows sees t x size rest h
  steps (Invoke line target f operands) rest h = call_step code known place stack slots visible shows sees line target f operands rest h.stand h.returns
  steps (Print line t) rest h = put_step code known place stack slots visible shows sees line t rest h
  steps (Branch line t then' else') rest h = branch_step line t then' else' rest h
  steps EndIf rest h = end_step rest h
  steps (Loop line test t body) rest h = loop_step line test t body rest h
  steps (EndTurn line test body) rest h = turn_step line test body rest h
  steps Return rest h = record { here = instr.Return; at = h.stand.1; returns = tt }
  steps (ReturnValue line t) rest h = returned_step line t rest h.stand h.returns
  steps Impossible rest h = absurd h.stand
