-- Pieces of code that join to valid code. Each takes the stack from one number of words to another, and its jumps lead to its
-- own places or to the place after it.
use Rattle.std.proofs.Common.{◌≡◌, ℕ, zero, suc, ◌+◌, ◌-◌, ◌≤◌, Bool, true, false, List, [], ◌∷◌, ◌++◌, length, take, Option, Some, None, refl, sym, ap, ◌∙◌, subst, arith, length-append}
use Rattle.std.specs.Prelude.{slice_get, nat_lt}
use Rattle.std.specs.Option.{option_and_then}
use Rattle.std.proofs.Math.Seq.{take-append-add}
use Rattle.std.proofs.lemmas.Bool.{ltb-true, ltb-false}
use Rattle.std.proofs.lemmas.List.{take-append-le, take_all}
use Rattle.base.proofs.Lists.{get_left, get_right}
use Rattle.code.specs.declared.instr.Instr.{Instr}
use Rattle.code.specs.declared.instr.Instr.TheVariants.{JumpIfFalseOrPop, JumpIfTrueOrPop, JumpIfFalse, Jump, JumpBack, Return}
use Rattle.code.specs.Depth.{depth_after, depths, HasDepth, Lands, Moves, JumpsLand}

-- ---- lists of instructions

depths_joined : (a b : List Instr) (o : Option ℕ) → ((d : ℕ) → depths (a ++ b) d ≡ option_and_then (depths b) (depths a d)) → option_and_then (depths (a ++ b)) o ≡ option_and_then (depths b) (option_and_then (depths a) o)
depths_joined a b None each = refl
depths_joined a b (Some d) each = each d

pub depths-append : (a b : List Instr) (d : ℕ) → depths (a ++ b) d ≡ option_and_then (depths b) (depths a d)
depths-append [] b d = refl
depths-append (i ∷ a) b d = depths_joined a b (depth_after i d) (depths-append a b)

-- one piece, then the other
pub depths_then : (a b : List Instr) (d m e : ℕ) → depths a d ≡ Some m → depths b m ≡ Some e → depths (a ++ b) d ≡ Some e
depths_then a b d m e h k = depths-append a b d ∙ ap (option_and_then (depths b)) h ∙ k

-- ---- where jumps lead

-- a place of the piece, or the one after it, with this number of words where it begins with `entry`
pub record Reaches (code : List Instr) (entry place depth : ℕ) : Type 0 where
  pub inside : place ≤ length code
  pub words : depths (take place code) entry ≡ Some depth

abbrev pub LandsWithin : List Instr → (entry place depth : ℕ) → Instr → Type 0
LandsWithin code entry place depth (JumpIfFalseOrPop n) = Reaches code entry (place + 1 + n) depth
LandsWithin code entry place depth (JumpIfTrueOrPop n) = Reaches code entry (place + 1 + n) depth
LandsWithin code entry place depth (JumpIfFalse n) = Reaches code entry (place + 1 + n) (depth - 1)
LandsWithin code entry place depth (Jump n) = Reaches code entry (place + 1 + n) depth
LandsWithin code entry place depth (JumpBack n) = (n ≤ place) × Reaches code entry (place - n) depth
LandsWithin code entry place depth i = Unit {0}

pub record IsPiece (code : List Instr) (entry exit : ℕ) : Type 0 where
  pub stays : depths code entry ≡ Some exit
  pub jumps : (place depth : ℕ) (i : Instr) → slice_get code place ≡ Some i → depths (take place code) entry ≡ Some depth → LandsWithin code entry place depth i

-- the end of a piece
pub reaches_end : (code : List Instr) (entry exit n : ℕ) → depths code entry ≡ Some exit → n ≡ length code → Reaches code entry n exit
reaches_end code entry exit n h same = record { inside = omega arith; words = ap (λ (c : List Instr). depths c entry) (take_all n code (omega arith)) ∙ h }

-- its places are those of a longer piece
pub reaches_left : (a b : List Instr) (entry place depth : ℕ) → Reaches a entry place depth → Reaches (a ++ b) entry place depth
reaches_left a b entry place depth h = record {
  inside = let l = length-append a b in let w = h.inside in omega arith;
  words = ap (λ (c : List Instr). depths c entry) (take-append-le place a b h.inside) ∙ h.words;
}

pub reaches_right : (a b : List Instr) (entry middle place depth : ℕ) → depths a entry ≡ Some middle → Reaches b middle place depth → Reaches (a ++ b) entry (length a + place) depth
reaches_right a b entry middle place depth k h = record {
  inside = let l = length-append a b in let w = h.inside in omega arith;
  words = ap (λ (c : List Instr). depths c entry) (take-append-add a b place) ∙ depths_then a (take place b) entry middle depth k h.words;
}

pub lands_left : (a b : List Instr) (entry place depth : ℕ) (i : Instr) → LandsWithin a entry place depth i → LandsWithin (a ++ b) entry place depth i
lands_left a b entry place depth (JumpIfFalseOrPop n) h = reaches_left a b entry (place + 1 + n) depth h
lands_left a b entry place depth (JumpIfTrueOrPop n) h = reaches_left a b entry (place + 1 + n) depth h
lands_left a b entry place depth (JumpIfFalse n) h = reaches_left a b entry (place + 1 + n) (depth - 1) h
lands_left a b entry place depth (Jump n) h = reaches_left a b entry (place + 1 + n) depth h
lands_left a b entry place depth (JumpBack n) h = (h.0, reaches_left a b entry (place - n) depth h.1)
lands_left a b entry place depth i h = tt

-- a path ahead in the second piece
ahead_right : (a b : List Instr) (entry middle place n depth : ℕ) → depths a entry ≡ Some middle → Reaches b middle (place + 1 + n) depth → Reaches (a ++ b) entry (length a + place + 1 + n) depth
ahead_right a b entry middle place n depth k h =
    let same : length a + (place + 1 + n) ≡ length a + place + 1 + n = omega arith in
    subst (λ p. Reaches (a ++ b) entry p depth) same (reaches_right a b entry middle (place + 1 + n) depth k h)

pub lands_right : (a b : List Instr) (entry middle place depth : ℕ) (i : Instr) → depths a entry ≡ Some middle → LandsWithin b middle place depth i → LandsWithin (a ++ b) entry (length a + place) depth i
lands_right a b entry middle place depth (JumpIfFalseOrPop n) k h = ahead_right a b entry middle place n depth k h
lands_right a b entry middle place depth (JumpIfTrueOrPop n) k h = ahead_right a b entry middle place n depth k h
lands_right a b entry middle place depth (JumpIfFalse n) k h = ahead_right a b entry middle place n (depth - 1) k h
lands_right a b entry middle place depth (Jump n) k h = ahead_right a b entry middle place n depth k h
lands_right a b entry middle place depth (JumpBack n) k h =
    let inside = h.0 in
    let same : length a + (place - n) ≡ length a + place - n = omega arith in
    (omega arith, subst (λ p. Reaches (a ++ b) entry p depth) same (reaches_right a b entry middle (place - n) depth k h.1))
lands_right a b entry middle place depth i k h = tt

-- ---- places of two pieces

-- a property of the places of a piece that begins with this number of words
abbrev pub At : Type 1
At = (place depth : ℕ) → Instr → Type 0

-- what holds at each place of a piece
abbrev pub Each : At → List Instr → (entry : ℕ) → Type 0
Each P code entry = (place depth : ℕ) (i : Instr) → slice_get code place ≡ Some i → depths (take place code) entry ≡ Some depth → P place depth i

each_by : (P : At) (a b : List Instr) (entry middle place depth : ℕ) (i : Instr) (left : Bool) → nat_lt place (length a) ≡ left → depths a entry ≡ Some middle → Each P a entry → Each (λ p d j. P (length a + p) d j) b middle
    → slice_get (a ++ b) place ≡ Some i → depths (take place (a ++ b)) entry ≡ Some depth → P place depth i
each_by P a b entry middle place depth i true l k first second at h =
    let inside = ltb-true place (length a) l in
    first place depth i (sym (get_left a b place inside) ∙ at) (ap (λ (c : List Instr). depths c entry) (sym (take-append-le place a b (omega arith))) ∙ h)
each_by P a b entry middle place depth i false l k first second at h =
    let past : length a ≤ place = ltb-false place (length a) l in
    let same : length a + (place - length a) ≡ place = omega arith in
    let cut : take place (a ++ b) ≡ a ++ take (place - length a) b = ap (λ n. take n (a ++ b)) (sym same) ∙ take-append-add a b (place - length a) in
    let there : depths (take (place - length a) b) middle ≡ Some depth =
    sym (ap (option_and_then (depths (take (place - length a) b))) k) ∙ sym (depths-append a (take (place - length a) b) entry) ∙ ap (λ (c : List Instr). depths c entry) (sym cut) ∙ h in
    subst (λ p. P p depth i) same (second (place - length a) depth i (sym (get_right a b place past) ∙ at) there)

-- what holds at the places of both pieces
pub each_append : (P : At) (a b : List Instr) (entry middle : ℕ) → depths a entry ≡ Some middle → Each P a entry → Each (λ p d j. P (length a + p) d j) b middle → Each P (a ++ b) entry
each_append P a b entry middle k first second place depth i at h = each_by P a b entry middle place depth i (nat_lt place (length a)) refl k first second at h

-- ---- pieces

pub piece_none : (d : ℕ) → IsPiece [] d d
piece_none d = record { stays = refl; jumps = λ place depth i at h. absurd (cc) }

pub piece_append : (a b : List Instr) (entry middle exit : ℕ) → IsPiece a entry middle → IsPiece b middle exit → IsPiece (a ++ b) entry exit
piece_append a b entry middle exit h k = record {
  stays = depths_then a b entry middle exit h.stays k.stays;
  jumps = each_append (LandsWithin (a ++ b) entry) a b entry middle h.stays
      (λ place depth i at l. lands_left a b entry place depth i (h.jumps place depth i at l))
      (λ place depth i at l. lands_right a b entry middle place depth i h.stays (k.jumps place depth i at l));
}

-- what holds at the place of one instruction
each_one : (P : At) (i : Instr) (d : ℕ) → P 0 d i → Each P (i ∷ []) d
each_one P i d h zero depth j at l =
    let instr : i ≡ j = cc in
    let words : d ≡ depth = cc in
    subst (λ n. P 0 n j) words (subst (P 0 d) instr h)
each_one P i d h (suc place) depth j at l = absurd (cc)

-- an instruction in front, which jumps ahead or doesn't
pub piece_cons : (i : Instr) (code : List Instr) (entry middle exit : ℕ) → depth_after i entry ≡ Some middle → IsPiece code middle exit → LandsWithin (i ∷ code) entry 0 entry i → IsPiece (i ∷ code) entry exit
piece_cons i code entry middle exit h piece lands =
    let first : depths (i ∷ []) entry ≡ Some middle = ap (option_and_then (depths [])) h in
    record {
      stays = depths_then (i ∷ []) code entry middle exit first piece.stays;
      jumps = each_append (LandsWithin (i ∷ code) entry) (i ∷ []) code entry middle first (each_one (LandsWithin (i ∷ code) entry) i entry lands)
          (λ place depth j at l. lands_right (i ∷ []) code entry middle place depth j first (piece.jumps place depth j at l));
    }

-- an instruction by itself; `lands` is `tt` for one that doesn't jump
pub piece_one : (i : Instr) (entry exit : ℕ) → depth_after i entry ≡ Some exit → LandsWithin (i ∷ []) entry 0 entry i → IsPiece (i ∷ []) entry exit
piece_one i entry exit h lands = piece_cons i [] entry exit exit h (piece_none exit) lands

-- the end of the code that comes after an instruction
pub lands_after : (i : Instr) (code : List Instr) (entry middle exit : ℕ) → depth_after i entry ≡ Some middle → depths code middle ≡ Some exit → Reaches (i ∷ code) entry (0 + 1 + length code) exit
lands_after i code entry middle exit h k = reaches_end (i ∷ code) entry exit (0 + 1 + length code) (ap (option_and_then (depths code)) h ∙ k) (omega arith)

-- `&&` and `||` after their left side
pub piece_and : (right : List Instr) (d : ℕ) → IsPiece right d (suc d) → IsPiece (JumpIfFalseOrPop (length right) ∷ right) (suc d) (suc d)
piece_and right d h = piece_cons (JumpIfFalseOrPop (length right)) right (suc d) d (suc d) refl h (lands_after (JumpIfFalseOrPop (length right)) right (suc d) d (suc d) refl h.stays)

pub piece_or : (right : List Instr) (d : ℕ) → IsPiece right d (suc d) → IsPiece (JumpIfTrueOrPop (length right) ∷ right) (suc d) (suc d)
piece_or right d h = piece_cons (JumpIfTrueOrPop (length right)) right (suc d) d (suc d) refl h (lands_after (JumpIfTrueOrPop (length right)) right (suc d) d (suc d) refl h.stays)

-- the end of an `if`'s second branch
pub piece_end : IsPiece (Jump 0 ∷ []) 0 0
piece_end = piece_one (Jump 0) 0 0 refl (lands_after (Jump 0) [] 0 0 0 refl refl)

-- the end of an `if`'s first branch, and the second
pub piece_otherwise : (else' : List Instr) → IsPiece else' 0 0 → IsPiece (Jump (length else') ∷ else') 0 0
piece_otherwise else' h = piece_cons (Jump (length else')) else' 0 0 0 refl h (lands_after (Jump (length else')) else' 0 0 0 refl h.stays)

-- an `if` after its test, with what ends each branch
pub piece_if : (then' else' : List Instr) → IsPiece then' 0 0 → IsPiece else' 0 0 → IsPiece (JumpIfFalse (length then' + 1) ∷ (then' ++ Jump (length else') ∷ else')) 1 0
piece_if then' else' h k =
    let rest = piece_otherwise else' k in
    let paths = piece_append then' (Jump (length else') ∷ else') 0 0 0 h rest in
    let second : Reaches (Jump (length else') ∷ else') 0 1 0 = record { inside = omega arith; words = refl } in
    let jump : Reaches ((JumpIfFalse (length then' + 1) ∷ []) ++ (then' ++ Jump (length else') ∷ else')) 1 (1 + (length then' + 1)) 0 =
    reaches_right (JumpIfFalse (length then' + 1) ∷ []) (then' ++ Jump (length else') ∷ else') 1 0 (length then' + 1) 0 refl (reaches_right then' (Jump (length else') ∷ else') 0 0 1 0 h.stays second) in
    let same : 1 + (length then' + 1) ≡ 0 + 1 + (length then' + 1) = omega arith in
    piece_cons (JumpIfFalse (length then' + 1)) (then' ++ Jump (length else') ∷ else') 1 0 0 refl paths
    (subst (λ p. Reaches (JumpIfFalse (length then' + 1) ∷ (then' ++ Jump (length else') ∷ else')) 1 p 0) same jump)

-- a loop's body and the path back
abbrev pub turn : (test body : List Instr) → List Instr
turn test body = body ++ JumpBack (length test + 1 + length body) ∷ []

-- a loop
abbrev pub loop : (test body : List Instr) → List Instr
loop test body = test ++ JumpIfFalse (length body + 1) ∷ turn test body

module _ (test body : List Instr) (tests : IsPiece test 0 1) (turns : IsPiece body 0 0) where
  turn_stays : depths (turn test body) 0 ≡ Some 0
  turn_stays = depths_then body (JumpBack (length test + 1 + length body) ∷ []) 0 0 0 turns.stays refl

  loop_stays : depths (loop test body) 0 ≡ Some 0
  loop_stays = depths_then test (JumpIfFalse (length body + 1) ∷ turn test body) 0 1 0 tests.stays turn_stays

  length-turn : length (turn test body) ≡ length body + 1
  length-turn = length-append body (JumpBack (length test + 1 + length body) ∷ [])

  length-loop : length (loop test body) ≡ length test + (length body + 2)
  length-loop = let l = length-append test (JumpIfFalse (length body + 1) ∷ turn test body) in let k = length-turn in omega arith

  -- at the places of a turn
  turn_lands : Each (λ p depth i. LandsWithin (loop test body) 0 (length test + (1 + p)) depth i) (turn test body) 0
  turn_lands =
      let P : At = λ p depth i. LandsWithin (loop test body) 0 (length test + (1 + p)) depth i in
      let back = JumpBack (length test + 1 + length body) in
      let start : length test + (1 + (length body + 0)) - (length test + 1 + length body) ≡ 0 = omega arith in
      let first : Reaches (loop test body) 0 0 0 = record { inside = omega arith; words = refl } in
      each_append P body (back ∷ []) 0 0 turns.stays
      (λ place depth i at l. lands_right test (JumpIfFalse (length body + 1) ∷ turn test body) 0 1 (1 + place) depth i tests.stays
      (lands_right (JumpIfFalse (length body + 1) ∷ []) (turn test body) 1 0 place depth i refl (lands_left body (back ∷ []) 0 place depth i (turns.jumps place depth i at l))))
      (each_one (λ p depth i. P (length body + p) depth i) back 0 (omega arith, subst (λ p. Reaches (loop test body) 0 p 0) (sym start) first))

  pub piece_loop : IsPiece (loop test body) 0 0
  piece_loop =
      let P : At = LandsWithin (loop test body) 0 in
      let leave = JumpIfFalse (length body + 1) in
      let size = length-loop in
      let over : Reaches (loop test body) 0 (length test + 0 + 1 + (length body + 1)) 0 = reaches_end (loop test body) 0 0 (length test + 0 + 1 + (length body + 1)) loop_stays (omega arith) in
      record {
        stays = loop_stays;
        jumps = each_append P test (leave ∷ turn test body) 0 1 tests.stays
            (λ place depth i at l. lands_left test (leave ∷ turn test body) 0 place depth i (tests.jumps place depth i at l))
            (each_append (λ p depth i. P (length test + p) depth i) (leave ∷ []) (turn test body) 1 0 refl (each_one (λ p depth i. P (length test + p) depth i) leave 1 over) turn_lands);
      }

-- ---- a function's code: a piece that begins with no words, and a return after it

has_depth : (code : List Instr) (place depth : ℕ) → Reaches code 0 place depth → HasDepth (code ++ Return ∷ []) place depth
has_depth code place depth h =
    let size = length-append code (Return ∷ []) in
    let inside = h.inside in
    record { inside = omega arith; words = ap (λ (c : List Instr). depths c 0) (take-append-le place code (Return ∷ []) h.inside) ∙ h.words }

lands_inside : (code : List Instr) (place depth : ℕ) (i : Instr) → LandsWithin code 0 place depth i → Lands (code ++ Return ∷ []) place depth i
lands_inside code place depth (JumpIfFalseOrPop n) h = has_depth code (place + 1 + n) depth h
lands_inside code place depth (JumpIfTrueOrPop n) h = has_depth code (place + 1 + n) depth h
lands_inside code place depth (JumpIfFalse n) h = has_depth code (place + 1 + n) (depth - 1) h
lands_inside code place depth (Jump n) h = has_depth code (place + 1 + n) depth h
lands_inside code place depth (JumpBack n) h = (h.0, has_depth code (place - n) depth h.1)
lands_inside code place depth i h = tt

pub piece_moves : (code : List Instr) (exit : ℕ) → IsPiece code 0 exit → Moves (code ++ Return ∷ [])
piece_moves code exit h =
    let size : length (code ++ Return ∷ []) - 1 ≡ length code = omega (arith, length-append code (Return ∷ [])) in
    let start : length code - length code ≡ 0 = omega arith in
    record {
      depth = 0;
      stays = depths_then code (Return ∷ []) 0 exit 0 h.stays refl;
      ends = record {
        last = Return;
        ends = ap (slice_get (code ++ Return ∷ [])) size ∙ get_right code (Return ∷ []) (length code) (omega arith) ∙ ap (slice_get (Return ∷ [])) start;
        leaves = tt;
      };
    }

pub piece_jumps : (code : List Instr) (exit : ℕ) → IsPiece code 0 exit → JumpsLand (code ++ Return ∷ [])
piece_jumps code exit h =
    each_append (Lands (code ++ Return ∷ [])) code (Return ∷ []) 0 exit h.stays
    (λ place depth i at l. lands_inside code place depth i (h.jumps place depth i at l))
    (each_one (λ p depth i. Lands (code ++ Return ∷ []) (length code + p) depth i) Return exit tt)
