-- Numbers and texts of arguments, which lie in memory by their places among the arguments.
use Rattle.std.proofs.Common.{inl, inr, ◌≡◌, ℕ, zero, suc, true, false, List, [], ◌∷◌, ◌++◌, length, Option, Some, refl, sym, ap, ◌∙◌, subst, append-nil}
use Rattle.std.specs.Prelude.{◌⊎◌, if◌then◌else◌, ℤ, pos, drop, take, slice_get, unwrap_or, FitsSigned}
use Rattle.std.specs.Int.{w32, cast_signed}
use Rattle.std.specs.List.{AllZip}
use Rattle.std.proofs.Math.Facts.{to_z-of_z}
use Rattle.code.specs.declared.instr.Operand.{Operand}
use Rattle.code.specs.declared.instr.Operand.TheVariants as operand
use Rattle.jni.specs.declared.kinds.ParameterKind.{ParameterKind}
use Rattle.jni.specs.declared.kinds.ParameterKind.TheVariants.{IntNumber, Passed, TextBytes}
use Rattle.semantics.specs.Arguments.{Actual, NumberActual, TextActual, number_in_actual, text_in_actual}
use Rattle.semantics.specs.declared.value.Value.TheVariants.{Int}
use Rattle.code_meaning.specs.Does as list
use Rattle.code_meaning.specs.Does.{AllTogether, text_given, texts_given, word_given, words_given}
use Rattle.code_meaning.specs.Fits.{IsReferenceKind}
use Rattle.code_meaning.specs.Slots.{word_of}
use Rattle.machine_scenes.specs.Given as given
use Rattle.machine_scenes.specs.Given.{IsGiven}
use Rattle.machine_scenes.specs.Scenes.{Scene}
use Rattle.machine_answers.specs.Sights.{is_number, number_at, takes_word, text_seen, texts_of, words_of}

-- ---- lists

after_all : (xs : List ℕ) (w : ℕ) → slice_get (xs ++ w ∷ []) (length xs) ≡ Some w
after_all [] w = refl
after_all (x ∷ xs) w = after_all xs w

still_there : (xs ys : List ℕ) (k w : ℕ) → slice_get xs k ≡ Some w → slice_get (xs ++ ys) k ≡ Some w
still_there [] ys k w h = absurd (cc)
still_there (x ∷ xs) ys zero w h = h
still_there (x ∷ xs) ys (suc k) w h = still_there xs ys k w h

one_more : (xs : List ℕ) (w : ℕ) → suc (length xs) ≡ length (xs ++ w ∷ [])
one_more [] w = refl
one_more (x ∷ xs) w = ap suc (one_more xs w)

-- ---- numbers

-- an argument is a number, and so is its operand, or it is none, and neither is that
pub data Numbered (p : ParameterKind) (o : Operand) : Actual → Type 0 where
  a_number : {z : ℤ} → FitsSigned w32 z → takes_word (Some p) o ≡ true → Numbered p o (NumberActual z)
  no_number : {a : Actual} → word_given a ≡ [] → number_in_actual (Some a) ≡ pos 0 → takes_word (Some p) o ≡ false → Numbered p o a

-- an argument is a text, as its parameter asks, or it is none, and neither is that asked
pub data Texted : ParameterKind → Actual → Type 0 where
  a_text : {bytes : List ℕ} → Texted TextBytes (TextActual bytes)
  no_text : {p : ParameterKind} {a : Actual} → text_given a ≡ [] → text_in_actual (Some a) ≡ [] → (p ≡ TextBytes → ⊥) → Texted p a

-- a parameter of no text counts none
no_more : (p : ParameterKind) (ps : List ParameterKind) → (p ≡ TextBytes → ⊥) → texts_of (p ∷ ps) ≡ texts_of ps
no_more TextBytes ps never = absurd (never refl)
no_more p ps never = refl

module _ (scene : Scene) where
  abbrev Given : ParameterKind → Operand → Actual → Type 0
  Given p o a = IsGiven scene.unit scene.classes scene.space scene.references scene.fields p o a

  takes_none : (p : ParameterKind) (o : Operand) → IsReferenceKind p → is_number o ≡ false → takes_word (Some p) o ≡ false
  takes_none IntNumber o kind is = absurd kind
  takes_none Passed o kind is = is
  takes_none p o kind is = refl

  numbered : {p : ParameterKind} {o : Operand} {a : Actual} → Given p o a → Numbered p o a
  numbered (given.number fits) = a_number fits refl
  numbered (given.passed fits) = a_number fits refl
  numbered (given.reference {p = p} kind (given.null takes)) = no_number refl refl (takes_none p operand.Null kind refl)
  numbered (given.reference {p = p} kind (given.local {i = i} r takes agrees)) = no_number refl refl (takes_none p (operand.Local i) kind refl)
  numbered (given.reference {p = p} kind (given.static {i = i} takes agrees)) = no_number refl refl (takes_none p (operand.Static i) kind refl)
  numbered h = no_number refl refl refl

  -- the stack has a word for each number
  pub words_are : {ps : List ParameterKind} {os : List Operand} {args : List Actual} → AllTogether Given ps os args → words_of ps os ≡ length (words_given args)
  words_are list.none = refl
  words_are (list.more {x = p} {y = o} {z = a} {xs = ps} {ys = os} {zs = args} h rest) = by_number (words_are rest) (numbered h)
    where
      by_number : {a : Actual} → words_of ps os ≡ length (words_given args) → Numbered p o a → (if takes_word (Some p) o then suc (words_of ps os) else words_of ps os) ≡ length (words_given args ++ word_given a)
      by_number further (a_number {z = z} within takes) =
          ap (λ b. if b then suc (words_of ps os) else words_of ps os) takes ∙ ap suc further ∙ one_more (words_given args) (word_of (Int z))
      by_number further (no_number none zero_is takes) =
          ap (λ b. if b then suc (words_of ps os) else words_of ps os) takes ∙ further ∙ ap length (sym (append-nil (words_given args)))
          ∙ ap (λ (ws : List ℕ). length (words_given args ++ ws)) (sym none)

  -- the number at a place is where its word is
  pub word_there : (i : ℕ) {ps : List ParameterKind} {os : List Operand} {args : List Actual} (z : ℤ) → AllTogether Given ps os args → slice_get args i ≡ Some (NumberActual z)
      → slice_get (words_given args) (words_of (drop (suc i) ps) (drop (suc i) os)) ≡ Some (word_of (Int z))
  word_there i z list.none e = absurd (cc)
  word_there zero z (list.more {z = a} {xs = ps} {ys = os} {zs = args} h rest) e =
      let is : a ≡ NumberActual z = cc in
      ap (λ (b : Actual). slice_get (words_given args ++ word_given b) (words_of ps os)) is
      ∙ ap (λ (n : ℕ). slice_get (words_given args ++ word_of (Int z) ∷ []) n) (words_are rest)
      ∙ after_all (words_given args) (word_of (Int z))
  word_there (suc i) z (list.more {z = a} {xs = ps} {ys = os} {zs = args} h rest) e =
      still_there (words_given args) (word_given a) (words_of (drop (suc i) ps) (drop (suc i) os)) (word_of (Int z)) (word_there i z rest e)

  -- ---- texts

  texted : {p : ParameterKind} {o : Operand} {a : Actual} → Given p o a → Texted p a
  texted given.text = a_text
  texted (given.reference kind there) = no_text refl refl (λ e. subst IsReferenceKind e kind)
  texted h = no_text refl refl (λ e. absurd (cc))

  -- the text at a place is among the call's
  pub text_there : (i : ℕ) {ps : List ParameterKind} {os : List Operand} {args : List Actual} (bytes : List ℕ) → AllTogether Given ps os args → slice_get args i ≡ Some (TextActual bytes)
      → slice_get (texts_given args) (texts_of (take i ps)) ≡ Some bytes
  text_there i bytes list.none e = absurd (cc)
  text_there zero bytes (list.more {z = a} {zs = args} h rest) e =
      let is : a ≡ TextActual bytes = cc in ap (λ (b : Actual). slice_get (text_given b ++ texts_given args) 0) is
  text_there (suc i) bytes (list.more {x = p} {z = a} {xs = ps} {zs = args} h rest) e = by_text (text_there i bytes rest e) (texted h)
    where
      by_text : {p : ParameterKind} {a : Actual} → slice_get (texts_given args) (texts_of (take i ps)) ≡ Some bytes → Texted p a → slice_get (text_given a ++ texts_given args) (texts_of (p ∷ take i ps)) ≡ Some bytes
      by_text further a_text = further
      by_text {p} further (no_text none empty never) =
          ap (λ (ts : List (List ℕ)). slice_get (ts ++ texts_given args) (texts_of (p ∷ take i ps))) none
          ∙ ap (λ (n : ℕ). slice_get (texts_given args) n) (no_more p (take i ps) never) ∙ further

  -- ---- an argument at a place

  -- what a number is as it lies on the stack
  pub number_is : (i : ℕ) {ps : List ParameterKind} {os : List Operand} {args : List Actual} {p : ParameterKind} {o : Operand} {a : Actual} → AllTogether Given ps os args → scene.stack ≡ words_given args → slice_get args i ≡ Some a → Given p o a
      → (if takes_word (Some p) o then number_at scene.stack (words_of (drop (suc i) ps) (drop (suc i) os)) else pos 0) ≡ number_in_actual (Some a)
  number_is i {ps} {os} {args} all stack there h = by_number there (numbered h)
    where
      by_number : {p : ParameterKind} {o : Operand} {a : Actual} → slice_get args i ≡ Some a → Numbered p o a → (if takes_word (Some p) o then number_at scene.stack (words_of (drop (suc i) ps) (drop (suc i) os)) else pos 0) ≡ number_in_actual (Some a)
      by_number there (a_number {z = z} within takes) =
          ap (λ b. if b then number_at scene.stack (words_of (drop (suc i) ps) (drop (suc i) os)) else pos 0) takes
          ∙ ap (λ (ws : List ℕ). number_at ws (words_of (drop (suc i) ps) (drop (suc i) os))) stack
          ∙ ap (λ (w : Option ℕ). cast_signed w32 (unwrap_or w 0)) (word_there i z all there)
          ∙ to_z-of_z {w = w32} within
      by_number there (no_number none zero_is takes) =
          ap (λ b. if b then number_at scene.stack (words_of (drop (suc i) ps) (drop (suc i) os)) else pos 0) takes ∙ sym zero_is

  -- what a text is as it lies among the call's
  pub text_is : {texts : List (List ℕ)} (i : ℕ) {ps : List ParameterKind} {os : List Operand} {args : List Actual} {p : ParameterKind} {o : Operand} {a : Actual} → AllTogether Given ps os args → texts ≡ texts_given args → slice_get args i ≡ Some a → Given p o a
      → text_seen texts (Some p) (texts_of (take i ps)) ≡ text_in_actual (Some a)
  text_is {texts} i {ps} {os} {args} all are there h = by_text there (texted h)
    where
      none_seen : (q : ParameterKind) → (q ≡ TextBytes → ⊥) → text_seen texts (Some q) (texts_of (take i ps)) ≡ []
      none_seen TextBytes never = absurd (never refl)
      none_seen q never = refl

      by_text : {p : ParameterKind} {a : Actual} → slice_get args i ≡ Some a → Texted p a → text_seen texts (Some p) (texts_of (take i ps)) ≡ text_in_actual (Some a)
      by_text there (a_text {bytes = bytes}) =
          ap (λ (ts : List (List ℕ)). unwrap_or (slice_get ts (texts_of (take i ps))) []) are
          ∙ ap (λ (t : Option (List ℕ)). unwrap_or t []) (text_there i bytes all there)
      by_text {p} there (no_text none empty never) = none_seen p never ∙ sym empty
