-- The steps of the loops over the lines and the bytes of a text.
use Rattle.std.proofs.Common.{◌≡◌, ◌≢◌, Bool, true, false, ◌==◌, if◌then◌else◌, ℕ, zero, suc, ◌+◌, ◌-◌, ◌<◌, ◌≤◌, List, [], ◌∷◌, ◌++◌, length, refl, sym, ap, ◌∙◌, arith, append_assoc, length-append}
use Rattle.std.proofs.lemmas.Bool.{ne_eqb, cond-false}
use Rattle.std.proofs.lemmas.List.{append-nil}
use Rattle.cli_commands.specs.Telling.{from_line, shown_byte, shown_line}

-- ---- lines

pub line_first : (n : ℕ) (text : List ℕ) → n ≤ 0 → text ≡ from_line n text
unfolding from_line
line_first zero text h = refl
line_first (suc n) text h = absurd (omega (arith, h))

pub line_end : (n : ℕ) (text : List ℕ) → length text ≡ 0 → text ≡ from_line n text
unfolding from_line
line_end zero text h = refl
line_end (suc n) [] h = refl
line_end (suc n) (byte ∷ text) h = absurd (omega (arith, h))

pub line_feed : (m n : ℕ) (text rest : List ℕ) (byte : ℕ) → n ≡ suc m → text ≡ byte ∷ rest → byte ≡ 10 → from_line m rest ≡ from_line n text
unfolding from_line
line_feed m n text rest byte e is feed = rw (e, is, feed) refl

pub line_other : (m n : ℕ) (text rest : List ℕ) (byte : ℕ) → n ≡ suc m → text ≡ byte ∷ rest → byte ≢ 10 → from_line n rest ≡ from_line n text
unfolding from_line
line_other m n text rest byte e is other = rw (e, is) (sym (cond-false _ (from_line m rest) (from_line (suc m) rest) (ne_eqb byte 10 other)))

past_end : (n : ℕ) → from_line n [] ≡ []
unfolding from_line
past_end zero = refl
past_end (suc n) = refl

-- some lines, and then some more
line_more : (m n k : ℕ) (text : List ℕ) → k ≡ m + n → from_line n (from_line m text) ≡ from_line k text
unfolding from_line
line_more zero n k text e = let same : n ≡ k = omega (arith, e) in ap (λ i. from_line i text) same
line_more (suc m) n zero text e = absurd (omega (arith, e))
line_more (suc m) n (suc k) [] e = past_end n
line_more (suc m) n (suc k) (byte ∷ text) e = by (byte == 10) (line_more m n k text (omega (arith, e))) (line_more (suc m) n (suc k) text e)
  where
    by : (b : Bool) → from_line n (from_line m text) ≡ from_line k text → from_line n (from_line (suc m) text) ≡ from_line (suc k) text
        → from_line n (if b then from_line m text else from_line (suc m) text) ≡ (if b then from_line k text else from_line (suc k) text)
    by true h l = h
    by false h l = l

pub line_from : (m n : ℕ) (text rest : List ℕ) → rest ≡ from_line m text → m ≤ n → from_line (n - m) rest ≡ from_line n text
line_from m n text rest h le = ap (from_line (n - m)) h ∙ line_more m (n - m) n text (omega arith)

-- ---- the bytes of a line

pub shown_none : (most : ℕ) (text : List ℕ) → most ≡ 0 → shown_line most text ≡ []
unfolding shown_line
shown_none most text e = rw e refl

pub shown_end : (most : ℕ) (text : List ℕ) → length text ≡ 0 → shown_line most text ≡ []
unfolding shown_line
shown_end zero text h = refl
shown_end (suc most) [] h = refl
shown_end (suc most) (byte ∷ text) h = absurd (omega (arith, h))

pub shown_feed : (most : ℕ) (text rest : List ℕ) (byte : ℕ) → text ≡ byte ∷ rest → byte ≡ 10 → shown_line most text ≡ []
unfolding shown_line
shown_feed zero text rest byte is feed = refl
shown_feed (suc most) text rest byte is feed = rw (is, feed) refl

pub shown_more : (m n : ℕ) (text rest : List ℕ) (byte : ℕ) → n ≡ suc m → text ≡ byte ∷ rest → byte ≢ 10 → shown_line n text ≡ shown_byte byte ∷ shown_line m rest
unfolding shown_line
shown_more m n text rest byte e is other = rw (e, is) (cond-false _ [] (shown_byte byte ∷ shown_line m rest) (ne_eqb byte 10 other))

-- what is shown is all where nothing follows
pub shown_whole : (shown tail all : List ℕ) → tail ≡ [] → shown ++ tail ≡ all → shown ≡ all
shown_whole shown tail all e h = sym (append-nil shown) ∙ ap (λ t. shown ++ t) (sym e) ∙ h

-- a byte more is shown
pub shown_push : (shown more : List ℕ) (text rest all : List ℕ) (byte b : ℕ) → more ≡ shown ++ b ∷ [] → b ≡ shown_byte byte → length shown < 160 → text ≡ byte ∷ rest → byte ≢ 10
    → shown ++ shown_line (160 - length shown) text ≡ all → (length more ≤ 160) × (more ++ shown_line (160 - length more) rest ≡ all)
shown_push shown more text rest all byte b e same few is other h =
    let len : length more ≡ length shown + 1 = ap length e ∙ length-append shown (b ∷ []) in
    let step : shown_line (160 - length shown) text ≡ shown_byte byte ∷ shown_line (160 - length more) rest = shown_more (160 - length more) (160 - length shown) text rest byte (omega (arith, len, few)) is other in
    let tail : List ℕ = shown_line (160 - length more) rest in (
      omega (arith, len, few),
      ap (λ (s : List ℕ). s ++ tail) e ∙ append_assoc shown (b ∷ []) tail ∙ ap (λ (c : ℕ). shown ++ c ∷ tail) same ∙ sym (ap (λ (t : List ℕ). shown ++ t) step) ∙ h,
    )
