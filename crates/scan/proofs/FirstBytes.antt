-- What the first byte of a text tells of what it begins with.
use Rattle.std.proofs.Common.{◌≡◌, ℕ, zero, suc, true, List, [], ◌∷◌, take, Ok, refl}
use Rattle.scan.specs.Bytes.{is_name_start, is_digit}
use Rattle.scan.specs.Spelling.{IsDigits}
use Rattle.scan.specs.Reading.{piece_at, name_at, number_at}
use Rattle.scan.proofs.Words.{letter_is_word, figure_is_word, figure_no_letter, word_no_blank}
use Rattle.scan.proofs.Digits.{ten_figure}

figure_piece : (a : ℕ) (rest : List ℕ) → is_digit 10 a ≡ true → piece_at (a ∷ rest) ≡ number_at (a ∷ rest)
unfolding piece_at
figure_piece a rest e =
    let figure = ten_figure a e in
    let word = figure_is_word a figure in
    rw (word_no_blank a word) (rw (figure_no_letter a figure) (rw figure refl))

pub digits_piece : (text : List ℕ) (n : ℕ) → IsDigits 10 (take n text) → piece_at text ≡ number_at text
digits_piece text zero h = absurd h
digits_piece [] (suc n) h = absurd h
digits_piece (a ∷ rest) (suc n) h = figure_piece a rest h.0.0

pub letter_front : (a : ℕ) (rest : List ℕ) → is_name_start a ≡ true → piece_at (a ∷ rest) ≡ Ok (name_at (a ∷ rest))
unfolding piece_at
letter_front a rest e = rw (word_no_blank a (letter_is_word a e)) (rw e refl)

pub ruleset letters = (letter_front)
