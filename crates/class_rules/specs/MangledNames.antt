-- The test of a function's name that needs no memory: byte by byte, as parts between separators.
use Rattle.std.specs.Prelude.{ℕ, Bool, true, false, ◌&&◌, ◌||◌, ◌==◌, List, [], ◌∷◌, if◌then◌else◌}
use Rattle.base.specs.Bytes.{is_letter, is_digit}

-- a letter or a digit
abbrev pub is_word : ℕ → Bool
is_word b = is_letter b || is_digit b

-- An underscore before a letter separates two parts, and one before a 1 is an underscore of the part;
-- `separated` says that a separator was met.
abbrev mutual
  pub reads_name : List ℕ → Bool → Bool
  reads_name [] separated = separated
  reads_name (b ∷ bs) separated = if b == 95 then reads_underscore bs separated else (is_word b && reads_name bs separated)

  pub reads_underscore : List ℕ → Bool → Bool
  reads_underscore [] separated = false
  reads_underscore (b ∷ bs) separated = if is_letter b then reads_name bs true else (b == 49 && reads_name bs separated)

-- the first part begins with a letter
abbrev pub reads_first : List ℕ → Bool
reads_first [] = false
reads_first (b ∷ bs) = is_letter b && reads_name bs false

-- a prefix, and then parts
abbrev pub reads_after : List ℕ → List ℕ → Bool
reads_after [] name = reads_first name
reads_after (p ∷ ps) [] = false
reads_after (p ∷ ps) (b ∷ bs) = b == p && reads_after ps bs

-- `Java_`, and then parts
abbrev pub reads_mangled : List ℕ → Bool
reads_mangled name = reads_after (74 ∷ 97 ∷ 118 ∷ 97 ∷ 95 ∷ []) name
