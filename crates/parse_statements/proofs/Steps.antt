-- The last of some steps as one.
use Rattle.std.proofs.Common.{◌≡◌, Result, Ok, Err, refl}
use Rattle.parse_lexemes.specs.declared.fault.ParseError.{ParseError}
use Rattle.parse_lexemes.specs.Results.{◌>>=◌}

-- the last of some steps give one value
pub last : {C D E : Type 0} (r : Result C ParseError) (made : C → D) (k : D → Result E ParseError) → (r >>= λ c. k (made c)) ≡ (r >>= (λ c. Ok (made c)) >>= k)
last (Ok c) made k = refl
last (Err e) made k = refl

pub last_two : {B C D E : Type 0} (r : Result B ParseError) (t : B → Result C ParseError) (made : B → C → D) (k : D → Result E ParseError) → (r >>= λ b. t b >>= λ c. k (made b c)) ≡ (r >>= (λ b. t b >>= λ c. Ok (made b c)) >>= k)
last_two (Ok b) t made k = last (t b) (made b) k
last_two (Err e) t made k = refl
