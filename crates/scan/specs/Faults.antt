-- The faults of a text: where and why it has no tokens, and the numbers of the rules.
use Rattle.std.specs.Prelude.{◌≡◌, ◌≢◌, ℕ, ◌+◌, false, IsTrue, List, ◌∷◌, ◌++◌, drop, Bool}
use Rattle.base.specs.Bytes.{is_from_to}
use Rattle.places.specs.declared.fault.Fault.{Fault as FaultAt}
use Rattle.scan.specs.declared.token.Kind.{Kind}
use Rattle.scan.specs.declared.token.Kind.TheVariants.{Number, Text}
use Rattle.scan.specs.declared.token.Token.{Token}
use Rattle.scan.specs.declared.fault.ScanRule.{ScanRule}
use Rattle.scan.specs.declared.fault.ScanRule.TheVariants.{BadByte, OpenComment, BadNumber, BadText}
use Rattle.scan.specs.declared.fault.ScanError.{ScanError}
use Rattle.scan.specs.declared.fault.ScanError.TheVariants.{Memory, Fault}
use Rattle.scan.specs.Bytes.{is_blank}
use Rattle.scan.specs.Spelling.{IsLexeme, IsGap, IsToken, Spells, line_of}

-- blanks, comments and tokens fill the text up to a place
pub data IsFilledTo (text : List ℕ) : ℕ → Type 0 where
  begins : IsFilledTo text 0
  with_gap : {at : ℕ} (n : ℕ) → IsFilledTo text at → IsGap (drop at text) n → IsFilledTo text (at + n)
  with_token : {at : ℕ} (kind : Kind) (n : ℕ) → IsFilledTo text at → IsToken kind (drop at text) n → IsFilledTo text (at + n)

-- a byte with which nothing begins, whatever comes after it; a comment begins as a mark does
pub record BeginsNothing (byte : ℕ) : Type 0 where
  pub no_blank : is_blank byte ≡ false
  pub no_lexeme : (kind : Kind) (rest : List ℕ) → IsLexeme kind (byte ∷ rest) → ⊥

-- a rule that a text breaks, and the line
abbrev pub ScanFault : Type 0
ScanFault = FaultAt ScanRule ℕ

-- what is wrong with a text that begins so
abbrev pub HasFault : List ℕ → ScanRule → Type 0
HasFault text BadByte = (byte : ℕ) × (rest : List ℕ) × (text ≡ byte ∷ rest) × BeginsNothing byte
HasFault text OpenComment = (rest : List ℕ) × (text ≡ 47 ∷ 42 ∷ rest) × ((inside rest_of : List ℕ) → rest ≢ inside ++ 42 ∷ 47 ∷ rest_of)
HasFault text BadNumber = (digit : ℕ) × (rest : List ℕ) × (text ≡ digit ∷ rest) × IsTrue (is_from_to 48 57 digit)
    × ((value : ℕ) (unsigned : Bool) (n : ℕ) → IsToken (Number unsigned value) text n → ⊥)
HasFault text BadText = (rest : List ℕ) × (text ≡ 34 ∷ rest) × ((n : ℕ) → IsToken Text text n → ⊥)

-- The text is filled up to a place of this line, where it has this fault.
abbrev pub IsFirstFault : List ℕ → ScanError → Type 0
IsFirstFault text Memory = Unit {0}
IsFirstFault text (Fault f) = (at : ℕ) × IsFilledTo text at × HasFault (drop at text) f.rule × (f.line ≡ line_of text at)

-- No text has two first faults.
abbrev pub OneFirstFault : Type 0
OneFirstFault = (text : List ℕ) (a b : ScanFault) → IsFirstFault text (Fault a) → IsFirstFault text (Fault b) → (a.rule ≡ b.rule) × (a.line ≡ b.line)

-- No text that spells tokens has a fault.
abbrev pub NoFaultWhereSpelled : Type 0
NoFaultWhereSpelled = (text : List ℕ) (tokens : List Token) (fault : ScanFault) → Spells text tokens → IsFirstFault text (Fault fault) → ⊥

-- the numbers of the rules: 1 to 4
abbrev pub scan_rule_number : ScanRule → ℕ
scan_rule_number BadByte = 1
scan_rule_number OpenComment = 2
scan_rule_number BadNumber = 3
scan_rule_number BadText = 4
