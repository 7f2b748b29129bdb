-- How the spelling of a text is computed.
use Rattle.std.proofs.Common.{◌≡◌, ℕ, zero, suc, ◌+◌, Bool, true, false, ◌==◌, List, [], ◌∷◌, length, drop, refl, Option, Some, None, Result, Ok, Err}
use Rattle.std.specs.List.{AllZip}
use Rattle.std.proofs.lemmas.Bool.{eqb-true}
use Rattle.syntax.specs.Limits.{IsTree}
use Rattle.syntax.specs.Tree.{SourceUnit}
use Rattle.scan.specs.declared.fault.ScanRule.{ScanRule}
use Rattle.scan.specs.declared.token.Kind.{Kind}
use Rattle.scan.specs.declared.token.Token.{Token}
use Rattle.scan.specs.Reading.{Piece, name_at, number_in, number_of, number_at, text_at, comment_or_mark, piece_at}
use Rattle.scan.specs.Spelling.{SpellsFrom, ends, passes, takes, token_at}
use Rattle.scan.proofs.Grammar.{gap_takes}
use Rattle.scan.proofs.Tokens.{token_takes}
use Rattle.parse_lexemes.specs.Meaning.{token_meaning}
use Rattle.parse_lexemes.specs.Spelling.{Spelled, Anywhere, OnLine}
use Rattle.parse.specs.Spelling.{Stands, spell, SpellsUnit}
use Rattle.scan.specs.Words.{keyword, interface_word, reference_word, constant_word, is_unused_type, is_unused_declaration, is_unused_statement, unused_word, word_of}

-- what the computations unfold
unfoldable pub opened : Unit {0}
unfolding name_at number_in number_of number_at text_at comment_or_mark piece_at token_meaning keyword interface_word reference_word constant_word is_unused_type is_unused_declaration is_unused_statement unused_word word_of
opened = tt

-- ---- tokens

-- a token in front
abbrev pub with_token : Token → Option (List Token) → Option (List Token)
with_token t None = None
with_token t (Some tokens) = Some (t ∷ tokens)

-- after a piece of the text
abbrev pub after_piece : List ℕ → ℕ → (ℕ → Option (List Token)) → Result Piece ScanRule → Option (List Token)
after_piece text at go (Err fault) = None
after_piece text at go (Ok (None, n)) = go (at + n)
after_piece text at go (Ok (Some kind, n)) = with_token (token_at text at kind n) (go (at + n))

-- at the text's end, or before it
abbrev pub at_end : List ℕ → ℕ → (ℕ → Option (List Token)) → Bool → Option (List Token)
at_end text at go true = Some []
at_end text at go false = after_piece text at go (piece_at (drop at text))

-- the tokens from a place on, where there are at most as many pieces as fuel
abbrev pub tokens_from : (fuel : ℕ) → List ℕ → ℕ → Option (List Token)
tokens_from zero text at = None
tokens_from (suc fuel) text at = at_end text at (λ next. tokens_from fuel text next) (at == length text)

abbrev pub SpellsIf : List ℕ → ℕ → Option (List Token) → Type 0
SpellsIf text at None = Unit {0}
SpellsIf text at (Some tokens) = SpellsFrom text at tokens

gap-spelled : (text : List ℕ) (at n : ℕ) (r : Option (List Token)) → piece_at (drop at text) ≡ Ok (None, n) → SpellsIf text (at + n) r → SpellsIf text at r
gap-spelled text at n None e h = tt
gap-spelled text at n (Some tokens) e h = passes n (gap_takes (drop at text) n e) h

token-spelled : (text : List ℕ) (at n : ℕ) (kind : Kind) (r : Option (List Token)) → piece_at (drop at text) ≡ Ok (Some kind, n) → SpellsIf text (at + n) r → SpellsIf text at (with_token (token_at text at kind n) r)
token-spelled text at n kind None e h = tt
token-spelled text at n kind (Some tokens) e h = takes kind n (token_takes (drop at text) kind n e) h

piece-spelled : (text : List ℕ) (at : ℕ) (go : ℕ → Option (List Token)) (r : Result Piece ScanRule) → piece_at (drop at text) ≡ r → ((next : ℕ) → SpellsIf text next (go next)) → SpellsIf text at (after_piece text at go r)
piece-spelled text at go (Err fault) e further = tt
piece-spelled text at go (Ok (None, n)) e further = gap-spelled text at n (go (at + n)) e (further (at + n))
piece-spelled text at go (Ok (Some kind, n)) e further = token-spelled text at n kind (go (at + n)) e (further (at + n))

end-spelled : (text : List ℕ) (at : ℕ) (go : ℕ → Option (List Token)) (end : Bool) → (at == length text) ≡ end → ((next : ℕ) → SpellsIf text next (go next)) → SpellsIf text at (at_end text at go end)
end-spelled text at go true e further = ends (eqb-true at (length text) e)
end-spelled text at go false e further = piece-spelled text at go (piece_at (drop at text)) refl further

from-spelled : (fuel : ℕ) (text : List ℕ) (at : ℕ) → SpellsIf text at (tokens_from fuel text at)
from-spelled zero text at = tt
from-spelled (suc fuel) text at = end-spelled text at (λ next. tokens_from fuel text next) (at == length text) refl (λ next. from-spelled fuel text next)

-- ---- trees

-- a token as the tree would spell it, in the line that it has if the tree tells one
abbrev pub as_spelled : List ℕ → Token → Spelled → Spelled
as_spelled text token (Anywhere meaning) = Anywhere (token_meaning text token)
as_spelled text token (OnLine line meaning) = OnLine token.line (token_meaning text token)

-- all tokens so, and none where the tree has fewer
abbrev pub all_spelled : List ℕ → List Token → List Spelled → List Spelled
all_spelled text [] spelled = []
all_spelled text (token ∷ tokens) [] = Anywhere (token_meaning text token) ∷ []
all_spelled text (token ∷ tokens) (s ∷ spelled) = as_spelled text token s ∷ all_spelled text tokens spelled

one_stands : (text : List ℕ) (token : Token) (s : Spelled) → as_spelled text token s ≡ s → Stands text token s
one_stands text token (Anywhere meaning) e = cc
one_stands text token (OnLine line meaning) e = (cc, cc)

first_same : (s t : Spelled) (ss ts : List Spelled) → ◌≡◌ {A = List Spelled} (s ∷ ss) (t ∷ ts) → s ≡ t
first_same s t ss ts e = cc

rest_same : (s t : Spelled) (ss ts : List Spelled) → ◌≡◌ {A = List Spelled} (s ∷ ss) (t ∷ ts) → ss ≡ ts
rest_same s t ss ts e = cc

all-stand : (text : List ℕ) (tokens : List Token) (spelled : List Spelled) → all_spelled text tokens spelled ≡ spelled → AllZip (Stands text) tokens spelled
all-stand text [] [] e = tt
all-stand text [] (s ∷ spelled) e = absurd cc
all-stand text (token ∷ tokens) [] e = absurd cc
all-stand text (token ∷ tokens) (s ∷ spelled) e = (
  one_stands text token s (first_same (as_spelled text token s) s (all_spelled text tokens spelled) spelled e),
  all-stand text tokens spelled (rest_same (as_spelled text token s) s (all_spelled text tokens spelled) spelled e),
)

-- the tokens of a text are those that a tree spells
abbrev pub SpellsTokens : List ℕ → SourceUnit → Option (List Token) → Type 0
SpellsTokens text unit None = ⊥
SpellsTokens text unit (Some tokens) = all_spelled text tokens (spell unit) ≡ spell unit

spelled-by : (text : List ℕ) (unit : SourceUnit) (r : Option (List Token)) → IsTree unit → SpellsIf text 0 r → SpellsTokens text unit r → SpellsUnit text unit
spelled-by text unit None tree h e = absurd e
spelled-by text unit (Some tokens) tree h e = (tokens, h, (tree, all-stand text tokens (spell unit) e))

pub spelled : (text : List ℕ) (unit : SourceUnit) → IsTree unit → SpellsTokens text unit (tokens_from (length text + 1) text 0) → SpellsUnit text unit
spelled text unit tree e = spelled-by text unit (tokens_from (length text + 1) text 0) tree (from-spelled (length text + 1) text 0) e
