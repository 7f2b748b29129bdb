-- From the lexemes of all tokens to the text.
use Rattle.std.proofs.Common.{◌≡◌, ℕ, ◌+◌, ◌≤◌, true, false, List, [], ◌∷◌, ◌++◌, length, map, Result, Ok, Err, refl, sym, ap, subst, ◌∙◌, arith, add-one}
use Rattle.std.specs.Prelude.{slice_range, flat_map}
use Rattle.std.specs.List.{AllZip}
use Rattle.scan.specs.declared.token.Token.{Token}
use Rattle.scan.specs.declared.token.Kind.{Kind}
use Rattle.scan.specs.declared.token.Kind.TheVariants as kinds
use Rattle.scan.specs.Spelling.{SpellsFrom, ends, passes, takes, Spells}
use Rattle.syntax.specs.Tree.{Item, SourceUnit}
use Rattle.syntax.specs.Limits.{IsTree}
use Rattle.parse_lexemes.specs.declared.fault.ParseError.{ParseError}
use Rattle.parse_lexemes.specs.declared.fault.ParseError.TheVariants.{Memory, Fault}
use Rattle.parse_lexemes.specs.declared.first.Fixed.TheVariants as fixed
use Rattle.parse_lexemes.specs.Meaning.{Fixed', meaning_of, token_meaning}
use Rattle.parse_lexemes.specs.Lexemes.{Lexed, is_fixed_meaning, lexemes}
use Rattle.parse_lexemes.specs.Order.{AreInside}
use Rattle.parse_lexemes.specs.Results.{Fails}
use Rattle.parse_lexemes.specs.Spelling.{Spelled, Anywhere, OnLine}
use Rattle.parse.specs.Spelling.{item, spell, Stands, SpellsUnit}
use Rattle.parse_lexemes.specs.Reading.{starts_with}
use Rattle.parse.specs.Reading.{items_at, unit_at}
use Rattle.parse_lexemes.proofs.Singles.{Begins}
use Rattle.parse.proofs.Ranges.{tokens_in_range, spelled_in_range}
use Rattle.parse.proofs.Trees.{is_tree, tree_items}
use Rattle.parse.proofs.Programs.{items_take}
use Rattle.parse.proofs.Again.{items_again}

-- ---- the tokens are in the text

reaches : (text : List ℕ) {at : ℕ} {tokens : List Token} → SpellsFrom text at tokens → at ≤ length text
reaches text (ends h) = omega arith
reaches text (passes n gap rest) = let p = reaches text rest in omega (arith, p)
reaches text (takes kind n token rest) = let p = reaches text rest in omega (arith, p)

pub inside_of : (text : List ℕ) {at : ℕ} {tokens : List Token} → SpellsFrom text at tokens → AreInside text tokens
inside_of text (ends h) = tt
inside_of text (passes n gap rest) = inside_of text rest
inside_of text {at} (takes kind n token rest) = let p = reaches text rest in ((omega arith, p), inside_of text rest)

-- what the tokens of a text stand for, with their lines
abbrev lexemes_of : List ℕ → List Token → List Lexed
lexemes_of text tokens = map (λ token. record { meaning = token_meaning text token; line = token.line }) tokens

pub lexemes_is : (text : List ℕ) (line : ℕ) (tokens : List Token) → (last : ℕ) × (lexemes text line tokens ≡ lexemes_of text tokens ++ record { meaning = Fixed' fixed.End; line = last } ∷ [])
unfolding lexemes
lexemes_is text line [] = (line, refl)
lexemes_is text line (t ∷ tokens) =
    let w = lexemes_is text t.line tokens in
    (w.0, ap (λ (ls : List Lexed). record { meaning = token_meaning text t; line = t.line } ∷ ls) w.1)

-- ---- the End comes after all tokens and nowhere else

not_end : (kind : Kind) (bytes : List ℕ) → is_fixed_meaning (meaning_of kind bytes) fixed.End ≡ false
not_end kinds.Name bytes = refl
not_end (kinds.Reserved w) bytes = refl
not_end (kinds.Number unsigned value) bytes = refl
not_end kinds.Text bytes = refl
not_end (kinds.Symbol m) bytes = refl

ends_early : (es : List Spelled) (rest : List Lexed) → Begins es [] rest → starts_with fixed.End rest ≡ true → ⊥
ends_early [] rest h e = let f : starts_with fixed.End rest ≡ false = rw (sym h) refl in let g : true ≡ false = sym e ∙ f in absurd cc
ends_early (x ∷ es) rest h e = h

strip : (es : List Spelled) (text : List ℕ) (tokens : List Token) (l : Lexed) (rest : List Lexed) → Begins es (lexemes_of text tokens ++ l ∷ []) rest → starts_with fixed.End rest ≡ true → Begins es (lexemes_of text tokens) []
unfolding token_meaning
strip [] text [] l rest h e = refl
strip [] text (t ∷ tokens) l rest h e = let f : starts_with fixed.End rest ≡ false = rw (sym h) (not_end t.kind (slice_range text t.start t.end)) in let g : true ≡ false = sym e ∙ f in absurd cc
strip (x ∷ es) text [] l rest h e = absurd (ends_early es rest h.1 e)
strip (x ∷ es) text (t ∷ tokens) l rest h e = (h.0, strip es text tokens l rest h.1 e)

-- ---- tokens that are those by which a tree is spelled

begins_of : (text : List ℕ) (tokens : List Token) (es : List Spelled) → AllZip (Stands text) tokens es → Begins es (lexemes_of text tokens) []
begins_of text [] [] h = refl
begins_of text [] (e ∷ es) h = absurd h
begins_of text (t ∷ tokens) [] h = absurd h
begins_of text (t ∷ tokens) (Anywhere m ∷ es) h = (h.0, begins_of text tokens es h.1)
begins_of text (t ∷ tokens) (OnLine line m ∷ es) h = (h.0, begins_of text tokens es h.1)

stand_of : (text : List ℕ) (tokens : List Token) (es : List Spelled) → Begins es (lexemes_of text tokens) [] → AllZip (Stands text) tokens es
stand_of text [] [] h = tt
stand_of text [] (e ∷ es) h = absurd h
stand_of text (t ∷ tokens) [] h = absurd cc
stand_of text (t ∷ tokens) (Anywhere m ∷ es) h = (h.0, stand_of text tokens es h.1)
stand_of text (t ∷ tokens) (OnLine line m ∷ es) h = (h.0, stand_of text tokens es h.1)

abbrev unit_of : List Item → SourceUnit
unit_of items = record { items = items }

-- the items that the lexemes of a text give
abbrev pub items_of : List ℕ → List Token → Result (List Item) ParseError
items_of text tokens = items_at (length (lexemes text 1 tokens) + 1) 256 256 (lexemes text 1 tokens)

pub record IsFound (text : List ℕ) (items : List Item) : Type 0 where
  pub tree : IsTree (unit_of items)
  pub spelled : SpellsUnit text (unit_of items)

pub items_found : (text : List ℕ) (tokens : List Token) (items : List Item) → Spells text tokens → items_of text tokens ≡ Ok items → IsFound text items
items_found text tokens items spelled h =
    let w = lexemes_is text 1 tokens in
    let t = items_take (length (lexemes text 1 tokens) + 1) 256 256 (lexemes text 1 tokens) items h in
    let parts = subst (λ (ls : List Lexed). Begins (flat_map item items) ls t.rest) w.1 t.parts in
    let stand = stand_of text tokens (flat_map item items) (strip (flat_map item items) text tokens (record { meaning = Fixed' fixed.End; line = w.0 }) t.rest parts t.ended) in
    let range = spelled_in_range text tokens (flat_map item items) (tokens_in_range text spelled) stand in
    let tree = is_tree items t.formed t.few_functions t.few_statics range in
    record { tree = tree; spelled = (tokens, spelled, (tree, stand)) }

-- ---- the other way round

extend : (es : List Spelled) (ls more : List Lexed) → Begins es ls [] → Begins es (ls ++ more) more
extend [] ls more h = ap (λ (x : List Lexed). x ++ more) h
extend (e ∷ es) [] more h = absurd h
extend (e ∷ es) (l ∷ ls) more h = (h.0, extend es ls more h.1)

-- where the tokens are those of a unit, its items are read
pub items_only : (text : List ℕ) (tokens : List Token) (unit : SourceUnit) → ((others : List Token) → Spells text others → others ≡ tokens) → Spells text tokens → SpellsUnit text unit → items_of text tokens ≡ Ok unit.items
items_only text tokens unit unique spelled s =
    let w = lexemes_is text 1 tokens in
    let after_all : List Lexed = record { meaning = Fixed' fixed.End; line = w.0 } ∷ [] in
    let stand = subst (λ (ts : List Token). AllZip (Stands text) ts (spell unit)) (unique s.0 s.1) s.2.1 in
    let parts = subst (λ (ls : List Lexed). Begins (spell unit) ls after_all) (sym w.1) (extend (spell unit) (lexemes_of text tokens) after_all (begins_of text tokens (spell unit) stand)) in
    rw (add-one (length (lexemes text 1 tokens))) (items_again unit.items (length (lexemes text 1 tokens)) 256 256 (lexemes text 1 tokens) after_all (omega arith) parts refl (tree_items unit s.2.0) s.2.0.few_functions s.2.0.few_statics)

-- ---- from items to units

abbrev items_given : List Item → Result (List Item) ParseError
items_given items = Ok items

abbrev unit_given : SourceUnit → Result SourceUnit ParseError
unit_given unit = Ok unit

items_same : (a b : List Item) → items_given a ≡ items_given b → a ≡ b
items_same a b e = cc

-- what is read of lexemes, which are the text's
module _ (text : List ℕ) (tokens : List Token) (spelled : Spells text tokens) (ls : List Lexed) (is : ls ≡ lexemes text 1 tokens) where
  pub found_by : (items : List Item) → items_at (length ls + 1) 256 256 ls ≡ Ok items → IsFound text items
  found_by items given = items_found text tokens items spelled (subst (λ (l : List Lexed). items_at (length l + 1) 256 256 l ≡ items_given items) is given)

  pub unit_by : (items : List Item) → items_at (length ls + 1) 256 256 ls ≡ Ok items → unit_at (lexemes text 1 tokens) ≡ Ok (unit_of items)
  unfolding unit_at
  unit_by items given = ap unit_at (sym is) ∙ rw given refl

  pub fault_by : (e : ParseError) → Fails e (items_at (length ls + 1) 256 256 ls) → Fails e (unit_at (lexemes text 1 tokens))
  unfolding unit_at
  fault_by Memory h = tt
  fault_by (Fault broken) h = ap unit_at (sym is) ∙ rw h refl

  module _ (unique : (others : List Token) → Spells text others → others ≡ tokens) where
    only_items : (unit : SourceUnit) → SpellsUnit text unit → items_at (length ls + 1) 256 256 ls ≡ Ok unit.items
    only_items unit s = subst (λ (l : List Lexed). items_at (length l + 1) 256 256 l ≡ items_given unit.items) (sym is) (items_only text tokens unit unique spelled s)

    pub only_by : (items : List Item) (unit : SourceUnit) → items_at (length ls + 1) 256 256 ls ≡ Ok items → SpellsUnit text unit → unit_given unit ≡ Ok (unit_of items)
    only_by items unit given s = ap (λ (l : List Item). unit_given (unit_of l)) (items_same unit.items items (sym (only_items unit s) ∙ given))

    -- a fault where a unit is spelled is want of memory
    pub no_fault_by : (e : ParseError) (unit : SourceUnit) → Fails e (items_at (length ls + 1) 256 256 ls) → SpellsUnit text unit → Fails e (unit_given unit)
    no_fault_by Memory unit h s = tt
    no_fault_by (Fault broken) unit h s = let f : items_given unit.items ≡ Err (Fault broken) = sym (only_items unit s) ∙ h in absurd cc

-- no text has two trees
pub one_tree : (text : List ℕ) (a b : SourceUnit) → ((tokens others : List Token) → Spells text tokens → Spells text others → tokens ≡ others) → SpellsUnit text a → SpellsUnit text b → a ≡ b
one_tree text a b unique of_a of_b =
    let only = λ (others : List Token) (s : Spells text others). unique others of_a.0 s of_a.1 in
    let first = items_only text of_a.0 a only of_a.1 of_a in
    let second = items_only text of_a.0 b only of_a.1 of_b in
    ap unit_of (items_same a.items b.items (sym first ∙ second))
