-- The command line is built word by word.
use Rattle.std.proofs.Common.{◌≡◌, ℕ, List, [], ◌∷◌, ◌++◌, true, false, Result, Ok, Err, Some, refl, ap, ◌∙◌, subst}
use Rattle.std.specs.Prelude.{IfOk, codes}
use Rattle.std.specs.Borrow.{Bor}
use Rattle.clap.specs.Built.{AddsArg, AddsSubcommand}
use Rattle.clap.specs.Faults.{fault_of, is_simple_and_free}
use Rattle.clap.specs.Kinds.{FailsBy}
use Rattle.clap.specs.Walk.{Rule, rule_of}
use Rattle.clap.specs.Simple.{Shape, App, HasMatchesOf, app_of, is_simple, new_app, subcommand_of, subcommand_rows_of, with_subcommand}
use Rattle.clap.specs.declared.error.Error.{Error}
use Rattle.clap.specs.declared.builder.arg.Arg.{Arg}
use Rattle.clap.specs.declared.builder.command.Command.{Command}
use Rattle.clap.specs.declared.builder.command.Command.TheViews.{out-Command}
use Rattle.clap.specs.declared.parser.matches.ArgMatches.{ArgMatches}
use Rattle.cli_words.specs.CommandLine.{words_of, IsLeaf, line, command_line}

-- the program's name and its settings
pub is_line : {version about : Bor (List ℕ)} (a b c d : Command) → app_of a ≡ new_app (codes "jnirun") → out-Command b ≡ record (out-Command a) { version = Some version } → out-Command c ≡ record (out-Command b) { about = Some about }
    → out-Command d ≡ record (out-Command c) { subcommand_required = true } → app_of d ≡ line
is_line a b c d new versioned told required =
    rw (required, told, versioned) (ap (λ (x : App). let y : App = record { top = record x.top { has_version = true; subcommand_required = true }; subs = x.subs } in y) new)

-- a command more
pub added : {E : Type 0} (old sub : Command) (r : Result Command E) (words : Shape) → IsLeaf words sub → IfOk r (AddsSubcommand old sub) → IfOk r (λ c. app_of c ≡ with_subcommand (app_of old) words)
added old sub (Ok new) words leaf h = h.shape leaf.1 ∙ ap (λ (x : Shape). with_subcommand (app_of old) x) leaf.0
added old sub (Err e) words leaf h = tt

-- a command more, where the line before is known
pub added_to : {E : Type 0} (old : App) (is : App) (r : Result Command E) (words : Shape) → old ≡ is → IfOk r (λ c. app_of c ≡ with_subcommand old words) → IfOk r (λ c. app_of c ≡ with_subcommand is words)
added_to old is (Ok c) words same h = h ∙ ap (λ (x : App). with_subcommand x words) same
added_to old is (Err e) words same h = tt

-- a command without words
pub begun : {about : Bor (List ℕ)} (a b : Command) (name : List ℕ) → app_of a ≡ new_app name → (out-Command a).has_globals ≡ false → out-Command b ≡ record (out-Command a) { about = Some about } → IsLeaf (words_of name []) b
begun a b name new local told = (rw told (ap (λ (x : App). x.top) new), rw told local)

-- a word more of a command
pub word_more : (old : Command) (word : Arg) (new : Command) (name : List ℕ) (rules : List Rule) (rule : Rule) → IsLeaf (words_of name rules) old → rule_of word ≡ rule → word.global ≡ false → AddsArg old word new
    → IsLeaf (words_of name (rules ++ rule ∷ [])) new
word_more old word new name rules rule leaf is local h = (
  ap (λ (a : App). a.top) (h.shape local) ∙ ap (λ (s : Shape). let t : Shape = record s { rules = s.rules ++ rule_of word ∷ [] } in t) leaf.0 ∙ ap (λ (r : Rule). words_of name (rules ++ r ∷ [])) is,
  h.globals ∙ rw (leaf.1, local) refl,
)

pub word_added : {E : Type 0} (old : Command) (word : Arg) (r : Result Command E) (name : List ℕ) (rules : List Rule) (rule : Rule) → IsLeaf (words_of name rules) old → rule_of word ≡ rule → word.global ≡ false → IfOk r (AddsArg old word)
    → IfOk r (IsLeaf (words_of name (rules ++ rule ∷ [])))
word_added old word (Ok new) name rules rule leaf is local h = word_more old word new name rules rule leaf is local h
word_added old word (Err e) name rules rule leaf is local h = tt

-- of such a command line `clap` says exactly what it makes of words
is_simple_line : is_simple_and_free command_line ≡ true
is_simple_line = refl

pub faults_of : {T : Type 0} (a : App) (words : List (List ℕ)) (r : Result T Error) → a ≡ command_line → (is_simple_and_free a ≡ true → FailsBy (fault_of a words) r) → FailsBy (fault_of command_line words) r
faults_of a words r is h = subst (λ (x : App). FailsBy (fault_of x words) r) is (h (ap is_simple_and_free is ∙ is_simple_line))

pub found_of_line : (a : App) (words : List (List ℕ)) (r : Result ArgMatches Error) → a ≡ command_line → IfOk r (HasMatchesOf a words) → IfOk r (λ m. subcommand_rows_of m ≡ subcommand_of command_line words)
found_of_line a words (Ok m) is h = (h (ap is_simple is ∙ refl)).1 ∙ ap (λ (x : App). subcommand_of x words) is
found_of_line a words (Err e) is h = tt
