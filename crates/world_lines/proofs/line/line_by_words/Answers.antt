use Rattle.std.proofs.Common.{subst, sym, ◌∙◌, ◌≡◌, false, true, ℕ, List, [], Bor}
use Rattle.std.specs.Prelude.{IfOk}
use Rattle.std.specs.Option.{option_map}
use Rattle.world_lines.specs.LineViews.{line_view}
use Rattle.world_lines.proofs.WordsOfLines.{by_kind, by_string, parts_are}
use Rattle.world_lines.proofs.line.line_by_words.Goals as goal

abbrev no_word : Bor (List ℕ)
no_word = record { ref_ptr = (0, 0); now = [] }

pub string_line-requires : goal.string_line-requires
string_line-requires c = parts_are c.args.bytes.now c.args.words.now no_word c.in-len1-up.len_at_least c.requires

pub returns-then-eq : goal.returns-then-eq
returns-then-eq c = c.string_line.ensures ∙ sym (by_string c.args.bytes.now c.args.words.now no_word c.in-len1-up.len_at_least c.requires (cc))

pub returns-then-are_nonempty : goal.returns-then-are_nonempty
returns-then-are_nonempty c =
    let e = by_kind c.args.bytes.now c.args.words.now no_word c.in-len1-up.len_at_least c.requires true (cc) (sym c.if-are_nonempty.ensures) in
    subst (λ read. IfOk c.line_of_kind.result (λ line. option_map line_view line ≡ read)) (sym e) c.line_of_kind.ensures

pub returns-else-are_nonempty : goal.returns-else-are_nonempty
returns-else-are_nonempty c =
    sym (by_kind c.args.bytes.now c.args.words.now no_word c.in-len1-up.len_at_least c.requires false (cc) (sym c.if-are_nonempty.ensures))
