use Rattle.std.proofs.Common.{◌≡◌, ℕ, ◌+◌, ◌<◌, ◌≤◌, List, [], length, map, drop, get_or, Option, Some, None, sym, ap, ◌∙◌, append-nil, Bor}
use Rattle.std.proofs.lemmas.List.{map-append, at_drop_more, at_drop_all}
use Rattle.world_schedules.specs.ReadingWords.{with_word}
use Rattle.world_schedules.proofs.WordLemmas.{after, after-nil, after_one}
use Rattle.world_values.specs.WorldLines.{WorldValue}
use Rattle.world_lines.specs.LineViews.{value_view}
use Rattle.world_lines.specs.ReadingValues.{value_named, values_named}
use Rattle.world_lines.proofs.value.read_values.Goals as goal

-- the values of the words from this place on
abbrev named_from : List (Bor (List ℕ)) → Option (List WorldValue)
named_from words = values_named (map (λ w. w.now) words)

abbrev no_word : Bor (List ℕ)
no_word = record { ref_ptr = (0, 0); now = [] }

module _ (words : List (Bor (List ℕ))) (i : ℕ) (front : List WorldValue) (all : Option (List WorldValue)) (so_far : after front (named_from (drop i words)) ≡ all) where
  one_more : (o : Option WorldValue) → i < length words → o ≡ value_named (get_or words i no_word).now → after front (with_word o (named_from (drop (i + 1) words))) ≡ all
  one_more o h e =
      ap (λ v. after front (with_word v (named_from (drop (i + 1) words)))) e
      ∙ sym (at_drop_more (λ ws. after front (named_from ws)) words i no_word h)
      ∙ so_far

  none_more : length words ≤ i → Some front ≡ all
  none_more h = sym (at_drop_all (λ ws. after front (named_from ws)) words i h ∙ ap Some (append-nil front)) ∙ so_far

pub loop-word-init : goal.loop-word-init
loop-word-init c =
    ap (λ vs. after (map value_view vs) (named_from c.args.words.now)) c.new-values.ensures.items ∙ after-nil (named_from c.args.words.now)

pub loop-word-preserved : goal.loop-word-preserved
loop-word-preserved c =
    let words = c.args.words.now in
    let front = map value_view c.loop-word.values.items in
    let v = value_view c.in-Some.value in
    let rest = named_from (drop (c.loop-word.word-index + 1) words) in
    ap (λ vs. after vs rest) (ap (map value_view) c.in_ok-push-in-Some.ensures.items ∙ map-append value_view c.loop-word.values.items _)
    ∙ sym (after_one front v rest)
    ∙ one_more words c.loop-word.word-index front (named_from words) c.loop-word.invariant (Some v) c.loop-word-test.true c.in-Some.ensures

pub returns-in-None : goal.returns-in-None
returns-in-None c = one_more c.args.words.now c.loop-word.word-index (map value_view c.loop-word.values.items) (named_from c.args.words.now) c.loop-word.invariant None c.loop-word-test.true c.in-None.ensures

pub returns : goal.returns
returns c = none_more c.args.words.now c.loop-word.word-index (map value_view c.loop-word.values.items) (named_from c.args.words.now) c.loop-word.invariant c.loop-word-test.false
