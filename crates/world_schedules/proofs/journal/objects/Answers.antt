use Rattle.std.proofs.Common.{◌≡◌, ◌∷◌, ◌++◌, ℕ, List, [], Option, Some, None, ap, sym, ◌∙◌, append-nil}
use Rattle.std.specs.Option.{option_map}
use Rattle.std.proofs.lemmas.List.{map-append}
use Rattle.semantics.specs.declared.object_id.ObjectId.{ObjectId}
use Rattle.semantics.specs.Views.{names_of}
use Rattle.world_schedules.specs.ReadingJournals.{name_spelled, names_spelled}
use Rattle.world_schedules.specs.ReadingWords.{with_word}
use Rattle.world_schedules.specs.Split.{parts_left, parts_of}
use Rattle.world_schedules.proofs.WordLemmas.{after, after_one}
use Rattle.world_schedules.proofs.journal.objects.Goals as goal

-- one name more
one_more : (part : List ℕ) (left rest : List (List ℕ)) (front : List ObjectId) (all : Option (List ℕ)) (o : ObjectId) → left ≡ part ∷ rest → Some o.number ≡ name_spelled part → after (names_of front) (names_spelled left) ≡ all
    → after (names_of (front ++ o ∷ [])) (names_spelled rest) ≡ all
one_more part left rest front all o e is so_far =
    ap (λ (l : List ℕ). after l (names_spelled rest)) (map-append (λ (x : ObjectId). x.number) front (o ∷ []))
    ∙ sym (after_one (names_of front) o.number (names_spelled rest))
    ∙ ap (λ n. after (names_of front) (with_word n (names_spelled rest))) is
    ∙ ap (λ ps. after (names_of front) (names_spelled ps)) (sym e)
    ∙ so_far

-- a part that spells no name
no_name : (part : List ℕ) (left rest : List (List ℕ)) (front : List ℕ) (all : Option (List ℕ)) → left ≡ part ∷ rest → None ≡ name_spelled part → after front (names_spelled left) ≡ all → None ≡ all
no_name part left rest front all e is so_far =
    ap (λ n. after front (with_word n (names_spelled rest))) is ∙ ap (λ ps. after front (names_spelled ps)) (sym e) ∙ so_far

-- no part is left
all_named : (left : List (List ℕ)) (front : List ℕ) (all : Option (List ℕ)) → left ≡ [] → after front (names_spelled left) ≡ all → Some front ≡ all
all_named left front all e so_far = ap Some (sym (append-nil front)) ∙ ap (λ ps. after front (names_spelled ps)) (sym e) ∙ so_far

pub loop-part-preserved : goal.loop-part-preserved
loop-part-preserved c =
    rw c.in_ok-push-in-Some-object.ensures.items
    (one_more c.in-Some.part.now (parts_left c.loop-part.part-iterator) (parts_left c.next.new.self) c.loop-part.objects.items (names_spelled (parts_of 44 c.args.names.now)) c.in-Some-object.object
    c.in-Some.ensures.steps (ap (option_map (λ (o : ObjectId). o.number)) (sym c.in-Some-object.is) ∙ c.object.ensures) c.loop-part.invariant)

pub returns-in-None-object : goal.returns-in-None-object
returns-in-None-object c =
    no_name c.in-Some.part.now (parts_left c.loop-part.part-iterator) (parts_left c.next.new.self) (names_of c.loop-part.objects.items) (names_spelled (parts_of 44 c.args.names.now))
    c.in-Some.ensures.steps (ap (option_map (λ (o : ObjectId). o.number)) (sym c.in-None-object.is) ∙ c.object.ensures) c.loop-part.invariant

pub returns : goal.returns
returns c = all_named (parts_left c.loop-part.part-iterator) (names_of c.loop-part.objects.items) (names_spelled (parts_of 44 c.args.names.now)) c.in-None.ensures.steps.0 c.loop-part.invariant
