use Rattle.std.proofs.Common.{◌≡◌, ℕ, ◌+◌, ◌≤◌, List, [], ◌∷◌, ◌++◌, length, drop, Some, Result, Ok, Err, refl, sym, ap, subst, ◌∙◌, append_assoc, arith}
use Rattle.std.specs.Prelude.{codes}
use Rattle.std.specs.Prelude.{slice_get}
use Rattle.std.proofs.lemmas.Option.{get_or_from_slice_get, slice_get_within}
use Rattle.std.proofs.lemmas.Result.{err_from_is_err_and}
use Rattle.semantics.specs.Journal.{Entry, clearings_in}
use Rattle.semantics.specs.JournalText.{entry_text}
use Rattle.semantics.specs.JournalText.{spelled_entries}
use Rattle.report.specs.RunText.{IsGathered, entry_shown}
use Rattle.report.specs.declared.entries.ShownEntry.{ShownEntry}
use Rattle.sinks.specs.Sink.{Written, AppendsText, StopsWithin, Writes}
use Rattle.sinks.proofs.Puts.{AppendsText-nil, PutSoFar, goes_on, is_all, stops, flat_map-at, flat_map-past}
use Rattle.report.proofs.Clearings.{clearings_so_far, no_more_clearings}
use Rattle.report.proofs.writing.put_entries.Goals as goal
use Rattle.report.proofs.writing.put_entries.Goals.{then-remaining_capacity-lt5+in_ok-put_all, else-remaining_capacity-lt5, in-Step, in-Clearing+in_ok-put_after-in-Clearing}

-- the words from an entry on
from_here : (entries : List Entry) (i : ℕ) (e : Entry) → slice_get entries i ≡ Some e → spelled_entries (drop i entries) ≡ (codes " " ++ entry_text e) ++ spelled_entries (drop (i + 1) entries)
from_here entries i e at =
    flat_map-at (λ x. codes " " ++ entry_text x) entries i e (slice_get_within entries i e at)
    ∙ ap (λ (x : Entry). (codes " " ++ entry_text x) ++ spelled_entries (drop (i + 1) entries)) (get_or_from_slice_get entries i e e at)

-- one entry more was gathered
gathers : (old now after : Written) (entries : List Entry) (i : ℕ) (e : Entry) (text next : List ℕ) → slice_get entries i ≡ Some e → PutSoFar old now (spelled_entries entries) (text ++ spelled_entries (drop i entries))
    → IsGathered now after text next (codes " " ++ entry_text e) → PutSoFar old after (spelled_entries entries) (next ++ spelled_entries (drop (i + 1) entries))
gathers old now after entries i e text next found s got =
    let word : List ℕ = codes " " ++ entry_text e in
    let rest : List ℕ = spelled_entries (drop (i + 1) entries) in
    let at : spelled_entries (drop i entries) ≡ word ++ rest = from_here entries i e found in
    goes_on old now after (spelled_entries entries) (text ++ spelled_entries (drop i entries)) got.part (next ++ rest) s
    (ap (λ (r : List ℕ). text ++ r) at ∙ sym (append_assoc text word rest) ∙ ap (λ (t : List ℕ). t ++ rest) (sym got.rest) ∙ append_assoc got.part next rest) got.put

-- the sink failed on the way to it
gathers_not : (old now after : Written) (entries : List Entry) (i : ℕ) (e : Entry) (text : List ℕ) → slice_get entries i ≡ Some e → PutSoFar old now (spelled_entries entries) (text ++ spelled_entries (drop i entries))
    → StopsWithin now after (text ++ (codes " " ++ entry_text e)) → StopsWithin old after (spelled_entries entries)
gathers_not old now after entries i e text found s p =
    let word : List ℕ = codes " " ++ entry_text e in
    let rest : List ℕ = spelled_entries (drop (i + 1) entries) in
    let at : spelled_entries (drop i entries) ≡ word ++ rest = from_here entries i e found in
    stops old now after (spelled_entries entries) (text ++ spelled_entries (drop i entries)) (text ++ word) rest s (ap (λ (r : List ℕ). text ++ r) at ∙ sym (append_assoc text word rest)) p

-- what was gathered was put
put_on : (old now next : Written) (all text rest empty : List ℕ) → PutSoFar old now all (text ++ rest) → AppendsText now next text → empty ≡ [] → PutSoFar old next all (empty ++ rest)
put_on old now next all text rest empty s p e =
    subst (PutSoFar old next all) (ap (λ (t : List ℕ). t ++ rest) (sym e)) (goes_on old now next all (text ++ rest) text rest s refl p)

-- what was gathered last is put
puts_last : {T E : Type 0} (old now next : Written) (r : Result T E) (entries : List Entry) (i : ℕ) (text : List ℕ) → length entries ≤ i → PutSoFar old now (spelled_entries entries) (text ++ spelled_entries (drop i entries))
    → Writes now next r text → Writes old next r (spelled_entries entries)
puts_last old now next (Ok x) entries i text h s p =
    is_all old next (spelled_entries entries) (spelled_entries (drop i entries)) (goes_on old now next (spelled_entries entries) (text ++ spelled_entries (drop i entries)) text (spelled_entries (drop i entries)) s refl p)
    (flat_map-past (λ x. codes " " ++ entry_text x) entries i h)
puts_last old now next (Err x) entries i text h s p =
    stops old now next (spelled_entries entries) (text ++ spelled_entries (drop i entries)) text (spelled_entries (drop i entries)) s refl p

pub returns-in_err-put_all : goal.returns-in_err-put_all
returns-in_err-put_all g c =
    let p = err_from_is_err_and c.from_residual.result c.from_residual.ensures.1 in
    rw p.1 (stops _ _ _ _ _ c.loop-place.text.items (spelled_entries (drop c.loop-place.place (g.E.Entries.entries c.args.entries.now))) c.loop-place.invariant.so_far refl (rw c.as_slice.ensures.value at c.in_err-put_all.ensures))

-- what was put before the entry
pub loop-place-preserved : goal.loop-place-preserved
loop-place-preserved g c =
    let w = g.S.Sink.written in
    let entries = g.E.Entries.entries c.args.entries.now in
    let e = entry_shown c.entry.result in
    let text : List ℕ = c.if-remaining_capacity-lt5.text.items in
    let rest : List ℕ = spelled_entries (drop c.loop-place.place entries) in
    let so_far : PutSoFar (w c.args.sink.now) (w c.if-remaining_capacity-lt5.sink) (spelled_entries entries) (text ++ rest) =
    elim c.if-remaining_capacity-lt5.branch [
      | then-remaining_capacity-lt5+in_ok-put_all v ↦
          rw (v.sink-is, v.text-is) (put_on (w c.args.sink.now) (w c.loop-place.sink) (w v.put_all.new.sink) (spelled_entries entries) c.loop-place.text.items rest v.clear.new.self.items
          c.loop-place.invariant.so_far (rw v.as_slice.ensures.value at v.in_ok-put_all.ensures) v.clear.ensures)
      | else-remaining_capacity-lt5 v ↦ rw (v.sink-is, v.text-is) c.loop-place.invariant.so_far
    ] in
    let more = clearings_so_far entries c.loop-place.place e c.entry.ensures in
    record {
      before = elim c.match-entry.branch [
        | in-Step v ↦
            let none : clearings_in (e ∷ []) ≡ 0 = ap (λ (x : ShownEntry). clearings_in (entry_shown x ∷ [])) v.in-Step.is in
            rw v.clearings-is (omega (arith, more, c.loop-place.invariant.before, none))
        | in-Clearing+in_ok-put_after-in-Clearing v ↦
            let one : clearings_in (e ∷ []) ≡ 1 = ap (λ (x : ShownEntry). clearings_in (entry_shown x ∷ [])) v.in-Clearing.is in
            rw v.clearings-is (omega (arith, more, c.loop-place.invariant.before, one))
      ];
      so_far = elim c.match-entry.branch [
        | in-Step v ↦
            rw (v.sink-is, v.text-is) (gathers (w c.args.sink.now) (w c.if-remaining_capacity-lt5.sink) (w c.if-remaining_capacity-lt5.sink) entries c.loop-place.place e text v.push_step.new.text.items c.entry.ensures so_far (record {
              part = [];
              put = AppendsText-nil (w c.if-remaining_capacity-lt5.sink);
              rest = v.push_step.ensures ∙ ap (λ (x : ShownEntry). text ++ (codes " " ++ entry_text (entry_shown x))) (sym v.in-Step.is);
            }))
        | in-Clearing+in_ok-put_after-in-Clearing v ↦
            rw (v.sink-is, v.text-is) (gathers (w c.args.sink.now) (w c.if-remaining_capacity-lt5.sink) (w v.put_after.new.sink) entries c.loop-place.place e text v.put_after.new.text.items c.entry.ensures so_far
            (subst (λ (x : ShownEntry). IsGathered (w c.if-remaining_capacity-lt5.sink) (w v.put_after.new.sink) text v.put_after.new.text.items (codes " " ++ entry_text (entry_shown x))) (sym v.in-Clearing.is) v.in_ok-put_after-in-Clearing.ensures))
      ];
    }

pub returns-in_err-put_after-in-Clearing : goal.returns-in_err-put_after-in-Clearing
returns-in_err-put_after-in-Clearing g c =
    let w = g.S.Sink.written in
    let entries = g.E.Entries.entries c.args.entries.now in
    let e = entry_shown c.entry.result in
    let text : List ℕ = c.if-remaining_capacity-lt5.text.items in
    let p = err_from_is_err_and c.from_residual-in_err-put_after-in-Clearing.result c.from_residual-in_err-put_after-in-Clearing.ensures.1 in
    let rest : List ℕ = spelled_entries (drop c.loop-place.place entries) in
    let so_far : PutSoFar (w c.args.sink.now) (w c.if-remaining_capacity-lt5.sink) (spelled_entries entries) (text ++ rest) =
    elim c.if-remaining_capacity-lt5.branch [
      | then-remaining_capacity-lt5+in_ok-put_all v ↦
          rw (v.sink-is, v.text-is) (put_on (w c.args.sink.now) (w c.loop-place.sink) (w v.put_all.new.sink) (spelled_entries entries) c.loop-place.text.items rest v.clear.new.self.items
          c.loop-place.invariant.so_far (rw v.as_slice.ensures.value at v.in_ok-put_all.ensures) v.clear.ensures)
      | else-remaining_capacity-lt5 v ↦ rw (v.sink-is, v.text-is) c.loop-place.invariant.so_far
    ] in
    rw p.1 (gathers_not (w c.args.sink.now) (w c.if-remaining_capacity-lt5.sink) (w c.put_after.new.sink) entries c.loop-place.place e text c.entry.ensures so_far
    (subst (λ (x : ShownEntry). StopsWithin (w c.if-remaining_capacity-lt5.sink) (w c.put_after.new.sink) (text ++ (codes " " ++ entry_text (entry_shown x)))) (sym c.in-Clearing.is) c.in_err-put_after-in-Clearing.ensures))

pub overflow_add-clearings : goal.overflow_add-clearings
overflow_add-clearings g c =
    omega (arith, no_more_clearings (g.E.Entries.entries c.args.entries.now) c.loop-place.place, c.loop-place.invariant.before, c.loop-place-test.true, c.len-place-end.type_inv)

pub returns : goal.returns
returns g c =
    puts_last _ _ _ c.put_all-2.result (g.E.Entries.entries c.args.entries.now) c.loop-place.place c.loop-place.text.items (omega (arith, c.loop-place-test.false, c.len-place-end.ensures)) c.loop-place.invariant.so_far (rw c.as_slice-2.ensures.value at c.put_all-2.ensures)
