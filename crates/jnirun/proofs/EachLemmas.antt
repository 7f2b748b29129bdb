-- Programs that are checked one after the other.
use Rattle.std.proofs.Common.{◌≡◌, ◌≤◌, Result, Ok, Err, ◌+◌, ℕ, suc, List, [], ◌∷◌, ◌++◌, length, map, max, inl, inr, arith, refl, ap, sym, subst, ◌∙◌, append_assoc, append-nil}
use Rattle.std.specs.Borrow.{Bor}
use Rattle.std.specs.Prelude.{OnOk, codes}
use Rattle.sinks.specs.Sink.{Written, Writes}
use Rattle.places.specs.declared.place.Place.{Place}
use Rattle.program_check.specs.Checks.{FailsCheck}
use Rattle.cli_commands.specs.Saying.{SendsText, Tells, fault_line, line_of}
use Rattle.cli_commands.specs.Telling.{told}
use Rattle.cli_commands.proofs.SayingLemmas.{tells}
use Rattle.jnirun.specs.Serve.{fault_words}
use Rattle.jnirun.specs.ServeEach.{SaysOne, is_passed, is_refused, ChecksOne, on_text, has_no_file, EndsAt, fails_on, cannot_read, SaysOrFails, ChecksOrEnds, ChecksEach, none, one_more, ServesEach, all, ends}

-- ---- one program

-- a fault that is written and told is a refusal
pub one_refused : (name program : List ℕ) (number : ℕ) (place : Place) (words detail at source : List ℕ) (out out_after err err_after : Written) {T E : Type 0} (r : Result T E) → words ≡ fault_words number → at ≡ name → source ≡ name
    → FailsCheck program number place → SendsText out out_after (line_of at (fault_line number place))
    → Writes err err_after r (told (codes "error") source program number place words detail) → OnOk r (err_after.waiting ≡ 0) → SaysOne name program out out_after err err_after 1
one_refused name program number place words detail at source out out_after err err_after r titled named same_source fails sent h none_waits =
    let same : told (codes "error") source program number place words detail ≡ told (codes "error") name program number place (fault_words number) detail = rw (titled, same_source) refl in
    is_refused number place detail fails (subst (λ (n : List ℕ). SendsText out out_after (line_of n (fault_line number place))) named sent)
    (tells err err_after r _ (subst (λ (t : List ℕ). Writes err err_after r t) same h) none_waits)

-- what is said of a text that was read
pub text_checked : (gives : List ℕ → List ℕ → Type 0) (lacks : List ℕ → Type 0) (name program : List ℕ) (out out_after err err_after : Written) (r : Result ℕ ℕ) → gives name program
    → SaysOrFails name program out out_after err err_after r → ChecksOrEnds gives lacks name out out_after err err_after r
text_checked gives lacks name program out out_after err err_after (Ok status) given said = on_text program status given said
text_checked gives lacks name program out out_after err err_after (Err status) given (is, failed) = (is, fails_on program given failed)

-- ---- files that are read

-- what files give and lack after some were read, they gave and lacked before
pub record Within (gives gives_before : List ℕ → List ℕ → Type 0) (lacks lacks_before : List ℕ → Type 0) : Type 0 where
  pub given : (name bytes : List ℕ) → gives name bytes → gives_before name bytes
  pub lacked : (name : List ℕ) → lacks name → lacks_before name

-- one more file is read
pub files_kept : {gives gives_now gives_before : List ℕ → List ℕ → Type 0} {lacks lacks_now lacks_before : List ℕ → Type 0}
    → ((name bytes : List ℕ) → gives name bytes → gives_now name bytes) → ((name : List ℕ) → lacks name → lacks_now name)
    → Within gives_now gives_before lacks_now lacks_before → Within gives gives_before lacks lacks_before
files_kept given lacked w = record { given = λ name bytes h. w.given name bytes (given name bytes h); lacked = λ name h. w.lacked name (lacked name h) }

checked_before : {gives gives_before : List ℕ → List ℕ → Type 0} {lacks lacks_before : List ℕ → Type 0} {name : List ℕ} {out out_after err err_after : Written} {status : ℕ}
    → Within gives gives_before lacks lacks_before → ChecksOne gives lacks name out out_after err err_after status
    → ChecksOne gives_before lacks_before name out out_after err err_after status
checked_before w (on_text program status given said) = on_text program status (w.given _ program given) said
checked_before w (has_no_file lacking same told) = has_no_file (w.lacked _ lacking) same told

ended_before : {gives gives_before : List ℕ → List ℕ → Type 0} {lacks lacks_before : List ℕ → Type 0} {name : List ℕ} {out out_after err err_after : Written}
    → Within gives gives_before lacks lacks_before → EndsAt gives name out out_after err err_after → EndsAt gives_before name out out_after err err_after
ended_before w (fails_on program given failed) = fails_on program (w.given _ program given) failed
ended_before w (cannot_read same told) = cannot_read same told

-- ---- failures of the sinks

pub told_failures : {err err_after : Written} {text : List ℕ} → Tells err err_after text → err_after.failures ≤ err.failures + 1
told_failures (inl sent) = let same = sent.appended.failures in omega (arith, same)
told_failures (inr stopped) = let more = stopped.failures in omega (arith, more)

said_out : {name program : List ℕ} {out out_after err err_after : Written} {status : ℕ} → SaysOne name program out out_after err err_after status → out_after.failures ≡ out.failures
said_out (is_passed passes sent same) = sent.appended.failures
said_out (is_refused number place detail fails sent told) = sent.appended.failures

said_err : {name program : List ℕ} {out out_after err err_after : Written} {status : ℕ} → SaysOne name program out out_after err err_after status → err_after.failures ≤ err.failures + 1
said_err (is_passed passes sent same) = let e = ap (λ (w : Written). w.failures) same in omega (arith, e)
said_err (is_refused number place detail fails sent told) = told_failures told

checked_out : {gives : List ℕ → List ℕ → Type 0} {lacks : List ℕ → Type 0} {name : List ℕ} {out out_after err err_after : Written} {status : ℕ}
    → ChecksOne gives lacks name out out_after err err_after status → out_after.failures ≡ out.failures
checked_out (on_text program status given said) = said_out said
checked_out (has_no_file lacking same told) = ap (λ (w : Written). w.failures) same

checked_err : {gives : List ℕ → List ℕ → Type 0} {lacks : List ℕ → Type 0} {name : List ℕ} {out out_after err err_after : Written} {status : ℕ}
    → ChecksOne gives lacks name out out_after err err_after status → err_after.failures ≤ err.failures + 1
checked_err (on_text program status given said) = said_err said
checked_err (has_no_file lacking same told) = told_failures told

-- ---- one program after the other

abbrev pub texts_of : List (Bor (List ℕ)) → List (List ℕ)
texts_of = map (λ name. name.now)

-- what is done of the programs before the rest
pub record SoFar (gives : List ℕ → List ℕ → Type 0) (lacks : List ℕ → Type 0) (names rest : List (Bor (List ℕ))) (out out_now err err_now : Written) (status : ℕ) : Type 0 where
  pub done : List (List ℕ)
  pub whole : texts_of names ≡ done ++ texts_of rest
  pub checked : ChecksEach gives lacks out err done out_now err_now status
  pub out_kept : out_now.failures ≡ out.failures
  pub err_room : err_now.failures + length rest ≤ err.failures + length names

pub starts : (gives : List ℕ → List ℕ → Type 0) (lacks : List ℕ → Type 0) (names : List (Bor (List ℕ))) (out err : Written) → SoFar gives lacks names names out out err err 0
starts gives lacks names out err = record { done = []; whole = refl; checked = none; out_kept = refl; err_room = omega arith }

pub goes_on : {gives gives_now : List ℕ → List ℕ → Type 0} {lacks lacks_now : List ℕ → Type 0} {names rest : List (Bor (List ℕ))} {out out_now out_next err err_now err_next : Written} {status one next : ℕ}
    (name : Bor (List ℕ)) (after : List (Bor (List ℕ))) → SoFar gives lacks names rest out out_now err err_now status → rest ≡ name ∷ after
    → Within gives_now gives lacks_now lacks → ChecksOne gives_now lacks_now name.now out_now out_next err_now err_next one → next ≡ max status one
    → SoFar gives lacks names after out out_next err err_next next
goes_on {gives} {gives_now} {lacks} {lacks_now} {names} {rest} {out} {out_now} {out_next} {err} {err_now} {err_next} {status} {one} {next} name after s e w h greatest =
    let count : length rest ≡ suc (length after) = ap length e in
    let told = checked_err h in
    let room = s.err_room in
    record {
      done = s.done ++ name.now ∷ [];
      whole = s.whole ∙ ap (λ (r : List (Bor (List ℕ))). s.done ++ texts_of r) e ∙ sym (append_assoc s.done (name.now ∷ []) (texts_of after));
      checked = subst (ChecksEach gives lacks out err (s.done ++ name.now ∷ []) out_next err_next) (sym greatest)
          (one_more s.done name.now out_now out_next err_now err_next status one s.checked (checked_before w h));
      out_kept = checked_out h ∙ s.out_kept;
      err_room = omega (arith, count, told, room);
    }

pub ends_at : {gives gives_now : List ℕ → List ℕ → Type 0} {lacks lacks_now : List ℕ → Type 0} {names rest : List (Bor (List ℕ))} {out out_now out_after err err_now err_after : Written} {status last : ℕ}
    (name : Bor (List ℕ)) (after : List (Bor (List ℕ))) → SoFar gives lacks names rest out out_now err err_now status → rest ≡ name ∷ after
    → Within gives_now gives lacks_now lacks → EndsAt gives_now name.now out_now out_after err_now err_after → last ≡ 3
    → ServesEach gives lacks (texts_of names) out out_after err err_after last
ends_at {gives} {gives_now} {lacks} {lacks_now} {names} {rest} {out} {out_now} {out_after} {err} {err_now} {err_after} {status} {last} name after s e w h is =
    subst (ServesEach gives lacks (texts_of names) out out_after err err_after) (sym is)
    (ends s.done name.now (texts_of after) out_now err_now status
    (s.whole ∙ ap (λ (r : List (Bor (List ℕ))). s.done ++ texts_of r) e) s.checked (ended_before w h))

pub finished : {gives : List ℕ → List ℕ → Type 0} {lacks : List ℕ → Type 0} {names rest : List (Bor (List ℕ))} {out out_now err err_now : Written} {status : ℕ}
    → SoFar gives lacks names rest out out_now err err_now status → rest ≡ [] → ServesEach gives lacks (texts_of names) out out_now err err_now status
finished {gives} {lacks} {names} {rest} {out} {out_now} {err} {err_now} {status} s e =
    let whole : texts_of names ≡ s.done = s.whole ∙ ap (λ (r : List (Bor (List ℕ))). s.done ++ texts_of r) e ∙ append-nil s.done in
    all status (subst (λ (names : List (List ℕ)). ChecksEach gives lacks out err names out_now err_now status) (sym whole) s.checked)
