-- Programs of which all faults are told, one after the other.
use Rattle.std.proofs.Common.{◌≡◌, ◌≤◌, Bool, Result, Ok, Err, ◌+◌, ℕ, suc, List, [], ◌∷◌, ◌++◌, flat_map, length, map, max, arith, refl, ap, sym, subst, ◌∙◌, append_assoc, append-nil}
use Rattle.std.specs.Borrow.{Bor}
use Rattle.sinks.specs.Sink.{Written}
use Rattle.program_check.specs.AllFaults.{Entry, ToldFault, entry_of, AreFaults}
use Rattle.cli_commands.specs.Saying.{fault_line}
use Rattle.cli_logs.specs.Lists.{line_in, fault_lines, status_of, SaysFaults, ListsOne, on_text, has_no_file, EndsList, lacks_memory, loses_line, ListsOrEnds, ListsEach, none, one_more, ListsAll, all, ends}

-- ---- lines

-- the line of a fault in memory
abbrev pub line_for : (several : Bool) → (name : List ℕ) → ToldFault → List ℕ
line_for several name f = line_in several name (fault_line f.number f.place)

pub lines_are : (several : Bool) (name : List ℕ) (faults : List ToldFault) → flat_map (line_for several name) faults ≡ fault_lines several name (map entry_of faults)
lines_are several name [] = refl
lines_are several name (f ∷ faults) = ap (λ text. line_for several name f ++ text) (lines_are several name faults)

-- ---- one program

pub text_listed : (gives : List ℕ → List ℕ → Type 0) (lacks : List ℕ → Type 0) (several : Bool) (name program : List ℕ) (faults : List Entry) (out out_after : Written) (r : Result ℕ ℕ) → gives name program → AreFaults program faults
    → SaysFaults several name faults out out_after r → ListsOrEnds gives lacks several name out out_after r
text_listed gives lacks several name program faults out out_after (Ok status) given are (is, sent) = subst (ListsOne gives lacks several name out out_after) (sym is) (on_text program faults given are sent)
text_listed gives lacks several name program faults out out_after (Err status) given are (is, stopped) = (is, loses_line program faults given are stopped)

-- ---- files that are read

-- what files give and lack after some were read, they gave and lacked before
pub record Within (gives gives_before : List ℕ → List ℕ → Type 0) (lacks lacks_before : List ℕ → Type 0) : Type 0 where
  pub given : (name bytes : List ℕ) → gives name bytes → gives_before name bytes
  pub lacked : (name : List ℕ) → lacks name → lacks_before name

pub files_kept : {gives gives_now gives_before : List ℕ → List ℕ → Type 0} {lacks lacks_now lacks_before : List ℕ → Type 0}
    → ((name bytes : List ℕ) → gives name bytes → gives_now name bytes) → ((name : List ℕ) → lacks name → lacks_now name)
    → Within gives_now gives_before lacks_now lacks_before → Within gives gives_before lacks lacks_before
files_kept given lacked w = record { given = λ name bytes h. w.given name bytes (given name bytes h); lacked = λ name h. w.lacked name (lacked name h) }

listed_before : {gives gives_before : List ℕ → List ℕ → Type 0} {lacks lacks_before : List ℕ → Type 0} {several : Bool} {name : List ℕ} {out out_after : Written} {status : ℕ}
    → Within gives gives_before lacks lacks_before → ListsOne gives lacks several name out out_after status → ListsOne gives_before lacks_before several name out out_after status
listed_before w (on_text program faults given are sent) = on_text program faults (w.given _ program given) are sent
listed_before w (has_no_file lacking same) = has_no_file (w.lacked _ lacking) same

ended_before : {gives gives_before : List ℕ → List ℕ → Type 0} {lacks lacks_before : List ℕ → Type 0} {several : Bool} {name : List ℕ} {out out_after : Written}
    → Within gives gives_before lacks lacks_before → EndsList gives lacks several name out out_after → EndsList gives_before lacks_before several name out out_after
ended_before w (lacks_memory same) = lacks_memory same
ended_before w (loses_line program faults given are stopped) = loses_line program faults (w.given _ program given) are stopped

listed_out : {gives : List ℕ → List ℕ → Type 0} {lacks : List ℕ → Type 0} {several : Bool} {name : List ℕ} {out out_after : Written} {status : ℕ}
    → ListsOne gives lacks several name out out_after status → out_after.failures ≡ out.failures
listed_out (on_text program faults given are sent) = sent.appended.failures
listed_out (has_no_file lacking same) = ap (λ (w : Written). w.failures) same

-- ---- one program after the other

abbrev pub texts_of : List (Bor (List ℕ)) → List (List ℕ)
texts_of = map (λ name. name.now)

-- what is done of the programs before the rest
pub record SoFar (gives : List ℕ → List ℕ → Type 0) (lacks : List ℕ → Type 0) (several : Bool) (names rest : List (Bor (List ℕ))) (out out_now : Written) (status : ℕ) (failures failures_now : ℕ) : Type 0 where
  pub done : List (List ℕ)
  pub whole : texts_of names ≡ done ++ texts_of rest
  pub listed : ListsEach gives lacks several out done out_now status
  pub out_kept : out_now.failures ≡ out.failures
  pub err_room : failures_now + length rest ≤ failures + length names

pub starts : (gives : List ℕ → List ℕ → Type 0) (lacks : List ℕ → Type 0) (several : Bool) (names : List (Bor (List ℕ))) (out : Written) (failures : ℕ) → SoFar gives lacks several names names out out 0 failures failures
starts gives lacks several names out failures = record { done = []; whole = refl; listed = none; out_kept = refl; err_room = omega arith }

pub goes_on : {gives gives_now : List ℕ → List ℕ → Type 0} {lacks lacks_now : List ℕ → Type 0} {several : Bool} {names rest : List (Bor (List ℕ))} {out out_now out_next : Written} {status one next failures failures_now failures_next : ℕ}
    (name : Bor (List ℕ)) (after : List (Bor (List ℕ))) → SoFar gives lacks several names rest out out_now status failures failures_now → rest ≡ name ∷ after
    → Within gives_now gives lacks_now lacks → ListsOne gives_now lacks_now several name.now out_now out_next one → failures_next ≤ failures_now + 1 → next ≡ max status one
    → SoFar gives lacks several names after out out_next next failures failures_next
goes_on {gives} {gives_now} {lacks} {lacks_now} {several} {names} {rest} {out} {out_now} {out_next} {status} {one} {next} {failures} {failures_now} {failures_next} name after s e w h more greatest =
    let count : length rest ≡ suc (length after) = ap length e in
    let room = s.err_room in
    record {
      done = s.done ++ name.now ∷ [];
      whole = s.whole ∙ ap (λ (r : List (Bor (List ℕ))). s.done ++ texts_of r) e ∙ sym (append_assoc s.done (name.now ∷ []) (texts_of after));
      listed = subst (ListsEach gives lacks several out (s.done ++ name.now ∷ []) out_next) (sym greatest)
          (one_more s.done name.now out_now out_next status one s.listed (listed_before w h));
      out_kept = listed_out h ∙ s.out_kept;
      err_room = omega (arith, count, more, room);
    }

pub ends_at : {gives gives_now : List ℕ → List ℕ → Type 0} {lacks lacks_now : List ℕ → Type 0} {several : Bool} {names rest : List (Bor (List ℕ))} {out out_now out_after : Written} {status last failures failures_now : ℕ}
    (name : Bor (List ℕ)) (after : List (Bor (List ℕ))) → SoFar gives lacks several names rest out out_now status failures failures_now → rest ≡ name ∷ after
    → Within gives_now gives lacks_now lacks → EndsList gives_now lacks_now several name.now out_now out_after → last ≡ 3
    → ListsAll gives lacks several (texts_of names) out out_after last
ends_at {gives} {gives_now} {lacks} {lacks_now} {several} {names} {rest} {out} {out_now} {out_after} {status} {last} name after s e w h is =
    subst (ListsAll gives lacks several (texts_of names) out out_after) (sym is)
    (ends s.done name.now (texts_of after) out_now status (s.whole ∙ ap (λ (r : List (Bor (List ℕ))). s.done ++ texts_of r) e) s.listed (ended_before w h))

pub finished : {gives : List ℕ → List ℕ → Type 0} {lacks : List ℕ → Type 0} {several : Bool} {names rest : List (Bor (List ℕ))} {out out_now : Written} {status failures failures_now : ℕ}
    → SoFar gives lacks several names rest out out_now status failures failures_now → rest ≡ [] → ListsAll gives lacks several (texts_of names) out out_now status
finished {gives} {lacks} {several} {names} {rest} {out} {out_now} {status} s e =
    let whole : texts_of names ≡ s.done = s.whole ∙ ap (λ (r : List (Bor (List ℕ))). s.done ++ texts_of r) e ∙ append-nil s.done in
    all status (subst (λ (names : List (List ℕ)). ListsEach gives lacks several out names out_now status) (sym whole) s.listed)
