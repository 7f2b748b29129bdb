-- What is said on standard error, as how a command goes.
use Rattle.std.proofs.Common.{◌≡◌, ℕ, List, [], Some, Result, refl, subst}
use Rattle.std.specs.Prelude.{OnOk, codes}
use Rattle.sinks.specs.Sink.{Written, Writes}
use Rattle.cli_commands.specs.declared.command.Command.{Command}
use Rattle.places.specs.declared.place.Place.{Place}
use Rattle.places.specs.declared.place.Place.TheVariants.{Line}
use Rattle.places.specs.declared.place.Text.{Text}
use Rattle.places.specs.declared.place.Text.TheVariants as which
use Rattle.replay.specs.declared.trap_at.TrapAt.{TrapAt}
use Rattle.places.specs.Places.{text_at}
use Rattle.cli_commands.specs.Commands.{name_of, text_of}
use Rattle.cli_commands.specs.Saying.{SendsText, fault_line}
use Rattle.jnirun.specs.Serve.{TextsEarn, fault_words, trap_words, error_text, trap_text, TellsTrap, ServesTexts, is_refused}
use Rattle.cli_commands.specs.Telling.{told}
use Rattle.cli_commands.proofs.SayingLemmas.{tells}

-- a trap is told
pub trap_told : (command : Command) (program : List ℕ) (err err_after : Written) (trap : TrapAt) (words name : List ℕ) {T E : Type 0} (r : Result T E) → words ≡ trap_words trap.number → name ≡ name_of command which.Program
    → Writes err err_after r (told (codes "trap") name program trap.number (Line which.Program trap.line) words []) → OnOk r (err_after.waiting ≡ 0) → TellsTrap command program err err_after (Some trap)
trap_told command program err err_after trap words name r titled named h none =
    let same : told (codes "trap") name program trap.number (Line which.Program trap.line) words [] ≡ trap_text command program trap = rw (titled, named) refl in
    tells err err_after r (trap_text command program trap) (subst (λ (t : List ℕ). Writes err err_after r t) same h) none

-- a fault that is written and told is a refusal
pub refused : (command : Command) (program world order : List ℕ) (number : ℕ) (place : Place) (words detail name text : List ℕ) (which : Text) (out out_after err err_after : Written) {T E : Type 0} (r : Result T E)
    → words ≡ fault_words number → which ≡ text_at place → name ≡ name_of command which → text ≡ text_of program world order which
    → TextsEarn command program world order number place → SendsText out out_after (fault_line number place)
    → Writes err err_after r (told (codes "error") name text number place words detail) → OnOk r (err_after.waiting ≡ 0) → ServesTexts command program world order out out_after err err_after 1
refused command program world order number place words detail name text which out out_after err err_after r titled at named is earned sent h none =
    let same : told (codes "error") name text number place words detail ≡ error_text command program world order number place detail = rw (titled, named, is, at) refl in
    is_refused number place detail earned sent (tells err err_after r (error_text command program world order number place detail) (subst (λ (t : List ℕ). Writes err err_after r t) same h) none)
