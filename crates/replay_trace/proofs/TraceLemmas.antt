-- Texts that are written one after the other.
use Rattle.std.proofs.Common.{ℕ, List, [], ◌++◌, Result, Ok, Err, refl, sym, append-nil}
use Rattle.std.specs.Io.KnownBytes.{Keeps}
use Rattle.std.proofs.KnownBytes.{Appends-nil, Appends-kept}
use Rattle.sinks.specs.Sink.{Written, AppendsText, StopsWithin, Writes}
use Rattle.sinks.proofs.Puts.{AppendsText-nil, AppendsText-then, stops}
use Rattle.replay_trace.specs.Traces.{GoesOn, WritesSome}

-- some text was written
pub record HasWritten (old now : Written) : Type 0 where
  pub text : List ℕ
  pub put : AppendsText old now text

pub starts : (w : Written) → HasWritten w w
starts w = record { text = []; put = AppendsText-nil w }

-- what is written of a text is something
pub some : {T E : Type 0} (old new : Written) (r : Result T E) (text : List ℕ) → Writes old new r text → WritesSome old new r
some old new r text h = (text, h)

-- what is written behind it is some text too, where that stops
pub stopped : (a b c : Written) → HasWritten a b → (text : List ℕ) × StopsWithin b c text → (text : List ℕ) × StopsWithin a c text
stopped a b c p (y, q) = (p.text ++ y, stops a b c (p.text ++ y) y y [] (record { part = p.text; whole = refl; put = p.put }) (sym (append-nil y)) q)

-- what is written behind it is some text too
pub behind : {T E : Type 0} (a b c : Written) (r : Result T E) → HasWritten a b → WritesSome b c r → WritesSome a c r
behind a b c (Ok _) p (y, q) = (p.text ++ y, AppendsText-then a b c p.text y p.put q)
behind a b c (Err _) p h = stopped a b c p h

-- all was written, and more behind it
pub written : (a b c : Written) → HasWritten a b → (text : List ℕ) × AppendsText b c text → HasWritten a c
written a b c p (y, q) = record { text = p.text ++ y; put = AppendsText-then a b c p.text y p.put q }

-- all was written
pub ends : (a b : Written) → HasWritten a b → (text : List ℕ) × AppendsText a b text
ends a b p = (p.text, p.put)

-- nothing more is said
pub stays : (w : Written) → GoesOn w w
stays w = ([], Appends-nil w.bytes)

-- some text was written
pub goes_on : {T E : Type 0} (old new : Written) (r : Result T E) → WritesSome old new r → GoesOn old new
goes_on old new (Ok _) (text, h) = (text, h.bytes)
goes_on old new (Err _) (text, h) = (h.part, h.bytes)

-- and sent on
pub goes_on_kept : (old mid new : Written) → GoesOn old mid → Keeps mid.bytes new.bytes → GoesOn old new
goes_on_kept old mid new (text, h) k = (text, Appends-kept old.bytes mid.bytes new.bytes text h k)
