-- What is put behind the code so far.
use Rattle.std.specs.Prelude.{◌≡◌, List, ◌++◌, Result, OnOk}
use Rattle.code.specs.declared.instr.Instr.{Instr}

-- unless memory ran out, the new code is the old one with these instructions behind it
abbrev pub Emits : {A E : Type 0} → Result A E → (old new more : List Instr) → Type 0
Emits result old new more = OnOk result (new ≡ old ++ more)
