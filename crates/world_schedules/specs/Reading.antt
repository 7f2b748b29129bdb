-- What reading gives, or the fault.
use Rattle.std.specs.Prelude.{◌≡◌, ℕ, Result, Ok, Err}
use Rattle.world_schedules.specs.declared.fault.TextFault.{TextFault}
use Rattle.world_schedules.specs.declared.fault.Rule.{Rule}
use Rattle.world_schedules.specs.declared.fault.ReadError.{ReadError}
use Rattle.world_schedules.specs.declared.fault.ReadError.TheVariants as errors

infixl 10 ◌>>=◌
abbrev pub ◌>>=◌ : {A B : Type 0} → Result A TextFault → (A → Result B TextFault) → Result B TextFault
(Ok x) >>= f = f x
(Err e) >>= f = Err e

-- the line breaks the rule
abbrev pub refused : {A : Type 0} → Rule → ℕ → Result A TextFault
refused rule line = Err (record { rule = rule; line = line })

-- What a function returned, seen by view, is what reading gives, unless memory ran out.
abbrev pub Fails : {Y : Type 0} → ReadError → Result Y TextFault → Type 0
Fails errors.Memory read = Unit {0}
Fails (errors.Fault f) read = read ≡ Err f

abbrev pub Gives : {X Y : Type 0} → (X → Y) → Result X ReadError → Result Y TextFault → Type 0
Gives view (Ok x) read = read ≡ Ok (view x)
Gives view (Err e) read = Fails e read
