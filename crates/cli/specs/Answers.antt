-- What the program answers, by what its words ask for.
use Rattle.std.specs.Prelude.{◌≡◌, ℕ, Bool, true, false, List, length, map, nat_lt, Option, Some, None, codes, string_bytes}
use Rattle.sinks.specs.Sink.{Written}
use Rattle.jnirun.specs.Runs.{AppendsRun, StopsRun}
use Rattle.cli_commands.specs.declared.command.Command.{Command}
use Rattle.cli_commands.specs.Commands.{runs_workers}
use Rattle.cli_commands.specs.Saying.{Tells}
use Rattle.jnirun.specs.Serve.{Serves}
use Rattle.jnirun.specs.ServeEach.{ServesEach}
use Rattle.jnirun.specs.Traces.{ServesTraced}
use Rattle.cli_logs.specs.Lists.{ListsAll}
use Rattle.cli_logs.specs.Logs.{PassAll}
use Rattle.cli_explanations.specs.declared.Explanation.{Explanation}
use Rattle.cli_words.specs.declared.request.Request.{Request}
use Rattle.cli_words.specs.declared.request.Request.TheVariants.{Serve, Trace, CheckEach, CheckAll, WriteLog, Explain, Show, Misuse, LacksOrder, LacksMemory}

-- ---- texts for a reader

-- What is done where a text is for the reader, and the status: such a text is said; there is none; or standard output failed.
pub data Shows (IsText : List ℕ → Type 0) (out out_after err err_after : Written) : (status : ℕ) → Type 0 where
  is_said : AppendsRun out out_after IsText → err_after ≡ err → Shows IsText out out_after err err_after 0
  is_none : (words : List ℕ) → ((text : List ℕ) → IsText text → ⊥) → out_after ≡ out → Tells err err_after words → Shows IsText out out_after err err_after 2
  loses_text : StopsRun out out_after IsText → Tells err err_after (codes "writer\n") → Shows IsText out out_after err err_after 3

-- the text of an explanation, where there is one
abbrev pub IsTextOf : Option Explanation → List ℕ → Type 0
IsTextOf None text = ⊥
IsTextOf (Some explanation) text = text ≡ explanation.text.now

-- nothing is done, which is told on standard error
abbrev pub Declines : (words : List ℕ) → (err err_after : Written) → (status : ℕ) → Type 0
Declines words err err_after status = (status ≡ 2) × Tells err err_after words

-- ---- the program

-- why a run isn't begun: it goes by a schedule or by workers
abbrev pub needs_order : List ℕ
needs_order =
    codes "error: run needs one of --schedule FILE and --workers\n\nUsage: jnirun run <PROG> <WORLD> --schedule <FILE>\n       jnirun run <PROG> <WORLD> --workers\n"

-- the command that is asked for, traced or not
abbrev pub IsAskedFor : Request → Command → Type 0
IsAskedFor (Serve c) command = c ≡ command
IsAskedFor (Trace c trace) command = c ≡ command
IsAskedFor request command = ⊥

-- a run by workers is asked for
abbrev pub asks_for_workers : Request → Bool
asks_for_workers (Serve command) = runs_workers command
asks_for_workers (Trace command trace) = runs_workers command
asks_for_workers request = false

-- the entries of a run or a replay are to be told
abbrev pub asks_for_trace : Request → Bool
asks_for_trace (Trace command trace) = true
asks_for_trace request = false

-- what the program answers; of a log its status alone is said here, and of a check that tells all faults what it writes on standard output, and its status
abbrev pub Answers : (gives : List ℕ → List ℕ → Type 0) → (lacks : List ℕ → Type 0) → Request → (out out_after err err_after : Written) → (status : ℕ) → Type 0
Answers gives lacks (Serve command) out out_after err err_after status = Serves gives lacks command out out_after err err_after status
Answers gives lacks (CheckEach programs) out out_after err err_after status =
    ServesEach gives lacks (map (λ p. p.now) programs.items) out out_after err err_after status
Answers gives lacks (Trace command trace) out out_after err err_after status = ServesTraced gives lacks command out out_after err err_after status
Answers gives lacks (CheckAll programs) out out_after err err_after status =
    ListsAll gives lacks (nat_lt 1 (length programs.items)) (map (λ p. p.now) programs.items) out out_after status
Answers gives lacks (WriteLog programs) out out_after err err_after status = PassAll gives (map (λ p. p.now) programs.items) status
Answers gives lacks (Explain explanation) out out_after err err_after status = Shows (IsTextOf explanation) out out_after err err_after status
Answers gives lacks (Show text) out out_after err err_after status = Shows (λ t. t ≡ string_bytes text) out out_after err err_after status
Answers gives lacks (Misuse text) out out_after err err_after status = (out_after ≡ out) × Declines (string_bytes text) err err_after status
Answers gives lacks LacksOrder out out_after err err_after status = (out_after ≡ out) × Declines needs_order err err_after status
Answers gives lacks LacksMemory out out_after err err_after status = (out_after ≡ out) × (status ≡ 3) × Tells err err_after (codes "memory\n")
