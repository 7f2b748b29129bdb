-- The limits of programs, worlds and runs.
use Rattle.std.specs.Prelude.{ℕ}

-- ---- programs

abbrev pub most_functions : ℕ
most_functions = 256

abbrev pub most_statics : ℕ
most_statics = 256

-- of a function: its parameters, but for the environment, and all that it declares
abbrev pub most_names : ℕ
most_names = 256

-- of an array that is a variable
abbrev pub most_elements : ℕ
most_elements = 1024

-- of a function, counted on its tree
abbrev pub most_steps : ℕ
most_steps = 65535

-- ---- classes

abbrev pub most_classes : ℕ
most_classes = 256

-- the fields and statics that a class declares
abbrev pub most_fields : ℕ
most_fields = 64

-- ---- worlds

abbrev pub least_cells : ℕ
least_cells = 512

abbrev pub most_cells : ℕ
most_cells = 1048576

-- the objects that a world names
abbrev pub most_objects : ℕ
most_objects = 65536

abbrev pub most_threads : ℕ
most_threads = 8

-- of a thread
abbrev pub most_calls : ℕ
most_calls = 256

-- ---- runs

-- the steps of a journal, and its clearings; and the turns of a schedule
abbrev pub most_entries : ℕ
most_entries = 1000000

-- the greatest name that a journal's text may have
abbrev pub most_name : ℕ
most_name = 4294967295

-- the local references for which a thread's frames have capacity, all together
abbrev pub most_references : ℕ
most_references = 1024

-- the elements of all copies that are held at a time
abbrev pub most_copied : ℕ
most_copied = 65536

-- the views that are held at a time
abbrev pub most_views : ℕ
most_views = 64

-- how often a thread can have entered a monitor that it owns
abbrev pub most_monitor_entries : ℕ
most_monitor_entries = 255

-- the calls of a thread that are made from one another: the one in progress with its callers
abbrev pub most_activations : ℕ
most_activations = 64

-- the arguments of a call of a method, after its class and its method ID
abbrev pub most_further : ℕ
most_further = 16
