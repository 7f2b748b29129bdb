-- The names that a thread's next step can read, and what it can do with buffers.
use Rattle.std.specs.Prelude.{List, [], ◌∷◌, ◌++◌, flat_map}
use Rattle.base.specs.Bytes.{Identifier}
use Rattle.syntax.specs.Parts.{names_in}
use Rattle.syntax.specs.Tree.{Argument}
use Rattle.syntax.specs.Tree as tree
use Rattle.semantics.specs.Task.{Task, SetScalar, SetElement, Invoke, Print, Branch, Loop, ReturnValue, Operand, NumberOperand, PassedName, Given}
use Rattle.semantics.specs.Term as term
use Rattle.semantics.specs.Term.{Term, Read, IsNull, Prefix, And, Or, Binary}

-- the names in what is left of an expression
abbrev pub term_names : Term → List Identifier
term_names (Read x) = x ∷ []
term_names (term.Element x t) = x ∷ term_names t
term_names (IsNull equal x) = x ∷ []
term_names (Prefix op t) = term_names t
term_names (And a b) = term_names a ++ term_names b
term_names (Or a b) = term_names a ++ term_names b
term_names (Binary op a b) = term_names a ++ term_names b
term_names t = []

-- those in an argument
abbrev pub argument_names : Argument → List Identifier
argument_names (tree.Value e) = names_in e
argument_names (tree.Text bytes) = []
argument_names (tree.AddressOf x) = x ∷ []

-- those in an argument of which the number may be worked out
abbrev pub operand_names : Operand → List Identifier
operand_names (NumberOperand t) = term_names t
operand_names (PassedName x) = x ∷ []
operand_names (Given a) = argument_names a

-- those that a task uses; the blocks inside it are later tasks
abbrev pub task_names : Task → List Identifier
task_names (SetScalar line x t) = term_names t
task_names (SetElement line x i t) = x ∷ term_names i ++ term_names t
task_names (Invoke line target f operands) = flat_map operand_names operands
task_names (Print line t) = term_names t
task_names (Branch line t then' else') = term_names t
task_names (Loop line test t body) = term_names t
task_names (ReturnValue line t) = term_names t
task_names task = []
