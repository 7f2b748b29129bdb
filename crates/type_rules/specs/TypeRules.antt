-- Which units are well-typed: no rule is broken at any of their places.
use Rattle.std.specs.Prelude.{◌≡◌, ℕ, Bool, true, false, not, ◌&&◌, ◌||◌, List, [], ◌∷◌, ◌++◌, length, map, Option, Some, None, bytes_eq, ◌==◌, filter, flat_map, slice_get, Contains, IsTrue}
use Rattle.std.specs.List.{list_any, list_all}
use Rattle.std.specs.Option.{is_some, is_none, option_to_list}
use Rattle.base.specs.Bytes.{Identifier}
use Rattle.base.specs.declared.element.ElementType.TheVariants.{Char as JChar}
use Rattle.base.specs.Options.{some_passes}
use Rattle.syntax.specs.declared.declared_type.ParameterType.{ParameterType}
use Rattle.syntax.specs.declared.declared_type.ParameterType.TheVariants.{Jint as IntParameter, Reference as ReferenceParameter}
use Rattle.syntax.specs.declared.declared_type.VariableType.{VariableType}
use Rattle.syntax.specs.declared.declared_type.VariableType.TheVariants.{Uint32 as UInt32, Jint as JIntVariable, Jsize as JSize, Jboolean as JBoolean, JfieldId as JFieldId, JmethodId as JMethodId, Reference as ReferenceVariable}
use Rattle.syntax.specs.declared.declared_type.StaticType.{StaticType}
use Rattle.syntax.specs.declared.declared_type.StaticType.TheVariants.{Reference as ReferenceStatic, Weak as WeakStatic}
use Rattle.syntax.specs.declared.unit.ResultType.{ResultType}
use Rattle.syntax.specs.declared.unit.ResultType.TheVariants.{Void, Jint as IntResult, Reference as ReferenceResult}
use Rattle.syntax.specs.declared.expr.Constant.TheVariants.{Commit, Abort}
use Rattle.syntax.specs.Parts.{statements_of, statements_within, line_of, declared_name, right_side, own_call, own_expressions, used_names, assigned_name, written_name, names_declared, parameter_names}
use Rattle.syntax.specs.declared.declared_type.DeclaredType.{DeclaredType}
use Rattle.syntax.specs.declared.declared_type.DeclaredType.TheVariants.{Simple, Pointer, ConstChars}
use Rattle.syntax.specs.Tree.{Expr, Number, Named, Variable, Argument, Value, Call, RightSide, FromExpr, FromCall, Test, TestExpr, TestCall, PlainStmt, Declare, DeclareArray, Assign, AssignElement, Perform, PutJint, Stmt, Plain, If, NoElse, ElseBlock, While, Return, Block, End, Next, Function, Static, Item, StaticItem, FunctionItem, SourceUnit}
use Rattle.class_rules.specs.Mangling.{unmangle}
use Rattle.jni.specs.declared.function.JniFunction.{JniFunction}
use Rattle.jni.specs.declared.function.JniFunction.TheVariants.{PushLocalFrame}
use Rattle.jni.specs.JniFunction.{function_named, prototype, takes_count}
use Rattle.jni.specs.declared.kinds.ParameterKind.{ParameterKind}
use Rattle.jni.specs.declared.kinds.ParameterKind.TheVariants.{Mode}
use Rattle.jni.specs.declared.kinds.ResultKind.{ResultKind}
use Rattle.jni.specs.declared.kinds.ResultKind.TheVariants.{GivesNothing, GivesInt, GivesFlag, NewLocal, NewGlobal, NewWeak, GivesField, GivesMethod, GivesBuffer}
use Rattle.type_rules.specs.declared.rule.TypeRule.{TypeRule}
use Rattle.type_rules.specs.declared.rule.TypeRule.TheVariants.{UnknownName, DeclaredTwice, TypeMisfit, UnknownFunction, ArgumentCount, ReferenceCopied, BadMode, ReadOnlyWrite}
use Rattle.type_rules.specs.declared.ty.ExprType.{ExprType}
use Rattle.type_rules.specs.declared.ty.ExprType.TheVariants.{Word, Jint, Flag, Ref, Global, Weak, FieldId, MethodId, Buffer, Array}
use Rattle.type_rules.specs.ExprTypes.{Scope, type_in, is_unknown, type_of, is_word, is_jint, is_flag, is_truth, is_ref, is_field, is_method, is_index, has_elements, is_buffer_for, is_read_only, is_null, name_type, call_arguments_fit}

-- ---- places: the forms of a unit that a rule can be broken at

-- what a rule is about
pub data Form : Type 0 where
  StaticForm : Static → Form
  HeadForm : Function → Form
  StatementForm : Stmt → Form

-- a form on its line, the names known there, those that it may not declare again, and what its function returns
pub record Place : Type 0 where
  pub line : ℕ
  pub known : Scope
  pub taken : List Identifier
  pub returns : ResultType
  pub form : Form

-- the type of a variable
abbrev pub variable_type : VariableType → ExprType
variable_type UInt32 = Word
variable_type JIntVariable = Jint
variable_type JSize = Jint
variable_type JBoolean = Flag
variable_type JFieldId = FieldId
variable_type JMethodId = MethodId
variable_type (ReferenceVariable r) = Ref

-- the type of a declared variable, a buffer or not
abbrev pub declared_type : DeclaredType → ExprType
declared_type (Simple t) = variable_type t
declared_type (Pointer t) = Buffer t true
declared_type ConstChars = Buffer JChar false

-- the type of a parameter
abbrev pub parameter_type : ParameterType → ExprType
parameter_type IntParameter = Jint
parameter_type (ReferenceParameter r) = Ref

-- the type of a static
abbrev pub static_type : StaticType → ExprType
static_type (ReferenceStatic r) = Global
static_type WeakStatic = Weak

-- the names known after a statement
abbrev pub with_declared : Scope → Stmt → Scope
with_declared known (Plain line (Declare t x r)) = (x, declared_type t) ∷ known
with_declared known (Plain line (DeclareArray t x size)) = (x, Array t size) ∷ known
with_declared known s = known

-- the place of a statement itself
abbrev pub statement_place : ResultType → Scope → List Identifier → Stmt → Place
statement_place returns known taken s = record { line = line_of s; known = known; taken = taken; returns = returns; form = StatementForm s }

abbrev mutual
  -- the places inside a statement: a name is known to the end of its block, and taken to the end of its function
  pub places_inside : ResultType → Scope → List Identifier → Stmt → List Place
  places_inside returns known taken (If line test then' NoElse) = places_of returns known taken then'
  places_inside returns known taken (If line test then' (ElseBlock else')) =
      places_of returns known taken then' ++ places_of returns known (taken ++ names_declared (statements_of then')) else'
  places_inside returns known taken (While line test body) = places_of returns known taken body
  places_inside returns known taken s = []

  -- those of a block, each before those inside it
  pub places_of : ResultType → Scope → List Identifier → Block → List Place
  places_of returns known taken (End line) = []
  places_of returns known taken (Next s rest) =
      (statement_place returns known taken s ∷ places_inside returns known taken s)
      ++ places_of returns (with_declared known s) (taken ++ names_declared (statements_within s)) rest

-- the place of a statement and those inside it
abbrev pub places_within : ResultType → Scope → List Identifier → Stmt → List Place
places_within returns known taken s = statement_place returns known taken s ∷ places_inside returns known taken s

-- a function's head, and its statements
abbrev pub function_places : List Identifier → Scope → Function → List Place
function_places taken statics f =
    record { line = f.line; known = statics; taken = taken; returns = f.result; form = HeadForm f }
    ∷ places_of f.result ((f.class_name, Ref) ∷ map (λ p. (p.name, parameter_type p.type)) f.parameters ++ statics)
    (parameter_names f ++ map (λ s. s.0) statics) f.body

-- the places of items, after the names of the file so far and its statics so far
abbrev pub item_places : List Identifier → Scope → List Item → List Place
item_places taken statics [] = []
item_places taken statics (StaticItem s ∷ items) =
    record { line = s.line; known = statics; taken = taken; returns = Void; form = StaticForm s }
    ∷ item_places (s.name ∷ taken) ((s.name, static_type s.type) ∷ statics) items
item_places taken statics (FunctionItem f ∷ items) = function_places taken statics f ++ item_places (f.name ∷ taken) statics items

-- the places of a unit, in text order
abbrev pub places : SourceUnit → List Place
places unit = item_places [] [] unit.items

-- ---- what fits at a place

-- whether a name is among others
abbrev pub has_name : List Identifier → Identifier → Bool
has_name names x = list_any (bytes_eq x) names

-- a call's result as the value of a variable of a type, where one is known
abbrev pub result_fits : Option ExprType → ResultKind → Bool
result_fits s GivesNothing = false
result_fits s GivesInt = is_jint s
result_fits s GivesFlag = is_flag s
result_fits s NewLocal = is_ref s
result_fits (Some Global) NewGlobal = true
result_fits s NewGlobal = false
result_fits (Some Weak) NewWeak = true
result_fits s NewWeak = false
result_fits s GivesField = is_field s
result_fits s GivesMethod = is_method s
result_fits s (GivesBuffer a) = is_buffer_for a s

-- PushLocalFrame occurs only in a test
abbrev pub is_push : JniFunction → Bool
is_push PushLocalFrame = true
is_push f = false

-- a call as the right side of a variable of a type
abbrev pub call_fits : Option ExprType → Option JniFunction → Bool
call_fits s None = true
call_fits s (Some f) = not (is_push f) && result_fits s (prototype f).result

-- what may be dropped: any result but a buffer and a global reference, weak or not
abbrev pub is_droppable : ResultKind → Bool
is_droppable NewGlobal = false
is_droppable NewWeak = false
is_droppable (GivesBuffer a) = false
is_droppable r = true

-- a call as a statement
abbrev pub may_be_dropped : Option JniFunction → Bool
may_be_dropped None = true
may_be_dropped (Some f) = not (is_push f) && is_droppable (prototype f).result

-- a call as a test for 0
abbrev pub may_be_tested : Option JniFunction → Bool
may_be_tested None = true
may_be_tested (Some f) = is_push f

-- an expression that sets a variable of a type; of a known name in a local reference another rule speaks
abbrev pub value_sets : Scope → Option ExprType → Expr → Bool
value_sets scope (Some Word) e = is_word (type_of scope e)
value_sets scope (Some Jint) e = is_jint (type_of scope e)
value_sets scope (Some Flag) e = is_flag (type_of scope e)
value_sets scope (Some Ref) e = is_null e || is_some (name_type scope e)
value_sets scope (Some Global) e = is_null e
value_sets scope (Some Weak) e = is_null e
value_sets scope (Some FieldId) e = is_null e
value_sets scope (Some MethodId) e = is_null e
value_sets scope s e = false

-- a right side that sets a variable of a type
abbrev pub right_side_sets : Scope → Option ExprType → RightSide → Bool
right_side_sets scope s (FromExpr e) = value_sets scope s e
right_side_sets scope s (FromCall c) = call_fits s (function_named c.function)

-- a declared buffer may begin as NULL too
abbrev pub buffer_begins : Scope → ExprType → RightSide → Bool
buffer_begins scope s (FromExpr e) = is_null e
buffer_begins scope s (FromCall c) = call_fits (Some s) (function_named c.function)

-- the test of an if
abbrev pub test_fits : Scope → Test → Bool
test_fits scope (TestExpr e) = is_truth (type_of scope e)
test_fits scope (TestCall c) = may_be_tested (function_named c.function)

-- the operand of a return
abbrev pub return_fits : Scope → ResultType → Expr → Bool
return_fits scope Void e = false
return_fits scope IntResult e = is_jint (type_of scope e)
return_fits scope (ReferenceResult r) e = is_null e || is_ref (name_type scope e)

-- whether a function has no result
abbrev pub returns_nothing : ResultType → Bool
returns_nothing Void = true
returns_nothing r = false

-- what a function returns, if anything
abbrev pub returned_fits : Scope → ResultType → Option Expr → Bool
returned_fits scope returns None = returns_nothing returns
returned_fits scope returns (Some e) = return_fits scope returns e

-- the right side of a declaration
abbrev pub declaration_fits : Scope → DeclaredType → RightSide → Bool
declaration_fits scope (Simple t) r = right_side_sets scope (Some (variable_type t)) r
declaration_fits scope t r = buffer_begins scope (declared_type t) r

-- a plain statement, its call's arguments aside
abbrev pub plain_fits : Scope → PlainStmt → Bool
plain_fits known (Declare t x r) = declaration_fits known t r
plain_fits known (DeclareArray t x size) = true
plain_fits known (Assign x r) = right_side_sets known (type_in known x) r
plain_fits known (AssignElement x i e) = has_elements (type_in known x) && is_index (type_of known i) && is_jint (type_of known e)
plain_fits known (Perform c) = may_be_dropped (function_named c.function)
plain_fits known (PutJint e) = is_jint (type_of known e)

-- the same of a statement
abbrev pub statement_fits : Scope → ResultType → Stmt → Bool
statement_fits known returns (Plain line p) = plain_fits known p
statement_fits known returns (If line test then' else') = test_fits known test
statement_fits known returns (While line test body) = is_truth (type_of known test)
statement_fits known returns (Return line e) = returned_fits known returns e

-- a bare name or constant, or an expression that has a type
abbrev pub is_formed : Scope → Expr → Bool
is_formed scope (Named c) = true
is_formed scope (Variable x) = true
is_formed scope e = is_some (type_of scope e)

-- ---- the rules

-- the rules in the order of their numbers
abbrev pub typing_rules : List TypeRule
typing_rules = UnknownName ∷ DeclaredTwice ∷ TypeMisfit ∷ UnknownFunction ∷ ArgumentCount ∷ ReferenceCopied ∷ BadMode ∷ ReadOnlyWrite ∷ []

-- the number of the fault
abbrev pub type_rule_number : TypeRule → ℕ
type_rule_number UnknownName = 21
type_rule_number DeclaredTwice = 22
type_rule_number TypeMisfit = 23
type_rule_number UnknownFunction = 24
type_rule_number ArgumentCount = 25
type_rule_number ReferenceCopied = 26
type_rule_number BadMode = 27
type_rule_number ReadOnlyWrite = 28

-- some name is in the list twice
abbrev pub has_repeated : List Identifier → Bool
has_repeated [] = false
has_repeated (x ∷ names) = has_name names x || has_repeated names

-- a known name that an assignment or a declaration would copy into a local reference
abbrev pub copies_reference : Scope → Option ExprType → Option RightSide → Bool
copies_reference known s (Some (FromExpr e)) = is_ref s && is_some (name_type known e)
copies_reference known s r = false

-- the type of the variable that a statement sets
abbrev pub set_type : Scope → Stmt → Option ExprType
set_type known (Plain line (Declare (Simple t) x r)) = Some (variable_type t)
set_type known (Plain line (Assign x r)) = type_in known x
set_type known s = None

-- a mode is 0, JNI_COMMIT or JNI_ABORT
abbrev pub is_mode : Argument → Bool
is_mode (Value (Number n unsigned)) = n == 0 && not unsigned
is_mode (Value (Named Commit)) = true
is_mode (Value (Named Abort)) = true
is_mode a = false

-- where a mode is wanted
abbrev pub is_mode_parameter : ParameterKind → Bool
is_mode_parameter Mode = true
is_mode_parameter parameter = false

-- each mode is one
abbrev pub modes_fit : List ParameterKind → List Argument → Bool
modes_fit (parameter ∷ parameters) (a ∷ arguments) = (not (is_mode_parameter parameter) || is_mode a) && modes_fit parameters arguments
modes_fit parameters arguments = true

-- a wrong number of arguments
abbrev pub has_wrong_count : Call → Option JniFunction → Bool
has_wrong_count c None = false
has_wrong_count c (Some f) = not (takes_count f (length c.arguments))

-- a mode that is none
abbrev pub has_wrong_mode : Call → Option JniFunction → Bool
has_wrong_mode c None = false
has_wrong_mode c (Some f) = not (modes_fit (prototype f).parameters c.arguments)

-- whether a statement breaks a rule
abbrev pub breaks_type_rule : TypeRule → Scope → List Identifier → ResultType → Stmt → Bool
breaks_type_rule UnknownName known taken returns s = list_any (is_unknown known) (used_names s ++ option_to_list (assigned_name s))
breaks_type_rule DeclaredTwice known taken returns s = some_passes (has_name taken) (declared_name s)
breaks_type_rule TypeMisfit known taken returns s =
    not (list_all (is_formed known) (own_expressions s)) || not (statement_fits known returns s)
    || some_passes (λ c. not (call_arguments_fit known c (function_named c.function))) (own_call s)
breaks_type_rule UnknownFunction known taken returns s = some_passes (λ c. is_none (function_named c.function)) (own_call s)
breaks_type_rule ArgumentCount known taken returns s = some_passes (λ c. has_wrong_count c (function_named c.function)) (own_call s)
breaks_type_rule ReferenceCopied known taken returns s = copies_reference known (set_type known s) (right_side s)
breaks_type_rule BadMode known taken returns s = some_passes (λ c. has_wrong_mode c (function_named c.function)) (own_call s)
breaks_type_rule ReadOnlyWrite known taken returns s = some_passes (λ x. is_read_only (type_in known x)) (written_name s)

-- whether a form breaks a rule
abbrev pub breaks : TypeRule → Place → Form → Bool
breaks rule place (StatementForm s) = breaks_type_rule rule place.known place.taken place.returns s
breaks UnknownName place (HeadForm f) = is_none (unmangle f.name)
breaks DeclaredTwice place (HeadForm f) = has_name place.taken f.name || has_repeated (parameter_names f ++ map (λ s. s.0) place.known)
breaks DeclaredTwice place (StaticForm s) = has_name place.taken s.name
breaks rule place form = false

-- the rules that are broken at a place, the least number first
abbrev pub broken_at : Place → List (ℕ × TypeRule)
broken_at place = map (λ rule. (place.line, rule)) (filter (λ rule. breaks rule place place.form) typing_rules)

-- the lines at which rules are broken, in text order and at one place the least number first
abbrev pub broken : SourceUnit → List (ℕ × TypeRule)
broken unit = flat_map broken_at (places unit)

-- the fault that is answered: of the first place, and there of the least number
abbrev pub first_broken : SourceUnit → Option (ℕ × TypeRule)
first_broken unit = slice_get (broken unit) 0

-- no rule on names and types is broken
abbrev pub IsWellTyped : SourceUnit → Type 0
IsWellTyped unit = broken unit ≡ []

-- the rule is broken at a place of the unit that is on this line
abbrev pub BreaksTypeRule : TypeRule → ℕ → SourceUnit → Type 0
BreaksTypeRule rule line unit = (place : Place) × Contains (places unit) place × (line ≡ place.line) × IsTrue (breaks rule place place.form)
