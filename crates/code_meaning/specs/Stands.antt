-- Which tasks a place of the code stands for.
use Rattle.std.specs.Prelude.{◌≡◌, ℕ, ◌+◌, ◌-◌, ◌≤◌, ◌⊎◌, Bool, true, false, ◌&&◌, ◌||◌, List, [], ◌∷◌, ◌++◌, length, slice_get, zip, flat_map, Option, Some, None, IsTrue}
use Rattle.std.specs.List.{list_any, AllZip}
use Rattle.base.specs.Bytes.{Identifier, lookup}
use Rattle.base.specs.declared.element.ElementType.{ElementType}
use Rattle.syntax.specs.Tree as tree
use Rattle.syntax.specs.declared.expr.Constant.TheVariants as constants
use Rattle.syntax.specs.declared.expr.BinaryOp.TheVariants.{BitOr}
use Rattle.syntax.specs.Tree.{Expr, Stmt, Block, End, Next}
use Rattle.jni.specs.declared.access.Access.{Access}
use Rattle.jni.specs.declared.function.JniFunction.{JniFunction}
use Rattle.jni.specs.JniFunction.{prototype, parameters_for}
use Rattle.jni.specs.declared.kinds.ParameterKind.{ParameterKind}
use Rattle.jni.specs.declared.kinds.ParameterKind.TheVariants.{FieldID, MethodID, Passed, TextBytes, ArrayVariable, BufferVariable, Mode, IsCopy}
use Rattle.jni.specs.declared.kinds.ResultKind.{ResultKind}
use Rattle.jni.specs.declared.kinds.ResultKind.TheVariants.{NewLocal, NewGlobal, NewWeak, GivesFlag, GivesInt, GivesField, GivesMethod, GivesBuffer}
use Rattle.type_rules.specs.declared.ty.ExprType.{ExprType}
use Rattle.type_rules.specs.declared.ty.ExprType.TheVariants.{Jint, Ref, FieldId, MethodId, Buffer, Array}
use Rattle.type_rules.specs.declared.ty.ExprType.TheVariants as types
use Rattle.type_rules.specs.TypeRules.{is_droppable}
use Rattle.type_rules.specs.TypeGroups.{IsIndexType, IsNumberType}
use Rattle.jni.specs.declared.mode.ReleaseMode.{ReleaseMode}
use Rattle.semantics.specs.Arguments.{mode_of}
use Rattle.semantics.specs.declared.variable_kind.VariableKind.{VariableKind}
use Rattle.semantics.specs.declared.variable_kind.VariableKind.TheVariants as kinds
use Rattle.semantics.specs.Task.{Task, SetScalar, SetElement, SetNull, MakeArray, Invoke, Print, Branch, EndIf, Loop, EndTurn, Return, ReturnValue, Impossible, Target, Declared, Assigned, Tested, Dropped, Operand, NumberOperand, PassedName, Given}
use Rattle.semantics.specs.Term as term
use Rattle.semantics.specs.Term.{Term, Done, Read, And, Or, Prefix, Binary, term_of}
use Rattle.semantics.specs.declared.value.Value.TheVariants.{Truth}
use Rattle.code.specs.Call.{Call}
use Rattle.code.specs.declared.instr.Operand.{Operand as Where}
use Rattle.code.specs.declared.instr.Operand.TheVariants as operand
use Rattle.code.specs.declared.instr.LocalArray.{LocalArray}
use Rattle.code.specs.declared.instr.NullableVariable.{NullableVariable}
use Rattle.code.specs.declared.instr.ReferenceOperand.TheVariants.{Null, Local}
use Rattle.code.specs.declared.instr.Target.{Target as Destination}
use Rattle.code.specs.declared.instr.Target.TheVariants as destination
use Rattle.code.specs.declared.instr.Instr.{Instr}
use Rattle.code.specs.declared.instr.Instr.TheVariants as instr
use Rattle.code.specs.declared.slots.SlotCounts.{SlotCounts}
use Rattle.code.specs.Depth.{Listing}
use Rattle.code.specs.Effect.{truth_word}
use Rattle.code_meaning.specs.Layout.{Slot, Known, Layout, block_layout}
use Rattle.code_meaning.specs.Coding.{mode_code, nullable_of, element_of, write_code, of_slot, term_code, expr_code, number_code, names_number, paths_code, turn_code, block_code}
use Rattle.code_meaning.specs.Fits.{TakesNull, TakesLocal, TakesGlobal, TakesInt, IsStaticIn, IsVariable, IsArray, HasElements, TermHasType, IsUntouched, NumberFits, IndexWithin, IsOwn, HaveOwnSlots, IsLaidOut, HasRoomFor, BlockFits}
use Rattle.code_meaning.specs.Slots.{word_of}

-- ---- terms

-- the words of the parts that have their values, the last first; of `&&` and `||` the right side has none yet
abbrev pub held : Term → List ℕ
held (Done v) = word_of v ∷ []
held (term.Element x t) = held t
held (Prefix op t) = held t
held (And a b) = held a
held (Or a b) = held a
held (Binary op a b) = held b ++ held a
held t = []

-- the parts with their values are the leftmost
abbrev pub IsBegun : Term → Type 0
IsBegun (term.Element x t) = IsBegun t
IsBegun (Prefix op t) = IsBegun t
IsBegun (And a b) = IsBegun a × IsUntouched b
IsBegun (Or a b) = IsBegun a × IsUntouched b
IsBegun (Binary op (Done v) b) = IsBegun b
IsBegun (Binary op a b) = IsBegun a × IsUntouched b
IsBegun t = Unit {0}

-- an expression of this type on the way to its value, with its operands on the stack
pub record IsUnderWay (known : Known) (s : ExprType) (t : Term) (stack : List ℕ) : Type 0 where
  pub ty : TermHasType known t s
  pub begun : IsBegun t
  pub operands : stack ≡ held t

-- ---- places

-- these instructions are at this place
abbrev pub HasAt : List Instr → (place : ℕ) → List Instr → Type 0
HasAt instrs place [] = Unit {0}
HasAt instrs place (i ∷ rest) = (slice_get instrs place ≡ Some i) × HasAt instrs (place + 1) rest

-- names that are known so among others too
abbrev pub AreAmong : (fewer known : Known) → Type 0
AreAmong fewer known = (x : Identifier) (s : Slot) → lookup x fewer ≡ Some s → lookup x known ≡ Some s

-- what comes at a place with these names known
abbrev pub After : Type 1
After = (place : ℕ) → Known → Type 0

-- it comes at a place with names that are known there
abbrev pub ComesAfter : After → (place : ℕ) → Known → Type 0
ComesAfter after place known = (names : Known) × AreAmong names known × after place names

-- a slot of the code that no known name but this has
pub record IsSlotOf (code : Listing) (known : Known) (x : Identifier) (s : Slot) : Type 0 where
  pub within : IndexWithin code.slots s.ty s.index
  pub own : IsOwn known x s

-- an expression and the instructions after it are at the place
abbrev pub NumberStands : Listing → Known → (place : ℕ) → (stack : List ℕ) → (line : ℕ) → ExprType → Term → (after : List Instr) → Type 0
NumberStands code known place stack line s t after = IsUnderWay known s t stack × HasAt code.instrs place (term_code known line t ++ after)

-- ---- variables

-- a number variable is set by the instruction after the number
pub record SetStands (code : Listing) (known : Known) (place : ℕ) (stack : List ℕ) (after : After) (line : ℕ) (x : Identifier) (t : Term) : Type 0 where
  pub slot : Slot
  pub number : IsNumberType slot.ty
  pub value : NumberStands code known place stack line slot.ty t (instr.Store slot.index ∷ [])
  pub own : IsSlotOf code known x slot
  pub further : ComesAfter after (place + length (term_code known line t) + 1) ((x, slot) ∷ known)

-- an element of an array or a buffer is set by the instruction after index and number, which are worked out like an operator's operands
pub record SetElementStands (code : Listing) (known : Known) (place : ℕ) (stack : List ℕ) (after : After) (line : ℕ)
    (x : Identifier) (i e : Term) : Type 0 where
  pub slot : Slot
  pub there : lookup x known ≡ Some slot
  pub elements : HasElements slot.ty
  pub own : IsSlotOf code known x slot
  pub index : (r : ExprType) × IsIndexType r × TermHasType known i r
  pub value : TermHasType known e Jint
  pub begun : IsBegun (Binary BitOr i e)
  pub operands : stack ≡ held e ++ held i
  pub at : HasAt code.instrs place (term_code known line i ++ (term_code known line e ++ write_code line slot.ty slot.index))
  pub further : after (place + (length (term_code known line i) + length (term_code known line e)) + 1) known

-- the variable that a NULL goes to
abbrev pub target_name : Target → Option Identifier
target_name (Declared kind x) = Some x
target_name (Assigned x) = Some x
target_name target = None

-- the kind of a variable of this type; statics and arrays have none
abbrev pub kind_of_type : ExprType → Option VariableKind
kind_of_type types.Word = Some kinds.Number
kind_of_type Jint = Some kinds.Number
kind_of_type types.Flag = Some kinds.Number
kind_of_type Ref = Some kinds.Reference
kind_of_type FieldId = Some kinds.Field
kind_of_type MethodId = Some kinds.Method
kind_of_type (Buffer t writable) = Some (kinds.Buffer t)
kind_of_type s = None

-- the variable is a new one, of the slot's kind, or the one that has the slot
abbrev pub GoesTo : Known → Slot → Target → Type 0
GoesTo known s (Declared kind x) = kind_of_type s.ty ≡ Some kind
GoesTo known s (Assigned x) = lookup x known ≡ Some s
GoesTo known s target = ⊥

-- NULL is stored
pub record SetNullStands (code : Listing) (known : Known) (place : ℕ) (stack : List ℕ) (after : After) (target : Target) : Type 0 where
  pub empty : stack ≡ []
  pub name : Identifier
  pub is : target_name target ≡ Some name
  pub slot : Slot
  pub variable : NullableVariable
  pub nullable : nullable_of slot.ty slot.index ≡ Some variable
  pub takes : GoesTo known slot target
  pub at : slice_get code.instrs place ≡ Some (instr.StoreNull variable)
  pub own : IsSlotOf code known name slot
  pub further : ComesAfter after (place + 1) ((name, slot) ∷ known)

-- a local array is made
pub record MakeArrayStands (code : Listing) (known : Known) (place : ℕ) (stack : List ℕ) (after : After)
    (t : ElementType) (x : Identifier) (size : ℕ) : Type 0 where
  pub empty : stack ≡ []
  pub start : ℕ
  pub at : slice_get code.instrs place ≡ Some (instr.ClearArray (record { start = start; len = size }))
  pub own : IsSlotOf code known x (record { ty = Array t size; index = start })
  pub further : ComesAfter after (place + 1) ((x, record { ty = Array t size; index = start }) ∷ known)

-- ---- blocks

-- the code of a block may be here, with these slots
pub record BlockStands (code : Listing) (l : Layout) (place : ℕ) (b : Block) : Type 0 where
  pub at : HasAt code.instrs place (block_code l b)
  pub fits : BlockFits l b
  pub laid : IsLaidOut l.known l.slots
  pub room : HasRoomFor code.slots (block_layout l b).slots

-- an `if` whose test is under way, with its two branches, each of which ends by a jump
pub record BranchStands (code : Listing) (known : Known) (place : ℕ) (stack : List ℕ) (after : After) (line : ℕ) (t : Term) (then' else' : Block) : Type 0 where
  pub slots : SlotCounts
  pub slots_else : SlotCounts
  pub test : IsUnderWay known types.Truth t stack
  pub then_code : List Instr
  pub then_is : then_code ≡ block_code (record { known = known; slots = slots }) then'
  pub else_code : List Instr
  pub else_is : else_code ≡ block_code (record { known = known; slots = slots_else }) else'
  pub at : HasAt code.instrs place (term_code known line t ++ paths_code then_code (else_code ++ instr.Jump 0 ∷ []))
  pub first : BlockStands code (record { known = known; slots = slots }) (place + length (term_code known line t) + 1) then'
  pub second : BlockStands code (record { known = known; slots = slots_else }) (place + length (term_code known line t) + 1 + length then_code + 1) else'
  pub further : after (place + length (term_code known line t) + 1 + length then_code + 1 + length else_code + 1) known

-- ---- calls

-- NULL for a reference, a field ID, a method ID or `isCopy`
pub record NullStands (p : ParameterKind) (given : Operand) : Type 0 where
  pub kind : TakesNull p
  pub is : given ≡ Given (tree.Value (tree.Named constants.Null))

-- a bare name, as it is given for a parameter that takes no number alone
abbrev pub named_operand : ParameterKind → Identifier → Operand
named_operand Passed x = PassedName x
named_operand p x = Given (tree.Value (tree.Variable x))

-- an argument that is a number, on the way to its value or with it
pub record NumberIsUnderWay (known : Known) (p : ParameterKind) (given : Operand) : Type 0 where
  pub kind : TakesInt p
  pub term : Term
  pub is : given ≡ NumberOperand term
  pub ty : TermHasType known term Jint

-- an argument that is the name of a number, whose value isn't on the stack yet
pub record NumberIsNamed (known : Known) (p : ParameterKind) (given : Operand) : Type 0 where
  pub kind : p ≡ Passed
  pub name : Identifier
  pub is : given ≡ PassedName name
  pub there : IsVariable known name Jint

-- an argument that is a text
pub record TextStands (p : ParameterKind) (given : Operand) : Type 0 where
  pub kind : p ≡ TextBytes
  pub bytes : List ℕ
  pub is : given ≡ Given (tree.Text bytes)

-- an argument that is a local array
pub record ArrayStands (known : Known) (array : LocalArray) (p : ParameterKind) (given : Operand) : Type 0 where
  pub type : ElementType
  pub kind : p ≡ ArrayVariable type
  pub name : Identifier
  pub is : given ≡ Given (tree.Value (tree.Variable name))
  pub there : IsArray known name type array.len array.start

-- an argument that is a buffer
pub record BufferStands (known : Known) (i : ℕ) (p : ParameterKind) (given : Operand) : Type 0 where
  pub access : Access
  pub kind : p ≡ BufferVariable access
  pub name : Identifier
  pub is : given ≡ Given (tree.Value (tree.Variable name))
  pub type : ElementType
  pub writable : Bool
  pub there : lookup name known ≡ Some (record { ty = Buffer type writable; index = i })

-- an argument that is a release mode
pub record ModeStands (mode : ReleaseMode) (p : ParameterKind) (given : Operand) : Type 0 where
  pub kind : p ≡ Mode
  pub written : Expr
  pub is : given ≡ Given (tree.Value written)
  pub same : mode ≡ mode_code (mode_of written)

-- an argument that is the address of a flag
pub record AddressStands (known : Known) (i : ℕ) (p : ParameterKind) (given : Operand) : Type 0 where
  pub kind : p ≡ IsCopy
  pub name : Identifier
  pub is : given ≡ Given (tree.AddressOf name)
  pub there : lookup name known ≡ Some (record { ty = types.Flag; index = i })

-- where the instruction finds an argument, for a parameter of this kind
abbrev pub OperandStands : Known → Where → ParameterKind × Operand → Type 0
OperandStands known operand.Null (p, given) = NullStands p given
OperandStands known (operand.Local i) (p, given) =
    (x : Identifier) × TakesLocal p × (given ≡ named_operand p x) × (lookup x known ≡ Some (record { ty = Ref; index = i }))
OperandStands known (operand.Static i) (p, given) =
    (x : Identifier) × TakesGlobal p × (given ≡ named_operand p x) × IsStaticIn known x i
OperandStands known operand.Number (p, given) = NumberIsUnderWay known p given ⊎ NumberIsNamed known p given
OperandStands known (operand.FieldId i) (p, given) =
    (x : Identifier) × (p ≡ FieldID) × (given ≡ Given (tree.Value (tree.Variable x))) × (lookup x known ≡ Some (record { ty = FieldId; index = i }))
OperandStands known (operand.MethodId i) (p, given) =
    (x : Identifier) × (p ≡ MethodID) × (given ≡ Given (tree.Value (tree.Variable x))) × (lookup x known ≡ Some (record { ty = MethodId; index = i }))
OperandStands known operand.Text (p, given) = TextStands p given
OperandStands known (operand.Array array) (p, given) = ArrayStands known array p given
OperandStands known (operand.Buffer i) (p, given) = BufferStands known i p given
OperandStands known (operand.Mode mode) (p, given) = ModeStands mode p given
OperandStands known (operand.IsCopy i) (p, given) = AddressStands known i p given

-- the instructions of an argument that is still to be worked out
abbrev pub operand_rest : Known → (line : ℕ) → Operand → List Instr
operand_rest known line (NumberOperand t) = term_code known line t
operand_rest known line (PassedName x) = of_slot number_code (lookup x known)
operand_rest known line (Given a) = []

-- those of several
abbrev pub operands_rest : Known → (line : ℕ) → List Operand → List Instr
operands_rest known line operands = flat_map (operand_rest known line) operands

-- the words of an argument on the stack
abbrev pub operand_held : Operand → List ℕ
operand_held (NumberOperand t) = held t
operand_held (PassedName x) = []
operand_held (Given a) = []

-- those of several, the last on top
abbrev pub operands_held : List Operand → List ℕ
operands_held [] = []
operands_held (o ∷ operands) = operands_held operands ++ operand_held o

-- no number of these has its value yet
abbrev pub AreUntouched : List Operand → Type 0
AreUntouched [] = Unit {0}
AreUntouched (NumberOperand t ∷ operands) = IsUntouched t × AreUntouched operands
AreUntouched (PassedName x ∷ operands) = AreUntouched operands
AreUntouched (Given a ∷ operands) = AreUntouched operands

-- the numbers with their values are the first; after the name of a number no other has its value
abbrev pub AreBegun : Known → List Operand → Type 0
AreBegun known [] = Unit {0}
AreBegun known (NumberOperand (Done v) ∷ operands) = AreBegun known operands
AreBegun known (NumberOperand t ∷ operands) = IsBegun t × AreUntouched operands
AreBegun known (PassedName x ∷ operands) = (names_number known x ≡ true → AreUntouched operands) × AreBegun known operands
AreBegun known (Given a ∷ operands) = AreBegun known operands

-- the text of an argument
abbrev pub operand_text : Operand → List (List ℕ)
operand_text (Given (tree.Text bytes)) = bytes ∷ []
operand_text o = []

-- those of several
abbrev pub operands_texts : List Operand → List (List ℕ)
operands_texts operands = flat_map operand_text operands

-- a variable of a type takes a call's result into its slot, and then this comes
pub record ResultStands (code : Listing) (known : Known) (after : After) (place : ℕ) (s : Slot) (x : Identifier) : Type 0 where
  pub own : IsSlotOf code known x s
  pub further : ComesAfter after place ((x, s) ∷ known)

-- a new variable takes it, or the one that has the slot
abbrev pub ResultGoes : Listing → Known → After → (place : ℕ) → Slot → VariableKind → Target → Type 0
ResultGoes code known after place s kind (Declared declared x) = (declared ≡ kind) × ResultStands code known after place s x
ResultGoes code known after place s kind (Assigned x) = ResultStands code known after place s x × (lookup x known ≡ Some s)
ResultGoes code known after place s kind target = ⊥

-- the type of a variable that takes what a function gives as a number
abbrev pub number_type : ResultKind → Option ExprType
number_type GivesInt = Some Jint
number_type GivesFlag = Some types.Flag
number_type kind = None

-- what a function gives goes into a static
abbrev pub IsStaticResult : ResultKind → Type 0
IsStaticResult NewGlobal = Unit {0}
IsStaticResult NewWeak = Unit {0}
IsStaticResult gives = ⊥

-- a static that is known takes it, and then this comes
pub record StaticStands (known : Known) (after : After) (place : ℕ) (i : ℕ) (target : Target) : Type 0 where
  pub name : Identifier
  pub is : target ≡ Assigned name
  pub there : IsStaticIn known name i
  pub further : ComesAfter after place known

-- it is the test of an `if`, which is there with either truth on the stack
pub record TestStands (code : Listing) (known : Known) (after : After) (place : ℕ) (line : ℕ) (target : Target) : Type 0 where
  pub then' : Block
  pub else' : Block
  pub is : target ≡ Tested then' else'
  pub paths : (gave_zero : Bool) → BranchStands code known place (truth_word gave_zero ∷ []) after line (Done (Truth gave_zero)) then' else'

-- what a function gives is a buffer
abbrev pub IsBufferResult : ResultKind → Type 0
IsBufferResult gives = (access : Access) × (gives ≡ GivesBuffer access)

-- a buffer takes it, with elements of the type that the instruction has
abbrev pub BufferGoes : Listing → Known → After → (place : ℕ) → ElementType → (i : ℕ) → Target → Type 0
BufferGoes code known after place element i target =
    (t : ElementType) × (writable : Bool) × (element ≡ element_of t)
    × ResultGoes code known after place (record { ty = Buffer t writable; index = i }) (kinds.Buffer t) target

-- where the result of a call in a statement on this line goes, as an instruction has it, and then what comes
abbrev pub TargetStands : Listing → Known → After → (place : ℕ) → (line : ℕ) → Destination → ResultKind → Target → Type 0
TargetStands code known after place line (destination.Number i) gives target =
    (s : ExprType) × (number_type gives ≡ Some s) × ResultGoes code known after place (record { ty = s; index = i }) kinds.Number target
TargetStands code known after place line (destination.Local i) gives target = (gives ≡ NewLocal)
    × ResultGoes code known after place (record { ty = Ref; index = i }) kinds.Reference target
TargetStands code known after place line (destination.FieldId i) gives target = (gives ≡ GivesField)
    × ResultGoes code known after place (record { ty = FieldId; index = i }) kinds.Field target
TargetStands code known after place line (destination.MethodId i) gives target = (gives ≡ GivesMethod)
    × ResultGoes code known after place (record { ty = MethodId; index = i }) kinds.Method target
TargetStands code known after place line (destination.Static i) gives target = IsStaticResult gives × StaticStands known after place i target
TargetStands code known after place line (destination.Buffer element i) gives target = IsBufferResult gives × BufferGoes code known after place element i target
TargetStands code known after place line destination.Test gives target = (gives ≡ GivesInt) × TestStands code known after place line target
TargetStands code known after place line destination.Dropped gives target = (target ≡ Dropped) × (is_droppable gives ≡ true) × after place known

-- what is left to be worked out for a call is at the place, and then its instruction, and then what comes
pub record InvokeStands (code : Listing) (known : Known) (place : ℕ) (stack : List ℕ) (after : After) (line : ℕ)
    (target : Target) (f : JniFunction) (operands : List Operand) : Type 0 where
  pub call : Call
  pub at : HasAt code.instrs place (operands_rest known line operands ++ instr.Call call ∷ [])
  pub same_line : call.line ≡ line
  pub same_function : call.function ≡ f
  pub begun : AreBegun known operands
  pub held : stack ≡ operands_held operands
  pub texts : call.texts ≡ operands_texts operands
  pub count : length operands ≡ length (parameters_for f (length operands))
  pub operands_stand : AllZip (OperandStands known) call.operands (zip (parameters_for f (length operands)) operands)
  pub own_slots : HaveOwnSlots known
  pub goes : TargetStands code known after (place + length (operands_rest known line operands) + 1) line call.target (prototype f).result target

-- ---- paths and loops

-- the jump at the end of a path
pub record EndStands (code : Listing) (known : Known) (place : ℕ) (stack : List ℕ) (after : After) : Type 0 where
  pub empty : stack ≡ []
  pub skipped : ℕ
  pub at : slice_get code.instrs place ≡ Some (instr.Jump skipped)
  pub further : ComesAfter after (place + 1 + skipped) known

-- a loop whose test is under way; its code begins at `start`
pub record LoopStands (code : Listing) (known : Known) (place : ℕ) (stack : List ℕ) (after : After) (line : ℕ)
    (test : Expr) (t : Term) (body : Block) : Type 0 where
  pub slots : SlotCounts
  pub start : ℕ
  pub under_way : IsUnderWay known types.Truth t stack
  pub fits : NumberFits known (term_of test) types.Truth
  pub test_code : List Instr
  pub test_is : test_code ≡ expr_code known line test
  pub body_code : List Instr
  pub body_is : body_code ≡ block_code (record { known = known; slots = slots }) body
  pub whole : HasAt code.instrs start (test_code ++ turn_code test_code body_code)
  pub here : HasAt code.instrs place (term_code known line t)
  pub meets : place + length (term_code known line t) ≡ start + length test_code
  pub turn : BlockStands code (record { known = known; slots = slots }) (start + length test_code + 1) body
  pub further : after (start + length test_code + 1 + length body_code + 1) known

-- the jump at the end of a turn, back to the test
pub record TurnStands (code : Listing) (known : Known) (place : ℕ) (stack : List ℕ) (after : After) (line : ℕ) (test : Expr) (body : Block) : Type 0 where
  pub empty : stack ≡ []
  pub back : ℕ
  pub at : slice_get code.instrs place ≡ Some (instr.JumpBack back)
  pub inside : back ≤ place
  pub names : Known
  pub among : AreAmong names known
  pub loop : LoopStands code names (place - back) [] after line test (term_of test) body

-- ---- returns

-- NULL or a local reference is returned
abbrev pub ReferenceReturned : Listing → Known → (place : ℕ) → Term → Type 0
ReferenceReturned code known place t =
    ((t ≡ term.Named constants.Null) × (slice_get code.instrs place ≡ Some (instr.ReturnReference Null)))
    ⊎ ((x : Identifier) × (i : ℕ) × (t ≡ Read x) × (lookup x known ≡ Some (record { ty = Ref; index = i }))
    × (slice_get code.instrs place ≡ Some (instr.ReturnReference (Local i))))

-- a value is returned
abbrev pub ReturnStands : Listing → Known → (place : ℕ) → (stack : List ℕ) → (line : ℕ) → Term → Type 0
ReturnStands code known place stack line t = NumberStands code known place stack line Jint t (instr.ReturnJint ∷ []) ⊎ ReferenceReturned code known place t

-- ---- tasks

-- the place, with these names known and these operands, stands for a task, and the place after it for what is to do then
abbrev pub TaskStands : Listing → Known → (place : ℕ) → (stack : List ℕ) → After → Task → Type 0
TaskStands code known place stack after (SetScalar line x t) = SetStands code known place stack after line x t
TaskStands code known place stack after (SetElement line x i e) = SetElementStands code known place stack after line x i e
TaskStands code known place stack after (SetNull target) = SetNullStands code known place stack after target
TaskStands code known place stack after (MakeArray t x size) = MakeArrayStands code known place stack after t x size
TaskStands code known place stack after (Invoke line target f operands) = InvokeStands code known place stack after line target f operands
TaskStands code known place stack after (Print line t) = NumberStands code known place stack line Jint t
    (instr.PutJint ∷ []) × after (place + length (term_code known line t) + 1) known
TaskStands code known place stack after (Branch line t then' else') = BranchStands code known place stack after line t then' else'
TaskStands code known place stack after EndIf = EndStands code known place stack after
TaskStands code known place stack after (Loop line test t body) = LoopStands code known place stack after line test t body
TaskStands code known place stack after (EndTurn line test body) = TurnStands code known place stack after line test body
TaskStands code known place stack after Return = (stack ≡ []) × (slice_get code.instrs place ≡ Some instr.Return)
TaskStands code known place stack after (ReturnValue line t) = ReturnStands code known place stack line t
TaskStands code known place stack after Impossible = ⊥

-- so it does for tasks one after another; what comes after a return is never done
abbrev pub TasksStand : Listing → Known → (place : ℕ) → (stack : List ℕ) → List Task → Type 0
TasksStand code known place stack [] = Unit {0}
TasksStand code known place stack (task ∷ rest) = TaskStands code known place stack (λ p names. TasksStand code names p [] rest) task

-- ---- every path returns

abbrev mutual
  -- whether each path through a statement returns
  pub stmt_returns : Stmt → Bool
  stmt_returns (tree.If line test then' (tree.ElseBlock else')) = block_returns then' && block_returns else'
  stmt_returns (tree.Return line e) = true
  stmt_returns s = false

  -- the same of a block
  pub block_returns : Block → Bool
  block_returns (End line) = false
  block_returns (Next s rest) = stmt_returns s || block_returns rest

-- the same of a task; what is impossible is followed by nothing
abbrev pub task_returns : Task → Bool
task_returns (Invoke line (Tested then' else') f operands) = block_returns then' && block_returns else'
task_returns (Branch line t then' else') = block_returns then' && block_returns else'
task_returns Return = true
task_returns (ReturnValue line t) = true
task_returns Impossible = true
task_returns task = false

-- The place stands for the tasks still to do from there on, and every path through them returns. So no place stands for
-- nothing.
pub record StandsFor (code : Listing) (known : Known) (place : ℕ) (stack : List ℕ) (tasks : List Task) : Type 0 where
  pub stand : TasksStand code known place stack tasks
  pub returns : IsTrue (list_any task_returns tasks)
