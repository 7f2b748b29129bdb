-- What the instruction at a place does.
use Rattle.std.specs.Prelude.{◌≡◌, ℕ, ℤ, ◌+◌, ◌-◌, ◌<◌, ◌≤◌, ◌⊎◌, Bool, true, List, [], ◌∷◌, ◌++◌, length, flat_map, slice_get, slice_set, Option, Some, None, FitsSigned}
use Rattle.std.specs.Bool.{beq}
use Rattle.std.specs.Option.{option_map}
use Rattle.std.specs.Int.{w32, cast_signed, cast_unsigned}
use Rattle.base.specs.Bytes.{Identifier, lookup}
use Rattle.base.specs.declared.element.ElementType.{ElementType}
use Rattle.syntax.specs.Tree.{Block}
use Rattle.jni.specs.declared.access.Access.{Access}
use Rattle.jni.specs.declared.function.JniFunction.{JniFunction}
use Rattle.jni.specs.JniFunction.{prototype, parameters_for}
use Rattle.jni.specs.declared.kinds.ParameterKind.{ParameterKind}
use Rattle.jni.specs.declared.kinds.ParameterKind.TheVariants.{FieldID, MethodID, IntNumber, Passed, TextBytes, ArrayVariable, BufferVariable, Mode, IsCopy}
use Rattle.jni.specs.declared.kinds.ResultKind.{ResultKind}
use Rattle.jni.specs.declared.kinds.ResultKind.TheVariants.{NewLocal, GivesInt, GivesField, GivesMethod}
use Rattle.type_rules.specs.TypeRules.{is_droppable}
use Rattle.type_rules.specs.declared.ty.ExprType.{ExprType}
use Rattle.type_rules.specs.declared.ty.ExprType.TheVariants.{Flag, Ref, FieldId, MethodId, Buffer}
use Rattle.class_rules.specs.Fields as source
use Rattle.semantics.specs.Method as method
use Rattle.semantics.specs.Object.{Reference}
use Rattle.jni.specs.declared.mode.ReleaseMode.{ReleaseMode}
use Rattle.semantics.specs.Arguments.{Actual, ReferenceActual, FieldActual, MethodActual, NumberActual, TextActual, VariableActual, ModeActual, NothingActual}
use Rattle.semantics.specs.Effect.{Effect, Becomes, Sets, SetsNull, SetsElement, MakesArray, Prints, Calls, Returns, TrapsAt, NoEffect}
use Rattle.semantics.specs.declared.variable_kind.VariableKind.{VariableKind}
use Rattle.semantics.specs.declared.variable_kind.VariableKind.TheVariants as kinds
use Rattle.semantics.specs.Task.{Task, Branch, Target, Declared, Assigned, Tested, Dropped}
use Rattle.semantics.specs.Term.{Done}
use Rattle.semantics.specs.declared.trap.Trap.{Trap}
use Rattle.semantics.specs.declared.value.Value.{Value}
use Rattle.semantics.specs.declared.value.Value.TheVariants.{Int}
use Rattle.semantics.specs.Value.{Gives}
use Rattle.semantics.specs.declared.value.Value.TheVariants as value
use Rattle.semantics.specs.declared.trap.Trap.TheVariants as traps
use Rattle.semantics.specs.Variable as variable
use Rattle.semantics.specs.Variable.{StaticReference, Empty}
use Rattle.code.specs.Call.{Call}
use Rattle.code.specs.declared.instr.LocalArray.{LocalArray}
use Rattle.code.specs.declared.instr.Operand.{Operand as Where}
use Rattle.code.specs.declared.instr.Operand.TheVariants as operand
use Rattle.code.specs.declared.instr.NullableVariable.{NullableVariable}
use Rattle.code.specs.declared.instr.NullableVariable.TheVariants as nullable
use Rattle.code.specs.declared.instr.Target.{Target as Destination}
use Rattle.code.specs.declared.instr.Target.TheVariants as destination
use Rattle.code.specs.declared.instr.Instr.{Instr}
use Rattle.code.specs.declared.instr.Instr.TheVariants as instr
use Rattle.code.specs.declared.instr.Plain.{Plain}
use Rattle.code.specs.declared.instr.Plain.TheVariants as plain
use Rattle.code.specs.declared.instr.PlainTrap.{PlainTrap}
use Rattle.code.specs.declared.instr.PlainTrap.TheVariants as trap
use Rattle.code.specs.Depth.{Listing}
use Rattle.code.specs.Effect.{truth_word, plain_of}
use Rattle.code_meaning.specs.Coding.{mode_code, element_of}
use Rattle.code_meaning.specs.Layout.{Known}
use Rattle.code_meaning.specs.Slots.{word_of, ValueHasType, Visible, Slots, Shows, IsSet, IsNulled, IsReferred, IsFieldSet, IsMethodSet, IsBufferSet, IsMade, IsElementSet, IsHeld, OfField, OfMethod, ShowsStatic, elements_in, with_element, slot_elements, holds_null, with_null}
use Rattle.code_meaning.specs.Stands.{target_name, number_type, IsBufferResult, IsStaticResult, StandsFor}
use Rattle.code_meaning.specs.Fits.{IsReferenceKind, TakesNull, TakesLocal, TakesGlobal, IsStaticIn, IsArray, HaveOwnSlots}

-- the instructions that leave a function
abbrev pub IsReturn : Instr → Type 0
IsReturn instr.Return = Unit {0}
IsReturn instr.ReturnJint = Unit {0}
IsReturn (instr.ReturnReference operand) = Unit {0}
IsReturn i = ⊥

-- the trap of an instruction
abbrev pub trap_of : PlainTrap → Trap
trap_of trap.DivisionByZero = traps.DivisionByZero
trap_of trap.ShiftTooFar = traps.ShiftTooFar
trap_of trap.OutOfRange = traps.OutOfRange

-- no element of a buffer in a slot is at this index
abbrev pub IsPast : Visible → Slots → (i index : ℕ) → Type 0
IsPast visible slots i index = (zs : List ℤ) × (slot_elements visible slots i ≡ Some zs) × (slice_get zs index ≡ None)

-- the element at an index takes its place, or a trap leaves it there
abbrev pub Loads : (line index : ℕ) → (stack : List ℕ) → Option ℤ → Plain → (after : List ℕ) → Type 0
Loads line index stack (Some z) path after = (path ≡ plain.Next) × (after ≡ cast_unsigned w32 z ∷ stack)
Loads line index stack None path after = (path ≡ plain.Trap trap.OutOfRange line) × (after ≡ index ∷ stack)

-- an instruction works on the stack alone: where it leads, and the stack after it; a null test looks at the slots and the
-- statics too, and one on a buffer at its elements, which are written elsewhere
abbrev pub Works : Visible → Slots → Instr → (stack : List ℕ) → Plain → (after : List ℕ) → Type 0
Works visible slots (instr.TestNull variable equal) stack path after =
    (null : Bool) × (holds_null visible slots variable ≡ Some null) × (path ≡ plain.Next) × (after ≡ truth_word (beq null equal) ∷ stack)
Works visible slots (instr.LoadBuffer i line) (index ∷ stack) path after =
    (zs : List ℤ) × (slot_elements visible slots i ≡ Some zs) × Loads line index stack (slice_get zs index) path after
Works visible slots (instr.StoreBuffer type i line) (word ∷ index ∷ stack) path after =
    IsPast visible slots i index × (path ≡ plain.Trap trap.OutOfRange line) × (after ≡ word ∷ index ∷ stack)
Works visible slots i stack path after = plain_of i stack slots.numbers ≡ Some (path, after, slots.numbers)

-- what holds at the place that a path leads to
abbrev pub AtEnd : (ℕ → Type 0) → (place : ℕ) → Plain → Type 0
AtEnd P place plain.Next = P (place + 1)
AtEnd P place (plain.Skip n) = P (place + 1 + n)
AtEnd P place (plain.Back n) = (n ≤ place) × P (place - n)
AtEnd P place (plain.Trap t line) = ⊥

-- of three lists this holds at each place, and one is as long as the others
pub data AllTogether {A B C : Type 0} (Holds : A → B → C → Type 0) : List A → List B → List C → Type 0 where
  none : AllTogether Holds [] [] []
  more : {x : A} {y : B} {z : C} {xs : List A} {ys : List B} {zs : List C} → Holds x y z → AllTogether Holds xs ys zs
      → AllTogether Holds (x ∷ xs) (y ∷ ys) (z ∷ zs)

-- an operand gives a reference: NULL, or that of a local reference or of a static with a known name
pub data GivesReference (known : Known) (visible : Visible) (p : ParameterKind) : Where → Identifier → StaticReference → Type 0 where
  null : {x : Identifier} → TakesNull p → GivesReference known visible p operand.Null x Empty
  local : {i : ℕ} {x : Identifier} → TakesLocal p → lookup x known ≡ Some (record { ty = Ref; index = i })
      → GivesReference known visible p (operand.Local i) x (visible.sight.reference x)
  static : {i : ℕ} {x : Identifier} → TakesGlobal p → IsStaticIn known x i
      → GivesReference known visible p (operand.Static i) x (visible.sight.reference x)

-- An argument is what its parameter asks for, and an operand gives it: a `jint`, a text, a reference, the field ID or the method ID of a
-- known name, or NULL for these; a local array, a buffer or a flag with a known name; or a release mode.
pub data IsOperand (known : Known) (visible : Visible) : ParameterKind → Where → Actual → Type 0 where
  number : {z : ℤ} → FitsSigned w32 z → IsOperand known visible IntNumber operand.Number (NumberActual z)
  passed : {z : ℤ} → FitsSigned w32 z → IsOperand known visible Passed operand.Number (NumberActual z)
  text : {bytes : List ℕ} → IsOperand known visible TextBytes operand.Text (TextActual bytes)
  reference : {p : ParameterKind} {o : Where} {x : Identifier} {r : StaticReference} → IsReferenceKind p
      → GivesReference known visible p o x r → IsOperand known visible p o (ReferenceActual x r)
  no_field : IsOperand known visible FieldID operand.Null (FieldActual None)
  field : {i : ℕ} {x : Identifier} → lookup x known ≡ Some (record { ty = FieldId; index = i })
      → IsOperand known visible FieldID (operand.FieldId i) (FieldActual (visible.sight.field x))
  no_method : IsOperand known visible MethodID operand.Null (MethodActual None)
  has_method : {i : ℕ} {x : Identifier} → lookup x known ≡ Some (record { ty = MethodId; index = i })
      → IsOperand known visible MethodID (operand.MethodId i) (MethodActual (visible.sight.method x))
  array : {t u : ElementType} {slots : LocalArray} {x : Identifier} → IsArray known x u slots.len slots.start
      → IsOperand known visible (ArrayVariable t) (operand.Array slots) (VariableActual x)
  buffer : {access : Access} {t : ElementType} {writable : Bool} {i : ℕ} {x : Identifier}
      → lookup x known ≡ Some (record { ty = Buffer t writable; index = i })
      → IsOperand known visible (BufferVariable access) (operand.Buffer i) (VariableActual x)
  mode : {m : ReleaseMode} → IsOperand known visible Mode (operand.Mode (mode_code m)) (ModeActual m)
  not_told : IsOperand known visible IsCopy operand.Null NothingActual
  told : {i : ℕ} {x : Identifier} → lookup x known ≡ Some (record { ty = Flag; index = i })
      → IsOperand known visible IsCopy (operand.IsCopy i) (VariableActual x)

-- the word of an argument that is a number
abbrev pub word_given : Actual → List ℕ
word_given (NumberActual z) = word_of (Int z) ∷ []
word_given a = []

-- those of several, the last on top
abbrev pub words_given : List Actual → List ℕ
words_given [] = []
words_given (a ∷ args) = words_given args ++ word_given a

-- the text of an argument
abbrev pub text_given : Actual → List (List ℕ)
text_given (TextActual bytes) = bytes ∷ []
text_given a = []

-- those of several, in order
abbrev pub texts_given : List Actual → List (List ℕ)
texts_given args = flat_map text_given args

-- The place, with these names known, these operands and these slots, where this can be seen.
module _ (code : Listing) (known : Known) (place : ℕ) (stack : List ℕ) (slots : Slots) (visible : Visible) where
  -- it works on the stack alone, and the place that it leads to stands for these tasks
  pub record GoesOn (tasks : List Task) : Type 0 where
    pub here : Instr
    pub path : Plain
    pub after : List ℕ
    pub at : slice_get code.instrs place ≡ Some here
    pub works : Works visible slots here stack path after
    pub names : Known
    pub shows : Shows code names visible slots
    pub stands : AtEnd (λ p. StandsFor code names p after tasks) place path

  -- it writes number slots, so that they show what is changed, and the next place stands for these tasks
  pub record Writes (changed : Visible → Type 0) (tasks : List Task) : Type 0 where
    pub here : Instr
    pub numbers : List ℕ
    pub at : slice_get code.instrs place ≡ Some here
    pub plain : plain_of here stack slots.numbers ≡ Some (plain.Next, [], numbers)
    pub names : Known
    pub shows : (new : Visible) → changed new → Shows code names new (record slots { numbers = numbers })
    pub stands : StandsFor code names (place + 1) [] tasks

  -- it writes an element of a local array, and the next place stands for these tasks
  abbrev pub WritesArray : Identifier → (index : ℕ) → ℤ → List Task → Type 0
  WritesArray x index z tasks = (t : ElementType) × (visible.array_type x ≡ Some t) × Writes (IsElementSet visible t x index z) tasks

  -- it writes an element of a buffer, which is there: of a copy in its slot, or of a viewed object, and the next place stands for
  -- these tasks
  pub record WritesBuffer (x : Identifier) (index : ℕ) (z : ℤ) (tasks : List Task) : Type 0 where
    pub type : ElementType
    pub kind : visible.kind x ≡ Some (kinds.Buffer type)
    pub slot : ℕ
    pub there : slice_get slots.buffers slot ≡ Some (visible.buffer x)
    pub inside : index < length (elements_in (visible.buffer x) visible.numbers)
    pub line : ℕ
    pub at : slice_get code.instrs place ≡ Some (instr.StoreBuffer (element_of type) slot line)
    pub operands : stack ≡ cast_unsigned w32 z ∷ index ∷ []
    pub fits : FitsSigned w32 z
    pub names : Known
    pub shows : (new : Visible) → IsBufferSet visible type x (with_element type index z (visible.buffer x)) new
        → Shows code names new (record slots { buffers = slice_set slots.buffers slot (with_element type index z (visible.buffer x)) })
    pub stands : StandsFor code names (place + 1) [] tasks

  -- a new variable that isn't a number, or one that can be NULL
  abbrev pub CanBeNull : Target → Type 0
  CanBeNull (Declared kinds.Number x) = ⊥
  CanBeNull (Declared kind x) = Unit {0}
  CanBeNull (Assigned x) = (null : Bool) × (visible.sight.is_null x ≡ Gives null)
  CanBeNull target = ⊥

  -- the kind of the variable that a target is
  abbrev pub kind_of_target : Target → Option VariableKind
  kind_of_target (Declared kind x) = Some kind
  kind_of_target (Assigned x) = visible.kind x
  kind_of_target target = None

  -- a variable in a slot is of the kind that it has there, or of one of two that share theirs, and a static, which is of none, has the
  -- number of its place
  abbrev pub IsStoredIn : NullableVariable → Option VariableKind → Identifier → Type 0
  IsStoredIn (nullable.Local i) kind x = kind ≡ Some kinds.Reference
  IsStoredIn (nullable.Static i) kind x = (kind ≡ None) × ShowsStatic visible x i
  IsStoredIn (nullable.FieldId i) kind x = (kind ≡ Some kinds.Field) ⊎ (kind ≡ Some kinds.Method)
  IsStoredIn (nullable.Buffer i) kind x = (t : ElementType) × (kind ≡ Some (kinds.Buffer t))

  -- it makes a variable NULL, and the next place stands for these tasks
  pub record StoresNull (target : Target) (tasks : List Task) : Type 0 where
    pub empty : stack ≡ []
    pub name : Identifier
    pub is : target_name target ≡ Some name
    pub takes : CanBeNull target
    pub variable : NullableVariable
    pub stored : IsStoredIn variable (kind_of_target target) name
    pub at : slice_get code.instrs place ≡ Some (instr.StoreNull variable)
    pub names : Known
    pub shows : (new : Visible) → IsNulled visible (kind_of_target target) name new → Shows code names new (with_null variable slots)
    pub stands : StandsFor code names (place + 1) [] tasks

  -- it prints the one word on the stack, which is this number
  pub record PrintsTop (number : ℤ) (tasks : List Task) : Type 0 where
    pub at : slice_get code.instrs place ≡ Some instr.PutJint
    pub word : ℕ
    pub top : stack ≡ word ∷ []
    pub is : cast_signed w32 word ≡ number
    pub stands : StandsFor code known (place + 1) [] tasks

  -- What the call gives goes into a slot: then the slots show the variable with it, and the next place stands for these tasks.
  pub record TakesNumber (s : ExprType) (i : ℕ) (x : Identifier) (tasks : List Task) : Type 0 where
    pub within : i < length slots.numbers
    pub names : Known
    pub shows : (v : Value) (new : Visible) → ValueHasType v s → IsSet visible x v new
        → Shows code names new (record slots { numbers = slice_set slots.numbers i (word_of v) })
    pub stands : StandsFor code names (place + 1) [] tasks

  -- the same of a reference, beside which is its level, if it is the variable's own
  pub record TakesReference (i : ℕ) (x : Identifier) (tasks : List Task) : Type 0 where
    pub within : i < length slots.references
    pub names : Known
    pub shows : (r : Reference) (new : Visible) → IsReferred visible x r new
        → Shows code names new (record slots {
          references = slice_set slots.references i r;
          owners = slice_set slots.owners i (new.owner x);
        })
    pub stands : StandsFor code names (place + 1) [] tasks

  -- the same of a field ID
  pub record TakesField (i : ℕ) (x : Identifier) (tasks : List Task) : Type 0 where
    pub within : i < length slots.fields
    pub names : Known
    pub shows : (f : Option source.FieldId) (new : Visible) → IsFieldSet visible x f new
        → Shows code names new (record slots { fields = slice_set slots.fields i (option_map OfField f) })
    pub stands : StandsFor code names (place + 1) [] tasks

  -- the same of a method ID
  pub record TakesMethod (i : ℕ) (x : Identifier) (tasks : List Task) : Type 0 where
    pub within : i < length slots.fields
    pub names : Known
    pub shows : (m : Option method.MethodId) (new : Visible) → IsMethodSet visible x m new
        → Shows code names new (record slots { fields = slice_set slots.fields i (option_map OfMethod m) })
    pub stands : StandsFor code names (place + 1) [] tasks

  -- the same of a global reference, which a static that is known holds then
  pub record TakesStatic (i : ℕ) (x : Identifier) (tasks : List Task) : Type 0 where
    pub static : ShowsStatic visible x i
    pub names : Known
    pub shows : (h : StaticReference) (new : Visible) → IsHeld visible x h new → Shows code names new slots
    pub stands : StandsFor code names (place + 1) [] tasks

  -- The same of a buffer with elements of this type, which is put when `isCopy` has been told: so from whatever can be seen then,
  -- and with the slots that show it.
  pub record TakesBuffer (t : ElementType) (i : ℕ) (x : Identifier) (tasks : List Task) : Type 0 where
    pub within : i < length slots.buffers
    pub names : Known
    pub shows : (told new : Visible) (now : Slots) (b : variable.Buffer) → Shows code known told now → IsBufferSet told t x b new
        → Shows code names new (record now { buffers = slice_set now.buffers i b })
    pub stands : StandsFor code names (place + 1) [] tasks

  -- The result is tested by an `if` on this line: with the truth whether it is 0 on the stack the next place stands for its
  -- paths, and then for these tasks.
  pub record TakesTest (line : ℕ) (target : Target) (tasks : List Task) : Type 0 where
    pub then' : Block
    pub else' : Block
    pub is : target ≡ Tested then' else'
    pub stands : (gave_zero : Bool) → StandsFor code known (place + 1) (truth_word gave_zero ∷ [])
        (Branch line (Done (value.Truth gave_zero)) then' else' ∷ tasks)

  -- a new variable of this kind takes what is taken, or one that is of this kind already
  abbrev pub GoesInto : VariableKind → Target → (Takes : Identifier → Type 0) → Type 0
  GoesInto kind (Declared declared x) Takes = (declared ≡ kind) × Takes x
  GoesInto kind (Assigned x) Takes = (visible.kind x ≡ Some kind) × Takes x
  GoesInto kind target Takes = ⊥

  -- where the result of a call in a statement on this line goes, by what the function gives, and what comes then
  abbrev pub TakesResult : (line : ℕ) → Destination → ResultKind → Target → List Task → Type 0
  TakesResult line (destination.Number i) gives target tasks = (s : ExprType) × (number_type gives ≡ Some s)
      × GoesInto kinds.Number target (λ x. TakesNumber s i x tasks)
  TakesResult line (destination.Local i) gives target tasks = (gives ≡ NewLocal) × GoesInto kinds.Reference target (λ x. TakesReference i x tasks)
  TakesResult line (destination.FieldId i) gives target tasks = (gives ≡ GivesField) × GoesInto kinds.Field target (λ x. TakesField i x tasks)
  TakesResult line (destination.MethodId i) gives target tasks = (gives ≡ GivesMethod) × GoesInto kinds.Method target (λ x. TakesMethod i x tasks)
  TakesResult line (destination.Static i) gives target tasks = IsStaticResult gives × ((x : Identifier) × (target ≡ Assigned x) × TakesStatic i x tasks)
  TakesResult line (destination.Buffer element i) gives target tasks =
      IsBufferResult gives × ((t : ElementType) × (element ≡ element_of t) × GoesInto (kinds.Buffer t) target (λ x. TakesBuffer t i x tasks))
  TakesResult line destination.Test gives target tasks = (gives ≡ GivesInt) × TakesTest line target tasks
  TakesResult line destination.Dropped gives target tasks = (target ≡ Dropped) × (is_droppable gives ≡ true) × StandsFor code known (place + 1) [] tasks

  -- it calls this function with these arguments
  pub record CallsFunction (line : ℕ) (target : Target) (f : JniFunction) (args : List Actual) (tasks : List Task) : Type 0 where
    pub call : Call
    pub at : slice_get code.instrs place ≡ Some (instr.Call call)
    pub same_line : call.line ≡ line
    pub same_function : call.function ≡ f
    pub words : stack ≡ words_given args
    pub texts : call.texts ≡ texts_given args
    pub count : length args ≡ length (parameters_for f (length args))
    pub given : AllTogether (IsOperand known visible) (parameters_for f (length args)) call.operands args
    pub own_slots : HaveOwnSlots known
    pub goes : TakesResult line call.target (prototype f).result target tasks

  -- it leaves the function
  pub record LeavesCall : Type 0 where
    pub here : Instr
    pub at : slice_get code.instrs place ≡ Some here
    pub returns : IsReturn here

  -- it traps on a line, and leaves stack and slots as they were
  pub record Stops (reason : Trap) (line : ℕ) : Type 0 where
    pub here : Instr
    pub trap : PlainTrap
    pub is : trap_of trap ≡ reason
    pub at : slice_get code.instrs place ≡ Some here
    pub works : Works visible slots here stack (plain.Trap trap line) stack

  -- The instruction at the place does what the first of the tasks does, whose effect is given. A task that has none is one of no
  -- accepted program: it isn't met.
  abbrev pub DoesEffect : (rest : List Task) → Effect → Type 0
  DoesEffect rest (Becomes tasks) = GoesOn (tasks ++ rest)
  DoesEffect rest (Sets x v) = Writes (IsSet visible x v) rest
  DoesEffect rest (SetsNull target) = StoresNull target rest
  DoesEffect rest (SetsElement x index z) = WritesArray x index z rest ⊎ WritesBuffer x index z rest
  DoesEffect rest (MakesArray t x size) = Writes (IsMade visible t x size) rest
  DoesEffect rest (Prints z) = PrintsTop z rest
  DoesEffect rest (Calls line target f args) = CallsFunction line target f args rest
  DoesEffect rest (Returns given) = LeavesCall
  DoesEffect rest (TrapsAt reason line) = Stops reason line
  DoesEffect rest NoEffect = Unit {0}
