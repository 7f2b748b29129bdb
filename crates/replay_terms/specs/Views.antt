-- Values, terms and variables that lie in memory, as those of the language.
use Rattle.std.specs.Prelude.{◌≡◌, ◌<◌, ◌≤◌, ◌+◌, ℕ, ℤ, not, length, List, [], ◌∷◌, ◌++◌, map, slice_get, slice_set, Option, Some, None}
use Rattle.std.specs.Option.{option_map}
use Rattle.std.specs.Borrow.{Bor}
use Rattle.base.specs.Limits.{most_copied, most_views}
use Rattle.base.specs.Bytes.{Identifier, ByName, lookup}
use Rattle.base.specs.declared.element.ElementType.{ElementType}
use Rattle.syntax.specs.declared.call.Argument.{Argument as ArgumentInMemory}
use Rattle.syntax.specs.Views.{argument_tree, function_tree}
use Rattle.syntax.specs.Limits.{number_limit}
use Rattle.classes.specs.FieldViews.{field_id_view}
use Rattle.semantics.specs.CallEffects.{CallResult, NoResult, NullResult, ScalarResult, ReferenceResult, WeakResult, FieldResult, MethodResult}
use Rattle.semantics.specs.Heap.{Heap, number_in, numbers_of}
use Rattle.semantics.specs.Method.{MethodId}
use Rattle.semantics.specs.Sight.{Sight, in_range}
use Rattle.semantics.specs.Task.{Operand, NumberOperand, PassedName}
use Rattle.semantics.specs.Task as task
use Rattle.semantics.specs.Term.{Term, Done, Number, Named, Read, Element, IsNull, Prefix, And, Or, Binary, Reduction, done, reduce}
use Rattle.semantics.specs.declared.value.Value.{Value}
use Rattle.semantics.specs.declared.value.Value.TheVariants.{Word, Int, Flag, Truth}
use Rattle.semantics.specs.Value.{Outcome, Gives, Traps, Stuck, outcome_then, outcome_map, convert}
use Rattle.semantics.specs.Variable.{Variable, Scalar, LocalRef, FieldHandle, MethodHandle, Elements, LocalArray, Buffer, NoBuffer, Copy, View, StaticReference, Empty, Live, Weakly, Cleared, Deleted, Variables, Statics, assign, copied_length, viewed}
use Rattle.semantics.specs.Thread.{BuffersInUse}
use Rattle.semantics.specs.Views.{name_of, object_value_view}
use Rattle.semantics.specs.declared.object_id.ObjectId.{ObjectId}
use Rattle.semantics.specs.declared.object_value.ObjectValue.{ObjectValue as ObjectValueInMemory}
use Rattle.replay_terms.specs.declared.buffers.BuffersInUse.{BuffersInUse as InUseInMemory}
use Rattle.replay_terms.specs.declared.given.Given.{Given}
use Rattle.replay_terms.specs.declared.given.Given.TheVariants as given
use Rattle.replay_terms.specs.declared.given.Lent.{Lent}
use Rattle.replay_terms.specs.declared.given.Lent.TheVariants as lent
use Rattle.replay_terms.specs.declared.method.MethodId.{MethodId as MethodInMemory}
use Rattle.replay_terms.specs.declared.operand.Operand.{Operand as OperandInMemory}
use Rattle.replay_terms.specs.declared.operand.Operand.TheVariants as operand
use Rattle.replay_terms.specs.declared.operand.OperandRef.{OperandRef}
use Rattle.replay_terms.specs.declared.operand.OperandRef.TheVariants as lying
use Rattle.replay_terms.specs.declared.operand.Operands.{Operands as OperandsInMemory}
use Rattle.replay_terms.specs.declared.operand.Operands.TheVariants as operands
use Rattle.replay_terms.specs.declared.reduction.Reduction.{Reduction as ReductionInMemory}
use Rattle.replay_terms.specs.declared.reduction.Reduction.TheVariants as reduction
use Rattle.replay_terms.specs.declared.sight.Indexed.{Indexed}
use Rattle.replay_terms.specs.declared.sight.Indexed.TheVariants as indexed
use Rattle.semantics.specs.declared.static_reference.StaticReference.{StaticReference as Held}
use Rattle.semantics.specs.declared.static_reference.StaticReference.TheVariants as held
use Rattle.replay_terms.specs.declared.value.Evaluated.{Evaluated}
use Rattle.replay_terms.specs.declared.value.Evaluated.TheVariants as evaluated
use Rattle.semantics.specs.declared.value.Value.TheVariants as value
use Rattle.replay_terms.specs.declared.term.Part.{Part}
use Rattle.replay_terms.specs.declared.term.Part.TheVariants as part
use Rattle.replay_terms.specs.declared.term.Term.{Term as TermInMemory}
use Rattle.replay_terms.specs.declared.term.Term.TheVariants as term
use Rattle.replay_terms.specs.declared.variable.Content.{Content}
use Rattle.replay_terms.specs.declared.variable.Content.TheVariants as content
use Rattle.replay_terms.specs.declared.variable.Written.{Written as WrittenInMemory}
use Rattle.replay_terms.specs.declared.variable.Written.TheVariants as outcome
use Rattle.replay_terms.specs.declared.sight.Shown.{Shown}
use Rattle.replay_terms.specs.declared.sight.Shown.TheVariants as shown

abbrev pub evaluated_view : Evaluated → Outcome Value
evaluated_view (evaluated.Gives v) = Gives v
evaluated_view (evaluated.Traps trap) = Traps trap
evaluated_view evaluated.Stuck = Stuck

abbrev pub indexed_view : Indexed → Outcome ℕ
indexed_view (indexed.At i) = Gives i
indexed_view (indexed.Traps trap) = Traps trap
indexed_view indexed.Stuck = Stuck

-- ---- variables

-- a method in memory
abbrev pub method_view : MethodInMemory → MethodId
method_view m = record { class = m.class.number; function = function_tree m.function.now }

abbrev pub content_view : Content → Variable
content_view (content.Number v) = Scalar v
content_view (content.Reference level r) = LocalRef level.number (name_of r)
content_view (content.Field f) = FieldHandle (option_map field_id_view f)
content_view (content.Method m) = MethodHandle (option_map method_view m)
content_view (content.Buffer T) = Elements T NoBuffer
content_view (content.Copy T n numbers) = Elements T (Copy n.number numbers.items)
content_view (content.View T n) = Elements T (View n.number)
content_view (content.Array T numbers) = LocalArray T numbers.items

-- the entries of a hash map, by name
abbrev pub by_name : {A : Type 0} → List (Bor Identifier × A) → ByName A
by_name entries = map (λ e. (e.0.now, e.1)) entries

-- what variables hold in memory
abbrev pub Contents : Type 0
Contents = ByName Content

abbrev pub variable_view : Identifier × Content → Identifier × Variable
variable_view v = (v.0, content_view v.1)

abbrev pub variables_view : Contents → Variables
variables_view vs = map variable_view vs

-- what a static holds: a global reference, weak or not, is known by the name of its object
abbrev pub HeldInMemory : Type 0
HeldInMemory = Held ObjectId ObjectId

abbrev pub held_view : HeldInMemory → StaticReference
held_view held.Empty = Empty
held_view (held.Live n) = Live n.number
held_view (held.Weakly n) = Weakly n.number
held_view held.Cleared = Cleared
held_view held.Deleted = Deleted

abbrev pub static_view : Identifier × HeldInMemory → Identifier × StaticReference
static_view s = (s.0, held_view s.1)

abbrev pub statics_view : ByName HeldInMemory → Statics
statics_view ss = map static_view ss

-- the values with those of a list at their names, one after another
abbrev pub assign_all : {A : Type 0} → ByName A → ByName A → ByName A
assign_all [] values = values
assign_all ((x, v) ∷ more) values = assign_all more (assign x v values)

-- the numbers that are shown
abbrev pub shown_numbers : Heap → Shown → List ℤ
shown_numbers heap (shown.Numbers numbers) = numbers.now
shown_numbers heap (shown.Object n) = numbers_of heap n.number

-- what is there, or nothing fits
abbrev pub if_there : {A : Type 0} → Option A → Outcome A
if_there (Some a) = Gives a
if_there None = Stuck

-- an index within the range of these numbers
abbrev pub place_in : Outcome (List ℤ) → Outcome ℕ → Outcome ℕ
place_in numbers i = outcome_then (λ n. outcome_map (λ (z : ℤ). n) (outcome_then (λ (zs : List ℤ). in_range (slice_get zs n)) numbers)) i

-- the number of a value in memory, and 0 of a reference
abbrev pub held_number : ObjectValueInMemory → ℤ
held_number v = number_in (object_value_view v)

-- an array or a copy with a number, converted to its type, at an index
abbrev pub written : ℕ → ℤ → Variable → Option Variable
written i z (LocalArray T zs) = Some (LocalArray T (slice_set zs i (convert T z)))
written i z (Elements T (Copy n zs)) = Some (Elements T (Copy n (slice_set zs i (convert T z))))
written i z v = None

-- it is no variable whose elements can be written
abbrev pub HasNoElements : Option Variable → Type 0
HasNoElements (Some (LocalArray kind numbers)) = ⊥
HasNoElements (Some (Elements kind (Copy n numbers))) = ⊥
HasNoElements (Some (Elements kind (View n))) = ⊥
HasNoElements v = Unit {0}

-- this number, converted to its type, goes into an object that is shown
pub record IsShown (v : Variable) (z : ℤ) (n : ℕ) (y : ℤ) : Type 0 where
  pub kind : ElementType
  pub shows : v ≡ Elements kind (View n)
  pub converted : y ≡ convert kind z

-- an element was written, is to be written into an object, or there is none
abbrev pub WritesContent : Variable → ℕ → ℤ → WrittenInMemory → Variable → Type 0
WritesContent old i z outcome.Done new = written i z old ≡ Some new
WritesContent old i z (outcome.Object n y) new = IsShown old z n.number y × (new ≡ old)
WritesContent old i z outcome.Nothing new = HasNoElements (Some old) × (new ≡ old)

-- what a name has was written
pub record IsWritten (old : Variables) (x : Identifier) (i : ℕ) (z : ℤ) (new : Variables) : Type 0 where
  pub before : Variable
  pub after : Variable
  pub there : lookup x old ≡ Some before
  pub is : written i z before ≡ Some after
  pub set : new ≡ assign x after old

-- what a name has shows an object into which this number goes
pub record IsToWrite (old : Variables) (x : Identifier) (z : ℤ) (n : ℕ) (y : ℤ) (new : Variables) : Type 0 where
  pub variable : Variable
  pub there : lookup x old ≡ Some variable
  pub shown : IsShown variable z n y
  pub same : new ≡ old

-- the same of what has a name
abbrev pub WritesElement : Variables → Identifier → ℕ → ℤ → WrittenInMemory → Variables → Type 0
WritesElement old x i z outcome.Done new = IsWritten old x i z new
WritesElement old x i z (outcome.Object n y) new = IsToWrite old x z n.number y new
WritesElement old x i z outcome.Nothing new = HasNoElements (lookup x old) × (new ≡ old)

-- ---- what buffers take

-- what all variables have of something
abbrev pub total : (Variable → ℕ) → Variables → ℕ
total g [] = 0
total g ((x, v) ∷ vs) = g v + total g vs

-- what a variable has of it, if it is there
abbrev pub had : (Variable → ℕ) → Option Variable → ℕ
had g None = 0
had g (Some v) = g v

-- how many objects it shows
abbrev pub count_viewed : Variable → ℕ
count_viewed v = length (viewed v)

-- the object that a variable in memory shows
abbrev pub viewed_by : Content → List ℕ
viewed_by c = viewed (content_view c)

abbrev pub in_use_view : InUseInMemory → BuffersInUse
in_use_view u = record { copied = u.copied; views = u.views }

-- variables have copies of this length together, and this many views, within the limits
pub record Takes (vs : Contents) (u : InUseInMemory) : Type 0 where
  pub copied : u.copied ≡ total copied_length (variables_view vs)
  pub views : u.views ≡ total count_viewed (variables_view vs)
  pub within : u.copied ≤ most_copied
  pub few : u.views ≤ most_views

-- ---- terms

abbrev mutual
  pub term_view : TermInMemory → Term
  term_view (term.Done v) = Done v
  term_view (term.Number n unsigned) = Number n unsigned
  term_view (term.Named c) = Named c
  term_view (term.Read x) = Read x.now
  term_view (term.Element x i) = Element x.now (part_view i)
  term_view (term.IsNull wanted x) = IsNull wanted x.now
  term_view (term.Prefix op t) = Prefix op (part_view t)
  term_view (term.And' p s q t) = And (term_view s) (term_view t)
  term_view (term.Or' p s q t) = Or (term_view s) (term_view t)
  term_view (term.Binary op s t) = Binary op (part_view s) (part_view t)

  pub part_view : Part → Term
  part_view (part.Done v) = Done v
  part_view (part.Number n unsigned) = Number n unsigned
  part_view (part.Read x) = Read x.now
  part_view (part.Whole' p t) = term_view t

-- each number that has no value yet is in the range of its type
abbrev mutual
  pub NumbersInRange : TermInMemory → Type 0
  NumbersInRange (term.Done v) = Unit {0}
  NumbersInRange (term.Number n unsigned) = n < number_limit unsigned
  NumbersInRange (term.Named c) = Unit {0}
  NumbersInRange (term.Read x) = Unit {0}
  NumbersInRange (term.Element x i) = PartInRange i
  NumbersInRange (term.IsNull wanted x) = Unit {0}
  NumbersInRange (term.Prefix op t) = PartInRange t
  NumbersInRange (term.And' p s q t) = NumbersInRange s × NumbersInRange t
  NumbersInRange (term.Or' p s q t) = NumbersInRange s × NumbersInRange t
  NumbersInRange (term.Binary op s t) = PartInRange s × PartInRange t

  pub PartInRange : Part → Type 0
  PartInRange (part.Done v) = Unit {0}
  PartInRange (part.Number n unsigned) = n < number_limit unsigned
  PartInRange (part.Read x) = Unit {0}
  PartInRange (part.Whole' p t) = NumbersInRange t

-- ---- the step of a term

-- the other truth
abbrev pub negated : Outcome Value → Outcome Value
negated (Gives (Truth b)) = Gives (Truth (not b))
negated o = o

-- what the left side of `&&` or `||` decides, or else the right side
abbrev pub decided : Option Evaluated → (right : Term) → Reduction
decided None right = Gives right
decided (Some e) right = done (evaluated_view e)

-- it has no parts that take steps
abbrev pub IsLeaf : TermInMemory → Type 0
IsLeaf (term.Number n unsigned) = Unit {0}
IsLeaf (term.Named c) = Unit {0}
IsLeaf (term.Read x) = Unit {0}
IsLeaf (term.IsNull wanted x) = Unit {0}
IsLeaf (term.Done v) = Unit {0}
IsLeaf t = ⊥

-- a part without parts
abbrev pub IsSmall : Part → Type 0
IsSmall (part.Whole' p t) = ⊥
IsSmall p = Unit {0}

-- it has its value
abbrev pub HasValue : Term → Type 0
HasValue (Done v) = Unit {0}
HasValue t = ⊥

-- its parts that take steps have their values
abbrev pub HasValues : TermInMemory → Type 0
HasValues (term.Element x i) = HasValue (part_view i)
HasValues (term.Prefix op t) = HasValue (part_view t)
HasValues (term.And' p s q t) = HasValue (term_view s)
HasValues (term.Or' p s q t) = HasValue (term_view s)
HasValues (term.Binary op s t) = HasValue (part_view s) × HasValue (part_view t)
HasValues t = Unit {0}

-- it has no value yet
abbrev pub IsUnfinished : Term → Type 0
IsUnfinished (Done v) = ⊥
IsUnfinished t = Unit {0}

-- the right side of `&&` or `||`
abbrev pub right_side : Term → Term
right_side (And s t) = t
right_side (Or s t) = t
right_side t = t

-- the value, if there is one, takes the place of what is made of a value so
abbrev pub IsReplacedBy : {T : Type 0} → (Value → T) → T → Evaluated → ReductionInMemory → T → Type 0
IsReplacedBy held old (evaluated.Gives v) took new = (took ≡ reduction.Reduced) × (new ≡ held v)
IsReplacedBy held old (evaluated.Traps trap) took new = (took ≡ reduction.Trapped trap) × (new ≡ old)
IsReplacedBy held old evaluated.Stuck took new = (took ≡ reduction.Stuck) × (new ≡ old)

-- that of a term, and that of a part of one
abbrev pub IsReplaced : TermInMemory → Evaluated → ReductionInMemory → TermInMemory → Type 0
IsReplaced old value took new = IsReplacedBy term.Done old value took new

abbrev pub IsPartReplaced : Part → Evaluated → ReductionInMemory → Part → Type 0
IsPartReplaced old value took new = IsReplacedBy part.Done old value took new

-- where this can be seen, what a step in memory did is what a step of the language does
abbrev pub ReducesBy : {T : Type 0} → (T → Term) → Sight → T → ReductionInMemory → T → Type 0
ReducesBy view sight old reduction.Reduced new = reduce sight (view old) ≡ Gives (view new)
ReducesBy view sight old (reduction.Trapped trap) new = (reduce sight (view old) ≡ Traps trap) × (new ≡ old)
ReducesBy view sight old reduction.Stuck new = reduce sight (view old) ≡ Stuck

-- that of a term, and that of a part of one
abbrev pub Reduces : Sight → TermInMemory → ReductionInMemory → TermInMemory → Type 0
Reduces sight old took new = ReducesBy term_view sight old took new

abbrev pub ReducesPart : Sight → Part → ReductionInMemory → Part → Type 0
ReducesPart sight old took new = ReducesBy part_view sight old took new

-- ---- calls

-- an argument of a call before the call's own step
abbrev pub operand_view : OperandInMemory → Operand
operand_view (operand.Number t) = NumberOperand (term_view t)
operand_view (operand.Passed x) = PassedName x.now
operand_view (operand.Given a) = task.Given (argument_tree a.now)

-- the same where it lies
abbrev pub operand_ref_view : OperandRef → Operand
operand_ref_view (lying.Number t) = NumberOperand (term_view t.now)
operand_ref_view (lying.Passed x) = PassedName x.now
operand_ref_view (lying.Given a) = task.Given (argument_tree a.now)

-- an argument that is looked up in the call's own step
abbrev pub looked_up : ArgumentInMemory → Operand
looked_up a = task.Given (argument_tree a)

-- the arguments of a call before its own step
abbrev pub operands_view : OperandsInMemory → List Operand
operands_view (operands.Given args) = map looked_up args.now
operands_view (operands.Last args t) = map looked_up args.now ++ NumberOperand (term_view t) ∷ []
operands_view (operands.Listed os) = map operand_view os.items

-- what a call gives
abbrev pub given_view : Given → CallResult
given_view given.Nothing = NoResult
given_view given.Null = NullResult
given_view (given.Number z) = ScalarResult (Int z)
given_view (given.Flag b) = ScalarResult (Flag b)
given_view (given.Reference r) = ReferenceResult (name_of r)
given_view (given.Weak r) = WeakResult (name_of r)
given_view (given.Field f) = FieldResult (option_map field_id_view f)
given_view (given.Method m) = MethodResult (option_map method_view m)

-- the buffer that a call gives, of an object of this heap
abbrev pub lent_view : Heap → Lent → Buffer
lent_view heap lent.Nothing = NoBuffer
lent_view heap (lent.Copy n) = Copy n.number (numbers_of heap n.number)
lent_view heap (lent.View n) = View n.number
