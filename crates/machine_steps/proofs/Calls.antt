-- What the instruction at the place of a call does.
use Rattle.std.proofs.Common.{◌≡◌, ◌≢◌, ⊎_elim, ℕ, ℤ, zero, suc, ◌+◌, ◌<◌, List, [], ◌∷◌, ◌++◌, length, Option, Some, None, refl, sym, ap, ◌∙◌, subst, arith, Bor}
use Rattle.std.specs.Prelude.{slice_get, IsSome}
use Rattle.std.specs.Option.{option_copied}
use Rattle.base.specs.Bytes.{Identifier}
use Rattle.base.specs.declared.element.ElementType.{ElementType}
use Rattle.syntax.specs.Tree.{Function, Item, StaticItem, FunctionItem, SourceUnit}
use Rattle.syntax.specs.Views.{unit_tree}
use Rattle.jni.specs.declared.function.JniFunction.{JniFunction}
use Rattle.heap.specs.Heap.{Space}
use Rattle.code.specs.declared.instr.Instr.{Instr}
use Rattle.code.specs.declared.instr.Instr.TheVariants as instr
use Rattle.code.specs.declared.instr.Plain.{Plain}
use Rattle.code.specs.Effect.{IsPlain, plain_of}
use Rattle.code.specs.Depth.{Listing, depth_after, depth_at, IsValid, LeadsInside, Leaves}
use Rattle.code.specs.Running.{RunsAt}
use Rattle.code.proofs.Runs.{runs_at}
use Rattle.semantics.specs.Arguments.{Actual}
use Rattle.semantics.specs.CallEffects.{CallResult}
use Rattle.semantics.specs.Effect.{Effect, Becomes, Sets, SetsNull, SetsElement, MakesArray, Prints, Calls, Returns, TrapsAt, NoEffect, effect_of}
use Rattle.semantics.specs.Task.{Task, Target}
use Rattle.semantics.specs.declared.trap.Trap.{Trap}
use Rattle.semantics.specs.declared.value.Value.{Value}
use Rattle.code_meaning.specs.Layout.{Known, with_static}
use Rattle.code_meaning.specs.Slots.{Visible, Slots, Shows, SeesBuffers, IsSet, IsMade, IsElementSet}
use Rattle.code_meaning.specs.Stands.{StandsFor}
use Rattle.code_meaning.specs.Does.{DoesEffect, GoesOn, Writes, WritesBuffer, StoresNull, PrintsTop, CallsFunction, LeavesCall, Stops, Works, IsReturn}
use Rattle.code_meaning.specs.Lowered.{Lowered, IsLowered, IsCodeOf, AreCodesOf}
use Rattle.machine_scenes.specs.declared.activation.Activation.{Activation}
use Rattle.class_rules.specs.Class.{Classes}
use Rattle.semantics.specs.Thread.{Frame}
use Rattle.tables.specs.Elements.{OwnedNumbers}
use Rattle.tables.specs.Locals.{LocalTable}
use Rattle.machine_scenes.specs.Buffers.{BuffersAgree}
use Rattle.machine_scenes.specs.declared.buffer.Buffer.{Buffer as HeldBuffer}
use Rattle.machine_scenes.specs.Locals.{FramesAgree, KeysAgree}
use Rattle.machine_threads.specs.InProgress.{CallStands}
use Rattle.machine_threads.specs.SlotsHold.{Meant, SlotValues, SlotsHold, slots_of, values_in}
use Rattle.machine_steps.specs.Moved.{HasMoved}
use Rattle.machine_scenes.specs.FieldIds.{HandlesAgree}
use Rattle.machine_scenes.specs.declared.handle.Handle.{Handle}
use Rattle.code_meaning.specs.Slots as meant

-- ---- a function's code

-- a code of a lowered program is its function's
pub code_lowered : (statics : Known) (items : List Item) (codes : List Listing) (n : ℕ) (code : Listing) → AreCodesOf statics items codes → slice_get codes n ≡ Some code → (before : Known) × (f : Function) × IsCodeOf before f code
code_lowered statics [] [] n code h e = absurd (cc)
code_lowered statics [] (c ∷ codes) n code h e = absurd h
code_lowered statics (StaticItem s ∷ items) codes n code h e = code_lowered (with_static s statics) items codes n code h.1 e
code_lowered statics (FunctionItem f ∷ items) [] n code h e = absurd h
code_lowered statics (FunctionItem f ∷ items) (c ∷ codes) zero code h e = (statics, f, let s : c ≡ code = cc in subst (IsCodeOf statics f) s h.0)
code_lowered statics (FunctionItem f ∷ items) (c ∷ codes) (suc n) code h e = code_lowered statics items codes n code h.1 e

-- ---- effects

-- the effects that an instruction has
module _ (code : Listing) (known : Known) (place : ℕ) (stack : List ℕ) (slots : Slots) (visible : Visible) (rest : List Task) (P : Effect → Type 0) where
  pub does_cases : ((tasks : List Task) → GoesOn code known place stack slots visible (tasks ++ rest) → P (Becomes tasks))
      → ((x : Identifier) (v : Value) → Writes code known place stack slots visible (IsSet visible x v) rest → P (Sets x v))
      → ((target : Target) → StoresNull code known place stack slots visible target rest → P (SetsNull target))
      → ((x : Identifier) (i : ℕ) (z : ℤ) (t : ElementType) → visible.array_type x ≡ Some t → Writes code known place stack slots visible (IsElementSet visible t x i z) rest → P (SetsElement x i z))
      → ((x : Identifier) (i : ℕ) (z : ℤ) → WritesBuffer code known place stack slots visible x i z rest → P (SetsElement x i z))
      → ((t : ElementType) (x : Identifier) (size : ℕ) → Writes code known place stack slots visible (IsMade visible t x size) rest → P (MakesArray t x size))
      → ((z : ℤ) → PrintsTop code known place stack slots visible z rest → P (Prints z))
      → ((line : ℕ) (target : Target) (f : JniFunction) (args : List Actual) → CallsFunction code known place stack slots visible line target f args rest → P (Calls line target f args))
      → (LeavesCall code known place stack slots visible → (given : CallResult) → P (Returns given))
      → ((trap : Trap) (line : ℕ) → Stops code known place stack slots visible trap line → P (TrapsAt trap line))
      → P NoEffect
      → (e : Effect) → DoesEffect code known place stack slots visible rest e → P e
  does_cases becomes sets nulls element buffer array prints calls returns traps nothing (Becomes tasks) h = becomes tasks h
  does_cases becomes sets nulls element buffer array prints calls returns traps nothing (Sets x v) h = sets x v h
  does_cases becomes sets nulls element buffer array prints calls returns traps nothing (SetsNull target) h = nulls target h
  does_cases becomes sets nulls element buffer array prints calls returns traps nothing (SetsElement x i z) h = ⊎_elim (λ e. element x i z e.0 e.1 e.2) (λ b. buffer x i z b) h
  does_cases becomes sets nulls element buffer array prints calls returns traps nothing (MakesArray t x size) h = array t x size h
  does_cases becomes sets nulls element buffer array prints calls returns traps nothing (Prints z) h = prints z h
  does_cases becomes sets nulls element buffer array prints calls returns traps nothing (Calls line target f args) h = calls line target f args h
  does_cases becomes sets nulls element buffer array prints calls returns traps nothing (Returns given) h = returns h given
  does_cases becomes sets nulls element buffer array prints calls returns traps nothing (TrapsAt trap line) h = traps trap line h
  does_cases becomes sets nulls element buffer array prints calls returns traps nothing NoEffect h = nothing

-- what has an effect on the stack and the number slots alone is plain
pub plain_instr : (i : Instr) (s m : List ℕ) (x : Plain × List ℕ × List ℕ) → plain_of i s m ≡ Some x → IsPlain i
plain_instr (instr.TestNull variable equal) s m x h = absurd (cc)
plain_instr (instr.StoreNull variable) s m x h = absurd (cc)
plain_instr instr.PutJint s m x h = absurd (cc)
plain_instr (instr.Call call) s m x h = absurd (cc)
plain_instr (instr.LoadBuffer slot line) s m x h = absurd (cc)
plain_instr (instr.StoreBuffer type slot line) s m x h = absurd (cc)
plain_instr instr.Return s m x h = absurd (cc)
plain_instr instr.ReturnJint s m x h = absurd (cc)
plain_instr (instr.ReturnReference operand) s m x h = absurd (cc)
plain_instr i s m x h = tt

-- a plain instruction works on the stack
pub plain_works : (visible : Visible) (slots : Slots) (i : Instr) (stack : List ℕ) (path : Plain) (after : List ℕ) → IsPlain i → Works visible slots i stack path after → plain_of i stack slots.numbers ≡ Some (path, after, slots.numbers)
plain_works visible slots (instr.TestNull variable equal) stack path after p h = absurd p
plain_works visible slots (instr.LoadBuffer slot line) stack path after p h = absurd p
plain_works visible slots (instr.StoreBuffer type slot line) stack path after p h = absurd p
plain_works visible slots i stack path after p h = h

-- what works on the stack is plain, or looks at what slots hold
abbrev pub LooksAtSlots : Instr → Type 0
LooksAtSlots (instr.TestNull variable equal) = Unit {0}
LooksAtSlots (instr.LoadBuffer slot line) = Unit {0}
LooksAtSlots (instr.StoreBuffer type slot line) = Unit {0}
LooksAtSlots i = ⊥

pub no_return : (i : Instr) → IsReturn i → IsPlain i → ⊥
no_return instr.Return r h = h
no_return instr.ReturnJint r h = h
no_return (instr.ReturnReference operand) r h = h
no_return i r h = r

-- ---- what is known of the instruction at a call's place

pub record Ready (p : Lowered) (classes : Classes) (space : Space) (copies : List (Option OwnedNumbers)) (k : ℕ) (call : Activation) (code : Listing) (visible : Visible) (frames : List Frame) (task : Task) (rest : List Task) : Type 0 where
  pub of_function : slice_get p.codes call.function ≡ Some code
  pub valid : IsValid code
  pub known : Known
  pub meant : Meant
  pub holds : SlotsHold (unit_tree p.unit) classes space copies k call.locals (values_in call) meant
  pub frames_agree : FramesAgree space call.locals frames
  pub shows : Shows code known visible (slots_of call meant)
  pub stands : StandsFor code known call.place call.stack (task ∷ rest)
  pub does : DoesEffect code known call.place call.stack (slots_of call meant) visible rest (effect_of visible.sight task)
  pub depth : depth_at code.instrs call.place ≡ Some (length call.stack)

pub ready : (p : Lowered) (classes : Classes) (space : Space) (copies : List (Option OwnedNumbers)) (k : ℕ) (call : Activation) (code : Listing) (visible : Visible) (frames : List Frame) (task : Task) (rest : List Task) → IsLowered p → slice_get p.codes call.function ≡ Some code → (h : CallStands p classes space copies k call visible frames (task ∷ rest)) → SeesBuffers visible h.meant.buffers → Ready p classes space copies k call code visible frames task rest
ready p classes space copies k call code visible frames task rest lowered at h sees =
    let same : h.code ≡ code = cc (h.of_function) in
    let found = code_lowered [] (unit_tree p.unit).items p.codes call.function code lowered at in
    let shows = subst (λ (k : Listing). Shows k h.known visible (slots_of call h.meant)) same h.shows in
    let stands = subst (λ (k : Listing). StandsFor k h.known call.place call.stack (task ∷ rest)) same h.stands in
    record {
      of_function = at;
      valid = found.2.valid;
      known = h.known;
      meant = h.meant;
      holds = h.holds;
      frames_agree = h.frames_agree;
      shows = shows;
      stands = stands;
      does = found.2.steps visible h.known (slots_of call h.meant) call.place call.stack task rest shows sees stands;
      depth = subst (λ (k : Listing). depth_at k.instrs call.place ≡ Some (length call.stack)) same h.depth;
    }

-- the owners are those of the call
pub ready_owners : (p : Lowered) (classes : Classes) (space : Space) (copies : List (Option OwnedNumbers)) (k : ℕ) (call : Activation) (code : Listing) (visible : Visible) (frames : List Frame) (task : Task) (rest : List Task) (lowered : IsLowered p) (at : slice_get p.codes call.function ≡ Some code) (h : CallStands p classes space copies k call visible frames (task ∷ rest)) (sees : SeesBuffers visible h.meant.buffers)
    → (ready p classes space copies k call code visible frames task rest lowered at h sees).meant.owners ≡ h.meant.owners
unfolding ready
ready_owners p classes space copies k call code visible frames task rest lowered at h sees = refl

-- and so are the names
pub ready_known : (p : Lowered) (classes : Classes) (space : Space) (copies : List (Option OwnedNumbers)) (k : ℕ) (call : Activation) (code : Listing) (visible : Visible) (frames : List Frame) (task : Task) (rest : List Task) (lowered : IsLowered p) (at : slice_get p.codes call.function ≡ Some code) (h : CallStands p classes space copies k call visible frames (task ∷ rest)) (sees : SeesBuffers visible h.meant.buffers)
    → (ready p classes space copies k call code visible frames task rest lowered at h sees).known ≡ h.known
unfolding ready
ready_known p classes space copies k call code visible frames task rest lowered at h sees = refl

-- as many field IDs and method IDs as handles
pub fields_count : (unit : SourceUnit) (classes : Classes) (handles : List (Option Handle)) (fields : List (Option meant.Handle)) → HandlesAgree unit classes handles fields → length fields ≡ length handles
fields_count unit classes [] [] h = refl
fields_count unit classes [] (f ∷ fields) h = absurd h
fields_count unit classes (a ∷ handles) [] h = absurd h
fields_count unit classes (a ∷ handles) (f ∷ fields) h = ap suc (fields_count unit classes handles fields h.1)

some_is : {A : Type 0} (o : Option A) (x : A) → o ≡ Some x → IsSome o
some_is None x h = absurd (cc)
some_is (Some y) x h = refl

module _ (p : Lowered) (classes : Classes) (space : Space) (copies : List (Option OwnedNumbers)) (k : ℕ) (call : Activation) (code : Listing) (visible : Visible) (frames : List Frame) (task : Task) (rest : List Task) (r : Ready p classes space copies k call code visible frames task rest) where
  -- there is an instruction
  pub here : effect_of visible.sight task ≢ NoEffect → (i : Instr) × (slice_get code.instrs call.place ≡ Some i)
  here possible =
      does_cases code r.known call.place call.stack (slots_of call r.meant) visible rest (λ e. e ≢ NoEffect → (i : Instr) × (slice_get code.instrs call.place ≡ Some i))
      (λ tasks g some. (g.here, g.at)) (λ x v g some. (g.here, g.at)) (λ target g some. (instr.StoreNull g.variable, g.at)) (λ x i z t a g some. (g.here, g.at)) (λ x i z g some. (_, g.at)) (λ t x n g some. (g.here, g.at))
      (λ z g some. (instr.PutJint, g.at)) (λ line target f args g some. (instr.Call g.call, g.at)) (λ g given some. (g.here, g.at)) (λ trap line g some. (g.here, g.at)) (λ some. absurd (some refl))
      (effect_of visible.sight task) r.does possible

  -- the call stands for tasks at another place, where the heap and the copied lists may be others
  pub stands_in : (space' : Space) (copies' : List (Option OwnedNumbers)) (after : Activation) (to : ℕ) (stack : List ℕ) (slots : SlotValues) (meant : Meant) (names : Known) (visible' : Visible) (tasks : List Task)
      → depth_at code.instrs to ≡ Some (length stack) → HasMoved call after to stack slots → FramesAgree space' call.locals frames → SlotsHold (unit_tree p.unit) classes space' copies' k call.locals slots meant → StandsFor code names to stack tasks
      → Shows code names visible' (record (slots_of call meant) { numbers = slots.numbers }) → CallStands p classes space' copies' k after visible' frames tasks
  stands_in space' copies' after to stack slots meant names visible' tasks d m framed holds stands shows = record {
    code = code;
    of_function = ap (slice_get p.codes) m.function ∙ r.of_function;
    known = names;
    stands = subst (λ (n : ℕ). StandsFor code names n after.stack tasks) (sym m.place) (subst (λ (s : List ℕ). StandsFor code names to s tasks) (sym m.stack) stands);
    meant = meant;
    holds = record {
      keys =
          subst (λ (t : LocalTable). KeysAgree space' t after.slots.references.items meant.references meant.owners) (sym m.locals)
          (subst (λ (l : List (Option ℕ)). KeysAgree space' call.locals l meant.references meant.owners) (sym m.references) holds.keys);
      fields = subst (λ (l : List (Option Handle)). HandlesAgree (unit_tree p.unit) classes l meant.fields) (sym m.fields) holds.fields;
      buffers = subst (λ (l : List HeldBuffer). BuffersAgree space' copies' k l meant.buffers) (sym m.buffers) holds.buffers;
      small = holds.small;
    };
    shows = subst (λ (ns : List ℕ). Shows code names visible' (record (slots_of call meant) { numbers = ns })) (sym m.numbers) shows;
    depth = ap (depth_at code.instrs) m.place ∙ d ∙ ap (λ (s : List ℕ). Some (length s)) (sym m.stack);
    frames_agree = subst (λ (t : LocalTable). FramesAgree space' t frames) (sym m.locals) framed;
  }

  -- the same with those of before
  pub stands_at : (after : Activation) (to : ℕ) (stack : List ℕ) (slots : SlotValues) (meant : Meant) (names : Known) (visible' : Visible) (tasks : List Task)
      → depth_at code.instrs to ≡ Some (length stack) → HasMoved call after to stack slots → SlotsHold (unit_tree p.unit) classes space copies k call.locals slots meant → StandsFor code names to stack tasks
      → Shows code names visible' (record (slots_of call meant) { numbers = slots.numbers }) → CallStands p classes space copies k after visible' frames tasks
  stands_at after to stack slots meant names visible' tasks d m holds stands shows = stands_in space copies after to stack slots meant names visible' tasks d m r.frames_agree holds stands shows

  -- other numbers in slots
  pub holds_with : (numbers : List ℕ) → SlotsHold (unit_tree p.unit) classes space copies k call.locals (record (values_in call) { numbers = numbers }) r.meant
  holds_with numbers = record { keys = r.holds.keys; fields = r.holds.fields; buffers = r.holds.buffers; small = r.holds.small }

  module _ (i : Instr) (at : slice_get code.instrs call.place ≡ Some i) where
    pub runs : RunsAt code call.place i
    runs = runs_at code r.valid call.place i at

    -- room for the instruction
    pub room : IsSome (depth_after i (length call.stack))
    room = runs.room (length call.stack) r.depth

    -- a plain one has an effect
    pub plain_there : IsPlain i → IsSome (plain_of i call.stack call.slots.numbers.items)
    plain_there works = runs.plain call.stack call.slots.numbers.items works r.depth r.shows.numbers

    -- where a plain one leads
    pub leads : (path : Plain) (stack numbers : List ℕ) → plain_of i call.stack call.slots.numbers.items ≡ Some (path, stack, numbers) → LeadsInside code.instrs call.place path (length stack)
    leads path stack numbers is = runs.leads call.stack call.slots.numbers.items stack numbers path r.depth is

    -- the depth after one that isn't plain
    pub depth_behind : (after : ℕ) → (Leaves i → ⊥) → depth_after i (length call.stack) ≡ Some after → depth_at code.instrs (call.place + 1) ≡ Some after
    depth_behind after stays is = (runs.rest_of (length call.stack) after stays r.depth is).words

-- what a look-up gave is there
pub is_there : {A : Type 0} (o : Option (Bor A)) (x : A) → option_copied o ≡ Some x → IsSome o
is_there None x h = absurd (cc)
is_there (Some r) x h = refl

-- a word is on the stack
pub positive : (n : ℕ) → IsSome (depth_after instr.PutJint n) → 0 < n
positive zero h = absurd (cc (h))
positive (suc n) h = omega arith

pub one_word : (slot line n : ℕ) → IsSome (depth_after (instr.LoadBuffer slot line) n) → 0 < n
one_word slot line zero h = absurd (cc (h))
one_word slot line (suc n) h = omega arith

-- two are
pub two_words : (type : _) (slot line n : ℕ) → IsSome (depth_after (instr.StoreBuffer type slot line) n) → 1 < n
two_words type slot line zero h = absurd (cc (h))
two_words type slot line (suc zero) h = absurd (cc (h))
two_words type slot line (suc (suc n)) h = omega arith
