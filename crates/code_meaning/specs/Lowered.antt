-- What a lowered program is.
use Rattle.std.specs.Prelude.{◌≡◌, ℕ, ◌+◌, ◌≤◌, List, [], ◌∷◌, length, Option, None}
use Rattle.base.specs.Limits.{most_steps}
use Rattle.base.specs.Bytes.{Identifier, lookup}
use Rattle.syntax.specs.declared.unit.Item.{Item as ItemInMemory}
use Rattle.syntax.specs.Tree.{Function, Item, StaticItem, FunctionItem}
use Rattle.syntax.specs.Views.{unit_tree}
use Rattle.semantics.specs.Object.{ObjectValue}
use Rattle.semantics.specs.World.{Invocation}
use Rattle.semantics.specs.Activation.{entered}
use Rattle.semantics.specs.Effect.{effect_of}
use Rattle.semantics.specs.Task.{Task, tasks_of}
use Rattle.semantics.specs.Thread.{Shared, Thread}
use Rattle.code.specs.Depth.{Listing, IsValid}
use Rattle.code_meaning.specs.Layout.{Known, with_static, entry_layout}
use Rattle.code_meaning.specs.Length.{function_steps}
use Rattle.code_meaning.specs.Slots.{Visible, visible_to, Slots, Shows, SeesBuffers, ArgumentsFit, EntrySlots, HasRoom, AreShared, AreOfLowest}
use Rattle.code_meaning.specs.Stands.{StandsFor}
use Rattle.code_meaning.specs.Does.{DoesEffect}

-- a program's items and the code of its functions
pub record Lowered : Type 0 where
  pub unit : List ItemInMemory
  pub codes : List Listing

-- The code begins at the function's first statement, where the slots, of which there are enough, show the arguments, and the
-- statics before the function are seen as they are. Each instruction is one step of the source, whatever can be seen that the slots show,
-- where what is seen of buffers are their elements. There is one for each step, and a return at the end of the body.
pub record IsCodeOf (statics : Known) (f : Function) (code : Listing) : Type 0 where
  pub valid : IsValid code
  pub counted : length code.instrs ≡ function_steps f + 1
  pub short : function_steps f ≤ most_steps
  pub begins : StandsFor code (entry_layout statics f).known 0 [] (tasks_of f.body)
  pub room : (arguments : List ObjectValue) → ArgumentsFit f.parameters arguments → HasRoom code arguments
  pub shows : (own : Identifier → Option ℕ) (shared : Shared) (thread : Thread) (calls : List Invocation) (class : ℕ)
      (arguments : List ObjectValue) (slots : Slots)
      → ArgumentsFit f.parameters arguments → EntrySlots code class arguments slots → AreShared statics shared → AreOfLowest own
      → Shows code (entry_layout statics f).known (visible_to own shared (entered thread calls f class arguments)) slots
  pub steps : (visible : Visible) (known : Known) (slots : Slots) (place : ℕ) (stack : List ℕ) (task : Task) (rest : List Task)
      → Shows code known visible slots → SeesBuffers visible slots.buffers → StandsFor code known place stack (task ∷ rest)
      → DoesEffect code known place stack slots visible rest (effect_of visible.sight task)

-- one code for each function, in their order, after the statics so far, each of which has a name of its own
abbrev pub AreCodesOf : (statics : Known) → List Item → List Listing → Type 0
AreCodesOf statics [] [] = Unit {0}
AreCodesOf statics [] (c ∷ codes) = ⊥
AreCodesOf statics (StaticItem s ∷ items) codes = (lookup s.name statics ≡ None) × AreCodesOf (with_static s statics) items codes
AreCodesOf statics (FunctionItem f ∷ items) [] = ⊥
AreCodesOf statics (FunctionItem f ∷ items) (c ∷ codes) = IsCodeOf statics f c × AreCodesOf statics items codes

-- each function of the program has its code
abbrev pub IsLowered : Lowered → Type 0
IsLowered l = AreCodesOf [] (unit_tree l.unit).items l.codes
