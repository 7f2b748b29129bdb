-- An accepted function's tasks break no rule from its entry on.
use Rattle.std.proofs.Common.{◌≡◌, ℕ, List, Some, [], ◌++◌, map, subst, None}
use Rattle.std.proofs.lemmas.List.{append-nil}
use Rattle.syntax.specs.Parts.{parameter_names}
use Rattle.syntax.specs.declared.declared_type.DeclaredType.TheVariants.{Simple, Pointer, ConstChars}
use Rattle.syntax.specs.Tree as tree
use Rattle.syntax.specs.Tree.{FromExpr, FromCall, Stmt, Function}
use Rattle.syntax.specs.Tree.{SourceUnit}
use Rattle.type_rules.specs.ExprTypes.{Scope}
use Rattle.type_rules.specs.TypeRules.{IsWellTyped}
use Rattle.region_rules.specs.Regions.{HasRegions, Returned}
use Rattle.region_rules.proofs.Returns.{returns_not}
use Rattle.semantics.specs.Journal.{Journal}
use Rattle.semantics.specs.Load.{Loads}
use Rattle.semantics.specs.Run.{replay}
use Rattle.semantics.specs.State.{State, thread_at}
use Rattle.semantics.specs.Task.{Task, tasks_of}
use Rattle.semantics.specs.Thread.{Thread}
use Rattle.semantics.specs.World.{World}
use Rattle.semantics_safety.specs.Owners.{owners_after}
use Rattle.semantics_safety.specs.Stands.{IsSound}
use Rattle.semantics_safety.specs.StepSafe.{HasCalls, AcceptedIsSafe}
use Rattle.semantics_safety.specs.Wanted.{Outside, GoesOn}
use Rattle.class_rules.specs.Mangling.{IsInverse}
use Rattle.semantics_safety.proofs.Accepted.{GivesWanted, accepted_is_safe, accepted_are_sound}
use Rattle.semantics_safety.proofs.Assignments.{assign_value, assign_call}
use Rattle.semantics_safety.proofs.BlockLaws.{block_goes}
use Rattle.semantics_safety.proofs.Declarations.{declare_value, declare_buffer, declare_chars, declare_call, buffer_call, chars_call}
use Rattle.semantics_safety.proofs.EntryKnown.{entry_known}
use Rattle.semantics_safety.proofs.EntryPoints.{entry_point}
use Rattle.semantics_safety.proofs.KnownPoints.{IsKnown}
use Rattle.semantics_safety.proofs.PlainStatements.{return_gives, value_gives, print_gives, element_gives, array_gives, perform_gives}
use Rattle.semantics_safety.proofs.StatementCalls.{push_gives}
use Rattle.semantics_safety.proofs.PathsGive.{Gives, IsPlain, block_gives}

plain_gives : (s : Stmt) → IsPlain s → Gives s
plain_gives (tree.Plain line (tree.Declare (Simple t) x (FromExpr e))) h = declare_value line t x e
plain_gives (tree.Plain line (tree.Declare (Simple t) x (FromCall c))) h = declare_call t line x c
plain_gives (tree.Plain line (tree.Declare (Pointer t) x (FromExpr e))) h = declare_buffer line t x e
plain_gives (tree.Plain line (tree.Declare (Pointer t) x (FromCall c))) h = buffer_call line t x c
plain_gives (tree.Plain line (tree.Declare ConstChars x (FromExpr e))) h = declare_chars line x e
plain_gives (tree.Plain line (tree.Declare ConstChars x (FromCall c))) h = chars_call line x c
plain_gives (tree.Plain line (tree.DeclareArray t x size)) h = array_gives line t x size
plain_gives (tree.Plain line (tree.Assign x (FromExpr e))) h = assign_value line x e
plain_gives (tree.Plain line (tree.Assign x (FromCall c))) h = assign_call line x c
plain_gives (tree.Plain line (tree.AssignElement x i e)) h = element_gives line x i e
plain_gives (tree.Plain line (tree.Perform c)) h = perform_gives line c
plain_gives (tree.Plain line (tree.PutJint e)) h = print_gives line e
plain_gives (tree.Return line None) h = return_gives line
plain_gives (tree.Return line (Some e)) h = value_gives line e
plain_gives (tree.If line test then' else') h = absurd h
plain_gives (tree.While line e body) h = absurd h

function_gives : (f : Function) (scope : Scope) → GivesWanted f scope
function_gives f scope globals once well_typed accepted =
    let p = entry_point f scope in
    let taken = parameter_names f ++ map (λ s. s.0) scope in
    let known : IsKnown p taken = entry_known f scope globals once in
    subst (λ (l : List Task). GoesOn l p) (append-nil (tasks_of f.body))
    (block_goes f.body (Outside (λ q. ⊥)) [] (λ q o. o.2) p
    (block_gives plain_gives push_gives f.body p p taken taken f.result Returned (λ q. ⊥) known known (λ x s e. e) well_typed accepted (λ after e now. returns_not after e)))

-- after each journal of an accepted unit, each thread is at a point, or before an entry
pub unit_is_sound : IsInverse → (unit : SourceUnit) (w : World) → IsWellTyped unit → HasRegions unit → Loads unit w → HasCalls w → (journal : Journal) (s : State) (k : ℕ) (t : Thread) → replay unit w journal ≡ Some s → thread_at s k ≡ Some t
    → IsSound unit w.classes (owners_after unit w journal k) s.shared.statics t
unit_is_sound = accepted_are_sound function_gives

-- an accepted unit is safe
pub unit_is_safe : IsInverse → AcceptedIsSafe
unit_is_safe = accepted_is_safe function_gives
