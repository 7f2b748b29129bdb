-- What a call leaves of the keys that are variables' own, before its result is put.
use Rattle.std.proofs.Common.{◌≡◌, ◌≢◌, ℕ, Bool, true, false, List, map, Option, Some, None, refl, sym, ap, ◌∙◌, if◌then◌else◌}
use Rattle.std.specs.Prelude.{slice_get, ◌==◌}
use Rattle.std.specs.Option.{option_map}
use Rattle.std.proofs.lemmas.Bool.Decides.{Decides-eqb}
use Rattle.std.proofs.lemmas.Option.{slice_get-map}
use Rattle.class_rules.specs.Class.{Classes}
use Rattle.heap.specs.Heap.{Space}
use Rattle.jni.specs.declared.kinds.ResultKind.{ResultKind}
use Rattle.semantics.specs.Answer.{Answer as SourceAnswer, DeletesLocal, Pops}
use Rattle.semantics.specs.Thread.{Shared, Thread}
use Rattle.semantics_safety.specs.Owners.{other_than}
use Rattle.tables.specs.Locals.{LocalTable}
use Rattle.machine_answers.specs.declared.answer.Answer.{Answer}
use Rattle.machine_answers.specs.declared.answer.Answer.TheVariants as replies
use Rattle.machine_answers.specs.Answers.{Brought, IsAnswer}
use Rattle.machine_answers.specs.Answers as row
use Rattle.machine_calls.specs.CarriedOut.{IsLeft}

-- ---- answers that end no local reference

-- an answer of the source leaves keys of this level as they are, where there were this number of frames
abbrev pub LeavesLevel : SourceAnswer → (frames level : ℕ) → Type 0
LeavesLevel (DeletesLocal i n) frames level = ⊥
LeavesLevel (Pops r) frames level = level ≢ frames
LeavesLevel a frames level = Unit {0}

-- so do those in memory that stand for it
pub level_left : {classes : Classes} {brought : Brought} {space : Space} {locals : LocalTable} {shared : Shared} {s : Thread} {answer : Answer} {kind : ResultKind} {of_source : SourceAnswer}
    → IsAnswer classes brought space locals shared s answer kind of_source → (frames key level : ℕ) → LeavesLevel of_source frames level → IsLeft answer frames key level
level_left (row.deletes n variable there) frames key level left = absurd left
level_left (row.pops r agrees) frames key level left = left
level_left does frames key level left = tt

-- where a reference is deleted, all keys are left but its own
pub left_but_one : {classes : Classes} {brought : Brought} {space : Space} {locals : LocalTable} {shared : Shared} {s : Thread} {answer : Answer} {kind : ResultKind} {of_source : SourceAnswer} {i n : ℕ}
    → of_source ≡ DeletesLocal i n → IsAnswer classes brought space locals shared s answer kind of_source → (frames key level : ℕ) → ((one : ℕ) → answer ≡ replies.Deletes one → key ≢ one) → IsLeft answer frames key level
left_but_one is (row.deletes {key = one} n variable there) frames key level other = other one refl
left_but_one is (row.pops r agrees) frames key level other = absurd (cc)
left_but_one is does frames key level other = tt

-- ---- owners

-- a level is among those other than one
pub other_level : (top level : ℕ) (o : Option ℕ) → other_than top o ≡ Some level → (o ≡ Some level) × (level ≢ top)
other_level top level None e = absurd (cc)
other_level top level (Some l) e = by_test (l == top) refl e
  where
    by_test : (b : Bool) → (l == top) ≡ b → (if b then None else Some l) ≡ Some level → (Some l ≡ Some level) × (level ≢ top)
    by_test true is e = absurd (cc)
    by_test false is e =
        let same : l ≡ level = cc in
        (ap (λ (n : ℕ). Some n) same, λ at. let yes : (l == top) ≡ true = (Decides-eqb l top).1 (same ∙ at) in let clash : true ≡ false = sym yes ∙ is in cc)

-- the owners of a list without one level
pub others_get : (top : ℕ) (owners : List (Option ℕ)) (i level : ℕ) → slice_get (map (other_than top) owners) i ≡ Some (Some level) → (slice_get owners i ≡ Some (Some level)) × (level ≢ top)
others_get top owners i level e = by_found (slice_get owners i) refl (sym (slice_get-map (other_than top) owners i) ∙ e)
  where
    by_found : (o : Option (Option ℕ)) → slice_get owners i ≡ o → option_map (other_than top) o ≡ Some (Some level) → (slice_get owners i ≡ Some (Some level)) × (level ≢ top)
    by_found None at e = absurd (cc)
    by_found (Some o) at e =
        let inner : other_than top o ≡ Some level = cc in
        let found = other_level top level o inner in
        (at ∙ ap (λ (x : Option ℕ). Some x) found.0, found.1)
