-- The threads of a world that load, and the first call that doesn't.
use Rattle.std.proofs.Common.{◌≡◌, ℕ, suc, ◌+◌, ◌≤◌, List, [], ◌∷◌, ◌++◌, length, drop, map, Option, Some, refl, sym, ap, ◌∙◌, subst, append_assoc, append-nil}
use Rattle.std.specs.Prelude.{slice_get, flat_map}
use Rattle.std.specs.Global.{Vec}
use Rattle.std.proofs.lemmas.List.Concat.{flat_map-cons}
use Rattle.std.proofs.Math.ListN.{drop_of_length-le}
use Rattle.base.proofs.Lists.{drop_next}
use Rattle.syntax.specs.Tree.{SourceUnit}
use Rattle.class_rules.specs.Class.{Classes}
use Rattle.heap.specs.Heap.{Space}
use Rattle.tables.specs.Elements.{OwnedNumbers}
use Rattle.semantics.specs.World.{Invocation}
use Rattle.semantics.specs.Start.{waiting_thread}
use Rattle.semantics.specs.Thread as source
use Rattle.semantics.specs.Thread.{Shared}
use Rattle.semantics.specs.Load.{refused_calls}
use Rattle.semantics_safety.specs.Owners.{AllOwners, no_owners}
use Rattle.code_meaning.specs.Lowered.{Lowered}
use Rattle.machine_threads.specs.declared.fault.LoadFault.{LoadFault}
use Rattle.machine_threads.specs.declared.fault.LoadFault.TheVariants.{DoesNotFit, Memory}
use Rattle.machine_threads.specs.declared.thread.Thread.{Thread}
use Rattle.machine_threads.specs.ThreadAgrees.{ThreadAgrees, ThreadsAgree}
use Rattle.machine_threads.specs.Loading.{IsFirstOf}

-- the calls of each thread in memory
abbrev pub called : List (Vec Invocation) → List (List Invocation)
called ts = map (λ (t : Vec Invocation). t.items) ts

-- ---- threads that agree

-- from whatever number on
abbrev pub AllAgree : Lowered → Classes → Space → List (Option OwnedNumbers) → (made : ℕ) → Shared → List Thread → List source.Thread → Type 0
AllAgree p classes space copies made shared ts ss = (k : ℕ) → ThreadsAgree p classes space copies made (λ j. no_owners) k shared ts ss

module _ (p : Lowered) (classes : Classes) (space : Space) (copies : List (Option OwnedNumbers)) (made : ℕ) (shared : Shared) where
  abbrev pub AgreeSoFar : List (Vec Invocation) → (i : ℕ) → List Thread → Type 0
  AgreeSoFar ts i threads = (rest : List Thread) → AllAgree p classes space copies made shared rest (map waiting_thread (called (drop i ts))) → AllAgree p classes space copies made shared (threads ++ rest) (map waiting_thread (called ts))

  pub one_more : (ts : List (Vec Invocation)) (i : ℕ) (x : Vec Invocation) (t : Thread) (threads : List Thread) → slice_get ts i ≡ Some x → ((k : ℕ) → ThreadAgrees p classes space copies made k no_owners shared t (waiting_thread x.items)) → AgreeSoFar ts i threads → AgreeSoFar ts (i + 1) (threads ++ t ∷ [])
  one_more ts i x t threads at a so_far rest h =
      subst (λ (l : List Thread). AllAgree p classes space copies made shared l (map waiting_thread (called ts))) (sym (append_assoc threads (t ∷ []) rest))
      (so_far (t ∷ rest) (subst (λ (us : List (Vec Invocation)). AllAgree p classes space copies made shared (t ∷ rest) (map waiting_thread (called us))) (sym (drop_next ts i x at)) (λ k. (a k, h (suc k)))))

  pub all_agree : (ts : List (Vec Invocation)) (i : ℕ) (threads : List Thread) → length ts ≤ i → AgreeSoFar ts i threads → AllAgree p classes space copies made shared threads (map waiting_thread (called ts))
  all_agree ts i threads past so_far =
      let none : AllAgree p classes space copies made shared [] (map waiting_thread (called (drop i ts))) = λ k. rw (drop_of_length-le ts past) tt in
      subst (λ (n : List Thread). AllAgree p classes space copies made shared n (map waiting_thread (called ts))) (append-nil threads) (so_far [] none)

-- ---- calls that don't load

-- the calls of these threads that don't load
abbrev pub refused_of : SourceUnit → Classes → List (Vec Invocation) → List Invocation
refused_of unit classes ts = flat_map (refused_calls unit classes) (called ts)

first : (a b : List Invocation) (e : LoadFault) → IsFirstOf a e → IsFirstOf (a ++ b) e
first [] b (DoesNotFit line) h = absurd (cc)
first (x ∷ a) b (DoesNotFit line) h = h
first a b Memory h = tt

module _ (unit : SourceUnit) (classes : Classes) (ts : List (Vec Invocation)) (i : ℕ) (x : Vec Invocation) (at : slice_get ts i ≡ Some x) where
  here : refused_of unit classes (drop i ts) ≡ refused_calls unit classes x.items ++ refused_of unit classes (drop (i + 1) ts)
  here = ap (refused_of unit classes) (drop_next ts i x at) ∙ flat_map-cons (refused_calls unit classes) x.items (called (drop (i + 1) ts))

  pub loads_at : refused_calls unit classes x.items ≡ [] → refused_of unit classes (drop i ts) ≡ refused_of unit classes (drop (i + 1) ts)
  loads_at none = here ∙ ap (λ (l : List Invocation). l ++ refused_of unit classes (drop (i + 1) ts)) none

  pub refused_at : (e : LoadFault) → IsFirstOf (refused_calls unit classes x.items) e → IsFirstOf (refused_of unit classes (drop i ts)) e
  refused_at e h = subst (λ (l : List Invocation). IsFirstOf l e) (sym here) (first (refused_calls unit classes x.items) (refused_of unit classes (drop (i + 1) ts)) e h)

pub none_refused : (unit : SourceUnit) (classes : Classes) (ts : List (Vec Invocation)) (i : ℕ) → length ts ≤ i → refused_of unit classes (drop i ts) ≡ []
none_refused unit classes ts i past = ap (refused_of unit classes) (drop_of_length-le ts past)

-- as many threads as agree
pub agree_length : (p : Lowered) (classes : Classes) (space : Space) (copies : List (Option OwnedNumbers)) (made : ℕ) (owners : AllOwners) (k : ℕ) (shared : Shared) (ts : List Thread) (ss : List source.Thread) → ThreadsAgree p classes space copies made owners k shared ts ss → length ts ≡ length ss
agree_length p classes space copies made owners k shared [] [] h = refl
agree_length p classes space copies made owners k shared [] (s ∷ ss) h = absurd h
agree_length p classes space copies made owners k shared (t ∷ ts) [] h = absurd h
agree_length p classes space copies made owners k shared (t ∷ ts) (s ∷ ss) h = ap suc (agree_length p classes space copies made owners (suc k) shared ts ss h.1)
