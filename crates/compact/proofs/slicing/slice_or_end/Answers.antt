use Rattle.std.proofs.Common.{◌≡◌, ℕ, ◌+◌, true, Option, Some, None, sym, ap, ◌∙◌, subst, arith}
use Rattle.std.specs.Prelude.{IfSome}
use Rattle.heap.specs.Heap.{Space, bare}
use Rattle.heap.specs.Marks.{is_kept, Marks}
use Rattle.heap.specs.Marking.{IsUnderWay}
use Rattle.heap.proofs.UnderWay.{UnderWay-of}
use Rattle.compact.specs.Slices.{AreNoted, IsKeptBy, count_of}
use Rattle.compact.proofs.Going.{closed_of, count_is, count_none, keeps_on, never_begun, none_before, noted_of}
use Rattle.compact.proofs.slicing.slice_or_end.Goals as goal
use Rattle.compact.proofs.slicing.slice_or_end.Goals.{in-Some, in-None+in_ok-current-in-None}

pub put_marking-requires : goal.put_marking-requires
put_marking-requires g c =
    let s = c.args.heap.now in
    let u = c.match-take_marking.heap in
    elim c.match-take_marking.branch [
      | in-Some b ↦
          let was = subst (λ (o : Option Marks). IfSome o (IsUnderWay s)) b.in-Some.is c.take_marking.ensures.under_way in
          let space : u ≡ bare s = b.heap-is ∙ c.take_marking.ensures.space in
          subst (λ (m : Marks). IsUnderWay u m) (sym b.current-is) (UnderWay-of s u b.in-Some.current (sym (ap bare space)) was)
      | in-None+in_ok-current-in-None b ↦
          let same : u ≡ c.take_marking.new.self = b.heap-is ∙ b.in_ok-current-in-None.ensures.same in
          subst (λ (m : Marks). IsUnderWay u m) (sym b.current-is) (subst (λ (x : Space). IsUnderWay x b.in_ok-current-in-None.current) (sym same) b.in_ok-current-in-None.ensures.under_way)
    ]

pub slice_on-requires-clause-closed : goal.slice_on-requires-clause-closed
slice_on-requires-clause-closed g c =
    let space : c.match-take_marking.heap ≡ bare c.args.heap.now = elim c.match-take_marking.branch [
      | in-Some b ↦ b.heap-is ∙ c.take_marking.ensures.space
      | in-None+in_ok-current-in-None b ↦ b.heap-is ∙ b.in_ok-current-in-None.ensures.same ∙ c.take_marking.ensures.space
    ] in
    closed_of c.args.heap.now c.put_marking.new.self (sym (ap bare (c.put_marking.ensures) ∙ ap bare space)) c.requires.closed

pub returns-clause-ok : goal.returns-clause-ok
returns-clause-ok g c =
    let s = c.args.heap.now in
    let u = c.take_marking.new.self in
    let m = c.match-take_marking.current in
    let roots = g.R.Roots.roots c.args.roots.now in
    let marked : m.marked ≡ count_of s.marking + 0 = elim c.match-take_marking.branch [
      | in-Some b ↦
          let was = count_is s.marking c.take_marking.result b.in-Some.current c.take_marking.ensures.marking b.in-Some.is in
          let is = ap (λ (x : Marks). x.marked) b.current-is in
          omega (arith, was, is)
      | in-None+in_ok-current-in-None b ↦
          let was = count_none s.marking c.take_marking.result c.take_marking.ensures.marking b.in-None.is in
          let is = ap (λ (x : Marks). x.marked) b.current-is in
          omega (arith, was, is, b.in_ok-current-in-None.ensures.none)
    ] in
    let keeps : (a : ℕ) → IsKeptBy s.marking a → is_kept m.kept a ≡ true = elim c.match-take_marking.branch [
      | in-Some b ↦ keeps_on s.marking c.take_marking.result b.in-Some.current m.kept c.take_marking.ensures.marking b.in-Some.is (λ a k. subst (λ (x : Marks). is_kept x.kept a ≡ true) (sym b.current-is) k)
      | in-None+in_ok-current-in-None b ↦ none_before s.marking c.take_marking.result m.kept c.take_marking.ensures.marking b.in-None.is
    ] in
    let begun : s.marking ≡ None → AreNoted s roots m.kept = λ none. elim c.match-take_marking.branch [
      | in-Some b ↦ never_begun s roots c.take_marking.result b.in-Some.current m.kept c.take_marking.ensures.marking b.in-Some.is none
      | in-None+in_ok-current-in-None b ↦
          noted_of s u roots b.in_ok-current-in-None.current.kept m.kept c.take_marking.ensures.space b.in_ok-current-in-None.ensures.pinned b.in_ok-current-in-None.ensures.roots (λ a k. subst (λ (x : Marks). is_kept x.kept a ≡ true) (sym b.current-is) k)
    ] in
    let space : c.match-take_marking.heap ≡ bare s = elim c.match-take_marking.branch [
      | in-Some b ↦ b.heap-is ∙ c.take_marking.ensures.space
      | in-None+in_ok-current-in-None b ↦ b.heap-is ∙ b.in_ok-current-in-None.ensures.same ∙ c.take_marking.ensures.space
    ] in
    let heap : ◌≡◌ {A = Space} c.put_marking.new.self (record s { marking = Some m }) = c.put_marking.ensures ∙ ap (λ (x : Space). let y : Space = record x { marking = Some m } in y) space in
    c.slice_on.ensures.sliced s (record { marks = m; heap = heap; marked = marked; keeps = keeps; begun = begun })
