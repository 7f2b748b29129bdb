use Rattle.std.proofs.Common.{◌≡◌, ℕ, ◌≤◌, Bool, true, false, List, [], ◌∷◌, ◌++◌, Option, Some, None, length, map, sym, ap, ◌∙◌, subst, arith}
use Rattle.std.specs.Option.{option_map, option_to_list}
use Rattle.std.proofs.lemmas.List.{length-append, length-map}
use Rattle.std.proofs.lemmas.List.Filters.{dedup_is}
use Rattle.std.proofs.lemmas.List.Kept.{Contains-dedup_nat, Contains-from_dedup}
use Rattle.std.proofs.lemmas.List.Sorted.{Contains-permutation, IsPermutation-sym}
use Rattle.std.proofs.lemmas.Map.Keys.{IsStrictlyIncreasing-dedup}
use Rattle.semantics.specs.Views.{names_of}
use Rattle.semantics.specs.declared.object_id.ObjectId.{ObjectId}
use Rattle.machine_collections.specs.Clearing.{ListsNames, cleared_name, cleared_names, holds_cleared}
use Rattle.machine_collections.proofs.weak.list_cleared.Goals as goal
use Rattle.machine_collections.proofs.weak.list_cleared.Goals.{After-push_cleared}

abbrev number : Option ObjectId → Option ℕ
number o = option_map (λ (x : ObjectId). x.number) o

-- no more names are listed than there are
few_here : (n : Option ℕ) (g : Bool) → length (option_to_list (cleared_name n g)) ≤ 1
few_here None true = omega arith
few_here None false = omega arith
few_here (Some n) true = omega arith
few_here (Some n) false = omega arith

few : (names : List (Option ℕ)) (gone : List Bool) → length (cleared_names names gone) ≤ length names
few [] gone = omega arith
few (n ∷ names) [] = omega arith
few (n ∷ names) (g ∷ gone) =
    let rest = few names gone in
    let here = few_here n g in
    let long = length-append (option_to_list (cleared_name n g)) (cleared_names names gone) in
    omega (arith, rest, here, long)

listed : (c : After-push_cleared) → c.push_cleared.new.cleared.items ≡ cleared_names (map number c.args.objects.now) (map (holds_cleared c.args.weaks.now) c.args.statics.now)
listed c = c.push_cleared.ensures ∙ ap (λ (l : List ℕ). l ++ cleared_names (map number c.args.objects.now) (map (holds_cleared c.args.weaks.now) c.args.statics.now)) c.requires.names.0

pub push_cleared-requires-clause-room : goal.push_cleared-requires-clause-room
push_cleared-requires-clause-room c =
    let none = ap (λ (l : List ℕ). length l) c.requires.names.0 in
    omega (arith, none, c.args.names.now.ok.0, c.requires.names.1)

pub push_objects-requires : goal.push_objects-requires
push_objects-requires c =
    let none = ap (λ (l : List ObjectId). length l) c.requires.cleared.0 in
    let all = ap (λ (l : List ℕ). length l) (listed (goal.at.push_objects-requires c).After-push_cleared) in
    let most = few (map number c.args.objects.now) (map (holds_cleared c.args.weaks.now) c.args.statics.now) in
    omega (arith, none, all, most, length-map c.args.objects.now number, c.args.cleared.now.ok.0, c.requires.cleared.1, c.deref.ensures.len, c.dedup.ensures.bound, c.sort_unstable.ensures.len, c.push_cleared.new.cleared.ok.0)

pub returns : goal.returns
returns c =
    let all = cleared_names (map number c.args.objects.now) (map (holds_cleared c.args.weaks.now) c.args.statics.now) in
    let pushed = listed (goal.at.returns c).After-push_cleared in
    let is = dedup_is _ _ _ c.dedup.ensures.filtered in
    let moved = c.sort_unstable.ensures.permutation in
    let given : names_of c.push_objects.new.objects.items ≡ c.dedup.new.self.items =
    c.push_objects.ensures ∙ ap (λ (l : List ObjectId). names_of l ++ c.deref.result.now) c.requires.cleared.0 ∙ c.deref.ensures.value in
    subst (λ (l : List ℕ). ListsNames all l) (sym given) (subst (λ (l : List ℕ). ListsNames l c.dedup.new.self.items) pushed (record {
      rising = rw is (IsStrictlyIncreasing-dedup _ c.sort_unstable.ensures.sorted);
      sound = λ x h. Contains-permutation _ _ x (IsPermutation-sym _ _ moved) (Contains-from_dedup _ _ x (rw is at h));
      complete = λ x h. rw is (Contains-dedup_nat _ x (Contains-permutation _ _ x moved h));
    }))
