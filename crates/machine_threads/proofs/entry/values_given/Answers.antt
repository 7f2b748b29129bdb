use Rattle.std.proofs.Common.{◌≡◌, pos, ◌+◌, List, [], ◌∷◌, ◌++◌, length, map, take, get_or, Some, sym, ap, ◌∙◌}
use Rattle.std.specs.Prelude.{slice_get}
use Rattle.std.proofs.lemmas.List.{map-append, take_all}
use Rattle.std.proofs.lemmas.Option.{slice_get-get_or}
use Rattle.base.proofs.Lists.{take_next}
use Rattle.heap.specs.declared.value.Value.{Value}
use Rattle.semantics.specs.declared.object_value.ObjectValue.{ObjectValue as Argument}
use Rattle.semantics.specs.declared.object_value.ObjectValue.TheVariants.{Number}
use Rattle.world_values.specs.CallArguments.{is_argument}
use Rattle.world_values.specs.Views.{object_value_view}
use Rattle.machine_threads.specs.Held.{held_value}
use Rattle.machine_threads.proofs.ArgumentSlots.{argument_at}
use Rattle.machine_threads.proofs.entry.values_given.Goals as goal

pub held-requires : goal.held-requires
held-requires c =
    let xs = c.args.arguments.now in
    let i = c.loop-argument.argument-index in
    argument_at (is_argument (length c.args.loaded.now)) xs i _ c.requires (slice_get-get_or xs i (Number (pos 0)) c.loop-argument-test.true)

pub loop-argument-preserved : goal.loop-argument-preserved
loop-argument-preserved c =
    let loaded = c.args.loaded.now in
    let xs = c.args.arguments.now in
    let i = c.loop-argument.argument-index in
    let x = get_or xs i (Number (pos 0)) in
    let at : slice_get xs i ≡ Some x = slice_get-get_or xs i (Number (pos 0)) c.loop-argument-test.true in
    let before = map object_value_view (take i xs) in
    let all : map (held_value loaded) (map object_value_view (take (i + 1) xs)) ≡ map (held_value loaded) before ++ held_value loaded (object_value_view x) ∷ [] =
    ap (λ (l : List Argument). map (held_value loaded) (map object_value_view l)) (take_next xs i x at)
    ∙ ap (map (held_value loaded)) (map-append object_value_view (take i xs) (x ∷ []))
    ∙ map-append (held_value loaded) before (object_value_view x ∷ []) in
    c.in_ok-push.ensures.items ∙ ap (λ (l : List Value). l ++ c.held.result ∷ []) c.loop-argument.invariant
    ∙ ap (λ (v : Value). map (held_value loaded) before ++ v ∷ []) c.held.ensures ∙ sym all

pub returns : goal.returns
returns c =
    let xs = c.args.arguments.now in
    c.loop-argument.invariant ∙ ap (λ (l : List Argument). map (held_value c.args.loaded.now) (map object_value_view l)) (take_all c.loop-argument.argument-index xs c.loop-argument-test.false)
