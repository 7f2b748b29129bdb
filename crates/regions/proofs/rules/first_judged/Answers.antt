use Rattle.std.proofs.Common.{◌≡◌, ℕ, Option}
use Rattle.std.specs.List.{slice_get}
use Rattle.std.specs.Option.{option_map}
use Rattle.syntax.specs.Tree.{Stmt}
use Rattle.syntax.specs.Views.{form_tree}
use Rattle.region_rules.specs.RegionRules.{own_rules}
use Rattle.region_rules.specs.RegionStates.{RegionState}
use Rattle.region_states.specs.StateEffects.{EffectCall, made_value}
use Rattle.region_states.specs.Judgements.{judged, first_judged}
use Rattle.regions.proofs.Paths.{IsFirst, first_at, none_first}
use Rattle.regions.proofs.rules.first_judged.Goals as goal

-- the rule at this place of the list is broken, and none before it
first : (n : ℕ) (state : RegionState) (s : Stmt) (call : Option EffectCall) → IsFirst (λ rule. judged rule state s call) n own_rules → slice_get own_rules n ≡ first_judged state s call
first n state s call h = first_at (λ rule. judged rule state s call) n own_rules h

pub returns-then-breaks_critical : goal.returns-then-breaks_critical
returns-then-breaks_critical c = λ line.
    first 0 c.args.state.now (form_tree line c.args.form.now) (option_map made_value c.args.call)
    (c.if-breaks_critical.ensures line)

pub returns-then-breaks_return : goal.returns-then-breaks_return
returns-then-breaks_return c = λ line.
    first 1 c.args.state.now (form_tree line c.args.form.now) (option_map made_value c.args.call)
    (c.if-breaks_critical.ensures line, c.if-breaks_return.ensures line (option_map made_value c.args.call))

pub returns-then-breaks_held : goal.returns-then-breaks_held
returns-then-breaks_held c = λ line.
    first 2 c.args.state.now (form_tree line c.args.form.now) (option_map made_value c.args.call)
    (c.if-breaks_critical.ensures line, (c.if-breaks_return.ensures line (option_map made_value c.args.call), c.if-breaks_held.ensures line))

pub returns-then-breaks_untested : goal.returns-then-breaks_untested
returns-then-breaks_untested c = λ line.
    first 3 c.args.state.now (form_tree line c.args.form.now) (option_map made_value c.args.call)
    (c.if-breaks_critical.ensures line, (c.if-breaks_return.ensures line (option_map made_value c.args.call), (c.if-breaks_held.ensures line, c.if-breaks_untested.ensures line)))

pub returns-then-breaks_wrong : goal.returns-then-breaks_wrong
returns-then-breaks_wrong c = λ line.
    first 4 c.args.state.now (form_tree line c.args.form.now) (option_map made_value c.args.call)
    (c.if-breaks_critical.ensures line, (c.if-breaks_return.ensures line (option_map made_value c.args.call), (c.if-breaks_held.ensures line, (c.if-breaks_untested.ensures line, c.if-breaks_wrong.ensures line))))

pub returns-then-breaks_frame : goal.returns-then-breaks_frame
returns-then-breaks_frame c = λ line.
    first 5 c.args.state.now (form_tree line c.args.form.now) (option_map made_value c.args.call)
    (c.if-breaks_critical.ensures line, (c.if-breaks_return.ensures line (option_map made_value c.args.call), (c.if-breaks_held.ensures line, (c.if-breaks_untested.ensures line, (c.if-breaks_wrong.ensures line, c.if-breaks_frame.ensures line (option_map made_value c.args.call))))))

pub returns-then-breaks_pop : goal.returns-then-breaks_pop
returns-then-breaks_pop c = λ line.
    first 6 c.args.state.now (form_tree line c.args.form.now) (option_map made_value c.args.call)
    (c.if-breaks_critical.ensures line, (c.if-breaks_return.ensures line (option_map made_value c.args.call), (c.if-breaks_held.ensures line, (c.if-breaks_untested.ensures line, (c.if-breaks_wrong.ensures line, (c.if-breaks_frame.ensures line (option_map made_value c.args.call), c.if-breaks_pop.ensures (form_tree line c.args.form.now)))))))

pub returns-then-breaks_dead : goal.returns-then-breaks_dead
returns-then-breaks_dead c = λ line.
    first 7 c.args.state.now (form_tree line c.args.form.now) (option_map made_value c.args.call)
    (c.if-breaks_critical.ensures line, (c.if-breaks_return.ensures line (option_map made_value c.args.call), (c.if-breaks_held.ensures line, (c.if-breaks_untested.ensures line, (c.if-breaks_wrong.ensures line, (c.if-breaks_frame.ensures line (option_map made_value c.args.call), (c.if-breaks_pop.ensures (form_tree line c.args.form.now), c.if-breaks_dead.ensures line (option_map made_value c.args.call))))))))

pub returns-then-breaks_array : goal.returns-then-breaks_array
returns-then-breaks_array c = λ line.
    first 8 c.args.state.now (form_tree line c.args.form.now) (option_map made_value c.args.call)
    (c.if-breaks_critical.ensures line, (c.if-breaks_return.ensures line (option_map made_value c.args.call), (c.if-breaks_held.ensures line, (c.if-breaks_untested.ensures line, (c.if-breaks_wrong.ensures line, (c.if-breaks_frame.ensures line (option_map made_value c.args.call), (c.if-breaks_pop.ensures (form_tree line c.args.form.now), (c.if-breaks_dead.ensures line (option_map made_value c.args.call), c.if-breaks_array.ensures line))))))))

pub returns-then-breaks_level : goal.returns-then-breaks_level
returns-then-breaks_level c = λ line.
    first 9 c.args.state.now (form_tree line c.args.form.now) (option_map made_value c.args.call)
    (c.if-breaks_critical.ensures line, (c.if-breaks_return.ensures line (option_map made_value c.args.call), (c.if-breaks_held.ensures line, (c.if-breaks_untested.ensures line, (c.if-breaks_wrong.ensures line, (c.if-breaks_frame.ensures line (option_map made_value c.args.call), (c.if-breaks_pop.ensures (form_tree line c.args.form.now), (c.if-breaks_dead.ensures line (option_map made_value c.args.call), (c.if-breaks_array.ensures line, c.if-breaks_level.ensures line)))))))))

pub returns : goal.returns
returns c = λ line.
    none_first (λ rule. judged rule c.args.state.now (form_tree line c.args.form.now) (option_map made_value c.args.call)) own_rules
    (c.if-breaks_critical.ensures line, (c.if-breaks_return.ensures line (option_map made_value c.args.call), (c.if-breaks_held.ensures line, (c.if-breaks_untested.ensures line, (c.if-breaks_wrong.ensures line, (c.if-breaks_frame.ensures line (option_map made_value c.args.call), (c.if-breaks_pop.ensures (form_tree line c.args.form.now), (c.if-breaks_dead.ensures line (option_map made_value c.args.call), (c.if-breaks_array.ensures line, (c.if-breaks_level.ensures line, tt))))))))))
