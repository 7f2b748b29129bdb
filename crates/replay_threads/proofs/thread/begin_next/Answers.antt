use Rattle.std.proofs.Common.{◌≡◌, ◌∷◌, List, [], map, ap, sym, ◌∙◌, Some, zip, rules}
use Rattle.syntax.specs.Views.{unit_tree, function_tree}
use Rattle.class_rules.specs.ClassIds.{number_of}
use Rattle.semantics.specs.Object.{ObjectValue}
use Rattle.std.specs.Prelude.{filter_map}
use Rattle.semantics.specs.Activation.{function_at, parameter_variables, named_object, entry_frame}
use Rattle.semantics.specs.Thread.{Frame}
use Rattle.semantics.specs.Variable.{LocalRef}
use Rattle.world_values.specs.Views.{object_value_view}
use Rattle.replay_threads.proofs.NamesOnce.{entry_once}
use Rattle.replay_tasks.proofs.RangeLemmas.{body_in_range}
use Rattle.replay_threads.proofs.thread.begin_next.Goals as goal

pub begin_call-requires : goal.begin_call-requires
begin_call-requires c = body_in_range c.args.functions.now c.args.name.now c.in-Some.found.function.now c.requires.tree c.requires.well_typed (search rules)

pub returns : goal.returns
returns c = λ call named given_are.
    let begun = c.in_ok-begin_call.ensures in
    let f = c.in-Some.found.function.now in
    let class = c.in-Some-2.class.number in
    let given = map object_value_view c.args.arguments.now in
    let found : function_at (unit_tree c.args.functions.now) c.args.name.now ≡ Some (function_tree f) = search rules in
    record {
      function = function_tree f;
      found = ap (function_at (unit_tree c.args.functions.now)) named ∙ found;
      class = class;
      its_class = sym c.in_ok-class.ensures ∙ ap number_of c.in-Some-2.is;
      activation = begun.activation;
      is = begun.is;
      tasks = begun.tasks;
      variables = begun.variables ∙ entry_once (unit_tree c.args.functions.now) c.requires.well_typed c.args.name.now (function_tree f) found class given ∙ ap (λ (vs : List ObjectValue). (f.class_name, LocalRef 1 (Some class)) ∷ parameter_variables (zip (function_tree f).parameters vs)) (sym given_are);
      frames = begun.frames ∙ ap (λ (vs : List ObjectValue). let frame : Frame = entry_frame (class ∷ filter_map named_object vs) in frame ∷ []) (sym given_are);
      range = begun.range;
    }
