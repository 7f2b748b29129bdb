use Rattle.std.proofs.Common.{◌≡◌, ◌+◌, true, map, Some, ap, sym, ◌∙◌, codes}
use Rattle.class_rules.specs.Additions.{new_class, with_class}
use Rattle.class_rules.specs.BuiltIns.{incompatible_class_change_error}
use Rattle.class_rules.specs.Class.{Classes, class_named}
use Rattle.world.specs.Gathered.{Gathered}
use Rattle.world.proofs.FirstLines.{class_above}
use Rattle.world.proofs.builder.WorldBuilder.allow_methods.Goals as goal

pub returns : goal.returns
returns c =
    let old = c.args.self.now in
    let name = codes "java/lang/IncompatibleClassChangeError" in
    let superclass : class_named old.classes name ≡ Some incompatible_class_change_error = ap (λ (T : Classes). class_named T name) c.requires.begun ∙ class_above in
    ap (λ (g : Gathered). record g { methods = true }) c.in_ok-put_class_below.ensures
    ∙ (λ i. record {
      heap_line = old.heap_line;
      methods = true;
      cells = old.cells;
      classes = with_class (c.requires.begun i) (new_class (codes "java/lang/NoSuchMethodError") (superclass i));
      names = old.names;
      objects = old.objects.items;
      threads = map (λ t. t.items) old.threads.items;
      used = old.used + 6;
      part = sym c.requires.first i;
    })
