use Rattle.std.proofs.Common.{◌≡◌, ℕ, ◌+◌, List, [], ◌∷◌, ◌++◌, length, map, ap, ◌∙◌, arith}
use Rattle.std.proofs.Math.ListN.{length-map}
use Rattle.base.specs.Bytes.{ByName}
use Rattle.semantics.specs.Object.{Object}
use Rattle.world_values.specs.declared.part.Part.TheVariants as parts
use Rattle.world_values.specs.Views.{object_value_view}
use Rattle.world.specs.Gathered.{Gathered}
use Rattle.world.specs.GatheredViews.{gathered_of}
use Rattle.world.proofs.builder.WorldBuilder.put_object.Goals as goal

-- the same with these names, objects and used cells, after a line of an object
abbrev with_objects : Gathered → ByName ℕ → List Object → ℕ → Gathered
with_objects g names objects used = record g { names = names; objects = objects; used = used; part = parts.Objects }

pub returns : goal.returns
returns c =
    let g = gathered_of c.args.self.now in
    let names = g.names ++ (c.args.name.now, c.args.class.number) ∷ [] in
    let objects : c.push-2.new.self.items ≡ g.objects ++ (record { class = c.args.class.number; values = map object_value_view c.args.values.items }) ∷ [] = c.in_ok-push-2.ensures.items ∙ ap (λ (o : Object). g.objects ++ o ∷ []) c.new.ensures in
    let as_many : c.len-added.result ≡ length (map object_value_view c.args.values.items) = omega (arith, c.len-added.ensures, c.args.values.ok.0, length-map c.args.values.items object_value_view) in
    ap (λ (ns : ByName ℕ). with_objects g ns c.push-2.new.self.items (g.used + (3 + c.len-added.result))) c.in_ok-push.ensures.ok
    ∙ ap (λ (os : List Object). with_objects g names os (g.used + (3 + c.len-added.result))) objects
    ∙ ap (λ (n : ℕ). with_objects g names (g.objects ++ (record { class = c.args.class.number; values = map object_value_view c.args.values.items }) ∷ []) (g.used + (3 + n))) as_many
