-- The lines of a world, as they are held in memory.
use Rattle.std.specs.Prelude.{map}
use Rattle.std.specs.Option.{option_map}
use Rattle.world_lines.specs.declared.value.Value.{Value}
use Rattle.world_lines.specs.declared.value.Value.TheVariants as values
use Rattle.world_lines.specs.declared.line.Line.{Line}
use Rattle.world_lines.specs.declared.line.Line.TheVariants as lines
use Rattle.world_values.specs.WorldLines.{WorldValue, NumberValue, NullValue, NamedObject, NamedClass, WorldLine, ClassLine, FieldLine, StaticLine, ObjectLine, ObjectsLine, ArrayLine, StringLine, ThreadLine, CallLine}

-- a value
abbrev pub value_view : Value → WorldValue
value_view (values.Number z) = NumberValue z
value_view values.Null = NullValue
value_view (values.Object x) = NamedObject x.now
value_view (values.Class name) = NamedClass name.now

-- a line
abbrev pub line_view : Line → WorldLine
line_view (lines.Class name superclass) = ClassLine name.now (option_map (λ s. s.now) superclass)
line_view (lines.Field f) = FieldLine f.class.now f.name.now f.signature.now
line_view (lines.Static f) = StaticLine f.class.now f.name.now f.signature.now
line_view (lines.Object o) = ObjectLine o.name.now o.class.now (map value_view o.values.items)
line_view (lines.Objects o) = ObjectsLine o.name.now o.class.now (map value_view o.values.items)
line_view (lines.Array a) = ArrayLine a.name.now a.element (map value_view a.values.items)
line_view (lines.String x text) = StringLine x.now text.now
line_view (lines.Thread c) = ThreadLine c.function.now (map value_view c.arguments.items)
line_view (lines.Call c) = CallLine c.function.now (map value_view c.arguments.items)
