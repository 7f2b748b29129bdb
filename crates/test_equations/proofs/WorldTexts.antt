-- World texts: what they mean, and the rules that they break.
use Rattle.std.specs.Prelude.{length, replicate}
use Rattle.std.proofs.Common.{◌≡◌, true, false, [], ◌∷◌, Some, None, Ok, codes, refl, inl, inr, arith, pos, negsuc}
use Rattle.std.specs.Fmt.{digits}
use Rattle.base.specs.declared.element.ElementType.TheVariants.{Int as JInt}
use Rattle.class_rules.specs.Class.{assignable}
use Rattle.class_rules.specs.BuiltIns.{built_ins}
use Rattle.class_rules.specs.Fields.{layout, type_of_signature}
use Rattle.class_rules.specs.Mangling.{unmangle}
use Rattle.class_rules.specs.declared.rule.ClassRule.TheVariants.{NameTaken, BadSuperclass, BadSignature}
use Rattle.world.specs.ReadingWorlds.{world_of_text}
use Rattle.world_values.specs.WorldLines.{ClassLine, FieldLine, ObjectLine, ArrayLine, StringLine, ThreadLine, CallLine, NumberValue, NullValue, NamedObject, NamedClass, Lines}
use Rattle.world_values.specs.WorldMeaning.{world_of, cells_of}
use Rattle.world_values.specs.WorldRules.{IsWorldText, broken_after}
use Rattle.world_schedules.specs.LineRules.{OfClass, LineForm, WrongName, OutOfLimit, HeapFull}
use Rattle.semantics.specs.Load.{Loads}
use Rattle.test_equations.proofs.Arguments.{a_thread_that_has_not_begun}
use Rattle.test_equations.proofs.Computed.{read}

abbrev small_lines : Lines
small_lines = (2, ClassLine (codes "A") None) ∷ (4, ArrayLine (codes "a") JInt (NumberValue (pos 7) ∷ NumberValue (negsuc 7) ∷ [])) ∷ (5, StringLine (codes "s") []) ∷ (6, StringLine (codes "t") []) ∷ (7, ThreadLine (codes "Java_A_f") (NamedObject (codes "a") ∷ [])) ∷ []

-- an empty string with and without a space after its name
small_world-text : IsWorldText (codes "heap 512\nclass A\n\narray @a I 7 -8\nstring @s \nstring @t\nthread Java_A_f @a") (world_of 1 512 small_lines)
unfolding digits built_ins
small_world-text = record {
  written = (2, codes "class A") ∷ (4, codes "array @a I 7 -8") ∷ (5, codes "string @s ") ∷ (6, codes "string @t") ∷ (7, codes "thread Java_A_f @a") ∷ [];
  lines = small_lines;
  spelled = refl;
  lines_spelled = ((refl, (refl, inl refl)), ((refl, (refl, inl refl)), ((refl, (refl, inl refl)), ((refl, (refl, inr refl)), ((refl, (refl, inl refl)), tt)))));
  size = (omega arith, omega arith);
  rules = refl;
  threads = refl;
  meant = refl;
}

-- and what is read of the text is the same world
small_world-read : world_of_text (codes "heap 512\nclass A\n\narray @a I 7 -8\nstring @s \nstring @t\nthread Java_A_f @a") ≡ Ok (world_of 1 512 small_lines)
unfolding read
small_world-read = refl

small_world-loads : Loads a_thread_that_has_not_begun (world_of 1 512 small_lines)
unfolding unmangle built_ins
small_world-loads = (refl, refl)

-- ArrayStoreException is a Throwable, and not the other way round
assignable-up : assignable built_ins 17 4 ≡ true
unfolding built_ins
assignable-up = refl

assignable-down : assignable built_ins 4 17 ≡ false
unfolding built_ins
assignable-down = refl

-- [Ljava/lang/Error; and [Ljava/lang/Throwable;, and java/lang/Object
assignable-elements : assignable built_ins 28 27 ≡ true
unfolding built_ins
assignable-elements = refl

assignable-object : assignable built_ins 28 1 ≡ true
unfolding built_ins
assignable-object = refl

assignable-numbers : assignable built_ins 23 24 ≡ false
unfolding built_ins
assignable-numbers = refl

all-built-ins : length built_ins ≡ 42
unfolding built_ins
all-built-ins = refl

inherited-field : length (layout built_ins 11) ≡ 1
unfolding built_ins
inherited-field = refl

-- arrays of arrays have no signature
no-signature : type_of_signature built_ins (codes "L[I;") ≡ None
unfolding built_ins
no-signature = refl

used-cells : cells_of ((2, ClassLine (codes "A") None) ∷ []) ≡ 136
unfolding built_ins
used-cells = refl

name_taken : broken_after 512 [] ((2, ClassLine (codes "A") None) ∷ (3, ClassLine (codes "A") None) ∷ []) ≡ (3, OfClass NameTaken) ∷ []
unfolding digits built_ins
name_taken = refl

no_superclass : broken_after 512 [] ((2, ClassLine (codes "A") (Some (codes "B"))) ∷ []) ≡ (2, OfClass BadSuperclass) ∷ []
unfolding digits built_ins
no_superclass = refl

bad_signature : broken_after 512 [] ((2, ClassLine (codes "A") None) ∷ (3, FieldLine (codes "A") (codes "n") (codes "Q")) ∷ []) ≡ (3, OfClass BadSignature) ∷ []
unfolding digits built_ins
bad_signature = refl

values_of_an_object : broken_after 512 [] ((2, ClassLine (codes "A") None) ∷ (3, FieldLine (codes "A") (codes "n") (codes "I")) ∷ (4, ObjectLine (codes "o") (codes "A") (NumberValue (pos 3) ∷ [])) ∷ []) ≡ []
unfolding digits built_ins
values_of_an_object = refl

too_few_values : broken_after 512 [] ((2, ClassLine (codes "A") None) ∷ (3, FieldLine (codes "A") (codes "n") (codes "I")) ∷ (4, ObjectLine (codes "o") (codes "A") []) ∷ []) ≡ (4, LineForm) ∷ []
unfolding digits built_ins
too_few_values = refl

byte_out_of_range : broken_after 512 [] ((2, ClassLine (codes "A") None) ∷ (3, FieldLine (codes "A") (codes "n") (codes "B")) ∷ (4, ObjectLine (codes "o") (codes "A") (NumberValue (pos 128) ∷ [])) ∷ []) ≡ (4, OutOfLimit) ∷ []
unfolding digits built_ins
byte_out_of_range = refl

null_field : broken_after 512 [] ((2, ClassLine (codes "A") None) ∷ (3, FieldLine (codes "A") (codes "n") (codes "LA;")) ∷ (4, ObjectLine (codes "o") (codes "A") (NullValue ∷ [])) ∷ (5, ObjectLine (codes "p") (codes "A") (NamedObject (codes "o") ∷ [])) ∷ (6, ObjectLine (codes "q") (codes "A") (NamedClass (codes "A") ∷ [])) ∷ []) ≡ (6, WrongName) ∷ []
unfolding digits built_ins
null_field = refl

line_out_of_order : broken_after 512 [] ((2, ClassLine (codes "A") None) ∷ (3, ThreadLine (codes "f") []) ∷ (4, StringLine (codes "s") (codes "hi")) ∷ []) ≡ (4, LineForm) ∷ []
unfolding digits built_ins
line_out_of_order = refl

full : broken_after 512 [] ((2, ClassLine (codes "A") None) ∷ (3, ArrayLine (codes "a") JInt (replicate 374 (NumberValue (pos 0)))) ∷ []) ≡ (3, HeapFull) ∷ []
unfolding digits built_ins
full = refl

fits : broken_after 512 [] ((2, ClassLine (codes "A") None) ∷ (3, ArrayLine (codes "a") JInt (replicate 373 (NumberValue (pos 0)))) ∷ []) ≡ []
unfolding digits built_ins
fits = refl

null_in_an_array : broken_after 512 [] ((2, ClassLine (codes "A") None) ∷ (3, ArrayLine (codes "a") JInt (NullValue ∷ [])) ∷ []) ≡ (3, WrongName) ∷ []
unfolding digits built_ins
null_in_an_array = refl

string_by_an_object_line : broken_after 512 [] ((2, ClassLine (codes "A") None) ∷ (3, ObjectLine (codes "s") (codes "java/lang/String") (NumberValue (pos 1) ∷ [])) ∷ []) ≡ (3, WrongName) ∷ []
unfolding digits built_ins
string_by_an_object_line = refl

argument_out_of_range : broken_after 512 [] ((2, ClassLine (codes "A") None) ∷ (3, ThreadLine (codes "f") (NumberValue (pos 2147483648) ∷ [])) ∷ []) ≡ (3, OutOfLimit) ∷ []
unfolding digits built_ins
argument_out_of_range = refl

call_before_a_thread : broken_after 512 [] ((2, ClassLine (codes "A") None) ∷ (3, CallLine (codes "f") []) ∷ []) ≡ (3, LineForm) ∷ []
unfolding digits built_ins
call_before_a_thread = refl

-- a line out of its order breaks that rule alone
out-of-order : broken_after 512 [] ((2, ThreadLine (codes "f") []) ∷ (3, ClassLine (codes "java/lang/Error") None) ∷ []) ≡ (3, LineForm) ∷ []
unfolding digits built_ins
out-of-order = refl

-- a badly formed name of an object, where it is used
bad-name : broken_after 512 [] ((2, ClassLine (codes "A") None) ∷ (3, ThreadLine (codes "f") (NamedObject (codes "9") ∷ [])) ∷ []) ≡ (3, LineForm) ∷ (3, WrongName) ∷ []
unfolding digits built_ins
bad-name = refl
