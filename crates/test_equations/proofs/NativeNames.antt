-- Names of classes and native methods (JNI Specification, chapter 2, "Resolving Native Method Names").
use Rattle.std.specs.Prelude.{◌≡◌, Some, None, codes, refl}
use Rattle.class_rules.specs.Mangling.{mangle, unmangle}

mangled : mangle (codes "a/b_c") (codes "f_1") ≡ codes "Java_a_b_1c_f_11"
unfolding unmangle
mangled = refl

unmangled : unmangle (codes "Java_a_b_1c_f_11") ≡ Some (codes "a/b_c", codes "f_1")
unfolding unmangle
unmangled = refl

plain_name : unmangle (codes "Java_A_f") ≡ Some (codes "A", codes "f")
unfolding unmangle
plain_name = refl

empty_class_part : unmangle (codes "Java_A__f") ≡ None
unfolding unmangle
empty_class_part = refl

unknown_escape : unmangle (codes "Java_A_2f") ≡ None
unfolding unmangle
unknown_escape = refl

no_class : unmangle (codes "Java_f") ≡ None
unfolding unmangle
no_class = refl

no_prefix : unmangle (codes "f") ≡ None
unfolding unmangle
no_prefix = refl

method_with_escape : unmangle (codes "Java_A_1f") ≡ None
unfolding unmangle
method_with_escape = refl

slash : unmangle (codes "Java_a/b_f") ≡ None
unfolding unmangle
slash = refl

packaged : unmangle (codes "Java_a_b_f") ≡ Some (codes "a/b", codes "f")
unfolding unmangle
packaged = refl
