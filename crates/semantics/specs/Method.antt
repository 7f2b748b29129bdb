-- Methods: the static native methods that a unit implements, as the JNI finds them and passes them arguments (JNI
-- Specification, chapter 3, "Type Signatures", and chapter 4, "Calling Static Methods").
use Rattle.std.specs.Prelude.{ℕ, Bool, ◌&&◌, List, ◌++◌, flat_map, filter, slice_get, Option, codes}
use Rattle.std.specs.Option.{option_map}
use Rattle.std.specs.Str.{bytes_eq}
use Rattle.base.specs.Bytes.{Identifier}
use Rattle.syntax.specs.Parts.{functions_of}
use Rattle.syntax.specs.declared.declared_type.ReferenceType.{ReferenceType}
use Rattle.syntax.specs.declared.declared_type.ReferenceType.TheVariants.{Object as JObject, Class as JClass, String as JString, Array as JArray, Throwable as JThrowable, IntArray as JIntArray, ShortArray as JShortArray, ByteArray as JByteArray, CharArray as JCharArray, ObjectArray as JObjectArray}
use Rattle.syntax.specs.declared.declared_type.ParameterType.{ParameterType}
use Rattle.syntax.specs.declared.declared_type.ParameterType.TheVariants.{Jint as IntParameter, Reference as ReferenceParameter}
use Rattle.syntax.specs.declared.unit.ResultType.{ResultType}
use Rattle.syntax.specs.declared.unit.ResultType.TheVariants.{Void, Jint as IntResult, Reference as ReferenceResult}
use Rattle.syntax.specs.Tree.{Parameter, Function, SourceUnit}
use Rattle.class_rules.specs.Class.{Classes, class_name, ancestry}
use Rattle.class_rules.specs.Mangling.{is_unmangled}

-- a method, with the class that its ID was got from
pub record MethodId : Type 0 where
  pub class : ℕ
  pub function : Function

-- ---- signatures

-- that of a reference type; an array of any kind goes as an object
abbrev pub reference_signature : ReferenceType → List ℕ
reference_signature JObject = codes "Ljava/lang/Object;"
reference_signature JArray = codes "Ljava/lang/Object;"
reference_signature JClass = codes "Ljava/lang/Class;"
reference_signature JString = codes "Ljava/lang/String;"
reference_signature JThrowable = codes "Ljava/lang/Throwable;"
reference_signature JIntArray = codes "[I"
reference_signature JShortArray = codes "[S"
reference_signature JByteArray = codes "[B"
reference_signature JCharArray = codes "[C"
reference_signature JObjectArray = codes "[Ljava/lang/Object;"

-- that of a parameter
abbrev pub parameter_signature : ParameterType → List ℕ
parameter_signature IntParameter = codes "I"
parameter_signature (ReferenceParameter type) = reference_signature type

-- that of a result
abbrev pub result_signature : ResultType → List ℕ
result_signature Void = codes "V"
result_signature IntResult = codes "I"
result_signature (ReferenceResult type) = reference_signature type

-- the signature of a function's method: its parameters, and its result
abbrev pub method_signature : Function → List ℕ
method_signature f = codes "(" ++ flat_map (λ (p : Parameter). parameter_signature p.type) f.parameters ++ codes ")" ++ result_signature f.result

-- ---- looking for one

-- the function is the native method of this name in a class, and has this signature
abbrev pub is_method_of : Classes → (class : ℕ) → (name signature : List ℕ) → Function → Bool
is_method_of classes c name text f = is_unmangled f.name (class_name classes c, name) && bytes_eq (method_signature f) text

-- the functions that are such methods, of the class itself first and then of its superclasses
abbrev pub methods_named : SourceUnit → Classes → (class : ℕ) → (name signature : List ℕ) → List Function
methods_named unit classes c name text = flat_map (λ d. filter (is_method_of classes d name text) (functions_of unit)) (ancestry classes c)

-- the method that GetStaticMethodID finds
abbrev pub find_method : SourceUnit → Classes → ℕ → Identifier → List ℕ → Option MethodId
find_method unit classes c name text = option_map (λ f. record { class = c; function = f }) (slice_get (methods_named unit classes c name text) 0)
