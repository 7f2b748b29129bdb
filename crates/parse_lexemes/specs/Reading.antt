-- Reading single lexemes, and the words of types.
use Rattle.std.specs.Prelude.{ℕ, Bool, true, false, nat_lt, List, [], ◌∷◌, Option, Some, None, Result, Ok, Err, if◌then◌else◌}
use Rattle.std.specs.Option.{option_map, option_flatten}
use Rattle.base.specs.declared.element.ElementType.{ElementType}
use Rattle.base.specs.declared.element.ElementType.TheVariants.{Int as JInt, Short as JShort, Byte as JByte, Char as JChar}
use Rattle.syntax.specs.declared.declared_type.ReferenceType.{ReferenceType}
use Rattle.syntax.specs.declared.declared_type.ReferenceType.TheVariants.{Object as JObject, Class as JClass, String as JString, Array as JArray, Throwable as JThrowable, IntArray as JIntArray, ShortArray as JShortArray, ByteArray as JByteArray, CharArray as JCharArray, ObjectArray as JObjectArray}
use Rattle.syntax.specs.declared.declared_type.ParameterType.{ParameterType}
use Rattle.syntax.specs.declared.declared_type.ParameterType.TheVariants.{Jint as IntParameter, Reference as ReferenceParameter}
use Rattle.syntax.specs.declared.declared_type.VariableType.{VariableType}
use Rattle.syntax.specs.declared.declared_type.VariableType.TheVariants.{Uint32 as UInt32, Jsize as JSize, Jboolean as JBoolean, JfieldId as JFieldId, JmethodId as JMethodId, Reference as ReferenceVariable}
use Rattle.syntax.specs.declared.declared_type.StaticType.{StaticType}
use Rattle.syntax.specs.declared.declared_type.StaticType.TheVariants.{Reference as ReferenceStatic, Weak as WeakStatic}
use Rattle.syntax.specs.declared.unit.ResultType.{ResultType}
use Rattle.syntax.specs.declared.unit.ResultType.TheVariants.{Void, Jint as IntResult, Reference as ReferenceResult}
use Rattle.syntax.specs.declared.expr.Constant.{Constant}
use Rattle.syntax.specs.declared.expr.Constant.TheVariants.{True, False, Commit, Abort, Null}
use Rattle.parse_lexemes.specs.declared.fault.ParseRule.TheVariants.{NoForm}
use Rattle.parse_lexemes.specs.declared.fault.ParseError.{ParseError}
use Rattle.parse_lexemes.specs.Faults.{breaks}
use Rattle.scan.specs.declared.reserved.Word.{Word}
use Rattle.scan.specs.declared.reserved.Word.TheVariants as words
use Rattle.parse_lexemes.specs.declared.first.Fixed.{Fixed}
use Rattle.parse_lexemes.specs.declared.first.Fixed.TheVariants as fixed
use Rattle.parse_lexemes.specs.Meaning.{Meaning, Fixed', Name', Number', Text'}
use Rattle.parse_lexemes.specs.Lexemes.{Lexed, same_word, is_fixed, fault_at}

abbrev pub starts_with : Fixed → List Lexed → Bool
starts_with f [] = false
starts_with f (l ∷ ls) = is_fixed l f

abbrev pub rest_of : List Lexed → List Lexed
rest_of [] = []
rest_of (l ∷ ls) = ls

abbrev pub is_name : Meaning → Bool
is_name (Name' bytes) = true
is_name (Fixed' found) = false
is_name (Number' value unsigned) = false
is_name (Text' bytes) = false

-- whether a name comes next
abbrev pub starts_name : List Lexed → Bool
starts_name [] = false
starts_name (l ∷ ls) = is_name l.meaning

abbrev pub constant_of_word : Word → Option Constant
constant_of_word words.JniTrue = Some True
constant_of_word words.JniFalse = Some False
constant_of_word words.JniCommit = Some Commit
constant_of_word words.JniAbort = Some Abort
constant_of_word words.Null = Some Null
constant_of_word _ = None

-- ---- words of types

abbrev pub word_in : Meaning → Option Word
word_in (Fixed' (fixed.Word w)) = Some w
word_in (Fixed' (fixed.Mark m)) = None
word_in (Fixed' fixed.End) = None
word_in (Name' bytes) = None
word_in (Number' value unsigned) = None
word_in (Text' bytes) = None

-- the reserved word that comes next
abbrev pub word_at : List Lexed → Option Word
word_at [] = None
word_at (l ∷ ls) = word_in l.meaning

abbrev pub reference_of_word : Word → Option ReferenceType
reference_of_word words.Jobject = Some JObject
reference_of_word words.Jclass = Some JClass
reference_of_word words.Jstring = Some JString
reference_of_word words.Jarray = Some JArray
reference_of_word words.Jthrowable = Some JThrowable
reference_of_word words.JintArray = Some JIntArray
reference_of_word words.JshortArray = Some JShortArray
reference_of_word words.JbyteArray = Some JByteArray
reference_of_word words.JcharArray = Some JCharArray
reference_of_word words.JobjectArray = Some JObjectArray
reference_of_word _ = None

abbrev pub parameter_of_word : Word → Option ParameterType
parameter_of_word w = if same_word w words.Jint then Some IntParameter else option_map (λ r. ReferenceParameter r) (reference_of_word w)

abbrev pub result_of_word : Word → Option ResultType
result_of_word words.Void = Some Void
result_of_word words.Jint = Some IntResult
result_of_word w = option_map (λ r. ReferenceResult r) (reference_of_word w)

abbrev pub static_of_word : Word → Option StaticType
static_of_word words.Jweak = Some WeakStatic
static_of_word w = option_map (λ r. ReferenceStatic r) (reference_of_word w)

abbrev pub element_of_word : Word → Option ElementType
element_of_word words.Jint = Some JInt
element_of_word words.Jshort = Some JShort
element_of_word words.Jbyte = Some JByte
element_of_word words.Jchar = Some JChar
element_of_word _ = None

-- the types of variables but `jint`, which is an element's too
abbrev pub variable_of_word : Word → Option VariableType
variable_of_word words.Uint32 = Some UInt32
variable_of_word words.Jsize = Some JSize
variable_of_word words.Jboolean = Some JBoolean
variable_of_word words.JfieldId = Some JFieldId
variable_of_word words.JmethodId = Some JMethodId
variable_of_word w = option_map (λ r. ReferenceVariable r) (reference_of_word w)

-- the type that comes next: of a static, of a result, of a parameter, of an element, of a variable
abbrev pub static_type_at : List Lexed → Option StaticType
static_type_at ls = option_flatten (option_map static_of_word (word_at ls))

abbrev pub result_type_at : List Lexed → Option ResultType
result_type_at ls = option_flatten (option_map result_of_word (word_at ls))

abbrev pub parameter_type_at : List Lexed → Option ParameterType
parameter_type_at ls = option_flatten (option_map parameter_of_word (word_at ls))

abbrev pub element_type_at : List Lexed → Option ElementType
element_type_at ls = option_flatten (option_map element_of_word (word_at ls))

abbrev pub variable_type_at : List Lexed → Option VariableType
variable_type_at ls = option_flatten (option_map variable_of_word (word_at ls))

-- what the first lexeme stands for, and what comes after it
abbrev pub found : {A : Type 0} → Option A → List Lexed → Result (A × List Lexed) ParseError
found None ls = Err (fault_at NoForm ls)
found (Some x) ls = Ok (x, rest_of ls)

abbrev pub text_of : Meaning → Option (List ℕ)
text_of (Text' bytes) = Some bytes
text_of (Fixed' found) = None
text_of (Name' bytes) = None
text_of (Number' value unsigned) = None

-- the string that comes next
abbrev pub text_at : List Lexed → Option (List ℕ)
text_at [] = None
text_at (l ∷ ls) = text_of l.meaning

-- ---- single numbers

-- a number without `u`, from the least to the most
abbrev pub number_in : (least most : ℕ) → Meaning → List Lexed → List Lexed → Result (ℕ × List Lexed) ParseError
number_in least most (Number' value unsigned) ls after =
    if unsigned then Err (fault_at NoForm ls)
    else if nat_lt value least then Err (fault_at NoForm ls)
    else if nat_lt most value then Err (fault_at NoForm ls)
    else Ok (value, after)
number_in least most (Fixed' found) ls after = Err (fault_at NoForm ls)
number_in least most (Name' bytes) ls after = Err (fault_at NoForm ls)
number_in least most (Text' bytes) ls after = Err (fault_at NoForm ls)

unfoldable pub number_at : (least most : ℕ) → List Lexed → Result (ℕ × List Lexed) ParseError
number_at least most [] = Err (breaks NoForm 0)
number_at least most (l ∷ after) = number_in least most l.meaning (l ∷ after) after
