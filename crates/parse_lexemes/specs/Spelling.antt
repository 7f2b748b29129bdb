-- How tokens are spelled, and the words of types.
use Rattle.std.specs.Prelude.{ℕ, List, [], ◌∷◌}
use Rattle.base.specs.Bytes.{Identifier}
use Rattle.base.specs.declared.element.ElementType.{ElementType}
use Rattle.base.specs.declared.element.ElementType.TheVariants.{Int as JInt, Short as JShort, Byte as JByte, Char as JChar}
use Rattle.scan.specs.declared.token.Mark.{Mark}
use Rattle.syntax.specs.declared.declared_type.ReferenceType.{ReferenceType}
use Rattle.syntax.specs.declared.declared_type.ReferenceType.TheVariants.{Object as JObject, Class as JClass, String as JString, Array as JArray, Throwable as JThrowable, IntArray as JIntArray, ShortArray as JShortArray, ByteArray as JByteArray, CharArray as JCharArray, ObjectArray as JObjectArray}
use Rattle.syntax.specs.declared.declared_type.ParameterType.{ParameterType}
use Rattle.syntax.specs.declared.declared_type.ParameterType.TheVariants.{Jint as IntParameter, Reference as ReferenceParameter}
use Rattle.syntax.specs.declared.declared_type.VariableType.{VariableType}
use Rattle.syntax.specs.declared.declared_type.VariableType.TheVariants.{Uint32 as UInt32, Jint as JIntVariable, Jsize as JSize, Jboolean as JBoolean, JfieldId as JFieldId, JmethodId as JMethodId, Reference as ReferenceVariable}
use Rattle.syntax.specs.declared.declared_type.StaticType.{StaticType}
use Rattle.syntax.specs.declared.declared_type.StaticType.TheVariants.{Reference as ReferenceStatic, Weak as WeakStatic}
use Rattle.syntax.specs.declared.unit.ResultType.{ResultType}
use Rattle.syntax.specs.declared.unit.ResultType.TheVariants.{Void, Jint as IntResult, Reference as ReferenceResult}
use Rattle.syntax.specs.declared.expr.Constant.{Constant}
use Rattle.syntax.specs.declared.expr.Constant.TheVariants.{True, False, Commit, Abort, Null}
use Rattle.scan.specs.declared.reserved.Word.{Word}
use Rattle.scan.specs.declared.reserved.Word.TheVariants as words
use Rattle.parse_lexemes.specs.declared.first.Fixed.TheVariants as fixed
use Rattle.parse_lexemes.specs.Meaning.{Meaning, Fixed', Name'}

-- ---- tokens of a tree

-- a token of a tree: in any line, or in the line that the tree tells
pub data Spelled : Type 0 where
  Anywhere : Meaning → Spelled
  OnLine : (line : ℕ) → Meaning → Spelled

abbrev pub meaning_in : Spelled → Meaning
meaning_in (Anywhere meaning) = meaning
meaning_in (OnLine line meaning) = meaning

abbrev pub mark : Mark → Spelled
mark m = Anywhere (Fixed' (fixed.Mark m))

abbrev pub word : Word → Spelled
word w = Anywhere (Fixed' (fixed.Word w))

abbrev pub name : Identifier → Spelled
name x = Anywhere (Name' x)

-- tokens of which the first is in this line
abbrev pub on_line : ℕ → List Spelled → List Spelled
on_line line [] = []
on_line line (t ∷ tokens) = OnLine line (meaning_in t) ∷ tokens

-- ---- words and operators

abbrev pub reference_word : ReferenceType → Word
reference_word JObject = words.Jobject
reference_word JClass = words.Jclass
reference_word JString = words.Jstring
reference_word JArray = words.Jarray
reference_word JThrowable = words.Jthrowable
reference_word JIntArray = words.JintArray
reference_word JShortArray = words.JshortArray
reference_word JByteArray = words.JbyteArray
reference_word JCharArray = words.JcharArray
reference_word JObjectArray = words.JobjectArray

abbrev pub constant_word : Constant → Word
constant_word True = words.JniTrue
constant_word False = words.JniFalse
constant_word Commit = words.JniCommit
constant_word Abort = words.JniAbort
constant_word Null = words.Null

-- the word of an element type
abbrev pub element_word : ElementType → Word
element_word JInt = words.Jint
element_word JShort = words.Jshort
element_word JByte = words.Jbyte
element_word JChar = words.Jchar

-- the word of a variable's type
abbrev pub variable_word : VariableType → Word
variable_word UInt32 = words.Uint32
variable_word JIntVariable = words.Jint
variable_word JSize = words.Jsize
variable_word JBoolean = words.Jboolean
variable_word JFieldId = words.JfieldId
variable_word JMethodId = words.JmethodId
variable_word (ReferenceVariable r) = reference_word r

-- the word of a function's result
abbrev pub result_word : ResultType → Word
result_word Void = words.Void
result_word IntResult = words.Jint
result_word (ReferenceResult r) = reference_word r

-- the word of a static's type
abbrev pub static_word : StaticType → Word
static_word (ReferenceStatic r) = reference_word r
static_word WeakStatic = words.Jweak

-- the word of a parameter's type
abbrev pub parameter_word : ParameterType → Word
parameter_word IntParameter = words.Jint
parameter_word (ReferenceParameter r) = reference_word r
