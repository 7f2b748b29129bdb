-- What the proofs need of the tables of words.
use Rattle.std.proofs.Common.{◌≡◌, ℕ, List, [], ◌∷◌, Option, Some, None, refl, ap, ◌∙◌, inl, inr}
use Rattle.std.specs.Prelude.{◌⊎◌}
use Rattle.std.specs.Option.{option_map, option_flatten}
use Rattle.base.specs.declared.element.ElementType.{ElementType}
use Rattle.base.specs.declared.element.ElementType.TheVariants.{Int as JInt, Short as JShort, Byte as JByte, Char as JChar}
use Rattle.syntax.specs.declared.declared_type.ReferenceType.{ReferenceType}
use Rattle.syntax.specs.declared.declared_type.ReferenceType.TheVariants.{Object as JObject, Class as JClass, String as JString, Array as JArray, Throwable as JThrowable, IntArray as JIntArray, ShortArray as JShortArray, ByteArray as JByteArray, CharArray as JCharArray, ObjectArray as JObjectArray}
use Rattle.syntax.specs.declared.declared_type.ParameterType.{ParameterType}
use Rattle.syntax.specs.declared.declared_type.ParameterType.TheVariants.{Jint as IntParameter, Reference as ReferenceParameter}
use Rattle.syntax.specs.declared.declared_type.VariableType.{VariableType}
use Rattle.syntax.specs.declared.declared_type.VariableType.TheVariants.{Uint32 as UInt32, Jint as JIntVariable, Jsize as JSize, Jboolean as JBoolean, JfieldId as JFieldId, JmethodId as JMethodId, Reference as ReferenceVariable}
use Rattle.syntax.specs.declared.declared_type.StaticType.{StaticType}
use Rattle.syntax.specs.declared.declared_type.StaticType.TheVariants.{Reference as ReferenceStatic, Weak as WeakStatic}
use Rattle.syntax.specs.declared.unit.ResultType.{ResultType}
use Rattle.syntax.specs.declared.unit.ResultType.TheVariants.{Void, Jint as IntResult, Reference as ReferenceResult}
use Rattle.syntax.specs.declared.expr.Constant.{Constant}
use Rattle.syntax.specs.declared.expr.Constant.TheVariants.{True, False, Commit, Abort, Null}
use Rattle.scan.specs.declared.reserved.Word.{Word}
use Rattle.scan.specs.declared.reserved.Word.TheVariants as words
use Rattle.scan.proofs.Grammar.{chosen}
use Rattle.parse_lexemes.specs.declared.first.Fixed.TheVariants as fixed
use Rattle.parse_lexemes.specs.Meaning.{Meaning, Fixed', Name', Number', Text'}
use Rattle.parse_lexemes.specs.Lexemes.{Lexed, same_word, line_at}
use Rattle.parse_lexemes.specs.Spelling.{Spelled, OnLine, word, reference_word, constant_word, element_word, variable_word, static_word, result_word, parameter_word}
use Rattle.parse_lexemes.specs.Reading.{rest_of, constant_of_word, word_in, word_at, reference_of_word, static_of_word, result_of_word, element_of_word, parameter_of_word, variable_of_word, static_type_at, result_type_at, element_type_at, parameter_type_at, variable_type_at}
use Rattle.parse_lexemes.proofs.Singles.{Begins, word_is}

-- ---- constants

pub constant_again : (c : Constant) → constant_of_word (constant_word c) ≡ Some c
constant_again True = refl
constant_again False = refl
constant_again Commit = refl
constant_again Abort = refl
constant_again Null = refl

pub constant_is : (w : Word) (c : Constant) → constant_of_word w ≡ Some c → w ≡ constant_word c
constant_is words.JniTrue c e = let f : True ≡ c = cc in ap constant_word f
constant_is words.JniFalse c e = let f : False ≡ c = cc in ap constant_word f
constant_is words.JniCommit c e = let f : Commit ≡ c = cc in ap constant_word f
constant_is words.JniAbort c e = let f : Abort ≡ c = cc in ap constant_word f
constant_is words.Null c e = let f : Null ≡ c = cc in ap constant_word f
constant_is _ c e = absurd cc

-- ---- types

reference_is : (w : Word) (r : ReferenceType) → reference_of_word w ≡ Some r → w ≡ reference_word r
reference_is words.Jobject r e = let f : JObject ≡ r = cc in ap reference_word f
reference_is words.Jclass r e = let f : JClass ≡ r = cc in ap reference_word f
reference_is words.Jstring r e = let f : JString ≡ r = cc in ap reference_word f
reference_is words.Jarray r e = let f : JArray ≡ r = cc in ap reference_word f
reference_is words.Jthrowable r e = let f : JThrowable ≡ r = cc in ap reference_word f
reference_is words.JintArray r e = let f : JIntArray ≡ r = cc in ap reference_word f
reference_is words.JshortArray r e = let f : JShortArray ≡ r = cc in ap reference_word f
reference_is words.JbyteArray r e = let f : JByteArray ≡ r = cc in ap reference_word f
reference_is words.JcharArray r e = let f : JCharArray ≡ r = cc in ap reference_word f
reference_is words.JobjectArray r e = let f : JObjectArray ≡ r = cc in ap reference_word f
reference_is _ r e = absurd cc

element_again : (t : ElementType) → element_of_word (element_word t) ≡ Some t
element_again JInt = refl
element_again JShort = refl
element_again JByte = refl
element_again JChar = refl

element_is : (w : Word) (t : ElementType) → element_of_word w ≡ Some t → w ≡ element_word t
element_is words.Jint t e = let f : JInt ≡ t = cc in ap element_word f
element_is words.Jshort t e = let f : JShort ≡ t = cc in ap element_word f
element_is words.Jbyte t e = let f : JByte ≡ t = cc in ap element_word f
element_is words.Jchar t e = let f : JChar ≡ t = cc in ap element_word f
element_is _ t e = absurd cc

parameter_again : (t : ParameterType) → parameter_of_word (parameter_word t) ≡ Some t
parameter_again IntParameter = refl
parameter_again (ReferenceParameter JObject) = refl
parameter_again (ReferenceParameter JClass) = refl
parameter_again (ReferenceParameter JString) = refl
parameter_again (ReferenceParameter JArray) = refl
parameter_again (ReferenceParameter JThrowable) = refl
parameter_again (ReferenceParameter JIntArray) = refl
parameter_again (ReferenceParameter JShortArray) = refl
parameter_again (ReferenceParameter JByteArray) = refl
parameter_again (ReferenceParameter JCharArray) = refl
parameter_again (ReferenceParameter JObjectArray) = refl

static_again : (t : StaticType) → static_of_word (static_word t) ≡ Some t
static_again WeakStatic = refl
static_again (ReferenceStatic JObject) = refl
static_again (ReferenceStatic JClass) = refl
static_again (ReferenceStatic JString) = refl
static_again (ReferenceStatic JArray) = refl
static_again (ReferenceStatic JThrowable) = refl
static_again (ReferenceStatic JIntArray) = refl
static_again (ReferenceStatic JShortArray) = refl
static_again (ReferenceStatic JByteArray) = refl
static_again (ReferenceStatic JCharArray) = refl
static_again (ReferenceStatic JObjectArray) = refl

static_is : (w : Word) (t : StaticType) → static_of_word w ≡ Some t → w ≡ static_word t
static_is words.Jweak t e = let f : WeakStatic ≡ t = cc in ap static_word f
static_is words.Jobject t e = let f : ReferenceStatic JObject ≡ t = cc in ap static_word f
static_is words.Jclass t e = let f : ReferenceStatic JClass ≡ t = cc in ap static_word f
static_is words.Jstring t e = let f : ReferenceStatic JString ≡ t = cc in ap static_word f
static_is words.Jarray t e = let f : ReferenceStatic JArray ≡ t = cc in ap static_word f
static_is words.Jthrowable t e = let f : ReferenceStatic JThrowable ≡ t = cc in ap static_word f
static_is words.JintArray t e = let f : ReferenceStatic JIntArray ≡ t = cc in ap static_word f
static_is words.JshortArray t e = let f : ReferenceStatic JShortArray ≡ t = cc in ap static_word f
static_is words.JbyteArray t e = let f : ReferenceStatic JByteArray ≡ t = cc in ap static_word f
static_is words.JcharArray t e = let f : ReferenceStatic JCharArray ≡ t = cc in ap static_word f
static_is words.JobjectArray t e = let f : ReferenceStatic JObjectArray ≡ t = cc in ap static_word f
static_is _ t e = absurd cc

result_again : (t : ResultType) → result_of_word (result_word t) ≡ Some t
result_again Void = refl
result_again IntResult = refl
result_again (ReferenceResult JObject) = refl
result_again (ReferenceResult JClass) = refl
result_again (ReferenceResult JString) = refl
result_again (ReferenceResult JArray) = refl
result_again (ReferenceResult JThrowable) = refl
result_again (ReferenceResult JIntArray) = refl
result_again (ReferenceResult JShortArray) = refl
result_again (ReferenceResult JByteArray) = refl
result_again (ReferenceResult JCharArray) = refl
result_again (ReferenceResult JObjectArray) = refl

result_is : (w : Word) (t : ResultType) → result_of_word w ≡ Some t → w ≡ result_word t
result_is words.Void t e = let f : Void ≡ t = cc in ap result_word f
result_is words.Jint t e = let f : IntResult ≡ t = cc in ap result_word f
result_is words.Jobject t e = let f : ReferenceResult JObject ≡ t = cc in ap result_word f
result_is words.Jclass t e = let f : ReferenceResult JClass ≡ t = cc in ap result_word f
result_is words.Jstring t e = let f : ReferenceResult JString ≡ t = cc in ap result_word f
result_is words.Jarray t e = let f : ReferenceResult JArray ≡ t = cc in ap result_word f
result_is words.Jthrowable t e = let f : ReferenceResult JThrowable ≡ t = cc in ap result_word f
result_is words.JintArray t e = let f : ReferenceResult JIntArray ≡ t = cc in ap result_word f
result_is words.JshortArray t e = let f : ReferenceResult JShortArray ≡ t = cc in ap result_word f
result_is words.JbyteArray t e = let f : ReferenceResult JByteArray ≡ t = cc in ap result_word f
result_is words.JcharArray t e = let f : ReferenceResult JCharArray ≡ t = cc in ap result_word f
result_is words.JobjectArray t e = let f : ReferenceResult JObjectArray ≡ t = cc in ap result_word f
result_is _ t e = absurd cc

variable_is : (w : Word) (t : VariableType) → variable_of_word w ≡ Some t → w ≡ variable_word t
variable_is words.Uint32 t e = let f : UInt32 ≡ t = cc in ap variable_word f
variable_is words.Jsize t e = let f : JSize ≡ t = cc in ap variable_word f
variable_is words.Jboolean t e = let f : JBoolean ≡ t = cc in ap variable_word f
variable_is words.JfieldId t e = let f : JFieldId ≡ t = cc in ap variable_word f
variable_is words.JmethodId t e = let f : JMethodId ≡ t = cc in ap variable_word f
variable_is words.Jobject t e = let f : ReferenceVariable JObject ≡ t = cc in ap variable_word f
variable_is words.Jclass t e = let f : ReferenceVariable JClass ≡ t = cc in ap variable_word f
variable_is words.Jstring t e = let f : ReferenceVariable JString ≡ t = cc in ap variable_word f
variable_is words.Jarray t e = let f : ReferenceVariable JArray ≡ t = cc in ap variable_word f
variable_is words.Jthrowable t e = let f : ReferenceVariable JThrowable ≡ t = cc in ap variable_word f
variable_is words.JintArray t e = let f : ReferenceVariable JIntArray ≡ t = cc in ap variable_word f
variable_is words.JshortArray t e = let f : ReferenceVariable JShortArray ≡ t = cc in ap variable_word f
variable_is words.JbyteArray t e = let f : ReferenceVariable JByteArray ≡ t = cc in ap variable_word f
variable_is words.JcharArray t e = let f : ReferenceVariable JCharArray ≡ t = cc in ap variable_word f
variable_is words.JobjectArray t e = let f : ReferenceVariable JObjectArray ≡ t = cc in ap variable_word f
variable_is _ t e = absurd cc

reference_parameter : (w : Word) (t : ParameterType) (o : Option ReferenceType) → reference_of_word w ≡ o → option_map (λ r. ReferenceParameter r) o ≡ Some t → w ≡ parameter_word t
reference_parameter w t None o e = absurd cc
reference_parameter w t (Some r) o e = let f : ReferenceParameter r ≡ t = cc in reference_is w r o ∙ ap parameter_word f

parameter_is : (w : Word) (t : ParameterType) → parameter_of_word w ≡ Some t → w ≡ parameter_word t
parameter_is w t e =
    elim (chosen (same_word w words.Jint) _ _ (Some t) e) [
      | inl v ↦ let f : IntParameter ≡ t = let g = v.1 in cc in word_is w words.Jint v.0 ∙ ap parameter_word f
      | inr v ↦ reference_parameter w t (reference_of_word w) refl v.1
    ]

-- ---- the word that comes next

word_meaning : (m : Meaning) (w : Word) → word_in m ≡ Some w → m ≡ Fixed' (fixed.Word w)
word_meaning (Fixed' (fixed.Word v)) w e = let f : v ≡ w = cc in ap (λ (u : Word). Fixed' (fixed.Word u)) f
word_meaning (Fixed' (fixed.Mark m)) w e = absurd cc
word_meaning (Fixed' fixed.End) w e = absurd cc
word_meaning (Name' bytes) w e = absurd cc
word_meaning (Number' value unsigned) w e = absurd cc
word_meaning (Text' bytes) w e = absurd cc

flat_some : {A B : Type 0} (f : A → Option B) (o : Option A) (y : B) → option_flatten (option_map f o) ≡ Some y → (x : A) × (o ≡ Some x) × (f x ≡ Some y)
flat_some f None y e = absurd cc
flat_some f (Some x) y e = (x, refl, e)

word_takes : (w : Word) (ls : List Lexed) → word_at ls ≡ Some w → Begins (word w ∷ []) ls (rest_of ls)
word_takes w [] e = absurd cc
word_takes w (l ∷ ls) e = (word_meaning l.meaning w e, refl)

pub parameter_type_takes : (t : ParameterType) (ls : List Lexed) → parameter_type_at ls ≡ Some t → Begins (word (parameter_word t) ∷ []) ls (rest_of ls)
parameter_type_takes t ls e =
    let w = flat_some parameter_of_word (word_at ls) t e in
    word_takes (parameter_word t) ls (w.1 ∙ ap (λ (v : Word). Some v) (parameter_is w.0 t w.2))

pub parameter_type_again : (t : ParameterType) (es : List Spelled) (ls rest : List Lexed) → Begins (word (parameter_word t) ∷ es) ls rest → parameter_type_at ls ≡ Some t
parameter_type_again t es [] rest h = absurd h
parameter_type_again t es (l ∷ ls) rest h = rw h.0 (parameter_again t)

word_on : (w : Word) (es : List Spelled) (ls rest : List Lexed) → word_at ls ≡ Some w → Begins es (rest_of ls) rest → Begins (OnLine (line_at ls) (Fixed' (fixed.Word w)) ∷ es) ls rest
word_on w es [] rest e h = absurd cc
word_on w es (l ∷ ls) rest e h = ((word_meaning l.meaning w e, refl), h)

pub static_type_takes : (t : StaticType) (ls : List Lexed) → static_type_at ls ≡ Some t → Begins (word (static_word t) ∷ []) ls (rest_of ls)
static_type_takes t ls e =
    let w = flat_some static_of_word (word_at ls) t e in
    word_takes (static_word t) ls (w.1 ∙ ap (λ (v : Word). Some v) (static_is w.0 t w.2))

pub static_type_again : (t : StaticType) (es : List Spelled) (ls rest : List Lexed) → Begins (word (static_word t) ∷ es) ls rest → static_type_at ls ≡ Some t
static_type_again t es [] rest h = absurd h
static_type_again t es (l ∷ ls) rest h = rw h.0 (static_again t)

pub result_type_takes : (t : ResultType) (ls : List Lexed) → result_type_at ls ≡ Some t → Begins (word (result_word t) ∷ []) ls (rest_of ls)
result_type_takes t ls e =
    let w = flat_some result_of_word (word_at ls) t e in
    word_takes (result_word t) ls (w.1 ∙ ap (λ (v : Word). Some v) (result_is w.0 t w.2))

pub result_type_again : (t : ResultType) (es : List Spelled) (ls rest : List Lexed) → Begins (word (result_word t) ∷ es) ls rest → result_type_at ls ≡ Some t
result_type_again t es [] rest h = absurd h
result_type_again t es (l ∷ ls) rest h = rw h.0 (result_again t)

-- ---- the type that comes first in a line

pub element_type_takes : (t : ElementType) (es : List Spelled) (ls rest : List Lexed) → element_type_at ls ≡ Some t → Begins es (rest_of ls) rest → Begins (OnLine (line_at ls) (Fixed' (fixed.Word (element_word t))) ∷ es) ls rest
element_type_takes t es ls rest e h =
    let w = flat_some element_of_word (word_at ls) t e in
    word_on (element_word t) es ls rest (w.1 ∙ ap (λ (v : Word). Some v) (element_is w.0 t w.2)) h

pub variable_type_takes : (t : VariableType) (es : List Spelled) (ls rest : List Lexed) → variable_type_at ls ≡ Some t → Begins es (rest_of ls) rest → Begins (OnLine (line_at ls) (Fixed' (fixed.Word (variable_word t))) ∷ es) ls rest
variable_type_takes t es ls rest e h =
    let w = flat_some variable_of_word (word_at ls) t e in
    word_on (variable_word t) es ls rest (w.1 ∙ ap (λ (v : Word). Some v) (variable_is w.0 t w.2)) h

-- what the first lexeme of a line is the type of
abbrev pub element_in : Meaning → Option ElementType
element_in m = option_flatten (option_map element_of_word (word_in m))

abbrev pub variable_in : Meaning → Option VariableType
variable_in m = option_flatten (option_map variable_of_word (word_in m))

pub first_element : (line : ℕ) (m : Meaning) (es : List Spelled) (ls rest : List Lexed) → Begins (OnLine line m ∷ es) ls rest → element_type_at ls ≡ element_in m
first_element line m es [] rest h = absurd h
first_element line m es (l ∷ ls) rest h = ap element_in h.0.0

pub first_variable : (line : ℕ) (m : Meaning) (es : List Spelled) (ls rest : List Lexed) → Begins (OnLine line m ∷ es) ls rest → variable_type_at ls ≡ variable_in m
first_variable line m es [] rest h = absurd h
first_variable line m es (l ∷ ls) rest h = ap variable_in h.0.0

pub element_word_in : (t : ElementType) → element_in (Fixed' (fixed.Word (element_word t))) ≡ Some t
element_word_in t = element_again t

-- `jint` is read as an element's type, and no other variable's type is
pub variable_word_in : (t : VariableType) → (t ≡ JIntVariable) ⊎ ((element_in (Fixed' (fixed.Word (variable_word t))) ≡ None) × (variable_in (Fixed' (fixed.Word (variable_word t))) ≡ Some t))
variable_word_in UInt32 = inr (refl, refl)
variable_word_in JIntVariable = inl refl
variable_word_in JSize = inr (refl, refl)
variable_word_in JBoolean = inr (refl, refl)
variable_word_in JFieldId = inr (refl, refl)
variable_word_in JMethodId = inr (refl, refl)
variable_word_in (ReferenceVariable JObject) = inr (refl, refl)
variable_word_in (ReferenceVariable JClass) = inr (refl, refl)
variable_word_in (ReferenceVariable JString) = inr (refl, refl)
variable_word_in (ReferenceVariable JArray) = inr (refl, refl)
variable_word_in (ReferenceVariable JThrowable) = inr (refl, refl)
variable_word_in (ReferenceVariable JIntArray) = inr (refl, refl)
variable_word_in (ReferenceVariable JShortArray) = inr (refl, refl)
variable_word_in (ReferenceVariable JByteArray) = inr (refl, refl)
variable_word_in (ReferenceVariable JCharArray) = inr (refl, refl)
variable_word_in (ReferenceVariable JObjectArray) = inr (refl, refl)
