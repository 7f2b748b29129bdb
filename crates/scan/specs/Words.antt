-- The reserved words: which bytes are which word.
use Rattle.std.specs.Prelude.{ℕ, Bool, ◌||◌, List, [], ◌∷◌, Option, Some, None, bytes_eq, codes, if◌then◌else◌}
use Rattle.std.specs.List.{list_any}
use Rattle.std.specs.Option.{option_or}
use Rattle.base.specs.Bytes.{ByName, lookup}
use Rattle.scan.specs.declared.reserved.Word.{Word}
use Rattle.scan.specs.declared.reserved.Word.TheVariants as words

-- the keywords of C99 that have a use (6.4.1)
abbrev pub keywords : ByName Word
keywords =
    (codes "static", words.Static) ∷ (codes "const", words.Const) ∷ (codes "void", words.Void)
    ∷ (codes "if", words.If) ∷ (codes "else", words.Else) ∷ (codes "while", words.While)
    ∷ (codes "return", words.Return) ∷ []

-- the names of the interface and of its types of numbers, and the output
abbrev pub interface_words : ByName Word
interface_words =
    (codes "JNIEXPORT", words.JniExport) ∷ (codes "JNICALL", words.JniCall) ∷ (codes "JNIEnv", words.JniEnv)
    ∷ (codes "env", words.Env) ∷ (codes "put_jint", words.PutJint) ∷ (codes "uint32_t", words.Uint32)
    ∷ (codes "jint", words.Jint) ∷ (codes "jsize", words.Jsize) ∷ (codes "jboolean", words.Jboolean)
    ∷ (codes "jshort", words.Jshort) ∷ (codes "jbyte", words.Jbyte) ∷ (codes "jchar", words.Jchar)
    ∷ (codes "jfieldID", words.JfieldId) ∷ (codes "jmethodID", words.JmethodId) ∷ []

-- the types of references (JNI Specification, chapter 3)
abbrev pub reference_words : ByName Word
reference_words =
    (codes "jobject", words.Jobject) ∷ (codes "jclass", words.Jclass) ∷ (codes "jstring", words.Jstring)
    ∷ (codes "jarray", words.Jarray) ∷ (codes "jthrowable", words.Jthrowable)
    ∷ (codes "jintArray", words.JintArray) ∷ (codes "jshortArray", words.JshortArray)
    ∷ (codes "jbyteArray", words.JbyteArray) ∷ (codes "jcharArray", words.JcharArray)
    ∷ (codes "jobjectArray", words.JobjectArray) ∷ (codes "jweak", words.Jweak) ∷ []

-- the named constants
abbrev pub constant_words : ByName Word
constant_words =
    (codes "JNI_TRUE", words.JniTrue) ∷ (codes "JNI_FALSE", words.JniFalse)
    ∷ (codes "JNI_COMMIT", words.JniCommit) ∷ (codes "JNI_ABORT", words.JniAbort)
    ∷ (codes "NULL", words.Null) ∷ []

-- the other keywords of C99, which have no use: those of types
abbrev pub unused_types : List (List ℕ)
unused_types =
    codes "char" ∷ codes "double" ∷ codes "enum" ∷ codes "float" ∷ codes "int" ∷ codes "long" ∷ codes "short"
    ∷ codes "signed" ∷ codes "struct" ∷ codes "union" ∷ codes "unsigned" ∷ codes "_Bool" ∷ codes "_Complex"
    ∷ codes "_Imaginary" ∷ []

-- those of declarations
abbrev pub unused_declarations : List (List ℕ)
unused_declarations =
    codes "auto" ∷ codes "extern" ∷ codes "inline" ∷ codes "register" ∷ codes "restrict" ∷ codes "typedef"
    ∷ codes "volatile" ∷ []

-- and those of statements
abbrev pub unused_statements : List (List ℕ)
unused_statements =
    codes "break" ∷ codes "case" ∷ codes "continue" ∷ codes "default" ∷ codes "do" ∷ codes "for"
    ∷ codes "goto" ∷ codes "sizeof" ∷ codes "switch" ∷ []

-- whether the bytes are one of these words
abbrev pub is_one_of : List (List ℕ) → List ℕ → Bool
is_one_of words bytes = list_any (bytes_eq bytes) words

unfoldable pub keyword : List ℕ → Option Word
keyword bytes = lookup bytes keywords

unfoldable pub interface_word : List ℕ → Option Word
interface_word bytes = lookup bytes interface_words

unfoldable pub reference_word : List ℕ → Option Word
reference_word bytes = lookup bytes reference_words

unfoldable pub constant_word : List ℕ → Option Word
constant_word bytes = lookup bytes constant_words

unfoldable pub is_unused_type : List ℕ → Bool
is_unused_type bytes = is_one_of unused_types bytes

unfoldable pub is_unused_declaration : List ℕ → Bool
is_unused_declaration bytes = is_one_of unused_declarations bytes

unfoldable pub is_unused_statement : List ℕ → Bool
is_unused_statement bytes = is_one_of unused_statements bytes

-- a keyword of C99 that has no use
unfoldable pub unused_word : List ℕ → Option Word
unused_word bytes = if is_unused_type bytes || is_unused_declaration bytes || is_unused_statement bytes then Some words.Unused else None

-- the reserved word of these bytes, if they are one
unfoldable pub word_of : List ℕ → Option Word
word_of bytes = option_or (keyword bytes) (option_or (interface_word bytes)
    (option_or (reference_word bytes) (option_or (constant_word bytes) (unused_word bytes))))
