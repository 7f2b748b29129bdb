-- Which statements ask for a method.
use Rattle.std.specs.Prelude.{Bool}
use Rattle.std.specs.Str.{bytes_eq}
use Rattle.base.specs.Options.{some_passes}
use Rattle.syntax.specs.Parts.{own_call}
use Rattle.syntax.specs.Tree.{Call, Stmt}
use Rattle.jni.specs.declared.function.JniFunction.TheVariants.{GetStaticMethodID}
use Rattle.jni.specs.JniFunction.{prototype}

-- a call of GetStaticMethodID
abbrev pub is_asking : Call → Bool
is_asking c = bytes_eq c.function (prototype GetStaticMethodID).name

-- a statement that makes such a call itself
abbrev pub asks_itself : Stmt → Bool
asks_itself s = some_passes is_asking (own_call s)
