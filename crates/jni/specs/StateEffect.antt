-- What a function of the JNI does to buffers, references and frames.
use Rattle.jni.specs.declared.function.JniFunction.{JniFunction}
use Rattle.jni.specs.declared.function.JniFunction.TheVariants.{DeleteLocalRef, PopLocalFrame, GetBuffer, ReleaseBuffer}
use Rattle.jni.specs.declared.kinds.StateEffect.{StateEffect}
use Rattle.jni.specs.declared.kinds.StateEffect.TheVariants.{Gets, Releases, Deletes, Pops, Other}

-- what a function does
abbrev pub state_effect : JniFunction → StateEffect
state_effect (GetBuffer access) = Gets access
state_effect (ReleaseBuffer access) = Releases access
state_effect DeleteLocalRef = Deletes
state_effect PopLocalFrame = Pops
state_effect f = Other
