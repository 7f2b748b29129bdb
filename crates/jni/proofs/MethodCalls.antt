-- The functions that call a method.
use Rattle.std.proofs.Common.{◌≡◌, true, length, refl}
use Rattle.jni.specs.declared.function.JniFunction.{JniFunction}
use Rattle.jni.specs.declared.function.JniFunction.TheVariants.{CallStaticVoidMethod, CallStaticIntMethod, CallStaticObjectMethod}
use Rattle.jni.specs.JniFunction.{calls_method, prototype}

-- one has two parameters of its own
pub own_are_two : (f : JniFunction) → calls_method f ≡ true → length (prototype f).parameters ≡ 2
own_are_two CallStaticVoidMethod calls = refl
own_are_two CallStaticIntMethod calls = refl
own_are_two CallStaticObjectMethod calls = refl
own_are_two f calls = absurd (cc)
