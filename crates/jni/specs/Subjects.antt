-- what the functions of the JNI work on
use Rattle.jni.specs.declared.function.JniFunction.{JniFunction}
use Rattle.jni.specs.declared.function.JniFunction.TheVariants.{NewLocalRef, NewGlobalRef, NewWeakGlobalRef, DeleteLocalRef, DeleteGlobalRef, DeleteWeakGlobalRef, IsSameObject, EnsureLocalCapacity, PushLocalFrame, PopLocalFrame, GetField, SetField, GetStaticField, SetStaticField, GetObjectField, SetObjectField, GetStaticObjectField, SetStaticObjectField, GetArrayLength, NewArray, NewObjectArray, GetObjectArrayElement, SetObjectArrayElement, GetArrayRegion, SetArrayRegion, NewStringUTF, GetStringLength, GetStringRegion, GetBuffer, ReleaseBuffer, Throw, ThrowNew, ExceptionOccurred, ExceptionCheck, ExceptionClear, FatalError, MonitorEnter, MonitorExit}
use Rattle.jni.specs.declared.subject.Subject.{Subject}
use Rattle.jni.specs.declared.subject.Subject.TheVariants as subject

-- what a function works on
abbrev pub subject_of : JniFunction → Subject
subject_of NewLocalRef = subject.References
subject_of NewGlobalRef = subject.References
subject_of NewWeakGlobalRef = subject.References
subject_of DeleteLocalRef = subject.References
subject_of DeleteGlobalRef = subject.References
subject_of DeleteWeakGlobalRef = subject.References
subject_of IsSameObject = subject.References
subject_of EnsureLocalCapacity = subject.References
subject_of PushLocalFrame = subject.References
subject_of PopLocalFrame = subject.References
subject_of (GetField T) = subject.Fields
subject_of (SetField T) = subject.Fields
subject_of GetObjectField = subject.Fields
subject_of SetObjectField = subject.Fields
subject_of (GetStaticField T) = subject.Statics
subject_of (SetStaticField T) = subject.Statics
subject_of GetStaticObjectField = subject.Statics
subject_of SetStaticObjectField = subject.Statics
subject_of GetArrayLength = subject.Arrays
subject_of (NewArray T) = subject.Arrays
subject_of NewObjectArray = subject.Arrays
subject_of GetObjectArrayElement = subject.Arrays
subject_of SetObjectArrayElement = subject.Arrays
subject_of NewStringUTF = subject.Arrays
subject_of GetStringLength = subject.Arrays
subject_of (GetArrayRegion T) = subject.Regions
subject_of (SetArrayRegion T) = subject.Regions
subject_of GetStringRegion = subject.Regions
subject_of (GetBuffer access) = subject.Buffers
subject_of (ReleaseBuffer access) = subject.Buffers
subject_of Throw = subject.Exceptions
subject_of ThrowNew = subject.Exceptions
subject_of ExceptionOccurred = subject.Exceptions
subject_of ExceptionCheck = subject.Exceptions
subject_of ExceptionClear = subject.Exceptions
subject_of FatalError = subject.Exceptions
subject_of MonitorEnter = subject.Monitors
subject_of MonitorExit = subject.Monitors
subject_of f = subject.Classes
