use Rattle.std.proofs.Common.{refl, sym, ap, ◌∙◌, Some}
use Rattle.jni.proofs.Places.{first_placed, placed}
use Rattle.jni.proofs.function.JniFunction.number.Goals as goal

pub returns-in-GetField : goal.returns-in-GetField
returns-in-GetField c =
    first_placed c.typed_number.result 9 _ _ c.typed_number.ensures refl
    ∙ ap (λ f. Some f) (sym c.in-GetField.is)

pub returns-in-SetField : goal.returns-in-SetField
returns-in-SetField c =
    placed c.typed_number-in-SetField.result 9 1 _ _ c.typed_number-in-SetField.ensures refl
    ∙ ap (λ f. Some f) (sym c.in-SetField.is)

pub returns-in-GetStaticField : goal.returns-in-GetStaticField
returns-in-GetStaticField c =
    placed c.typed_number-in-GetStaticField.result 9 2 _ _ c.typed_number-in-GetStaticField.ensures refl
    ∙ ap (λ f. Some f) (sym c.in-GetStaticField.is)

pub returns-in-SetStaticField : goal.returns-in-SetStaticField
returns-in-SetStaticField c =
    placed c.typed_number-in-SetStaticField.result 9 3 _ _ c.typed_number-in-SetStaticField.ensures refl
    ∙ ap (λ f. Some f) (sym c.in-SetStaticField.is)

pub returns-in-NewArray : goal.returns-in-NewArray
returns-in-NewArray c =
    placed c.typed_number-in-NewArray.result 9 4 _ _ c.typed_number-in-NewArray.ensures refl
    ∙ ap (λ f. Some f) (sym c.in-NewArray.is)

pub returns-in-GetArrayRegion : goal.returns-in-GetArrayRegion
returns-in-GetArrayRegion c =
    placed c.typed_number-in-GetArrayRegion.result 9 5 _ _ c.typed_number-in-GetArrayRegion.ensures refl
    ∙ ap (λ f. Some f) (sym c.in-GetArrayRegion.is)

pub returns-in-SetArrayRegion : goal.returns-in-SetArrayRegion
returns-in-SetArrayRegion c =
    placed c.typed_number-in-SetArrayRegion.result 9 6 _ _ c.typed_number-in-SetArrayRegion.ensures refl
    ∙ ap (λ f. Some f) (sym c.in-SetArrayRegion.is)

pub returns-in-GetBuffer : goal.returns-in-GetBuffer
returns-in-GetBuffer c =
    first_placed c.buffer_number.result 2 _ _ c.buffer_number.ensures refl
    ∙ ap (λ f. Some f) (sym c.in-GetBuffer.is)

pub returns-in-ReleaseBuffer : goal.returns-in-ReleaseBuffer
returns-in-ReleaseBuffer c =
    placed c.buffer_number-in-ReleaseBuffer.result 2 1 _ _ c.buffer_number-in-ReleaseBuffer.ensures refl
    ∙ ap (λ f. Some f) (sym c.in-ReleaseBuffer.is)
