use Rattle.std.proofs.Common.{◌≡◌, ℕ, ℤ, ◌∙◌, rules, w32}
use Rattle.std.proofs.Math.Facts.{to_z-of_z}
use mir.Val.{SFits, to_z, of_z}
use Rattle.class_rules.specs.Class.{Classes}
use Rattle.semantics.specs.AnswerTable.{new_array}
use Rattle.semantics.specs.Object.{Reference, Refers}
use Rattle.replay_objects.specs.New.{array_class}
use Rattle.replay_calls.proofs.answer.new_object_array.Goals as goal

-- the same arguments make the same array
alike : (classes : Classes) (n m : ℕ) (r q : Reference) (z w : ℤ) → SFits w32 z → n ≡ m → r ≡ q → z ≡ w
    → new_array (array_class classes n) (to_z w32 (of_z w32 z)) (Refers r) ≡ new_array (array_class classes m) w (Refers q)
alike classes n m r q z w fits element reference count = rw (element, reference, to_z-of_z {w = w32} fits, count)

pub returns : goal.returns
returns c = λ cs. c.object_array.ensures cs ∙ alike cs _ _ _ _ _ _ (search rules) c.class_given-element.ensures c.reference_given-reference.ensures c.number_given-count.ensures
