-- Which answers a function can give, by what its calls may change and by its kind of result, and what is known of them once the checks of the
-- call have passed: with this table a law goes by the answers, and names no function.
use Rattle.std.specs.Prelude.{◌≡◌, ◌⊎◌, ◌&&◌, ℕ, ◌+◌, ◌≤◌, ◌==◌, ℤ, pos, negsuc, Bool, true, false, nat_le, nat_lt, if◌then◌else◌, List, [], ◌∷◌, length, replicate, Option, Some, None, refl}
use Rattle.std.proofs.Common.{ap, inl, inr, ◌∙◌, subst}
use Rattle.std.proofs.lemmas.Bool.{and_parts, cond_both, leb-true, not-true}
use Rattle.base.specs.declared.element.ElementType.{ElementType}
use Rattle.base.specs.declared.element.ElementType.TheVariants.{Char as JChar}
use Rattle.base.specs.Limits.{most_monitor_entries}
use Rattle.syntax.specs.Tree.{SourceUnit}
use Rattle.class_rules.specs.BuiltIns.{array_index_out_of_bounds, string_index_out_of_bounds, throwable_class}
use Rattle.class_rules.specs.Class.{Classes, assignable, class_kind, is_plain}
use Rattle.class_rules.specs.Fields.{FieldId, layout}
use Rattle.jni.specs.declared.access.Access.{Access}
use Rattle.jni.specs.declared.access.Access.TheVariants.{ElementsCopy, ArrayView, CharsCopy, CharsView}
use Rattle.jni.specs.Access.{is_critical}
use Rattle.jni.specs.declared.function.JniFunction.TheVariants as functions
use Rattle.jni.specs.declared.function.JniFunction.{JniFunction}
use Rattle.jni.specs.JniFunction.{calls_method, parameters_for, prototype}
use Rattle.jni.specs.declared.kinds.ParameterKind.{ParameterKind}
use Rattle.jni.specs.declared.kinds.ParameterKind.TheVariants.{ClassObject, FieldID, IntNumber, TextBytes, ArrayVariable, NumberArray, StringObject}
use Rattle.jni.specs.declared.kinds.ResultKind.{ResultKind}
use Rattle.jni.specs.declared.kinds.ResultKind.TheVariants.{NewLocal, NewGlobal, GivesInt, GivesField, GivesMethod, GivesNothing, GivesBuffer}
use Rattle.semantics.specs.Answer.{Answer, Calls, Copies, CopiesBack, DeletesGlobal, DeletesLocal, DeletesWeak, Disowns, Ensures, Frees, GetsRegion, Gives, Halts, Makes, MakesGlobal, Owns, Pends, Pops, Pushes, Raises, RaisesWith, RefusesFrames, Region, SetsRegion, Views, Writes}
use Rattle.semantics.specs.AnswerTable.{call_answer, element_given, element_set, ensured, found_class, found_field, found_method, fits, global_deleted, local_deleted, method_called, monitor_entered, monitor_left, new_array, pushed, region, region_with, region_within, released, weak_deleted}
use Rattle.semantics.specs.CallSight.{CallSight, name_of_first, name_of_second, sight_of_call}
use Rattle.semantics.specs.Checks.{go_together, has_field, has_static}
use Rattle.jni.specs.declared.mode.ReleaseMode.{ReleaseMode}
use Rattle.jni.specs.declared.mode.ReleaseMode.TheVariants.{CopyBackAndFree, CopyBack, FreeUncopied}
use Rattle.semantics.specs.Arguments.{Actual}
use Rattle.semantics.specs.CallEffects.{CallResult, NoResult}
use Rattle.semantics.specs.Heap.{place_in, static_place}
use Rattle.semantics.specs.Method.{MethodId, find_method}
use Rattle.semantics.specs.Object.{Object, ObjectValue, Reference, Refers}
use Rattle.semantics.specs.Thread.{Monitor, Shared, Thread}
use Rattle.semantics.specs.declared.trap.Trap.{Trap}
use Rattle.semantics.specs.Variable.{StaticReference, Empty, Live, Weakly, Cleared, Deleted, Statics}
use Rattle.semantics.specs.WeakArguments.{takes_weak}
use Rattle.semantics.proofs.AnswerFacts.{AsField, AsNumber, AsReference, AsStatic, FitsField, IsFound, IsMade, IsOfKind, IsRaised, IsRegion, IsWrite, NoClass, NoElement, NoField, NoMethod, NoOwner, NoSize, NoStore, NoUnit, OfArray, OfClass, OfField, OfFlag, OfInt, OfMethod, OfNothing, OfNumbers, OfReference, OfReferences, OfString, OfText, OfWeak, Takes, TakesNumbers, frees_in, ToElement, ToField, ToStatic}

-- what the calls of a function may change of variables, statics and frames; quiet ones change none of them, end no reference and give no buffer
pub data CallKind : Type 0 where
  Quiet EndsLocal EndsStatic PushesFrame PopsFrame FillsArray CallsMethod : CallKind
  GetsBuffer ReleasesBuffer : Access → CallKind

-- the kind of a function
abbrev pub call_kind : JniFunction → CallKind
call_kind functions.DeleteLocalRef = EndsLocal
call_kind functions.DeleteGlobalRef = EndsStatic
call_kind functions.DeleteWeakGlobalRef = EndsStatic
call_kind functions.PushLocalFrame = PushesFrame
call_kind functions.PopLocalFrame = PopsFrame
call_kind (functions.GetArrayRegion T) = FillsArray
call_kind functions.GetStringRegion = FillsArray
call_kind (functions.GetBuffer access) = GetsBuffer access
call_kind (functions.ReleaseBuffer access) = ReleasesBuffer access
call_kind functions.CallStaticVoidMethod = CallsMethod
call_kind functions.CallStaticIntMethod = CallsMethod
call_kind functions.CallStaticObjectMethod = CallsMethod
call_kind f = Quiet

-- the arguments of the call go together
abbrev pub IsChecked : Classes → CallSight → JniFunction → Type 0
IsChecked classes sight f = (element : ElementType) × (go_together classes sight element f ≡ true)

-- the answers of functions of a kind, by what they give; any call may stop the run
pub data AnswersAs (unit : SourceUnit) (classes : Classes) (sight : CallSight) (f : JniFunction) : CallKind → ResultKind → Answer → Type 0 where
  Giving : {result : ResultKind} {given : CallResult} → IsOfKind unit classes result given → AnswersAs unit classes sight f Quiet result (Gives given)
  Pending : {result : ResultKind} {given : CallResult} (r : Reference) → IsOfKind unit classes result given
      → AnswersAs unit classes sight f Quiet result (Pends r given)
  Raising : {result : ResultKind} (class : ℕ) → IsRaised f class → AnswersAs unit classes sight f Quiet result (Raises class)
  RaisingWith : Takes f 0 ClassObject → Takes f 1 TextBytes → (IsChecked classes sight f → assignable classes (name_of_first sight) throwable_class ≡ true)
      → AnswersAs unit classes sight f Quiet GivesInt (RaisesWith (name_of_first sight) sight.second.text)
  Writing : (n i : ℕ) (v : ObjectValue) → (IsChecked classes sight f → IsWrite classes sight f n i v)
      → AnswersAs unit classes sight f Quiet GivesNothing (Writes n i v)
  SettingRegion : (r : Region) → IsRegion classes sight f r → AnswersAs unit classes sight f Quiet GivesNothing (SetsRegion r)
  Making : (o : Object) → (IsChecked classes sight f → IsMade classes sight f o) → AnswersAs unit classes sight f Quiet NewLocal (Makes o)
  MakingGlobal : (r : Reference) → AnswersAs unit classes sight f Quiet NewGlobal (MakesGlobal r)
  Ensuring : (n : ℕ) → AnswersAs unit classes sight f Quiet GivesInt (Ensures n)
  EnsuringNone : AnswersAs unit classes sight f Quiet GivesInt RefusesFrames
  Owning : (n count : ℕ) → AnswersAs unit classes sight f Quiet GivesInt (Owns n count)
  Disowning : (n : ℕ) → AnswersAs unit classes sight f Quiet GivesInt (Disowns n)
  EndingNoLocal : sight.first.reference ≡ None → AnswersAs unit classes sight f EndsLocal GivesNothing (Gives NoResult)
  EndingLocal : (n : ℕ) → sight.first.reference ≡ Some n → AnswersAs unit classes sight f EndsLocal GivesNothing (DeletesLocal 0 n)
  EndingNoStatic : AnswersAs unit classes sight f EndsStatic GivesNothing (Gives NoResult)
  EndingGlobal : (n : ℕ) → AnswersAs unit classes sight f EndsStatic GivesNothing (DeletesGlobal 0 n)
  EndingWeak : AnswersAs unit classes sight f EndsStatic GivesNothing (DeletesWeak 0)
  Pushing : (n : ℕ) → AnswersAs unit classes sight f PushesFrame GivesInt (Pushes n)
  PushingNone : AnswersAs unit classes sight f PushesFrame GivesInt RefusesFrames
  Popping : (r : Reference) → AnswersAs unit classes sight f PopsFrame NewLocal (Pops r)
  Filling : (r : Region) → IsRegion classes sight f r → AnswersAs unit classes sight f FillsArray GivesNothing (GetsRegion r)
  FillingNone : (class : ℕ) → IsRaised f class → AnswersAs unit classes sight f FillsArray GivesNothing (Raises class)
  Copying : {access : Access} → f ≡ functions.GetBuffer access → is_critical access ≡ false
      → AnswersAs unit classes sight f (GetsBuffer access) (GivesBuffer access) (Copies (name_of_first sight))
  Viewing : {access : Access} → f ≡ functions.GetBuffer access → is_critical access ≡ true
      → AnswersAs unit classes sight f (GetsBuffer access) (GivesBuffer access) (Views (name_of_first sight))
  CopyingBack : (T : ElementType) (frees : Bool) → f ≡ functions.ReleaseBuffer (ElementsCopy T) → frees_in sight.third.mode ≡ frees
      → AnswersAs unit classes sight f (ReleasesBuffer (ElementsCopy T)) GivesNothing (CopiesBack (name_of_first sight) 1 frees)
  Freeing : {access : Access} → ((T : ElementType) → access ≡ ElementsCopy T → frees_in sight.third.mode ≡ true)
      → AnswersAs unit classes sight f (ReleasesBuffer access) GivesNothing (Frees 1)
  Calling : {result : ResultKind} (m : MethodId) → sight.second.method ≡ Some m → AnswersAs unit classes sight f CallsMethod result (Calls m)
  Halting : {kind : CallKind} {result : ResultKind} (trap : Trap) → AnswersAs unit classes sight f kind result (Halts trap)

-- what lies within
region_is : (n count : ℕ) (start length : ℤ) (r : Region) → region_within n count start length ≡ Some r → (r.object ≡ n) × (r.start + r.count ≤ count)
region_is n count (pos i) (pos j) r is = by_test (nat_le (i + j) count) refl is
  where
    by_test : (b : Bool) → nat_le (i + j) count ≡ b → (if b then Some (record { object = n; start = i; count = j }) else None) ≡ Some r
        → (r.object ≡ n) × (r.start + r.count ≤ count)
    by_test true fits found =
        let same : record { object = n; start = i; count = j } ≡ r = cc in
        subst (λ (r : Region). (r.object ≡ n) × (r.start + r.count ≤ count)) same (refl, leb-true (i + j) count fits)
    by_test false fits found = absurd (cc)
region_is n count (pos i) (negsuc j) r is = absurd (cc)
region_is n count (negsuc i) z r is = absurd (cc)

module _ (unit : SourceUnit) (classes : Classes) (sight : CallSight) (f : JniFunction) where
  -- what a function answers, by its kind
  abbrev As : CallKind → ResultKind → Answer → Type 0
  As kind result a = AnswersAs unit classes sight f kind result a

  -- ---- what is looked up or made

  class_as : (o : Option ℕ) → As Quiet NewLocal (found_class o)
  class_as None = Raising _ NoClass
  class_as (Some c) = Giving (OfReference _)

  field_as : (o : Option FieldId) → ((x : FieldId) → o ≡ Some x → IsFound classes x) → As Quiet GivesField (found_field o)
  field_as None h = Raising _ NoField
  field_as (Some x) h = Giving (OfField x (h x refl))

  method_as : f ≡ functions.GetStaticMethodID → (class : ℕ) (name text : List ℕ) (o : Option MethodId) → find_method unit classes class name text ≡ o
      → As Quiet GivesMethod (found_method o)
  method_as of class name text None is = Raising _ (NoMethod of)
  method_as of class name text (Some m) is = Giving (OfMethod m class name text is)

  called_as : (result : ResultKind) (o : Option MethodId) → sight.second.method ≡ o → As CallsMethod result (method_called o)
  called_as result None is = Halting _
  called_as result (Some m) is = Calling m is

  array_as : (class : ℕ) (z : ℤ) (v : ObjectValue)
      → ((n : ℕ) → IsChecked classes sight f → IsMade classes sight f (record { class = class; values = replicate n v }))
      → As Quiet NewLocal (new_array class z v)
  array_as class (pos n) v made = Making _ (made n)
  array_as class (negsuc n) v made = Raising _ NoSize

  -- ---- references and frames

  local_as : (r : Reference) → sight.first.reference ≡ r → As EndsLocal GivesNothing (local_deleted r)
  local_as None is = EndingNoLocal is
  local_as (Some n) is = EndingLocal n is

  global_as : (r : Option StaticReference) → As EndsStatic GivesNothing (global_deleted r)
  global_as None = EndingNoStatic
  global_as (Some Empty) = EndingNoStatic
  global_as (Some (Live n)) = EndingGlobal n
  global_as (Some (Weakly n)) = EndingNoStatic
  global_as (Some Cleared) = EndingNoStatic
  global_as (Some Deleted) = EndingNoStatic

  weak_as : (r : Option StaticReference) → As EndsStatic GivesNothing (weak_deleted r)
  weak_as None = EndingNoStatic
  weak_as (Some Empty) = EndingNoStatic
  weak_as (Some (Live n)) = EndingNoStatic
  weak_as (Some (Weakly n)) = EndingWeak
  weak_as (Some Cleared) = EndingWeak
  weak_as (Some Deleted) = EndingNoStatic

  ensured_as : (z : ℤ) → As Quiet GivesInt (ensured z)
  ensured_as (pos n) = Ensuring n
  ensured_as (negsuc n) = EnsuringNone

  pushed_as : (z : ℤ) → As PushesFrame GivesInt (pushed z)
  pushed_as (pos n) = Pushing n
  pushed_as (negsuc n) = PushingNone

  -- ---- elements, buffers and monitors

  element_as : (values : List ObjectValue) (o : Option ℕ) → As Quiet NewLocal (element_given values o)
  element_as values None = Raising _ NoElement
  element_as values (Some i) = Giving (OfReference _)

  set_as : (fits : Bool) (n : ℕ) (r : Reference) (o : Option ℕ) → (fits ≡ true → (i : ℕ) → IsWrite classes sight f n i (Refers r))
      → As Quiet GivesNothing (element_set fits n r o)
  set_as fits n r None write = Raising _ NoElement
  set_as true n r (Some i) write = Writing n i _ (λ checked. write refl i)
  set_as false n r (Some i) write = Raising _ NoStore

  region_as : (kind : CallKind) (go : Region → Answer) (exception n count : ℕ) (start length : ℤ)
      → ((r : Region) → r.object ≡ n → r.start + r.count ≤ count → r.count ≤ sight.elements → As kind GivesNothing (go r))
      → As kind GivesNothing (Raises exception) → As kind GivesNothing (region_with go exception sight.elements (region_within n count start length))
  region_as kind go exception n count start length there past = by_region (region_within n count start length) refl
    where
      by_region : (o : Option Region) → region_within n count start length ≡ o → As kind GivesNothing (region_with go exception sight.elements o)
      by_region None is = past
      by_region (Some r) is =
          let within = region_is n count start length r is in
          cond_both (nat_le r.count sight.elements) _ _ (As kind GivesNothing)
          (λ e. there r within.0 within.1 (leb-true r.count sight.elements e)) (λ e. Halting _)

  released_as : (T : ElementType) → f ≡ functions.ReleaseBuffer (ElementsCopy T) → (mode : ReleaseMode) → sight.third.mode ≡ mode
      → As (ReleasesBuffer (ElementsCopy T)) GivesNothing (released (name_of_first sight) mode)
  released_as T of CopyBackAndFree is = CopyingBack T true of (ap frees_in is)
  released_as T of CopyBack is = CopyingBack T false of (ap frees_in is)
  released_as T of FreeUncopied is = Freeing (λ U same. ap frees_in is)

  -- a release without a mode
  freed_as : (access : Access) → ((T : ElementType) → access ≡ ElementsCopy T → ⊥) → As (ReleasesBuffer access) GivesNothing (Frees 1)
  freed_as access differs = Freeing (λ T is. absurd (differs T is))

  entered_as : (n : ℕ) (o : Option Monitor) → As Quiet GivesInt (monitor_entered n o)
  entered_as n None = Owning n 1
  entered_as n (Some m) = cond_both (nat_lt m.count most_monitor_entries) _ _ (As Quiet GivesInt) (λ e. Owning n _) (λ e. Giving (OfInt _))

  left_as : (k n : ℕ) (o : Option Monitor) → As Quiet GivesInt (monitor_left k n o)
  left_as k n None = Raising _ NoOwner
  left_as k n (Some m) =
      cond_both (m.owner == k) _ _ (As Quiet GivesInt)
      (λ e. cond_both (m.count == 1) _ _ (As Quiet GivesInt) (λ e. Disowning n) (λ e. Owning n _))
      (λ e. Raising _ NoOwner)

-- ---- all functions

module _ (unit : SourceUnit) (classes : Classes) (k : ℕ) (sight : CallSight) where
  -- a value goes to a field that the first argument has, or to a static
  to_field : (f : JniFunction) → Takes f 1 FieldID → (v : ObjectValue) (fits : Bool) → (fits ≡ true → FitsField classes sight v)
      → (has_field classes sight && fits) ≡ true
      → IsWrite classes sight f (name_of_first sight) (place_in sight.second.field (layout classes sight.first.object.class)) v
  to_field f takes v fits shown is = let both = and_parts (has_field classes sight) fits is in ToField v takes both.0 (shown both.1)

  to_static : (f : JniFunction) → Takes f 1 FieldID → (v : ObjectValue) (fits : Bool) → (fits ≡ true → FitsField classes sight v)
      → (has_static classes sight && fits) ≡ true → IsWrite classes sight f sight.second.field.class (static_place classes sight.second.field) v
  to_static f takes v fits shown is = let both = and_parts (has_static classes sight) fits is in ToStatic v takes both.0 (shown both.1)

  -- the region that the arguments tell
  regions : (f : JniFunction) (kind : CallKind) (go : Region → Answer) (exception : ℕ) (T : ElementType) → TakesNumbers f T → Takes f 3 (ArrayVariable T)
      → ((r : Region) → IsRegion classes sight f r → AnswersAs unit classes sight f kind GivesNothing (go r))
      → AnswersAs unit classes sight f kind GivesNothing (Raises exception)
      → AnswersAs unit classes sight f kind GivesNothing (region_with go exception sight.elements (region unit classes k sight))
  regions f kind go exception T numbers array there past =
      region_as unit classes sight f kind go exception (name_of_first sight) (length sight.first.object.values) sight.second.number sight.third.number
      (λ r object within few. there r (record { object = object; within = within; few = few; element = T; numbers = numbers; array = array })) past

  pub answers_as : (f : JniFunction) → AnswersAs unit classes sight f (call_kind f) (prototype f).result (call_answer unit classes k sight f)
  unfolding call_answer go_together
  answers_as functions.FindClass = class_as unit classes sight functions.FindClass _
  answers_as functions.GetSuperclass = Giving (OfReference _)
  answers_as functions.GetObjectClass = Giving (OfReference _)
  answers_as functions.IsInstanceOf = Giving (OfFlag _)
  answers_as functions.IsAssignableFrom = Giving (OfFlag _)
  answers_as functions.AllocObject = Making _ (λ checked. OfClass (λ n. refl) (not-true _ checked.1))
  answers_as functions.NewLocalRef = Giving (OfReference _)
  answers_as functions.NewGlobalRef = MakingGlobal _
  answers_as functions.NewWeakGlobalRef = Giving (OfWeak _)
  answers_as functions.DeleteLocalRef = local_as unit classes sight functions.DeleteLocalRef sight.first.reference refl
  answers_as functions.DeleteGlobalRef = global_as unit classes sight functions.DeleteGlobalRef sight.held
  answers_as functions.DeleteWeakGlobalRef = weak_as unit classes sight functions.DeleteWeakGlobalRef sight.held
  answers_as functions.IsSameObject = Giving (OfFlag _)
  answers_as functions.EnsureLocalCapacity = ensured_as unit classes sight functions.EnsureLocalCapacity sight.first.number
  answers_as functions.PushLocalFrame = pushed_as unit classes sight functions.PushLocalFrame sight.first.number
  answers_as functions.PopLocalFrame = Popping _
  answers_as functions.GetFieldID =
      field_as unit classes sight functions.GetFieldID _
      (λ f is. AsField (name_of_first sight) sight.second.text sight.third.text is)
  answers_as functions.GetStaticFieldID =
      field_as unit classes sight functions.GetStaticFieldID _
      (λ f is. AsStatic (name_of_first sight) sight.second.text sight.third.text is)
  answers_as (functions.SetField T) = Writing _ _ _ (λ checked. to_field (functions.SetField T) (λ n. refl) _ _ (λ fits. AsNumber T _ fits) checked.1)
  answers_as functions.GetObjectField = Giving (OfReference _)
  answers_as functions.SetObjectField = Writing _ _ _ (λ checked. to_field functions.SetObjectField (λ n. refl) _ _ (λ fits. AsReference fits) checked.1)
  answers_as (functions.SetStaticField T) = Writing _ _ _ (λ checked. to_static (functions.SetStaticField T) (λ n. refl) _ _ (λ fits. AsNumber T _ fits) checked.1)
  answers_as functions.GetStaticObjectField = Giving (OfReference _)
  answers_as functions.SetStaticObjectField = Writing _ _ _ (λ checked. to_static functions.SetStaticObjectField (λ n. refl) _ _ (λ fits. AsReference fits) checked.1)
  answers_as (functions.NewArray T) = array_as unit classes sight (functions.NewArray T) _ sight.first.number _ (λ n checked. OfNumbers T n)
  answers_as functions.NewObjectArray =
      array_as unit classes sight functions.NewObjectArray _ sight.first.number _ (λ n checked.
      let both = and_parts (is_plain (class_kind classes (name_of_second sight))) (fits classes sight.third (name_of_second sight)) checked.1 in
      OfReferences n (λ n. refl) both.0 both.1)
  answers_as functions.GetObjectArrayElement = element_as unit classes sight functions.GetObjectArrayElement _ _
  answers_as functions.SetObjectArrayElement = set_as unit classes sight functions.SetObjectArrayElement _ _ _ _ (λ fits i. ToElement i (λ n. refl) fits)
  answers_as (functions.GetArrayRegion T) =
      regions (functions.GetArrayRegion T) FillsArray GetsRegion array_index_out_of_bounds T (OfArray T (λ n. refl)) (λ n. refl) Filling (FillingNone _ NoElement)
  answers_as (functions.SetArrayRegion T) =
      regions (functions.SetArrayRegion T) Quiet SetsRegion array_index_out_of_bounds T (OfArray T (λ n. refl)) (λ n. refl) SettingRegion (Raising _ NoElement)
  answers_as functions.GetStringRegion =
      regions functions.GetStringRegion FillsArray GetsRegion string_index_out_of_bounds JChar (OfString (λ n. refl)) (λ n. refl) Filling (FillingNone _ NoUnit)
  answers_as (functions.GetBuffer (ElementsCopy T)) = Copying refl refl
  answers_as (functions.GetBuffer ArrayView) = Viewing refl refl
  answers_as (functions.GetBuffer CharsCopy) = Copying refl refl
  answers_as (functions.GetBuffer CharsView) = Viewing refl refl
  answers_as (functions.ReleaseBuffer (ElementsCopy T)) = released_as unit classes sight (functions.ReleaseBuffer (ElementsCopy T)) T refl sight.third.mode refl
  answers_as (functions.ReleaseBuffer ArrayView) = freed_as unit classes sight (functions.ReleaseBuffer ArrayView) ArrayView (λ T is. cc)
  answers_as (functions.ReleaseBuffer CharsCopy) = freed_as unit classes sight (functions.ReleaseBuffer CharsCopy) CharsCopy (λ T is. cc)
  answers_as (functions.ReleaseBuffer CharsView) = freed_as unit classes sight (functions.ReleaseBuffer CharsView) CharsView (λ T is. cc)
  answers_as functions.NewStringUTF = Making _ (λ checked. OfText (λ n. refl))
  answers_as functions.Throw = Pending _ (OfInt _)
  answers_as functions.ThrowNew = RaisingWith (λ n. refl) (λ n. refl) (λ checked. checked.1)
  answers_as functions.ExceptionOccurred = Giving (OfReference _)
  answers_as functions.ExceptionCheck = Giving (OfFlag _)
  answers_as functions.ExceptionClear = Pending None OfNothing
  answers_as functions.FatalError = Halting _
  answers_as functions.MonitorEnter = entered_as unit classes sight functions.MonitorEnter _ sight.monitor
  answers_as functions.MonitorExit = left_as unit classes sight functions.MonitorExit k _ sight.monitor
  answers_as functions.GetStaticMethodID = method_as unit classes sight functions.GetStaticMethodID refl (name_of_first sight) sight.second.text sight.third.text _ refl
  answers_as functions.CallStaticVoidMethod = called_as unit classes sight functions.CallStaticVoidMethod GivesNothing sight.second.method refl
  answers_as functions.CallStaticIntMethod = called_as unit classes sight functions.CallStaticIntMethod GivesInt sight.second.method refl
  answers_as functions.CallStaticObjectMethod = called_as unit classes sight functions.CallStaticObjectMethod NewLocal sight.second.method refl
  -- a number of a field or an array
  answers_as f = Giving (OfInt _)

-- the parameters of a function that fills a local array: its last one is the array
pub filled_last : (f : JniFunction) → call_kind f ≡ FillsArray
    → (owner : ParameterKind) × ((T : ElementType) × ((n : ℕ) → parameters_for f n ≡ owner ∷ IntNumber ∷ IntNumber ∷ ArrayVariable T ∷ []))
filled_last (functions.GetArrayRegion T) is = (NumberArray T, (T, λ n. refl))
filled_last functions.GetStringRegion is = (StringObject, (JChar, λ n. refl))
filled_last f is = absurd (cc)

-- ---- calls of methods

-- calls of such functions are of methods
abbrev is_of_method : CallKind → Bool
is_of_method CallsMethod = true
is_of_method kind = false

methods_are : (f : JniFunction) → is_of_method (call_kind f) ≡ calls_method f
methods_are functions.CallStaticVoidMethod = refl
methods_are functions.CallStaticIntMethod = refl
methods_are functions.CallStaticObjectMethod = refl
methods_are f = refl

one_kind : (kind : CallKind) → is_of_method kind ≡ true → kind ≡ CallsMethod
one_kind CallsMethod is = refl
one_kind kind is = absurd (cc)

-- no method is called
abbrev pub CallsNone : Answer → Type 0
CallsNone (Calls m) = ⊥
CallsNone a = Unit {0}

none_called : {unit : SourceUnit} {classes : Classes} {sight : CallSight} {f : JniFunction} {result : ResultKind} {a : Answer} (kind : CallKind)
    → is_of_method kind ≡ false → AnswersAs unit classes sight f kind result a → CallsNone a
none_called kind own (Calling m is) = absurd (cc)
none_called kind own h = tt

-- ---- what leaves the heap as it was

-- the heap stays, and no object is made
abbrev pub LeavesHeap : Answer → Type 0
LeavesHeap (Gives given) = Unit {0}
LeavesHeap (MakesGlobal r) = Unit {0}
LeavesHeap (DeletesGlobal i n) = Unit {0}
LeavesHeap (DeletesWeak i) = Unit {0}
LeavesHeap (Halts trap) = Unit {0}
LeavesHeap a = ⊥

static_leaves : {unit : SourceUnit} {classes : Classes} {sight : CallSight} {f : JniFunction} {result : ResultKind} {a : Answer}
    → AnswersAs unit classes sight f EndsStatic result a → LeavesHeap a
static_leaves EndingNoStatic = tt
static_leaves (EndingGlobal n) = tt
static_leaves EndingWeak = tt
static_leaves (Halting trap) = tt

module _ (unit : SourceUnit) (classes : Classes) (k : ℕ) where
  -- the answers of a function of this kind
  pub answers_of : (sight : CallSight) (f : JniFunction) (kind : CallKind) → call_kind f ≡ kind
      → AnswersAs unit classes sight f kind (prototype f).result (call_answer unit classes k sight f)
  answers_of sight f kind is =
      subst (λ (kind : CallKind). AnswersAs unit classes sight f kind (prototype f).result (call_answer unit classes k sight f)) is
      (answers_as unit classes k sight f)

  -- functions that call no method answer with no call of one
  pub calls_none : (sight : CallSight) (f : JniFunction) → calls_method f ≡ false → CallsNone (call_answer unit classes k sight f)
  calls_none sight f own = none_called (call_kind f) (methods_are f ∙ own) (answers_as unit classes k sight f)

  -- and the others with that, or a trap
  pub calls_as : (sight : CallSight) (f : JniFunction) → calls_method f ≡ true
      → AnswersAs unit classes sight f CallsMethod (prototype f).result (call_answer unit classes k sight f)
  calls_as sight f is = answers_of sight f CallsMethod (one_kind (call_kind f) (methods_are f ∙ is))

  -- functions that take weak references leave the heap as it was
  pub weak_leaves : (sight : CallSight) (f : JniFunction) → takes_weak f ≡ true → LeavesHeap (call_answer unit classes k sight f)
  unfolding call_answer
  weak_leaves sight functions.NewLocalRef is = tt
  weak_leaves sight functions.NewGlobalRef is = tt
  weak_leaves sight functions.IsSameObject is = tt
  weak_leaves sight functions.DeleteWeakGlobalRef is = static_leaves (weak_as unit classes sight functions.DeleteWeakGlobalRef sight.held)
  weak_leaves sight f is = absurd (cc)

  -- where only statics differ, the answers are the same, or both leave the heap as it was
  pub by_statics : (s : Shared) (statics : Statics) (t : Thread) (args : List Actual) (f : JniFunction)
      → let now = call_answer unit classes k (sight_of_call s t f args) f in
      let other = call_answer unit classes k (sight_of_call (record s { statics = statics }) t f args) f in
      (other ≡ now) ⊎ (LeavesHeap other × LeavesHeap now)
  by_statics s statics t args functions.DeleteGlobalRef =
      inr (static_leaves (answers_as unit classes k _ functions.DeleteGlobalRef), static_leaves (answers_as unit classes k _ functions.DeleteGlobalRef))
  by_statics s statics t args functions.DeleteWeakGlobalRef =
      inr (static_leaves (answers_as unit classes k _ functions.DeleteWeakGlobalRef), static_leaves (answers_as unit classes k _ functions.DeleteWeakGlobalRef))
  by_statics s statics t args f = inl refl
