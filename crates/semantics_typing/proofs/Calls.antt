-- What each answer of a call does leaves typed objects and variables, all checks being passed.
use Rattle.std.proofs.Common.{◌≡◌, ◌≢◌, inl, inr, ℕ, ℤ, zero, suc, pos, ◌+◌, ◌<◌, ◌≤◌, Bool, true, false, List, [], ◌∷◌, ◌++◌, length, map, replicate, take, drop, Option, Some, None, refl, sym, ap, ◌∙◌, subst, arith, if◌then◌else◌, length-append, append_assoc}
use Rattle.std.specs.Prelude.{slice_get, IsTrue, ◌==◌, not, nat_lt, nat_le}
use Rattle.std.specs.Option.{option_map_or}
use Rattle.std.specs.Str.{bytes_eq}
use Rattle.std.proofs.lemmas.Bool.{and_parts, cond_both, not-true, eqb-true}
use Rattle.std.proofs.lemmas.Option.{slice_get_within}
use lib.ListN.{length-set}
use Rattle.std.proofs.lemmas.List.{append-nil, length-take-le, length-drop}
use Rattle.base.specs.Bytes.{Identifier, lookup}
use Rattle.base.specs.declared.element.ElementType.{ElementType}
use Rattle.base.specs.declared.element.ElementType.TheVariants.{Char as JChar}
use Rattle.base.specs.Limits.{most_copied, most_references, most_views}
use Rattle.syntax.specs.Tree.{SourceUnit}
use Rattle.class_rules.specs.BuiltIns.{built_ins, class_class, string_class, throwable_class, number_array, no_class_def_found_error, no_such_field_error, no_such_method_error, array_index_out_of_bounds, string_index_out_of_bounds, array_store_exception, negative_array_size, illegal_monitor_state}
use Rattle.class_rules.specs.Class.{FieldType, NumberField, ReferenceField, Plain, ArrayOfObjects, Class, Classes, class_at, class_kind, is_plain, element_class, assignable, array_class_of}
use Rattle.class_rules.specs.Fields.{FieldId}
use Rattle.class_rules.specs.Grown.{IsGrown}
use Rattle.jni.specs.declared.access.Access.{Access}
use Rattle.jni.specs.declared.access.Access.TheVariants.{ElementsCopy, ArrayView, CharsCopy, CharsView}
use Rattle.jni.specs.declared.function.JniFunction.TheVariants as functions
use Rattle.jni.specs.declared.function.JniFunction.{JniFunction}
use Rattle.jni.specs.JniFunction.{parameters_for, prototype}
use Rattle.jni.specs.declared.kinds.ParameterKind.{ParameterKind}
use Rattle.jni.specs.declared.kinds.ParameterKind.TheVariants.{ClassObject, ObjectArray, StringObject, NumberArray, FieldID, TextBytes, ArrayVariable}
use Rattle.jni.specs.declared.kinds.ResultKind.{ResultKind}
use Rattle.type_rules.specs.declared.ty.ExprType.TheVariants.{Buffer}
use Rattle.type_rules.specs.ExprTypes.{is_buffer_for}
use Rattle.type_rules.proofs.TypeTests.{same_types}
use Rattle.semantics.specs.Answer.{Answer, Region, with_region_got, with_region_set}
use Rattle.semantics.specs.Answer as answer
use Rattle.semantics.specs.Arguments.{Actual, reference_given, object_given, text_given, field_given, variable_given}
use Rattle.semantics.specs.CallEffects.{CallResult, NoResult, ScalarResult, ReferenceResult, FieldResult, BufferResult, CallEffect, Throws, Halts, Leaves, Enters, with_capacity, frames_effect, heap_effect, new_effect, string_object, overwritten, local_array, begun_with, copy_effect, view_effect, copied_elements, freed, with_freed, with_message, throw_new_effect}
use Rattle.semantics.specs.AnswerTable.{call_effect}
use Rattle.semantics.specs.CallSight.{CallSight, sight_of_call}
use Rattle.semantics.specs.Checks.{go_together}
use Rattle.semantics.specs.Heap.{Heap, object_at, class_of, values_of, next_name, with_value_at, with_numbers, numbers_of, field_place, static_place, is_instance, fits_class}
use Rattle.semantics.specs.Object.{ObjectValue, Number, Refers, Reference, Object}
use Rattle.semantics.specs.Thread.{Thread, Shared, Frame, BuffersInUse, capacities}
use Rattle.semantics.specs.declared.value.Value.TheVariants.{Int}
use Rattle.semantics.specs.Value.{convert}
use Rattle.semantics.specs.Variable.{Variable, Scalar, LocalRef, FieldHandle, MethodHandle, Elements, LocalArray, NoBuffer, Copy, View, Variables, change}
use Rattle.semantics.specs.Variable as variable
use Rattle.semantics.specs.World.{fresh_object}
use Rattle.semantics_typing.proofs.FitsAlike.{fits_alike, fits_field_alike}
use Rattle.semantics.proofs.AnswerFacts.{AsField, AsNumber, AsReference, AsStatic, FitsField, IsMade, IsOfKind, IsRaised, IsRegion, IsWrite, NoClass, NoElement, NoField, NoMethod, NoOwner, NoSize, NoStore, NoUnit, OfArray, OfClass, OfField, OfNumbers, OfReferences, OfString, OfText, Takes, TakesNumbers, ToElement, ToField, ToStatic}
use Rattle.semantics.proofs.AnswerKinds.{AnswersAs, CallKind, Calling, Copying, CopyingBack, Ensuring, Filling, FillingNone, Freeing, Giving, Halting, IsChecked, Making, Pending, Pushing, Raising, RaisingWith, SettingRegion, Viewing, Writing, answers_as}
use Rattle.semantics.proofs.CheckLaws.{few_there}
use Rattle.world_values.specs.WorldRules.{is_in_range}
use Rattle.semantics_typing.specs.Objects.{ReferenceFits, ValueFits, PlaceFits, element_type_of, type_at, IsTypedObject, AreTypedObjects, AreInRange, HasNumbers, IsTypedVariable, AreTypedVariables}
use Rattle.world_values.specs.DeclaredFields.{DeclaresWell, IsDeclared}
use Rattle.semantics_typing.specs.Texts.{IsText}
use Rattle.semantics_typing.proofs.Arguments.{IsKnownAs, AreKnownAs, known_at, variable_typed}
use Rattle.semantics_typing.proofs.FieldWrites.{number_type, HasPlace, holds_field, holds_static, fits_field, holds_element, stands_for, IsThrowable, throwable_is}
use Rattle.semantics_typing.proofs.Heaps.{Keeps, keeps_same, keeps_after, keeps_more, variables_later}
use Rattle.semantics_typing.proofs.Lists.{all_append, all_take, all_drop, get_set}
use Rattle.semantics_typing.proofs.Places.{found_field, found_static}
use Rattle.semantics_typing.proofs.Ranges.{convert_in_range, zero_in_range, byte_in_range}
use Rattle.semantics_typing.proofs.TableKinds.{IsMakeable, plain_class, kind_class, grown_long, assignable_itself}
use Rattle.semantics_typing.proofs.Writes.{there, reference_fits, keeps_place, keeps_numbers, numbers_of_typed, numbers_count, fresh_typed, array_typed, number_array_is, string_element, string_typed}

-- ---- what an effect leaves

-- a result that goes to a variable is typed there, a buffer in one of this element type, and then no variable has changed
abbrev pub ResultFits : Classes → ElementType → Variables → Heap → Variables → CallResult → Type 0
ResultFits classes u before heap vs (BufferResult b) = IsTypedVariable classes heap (Elements u b) × (vs ≡ before)
ResultFits classes u before heap vs (FieldResult f) = IsTypedVariable classes heap (FieldHandle f)
ResultFits classes u before heap vs given = Unit {0}

-- the heap and the variables that are left, and the result
pub record IsLeft (classes : Classes) (u : ElementType) (old : Heap) (before : Variables) (heap : Heap) (vs : Variables) (given : CallResult) : Type 0 where
  pub keeps : Keeps classes old heap
  pub variables : AreTypedVariables classes heap vs
  pub result : ResultFits classes u before heap vs given

abbrev pub EffectFits : Classes → ElementType → Heap → Variables → CallEffect → Type 0
EffectFits classes u heap before (Throws c) = IsMakeable classes c
EffectFits classes u heap before (Halts trap) = Unit {0}
EffectFits classes u heap before (Enters function arguments) = Unit {0}
EffectFits classes u heap before (Leaves made s t given) = IsLeft classes u heap before (s.heap ++ made) t.variables given

-- what is known of some calls beside their arguments
abbrev pub IsReady : Classes → ElementType → Variables → JniFunction → List Actual → Type 0
IsReady classes u vs (functions.ReleaseBuffer (ElementsCopy t)) args = (kind : ElementType) × (zs : List ℤ) × (lookup (variable_given args 1) vs ≡ Some (Elements kind (Copy (object_given args 0) zs)))
IsReady classes u vs (functions.GetBuffer access) args = (writable : Bool) × (is_buffer_for access (Some (Buffer u writable)) ≡ true)
IsReady classes u vs functions.GetStaticMethodID args = IsMakeable classes no_such_method_error
IsReady classes u vs f args = Unit {0}

-- ---- texts

pub text_in_range : (bytes : List ℕ) → IsText bytes → AreInRange JChar (map pos bytes)
text_in_range [] h = tt
text_in_range (b ∷ bytes) h = (byte_in_range b (omega (arith, h.0)), text_in_range bytes h.1)

-- ---- variables

pub changed_typed : (classes : Classes) (heap : Heap) (x : Identifier) (f : Variable → Variable) (vs : Variables) → AreTypedVariables classes heap vs → ((v : Variable) → lookup x vs ≡ Some v → IsTypedVariable classes heap v → IsTypedVariable classes heap (f v)) → AreTypedVariables classes heap (change x f vs)
changed_typed classes heap x f [] h g = tt
changed_typed classes heap x f ((y, w) ∷ vs) h g = by_test (bytes_eq x y) (λ v e. g v e) (λ g. changed_typed classes heap x f vs h.1 g)
  where
    by_test : (b : Bool) → ((v : Variable) → (if b then Some w else lookup x vs) ≡ Some v → IsTypedVariable classes heap v → IsTypedVariable classes heap (f v))
        → (((v : Variable) → lookup x vs ≡ Some v → IsTypedVariable classes heap v → IsTypedVariable classes heap (f v)) → AreTypedVariables classes heap (change x f vs))
        → AreTypedVariables classes heap (if b then (y, f w) ∷ vs else (y, w) ∷ change x f vs)
    by_test true g later = (g w refl h.0, h.1)
    by_test false g later = (h.0, later g)

freed_typed : (classes : Classes) (heap : Heap) (v : Variable) → IsTypedVariable classes heap v → IsTypedVariable classes heap (freed v)
freed_typed classes heap (Scalar v) h = tt
freed_typed classes heap (LocalRef level r) h = tt
freed_typed classes heap (FieldHandle None) h = tt
freed_typed classes heap (FieldHandle (Some f)) h = h
freed_typed classes heap (MethodHandle m) h = tt
freed_typed classes heap (LocalArray t zs) h = h
freed_typed classes heap (Elements t b) h = tt

module _ (unit : SourceUnit) (classes : Classes) (well : DeclaresWell classes) (g : IsGrown classes) (in_use : BuffersInUse) (k : ℕ) (s : Shared) (t : Thread) (typed : AreTypedObjects classes s.heap) (vars : AreTypedVariables classes s.heap t.variables) (u : ElementType) where
  abbrev Fits : CallEffect → Type 0
  Fits e = EffectFits classes u s.heap t.variables e

  long : 42 ≤ length classes
  long = grown_long classes g

  -- ---- exceptions

  thrown : (c : ℕ) → 0 < c → c ≤ 42 → class_kind classes c ≡ Plain → (c == string_class) ≡ false → (c == class_class) ≡ false → IsMakeable classes c
  thrown c low high kind no_string no_class = record { low = low; high = omega (arith, high, long); making = rw (kind, no_string, no_class) refl }

  no_class_found : IsMakeable classes no_class_def_found_error
  unfolding built_ins
  no_class_found = thrown 9 (omega arith) (omega arith) (plain_class classes g 9 _ refl refl) refl refl

  no_field_found : IsMakeable classes no_such_field_error
  unfolding built_ins
  no_field_found = thrown 8 (omega arith) (omega arith) (plain_class classes g 8 _ refl refl) refl refl

  array_bounds : IsMakeable classes array_index_out_of_bounds
  unfolding built_ins
  array_bounds = thrown 15 (omega arith) (omega arith) (plain_class classes g 15 _ refl refl) refl refl

  string_bounds : IsMakeable classes string_index_out_of_bounds
  unfolding built_ins
  string_bounds = thrown 16 (omega arith) (omega arith) (plain_class classes g 16 _ refl refl) refl refl

  no_store : IsMakeable classes array_store_exception
  unfolding built_ins
  no_store = thrown 17 (omega arith) (omega arith) (plain_class classes g 17 _ refl refl) refl refl

  negative_size : IsMakeable classes negative_array_size
  unfolding built_ins
  negative_size = thrown 18 (omega arith) (omega arith) (plain_class classes g 18 _ refl refl) refl refl

  no_owner : IsMakeable classes illegal_monitor_state
  unfolding built_ins
  no_owner = thrown 19 (omega arith) (omega arith) (plain_class classes g 19 _ refl refl) refl refl

  -- ---- effects by what they leave

  left : (made : List Object) (s' : Shared) (t' : Thread) (given : CallResult) (heap : Heap) → s'.heap ++ made ≡ heap → Keeps classes s.heap heap → AreTypedVariables classes heap t'.variables → ResultFits classes u t.variables heap t'.variables given → Fits (Leaves made s' t' given)
  left made s' t' given heap e keeps variables result = subst (λ (h : Heap). IsLeft classes u s.heap t.variables h t'.variables given) (sym e) (record { keeps = keeps; variables = variables; result = result })

  -- the heap as it was
  still : (vs : Variables) (given : CallResult) → AreTypedVariables classes s.heap vs → ResultFits classes u t.variables s.heap vs given → IsLeft classes u s.heap t.variables (s.heap ++ []) vs given
  still vs given variables result = subst (λ (h : Heap). IsLeft classes u s.heap t.variables h vs given) (sym (append-nil s.heap)) (record { keeps = keeps_same classes s.heap typed; variables = variables; result = result })

  -- another heap
  other_heap : (t' : Thread) (heap : Heap) → Keeps classes s.heap heap → AreTypedVariables classes s.heap t'.variables → Fits (heap_effect s t' heap)
  other_heap t' heap keeps variables = left [] (record s { heap = heap }) t' NoResult heap (append-nil heap) keeps (variables_later classes s.heap heap keeps.stay t'.variables variables) tt

  -- one object more
  one_more : (o : Object) → IsTypedObject classes s.heap (length s.heap + 1) o → Fits (new_effect s t o)
  one_more o new =
      let keeps = keeps_more classes s.heap typed o new in
      left (o ∷ []) s t (ReferenceResult (Some (next_name s.heap))) (s.heap ++ o ∷ []) refl keeps (variables_later classes s.heap (s.heap ++ o ∷ []) keeps.stay t.variables vars) tt

  -- ---- frames

  frames_fit : (frames : List Frame) → Fits (frames_effect classes s t frames)
  frames_fit frames = cond_both (nat_le (capacities frames) most_references) _ _ Fits (λ e. still _ _ vars tt) (λ e. still _ _ vars tt)

  -- ---- fields and elements

  put_fits : (n i : ℕ) (type : FieldType) (v : ObjectValue) → HasPlace classes well g s.heap typed n i type → ValueFits classes s.heap type v → Fits (heap_effect s t (with_value_at s.heap n i v))
  put_fits n i type v place fits =
      other_heap t (with_value_at s.heap n i v)
      (keeps_place classes s.heap typed n i place.object v place.is (subst (λ (o : Option FieldType). PlaceFits classes s.heap o v) (sym place.place) fits)) vars

  -- ---- arrays and strings of numbers

  has_numbers : (n : ℕ) (e : ElementType) → class_of s.heap n ≡ number_array e → HasNumbers classes s.heap e n
  has_numbers n e h =
      let is = number_array_is classes g e in
      let o = there s.heap n (number_array e) h is.0 in
      (o.0, o.1, ap (element_type_of classes) o.2 ∙ is.3)

  has_units : (n : ℕ) → class_of s.heap n ≡ string_class → HasNumbers classes s.heap JChar n
  has_units n h =
      let o = there s.heap n string_class h (omega arith) in
      (o.0, o.1, ap (element_type_of classes) o.2 ∙ string_element classes g)

  array_in_range : (x : Identifier) (e : ElementType) (zs : List ℤ) → lookup x t.variables ≡ Some (LocalArray e zs) → AreInRange e zs
  array_in_range x e zs at = variable_typed classes s.heap x t.variables (LocalArray e zs) vars at

  overwritten_range : (e : ElementType) (zs : List ℤ) (i : ℕ) (new : List ℤ) → AreInRange e zs → AreInRange e new → AreInRange e (overwritten zs i new)
  overwritten_range e zs i new h n =
      let In = λ (z : ℤ). IsTrue (is_in_range e z) in
      all_append In (take i zs ++ new) (drop (i + length new) zs) (all_append In (take i zs) new (all_take In i zs h) n) (all_drop In (i + length new) zs h)

  overwritten_length : (zs new : List ℤ) (i : ℕ) → i + length new ≤ length zs → length (overwritten zs i new) ≡ length zs
  overwritten_length zs new i h =
      omega (
        arith,
        h,
        length-append (take i zs ++ new) (drop (i + length new) zs),
        length-append (take i zs) new,
        length-take-le i zs (omega (arith, h)),
        length-drop (i + length new) zs,
      )

  -- the numbers of a region are of the type of the local array of a name
  record FitsArray (x : Identifier) (r : Region) : Type 0 where
    element : ElementType
    elements : List ℤ
    numbers : HasNumbers classes s.heap element r.object
    array : lookup x t.variables ≡ Some (LocalArray element elements)

  get_region_fits : (x : Identifier) (r : Region) → FitsArray x r → Fits (Leaves [] s (record t { variables = with_region_got s.heap x r t.variables }) NoResult)
  get_region_fits x r fits = still _ _ (changed_typed classes s.heap x (begun_with new) t.variables vars begun) tt
    where
      e : ElementType
      e = fits.element

      new : List ℤ
      new = take r.count (drop r.start (numbers_of s.heap r.object))

      new_range : AreInRange e new
      new_range =
          let In = λ (z : ℤ). IsTrue (is_in_range e z) in
          all_take In r.count (drop r.start (numbers_of s.heap r.object)) (all_drop In r.start (numbers_of s.heap r.object) (numbers_of_typed classes s.heap typed r.object e fits.numbers))

      begun : (v : Variable) → lookup x t.variables ≡ Some v → IsTypedVariable classes s.heap v → IsTypedVariable classes s.heap (begun_with new v)
      begun v f h =
          let both : Some (LocalArray e fits.elements) ≡ Some v = sym fits.array ∙ f in
          let same : LocalArray e fits.elements ≡ v = cc in
          subst (λ (w : Variable). IsTypedVariable classes s.heap (begun_with new w)) same (overwritten_range e fits.elements 0 new (array_in_range x e fits.elements fits.array) new_range)

  set_region_fits : (x : Identifier) (r : Region) → FitsArray x r → r.start + r.count ≤ length (values_of s.heap r.object) → r.count ≤ length (local_array (lookup x t.variables))
      → Fits (heap_effect s t (with_region_set t.variables x r s.heap))
  set_region_fits x r fits within =
      let e = fits.element in
      let zs = fits.elements in
      let old = numbers_of s.heap r.object in
      subst (λ (o : Option Variable). r.count ≤ length (local_array o) → Fits (heap_effect s t (with_numbers s.heap r.object (overwritten old r.start (take r.count (local_array o)))))) (sym fits.array)
      (λ few.
      let long = length-take-le r.count zs few in
      let count = numbers_count s.heap r.object in
      other_heap t _ (keeps_numbers classes s.heap typed r.object e (overwritten old r.start (take r.count zs)) fits.numbers
      (overwritten_range e old r.start (take r.count zs) (numbers_of_typed classes s.heap typed r.object e fits.numbers)
      (all_take (λ (z : ℤ). IsTrue (is_in_range e z)) r.count zs (array_in_range x e zs fits.array)))
      (overwritten_length old (take r.count zs) r.start (omega (arith, within, long, count)) ∙ count)) vars)

  -- ---- buffers

  copy_fits : (n : ℕ) → HasNumbers classes s.heap u n → Fits (copy_effect in_use s t n (numbers_of s.heap n))
  copy_fits n is = still _ _ vars (cond_both (nat_le (in_use.copied + length (numbers_of s.heap n)) most_copied) (Copy n (numbers_of s.heap n)) NoBuffer (λ (b : variable.Buffer). IsTypedVariable classes s.heap (Elements u b)) (λ e. (is, numbers_of_typed classes s.heap typed n u is, numbers_count s.heap n)) (λ e. tt), refl)

  view_fits : (n : ℕ) → HasNumbers classes s.heap u n → Fits (view_effect in_use s t n)
  view_fits n is = still _ _ vars (cond_both (nat_lt in_use.views most_views) (View n) NoBuffer (λ (b : variable.Buffer). IsTypedVariable classes s.heap (Elements u b)) (λ e. is) (λ e. tt), refl)

  freed_vars : (x : Identifier) → AreTypedVariables classes s.heap (with_freed t x).variables
  freed_vars x = changed_typed classes s.heap x freed t.variables vars (λ v e h. freed_typed classes s.heap v h)

  copied_back : (n : ℕ) (x : Identifier) (kind : ElementType) (zs : List ℤ) → lookup x t.variables ≡ Some (Elements kind (Copy n zs)) → Keeps classes s.heap (with_numbers s.heap n (copied_elements (lookup x t.variables)))
  copied_back n x kind zs at =
      let h : IsTypedVariable classes s.heap (Elements kind (Copy n zs)) = variable_typed classes s.heap x t.variables (Elements kind (Copy n zs)) vars at in
      subst (λ (o : Option Variable). Keeps classes s.heap (with_numbers s.heap n (copied_elements o))) (sym at) (keeps_numbers classes s.heap typed n kind zs h.0 h.1 h.2)

  -- ---- by answers

  module _ (args : List Actual) where
    abbrev Known : JniFunction → Type 0
    Known f = AreKnownAs classes s.heap t.variables (parameters_for f (length args)) args

    abbrev Together : JniFunction → Type 0
    Together f = go_together classes (sight_of_call s t f args) u f ≡ true

    abbrev f_given : FieldId
    f_given = field_given args 1

    -- argument i is of a kind
    known : (f : JniFunction) (i : ℕ) (kind : ParameterKind) → Known f → Takes f i kind → IsKnownAs classes s.heap t.variables kind (slice_get args i)
    known f i kind h takes = known_at classes s.heap t.variables (parameters_for f (length args)) args i kind h (takes (length args))

    -- ---- buffers

    same_kind : (access : Access) (e : ElementType) (writable : Bool) → access ≡ ElementsCopy e → is_buffer_for access (Some (Buffer u writable)) ≡ true → u ≡ e
    same_kind (ElementsCopy d) e true is h = let same : d ≡ e = cc in same_types d u h ∙ same
    same_kind (ElementsCopy d) e false is h = absurd (cc)
    same_kind ArrayView e writable is h = absurd (cc)
    same_kind CharsCopy e writable is h = absurd (cc)
    same_kind CharsView e writable is h = absurd (cc)

    chars_copy : (writable : Bool) → is_buffer_for CharsCopy (Some (Buffer u writable)) ≡ true → u ≡ JChar
    chars_copy false h = same_types JChar u h
    chars_copy true h = absurd (cc)

    chars_view : (writable : Bool) → is_buffer_for CharsView (Some (Buffer u writable)) ≡ true → u ≡ JChar
    chars_view false h = same_types JChar u h
    chars_view true h = absurd (cc)

    numbers_as : (e : ElementType) (n : ℕ) → u ≡ e → HasNumbers classes s.heap e n → HasNumbers classes s.heap u n
    numbers_as e n is h = subst (λ (x : ElementType). HasNumbers classes s.heap x n) (sym is) h

    of_view : Together (functions.GetBuffer ArrayView) → class_of s.heap (object_given args 0) ≡ number_array u
    unfolding go_together
    of_view h = eqb-true (class_of s.heap (object_given args 0)) (number_array u) h

    -- what a buffer is got of has numbers of its type
    got_numbers : (access : Access) → Known (functions.GetBuffer access) → Together (functions.GetBuffer access) → IsReady classes u t.variables (functions.GetBuffer access) args → HasNumbers classes s.heap u (object_given args 0)
    got_numbers (ElementsCopy e) h together (writable, is) =
        numbers_as e (object_given args 0) (same_kind (ElementsCopy e) e writable refl is) (has_numbers (object_given args 0) e (known (functions.GetBuffer (ElementsCopy e)) 0 (NumberArray e) h (λ n. refl)))
    got_numbers ArrayView h together ready = has_numbers (object_given args 0) u (of_view together)
    got_numbers CharsCopy h together (writable, is) =
        numbers_as JChar (object_given args 0) (chars_copy writable is) (has_units (object_given args 0) (known (functions.GetBuffer CharsCopy) 0 StringObject h (λ n. refl)))
    got_numbers CharsView h together (writable, is) =
        numbers_as JChar (object_given args 0) (chars_view writable is) (has_units (object_given args 0) (known (functions.GetBuffer CharsView) 0 StringObject h (λ n. refl)))

    module _ (f : JniFunction) (h : Known f) (go : Together f) (ready : IsReady classes u t.variables f args) where
      -- what the call sees
      abbrev seen : CallSight
      seen = sight_of_call s t f args

      checked : IsChecked classes seen f
      checked = (u, go)

      buffer_numbers : (access : Access) → f ≡ functions.GetBuffer access → HasNumbers classes s.heap u (object_given args 0)
      buffer_numbers access is = got_numbers access (subst Known is h) (subst Together is go) (subst (λ (g : JniFunction). IsReady classes u t.variables g args) is ready)

      -- ---- what is given and raised

      given_fits : {kind : ResultKind} {given : CallResult} → IsOfKind unit classes kind given → ResultFits classes u t.variables s.heap t.variables given
      given_fits (OfField x (AsField class name text is)) = found_field classes class name text x is
      given_fits (OfField x (AsStatic class name text is)) = found_static classes class name text x is
      given_fits other = tt

      raised : {c : ℕ} → IsRaised f c → IsMakeable classes c
      raised NoClass = no_class_found
      raised NoField = no_field_found
      raised (NoMethod is) = subst (λ (g : JniFunction). IsReady classes u t.variables g args) is ready
      raised NoElement = array_bounds
      raised NoUnit = string_bounds
      raised NoStore = no_store
      raised NoSize = negative_size
      raised NoOwner = no_owner

      -- ---- what is written

      field_value : {v : ObjectValue} → IsDeclared classes f_given → FitsField classes seen v → ValueFits classes s.heap f_given.field.type v
      field_value declared (AsNumber T z is) = subst (λ (x : FieldType). ValueFits classes s.heap x (Number (convert T z))) (sym (number_type T f_given.field.type is)) (convert_in_range T z)
      field_value declared (AsReference is) =
          fits_field classes well g s.heap typed f_given declared (reference_given args 2) f_given.field.type refl (fits_field_alike classes s t args 2 f_given.field.type ∙ is)

      written : {n i : ℕ} {v : ObjectValue} → IsWrite classes seen f n i v → Fits (heap_effect s t (with_value_at s.heap n i v))
      written (ToField v takes has fits) =
          let declared = known f 1 FieldID h takes in
          let both = and_parts (not f_given.is_static) (is_instance classes s.heap (object_given args 0) f_given.class) has in
          put_fits (object_given args 0) (field_place classes s.heap (object_given args 0) f_given) f_given.field.type v
          (holds_field classes well g s.heap typed f_given declared (not-true f_given.is_static both.0) (object_given args 0) both.1) (field_value declared fits)
      written (ToStatic v takes has fits) =
          let declared = known f 1 FieldID h takes in
          let both = and_parts f_given.is_static (assignable classes (object_given args 0) f_given.class) has in
          put_fits f_given.class (static_place classes f_given) f_given.field.type v (holds_static classes well g s.heap typed f_given declared both.0) (field_value declared fits)
      written (ToElement i takes fits) =
          let c = element_class (class_kind classes (class_of s.heap (object_given args 0))) in
          let place = holds_element classes well g s.heap typed (object_given args 0) i (known f 0 ObjectArray h takes) in
          put_fits (object_given args 0) i _ (Refers (reference_given args 2)) place.0
          (reference_fits classes s.heap (reference_given args 2) c (fits_alike classes s t args 2 c (reference_given args 2) refl ∙ fits) place.1)

      region_numbers : {e : ElementType} → TakesNumbers f e → HasNumbers classes s.heap e (object_given args 0)
      region_numbers (OfArray e takes) = has_numbers (object_given args 0) e (known f 0 (NumberArray e) h takes)
      region_numbers (OfString takes) = has_units (object_given args 0) (known f 0 StringObject h takes)

      fits_array : (r : Region) → IsRegion classes seen f r → FitsArray (variable_given args 3) r
      fits_array r is =
          let array = known f 3 (ArrayVariable is.element) h is.array in
          record {
            element = is.element;
            elements = array.0;
            numbers = subst (λ (n : ℕ). HasNumbers classes s.heap is.element n) (sym is.object) (region_numbers is.numbers);
            array = array.1;
          }

      -- ---- what is made

      reference_array : (c n : ℕ) (r : Reference) → (0 < c) × (c ≤ length classes) → is_plain (class_kind classes c) ≡ true → fits_class classes s.heap r c ≡ true
          → IsTypedObject classes s.heap (length s.heap + 1) (record { class = option_map_or (λ c. c) (array_class_of classes c) 0; values = replicate n (Refers r) })
      reference_array c n r for_class plain fits =
          let found = well.arrays c for_class.0 for_class.1 plain in
          let is : option_map_or (λ c. c) (array_class_of classes c) 0 ≡ found.0 = ap (λ (o : Option ℕ). option_map_or (λ c. c) o 0) found.1 in
          subst (λ (a : ℕ). IsTypedObject classes s.heap (length s.heap + 1) (record { class = a; values = replicate n (Refers r) })) (sym is)
          (array_typed classes s.heap (length s.heap + 1) found.0 n (ReferenceField c) (Refers r) (array_low found.0 found.2) (array_high found.0 found.2) (no_class found.0 found.2)
          (element found.0 found.2) (reference_fits classes s.heap r c fits for_class.0))
        where
          array_at : (a : ℕ) (c : ℕ) → class_kind classes a ≡ ArrayOfObjects c → (d : Class) × (class_at classes a ≡ Some d)
          array_at a c kind = by_class (class_at classes a) refl kind
            where
              by_class : (o : Option Class) → class_at classes a ≡ o → option_map_or (λ (d : Class). d.kind) o Plain ≡ ArrayOfObjects c → (d : Class) × (class_at classes a ≡ Some d)
              by_class None e h = absurd (cc)
              by_class (Some d) e h = (d, e)

          in_table : (a : ℕ) (d : Class) → class_at classes a ≡ Some d → (0 < a) × (a ≤ length classes)
          in_table zero d e = absurd (cc)
          in_table (suc i) d e = (omega arith, omega (arith, slice_get_within classes i d e))

          array_low : (a : ℕ) → class_kind classes a ≡ ArrayOfObjects c → 0 < a
          array_low a kind = let at = array_at a c kind in (in_table a at.0 at.1).0

          array_high : (a : ℕ) → class_kind classes a ≡ ArrayOfObjects c → a ≤ length classes
          array_high a kind = let at = array_at a c kind in (in_table a at.0 at.1).1

          no_class : (a : ℕ) → class_kind classes a ≡ ArrayOfObjects c → a ≢ class_class
          no_class a kind same =
              let plain : Plain ≡ ArrayOfObjects c = sym (kind_class classes g) ∙ ap (class_kind classes) (sym same) ∙ kind in
              absurd (cc)

          element : (a : ℕ) → class_kind classes a ≡ ArrayOfObjects c → element_type_of classes a ≡ Some (ReferenceField c)
          element a kind = rw kind refl

      made : {o : Object} → IsMade classes seen f o → IsTypedObject classes s.heap (length s.heap + 1) o
      made (OfClass takes making) =
          let for_class = stands_for classes well g s.heap typed (object_given args 0) (known f 0 ClassObject h takes) in
          fresh_typed classes s.heap (length s.heap + 1) (object_given args 0) (record { low = for_class.0; high = for_class.1; making = making })
      made (OfNumbers T n) =
          let is = number_array_is classes g T in
          array_typed classes s.heap (length s.heap + 1) (number_array T) n (NumberField T) (Number (pos 0)) is.0 is.1 is.2 is.3 (zero_in_range T)
      made (OfReferences n takes plain fits) =
          let c = object_given args 1 in
          reference_array c n (reference_given args 2) (stands_for classes well g s.heap typed c (known f 1 ClassObject h takes)) plain
          (fits_alike classes s t args 2 c (reference_given args 2) refl ∙ fits)
      made (OfText takes) = string_typed classes g s.heap (length s.heap + 1) (text_given args 0) (text_in_range (text_given args 0) (known f 0 TextBytes h takes))

      -- the message string and then the exception
      abbrev c_given : ℕ
      c_given = object_given args 0

      abbrev with_text : Heap
      with_text = s.heap ++ string_object (text_given args 1) ∷ []

      abbrev thrown_object : Object
      thrown_object = with_message (fresh_object classes c_given) (Some (next_name s.heap))

      module _ (takes_class : Takes f 0 ClassObject) (takes_text : Takes f 1 TextBytes) (throws : assignable classes c_given throwable_class ≡ true) where
        text_kept : Keeps classes s.heap with_text
        text_kept = keeps_more classes s.heap typed (string_object (text_given args 1)) (string_typed classes g s.heap (length s.heap + 1) (text_given args 1) (text_in_range (text_given args 1) (known f 1 TextBytes h takes_text)))

        for_class : (0 < c_given) × (c_given ≤ length classes)
        for_class = stands_for classes well g s.heap typed c_given (known f 0 ClassObject h takes_class)

        thrown_is : IsThrowable classes well g c_given
        thrown_is = throwable_is classes well g c_given throws

        fresh_there : IsTypedObject classes with_text (length with_text + 1) (fresh_object classes c_given)
        fresh_there = fresh_typed classes with_text (length with_text + 1) c_given (record { low = for_class.0; high = for_class.1; making = thrown_is.making })

        last_there : (xs : Heap) (o : Object) → slice_get (xs ++ o ∷ []) (length xs) ≡ Some o
        last_there [] o = refl
        last_there (x ∷ xs) o = last_there xs o

        message_fits : ReferenceFits classes with_text string_class (Some (next_name s.heap))
        message_fits =
            let q : next_name s.heap ≡ suc (length s.heap) = omega arith in
            (string_object (text_given args 1), ap (object_at with_text) q ∙ last_there s.heap (string_object (text_given args 1)), assignable_itself classes string_class (omega (arith, long)))

        thrown_typed : IsTypedObject classes with_text (length with_text + 1) thrown_object
        thrown_typed = record {
          low = fresh_there.low;
          high = fresh_there.high;
          of_class = fresh_there.of_class;
          count = λ e. length-set (fresh_object classes c_given).values 0 (Refers (Some (next_name s.heap))) ∙ fresh_there.count e;
          values = λ i v e. elim (get_set (fresh_object classes c_given).values 0 i (Refers (Some (next_name s.heap))) v e) [
            | inl old ↦ fresh_there.values i v old
            | inr (here, is) ↦
                subst (λ (j : ℕ). PlaceFits classes with_text (type_at classes (length with_text + 1) c_given j) v) here
                (subst (PlaceFits classes with_text (type_at classes (length with_text + 1) c_given 0)) is
                (subst (λ (o : Option FieldType). PlaceFits classes with_text o (Refers (Some (next_name s.heap)))) (sym (thrown_is.first (length with_text + 1))) message_fits))
          ];
        }

        both_kept : Keeps classes s.heap (with_text ++ thrown_object ∷ [])
        both_kept = keeps_after classes s.heap with_text (with_text ++ thrown_object ∷ []) text_kept (keeps_more classes with_text text_kept.typed thrown_object thrown_typed)

        throw_new : Fits (throw_new_effect classes s t c_given (text_given args 1))
        throw_new =
            left (string_object (text_given args 1) ∷ thrown_object ∷ []) s (record t { pending = Some (next_name s.heap + 1) }) (ScalarResult (Int (pos 0)))
            (with_text ++ thrown_object ∷ [])
            (sym (append_assoc s.heap (string_object (text_given args 1) ∷ []) (thrown_object ∷ [])))
            both_kept (variables_later classes s.heap (with_text ++ thrown_object ∷ []) both_kept.stay t.variables vars) tt

      -- ---- all answers

      answer_fits : {kind : CallKind} {result : ResultKind} {a : Answer} → AnswersAs unit classes seen f kind result a → Fits (answer.effect_of classes in_use k s t args a)
      unfolding answer.effect_of
      answer_fits (Giving given) = still _ _ vars (given_fits given)
      answer_fits (Pending r given) = still _ _ vars (given_fits given)
      answer_fits (Raising class is) = raised is
      answer_fits (RaisingWith takes_class takes_text is) = throw_new takes_class takes_text (is checked)
      answer_fits (Writing n i v is) = written (is checked)
      answer_fits (SettingRegion r is) =
          set_region_fits (variable_given args 3) r (fits_array r is) (subst (λ (n : ℕ). r.start + r.count ≤ length (values_of s.heap n)) (sym is.object) is.within)
          (few_there t.variables (slice_get (prototype f).parameters 3) (variable_given args 3) r.count is.few)
      answer_fits (Making o is) = one_more o (made (is checked))
      answer_fits (Ensuring n) = frames_fit (with_capacity n t.frames)
      answer_fits (Pushing n) = frames_fit (record { capacity = n; references = [] } ∷ t.frames)
      answer_fits (Filling r is) = get_region_fits (variable_given args 3) r (fits_array r is)
      answer_fits (FillingNone class is) = raised is
      answer_fits (Copying {access = access} of plain) = copy_fits (object_given args 0) (buffer_numbers access of)
      answer_fits (Viewing {access = access} of critical) = view_fits (object_given args 0) (buffer_numbers access of)
      answer_fits (CopyingBack T true of mode) =
          let copied = subst (λ (g : JniFunction). IsReady classes u t.variables g args) of ready in
          other_heap (with_freed t (variable_given args 1)) _ (copied_back (object_given args 0) (variable_given args 1) copied.0 copied.1 copied.2) (freed_vars (variable_given args 1))
      answer_fits (CopyingBack T false of mode) =
          let copied = subst (λ (g : JniFunction). IsReady classes u t.variables g args) of ready in
          other_heap t _ (copied_back (object_given args 0) (variable_given args 1) copied.0 copied.1 copied.2) vars
      answer_fits (Freeing mode) = still _ _ (freed_vars (variable_given args 1)) tt
      answer_fits (Calling m is) = tt
      answer_fits (Halting trap) = tt
      answer_fits other = still _ _ vars tt

    -- ---- all functions

    pub effect_fits : (f : JniFunction) → Known f → Together f → IsReady classes u t.variables f args → Fits (call_effect unit classes in_use k s t args f)
    effect_fits f h go ready = answer_fits f h go ready (answers_as unit classes k (sight_of_call s t f args) f)
