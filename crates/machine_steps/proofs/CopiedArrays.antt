-- What the slots show once numbers have gone into a local array.
use Rattle.std.proofs.Common.{true, ◌≡◌, ◌⊎◌, inl, inr, ℕ, ℤ, zero, suc, ◌+◌, ◌<◌, ◌≤◌, false, List, [], ◌∷◌, length, Option, Some, refl, sym, ap, ◌∙◌, subst, arith}
use Rattle.std.specs.Prelude.{slice_get, slice_set, nat_le, FitsSigned, if◌then◌else◌}
use Rattle.std.specs.Int.{w32, cast_unsigned}
use Rattle.std.specs.List.{AllByRecursion}
use Rattle.std.specs.Option.{option_map}
use Rattle.std.proofs.lemmas.Bool.{cases_lt, cond_both}
use Rattle.std.proofs.lemmas.List.{length-map}
use Rattle.std.proofs.lemmas.Option.{slice_get-get_or, slice_get-map, slice_get_past, slice_get_within}
use Rattle.base.specs.Bytes.{Identifier}
use Rattle.base.specs.declared.element.ElementType.{ElementType}
use Rattle.class_rules.specs.Class.{Classes}
use Rattle.heap.specs.Heap.{Space}
use Rattle.jni.specs.declared.kinds.ResultKind.{ResultKind}
use Rattle.jni.specs.declared.kinds.ResultKind.TheVariants.{GivesNothing}
use Rattle.code.specs.Depth.{Listing}
use Rattle.code.specs.declared.instr.LocalArray.{LocalArray as ArraySlots}
use Rattle.code.specs.declared.instr.Operand.{Operand}
use Rattle.code.specs.declared.instr.Operand.TheVariants as operand
use Rattle.type_rules.specs.declared.ty.ExprType.TheVariants.{Array}
use Rattle.code_meaning.specs.Does as gives
use Rattle.code_meaning.specs.Does.{AllTogether, IsOperand}
use Rattle.jni.specs.declared.kinds.ParameterKind.{ParameterKind}
use Rattle.machine_answers.proofs.ArgumentPlaces.{Place, There, Past, place_at}
use Rattle.code_meaning.specs.Fits.{HaveOwnSlots, IsArray}
use Rattle.code_meaning.specs.Layout.{Known}
use Rattle.code_meaning.specs.Slots.{Shows, ShowsElement, Slots, Visible, type_of_array, visible_to}
use Rattle.code_meaning.proofs.SlotLaws.{fewer_shown, known_among, with_changed}
use Rattle.code_meaning.proofs.StaticPlaces.{statics_stay}
use Rattle.semantics.specs.Answer.{Answer as SourceAnswer, GetsRegion, effect_of}
use Rattle.semantics.specs.AnswerTable as table
use Rattle.semantics.specs.AnswerTable.{monitor_entered, monitor_left}
use Rattle.semantics.specs.Arguments.{Actual, variable_given, variable_in_actual}
use Rattle.semantics.specs.CallEffects.{CallEffect, begun_with, frames_effect, overwritten, refuses_frames, with_capacity}
use Rattle.semantics.specs.Sight.{in_range}
use Rattle.semantics.specs.Thread as source
use Rattle.semantics.specs.Thread.{Shared}
use Rattle.semantics.specs.Variable as source_variable
use Rattle.semantics.specs.Variable.{Variable, Variables, LocalArray, NoBuffer, assign, change}
use Rattle.semantics_safety.specs.Owners.{Owners}
use Rattle.semantics_safety.proofs.ChangeCalls.{changed_is}
use Rattle.tables.specs.Locals.{LocalTable}
use Rattle.machine_answers.specs.declared.answer.Answer.{Answer}
use Rattle.machine_answers.specs.declared.answer.Answer.TheVariants as answers
use Rattle.machine_scenes.specs.declared.array_region.ArrayRegion.{ArrayRegion}
use Rattle.machine_answers.specs.Answers.{AreWordsOf, Brought, IsAnswer, IsCopiedOut, IsReleased, effect_told, is_carried, region_named}
use Rattle.machine_answers.specs.Answers as row
use Rattle.machine_scenes.specs.Buffers.{gives_up}
use Rattle.machine_scenes.specs.Given.{operand_of, operand_or_null}
use Rattle.machine_calls.specs.CarriedOut.{buffers_after, slots_after, variables_left}
use Rattle.machine_scenes.specs.declared.buffer.Buffer.{Buffer}
use Rattle.machine_scenes.specs.declared.buffer.Release.{Release}
use Rattle.machine_answers.specs.Copies.{overlaid}
use Rattle.machine_answers.proofs.Overlays.{get_outside, get_within, length_overlaid, overlaid_is}
use Rattle.machine_steps.proofs.Arguments.{array_held}
use Rattle.machine_steps.proofs.Changes.{element_of, found, others}
use Rattle.machine_steps.proofs.Acquisitions.{assigned_same, copied_there, taken_by, viewed_there}
use Rattle.machine_steps.proofs.MonitorEffects.{enter_cases, exit_cases}

-- ---- the elements of the array

-- each of these
fit_at : (zs : List ℤ) (i : ℕ) (z : ℤ) → AllByRecursion (FitsSigned w32) zs → slice_get zs i ≡ Some z → FitsSigned w32 z
fit_at [] i z fit at = absurd (cc)
fit_at (y ∷ zs) zero z fit at = let same : y ≡ z = cc in subst (FitsSigned w32) same fit.0
fit_at (y ∷ zs) (suc i) z fit at = fit_at zs i z fit.1 at

module _ (numbers words : List ℕ) (elements zs : List ℤ) (start : ℕ) (read : AreWordsOf words zs) (few : length zs ≤ length elements) (held : (i : ℕ) (z : ℤ) → slice_get elements i ≡ Some z → FitsSigned w32 z × (slice_get numbers (start + i) ≡ Some (cast_unsigned w32 z))) where
  long : length words ≡ length zs
  long = ap length read.same ∙ length-map zs (cast_unsigned w32)

  -- an element of the array is there as a word
  there : (i : ℕ) → i < length elements → start + i < length numbers
  there i below = let at = slice_get-get_or elements i (ℤ.pos 0) below in slice_get_within numbers (start + i) _ (held i _ at).1

  pub element_shown : (i : ℕ) → i < length elements → ShowsElement (in_range (slice_get (overlaid elements 0 zs) i)) (overlaid numbers start words) (start + i)
  element_shown i below = by_place (cases_lt i (length zs))
    where
      by_place : (i < length zs) ⊎ (length zs ≤ i) → ShowsElement (in_range (slice_get (overlaid elements 0 zs) i)) (overlaid numbers start words) (start + i)
      by_place (inl new) =
          let at = slice_get-get_or zs i (ℤ.pos 0) new in
          record {
            number = _;
            is = ap in_range (get_within elements 0 zs i i (omega arith) new below ∙ at);
            fits = fit_at zs i _ read.fit at;
            word =
                get_within numbers start words i (start + i) refl (omega (arith, new, long)) (there i below)
                ∙ ap (λ (l : List ℕ). slice_get l i) read.same
                ∙ slice_get-map (cast_unsigned w32) zs i
                ∙ ap (option_map (cast_unsigned w32)) at;
          }
      by_place (inr old) =
          let at = slice_get-get_or elements i (ℤ.pos 0) below in
          record {
            number = _;
            is = ap in_range (get_outside elements 0 zs i (λ k small e. omega (arith, small, e, old)) ∙ at);
            fits = (held i _ at).0;
            word = get_outside numbers start words (start + i) (λ k small e. omega (arith, small, e, old, long)) ∙ (held i _ at).1;
          }

-- ---- the slots

module _ (code : Listing) (known : Known) (own : Owners) (shared : Shared) (s : source.Thread) (slots : Slots) (shows : Shows code known (visible_to own shared s) slots) (x : Identifier) (t : ElementType) (array : ArraySlots) (at : IsArray known x t array.len array.start) (words : List ℕ) (zs : List ℤ) (read : AreWordsOf words zs) (few : length words ≤ array.len) where
  abbrev begun : source.Thread
  begun = record s { variables = change x (begun_with zs) s.variables }

  -- its buffers take what they did
  pub copied_taken : taken_by begun.variables ≡ taken_by s.variables
  copied_taken =
      let held = array_held code known 0 [] slots own shared s shows x t array at in
      let new : Variable = LocalArray held.type (overwritten held.elements 0 zs) in
      ap taken_by (changed_is x (begun_with zs) (LocalArray held.type held.elements) s.variables held.is)
      ∙ assigned_same x new s.variables (sym (ap copied_there held.is)) (sym (ap viewed_there held.is))

  pub shows_copied : HaveOwnSlots known → Shows code known (visible_to own shared begun) (record slots { numbers = overlaid slots.numbers array.start words })
  shows_copied owned =
      let shown = shows.each x (record { ty = Array t array.len; index = array.start }) at in
      let held = array_held code known 0 [] slots own shared s shows x t array at in
      let new : Variable = LocalArray held.type (overwritten held.elements 0 zs) in
      let set : begun.variables ≡ assign x new s.variables = changed_is x (begun_with zs) (LocalArray held.type held.elements) s.variables held.is in
      let long : length words ≡ length zs = ap length read.same ∙ length-map zs (cast_unsigned w32) in
      let short : length zs ≤ length held.elements = omega (arith, few, long, held.count) in
      let after : overwritten held.elements 0 zs ≡ overlaid held.elements 0 zs = sym (overlaid_is held.elements 0 zs (0 + length zs) refl (omega (arith, short))) in
      let element : (i : ℕ) → (visible_to own shared begun).sight.element x i ≡ in_range (slice_get (overlaid held.elements 0 zs) i) =
      λ i. element_of own own shared s begun x (λ y other. refl) new set i ∙ ap (λ (l : List ℤ). in_range (slice_get l i)) after in
      fewer_shown code known ((x, record { ty = Array t array.len; index = array.start }) ∷ known) (visible_to own shared begun) (record slots { numbers = overlaid slots.numbers array.start words }) (known_among x (record { ty = Array t array.len; index = array.start }) known at)
      (with_changed code known (visible_to own shared s) (visible_to own shared begun) slots (record slots { numbers = overlaid slots.numbers array.start words }) x (record { ty = Array t array.len; index = array.start }) shows (owned x (record { ty = Array t array.len; index = array.start }) at)
      (others own own shared s begun x (λ y other. refl) new set) (λ y other. statics_stay shared.statics shared.statics refl y)
      (length_overlaid slots.numbers array.start words) refl refl refl
      (λ k outside. get_outside slots.numbers array.start words k (λ j small e. outside (omega (arith, e), omega (arith, e, small, few))))
      (λ i other. (refl, refl)) (λ i other. refl) refl (λ i other. refl)
      (record {
        few = shown.few;
        array_type = ap type_of_array (found own own shared s begun x (λ y other. refl) new set) ∙ sym (ap type_of_array held.is) ∙ shown.array_type;
        elements = λ i below.
            let e = element_shown slots.numbers words held.elements zs array.start read short held.words i (omega (arith, below, held.count)) in
            record { number = e.number; is = element i ∙ e.is; fits = e.fits; word = e.word };
        past = λ i above. element i ∙ ap in_range (slice_get_past (overlaid held.elements 0 zs) i (omega (arith, above, held.count, length_overlaid held.elements 0 zs)));
      }))

-- ---- the array that a call names

array_there : {known : Known} {visible : Visible} {q : ParameterKind} {array : ArraySlots} {a : Actual} → IsOperand known visible q (operand.Array array) a → (t : ElementType) × IsArray known (variable_in_actual (Some a)) t array.len array.start
array_there (gives.array {u = t} at) = (t, at)
array_there (gives.reference kind there) = elim there [ ]

pub array_known : {known : Known} {visible : Visible} {ps : List ParameterKind} {operands : List Operand} {args : List Actual} (array : ArraySlots) → AllTogether (IsOperand known visible) ps operands args
    → operand_of operands 3 ≡ operand.Array array → (t : ElementType) × IsArray known (variable_given args 3) t array.len array.start
array_known {known} {visible} {ps} {operands} {args} array h given = by_place (place_at 3 h)
  where
    by_place : Place (IsOperand known visible) ps operands args 3 → (t : ElementType) × IsArray known (variable_given args 3) t array.len array.start
    by_place (There q o a at_p at_o at_a operand_is) =
        let it = array_there (subst (λ (x : Operand). IsOperand known visible q x a) (sym (ap operand_or_null at_o) ∙ given) operand_is) in
        (it.0, subst (λ (x : Option Actual). IsArray known (variable_in_actual x) it.0 array.len array.start) (sym at_a) it.1)
    by_place (Past at_p at_o at_a) = absurd (let clash : operand.Null ≡ operand.Array array = sym (ap operand_or_null at_o) ∙ given in cc)

-- ---- which answers change variables

-- what buffers in slots stand for once an answer is carried out
abbrev pub meant_after : Answer → List source_variable.Buffer → List source_variable.Buffer
meant_after (answers.Releases r) buffers = if gives_up r.mode then slice_set buffers r.slot NoBuffer else buffers
meant_after a buffers = buffers

module _ (classes : Classes) (brought : Brought) (space : Space) (locals : LocalTable) (kind : ResultKind) (shared : Shared) (s : source.Thread) where
  -- numbers were copied into the array that the call names
  pub record Copied (answer : Answer) (of_source : SourceAnswer) : Type 0 where
    pub region : ArrayRegion
    pub is : answer ≡ answers.CopiesOut region
    pub nothing : kind ≡ GivesNothing
    pub copied : IsCopiedOut brought space shared region
    pub told : of_source ≡ GetsRegion (region_named region copied.name)

  -- a buffer is released
  pub record Released (answer : Answer) (of_source : SourceAnswer) : Type 0 where
    pub release : Release
    pub is : answer ≡ answers.Releases release
    pub nothing : kind ≡ GivesNothing
    pub released : IsReleased brought space shared s release
    pub told : of_source ≡ table.released released.name released.mode

  -- or the variables, the number slots and the buffers are as they were
  abbrev pub AreKept : Answer → SourceAnswer → Type 0
  AreKept answer of_source =
      (variables_left false s (effect_told classes brought shared s of_source) ≡ s.variables) × ((numbers : List ℕ) → slots_after space answer numbers ≡ numbers) × ((buffers : List Buffer) → buffers_after answer buffers ≡ buffers) × ((buffers : List source_variable.Buffer) → meant_after answer buffers ≡ buffers)

module _ (classes : Classes) (brought : Brought) (space : Space) (locals : LocalTable) (shared : Shared) (s : source.Thread) where
  -- the variables that the effect of an answer leaves
  abbrev variables_told : SourceAnswer → Variables
  variables_told a = variables_left false s (effect_told classes brought shared s a)

  of_frames : (frames : List source.Frame) → variables_left false s (frames_effect classes shared s frames) ≡ s.variables
  of_frames frames = cond_both (nat_le (source.capacities frames) 1024) _ (refuses_frames classes shared s) (λ (e : CallEffect). variables_left false s e ≡ s.variables) (λ e. refl) (λ e. refl)

  of_enter : (n : ℕ) (o : Option source.Monitor) → variables_told (monitor_entered n o) ≡ s.variables
  of_enter n o = enter_cases classes brought shared s n (λ (e : CallEffect). variables_left false s e ≡ s.variables) (λ monitors. refl) refl o

  of_exit : (n : ℕ) (o : Option source.Monitor) → variables_told (monitor_left brought.thread n o) ≡ s.variables
  of_exit n o = exit_cases classes brought shared s n (λ (e : CallEffect). variables_left false s e ≡ s.variables) (λ monitors. refl) refl o

  pub kept_or_copied : {kind : ResultKind} {answer : Answer} {of_source : SourceAnswer} → is_carried answer ≡ true → IsAnswer classes brought space locals shared s answer kind of_source
      → AreKept classes brought space locals kind shared s answer of_source ⊎ (Copied classes brought space locals kind shared s answer of_source ⊎ Released classes brought space locals kind shared s answer of_source)
  unfolding effect_of
  kept_or_copied runs (row.copies_out {region = region} it) = inr (inl (record { region = region; is = refl; nothing = refl; copied = it; told = refl }))
  kept_or_copied runs (row.releases {r = r} it) = inr (inr (record { release = r; is = refl; nothing = refl; released = it; told = refl }))
  kept_or_copied runs (row.calls method) = absurd (cc (runs))
  kept_or_copied runs row.halts = absurd (cc (runs))
  kept_or_copied runs (row.ensures {more = more}) = inl (of_frames (with_capacity more s.frames), λ numbers. refl, λ buffers. refl, λ buffers. refl)
  kept_or_copied runs (row.pushes {capacity = capacity}) = inl (of_frames (record { capacity = capacity; references = [] } ∷ s.frames), λ numbers. refl, λ buffers. refl, λ buffers. refl)
  kept_or_copied runs (row.enters {o = o} it) = inl (of_enter o.name (source.monitor_of shared.monitors o.name), λ numbers. refl, λ buffers. refl, λ buffers. refl)
  kept_or_copied runs (row.exits {n = n} it) = inl (of_exit n (source.monitor_of shared.monitors n), λ numbers. refl, λ buffers. refl, λ buffers. refl)
  kept_or_copied runs does = inl (refl, λ numbers. refl, λ buffers. refl, λ buffers. refl)
