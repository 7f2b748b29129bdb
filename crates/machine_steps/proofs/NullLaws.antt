-- What can be seen once a variable is made NULL.
use Rattle.std.proofs.Common.{◌≡◌, ℕ, zero, suc, Bool, true, List, [], ◌∷◌, length, Option, Some, None, refl, sym, ap, ◌∙◌, subst}
use Rattle.std.specs.Prelude.{slice_get, slice_set, is_none}
use Rattle.std.specs.List.{AllByRecursion}
use Rattle.std.specs.Option.{option_map}
use Rattle.base.specs.Bytes.{Identifier, lookup}
use Rattle.heap.specs.Heap.{Space}
use Rattle.syntax.specs.Tree.{SourceUnit}
use Rattle.semantics.specs.Object.{Reference}
use Rattle.code.specs.declared.instr.NullableVariable.{NullableVariable}
use Rattle.code.specs.declared.instr.NullableVariable.TheVariants as nullable
use Rattle.semantics.specs.CallEffects.{NullResult}
use Rattle.semantics.specs.CallStep.{filled, put, put_assigned}
use Rattle.semantics.specs.Sight.{holds_null, static_is_null, held_reference, held_field, held_method, scalar}
use Rattle.semantics.specs.declared.variable_kind.VariableKind.{VariableKind}
use Rattle.semantics.specs.declared.variable_kind.VariableKind.TheVariants as kinds
use Rattle.semantics.specs.Task.{Task, Target, Declared, Assigned, Tested, Dropped}
use Rattle.semantics.specs.Thread as source
use Rattle.semantics.specs.Thread.{Shared}
use Rattle.semantics.specs.declared.event.Event.TheVariants.{Quiet}
use Rattle.semantics.specs.ThreadStep.{with_tasks}
use Rattle.semantics.specs.Value.{Gives, Stuck}
use Rattle.semantics.specs.Variable.{Buffer, Variable, Scalar, LocalRef, FieldHandle, MethodHandle, Elements, LocalArray, NoBuffer, StaticReference, Empty, Live, Weakly, Cleared, Deleted, Statics, Variables, assign, copied_length, viewed}
use Rattle.semantics_safety.specs.Owners.{Owners, is_target}
use Rattle.semantics_safety.specs.StepSafe.{HoldsNoBuffer}
use Rattle.semantics_safety.proofs.NameLaws.{lookup_other, lookup_same, is_same}
use Rattle.code_meaning.specs.Slots as lower
use Rattle.code_meaning.specs.Slots.{Slots, Visible, visible_to, held_buffer, kind_of_variable, nulled_statics, type_of_array, IsNulled}
use Rattle.code_meaning.specs.Stands.{target_name}
use Rattle.code_meaning.specs.Does.{CanBeNull, kind_of_target}
use Rattle.code_meaning.specs.Layout.{Known}
use Rattle.code.specs.Depth.{Listing}
use Rattle.class_rules.specs.Class.{Classes}
use Rattle.machine_scenes.specs.FieldIds.{HandleAgrees, HandlesAgree}
use Rattle.machine_scenes.specs.declared.handle.Handle.{Handle}
use Rattle.machine_scenes.specs.declared.handle.Handle.TheVariants as handle
use Rattle.machine_scenes.specs.StoreAgrees.{HeldAgrees, StaticsAgree}
use Rattle.machine_scenes.specs.declared.references.Held.{Held}
use Rattle.machine_scenes.specs.declared.references.Held.TheVariants as held_by
use Rattle.machine_scenes.specs.Locals.{KeysAgree}
use Rattle.tables.specs.Elements.{OwnedNumbers}
use Rattle.tables.specs.Locals.{LocalTable}
use Rattle.machine_scenes.specs.Buffers.{BuffersAgree}
use Rattle.machine_scenes.specs.declared.buffer.Buffer.{Buffer as HeldBuffer}
use Rattle.machine_answers.specs.WorkedOut.{buffer_there}
use Rattle.machine_scenes.proofs.KeyLaws.{key_nulled, null_there}
use Rattle.machine_scenes.specs.Given.{held_in}
use Rattle.machine_scenes.specs.Statics.{References, held_or_null}
use Rattle.machine_threads.specs.SlotsHold.{IsSmallCopy}
use Rattle.machine_steps.specs.Variables.{is_empty_held, is_null, is_null_buffer, nulled_references, nulled_fields, nulled_buffers}
use Rattle.machine_steps.proofs.Changes.{is_nulled}
use Rattle.machine_steps.proofs.Acquisitions.{assigned_nothing, taken_by}
use Rattle.machine_steps.proofs.SlotBuffers.{all_put, buffers_nulled, null_buffer}

-- ---- the source

-- NULL went to a variable, or to a static, which shows it
pub record PutsNull (own : Owners) (shared : Shared) (s : source.Thread) (rest : List Task) (target : Target) (x : Identifier) (kind : Option VariableKind) : Type 0 where
  pub variables : Variables
  pub steps : put target NullResult shared (with_tasks s rest) ≡ source.Advances (record shared { statics = nulled_statics kind x shared.statics }) (record s { tasks = Some rest; variables = variables }) Quiet
  pub nulled : IsNulled (visible_to own shared s) kind x (visible_to own (record shared { statics = nulled_statics kind x shared.statics }) (record s { tasks = Some rest; variables = variables }))
  pub taken : taken_by variables ≡ taken_by s.variables

module _ (own : Owners) (shared : Shared) (s : source.Thread) (rest : List Task) where
  abbrev after : Variables → source.Thread
  after vs = record s { tasks = Some rest; variables = vs }

  declared_null : (target : Target) (x y : Identifier) (kind : VariableKind) (v : Variable) → put target NullResult shared (with_tasks s rest) ≡ source.Advances shared (after (assign y v s.variables)) Quiet → y ≡ x
      → scalar (Some v) ≡ Stuck → ((o : Option StaticReference) → holds_null (Some v) o ≡ Gives true) → ((o : Option StaticReference) → held_reference (Some v) o ≡ Empty) → held_field (Some v) ≡ None → held_method (Some v) ≡ None → held_buffer (Some v) ≡ NoBuffer → type_of_array (Some v) ≡ None → kind_of_variable (Some v) ≡ Some kind → copied_length v ≡ 0 → viewed v ≡ [] → HoldsNoBuffer (lookup y s.variables) → PutsNull own shared s rest target x (Some kind)
  declared_null target x y kind v steps same number null reference field method no_buffer no_array same_kind no_copy no_view free = record {
    variables = assign y v s.variables;
    steps = steps;
    nulled = subst (λ (z : Identifier). IsNulled (visible_to own shared s) (Some kind) z (visible_to own shared (after (assign y v s.variables)))) same
        (is_nulled own own shared s (after (assign y v s.variables)) y (λ z other. refl) v refl kind number (null (lookup y shared.statics)) (reference (lookup y shared.statics)) field method no_buffer no_array same_kind);
    taken = assigned_nothing y v s.variables no_copy no_view free;
  }

  -- a variable that can be NULL, whose kind is known
  nulled_variable : (x y : Identifier) (old new : Variable) (kind : VariableKind) → lookup y s.variables ≡ Some old → y ≡ x → kind_of_variable (Some old) ≡ Some kind → filled old NullResult ≡ new
      → scalar (Some new) ≡ Stuck → ((o : Option StaticReference) → holds_null (Some new) o ≡ Gives true) → ((o : Option StaticReference) → held_reference (Some new) o ≡ Empty) → held_field (Some new) ≡ None → held_method (Some new) ≡ None → held_buffer (Some new) ≡ NoBuffer → type_of_array (Some new) ≡ None → kind_of_variable (Some new) ≡ Some kind → copied_length new ≡ 0 → viewed new ≡ [] → HoldsNoBuffer (lookup y s.variables)
      → PutsNull own shared s rest (Assigned y) x (kind_of_variable (lookup y s.variables))
  nulled_variable x y old new kind found same was fills number null reference field method no_buffer no_array same_kind no_copy no_view free =
      subst (PutsNull own shared s rest (Assigned y) x) (sym (ap kind_of_variable found ∙ was))
      (declared_null (Assigned y) x y kind new (ap (put_assigned y NullResult shared (with_tasks s rest)) found ∙ ap (λ (v : Variable). source.Advances shared (after (assign y v s.variables)) Quiet) fills) same number null reference field method no_buffer no_array same_kind no_copy no_view free)

  -- a static
  nulled_static : (y : Identifier) → lookup y s.variables ≡ None → PutsNull own shared s rest (Assigned y) y None
  nulled_static y found =
      let now : Shared = record shared { statics = assign y Empty shared.statics } in
      let there : lookup y now.statics ≡ Some Empty = lookup_same y Empty shared.statics in
      record {
        variables = s.variables;
        steps = ap (put_assigned y NullResult shared (with_tasks s rest)) found;
        nulled = record {
          number = ap scalar found;
          is_null = ap (λ (v : Option Variable). holds_null v (lookup y now.statics)) found ∙ ap static_is_null there;
          reference = ap (λ (v : Option Variable). held_reference v (lookup y now.statics)) found ∙ ap (held_reference None) there;
          field = ap held_field found;
          method = ap held_method found;
          buffer = ap held_buffer found;
          array_type = ap type_of_array found;
          same_kind = ap kind_of_variable found;
          statics = refl;
          others = λ z other.
              let same : lookup z now.statics ≡ lookup z shared.statics = lookup_other y z Empty shared.statics other in
              record {
                number = refl;
                is_null = ap (λ (o : Option StaticReference). holds_null (lookup z s.variables) o) same;
                element = λ u i array. refl;
                reference = ap (λ (o : Option StaticReference). held_reference (lookup z s.variables) o) same;
                field = refl;
                method = refl;
                buffer = refl;
                array_type = refl;
                kind = refl;
                owner = refl;
              };
        };
        taken = refl;
      }

  assigned_null : (x y : Identifier) (null : Bool) (o : Option Variable) → lookup y s.variables ≡ o → y ≡ x → holds_null o (lookup y shared.statics) ≡ Gives null → HoldsNoBuffer (lookup y s.variables) → PutsNull own shared s rest (Assigned y) x (kind_of_variable (lookup y s.variables))
  assigned_null x y null None found same h free = subst (λ (z : Identifier). PutsNull own shared s rest (Assigned y) z (kind_of_variable (lookup y s.variables))) same (subst (PutsNull own shared s rest (Assigned y) y) (sym (ap kind_of_variable found)) (nulled_static y found))
  assigned_null x y null (Some (Scalar v)) found same h free = absurd (cc)
  assigned_null x y null (Some (LocalRef level q)) found same h free = nulled_variable x y (LocalRef level q) (LocalRef level None) kinds.Reference found same refl refl refl (λ o. refl) (λ o. refl) refl refl refl refl refl refl refl free
  assigned_null x y null (Some (FieldHandle f)) found same h free = nulled_variable x y (FieldHandle f) (FieldHandle None) kinds.Field found same refl refl refl (λ o. refl) (λ o. refl) refl refl refl refl refl refl refl free
  assigned_null x y null (Some (MethodHandle f)) found same h free = nulled_variable x y (MethodHandle f) (MethodHandle None) kinds.Method found same refl refl refl (λ o. refl) (λ o. refl) refl refl refl refl refl refl refl free
  assigned_null x y null (Some (Elements t b)) found same h free = nulled_variable x y (Elements t b) (Elements t NoBuffer) (kinds.Buffer t) found same refl refl refl (λ o. refl) (λ o. refl) refl refl refl refl refl refl refl free
  assigned_null x y null (Some (LocalArray t zs)) found same h free = absurd (cc)

  -- NULL goes to a variable that can be NULL
  pub puts_null : (code : Listing) (known : Known) (place : ℕ) (stack : List ℕ) (slots : Slots) (target : Target) (x : Identifier) → target_name target ≡ Some x → CanBeNull code known place stack slots (visible_to own shared s) target → ((y : Identifier) → is_target target y ≡ true → HoldsNoBuffer (lookup y s.variables)) → PutsNull own shared s rest target x (kind_of_target code known place stack slots (visible_to own shared s) target)
  puts_null code known place stack slots (Declared kinds.Number y) x is takes free = absurd takes
  puts_null code known place stack slots (Declared kinds.Reference y) x is takes free = declared_null (Declared kinds.Reference y) x y kinds.Reference (LocalRef (length s.frames) None) refl (cc) refl (λ o. refl) (λ o. refl) refl refl refl refl refl refl refl (free y (is_same y))
  puts_null code known place stack slots (Declared kinds.Field y) x is takes free = declared_null (Declared kinds.Field y) x y kinds.Field (FieldHandle None) refl (cc) refl (λ o. refl) (λ o. refl) refl refl refl refl refl refl refl (free y (is_same y))
  puts_null code known place stack slots (Declared kinds.Method y) x is takes free = declared_null (Declared kinds.Method y) x y kinds.Method (MethodHandle None) refl (cc) refl (λ o. refl) (λ o. refl) refl refl refl refl refl refl refl (free y (is_same y))
  puts_null code known place stack slots (Declared (kinds.Buffer t) y) x is takes free = declared_null (Declared (kinds.Buffer t) y) x y (kinds.Buffer t) (Elements t NoBuffer) refl (cc) refl (λ o. refl) (λ o. refl) refl refl refl refl refl refl refl (free y (is_same y))
  puts_null code known place stack slots (Assigned y) x is takes free = assigned_null x y takes.0 (lookup y s.variables) refl (cc) takes.1 (free y (is_same y))
  puts_null code known place stack slots (Tested then' else') x is takes free = absurd takes
  puts_null code known place stack slots Dropped x is takes free = absurd takes

-- ---- the machine

-- a slot's reference is NULL where its key is
null_found : (space : Space) (locals : LocalTable) (keys : List (Option ℕ)) (references : List Reference) (owners : List (Option ℕ)) (i : ℕ) (null : Bool) → KeysAgree space locals keys references owners → (o : Option Reference) → slice_get references i ≡ o → option_map is_none o ≡ Some null → is_none (held_in (slice_get keys i)) ≡ null
null_found space locals keys references owners i null h None at e = absurd (cc)
null_found space locals keys references owners i null h (Some q) at e = null_there space locals keys references owners i q h at ∙ (let same : is_none q ≡ null = cc in same)

-- a handle is NULL where the field ID or the method ID is
same_handle_null : (unit : SourceUnit) (classes : Classes) (h : Option Handle) (f : Option lower.Handle) → HandleAgrees unit classes h f → is_none h ≡ is_none f
same_handle_null unit classes None None a = refl
same_handle_null unit classes None (Some f) a = absurd a
same_handle_null unit classes (Some (handle.Field h)) None a = absurd a
same_handle_null unit classes (Some (handle.Method h)) None a = absurd a
same_handle_null unit classes (Some h) (Some f) a = refl

handle_null_there : (unit : SourceUnit) (classes : Classes) (handles : List (Option Handle)) (fields : List (Option lower.Handle)) (i : ℕ) (null : Bool) → HandlesAgree unit classes handles fields → option_map is_none (slice_get fields i) ≡ Some null → is_none (held_in (slice_get handles i)) ≡ null
handle_null_there unit classes [] [] i null h e = absurd (cc)
handle_null_there unit classes [] (f ∷ fields) i null h e = absurd h
handle_null_there unit classes (a ∷ handles) [] i null h e = absurd h
handle_null_there unit classes (a ∷ handles) (f ∷ fields) zero null h e = same_handle_null unit classes a f h.0 ∙ (let same : is_none f ≡ null = cc in same)
handle_null_there unit classes (a ∷ handles) (f ∷ fields) (suc i) null h e = handle_null_there unit classes handles fields i null h.1 e

buffer_found : (space : Space) (copies : List (Option OwnedNumbers)) (owner : ℕ) (slots : List HeldBuffer) (buffers : List Buffer) (i : ℕ) (null : Bool) → BuffersAgree space copies owner slots buffers → (o : Option Buffer) → slice_get buffers i ≡ o → option_map lower.is_no_buffer o ≡ Some null
    → is_null_buffer (buffer_there slots i) ≡ null
buffer_found space copies owner slots buffers i null h None at e = absurd (cc)
buffer_found space copies owner slots buffers i null h (Some b) at e = null_buffer space copies owner slots buffers i b h at ∙ (let same : lower.is_no_buffer b ≡ null = cc in same)

-- a static is NULL where the source's is
empty_agrees : (space : Space) (h : Held) (r : StaticReference) → HeldAgrees space h r → is_empty_held h ≡ lower.is_empty r
empty_agrees space held_by.Empty Empty e = refl
empty_agrees space held_by.Empty (Live n) e = absurd e
empty_agrees space held_by.Empty (Weakly n) e = absurd e
empty_agrees space held_by.Empty Cleared e = absurd e
empty_agrees space held_by.Empty Deleted e = absurd e
empty_agrees space (held_by.At a) Empty e = absurd e
empty_agrees space (held_by.At a) (Live n) e = refl
empty_agrees space (held_by.At a) (Weakly n) e = absurd e
empty_agrees space (held_by.At a) Cleared e = absurd e
empty_agrees space (held_by.At a) Deleted e = absurd e
empty_agrees space (held_by.Weakly a) Empty e = absurd e
empty_agrees space (held_by.Weakly a) (Live n) e = absurd e
empty_agrees space (held_by.Weakly a) (Weakly n) e = refl
empty_agrees space (held_by.Weakly a) Cleared e = absurd e
empty_agrees space (held_by.Weakly a) Deleted e = absurd e
empty_agrees space held_by.Cleared Empty e = absurd e
empty_agrees space held_by.Cleared (Live n) e = absurd e
empty_agrees space held_by.Cleared (Weakly n) e = absurd e
empty_agrees space held_by.Cleared Cleared e = refl
empty_agrees space held_by.Cleared Deleted e = absurd e
empty_agrees space held_by.Deleted Empty e = absurd e
empty_agrees space held_by.Deleted (Live n) e = absurd e
empty_agrees space held_by.Deleted (Weakly n) e = absurd e
empty_agrees space held_by.Deleted Cleared e = absurd e
empty_agrees space held_by.Deleted Deleted e = refl

null_at : (space : Space) (helds : List Held) (statics : Statics) (i : ℕ) (null : Bool) → StaticsAgree space helds statics → option_map (λ (s : Identifier × StaticReference). lower.is_empty s.1) (slice_get statics i) ≡ Some null → is_empty_held (held_or_null (slice_get helds i)) ≡ null
null_at space [] [] i null h e = absurd (cc)
null_at space [] (s ∷ statics) i null h e = absurd h
null_at space (k ∷ helds) [] i null h e = absurd h
null_at space (k ∷ helds) (s ∷ statics) zero null h e = empty_agrees space k s.1 h.0 ∙ (let same : lower.is_empty s.1 ≡ null = cc in same)
null_at space (k ∷ helds) (s ∷ statics) (suc i) null h e = null_at space helds statics i null h.1 e

-- a variable is NULL where the source's is
pub variable_null_agrees : (unit : SourceUnit) (classes : Classes) (space : Space) (copies : List (Option OwnedNumbers)) (owner : ℕ) (references : References) (handles : List (Option Handle)) (buffers : List HeldBuffer) (visible : Visible) (slots : Slots) (variable : NullableVariable) (null : Bool) → KeysAgree space references.locals references.keys slots.references slots.owners → StaticsAgree space references.statics visible.statics → HandlesAgree unit classes handles slots.fields → BuffersAgree space copies owner buffers slots.buffers
    → lower.holds_null visible slots variable ≡ Some null → is_null references handles buffers variable ≡ null
variable_null_agrees unit classes space copies owner references handles buffers visible slots (nullable.Local i) null h g k b e = null_found space references.locals references.keys slots.references slots.owners i null h (slice_get slots.references i) refl e
variable_null_agrees unit classes space copies owner references handles buffers visible slots (nullable.Static i) null h g k b e = null_at space references.statics visible.statics i null g e
variable_null_agrees unit classes space copies owner references handles buffers visible slots (nullable.FieldId i) null h g k b e = handle_null_there unit classes handles slots.fields i null k e
variable_null_agrees unit classes space copies owner references handles buffers visible slots (nullable.Buffer i) null h g k b e = buffer_found space copies owner buffers slots.buffers i null b (slice_get slots.buffers i) refl e

set_fields_agree : (unit : SourceUnit) (classes : Classes) (handles : List (Option Handle)) (fields : List (Option lower.Handle)) (i : ℕ) → HandlesAgree unit classes handles fields → HandlesAgree unit classes (slice_set handles i None) (slice_set fields i None)
set_fields_agree unit classes [] [] i h = tt
set_fields_agree unit classes [] (f ∷ fields) i h = absurd h
set_fields_agree unit classes (a ∷ handles) [] i h = absurd h
set_fields_agree unit classes (a ∷ handles) (f ∷ fields) zero h = (tt, h.1)
set_fields_agree unit classes (a ∷ handles) (f ∷ fields) (suc i) h = (h.0, set_fields_agree unit classes handles fields i h.1)

-- the slots with NULL in a variable
pub record NulledAgree (unit : SourceUnit) (classes : Classes) (space : Space) (copies : List (Option OwnedNumbers)) (owner : ℕ) (locals : LocalTable) (keys : List (Option ℕ)) (handles : List (Option Handle)) (buffers : List HeldBuffer) (slots : Slots) (variable : NullableVariable) : Type 0 where
  pub references : KeysAgree space locals (nulled_references variable keys) (lower.with_null variable slots).references slots.owners
  pub fields : HandlesAgree unit classes (nulled_fields variable handles) (lower.with_null variable slots).fields
  pub buffers_agree : BuffersAgree space copies owner (nulled_buffers variable buffers) (lower.with_null variable slots).buffers
  pub small : AllByRecursion IsSmallCopy (lower.with_null variable slots).buffers
  pub numbers : (lower.with_null variable slots).numbers ≡ slots.numbers

pub nulled_agree : (unit : SourceUnit) (classes : Classes) (space : Space) (copies : List (Option OwnedNumbers)) (owner : ℕ) (locals : LocalTable) (keys : List (Option ℕ)) (handles : List (Option Handle)) (buffers : List HeldBuffer) (slots : Slots) (variable : NullableVariable) → KeysAgree space locals keys slots.references slots.owners → HandlesAgree unit classes handles slots.fields
    → BuffersAgree space copies owner buffers slots.buffers → AllByRecursion IsSmallCopy slots.buffers → NulledAgree unit classes space copies owner locals keys handles buffers slots variable
nulled_agree unit classes space copies owner locals keys handles buffers slots (nullable.Local i) h k b small = record { references = key_nulled space locals keys slots.references slots.owners i h; fields = k; buffers_agree = b; small = small; numbers = refl }
nulled_agree unit classes space copies owner locals keys handles buffers slots (nullable.Static i) h k b small = record { references = h; fields = k; buffers_agree = b; small = small; numbers = refl }
nulled_agree unit classes space copies owner locals keys handles buffers slots (nullable.FieldId i) h k b small = record { references = h; fields = set_fields_agree unit classes handles slots.fields i k; buffers_agree = b; small = small; numbers = refl }
nulled_agree unit classes space copies owner locals keys handles buffers slots (nullable.Buffer i) h k b small = record { references = h; fields = k; buffers_agree = buffers_nulled space copies owner buffers slots.buffers i b; small = all_put IsSmallCopy slots.buffers i NoBuffer small tt; numbers = refl }
