-- When two states are the same, as a test.
use Rattle.std.proofs.Common.{◌≡◌, ℕ, Bool, true, false, ◌&&◌, List, length, map, refl, sym, ap, ◌∙◌, subst, Decides, true≢false, ◌==◌, bytes_eq}
use Rattle.std.specs.Prelude.{reverse}
use Rattle.std.specs.List.{zip}
use Rattle.std.proofs.lemmas.Bool.{and_from, and_parts}
use Rattle.std.proofs.lemmas.Bool.Decides.{Decides-eqb}
use Rattle.std.proofs.lemmas.List.{reverse-reverse}
use Rattle.std.proofs.lemmas.Slice.Zip.{seconds-zip}
use lib.Pointwise.{pointwise, pointwise_decides, bytes_decides}
use Rattle.base.specs.Bytes.{Identifier}
use Rattle.base.specs.declared.element.ElementType.{ElementType}
use Rattle.base.specs.declared.element.ElementType.TheVariants.{Int as JInt, Short as JShort, Byte as JByte, Char as JChar}
use Rattle.base.specs.Element.{same_element}
use Rattle.base.proofs.Truths.{same_truth}
use Rattle.jni.specs.declared.access.Access.{Access}
use Rattle.jni.specs.declared.access.Access.TheVariants.{ElementsCopy, ArrayView, CharsCopy, CharsView}
use Rattle.jni.specs.Access.{same_access}
use Rattle.region_rules.specs.RegionStates.{BufferState, Free, Untested, Usable, VariableState, ReferenceAt, BufferIn, RegionState}
use Rattle.region_states.specs.SameStates.{same_flag, same_buffer, same_variable, NamedState, same_named, same_state}

element_same : (a b : ElementType) → same_element a b ≡ true → a ≡ b
element_same JInt JInt h = refl
element_same JShort JShort h = refl
element_same JByte JByte h = refl
element_same JChar JChar h = refl
element_same a b h = absurd (true≢false (sym h))

element_own : (a : ElementType) → same_element a a ≡ true
element_own JInt = refl
element_own JShort = refl
element_own JByte = refl
element_own JChar = refl

access_same : (a b : Access) → same_access a b ≡ true → a ≡ b
access_same (ElementsCopy t) (ElementsCopy u) h = ap ElementsCopy (element_same t u h)
access_same ArrayView ArrayView h = refl
access_same CharsCopy CharsCopy h = refl
access_same CharsView CharsView h = refl
access_same a b h = absurd (true≢false (sym h))

access_own : (a : Access) → same_access a a ≡ true
access_own (ElementsCopy t) = element_own t
access_own ArrayView = refl
access_own CharsCopy = refl
access_own CharsView = refl

flag_same : (a b : Bool) → same_flag a b ≡ true → a ≡ b
flag_same true true h = refl
flag_same false false h = refl
flag_same true false h = absurd (true≢false (sym h))
flag_same false true h = absurd (true≢false (sym h))

flag_own : (a : Bool) → same_flag a a ≡ true
flag_own true = refl
flag_own false = refl

buffer_same : (a b : BufferState) → same_buffer a b ≡ true → a ≡ b
buffer_same Free Free h = refl
buffer_same (Untested a x) (Untested b y) h = let e = and_parts (same_access a b) (bytes_eq x y) h in λ i. Untested (access_same a b e.0 i) ((bytes_decides x y).0 e.1 i)
buffer_same (Usable a x) (Usable b y) h = let e = and_parts (same_access a b) (bytes_eq x y) h in λ i. Usable (access_same a b e.0 i) ((bytes_decides x y).0 e.1 i)
buffer_same a b h = absurd (true≢false (sym h))

buffer_own : (a : BufferState) → same_buffer a a ≡ true
buffer_own Free = refl
buffer_own (Untested a x) = and_from _ _ (access_own a) ((bytes_decides x x).1 refl)
buffer_own (Usable a x) = and_from _ _ (access_own a) ((bytes_decides x x).1 refl)

variable_same : (a b : VariableState) → same_variable a b ≡ true → a ≡ b
variable_same (ReferenceAt l v) (ReferenceAt m u) h = let e = and_parts (l == m) (same_flag v u) h in λ i. ReferenceAt ((Decides-eqb l m).0 e.0 i) (flag_same v u e.1 i)
variable_same (BufferIn a) (BufferIn b) h = ap BufferIn (buffer_same a b h)
variable_same a b h = absurd (true≢false (sym h))

variable_own : (a : VariableState) → same_variable a a ≡ true
variable_own (ReferenceAt l v) = and_from _ _ ((Decides-eqb l l).1 refl) (flag_own v)
variable_own (BufferIn b) = buffer_own b

known_decides : (a b : VariableState) → Decides (same_variable a b) (a ≡ b)
known_decides a b = (variable_same a b, λ e. subst (λ c. same_variable a c ≡ true) e (variable_own a))

entry_decides : (v w : NamedState) → (same_named v w ≡ true → v ≡ w) × (v ≡ w → same_named v w ≡ true)
entry_decides v w = (
  (λ h. let e = and_parts (bytes_eq v.0 w.0) (same_variable v.1 w.1) h in λ i. ((bytes_decides v.0 w.0).0 e.0 i, variable_same v.1 w.1 e.1 i)),
  (λ e. subst (λ u. same_named v u ≡ true) e (and_from _ _ ((bytes_decides v.0 v.0).1 refl) (variable_own v.1))),
)

pub state_decides : (a b : RegionState) → Decides (same_state a b) (a ≡ b)
state_decides a b = (
  (λ h. let e = and_parts (pointwise same_named a.variables b.variables) (a.frames == b.frames) h in
      λ i. record { variables = (pointwise_decides entry_decides a.variables b.variables).0 e.0 i; frames = (Decides-eqb a.frames b.frames).0 e.1 i }),
  (λ e. subst (λ u. same_state a u ≡ true) e (and_from _ _ ((pointwise_decides entry_decides a.variables a.variables).1 refl) ((Decides-eqb a.frames a.frames).1 refl))),
)

-- ---- what is known of the same variables

-- where the first of two is false
pub no_more : (s t : Bool) → s ≡ false → s ≡ (s && t)
no_more true t h = absurd (true≢false h)
no_more false t h = refl

unreversed : {A : Type 0} (xs ys : List A) → reverse xs ≡ reverse ys → xs ≡ ys
unreversed xs ys e = sym (reverse-reverse xs) ∙ ap reverse e ∙ reverse-reverse ys

module _ (names : List Identifier) (vs ws : List VariableState) (m n : ℕ) (a : length vs ≡ length names) (b : length ws ≡ length names) where
  abbrev first : RegionState
  first = record { variables = reverse (zip names vs); frames = m }

  abbrev second : RegionState
  second = record { variables = reverse (zip names ws); frames = n }

  values : first ≡ second → vs ≡ ws
  values e = sym (seconds-zip names vs a) ∙ ap (map (λ (v : NamedState). v.1)) (unreversed (zip names vs) (zip names ws) (ap (λ (s : RegionState). s.variables) e)) ∙ seconds-zip names ws b

  -- states of the same variables are the same where the same is known of each
  pub same_known : (pointwise same_variable vs ws && m == n) ≡ same_state first second
  same_known = same_truth _ _
      (λ h. let e = and_parts (pointwise same_variable vs ws) (m == n) h in
      (state_decides first second).1 (λ i. record { variables = reverse (zip names ((pointwise_decides known_decides vs ws).0 e.0 i)); frames = (Decides-eqb m n).0 e.1 i }))
      (λ h. let e = (state_decides first second).0 h in
      and_from _ _ ((pointwise_decides known_decides vs ws).1 (values e)) ((Decides-eqb m n).1 (ap (λ (s : RegionState). s.frames) e)))

pub same_swapped : (a b : RegionState) → same_state a b ≡ same_state b a
same_swapped a b = same_truth _ _ (λ h. (state_decides b a).1 (sym ((state_decides a b).0 h))) (λ h. (state_decides a b).1 (sym ((state_decides b a).0 h)))
