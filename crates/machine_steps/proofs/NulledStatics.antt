-- The store once NULL was stored in a variable.
use Rattle.std.proofs.Common.{inl, inr, ◌≡◌, ℕ, List, Option, Some, None, refl, sym, subst}
use Rattle.std.specs.Global.{Vec}
use Rattle.base.specs.Bytes.{Identifier}
use Rattle.semantics.specs.declared.variable_kind.VariableKind.{VariableKind}
use Rattle.semantics.specs.Thread.{Shared}
use Rattle.semantics.specs.Variable.{Empty, Statics}
use Rattle.semantics.specs.World.{World}
use Rattle.code.specs.declared.instr.NullableVariable.{NullableVariable}
use Rattle.code.specs.declared.instr.NullableVariable.TheVariants as nullable
use Rattle.code.specs.Depth.{Listing}
use Rattle.code_meaning.specs.Layout.{Known}
use Rattle.code_meaning.specs.Does.{IsStoredIn}
use Rattle.code_meaning.specs.Lowered.{Lowered}
use Rattle.code_meaning.specs.Slots as lower
use Rattle.semantics_safety.specs.Owners.{Owners}
use Rattle.code_meaning.specs.Slots.{Slots, visible_to}
use Rattle.machine_scenes.specs.Statics.{StaticReference as InMemory}
use Rattle.semantics.specs.declared.static_reference.StaticReference.TheVariants as static
use Rattle.machine_scenes.specs.declared.store.Store.{Store}
use Rattle.machine_scenes.specs.Buffers.{Acquired}
use Rattle.machine_scenes.specs.StoreAgrees.{MayChange, StoreAgrees}
use Rattle.machine_steps.specs.Variables.{nulled_statics}
use Rattle.machine_calls.proofs.HeldStatics.{keys_left, weak_keys_put}
use Rattle.machine_calls.proofs.StaticStores.{with_same, with_static}

module _ (p : Lowered) (w : World) (store : Store) (shared : Shared) (all : Acquired) (h : StoreAgrees p w store shared all) where
  module _ (own : Owners) (code : Listing) (known : Known) (place : ℕ) (stack : List ℕ) (slots : Slots) (s : _) (statics : Vec InMemory) (x : Identifier) where
    -- NULL was stored
    pub store_nulled : (variable : NullableVariable) (kind : Option VariableKind) → IsStoredIn code known place stack slots (visible_to own shared s) variable kind x → statics.items ≡ nulled_statics variable store.statics.items
        → StoreAgrees p w (record store { statics = statics }) (record shared { statics = lower.nulled_statics kind x shared.statics }) all
    store_nulled (nullable.Local i) kind stored is = subst (λ (k : Option VariableKind). StoreAgrees p w (record store { statics = statics }) (record shared { statics = lower.nulled_statics k x shared.statics }) all) (sym stored) (with_same p w store shared all h statics is)
    store_nulled (nullable.FieldId i) kind (inl stored) is = subst (λ (k : Option VariableKind). StoreAgrees p w (record store { statics = statics }) (record shared { statics = lower.nulled_statics k x shared.statics }) all) (sym stored) (with_same p w store shared all h statics is)
    store_nulled (nullable.FieldId i) kind (inr stored) is = subst (λ (k : Option VariableKind). StoreAgrees p w (record store { statics = statics }) (record shared { statics = lower.nulled_statics k x shared.statics }) all) (sym stored) (with_same p w store shared all h statics is)
    store_nulled (nullable.Buffer i) kind stored is = subst (λ (k : Option VariableKind). StoreAgrees p w (record store { statics = statics }) (record shared { statics = lower.nulled_statics k x shared.statics }) all) (sym stored.1) (with_same p w store shared all h statics is)
    store_nulled (nullable.Static i) kind stored is =
        subst (λ (k : Option VariableKind). StoreAgrees p w (record store { statics = statics }) (record shared { statics = lower.nulled_statics k x shared.statics }) all) (sym stored.0)
        (with_static p w store shared all h statics x i static.Empty Empty is stored.1.static.place tt (keys_left store.globals store.statics.items i static.Empty (λ key e. cc) h.keys) (weak_keys_put store.weaks store.statics.items i static.Empty (λ key e. absurd (cc)) h.weak_keys))

-- what is NULL then
pub may_be_nulled : (kind : Option VariableKind) (x : Identifier) (statics : Statics) → MayChange statics (lower.nulled_statics kind x statics)
may_be_nulled (Some kind) x statics = inl refl
may_be_nulled None x statics = inr (x, Empty, refl)
