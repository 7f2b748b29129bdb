-- What a call of a function of the JNI can change.
use Rattle.std.specs.Prelude.{◌≡◌, ℕ, Option}
use Rattle.machine_scenes.specs.declared.activation.Activation.{Activation}
use Rattle.machine_scenes.specs.declared.store.Store.{Store}

-- the store, the exception that is pending, and the call in progress
pub record CallState : Type 0 where
  pub store : Store
  pub pending : Option ℕ
  pub activation : Activation

-- these three
abbrev pub state_of : Store → (pending : Option ℕ) → Activation → CallState
state_of store pending activation = record { store = store; pending = pending; activation = activation }

-- all is as it was
abbrev pub IsAsBefore : (before after : CallState) → Type 0
IsAsBefore before after = (after.store ≡ before.store) × (after.pending ≡ before.pending) × (after.activation ≡ before.activation)

-- of a call in progress at most the frames, the number slots and the slots of buffers have changed
abbrev pub ChangesSlots : (activation after : Activation) → Type 0
ChangesSlots activation after =
    after ≡ record activation {
      locals = after.locals;
      slots = record activation.slots {
        numbers = after.slots.numbers;
        buffers = after.slots.buffers;
      };
    }

-- at most the frames and the slots of buffers have
abbrev pub ChangesBuffers : (activation after : Activation) → Type 0
ChangesBuffers activation after = after ≡ record activation { locals = after.locals; slots = record activation.slots { buffers = after.slots.buffers } }
