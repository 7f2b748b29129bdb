-- Frames that lie in memory, as those of the language.
use Rattle.std.specs.Prelude.{ℕ, List, [], map, reverse, flat_map, Some}
use Rattle.semantics.specs.CallEffects.{deleted_in}
use Rattle.semantics.specs.Thread.{Frame}
use Rattle.replay_objects.specs.declared.frame.Frame.{Frame as InMemory}

abbrev pub frame_view : InMemory → Frame
frame_view f = record { capacity = f.capacity; references = f.references }

-- frames of which the last is the current one
abbrev pub frames_view : List InMemory → List Frame
frames_view frames = reverse (map frame_view frames)

-- a frame without references
abbrev pub new_frame : ℕ → Frame
new_frame capacity = record { capacity = capacity; references = [] }

-- a frame with one reference less
abbrev pub without_in : ℕ → Frame → Frame
without_in n frame = deleted_in n (Some frame)

-- the references in all frames
abbrev pub references_in : List Frame → List ℕ
references_in frames = flat_map (λ (f : Frame). f.references) frames
