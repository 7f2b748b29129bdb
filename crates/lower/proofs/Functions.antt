-- The code of a whole function.
use Rattle.std.proofs.Common.{◌≡◌, ◌+◌, ◌≤◌, List, [], ◌∷◌, length, refl, subst, arith}
use Rattle.std.specs.Prelude.{IsTrue}
use Rattle.std.proofs.lemmas.List.{append-nil}
use Rattle.base.specs.Limits.{most_steps}
use Rattle.syntax.specs.Tree.{Function}
use Rattle.semantics.specs.Object.{ObjectValue}
use Rattle.code.specs.declared.instr.Instr.TheVariants as instr
use Rattle.code.specs.Depth.{IsValid}
use Rattle.code.proofs.Pieces.{piece_moves, piece_jumps}
use Rattle.semantics.specs.Task.{tasks_of}
use Rattle.code_meaning.specs.Layout.{Known, entry_layout, block_layout, function_slots}
use Rattle.code_meaning.specs.Coding.{block_code, function_code}
use Rattle.code_meaning.specs.Length.{function_steps}
use Rattle.code_meaning.specs.Slots.{ArgumentsFit, HasRoom}
use Rattle.code_meaning.specs.Fits.{HasRoomFor, AreStatics, FunctionFits}
use Rattle.code_meaning.specs.Stands.{TasksStand, StandsFor, block_returns}
use Rattle.code_meaning.specs.Lowered.{IsCodeOf}
use Rattle.lower.specs.Listings.{listing_of}
use Rattle.lower.proofs.CodePlaces.{has_front, has_all}
use Rattle.lower.proofs.Layouts.{block_grows}
use Rattle.lower.proofs.Bodies.{begins}
use Rattle.lower.proofs.BlockSteps.{steps}
use Rattle.lower.proofs.PathsReturn.{block_tasks_return}
use Rattle.lower.proofs.Validity.{block_piece}
use Rattle.lower.proofs.Within.{both_within, block_within}
use Rattle.lower.proofs.EntryLaws.{entry_shows, counts}
use Rattle.lower.proofs.EntryLayouts.{entry_laid}

room_for_all : (statics : Known) (f : Function) → HasRoomFor (function_slots statics f) (block_layout (entry_layout statics f) f.body).slots
room_for_all statics f = record { numbers = omega arith; references = omega arith; statics = omega arith; field_ids = omega arith; buffers = omega arith }

pub function_valid : (statics : Known) (f : Function) → AreStatics statics → FunctionFits statics f → IsValid (listing_of statics f)
function_valid statics f known fits =
    let l = entry_layout statics f in
    let body = block_code l f.body in
    let slots = function_slots statics f in
    let piece = block_piece f.body l fits in
    record {
      moves = piece_moves body 0 piece;
      jumps = piece_jumps body 0 piece;
      slots = both_within slots body (instr.Return ∷ []) (block_within slots f.body l fits (entry_laid statics f known) (room_for_all statics f)) refl;
    }

function_room : (statics : Known) (f : Function) (arguments : List ObjectValue) → ArgumentsFit f.parameters arguments → HasRoom (listing_of statics f) arguments
function_room statics f arguments fit =
    let own = counts f.parameters arguments 0 1 fit in
    let further = block_grows f.body (entry_layout statics f) in
    record { numbers = omega (arith, own.0, further.numbers); references = omega (arith, own.1, further.references) }

function_begins : (statics : Known) (f : Function) → AreStatics statics → FunctionFits statics f → IsTrue (block_returns f.body) → StandsFor (listing_of statics f) (entry_layout statics f).known 0 [] (tasks_of f.body)
function_begins statics f known fits returns =
    let l = entry_layout statics f in
    let body = block_code l f.body in
    let code = listing_of statics f in
    record {
      stand = subst (TasksStand code l.known 0 []) (append-nil (tasks_of f.body))
          (begins code f.body l 0 [] (record { at = has_front (function_code statics f) 0 body (instr.Return ∷ []) (has_all (function_code statics f) []); fits = fits; laid = entry_laid statics f known; room = room_for_all statics f }) (λ names among. tt));
      returns = block_tasks_return f.body returns;
    }

pub is_code_of : (statics : Known) (f : Function) → AreStatics statics → FunctionFits statics f → IsTrue (block_returns f.body) → length (function_code statics f) ≡ function_steps f + 1 → function_steps f ≤ most_steps → IsCodeOf statics f (listing_of statics f)
is_code_of statics f known fits returns counted short = record {
  valid = function_valid statics f known fits;
  counted = counted;
  short = short;
  begins = function_begins statics f known fits returns;
  room = function_room statics f;
  shows = entry_shows statics f (listing_of statics f) known;
  steps = λ visible known slots place stack task rest shows sees stands. steps (listing_of statics f) known place stack slots visible shows sees task rest stands;
}
