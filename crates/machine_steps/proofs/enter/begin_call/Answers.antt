use Rattle.std.proofs.Common.{◌≡◌, subst}
use Rattle.std.proofs.lemmas.Option.{slice_get_within}
use Rattle.code.specs.Depth.{Listing}
use Rattle.machine_threads.specs.Entry.{HasRoomFor}
use Rattle.machine_steps.proofs.enter.begin_call.Goals as goal

pub code_at-code-requires : goal.code_at-code-requires
code_at-code-requires c = slice_get_within c.args.program.now.codes c.args.entering.now.function c.requires.code c.requires.of_function

pub begin-requires-clause-class : goal.begin-requires-clause-class
begin-requires-clause-class c = c.requires.class

pub begin-requires-clause-room : goal.begin-requires-clause-room
begin-requires-clause-room c =
    let same : c.requires.code ≡ c.code_at-code.result.now = cc (c.requires.of_function, c.code_at-code.ensures.code) in
    subst (λ (k : Listing). HasRoomFor k c.args.entering.now.arguments.items) same c.requires.room

pub begin-requires-clause-few : goal.begin-requires-clause-few
begin-requires-clause-few c = c.requires.few
