use Rattle.std.proofs.Common.{◌≡◌, refl, subst}
use Rattle.std.proofs.lemmas.Option.{slice_get_within}
use Rattle.code.specs.Depth.{Listing}
use Rattle.machine_threads.specs.Entry.{HasRoomFor}
use Rattle.machine_steps.proofs.enter.begin_in_spare.Goals as goal

pub code_at-code-requires : goal.code_at-code-requires
code_at-code-requires c = slice_get_within c.args.program.now.codes c.args.entering.now.function c.requires.code c.requires.of_function

pub begin_again-requires-clause-class : goal.begin_again-requires-clause-class
begin_again-requires-clause-class c = c.requires.class

pub begin_again-requires-clause-room : goal.begin_again-requires-clause-room
begin_again-requires-clause-room c =
    let same : c.requires.code ≡ c.code_at-code.result.now = cc (c.requires.of_function, c.code_at-code.ensures.code) in
    subst (λ (k : Listing). HasRoomFor k c.args.entering.now.arguments.items) same c.requires.room

pub begin_again-requires-clause-few : goal.begin_again-requires-clause-few
begin_again-requires-clause-few c = c.requires.few

pub returns-else-not-serves-clause-begins : goal.returns-else-not-serves-clause-begins
returns-else-not-serves-clause-begins c h = (
  c.begin_again.new.ended,
  refl,
  record { code = c.code_at-code.result.now; of_function = c.code_at-code.ensures.code; begins = c.begin_again.ensures },
)
