use Rattle.std.proofs.Common.{ℕ, ◌+◌, ◌≤◌, List, Option, Some, None, sym, subst, ◌∙◌, arith}
use Rattle.std.proofs.lemmas.Bool.{leb-true}
use Rattle.class_rules.specs.Class.{Classes}
use Rattle.class_rules.specs.declared.class_id.ClassId.{ClassId}
use Rattle.heap.specs.Heap.{left_of}
use Rattle.machine_scenes.specs.declared.new_object.New.TheVariants.{Exception, Fresh, Text}
use Rattle.machine_scenes.specs.declared.store.Store.{Store}
use Rattle.machine_calls.specs.Made.{HasMade, Makes, Raises}
use Rattle.machine_scenes.specs.NewObjects.{cells_of_new, texts_in}
use Rattle.machine_calls.proofs.Makes.{left_after, made_there}
use Rattle.machine_calls.proofs.NewValues.{same_cells}
use Rattle.machine_calls.proofs.make.raise.Goals as goal

module _ (classes : Classes) (texts : List (List ℕ)) (old between after : Store) (class : ClassId) (place message : ℕ) (first : HasMade classes texts old (Text place) between message) (room : cells_of_new classes texts (Text place) + cells_of_new classes texts (Fresh class) ≤ left_of old.heap) where
  -- there is room for the exception
  raised : (o : Option ℕ) → Makes classes texts between (Exception class message) after o → Raises classes texts old class place after o
  raised (Some a) made = (between, message, first, made)
  raised None made = absurd (omega (arith, made.1, room, left_after classes texts old between (Text place) message first, same_cells classes texts class message))

-- the message is there
pub make-requires-2-clause-there : goal.make-requires-2-clause-there
make-requires-2-clause-there c =
    let classes = c.args.classes.now in
    let texts = texts_in c.args.texts.now in
    made_there classes texts c.args.store.now c.make.new.store (Text c.args.place) c.unwrap-message.result (subst (Makes classes texts c.args.store.now (Text c.args.place) c.make.new.store) c.unwrap-message.ensures c.make.ensures)

pub returns : goal.returns
returns c =
    let classes = c.args.classes.now in
    let texts = texts_in c.args.texts.now in
    let old = c.args.store.now in
    raised classes texts old c.make.new.store c.make-2.new.store c.args.class c.args.place c.unwrap-message.result
    (subst (Makes classes texts old (Text c.args.place) c.make.new.store) c.unwrap-message.ensures c.make.ensures)
    (leb-true (cells_of_new classes texts (Text c.args.place) + cells_of_new classes texts (Fresh c.args.class)) (left_of old.heap) (sym c.can_raise.ensures ∙ c.if-not-can_raise.false))
    c.make-2.result c.make-2.ensures
