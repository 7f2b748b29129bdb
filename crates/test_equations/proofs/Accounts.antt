-- Room, accounts of a thread, and loading.
use Rattle.std.specs.Option.{option_map_or}
use Rattle.std.specs.Prelude.{◌≡◌, ◌∷◌, pos, true, false, [], Some, codes, refl, fold, replicate, ℕ}
use Rattle.syntax.specs.Tree.{SourceUnit}
use Rattle.class_rules.specs.Additions.{with_class}
use Rattle.class_rules.specs.BuiltIns.{built_ins}
use Rattle.class_rules.specs.Class.{Plain}
use Rattle.semantics.specs.declared.event.Ending.TheVariants.{Unfinished, Ended}
use Rattle.semantics.specs.Object.{ObjectValue, Refers}
use Rattle.semantics.specs.World.{World, fits_cells}
use Rattle.semantics.specs.Load.{Loads, first_load_fault, load_faults}
use Rattle.semantics.specs.Reachable.{live_size}
use Rattle.semantics.specs.Run.{account, replay, wanted}
use Rattle.semantics.specs.State.{State}
use Rattle.test_equations.proofs.Arguments.{the_length_of_an_array}
use Rattle.test_equations.proofs.Computed.{opened}
use Rattle.test_equations.proofs.Programs.{unit_of, entries}
use Rattle.test_equations.proofs.Room.{an_array_that_fills_the_heap, an_array_that_is_too_long}

abbrev after : SourceUnit → World → (n : ℕ) → (State → ℕ) → ℕ
after unit w n f = option_map_or f (replay unit w (entries 1 n)) 0

abbrev plain : World
plain =
    record {
      heap_line = 1;
      methods = false;
      cells = 512;
      classes = fold with_class built_ins
          (record { name = codes "A"; superclass = Some 1; kind = Plain; fields = []; statics = [] } ∷ []);
      objects = [];
      threads = (record { line = 3; function = codes "Java_A_f"; arguments = [] } ∷ []) ∷ [];
    }

-- the first array is reachable until its reference is deleted
live_before : after an_array_that_fills_the_heap plain 3 (live_size plain) ≡ 239
unfolding opened
live_before = refl

live_after : after an_array_that_fills_the_heap plain 4 (live_size plain) ≡ 136
unfolding opened
live_after = refl

-- 136 + 376 cells, and one more
wants_all : after an_array_that_fills_the_heap plain 5 (λ s. wanted an_array_that_fills_the_heap plain s 1) ≡ 512
unfolding opened
wants_all = refl

wants_more : after an_array_that_is_too_long plain 5 (λ s. wanted an_array_that_is_too_long plain s 1) ≡ 513
unfolding opened
wants_more = refl

abbrev with_array : World
with_array =
    record {
      heap_line = 1;
      methods = false;
      cells = 512;
      classes = fold with_class built_ins
          (record { name = codes "A"; superclass = Some 1; kind = Plain; fields = []; statics = [] } ∷ []);
      objects = record {
        class = 23;
        values = ObjectValue.Number (pos 7) ∷ ObjectValue.Number (pos 8) ∷ ObjectValue.Number (pos 9) ∷ [];
      }
          ∷ [];
      threads = (record { line = 4; function = codes "Java_A_f"; arguments = Refers (Some 46) ∷ [] } ∷ []) ∷ [];
    }

abbrev with_number : World
with_number =
    record {
      heap_line = 1;
      methods = false;
      cells = 512;
      classes = fold with_class built_ins
          (record { name = codes "A"; superclass = Some 1; kind = Plain; fields = []; statics = [] } ∷ []);
      objects = record {
        class = 23;
        values = ObjectValue.Number (pos 7) ∷ ObjectValue.Number (pos 8) ∷ ObjectValue.Number (pos 9) ∷ [];
      }
          ∷ [];
      threads = (record { line = 4; function = codes "Java_A_f"; arguments = ObjectValue.Number (pos 5) ∷ [] } ∷ []) ∷ [];
    }

account_of_one : account the_length_of_an_array with_array (entries 1 5) 1 ≡ Some (record { entries = 5; printed = pos 3 ∷ []; ending = Ended })
unfolding opened
account_of_one = refl

account_begun : account the_length_of_an_array with_array (entries 1 4) 1 ≡ Some (record { entries = 4; printed = pos 3 ∷ []; ending = Unfinished })
unfolding opened
account_begun = refl

loads_array : Loads the_length_of_an_array with_array
unfolding opened
loads_array = (refl, refl)

loads_no_number : load_faults the_length_of_an_array with_number ≡ 4 ∷ []
unfolding opened
loads_no_number = refl

abbrev empty : SourceUnit
empty = unit_of []

-- an empty program has no function that a thread could call
no_function : first_load_fault empty plain ≡ Some 3
unfolding opened
no_function = refl

abbrev full : World
full =
    record {
      heap_line = 1;
      methods = false;
      cells = 512;
      classes = fold with_class built_ins
          (record { name = codes "A"; superclass = Some 1; kind = Plain; fields = []; statics = [] } ∷ []);
      objects = record { class = 23; values = replicate 373 (ObjectValue.Number (pos 0)) } ∷ [];
      threads = (record { line = 4; function = codes "Java_A_f"; arguments = [] } ∷ []) ∷ [];
    }

abbrev over_full : World
over_full =
    record {
      heap_line = 1;
      methods = false;
      cells = 512;
      classes = fold with_class built_ins
          (record { name = codes "A"; superclass = Some 1; kind = Plain; fields = []; statics = [] } ∷ []);
      objects = record { class = 23; values = replicate 374 (ObjectValue.Number (pos 0)) } ∷ [];
      threads = (record { line = 4; function = codes "Java_A_f"; arguments = [] } ∷ []) ∷ [];
    }

just_fits : fits_cells full ≡ true
unfolding opened
just_fits = refl

does_not_fit : fits_cells over_full ≡ false
unfolding opened
does_not_fit = refl
