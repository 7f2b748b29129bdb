-- The cases of texts/refused_texts.cases, as gate/worked_equations writes them.
use Rattle.std.specs.Prelude.{◌≡◌, Err, codes, refl}
use Rattle.world_schedules.specs.declared.fault.Rule.TheVariants.{NameTaken, Superclass, Signature, Form, Name, Limit}
use Rattle.world_schedules.specs.ReadingSchedules.{schedule_of}
use Rattle.world.specs.ReadingWorlds.{world_of_text}
use Rattle.test_equations.proofs.Computed.{read}

-- a turn of a thread that is not there
a_turn_of_a_thread_that_is_not_there : schedule_of (codes "2\n") 1 ≡ Err (record { rule = Name; line = 1 })
unfolding read
a_turn_of_a_thread_that_is_not_there = refl

-- a ninth thread
a_ninth_thread : schedule_of (codes "9\n") 1 ≡ Err (record { rule = Form; line = 1 })
unfolding read
a_ninth_thread = refl

-- a ninth line of a thread
a_ninth_line_of_a_thread : world_of_text (codes "heap 512\nclass A\nthread Java_A_f\nthread Java_A_f\ncall Java_A_f\nthread Java_A_f\nthread Java_A_f\nthread Java_A_f\nthread Java_A_f\nthread Java_A_f\nthread Java_A_f\nthread Java_A_f\n") ≡ Err (record { rule = Limit; line = 12 })
unfolding read
a_ninth_line_of_a_thread = refl

-- a heap that is too small
a_heap_that_is_too_small : world_of_text (codes "heap 511\nclass A\nthread Java_A_f\n") ≡ Err (record { rule = Limit; line = 1 })
unfolding read
a_heap_that_is_too_small = refl

-- no times
no_times : schedule_of (codes "1*0\n") 1 ≡ Err (record { rule = Form; line = 1 })
unfolding read
no_times = refl

-- too many times
too_many_times : schedule_of (codes "1*1000001\n") 1 ≡ Err (record { rule = Form; line = 1 })
unfolding read
too_many_times = refl

-- a field with the name of a static
a_field_with_the_name_of_a_static : world_of_text (codes "heap 512\nclass A\nstatic A n S\nfield A n I\nthread Java_A_f\n") ≡ Err (record { rule = NameTaken; line = 4 })
unfolding read
a_field_with_the_name_of_a_static = refl

-- a superclass on a later line
a_superclass_on_a_later_line : world_of_text (codes "heap 512\nclass A extends B\nclass B\nthread Java_A_f\n") ≡ Err (record { rule = Superclass; line = 2 })
unfolding read
a_superclass_on_a_later_line = refl

-- a signature that no field has
a_signature_that_no_field_has : world_of_text (codes "heap 512\nclass A\nfield A n J\nthread Java_A_f\n") ≡ Err (record { rule = Signature; line = 3 })
unfolding read
a_signature_that_no_field_has = refl

-- a value too few
a_value_too_few : world_of_text (codes "heap 512\nclass A\nfield A n I\nobject @x A\nthread Java_A_f\n") ≡ Err (record { rule = Form; line = 4 })
unfolding read
a_value_too_few = refl

-- an object of another class than the field's
an_object_of_another_class_than_the_field_s : world_of_text (codes "heap 512\nclass A\nfield A next LA;\nstring @s text\nobject @x A @s\nthread Java_A_f\n") ≡ Err (record { rule = Name; line = 5 })
unfolding read
an_object_of_another_class_than_the_field_s = refl

-- a number out of its field's range
a_number_out_of_its_field_s_range : world_of_text (codes "heap 512\nclass A\nfield A n S\nobject @x A 32768\nthread Java_A_f\n") ≡ Err (record { rule = Limit; line = 4 })
unfolding read
a_number_out_of_its_field_s_range = refl
