use Rattle.test_refusals.proofs.seats.by_seats.Given as goal

abbrev pub ghosts-by_named_seats : goal.ghosts-by_named_seats
ghosts-by_named_seats g a = record { cell = a.cell.table.shared.table_id; unit = a.machine.unit; world = a.machine.world }
