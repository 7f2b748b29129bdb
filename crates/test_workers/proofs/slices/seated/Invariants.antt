use Rattle.test_workers.proofs.slices.seated.Given as goal

abbrev pub ghosts-turns : goal.ghosts-turns
ghosts-turns g a = record { cell = a.cell.table.shared.table_id; unit = a.machine.unit; world = a.machine.world }
