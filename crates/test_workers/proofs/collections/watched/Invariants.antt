use Rattle.test_workers.proofs.collections.watched.Given as goal

abbrev pub ghosts-cleared : goal.ghosts-cleared
ghosts-cleared g a = record { cell = a.cell.table.shared.table_id; unit = a.machine.unit; world = a.machine.world }
