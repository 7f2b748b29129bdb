use Rattle.shared.proofs.work.run_workers.Given as goal

abbrev pub ghosts-run_named : goal.ghosts-run_named
ghosts-run_named g a = record { cell = a.cell.table.shared.table_id; unit = a.machine.unit; world = a.machine.world }
