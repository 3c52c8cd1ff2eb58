use Rattle.need_points_to.proofs.least_sets.solve.Given as goal

abbrev pub ghosts-solve_on : goal.ghosts-solve_on
ghosts-solve_on a = record { name = a.blank.name; parts = a.blank.parts }
