use Rattle.test_compile.proofs.divided.divided_image.Goals as goal

pub divided_by-requires-clause-program : goal.divided_by-requires-clause-program
divided_by-requires-clause-program c = c.in_ok-analysis.ensures.exact.program

pub divided_by-requires-clause-needs : goal.divided_by-requires-clause-needs
divided_by-requires-clause-needs c = c.in_ok-analysis.ensures.exact.needs
