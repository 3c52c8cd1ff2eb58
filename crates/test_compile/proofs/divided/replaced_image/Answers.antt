use Rattle.test_compile.proofs.divided.replaced_image.Goals as goal

pub replaced_by-requires-clause-program : goal.replaced_by-requires-clause-program
replaced_by-requires-clause-program c = c.in_ok-analysis.ensures.exact.program

pub replaced_by-requires-clause-needs : goal.replaced_by-requires-clause-needs
replaced_by-requires-clause-needs c = c.in_ok-analysis.ensures.exact.needs
