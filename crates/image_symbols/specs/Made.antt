-- Beyond the program's claim: only laws, proofs and functions inside the tool cite this file.
-- What an image is made of, for a firmware on a board as the code has both.
use Rattle.ir_program.specs.Seen.{program_of}
use Rattle.image_linker.specs.declared.linking.LinkParts.{LinkParts}
use Rattle.image_linker.specs.LinkParts.{AreLinkParts}
use Rattle.plan_report.specs.declared.subject.Subject.{Subject}

abbrev pub AreMade : Subject → LinkParts → Type 0
AreMade s x = AreLinkParts (program_of s.program.now) s.needs.now s.graph.now s.plan.now s.board.now x
