use Rattle.std.proofs.Common.{◌≡◌, length}
use Rattle.ir_reader.specs.Scan.{placed}
use Rattle.ir_reader.proofs.lexer.skip.Given as goal

abbrev pub invariant-loop-first : goal.invariant-loop-first
invariant-loop-first l = placed l.rest ≡ placed l.text

abbrev pub decreases-loop-first : goal.decreases-loop-first
decreases-loop-first l = length l.rest
