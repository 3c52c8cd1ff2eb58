use Rattle.std.proofs.Common.{arith}
use Rattle.code_model.proofs.FrameParts.{words_of, ends_before, ends_within, stand_from, offset_at}
use Rattle.code_model.proofs.frame_laws.parts.Goals as goal
use Rattle.std.proofs.Common.{take, length, ◌*◌, ◌-◌}
use Rattle.ir_model.specs.Plain.{regs_of}
use Rattle.ir_model.specs.Frames.{frame_size}

pub returns-clause-locals : goal.returns-clause-locals
returns-clause-locals c = λ ks f j k l e b. let h = ends_before ks f.locals j k l e b in omega arith

pub returns-clause-locals_inside : goal.returns-clause-locals_inside
returns-clause-locals_inside c = λ ks f k l e. let h = ends_within ks f.locals k l e in omega arith

pub returns-clause-locals_aligned : goal.returns-clause-locals_aligned
returns-clause-locals_aligned c = λ ks f k. let h = words_of ks (take k f.locals) in omega arith

pub returns-clause-rows : goal.returns-clause-rows
returns-clause-rows c = λ ks f. stand_from ks (4 * length (regs_of f)) (frame_size ks f - 4) f.locals (omega arith)

pub returns-clause-offsets : goal.returns-clause-offsets
returns-clause-offsets c = λ ks f k l e. offset_at ks (4 * length (regs_of f)) f.locals k l e
