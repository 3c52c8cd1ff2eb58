-- What `stack` prints: the bound on the stack with the path that needs it, or the cycle for which there is none; and its status.
use Rattle.std.specs.Prelude.{ℕ, ◌++◌, List, map, codes, if◌then◌else◌, nat_le}
use Rattle.std.specs.Fmt.{decimal}
use Rattle.machine_lines.specs.Lines.{line_feed}
use Rattle.ir_model.specs.Plain.{PlainFirmware}
use Rattle.refine_stack.specs.declared.answer.StackAnswer.{StackAnswer}
use Rattle.refine_stack.specs.declared.answer.StackAnswer.TheVariants.{Cycle, Bound}
use Rattle.plan_report.specs.Names.{func_name, spaced}

-- the names of functions, each behind a space, and what closes a line
abbrev pub names_line : PlainFirmware → List ℕ → List ℕ
names_line w fs = spaced (map (func_name w) fs) ++ line_feed

abbrev pub stack_lines : PlainFirmware → (stack : ℕ) → StackAnswer → List ℕ
stack_lines w stack (Cycle c) = codes "cycle" ++ names_line w c
stack_lines w stack (Bound needed path) = codes "stack " ++ decimal needed ++ codes " of " ++ decimal stack ++ line_feed ++ codes "path" ++ names_line w path

-- 0 exactly where there is a bound of at most the stack
abbrev pub stack_status : (stack : ℕ) → StackAnswer → ℕ
stack_status stack (Cycle c) = 8
stack_status stack (Bound needed path) = if nat_le needed stack then 0 else 8
