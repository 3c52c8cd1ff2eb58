-- The lines of functions.
use Rattle.std.specs.Prelude.{ℕ, List, ◌++◌, length, map, flat_map, codes}
use Rattle.std.specs.Fmt.{decimal}
use Rattle.machine_lines.specs.Lines.{line_feed}
use Rattle.ir_model.specs.Resolved.{func_at}
use Rattle.plan_model.specs.Groups.{compartment_of}
use Rattle.plan_model.specs.Lists.{numbers_below}
use Rattle.code_model.specs.CompartmentCode.{size_of}
use Rattle.code_model.specs.FrameShape.{frame_size}
use Rattle.code_model.specs.Planned.{code_groups, planned_entry}
use Rattle.plan_report.specs.Subjects.{Subject}
use Rattle.plan_report.specs.Names.{func_name, range_text}
use Rattle.image_symbols.specs.declared.rising.Lying.{Lying}
use Rattle.image_symbols.specs.Rising.{rising}

-- where all functions begin
abbrev pub entries : Subject → List ℕ
entries s = map (planned_entry s.program s.needs s.graph s.plan) (numbers_below (length s.program.funcs))

-- all functions, in rising order of these addresses
abbrev pub functions : Subject → List Lying
functions s = rising (entries s)

-- the bytes of a function's code, without what fills it up
abbrev pub code_size : Subject → (func : ℕ) → ℕ
code_size s f = size_of s.program (code_groups s.program s.needs s.graph.groups) f

-- its address and its bytes, its compartment, and the bytes of its frame
abbrev pub function_line : Subject → Lying → List ℕ
function_line s x =
    codes "function"
    ++ range_text x.address (code_size s x.number)
    ++ codes " "
    ++ decimal (compartment_of s.graph.groups x.number)
    ++ codes " "
    ++ decimal (frame_size (func_at s.program x.number))
    ++ codes " "
    ++ func_name s.firmware x.number
    ++ line_feed

unfoldable pub function_lines : Subject → List ℕ
function_lines s = flat_map (function_line s) (functions s)
