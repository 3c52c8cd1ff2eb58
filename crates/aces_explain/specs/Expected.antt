-- What is expected where a token of a text passes a limit.
use Rattle.std.specs.Prelude.{ℕ, List, ◌++◌, codes}
use Rattle.std.specs.Fmt.{decimal}
use Rattle.ir_model.specs.declared.token.TextLimit.{TextLimit}
use Rattle.ir_model.specs.declared.token.TextLimit.TheVariants as limit
use Rattle.ir_model.specs.declared.token.Excess.{Excess}
use Rattle.ir_model.specs.declared.token.Excess.TheVariants.{TooWide, Passes}
use Rattle.ir_model.specs.TextLimits.{word_limit, struct_limit, field_limit, depth_limit, array_limit, cell_limit, periph_limit, global_limit, file_limit, function_limit, parameter_limit, register_limit, local_limit, block_limit, instruction_limit}
use Rattle.aces_reports.specs.FaultLines.{line_feed}

-- how much a limit allows
abbrev pub most : TextLimit → ℕ
most limit.Name = word_limit
most limit.Struct = struct_limit
most limit.Field = field_limit
most limit.Depth = depth_limit
most limit.Array = array_limit
most limit.Cell = cell_limit
most limit.Periph = periph_limit
most limit.Global = global_limit
most limit.File = file_limit
most limit.Function = function_limit
most limit.Param = parameter_limit
most limit.Register = register_limit
most limit.Local = local_limit
most limit.Block = block_limit
most limit.Instruction = instruction_limit

-- the words before the limit; an array has an element at least
abbrev pub from : TextLimit → List ℕ
from limit.Array = codes "from 1 to "
from limit.Name = codes "at most "
from limit.Struct = codes "at most "
from limit.Field = codes "at most "
from limit.Depth = codes "at most "
from limit.Cell = codes "at most "
from limit.Periph = codes "at most "
from limit.Global = codes "at most "
from limit.File = codes "at most "
from limit.Function = codes "at most "
from limit.Param = codes "at most "
from limit.Register = codes "at most "
from limit.Local = codes "at most "
from limit.Block = codes "at most "
from limit.Instruction = codes "at most "

-- the things that the limit counts
abbrev pub things : TextLimit → List ℕ
things limit.Name = codes " bytes"
things limit.Struct = codes " structs"
things limit.Field = codes " fields"
things limit.Depth = codes " types, each in the one before"
things limit.Array = codes " elements"
things limit.Cell = codes " first values"
things limit.Periph = codes " peripherals"
things limit.Global = codes " globals"
things limit.File = codes " files"
things limit.Function = codes " functions"
things limit.Param = codes " parameters, arguments or types"
things limit.Register = codes " registers, parameters counted"
things limit.Local = codes " locals"
things limit.Block = codes " blocks"
things limit.Instruction = codes " instructions"

abbrev pub excess_expected : Excess → List ℕ
excess_expected TooWide = codes "from -2147483648 to 4294967295"
excess_expected (Passes which) = from which ++ decimal (most which) ++ things which

-- the line
abbrev pub expected_line : Excess → List ℕ
expected_line x = codes "expected " ++ excess_expected x ++ line_feed
