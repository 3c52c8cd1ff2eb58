-- Beyond the program's claim: only laws, proofs and functions inside the tool cite this file.
-- Short ways to write functions and code down.
use Rattle.std.specs.Prelude.{ℕ, List}
use Rattle.std.specs.List.{flat_map}
use Rattle.machine_thumb.specs.Bytes.{bytes_of_half}
use Rattle.ir_model.specs.Types.{PlainType, PlainTypes, PlainResult}
use Rattle.ir_model.specs.Layout.{Shape}
use Rattle.ir_model.specs.Resolved.{NumberedInst, NumberedTerm, NumberedBlock, NumberedFunc}
use Rattle.code_model.specs.declared.places.CallSite.{CallSite}

-- the bytes of halfwords
abbrev pub halves : List ℕ → List ℕ
halves hs = flat_map bytes_of_half hs

abbrev pub func : PlainTypes → PlainResult → (locals : List Shape) → (registers : List PlainType) → List NumberedBlock → NumberedFunc
func ps r ls rs bs = record { params = ps; outcome = r; regs = rs; locals = ls; blocks = bs }

abbrev pub block : List NumberedInst → NumberedTerm → NumberedBlock
block is t = record { insts = is; term = t }

-- place k of block b is call site n
abbrev pub site : (b k n : ℕ) → CallSite
site b k n = record { block = b; place = k; number = n }
