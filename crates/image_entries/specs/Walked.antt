-- Beyond the program's claim: only laws, proofs and functions inside the tool cite this file.
-- How far walks through functions have come.
use Rattle.std.specs.Prelude.{ℕ, [], length}
use Rattle.std.proofs.Math.ListN.{get_or}
use Rattle.ir_model.specs.Resolved.{Program, func_at}
use Rattle.code_model.specs.FrameShape.{local_starts}
use Rattle.code_model.specs.Places.{lends_among}
use Rattle.code_offsets.specs.declared.walk.Reached.{Reached}
use Rattle.code_offsets.specs.Walks.{IsReached}
use Rattle.image_entries.specs.declared.numbers.Numbers.{Numbers}
use Rattle.image_entries.specs.declared.walks.Found.{Found}

-- a place of a function of a program, by its sites and by the numbers of its locals
abbrev pub IsReachedIn : Program → Numbers → (func : ℕ) → Reached → Type 0
IsReachedIn p x h r = IsReached (func_at p h) (get_or x.sites h []) (length (lends_among (local_starts (func_at p h)) (get_or x.lends h []))) r

abbrev pub IsFound : Program → Numbers → Found → Type 0
IsFound p x w = IsReachedIn p x w.func w.at
