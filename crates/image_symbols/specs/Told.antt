-- Beyond the program's claim: only laws, proofs and functions inside the tool cite this file.
-- What lines in rising order tell: statements of laws.
use Rattle.std.specs.Prelude.{◌≡◌, ℕ, ◌+◌, ◌<◌, ◌≤◌, ◌↔◌, List, length, map, get_or}
use Rattle.std.specs.List.{All}
use Rattle.ir_model.specs.Plain.{PlainFirmware}
use Rattle.ir_model.specs.Resolve.{resolve}
use Rattle.plan_model.specs.declared.needs.Needs.{Needs}
use Rattle.plan_model.specs.declared.graph.Final.{Final}
use Rattle.plan_model.specs.declared.plan.Board.{Board}
use Rattle.plan_model.specs.Lists.{numbers_below}
use Rattle.plan_model.specs.Placement.{global_address}
use Rattle.plan_model.specs.Regions.{global_size}
use Rattle.plan.specs.PlannedFirmwares.{plan}
use Rattle.image_promises.specs.Permissions.{IsByteOf}
use Rattle.image_symbols.specs.declared.rising.Lying.{Lying}
use Rattle.image_symbols.specs.Rising.{rising}

-- each thing in rising order is one of those that there are, with its address
abbrev pub LinesTellPlaces : Type 0
LinesTellPlaces = (addresses : List ℕ) → All (λ (x : Lying). (x.number < length addresses) × (x.address ≡ get_or addresses x.number 0)) (rising addresses)

-- where globals lie on a board
abbrev pub global_addresses : PlainFirmware → Needs → Final → Board → List ℕ
global_addresses w n f b = map (global_address (resolve w) f (plan w n f b)) (numbers_below (length (resolve w).globals))

-- the addresses from a line's on, as many as it tells, are those of the global's bytes, as the claim has them
abbrev pub LinesTellBytes : Type 0
LinesTellBytes =
    (w : PlainFirmware) (n : Needs) (f : Final) (b : Board) →
    All (λ (x : Lying). (a : ℕ) → ((x.address ≤ a) × (a < x.address + global_size (resolve w) x.number)) ↔ IsByteOf w n f b x.number a) (rising (global_addresses w n f b))
