-- Beyond the program's claim: only laws, proofs and functions inside the tool cite this file.
-- A region of 600 bytes leaves three eighths of its block free, and another of 200 bytes stands there. Where the stack stands lowest,
-- it stands behind the stack.
use Rattle.std.specs.Prelude.{◌≡◌, ℕ, [], ◌∷◌, None}
use Rattle.ir_model.specs.Resolved.{Program}
use Rattle.plan_model.specs.declared.graph.Final.{Final}
use Rattle.plan_model.specs.declared.plan.Board.{Board}
use Rattle.plan_model.specs.declared.plan.Lowest.TheVariants.{Stack}
use Rattle.plan_model.specs.declared.plan.Sizes.{Sizes}
use Rattle.plan_model.specs.declared.plan.Plan.{Plan}
use Rattle.plan_model.specs.RamPlacement.{ram_of, ram_needed, Tail}
use Rattle.plan_model.specs.Placement.{plan_of, global_address}
use Rattle.plan_model.specs.Slots.{slot_regions}
use Rattle.example_plan.specs.Written.{global, data_of, data_region, spot, words, board}

abbrev pub program : Program
program = data_of (global 600 1 ∷ global 200 1 ∷ []) []

abbrev pub final : Final
final =
    record {
      groups = record { of = 0 ∷ 1 ∷ []; count = 2 };
      regions = data_region (0 ∷ []) (0 ∷ []) [] ∷ data_region (1 ∷ []) (1 ∷ []) [] ∷ [];
      unwritten = [];
      covers = [] ∷ [] ∷ [];
      masks = 0 ∷ 0 ∷ [];
      reads = 0 ∷ 0 ∷ [];
    }

abbrev pub sizes : Sizes
sizes = record { code = 60 ∷ 40 ∷ []; tables = 5000 }

abbrev pub plan : Plan
plan =
    record {
      tables = spot 0x08000000 8192;
      code = spot 0x08002000 64 ∷ spot 0x08002040 64 ∷ [];
      stack = spot 0x20000000 2048;
      monitor = spot 0x20000800 1024;
      regions = spot 0x20000c00 1024 ∷ spot 0x20000f00 256 ∷ [];
      unwritten = None;
    }

abbrev pub tail : (from to : ℕ) → Tail
tail a b = record { from = a; to = b }

pub record ComputesTails : Type 0 where
  pub blocks : plan_of program final sizes board ≡ plan
  -- the larger region's tail began at 0x20000e80; both tails are now what is behind the smaller region
  pub tails : (ram_of program final board).tails ≡ tail 0x20001000 0x20001000 ∷ tail 0x20000fe0 0x20001000 ∷ []
  pub needed : ram_needed program final board ≡ 4096
  pub of_first : slot_regions program final plan 4 0 ≡ words 0x20000c14 0x1306e013 ∷ words 0x15 0 ∷ words 0x16 0 ∷ words 0x17 0 ∷ []
  pub of_second : slot_regions program final plan 4 1 ≡ words 0x20000f14 0x1306800f ∷ words 0x15 0 ∷ words 0x16 0 ∷ words 0x17 0 ∷ []
  pub second_global : global_address program final plan 1 ≡ 0x20000f00

-- a stack of 512 bytes, which stands lowest though the blocks of the monitor and of the larger region are larger
abbrev pub low_board : Board
low_board = record board { stack = 512; lowest = Stack }

abbrev pub low_plan : Plan
low_plan =
    record plan {
      stack = spot 0x20000000 512;
      monitor = spot 0x20000400 1024;
      regions = spot 0x20000800 1024 ∷ spot 0x20000200 256 ∷ [];
    }

pub record ComputesStackFirst : Type 0 where
  pub blocks : plan_of program final sizes low_board ≡ low_plan
  -- the gap behind the stack, the larger region's tail, and the smaller one's
  pub tails : (ram_of program final low_board).tails ≡ tail 0x20000300 0x20000400 ∷ tail 0x20000a80 0x20000c00 ∷ tail 0x200002e0 0x20000300 ∷ []
  pub needed : ram_needed program final low_board ≡ 3072
