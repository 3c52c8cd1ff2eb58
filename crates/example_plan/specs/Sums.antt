-- Beyond the program's claim: only laws, proofs and functions inside the tool cite this file.
-- What fits a memory and what does not, and the compartment that a refusal names.
use Rattle.std.specs.Prelude.{◌≡◌, ℕ, false, [], ◌∷◌, map, Some, None}
use Rattle.ir_model.specs.Resolved.{Program}
use Rattle.plan_model.specs.declared.needs.Needs.{Needs}
use Rattle.plan_model.specs.declared.graph.Final.{Final}
use Rattle.plan_model.specs.declared.plan.Sizes.{Sizes}
use Rattle.plan_model.specs.declared.plan.Board.{Board}
use Rattle.plan_model.specs.FlashPlacement.{flash_needed, flash_named, tables_spot, code_spot}
use Rattle.plan_model.specs.RamPlacement.{ram_needed, ram_named}
use Rattle.plan_model.specs.Placement.{Fits}
use Rattle.plan_model.specs.TableSize.{table_bytes}
use Rattle.example_plan.specs.Written.{need, global, data_of, data_region, spot, board}

-- one global of so many bytes that compartment 0 writes
abbrev pub program : ℕ → Program
program n = data_of (global n 1 ∷ []) []

abbrev pub final : Final
final =
    record {
      groups = record { of = 0 ∷ []; count = 1 };
      regions = data_region (0 ∷ []) (0 ∷ []) [] ∷ [];
      unwritten = [];
      covers = [] ∷ [];
      masks = 0 ∷ [];
      reads = 0 ∷ [];
    }

-- the same with nothing that is written
abbrev pub unwritten : Final
unwritten = record final { regions = []; unwritten = 0 ∷ [] }

-- the least firmware: no global, no call
abbrev pub bare : Final
bare = record final { regions = [] }

abbrev pub no_needs : Needs
no_needs = record { funcs = need [] [] [] [] ∷ []; sites = []; lendable = []; closed = false }

-- twelve bytes of code
abbrev pub sizes : Sizes
sizes = record { code = 12 ∷ []; tables = 4176 }

-- two compartments whose code is larger than the tables
abbrev pub large : Sizes
large = record { code = 100 ∷ 20000 ∷ 40 ∷ 17000 ∷ []; tables = 5000 }

abbrev pub small_board : Board
small_board = record board { ram_size = 4096 }

pub record ComputesSums : Type 0 where
  pub too_much : ram_needed (program 1025) final small_board ≡ 5120
  pub named : ram_named (program 1025) final ≡ Some 0
  pub without_regions : ram_named (program 1025) unwritten ≡ None
  pub enough : ram_needed (program 1024) final small_board ≡ 4096
  pub fits : Fits (program 1024) final sizes small_board
  pub tables : table_bytes (data_of [] []) no_needs bare 4 ≡ 4176
  pub flash : flash_needed sizes ≡ 8224
  pub flash_of : flash_named sizes ≡ Some 0
  -- where the code of a compartment is larger than the tables, their block is as large, and stands first
  pub large_code : tables_spot 0 large ≡ spot 0 32768
  pub falling : map (code_spot 0 large) (0 ∷ 1 ∷ 2 ∷ 3 ∷ []) ≡ spot 98304 128 ∷ spot 32768 32768 ∷ spot 98432 64 ∷ spot 65536 32768 ∷ []
  pub largest : flash_named large ≡ Some 1
