-- The rules that a board obeys.
use Rattle.std.specs.Prelude.{◌≡◌, ℕ, ◌-◌, ◌%◌, ◌≤◌, ◌⊎◌, length}
use Rattle.base_ranges.specs.Ranges.{IsPowerBetween}
use Rattle.machine_devices.specs.Rules.{least_stack, greatest_stack, memory_limit, last_flash_base, first_ram_base, last_ram_base, least_ram, ram_unit}
use Rattle.base_laws.specs.Lists.{Each}
use Rattle.plan_model.specs.declared.plan.Board.{Board}
use Rattle.plan_model.specs.declared.denied_ranges.TheConstants.{DENIED_LIMIT}
use Rattle.plan_model.specs.Denied.{IsDenied}

-- a multiple of 32 from 1,024 to 1,048,576: flash has a size that RAM may have
pub record IsMemorySize (n : ℕ) : Type 0 where
  pub least : least_ram ≤ n
  pub most : n ≤ memory_limit
  pub blocks : n % ram_unit ≡ 0

-- flash begins at a multiple of a MiB from 0 to 0x1FE00000, RAM at one from 0x20000000 to 0x3FF00000, so that each has its own
-- MiB; the bytes of the stack are a power of two, at least 512 and at most 65,536; and a board denies at most 64 ranges of devices
pub record IsBoard (b : Board) : Type 0 where
  pub flash_aligned : b.flash_base % memory_limit ≡ 0
  pub flash_highest : b.flash_base ≤ last_flash_base
  pub flash_size : IsMemorySize b.flash_size
  pub ram_aligned : b.ram_base % memory_limit ≡ 0
  pub ram_lowest : first_ram_base ≤ b.ram_base
  pub ram_highest : b.ram_base ≤ last_ram_base
  pub ram_size : IsMemorySize b.ram_size
  pub stack : IsPowerBetween least_stack greatest_stack b.stack
  pub regions : (b.regions ≡ 8) ⊎ (b.regions ≡ 16)
  pub denied : Each IsDenied b.denied
  pub few_denied : length b.denied ≤ DENIED_LIMIT

-- regions 0 to 3 of the unit are for the background, the tables, the code and the stack; the others are slots
abbrev pub slots_of : Board → ℕ
slots_of b = b.regions - 4
