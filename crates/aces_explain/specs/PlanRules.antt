-- The rules that a firmware breaks for which there is no plan, as they are told.
use Rattle.std.specs.Prelude.{ℕ, List, [], ◌++◌, codes}
use Rattle.plan_model.specs.declared.limits.LimitKind.{LimitKind}
use Rattle.plan_model.specs.declared.limits.LimitKind.TheVariants.{Compartments, Lent, Sites, Targets}
use Rattle.plan_model.specs.declared.plan.Lowest.{Lowest}
use Rattle.plan_model.specs.declared.plan.Lowest.TheVariants.{Largest, Stack}
use Rattle.plan_model.specs.CompileLimits.{compartment_limit, lent_limit, site_limit, target_limit}
use Rattle.plan_denials.specs.declared.Asked.{Asked}
use Rattle.plan_denials.specs.declared.Asked.TheVariants.{Window, Range}

-- ---- limits of what is compiled

abbrev pub limit_of : LimitKind → ℕ
limit_of Compartments = compartment_limit
limit_of Lent = lent_limit
limit_of Sites = site_limit
limit_of Targets = target_limit

abbrev pub limit_rule : LimitKind → List ℕ
limit_rule Compartments = codes "at most 64 compartments"
limit_rule Lent = codes "with two compartments or more, at most 32 locals that another function may write or, on a board with closed reads, read, or whose function can reach itself by calls"
limit_rule Sites = codes "at most 4096 calls that may go to another compartment"
limit_rule Targets = codes "at most 64 functions to which one call that may go to another compartment may go, its own compartment's too"

-- ---- what a board denies

abbrev pub denied_rule : Asked → List ℕ
denied_rule (Window q) = codes "a declared peripheral, used or not, has no address that the board denies"
denied_rule (Range c d) = codes "a range by which a compartment reaches its peripherals, and what lies between those that were joined, has no address that the board denies"

-- ---- blocks

abbrev pub flash_rule : List ℕ
flash_rule = codes "a block has the least power of two of bytes, at least 32, that holds it, and that of the tables at least as many as any other; together they have at most the bytes of flash"

-- the rule of where blocks of RAM stand
abbrev pub blocks_rule : List ℕ
blocks_rule =
    codes "a block has the least power of two of bytes, at least 32, that holds it; each stands behind the one before, but globals stand in the first tail that takes their block at a multiple of its size, a tail being the eighths without a byte at the end of a block of globals of 256 bytes or more"

-- what it adds where the stack stands first
abbrev pub lowest_rule : Lowest → List ℕ
lowest_rule Largest = []
lowest_rule Stack = codes "; the stack stands first, and behind it, up to as many bytes as the largest block has, is the first tail"

abbrev pub ram_rule : Lowest → List ℕ
ram_rule lowest = blocks_rule ++ lowest_rule lowest
