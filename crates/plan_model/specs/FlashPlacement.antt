-- Where the blocks of flash lie: in falling order of size, one behind the other from the base of flash.
use Rattle.std.specs.Prelude.{ℕ, suc, ◌+◌, List, ◌∷◌, map, filter, take, get_or, max, sum, Option, nat_eq, nat_lt}
use Rattle.plan_model.specs.declared.plan.Sizes.{Sizes}
use Rattle.plan_model.specs.declared.plan.Spot.{Spot}
use Rattle.plan_model.specs.Choices.{greatest, first_greatest}
use Rattle.plan_model.specs.Blocks.{block_size_for}

-- the sizes of the compartments' code blocks
abbrev pub code_blocks : Sizes → List ℕ
code_blocks s = map block_size_for s.code

-- the size of the tables' block: no code block is larger, so it stands at the base of flash, where the vectors have to be
abbrev pub tables_block : Sizes → ℕ
tables_block s = max (block_size_for s.tables) (greatest (code_blocks s))

-- the tables' block, then one for the code of each compartment
unfoldable pub flash_blocks : Sizes → List ℕ
flash_blocks s = tables_block s ∷ code_blocks s

-- how many bytes stand before a block: all larger blocks, and those of its size that come earlier in the list
unfoldable pub bytes_before : (sizes : List ℕ) → (number : ℕ) → ℕ
bytes_before sizes k =
    sum (filter (λ s. nat_lt (get_or sizes k 0) s) sizes) + sum (filter (λ s. nat_eq s (get_or sizes k 0)) (take k sizes))

-- where the block of a number lies
abbrev pub flash_spot : (base : ℕ) → (sizes : List ℕ) → (number : ℕ) → Spot
flash_spot base sizes k = record { base = base + bytes_before sizes k; size = get_or sizes k 0 }

-- the tables' block is the first of the list
abbrev pub tables_spot : (base : ℕ) → Sizes → Spot
tables_spot base s = flash_spot base (flash_blocks s) 0

-- that of a compartment's code stands behind it, and behind those of the compartments before
abbrev pub code_spot : (base : ℕ) → Sizes → (compartment : ℕ) → Spot
code_spot base s c = flash_spot base (flash_blocks s) (suc c)

-- the blocks fit where their sum is at most the size of flash
abbrev pub flash_needed : Sizes → ℕ
flash_needed s = sum (flash_blocks s)

-- the compartment that a refusal names: the lowest-numbered with the largest code block
abbrev pub flash_named : Sizes → Option ℕ
flash_named s = first_greatest (code_blocks s)
