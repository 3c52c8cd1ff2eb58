-- Rows that were worked out by hand: the order of blocks, and what is told of a limit.
use Rattle.std.proofs.Common.{◌≡◌, [], ◌∷◌, ◌++◌, refl, codes, decimal, map}
use Rattle.plan_model.specs.declared.limits.LimitKind.TheVariants.{Lent}
use Rattle.plan_model.specs.RamBlocks.{RamBlock, ForStack, ForMonitor, ForRegion, ForUnwritten, full_block, falling}
use Rattle.aces_explain.specs.declared.flash.FlashBlock.{FlashBlock}
use Rattle.aces_explain.specs.Blocks.{numbered, falling_flash}
use Rattle.aces_explain.specs.PlanTold.{limit_told}

-- tables, and the code of compartments 0 to 3
flash_order : map (λ (b : FlashBlock). b.number) (falling_flash (numbered (8192 ∷ 128 ∷ 64 ∷ 256 ∷ 64 ∷ []))) ≡ 0 ∷ 3 ∷ 1 ∷ 2 ∷ 4 ∷ []
flash_order = refl

flash_sizes : map (λ (b : FlashBlock). b.size) (falling_flash (numbered (8192 ∷ 128 ∷ 64 ∷ 256 ∷ 64 ∷ []))) ≡ 8192 ∷ 256 ∷ 128 ∷ 64 ∷ 64 ∷ []
flash_sizes = refl

abbrev stack : RamBlock
stack = full_block ForStack 2048

abbrev monitor : RamBlock
monitor = full_block ForMonitor 1024

abbrev region : RamBlock
region = record { use_of = ForRegion 0; bytes = 1025; size = 2048 }

abbrev unwritten : RamBlock
unwritten = record { use_of = ForUnwritten; bytes = 4000; size = 4096 }

-- of equal blocks the stack is the first
ram_order : falling (stack ∷ monitor ∷ region ∷ unwritten ∷ []) ≡ unwritten ∷ stack ∷ region ∷ monitor ∷ []
ram_order = refl

lent : limit_told Lent 33
    ≡ codes "limit lent" ++ (codes " " ++ decimal 33 ++ codes " of " ++ decimal 32 ++ (10 ∷ []))
    ++ (codes "rule with two compartments or more, at most 32 locals that another function may write or, on a board with closed reads, read, or whose function can reach itself by calls" ++ (10 ∷ []))
lent = refl
