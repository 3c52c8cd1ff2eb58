-- Where the stack stands lowest in RAM, for those that use a plan.
use Rattle.std.specs.Prelude.{◌≡◌, ◌≤◌, ◌⊎◌}
use Rattle.ir_model.specs.Resolved.{Program}
use Rattle.plan_model.specs.declared.graph.Final.{Final}
use Rattle.plan_model.specs.declared.plan.Board.{Board}
use Rattle.plan_model.specs.declared.plan.Lowest.TheVariants.{Stack}
use Rattle.plan_model.specs.declared.plan.Sizes.{Sizes}
use Rattle.plan_model.specs.RamBlocks.{RamUse}
use Rattle.plan_model.specs.Placement.{plan_of}
use Rattle.plan_layout_laws.specs.RamPlaces.{HasBlock, block_bytes}

-- no block is larger than the stack's
abbrev pub IsStackLargest : Program → Final → Board → Type 0
IsStackLargest p f b = (u : RamUse) → HasBlock f u → block_bytes p f b u ≤ b.stack

-- the stack stands where RAM begins, if the board asks for it or no block is larger
abbrev pub StackIsLowest : Type 0
StackIsLowest = (p : Program) (f : Final) (s : Sizes) (b : Board) → (b.lowest ≡ Stack) ⊎ IsStackLargest p f b → (plan_of p f s b).stack.base ≡ b.ram_base
